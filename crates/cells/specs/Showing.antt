-- `--show NAME`: a line for a register, or for a cell of a source, in the order of the words.
use Rattle.std.specs.Prelude.{List, [], ◌++◌, Bool, ℕ, ◌+◌, ◌-◌, leb, length, get_or, Option, None, Some, Result, Ok, Err}
use Rattle.base.specs.Choose.{choose}
use Rattle.base.specs.Text.{bytes}
use Rattle.base.specs.Numbers.{value_at}
use Rattle.figures.specs.Parts.{part_count}
use Rattle.words.specs.declared.Awaited.{Awaited}
use Rattle.words.specs.declared.Awaited.TheVariants.{Show}
use Rattle.words.specs.declared.Why.{Why}
use Rattle.words.specs.Wishes.{register_in}
use Rattle.settings.specs.Setting.{words_from}
use Rattle.machine.specs.Step.{extended}
use Rattle.reports.specs.Reports.{value_text}
use Rattle.cells.specs.declared.Element.{Element}
use Rattle.cells.specs.Elements.{element_named}

-- what an element holds, as an instruction would read it: copies of the sign stand before a half word, and a byte is 0 to 255
unfoldable pub held_in : Element → List ℕ → ℕ
held_in e s = choose (leb e.size 4) (choose (leb (e.address + e.size) (length s)) (extended e.size (value_at s e.address e.size)) 0) 0

-- where more cells have its name
unfoldable pub more_text : Bool → List ℕ
more_text more = choose more (bytes "  the first of several cells of this name\n") []

unfoldable pub cell_text : List ℕ → Element → List ℕ → List ℕ
cell_text name e s = value_text name (held_in e s) ++ more_text e.more

abbrev pub element_text : List ℕ → Result Element Why → List ℕ → List ℕ
element_text name (Err why) s = []
element_text name (Ok e) s = cell_text name e s

module _ (source regs store : List ℕ) where
  unfoldable pub name_text : List ℕ → List ℕ
  name_text name = elim (register_in name) [ Some k ↦ value_text name (get_or regs k 0) | None ↦ element_text name (element_named source name) store ]

  abbrev pub asked_text : Option Awaited → List ℕ → List ℕ
  asked_text (Some Show) name = name_text name
  asked_text _ name = []

  -- behind what is said so far
  abbrev pub said_also : Option Awaited → (n : ℕ) (name text : List ℕ) → List ℕ
  said_also option n name text = text ++ asked_text option name

  unfoldable pub all_asked : List ℕ → List ℕ
  all_asked words = words_from said_also words (part_count 0 words - 1) 1 []
