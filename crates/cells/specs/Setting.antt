-- `--set NAME=VALUE` where NAME is no register: the value is laid into the cell when the program is loaded. What is wrong of a word is told.
use Rattle.std.specs.Prelude.{List, Bool, true, false, ℕ, ◌+◌, ◌-◌, eqb, ltb, length, take, drop, Option, None, Some, is_some, Result, Ok, Err}
use Rattle.base.specs.Choose.{choose}
use Rattle.base.specs.Numbers.{stored}
use Rattle.grammar.specs.Tree.{short, byte}
use Rattle.static_rules.specs.Rules.{fits_width}
use Rattle.figures.specs.Parts.{part_length, part_count}
use Rattle.figures.specs.Numbers.{number_in}
use Rattle.words.specs.declared.Awaited.{Awaited}
use Rattle.words.specs.declared.Awaited.TheVariants.{Set, Show}
use Rattle.words.specs.declared.Fault.{Fault}
use Rattle.words.specs.declared.Why.{Why}
use Rattle.words.specs.declared.Why.TheVariants.{BadValue, NotShort, NotByte}
use Rattle.words.specs.Wishes.{wrong_at, register_in}
use Rattle.settings.specs.Setting.{words_from}
use Rattle.cells.specs.declared.Element.{Element}
use Rattle.cells.specs.Elements.{element_named}

-- ── faults ──

-- storage, and the first word that is wrong
pub record Laying : Type 0 where
  pub store : List ℕ
  pub fault : Option Fault

abbrev pub laying_of : List ℕ → Option Fault → Laying
laying_of s x = record { store = s; fault = x }

-- storage, and how a word went
pub record Laid : Type 0 where
  pub store : List ℕ
  pub how : Result (Unit {0}) Why

abbrev pub laid : List ℕ → Result (Unit {0}) Why → Laid
laid s how = record { store = s; how = how }

-- the first one stays
abbrev pub faulted : Option Fault → (n : ℕ) → Result (Unit {0}) Why → Option Fault
faulted (Some x) n how = Some x
faulted None n (Ok u) = None
faulted None n (Err why) = Some (wrong_at n why)

-- ── a value into an element ──

-- "A value for a short cell has signed value -32768 to 65535 and keeps its low 16 bits."; of byte cells "initial values 0 to 255"
unfoldable pub fits : (size v : ℕ) → Bool
fits size v = choose (eqb size 2) (fits_width short v) (choose (eqb size 1) (fits_width (byte false) v) true)

-- why a value does not fit
abbrev pub unfit : (size : ℕ) → Why
unfit size = choose (eqb size 1) NotByte NotShort

unfoldable pub put_cell : Element → (v : ℕ) → List ℕ → List ℕ
put_cell e v s = choose (ltb (length s) (e.address + e.size)) s (stored s e.address e.size v)

unfoldable pub set_number : Element → (v : ℕ) → List ℕ → Laid
set_number e v s = choose (fits e.size v) (laid (put_cell e v s) (Ok tt)) (laid s (Err (unfit e.size)))

abbrev pub set_element : Result Element Why → Option ℕ → List ℕ → Laid
set_element (Err why) v s = laid s (Err why)
set_element (Ok e) None s = laid s (Err BadValue)
set_element (Ok e) (Some v) s = set_number e v s

abbrev pub shown : Result Element Why → Result (Unit {0}) Why
shown (Err why) = Err why
shown (Ok e) = Ok tt

-- ── words ──

module _ (source : List ℕ) where
  -- NAME=VALUE
  unfoldable pub set_word : (word store : List ℕ) → Laid
  set_word word s =
      let name : List ℕ = take (part_length 61 word) word in
      choose (is_some (register_in name)) (laid s (Ok tt)) (set_element (element_named source name) (number_in (drop 1 (drop (part_length 61 word) word))) s)

  -- NAME
  unfoldable pub show_word : (word : List ℕ) → Result (Unit {0}) Why
  show_word word = choose (is_some (register_in word)) (Ok tt) (shown (element_named source word))

  -- the word behind an option
  abbrev pub lay_word : Option Awaited → (word store : List ℕ) → Laid
  lay_word (Some Set) word s = set_word word s
  lay_word (Some Show) word s = laid s (show_word word)
  lay_word _ word s = laid s (Ok tt)

  abbrev pub lay_next : Option Awaited → (n : ℕ) (word : List ℕ) → Laying → Laying
  lay_next option n word l = let w : Laid = lay_word option word l.store in laying_of w.store (faulted l.fault n w.how)

  -- the cells that the words set, in storage
  unfoldable pub laid_by : (words store : List ℕ) → Laying
  laid_by words s = words_from lay_next words (part_count 0 words - 1) 1 (laying_of s None)
