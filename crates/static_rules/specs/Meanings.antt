-- Document 01, "Names, cells, protected registers": what the declarations of a text give, and which registers each procedure's text writes. Said of
-- each event of the text, where it stands, in the order of the text; the rules are judged afterwards, by these tables.
use Rattle.std.specs.Prelude.{List, [], ◌∷◌, ◌++◌, map, Bool, true, false, ℕ, suc, ◌+◌, ◌-◌, get_or, set, replicate}
use Rattle.std.proofs.Math.Option.{Option, none, some}
use Rattle.base.specs.Choose.{whether◌then◌else◌}
use Rattle.scopes.specs.Search.{first_token}
use Rattle.grammar.specs.Tree.{Item, Width, Statement}
use Rattle.grammar.specs.Events.{Edge, opened, closed, entered, left, Entry, named, celled, itemed, valued, based, Phrase, aimed, driven, signed, given, joined, tested, limited, called, applied, argued, counted, chosen, Event, edge, route, entry, phrase, mark, events_of}
use Rattle.grammar.specs.Places.{within, body, Place, outward, along}
use Rattle.static_rules.specs.Registers.{Registers, sixteen, no_registers, add_register, union}
use Rattle.static_rules.specs.Functions.{is_written, nine}
use Rattle.static_rules.specs.Meaning.{Meaning, nothing, register, cell, routine, function, Based, Cell, meaning_of, operand_meaning, by_target, register_of, argument_of, is_product}

-- a cell with its initial values
pub record Filled : Type 0 where
  pub cell : Cell
  pub values : List ℕ

-- by declaring token, what the name means; by the token of a base declaration's name, the segment that it opens; by a procedure's token (0 for the program
-- outside all procedures) the registers that its text writes; the declared cells, the newest first; how many base declarations there were
pub record Meant : Type 0 where
  pub means : List Meaning
  pub opens : List ℕ
  pub written : List Registers
  pub cells : List Filled
  pub bases : ℕ

-- what the name at token t means so far
abbrev pub meaning_in : List ℕ → Meant → ℕ → Meaning
meaning_in found s t = meaning_of found s.means t

abbrev pub mean : ℕ → Meaning → Meant → Meant
mean t m s = record { means = set s.means t m; opens = s.opens; written = s.written; cells = s.cells; bases = s.bases }

-- ── what is written ──

-- the token of the innermost procedure, 0 outside all
abbrev pub own_in : Place → ℕ
own_in [] = 0
own_in (within b ∷ p) = own_in p
own_in (body n r ∷ p) = n

-- the text of the procedure `own` writes these registers too
abbrev pub grow_written : ℕ → (Registers → Registers) → Meant → Meant
grow_written own f s = record { means = s.means; opens = s.opens; written = set s.written own (f (get_or s.written own no_registers)); cells = s.cells; bases = s.bases }

unfoldable pub write : ℕ → ℕ → Meant → Meant
write own r s = grow_written own (add_register r) s

-- all that the text of the procedure p writes
unfoldable pub write_text : ℕ → ℕ → Meant → Meant
write_text own p s = grow_written own (union (get_or s.written p no_registers)) s

-- "A call writes the procedure's return register and all that its body's text writes, nested procedures and base declarations included, through calls too."
unfoldable pub call_writes : Meaning → ℕ → ℕ → Meant → Meant
call_writes m own p s = elim m [ nothing ↦ s | register r ↦ s | cell c ↦ s | routine r ↦ write_text own p (write own r s) | function k ↦ s ]

-- a target that is a register r writes register g r
unfoldable pub target_writes : Meaning → (ℕ → ℕ) → ℕ → Meant → Meant
target_writes m g own s = by_target m (λ r. write own (g r) s) s s

-- ── declarations ──

-- "Segment 0 is the program, 1 the data of base 14, 2 and 3 those of base declarations in text order."
unfoldable pub open_base : ℕ → ℕ → ℕ → Meant → Meant
open_base own r n s = write own r (record { means = s.means; opens = set s.opens n (2 + s.bases); written = s.written; cells = s.cells; bases = suc s.bases })

-- "Data base is 14 until a base declaration", and its segment is 1
abbrev pub data_base : Based
data_base = record { register = 14; segment = 1 }

-- "… which holds for the cells after it in that block and its inner blocks": the newest base of a block, or else the one around it
module _ (found : List ℕ) (s : Meant) where
  abbrev pub newest : List ℕ → Based → Based
  newest [] outer = outer
  newest (n ∷ ns) outer = record { register = register_of (meaning_in found s n); segment = get_or s.opens n 0 }

  abbrev pub base_in : Place → Based
  base_in [] = data_base
  base_in (within b ∷ p) = newest b.bases (base_in p)
  base_in (body n r ∷ p) = base_in p

-- a cell declared without ARRAY is one element
abbrev pub count_of : List ℕ → Option ℕ → ℕ
count_of values none = 1
count_of values (some t) = get_or values t 0

abbrev pub is_array : Option ℕ → Bool
is_array none = false
is_array (some t) = true

abbrev pub cell_of : List ℕ → Option ℕ → Width → Based → Item → Cell
cell_of values count w b i = record { name = i.name; base = b; width = w; elements = count_of values count; array = is_array count }

unfoldable pub add_cell : Cell → List ℕ → Meant → Meant
add_cell c vs s =
    let more : List Filled = record { cell = c; values = vs } ∷ s.cells in
    record { means = set s.means c.name (cell c); opens = s.opens; written = s.written; cells = more; bases = s.bases }

-- ── event by event ──

module _ (kinds values found : List ℕ) where
  -- a procedure's name is known in its own body; what its text writes, the text around it writes
  abbrev pub mean_edge : Edge → Place → Meant → Meant
  mean_edge (opened t ls) p s = s
  mean_edge (closed t) p s = s
  mean_edge (entered n r) p s = mean n (routine (register_of (meaning_in found s r))) s
  mean_edge (left n) p s = write_text (own_in (outward p)) n s

  abbrev pub mean_entry : Entry → Place → Meant → Meant
  mean_entry (named r) p s = mean r.name (register (get_or values r.number 0)) s
  mean_entry (celled c w) p s = s
  mean_entry (itemed c w i) p s = add_cell (cell_of values c w (base_in found s p) i) (map (λ (t : ℕ). get_or values t 0) i.numbers) s
  mean_entry (valued t) p s = s
  mean_entry (based n) p s = open_base (own_in p) (register_of (meaning_in found s n)) n s

  -- a product "also writes the register below"; of a function's arguments "IC, LA and LTR write the first"; document 02, 3/13: "The case register counts as written"
  abbrev pub mean_phrase : Phrase → Place → Meant → Meant
  mean_phrase (aimed d) p s = target_writes (meaning_in found s d.name) (λ r. r) (own_in p) s
  mean_phrase (driven d) p s = target_writes (meaning_in found s d.name) (λ r. r) (own_in p) s
  mean_phrase (signed d g) p s = s
  mean_phrase (given d a) p s = s
  mean_phrase (joined d t) p s = whether is_product kinds found s.means t then target_writes (meaning_in found s d.name) (λ r. r - 1) (own_in p) s else s
  mean_phrase (tested t c) p s = s
  mean_phrase (limited d v a) p s = s
  mean_phrase (called n) p s = call_writes (meaning_in found s n) (own_in p) (get_or found n 0) s
  mean_phrase (applied n) p s = s
  mean_phrase (argued n q a) p s = whether is_written (argument_of (meaning_in found s n) q) then target_writes (operand_meaning found s.means a) (λ r. r) (own_in p) s else s
  mean_phrase (counted n k) p s = s
  mean_phrase (chosen n) p s = target_writes (meaning_in found s n) (λ r. r) (own_in p) s

  unfoldable pub mean_event : Event → Place → Meant → Meant
  mean_event (edge x) p s = mean_edge x p s
  mean_event (route r) p s = s
  mean_event (entry d) p s = mean_entry d p s
  mean_event (phrase f) p s = mean_phrase f p s
  mean_event (mark m) p s = s

  abbrev pub mean_program : Statement → Meant → Meant
  mean_program x s = along mean_event (events_of x) [] s

-- before a text of n tokens, with token 0 and the standard names in front: tokens 1 to 16 mean the registers 0 to 15, tokens 17 to 25 the standard functions, and no
-- other token means anything
abbrev pub standard : ℕ → Meant
standard n =
    let m : ℕ = first_token + n in
    record { means = nothing ∷ (map register sixteen ++ (map function nine ++ replicate n nothing)); opens = replicate m 0; written = replicate m no_registers; cells = []; bases = 0 }
