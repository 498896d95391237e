-- The tables change at four kinds of events only, and otherwise grow in what is written (`heeds`). A law of the tables has a line for each of these, and none for
-- each event.
use mathlib.Core.Path.{◌≡◌, refl, ◌∙◌}
use mathlib.Core.List.{List, map}
use mathlib.Core.Bool.{Bool, true, false}
use mathlib.Core.Option.{Option}
use Prim.Native.Nat.{ℕ}
use lib.ListN.{length, length-set, get_or}
use Rattle.base.specs.Choose.{whether◌then◌else◌}
use Rattle.grammar.specs.Tree.{Register, Item, Width}
use Rattle.grammar.specs.Events.{opened, closed, entered, left, named, celled, itemed, valued, based, Phrase, aimed, driven, signed, given, joined, tested, limited, called, applied, argued, counted, chosen, Event, edge, route, entry, phrase, mark}
use Rattle.grammar.specs.Places.{Place, outward}
use Rattle.static_rules.specs.Registers.{Registers, no_registers, add_register, union}
use Rattle.static_rules.specs.Functions.{is_written}
use Rattle.static_rules.specs.Meaning.{Meaning, nothing, register, cell, routine, function, operand_meaning, register_of, argument_of, is_product}
use Rattle.static_rules.specs.Meanings.{Meant, mean, grow_written, write, write_text, call_writes, target_writes, open_base, add_cell, cell_of, meaning_in, own_in, base_in, mean_phrase, mean_event}

-- all but what is written is as it was
pub record Alike (s t : Meant) : Type 0 where
  pub of-means : t.means ≡ s.means
  pub of-opens : t.opens ≡ s.opens
  pub of-cells : t.cells ≡ s.cells
  pub of-bases : t.bases ≡ s.bases
  pub of-written : length t.written ≡ length s.written

pub alike : (s : Meant) → Alike s s
alike s = record { of-means = refl; of-opens = refl; of-cells = refl; of-bases = refl; of-written = refl }

grow-alike : (own : ℕ) (g : Registers → Registers) (s : Meant) → Alike s (grow_written own g s)
grow-alike own g s = record { of-means = refl; of-opens = refl; of-cells = refl; of-bases = refl; of-written = length-set s.written own _ }

write-alike : (own r : ℕ) (s : Meant) → Alike s (write own r s)
unfolding write
write-alike own r s = grow-alike own (add_register r) s

text-alike : (own p : ℕ) (s : Meant) → Alike s (write_text own p s)
unfolding write_text
text-alike own p s = grow-alike own (union (get_or s.written p no_registers)) s

then-alike : {s t u : Meant} → Alike s t → Alike t u → Alike s u
then-alike a b = record {
  of-means = b.of-means ∙ a.of-means;
  of-opens = b.of-opens ∙ a.of-opens;
  of-cells = b.of-cells ∙ a.of-cells;
  of-bases = b.of-bases ∙ a.of-bases;
  of-written = b.of-written ∙ a.of-written;
}

call-alike : (m : Meaning) (own p : ℕ) (s : Meant) → Alike s (call_writes m own p s)
unfolding call_writes
call-alike nothing own p s = alike s
call-alike (register r) own p s = alike s
call-alike (cell c) own p s = alike s
call-alike (function k) own p s = alike s
call-alike (routine r) own p s = then-alike (write-alike own r s) (text-alike own p (write own r s))

target-alike : (m : Meaning) (g : ℕ → ℕ) (own : ℕ) (s : Meant) → Alike s (target_writes m g own s)
unfolding target_writes
target-alike nothing g own s = alike s
target-alike (register r) g own s = write-alike own (g r) s
target-alike (cell c) g own s = alike s
target-alike (routine r) g own s = alike s
target-alike (function k) g own s = alike s

writes-alike : (b : Bool) (m : Meaning) (g : ℕ → ℕ) (own : ℕ) (s : Meant) → Alike s (whether b then target_writes m g own s else s)
writes-alike true m g own s = target-alike m g own s
writes-alike false m g own s = alike s

module _ (kinds values found : List ℕ) where
  pub phrase-alike : (f : Phrase) (p : Place) (s : Meant) → Alike s (mean_phrase kinds values found f p s)
  phrase-alike (aimed d) p s = target-alike (meaning_in found s d.name) _ (own_in p) s
  phrase-alike (driven d) p s = target-alike (meaning_in found s d.name) _ (own_in p) s
  phrase-alike (signed d g) p s = alike s
  phrase-alike (given d a) p s = alike s
  phrase-alike (joined d t) p s = writes-alike (is_product kinds found s.means t) (meaning_in found s d.name) _ (own_in p) s
  phrase-alike (tested t c) p s = alike s
  phrase-alike (limited d v a) p s = alike s
  phrase-alike (called n) p s = call-alike (meaning_in found s n) (own_in p) (get_or found n 0) s
  phrase-alike (applied n) p s = alike s
  phrase-alike (argued n q a) p s = writes-alike (is_written (argument_of (meaning_in found s n) q)) (operand_meaning found s.means a) _ (own_in p) s
  phrase-alike (counted n k) p s = alike s
  phrase-alike (chosen n) p s = target-alike (meaning_in found s n) _ (own_in p) s

  -- what an event at a place makes of the tables s
  pub data Heeds (p : Place) (s : Meant) : Event → Meant → Type 0 where
    enters : (n r : ℕ) → Heeds p s (edge (entered n r)) (mean n (routine (register_of (meaning_in found s r))) s)
    names : (r : Register) → Heeds p s (entry (named r)) (mean r.name (register (get_or values r.number 0)) s)
    adds : (c : Option ℕ) (w : Width) (i : Item) → Heeds p s (entry (itemed c w i)) (add_cell (cell_of values c w (base_in found s p) i) (map (λ (t : ℕ). get_or values t 0) i.numbers) s)
    opens : (n : ℕ) → Heeds p s (entry (based n)) (open_base (own_in p) (register_of (meaning_in found s n)) n s)
    other : {e : Event} {t : Meant} → Alike s t → Heeds p s e t

  pub heeds : (e : Event) (p : Place) (s : Meant) → Heeds p s e (mean_event kinds values found e p s)
  unfolding mean_event
  heeds (edge (opened t ls)) p s = other (alike s)
  heeds (edge (closed t)) p s = other (alike s)
  heeds (edge (entered n r)) p s = enters n r
  heeds (edge (left n)) p s = other (text-alike (own_in (outward p)) n s)
  heeds (route r) p s = other (alike s)
  heeds (entry (named r)) p s = names r
  heeds (entry (celled c w)) p s = other (alike s)
  heeds (entry (itemed c w i)) p s = adds c w i
  heeds (entry (valued t)) p s = other (alike s)
  heeds (entry (based n)) p s = opens n
  heeds (phrase f) p s = other (phrase-alike f p s)
  heeds (mark m) p s = other (alike s)
