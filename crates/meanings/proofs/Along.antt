-- The loop along the tape: i events are passed, and what the ledger shows is what the definition has after them.
use Rattle.std.specs.Prelude.{Option, None}
use mathlib.Core.Path.{◌≡◌, ap, ◌∙◌}
use mathlib.Core.Bool.{Bool, false}
use mathlib.Core.List.{List, []}
use Prim.Native.Nat.{ℕ, ◌+◌, ◌/◌, ◌%◌, ◌≤◌, ◌<◌}
use native.Mathlib.Omega.{arith}
use lib.ListN.{get_or, length, drop}
use Rattle.tape.specs.Pass.{pass}
use Rattle.tape.proofs.Pass.{pass-turn, pass-end}
use Rattle.static_rules.specs.Meanings.{Meant, data_base}
use Rattle.tables.specs.Packed.{based_in, meanings_of}
use Rattle.tables.specs.Stacks.{stack_of}
use Rattle.meanings.specs.declared.Scope.{Scope}
use Rattle.meanings.specs.Along.{Within, Meaning-walk, within_after, form_after, target_after, first_after, declared_after, written_after, mean_event, beginning}
use Rattle.grammar.specs.Grammar.{nesting}
use Rattle.tape.specs.Events as E
use Rattle.ledger.specs.Book.{Wide, Thin}
use Rattle.ledger.specs.Bounds.{blocks_open, procedures_open, Nested}
use Rattle.ledger.proofs.Bounds.{nested-here, nested-on}
use Rattle.meanings.specs.Flat.{within_of, Moved, Roomy, View, view_of, changed}

abbrev walk : Within → (form : ℕ) (target : Option ℕ) → (first : Bool) → Meant → Meaning-walk
walk w form target first s = record { within = w; form = form; target = target; first = first; meant = s }

-- what is lent keeps its lengths
pub record Same (wide₀ thin₀ owners₀ outer₀ wide thin owners outer : List ℕ) : Type 0 where
  pub same-wide : length wide ≡ length wide₀
  pub same-thin : length thin ≡ length thin₀
  pub same-owners : length owners ≡ length owners₀
  pub same-outer : length outer ≡ length outer₀

module _ (tape kinds : List ℕ) (start : View) where
  abbrev event : (op t : ℕ) → Meaning-walk → Meaning-walk
  event = mean_event kinds start.values start.found

  pub record Going (w : Wide) (b : Thin) (owners outer : List ℕ) (s : Scope) (form : ℕ) (target : Option ℕ) (first : Bool) (bases i : ℕ) : Type 0 where
    pub is : pass event (walk (within_of owners outer s) form target first (view_of w b bases).meant) (drop i tape) ≡ pass event (beginning start.meant) tape
    pub still : changed (λ _. start.meant) (view_of w b bases) ≡ start
    pub room : Roomy tape (length owners) (length outer)
    pub nested : Nested nesting s.outer s.owners (drop i tape)
    pub inside : i ≤ length tape
    pub few : bases ≤ i

  pub going : (w : Wide) (b : Thin) (owners outer : List ℕ) (base : ℕ) → view_of w b 0 ≡ start → based_in base ≡ data_base → Roomy tape (length owners) (length outer)
      → Going w b owners outer (record { own = 0; owners = 0; base = base; outer = 0 }) 0 None false 0 0
  unfolding stack_of
  going w b owners outer base e f r = record {
    is = rw (f, ← e);
    still = ap (changed (λ _. start.meant)) e;
    room = r;
    nested = r.nested;
    inside = omega arith;
    few = omega arith;
  }

  module _ {w : Wide} {b : Thin} {owners outer : List ℕ} {s : Scope} {form : ℕ} {target : Option ℕ} {first : Bool} {bases i : ℕ} (g : Going w b owners outer s form target first bases i) where
    pub going_on :
        {w' : Wide} {b'' : Thin} {owners' outer' : List ℕ} {s' : Scope} {form' : ℕ} {target' : Option ℕ} {first' : Bool} {bases' : ℕ} (b' : Thin) (op t : ℕ) → i < length tape
        → op ≡ get_or tape i 0 % E.EVENTS → t ≡ get_or tape i 0 / E.EVENTS
        → ((u : List ℕ) → Moved (within_after b.found op t (meanings_of w.means u) bases (within_of owners outer s)) owners' outer' (blocks_open op s.outer) (procedures_open op s.owners) s')
        → form' ≡ form_after w.values op t form
        → ((u : List ℕ) → target' ≡ target_after b.found op t (meanings_of w.means u) first target)
        → ((u : List ℕ) → first' ≡ first_after b.found op t (meanings_of w.means u))
        → view_of w' b' bases' ≡ changed (declared_after w.values b.found op t s'.own (based_in s'.base) form') (view_of w b bases)
        → bases' ≤ bases + 1
        → ((n : ℕ) → view_of w' b'' n ≡ changed (written_after kinds b'.found op t s'.own target') (view_of w' b' n))
        → length owners' ≡ length owners → length outer' ≡ length outer
        → Going w' b'' owners' outer' s' form' target' first' bases' (i + 1)
    unfolding mean_event
    going_on {w'} {b''} {owners'} {outer'} {s'} {form'} {target'} {first'} {bases'} b' op t h eo et moved formed targeted firsted declared few' wrote lw lo =
        let few = g.few in
        record {
          is = ap (λ (m : Meaning-walk). pass event m (drop (i + 1) tape)) stepped ∙ pass-turn event _ tape i op t h eo et g.is;
          still = ap (changed (λ _. start.meant)) (wrote bases') ∙ (ap (changed (λ _. start.meant)) declared ∙ g.still);
          room = let r = g.room in record { small = r.small; nested = r.nested; deep = omega (arith, r.deep); wide = omega (arith, r.wide) };
          nested = rw ((moved []).blocks-are, (moved []).procedures-are) (nested-on nesting s.outer s.owners op i tape h eo g.nested);
          inside = omega arith;
          few = omega arith;
        }
      where
        found-is : b.found ≡ start.found
        found-is = ap (λ (v : View). v.found) g.still

        values-is : w.values ≡ start.values
        values-is = ap (λ (v : View). v.values) g.still

        found'-is : b'.found ≡ b.found
        found'-is = ap (λ (v : View). v.found) declared

        stepped : walk (within_of owners' outer' s') form' target' first' (view_of w' b'' bases').meant ≡ event op t (walk (within_of owners outer s) form target first (view_of w b bases).meant)
        stepped =
            rw (
              ← found-is,
              ← values-is,
              ap (λ (v : View). v.meant) (wrote bases'),
              found'-is,
              ap (λ (v : View). v.meant) declared,
              ← (moved w.under).is,
              ← formed,
              ← (targeted w.under),
              ← (firsted w.under),
            )

    pub going_end : length tape ≤ i → view_of w b bases ≡ changed (λ s. (pass event (beginning s) tape).meant) start
    going_end h = ap (changed (λ _. (view_of w b bases).meant)) g.still ∙ ap (λ (m : Meaning-walk). changed (λ _. m.meant) start) (pass-end event _ tape i h g.is)

    -- a stack has room for one more
    pub room-for-one : (s.owners < length owners) × (s.outer < length outer)
    room-for-one = let (b, p) = nested-here nesting s.outer s.owners (drop i tape) g.nested in let r = g.room in (omega (arith, r.deep), omega (arith, r.wide))
