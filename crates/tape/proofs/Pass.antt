-- A pass over a tape: at an event that is written out (`pass-event`), and in a loop's turn and at its end (`pass-turn`, `pass-end`).
use mathlib.Core.Path.{◌≡◌, refl}
use mathlib.Core.List.{List, [], ◌∷◌}
use Prim.Native.Nat.{ℕ, ◌+◌, ◌/◌, ◌%◌, ◌≤◌, ◌<◌}
use native.Mathlib.Omega.{arith}
use lib.ListN.{length, drop, get_or}
use Rattle.base.specs.Walk.{fold}
use Rattle.base.proofs.Walk.{fold-turn, fold_end}
use Rattle.tape.specs.Events as E
use Rattle.tape.specs.Tape.{event}
use Rattle.tape.specs.Pass.{on_event, pass}

pub event-op : (op t : ℕ) → event op t % E.EVENTS ≡ op % E.EVENTS
unfolding event
event-op op t = omega arith

pub event-token : (op t : ℕ) → event op t / E.EVENTS ≡ t
unfolding event
event-token op t = omega arith

module _ {S : Type 0} (step : ℕ → ℕ → S → S) where
  pub pass-none : (s : S) → pass step s [] ≡ s
  unfolding pass fold
  pass-none s = refl

  pub pass-event : (op t : ℕ) (s : S) (k : List ℕ) → pass step s (event op t ∷ k) ≡ pass step (step (op % E.EVENTS) t s) k
  unfolding pass fold on_event
  pass-event op t s k = rw (event-op op t, event-token op t)

  -- i events are passed, and the next is op of token t
  pub pass-turn :
      (s : S) (tape : List ℕ) (i op t : ℕ) {x : S} → i < length tape → op ≡ get_or tape i 0 % E.EVENTS → t ≡ get_or tape i 0 / E.EVENTS → pass step s (drop i tape) ≡ x
      → pass step (step op t s) (drop (i + 1) tape) ≡ x
  unfolding pass on_event
  pass-turn s tape i op t h eo et e = rw (eo, et) (fold-turn (on_event step) s tape i 0 h e)

  pub pass-end : (s : S) (tape : List ℕ) (i : ℕ) {x : S} → length tape ≤ i → pass step s (drop i tape) ≡ x → s ≡ x
  unfolding pass
  pass-end s tape i h e = fold_end (on_event step) s tape i h e
