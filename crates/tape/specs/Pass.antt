-- A pass: a step for each event of a tape, by the event's number and its token.
use Rattle.std.specs.Prelude.{List, ℕ, ◌/◌, ◌%◌}
use Rattle.base.specs.Walk.{fold}
use Rattle.tape.specs.Events as E

unfoldable pub on_event : {S : Type 0} → (ℕ → ℕ → S → S) → S → ℕ → S
on_event step s e = step (e % E.EVENTS) (e / E.EVENTS) s

unfoldable pub pass : {S : Type 0} → (ℕ → ℕ → S → S) → S → List ℕ → S
pass step s tape = fold (on_event step) s tape
