-- `put_front` copies the names in front. The invariant: what is left of them, laid from the place reached, makes the whole. Assumes nothing.
use Rattle.translation.specs.Translate.{kinds_of, values_of}
use Rattle.scopes.specs.Search.{in_front}
use Rattle.ledger.specs.Book.{wide_of, on_wide}
use lib.Seq.{sets}
use lib.ListN.{length, drop}
use Prim.Native.Nat.{ℕ}
use mathlib.Core.List.{List}
use mathlib.Core.Path.{◌≡◌}
use Rattle.settled.proofs.put_front.Given as goal

abbrev pub invariant-loop-t : goal.invariant-loop-t
invariant-loop-t l =
    record {
      same-kinds : length l.kinds ≡ length l.initial.kinds;
      same-wide : length l.wide ≡ length l.initial.wide;
      kinds : sets l.kinds l.t (drop l.t (kinds_of in_front)) ≡ sets l.initial.kinds 0 (kinds_of in_front);
      values : on_wide 0 (λ (v : List ℕ). sets v l.t (drop l.t (values_of in_front))) (wide_of l.wide) ≡ on_wide 0 (λ (v : List ℕ). sets v 0 (values_of in_front)) (wide_of l.initial.wide);
    }
