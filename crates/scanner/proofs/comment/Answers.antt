-- `comment` ends after the next semicolon, which has to be there. Assumes nothing.
use Prim.Native.Nat.{ℕ, ◌-◌}
use mathlib.Core.Bool.{not}
use mathlib.Core.List.{List}
use mathlib.Core.Path.{◌≡◌, sym, ap, ◌∙◌}
use lib.ListN.{length, take, drop}
use lib.Dec.{eqb}
use Rattle.base.proofs.Tests.{tests}
use Rattle.base.proofs.Parts.{to_end}
use Rattle.base.specs.Runs.{run_len}
use Rattle.base.proofs.Runs.{prefix-run}
use Rattle.token.specs.Text.{comment}
use Rattle.scanner.proofs.comment.Goals as goal

ran : (n : ℕ) (s : List ℕ) {m : ℕ} → m ≡ run_len (λ b. not (eqb b 59)) (take (length s - n) (drop n s)) → run_len (λ b. not (eqb b 59)) (drop n s) ≡ m
ran n s e = sym (e ∙ ap (λ (t : List ℕ). run_len (λ b. not (eqb b 59)) t) (to_end s n))

pub returns-then-m-s : goal.returns-then-m-s
unfolding comment
returns-then-m-s c =
    rw (ran c.args.n c.args.s.now (c.run.ensures.is ∙ prefix-run _ _)) (search tests)

pub returns : goal.returns
unfolding comment
returns c =
    rw (ran c.args.n c.args.s.now (c.run.ensures.is ∙ prefix-run _ _)) (search tests)
