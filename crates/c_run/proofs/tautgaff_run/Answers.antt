-- Stop and the rest are written down as `runner::run_object` answered them: a stop's value is its number. Assumes nothing.
use Rattle.std.proofs.Common.{◌≡◌, ◌∙◌, ap, refl, ℕ, [], ◌∷◌}
use denote.Enum.Declared.{tag_of}
use Rattle.runner.specs.contracts.Stop.{the_type}
use Rattle.runner.specs.declared.Stop.{Stop}
use Rattle.runner.specs.declared.Stop.TheVariants.{BudgetUsed, AtEnd, Forbidden, Misaligned, NoInstruction}
use Rattle.runner.specs.Numbers.{stop_of}
use Rattle.c_run.specs.Lent.{lent}
use Rattle.c_run.proofs.tautgaff_run.Goals as goal

stop-is : (k : Stop) → tag_of the_type k ≡ stop_of k
stop-is BudgetUsed = refl
stop-is AtEnd = refl
stop-is Forbidden = refl
stop-is Misaligned = refl
stop-is NoInstruction = refl

pub returns-in-Ok : goal.returns-in-Ok
returns-in-Ok c =
    let r = c.in-Ok.ran in
    ap (λ (n : ℕ). lent 0 r.regs (0 ∷ 0 ∷ 0 ∷ n ∷ r.counter ∷ r.code ∷ r.count ∷ []) c.run_object.new.s) (stop-is r.stop) ∙ c.in-Ok.ensures
