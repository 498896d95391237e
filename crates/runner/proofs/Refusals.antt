-- The runner's number by the three tests, in order, and that an answer is told by its outcome. Assumes nothing.
use Prim.Native.Nat.{ℕ, ◌<◌, ◌≤◌}
use mathlib.Core.Path.{◌≡◌, refl, sym, ap, ◌∙◌}
use mathlib.Core.Bool.{Bool, true, false}
use mathlib.Core.List.{List}
use mathlib.Core.Logic.{◌↔◌}
use native.Mathlib.Omega.{arith}
use lib.Dec.{ltb, eqb}
use lib.ListN.{length}
use borrow.Author.Tests.{ltb-true, ltb-false}
use Rattle.base.specs.Choose.{choose}
use Rattle.objtext.specs.Object.{Segment, Object, object_text, Form, of-object, of_none}
use Rattle.objtext.proofs.Exact.{form}
use Rattle.machine.specs.Space.{needed}
use Rattle.machine.specs.Run.{run}
use Rattle.std.specs.Prelude.{Result, Ok, Err}
use Rattle.machine.specs.declared.Stop.{Stop}
use Rattle.machine.specs.declared.Stop.TheVariants.{BudgetUsed, AtEnd, Forbidden, Misaligned, NoInstruction}
use Rattle.run.specs.declared.Ran.{Ran}
use Rattle.runner.specs.declared.Refusal.{Refusal}
use Rattle.runner.specs.declared.Refusal.TheVariants.{NoObject, BadCode, SmallStorage}
use Rattle.runner.specs.Load.{loaded, space_of, started}
use Rattle.runner.specs.Numbers.{number_of, stop_of}
use Rattle.runner.specs.Runner.{Outcome, refused, accepted, on_object, on_form, runner, outcome}
use Rattle.runner.proofs.Forms.{runner-object}

-- ── which number ──

-- what an outcome's number says of a text, a code and a storage
pub record Verdicts (text regs : List ℕ) (k budget : ℕ) (s : List ℕ) (o : Outcome) : Type 0 where
  pub seventeen : o.number ≡ 17 ↔ ((gs : List Segment) × Object gs × (object_text gs ≡ text) → ⊥)
  pub eighteen : o.number ≡ 18 ↔ ((gs : List Segment) × Object gs × (object_text gs ≡ text)) × (3 < k)
  pub nineteen : o.number ≡ 19 ↔ ((gs : List Segment) × Object gs × (object_text gs ≡ text)) × (k ≤ 3) × (length s < needed)
  pub leaves : (o.number ≡ 0 → ⊥) → o ≡ refused o.number regs k s
  pub ran : (gs : List Segment) → Object gs → object_text gs ≡ text → k ≤ 3 → needed ≤ length s → o ≡ accepted (run budget (space_of gs) (started regs k) (loaded gs s))

module _ (text regs : List ℕ) (k budget : ℕ) (s : List ℕ) where
  abbrev Formed : Type 0
  Formed = (gs : List Segment) × Object gs × (object_text gs ≡ text)

  unformed : (Formed → ⊥) → Verdicts text regs k budget s (refused 17 regs k s)
  unformed n =
      record {
        seventeen = (λ e. n, λ f. refl);
        eighteen = (λ e. absurd (omega arith), λ f. absurd (n f.0));
        nineteen = (λ e. absurd (omega arith), λ f. absurd (n f.0));
        leaves = λ z. refl;
        ran = λ gs o e l r. absurd (n (gs, o, e));
      }

  formed : (gs : List Segment) (o : Object gs) (e : object_text gs ≡ text) → Verdicts text regs k budget s (on_object gs regs k budget s)
  formed gs o e = go (ltb 3 k) refl (ltb (length s) needed) refl
    where
      go : (p : Bool) → ltb 3 k ≡ p → (q : Bool) → ltb (length s) needed ≡ q
          → Verdicts text regs k budget s (choose p (refused 18 regs k s) (choose q (refused 19 regs k s) (accepted (run budget (space_of gs) (started regs k) (loaded gs s)))))
      go true h q u =
          let l = ltb-true 3 k h in
          record {
            seventeen = (λ z. absurd (omega arith), λ n. absurd (n (gs, o, e)));
            eighteen = (λ z. ((gs, o, e), l), λ f. refl);
            nineteen = (λ z. absurd (omega arith), λ f. absurd (let m = f.1 in omega arith));
            leaves = λ z. refl;
            ran = λ hs p q m r. absurd (omega arith);
          }
      go false h true u =
          let l = ltb-false 3 k h in
          let r = ltb-true (length s) needed u in
          record {
            seventeen = (λ z. absurd (omega arith), λ n. absurd (n (gs, o, e)));
            eighteen = (λ z. absurd (omega arith), λ f. absurd (let m = f.1 in omega arith));
            nineteen = (λ z. ((gs, o, e), l, r), λ f. refl);
            leaves = λ z. refl;
            ran = λ hs p q m n. absurd (omega arith);
          }
      go false h false u =
          let l = ltb-false 3 k h in
          let r = ltb-false (length s) needed u in
          record {
            seventeen = (λ z. absurd (omega arith), λ n. absurd (n (gs, o, e)));
            eighteen = (λ z. absurd (omega arith), λ f. absurd (let m = f.1 in omega arith));
            nineteen = (λ z. absurd (omega arith), λ f. absurd (let m = f.2 in omega arith));
            leaves = λ z. absurd (z refl);
            ran = λ hs p q m n. sym (runner-object text regs k budget s gs o e ∙ rw (h, u)) ∙ (runner-object text regs k budget s hs p q ∙ rw (h, u));
          }

  pub verdicts : Verdicts text regs k budget s (runner text regs k budget s)
  unfolding runner
  verdicts = go (form text)
    where
      go : (f : Form text) → Verdicts text regs k budget s (on_form f regs k budget s)
      go (of-object gs o e) = formed gs o e
      go (of_none n) = unformed (λ f. n f.0 f.1 f.2)

-- ── an answer is told by its outcome ──

refusal_of : ℕ → Refusal
refusal_of n = choose (eqb n 17) NoObject (choose (eqb n 18) BadCode SmallStorage)

refusal-back : (v : Refusal) → refusal_of (number_of v) ≡ v
unfolding refusal_of
refusal-back NoObject = refl
refusal-back BadCode = refl
refusal-back SmallStorage = refl

pub refuses : (v : Refusal) → 0 ≡ number_of v → ⊥
refuses NoObject e = omega arith
refuses BadCode e = omega arith
refuses SmallStorage e = omega arith

stop_by : ℕ → Stop
stop_by n = choose (eqb n 0) BudgetUsed (choose (eqb n 1) AtEnd (choose (eqb n 2) Forbidden (choose (eqb n 3) Misaligned NoInstruction)))

stop-back : (v : Stop) → stop_by (stop_of v) ≡ v
unfolding stop_by
stop-back BudgetUsed = refl
stop-back AtEnd = refl
stop-back Forbidden = refl
stop-back Misaligned = refl
stop-back NoInstruction = refl

pub answer-told : (a b : Result Ran Refusal) (regs rs : List ℕ) (k j : ℕ) (s t : List ℕ) → outcome a regs k s ≡ outcome b rs j t → (a ≡ b) × (s ≡ t)
answer-told (Ok q) (Ok r) regs rs k j s t e =
    let p : q.stop ≡ r.stop = sym (stop-back q.stop) ∙ ap (λ (o : Outcome). stop_by o.stop) e ∙ stop-back r.stop in
    ((λ i. Ok (record { stop = p i; counter = (e i).counter; code = (e i).code; count = (e i).count; regs = (e i).regs })), ap (λ (o : Outcome). o.store) e)
answer-told (Ok q) (Err u) regs rs k j s t e = absurd (refuses u (ap (λ (o : Outcome). o.number) e))
answer-told (Err v) (Ok r) regs rs k j s t e = absurd (refuses v (sym (ap (λ (o : Outcome). o.number) e)))
answer-told (Err v) (Err u) regs rs k j s t e =
    (ap Err (sym (refusal-back v) ∙ ap (λ (o : Outcome). refusal_of o.number) e ∙ refusal-back u), ap (λ (o : Outcome). o.store) e)

-- a refusal says the registers and the code that it was given
pub handed-back : (a b : Result Ran Refusal) (regs rs : List ℕ) (k j : ℕ) (s t : List ℕ) → outcome a regs k s ≡ outcome b rs j t → a ≡ b
    → (r : Refusal) → a ≡ Err r → (regs ≡ rs) × (k ≡ j)
handed-back a b regs rs k j s t e p r h =
    let f : outcome (Err r) regs k s ≡ outcome (Err r) rs j t =
    ap (λ (x : Result Ran Refusal). outcome x regs k s) (sym h) ∙ e ∙ ap (λ (x : Result Ran Refusal). outcome x rs j t) (sym p ∙ h) in
    (ap (λ (o : Outcome). o.regs) f, ap (λ (o : Outcome). o.code) f)
