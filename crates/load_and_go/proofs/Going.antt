-- From the translator's and the runner's contracts to the whole answer: what an acceptance wrote (`written`), a refusal (`refused-is`), and a run of the object text in
-- the buffer (`going-is`), which is not refused (`runs`). Assumes nothing.
use mathlib.Core.Path.{◌≡◌, refl, sym, ap, ◌∙◌}
use mathlib.Core.List.{List, ◌++◌}
use Prim.Native.Nat.{ℕ, ◌≤◌}
use native.Mathlib.Omega.{arith}
use lib.ListN.{length, take, drop, length-append}
use lib.Seq.{take_at}
use borrow.Author.Tests.{ne_eqb}
use Rattle.std.specs.Prelude.{Result, Ok, Err}
use Rattle.spots.specs.declared.Spot.{Spot}
use Rattle.machine.specs.Space.{needed}
use Rattle.translation.specs.Translate as T
use Rattle.translation.specs.Translate.{accepted, refused, leaves, translate}
use Rattle.translation.proofs.Theorems.{not-both}
use Rattle.translate.specs.Answers as A
use Rattle.run.specs.declared.Ran.{Ran}
use Rattle.runner.specs.declared.Refusal.{Refusal}
use Rattle.runner.specs.Numbers.{number_of}
use Rattle.runner.specs.Runner as R
use Rattle.runner.specs.Runner.{runner}
use Rattle.runner.proofs.Refusals.{refuses}
use Rattle.join.proofs.Theorems.{it-runs}
use Rattle.load_and_go.specs.Going.{Outcome, outcome, ran, gone, load_and_go}
use Rattle.load_and_go.proofs.Theorems.{accepted-goes}

-- ── the translator ──

-- an acceptance: the object text, at the front of the buffer
pub record Wrote (source before after : List ℕ) (n : ℕ) : Type 0 where
  pub text : List ℕ
  pub translated : translate source (length before) ≡ accepted text
  pub size : n ≡ length text
  pub buffer : after ≡ text ++ drop (length text) before

pub written : (source before after : List ℕ) (n : ℕ) → A.outcome (Ok n) after ≡ A.defined source before → Wrote source before after n
written source before after n q = go (translate source (length before)) refl
  where
    go : (d : T.Answer) → translate source (length before) ≡ d → Wrote source before after n
    go (accepted t) e =
        let p : A.outcome (Ok n) after ≡ A.answered source (accepted t) before = q ∙ ap (λ (d : T.Answer). A.answered source d before) e in
        record { text = t; translated = e; size = ap (λ (o : A.Outcome). o.length) p; buffer = ap (λ (o : A.Outcome). o.buffer) p }
    go (refused m p) e =
        absurd (not-both source (length before) (sym (ap (λ (o : A.Outcome). o.number) q)) (ap T.length_of e))

pub written-fits : (source before after : List ℕ) (n : ℕ) → A.outcome (Ok n) after ≡ A.defined source before → n ≤ length after
written-fits source before after n q =
    let w = written source before after n q in
    omega (arith, w.size, ap length w.buffer, length-append w.text (drop (length w.text) before))

pub written-front : (source before after : List ℕ) (n : ℕ) → A.outcome (Ok n) after ≡ A.defined source before → (w : Wrote source before after n) → take n after ≡ w.text
written-front source before after n q w = rw (w.buffer, take_at w.text (drop (length w.text) before) n (sym w.size))

-- a refusal leaves the buffer as it was
left : (d : T.Answer) (buffer : List ℕ) → (T.number_of d ≡ 0 → ⊥) → leaves d buffer ≡ buffer
left (accepted t) buffer h = absurd (h refl)
left (refused n p) buffer h = refl

pub refused-is : (source before after : List ℕ) (n : ℕ) (p : Spot) (regs : List ℕ) (k budget : ℕ) (s : List ℕ) → A.outcome (Err (record { number = n; spot = p })) after ≡ A.defined source before
    → outcome (Err (record { number = n; spot = p })) regs k after s ≡ gone source (translate source (length before)) regs k budget before s
unfolding gone
refused-is source before after n p regs k budget s q =
    let d = translate source (length before) in
    let e : n ≡ T.number_of d = ap (λ (o : A.Outcome). o.number) q in
    let f : p ≡ T.spot_of source d = ap (λ (o : A.Outcome). o.spot) q in
    let m : T.number_of d ≡ 0 → ⊥ = λ z. not-both source (length before) z (sym (ap (λ (o : A.Outcome). o.length) q)) in
    let b : after ≡ before = ap (λ (o : A.Outcome). o.buffer) q ∙ left d before m in
    rw (ne_eqb (T.number_of d) 0 m, e, f, b)

-- ── the runner ──

module _ (source before after : List ℕ) (n : ℕ) (q : A.outcome (Ok n) after ≡ A.defined source before) (regs : List ℕ) (sixteen : length regs ≡ 16) (k budget : ℕ) (valid : k ≤ 3)
    (s : List ℕ) (enough : needed ≤ length s) (u : List ℕ) where
  front : (w : Wrote source before after n) → runner (take n after) regs k budget s ≡ runner w.text regs k budget s
  front w = ap (λ (t : List ℕ). runner t regs k budget s) (written-front source before after n q w)

  -- what the translator writes is not refused
  pub runs : (v : Refusal) → R.outcome (Err v) regs k u ≡ runner (take n after) regs k budget s → ⊥
  runs v e =
      let w = written source before after n q in
      refuses v (sym (ap (λ (o : R.Outcome). o.number) (e ∙ front w) ∙ it-runs source w.text (length before) w.translated regs sixteen k valid budget s enough))

  where-it-stands : (m : ℕ) (b t : List ℕ) → m ≡ length t → b ≡ t ++ drop (length t) before
      → ran m b (runner t regs k budget s) ≡ ran (length t) (t ++ drop (length t) before) (runner t regs k budget s)
  where-it-stands m b t e f = rw (e, f)

  pub going-is : (r : Ran) → R.outcome (Ok r) regs k u ≡ runner (take n after) regs k budget s
      → outcome (Ok (record { length = n; ran = r })) regs k after u ≡ load_and_go source regs k budget before s
  going-is r e =
      let w = written source before after n q in
      ap (ran n after) (e ∙ front w)
      ∙ where-it-stands n after w.text w.size w.buffer
      ∙ sym (accepted-goes source regs k budget before s w.text w.translated valid enough)
