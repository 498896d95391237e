-- `lay_kinds` lays the kinds of a text's tokens over a list, as far as there is room, as it reads them, to the last or to a refusal. Assumes nothing.
use Prim.Native.Nat.{ℕ, ◌-◌}
use mathlib.Core.Path.{◌≡◌, refl, sym, ap, ◌∙◌}
use mathlib.Core.List.{List}
use native.Mathlib.Omega.{arith}
use lib.ListN.{drop, length, length-set, set, take}
use Rattle.token.specs.Text as T
use Rattle.token.specs.Answers.{Next, outcome_of, kind_of}
use Rattle.token.proofs.Readings.{Reads, reads-start, Answered, ends-inside, some_bytes, reads_on, reads-last, laid_on, laid-last, refused-inside, refused-some, reads-no, laid-no}
use Rattle.token_lists.proofs.lay_kinds.Goals as goal

kept : (l m : List ℕ) (i v : ℕ) → m ≡ set l i v → length m ≡ length l
kept l m i v e = ap length e ∙ length-set l i v

-- what is known when the token reader has answered
answered : {s : List ℕ} {at n : ℕ} (r : Next) → Reads s at n → outcome_of r ≡ T.next_token (take (length s - at) (drop at s)) → Answered s at n r
answered r v e = record { reads = v; next = e }

pub loop-t-init : goal.loop-t-init
loop-t-init c =
    (reads-start _, refl, refl)

pub shape_of-kinds-then-is_last : goal.shape_of-kinds-then-is_last
shape_of-kinds-then-is_last c =
    kept c.loop-t.kinds _ _ _ c.put_byte.ensures ∙ c.loop-t.invariant.2

pub returns-then-is_last : goal.returns-then-is_last
returns-then-is_last c =
    let a = answered c.next_token-next.result c.loop-t.invariant.0 c.next_token-next.ensures in
    let q = c.in-Ok.is in
    let l = sym c.is_last.ensures ∙ c.if-is_last.true in
    record { is = reads-last a q l; are-laid = c.put_byte.ensures ∙ laid-last a q kind_of _ _ c.loop-t.invariant.1 l }

pub overflow_add-at : goal.overflow_add-at
overflow_add-at c =
    omega (arith, ends-inside (answered c.next_token-next.result c.loop-t.invariant.0 c.next_token-next.ensures) c.in-Ok.is)

pub loop-t-smaller : goal.loop-t-smaller
loop-t-smaller c =
    let a = answered c.next_token-next.result c.loop-t.invariant.0 c.next_token-next.ensures in
    let q = c.in-Ok.is in
    omega (arith, ends-inside a q, some_bytes a q (sym c.is_last.ensures ∙ c.if-is_last.false))

pub loop-t-preserved : goal.loop-t-preserved
loop-t-preserved c =
    let a = answered c.next_token-next.result c.loop-t.invariant.0 c.next_token-next.ensures in
    let q = c.in-Ok.is in
    let l = sym c.is_last.ensures ∙ c.if-is_last.false in
    let e = c.put_byte.ensures in
    (reads_on a q l, rw e (laid_on a q kind_of _ _ c.loop-t.invariant.1 l), kept c.loop-t.kinds _ _ _ e ∙ c.loop-t.invariant.2)

pub overflow_add-at-in-Err : goal.overflow_add-at-in-Err
overflow_add-at-in-Err c =
    omega (arith, refused-inside (answered c.next_token-next.result c.loop-t.invariant.0 c.next_token-next.ensures) (ap outcome_of c.in-Err.is))

pub returns-in-Err : goal.returns-in-Err
returns-in-Err c =
    let a = answered c.next_token-next.result c.loop-t.invariant.0 c.next_token-next.ensures in
    let q = ap outcome_of c.in-Err.is in
    let w = c.loop-t.invariant.1 in
    record { is = rw c.spot_at-spot.ensures (reads-no a q (refused-some _)); are-laid = laid-no a q kind_of _ _ w }
