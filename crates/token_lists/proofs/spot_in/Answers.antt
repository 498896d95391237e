-- `spot_in` reads tokens until it comes to the one that is wanted, or to the last. Assumes nothing.
use Rattle.base.proofs.Tests.{never_true}
use Rattle.std.proofs.Common.{eqb}
use Prim.Native.Nat.{ℕ, ◌-◌}
use mathlib.Core.Path.{◌≡◌, sym, ap, ◌∙◌}
use mathlib.Core.List.{List}
use native.Mathlib.Omega.{arith}
use lib.ListN.{length, take, drop}
use Rattle.token.specs.Text as T
use Rattle.token.specs.Answers.{Next, outcome_of}
use Rattle.token.proofs.Readings.{Reads, reads-start, Answered, ends-inside, place_inside, some_bytes, reads_on, refused-some}
use Rattle.token.proofs.Seeking.{seek-start, seek_found, seek-on, seek-past, never-refused}
use Rattle.token_lists.proofs.spot_in.Goals as goal

-- what is known when the token reader has answered
answered : {s : List ℕ} {at n : ℕ} (r : Next) → Reads s at n → outcome_of r ≡ T.next_token (take (length s - at) (drop at s)) → Answered s at n r
answered r v e = record { reads = v; next = e }

pub loop-t-init : goal.loop-t-init
loop-t-init c =
    (reads-start _, seek-start _ _ c.requires)

pub overflow_add-at : goal.overflow_add-at
overflow_add-at c =
    omega (arith, place_inside (answered c.next_token-next.result c.loop-t.invariant.0 c.next_token-next.ensures) c.in-Ok.is)

pub returns-then-n-wanted : goal.returns-then-n-wanted
returns-then-n-wanted c =
    let g = c.loop-t.invariant.1 in
    c.spot_at.ensures ∙ seek_found g (answered c.next_token-next.result c.loop-t.invariant.0 c.next_token-next.ensures) c.in-Ok.is c.if-n-wanted.true

pub returns-then-is_last : goal.returns-then-is_last
returns-then-is_last c =
    let l = sym c.is_last.ensures ∙ c.if-is_last.true in
    let g = c.loop-t.invariant.1 in
    c.unplaced.ensures ∙ seek-past g (answered c.next_token-next.result c.loop-t.invariant.0 c.next_token-next.ensures) c.in-Ok.is c.if-n-wanted.false l

pub overflow_add-at-in-Ok : goal.overflow_add-at-in-Ok
overflow_add-at-in-Ok c =
    omega (arith, ends-inside (answered c.next_token-next.result c.loop-t.invariant.0 c.next_token-next.ensures) c.in-Ok.is)

pub loop-t-smaller : goal.loop-t-smaller
loop-t-smaller c =
    let a = answered c.next_token-next.result c.loop-t.invariant.0 c.next_token-next.ensures in
    let q = c.in-Ok.is in
    omega (arith, ends-inside a q, some_bytes a q (sym c.is_last.ensures ∙ c.if-is_last.false))

pub loop-t-preserved : goal.loop-t-preserved
loop-t-preserved c =
    let a = answered c.next_token-next.result c.loop-t.invariant.0 c.next_token-next.ensures in
    let q = c.in-Ok.is in
    let l = sym c.is_last.ensures ∙ c.if-is_last.false in
    (reads_on a q l, seek-on c.loop-t.invariant.1 a q c.if-n-wanted.false l)

pub returns-in-Err : goal.returns-in-Err
returns-in-Err c =
    let q = ap outcome_of c.in-Err.is in
    let f = refused-some c.in-Err.field-0.why in
    never_true (sym f ∙ ap (λ (n : ℕ). eqb n 0) (never-refused (answered c.next_token-next.result c.loop-t.invariant.0 c.next_token-next.ensures) q f c.requires))
