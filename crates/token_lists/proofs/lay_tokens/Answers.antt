-- `lay_tokens` lays a text's tokens over five lists as it reads them, to the last or to a refusal, and counts its place along. Assumes nothing.
use Prim.Native.Nat.{ℕ, ◌-◌, ◌≤◌}
use mathlib.Core.Path.{◌≡◌, refl, sym, ap, ◌∙◌}
use mathlib.Core.List.{List}
use native.Mathlib.Omega.{arith}
use lib.ListN.{drop, length, take}
use Rattle.base.specs.Walk.{fold}
use Rattle.spots.specs.Spots.{spot_at}
use Rattle.spots.specs.Going.{Near}
use Rattle.spots.specs.declared.Spot.{Spot}
use Rattle.spots.proofs.Going.{near}
use Rattle.token.specs.Text as T
use Rattle.token.specs.Answers.{Next, outcome_of}
use Rattle.token.proofs.Readings.{Reads, reads-start, Answered, ends-inside, place_inside, some_bytes, token-there, token-near, place-before, token-behind, has_room, reads_on, reads-last, lists-on, lists-last, refused-there, refused-near, refused-some, reads-no, lists-no}
use Rattle.token_lists.proofs.lay_tokens.Goals as goal

limit : (n : ℕ) → n ≤ T.TEXT-LIMIT → n ≤ 4294967296
limit n h = omega arith

-- the place is near
near_here : (s : List ℕ) (at : ℕ) {a : Spot} → a ≡ spot_at s at → at ≤ length s → length s ≤ T.TEXT-LIMIT → Near a
near_here s at e h m = rw e (near s at h (limit _ m))

-- what is known when the token reader has answered
answered : {s : List ℕ} {at n : ℕ} (r : Next) → Reads s at n → outcome_of r ≡ T.next_token (take (length s - at) (drop at s)) → Answered s at n r
answered r v e = record { reads = v; next = e }

pub loop-t-init : goal.loop-t-init
unfolding fold
loop-t-init c =
    rw c.first-at.ensures (refl, reads-start _, record { whole = refl }, refl, refl, refl, refl, refl)

pub onward-spot-requires : goal.onward-spot-requires
onward-spot-requires c =
    (near_here _ _ c.loop-t.invariant.0 c.loop-t.invariant.1.inside c.requires.0, token-near (answered c.next_token-next.result c.loop-t.invariant.1 c.next_token-next.ensures) c.in-Ok.is (limit _ c.requires.0))

pub lay_token-requires : goal.lay_token-requires
lay_token-requires c =
    let v = c.loop-t.invariant in
    let a = answered c.next_token-next.result c.loop-t.invariant.1 c.next_token-next.ensures in
    let q = c.in-Ok.is in (
      rw (v.3, v.4, v.5, v.6, v.7) (has_room a q _ c.requires.1),
      near_here _ _ (c.onward-spot.ensures ∙ token-there a q c.loop-t.invariant.0) (place_inside a q) c.requires.0,
      rw (c.onward-spot.ensures ∙ token-there a q c.loop-t.invariant.0) (omega (arith, place_inside a q, c.requires.0)),
    )

pub overflow_add-n : goal.overflow_add-n
overflow_add-n c =
    omega (arith, c.loop-t.invariant.1.few, c.loop-t.invariant.1.inside, c.requires.0)

pub returns-then-is_last : goal.returns-then-is_last
returns-then-is_last c =
    let a = answered c.next_token-next.result c.loop-t.invariant.1 c.next_token-next.ensures in
    let q = c.in-Ok.is in
    let l = sym c.is_last.ensures ∙ c.if-is_last.true in
    let w = c.loop-t.invariant.2 in
    record { is = reads-last a q l; are-laid = lists-last a q w (c.onward-spot.ensures ∙ token-there a q c.loop-t.invariant.0) c.lay_token.ensures l }

pub overflow_sub-end : goal.overflow_sub-end
overflow_sub-end c =
    place-before (answered c.next_token-next.result c.loop-t.invariant.1 c.next_token-next.ensures) c.in-Ok.is

pub along-at-requires : goal.along-at-requires
along-at-requires c =
    let a = answered c.next_token-next.result c.loop-t.invariant.1 c.next_token-next.ensures in
    let q = c.in-Ok.is in
    let f = ends-inside a q in
    (near_here _ _ (c.onward-spot.ensures ∙ token-there a q c.loop-t.invariant.0) (place_inside a q) c.requires.0, omega (arith, limit _ c.requires.0))

pub loop-t-smaller : goal.loop-t-smaller
loop-t-smaller c =
    let a = answered c.next_token-next.result c.loop-t.invariant.1 c.next_token-next.ensures in
    let q = c.in-Ok.is in
    let l = sym c.is_last.ensures ∙ c.if-is_last.false in
    let b = ap (λ (x : Spot). x.place) (c.along-at.ensures ∙ token-behind a q (c.onward-spot.ensures ∙ token-there a q c.loop-t.invariant.0)) in
    omega (arith, ends-inside a q, some_bytes a q l)

pub loop-t-preserved : goal.loop-t-preserved
loop-t-preserved c =
    let a = answered c.next_token-next.result c.loop-t.invariant.1 c.next_token-next.ensures in
    let q = c.in-Ok.is in
    let l = sym c.is_last.ensures ∙ c.if-is_last.false in
    let v = c.loop-t.invariant in
    rw (c.along-at.ensures ∙ token-behind a q (c.onward-spot.ensures ∙ token-there a q c.loop-t.invariant.0)) (
      refl,
      reads_on a q l,
      lists-on a q v.2 (c.onward-spot.ensures ∙ token-there a q c.loop-t.invariant.0) c.lay_token.ensures l,
      omega (arith, v.3),
      omega (arith, v.4),
      omega (arith, v.5),
      omega (arith, v.6),
      omega (arith, v.7),
    )

pub onward-spot-requires-in-Err : goal.onward-spot-requires-in-Err
onward-spot-requires-in-Err c =
    (near_here _ _ c.loop-t.invariant.0 c.loop-t.invariant.1.inside c.requires.0, refused-near (answered c.next_token-next.result c.loop-t.invariant.1 c.next_token-next.ensures) (ap outcome_of c.in-Err.is) (limit _ c.requires.0))

pub returns-in-Err : goal.returns-in-Err
returns-in-Err c =
    let a = answered c.next_token-next.result c.loop-t.invariant.1 c.next_token-next.ensures in
    let q = ap outcome_of c.in-Err.is in
    let v = c.loop-t.invariant in
    record { is = rw (c.onward-spot-in-Err.ensures ∙ refused-there a q v.0) (reads-no a q (refused-some _)); are-laid = lists-no a q v.2 }
