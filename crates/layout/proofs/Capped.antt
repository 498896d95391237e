-- Where nothing is broken the ends that are kept in 16 bits are the ends, and the broken rule is the same in any case: `capped-layout`. Assumes nothing.
use Prim.Native.Nat.{ℕ, zero, suc, ◌+◌, ◌*◌, ◌/◌, ◌%◌}
use mathlib.Core.Path.{◌≡◌, refl, sym, ap, ap₂, ◌∙◌}
use mathlib.Core.Bool.{Bool, true, false}
use mathlib.Core.List.{List, [], ◌∷◌, map}
use native.Mathlib.Omega.{arith}
use lib.Dec.{eqb, leb}
use lib.ListN.{get_or, set, replicate, get_or-map}
use borrow.Author.Tests.{leb-false, lt-leb}
use Rattle.base.specs.Walk.{fold}
use Rattle.base.proofs.Tests.{cases}
use Rattle.scopes.specs.declared.Refusal.TheVariants.{NoRoom}
use Rattle.scopes.specs.Broken.{Ruling, unbroken, rule, ◌⊕◌}
use Rattle.scopes.proofs.Joins.{quiet-left, quiet-right, rule-holds}
use Rattle.static_rules.specs.Meaning.{element_size}
use Rattle.grammar.specs.Tree.{Width}
use Rattle.tape.specs.Events as E
use Rattle.tape.specs.Pass.{on_event, pass}
use Rattle.tables.specs.Packed.{width_in, number_in}
use Rattle.translation.specs.Layout.{segment_limit, round_up}
use Rattle.translation.proofs.Rooms.{round-up}
use Rattle.layout.specs.Along.{Laying, laying_of, start_ends, segment_at, offset_at, end_at, place_by, place_at, event_by, layout_event, capped, capped_event}

-- ── of a list ──

set-map : (f : ℕ → ℕ) (l : List ℕ) (i v : ℕ) → set (map f l) i (f v) ≡ map f (set l i v)
set-map f [] i v = refl
set-map f (x ∷ l) zero v = refl
set-map f (x ∷ l) (suc i) v = ap (λ (r : List ℕ). f x ∷ r) (set-map f l i v)

map-zeros : (f : ℕ → ℕ) → f 0 ≡ 0 → (n : ℕ) → map f (replicate n 0) ≡ replicate n 0
map-zeros f e zero = refl
map-zeros f e (suc n) = ap₂ (λ (x : ℕ) (r : List ℕ). x ∷ r) e (map-zeros f e n)

-- ── of an end ──

within : (n : ℕ) → leb n segment_limit ≡ true → capped n ≡ n
unfolding capped
within n h = rw h

past : (n : ℕ) → leb n segment_limit ≡ false → capped n ≡ 4097
unfolding capped
past n h = rw h

cap-none : capped 0 ≡ 0
unfolding capped
cap-none = refl

cap-table : capped 16 ≡ 16
unfolding capped
cap-table = refl

read-capped : (l : List ℕ) (i : ℕ) → get_or (map capped l) i 0 ≡ capped (get_or l i 0)
read-capped l i = ap (λ (d : ℕ). get_or (map capped l) i d) (sym cap-none) ∙ get_or-map capped l i 0

-- the end of a cell with n elements, behind e bytes
abbrev end_past : Width → ℕ → ℕ → ℕ
end_past w n e = round_up (element_size w) e + element_size w * n

-- behind what is kept of an end a cell ends past the limit just where it does behind the end, and the same is kept
pub record Alike (w : Width) (n e : ℕ) : Type 0 where
  pub limit : leb (end_past w n (capped e)) segment_limit ≡ leb (end_past w n e) segment_limit
  pub kept : capped (end_past w n (capped e)) ≡ capped (end_past w n e)

alike : (w : Width) (n e : ℕ) → Alike w n e
alike w n e =
    cases (leb e segment_limit)
    (λ h. let k = within e h in record { limit = ap (λ (x : ℕ). leb (end_past w n x) segment_limit) k; kept = ap (λ (x : ℕ). capped (end_past w n x)) k })
    (λ h.
    let k = past e h in
    let l = leb-false e segment_limit h in
    let a : leb (end_past w n (capped e)) segment_limit ≡ false = lt-leb (end_past w n (capped e)) segment_limit (omega (arith, k, (round-up w (capped e)).0)) in
    let b : leb (end_past w n e) segment_limit ≡ false = lt-leb (end_past w n e) segment_limit (omega (arith, l, (round-up w e).0)) in
    record { limit = a ∙ sym b; kept = past (end_past w n (capped e)) a ∙ sym (past (end_past w n e) b) })

-- ── of a layout ──

pub record Capped (exact kept : Laying) : Type 0 where
  pub ends : kept.ends ≡ map capped exact.ends
  pub broken : kept.broken ≡ exact.broken
  pub same : exact.broken ≡ unbroken → kept ≡ exact

module _ (means bases : List ℕ) where
  placed : (t : ℕ) (x k : Laying) → Capped x k → Capped (place_at means bases t x) (place_by means bases capped t k)
  unfolding place_by
  placed t x k c =
      let g = segment_at bases t in
      let w = width_in (get_or means t 0) in
      let n = number_in (get_or means t 0) in
      let a = alike w n (get_or x.ends g 0) in
      let e : get_or k.ends g 0 ≡ capped (get_or x.ends g 0) = ap (λ (l : List ℕ). get_or l g 0) c.ends ∙ read-capped x.ends g in
      let end = end_at means bases t x.ends in
      let here = rule (leb end segment_limit) NoRoom t in
      let limit = ap (λ (v : ℕ). leb (end_past w n v) segment_limit) e ∙ a.limit in
      let kept = ap (λ (v : ℕ). capped (end_past w n v)) e ∙ a.kept in
      record {
        ends = ap₂ (λ (l : List ℕ) (v : ℕ). set l g v) c.ends kept ∙ set-map capped x.ends g end;
        broken = ap₂ (λ (r : Ruling) (b : Bool). r ⊕ rule b NoRoom t) c.broken limit;
        same = λ z.
            let fits = within end (rule-holds (leb end segment_limit) NoRoom t (quiet-right x.broken here z)) in
            ap (place_by means bases capped t) (c.same (quiet-left x.broken here z))
            ∙ ap (λ (v : ℕ). laying_of (set x.ends g v) (set x.offsets t (offset_at means bases t x.ends)) (x.broken ⊕ here)) fits;
      }

  step : (op t : ℕ) (x k : Laying) → Capped x k → Capped (layout_event means bases op t x) (capped_event means bases op t k)
  unfolding event_by
  step op t x k c = cases (eqb op E.ITEM) (λ h. rw h (placed t x k c)) (λ h. rw h c)

  along : (tape : List ℕ) (x k : Laying) → Capped x k → Capped (pass (layout_event means bases) x tape) (pass (capped_event means bases) k tape)
  unfolding pass fold on_event
  along [] x k c = c
  along (e ∷ es) x k c = along es _ _ (step (e % E.EVENTS) (e / E.EVENTS) x k c)

  start : (n : ℕ) (offsets : List ℕ) → let from = laying_of (start_ends n) offsets unbroken in Capped from from
  start n offsets = record {
    ends = ap₂ (λ (l : List ℕ) (v : ℕ). set l 1 v) (sym (map-zeros capped cap-none n)) (sym cap-table) ∙ set-map capped (replicate n 0) 1 16;
    broken = refl;
    same = λ z. refl;
  }

  pub capped-layout : (offsets : List ℕ) (n : ℕ) (tape : List ℕ)
      → let from = laying_of (start_ends n) offsets unbroken in Capped (pass (layout_event means bases) from tape) (pass (capped_event means bases) from tape)
  capped-layout offsets n tape = along tape _ _ (start n offsets)
