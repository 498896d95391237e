-- The flat blocks when one opens or closes, and when a name is entered: nothing else is disturbed, since blocks rise.
use mathlib.Core.Path.{◌≡◌, refl, ap, ◌∙◌}
use mathlib.Core.Bool.{true, false}
use mathlib.Core.List.{List, [], ◌∷◌}
use Prim.Native.Nat.{ℕ, zero, suc, ◌+◌, ◌-◌, ◌≤◌, ◌<◌}
use native.Mathlib.Omega.{arith}
use native.Mathlib.Numerals.{add-one}
use lib.ListN.{get_or, set, length}
use lib.Seq.{get_or-set_same, get_or-set_other}
use borrow.Author.Tests.{le-leb, ne_eqb}
use Rattle.base.proofs.Numbers.{one_less}
use Rattle.tape.specs.Events as E
use Rattle.ledger.specs.Book.{Thin, put_opens, put_written}
use Rattle.scopes.specs.Search.{standard_names, innermost, enter}
use Rattle.names.specs.declared.Blocks.{Blocks}
use Rattle.tape.specs.Names.{declaring}
use Rattle.names.specs.Naming.{outer, blocks_after}
use Rattle.names.specs.Flat.{span, blocks_of, blocks_in, Rising, Changed, Stays, Begun}
use Rattle.names.proofs.Search.{span_none}

abbrev blocks : ℕ → ℕ → Blocks
blocks depth count = record { depth = depth; count = count }

-- ── a block opens ──

module _ (scope starts : List ℕ) (i v : ℕ) where
  below : (d : ℕ) → d < i → get_or (set starts i v) d 0 ≡ get_or starts d 0
  below d h = get_or-set_other starts i d v 0 (λ e. absurd (omega arith))

  blocks-below : (d hi : ℕ) → d ≤ i → blocks_of scope (set starts i v) d hi ≡ blocks_of scope starts d hi
  unfolding blocks_of
  blocks-below zero hi h = refl
  blocks-below (suc d) hi h =
      rw (below d h) (ap (λ (l : List (List ℕ)). span scope (get_or starts d 0) hi ∷ l) (blocks-below d (get_or starts d 0) (omega arith)))

  rising-below : (d hi : ℕ) → d ≤ i → Rising starts d hi → Rising (set starts i v) d hi
  unfolding Rising
  rising-below zero hi h r = tt
  rising-below (suc d) hi h r = rw (below d h) (r.0, rising-below d (get_or starts d 0) (omega arith) r.1)

pub opened :
    (l : Thin) (b : Blocks) → Rising l.written b.depth b.count → b.depth < length l.written
    → Changed ([] ∷ blocks_in l b) (put_written b.depth b.count l) b (blocks (b.depth + 1) b.count)
unfolding blocks_of Rising
opened l b r h =
    let d = b.depth in
    let c = b.count in
    let scope = l.opens in
    let starts = l.written in
    record {
      is = rw (add-one d, get_or-set_same starts d c 0 h, span_none scope c c (omega arith)) (ap (λ (l : List (List ℕ)). [] ∷ l) (blocks-below scope starts d c d c (omega arith)));
      rising = rw (add-one d, get_or-set_same starts d c 0 h) (omega arith, rising-below scope starts d c d c (omega arith) r);
      deep = omega arith;
      wide = omega arith;
    }

-- ── a block closes ──

pub not-closed : (l : Thin) (b : Blocks) → Rising l.written b.depth b.count → b.depth ≡ 0 → Changed (outer (blocks_in l b)) l b b
unfolding blocks_of
not-closed l b r e = record { is = rw e; rising = r; deep = omega arith; wide = omega arith }

pub closed :
    (l : Thin) (b : Blocks) (count : ℕ) → Rising l.written b.depth b.count → (b.depth ≡ 0 → ⊥) → count ≡ get_or l.written (b.depth - 1) 0
    → Changed (outer (blocks_in l b)) l b (blocks (b.depth - 1) count)
unfolding blocks_of Rising
closed l b count r n e = go b.depth b.count r n e
  where
    go : (d c : ℕ) → Rising l.written d c → (d ≡ 0 → ⊥) → count ≡ get_or l.written (d - 1) 0 → Changed (outer (blocks_of l.opens l.written d c)) l (blocks d c) (blocks (d - 1) count)
    go zero c r n e = absurd (n refl)
    go (suc d) c r n e =
        let low = r.0 in
        let at : count ≡ get_or l.written d 0 = rw (← one_less d) e in
        record {
          is = rw (one_less d, at);
          rising = rw (one_less d, at) r.1;
          deep = omega arith;
          wide = omega arith;
        }

-- ── a name is entered ──

module _ (scope starts : List ℕ) (i t : ℕ) where
  span_below : (lo hi : ℕ) → hi ≤ i → span (set scope i t) lo hi ≡ span scope lo hi
  unfolding span
  span_below lo zero h = refl
  span_below lo (suc n) h = rw (get_or-set_other scope i n t 0 (λ e. absurd (omega arith)), span_below lo n (omega arith))

  spans-below : (d hi : ℕ) → hi ≤ i → Rising starts d hi → blocks_of (set scope i t) starts d hi ≡ blocks_of scope starts d hi
  unfolding blocks_of Rising
  spans-below zero hi h r = refl
  spans-below (suc d) hi h r =
      let low = r.0 in
      rw (span_below (get_or starts d 0) hi h)
      (ap (λ (l : List (List ℕ)). span scope (get_or starts d 0) hi ∷ l) (spans-below d (get_or starts d 0) (omega arith) r.1))

rising-on : (starts : List ℕ) (d hi : ℕ) → Rising starts d hi → Rising starts d (hi + 1)
unfolding Rising
rising-on starts zero hi r = tt
rising-on starts (suc d) hi r = (let low = r.0 in omega arith, r.1)

pub entered :
    (l : Thin) (t : ℕ) (b : Blocks) → Rising l.written b.depth b.count → b.count < length l.opens
    → Changed (enter t (blocks_in l b)) (put_opens b.count t l) b (blocks b.depth (b.count + 1))
unfolding blocks_of span Rising
entered l t b r h = record {
  is = go b.depth r;
  rising = rising-on l.written b.depth b.count r;
  deep = omega arith;
  wide = omega arith;
}
  where
    c : ℕ
    c = b.count

    scope : List ℕ
    scope = l.opens

    starts : List ℕ
    starts = l.written

    go : (d : ℕ) → Rising starts d c → blocks_of (set scope c t) starts d (c + 1) ≡ enter t (blocks_of scope starts d c)
    go zero r = refl
    go (suc d) r =
        rw (add-one c, le-leb (get_or starts d 0) c r.0, get_or-set_same scope c t 0 h, span_below scope starts c t (get_or starts d 0) c (omega arith))
        (ap (λ (l : List (List ℕ)). (t ∷ span scope (get_or starts d 0) c) ∷ l) (let low = r.0 in spans-below scope starts c t d (get_or starts d 0) low r.1))

-- ── the innermost block ──

pub innermost-none : (l : Thin) (b : Blocks) → b.depth ≡ 0 → innermost (blocks_in l b) ≡ span l.opens b.count b.count
unfolding blocks_of
innermost-none l b e = rw (e, span_none l.opens b.count b.count (omega arith))

pub innermost-some : (l : Thin) (b : Blocks) (start : ℕ) → (b.depth ≡ 0 → ⊥) → start ≡ get_or l.written (b.depth - 1) 0 → innermost (blocks_in l b) ≡ span l.opens start b.count
unfolding blocks_of
innermost-some l b start n e = rw e (go b.depth n)
  where
    go : (d : ℕ) → (d ≡ 0 → ⊥) → innermost (blocks_of l.opens l.written d b.count) ≡ span l.opens (get_or l.written (d - 1) 0) b.count
    go zero n = absurd (n refl)
    go (suc d) n = rw (one_less d)

-- ── the block around the program ──

-- the last n of the standard names
abbrev pub standard : ℕ → List ℕ
standard zero = []
standard (suc n) = (standard_names - n) ∷ standard n

-- the names above t are entered
pub record Entering (before l : Thin) (b : Blocks) (t : ℕ) : Type 0 where
  pub is : blocks_in l b ≡ standard b.count ∷ []
  pub rising : Rising l.written b.depth b.count
  pub depth : b.depth ≡ 1
  pub count : b.count + t ≡ standard_names
  pub stays : Stays before l

pub stays_on : {k l m : Thin} → Stays k l → Stays l m → Stays k m
stays_on s t = record { found-is = t.found-is ∙ s.found-is; goes-is = t.goes-is ∙ s.goes-is }

pub entering : (before l : Thin) (b r : Blocks) → b.depth ≡ 0 → Changed ([] ∷ blocks_in before b) l b r → r.depth ≡ 1 → r.count ≡ 0 → Entering l l r standard_names
unfolding blocks_of
entering before l b r z c d e = record { is = c.is ∙ rw (z, e); rising = c.rising; depth = d; count = omega arith; stays = record { found-is = refl; goes-is = refl } }

pub entering-on :
    {before l m : Thin} {t : ℕ} {b r : Blocks} → Entering before l b t → 0 < t → Changed (enter t (blocks_in l b)) m b r → Stays l m → r.depth ≡ b.depth → r.count ≡ b.count + 1
    → Entering before m r (t - 1)
entering-on {t = t} {b = b} g h c s d e =
    let f = g.count in
    let w : standard_names - b.count ≡ t = omega arith in
    record {
      is = c.is ∙ rw (g.is, e, add-one b.count, w);
      rising = c.rising;
      depth = d ∙ g.depth;
      count = omega arith;
      stays = stays_on g.stays s;
    }

pub entering-end : {before l : Thin} {t : ℕ} {b : Blocks} → Entering before l b t → t ≤ 0 → Begun l b
entering-end {b = b} g h =
    let f = g.count in
    let e : b.count ≡ standard_names = omega arith in
    record { is = g.is ∙ rw e; rising = g.rising; depth = g.depth; count = e }

-- ── an event ──

module _ (op t : ℕ) (before : Thin) (b : Blocks) where
  pub after_open : {l : Thin} {r : Blocks} → op ≡ E.BLOCK → Changed ([] ∷ blocks_in before b) l b r → Changed (blocks_after op t (blocks_in before b)) l b r
  unfolding blocks_after
  after_open e c = rw e c

  pub after-close : {r : Blocks} → (op ≡ E.BLOCK → ⊥) → op ≡ E.END-BLOCK → Changed (outer (blocks_in before b)) before b r → Changed (blocks_after op t (blocks_in before b)) before b r
  unfolding blocks_after
  after-close m e c = rw e c

  pub after-enter :
      {l : Thin} {r : Blocks} → (op ≡ E.BLOCK → ⊥) → (op ≡ E.END-BLOCK → ⊥) → declaring op ≡ true → Changed (enter t (blocks_in before b)) l b r → Changed (blocks_after op t (blocks_in before b)) l b r
  unfolding blocks_after
  after-enter m n e c = rw (ne_eqb op E.BLOCK m, ne_eqb op E.END-BLOCK n, e) c

  pub after-other : (op ≡ E.BLOCK → ⊥) → (op ≡ E.END-BLOCK → ⊥) → declaring op ≡ false → Rising before.written b.depth b.count → Changed (blocks_after op t (blocks_in before b)) before b b
  unfolding blocks_after
  after-other m n e r = rw (ne_eqb op E.BLOCK m, ne_eqb op E.END-BLOCK n, e) (record { is = refl; rising = r; deep = omega arith; wide = omega arith })
