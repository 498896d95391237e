-- A search through flat blocks, backward from entry to entry and outward from block to block: what a hit, a miss and the end of a block say of the
-- definition's search.
use mathlib.Core.Path.{◌≡◌, refl, ◌∙◌}
use mathlib.Core.List.{List, [], ◌∷◌}
use Prim.Native.Nat.{ℕ, zero, suc, ◌-◌, ◌≤◌, ◌<◌}
use native.Mathlib.Omega.{arith}
use lib.ListN.{get_or}
use borrow.Author.Tests.{eq-eqb, ne_eqb, le-leb, lt-leb}
use Rattle.base.proofs.Numbers.{one_less}
use Rattle.scopes.specs.Search.{in_block, find}
use Rattle.names.specs.Flat.{span, blocks_of}

module _ (scope : List ℕ) (lo : ℕ) where
  pub span_none : (j : ℕ) → j ≤ lo → span scope lo j ≡ []
  unfolding span
  span_none zero h = refl
  span_none (suc j) h = rw (lt-leb lo j h)

  span-turn : (j : ℕ) → lo < j → span scope lo j ≡ get_or scope (j - 1) 0 ∷ span scope lo (j - 1)
  unfolding span
  span-turn zero h = absurd (omega arith)
  span-turn (suc j) h = rw (one_less j, le-leb lo j (omega arith))

module _ (keys : List ℕ) (key : ℕ) (scope : List ℕ) (lo further : ℕ) {X : ℕ} where
  pub hit : (j d k : ℕ) → lo < j → d ≡ get_or scope (j - 1) 0 → k ≡ get_or keys d 0 → k ≡ key → X ≡ in_block keys key (span scope lo j) further → X ≡ d
  unfolding in_block
  hit j d k h e f q i = i ∙ rw (span-turn scope lo j h, ← e, ← f, eq-eqb k key q)

  pub miss :
      (j d k : ℕ) → lo < j → d ≡ get_or scope (j - 1) 0 → k ≡ get_or keys d 0 → (k ≡ key → ⊥) → X ≡ in_block keys key (span scope lo j) further
      → X ≡ in_block keys key (span scope lo (j - 1)) further
  unfolding in_block
  miss j d k h e f q i = i ∙ rw (span-turn scope lo j h, ← e, ← f, ne_eqb k key q)

  pub out : (j : ℕ) → j ≤ lo → X ≡ in_block keys key (span scope lo j) further → X ≡ further
  unfolding in_block
  out j h i = i ∙ rw (span_none scope lo j h)

module _ (keys : List ℕ) (key : ℕ) (scope starts : List ℕ) where
  pub find-in :
      (depth end start : ℕ) → 0 < depth → start ≡ get_or starts (depth - 1) 0
      → find keys key (blocks_of scope starts depth end) ≡ in_block keys key (span scope start end) (find keys key (blocks_of scope starts (depth - 1) start))
  unfolding find blocks_of
  find-in zero end start h e = absurd (omega arith)
  find-in (suc depth) end start h e = rw (e, one_less depth)

  pub find-end : (depth end : ℕ) → depth ≤ 0 → find keys key (blocks_of scope starts depth end) ≡ 0
  unfolding find blocks_of
  find-end zero end h = refl
  find-end (suc depth) end h = absurd (omega arith)
