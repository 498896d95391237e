-- A search along chains: what a hit, a miss and the end of a chain say of the definition's search. A chain falls, so it ends.
use mathlib.Core.Path.{◌≡◌, refl, ap, ◌∙◌}
use mathlib.Core.List.{List, [], ◌∷◌}
use Prim.Native.Nat.{ℕ, zero, suc, ◌≤◌, ◌<◌}
use native.Mathlib.Omega.{arith}
use lib.Dec.{ltb}
use lib.ListN.{get_or}
use borrow.Author.Tests.{eq-eqb, ne_eqb, ltb-true}
use Rattle.base.proofs.Tests.{by-test}
use Rattle.scopes.specs.Search.{in_block, find}
use Rattle.names.specs.Chains.{after, chain_of, chain, labels_in, blocks_in}

module _ (a : List ℕ) where
  pub after_less : (t : ℕ) → 0 < t → after a t < t
  unfolding after
  after_less t h = by-test (λ (n : ℕ). n < t) (ltb (get_or a t 0) t) _ _ (λ e. ltb-true _ _ e) (λ _. h)

  enough : (most more t : ℕ) → t ≤ most → t ≤ more → chain_of a most t ≡ chain_of a more t
  unfolding chain_of
  enough zero zero t h g = refl
  enough zero (suc more) zero h g = refl
  enough zero (suc more) (suc t) h g = absurd (omega arith)
  enough (suc most) zero zero h g = refl
  enough (suc most) zero (suc t) h g = absurd (omega arith)
  enough (suc most) (suc more) zero h g = refl
  enough (suc most) (suc more) (suc t) h g =
      let l = after_less (suc t) (omega arith) in
      ap (λ (ts : List ℕ). suc t ∷ ts) (enough most more (after a (suc t)) (omega arith) (omega arith))

  pub chain-turn : (t : ℕ) → 0 < t → chain a t ≡ t ∷ chain a (after a t)
  unfolding chain_of
  chain-turn zero h = absurd (omega arith)
  chain-turn (suc t) h =
      let l = after_less (suc t) h in
      ap (λ (ts : List ℕ). suc t ∷ ts) (enough t (after a (suc t)) (after a (suc t)) (omega arith) (omega arith))

  pub chain-end : (t : ℕ) → t ≤ 0 → chain a t ≡ []
  unfolding chain_of
  chain-end zero h = refl
  chain-end (suc t) h = absurd (omega arith)

module _ (keys : List ℕ) (key : ℕ) (links : List ℕ) (further : ℕ) {X : ℕ} where
  pub hit : (l k : ℕ) → 0 < l → k ≡ get_or keys l 0 → k ≡ key → X ≡ in_block keys key (chain links l) further → X ≡ l
  unfolding in_block
  hit l k h e q i = i ∙ rw (chain-turn links l h, ← e, eq-eqb k key q)

  pub miss : (l k next : ℕ) → 0 < l → k ≡ get_or keys l 0 → (k ≡ key → ⊥) → next ≡ after links l → X ≡ in_block keys key (chain links l) further → X ≡ in_block keys key (chain links next) further
  unfolding in_block
  miss l k next h e q n i = i ∙ rw (chain-turn links l h, ← e, ne_eqb k key q, ← n)

  pub out : (l : ℕ) → l ≤ 0 → X ≡ in_block keys key (chain links l) further → X ≡ further
  unfolding in_block
  out l h i = i ∙ rw (chain-end links l h)

module _ (keys : List ℕ) (key : ℕ) (links outer : List ℕ) where
  pub blocks-turn : (b : ℕ) → 0 < b → blocks_in links outer b ≡ labels_in links b ∷ blocks_in links outer (after outer b)
  unfolding blocks_in
  blocks-turn b h = rw (chain-turn outer b h)

  pub find-in : (b l : ℕ) → 0 < b → l ≡ get_or links b 0 → find keys key (blocks_in links outer b) ≡ in_block keys key (chain links l) (find keys key (blocks_in links outer (after outer b)))
  unfolding find
  find-in b l h e = rw (blocks-turn b h, e)

  pub find-end : (b : ℕ) → b ≤ 0 → find keys key (blocks_in links outer b) ≡ 0
  unfolding find blocks_in
  find-end b h = rw (chain-end outer b h)
