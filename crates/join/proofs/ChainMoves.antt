-- How the chain of calls moves: registers written that no point on it protects, another point of the same procedure, a call, a return.
use mathlib.Core.Path.{◌≡◌, sym, ap, subst, ◌∙◌}
use mathlib.Core.Logic.{inl}
use mathlib.Core.List.{List}
use mathlib.Core.Option.{some}
use Prim.Native.Nat.{ℕ, ◌%◌, ◌^◌}
use Rattle.base.specs.Lists.{◌∈◌}
use Rattle.base.proofs.Lists.{some_is, none-some}
use Rattle.translation.specs.Instructions.{link}
use Rattle.join.specs.Points.{Within, Point, Placed}
use Rattle.join.proofs.Safe.{Spared, Counted, Guarded}
use Rattle.join.proofs.Flows.{Under, Calls}
use Rattle.join.proofs.Chain.{Holds, after_call, Chain, outermost, called}

module _ (n : ℕ) (w : List Placed) where
  pub chain-holds : (reg : ℕ → ℕ) (p : Point) → Chain n w reg p → Holds reg p
  chain-holds reg p (outermost e g h) = h
  chain-holds reg p (called y r t k i q e g h v c) = h

  -- registers with P written, none of them protected here, all of them counted
  pub chain-kept : (reg reg' : ℕ → ℕ) (P : ℕ → Type 0) (p : Point) → Spared p P → Counted p P → ((x : ℕ) → (P x → ⊥) → reg' x ≡ reg x) → Chain n w reg p → Chain n w reg' p
  chain-kept reg reg' P p d z o (outermost e g h) = outermost e g (λ b m. o b.register (λ i. d b.register i (g.bases b m).0) ∙ h b m)
  chain-kept reg reg' P p d z o (called y r t k i q e g h v c) =
      let ret : r ∈ p.kept = subst (λ (x : ℕ). x ∈ p.kept) k.return (g.return k.v e).0 in
      called y r t k i q e g (λ b m. o b.register (λ j. d b.register j (g.bases b m).0) ∙ h b m) (ap (λ (x : ℕ). x % 2 ^ 24) (o r (λ j. d r j ret)) ∙ v)
      (chain-kept reg reg' P y.point (λ x j. k.spared x (z k.v e x j)) (λ u a x j. k.counted u a x (z k.v e x j)) o c)

  -- to another point of the same procedure
  pub chain-at : (reg : ℕ → ℕ) (p q : Point) → q.within ≡ p.within → Guarded n q → Holds reg q → Chain n w reg p → Chain n w reg q
  chain-at reg p q s d b (outermost e g h) = outermost (s ∙ e) d b
  chain-at reg p q s d b (called y r t k i u e g h v c) = called y r t k i u (s ∙ e) d b v c

  pub chain-under : (reg : ℕ → ℕ) (p q : Point) → Under q p → Guarded n q → Chain n w reg p → Chain n w reg q
  chain-under reg p q u d c = chain-at reg p q u.within d (λ b m. chain-holds reg p c b (u.bases b m)) c

  -- a call
  pub chain-call : (reg reg' : ℕ → ℕ) (y : Placed) (r t : ℕ) (k : Calls w y r t) → y ∈ w → y.instruction ≡ link r t → Guarded n k.body.to.point
      → ((x : ℕ) → (x ≡ r → ⊥) → reg' x ≡ reg x) → reg' r % 2 ^ 24 ≡ after_call y → Chain n w reg y.point → Chain n w reg' k.body.to.point
  chain-call reg reg' y r t k i q d o v c =
      let c' = chain-kept reg reg' (λ x. x ≡ r) y.point (λ x e. k.spared x (inl (e ∙ sym k.return))) (λ u a x e. k.counted u a x (inl (e ∙ sym k.return))) o c in
      called y r t k i q k.body.within d (λ b m. chain-holds reg' y.point c' b (k.body.bases b m)) v c'

  -- a return: the call that it comes back from
  pub record Back (reg : ℕ → ℕ) (v : Within) : Type 0 where
    pub y : Placed
    pub r : ℕ
    pub t : ℕ
    pub calls : Calls w y r t
    pub one : y ∈ w
    pub is : y.instruction ≡ link r t
    pub same : calls.v ≡ v
    pub value : reg r % 2 ^ 24 ≡ after_call y
    pub chain : Chain n w reg y.point

  pub chain-return : (reg : ℕ → ℕ) (p : Point) (v : Within) → p.within ≡ some v → Chain n w reg p → Back reg v
  chain-return reg p v i (outermost e g h) = absurd (none-some v (sym e ∙ i))
  chain-return reg p v i (called y r t k o q e g h a c) =
      record { y = y; r = r; t = t; calls = k; one = o; is = q; same = some_is k.v v (sym e ∙ i); value = a; chain = c }
