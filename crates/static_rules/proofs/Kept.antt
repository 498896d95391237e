-- What is protected at a place: the bases of its blocks, the return registers of its procedures, and whatever is protected around it. A call that breaks no rule
-- writes nothing that is protected.
use mathlib.Core.Path.{◌≡◌, refl, ap}
use mathlib.Core.Logic.{inl, inr}
use mathlib.Core.Bool.{true}
use mathlib.Core.List.{List, [], ◌∷◌, map}
use Prim.Native.Nat.{ℕ}
use lib.ListN.{get_or}
use Rattle.base.specs.Lists.{◌∈◌}
use Rattle.base.proofs.Lists.{in_left, in_right}
use Rattle.grammar.specs.Places.{Block, within, body, Place}
use Rattle.scopes.specs.declared.Refusal.TheVariants.{Protected}
use Rattle.scopes.specs.Broken.{unbroken}
use Rattle.scopes.proofs.Joins.{quiet-right, rule-holds}
use Rattle.static_rules.specs.Registers.{no_registers, spares}
use Rattle.static_rules.specs.Meaning.{routine, register_of}
use Rattle.static_rules.specs.Tables.{Tables, meaning_at}
use Rattle.static_rules.specs.Rules.{write_rule, call_by}
use Rattle.static_rules.specs.Kinds.{kept_in}

module _ (f : Tables) where
  -- the registers of names
  registers : List ℕ → List ℕ
  registers ns = map (λ (n : ℕ). register_of (meaning_at f n)) ns

  one_of : (n : ℕ) (ns : List ℕ) → n ∈ ns → register_of (meaning_at f n) ∈ registers ns
  unfolding registers
  one_of n [] h = absurd h
  one_of n (m ∷ ns) (inl e) = inl (ap (λ (k : ℕ). register_of (meaning_at f k)) e)
  one_of n (m ∷ ns) (inr h) = inr (one_of n ns h)

  -- "the bases of enclosing blocks declared so far"
  pub kept-base : (b : Block) (p : Place) (n : ℕ) → n ∈ b.bases → register_of (meaning_at f n) ∈ kept_in f (within b ∷ p)
  unfolding registers
  kept-base b p n h = in_left (register_of (meaning_at f n)) (registers b.bases) (kept_in f p) (one_of n b.bases h)

  pub kept-in-block : (b : Block) (p : Place) (r : ℕ) → r ∈ kept_in f p → r ∈ kept_in f (within b ∷ p)
  unfolding registers
  kept-in-block b p r h = in_right r (registers b.bases) (kept_in f p) h

  -- "the return registers of enclosing procedures"
  pub kept-return : (n r : ℕ) (p : Place) → register_of (meaning_at f r) ∈ kept_in f (body n r ∷ p)
  kept-return n r p = inl refl

  pub kept-in-body : (n r : ℕ) (p : Place) (s : ℕ) → s ∈ kept_in f p → s ∈ kept_in f (body n r ∷ p)
  kept-in-body n r p s h = inr h

  -- "No … call may write a protected register", by what the called procedure's text writes
  pub called-spares : (r : ℕ) (kept : List ℕ) (n : ℕ) → call_by f (routine r) kept n ≡ unbroken → spares (get_or f.written (get_or f.found n 0) no_registers) kept ≡ true
  called-spares r kept n e = rule-holds _ Protected n (quiet-right (write_rule kept r n) _ e)
