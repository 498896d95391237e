-- Which way the definition goes, by the tests that the code made. Assumes nothing.
use mathlib.Core.Path.{◌≡◌, refl, ◌∙◌, sym, subst}
use mathlib.Core.Bool.{Bool, true, false, not, ◌&&◌, true≢false}
use mathlib.Core.List.{List}
use mathlib.Core.Option.{none}
use Prim.Native.Nat.{ℕ, zero, suc, ◌+◌, ◌<◌}
use native.Mathlib.Omega.{arith}
use borrow.Author.Tests.{eqb-true}
use lib.Dec.{T, eqb}
use lib.ListN.{get_or, length}
use Rattle.base.specs.Choose.{whether◌then◌else◌}
use Rattle.base.specs.Lists.{member}
use Rattle.base.specs.Tables.{all_below}
use Rattle.base.proofs.Tables.{all-below}
use Rattle.base.proofs.Tests.{never_true, both}
use Rattle.token.specs.Kinds as K
use Rattle.grammar.specs.Tree.{Width, full, short, byte, registers}
use Rattle.grammar.specs.Reader.{ok, bad, and_then, look, next, want_one}
use Rattle.grammar.specs.Grammar.{fuelled, list_of, register_item, after_type, cells_of}
use Rattle.tape.specs.Tape.{width_of}
use Rattle.readers.specs.Kinds.{Kind}

-- a test of a kind against a list, at a token of that kind
pub among : (l : List ℕ) {ks : List ℕ} {i k : ℕ} {b t : Bool} → Kind ks i k → b ≡ member k l → b ≡ t → member (get_or ks i 0) l ≡ t
among l {t} h e f = subst (λ (x : ℕ). member x l ≡ t) h.is (sym e ∙ f)

pub one-yes : (l : List ℕ) {ks : List ℕ} {i k : ℕ} {b : Bool} → Kind ks i k → b ≡ member k l → b ≡ true → want_one l ks i ≡ ok i (i + 1)
unfolding want_one
one-yes l h e f = rw (among l h e f)

pub one-no : (l : List ℕ) {ks : List ℕ} {i k : ℕ} {b : Bool} → Kind ks i k → b ≡ member k l → b ≡ false → want_one l ks i ≡ bad 4 i
unfolding want_one
one-no l h e f = rw (among l h e f)

-- a kind of a list without 0 is that of a token
pub is-token : (l : List ℕ) {ks : List ℕ} {i k : ℕ} {b : Bool} → Kind ks i k → b ≡ member k l → b ≡ true → member 0 l ≡ false → i < length ks
is-token l {k = zero} h e f g = absurd (true≢false (sym f ∙ e ∙ g))
is-token l {k = suc k} h e f g = omega arith

-- two tests that agree on every byte
pub same_test : (f g : ℕ → Bool) → T (all_below 256 (λ k. whether f k then g k else not (g k))) → (k : ℕ) → k < 256 → f k ≡ g k
same_test f g t k h = go (f k) (g k) (all-below 256 (λ k. whether f k then g k else not (g k)) t k h)
  where
    go : (a b : Bool) → T (whether a then b else not b) → a ≡ b
    go true true t = refl
    go true false t = absurd t
    go false true t = absurd t
    go false false t = refl

pub either : {A : Type 0} (t : Bool) (a : A) → (whether t then a else a) ≡ a
either true a = refl
either false a = refl

-- ── after a type ──
pub registered : (v : ℕ) {ks : List ℕ} {j k : ℕ} → Kind ks j k → (eqb v 0 && eqb k K.REGISTER) ≡ true → j < length ks
registered v {k} h f = let e = eqb-true k K.REGISTER (both (eqb v 0) (eqb k K.REGISTER) f).1 in omega arith

module _ (w : Width) (v : ℕ) {ks : List ℕ} {j k : ℕ} (h : Kind ks j k) (e : v ≡ width_of w) where
  pub after-registers : (eqb v 0 && eqb k K.REGISTER) ≡ true → after_type w ks j ≡ and_then (fuelled (list_of register_item) ks (j + 1)) (λ rs i. ok (registers rs) i)
  unfolding after_type and_then look next
  after-registers f = go w e
    where
      go : (w : Width) → v ≡ width_of w → after_type w ks j ≡ and_then (fuelled (list_of register_item) ks (j + 1)) (λ rs i. ok (registers rs) i)
      go full e = rw (← h.is, (both (eqb v 0) (eqb k K.REGISTER) f).1)
      go short e = never_true (rw e at f)
      go (byte false) e = never_true (rw e at f)
      go (byte true) e = never_true (rw e at f)

  pub after-cells : (eqb v 0 && eqb k K.REGISTER) ≡ false → after_type w ks j ≡ cells_of none w ks j
  unfolding after_type and_then look next
  after-cells f = go w e
    where
      go : (w : Width) → v ≡ width_of w → after_type w ks j ≡ cells_of none w ks j
      go full e = let g : eqb k K.REGISTER ≡ false = rw e at f in rw (← h.is, g)
      go short e = refl
      go (byte c) e = refl
