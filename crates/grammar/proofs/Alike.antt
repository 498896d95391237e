-- A reader looks no further than its answer: two lists of kinds that are the same up to a token are read alike, unless the answer lies past that token. More room
-- for constructs, where it is allowed for, changes nothing but refusal 5. Assumes nothing.
use mathlib.Core.Path.{◌≡◌, refl, sym, ◌∙◌, subst}
use mathlib.Core.Logic.{◌⊎◌, inl, inr}
use mathlib.Core.List.{List, []}
use mathlib.Core.Bool.{Bool, true, false, ◌&&◌, not}
use mathlib.Core.Option.{Option, none, some}
use Prim.Native.Nat.{ℕ, zero, suc, ◌+◌, ◌≤◌, ◌<◌}
use native.Mathlib.Omega.{arith}
use native.Mathlib.Decide.{dec_le}
use lib.Dec.{eqb}
use lib.ListN.{get_or, length}
use borrow.Author.Tests.{eqb-true}
use Rattle.base.specs.Choose.{whether◌then◌else◌}
use Rattle.base.specs.Lists.{member}
use Rattle.base.proofs.Tests.{cases}
use Rattle.token.specs.Kinds as K
use Rattle.grammar.specs.Tree.{Designator, Width, full, short, byte, Condition, Statement, Body, procedure, Items, Choices}
use Rattle.grammar.specs.Reader.{Result, ok, bad, Reader, and_then, look, next, want, want_one}
use Rattle.grammar.specs.Grammar.{compounds, in_parens, designator_of, operand, condition, operators, terms, sign_of, assigned_to, assignment_of, numbers, cell_item, register_item, list_of, type_of, cells_of, after_type, declaration, arguments, target_of, assign_or, use_of, after_name, openers, statement_of, items_of, choices_of, Procedure, declarators, body_of, if_of, construct_of, statement, procedure_of}
use Rattle.grammar.specs.Derives.{SameBefore, Inside, InsideBody, InsideItems, InsideChoices}
use Rattle.grammar.proofs.Tests.{no-token}
use Rattle.grammar.proofs.Sequences.{reach}
use Rattle.grammar.proofs.Complete.{program_in}
use Rattle.grammar.proofs.Rules.{onward-terms, onward-numbers, onward-arguments, onward-cells, onward-registers, onward-items, onward-choices, onward-body}

-- ── whatever a reader gives ──

abbrev OfGiven : {A : Type 0} → (A → Type 0) → Result A → Type 0
OfGiven P (ok a j) = P a
OfGiven P (bad n t) = Unit {0}

-- P holds of what is read, if anything is
pub record Gives {A : Type 0} (P : A → Type 0) (r : Result A) : Type 0 where
  pub given : OfGiven P r

pub given_so : {A : Type 0} {P : A → Type 0} {r : Result A} {a : A} {j : ℕ} → Gives P r → r ≡ ok a j → P a
given_so {P} h e = subst (OfGiven P) e h.given

anything : {A B : Type 0} {Q : B → Type 0} (r : Result A) (f : A → ℕ → Result B) → ((a : A) (j : ℕ) → Gives Q (f a j)) → Gives Q (and_then r f)
unfolding and_then
anything (ok a j) f h = h a j
anything (bad n t) f h = record { given = tt }

wanted : {B : Type 0} {Q : B → Type 0} (w : ℕ) (ks : List ℕ) (p : ℕ) (f : ℕ → ℕ → Result B) → Gives Q (f p (p + 1)) → Gives Q (and_then (want w ks p) f)
unfolding and_then want
wanted w ks p f h = cases (eqb (get_or ks p 0) w) (λ e. rw e h) (λ e. rw e (record { given = tt }))

either-gives : {A : Type 0} {P : A → Type 0} (t : Bool) (m n : Reader A) (ks : List ℕ) (p : ℕ) → Gives P (m ks p) → Gives P (n ks p) → Gives P ((whether t then m else n) ks p)
either-gives true m n ks p h g = h
either-gives false m n ks p h g = g

-- ── two answers ──

-- where the first is refusal 5 at t, `In t` holds of what the second gives
abbrev pub Deeper : {A : Type 0} → (ℕ → A → Type 0) → Result A → Result A → Type 0
Deeper In (ok a j) r' = ⊥
Deeper In (bad n t) r' = (n ≡ 5) × Gives (In t) r'

abbrev Never : {A : Type 0} → ℕ → A → Type 0
Never t a = ⊥

module _ (kinds others : List ℕ) (k : ℕ) (same : SameBefore (k + 1) kinds others) where
  -- r is the answer from token i of `kinds`, and r' of `others`
  pub record Alike {A : Type 0} (In : ℕ → A → Type 0) (i : ℕ) (r r' : Result A) : Type 0 where
    pub onward : i ≤ reach r
    pub alike : (r' ≡ r) ⊎ ((k < reach r) ⊎ Deeper In r r')

  alike-itself : {A : Type 0} {In : ℕ → A → Type 0} {i : ℕ} {r : Result A} → i ≤ reach r → Alike In i r r
  alike-itself h = record { onward = h; alike = inl refl }

  gives : {A : Type 0} {In : ℕ → A → Type 0} {a : A} {i : ℕ} → Alike In i (ok a i) (ok a i)
  gives {i} = alike-itself (omega arith)

  refuses : {A : Type 0} {In : ℕ → A → Type 0} {i n : ℕ} → Alike In i (bad n i) (bad n i)
  refuses {i} = alike-itself (omega arith)

  past : {A : Type 0} {In : ℕ → A → Type 0} {i : ℕ} {r r' : Result A} → k < i → i ≤ reach r → Alike In i r r'
  past h o = record { onward = o; alike = inr (inl (omega arith)) }

  sooner : {A : Type 0} {In : ℕ → A → Type 0} {i j : ℕ} {r r' : Result A} → i ≤ j → Alike In j r r' → Alike In i r r'
  sooner le h = record { onward = (let o = h.onward in omega arith); alike = h.alike }

  -- one reader after another; what the first says of refusal 5, the whole says
  after-in : {A B : Type 0} {In : ℕ → A → Type 0} {On : ℕ → B → Type 0} {i : ℕ} {r r' : Result A} (f f' : A → ℕ → Result B) → Alike In i r r'
      → ((a : A) (j : ℕ) → i ≤ j → Alike On j (f a j) (f' a j)) → ((t : ℕ) (a : A) (j : ℕ) → In t a → Gives (On t) (f' a j))
      → Alike On i (and_then r f) (and_then r' f')
  unfolding and_then
  after-in {In} {On} {i} {r = ok a j} {r'} f f' h g c = sooner h.onward (go h.alike)
    where
      go : (r' ≡ ok a j) ⊎ ((k < j) ⊎ ⊥) → Alike On j (f a j) (and_then r' f')
      go (inl e) = rw e (g a j h.onward)
      go (inr (inl p)) = past p (g a j h.onward).onward
      go (inr (inr z)) = absurd z
  after-in {In} {On} {i} {r = bad n t} {r'} f f' h g c = go h.alike
    where
      on : (q : Result _) → Gives (In t) q → Gives (On t) (and_then q f')
      on (ok a j) z = c t a j z.given
      on (bad m s) z = record { given = tt }

      go : (r' ≡ bad n t) ⊎ ((k < t) ⊎ ((n ≡ 5) × Gives (In t) r')) → Alike On i (bad n t) (and_then r' f')
      go (inl e) = rw e (alike-itself h.onward)
      go (inr (inl p)) = record { onward = h.onward; alike = inr (inl p) }
      go (inr (inr (e, z))) = record { onward = h.onward; alike = inr (inr (e, on r' z)) }

  after : {A B : Type 0} {On : ℕ → B → Type 0} {i : ℕ} {r r' : Result A} (f f' : A → ℕ → Result B) → Alike Never i r r'
      → ((a : A) (j : ℕ) → i ≤ j → Alike On j (f a j) (f' a j)) → Alike On i (and_then r f) (and_then r' f')
  after f f' h g = after-in f f' h g (λ t a j z. absurd z)

  -- the same kind, or past it
  kind-alike : (i : ℕ) → (get_or others i 0 ≡ get_or kinds i 0) ⊎ (k < i)
  kind-alike i = go (dec_le i k)
    where
      go : Dec (i ≤ k) → (get_or others i 0 ≡ get_or kinds i 0) ⊎ (k < i)
      go (yes h) = inl (same.same i (omega arith))
      go (no h) = inr (omega arith)

  -- a choice by the kinds of tokens that were looked at
  either-two : {A : Type 0} {In : ℕ → A → Type 0} (t : ℕ → ℕ → Bool) (p q i : ℕ) (m n m' n' : Reader A) → p ≤ i → q ≤ i
      → (t (get_or kinds p 0) (get_or kinds q 0) ≡ true → Alike In i (m kinds i) (m' others i))
      → (t (get_or kinds p 0) (get_or kinds q 0) ≡ false → Alike In i (n kinds i) (n' others i))
      → Alike In i ((whether t (get_or kinds p 0) (get_or kinds q 0) then m else n) kinds i) ((whether t (get_or others p 0) (get_or others q 0) then m' else n') others i)
  either-two {In} t p q i m n m' n' a b h g = go (kind-alike p) (kind-alike q)
    where
      whole : Alike In i ((whether t (get_or kinds p 0) (get_or kinds q 0) then m else n) kinds i) ((whether t (get_or kinds p 0) (get_or kinds q 0) then m' else n') others i)
      whole = cases (t (get_or kinds p 0) (get_or kinds q 0)) (λ e. rw e (h e)) (λ e. rw e (g e))

      go : (get_or others p 0 ≡ get_or kinds p 0) ⊎ (k < p) → (get_or others q 0 ≡ get_or kinds q 0) ⊎ (k < q)
          → Alike In i ((whether t (get_or kinds p 0) (get_or kinds q 0) then m else n) kinds i) ((whether t (get_or others p 0) (get_or others q 0) then m' else n') others i)
      go (inl e) (inl f) = rw (e, f) whole
      go (inl e) (inr l) = past (omega arith) whole.onward
      go (inr l) r = past (omega arith) whole.onward

  either : {A : Type 0} {In : ℕ → A → Type 0} (t : ℕ → Bool) (p i : ℕ) (m n m' n' : Reader A) → p ≤ i
      → (t (get_or kinds p 0) ≡ true → Alike In i (m kinds i) (m' others i)) → (t (get_or kinds p 0) ≡ false → Alike In i (n kinds i) (n' others i))
      → Alike In i ((whether t (get_or kinds p 0) then m else n) kinds i) ((whether t (get_or others p 0) then m' else n') others i)
  either t p i m n m' n' a h g = either-two (λ x y. t x) p p i m n m' n' a a h g

  here : {A : Type 0} {In : ℕ → A → Type 0} (p : ℕ → Bool) (i : ℕ) (m n m' n' : Reader A) → (p (get_or kinds i 0) ≡ true → Alike In i (m kinds i) (m' others i))
      → (p (get_or kinds i 0) ≡ false → Alike In i (n kinds i) (n' others i))
      → Alike In i ((whether p (get_or kinds i 0) then m else n) kinds i) ((whether p (get_or others i 0) then m' else n') others i)
  here p i m n m' n' h g = either p i i m n m' n' (omega arith) h g

  -- a token that is wanted
  takes : {A : Type 0} {In : ℕ → A → Type 0} (p : ℕ → Bool) (i : ℕ) (f f' : ℕ → ℕ → Result A)
      → (p (get_or kinds i 0) ≡ true → Alike In (i + 1) (f i (i + 1)) (f' i (i + 1)))
      → Alike In i (and_then (whether p (get_or kinds i 0) then ok i (i + 1) else bad 4 i) f) (and_then (whether p (get_or others i 0) then ok i (i + 1) else bad 4 i) f')
  unfolding and_then
  takes {In} p i f f' h = go (kind-alike i)
    where
      whole : Alike In i (and_then (whether p (get_or kinds i 0) then ok i (i + 1) else bad 4 i) f) (and_then (whether p (get_or kinds i 0) then ok i (i + 1) else bad 4 i) f')
      whole = cases (p (get_or kinds i 0)) (λ e. rw e (sooner (omega arith) (h e))) (λ e. rw e refuses)

      go : (get_or others i 0 ≡ get_or kinds i 0) ⊎ (k < i) → Alike In i (and_then (whether p (get_or kinds i 0) then ok i (i + 1) else bad 4 i) f)
          (and_then (whether p (get_or others i 0) then ok i (i + 1) else bad 4 i) f')
      go (inl e) = rw e whole
      go (inr l) = past l whole.onward

  wants : {A : Type 0} {In : ℕ → A → Type 0} (w i : ℕ) (f f' : ℕ → ℕ → Result A) → (get_or kinds i 0 ≡ w → Alike In (i + 1) (f i (i + 1)) (f' i (i + 1)))
      → Alike In i (and_then (want w kinds i) f) (and_then (want w others i) f')
  unfolding want
  wants w i f f' h = takes (λ z. eqb z w) i f f' (λ e. h (eqb-true _ _ e))

  wants-one : {A : Type 0} {In : ℕ → A → Type 0} (ws : List ℕ) (i : ℕ) (f f' : ℕ → ℕ → Result A)
      → (member (get_or kinds i 0) ws ≡ true → Alike In (i + 1) (f i (i + 1)) (f' i (i + 1)))
      → Alike In i (and_then (want_one ws kinds i) f) (and_then (want_one ws others i) f')
  unfolding want_one
  wants-one ws i f f' h = takes (λ z. member z ws) i f f' h

  nexts : {A : Type 0} {In : ℕ → A → Type 0} {i : ℕ} {r r' : Result A} → Alike In (i + 1) r r' → Alike In i r r'
  nexts h = sooner (omega arith) h

  nested : {A B C : Type 0} {In : ℕ → A → Type 0} {i : ℕ} (r r' : Result B) (g g' : B → ℕ → Result C) (f f' : C → ℕ → Result A)
      → Alike In i (and_then r (λ a j. and_then (g a j) f)) (and_then r' (λ a j. and_then (g' a j) f'))
      → Alike In i (and_then (and_then r g) f) (and_then (and_then r' g') f')
  unfolding and_then
  nested (ok a j) (ok b l) g g' f f' h = h
  nested (ok a j) (bad n t) g g' f f' h = h
  nested (bad m s) (ok b l) g g' f f' h = h
  nested (bad m s) (bad n t) g g' f f' h = h

  given : {A B : Type 0} {In : ℕ → A → Type 0} (b : B) (p : ℕ) (f f' : B → ℕ → Result A) → Alike In p (f b p) (f' b p) → Alike In p (and_then (ok b p) f) (and_then (ok b p) f')
  unfolding and_then
  given b p f f' h = h

  wants-parens : {A : Type 0} {In : ℕ → A → Type 0} (w i : ℕ) (f f' : ℕ → ℕ → Result A)
      → Alike In (i + 1 + 1 + 1) (f (i + 1) (i + 1 + 1 + 1)) (f' (i + 1) (i + 1 + 1 + 1))
      → Alike In i (and_then (in_parens w kinds i) f) (and_then (in_parens w others i) f')
  wants-parens w i f f' h = nested _ _ _ _ _ _ (wants K.OPEN i _ _ (λ o. nested _ _ _ _ _ _ (wants w (i + 1) _ _ (λ t. nested _ _ _ _ _ _ (wants K.CLOSE (i + 1 + 1) _ _ (λ c. given _ _ _ _ h))))))

  -- a list "{…}" of L's, which comes to an end s where no token is; the fuel is enough on either side
  module _ {A : Type 0} (In : ℕ → A → Type 0) (L L' : ℕ → Reader A) (s : ℕ → Result A)
      (stop : (f i : ℕ) → get_or kinds i 0 ≡ 0 → L f kinds i ≡ s i) (stop' : (f i : ℕ) → get_or others i 0 ≡ 0 → L' f others i ≡ s i)
      (onward : (f i : ℕ) → length kinds ≤ f + i → i ≤ reach (L f kinds i))
      (step : (f f' i : ℕ) → ((m : ℕ) → i < m → Alike In m (L f kinds m) (L' f' others m)) → Alike In i (L (suc f) kinds i) (L' (suc f') others i)) where
    dry : (f f' i : ℕ) → length kinds ≤ f + i → (get_or others i 0 ≡ get_or kinds i 0) ⊎ (k < i) → ((get_or others i 0 ≡ get_or kinds i 0) → get_or kinds i 0 ≡ 0) → Alike In i (L f kinds i) (L' f' others i)
    dry f f' i n (inl e) z = record { onward = onward f i n; alike = inl (stop' f' i (e ∙ z e) ∙ sym (stop f i (z e))) }
    dry f f' i n (inr l) z = past l (onward f i n)

    list-alike : (f f' i : ℕ) → length kinds ≤ f + i → length others ≤ f' + i → Alike In i (L f kinds i) (L' f' others i)
    list-alike zero f' i n n' = dry zero f' i n (kind-alike i) (λ e. no-token kinds i (omega arith))
    list-alike (suc f) zero i n n' = dry (suc f) zero i n (kind-alike i) (λ e. sym e ∙ no-token others i (omega arith))
    list-alike (suc f) (suc f') i n n' = step f f' i (λ m l. list-alike f f' m (omega arith) (omega arith))

  -- ── the rules ──

  designator-alike : (n i : ℕ) → Alike Never i (designator_of n kinds i) (designator_of n others i)
  unfolding designator_of and_then look next
  designator-alike n i = here (λ z. eqb z K.OPEN) i _ _ _ _
      (λ o. nexts (wants-one _ (i + 1) _ _ (λ s. wants K.CLOSE (i + 1 + 1) _ _ (λ c. either (λ z. eqb z K.NAME) (i + 1) (i + 1 + 1 + 1) _ _ _ _ (omega arith) (λ e. gives)
      (λ e. here (λ z. eqb z K.OPEN) (i + 1 + 1 + 1) _ _ _ _ (λ p. wants-parens K.NAME (i + 1 + 1 + 1) _ _ gives) (λ p. gives))))))
      (λ o. gives)

  operand-alike : (i : ℕ) → Alike Never i (operand kinds i) (operand others i)
  unfolding operand and_then look
  operand-alike i = wants-one _ i _ _ (λ t. either (λ z. eqb z K.NUMBER) i (i + 1) _ _ _ _ (omega arith) (λ e. gives) (λ e. after _ _ (designator-alike i (i + 1)) (λ d j le. gives)))

  condition-alike : (i : ℕ) → Alike Never i (condition kinds i) (condition others i)
  unfolding condition and_then look
  condition-alike i = wants-one _ i _ _ (λ t. either (λ z. eqb z K.NAME) i (i + 1) _ _ _ _ (omega arith)
      (λ e. wants-one _ (i + 1) _ _ (λ r. after _ _ (operand-alike (i + 1 + 1)) (λ a j le. gives)))
      (λ e. gives))

  sign-alike : (i : ℕ) → Alike Never i (sign_of kinds i) (sign_of others i)
  unfolding sign_of and_then look next
  sign-alike i = here (λ z. eqb z K.ABS) i _ _ _ _ (λ a. nexts gives)
      (λ a. here (λ z. eqb z K.NEG) i _ _ _ _ (λ n. nexts (here (λ z. eqb z K.ABS) (i + 1) _ _ _ _ (λ b. nexts gives) (λ b. gives))) (λ n. gives))

  terms-alike : (i : ℕ) → Alike Never i (terms (suc (length kinds)) kinds i) (terms (suc (length others)) others i)
  unfolding terms and_then look next
  terms-alike i = list-alike Never terms terms (λ i. ok [] i) (stop kinds) (stop others) (λ f i n. onward-terms kinds f i)
      (λ f f' i again. here (λ z. member z operators) i _ _ _ _ (λ o. nexts (after _ _ (operand-alike (i + 1)) (λ a j le. after _ _ (again j (omega arith)) (λ ts j le. gives)))) (λ o. gives))
      (suc (length kinds)) (suc (length others)) i (omega arith) (omega arith)
    where
      stop : (ks : List ℕ) (f i : ℕ) → get_or ks i 0 ≡ 0 → terms f ks i ≡ ok [] i
      stop ks zero i z = refl
      stop ks (suc f) i z = rw z

  assigned-alike : (d : Designator) (i : ℕ) → Alike Never i (assigned_to d kinds i) (assigned_to d others i)
  unfolding assigned_to and_then
  assigned-alike d i = wants K.BECOMES i _ _ (λ b. after _ _ (sign-alike (i + 1)) (λ s p le. after _ _ (operand-alike p) (λ a q le. after _ _ (terms-alike q) (λ ts j le. gives))))

  assignment-alike : (n i : ℕ) → Alike Never i (assignment_of n kinds i) (assignment_of n others i)
  unfolding assignment_of and_then
  assignment-alike n i = after _ _ (designator-alike n i) (λ d m le. assigned-alike d m)

  arguments-alike : (i : ℕ) → Alike Never i (arguments (suc (length kinds)) kinds i) (arguments (suc (length others)) others i)
  unfolding arguments and_then look next
  arguments-alike i = list-alike Never arguments arguments (λ i. ok [] i) (stop kinds) (stop others) (λ f i n. onward-arguments kinds f i)
      (λ f f' i again. here (λ z. eqb z K.OPEN) i _ _ _ _
      (λ o. nexts (after _ _ (operand-alike (i + 1)) (λ a m le. wants K.CLOSE m _ _ (λ c. after _ _ (again (m + 1) (omega arith)) (λ xs j le. gives)))))
      (λ o. gives))
      (suc (length kinds)) (suc (length others)) i (omega arith) (omega arith)
    where
      stop : (ks : List ℕ) (f i : ℕ) → get_or ks i 0 ≡ 0 → arguments f ks i ≡ ok [] i
      stop ks zero i z = refl
      stop ks (suc f) i z = rw z

  numbers-alike : (i : ℕ) → Alike Never i (numbers (suc (length kinds)) kinds i) (numbers (suc (length others)) others i)
  unfolding numbers and_then look
  numbers-alike i = list-alike Never numbers numbers (λ i. ok [] i) (stop kinds) (stop others) (λ f i n. onward-numbers kinds f i)
      (λ f f' i again. here (λ z. eqb z K.OPEN) i _ _ _ _ (λ o. wants-parens K.NUMBER i _ _ (after _ _ (again (i + 1 + 1 + 1) (omega arith)) (λ ts j le. gives))) (λ o. gives))
      (suc (length kinds)) (suc (length others)) i (omega arith) (omega arith)
    where
      stop : (ks : List ℕ) (f i : ℕ) → get_or ks i 0 ≡ 0 → numbers f ks i ≡ ok [] i
      stop ks zero i z = refl
      stop ks (suc f) i z = rw z

  item-alike : (i : ℕ) → Alike Never i (cell_item kinds i) (cell_item others i)
  unfolding cell_item and_then
  item-alike i = wants K.NAME i _ _ (λ n. after _ _ (numbers-alike (i + 1)) (λ ts j le. gives))

  register-alike : (i : ℕ) → Alike Never i (register_item kinds i) (register_item others i)
  unfolding register_item and_then
  register-alike i = wants K.NAME i _ _ (λ n. wants-parens K.NUMBER (i + 1) _ _ gives)

  module _ {A : Type 0} (read : Reader A) (read_alike : (i : ℕ) → Alike Never i (read kinds i) (read others i)) (read-stop : (ks : List ℕ) (i : ℕ) → get_or ks i 0 ≡ 0 → read ks i ≡ bad 4 i)
      (onward : (f i : ℕ) → length kinds ≤ f + i → i ≤ reach (list_of read (suc f) kinds i)) where
    items-of-alike : (i : ℕ) → Alike Never i (list_of read (suc (length kinds)) kinds i) (list_of read (suc (length others)) others i)
    unfolding list_of and_then look next
    items-of-alike i = list-alike Never (λ f. list_of read (suc f)) (λ f. list_of read (suc f)) (λ i. bad 4 i) (stop kinds) (stop others) onward
        (λ f f' i again. after _ _ (read_alike i) (λ x m le. here (λ z. eqb z K.COMMA) m _ _ _ _ (λ c. nexts (after _ _ (again (m + 1) (omega arith)) (λ xs j le. gives))) (λ c. gives)))
        (length kinds) (length others) i (omega arith) (omega arith)
      where
        stop : (ks : List ℕ) (f i : ℕ) → get_or ks i 0 ≡ 0 → list_of read (suc f) ks i ≡ bad 4 i
        stop ks f i z = rw (read-stop ks i z)

  item-stop : (ks : List ℕ) (i : ℕ) → get_or ks i 0 ≡ 0 → cell_item ks i ≡ bad 4 i
  unfolding cell_item and_then want
  item-stop ks i z = rw z

  register-stop : (ks : List ℕ) (i : ℕ) → get_or ks i 0 ≡ 0 → register_item ks i ≡ bad 4 i
  unfolding register_item and_then want
  register-stop ks i z = rw z

  type-alike : (i : ℕ) → Alike Never i (type_of kinds i) (type_of others i)
  unfolding type_of and_then look
  type-alike i = wants-one _ i _ _ (λ t. either (λ z. eqb z K.SHORT) i (i + 1) _ _ _ _ (omega arith) (λ s. wants K.INTEGER (i + 1) _ _ (λ n. gives))
      (λ s. either (λ z. eqb z K.BYTE) i (i + 1) _ _ _ _ (omega arith) (λ b. gives) (λ b. either (λ z. eqb z K.CHARACTER) i (i + 1) _ _ _ _ (omega arith) (λ c. gives) (λ c. gives))))

  cells-alike : (c : Option ℕ) (w : Width) (i : ℕ) → Alike Never i (cells_of c w kinds i) (cells_of c w others i)
  unfolding cells_of and_then
  cells-alike c w i = after _ _ (items-of-alike cell_item item-alike item-stop (onward-cells kinds) i) (λ xs j le. gives)

  after-type-alike : (w : Width) (i : ℕ) → Alike Never i (after_type w kinds i) (after_type w others i)
  unfolding after_type and_then look next
  after-type-alike short i = cells-alike none short i
  after-type-alike (byte c) i = cells-alike none (byte c) i
  after-type-alike full i = here (λ z. eqb z K.REGISTER) i _ _ _ _
      (λ r. nexts (after _ _ (items-of-alike register_item register-alike register-stop (onward-registers kinds) (i + 1)) (λ rs j le. gives)))
      (λ r. cells-alike none full i)

  declaration-alike : (i : ℕ) → Alike Never i (declaration kinds i) (declaration others i)
  unfolding declaration and_then look next
  declaration-alike i = here (λ z. eqb z K.SEGMENT) i _ _ _ _ (λ s. nexts (wants K.BASE (i + 1) _ _ (λ b. wants K.NAME (i + 1 + 1) _ _ (λ n. gives))))
      (λ s. here (λ z. eqb z K.ARRAY) i _ _ _ _ (λ a. nexts (wants-parens K.NUMBER (i + 1) _ _ (after _ _ (type-alike (i + 1 + 1 + 1 + 1)) (λ w m le. cells-alike _ w m))))
      (λ a. after _ _ (type-alike i) (λ w m le. after-type-alike w m)))

  -- ── what holds constructs: where there is no room for one, more room shows that it stands inside as many as there was room for ──

  abbrev StatementAt : (room t : ℕ) → Statement → Type 0
  StatementAt room t x = Inside x room t

  abbrev ItemsAt : (room t : ℕ) → Items → Type 0
  ItemsAt room t xs = InsideItems xs room t

  abbrev ChoicesAt : (room t : ℕ) → Choices → Type 0
  ChoicesAt room t xs = InsideChoices xs room t

  abbrev BodyAt : (room t : ℕ) → Body → Type 0
  BodyAt room t b = InsideBody b room t

  abbrev ProcedureAt : (room t : ℕ) → Procedure → Type 0
  ProcedureAt zero t p = t + 1 ≡ p.name
  ProcedureAt (suc room) t p = Inside p.body room t

  assign-or-alike : {In : ℕ → Statement → Type 0} (d : Option Designator) (s : Statement) (i : ℕ) → Alike In i (assign_or d s kinds i) (assign_or d s others i)
  unfolding assign_or and_then
  assign-or-alike none s i = gives
  assign-or-alike (some d) s i = after _ _ (assigned-alike d i) (λ a j le. gives)

  name-alike : {In : ℕ → Statement → Type 0} (n i : ℕ) → Alike In i (after_name n kinds i) (after_name n others i)
  unfolding after_name and_then look
  name-alike n i = after _ _ (arguments-alike i) (λ xs j le. here (λ z. eqb z K.BECOMES) j _ _ _ _ (λ b. assign-or-alike (target_of n xs) (use_of n xs) j) (λ b. gives))

  statement-of-alike : (room : ℕ) (c c' : Reader Statement) (i : ℕ) → Alike (StatementAt room) i (c kinds i) (c' others i)
      → Alike (StatementAt room) i (statement_of c kinds i) (statement_of c' others i)
  unfolding statement_of and_then look next
  statement-of-alike room c c' i h = here (λ z. member z openers) i _ _ _ _ (λ o. h)
      (λ o. here (λ z. eqb z K.NAME) i _ _ _ _ (λ n. nexts (name-alike i (i + 1)))
      (λ n. here (λ z. eqb z K.GOTO) i _ _ _ _ (λ g. nexts (wants K.NAME (i + 1) _ _ (λ l. gives)))
      (λ g. here (λ z. eqb z K.NULL) i _ _ _ _ (λ u. nexts gives) (λ u. refuses))))

  statement-stop : (room : ℕ) (ks : List ℕ) (i : ℕ) → get_or ks i 0 ≡ 0 → statement room ks i ≡ bad 4 i
  unfolding statement statement_of and_then look
  statement-stop zero ks i z = rw z
  statement-stop (suc room) ks i z = rw z

  items-stop : (room : ℕ) (ks : List ℕ) (f i : ℕ) → get_or ks i 0 ≡ 0 → items_of (statement room) f ks i ≡ bad 4 i
  unfolding items_of and_then look
  items-stop room ks zero i z = refl
  items-stop room ks (suc f) i z = rw (z, statement-stop room ks i z)

  choices-stop : (room : ℕ) (ks : List ℕ) (f i : ℕ) → get_or ks i 0 ≡ 0 → choices_of (statement room) f ks i ≡ bad 4 i
  unfolding choices_of and_then look
  choices-stop room ks zero i z = refl
  choices-stop room ks (suc f) i z = rw (z, statement-stop room ks i z)

  body-stop : (room : ℕ) (ks : List ℕ) (f i : ℕ) → get_or ks i 0 ≡ 0 → body_of (statement room) (procedure_of room) f ks i ≡ bad 4 i
  unfolding body_of and_then look
  body-stop room ks zero i z = refl
  body-stop room ks (suc f) i z = rw (z, items-stop room ks (suc (length ks)) i z)

  procedure-in-body : (room t : ℕ) (p : Procedure) (b : Body) → ProcedureAt room t p → InsideBody (procedure p.name p.return p.body b) room t
  unfolding Inside
  procedure-in-body zero t p b h = inl h
  procedure-in-body (suc room) t p b h = inl h

  later-in-body : (room t : ℕ) (p : Procedure) (b : Body) → InsideBody b room t → InsideBody (procedure p.name p.return p.body b) room t
  unfolding Inside
  later-in-body zero t p b h = inr h
  later-in-body (suc room) t p b h = inr h

  module _ (room room' : ℕ) (inner-alike : (i : ℕ) → Alike (StatementAt room) i (statement room kinds i) (statement room' others i)) where
    items_alike : (i : ℕ) → Alike (ItemsAt room) i (items_of (statement room) (suc (length kinds)) kinds i) (items_of (statement room') (suc (length others)) others i)
    unfolding items_of and_then look next Inside
    items_alike i = list-alike (ItemsAt room) (items_of (statement room)) (items_of (statement room')) (λ i. bad 4 i) (items-stop room kinds)
        (items-stop room' others) (λ f i n. onward-items kinds room f i)
        (λ f f' i again. here (λ z. eqb z K.END) i _ _ _ _ (λ e. nexts gives)
        (λ e. here (λ z. eqb z K.NAME) i _ _ _ _
        (λ n. nexts (here (λ z. eqb z K.COLON) (i + 1) _ _ _ _
        (λ c. nexts (after-in _ _ (again (i + 1 + 1) (omega arith)) (λ xs j le. gives) (λ t xs j h. record { given = h })))
        (λ c. after _ _ (name-alike i (i + 1)) (λ s m le. wants K.SEMICOLON m _ _ (λ c. after-in _ _ (again (m + 1) (omega arith)) (λ xs j le. gives) (λ t xs j h. record { given = inr h }))))))
        (λ n. after-in _ _ (inner-alike i) (λ s m le. wants K.SEMICOLON m _ _ (λ c. after-in _ _ (again (m + 1) (omega arith)) (λ xs j le. gives) (λ t xs j h. record { given = inr h })))
        (λ t s m h. anything (want K.SEMICOLON others m) _ (λ c p. anything (items_of (statement room') f' others p) _ (λ xs j. record { given = inl h }))))))
        (suc (length kinds)) (suc (length others)) i (omega arith) (omega arith)

    choices_alike : (i : ℕ) → Alike (ChoicesAt room) i (choices_of (statement room) (suc (length kinds)) kinds i) (choices_of (statement room') (suc (length others)) others i)
    unfolding choices_of and_then look next Inside
    choices_alike i = list-alike (ChoicesAt room) (choices_of (statement room)) (choices_of (statement room')) (λ i. bad 4 i) (choices-stop room kinds)
        (choices-stop room' others) (λ f i n. onward-choices kinds room f i)
        (λ f f' i again. here (λ z. eqb z K.END) i _ _ _ _ (λ e. nexts gives)
        (λ e. after-in _ _ (inner-alike i) (λ s m le. wants K.SEMICOLON m _ _ (λ c. after-in _ _ (again (m + 1) (omega arith)) (λ xs j le. gives) (λ t xs j h. record { given = inr h })))
        (λ t s m h. anything (want K.SEMICOLON others m) _ (λ c p. anything (choices_of (statement room') f' others p) _ (λ xs j. record { given = inl h })))))
        (suc (length kinds)) (suc (length others)) i (omega arith) (omega arith)

    if-alike : (t : ℕ) (c : Condition) (i : ℕ) → Alike (StatementAt (suc room)) i (if_of (statement room) t c kinds i) (if_of (statement room') t c others i)
    unfolding if_of and_then look next Inside
    if-alike t c i = after-in _ _ (inner-alike i) (λ s m le. either-two (λ e z. eqb e K.ELSE && not (member z compounds)) m i m _ _ _ _ (omega arith) le
        (λ e. nexts (after-in _ _ (inner-alike (m + 1)) (λ u j le. gives) (λ t u j h. record { given = inr h })))
        (λ e. gives))
        (λ t s m h. either-gives (eqb (get_or others m 0) K.ELSE
        && not (member (get_or others i 0) compounds)) _ _ others m (anything (statement room' others (m + 1)) _ (λ u j. record { given = inl h }))
        (record { given = h }))

    module _ (proc-alike : (i : ℕ) → Alike (ProcedureAt room) i (procedure_of room kinds i) (procedure_of room' others i)) where
      body_alike : (i : ℕ) → Alike (BodyAt room) i (body_of (statement room) (procedure_of room) (suc (length kinds)) kinds i)
          (body_of (statement room') (procedure_of room') (suc (length others)) others i)
      unfolding body_of and_then look next Inside
      body_alike i = list-alike (BodyAt room) (body_of (statement room) (procedure_of room)) (body_of (statement room') (procedure_of room')) (λ i. bad 4 i)
          (body-stop room kinds) (body-stop room' others) (λ f i n. onward-body kinds room f i)
          (λ f f' i again. here (λ z. member z declarators) i _ _ _ _
          (λ d. after _ _ (declaration-alike i) (λ x m le. wants K.SEMICOLON m _ _ (λ c. after-in _ _ (again (m + 1) (omega arith)) (λ b j le. gives) (λ t b j h. record { given = h }))))
          (λ d. here (λ z. eqb z K.PROCEDURE) i _ _ _ _
          (λ p. after-in _ _ (proc-alike i) (λ x m le. wants K.SEMICOLON m _ _ (λ c.
          after-in _ _ (again (m + 1) (omega arith)) (λ b j le. gives) (λ t b j h. record { given = later-in-body room t x b h })))
          (λ t x m h. anything (want K.SEMICOLON others m) _ (λ c p. anything (body_of (statement room') (procedure_of room') f' others p) _ (λ b j. record { given = procedure-in-body room t x b h }))))
          (λ p. after-in _ _ (items_alike i) (λ xs j le. gives) (λ t xs j h. record { given = h }))))
          (suc (length kinds)) (suc (length others)) i (omega arith) (omega arith)

      construct-alike : (i : ℕ) → Alike (StatementAt (suc room)) i (construct_of (statement room) (procedure_of room) kinds i) (construct_of (statement room') (procedure_of room') others i)
      unfolding construct_of and_then look next Inside
      construct-alike i = sooner {j = i + 1} (omega arith)
          (either (λ z. eqb z K.BEGIN) i (i + 1) _ _ _ _ (omega arith) (λ b.
          after-in _ _ (body_alike (i + 1)) (λ x j le. gives) (λ t x j h. record { given = h }))
          (λ b. either (λ z. eqb z K.IF) i (i + 1) _ _ _ _ (omega arith) (λ f. after _ _ (condition-alike (i + 1)) (λ c m le. wants K.THEN m _ _ (λ t. if-alike i c (m + 1))))
          (λ f. either (λ z. eqb z K.WHILE) i (i + 1) _ _ _ _ (omega arith) (λ w.
          after _ _ (condition-alike (i + 1)) (λ c m le. wants K.DO m _ _ (λ d.
          after-in _ _ (inner-alike (m + 1)) (λ s j le. gives) (λ t s j h. record { given = h }))))
          (λ w. either (λ z. eqb z K.CASE) i (i + 1) _ _ _ _ (omega arith) (λ x.
          wants K.NAME (i + 1) _ _ (λ n. wants K.OF (i + 1 + 1) _ _ (λ o. wants K.BEGIN (i + 1 + 1 + 1) _ _ (λ b.
          after-in _ _ (choices_alike (i + 1 + 1 + 1 + 1)) (λ xs j le. gives) (λ t xs j h. record { given = h })))))
          (λ x. wants K.NAME (i + 1) _ _ (λ n. after _ _ (assignment-alike (i + 1) (i + 1 + 1)) (λ a m le. wants K.STEP m _ _ (λ x. wants K.NUMBER (m + 1) _ _ (λ v. wants K.UNTIL (m + 1 + 1) _ _ (λ y.
          after _ _ (operand-alike (m + 1 + 1 + 1)) (λ l q le. wants K.DO q _ _ (λ z. after-in _ _ (inner-alike (q + 1)) (λ s j le. gives) (λ t s j h. record { given = h })))))))))))))

  -- whatever a construct's reader gives, it is opened by the token where it began
  opened : (inner : Reader Statement) (proc : Reader Procedure) (i : ℕ) → Gives (λ x. Inside x 0 i) (construct_of inner proc others i)
  unfolding construct_of if_of and_then look next Inside
  opened inner proc i =
      either-gives (eqb (get_or others i 0) K.BEGIN) _ _ others (i + 1) (anything (body_of inner proc (suc (length others)) others (i + 1)) _ (λ b j. record { given = refl }))
      (either-gives (eqb (get_or others i 0) K.IF) _ _ others (i + 1)
      (anything (condition others (i + 1)) _ (λ c m. anything (want K.THEN others m) _ (λ t p.
      anything (inner others p) _ (λ s q. either-gives (eqb (get_or others q 0) K.ELSE
      && not (member (get_or others p 0) compounds)) _ _ others q (anything (inner others (q + 1)) _ (λ u j. record { given = refl }))
      (record { given = refl })))))
      (either-gives (eqb (get_or others i 0) K.WHILE) _ _ others (i + 1)
      (anything (condition others (i + 1)) _ (λ c m. anything (want K.DO others m) _ (λ t p. anything (inner others p) _ (λ s j. record { given = refl }))))
      (either-gives (eqb (get_or others i 0) K.CASE) _ _ others (i + 1)
      (anything (want K.NAME others (i + 1)) _ (λ n p. anything (want K.OF others p) _ (λ o q. anything (want K.BEGIN others q) _ (λ b r.
      anything (choices_of inner (suc (length others)) others r) _ (λ xs j. record { given = refl })))))
      (anything (want K.NAME others (i + 1)) _ (λ n p. anything (assignment_of n others p) _ (λ a m.
      anything (want K.STEP others m) _ (λ x q. anything (want K.NUMBER others q) _ (λ v r.
      anything (want K.UNTIL others r) _ (λ y u. anything (operand others u) _ (λ l w.
      anything (want K.DO others w) _ (λ z o. anything (inner others o) _ (λ s j. record { given = refl }))))))))))))

  named : (room i : ℕ) → Gives (λ p. i + 1 ≡ p.name) (procedure_of (suc room) others i)
  unfolding statement and_then next
  named room i = wanted K.NAME others (i + 1) _ (anything (in_parens K.NAME others (i + 1 + 1)) _ (λ r p.
      anything (want K.SEMICOLON others p) _ (λ c q. anything (statement room others q) _ (λ s j. record { given = refl }))))

  -- no room, and more of it
  deeper : {A : Type 0} {In : ℕ → A → Type 0} (i : ℕ) {r' : Result A} → Gives (In i) r' → Alike In i (bad 5 i) r'
  deeper i h = record { onward = omega arith; alike = inr (inr (refl, h)) }

  mutual
    unfolding statement and_then next

    statement-alike : (room room' : ℕ) → room ≤ room' → (i : ℕ) → Alike (StatementAt room) i (statement room kinds i) (statement room' others i)
    statement-alike zero zero h i = statement-of-alike zero _ _ i refuses
    statement-alike zero (suc room') h i = statement-of-alike zero _ _ i (deeper i (opened _ _ i))
    statement-alike (suc room) zero h i = absurd (omega arith)
    statement-alike (suc room) (suc room') h i = statement-of-alike (suc room) _ _ i
        (construct-alike room room' (λ j. statement-alike room room' (omega arith) j) (λ j. procedure-alike room room' (omega arith) j) i)

    procedure-alike : (room room' : ℕ) → room ≤ room' → (i : ℕ) → Alike (ProcedureAt room) i (procedure_of room kinds i) (procedure_of room' others i)
    procedure-alike zero zero h i = refuses
    procedure-alike zero (suc room') h i = deeper i (named room' i)
    procedure-alike (suc room) zero h i = absurd (omega arith)
    procedure-alike (suc room) (suc room') h i = nexts (wants K.NAME (i + 1) _ _ (λ n.
        wants-parens K.NAME (i + 1 + 1) _ _ (wants K.SEMICOLON (i + 1 + 1 + 1 + 1 + 1) _ _ (λ c.
        after-in _ _ (statement-alike room room' (omega arith) (i + 1 + 1 + 1 + 1 + 1 + 1)) (λ s j le. gives) (λ t s j z. record { given = z })))))

  pub program-alike : (room room' : ℕ) → room ≤ room' → (i : ℕ) → Alike (λ t x. Inside x room t) i (program_in room kinds i) (program_in room' others i)
  unfolding and_then look
  program-alike room room' h i = here (λ z. eqb z K.BEGIN) i _ _ _ _ (λ b.
      after-in _ _ (statement-alike room room' h i) (λ x m le. wants K.AT m _ _ (λ t. gives)) (λ t x m z.
      anything (want K.AT others m) _ (λ a j. record { given = z }))) (λ b. refuses)
