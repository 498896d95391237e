-- A rule's right side as a sequence of tokens and parts, and how a reader goes along it: what it has read so far leads to the whole, whatever the rest may be; and the
-- rest can always be supplied. So what it gives is derived, and where it refuses, the tokens before begin something of the rule. Assumes nothing.
use mathlib.Core.Path.{◌≡◌, refl, ◌∙◌, subst}
use mathlib.Core.Logic.{◌⊎◌, inl, inr}
use mathlib.Core.List.{List, [], ◌∷◌}
use mathlib.Core.Bool.{Bool, true, false}
use Prim.Native.Nat.{ℕ, zero, suc, ◌+◌, ◌≤◌, ◌<◌}
use native.Mathlib.Omega.{arith}
use lib.Dec.{eqb}
use lib.ListN.{get_or}
use borrow.Author.Tests.{eqb-true}
use Rattle.base.specs.Choose.{whether◌then◌else◌}
use Rattle.base.specs.Lists.{member}
use Rattle.base.proofs.Tests.{cases}
use Rattle.token.specs.Kinds as K
use Rattle.grammar.specs.Reader.{Result, ok, bad, Reader, and_then, want, want_one}
use Rattle.grammar.specs.Grammar.{in_parens}
use Rattle.grammar.specs.Derives.{Part, SameBefore, Begins, constructs}
use Rattle.grammar.proofs.Kept.{Kept, fewer}

-- ── the same tokens up to one, and there a token of kind k ──

put : List ℕ → (i k : ℕ) → List ℕ
put [] zero k = k ∷ []
put [] (suc i) k = 0 ∷ put [] i k
put (x ∷ l) zero k = k ∷ []
put (x ∷ l) (suc i) k = x ∷ put l i k

put-there : (l : List ℕ) (i k : ℕ) → get_or (put l i k) i 0 ≡ k
unfolding put
put-there [] zero k = refl
put-there [] (suc i) k = put-there [] i k
put-there (x ∷ l) zero k = refl
put-there (x ∷ l) (suc i) k = put-there l i k

put-before : (l : List ℕ) (i k t : ℕ) → t < i → get_or (put l i k) t 0 ≡ get_or l t 0
unfolding put
put-before l zero k t h = absurd (omega arith)
put-before [] (suc i) k zero h = refl
put-before [] (suc i) k (suc t) h = put-before [] i k t (omega arith)
put-before (x ∷ l) (suc i) k zero h = refl
put-before (x ∷ l) (suc i) k (suc t) h = put-before l i k t (omega arith)

after-put : (l : List ℕ) (i k : ℕ) {others : List ℕ} → SameBefore (i + 1) (put l i k) others → SameBefore i l others
after-put l i k s = record { same = λ t h. s.same t (omega arith) ∙ put-before l i k t h }

at-put : (l : List ℕ) (i k : ℕ) {others : List ℕ} → SameBefore (i + 1) (put l i k) others → get_or others i 0 ≡ k
at-put l i k s = s.same i (omega arith) ∙ put-there l i k

same-itself : {n : ℕ} {kinds : List ℕ} → SameBefore n kinds kinds
same-itself = record { same = λ t h. refl }

same_then : {m n : ℕ} {a b c : List ℕ} → m ≤ n → SameBefore m a b → SameBefore n b c → SameBefore m a c
same_then le s s' = record { same = λ t h. s'.same t (omega arith) ∙ s.same t h }

-- ── rules and sequences ──

-- a rule, with room for d constructs more than there is: what it derives depends on its own tokens alone, and something of it can stand after any tokens
pub record Rule (A : Type 0) : Type 1 where
  pub is : (d : ℕ) → List ℕ → A → Part
  pub kept : {d : ℕ} {kinds others : List ℕ} (a : A) → Kept kinds others (is d kinds a) (is d others a)
  pub more : (d : ℕ) (kinds : List ℕ) (a : A) (i j : ℕ) → is 0 kinds a i j → is d kinds a i j
  pub some : (d : ℕ) (kinds : List ℕ) (i : ℕ) → Begins (is d) kinds i i

-- a rule that knows no constructs
pub record Plain (A : Type 0) : Type 1 where
  pub is : List ℕ → A → Part
  pub kept : {kinds others : List ℕ} (a : A) → Kept kinds others (is kinds a) (is others a)
  pub some : (kinds : List ℕ) (i : ℕ) → Begins is kinds i i

abbrev pub always : {A : Type 0} → (List ℕ → A → Part) → (d : ℕ) → List ℕ → A → Part
always is d = is

abbrev pub plainly : {A : Type 0} → Plain A → Rule A
plainly r = record { is = always r.is; kept = λ a. r.kept a; more = λ d kinds a i j h. h; some = λ d kinds i. r.some kinds i }

-- what is still to come: tokens, whose numbers are handed on, and parts, whose trees are; and what is made of them
pub data Sequence (A : Type 0) : Type 1 where
  made : A → Sequence A
  token : (k : ℕ) → (ℕ → Sequence A) → Sequence A
  one_of : (k : ℕ) (ks : List ℕ) → member k ks ≡ true → (ℕ → Sequence A) → Sequence A
  part : {B : Type 0} → Rule B → (B → Sequence A) → Sequence A

-- "(name)" or "(number)"
abbrev pub parens : {A : Type 0} → (k : ℕ) → (ℕ → Sequence A) → Sequence A
parens k s = token K.OPEN (λ o. token k (λ t. token K.CLOSE (λ c. s t)))

-- P holds of whatever the sequence makes from token i on, and of the number of the token after it
unfoldable pub Each : {A : Type 0} → Sequence A → (d : ℕ) → List ℕ → ℕ → (A → ℕ → Type 0) → Type 0
Each (made a) d kinds i P = P a i
Each (token k s) d kinds i P = get_or kinds i 0 ≡ k → Each (s i) d kinds (i + 1) P
Each (one_of k ks e s) d kinds i P = member (get_or kinds i 0) ks ≡ true → Each (s i) d kinds (i + 1) P
Each (part {B} r s) d kinds i P = (b : B) (m : ℕ) → r.is d kinds b i m → Each (s b) d kinds m P

-- a list of kinds, the same before token i, in which the sequence stands there
record Supplied {A : Type 0} (s : Sequence A) (d : ℕ) (kinds : List ℕ) (i : ℕ) : Type 1 where
  others : List ℕ
  same : SameBefore i kinds others
  stands : (P : A → ℕ → Type 0) → Each s d others i P → (a : A) × (j : ℕ) × P a j × (i ≤ j)

supply : {A : Type 0} (s : Sequence A) (d : ℕ) (kinds : List ℕ) (i : ℕ) → Supplied s d kinds i
unfolding Each
supply (made a) d kinds i = record { others = kinds; same = same-itself; stands = λ P h. (a, i, h, omega arith) }
supply (token k s) d kinds i =
    let x = supply (s i) d (put kinds i k) (i + 1) in
    record {
      others = x.others;
      same = after-put kinds i k x.same;
      stands = λ P h. (let (a, j, p, le) = x.stands P (h (at-put kinds i k x.same)) in (a, j, p, omega arith));
    }
supply (one_of k ks e s) d kinds i =
    let x = supply (s i) d (put kinds i k) (i + 1) in
    record {
      others = x.others;
      same = after-put kinds i k x.same;
      stands = λ P h. (let (a, j, p, le) = x.stands P (h (rw (at-put kinds i k x.same) e)) in (a, j, p, omega arith));
    }
supply (part r s) d kinds i =
    let b = r.some d kinds i in
    let x = supply (s b.tree) d b.others b.to in
    record {
      others = x.others;
      same = same_then b.reach b.same x.same;
      stands = λ P h. (let (a, j, p, le) = x.stands P (h b.tree b.to ((r.kept b.tree).stays x.same b.derived)) in let l = b.reach in (a, j, p, omega arith));
    }

-- ── a reader along a sequence ──

-- the token that an answer names: where it ended, or what it refused
abbrev pub reach : {A : Type 0} → Result A → ℕ
reach (ok a j) = j
reach (bad n t) = t

module _ {A : Type 0} (is : (d : ℕ) → List ℕ → A → Part) (kinds : List ℕ) (i : ℕ) where
  -- the tokens from i up to p, and then the sequence, are the whole
  pub record Leads (s : Sequence A) (p : ℕ) : Type 0 where
    pub from : i ≤ p
    pub whole : (d : ℕ) (others : List ℕ) → SameBefore p kinds others → Each s d others p (λ a j. is d others a i j)

  -- refusal 4 at t: the tokens before t begin something of the rule
  pub record Four (t : ℕ) : Type 0 where
    pub before : Begins (is 0) kinds i t

  -- refusal 5 at t: so they do; and those up to t, which is one of the words that open a construct, begin something of the rule with one construct more
  pub record Five (t : ℕ) : Type 0 where
    pub before : Begins (is 0) kinds i t
    pub there : Begins (is 1) kinds i (t + 1)
    pub word : member (get_or kinds t 0) constructs ≡ true

  pub record Refused (number t : ℕ) : Type 0 where
    pub onward : i ≤ t
    pub why : ((number ≡ 4) × Four t) ⊎ ((number ≡ 5) × Five t)

  abbrev Answers : Result A → Type 0
  Answers (ok a j) = is 0 kinds a i j
  Answers (bad n t) = Refused n t

  -- a reader's answer from token i on is right: what it gives is derived, and what it refuses could be derived up to there
  pub record Right (r : Result A) : Type 0 where
    pub right : Answers r

module _ {A : Type 0} {is : (d : ℕ) → List ℕ → A → Part} {kinds : List ℕ} {i : ℕ} where
  pub read_right : {r : Result A} {a : A} {j : ℕ} → Right is kinds i r → r ≡ ok a j → is 0 kinds a i j
  read_right h e = subst (Answers is kinds i) e h.right

  pub refused-right : {r : Result A} {n t : ℕ} → Right is kinds i r → r ≡ bad n t → Refused is kinds i n t
  refused-right h e = subst (Answers is kinds i) e h.right

  -- which refusal it is, by its number
  pub four-or-five : {n t : ℕ} → Refused is kinds i n t → (n ≡ 4) ⊎ (n ≡ 5)
  four-or-five {n} {t} h = go h.why
    where
      go : ((n ≡ 4) × Four is kinds i t) ⊎ ((n ≡ 5) × Five is kinds i t) → (n ≡ 4) ⊎ (n ≡ 5)
      go (inl (e, b)) = inl e
      go (inr (e, b)) = inr e

  pub four : {t : ℕ} → Refused is kinds i 4 t → Four is kinds i t
  four {t} h = go 4 refl h.why
    where
      go : (n : ℕ) → n ≡ 4 → ((n ≡ 4) × Four is kinds i t) ⊎ ((n ≡ 5) × Five is kinds i t) → Four is kinds i t
      go n e (inl (f, b)) = b
      go n e (inr (f, b)) = absurd (omega arith)

  pub five : {t : ℕ} → Refused is kinds i 5 t → Five is kinds i t
  five {t} h = go 5 refl h.why
    where
      go : (n : ℕ) → n ≡ 5 → ((n ≡ 4) × Four is kinds i t) ⊎ ((n ≡ 5) × Five is kinds i t) → Five is kinds i t
      go n e (inl (f, b)) = absurd (omega arith)
      go n e (inr (f, b)) = b

  pub right-onward : {r : Result A} → ((a : A) → Kept kinds kinds (is 0 kinds a) (is 0 kinds a)) → Right is kinds i r → i ≤ reach r
  right-onward {r = ok a j} kept h = (kept a).rises h.right
  right-onward {r = bad n t} kept h = h.right.onward

  pub leads-token : {k : ℕ} {s : ℕ → Sequence A} {p : ℕ} → Leads is kinds i (token k s) p → get_or kinds p 0 ≡ k → Leads is kinds i (s p) (p + 1)
  unfolding Each
  leads-token {p} l h = record { from = (let f = l.from in omega arith); whole = λ d o s. l.whole d o (fewer (omega arith) s) (s.same p (omega arith) ∙ h) }

  pub leads_one : {k : ℕ} {ks : List ℕ} {e : member k ks ≡ true} {s : ℕ → Sequence A} {p : ℕ} → Leads is kinds i (one_of k ks e s) p → member (get_or kinds p 0) ks ≡ true → Leads is kinds i (s p) (p + 1)
  unfolding Each
  leads_one {p} l h = record { from = (let f = l.from in omega arith); whole = λ d o s. l.whole d o (fewer (omega arith) s) (rw (s.same p (omega arith)) h) }

  pub leads-part : {B : Type 0} {r : Rule B} {s : B → Sequence A} {b : B} {p m : ℕ} → Leads is kinds i (part r s) p → r.is 0 kinds b p m → Leads is kinds i (s b) m
  unfolding Each
  leads-part {r} {b} {p} {m} l h =
      let le = (r.kept {d = 0} {kinds = kinds} {others = kinds} b).rises h in
      record { from = (let f = l.from in omega arith); whole = λ d o s. l.whole d o (fewer le s) b m ((r.kept b).stays s (r.more d kinds b p m h)) }

  -- what leads to the whole begins it
  pub leads-begins : (d : ℕ) {s : Sequence A} {p : ℕ} → Leads is kinds i s p → Begins (is d) kinds i p
  leads-begins d {s} {p} l =
      let x = supply s d kinds p in
      let (a, j, h, le) = x.stands _ (l.whole d x.others x.same) in
      record { others = x.others; tree = a; to = j; same = x.same; reach = le; derived = h }

  pub part-begins : (d : ℕ) {B : Type 0} {r : Rule B} {s : B → Sequence A} {p n : ℕ} → Leads is kinds i (part r s) p → p ≤ n → Begins (r.is d) kinds p n → Begins (is d) kinds i n
  unfolding Each
  part-begins d {r} {s} {p} {n} l le b =
      let x = supply (s b.tree) d b.others b.to in
      let all : SameBefore n kinds x.others = same_then b.reach b.same x.same in
      let (a, j, h, on) = x.stands _ (l.whole d x.others (fewer le all) b.tree b.to ((r.kept b.tree).stays x.same b.derived)) in
      record { others = x.others; tree = a; to = j; same = all; reach = (let q = b.reach in omega arith); derived = h }

  part-refused : {B : Type 0} {r : Rule B} {s : B → Sequence A} {p n t : ℕ} → Leads is kinds i (part r s) p → Refused r.is kinds p n t → Refused is kinds i n t
  part-refused {r} {p} {n} {t} l h = record { onward = (let f = l.from in let o = h.onward in omega arith); why = go h.why }
    where
      go : ((n ≡ 4) × Four r.is kinds p t) ⊎ ((n ≡ 5) × Five r.is kinds p t) → ((n ≡ 4) × Four is kinds i t) ⊎ ((n ≡ 5) × Five is kinds i t)
      go (inl (e, b)) = inl (e, record { before = part-begins 0 l h.onward b.before })
      go (inr (e, b)) = inr (e, record { before = part-begins 0 l h.onward b.before; there = part-begins 1 l (let o = h.onward in omega arith) b.there; word = b.word })

  -- at its beginning a rule's whole right side is to come
  pub starts : {s : Sequence A} → ((d : ℕ) (others : List ℕ) → Each s d others i (λ a j. is d others a i j)) → Leads is kinds i s i
  starts h = record { from = omega arith; whole = λ d o s. h d o }

  pub gives : {a : A} {p : ℕ} → Leads is kinds i (made a) p → Right is kinds i (ok a p)
  unfolding Each
  gives l = record { right = l.whole 0 kinds same-itself }

  pub refuses : {s : Sequence A} {p : ℕ} → Leads is kinds i s p → Right is kinds i (bad 4 p)
  refuses l = record { right = record { onward = l.from; why = inl (refl, record { before = leads-begins 0 l }) } }

  -- a token that is wanted; whatever leads to the whole here begins it
  pub needs : {s : Sequence A} {p : ℕ} (k : ℕ) (f : ℕ → ℕ → Result A) → Leads is kinds i s p → (get_or kinds p 0 ≡ k → Right is kinds i (f p (p + 1))) → Right is kinds i (and_then (want k kinds p) f)
  unfolding and_then want
  needs {p} k f l h = cases (eqb (get_or kinds p 0) k) (λ e. rw e (h (eqb-true _ _ e))) (λ e. rw e (refuses l))

  pub wants : {k : ℕ} {s : ℕ → Sequence A} {p : ℕ} (f : ℕ → ℕ → Result A) → Leads is kinds i (token k s) p
      → (get_or kinds p 0 ≡ k → Leads is kinds i (s p) (p + 1) → Right is kinds i (f p (p + 1))) → Right is kinds i (and_then (want k kinds p) f)
  wants {k} f l h = needs k f l (λ e. h e (leads-token l e))

  -- a token of one of the kinds; whatever leads to the whole here begins it
  pub wants-one : {s : Sequence A} {p : ℕ} (ks : List ℕ) (f : ℕ → ℕ → Result A) → Leads is kinds i s p
      → (member (get_or kinds p 0) ks ≡ true → Right is kinds i (f p (p + 1))) → Right is kinds i (and_then (want_one ks kinds p) f)
  unfolding and_then want_one
  wants-one {p} ks f l h = cases (member (get_or kinds p 0) ks) (λ e. rw e (h e)) (λ e. rw e (refuses l))

  nested : {B C : Type 0} (r : Result B) (g : B → ℕ → Result C) (f : C → ℕ → Result A) → Right is kinds i (and_then r (λ a j. and_then (g a j) f)) → Right is kinds i (and_then (and_then r g) f)
  unfolding and_then
  nested (ok a j) g f h = h
  nested (bad n t) g f h = h

  given : {B : Type 0} {b : B} {p : ℕ} (f : B → ℕ → Result A) → Right is kinds i (f b p) → Right is kinds i (and_then (ok b p) f)
  unfolding and_then
  given f h = h

  pub wants-parens : {k : ℕ} {s : ℕ → Sequence A} {p : ℕ} (f : ℕ → ℕ → Result A) → Leads is kinds i (parens k s) p
      → (Leads is kinds i (s (p + 1)) (p + 1 + 1 + 1) → Right is kinds i (f (p + 1) (p + 1 + 1 + 1))) → Right is kinds i (and_then (in_parens k kinds p) f)
  wants-parens f l h = nested _ _ _ (wants _ l (λ o l1. nested _ _ _ (wants _ l1 (λ t l2. nested _ _ _ (wants _ l2 (λ c l3. given _ (h l3)))))))

  -- a part's reader, and then another
  pub reads : {B : Type 0} {b : Rule B} {s : B → Sequence A} {p : ℕ} {r : Result B} (f : B → ℕ → Result A) → Leads is kinds i (part b s) p
      → Right b.is kinds p r → ((a : B) (m : ℕ) → b.is 0 kinds a p m → Leads is kinds i (s a) m → Right is kinds i (f a m)) → Right is kinds i (and_then r f)
  unfolding and_then
  reads {r = ok a m} f l h k = k a m h.right (leads-part l h.right)
  reads {r = bad n t} f l h k = record { right = part-refused l h.right }

  -- a choice between readers
  pub either : (t : Bool) (m n : Reader A) (p : ℕ) → (t ≡ true → Right is kinds i (m kinds p)) → (t ≡ false → Right is kinds i (n kinds p)) → Right is kinds i ((whether t then m else n) kinds p)
  either true m n p h k = h refl
  either false m n p h k = k refl
