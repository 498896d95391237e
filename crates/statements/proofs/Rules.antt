-- The rules that hold statements, as the code reads them. Assumes nothing.
use mathlib.Core.Path.{◌≡◌, refl, ◌∙◌, sym, ap, subst}
use mathlib.Core.Bool.{Bool, true, false, not, ◌&&◌}
use mathlib.Core.List.{List, [], ◌∷◌, ◌++◌}
use Prim.Native.Nat.{ℕ, zero, suc, ◌+◌, ◌-◌, ◌≤◌, ◌<◌}
use native.Mathlib.Nat.{add-zero, zero-add}
use native.Mathlib.Omega.{arith}
use borrow.Author.Tests.{ne_eqb, eqb-true}
use lib.Dec.{eqb}
use lib.ListN.{get_or, length, take, set}
use Rattle.base.specs.Choose.{whether◌then◌else◌}
use Rattle.base.specs.Lists.{member}
use Rattle.base.proofs.Tests.{cases, both}
use Rattle.token.specs.Kinds as K
use Rattle.grammar.specs.Tree.{Statement, while, choose, for, item, Choices, choice}
use Rattle.grammar.specs.Events.{choices_count}
use Rattle.grammar.specs.Reader.{Result, ok, bad, Reader, and_then, look, next, want, refuse}
use Rattle.grammar.specs.Grammar.{fuelled, openers, choices_of, after_name, statement_of, items_of, if_of, construct_of, statement, procedure_of}
use Rattle.grammar.proofs.Tests.{real}
use Rattle.readers.specs.Kinds.{Kind}
use Rattle.phrases.specs.Parts.{head_of, case_head, control_of, limit_of, procedure_head}
use Rattle.tape.specs.Events as E
use Rattle.tape.specs.Tape.{event, tape_statement, tape_choices}
use Rattle.readers.proofs.Choices.{among}
use Rattle.readers.proofs.Reading.{pushed, put-before}
use Rattle.statements.specs.Parts.{if_part, while_part, case_part, for_part}

-- ── readers regrouped ──
assoc : {A B C : Type 0} (m : Result A) (f : A → ℕ → Result B) (g : B → ℕ → Result C) → and_then (and_then m f) g ≡ and_then m (λ a j. and_then (f a j) g)
unfolding and_then
assoc (ok a j) f g = refl
assoc (bad n t) f g = refl

-- a token that was taken has the number at which it was
its-number : {B : Type 0} (k : ℕ) (ks : List ℕ) (i : ℕ) (f : ℕ → ℕ → Result B) → and_then (want k ks i) f ≡ and_then (want k ks i) (λ _ j. f i j)
unfolding want and_then
its-number k ks i f = go (eqb (get_or ks i 0) k)
  where
    go : (t : Bool) → and_then (whether t then ok i (i + 1) else bad 4 i) f ≡ and_then (whether t then ok i (i + 1) else bad 4 i) (λ _ j. f i j)
    go true = refl
    go false = refl

module _ (inner : Reader Statement) (t : ℕ) (ks : List ℕ) (i : ℕ) where
  pub if-parts : and_then (head_of K.THEN ks i) (λ c j. if_of inner t c ks j) ≡ if_part inner t ks i
  unfolding and_then
  if-parts = simp assoc

  pub while-parts : and_then (head_of K.DO ks i) (λ c j. and_then (inner ks j) (λ s o. ok (while t c s) o)) ≡ while_part inner t ks i
  unfolding and_then
  while-parts = simp assoc

  pub case-parts : and_then (case_head ks i) (λ _ j. and_then (fuelled (choices_of inner) ks j) (λ xs o. ok (choose t i xs) o)) ≡ case_part inner t ks i
  unfolding and_then
  case-parts = simp (assoc, its-number)

  pub for-parts : and_then (control_of ks i) (λ a j. and_then (limit_of ks j) (λ l o. and_then (inner ks o) (λ s q. ok (for t a j l s) q))) ≡ for_part inner t ks i
  unfolding and_then
  for-parts = simp (assoc, its-number)

-- ── the room for constructs ──
back : (room : ℕ) → (room ≡ 0 → ⊥) → room ≡ suc (room - 1)
back room h = omega arith

module _ (room : ℕ) {ks : List ℕ} {i k : ℕ} {b : Bool} (h : Kind ks i k) (e : b ≡ member k openers) where
  pub no-construct : b ≡ false → statement_of (refuse 4) ks i ≡ statement room ks i
  unfolding statement statement_of and_then look
  no-construct f = go room
    where
      go : (room : ℕ) → statement_of (refuse 4) ks i ≡ statement room ks i
      go zero = rw (among openers h e f)
      go (suc room) = rw (among openers h e f)

  pub too-deep : b ≡ true → room ≡ 0 → bad 5 i ≡ statement room ks i
  unfolding statement statement_of and_then look
  too-deep f z = rw (z, among openers h e f)

  pub construct : b ≡ true → (room ≡ 0 → ⊥) → construct_of (statement (room - 1)) (procedure_of (room - 1)) ks i ≡ statement room ks i
  unfolding statement statement_of and_then look
  construct f z = subst (λ (x : ℕ). construct_of (statement (room - 1)) (procedure_of (room - 1)) ks i ≡ statement x ks i) (sym (back room z)) (rw (among openers h e f))

module _ (room : ℕ) (ks : List ℕ) (i : ℕ) where
  pub procedure-too-deep : room ≡ 0 → bad 5 i ≡ procedure_of room ks i
  unfolding procedure_of
  procedure-too-deep z = rw z

  pub procedure-parts : (room ≡ 0 → ⊥) → and_then (procedure_head ks (i + 1)) (λ r j.
      and_then (statement (room - 1) ks j) (λ s o. ok (record { name = i + 1; return = r; body = s }) o)) ≡ procedure_of room ks i
  unfolding procedure_of and_then next
  procedure-parts z = subst (λ (x : ℕ). and_then (procedure_head ks (i + 1)) (λ r j.
      and_then (statement (room - 1) ks j) (λ s o. ok (record { name = i + 1; return = r; body = s }) o)) ≡ procedure_of x ks i) (sym (back room z)) (simp (
        assoc,
        its-number,
      ))

-- ── an item of a block ──
named : (room : ℕ) (ks : List ℕ) (i : ℕ) → get_or ks i 0 ≡ K.NAME → statement room ks i ≡ after_name i ks (i + 1)
unfolding statement statement_of and_then look next
named zero ks i e = rw e
named (suc room) ks i e = rw e

pub else-inside : (ks : List ℕ) (i k : ℕ) {b : Bool} → b ≡ (eqb (get_or ks i 0) K.ELSE && not (member k (K.IF ∷ K.WHILE ∷ K.FOR ∷ []))) → b ≡ true → i < length ks
else-inside ks i k e f = real ks i K.ELSE (omega arith) (eqb-true _ _ (both (eqb (get_or ks i 0) K.ELSE) (not (member k (K.IF ∷ K.WHILE ∷ K.FOR ∷ []))) (sym e ∙ f)).0)

module _ (ks : List ℕ) (i : ℕ) {b : Bool} (e : b ≡ (eqb (get_or ks i 0) K.NAME && eqb (get_or ks (i + 1) 0) K.COLON)) where
  pub label-kinds : b ≡ true → (get_or ks i 0 ≡ K.NAME) × (get_or ks (i + 1) 0 ≡ K.COLON)
  label-kinds f =
      let (g, h) = both (eqb (get_or ks i 0) K.NAME) (eqb (get_or ks (i + 1) 0) K.COLON) (sym e ∙ f) in
      (eqb-true _ _ g, eqb-true _ _ h)

  pub label_inside : b ≡ true → i + 1 < length ks
  label_inside f = real ks (i + 1) K.COLON (omega arith) (label-kinds f).1

  pub item-is : (room f : ℕ) → b ≡ false → (get_or ks i 0 ≡ K.END → ⊥)
      → and_then (statement room ks i) (λ s j. and_then (want K.SEMICOLON ks j) (λ _ o. and_then (items_of (statement room) f ks o) (λ is q. ok (item s is) q))) ≡ items_of (statement room) (suc f) ks i
  unfolding items_of and_then look next
  item-is room f g n = cases (eqb (get_or ks i 0) K.NAME) yes no
    where
      Goal : Type 0
      Goal = and_then (statement room ks i) (λ s j. and_then (want K.SEMICOLON ks j) (λ _ o.
          and_then (items_of (statement room) f ks o) (λ is q. ok (item s is) q))) ≡ items_of (statement room) (suc f) ks i

      yes : eqb (get_or ks i 0) K.NAME ≡ true → Goal
      yes x =
          let y = eqb-true (get_or ks i 0) K.NAME x in
          let z : eqb (get_or ks (i + 1) 0) K.COLON ≡ false = sym (rw x at e) ∙ g in
          rw (named room ks i y, y, z)

      no : eqb (get_or ks i 0) K.NAME ≡ false → Goal
      no x = rw (ne_eqb _ K.END n, x)

-- ── the list of a CASE ──

-- the name before the list is the token at which its head begins
pub case-name : (ks : List ℕ) (i : ℕ) {a j : ℕ} → case_head ks i ≡ ok a j → a ≡ i
unfolding and_then
case-name ks i {a} {j} h =
    let e : case_head ks i ≡ and_then (case_head ks i) (λ _ n. ok i n) = simp (assoc, its-number) in
    let f : ok a j ≡ ok i j = sym h ∙ (e ∙ ap (λ (m : Result ℕ). and_then m (λ _ n. ok i n)) h) in cc

-- the rest of a list, c of whose statements stand before the place q, with how many there are in all put at p
abbrev pub Counted : (n p c q : ℕ) (now : List ℕ) (v : ℕ) (after : List ℕ) → Choices → Type 0
Counted n p c q now v after xs = (k : List ℕ) → take v after ++ k ≡ set (take q now ++ tape_choices n xs (event E.END-CASE n ∷ k)) p (event E.LISTED (c + choices_count xs))

-- the number put at p, the list being over
pub count-over : (p c q : ℕ) (now k : List ℕ) → p < q → q ≤ length now → take q (set now p (event E.LISTED c)) ++ k ≡ set (take q now ++ k) p (event E.LISTED (c + 0))
count-over p c q now k h l = rw (add-zero c) (put-before now p q (event E.LISTED c) k h l)

-- one statement more before the rest
pub count-one : (n p c : ℕ) (x : Statement) (xs : Choices) (now new k : List ℕ) → ((k : List ℕ) → new ++ k ≡ now ++ tape_statement x (event E.END-CHOICE n ∷ k))
    → set (new ++ tape_choices n xs k) p (event E.LISTED (c + 1 + choices_count xs)) ≡ set (now ++ tape_choices n (choice x xs) k) p (event E.LISTED (c + choices_count (choice x xs)))
unfolding tape_choices
count-one n p c x xs now new k e = let f : c + 1 + choices_count xs ≡ c + (choices_count xs + 1) = omega arith in rw (f, e (tape_choices n xs k))

-- the whole list, behind the register that chooses
pub count-all : (t n p : ℕ) (xs : Choices) (before now k : List ℕ) → p < length before → ((k : List ℕ) → now ++ k ≡ take (p + 1) before ++ (event E.CHOSEN n ∷ k))
    → set (now ++ tape_choices n xs (event E.END-CASE n ∷ k)) p (event E.LISTED (0 + choices_count xs)) ≡ take p before ++ tape_statement (choose t n xs) k
unfolding tape_statement
count-all t n p xs before now k h e =
    rw (zero-add (choices_count xs), e (tape_choices n xs (event E.END-CASE n ∷ k)))
    (sym (put-before before p (p + 1) (event E.LISTED (choices_count xs)) _ (omega arith) (omega arith)) ∙ pushed before p (event E.LISTED (choices_count xs)) h _)
