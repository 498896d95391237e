-- A refusal against a program that begins with the same tokens: the program would have been read, were it not for the refusal. So a refusal's reasons hold, and where
-- they hold it is given. Assumes nothing.
use mathlib.Core.Path.{◌≡◌, refl, sym, ◌∙◌, ap, subst}
use mathlib.Core.Logic.{◌⊎◌, inl, inr}
use mathlib.Core.Bool.{true}
use mathlib.Core.List.{List}
use Prim.Native.Nat.{ℕ, zero, suc, ◌+◌, ◌≤◌, ◌<◌, max}
use native.Mathlib.Omega.{arith}
use native.Mathlib.Nat.{le_antisymm}
use lib.ListN.{get_or}
use Rattle.base.specs.Lists.{member}
use Rattle.grammar.specs.Tree.{Statement, assign, call, apply, block, goto, null, if_then, if_else, while, for, choose, Body, declare, procedure, items, Items, ended, label, item, Choices, over, choice}
use Rattle.grammar.specs.Reader.{Result, ok, bad}
use Rattle.grammar.specs.Grammar.{nesting, program}
use Rattle.grammar.specs.Derives.{is_program, nesting_of, body_nesting, items_nesting, choices_nesting, Inside, InsideBody, InsideItems, InsideChoices, is_program_within, Begins, constructs}
use Rattle.grammar.specs.Refusals.{EachProgram, FourAt, FiveAt}
use Rattle.grammar.proofs.Kept.{fewer}
use Rattle.grammar.proofs.Sequences.{reach, Four, Five, read_right, refused-right, four-or-five, four, five}
use Rattle.grammar.proofs.Rules.{right-program}
use Rattle.grammar.proofs.Complete.{program_in, complete-program}
use Rattle.grammar.proofs.Alike.{Deeper, given_so, program-alike}

not-lt : {a b : ℕ} → (a < b → ⊥) → b ≤ a
not-lt h = omega arith

pub same_answer : {r : Result Statement} {x y : Statement} {j k : ℕ} → r ≡ ok x j → r ≡ ok y k → (x ≡ y) × (j ≡ k)
same_answer e f = (cc, cc)

ok-is-not-bad : {x : Statement} {j n t : ℕ} → ok x j ≡ bad n t → ⊥
ok-is-not-bad e = let z : ◌≡◌ {A = ℕ} 0 1 = cc in omega arith

same-refusal : {m n s t : ℕ} → ◌≡◌ {A = Result Statement} (bad m s) (bad n t) → (m ≡ n) × (s ≡ t)
same-refusal e = (cc, cc)

-- a refusal at t beside something that was read, alike up to t: it is 5, and what goes with it holds
of_two : (In : ℕ → Statement → Type 0) (r r' : Result Statement) {n t j : ℕ} {x : Statement} → r ≡ bad n t → r' ≡ ok x j → (r' ≡ r) ⊎ ((t < reach r) ⊎ Deeper In r r') → (n ≡ 5) × In t x
of_two In (ok a l) r' e f c = absurd (ok-is-not-bad e)
of_two In (bad m s) r' e f (inl g) = absurd (ok-is-not-bad (sym f ∙ g))
of_two In (bad m s) r' e f (inr (inl l)) = absurd (let z = (same-refusal e).1 in omega arith)
of_two In (bad m s) r' {x} e f (inr (inr (d, g))) = (sym (same-refusal e).0 ∙ d, subst (λ u. In u x) (same-refusal e).1 (given_so g f))

module _ (kinds : List ℕ) (i t : ℕ) where
  against : (n : ℕ) → program kinds i ≡ bad n t → EachProgram kinds i (t + 1) (λ x. (n ≡ 5) × Inside x nesting t)
  unfolding program
  against n e others s x j h =
      of_two (λ u y. Inside y nesting u) (program_in nesting kinds i) (program_in (max nesting (nesting_of x)) others i) e
      (complete-program others (max nesting (nesting_of x)) x i j h (omega arith))
      (program-alike kinds others t s nesting (max nesting (nesting_of x)) (omega arith) i).alike

-- ── what stands inside n constructs is one more ──

mutual
  unfolding Inside nesting_of

  inside-nesting : (x : Statement) (n t : ℕ) → Inside x n t → n < nesting_of x
  inside-nesting (assign a) n t h = absurd h
  inside-nesting (call a) n t h = absurd h
  inside-nesting (apply a b xs) n t h = absurd h
  inside-nesting (block a b) zero t h = omega arith
  inside-nesting (block a b) (suc n) t h = (let l = inside-body b n t h in omega arith)
  inside-nesting (goto a l) n t h = absurd h
  inside-nesting null n t h = absurd h
  inside-nesting (if_then a c s) zero t h = omega arith
  inside-nesting (if_then a c s) (suc n) t h = (let l = inside-nesting s n t h in omega arith)
  inside-nesting (if_else a c s e u) zero t h = omega arith
  inside-nesting (if_else a c s e u) (suc n) t (inl h) = (let l = inside-nesting s n t h in omega arith)
  inside-nesting (if_else a c s e u) (suc n) t (inr h) = (let l = inside-nesting u n t h in omega arith)
  inside-nesting (while a c s) zero t h = omega arith
  inside-nesting (while a c s) (suc n) t h = (let l = inside-nesting s n t h in omega arith)
  inside-nesting (for a f v l s) zero t h = omega arith
  inside-nesting (for a f v l s) (suc n) t h = (let l = inside-nesting s n t h in omega arith)
  inside-nesting (choose a r xs) zero t h = omega arith
  inside-nesting (choose a r xs) (suc n) t h = (let l = inside-choices xs n t h in omega arith)

  inside-body : (b : Body) (n t : ℕ) → InsideBody b n t → n < body_nesting b
  inside-body (declare d b) n t h = inside-body b n t h
  inside-body (procedure a r s b) zero t (inl h) = omega arith
  inside-body (procedure a r s b) zero t (inr h) = (let l = inside-body b zero t h in omega arith)
  inside-body (procedure a r s b) (suc n) t (inl h) = (let l = inside-nesting s n t h in omega arith)
  inside-body (procedure a r s b) (suc n) t (inr h) = (let l = inside-body b (suc n) t h in omega arith)
  inside-body (items xs) n t h = inside-items xs n t h

  inside-items : (xs : Items) (n t : ℕ) → InsideItems xs n t → n < items_nesting xs
  inside-items ended n t h = absurd h
  inside-items (label a xs) n t h = inside-items xs n t h
  inside-items (item s xs) n t (inl h) = (let l = inside-nesting s n t h in omega arith)
  inside-items (item s xs) n t (inr h) = (let l = inside-items xs n t h in omega arith)

  inside-choices : (xs : Choices) (n t : ℕ) → InsideChoices xs n t → n < choices_nesting xs
  inside-choices over n t h = absurd h
  inside-choices (choice s xs) n t (inl h) = (let l = inside-nesting s n t h in omega arith)
  inside-choices (choice s xs) n t (inr h) = (let l = inside-choices xs n t h in omega arith)

-- ── each refusal where its reasons hold, and there alone ──

begins-any : {most : ℕ} {kinds : List ℕ} {i n : ℕ} → Begins (is_program_within most) kinds i n → Begins is_program kinds i n
begins-any b = record { others = b.others; tree = b.tree; to = b.to; same = b.same; reach = b.reach; derived = b.derived.1 }

module _ (kinds : List ℕ) (i t : ℕ) where
  abbrev Answered : (number at : ℕ) → Type 0
  Answered n s = program kinds i ≡ bad n s

  pub four-at : Answered 4 t → FourAt kinds i t
  four-at e = record {
    before = (four (refused-right (right-program kinds i) e)).before;
    none = λ o s x j h. (let z = (against kinds i t 4 e o s x j h).0 in omega arith);
  }

  pub five-at : Answered 5 t → FiveAt kinds i t
  five-at e = (let f = five (refused-right (right-program kinds i) e) in record {
    before = f.before;
    there = begins-any f.there;
    deeper = λ o s x j h. inside-nesting x nesting t (against kinds i t 5 e o s x j h).1;
  })

  -- the word there opens a construct, which stands inside 64 in every program that begins so
  pub five-inside : Answered 5 t → (member (get_or kinds t 0) constructs ≡ true) × EachProgram kinds i (t + 1) (λ x. Inside x nesting t)
  five-inside e = ((five (refused-right (right-program kinds i) e)).word, λ o s x j h. (against kinds i t 5 e o s x j h).1)

  before : (n s : ℕ) → Answered n s → Begins (is_program_within nesting) kinds i s
  before n s e = go (refused-right (right-program kinds i) e).why
    where
      go : ((n ≡ 4) × Four (λ d. is_program_within (nesting + d)) kinds i s) ⊎ ((n ≡ 5) × Five (λ d. is_program_within (nesting + d)) kinds i s) → Begins (is_program_within nesting) kinds i s
      go (inl (z, b)) = b.before
      go (inr (z, b)) = b.before

  -- a program within the limit begins with the tokens before t: nothing is refused sooner
  none-sooner : Begins (is_program_within nesting) kinds i t → (n s : ℕ) → Answered n s → s < t → ⊥
  none-sooner b n s e l =
      let z = (against kinds i s n e b.others (fewer (omega arith) b.same) b.tree b.to b.derived.1).1 in
      let d = inside-nesting b.tree nesting s z in
      let w = b.derived.0 in
      omega arith

  -- and none with those up to t: nothing is read, and nothing refused later
  module _ (b : Begins (is_program_within nesting) kinds i t) (none : EachProgram kinds i (t + 1) (λ x. nesting < nesting_of x)) where
    none-later : (n s : ℕ) → Answered n s → t < s → ⊥
    none-later n s e l =
        let c = before n s e in
        let d = none c.others (fewer (omega arith) c.same) c.tree c.to c.derived.1 in
        let w = c.derived.0 in
        omega arith

    none_read : (x : Statement) (j : ℕ) → program kinds i ≡ ok x j → ⊥
    none_read x j e =
        let (w, h) = read_right (right-program kinds i) e in
        let d = none kinds (record { same = λ u l. refl }) x j h in
        omega arith

    there : (n : ℕ) × Answered n t
    there = go (program kinds i) refl
      where
        go : (r : Result Statement) → program kinds i ≡ r → (n : ℕ) × Answered n t
        go (ok x j) e = absurd (none_read x j e)
        go (bad n s) e = (n, e ∙ ap (bad n) (le_antisymm (not-lt (none-later n s e)) (not-lt (none-sooner b n s e))))

  pub at-four : FourAt kinds i t → Answered 4 t
  at-four f = (let (n, e) = there f.before (λ o s x j h. absurd (f.none o s x j h)) in go n e (four-or-five (refused-right (right-program kinds i) e)))
    where
      go : (n : ℕ) → Answered n t → (n ≡ 4) ⊎ (n ≡ 5) → Answered 4 t
      go n e (inl z) = rw z at e
      go n e (inr z) = (let c = (five-at (rw z at e)).there in absurd (f.none c.others c.same c.tree c.to c.derived))

  pub at_five : FiveAt kinds i t → Answered 5 t
  at_five f = (let (n, e) = there f.before f.deeper in go n e (four-or-five (refused-right (right-program kinds i) e)))
    where
      go : (n : ℕ) → Answered n t → (n ≡ 4) ⊎ (n ≡ 5) → Answered 5 t
      go n e (inl z) = (let c = f.there in absurd ((four-at (rw z at e)).none c.others c.same c.tree c.to c.derived))
      go n e (inr z) = rw z at e
