-- What a reader who knows only the grammar may rely on: the reader of programs against the rules of `Derives`, which are the paper's, and the refusals of `Refusals`. Each
-- is proved by citation.
use mathlib.Core.Path.{◌≡◌, refl, sym, ap, ◌∙◌}
use mathlib.Core.Logic.{◌⊎◌, inl, inr, ◌↔◌}
use mathlib.Core.Bool.{Bool, true, false}
use mathlib.Core.List.{List, []}
use Prim.Native.Nat.{ℕ, ◌+◌, ◌≤◌, max}
use native.Mathlib.Omega.{arith}
use lib.Dec.{eqb}
use lib.ListN.{length, get_or}
use borrow.Author.Tests.{eqb-true, eqb-false}
use Rattle.base.specs.Lists.{member}
use Rattle.token.specs.Kinds as K
use Rattle.grammar.specs.Tree.{Statement}
use Rattle.grammar.specs.Reader.{Result, ok, bad}
use Rattle.grammar.specs.Grammar.{nesting, program}
use Rattle.grammar.specs.Derives.{is_program, nesting_of, Inside, is_program_within, constructs}
use Rattle.grammar.specs.Refusals.{EachProgram, FourAt, FiveAt, Grammatical, derived, four, five}
use Rattle.grammar.specs.Events.{events_of}
use Rattle.grammar.specs.Texts.{Text}
use Rattle.grammar.proofs.Tests.{real}
use Rattle.grammar.proofs.Texts.{program-text}
use Rattle.grammar.proofs.Sequences.{read_right, refused-right, four-or-five}
use Rattle.grammar.proofs.Rules.{right-program}
use Rattle.grammar.proofs.Complete.{complete-program}
use Rattle.grammar.proofs.Refused.{same_answer, four-at, five-at, five-inside, at-four, at_five}

-- what the reader of programs answers
abbrev pub answer_of : {kinds : List ℕ} {i : ℕ} → Grammatical kinds i → Result Statement
answer_of (derived x j h) = ok x j
answer_of (four t h) = bad 4 t
answer_of (five t h) = bad 5 t

pub not-four : {n : ℕ} → (n ≡ 4) ⊎ (n ≡ 5) → (n ≡ 4 → ⊥) → n ≡ 5
not-four (inl e) h = absurd (h e)
not-four (inr e) h = e

module _ (kinds : List ℕ) (i : ℕ) where
  -- what is read is a program of the grammar within the limit of nesting, made of exactly the tokens from i up to j; and every such program is read, as itself
  pub accepted : (x : Statement) (j : ℕ) → program kinds i ≡ ok x j ↔ is_program_within nesting kinds x i j
  unfolding program
  accepted x j = (read_right (right-program kinds i), λ (n, h). complete-program kinds nesting x i j h n)

  -- the grammar is unambiguous: the tokens from i on are one program at most, whatever its nesting
  pub one-program : (x y : Statement) (j k : ℕ) → is_program kinds x i j → is_program kinds y i k → (x ≡ y) × (j ≡ k)
  one-program x y j k h g = same_answer
      (complete-program kinds (max (nesting_of x) (nesting_of y)) x i j h (omega arith))
      (complete-program kinds (max (nesting_of x) (nesting_of y)) y i k g (omega arith))

  -- what is not read is refused with 4 or 5
  pub refusals : (n t : ℕ) → program kinds i ≡ bad n t → (n ≡ 4) ⊎ (n ≡ 5)
  refusals n t e = four-or-five (refused-right (right-program kinds i) e)

  -- "given exactly when"
  pub refusal-4 : (t : ℕ) → program kinds i ≡ bad 4 t ↔ FourAt kinds i t
  refusal-4 t = (four-at kinds i t, at-four kinds i t)

  pub refusal-5 : (t : ℕ) → program kinds i ≡ bad 5 t ↔ FiveAt kinds i t
  refusal-5 t = (five-at kinds i t, at_five kinds i t)

  -- "BEGIN, IF, WHILE, FOR or PROCEDURE inside 64 such constructs": one of these words stands where 5 is given, and what it opens stands inside 64 in every program that
  -- begins with the tokens up to it
  pub five-opens : (t : ℕ) → FiveAt kinds i t → (member (get_or kinds t 0) constructs ≡ true) × EachProgram kinds i (t + 1) (λ x. Inside x nesting t)
  five-opens t f = five-inside kinds i t (at_five kinds i t f)

  -- the tokens from i on are a program, or refused with 4 or with 5: the reader tells which
  unfoldable pub grammatical : Grammatical kinds i
  grammatical = told (program kinds i) refl
    where
      refused : (n t : ℕ) → program kinds i ≡ bad n t → (b : Bool) → eqb n 4 ≡ b → Grammatical kinds i
      refused n t e true b = four t ((refusal-4 t).0 (e ∙ ap (λ (m : ℕ). bad m t) (eqb-true n 4 b)))
      refused n t e false b = five t ((refusal-5 t).0 (e ∙ ap (λ (m : ℕ). bad m t) (not-four (refusals n t e) (eqb-false n 4 b))))

      told : (r : Result Statement) → program kinds i ≡ r → Grammatical kinds i
      told (ok x j) e = derived x j ((accepted x j).0 e)
      told (bad n t) e = refused n t e (eqb n 4) refl

  -- and nothing else is true of them: whichever is told, the reader answers it
  pub one_told : (g : Grammatical kinds i) → answer_of g ≡ program kinds i
  one_told (derived x j h) = sym ((accepted x j).1 h)
  one_told (four t h) = sym ((refusal-4 t).1 h)
  one_told (five t h) = sym ((refusal-5 t).1 h)

  -- ── what passes over the tree take from this ──

  pub read-is-program : (x : Statement) (j : ℕ) → program kinds i ≡ ok x j → is_program kinds x i j
  read-is-program x j e = ((accepted x j).0 e).1

  pub read-is-within : (x : Statement) (j : ℕ) → program kinds i ≡ ok x j → nesting_of x ≤ nesting
  read-is-within x j e = ((accepted x j).0 e).0

  pub program-is-read : (x : Statement) (j : ℕ) → is_program kinds x i j → nesting_of x ≤ nesting → program kinds i ≡ ok x j
  program-is-read x j h n = (accepted x j).1 (n, h)

  -- its events stand in blocks and procedures as they nest, each at tokens of its own, one after the other
  pub program-is-text : (x : Statement) (j : ℕ) → is_program kinds x i j → Text kinds (events_of x) [] i j
  program-is-text x j h = program-text kinds x i j h

  -- and all its tokens are of the text
  pub program-inside : (x : Statement) (j : ℕ) → is_program kinds x i j → j ≤ length kinds
  unfolding is_program
  program-inside x j (m, h, (a, q)) = (let l = real kinds m K.AT (omega arith) a in omega arith)
