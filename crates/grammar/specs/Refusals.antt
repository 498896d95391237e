-- Document 01, "Numbers answered", rows 4 and 5, over the paper's grammar alone: where each is given. That the reader of programs gives them exactly there is shown in
-- proofs/Theorems.
use Rattle.std.specs.Prelude.{List, ℕ, ◌+◌, ◌<◌}
use Rattle.grammar.specs.Tree.{Statement}
use Rattle.grammar.specs.Grammar.{nesting}
use Rattle.grammar.specs.Derives.{is_program, nesting_of, is_program_within, SameBefore, Begins}

-- every program from token i on, in whatever tokens begin with those before number n
abbrev pub EachProgram : (kinds : List ℕ) (i n : ℕ) → (Statement → Type 0) → Type 0
EachProgram kinds i n P = (others : List ℕ) → SameBefore n kinds others → (x : Statement) (j : ℕ) → is_program others x i j → P x

-- "4: no program begins with the tokens up to here". Nesting plays no part: there is none however deep. With the tokens before, one could still be written, even within the
-- limit of nesting, so neither 4 nor 5 has a smaller place.
pub record FourAt (kinds : List ℕ) (i t : ℕ) : Type 0 where
  pub before : Begins (is_program_within nesting) kinds i t
  pub none : EachProgram kinds i (t + 1) (λ x. ⊥)

-- "5: BEGIN, IF, WHILE, FOR or PROCEDURE inside 64 such constructs". Some program begins with the tokens up to here, but each that does is nested deeper; with the tokens
-- before, one could still be written within the limit. So it is here that a construct is opened inside 64 (`proofs/Theorems`, `five-opens`).
pub record FiveAt (kinds : List ℕ) (i t : ℕ) : Type 0 where
  pub before : Begins (is_program_within nesting) kinds i t
  pub there : Begins is_program kinds i (t + 1)
  pub deeper : EachProgram kinds i (t + 1) (λ x. nesting < nesting_of x)

-- what the tokens from i on are: a program within the limit of nesting, or refused with 4 or with 5 at token t
pub data Grammatical (kinds : List ℕ) (i : ℕ) : Type 0 where
  derived : (x : Statement) (j : ℕ) → is_program_within nesting kinds x i j → Grammatical kinds i
  four : (t : ℕ) → FourAt kinds i t → Grammatical kinds i
  five : (t : ℕ) → FiveAt kinds i t → Grammatical kinds i
