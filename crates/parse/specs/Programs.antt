-- What is answered of a program.
use Rattle.std.specs.Prelude.{◌≡◌, List, [], map, ℕ, zero, suc, ◌+◌, ◌≤◌, length, take, get_or, Result, Ok, Err}
use Rattle.spots.specs.declared.Spot.{Spot}
use Rattle.spots.specs.Spots.{unplaced}
use Rattle.token.specs.Text.{Reading, tokens_of, TEXT-LIMIT}
use Rattle.token.specs.Answers.{kind_of, spot_of}
use Rattle.grammar.specs.Tree.{Statement}
use Rattle.grammar.specs.Reader as R
use Rattle.grammar.specs.Reader.{ok, bad}
use Rattle.grammar.specs.Grammar as G
use Rattle.tape.specs.Tape.{tape_statement}
use Rattle.parse.specs.declared.Refusal.{Refusal}
use Rattle.parse.specs.declared.Refusal.TheVariants as S
use Rattle.readers.specs.declared.tokens.Read.{Read}
use Rattle.readers.specs.declared.tokens.Refused.{Refused}
use Rattle.readers.specs.Reads.{Stopped}

-- from the token `first` on there is this program, whose tree the tape begins with; no more events than tokens
pub record Accepted (kinds : List ℕ) (first : ℕ) (tape : List ℕ) (r : Read) : Type 0 where
  pub tree : Statement
  pub is : G.program kinds first ≡ ok tree r.at
  pub events : take r.value tape ≡ tape_statement tree []
  pub inside : r.at ≤ length kinds
  pub fits : r.value ≤ length tape
  pub few : first + r.value ≤ length kinds

-- the answer for the program from the token `first` on, with the tape at the end
abbrev pub Parsed : List ℕ → ℕ → List ℕ → Result Read Refused → Type 0
Parsed kinds first tape (Ok r) = Accepted kinds first tape r
Parsed kinds first tape (Err e) = Stopped kinds first e (G.program kinds first)

-- ── a text ──

-- number, and place with line and column
pub record Judged : Type 0 where
  pub number : ℕ
  pub spot : Spot

abbrev pub says : ℕ → Spot → Judged
says number spot = record { number = number; spot = spot }

-- "4 … no program begins with the tokens up to here … token, or text length", which is the place of the end; "5 … token". Document 02, 2/13: "Success and
-- refusals 1 and 14 to 19 report line and column 0; every other with a place below the text's length reports its own, and one at the end where the next byte
-- would stand."
abbrev pub judged_by : List Spot → R.Result Statement → Judged
judged_by spots (ok x j) = says 0 (unplaced 0)
judged_by spots (bad n t) = says n (get_or spots t (unplaced 0))

-- "Groups in order: 1; 2, 3; 4, 5"
abbrev pub after_text : Reading → ℕ → Judged
after_text r zero = judged_by (map spot_of r.tokens) (G.program (map kind_of r.tokens) 0)
after_text r (suc n) = says (suc n) r.spot

-- what is said of a text: refusals 1 to 5, or that it is a program
unfoldable pub judged : List ℕ → Judged
judged source = after_text (tokens_of source) (tokens_of source).number

-- the numbers of the paper for each verdict; "1 … place 32,768"
abbrev pub verdict_of : Result Unit Refusal → Judged
verdict_of (Ok x) = says 0 (unplaced 0)
verdict_of (Err S.TooLong) = says 1 (unplaced TEXT-LIMIT)
verdict_of (Err (S.NoToken spot)) = says 2 spot
verdict_of (Err (S.OutOfRange spot)) = says 3 spot
verdict_of (Err (S.Unexpected spot)) = says 4 spot
verdict_of (Err (S.TooDeep spot)) = says 5 spot

-- all tokens of a text were read, and the kinds of these n stand in front of a list
pub record KindsRead (source kinds : List ℕ) (n : ℕ) : Type 0 where
  pub accepted : (tokens_of source).number ≡ 0
  pub inside : n ≤ length kinds
  pub are : take n kinds ≡ map kind_of (tokens_of source).tokens
