-- The numbers and values of the paper for what the token reader answers, and what is laid into lent storage.
use Rattle.std.specs.Prelude.{ℕ, ◌+◌, min, ◌≡◌, not, List, map, eqb, leb, ltb, length, Result, Ok, Err}
use Rattle.std.proofs.lemmas.List.Edits.{sets}
use Rattle.base.specs.Choose.{whether◌then◌else◌}
use Rattle.spots.specs.declared.Spot.{Spot}
use Rattle.spots.specs.Spots.{unplaced}
use Rattle.token.specs.Text.{number_of, Outcome, read, refused, Reading, refused_at, read_from, tokens_of, TEXT-LIMIT}
use Rattle.token.specs.declared.Token as T
use Rattle.token.specs.declared.Refusal.{Refusal}
use Rattle.token.specs.declared.Unread.{Unread}
use Rattle.token.specs.declared.Unread.TheVariants as U

-- the next token and where it ended, or why there is none
abbrev pub Next : Type 0
Next = Result (T.Token × ℕ) Refusal

abbrev pub outcome_of : Next → Outcome
outcome_of (Ok found) = read found.0 found.1
outcome_of (Err r) = refused (number_of r.why) r.spot

-- what is said of the tokens of a text: number, place with line and column, and how many tokens there are
pub record Summary : Type 0 where
  pub number : ℕ
  pub spot : Spot
  pub count : ℕ

abbrev pub summary : ℕ → Spot → ℕ → Summary
summary number spot count = record { number = number; spot = spot; count = count }

-- the paper has no number for lent lists that are too short; as with its own buffer it is 16, and the place is the length needed
abbrev pub refusal_of : Unread → Summary
refusal_of U.TooLong = summary 1 (unplaced TEXT-LIMIT) 0
refusal_of (U.Refused r) = summary (number_of r.why) r.spot 0
refusal_of (U.Room needed) = summary 16 (unplaced needed) 0

-- how many tokens a text has, or why they are not read
abbrev pub Tokens : Type 0
Tokens = Result ℕ Unread

abbrev pub summary_of : Tokens → Summary
summary_of (Ok count) = summary 0 (unplaced 0) count
summary_of (Err e) = refusal_of e

-- a refusal counts no token
abbrev pub summed : Reading → Summary
summed r = summary r.number r.spot (whether eqb r.number 0 then length r.tokens else 0)

-- ── what is laid into lent lists ──

abbrev pub kind_of : T.Token → ℕ
kind_of t = t.kind

abbrev pub value_of : T.Token → ℕ
value_of t = t.value

abbrev pub spot_of : T.Token → Spot
spot_of t = t.spot

abbrev pub place_of : T.Token → ℕ
place_of t = t.spot.place

abbrev pub line_of : T.Token → ℕ
line_of t = t.spot.line

abbrev pub column_of : T.Token → ℕ
column_of t = t.spot.column

-- five lists, for a part of each token each
pub record Lists : Type 0 where
  pub kinds : List ℕ
  pub values : List ℕ
  pub places : List ℕ
  pub lines : List ℕ
  pub columns : List ℕ

abbrev pub lists : List ℕ → List ℕ → List ℕ → List ℕ → List ℕ → Lists
lists kinds values places lines columns = record { kinds = kinds; values = values; places = places; lines = lines; columns = columns }

-- the room in them
abbrev pub room : Lists → ℕ
room l = min (length l.kinds) (min (length l.values) (min (length l.places) (min (length l.lines) (length l.columns))))

-- one part of each token, laid over a list from its start
abbrev pub laid : (T.Token → ℕ) → List T.Token → List ℕ → List ℕ
laid part ts old = sets old 0 (map part ts)

-- every part of each token, laid over five lists from row n on
abbrev pub laid_from : ℕ → List T.Token → Lists → Lists
laid_from n ts l =
    lists (sets l.kinds n (map kind_of ts)) (sets l.values n (map value_of ts)) (sets l.places n (map place_of ts)) (sets l.lines n (map line_of ts))
    (sets l.columns n (map column_of ts))

-- from their start
abbrev pub laid_over : List T.Token → Lists → Lists
laid_over ts l = laid_from 0 ts l

-- a reading answered, and its tokens laid over what is lent
pub record LaidBy {A : Type 0} (over : List T.Token → A → A) (r : Reading) (before after : A) (answer : Tokens) : Type 0 where
  pub is : summary_of answer ≡ summed r
  pub are-laid : after ≡ over r.tokens before

-- over five lists
abbrev pub Laid : Reading → Lists → Lists → Tokens → Type 0
Laid r before after answer = LaidBy laid_over r before after answer

-- their kinds alone, over one
abbrev pub Kinds : Reading → List ℕ → List ℕ → Tokens → Type 0
Kinds r before after answer = LaidBy (laid kind_of) r before after answer

-- reading into lists with so much room: a text is read where there is room for a token at each byte and one at the end. What is read before a refusal is
-- in the lists.
unfoldable pub read_into : ℕ → List ℕ → Reading
read_into n s =
    whether ltb TEXT-LIMIT (length s) then refused_at 1 (unplaced TEXT-LIMIT) else
    whether leb n (length s) then refused_at 16 (unplaced (length s + 1)) else read_from s 0 0 s

-- the tokens of a text into lists with so much room, where all of them are read and there is room; the lists stay as they are otherwise
unfoldable pub tokens_into : ℕ → List ℕ → Reading
tokens_into n s =
    let r : Reading = tokens_of s in
    whether not (eqb r.number 0) then refused_at r.number r.spot else
    whether ltb n (length r.tokens) then refused_at 16 (unplaced (length r.tokens)) else r
