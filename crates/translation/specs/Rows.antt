-- Document 01, "Numbers answered": the table with its groups, over the source. A row has what its line of the table says, and that the groups before it let the source
-- pass. That `translate` answers exactly so is shown in proofs/Theorems.
use Rattle.std.specs.Prelude.{◌≡◌, List, ◌++◌, ◌&&◌, ℕ, ◌<◌, ◌≤◌, eqb, leb, length}
use Rattle.base.specs.Choose.{choose}
use Rattle.token.specs.declared.Token.{Token}
use Rattle.token.specs.Text.{TEXT-LIMIT, tokens_of}
use Rattle.token.specs.Refusals.{TwoAt, ThreeAt}
use Rattle.grammar.specs.Tree.{Statement}
use Rattle.grammar.specs.Grammar.{nesting}
use Rattle.grammar.specs.Derives.{is_program_within}
use Rattle.grammar.specs.Refusals.{FourAt, FiveAt}
use Rattle.scopes.specs.Search.{in_front, first_token}
use Rattle.objtext.specs.Object.{object_text}
use Rattle.translation.specs.Instructions.{sizes}
use Rattle.translation.specs.Layout.{literals_end, segment_limit}
use Rattle.translation.specs.Image.{segments}
use Rattle.translation.specs.Broken.{Breaks, NotAfter}
use Rattle.translation.specs.Translate.{Answer, accepted, refused, kinds_of, place_at, make}

-- ── the groups, as far as they let a source pass ──

-- 1; 2, 3: the source has tokens; those that declare the registers' names stand in front of them
pub record Tokens (source : List ℕ) (ts : List Token) : Type 0 where
  pub read : (tokens_of source).number ≡ 0
  pub are : ts ≡ in_front ++ (tokens_of source).tokens

-- 4, 5: they are a program of the grammar, within the limit of nesting
pub record Program (source : List ℕ) (ts : List Token) (x : Statement) : Type 0 where
  pub tokens : Tokens source ts
  pub end : ℕ
  pub is : is_program_within nesting (kinds_of ts) x first_token end

-- 6 to 13: it breaks no rule
pub record Keeps (source : List ℕ) (ts : List Token) (x : Statement) : Type 0 where
  pub program : Program source ts x
  pub unbroken : (n t : ℕ) → Breaks ts x n t → ⊥

-- 14; 15: its program and its literals fit
pub record Fits (source : List ℕ) (ts : List Token) (x : Statement) : Type 0 where
  pub keeps : Keeps source ts x
  pub program-fits : sizes (make ts x).instructions ≤ segment_limit
  pub literals-fit : literals_end (make ts x).layout ≤ segment_limit

abbrev pub object_of : List Token → Statement → List ℕ
object_of ts x = object_text (segments (make ts x).bases (make ts x).layout (make ts x).instructions)

-- ── what each row asks, and its place ──

-- 4 or 5 at a token
pub record TokenAt (source : List ℕ) (Is : List ℕ → ℕ → ℕ → Type 0) (p : ℕ) : Type 0 where
  pub ts : List Token
  pub token : ℕ
  pub tokens : Tokens source ts
  pub is : Is (kinds_of ts) first_token token
  pub place : place_at ts token ≡ p

-- 6 to 13: "the smallest place wins, then the smaller number", of the rules that the program breaks
pub record BrokenAt (source : List ℕ) (n p : ℕ) : Type 0 where
  pub ts : List Token
  pub x : Statement
  pub program : Program source ts x
  pub token : ℕ
  pub breaks : Breaks ts x n token
  pub least : (m t : ℕ) → Breaks ts x m t → NotAfter n token m t
  pub place : place_at ts token ≡ p

pub record ProgramLong (source : List ℕ) (p : ℕ) : Type 0 where
  pub ts : List Token
  pub x : Statement
  pub keeps : Keeps source ts x
  pub long : segment_limit < sizes (make ts x).instructions
  pub place : p ≡ 0

pub record LiteralsLong (source : List ℕ) (p : ℕ) : Type 0 where
  pub ts : List Token
  pub x : Statement
  pub keeps : Keeps source ts x
  pub program-fits : sizes (make ts x).instructions ≤ segment_limit
  pub long : segment_limit < literals_end (make ts x).layout
  pub place : p ≡ 0

pub record BufferShort (source : List ℕ) (room p : ℕ) : Type 0 where
  pub ts : List Token
  pub x : Statement
  pub fits : Fits source ts x
  pub short : room < length (object_of ts x)
  pub place : length (object_of ts x) ≡ p

pub record Accepts (source : List ℕ) (room : ℕ) (text : List ℕ) : Type 0 where
  pub ts : List Token
  pub x : Statement
  pub fits : Fits source ts x
  pub room-is : length (object_of ts x) ≤ room
  pub text-is : object_of ts x ≡ text

-- ── the table: "given exactly when", and the place ──

abbrev pub Row : (source : List ℕ) (room n p : ℕ) → Type 0
Row source room n p =
    -- "1: source over 32,768 bytes … 32,768"
    choose (eqb n 1) ((TEXT-LIMIT < length source) × (p ≡ TEXT-LIMIT))
    -- "2: byte in no token, unclosed comment … its first byte"; "3: number out of range … token"
    (choose (eqb n 2) (TwoAt source p)
    (choose (eqb n 3) (ThreeAt source p)
    -- "4: no program begins with the tokens up to here … token, or text length"
    (choose (eqb n 4) (TokenAt source FourAt p)
    -- "5: BEGIN, IF, WHILE, FOR or PROCEDURE inside 64 such constructs … token"
    (choose (eqb n 5) (TokenAt source FiveAt p)
    (choose (leb 6 n && leb n 13) (BrokenAt source n p)
    -- "14: program over 4,096 bytes … 0"; "15: literals end past 4,096 … 0"; "16: buffer shorter than the object text … length needed"
    (choose (eqb n 14) (ProgramLong source p)
    (choose (eqb n 15) (LiteralsLong source p)
    (choose (eqb n 16) (BufferShort source room p)
    ⊥))))))))

-- "Accepted is 0, place 0, bytes written": none of these
abbrev pub Given : (source : List ℕ) (room : ℕ) → Answer → Type 0
Given source room (accepted text) = Accepts source room text
Given source room (refused n p) = Row source room n p
