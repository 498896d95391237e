-- A text that is a program, as the ledger and the tape have it; and the tables of the definition as the passes leave them there.
use Rattle.std.specs.Prelude.{◌≡◌, List, [], ◌++◌, map, ℕ, ◌+◌, ◌*◌, ◌/◌, ◌≤◌, ◌<◌, min, length, take, drop, get_or, replicate, Ok}
use Rattle.token.specs.Kinds as K
use Rattle.token.specs.Text.{tokens_of, TEXT-LIMIT}
use Rattle.token.specs.Answers.{Tokens, summary_of, summed, laid, kind_of, value_of}
use Rattle.token.specs.declared.Token.{Token}
use Rattle.grammar.specs.Tree.{Statement}
use Rattle.grammar.specs.Derives.{is_program}
use Rattle.tape.specs.Tape.{tape_statement}
use Rattle.ledger.specs.Book.{Wide, Thin, on_wide, thin_limit}
use Rattle.scopes.specs.Broken.{Ruling, unbroken, ◌⊕◌}
use Rattle.scopes.specs.Search.{in_front, first_token}
use Rattle.static_rules.specs.Meanings.{Meant}
use Rattle.static_rules.specs.Tables.{Tables}
use Rattle.static_rules.specs.Kinds.{rules_of}
use Rattle.tables.specs.Packed.{meanings_of}
use Rattle.translation.specs.Layout.{segment_limit, place_cells, offset_of}
use Rattle.translation.specs.Translate.{kinds_of, values_of, named, labelled, meant, tables_of}
use Rattle.settled.specs.declared.Judged.{Judged}

-- ── the tokens ──

abbrev pub all_tokens : List ℕ → List Token
all_tokens source = in_front ++ (tokens_of source).tokens

abbrev pub places_of : List Token → List ℕ
places_of ts = map (λ (t : Token). t.spot.place) ts

-- one part of each token of a source, laid behind the standard names
pub record LaidBehind (part : Token → ℕ) (source before after : List ℕ) : Type 0 where
  pub front : take first_token after ≡ take first_token before
  pub behind : drop first_token after ≡ laid part (tokens_of source).tokens (drop first_token before)

-- but for the values as it was
abbrev pub ButValues : (before after : Wide) → Type 0
ButValues before after = after ≡ on_wide 0 (λ (values : List ℕ). after.values) before

-- the tokens of a source are laid behind the standard names, as far as a refusal
pub record Behind (source kinds kinds' : List ℕ) (w w' : Wide) (r : Tokens) : Type 0 where
  pub is : summary_of r ≡ summed (tokens_of source)
  pub kinds-laid : LaidBehind kind_of source kinds kinds'
  pub values-laid : LaidBehind value_of source w.values w'.values
  pub same : ButValues w w'

-- the tokens of a source behind the standard names, or its refusal
pub record Fronted (source kinds values : List ℕ) (r : Tokens) : Type 0 where
  pub is : summary_of r ≡ summed (tokens_of source)
  pub kinds-are : (n : ℕ) → r ≡ Ok n → take (first_token + n) kinds ≡ kinds_of (all_tokens source)
  pub values-are : (n : ℕ) → r ≡ Ok n → take (first_token + n) values ≡ values_of (all_tokens source)

-- ── a program ──

abbrev pub Small : List Token → Type 0
Small ts = (t : ℕ) → get_or (kinds_of ts) t 0 ≡ K.NUMBER → get_or (values_of ts) t 0 < 4294967296

-- the tree of a text and its tape
pub record Text (ts : List Token) (x : Statement) (values tape : List ℕ) : Type 0 where
  pub to : ℕ
  pub program : is_program (kinds_of ts) x first_token to
  pub small : Small ts
  pub values-are : values ≡ values_of ts
  pub tape-is : tape ≡ tape_statement x []

abbrev pub Blank : List Token → List ℕ → Type 0
Blank ts l = l ≡ replicate (length ts) 0

-- what is to be filled by token
pub record Blanks (ts : List Token) (w : Wide) (b : Thin) : Type 0 where
  pub no-means : Blank ts w.means
  pub no_found : Blank ts b.found
  pub no-goes : Blank ts b.goes

-- which declaration each name and which label each GOTO means, and the rules that are broken by them
pub record Bound (ts : List Token) (x : Statement) (b : Thin) (r : Ruling) : Type 0 where
  pub found-is : b.found ≡ (named ts x).found
  pub goes-is : b.goes ≡ (labelled ts x).goes
  pub broken-is : r ≡ (named ts x).broken ⊕ (labelled ts x).broken

-- columns that were worked in are left as zeros
pub record Cleared (before : List ℕ) (after : Thin) : Type 0 where
  pub opens-are : after.opens ≡ replicate (length before / 4) 0
  pub written-are : after.written ≡ replicate (length before / 4) 0

abbrev pub meant_in : List Token → Statement → Meant
meant_in ts x = meant ts (named ts x) x

abbrev pub tables_in : List Token → Statement → Tables
tables_in ts x = tables_of ts (named ts x) (labelled ts x) (meant_in ts x)

-- What names mean, and the rules that are broken by it and by where cells stand, with others. Where none is broken, the ends of segments stand in the column of
-- what procedures write, and where cells stand is right.
pub record Settled (ts : List Token) (x : Statement) (w : Wide) (b : Thin) (others : Ruling) (r : Judged) : Type 0 where
  pub means-are : meanings_of w.means w.under ≡ (meant_in ts x).means
  pub opens-are : b.opens ≡ (meant_in ts x).opens
  pub bases-are : r.bases ≡ (meant_in ts x).bases
  pub broken-is : r.broken ≡ (others ⊕ rules_of (tables_in ts x) x) ⊕ (place_cells (meant_in ts x).bases (meant_in ts x).cells).broken
  pub ends-are : r.broken ≡ unbroken → (k : ℕ) → get_or b.written k 0 ≡ get_or (place_cells (meant_in ts x).bases (meant_in ts x).cells).ends k 0
  pub offsets_are : r.broken ≡ unbroken → (t : ℕ) → get_or w.offsets t 0 ≡ offset_of (place_cells (meant_in ts x).bases (meant_in ts x).cells).placed t

-- what stays while that is settled
pub record Stays (w w' : Wide) (b b' : Thin) : Type 0 where
  pub values-stay : w'.values ≡ w.values
  pub found-stays : b'.found ≡ b.found
  pub goes-stays : b'.goes ≡ b.goes

-- of cells, or of the segment's room
abbrev pub end_of : (ends : List ℕ) → ℕ → ℕ
end_of ends k = min (get_or ends k 0) segment_limit

-- where the cells of segments 1 to 3 end
pub record Ended (ends : List ℕ) (r : Judged) : Type 0 where
  pub cells_is : r.cells ≡ end_of ends 1
  pub two_is : r.two ≡ end_of ends 2
  pub three-is : r.three ≡ end_of ends 3

-- ── room ──

abbrev pub Zeros : List ℕ → Type 0
Zeros l = l ≡ replicate (length l) 0

-- the rows of n tokens
pub record Lent (n : ℕ) (wide thin : List ℕ) : Type 0 where
  pub few : n ≤ thin_limit
  pub wide-long : length wide ≡ 4 * n
  pub thin-long : length thin ≡ 4 * n

-- lists with room for the rows of m tokens
pub record Fits (m : ℕ) (kinds tape wide thin : List ℕ) : Type 0 where
  pub few : m ≤ thin_limit
  pub for-kinds : m ≤ length kinds
  pub for-tape : m ≤ length tape
  pub for-wide : 4 * m ≤ length wide
  pub for-thin : 4 * m ≤ length thin

-- beside a token at each byte: the end, and the names in front
abbrev pub rows_for : ℕ → ℕ
rows_for n = n + (first_token + 1)

-- what is lent for a text of n bytes
pub record Rooms (n : ℕ) (kinds tape wide thin : List ℕ) : Type 0 where
  pub short : n ≤ TEXT-LIMIT
  pub for-kinds : rows_for n ≤ length kinds
  pub for-tape : rows_for n ≤ length tape
  pub for-wide : 4 * rows_for n ≤ length wide
  pub for-thin : 4 * rows_for n ≤ length thin
  pub no-wide : Zeros wide
  pub no-thin : Zeros thin
