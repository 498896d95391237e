-- Document 01, "Text and tokens", in its order: what stands at the front of what remains of a text, the next token, all tokens of a text.
use Rattle.std.specs.Prelude.{ℕ, zero, suc, pred, ◌+◌, ◌-◌, ◌%◌, Bool, true, false, not, ◌&&◌, ◌||◌, List, [], ◌∷◌, eqb, ltb, length, take, drop, get_or, Result, Ok, Err}
use Prim.Native.Char.{code}
use Prim.Native.String.{String}
use Rattle.base.specs.Choose.{whether◌then◌else◌}
use Rattle.base.specs.Text.{bytes, same_bytes, within}
use Rattle.base.specs.Runs.{run_len}
use Rattle.base.specs.Numbers.{number_from}
use Rattle.base.specs.Walk.{Step, walk}
use Rattle.base.specs.Walk.Step.{stop, pass}
use Rattle.spots.specs.declared.Spot.{Spot}
use Rattle.spots.specs.Spots.{spot_at, unplaced}
use Rattle.token.specs.Kinds as K
use Rattle.token.specs.declared.Lexeme.{Lexeme}
use Rattle.token.specs.declared.Lexeme.TheVariants.{Gap, Token}
use Rattle.token.specs.declared.Why.{Why}
use Rattle.token.specs.declared.Why.TheVariants.{NoToken, OutOfRange}
use Rattle.token.specs.declared.Token as T

-- why the language has nothing that stands there: "2: byte in no token, unclosed comment"; "3: number out of range"
abbrev pub number_of : Why → ℕ
number_of NoToken = 2
number_of OutOfRange = 3

-- "Blank (32) and newline (10) separate tokens."
abbrev pub separates : ℕ → Bool
separates b = eqb b 32 || eqb b 10

-- "Names: a capital letter, then capitals or digits; the first 10 characters count."
abbrev pub is_capital : ℕ → Bool
is_capital b = within (code "A") (code "Z") b

abbrev pub is_digit : ℕ → Bool
is_digit b = within (code "0") (code "9") b

abbrev pub in_name : ℕ → Bool
in_name b = is_capital b || is_digit b

abbrev pub is_hexadecimal : ℕ → Bool
is_hexadecimal b = is_digit b || within (code "A") (code "F") b

-- what a digit or a capital stands for; any other byte is no digit to a base up to 36
abbrev pub digit_of : ℕ → ℕ
digit_of b = whether is_digit b then b - code "0" else whether is_capital b then b - (code "A" - 10) else 36

-- the first 10 characters of a name as one number: no two have the same (scanner/proofs/Keys, `key_one`)
abbrev pub key_of : List ℕ → ℕ
key_of name = number_from digit_of 36 0 (take 10 name)

-- "Reserved, compared whole": the kind of the word that the name is, or of a name
unfoldable pub word_kind : List (ℕ × String) → List ℕ → ℕ
word_kind [] name = K.NAME
word_kind (w ∷ ws) name = elim (same_bytes name (bytes w.1)) [ true ↦ w.0 | false ↦ word_kind ws name ]

-- "COMMENT opens a comment that ends at the next `;` and may hold any byte."
abbrev pub in_comment : ℕ → Bool
in_comment b = not (eqb b (code ";"))

-- its word has n bytes; "unclosed comment: its first byte"
unfoldable pub comment : ℕ → List ℕ → Result Lexeme Why
comment n s =
    let m : ℕ = n + run_len in_comment (drop n s) in
    whether ltb m (length s) then Ok (Gap (m + 1)) else Err NoToken

unfoldable pub name_or_word : List ℕ → Result Lexeme Why
name_or_word s =
    let n : ℕ = run_len in_name s in
    let kind : ℕ = word_kind K.words (take n s) in
    whether eqb kind K.COMMENT then comment n s else
    whether eqb kind K.NAME then Ok (Token kind (key_of (take n s)) n) else Ok (Token kind 0 n)

-- digits to a base, after a mark of some bytes, with a value of at most `most`; bits gives the 32 bits that it is taken as
unfoldable pub number : (ℕ → Bool) → ℕ → ℕ → (ℕ → ℕ) → ℕ → List ℕ → Result Lexeme Why
number inside base most bits mark s =
    let n : ℕ = run_len inside s in
    let v : ℕ = number_from digit_of base 0 (take n s) in
    whether eqb n 0 then Err NoToken else
    whether ltb most v then Err OutOfRange else Ok (Token K.NUMBER (bits v) (mark + n))

-- "decimal 0 to 2147483647"
abbrev pub most_decimal : ℕ
most_decimal = 2147483647

-- "with `_` directly in front, `_0` to `_2147483648`"
abbrev pub most_negated : ℕ
most_negated = 2147483648

-- "hexadecimal digits with a value below 2^32"
abbrev pub most_hexadecimal : ℕ
most_hexadecimal = 4294967295

abbrev pub plain : ℕ → ℕ
plain v = v

abbrev pub negated : ℕ → ℕ
negated v = (4294967296 - v) % 4294967296

-- a text begins with a sign
unfoldable pub begins : List ℕ → List ℕ → Bool
begins [] s = true
begins (x ∷ xs) [] = false
begins (x ∷ xs) (y ∷ ys) = eqb x y && begins xs ys

-- "Signs, longest first": the first of the table with which the text begins
unfoldable pub sign : List (ℕ × String) → List ℕ → Result Lexeme Why
sign [] s = Err NoToken
sign (w ∷ ws) s = elim (begins (bytes w.1) s) [ true ↦ Ok (Token w.0 0 (length (bytes w.1))) | false ↦ sign ws s ]

-- what stands at the front of a text that is not empty, and how many bytes it has: a gap between tokens; a token; or why it is refused, at its
-- first byte. Numbers are "decimal 0 to 2147483647; with `_` directly in front, `_0` to
-- `_2147483648`; or `#` and one or more hexadecimal digits with a value below 2^32, taken as 32 bits".
unfoldable pub lexeme : List ℕ → Result Lexeme Why
lexeme s =
    let b : ℕ = get_or s 0 0 in
    whether separates b then Ok (Gap (run_len separates s)) else
    whether is_capital b then name_or_word s else
    whether is_digit b then number is_digit 10 most_decimal plain 0 s else
    whether eqb b (code "_") then number is_digit 10 most_negated negated 1 (drop 1 s) else
    whether eqb b (code "#") then number is_hexadecimal 16 most_hexadecimal plain 1 (drop 1 s) else
    sign K.signs s

-- a token: its kind; its value, which is a number's 32 bits and a name's key, and 0 for any other; and where it stands: its place, "the offset of the first byte",
-- and, document 02, 2/13, "its line and column"
abbrev pub token : ℕ → ℕ → Spot → T.Token
token kind value spot = record { kind = kind; value = value; spot = spot }

-- what reading a token gives: the token and where it ended; or a refusal's number and where it stands
pub data Outcome : Type 0 where
  read : (token : T.Token) (end : ℕ) → Outcome
  refused : (number : ℕ) (spot : Spot) → Outcome

abbrev pub next_by : List ℕ → Result Lexeme Why → ℕ → Step Outcome
next_by s (Ok (Gap n)) at = pass n
next_by s (Ok (Token kind value n)) at = stop (read (token kind value (spot_at s at)) (at + n))
next_by s (Err why) at = stop (refused (number_of why) (spot_at s at))

-- at a place of what remains of a text, s, where this is left of it
unfoldable pub next_step : List ℕ → ℕ → List ℕ → Step Outcome
next_step s at left = next_by s (lexeme left) at

-- the next token of what remains of a text, with places, lines and columns counted from there; at the end of the text a token that says so
unfoldable pub next_token : List ℕ → Outcome
next_token s = walk (next_step s) (λ at. read (token K.END-OF-TEXT 0 (spot_at s at)) at) 0 0 s

-- all tokens of a text, and the refusal that ends them, or 0
pub record Reading : Type 0 where
  pub tokens : List T.Token
  pub number : ℕ
  pub spot : Spot

abbrev pub ended : List T.Token → Reading
ended ts = record { tokens = ts; number = 0; spot = unplaced 0 }

abbrev pub refused_at : ℕ → Spot → Reading
refused_at number spot = record { tokens = []; number = number; spot = spot }

abbrev pub after : T.Token → Reading → Reading
after t r = record { tokens = t ∷ r.tokens; number = r.number; spot = r.spot }

-- `@` and the end of the text are the last token
abbrev pub is_last : ℕ → Bool
is_last kind = eqb kind K.AT || eqb kind K.END-OF-TEXT

abbrev pub last_or : Bool → T.Token → ℕ → (ℕ → Reading) → Reading
last_or true t n rest = ended (t ∷ [])
last_or false t n rest = after t (rest n)

-- a token as one of the whole text, whose place was counted from `at`
abbrev pub moved : List ℕ → ℕ → T.Token → T.Token
moved text at t = token t.kind t.value (spot_at text (at + t.spot.place))

-- what remains after the token is read by `rest`, which is given the bytes to pass over
abbrev pub read_by : List ℕ → Outcome → ℕ → (ℕ → Reading) → Reading
read_by text (read t end) at rest = last_or (is_last t.kind) (moved text at t) end rest
read_by text (refused number spot) at rest = refused_at number (spot_at text (at + spot.place))

-- "Only the bytes up to the first `@` outside a comment are read." "The remaining text after each token is read from where that token ended."
-- `at` is the place in the text of what remains, k bytes of which are still to be passed over.
unfoldable pub read_from : List ℕ → ℕ → ℕ → List ℕ → Reading
read_from text at k [] = ended (token K.END-OF-TEXT 0 (spot_at text at) ∷ [])
read_from text at (suc k) (x ∷ xs) = read_from text (suc at) k xs
read_from text at zero (x ∷ xs) = read_by text (next_token (x ∷ xs)) at (λ n. read_from text (suc at) (pred n) xs)

-- "1: source over 32,768 bytes, place 32,768"; document 02, 2/13: "refusals 1 and … report line and column 0"
abbrev pub TEXT-LIMIT : ℕ
TEXT-LIMIT = 32768

unfoldable pub tokens_of : List ℕ → Reading
tokens_of s = whether ltb TEXT-LIMIT (length s) then refused_at 1 (unplaced TEXT-LIMIT) else read_from s 0 0 s
