-- Worked texts, by computing the definition: refusals with their places, then whole lists of tokens. Assumes nothing.
use Prim.Native.Nat.{ℕ, ◌+◌}
use Prim.Native.String.{String}
use mathlib.Core.Path.{◌≡◌, refl}
use mathlib.Core.Bool.{Bool, true, ◌&&◌, not}
use mathlib.Core.List.{List, [], ◌∷◌, ◌++◌, map}
use lib.Dec.{T}
use Rattle.base.specs.Lists.{member}
use Rattle.base.specs.Text.{bytes, same_bytes}
use Rattle.base.specs.Runs.{run_len}
use Rattle.base.specs.Numbers.{number_from}
use Rattle.base.specs.Walk.{walk, fold}
use Rattle.spots.specs.declared.Spot.{Spot}
use Rattle.spots.specs.Spots.{spot}
use Rattle.token.specs.Kinds as K
use Rattle.token.specs.Text.{key_of, word_kind, comment, name_or_word, number, begins, sign, lexeme, token, next_step, next_token, read_from, tokens_of}
use Rattle.token.specs.Answers.{spot_of}
use Rattle.token.specs.declared.Token.{Token}

-- 0, or a refusal's number, with the place
abbrev verdict : String → ℕ × ℕ
verdict s = ((tokens_of (bytes s)).number, (tokens_of (bytes s)).spot.place)

verdicts :
    map verdict
    ("BEGIN END @" ∷ "" ∷ "BEGIN END  " ∷ "BEGIN R1 := #; END @" ∷ "BEGIN R1 := #G; END @" ∷ "BEGIN R1 := _ 5; END @" ∷ "BEGIN R1 := _#5; END @" ∷
    "BEGIN R1 := __5; END @" ∷ "BEGIN R1 := #Ab; END @" ∷ "BEGIN INTEGER Ab; END @" ∷ "BEGIN COMMENT END @" ∷ "BEGIN END COMMENT @ ;@" ∷ "BEGIN END @ ? 99999999999 COMMENT" ∷
    "END END 99999999999 @" ∷ "2147483647 _2147483648 #FFFFFFFF" ∷ "2147483648" ∷ "_2147483649" ∷ "#100000000" ∷ "#000000000FF" ∷ "^" ∷ [])
    ≡ (0, 0) ∷ (0, 0) ∷ (0, 0) ∷ (2, 12) ∷ (2, 12) ∷ (2, 12) ∷ (2, 12) ∷ (2, 12) ∷ (2, 14) ∷ (2, 15) ∷ (2, 6) ∷ (0, 0) ∷ (0, 0) ∷ (3, 8) ∷ (0, 0) ∷ (3, 0) ∷ (3, 0) ∷ (3, 0) ∷ (0, 0) ∷ (2, 0) ∷ []
unfolding same_bytes run_len number_from walk word_kind comment name_or_word number begins sign lexeme next_step next_token read_from tokens_of
verdicts = refl

-- kind, value and place of each token, all on the first line
abbrev tokens : String → List Token
tokens s = (tokens_of (bytes s)).tokens

abbrev first : ℕ → ℕ → ℕ → Token
first kind value place = token kind value (spot place 1 (place + 1))

read :
    map tokens ("R1:=_1+#FFOR ABCDEFGHIJK<=5THEN COMMENT @;@ 7" ∷ "COMMENTX : = " ∷ "BYTE BYTES CHARACTER" ∷ "CASE OFF OF" ∷ [])
    ≡ (first K.NAME 973 0 ∷ first K.BECOMES 0 2 ∷ first K.NUMBER 4294967295 4 ∷ first K.PLUS 0 6 ∷ first K.NUMBER 255 7 ∷ first K.OR 0 10
    ∷ first K.NAME (key_of (bytes "ABCDEFGHIJL")) 13 ∷ first K.AT-MOST 0 24 ∷ first K.NUMBER 5 26 ∷ first K.THEN 0 27 ∷ first K.AT 0 42 ∷ [])
    ∷ (first K.NAME (key_of (bytes "COMMENTX")) 0 ∷ first K.COLON 0 9 ∷ first K.EQUAL 0 11 ∷ first K.END-OF-TEXT 0 13 ∷ [])
    ∷ (first K.BYTE 0 0 ∷ first K.NAME (key_of (bytes "BYTES")) 5 ∷ first K.CHARACTER 0 11 ∷ first K.END-OF-TEXT 0 20 ∷ [])
    ∷ (first K.CASE 0 0 ∷ first K.NAME (key_of (bytes "OFF")) 5 ∷ first K.OF 0 9 ∷ first K.END-OF-TEXT 0 11 ∷ []) ∷ []
unfolding same_bytes run_len number_from walk fold word_kind comment name_or_word number begins sign lexeme next_step next_token read_from tokens_of
read = refl

-- document 02, 2/13: where tokens stand, behind newlines between them and in comments, and the text's end behind its last newline
spots :
    map (λ s. map spot_of (tokens s)) ("BEGIN\nRE\n\n  ;" ∷ "BEGIN COMMENT A\nB\n Ã© ; X" ∷ "END\n" ∷ "END\n  " ∷ "COMMENT X;\n\n" ∷ [])
    ≡ (spot 0 1 1 ∷ spot 6 2 1 ∷ spot 12 4 3 ∷ spot 13 4 4 ∷ []) ∷ (spot 0 1 1 ∷ spot 24 3 7 ∷ spot 25 3 8 ∷ [])
    ∷ (spot 0 1 1 ∷ spot 4 2 1 ∷ []) ∷ (spot 0 1 1 ∷ spot 6 2 3 ∷ []) ∷ (spot 12 3 1 ∷ []) ∷ []
unfolding same_bytes run_len number_from walk fold word_kind comment name_or_word number begins sign lexeme next_step next_token read_from tokens_of
spots = refl

-- and refusals: byte 13 ends no line, bytes of a comment are counted one by one
abbrev refusal : String → ℕ × Spot
refusal s = ((tokens_of (bytes s)).number, (tokens_of (bytes s)).spot)

refusals :
    map refusal ("?" ∷ "BEGIN\r\nEND @" ∷ "BEGIN\n COMMENT X\n" ∷ "\n\nX;\nBEGIN END 99999999999 @" ∷ [])
    ≡ (2, spot 0 1 1) ∷ (2, spot 5 1 6) ∷ (2, spot 7 2 2) ∷ (3, spot 15 4 11) ∷ []
unfolding same_bytes run_len number_from walk fold word_kind comment name_or_word number begins sign lexeme next_step next_token read_from tokens_of
refusals = refl

-- no two words or signs share a kind, and none has that of the end of the text, of a name or of a number
abbrev all_differ : List ℕ → Bool
all_differ [] = true
all_differ (k ∷ ks) = not (member k ks) && all_differ ks

kinds-differ : T (all_differ (K.END-OF-TEXT ∷ K.NAME ∷ K.NUMBER ∷ map (λ w. w.0) (K.words ++ K.signs)))
kinds-differ = tt
