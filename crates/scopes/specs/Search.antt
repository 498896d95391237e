-- Document 01, "Names, cells, protected registers": the search for a name. Names are known by their keys; a block is the list of the tokens that declare its
-- names, the newest first; blocks stand innermost first.
use Rattle.std.specs.Prelude.{List, [], ◌∷◌, ◌++◌, map, ℕ, eqb, get_or}
use Rattle.base.specs.Choose.{whether◌then◌else◌}
use Rattle.base.specs.Text.{bytes}
use Rattle.spots.specs.Spots.{unplaced}
use Rattle.token.specs.Kinds as K
use Rattle.token.specs.declared.Token.{Token}
use Rattle.token.specs.Text.{token, key_of}

-- ── "R0 to R9 and RA to RF are declared in a block around the program.", and so are the standard functions. Their names are tokens 1 to 25, in front of the text;
-- token 0 is none ──

-- R and a hexadecimal digit
abbrev pub register_name : ℕ → List ℕ
register_name digit = 82 ∷ digit ∷ []

-- Document 02, 1/13: "the standard functions of source document 001, section 2.8, that move them: IC …, STC …, LA …, MVI …, CLI …, SET …, RESET …, TEST …. LTR …
-- becomes standard too."
abbrev pub function_names : List (List ℕ)
function_names = bytes "IC" ∷ bytes "STC" ∷ bytes "LA" ∷ bytes "MVI" ∷ bytes "CLI" ∷ bytes "SET" ∷ bytes "RESET" ∷ bytes "TEST" ∷ bytes "LTR" ∷ []

abbrev pub names_in_front : List (List ℕ)
names_in_front = map register_name (bytes "0123456789ABCDEF") ++ function_names

abbrev pub standard_name : List ℕ → Token
standard_name name = token K.NAME (key_of name) (unplaced 0)

abbrev pub in_front : List Token
in_front = token K.END-OF-TEXT 0 (unplaced 0) ∷ map standard_name names_in_front

-- how many names are declared around the program
abbrev pub standard_names : ℕ
standard_names = 25

-- the text's own tokens follow
abbrev pub first_token : ℕ
first_token = 26

abbrev pub around : List (List ℕ)
around = (1 ∷ 2 ∷ 3 ∷ 4 ∷ 5 ∷ 6 ∷ 7 ∷ 8 ∷ 9 ∷ 10 ∷ 11 ∷ 12 ∷ 13 ∷ 14 ∷ 15 ∷ 16 ∷ 17 ∷ 18 ∷ 19 ∷ 20 ∷ 21 ∷ 22 ∷ 23 ∷ 24 ∷ 25 ∷ []) ∷ []

-- ── the search ──

module _ (keys : List ℕ) where
  -- the token that declares the name with this key in a block; where none does, what is found further out
  unfoldable pub in_block : ℕ → List ℕ → ℕ → ℕ
  in_block key [] further = further
  in_block key (d ∷ ds) further = whether eqb (get_or keys d 0) key then d else in_block key ds further

  -- "the search goes outward from the innermost block and ends at the first match"; 0 where there is none
  unfoldable pub find : ℕ → List (List ℕ) → ℕ
  find key [] = 0
  find key (b ∷ bs) = in_block key b (find key bs)

abbrev pub innermost : List (List ℕ) → List ℕ
innermost [] = []
innermost (b ∷ bs) = b

-- a name more in the innermost block
abbrev pub enter : ℕ → List (List ℕ) → List (List ℕ)
enter t [] = []
enter t (b ∷ bs) = (t ∷ b) ∷ bs
