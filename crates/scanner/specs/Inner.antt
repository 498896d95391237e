-- What the inner functions of the token reader promise, in the terms of the definition.
use Rattle.std.specs.Prelude.{ℕ, ◌+◌, ◌*◌, ◌≤◌, ◌^◌, min, ◌≡◌, Bool, true, false, not, List, [], ◌∷◌, eqb, ltb, length, take, get_or, Result, Ok}
use Prim.Native.Char.{code}
use Prim.Native.String.{String}
use Rattle.base.specs.Choose.{whether◌then◌else◌}
use Rattle.base.specs.Text.{bytes}
use Rattle.base.specs.Runs.{run_len}
use Rattle.base.specs.Numbers.{number_from}
use Rattle.token.specs.Kinds as K
use Rattle.token.specs.Text.{separates, in_name, digit_of, key_of, plain, negated}
use Rattle.scanner.specs.declared.Spelled.{Spelled}
use Rattle.token.specs.declared.Lexeme.{Lexeme}
use Rattle.token.specs.declared.Lexeme.TheVariants.{Token}
use Rattle.token.specs.declared.Why.{Why}
use Rattle.scanner.specs.declared.Class.{Class}
use Rattle.scanner.specs.declared.Class.TheVariants.{Blank, Separator, InComment}

-- the bytes that a run of each class is made of
abbrev pub in_class : Class → ℕ → Bool
in_class Blank b = eqb b 32
in_class Separator b = separates b
in_class InComment b = not (eqb b (code ";"))

-- a byte is a digit to the base
abbrev pub in_base : ℕ → ℕ → Bool
in_base base b = ltb (digit_of b) base

-- all digits at the front, and their number, cut off at 2^52
pub record Digited (base : ℕ) (s : List ℕ) (d : Spelled) : Type 0 where
  pub size : d.size ≡ run_len (in_base base) s
  pub value : d.value ≡ min (2 ^ 52) (number_from digit_of base 0 (take d.size s))
  pub fits : d.size ≤ length s

-- the name at the front, and its key
pub record Named (s : List ℕ) (d : Spelled) : Type 0 where
  pub size : d.size ≡ run_len in_name s
  pub value : d.value ≡ key_of (take d.size s)
  pub fits : d.size ≤ length s

-- "the first 10 characters count": a name's key with one character more, behind i others
abbrev pub longer_by : (key i digit : ℕ) → ℕ
longer_by key i d = whether ltb i 10 then key * 36 + d else key

-- the kind of the word with this key, or of a name
unfoldable pub key_kind : List (ℕ × String) → ℕ → ℕ
key_kind [] key = K.NAME
key_kind (w ∷ ws) key = elim (eqb (key_of (bytes w.1)) key) [ true ↦ w.0 | false ↦ key_kind ws key ]

-- what a table has at a place; 1, the entry of no word, where it has nothing
unfoldable pub entry_at : List (ℕ × ℕ) → ℕ → ℕ
entry_at [] p = 1
entry_at (x ∷ xs) p = elim (eqb p x.0) [ true ↦ x.1 | false ↦ entry_at xs p ]

abbrev pub bits_of : Bool → ℕ → ℕ
bits_of true v = negated v
bits_of false v = plain v

-- a sign of two bytes where the second follows, or else what is given
abbrev pub two_or : List ℕ → ℕ → ℕ → Result Lexeme Why → Result Lexeme Why
two_or s second two other = whether ltb (length s) 2 then other else whether eqb (get_or s 1 0) second then Ok (Token two 0 2) else other
