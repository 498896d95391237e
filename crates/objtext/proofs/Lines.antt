-- What is written is read back, on one line: digits, bytes, numbers of two bytes, frames. Assumes nothing.
use Prim.Native.Nat.{ℕ, ◌+◌, ◌*◌, ◌/◌, ◌%◌, ◌<◌}
use mathlib.Core.Path.{◌≡◌, refl}
use mathlib.Core.Bool.{true}
use mathlib.Core.List.{List, [], ◌∷◌, ◌++◌, append_assoc}
use native.Mathlib.Omega.{arith}
use lib.Dec.{eqb, eqb→eq}
use lib.ListN.{length, length-append}
use borrow.Author.Tests.{lt-ltb}
use Rattle.base.specs.Numbers.{bytes_of}
use Rattle.base.proofs.Tables.{all-below}
use Rattle.objtext.specs.Object.{Bytes, hex_digit, hex, line, newline}
use Rattle.objtext.specs.Reader.{digit_of, byte_of, front_bytes, two_of, is_line}

pub digit-back : (n : ℕ) → n < 16 → digit_of (hex_digit n) ≡ n
unfolding digit_of hex_digit
digit-back n h = eqb→eq (digit_of (hex_digit n)) n (all-below 16 (λ k. eqb (digit_of (hex_digit k)) k) tt n h)

-- two digits of one byte
pub byte-back : (b : ℕ) (s : List ℕ) → b < 256 → byte_of (hex_digit (b / 16) ∷ hex_digit (b % 16) ∷ s) ≡ b
unfolding byte_of
byte-back b s h =
    let u : b / 16 < 16 = omega arith in
    let l : b % 16 < 16 = omega arith in
    rw (digit-back (b / 16) u, digit-back (b % 16) l, lt-ltb (b / 16) 16 u, lt-ltb (b % 16) 16 l) (omega arith)

pub two_back : (n : ℕ) (f s : List ℕ) → n < 65536 → two_of (hex (bytes_of 2 n ++ f) ++ s) ≡ n
unfolding two_of bytes_of
two_back n f s h =
    rw (byte-back (n / 256 % 256) (hex (n % 256 ∷ f) ++ s) (omega arith), byte-back (n % 256) (hex f ++ s) (omega arith)) (omega arith)

-- a line's frame and what follows the line
abbrev pub before : List ℕ → List ℕ → List ℕ
before f s = hex f ++ (newline ∷ s)

pub line_before : (f s : List ℕ) → line f ++ s ≡ before f s
line_before f s = append_assoc (hex f) (newline ∷ []) s

pub line-back : (f s : List ℕ) → Bytes f → is_line (length f) (before f s) ≡ true
line-back [] s a = refl
line-back (b ∷ f) s a = rw (byte-back b (before f s) a.0, lt-ltb b 256 a.0) (line-back f s a.1)

pub line_of : (n : ℕ) (f s : List ℕ) → length f ≡ n → Bytes f → is_line n (before f s) ≡ true
line_of n f s e a = rw (← e) (line-back f s a)

pub front-back : (f s : List ℕ) → Bytes f → front_bytes (length f) (hex f ++ s) ≡ f
front-back [] s a = refl
front-back (b ∷ f) s a =
    let h = a.0 in
    let e : b % 256 ≡ b = omega arith in
    rw (byte-back b (hex f ++ s) h, e, front-back f s a.1)

pub length-hex : (f : List ℕ) → length (hex f) ≡ 2 * length f
length-hex [] = refl
length-hex (b ∷ f) = let e = length-hex f in omega arith

pub length-line : (f : List ℕ) → length (line f) ≡ 2 * length f + 1
length-line f = omega (arith, length-append (hex f) (newline ∷ []), length-hex f)
