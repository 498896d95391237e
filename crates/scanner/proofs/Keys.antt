-- Names as numbers: two names with one key are one name in the characters that count, and the word with a name's key is the word that the name is,
-- compared whole. Assumes nothing.
use Prim.Native.Nat.{ℕ, suc, ◌+◌, ◌*◌, ◌^◌, ◌≤◌, ◌<◌}
use Prim.Native.String.{String}
use mathlib.Core.Path.{◌≡◌, refl, sym, ap, ap₂, ◌∙◌}
use mathlib.Core.Bool.{Bool, true, false, not, ◌&&◌, ◌||◌, and-false}
use mathlib.Core.List.{List, [], ◌∷◌, map}
use native.Mathlib.Omega.{arith}
use native.Mathlib.Decide.{dec_le}
use native.Mathlib.Nat.{mul-le-mul_right, pow-le-pow_right}
use lib.Dec.{T, leb, ltb, eqb, eqb→eq, ltb→lt, leb→le, lit<}
use lib.ListN.{length, take, get_or, length-take}
use lib.Seq.{take_all, get_or-take}
use borrow.Author.Tests.{eq-eqb, ne_eqb, leb-true, leb-false, lt-leb, ltb-true}
use Rattle.base.specs.Choose.{whether◌then◌else◌}
use Rattle.base.specs.Text.{bytes, same_bytes}
use Rattle.base.specs.Lists.{All}
use Rattle.base.specs.Runs.{run_len}
use Rattle.base.specs.Numbers.{number_from}
use Rattle.base.specs.Tables.{every}
use Rattle.base.proofs.Lists.{all_map, all_take}
use Rattle.base.proofs.Numbers.{number_lt, number-split, digits-told}
use Rattle.base.proofs.Runs.{run-pos, run-all}
use Rattle.base.proofs.Tables.{all-below}
use Rattle.base.proofs.Tests.{cases, never_true, is_true, and_left, and_right, implied}
use Rattle.base.proofs.Text.{same-is, not_same}
use Rattle.token.specs.Kinds as K
use Rattle.token.specs.Text.{is_capital, in_name, digit_of, key_of, word_kind}
use Rattle.scanner.specs.Inner.{key_kind, Named}
use Rattle.scanner.specs.declared.Spelled.{Spelled}
use Rattle.scanner.proofs.Spelling.{alphanumeric}

-- "a capital letter, then capitals or digits"
pub record IsName (t : List ℕ) : Type 0 where
  pub first : is_capital (get_or t 0 0) ≡ true
  pub rest : All (λ b. in_name b ≡ true) t
  pub some : 0 < length t

-- a byte of a name is told by its digit: a test of each byte up to `Z`
char_of : ℕ → ℕ
char_of d = whether ltb d 10 then d + 48 else d + 55

up-to-Z : (b : ℕ) → in_name b ≡ true → b < 91
up-to-Z b e =
    cases (leb b 90) (λ a. omega (arith, leb-true b 90 a))
    (λ a.
    let f : leb b 57 ≡ false = lt-leb b 57 (omega (arith, leb-false b 90 a)) in
    never_true (simp (a, f, and-false) at e))

char_of_lem : (b : ℕ) → in_name b ≡ true → char_of (digit_of b) ≡ b
unfolding char_of
char_of_lem b e =
    eqb→eq (char_of (digit_of b)) b
    (implied (in_name b) (eqb (char_of (digit_of b)) b) (all-below 91 (λ k. not (in_name k) || eqb (char_of (digit_of k)) k) tt b (up-to-Z b e)) e)

same_chars : (xs ys : List ℕ) → All (λ b. in_name b ≡ true) xs → All (λ b. in_name b ≡ true) ys → map digit_of xs ≡ map digit_of ys → xs ≡ ys
same_chars xs ys a b e = sym (back xs a) ∙ ap (λ (ds : List ℕ). map char_of ds) e ∙ back ys b
  where
    back : (zs : List ℕ) → All (λ b. in_name b ≡ true) zs → map char_of (map digit_of zs) ≡ zs
    back [] a = refl
    back (z ∷ zs) a = ap₂ (λ (c : ℕ) (l : List ℕ). c ∷ l) (char_of_lem z a.0) (back zs a.1)

digits_of : (t : List ℕ) → All (λ b. in_name b ≡ true) t → All (λ b. digit_of b < 36) t
digits_of t a =
    all_map (λ b. in_name b ≡ true) (λ b. digit_of b < 36) t (λ b e. ltb-true (digit_of b) 36 (ap (λ (p : ℕ → Bool). p b) alphanumeric ∙ e)) a

-- a capital stands for no zero, so the number tells how many characters there are
capital-some : (b : ℕ) → is_capital b ≡ true → 0 < digit_of b
capital-some b e =
    let n : in_name b ≡ true = rw e in
    ltb→lt 0 (digit_of b)
    (implied (is_capital b) (ltb 0 (digit_of b)) (all-below 91 (λ k. not (is_capital k) || ltb 0 (digit_of k)) tt b (up-to-Z b n)) e)

leading : (y : ℕ) (ys : List ℕ) → 0 < digit_of y → 36 ^ length ys ≤ number_from digit_of 36 0 (y ∷ ys)
unfolding number_from
leading y ys h = omega (arith, number-split digit_of 36 (0 * 36 + digit_of y) ys, mul-le-mul_right (36 ^ length ys) h)

longer : (xs : List ℕ) (y : ℕ) (ys : List ℕ) → All (λ b. digit_of b < 36) xs → 0 < digit_of y → length xs ≤ length ys
    → number_from digit_of 36 0 xs < number_from digit_of 36 0 (y ∷ ys)
longer xs y ys a h l = omega (arith, leading y ys h, number_lt digit_of 36 xs a, pow-le-pow_right {n = 36} (lit< tt) {i = length xs} {j = length ys} l)

one_number : (x y : ℕ) (xs ys : List ℕ) → All (λ b. in_name b ≡ true) (x ∷ xs) → All (λ b. in_name b ≡ true) (y ∷ ys) → 0 < digit_of x → 0 < digit_of y
    → number_from digit_of 36 0 (x ∷ xs) ≡ number_from digit_of 36 0 (y ∷ ys) → x ∷ xs ≡ y ∷ ys
one_number x y xs ys a b h k e = go (dec_le (suc (length xs)) (length ys)) (dec_le (suc (length ys)) (length xs))
  where
    go : Dec (length xs < length ys) → Dec (length ys < length xs) → x ∷ xs ≡ y ∷ ys
    go (yes l) d = absurd (omega (arith, e, longer (x ∷ xs) y ys (digits_of (x ∷ xs) a) k l))
    go (no m) (yes l) = absurd (omega (arith, e, longer (y ∷ ys) x xs (digits_of (y ∷ ys) b) h l))
    go (no m) (no n) =
        same_chars (x ∷ xs) (y ∷ ys) a b
        (digits-told digit_of 36 (x ∷ xs) (y ∷ ys) (digits_of (x ∷ xs) a) (digits_of (y ∷ ys) b) (omega arith) e)

-- one key, one name: in "the first 10 characters", which count
pub key_one : (t u : List ℕ) → IsName t → IsName u → key_of t ≡ key_of u → take 10 t ≡ take 10 u
key_one [] u n m e = absurd (omega (arith, n.some))
key_one (x ∷ xs) [] n m e = absurd (omega (arith, m.some))
key_one (x ∷ xs) (y ∷ ys) n m e =
    let P : ℕ → Type 0 = λ b. in_name b ≡ true in
    one_number x y (take 9 xs) (take 9 ys) (all_take P 10 (x ∷ xs) n.rest) (all_take P 10 (y ∷ ys) m.rest) (capital-some x n.first) (capital-some y m.first) e

-- what each reserved word is: a name of at most nine characters, as a test
all_in_name : List ℕ → Bool
all_in_name [] = true
all_in_name (b ∷ bs) = in_name b && all_in_name bs

wordly : List ℕ → Bool
wordly t = is_capital (get_or t 0 0) && (all_in_name t && (ltb 0 (length t) && leb (length t) 9))

all-in-name : (t : List ℕ) → T (all_in_name t) → All (λ b. in_name b ≡ true) t
unfolding all_in_name
all-in-name [] h = tt
all-in-name (b ∷ bs) h = (is_true (in_name b) (and_left (in_name b) _ h), all-in-name bs (and_right (in_name b) _ h))

is_name : (t : List ℕ) → T (wordly t) → IsName t
unfolding wordly
is_name t h =
    let h₂ = and_right (is_capital (get_or t 0 0)) _ h in
    let h₃ = and_right (all_in_name t) _ h₂ in
    record {
      first = is_true (is_capital (get_or t 0 0)) (and_left (is_capital (get_or t 0 0)) _ h);
      rest = all-in-name t (and_left (all_in_name t) _ h₂);
      some = ltb→lt 0 (length t) (and_left (ltb 0 (length t)) _ h₃);
    }

at-most-nine : (t : List ℕ) → T (wordly t) → length t ≤ 9
unfolding wordly
at-most-nine t h = leb→le (length t) 9 (and_right (ltb 0 (length t)) _ (and_right (all_in_name t) _ (and_right (is_capital (get_or t 0 0)) _ h)))

-- a name with a word's key is that word, whole
whole : (t w : List ℕ) → IsName t → T (wordly w) → key_of w ≡ key_of t → t ≡ w
whole t w n h e =
    let l = at-most-nine w h in
    let q : take 10 w ≡ take 10 t = key_one w t (is_name w h) n e in
    let a : take 10 w ≡ w = take_all 10 w (omega arith) in
    let b : take 10 t ≡ t = take_all 10 t (omega (arith, ap (λ (k : List ℕ). length k) q, ap (λ (k : List ℕ). length k) a, length-take 10 t)) in
    sym b ∙ sym q ∙ a

by_key : (t : List ℕ) → IsName t → (ws : List (ℕ × String)) (i : ℕ) → T (every (λ i w. wordly (bytes w.1)) i ws) → key_kind ws (key_of t) ≡ word_kind ws t
unfolding key_kind word_kind
by_key t n [] i h = refl
by_key t n (w ∷ ws) i h = go (by_key t n ws (suc i) (and_right (wordly (bytes w.1)) _ h)) (same_bytes t (bytes w.1)) refl
  where
    fits : T (wordly (bytes w.1))
    fits = and_left (wordly (bytes w.1)) _ h

    go : key_kind ws (key_of t) ≡ word_kind ws t → (b : Bool) → same_bytes t (bytes w.1) ≡ b → key_kind (w ∷ ws) (key_of t) ≡ word_kind (w ∷ ws) t
    go ih true e =
        let q : key_of (bytes w.1) ≡ key_of t = ap (λ (k : List ℕ). key_of k) (sym (same-is t (bytes w.1) e)) in
        rw (e, word_kind, eq-eqb (key_of (bytes w.1)) (key_of t) q, key_kind)
    go ih false e =
        rw (e, word_kind, ne_eqb (key_of (bytes w.1)) (key_of t) (λ q. not_same t (bytes w.1) e (whole t (bytes w.1) n fits q)), key_kind) ih

pub word-by-key : (t : List ℕ) → IsName t → key_kind K.words (key_of t) ≡ word_kind K.words t
unfolding wordly all_in_name
word-by-key t n = by_key t n K.words 0 tt

-- what the name at the front of a text is, and the kind that its key gives
named : (s : List ℕ) → 0 < length s → is_capital (get_or s 0 0) ≡ true → IsName (take (run_len in_name s) s)
named s h e =
    let n : in_name (get_or s 0 0) ≡ true = rw e in
    let p = run-pos in_name s h n in
    record {
      first = rw (get_or-take (run_len in_name s) s 0 0 p) e;
      rest = run-all in_name s;
      some = omega (arith, length-take (run_len in_name s) s);
    }

pub kind-of : (s : List ℕ) (d : Spelled) (kind : ℕ) → 0 < length s → is_capital (get_or s 0 0) ≡ true → Named s d → kind ≡ key_kind K.words d.value
    → word_kind K.words (take d.size s) ≡ kind
kind-of s d kind h e n q = sym (q ∙ ap (λ (k : ℕ). key_kind K.words k) n.value ∙ word-by-key (take d.size s) (rw n.size (named s h e)))
