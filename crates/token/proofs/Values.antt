-- A number's value has 32 bits, in every text. Assumes nothing.
use Rattle.std.proofs.Common.{Result, Ok, Err}
use Prim.Native.Nat.{ℕ, zero, suc, pred, ◌+◌, ◌≤◌, ◌<◌}
use Prim.Native.String.{String}
use mathlib.Core.Path.{◌≡◌, refl}
use mathlib.Core.Bool.{Bool, true, false}
use mathlib.Core.List.{List, [], ◌∷◌, map}
use native.Mathlib.Omega.{arith}
use lib.Dec.{eqb, ltb}
use lib.ListN.{length, take, drop, get_or}
use borrow.Author.Tests.{eqb-true, ltb-false}
use Rattle.base.specs.Text.{bytes}
use Rattle.base.specs.Lists.{All}
use Rattle.base.specs.Runs.{run_len}
use Rattle.base.specs.Numbers.{number_from}
use Rattle.base.specs.Walk.{walk}
use Rattle.base.proofs.Tests.{cases}
use Rattle.token.specs.Kinds as K
use Rattle.token.specs.Text.{separates, is_capital, is_digit, is_hexadecimal, in_name, digit_of, word_kind, comment, name_or_word, number, plain, negated, begins, sign, lexeme, Outcome, read, refused, next_step, next_token, is_last, read_by, read_from, TEXT-LIMIT, tokens_of, in_comment, most_decimal, most_negated, most_hexadecimal}
use Rattle.token.specs.Answers.{kind_of, value_of}
use Rattle.token.specs.declared.Token.{Token}
use Rattle.token.specs.declared.Lexeme.{Lexeme}
use Rattle.token.specs.declared.Lexeme.TheVariants as L
use Rattle.token.specs.declared.Why.{Why}
use Rattle.token.proofs.Gaps.{ending}

-- 32 bits hold the value that goes with the kind
abbrev Bits : ℕ → ℕ → Type 0
Bits kind value = kind ≡ K.NUMBER → value < 4294967296

abbrev pub Fits : Token → Type 0
Fits t = Bits t.kind t.value

-- ── what stands at the front of a text ──

abbrev LexemeFits : Result Lexeme Why → Type 0
LexemeFits (Ok (L.Gap n)) = Unit {0}
LexemeFits (Ok (L.Token kind value n)) = Bits kind value
LexemeFits (Err why) = Unit {0}

comment-fits : (n : ℕ) (s : List ℕ) → LexemeFits (comment n s)
unfolding comment
comment-fits n s = cases (ltb (n + run_len in_comment (drop n s)) (length s)) (λ e. rw e tt) (λ e. rw e tt)

name-fits : (s : List ℕ) → LexemeFits (name_or_word s)
unfolding name_or_word
name-fits s =
    let n = run_len in_name s in
    let k = word_kind K.words (take n s) in
    cases (eqb k K.COMMENT) (λ e. rw e (comment-fits n s)) λ e.
    cases (eqb k K.NAME) (λ e'. rw (e, e') (λ q. let z = eqb-true k K.NAME e' in absurd (omega arith))) (λ e'. rw (e, e') (λ q. omega arith))

number_fits : (inside : ℕ → Bool) (base most : ℕ) (bits : ℕ → ℕ) (mark : ℕ) (s : List ℕ) → ((v : ℕ) → v ≤ most → bits v < 4294967296) → LexemeFits (number inside base most bits mark s)
unfolding number
number_fits inside base most bits mark s h =
    let n = run_len inside s in
    let v = number_from digit_of base 0 (take n s) in
    cases (eqb n 0) (λ e. rw e tt) λ e.
    cases (ltb most v) (λ e'. rw (e, e') tt) (λ e'. rw (e, e') (λ q. h v (ltb-false most v e')))

sign_fits : (ws : List (ℕ × String)) (s : List ℕ) → LexemeFits (sign ws s)
unfolding sign
sign_fits [] s = tt
sign_fits (w ∷ ws) s = go (begins (bytes w.1) s) refl (sign_fits ws s)
  where
    go : (b : Bool) → begins (bytes w.1) s ≡ b → LexemeFits (sign ws s) → LexemeFits (sign (w ∷ ws) s)
    go true e h = rw (e, sign) (λ q. omega arith)
    go false e h = rw (e, sign) h

lexeme-fits : (s : List ℕ) → LexemeFits (lexeme s)
unfolding lexeme
lexeme-fits s =
    let b = get_or s 0 0 in
    cases (separates b) (λ e. rw e tt) λ e₁.
    cases (is_capital b) (λ e. rw (e₁, e) (name-fits s)) λ e₂.
    cases (is_digit b) (λ e. rw (e₁, e₂, e) (number_fits is_digit 10 most_decimal plain 0 s (λ v h. omega arith))) λ e₃.
    cases (eqb b 95) (λ e. rw (e₁, e₂, e₃, e) (number_fits is_digit 10 most_negated negated 1 (drop 1 s) (λ v h. omega arith))) λ e₄.
    cases (eqb b 35) (λ e. rw (e₁, e₂, e₃, e₄, e) (number_fits is_hexadecimal 16 most_hexadecimal plain 1 (drop 1 s) (λ v h. omega arith))) λ e₅.
    rw (e₁, e₂, e₃, e₄, e₅) (sign_fits K.signs s)

-- ── the next token, and all of them ──

abbrev OutcomeFits : Outcome → Type 0
OutcomeFits (read t end) = Fits t
OutcomeFits (refused number spot) = Unit {0}

walk-fits : (text : List ℕ) (at k : ℕ) (s : List ℕ) → OutcomeFits (walk (next_step text) (ending text) at k s)
unfolding walk next_step
walk-fits text at k [] = λ q. omega arith
walk-fits text at (suc k) (x ∷ xs) = walk-fits text (suc at) k xs
walk-fits text at zero (x ∷ xs) = by (λ n. walk-fits text (suc at) (pred n) xs) (lexeme (x ∷ xs)) refl (lexeme-fits (x ∷ xs))
  where
    by : ((n : ℕ) → OutcomeFits (walk (next_step text) (ending text) (suc at) (pred n) xs)) → (l : Result Lexeme Why) → lexeme (x ∷ xs) ≡ l → LexemeFits l
        → OutcomeFits (walk (next_step text) (ending text) at 0 (x ∷ xs))
    by ih (Ok (L.Gap n)) e h = rw (e, walk) (ih n)
    by ih (Ok (L.Token kind value n)) e h = rw (e, walk) h
    by ih (Err why) e h = rw (e, walk) tt

next_fits : (s : List ℕ) → OutcomeFits (next_token s)
unfolding next_token
next_fits s = walk-fits s 0 0 s

read-fit : (text : List ℕ) (at k : ℕ) (s : List ℕ) → All Fits (read_from text at k s).tokens
unfolding read_from
read-fit text at k [] = (λ q. omega arith, tt)
read-fit text at (suc k) (x ∷ xs) = read-fit text (suc at) k xs
read-fit text at zero (x ∷ xs) = by (next_token (x ∷ xs)) (next_fits (x ∷ xs)) (λ n. read-fit text (suc at) (pred n) xs)
  where
    by : (o : Outcome) → OutcomeFits o → ((n : ℕ) → All Fits (read_from text (suc at) (pred n) xs).tokens) → All Fits (read_by text o at (λ n. read_from text (suc at) (pred n) xs)).tokens
    by (refused number spot) h ih = tt
    by (read t end) h ih = cases (is_last t.kind) (λ e. rw e (h, tt)) (λ e. rw e (h, ih end))

pub tokens-fit : (s : List ℕ) → All Fits (tokens_of s).tokens
unfolding tokens_of
tokens-fit s = cases (ltb TEXT-LIMIT (length s)) (λ e. rw e tt) (λ e. rw e (read-fit s 0 0 s))

-- ── by the token's number, in the lists of kinds and values ──

pub fit_at : (ts : List Token) → All Fits ts → (t : ℕ) → get_or (map kind_of ts) t 0 ≡ K.NUMBER → get_or (map value_of ts) t 0 < 4294967296
fit_at [] a t e = omega arith
fit_at (x ∷ ts) a zero e = a.0 e
fit_at (x ∷ ts) a (suc t) e = fit_at ts a.1 t e

pub number_small : (source : List ℕ) (t : ℕ) → get_or (map kind_of (tokens_of source).tokens) t 0 ≡ K.NUMBER → get_or (map value_of (tokens_of source).tokens) t 0 < 4294967296
number_small source = fit_at (tokens_of source).tokens (tokens-fit source)
