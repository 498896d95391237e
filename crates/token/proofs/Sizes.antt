-- What stands at the front of a text has at least one byte, and ends in the text; no token holds a byte 10, which ends a line. Assumes nothing.
use Rattle.std.proofs.Common.{Result, Ok, Err}
use Prim.Native.Nat.{ℕ, suc, ◌+◌, ◌≤◌, ◌<◌}
use Prim.Native.String.{String}
use mathlib.Core.Path.{◌≡◌, refl, sym, ap, ◌∙◌}
use mathlib.Core.Bool.{Bool, true, false, not, ◌&&◌}
use mathlib.Core.List.{List, [], ◌∷◌}
use native.Mathlib.Omega.{arith}
use lib.Dec.{T, eqb, ltb, ltb→lt}
use lib.ListN.{length, take, drop, get_or, length-drop}
use lib.Seq.{take-add}
use borrow.Author.Tests.{ltb-true, eqb-true, eqb-false, ne_eqb}
use Rattle.base.specs.Lists.{member}
use Rattle.base.specs.Text.{bytes}
use Rattle.base.specs.Runs.{run_len}
use Rattle.base.specs.Numbers.{number_from}
use Rattle.base.specs.Tables.{every}
use Rattle.base.proofs.Lists.{all_both, all_map}
use Rattle.base.proofs.Runs.{run-le, run-pos, run-all}
use Rattle.base.proofs.Tests.{cases, never_true, is_true, not-true, and_left, and_right}
use Rattle.spots.specs.Spots.{NoNewline}
use Rattle.token.specs.Kinds as K
use Rattle.token.specs.Text.{separates, is_capital, is_digit, is_hexadecimal, in_name, digit_of, word_kind, comment, name_or_word, number, plain, negated, begins, sign, lexeme, in_comment, most_decimal, most_negated, most_hexadecimal}
use Rattle.token.specs.declared.Lexeme.{Lexeme}
use Rattle.token.specs.declared.Lexeme.TheVariants.{Gap, Token}
use Rattle.token.specs.declared.Why.{Why}

-- what is refused is refused at one byte
abbrev pub size_of : Result Lexeme Why → ℕ
size_of (Ok (Gap n)) = n
size_of (Ok (Token kind value n)) = n
size_of (Err why) = 1

-- the bytes of a token
abbrev pub spelling : Result Lexeme Why → List ℕ → List ℕ
spelling (Ok (Gap n)) s = []
spelling (Ok (Token kind value n)) s = take n s
spelling (Err why) s = []

pub record Sized (s : List ℕ) (l : Result Lexeme Why) : Type 0 where
  pub some : 0 < size_of l
  pub fits : size_of l ≤ length s
  pub one_line : NoNewline (spelling l s)

-- bytes of a class to which byte 10 does not belong
not-ten : (p : ℕ → Bool) → p 10 ≡ false → (b : ℕ) → p b ≡ true → eqb b 10 ≡ false
not-ten p n b h = cases (eqb b 10) (λ e. never_true (sym n ∙ ap p (sym (eqb-true b 10 e)) ∙ h)) (λ e. e)

pub run-one-line : (p : ℕ → Bool) → p 10 ≡ false → (s : List ℕ) → NoNewline (take (run_len p s) s)
run-one-line p n s = all_map (λ (b : ℕ). p b ≡ true) (λ (b : ℕ). eqb b 10 ≡ false) (take (run_len p s) s) (not-ten p n) (run-all p s)

module _ (s : List ℕ) (some : 0 < length s) where
  comment-sized : (n : ℕ) → Sized s (comment n s)
  unfolding comment
  comment-sized n =
      cases (ltb (n + run_len in_comment (drop n s)) (length s))
      (λ e. rw e (record { some = omega arith; fits = omega (arith, ltb-true); one_line = tt }))
      (λ e. rw e (record { some = omega arith; fits = omega arith; one_line = tt }))

  name-sized : is_capital (get_or s 0 0) ≡ true → Sized s (name_or_word s)
  unfolding name_or_word
  name-sized e =
      let p : in_name (get_or s 0 0) ≡ true = rw e in
      let n = run_len in_name s in
      let k = word_kind K.words (take n s) in
      let l = run-le in_name s in
      let h = run-pos in_name s some p in
      cases (eqb k K.COMMENT) (λ e. rw e (comment-sized n)) λ e.
      let r = run-one-line in_name refl s in
      cases (eqb k K.NAME)
      (λ e'. rw (e, e') (record { some = omega arith; fits = omega arith; one_line = r }))
      (λ e'. rw (e, e') (record { some = omega arith; fits = omega arith; one_line = r }))

  number-sized :
      (inside : ℕ → Bool) → inside 10 ≡ false → (base most : ℕ) (bits : ℕ → ℕ) (mark : ℕ) → mark ≤ length s → NoNewline (take mark s)
      → Sized s (number inside base most bits mark (drop mark s))
  unfolding number
  number-sized inside ten base most bits mark h m =
      let n = run_len inside (drop mark s) in
      let v = number_from digit_of base 0 (take n (drop mark s)) in
      let l = run-le inside (drop mark s) in
      let d = length-drop mark s in
      cases (eqb n 0) (λ e. rw e (record { some = omega arith; fits = omega arith; one_line = tt })) λ e.
      let nz = eqb-false n 0 e in
      cases (ltb most v)
      (λ e'. rw (e, e') (record { some = omega arith; fits = omega arith; one_line = tt }))
      (λ e'.
      rw (e, e')
      (record {
        some = omega arith;
        fits = omega arith;
        one_line = rw (take-add mark n s) (all_both (λ (b : ℕ). eqb b 10 ≡ false) (take mark s) (take n (drop mark s)) m (run-one-line inside ten (drop mark s)));
      }))

-- a text that begins with a sign has its bytes at the front
begins-with : (w s : List ℕ) → begins w s ≡ true → (length w ≤ length s) × (take (length w) s ≡ w)
unfolding begins
begins-with [] s e = (omega arith, refl)
begins-with (x ∷ xs) [] e = never_true e
begins-with (x ∷ xs) (y ∷ ys) e = go (eqb x y) refl (begins-with xs ys)
  where
    go : (b : Bool) → eqb x y ≡ b → (begins xs ys ≡ true → (length xs ≤ length ys) × (take (length xs) ys ≡ xs)) → (suc (length xs) ≤ suc (length ys)) × (y ∷ take (length xs) ys ≡ x ∷ xs)
    go true q f =
        let r = f (rw q at e) in
        let z = eqb-true x y q in
        (omega (arith, r.0), rw (r.1, z))
    go false q f = never_true (rw q at e)

-- some bytes, none of which ends a line
abbrev is_sign : List ℕ → Bool
is_sign w = ltb 0 (length w) && not (member 10 w)

no-ten : (w : List ℕ) → member 10 w ≡ false → NoNewline w
no-ten [] e = tt
no-ten (x ∷ w) e = go (eqb 10 x) refl (no-ten w)
  where
    go : (b : Bool) → eqb 10 x ≡ b → (member 10 w ≡ false → NoNewline w) → (eqb x 10 ≡ false) × NoNewline w
    go true q f = never_true (sym (rw q at e))
    go false q f = (ne_eqb x 10 (λ z. eqb-false 10 x q (sym z)), f (rw q at e))

sign-sized : (s : List ℕ) → 0 < length s → (ws : List (ℕ × String)) (i : ℕ) → T (every (λ i w. is_sign (bytes w.1)) i ws) → Sized s (sign ws s)
unfolding sign
sign-sized s h [] i t = record { some = omega arith; fits = omega arith; one_line = tt }
sign-sized s h (w ∷ ws) i t = go (begins (bytes w.1) s) refl (sign-sized s h ws (suc i) (and_right (is_sign (bytes w.1)) _ t))
  where
    go : (b : Bool) → begins (bytes w.1) s ≡ b → Sized s (sign ws s) → Sized s (sign (w ∷ ws) s)
    go true e r =
        let u = and_left (is_sign (bytes w.1)) _ t in
        let b = begins-with (bytes w.1) s e in
        rw (e, sign)
        (record {
          some = ltb→lt 0 (length (bytes w.1)) (and_left (ltb 0 (length (bytes w.1))) _ u);
          fits = b.0;
          one_line = rw b.1 (no-ten (bytes w.1) (not-true (member 10 (bytes w.1)) (is_true (not (member 10 (bytes w.1))) (and_right (ltb 0 (length (bytes w.1))) _ u))));
        })
    go false e r = rw (e, sign) r

-- the mark in front of a number
mark : (s : List ℕ) (m : ℕ) → eqb 10 m ≡ false → eqb (get_or s 0 0) m ≡ true → NoNewline (take 1 s)
mark [] m n e = tt
mark (x ∷ s) m n e = (not-ten (λ (b : ℕ). eqb b m) n x e, tt)

pub lexeme-sized : (s : List ℕ) → 0 < length s → Sized s (lexeme s)
unfolding lexeme
lexeme-sized s h =
    let b = get_or s 0 0 in
    cases (separates b) (λ e. rw e (record { some = run-pos separates s h e; fits = run-le separates s; one_line = tt })) λ e₁.
    cases (is_capital b) (λ e. rw (e₁, e) (name-sized s h e)) λ e₂.
    cases (is_digit b) (λ e. rw (e₁, e₂, e) (number-sized s h is_digit refl 10 most_decimal plain 0 (omega arith) tt)) λ e₃.
    cases (eqb b 95) (λ e. rw (e₁, e₂, e₃, e) (number-sized s h is_digit refl 10 most_negated negated 1 (omega arith) (mark s 95 refl e))) λ e₄.
    cases (eqb b 35) (λ e. rw (e₁, e₂, e₃, e₄, e) (number-sized s h is_hexadecimal refl 16 most_hexadecimal plain 1 (omega arith) (mark s 35 refl e))) λ e₅.
    rw (e₁, e₂, e₃, e₄, e₅) (sign-sized s h K.signs 0 tt)
