-- Signs by their first byte: one byte that begins no longer sign, one that may, and one that begins none. Assumes nothing.
use Rattle.std.proofs.Common.{Result, Ok, Err}
use Prim.Native.Nat.{ℕ, suc, ◌<◌}
use Prim.Native.String.{String}
use mathlib.Core.Path.{◌≡◌, refl, sym, ap, ◌∙◌}
use mathlib.Core.Bool.{false}
use mathlib.Core.List.{List, [], ◌∷◌}
use native.Mathlib.Omega.{arith}
use lib.Dec.{eqb}
use lib.ListN.{length, get_or}
use borrow.Author.Tests.{le-ltb, eqb-true, eqb-false, ne_eqb}
use Rattle.base.specs.Text.{bytes}
use Rattle.base.specs.Lists.{All}
use Rattle.base.proofs.Tests.{cases}
use Rattle.token.specs.Kinds as K
use Rattle.token.specs.Text.{begins, sign}
use Rattle.scanner.specs.Inner.{two_or}
use Rattle.token.specs.declared.Lexeme.{Lexeme}
use Rattle.token.specs.declared.Lexeme.TheVariants.{Token}
use Rattle.token.specs.declared.Why.{Why}
use Rattle.token.specs.declared.Why.TheVariants.{NoToken}

-- the byte begins no sign of two bytes
pub one : (s : List ℕ) (b : ℕ) {l : Result Lexeme Why} → 0 < length s → b ≡ get_or s 0 0 → ((t : List ℕ) → sign K.signs (b ∷ t) ≡ l) → l ≡ sign K.signs s
one [] b h e f = absurd (omega arith)
one (x ∷ t) b h e f = sym (ap (λ (y : ℕ). sign K.signs (y ∷ t)) (sym e) ∙ f t)

-- the byte begins a sign of two bytes, and `other` alone
pub two : (s : List ℕ) (b second k : ℕ) (other : Result Lexeme Why) → 0 < length s → b ≡ get_or s 0 0
    → sign K.signs (b ∷ []) ≡ other
    → ((t : List ℕ) → sign K.signs (b ∷ second ∷ t) ≡ Ok (Token k 0 2))
    → ((y : ℕ) (t : List ℕ) → eqb second y ≡ false → sign K.signs (b ∷ y ∷ t) ≡ other)
    → two_or s second k other ≡ sign K.signs s
two [] b second k other h e p q r = absurd (omega arith)
two (x ∷ []) b second k other h e p q r = sym p ∙ ap (λ (y : ℕ). sign K.signs (y ∷ [])) e
two (x ∷ y ∷ t) b second k other h e p q r =
    rw (le-ltb (suc (suc (length t))) 2 (omega arith), ← e)
    (cases (eqb y second)
    (λ f. let z : y ≡ second = eqb-true y second f in rw f (sym (q t) ∙ ap (λ (w : ℕ). sign K.signs (b ∷ w ∷ t)) (sym z)))
    (λ f. rw f (sym (r y t (ne_eqb second y (λ g. eqb-false y second f (sym g)))))))

-- no sign begins with the byte
others : (x : ℕ) (t : List ℕ) (ws : List (ℕ × String)) → All (λ w. begins (bytes w.1) (x ∷ t) ≡ false) ws → sign ws (x ∷ t) ≡ Err NoToken
unfolding sign
others x t [] a = refl
others x t (w ∷ ws) a = rw (a.0, sign) (others x t ws a.1)

begins-not : (x y : ℕ) (ys t : List ℕ) → (x ≡ y → ⊥) → begins (y ∷ ys) (x ∷ t) ≡ false
unfolding begins
begins-not x y ys t n = rw (ne_eqb y x (λ e. n (sym e)))

pub none : (s : List ℕ) → 0 < length s
    → let b = get_or s 0 0 in
    (b ≡ 40 → ⊥) → (b ≡ 41 → ⊥) → (b ≡ 42 → ⊥) → (b ≡ 43 → ⊥) → (b ≡ 44 → ⊥) → (b ≡ 45 → ⊥) → (b ≡ 58 → ⊥) → (b ≡ 59 → ⊥) → (b ≡ 60 → ⊥) → (b ≡ 61 → ⊥) → (b ≡ 62 → ⊥) → (b ≡ 64 → ⊥) → (b ≡ 94 → ⊥)
    → Err NoToken ≡ sign K.signs s
none [] h n40 n41 n42 n43 n44 n45 n58 n59 n60 n61 n62 n64 n94 = absurd (omega arith)
none (x ∷ t) h n40 n41 n42 n43 n44 n45 n58 n59 n60 n61 n62 n64 n94 =
    sym (others x t K.signs (
      no _ _ n58,
      (
        no _ _ n60,
        (
          no _ _ n62,
          (
            no _ _ n94,
            (
              no _ _ n43,
              (
                no _ _ n45,
                (
                  no _ _ n43,
                  (
                    no _ _ n45,
                    (no _ _ n42, (no _ _ n61, (no _ _ n60, (no _ _ n62, (no _ _ n44, (no _ _ n59, (no _ _ n58, (no _ _ n40, (no _ _ n41, (no _ _ n64, tt)))))))))),
                  ),
                ),
              ),
            ),
          ),
        ),
      ),
    ))
  where
    no : (y : ℕ) (ys : List ℕ) → (x ≡ y → ⊥) → begins (y ∷ ys) (x ∷ t) ≡ false
    no y ys n = begins-not x y ys t n
