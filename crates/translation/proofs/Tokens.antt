-- The tokens that a text is translated by, with the names in front of it: how many there are, that its numbers have 32 bits, that a later token stands at a
-- greater place, and each in the text.
use mathlib.Core.Path.{◌≡◌, ap}
use mathlib.Core.List.{List, [], ◌∷◌, ◌++◌, map}
use Prim.Native.Nat.{ℕ, zero, suc, ◌+◌, ◌-◌, ◌≤◌, ◌<◌}
use native.Mathlib.Omega.{arith}
use lib.ListN.{length, get_or, length-append}
use Rattle.base.specs.Lists.{All}
use Rattle.base.proofs.Lists.{all_both}
use Rattle.token.specs.Kinds as K
use Rattle.token.specs.declared.Token.{Token}
use Rattle.token.specs.Text.{tokens_of, TEXT-LIMIT}
use Rattle.token.proofs.Readings.{tokens-few}
use Rattle.token.proofs.Shape.{Tokened, last, more, tokens-whole}
use Rattle.token.proofs.Values.{Fits, tokens-fit, fit_at}
use Rattle.scopes.specs.Search.{names_in_front, standard_name, in_front, first_token}
use Rattle.translation.specs.Translate.{kinds_of, values_of, place_at}

standard-fit : (cs : List (List ℕ)) → All Fits (map standard_name cs)
standard-fit [] = tt
standard-fit (c ∷ cs) = (λ q. absurd (omega arith), standard-fit cs)

-- the names in front are no numbers
front_fits : All Fits in_front
front_fits = (λ q. omega arith, standard-fit names_in_front)

pub small-text : (source : List ℕ) (t : ℕ) → get_or (kinds_of (in_front ++ (tokens_of source).tokens)) t 0 ≡ K.NUMBER → get_or (values_of (in_front ++ (tokens_of source).tokens)) t 0 < 4294967296
small-text source = fit_at (in_front ++ (tokens_of source).tokens) (all_both Fits in_front (tokens_of source).tokens front_fits (tokens-fit source))

pub text-length : (ts : List Token) → length (in_front ++ ts) ≡ first_token + length ts
text-length ts = length-append in_front ts

pub text-few : (source : List ℕ) → length (in_front ++ (tokens_of source).tokens) ≤ first_token + TEXT-LIMIT + 1
text-few source = let l = text-length (tokens_of source).tokens in let f = (tokens-few source).1 in omega arith

-- ── places rise ──

places-from : {from size : ℕ} {ts : List Token} → Tokened from size ts → (i : ℕ) → i < length ts → from ≤ place_at ts i
places-from (last t p q r) zero h = p
places-from (last t p q r) (suc i) h = absurd (omega arith)
places-from (more t p q r m) zero h = p
places-from (more t p q r m) (suc i) h = (let l = places-from m i (omega arith) in omega arith)

places-rise : {from size : ℕ} {ts : List Token} → Tokened from size ts → (i j : ℕ) → i < j → j < length ts → place_at ts i < place_at ts j
places-rise (last t p q r) i j h l = absurd (omega arith)
places-rise (more t p q r m) i zero h l = absurd (omega arith)
places-rise (more t p q r m) zero (suc j) h l = (let k = places-from m j (omega arith) in omega arith)
places-rise (more t p q r m) (suc i) (suc j) h l = places-rise m i j (omega arith) (omega arith)

-- ── and stay in the text ──

module _ (n : ℕ) where
  abbrev Inside : Token → Type 0
  Inside t = t.spot.place ≤ n

  at-inside : (ts : List Token) → All Inside ts → (i : ℕ) → place_at ts i ≤ n
  at-inside [] h i = omega arith
  at-inside (t ∷ ts) h zero = h.0
  at-inside (t ∷ ts) h (suc i) = at-inside ts h.1 i

  tokened-inside : {from : ℕ} {ts : List Token} → Tokened from n ts → All Inside ts
  tokened-inside (last t p q r) = (q, tt)
  tokened-inside (more t p q r m) = (omega arith, tokened-inside m)

  names-inside : (cs : List (List ℕ)) → All Inside (map standard_name cs)
  names-inside [] = tt
  names-inside (c ∷ cs) = (omega arith, names-inside cs)

pub place_inside : (source : List ℕ) → (tokens_of source).number ≡ 0 → (i : ℕ) → place_at (in_front ++ (tokens_of source).tokens) i ≤ length source
place_inside source z i =
    let n = length source in
    at-inside n (in_front ++ (tokens_of source).tokens)
    (all_both (Inside n) in_front (tokens_of source).tokens (omega arith, names-inside n names_in_front) (tokened-inside n (tokens-whole source z))) i

-- the tokens after those in front
past : (fs ts : List Token) (i k : ℕ) → k ≡ length fs + i → place_at (fs ++ ts) k ≡ place_at ts i
past [] ts i k e = ap (place_at ts) (omega arith)
past (f ∷ fs) ts i zero e = absurd (omega arith)
past (f ∷ fs) ts i (suc k) e = past fs ts i k (omega arith)

pub later-token : (source : List ℕ) → (tokens_of source).number ≡ 0 → (i j : ℕ) → first_token ≤ i → i < j → j < length (in_front ++ (tokens_of source).tokens)
    → place_at (in_front ++ (tokens_of source).tokens) i < place_at (in_front ++ (tokens_of source).tokens) j
later-token source z i j f h l =
    let ts = (tokens_of source).tokens in
    let n = text-length ts in
    let rises = places-rise (tokens-whole source z) (i - first_token) (j - first_token) (omega arith) (omega arith) in
    let a = past in_front ts (i - first_token) i (omega arith) in
    let b = past in_front ts (j - first_token) j (omega arith) in
    omega arith
