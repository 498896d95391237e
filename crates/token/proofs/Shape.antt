-- What the tokens of a text are like, whatever the text: the last of them, and only the last, is `@` or the end of the text; each stands after the one
-- before it, and in the text. Assumes nothing.
use Prim.Native.Nat.{ℕ, zero, suc, pred, ◌+◌, ◌-◌, ◌≤◌, ◌<◌}
use mathlib.Core.Path.{◌≡◌, refl, sym, subst}
use mathlib.Core.Bool.{Bool, true, false}
use mathlib.Core.List.{List, [], ◌∷◌, map}
use native.Mathlib.Omega.{arith}
use lib.Dec.{ltb}
use lib.ListN.{length, get_or}
use Rattle.base.specs.Lists.{All}
use Rattle.base.proofs.Tests.{cases}
use Rattle.spots.specs.Spots.{spot_at}
use Rattle.token.specs.Kinds as K
use Rattle.token.specs.Text.{token, Outcome, read, refused, next_token, is_last, moved, read_by, read_from, TEXT-LIMIT, tokens_of}
use Rattle.token.specs.Answers.{kind_of}
use Rattle.token.specs.declared.Token.{Token}
use Rattle.token.proofs.Gaps.{Held, held}
use Rattle.token.proofs.Readings.{all-read-from}

-- tokens from a place on, in a text of so many bytes
pub data Tokened : ℕ → ℕ → List Token → Type 0 where
  last : {from size : ℕ} (t : Token) → from ≤ t.spot.place → t.spot.place ≤ size → is_last t.kind ≡ true → Tokened from size (t ∷ [])
  more : {from size : ℕ} (t : Token) {ts : List Token} → from ≤ t.spot.place → t.spot.place < size → is_last t.kind ≡ false → Tokened (suc t.spot.place) size ts → Tokened from size (t ∷ ts)

lower : {a b size : ℕ} {ts : List Token} → a ≤ b → Tokened b size ts → Tokened a size ts
lower {a} h (last t p q r) = let l : a ≤ t.spot.place = omega arith in last t l q r
lower {a} h (more t p q r m) = let l : a ≤ t.spot.place = omega arith in more t l q r m

tokened : (text : List ℕ) (at k : ℕ) (s : List ℕ) (size : ℕ) → size ≡ at + length s → k ≤ length s → (read_from text at k s).number ≡ 0 → Tokened (at + k) size (read_from text at k s).tokens
unfolding read_from
tokened text at k [] size e h z =
    let l : at + k ≤ at = omega arith in
    let m : at ≤ size = omega arith in
    last (token K.END-OF-TEXT 0 (spot_at text at)) l m refl
tokened text at (suc k) (x ∷ xs) size e h z =
    let j : suc at + k ≡ at + suc k = omega arith in
    subst (λ (f : ℕ). Tokened f size (read_from text (suc at) k xs).tokens) j (tokened text (suc at) k xs size (omega arith) (omega arith) z)
tokened text at zero (x ∷ xs) size e h z = by (next_token (x ∷ xs)) (held (x ∷ xs)) (λ n l. tokened text (suc at) (pred n) xs size (omega arith) l) z
  where
    by : (o : Outcome) → Held (x ∷ xs) o
        → ((n : ℕ) → pred n ≤ length xs → (read_from text (suc at) (pred n) xs).number ≡ 0 → Tokened (suc at + pred n) size (read_from text (suc at) (pred n) xs).tokens)
        → (read_by text o at (λ n. read_from text (suc at) (pred n) xs)).number ≡ 0 → Tokened (at + 0) size (read_by text o at (λ n. read_from text (suc at) (pred n) xs)).tokens
    by (refused number spot) g ih y = absurd (omega (arith, g.real))
    by (read t end) g ih y = go (is_last t.kind) refl
      where
        from : at + 0 ≤ at + t.spot.place
        from = omega arith

        go : (b : Bool) → is_last t.kind ≡ b → Tokened (at + 0) size (read_by text (read t end) at (λ n. read_from text (suc at) (pred n) xs)).tokens
        go true l =
            let m : at + t.spot.place ≤ size = (let f = g.fits in let p = g.before in omega arith) in
            rw l (last (moved text at t) from m l)
        go false l =
            let p = g.some l in
            let f = g.fits in
            let m : at + t.spot.place < size = omega arith in
            let n : suc (at + t.spot.place) ≤ suc at + pred end = omega arith in
            rw l (more (moved text at t) from m l (lower n (ih end (omega arith) (rw l at y))))

pub tokens-whole : (s : List ℕ) → (tokens_of s).number ≡ 0 → Tokened 0 (length s) (tokens_of s).tokens
tokens-whole s z =
    let w = all-read-from s z in
    rw w (tokened s 0 0 s (length s) (omega arith) (omega arith) (rw w at z))

-- each token stands where the text has its place
abbrev Stands : List ℕ → Token → Type 0
Stands text t = t.spot ≡ spot_at text t.spot.place

stand : (text : List ℕ) (at k : ℕ) (s : List ℕ) → All (Stands text) (read_from text at k s).tokens
unfolding read_from
stand text at k [] = (refl, tt)
stand text at (suc k) (x ∷ xs) = stand text (suc at) k xs
stand text at zero (x ∷ xs) = by (next_token (x ∷ xs)) (λ n. stand text (suc at) (pred n) xs)
  where
    by : (o : Outcome) → ((n : ℕ) → All (Stands text) (read_from text (suc at) (pred n) xs).tokens) → All (Stands text) (read_by text o at (λ n. read_from text (suc at) (pred n) xs)).tokens
    by (refused number spot) ih = tt
    by (read t end) ih = cases (is_last t.kind) (λ e. rw e (refl, tt)) (λ e. rw e (refl, ih end))

pub tokens-stand : (s : List ℕ) → All (λ t. t.spot ≡ spot_at s t.spot.place) (tokens_of s).tokens
unfolding tokens_of
tokens-stand s = cases (ltb TEXT-LIMIT (length s)) (λ e. rw e tt) (λ e. rw e (stand s 0 0 s))

-- the token with the last number
pub tokened-last : {from size : ℕ} {ts : List Token} → Tokened from size ts → (0 < length ts) × (is_last (get_or (map kind_of ts) (length ts - 1) 0) ≡ true)
tokened-last (last t p q r) = (omega arith, r)
tokened-last (more t {ts} p q r m) =
    let h = tokened-last m in
    let l = h.0 in
    let e : length (t ∷ ts) - 1 ≡ suc (length ts - 1) = omega arith in
    (omega arith, subst (λ (i : ℕ). is_last (get_or (map kind_of (t ∷ ts)) i 0) ≡ true) (sym e) h.1)

pub last-token : (s : List ℕ) → (tokens_of s).number ≡ 0 → (0 < length (tokens_of s).tokens) × (is_last (get_or (map kind_of (tokens_of s).tokens) (length (tokens_of s).tokens - 1) 0) ≡ true)
last-token s z = tokened-last (tokens-whole s z)
