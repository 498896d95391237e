-- A token's place behind the names in front, which have none. Assumes nothing.
use mathlib.Core.Path.{◌≡◌, refl, sym, ap, ◌∙◌}
use mathlib.Core.List.{List, [], ◌∷◌, ◌++◌, map}
use Prim.Native.Nat.{ℕ, zero, suc, ◌+◌, ◌-◌, ◌≤◌, ◌<◌}
use native.Mathlib.Omega.{arith}
use lib.ListN.{length, get_or}
use lib.Seq.{get_or-append-add}
use Rattle.spots.specs.declared.Spot.{Spot}
use Rattle.spots.specs.Spots.{unplaced}
use Rattle.token.specs.Text.{tokens_of}
use Rattle.token.specs.Answers.{spot_of}
use Rattle.token.specs.declared.Token.{Token}
use Rattle.scopes.specs.Search.{in_front, first_token}
use Rattle.settled.specs.Texts.{all_tokens, places_of}
use Rattle.settled.proofs.Laying.{front-place}

pub place-in-front : (s : List ℕ) (t : ℕ) → t < first_token → 0 ≡ get_or (places_of (all_tokens s)) t 0
place-in-front s t h = front-place t ∙ sym (fronts in_front t (tokens_of s).tokens h)
  where
    fronts : (ts : List Token) (i : ℕ) (us : List Token) → i < length ts → get_or (places_of (ts ++ us)) i 0 ≡ get_or (places_of ts) i 0
    fronts [] i us h = absurd (omega arith)
    fronts (x ∷ ts) zero us h = refl
    fronts (x ∷ ts) (suc i) us h = fronts ts i us (omega arith)

-- a token's place is that of where it stands
place-stands : (ts : List Token) (i : ℕ) → (get_or (map spot_of ts) i (unplaced 0)).place ≡ get_or (places_of ts) i 0
place-stands [] i = refl
place-stands (t ∷ ts) zero = refl
place-stands (t ∷ ts) (suc i) = place-stands ts i

pub place-behind : (s : List ℕ) (t : ℕ) (p : Spot) → first_token ≤ t → p ≡ get_or (map spot_of (tokens_of s).tokens) (t - first_token) (unplaced 0) → p.place ≡ get_or (places_of (all_tokens s)) t 0
place-behind s t p h e =
    let k : first_token + (t - first_token) ≡ t = omega arith in
    let ts = (tokens_of s).tokens in
    ap (λ (q : Spot). q.place) e ∙ place-stands ts (t - first_token)
    ∙ sym (get_or-append-add (places_of in_front) (places_of ts) (t - first_token) 0) ∙ ap (λ (i : ℕ). get_or (places_of (all_tokens s)) i 0) k
