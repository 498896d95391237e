-- Where a token stands, found by reading the text again: what is known on the way, and where it ends. Assumes nothing.
use Rattle.std.proofs.Common.{Ok}
use Prim.Native.Nat.{ℕ, suc, ◌+◌, ◌-◌, ◌≤◌}
use mathlib.Core.Path.{◌≡◌, sym, ap, ◌∙◌}
use mathlib.Core.Bool.{true, false}
use mathlib.Core.List.{List, [], ◌∷◌, map}
use native.Mathlib.Omega.{arith}
use lib.Dec.{eqb}
use lib.Arith.{lt_of_le-ne}
use lib.ListN.{get_or}
use Rattle.base.proofs.Tests.{cases}
use Rattle.spots.specs.declared.Spot.{Spot}
use Rattle.spots.specs.Spots.{spot_at, unplaced}
use Rattle.token.specs.Text.{Reading, refused, is_last, read_from, tokens_of}
use Rattle.token.specs.Answers.{Next, outcome_of, spot_of, Summary}
use Rattle.token.specs.declared.Token.{Token}
use Rattle.token.proofs.Readings.{rest, Answered, one_more, the_last, reads-no, all-read-from}

abbrev among : ℕ → Reading → Spot
among i r = get_or (map spot_of r.tokens) i (unplaced 0)

-- n tokens are passed, and the one that is wanted is still to be read
pub record Seeking (s : List ℕ) (wanted at n : ℕ) : Type 0 where
  pub before : n ≤ wanted
  pub is : among wanted (tokens_of s) ≡ among (wanted - n) (rest at s)

pub seek-start : (s : List ℕ) (wanted : ℕ) → (tokens_of s).number ≡ 0 → Seeking s wanted 0 0
seek-start s wanted h =
    let e : wanted ≡ wanted - 0 = omega arith in
    record { before = omega arith; is = ap (among wanted) (all-read-from s h) ∙ ap (λ (i : ℕ). among i (read_from s 0 0 s)) e }

module _ {s : List ℕ} {wanted at n : ℕ} {r : Next} {t : Token} {end : ℕ} (g : Seeking s wanted at n) (a : Answered s at n r) (q : r ≡ Ok (t, end)) where
  -- it is this one
  pub seek_found : n ≡ wanted → spot_at s (at + t.spot.place) ≡ among wanted (tokens_of s)
  seek_found z =
      let k : wanted - n ≡ 0 = omega arith in
      sym (g.is ∙ ap (λ (i : ℕ). among i (rest at s)) k ∙ cases (is_last t.kind) (λ l. ap (among 0) (the_last a q l)) (λ l. ap (among 0) (one_more a q l)))

  module _ (ne : n ≡ wanted → ⊥) where
    less : n + 1 ≤ wanted
    less = omega (arith, lt_of_le-ne g.before ne)

    -- behind it
    behind : (ts : List Token)
        → get_or (spot_at s (at + t.spot.place) ∷ map spot_of ts) (wanted - n) (unplaced 0) ≡ get_or (map spot_of ts) (wanted - (n + 1)) (unplaced 0)
    behind ts =
        let k : wanted - n ≡ suc (wanted - (n + 1)) = omega (arith, less) in
        ap (λ (i : ℕ). get_or (spot_at s (at + t.spot.place) ∷ map spot_of ts) i (unplaced 0)) k

    -- it is a later one, or there are not so many
    pub seek-on : is_last t.kind ≡ false → Seeking s wanted (at + end) (n + 1)
    seek-on l = record { before = less; is = g.is ∙ ap (among (wanted - n)) (one_more a q l) ∙ behind (rest (at + end) s).tokens }

    pub seek-past : is_last t.kind ≡ true → unplaced 0 ≡ among wanted (tokens_of s)
    seek-past l = sym (g.is ∙ ap (among (wanted - n)) (the_last a q l) ∙ behind [])

-- a text that was read has no refusal
pub never-refused : {s : List ℕ} {at n : ℕ} {r : Next} {number : ℕ} {spot : Spot}
    → Answered s at n r → outcome_of r ≡ refused number spot → eqb number 0 ≡ false → (tokens_of s).number ≡ 0 → number ≡ 0
never-refused {s} a q z h = ap (λ (x : Summary). x.number) (reads-no a q z) ∙ (sym (ap (λ (x : Reading). x.number) (all-read-from s h)) ∙ h)
