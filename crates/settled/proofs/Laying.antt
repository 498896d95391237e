-- Lists that a loop lays, one element after the other: a turn and the end, as the invariants have them. Assumes nothing.
use mathlib.Core.Path.{◌≡◌, refl, sym, ap, ◌∙◌}
use mathlib.Core.List.{List, [], ◌∷◌, map}
use Prim.Native.Nat.{ℕ, zero, suc, ◌+◌, ◌≤◌, ◌<◌}
use native.Mathlib.Numerals.{add-one}
use lib.ListN.{length, drop, get_or, set, drop_of_length-le}
use lib.Seq.{sets}
use Rattle.base.specs.Numbers.{number_from}
use Rattle.base.proofs.Parts.{drop-turn}
use Rattle.ledger.specs.Book.{Wide, on_wide, put_value}
use Rattle.scopes.specs.Search.{standard_name, names_in_front, in_front}
use Rattle.translation.specs.Translate.{values_of}
use Rattle.settled.specs.Texts.{places_of}

pub lay-turn : (xs l : List ℕ) (t v : ℕ) {z : List ℕ} → t < length xs → v ≡ get_or xs t 0 → sets l t (drop t xs) ≡ z → sets (set l t v) (t + 1) (drop (t + 1) xs) ≡ z
lay-turn xs l t v h e q =
    rw e (ap (λ (i : ℕ). sets (set l t (get_or xs t 0)) i (drop (t + 1) xs)) (add-one t) ∙ (sym (ap (λ (ds : List ℕ). sets l t ds) (drop-turn xs t 0 h)) ∙ q))

pub lay-end : (xs l : List ℕ) (t : ℕ) {z : List ℕ} → length xs ≤ t → sets l t (drop t xs) ≡ z → l ≡ z
lay-end xs l t h q = sym (ap (λ (ds : List ℕ). sets l t ds) (drop_of_length-le xs h)) ∙ q

-- in the column of values
pub values-turn : (xs : List ℕ) (w w' : Wide) (t v : ℕ) {z : Wide} → t < length xs → v ≡ get_or xs t 0 → w' ≡ put_value t v w
    → on_wide 0 (λ (l : List ℕ). sets l t (drop t xs)) w ≡ z → on_wide 0 (λ (l : List ℕ). sets l (t + 1) (drop (t + 1) xs)) w' ≡ z
values-turn xs w w' t v h ev e q =
    ap (on_wide 0 (λ (l : List ℕ). sets l (t + 1) (drop (t + 1) xs))) e ∙ (ap (λ (k : List ℕ). on_wide 0 (λ (l : List ℕ). k) w) (lay-turn xs w.values t v h ev refl) ∙ q)

pub values-end : (xs : List ℕ) (w : Wide) (t : ℕ) {z : Wide} → length xs ≤ t → on_wide 0 (λ (l : List ℕ). sets l t (drop t xs)) w ≡ z → w ≡ z
values-end xs w t h q = ap (λ (k : List ℕ). on_wide 0 (λ (l : List ℕ). k) w) (lay-end xs w.values t h refl) ∙ q

-- ── the names in front ──

-- they stand at no place of the text
no_place : (names : List (List ℕ)) (t : ℕ) → 0 ≡ get_or (places_of (map standard_name names)) t 0
no_place [] t = refl
no_place (n ∷ ns) zero = refl
no_place (n ∷ ns) (suc t) = no_place ns t

pub front-place : (t : ℕ) → 0 ≡ get_or (places_of in_front) t 0
front-place zero = refl
front-place (suc t) = no_place names_in_front t

-- their keys
abbrev keys : List ℕ
keys =
    0 ∷ 972 ∷ 973 ∷ 974 ∷ 975 ∷ 976 ∷ 977 ∷ 978 ∷ 979 ∷ 980 ∷ 981 ∷ 982 ∷ 983 ∷ 984 ∷ 985 ∷ 986 ∷ 987
    ∷ 660 ∷ 37344 ∷ 766 ∷ 29646 ∷ 16326 ∷ 36821 ∷ 46039637 ∷ 1372205 ∷ 28287 ∷ []

pub front-key : (t : ℕ) → get_or keys t 0 ≡ get_or (values_of in_front) t 0
unfolding number_from
front-key t = refl
