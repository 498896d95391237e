-- A table of reserved words by their keys: what stands at a key's place, proved by two computed tests. Assumes nothing.
use Prim.Native.Nat.{ℕ, suc, ◌/◌, ◌%◌}
use Prim.Native.String.{String}
use mathlib.Core.Path.{◌≡◌, refl, sym, ap, ◌∙◌}
use mathlib.Core.Bool.{Bool, true, false}
use mathlib.Core.List.{List, [], ◌∷◌}
use lib.Dec.{T, eqb, eqb→eq}
use borrow.Author.Tests.{eqb-true, ne_eqb}
use Rattle.base.specs.Text.{bytes}
use Rattle.base.specs.Tables.{every}
use Rattle.base.proofs.Tests.{and_left, and_right}
use Rattle.token.specs.Kinds as K
use Rattle.token.specs.Text.{key_of}
use Rattle.scanner.specs.Inner.{key_kind, entry_at}

-- ── where a table has nothing ──

-- a place is none of these, as a match says it, and what else is known
abbrev Away : (known : Type 0) → ℕ → List (ℕ × ℕ) → Type 0
Away known p [] = known
Away known p (x ∷ xs) = Away (known × (p ≡ x.0 → ⊥)) p xs

known-away : (known : Type 0) (p : ℕ) (xs : List (ℕ × ℕ)) → Away known p xs → known
known-away known p [] h = h
known-away known p (x ∷ xs) h = (known-away _ p xs h).0

pub none-at : (known : Type 0) (xs : List (ℕ × ℕ)) (p : ℕ) → Away known p xs → 1 ≡ entry_at xs p
unfolding entry_at
none-at known [] p h = refl
none-at known (x ∷ xs) p h = rw (ne_eqb p x.0 (known-away _ p xs h).1, entry_at) (none-at _ xs p h)

-- ── words ──

-- a table, and the place that it gives a key
module _ (entries : List (ℕ × ℕ)) (place_of : ℕ → ℕ) where
  abbrev at : ℕ → ℕ
  at key = entry_at entries (place_of key)

  -- an entry is a key and its kind; that of no word is one of key 0
  abbrev right : ℕ → Bool
  right e = eqb (e % 64) (key_kind K.words (e / 64))

  -- each word's entry is at its place
  abbrev found : ℕ → ℕ × String → Bool
  found i w = eqb (at (key_of (bytes w.1)) / 64) (key_of (bytes w.1))

  all_right : (xs : List (ℕ × ℕ)) (i p : ℕ) → T (right 1) → T (every (λ (i : ℕ) (x : ℕ × ℕ). right x.1) i xs) → T (right (entry_at xs p))
  unfolding entry_at
  all_right [] i p o t = o
  all_right (x ∷ xs) i p o t = go (eqb p x.0) (all_right xs (suc i) p o (and_right (right x.1) _ t))
    where
      go : (b : Bool) → T (right (entry_at xs p)) → T (right (elim b [ true ↦ x.1 | false ↦ entry_at xs p ]))
      go true h = and_left (right x.1) _ t
      go false h = h

  pub hit :
      (key w : ℕ) → w ≡ at key → w / 64 ≡ key → T (right 1) → T (every (λ (i : ℕ) (x : ℕ × ℕ). right x.1) 0 entries) → w % 64 ≡ key_kind K.words key
  hit key w e h o t = rw e (eqb→eq _ _ (all_right entries 0 (place_of key) o t)) ∙ ap (λ (k : ℕ). key_kind K.words k) h

  none : (key : ℕ) → (at key / 64 ≡ key → ⊥) → (ws : List (ℕ × String)) (i : ℕ) → T (every found i ws) → key_kind ws key ≡ K.NAME
  unfolding key_kind
  none key away [] i t = refl
  none key away (w ∷ ws) i t = go (none key away ws (suc i) (and_right (found i w) _ t)) (eqb (key_of (bytes w.1)) key) refl
    where
      go : key_kind ws key ≡ K.NAME → (b : Bool) → eqb (key_of (bytes w.1)) key ≡ b → key_kind (w ∷ ws) key ≡ K.NAME
      go ih true e =
          let q : key_of (bytes w.1) ≡ key = eqb-true _ _ e in
          absurd (away (ap (λ (k : ℕ). at k / 64) (sym q) ∙ eqb→eq _ _ (and_left (found i w) _ t) ∙ q))
      go ih false e = rw (e, key_kind) ih

  pub miss : (key w : ℕ) → w ≡ at key → (w / 64 ≡ key → ⊥) → T (every found 0 K.words) → K.NAME ≡ key_kind K.words key
  miss key w e away t = sym (none key (λ h. away (ap (λ (x : ℕ). x / 64) e ∙ h)) K.words 0 t)
