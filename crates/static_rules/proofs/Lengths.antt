-- The tables of meanings keep their lengths.
use mathlib.Core.Path.{◌≡◌, refl, ap, ◌∙◌}
use mathlib.Core.List.{List}
use Prim.Native.Nat.{ℕ}
use lib.ListN.{length, length-set}
use Rattle.grammar.specs.Events.{Event}
use Rattle.grammar.specs.Places.{Place, along}
use Rattle.grammar.proofs.Places.{along-keeps}
use Rattle.static_rules.specs.Meaning.{Meaning}
use Rattle.static_rules.specs.Meanings.{Meant, write, open_base, add_cell, mean_event}
use Rattle.static_rules.proofs.Heeds.{Heeds, enters, names, adds, opens, other, heeds}

pub record AsLong (a b : Meant) : Type 0 where
  pub of-means : length a.means ≡ length b.means
  pub of-opens : length a.opens ≡ length b.opens
  pub of-written : length a.written ≡ length b.written

pub as_long : (s : Meant) → AsLong s s
as_long s = record { of-means = refl; of-opens = refl; of-written = refl }

then-long : {a b c : Meant} → AsLong a b → AsLong b c → AsLong a c
then-long p q = record { of-means = p.of-means ∙ q.of-means; of-opens = p.of-opens ∙ q.of-opens; of-written = p.of-written ∙ q.of-written }

module _ (kinds values found : List ℕ) where
  heeds-long : {p : Place} {s t : Meant} {e : Event} → Heeds kinds values found p s e t → AsLong t s
  unfolding open_base write add_cell
  heeds-long {s} (enters n r) = record { of-means = length-set s.means n _; of-opens = refl; of-written = refl }
  heeds-long {s} (names r) = record { of-means = length-set s.means r.name _; of-opens = refl; of-written = refl }
  heeds-long {s} (adds c w i) = record { of-means = length-set s.means i.name _; of-opens = refl; of-written = refl }
  heeds-long {s} (opens n) = record { of-means = refl; of-opens = length-set s.opens n _; of-written = length-set s.written _ _ }
  heeds-long (other h) = record { of-means = ap (λ (l : List Meaning). length l) h.of-means; of-opens = ap (λ (l : List ℕ). length l) h.of-opens; of-written = h.of-written }

  pub event-long : (e : Event) (p : Place) (s : Meant) → AsLong (mean_event kinds values found e p s) s
  event-long e p s = heeds-long (heeds kinds values found e p s)

  pub meant-long : (es : List Event) (p : Place) (s : Meant) → AsLong (along (mean_event kinds values found) es p s) s
  meant-long es p s = along-keeps (mean_event kinds values found) (λ z. AsLong z s) (λ e p z h. then-long (event-long e p z) h) es p s (as_long s)
