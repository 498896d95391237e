-- What is told of the tokens before a part of the text stays while the part is read: their meanings, and the segments that they open. Tokens rise along the text.
use mathlib.Core.Path.{◌≡◌, refl, ap, ◌∙◌}
use mathlib.Core.List.{List}
use Prim.Native.Nat.{ℕ, ◌<◌, ◌≤◌}
use native.Mathlib.Omega.{arith}
use lib.ListN.{get_or}
use lib.Seq.{get_or-set_other}
use Rattle.grammar.specs.Derives.{is_register}
use Rattle.grammar.specs.Events.{Event}
use Rattle.grammar.specs.Places.{Place, along}
use Rattle.grammar.specs.Texts.{Stands, Text}
use Rattle.grammar.proofs.Order.{text-keeps}
use Rattle.static_rules.specs.Meaning.{Meaning, nothing}
use Rattle.static_rules.specs.Meanings.{Meant, write, open_base, add_cell, mean_event}
use Rattle.static_rules.proofs.Heeds.{Heeds, enters, names, adds, opens, other, heeds}

-- of the tokens before i
pub record Stays (i : ℕ) (s t : Meant) : Type 0 where
  pub of-means : (u : ℕ) → u < i → get_or t.means u nothing ≡ get_or s.means u nothing
  pub of-opens : (u : ℕ) → u < i → get_or t.opens u 0 ≡ get_or s.opens u 0

module _ (kinds values found : List ℕ) where
  heeds-stays : {p : Place} {s t : Meant} {e : Event} → Heeds kinds values found p s e t → (i : ℕ) → Stands kinds e p i → Stays i s t
  unfolding is_register open_base write add_cell
  heeds-stays {p} {s} (enters n r) i x = let h = x.is in record { of-means = λ u l. get_or-set_other s.means n u _ nothing (λ q. omega arith); of-opens = λ u l. refl }
  heeds-stays {p} {s} (names r) i x = let h = x.is in record { of-means = λ u l. get_or-set_other s.means r.name u _ nothing (λ q. omega arith); of-opens = λ u l. refl }
  heeds-stays {p} {s} (adds c w d) i x = let h = x.is in record { of-means = λ u l. get_or-set_other s.means d.name u _ nothing (λ q. omega arith); of-opens = λ u l. refl }
  heeds-stays {p} {s} (opens n) i x = let h = x.is in record { of-means = λ u l. refl; of-opens = λ u l. get_or-set_other s.opens n u _ 0 (λ q. omega arith) }
  heeds-stays (other a) i x = record { of-means = λ u l. ap (λ (m : List Meaning). get_or m u nothing) a.of-means; of-opens = λ u l. ap (λ (m : List ℕ). get_or m u 0) a.of-opens }

  pub event-stays : (e : Event) (p : Place) (i : ℕ) (s : Meant) → Stands kinds e p i → Stays i s (mean_event kinds values found e p s)
  event-stays e p i s x = heeds-stays (heeds kinds values found e p s) i x

  -- one part after another, of which the second stands later
  stays_then : {i k : ℕ} {s t v : Meant} → i ≤ k → Stays i s t → Stays k t v → Stays i s v
  stays_then h a b = record { of-means = λ u l. b.of-means u (omega arith) ∙ a.of-means u l; of-opens = λ u l. b.of-opens u (omega arith) ∙ a.of-opens u l }

  record Later (i : ℕ) (s : Meant) (k : ℕ) (t : Meant) : Type 0 where
    later : i ≤ k
    stays : Stays i s t

  pub stays-text : (es : List Event) (p : Place) (i j : ℕ) (s : Meant) → Text kinds es p i j → Stays i s (along (mean_event kinds values found) es p s)
  stays-text es p i j s t =
      (text-keeps kinds (mean_event kinds values found) (Later i s) j (λ k m t h g. record { later = omega arith; stays = g.stays })
      (λ e p k t x h g. record { later = omega arith; stays = stays_then g.later g.stays (event-stays e p k t x) })
      es p i s t (record { later = omega arith; stays = record { of-means = λ u l. refl; of-opens = λ u l. refl } })).stays
