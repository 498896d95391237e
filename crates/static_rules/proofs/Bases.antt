-- Where no rule is broken there are at most two base declarations: each opens the segment that the table has for it, since tokens rise along the text. And there are
-- never more than events.
use mathlib.Core.Path.{◌≡◌, ◌∙◌}
use mathlib.Core.List.{List, [], ◌∷◌}
use Prim.Native.Nat.{ℕ, ◌+◌, ◌<◌, ◌≤◌}
use native.Mathlib.Omega.{arith}
use lib.Dec.{leb}
use lib.ListN.{get_or, length}
use lib.Seq.{get_or-set_same}
use borrow.Author.Tests.{leb-true}
use Rattle.grammar.specs.Events.{Event}
use Rattle.grammar.specs.Places.{Place, after, along, Along}
use Rattle.grammar.specs.Texts.{Stands, Text}
use Rattle.grammar.proofs.Texts.{text-rises}
use Rattle.scopes.specs.declared.Refusal.TheVariants.{NoRoom}
use Rattle.scopes.specs.Broken.{unbroken}
use Rattle.scopes.proofs.Joins.{quiet-right, rule-holds}
use Rattle.static_rules.specs.Meanings.{Meant, write, open_base, add_cell, mean_event}
use Rattle.static_rules.specs.Tables.{Tables}
use Rattle.static_rules.specs.Rules.{taken_rules, base_rules, last_segment}
use Rattle.static_rules.proofs.Heeds.{Heeds, enters, names, adds, opens, other, heeds}
use Rattle.static_rules.proofs.Lengths.{event-long}
use Rattle.static_rules.proofs.Stays.{stays-text}
use Rattle.static_rules.proofs.Unbroken.{Unbroken}

module _ (f : Tables) where
  -- "12: … a third base declaration"
  pub base-segment : (kept : List ℕ) (n : ℕ) → base_rules f kept n ≡ unbroken → get_or f.opens n 0 ≤ last_segment
  unfolding base_rules
  base-segment kept n q =
      leb-true _ _ (rule-holds (leb (get_or f.opens n 0) last_segment) NoRoom n (quiet-right (taken_rules f kept n) _ q))

  -- the segments that are opened are those of the whole text
  heeds-few : {p : Place} {s t : Meant} {e : Event} → Heeds f.kinds f.values f.found p s e t → (i : ℕ) (x : Stands f.kinds e p i) → Unbroken f e p → x.to ≤ length s.opens
      → ((u : ℕ) → u < x.to → get_or f.opens u 0 ≡ get_or t.opens u 0) → s.bases ≤ 2 → t.bases ≤ 2
  unfolding open_base write add_cell
  heeds-few (enters n r) i x q l a h = h
  heeds-few (names r) i x q l a h = h
  heeds-few (adds c w d) i x q l a h = h
  heeds-few {p} {s} (opens n) i x q l a h =
      let y = x.is in
      let e = a n (omega arith) in
      let g = base-segment _ n q in
      let k = get_or-set_same s.opens n (2 + s.bases) 0 (omega arith) in
      omega arith
  heeds-few (other b) i x q l a h = let e = b.of-bases in omega arith

  abbrev step : Event → Place → Meant → Meant
  step = mean_event f.kinds f.values f.found

  pub few-bases : (es : List Event) (p : Place) (i j : ℕ) (s : Meant) → Text f.kinds es p i j → Along (Unbroken f) es p → j ≤ length s.opens
      → ((u : ℕ) → u < j → get_or f.opens u 0 ≡ get_or (along step es p s).opens u 0) → s.bases ≤ 2 → (along step es p s).bases ≤ 2
  unfolding Text Along along
  few-bases [] p i j s t q l a h = h
  few-bases (e ∷ es) p i j s (x, t) (q, qs) l a h =
      let r = text-rises f.kinds es (after e p) x.to j t in
      let g = (event-long f.kinds f.values f.found e p s).of-opens in
      let v = (stays-text f.kinds f.values f.found es (after e p) x.to j (step e p s) t).of-opens in
      few-bases es (after e p) x.to j (step e p s) t qs (omega arith) a
      (heeds-few (heeds f.kinds f.values f.found e p s) i x q (omega arith) (λ u k. a u (omega arith) ∙ v u k) h)

module _ (kinds values found : List ℕ) where
  heeds-one : {p : Place} {s t : Meant} {e : Event} → Heeds kinds values found p s e t → t.bases ≤ s.bases + 1
  unfolding open_base write add_cell
  heeds-one (enters n r) = omega arith
  heeds-one (names r) = omega arith
  heeds-one (adds c w i) = omega arith
  heeds-one (opens n) = omega arith
  heeds-one (other a) = let e = a.of-bases in omega arith

  pub bases-along : (es : List Event) (p : Place) (s : Meant) → (along (mean_event kinds values found) es p s).bases ≤ s.bases + length es
  unfolding along
  bases-along [] p s = omega arith
  bases-along (e ∷ es) p s =
      let a = heeds-one (heeds kinds values found e p s) in
      let b = bases-along es (after e p) (mean_event kinds values found e p s) in
      omega arith
