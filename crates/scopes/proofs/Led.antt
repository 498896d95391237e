-- Where no rule on labels is broken, the label of each GOTO is found, and in a block of the body that it stands in. Each name that is used was found in a block that
-- is open at its place, or not at all.
use mathlib.Core.Path.{◌≡◌}
use mathlib.Core.List.{List, [], ◌∷◌}
use Prim.Native.Nat.{ℕ, ◌<◌}
use lib.Dec.{ltb}
use lib.ListN.{get_or}
use borrow.Author.Tests.{ltb-true}
use Rattle.base.specs.Lists.{All}
use Rattle.base.proofs.Lists.{all_map}
use Rattle.grammar.specs.Events.{labelled, sent, Event, edge, route, entry, phrase, mark, uses}
use Rattle.grammar.specs.Places.{body, Place, after, along, Along}
use Rattle.scopes.specs.declared.Refusal.TheVariants.{NotFound}
use Rattle.scopes.specs.Broken.{unbroken, rule}
use Rattle.scopes.specs.Search.{find}
use Rattle.scopes.specs.Names.{names_in}
use Rattle.scopes.specs.Labels.{Labelled, labels_in, note_label, set_label, label_event}
use Rattle.scopes.specs.Found.{FoundName, Found}
use Rattle.scopes.proofs.Joins.{quiet-left, quiet-right, rule-holds}
use Rattle.scopes.proofs.Bound.{Within, Bound, by-search}

-- "never past the edge of a procedure body": where a body starts no label is known
pub none-at-edge : (n r : ℕ) (p : Place) (d : ℕ) → Within d (labels_in (body n r ∷ p)) → ⊥
unfolding Within
none-at-edge n r p d h = h

module _ (keys : List ℕ) where
  pub bound-names : (found : List ℕ) (e : Event) (p : Place) → Found keys found e p → All (λ t. Bound (get_or found t 0) (names_in (after e p))) (uses e)
  bound-names found e p h =
      all_map (FoundName keys found (names_in (after e p))) (λ t. Bound (get_or found t 0) (names_in (after e p))) (uses e) (λ t q. by-search keys _ _ (names_in (after e p)) q) h

  abbrev pub LabelFound : Event → Place → Type 0
  LabelFound (edge x) p = Unit {0}
  LabelFound (route (labelled l)) p = Unit {0}
  LabelFound (route (sent t n)) p = 0 < find keys (get_or keys n 0) (labels_in p)
  LabelFound (entry d) p = Unit {0}
  LabelFound (phrase f) p = Unit {0}
  LabelFound (mark m) p = Unit {0}

  event-found : (e : Event) (p : Place) (s : Labelled) → (label_event keys e p s).broken ≡ unbroken → (s.broken ≡ unbroken) × LabelFound e p
  unfolding label_event set_label note_label
  event-found (edge x) p s h = (h, tt)
  event-found (route (labelled l)) p s h = (quiet-left s.broken _ h, tt)
  event-found (route (sent t n)) p s h =
      let d = find keys (get_or keys n 0) (labels_in p) in
      (quiet-left s.broken (rule (ltb 0 d) NotFound n) h, ltb-true 0 d (rule-holds (ltb 0 d) NotFound n (quiet-right s.broken (rule (ltb 0 d) NotFound n) h)))
  event-found (entry d) p s h = (h, tt)
  event-found (phrase f) p s h = (h, tt)
  event-found (mark m) p s h = (h, tt)

  pub labels-found : (es : List Event) (p : Place) (s : Labelled) → (along (label_event keys) es p s).broken ≡ unbroken → (s.broken ≡ unbroken) × Along LabelFound es p
  unfolding along Along
  labels-found [] p s h = (h, tt)
  labels-found (e ∷ es) p s h =
      let (a, b) = labels-found es (after e p) (label_event keys e p s) h in
      let (c, d) = event-found e p s a in
      (c, (d, b))
