-- Where no rule is broken in a text, none is at any of its events, each at its place; and the rules of a text are joined to whatever else is broken.
use mathlib.Core.Path.{◌≡◌, sym, ap, ◌∙◌}
use mathlib.Core.List.{List, [], ◌∷◌}
use Rattle.grammar.specs.Tree.{Statement}
use Rattle.grammar.specs.Events.{Event, events_of}
use Rattle.grammar.specs.Places.{Place, after, along, Along}
use Rattle.scopes.specs.Broken.{Ruling, unbroken, ◌⊕◌}
use Rattle.scopes.proofs.Joins.{quiet-left, quiet-right, join-right, join-assoc}
use Rattle.static_rules.specs.Tables.{Tables}
use Rattle.static_rules.specs.Kinds.{rules_at, rule_event, rules_of}

module _ (f : Tables) where
  abbrev pub Unbroken : Event → Place → Type 0
  Unbroken e p = rules_at f e p ≡ unbroken

  pub unbroken-along : (es : List Event) (p : Place) (s : Ruling) → along (rule_event f) es p s ≡ unbroken → (s ≡ unbroken) × Along Unbroken es p
  unfolding along Along rule_event
  unbroken-along [] p s h = (h, tt)
  unbroken-along (e ∷ es) p s h =
      let (a, b) = unbroken-along es (after e p) (s ⊕ rules_at f e p) h in
      (quiet-left s (rules_at f e p) a, (quiet-right s (rules_at f e p) a, b))

  -- so of a program
  pub unbroken-program : (x : Statement) → rules_of f x ≡ unbroken → Along Unbroken (events_of x) []
  unbroken-program x h = (unbroken-along (events_of x) [] unbroken h).1

  -- onto other broken rules
  pub rules-onto : (es : List Event) (p : Place) (s : Ruling) → along (rule_event f) es p s ≡ s ⊕ along (rule_event f) es p unbroken
  unfolding along rule_event
  rules-onto [] p s = sym (join-right s)
  rules-onto (e ∷ es) p s =
      let rest = along (rule_event f) es (after e p) unbroken in
      rules-onto es (after e p) (s ⊕ rules_at f e p)
      ∙ (join-assoc s (rules_at f e p) rest
      ∙ sym (ap (λ (x : Ruling). s ⊕ x) (rules-onto es (after e p) (unbroken ⊕ rules_at f e p) ∙ join-assoc unbroken (rules_at f e p) rest)
      ∙ (sym (join-assoc s unbroken (rules_at f e p ⊕ rest)) ∙ ap (λ (x : Ruling). x ⊕ (rules_at f e p ⊕ rest)) (join-right s))))
