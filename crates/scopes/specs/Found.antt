-- That a table has, for each name that a text uses, the declaration which the search finds where the name stands: the definition of names said of the
-- finished table. And the same of each GOTO and its label.
use Rattle.std.specs.Prelude.{◌≡◌, List, ℕ, get_or}
use Rattle.base.specs.Lists.{All}
use Rattle.grammar.specs.Events.{Route, labelled, sent, Event, edge, route, entry, phrase, mark, uses}
use Rattle.grammar.specs.Places.{Place, after}
use Rattle.scopes.specs.Search.{find}
use Rattle.scopes.specs.Names.{names_in}
use Rattle.scopes.specs.Labels.{labels_in}

module _ (keys found : List ℕ) where
  abbrev pub FoundName : List (List ℕ) → ℕ → Type 0
  FoundName bs t = get_or found t 0 ≡ find keys (get_or keys t 0) bs

  abbrev pub Found : Event → Place → Type 0
  Found e p = All (FoundName (names_in (after e p))) (uses e)

module _ (keys goes : List ℕ) where
  abbrev pub LedRoute : Route → Place → Type 0
  LedRoute (labelled l) p = Unit {0}
  LedRoute (sent t n) p = get_or goes n 0 ≡ find keys (get_or keys n 0) (labels_in p)

  abbrev pub Led : Event → Place → Type 0
  Led (edge x) p = Unit {0}
  Led (route r) p = LedRoute r p
  Led (entry d) p = Unit {0}
  Led (phrase f) p = Unit {0}
  Led (mark m) p = Unit {0}
