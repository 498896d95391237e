-- Document 01, "Numbers answered", rows 6 to 13: the rules that a program breaks, each by the event at which it is broken, with its number and its token. That the
-- least of them is answered is shown in proofs/Theorems.
use Rattle.std.specs.Prelude.{◌≡◌, ◌⊎◌, List, [], ◌∷◌, ℕ, ◌<◌, ◌≤◌, length, get_or, replicate}
use Rattle.base.specs.Lists.{◌∈◌}
use Rattle.token.specs.declared.Token.{Token}
use Rattle.grammar.specs.Tree.{Statement}
use Rattle.grammar.specs.Events.{labelled, sent, Event, route, uses, declares, events_of}
use Rattle.grammar.specs.Places.{Place, after}
use Rattle.scopes.specs.declared.Refusal.{Refusal}
use Rattle.scopes.specs.Broken.{refusal_number, unbroken, broken}
use Rattle.scopes.specs.Search.{in_block, find, innermost}
use Rattle.scopes.specs.Names.{most_names, Named, names_in, name_event}
use Rattle.scopes.specs.Labels.{most_labels, Labelled, labels_in, labels_set, label_event}
use Rattle.static_rules.specs.Meanings.{Filled}
use Rattle.static_rules.specs.Tables.{Tables}
use Rattle.static_rules.specs.Kinds.{rules_at, rule_event}
use Rattle.translation.specs.Layout.{segment_limit, end_for, place_cells}
use Rattle.translation.specs.Translate.{values_of, named, labelled as labels, meant, tables_of}

-- ── each rule ──

-- of names: "6: name … not found"; "7: declared … twice in a block"; "13: 257th declared name … in the program". Each at the name
pub data NameBroken (keys : List ℕ) (e : Event) (p : Place) (s : Named) (n t : ℕ) : Type 0 where
  not_found : n ≡ 6 → t ∈ uses e → find keys (get_or keys t 0) (names_in (after e p)) ≡ 0 → NameBroken keys e p s n t
  twice : n ≡ 7 → t ∈ declares e → 0 < in_block keys (get_or keys t 0) (innermost (names_in p)) 0 → NameBroken keys e p s n t
  too_many : n ≡ 13 → t ∈ declares e → most_names ≤ s.count → NameBroken keys e p s n t

-- of labels: "6: … label not found"; "7: … label set, twice in a block"; "13: … 257th label, in the program". Each at the name
pub data LabelBroken (keys : List ℕ) (e : Event) (p : Place) (s : Labelled) (n t : ℕ) : Type 0 where
  not_found : (at : ℕ) → n ≡ 6 → e ≡ route (sent at t) → find keys (get_or keys t 0) (labels_in p) ≡ 0 → LabelBroken keys e p s n t
  twice : n ≡ 7 → e ≡ route (labelled t) → 0 < in_block keys (get_or keys t 0) (labels_set p) 0 → LabelBroken keys e p s n t
  too_many : n ≡ 13 → e ≡ route (labelled t) → most_labels ≤ s.count → LabelBroken keys e p s n t

-- of kinds, registers, values and bases, 8 to 12: the least of those of one event
pub record KindBroken (f : Tables) (e : Event) (p : Place) (n t : ℕ) : Type 0 where
  pub refusal : Refusal
  pub number_is : n ≡ refusal_number refusal
  pub is : rules_at f e p ≡ broken refusal t

-- "12: cell ends past 4,096 … the cell's name", of the cells, the newest first, with so many base declarations
abbrev pub CellBroken : (bases : ℕ) → List Filled → (n t : ℕ) → Type 0
CellBroken bases [] n t = ⊥
CellBroken bases (d ∷ ds) n t = CellBroken bases ds n t ⊎ ((n ≡ 12) × (t ≡ d.cell.name) × (segment_limit < end_for d.cell (place_cells bases ds).ends))

-- ── in a program ──

-- something holds of an event at its place, with what a pass has made of the events before it
unfoldable pub Somewhere : {S : Type 0} → (Event → Place → S → S) → (Event → Place → S → Type 0) → List Event → Place → S → Type 0
Somewhere f Q [] p s = ⊥
Somewhere f Q (e ∷ es) p s = Q e p s ⊎ Somewhere f Q es (after e p) (f e p s)

-- rule n is broken at token t: of names, of labels, of kinds, of cells
module _ (ts : List Token) (x : Statement) (n t : ℕ) where
  abbrev pub NamesBroken : Type 0
  NamesBroken =
      let start : Named = record { found = replicate (length ts) 0; count = 0; broken = unbroken } in
      Somewhere (name_event (values_of ts)) (λ e p s. NameBroken (values_of ts) e p s n t) (events_of x) [] start

  abbrev pub LabelsBroken : Type 0
  LabelsBroken =
      let start : Labelled = record { goes = replicate (length ts) 0; count = 0; broken = unbroken } in
      Somewhere (label_event (values_of ts)) (λ e p s. LabelBroken (values_of ts) e p s n t) (events_of x) [] start

  abbrev pub KindsBroken : Type 0
  KindsBroken =
      let f = tables_of ts (named ts x) (labels ts x) (meant ts (named ts x) x) in
      Somewhere (rule_event f) (λ e p s. KindBroken f e p n t) (events_of x) [] unbroken

  abbrev pub CellsBroken : Type 0
  CellsBroken = let m = meant ts (named ts x) x in CellBroken m.bases m.cells n t

  abbrev pub Breaks : Type 0
  Breaks = NamesBroken ⊎ (LabelsBroken ⊎ (KindsBroken ⊎ CellsBroken))

-- "the smallest place wins, then the smaller number": number n at token t is not after number m at token u. A later token stands at a greater place.
abbrev pub NotAfter : (n t m u : ℕ) → Type 0
NotAfter n t m u = (t < u) ⊎ ((t ≡ u) × (n ≤ m))
