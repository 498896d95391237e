-- Every accepted program is safe (`accepted-safe`): no rule is broken at any of its events, and its tables have what each of them tells.
use mathlib.Core.Path.{◌≡◌, refl, sym, subst, ◌∙◌}
use mathlib.Core.Logic.{inl, inr}
use mathlib.Core.List.{List, [], ◌∷◌, ◌++◌, map}
use Prim.Native.Nat.{ℕ, zero, suc, ◌+◌, ◌-◌, ◌<◌, ◌≤◌}
use native.Mathlib.Omega.{arith}
use lib.ListN.{length, get_or, replicate, length-replicate, length-append}
use Rattle.base.specs.Lists.{◌∈◌, All}
use Rattle.base.proofs.Lists.{all_in, all_get_d, all_both, all_replicate}
use Rattle.token.specs.declared.Token.{Token}
use Rattle.token.specs.Text.{tokens_of}
use Rattle.grammar.specs.Tree.{Statement}
use Rattle.grammar.specs.Derives.{is_program}
use Rattle.grammar.specs.Events.{labelled, sent, Event, edge, route, entry, phrase, mark, events_of}
use Rattle.grammar.specs.Places.{Place, Along}
use Rattle.grammar.specs.Texts.{Text}
use Rattle.grammar.specs.Contexts.{nowhere}
use Rattle.grammar.proofs.Places.{along-with}
use Rattle.grammar.proofs.Texts.{program-text}
use Rattle.grammar.proofs.Theorems.{read-is-program, program-inside}
use Rattle.grammar.proofs.Contexts.{program-coherent}
use Rattle.scopes.specs.Search.{in_front, first_token, find}
use Rattle.scopes.specs.Names.{Named}
use Rattle.scopes.specs.Labels.{Labelled, labels_in}
use Rattle.scopes.specs.Found.{Found, Led}
use Rattle.scopes.proofs.Joins.{quiet-left, quiet-right}
use Rattle.scopes.proofs.Bound as B
use Rattle.scopes.proofs.Bound.{by-search, Bound}
use Rattle.scopes.proofs.Led.{bound-names, LabelFound, labels-found}
use Rattle.scopes.proofs.Early.{Early, found_early}
use Rattle.static_rules.specs.Registers.{sixteen, no_registers, Registers}
use Rattle.static_rules.specs.Functions.{nine}
use Rattle.static_rules.specs.Meaning.{Meaning, nothing, register, cell, function, Cell}
use Rattle.static_rules.specs.Meanings.{Filled, Meant, standard}
use Rattle.static_rules.specs.Tables.{Tables, meaning_at}
use Rattle.static_rules.proofs.Small.{Small, meant_small, standard-small}
use Rattle.static_rules.proofs.Known.{Held}
use Rattle.static_rules.proofs.Stays.{stays-text}
use Rattle.static_rules.proofs.Unbroken.{Unbroken}
use Rattle.static_rules.proofs.Told.{Told, told_text}
use Rattle.translation.specs.Core.{Core, core_statement}
use Rattle.translation.specs.Code.{instructions}
use Rattle.translation.specs.Layout.{Layout, layout, place_cells, offset_of}
use Rattle.translation.specs.Translate.{kinds_of, values_of, named, labelled as labelled_by, meant, tables_of, make}
use Rattle.translation.proofs.Rooms.{CellAt, cell_at}
use Rattle.translation.proofs.Tables.{length-map, accepted-names, accepted-labels}
use Rattle.translation.proofs.Answers.{Accepted}
use Rattle.translation.proofs.Objects as O
use Rattle.join.specs.Points.{start}
use Rattle.join.proofs.Safe.{Safe}
use Rattle.join.proofs.Rules.{Bare, Leads, Fact, safe-program}

map-in : (c : Cell) (ds : List Filled) → c ∈ map (λ (d : Filled). d.cell) ds → (d : Filled) × (d ∈ ds) × (c ≡ d.cell)
map-in c [] h = absurd h
map-in c (d ∷ ds) (inl e) = (d, inl refl, e)
map-in c (d ∷ ds) (inr h) = let r = map-in c ds h in (r.0, inr r.1, r.2)

zeros-early : (n t : ℕ) → get_or {A = ℕ} (replicate n 0) t 0 ≤ t
zeros-early zero t = omega arith
zeros-early (suc n) zero = omega arith
zeros-early (suc n) (suc t) = let h = zeros-early n t in omega arith

front-bare : (n d : ℕ) → Bare (get_or (standard n).means d nothing)
front-bare n d = all_get_d Bare (standard n).means d nothing (tt, all_both Bare (map register sixteen) (map function nine ++ replicate n nothing) registers others) tt
  where
    registers : All Bare (map register sixteen)
    registers = (tt, (tt, (tt, (tt, (tt, (tt, (tt, (tt, (tt, (tt, (tt, (tt, (tt, (tt, (tt, (tt, tt))))))))))))))))

    others : All Bare (map function nine ++ replicate n nothing)
    others = (tt, (tt, (tt, (tt, (tt, (tt, (tt, (tt, (tt, all_replicate Bare n nothing tt)))))))))

module _ (source object : List ℕ) (a : Accepted source object) where
  abbrev ts : List Token
  ts = a.tokens

  abbrev x : Statement
  x = a.tree

  read : is_program (kinds_of ts) x first_token a.next
  read = read-is-program (kinds_of ts) first_token x a.next a.read

  front : first_token ≤ length ts
  front = subst (λ (l : List Token). first_token ≤ length l) (sym a.text) (let e = length-append in_front (tokens_of source).tokens in omega arith)

  -- ── names, labels, meanings, code and layout of the text ──

  abbrev n : Named
  n = named ts x

  abbrev lb : Labelled
  lb = labelled_by ts x

  abbrev m : Meant
  m = meant ts n x

  abbrev f : Tables
  f = tables_of ts n lb m

  abbrev core : Core
  core = core_statement f x

  abbrev y : Layout
  y = layout m.bases m.cells (instructions core)

  abbrev before : Meant
  before = standard (length ts - first_token)

  text : Text (kinds_of ts) (events_of x) [] first_token a.next
  text = program-text (kinds_of ts) x first_token a.next read

  inside : a.next ≤ length ts
  inside = let h = program-inside (kinds_of ts) first_token x a.next read in let e = length-map (λ (t : Token). t.kind) ts in omega arith

  small : All Small m.means
  unfolding meant
  small = meant_small f x before (O.quiet-along ts x a.next front read a.quiet) (standard-small (length ts - first_token))

  bare-front : (d : ℕ) → d < first_token → Bare (get_or m.means d nothing)
  unfolding meant
  bare-front d h =
      subst Bare (sym ((stays-text (kinds_of ts) (values_of ts) n.found (events_of x) [] first_token a.next before text).of-means d h)) (front-bare (length ts - first_token) d)

  -- every cell that is meant stands where the layout says
  stands : (t : ℕ) (c : Cell) → meaning_at f t ≡ cell c → CellAt c y.ends (offset_of y.placed c.name)
  unfolding layout
  stands t c e =
      let k = O.known ts x a.next front read a.quiet in
      let h = all_get_d (Held m.cells) m.means (get_or n.found t 0) nothing k.held tt in
      let r = map-in c m.cells (subst (λ (z : Meaning). Held m.cells z) e h) in
      let o = all_in (λ (d : Filled). d.cell.base.segment ≤ 1 + m.bases) m.cells k.opened r.0 r.1 in
      subst (λ (z : Cell). CellAt z (place_cells m.bases m.cells).ends (offset_of (place_cells m.bases m.cells).placed z.name)) (sym r.2)
      (cell_at m.bases m.cells r.0 k.falling r.1 (omega arith))

  -- ── each event ──

  early : Early n.found
  unfolding named
  early = found_early (kinds_of ts) (values_of ts) (events_of x) [] first_token a.next text (omega arith) tt _ (zeros-early (length ts))

  told : Along (Told (kinds_of ts) (values_of ts) n.found m) (events_of x) []
  unfolding meant
  told =
      let h = inside in
      let g = front in
      let u = length-append (map register sixteen) (map function nine ++ replicate (length ts - first_token) nothing) in
      let k = length-append (map function nine) (replicate (length ts - first_token) nothing) in
      let v = length-replicate {A = Meaning} (length ts - first_token) nothing in
      let w = length-replicate {A = ℕ} (first_token + (length ts - first_token)) 0 in
      let s = length-replicate {A = Registers} (first_token + (length ts - first_token)) no_registers in
      told_text (kinds_of ts) (values_of ts) n.found early (events_of x) [] first_token a.next nowhere before text (program-coherent x) tt tt (omega arith) (omega arith) (omega arith) (omega arith)

  label-found : Along (LabelFound (values_of ts)) (events_of x) []
  unfolding make labelled_by
  label-found = (labels-found (values_of ts) (events_of x) [] _ (quiet-left lb.broken _ (quiet-right n.broken _ a.quiet))).1

  abbrev FactOf : Event → Place → Type 0
  FactOf e p = Fact (kinds_of ts) (values_of ts) n.found lb.goes m y e p

  abbrev LeadsTo : Event → Place → Type 0
  LeadsTo e p = Leads (kinds_of ts) (values_of ts) n.found lb.goes m y e p

  leads : (e : Event) (p : Place) → Led (values_of ts) lb.goes e p → LabelFound (values_of ts) e p → LeadsTo e p
  leads (edge z) p h k = tt
  leads (route (labelled t)) p h k = tt
  leads (route (sent t u)) p h k = go (by-search (values_of ts) (get_or lb.goes u 0) (get_or (values_of ts) u 0) (labels_in p) h)
    where
      go : Bound (get_or lb.goes u 0) (labels_in p) → B.Within (get_or lb.goes u 0) (labels_in p)
      go (inl e) = absurd (let g : find (values_of ts) (get_or (values_of ts) u 0) (labels_in p) ≡ 0 = sym h ∙ e in omega arith)
      go (inr w) = w
  leads (entry d) p h k = tt
  leads (phrase z) p h k = tt
  leads (mark z) p h k = tt

  -- by its rules and the tables
  abbrev Judged : Event → Place → Type 0
  Judged e p = Unbroken f e p × Told (kinds_of ts) (values_of ts) n.found m e p

  judged : Along Judged (events_of x) []
  judged =
      along-with (Unbroken f) (Told (kinds_of ts) (values_of ts) n.found m) Judged (λ e p h k. (h, k)) (events_of x) []
      (O.quiet-along ts x a.next front read a.quiet) told

  -- by the search for its names and its label
  abbrev Sought : Event → Place → Type 0
  Sought e p = Found (values_of ts) n.found e p × LeadsTo e p

  sought : Along Sought (events_of x) []
  sought =
      along-with (Found (values_of ts) n.found) LeadsTo Sought (λ e p h k. (h, k)) (events_of x) [] (accepted-names source object a)
      (along-with (Led (values_of ts) lb.goes) (LabelFound (values_of ts)) LeadsTo leads (events_of x) [] (accepted-labels source object a) label-found)

  facts : Along FactOf (events_of x) []
  facts =
      along-with Judged Sought FactOf
      (λ e p h k. record { unbroken = h.0; told = h.1; bound = bound-names (values_of ts) n.found e p k.0; leads = k.1 }) (events_of x) [] judged sought

  pub accepted-safe : Safe (make a.tokens a.tree).tables.written (make a.tokens a.tree).bases (make a.tokens a.tree).layout [] [] start
      (core_statement (make a.tokens a.tree).tables a.tree)
  unfolding make
  accepted-safe = safe-program (kinds_of ts) (values_of ts) n.found lb.goes m y small bare-front stands x facts
