-- On the tape of a program labelling is what the definition says of it. The finished chains hold, for each block that is open at an event, all its labels.
use mathlib.Core.Path.{◌≡◌, refl, ap, sym, subst, ◌∙◌}
use mathlib.Core.List.{List, [], ◌∷◌}
use mathlib.Core.Bool.{false}
use Prim.Native.Nat.{ℕ, ◌≤◌, ◌<◌}
use native.Mathlib.Omega.{arith}
use lib.Dec.{eqb}
use lib.ListN.{length, get_or, set}
use lib.Seq.{get_or-set_same, get_or-set_other}
use Rattle.grammar.specs.Tree.{Statement}
use Rattle.grammar.specs.Derives.{is_program}
use Rattle.grammar.specs.Events.{Edge, opened, closed, entered, left, Route, labelled, sent, Entry, Event, edge, route, entry, phrase, mark, events_of}
use Rattle.grammar.specs.Places.{within, body, Place, enter_entry, after, after_all, Along}
use Rattle.grammar.specs.Texts.{InBlock, EdgeFits, RouteFits, Stands, Text}
use Rattle.grammar.proofs.Texts.{program-text, text-rises}
use Rattle.grammar.proofs.Places.{after-statement}
use Rattle.tape.specs.Tape.{tape_statement}
use Rattle.tape.specs.Events as E
use Rattle.tape.specs.Numbers.{EDGE, ROUTE, layer_at}
use Rattle.tape.specs.Written.{layer_of, op_of, token_of}
use Rattle.tape.proofs.Numbers.{other-layer}
use Rattle.tape.proofs.Written.{tree-tape, follows}
use Rattle.scopes.specs.Broken.{unbroken}
use Rattle.scopes.specs.Labels.{Labelled, labels_in, labels_set, label_event, label_program}
use Rattle.names.specs.Chains.{after as next, chain, blocks_in}
use Rattle.names.specs.Linking.{Linking, block_after, outer_after, links_after, link_op}
use Rattle.names.specs.Labelling.{Labelling, label_at, label_op, linked, labelled_by, labelled_along}
use Rattle.names.proofs.labels.Chains.{chain-end, blocks-turn}
use Rattle.names.proofs.labels.Links.{link_event, link_all, link-all, next-is, chain-alike, block_of, Held, Apart, apart_from, all_alike, Going, step, kept}

module _ (kinds keys links outer : List ℕ) where
  -- ── what the finished lists say of a place ──

  record Shut (p : Place) (at : ℕ) (labels : List ℕ) : Type 0 where
    real : 0 < at
    around : get_or outer at 0 ≡ block_of p
    below : block_of p < at
    all : chain links (get_or links at 0) ≡ labels

  abbrev Final : Place → Type 0
  Final [] = Unit {0}
  Final (within b ∷ p) = Shut p b.at b.labels × Final p
  Final (body n r ∷ p) = (get_or outer n 0 ≡ block_of p) × Final p

  labels_in_lem : (p : Place) → Final p → blocks_in links outer (block_of p) ≡ labels_in p
  unfolding blocks_in
  labels_in_lem [] f = rw (chain-end outer 0 (omega arith))
  labels_in_lem (within b ∷ p) (s, f) =
      blocks-turn keys 0 links outer b.at s.real
      ∙ (ap (λ (l : List ℕ). l ∷ blocks_in links outer (next outer b.at)) s.all
      ∙ ap (λ (ls : List (List ℕ)). b.labels ∷ ls) (ap (λ (n : ℕ). blocks_in links outer n) (next-is outer b.at (block_of p) s.around s.below) ∙ labels_in_lem p f))
  labels_in_lem (body n r ∷ p) f = rw (chain-end outer 0 (omega arith))

  -- and of a label there
  abbrev Chained : Route → Place → Type 0
  Chained (labelled l) p = chain links (next links l) ≡ labels_set p
  Chained (sent t n) p = Unit {0}

  abbrev Good : Event → Place → Type 0
  Good (edge x) p = EdgeFits x p × Final p
  Good (route r) p = RouteFits r p × Final p × Chained r p
  Good (entry d) p = InBlock p
  Good (phrase f) p = Unit {0}
  Good (mark k) p = Unit {0}

  -- ── labelling ──

  abbrev At : Place → Labelled → Labelling → Type 0
  At p s m = m ≡ record { block = block_of p; labelled = s }

  abbrev Turned : Event → Place → Labelled → Type 0
  Turned e p s = At (after e p) (label_event keys e p s) (label_op keys links outer (op_of e) (token_of e) (record { block = block_of p; labelled = s }))

  turn-edge : (x : Edge) (p : Place) (s : Labelled) → EdgeFits x p → Final p → Turned (edge x) p s
  unfolding label_event label_op label_at block_after
  turn-edge (opened t ls) p s f g = refl
  turn-edge (closed t) (within b ∷ p) s f g = rw (← f.0, g.0.around)
  turn-edge (entered n r) (within b ∷ p) s f g = refl
  turn-edge (left n) (body k r ∷ p) s f g = rw (← f, g.0)
  turn-edge (closed t) [] s f g = elim f [ ]
  turn-edge (closed t) (body k r ∷ p) s f g = elim f [ ]
  turn-edge (entered n r) [] s f g = elim f [ ]
  turn-edge (entered n r) (body k return ∷ p) s f g = elim f [ ]
  turn-edge (left n) [] s f g = elim f [ ]
  turn-edge (left n) (within b ∷ p) s f g = elim f [ ]

  turn-route : (r : Route) (p : Place) (s : Labelled) → RouteFits r p → Final p → Chained r p → Turned (route r) p s
  unfolding label_event label_op label_at block_after
  turn-route (labelled l) (within b ∷ p) s f g c = rw c
  turn-route (sent t n) p s f g c = rw (labels_in_lem p g)
  turn-route (labelled l) [] s f g c = elim f [ ]
  turn-route (labelled l) (body name return ∷ p) s f g c = elim f [ ]

  -- only edges and routes are heeded
  quiet : (e : Event) (m : Labelling) → eqb (layer_of e) EDGE ≡ false → eqb (layer_of e) ROUTE ≡ false → label_op keys links outer (op_of e) (token_of e) m ≡ m
  unfolding label_op label_at block_after layer_at
  quiet e m a b =
      rw (
        other-layer e E.BLOCK a,
        other-layer e E.PROCEDURE a,
        other-layer e E.END-BLOCK a,
        other-layer e E.END-PROCEDURE a,
        other-layer e E.LABEL b,
        other-layer e E.GOTO b,
      )

  block-entry : (d : Entry) (p : Place) → InBlock p → block_of p ≡ block_of (enter_entry d p)
  block-entry d (within b ∷ p) f = refl
  block-entry d [] f = elim f [ ]
  block-entry d (body name return ∷ p) f = elim f [ ]

  turn : (e : Event) (p : Place) (s : Labelled) (m : Labelling) → Good e p → At p s m → At (after e p) (label_event keys e p s) (label_op keys links outer (op_of e) (token_of e) m)
  unfolding label_event
  turn (edge x) p s m (f, g) r = rw r (turn-edge x p s f g)
  turn (route x) p s m (f, g, c) r = rw r (turn-route x p s f g c)
  turn (entry d) p s m g r = rw (r, quiet (entry d) (record { block = block_of p; labelled = s }) refl refl, block-entry d p g)
  turn (phrase f) p s m g r = rw (r, quiet (phrase f) (record { block = block_of p; labelled = s }) refl refl)
  turn (mark k) p s m g r = rw (r, quiet (mark k) (record { block = block_of p; labelled = s }) refl refl)

  -- ── the finished lists ──

  below : (p : Place) (c : ℕ) (m : Linking) → 0 < c → Held m.links m.outer p c → block_of p < c
  below [] c m z h = z
  below (within b ∷ p) c m z h = h.0.low
  below (body n r ∷ p) c m z h = z

  module _ (j : ℕ) where
    abbrev Ends : List Event → Linking → Type 0
    Ends es m = ((link_all es m).links ≡ links) × ((link_all es m).outer ≡ outer)

    -- what is finished where the rest of the text leaves it
    module _ (es : List Event) (p : Place) (lo : ℕ) (m : Linking) (t : Text kinds es p lo j) (g : Going kinds j p lo m) (f : Ends es m) (u : ℕ) (l : u < lo) where
      out-is : get_or outer u 0 ≡ get_or m.outer u 0
      out-is = ap (λ (a : List ℕ). get_or a u 0) (sym f.1) ∙ (kept kinds j es p lo m t g u l).out

      link-is : Apart p u → get_or links u 0 ≡ get_or m.links u 0
      link-is a = ap (λ (a : List ℕ). get_or a u 0) (sym f.0) ∙ (kept kinds j es p lo m t g u l).link a

    -- by what the rest of the text says of the place after an event, what it says of the place before, and of a label
    module _ (es : List Event) (lo : ℕ) (m : Linking) where
      finish-edge : (x : Edge) (p : Place) (s : Stands kinds (edge x) p lo) → EdgeFits x p → Going kinds j p lo m → Text kinds es (after (edge x) p) s.to j
          → Going kinds j (after (edge x) p) s.to (link_event (edge x) m)
          → Ends es (link_event (edge x) m) → Final (after (edge x) p) → Final p
      unfolding link_event link_op block_after outer_after links_after
      finish-edge (opened t ls) p s f g h g' e n = n.1
      finish-edge (closed t) (within b ∷ p) s f g h g' e n =
          let o = g.held.0 in
          let newest = link-is es p s.to _ h g' e b.at (omega arith) (apart_from m.links m.outer p b.at b.at (omega arith) g.held.1) in (
            record {
              real = o.real;
              around = out-is es p s.to _ h g' e b.at (omega arith) ∙ o.around;
              below = below p b.at m o.real g.held.1;
              all = ap (λ (n : ℕ). chain links n) newest
                  ∙ (chain-alike m.links links _ _ o.chained (all_alike m.links links b.set b.at lo
                  (λ u k l. link-is es p s.to _ h g' e u (omega arith) (apart_from m.links m.outer p b.at u (omega arith) g.held.1)) o.apart)
                  ∙ f.1);
            },
            n,
          )
      finish-edge (entered q r) (within b ∷ p) s f g h g' e n = n.1
      finish-edge (left q) (body k r ∷ p) s f g h g' e n =
          (out-is es p s.to _ h g' e k (omega arith) ∙ g.held.1, n)
      finish-edge (closed t) [] s f g h g' e n = elim f [ ]
      finish-edge (closed t) (body k r ∷ p) s f g h g' e n = elim f [ ]
      finish-edge (entered q r) [] s f g h g' e n = elim f [ ]
      finish-edge (entered q r) (body k return ∷ p) s f g h g' e n = elim f [ ]
      finish-edge (left q) [] s f g h g' e n = elim f [ ]
      finish-edge (left q) (within b ∷ p) s f g h g' e n = elim f [ ]

      finish-route : (r : Route) (p : Place) (s : Stands kinds (route r) p lo) → RouteFits r p → Going kinds j p lo m → Text kinds es (after (route r) p) s.to j
          → Going kinds j (after (route r) p) s.to (link_event (route r) m) → Ends es (link_event (route r) m) → Final (after (route r) p) → Final p × Chained r p
      unfolding link_event link_op block_after outer_after links_after
      finish-route (labelled l) (within b ∷ p) s f g h g' e n =
          let inside = text-rises kinds es _ s.to j h in
          let o = g.held.0 in
          let old = get_or m.links m.block 0 in
          let apart : (u : ℕ) → b.at < u → Apart (within b ∷ p) u = λ u k. ((λ q. omega arith), apart_from m.links m.outer p b.at u (omega arith) g.held.1) in
          let here : get_or links l 0 ≡ get_or m.links b.at 0 =
          link-is es _ s.to _ h g' e l (omega arith) (apart l (omega arith))
          ∙ (get_or-set_other (set m.links l old) m.block l l 0 (λ q. omega (arith, g.block))
          ∙ (get_or-set_same m.links l old 0 (omega arith) ∙ ap (λ (n : ℕ). get_or m.links n 0) g.block)) in (
            n,
            ap (λ (n : ℕ). chain links n) (next-is links l _ here (omega arith))
                ∙ chain-alike m.links links _ _ o.chained (all_alike m.links links b.set b.at lo
                (λ u k v. link-is es _ s.to _ h g' e u (omega arith) (apart u k)
                ∙ (get_or-set_other (set m.links l old) m.block u l 0 (λ q. omega (arith, g.block)) ∙ get_or-set_other m.links l u old 0 (λ q. omega arith))) o.apart),
          )
      finish-route (sent t q) p s f g h g' e n = (n, tt)
      finish-route (labelled l) [] s f g h g' e n = elim f [ ]
      finish-route (labelled l) (body name return ∷ p) s f g h g' e n = elim f [ ]

      finish : (e : Event) (p : Place) (s : Stands kinds e p lo) → Going kinds j p lo m → Text kinds es (after e p) s.to j
          → Going kinds j (after e p) s.to (link_event e m) → Ends es (link_event e m) → Final (after e p)
          → Good e p × Final p
      finish (edge x) p s g h g' f n = let a = finish-edge x p s s.fits g h g' f n in ((s.fits, a), a)
      finish (route r) p s g h g' f n = let (a, b) = finish-route r p s s.fits g h g' f n in ((s.fits, a, b), a)
      finish (entry d) p s g h g' f n = (s.fits, final-entry d p s.fits n)
        where
          final-entry : (d : Entry) (p : Place) → InBlock p → Final (enter_entry d p) → Final p
          final-entry d (within b ∷ p) f n = n
          final-entry d [] f n = elim f [ ]
          final-entry d (body name return ∷ p) f n = elim f [ ]
      finish (phrase k) p s g h g' f n = (tt, n)
      finish (mark k) p s g h g' f n = (tt, n)

    finished : (es : List Event) (p : Place) (lo : ℕ) (m : Linking) → Text kinds es p lo j → Going kinds j p lo m → Ends es m → Final (after_all es p) → Along Good es p × Final p
    unfolding Text link_all Along after_all
    finished [] p lo m h g f n = (tt, n)
    finished (e ∷ es) p lo m (s, t) g f z =
        let g' = step kinds j e p lo m s (text-rises kinds es (after e p) s.to j t) g in
        let (all, n) = finished es (after e p) s.to (link_event e m) t g' f z in
        let (good, here) = finish es lo m e p s g t g' f n in
        ((good, all), here)

-- ── programs ──

pub labelled-program :
    (kinds keys links outer goes : List ℕ) (x : Statement) (i j : ℕ) → is_program kinds x i j → 0 < i → j ≤ length links → j ≤ length outer
    → labelled_along (tape_statement x []) keys links outer goes ≡ label_program keys x (record { goes = goes; count = 0; broken = unbroken })
unfolding labelled_along labelled_by linked after_all
labelled-program kinds keys links outer goes x i j h z wl wo =
    let m : Linking = record { links = links; outer = outer; block = 0 } in
    let es = events_of x in
    let done = link_all es m in
    let g : Going kinds j [] i m = record { block = refl; held = tt; real = z; wide-links = wl; wide-outer = wo } in
    let good = (finished kinds keys done.links done.outer j es [] i m (program-text kinds x i j h) g (refl, refl)
    (subst (λ (p : Place). Final kinds keys done.links done.outer p) (sym (after-statement x [] [])) tt)).0 in
    rw (tree-tape x, link-all es m)
    (ap (λ (s : Labelling). s.labelled)
    (follows (label_op keys done.links done.outer) (label_event keys) (At kinds keys done.links done.outer)
    (Good kinds keys done.links done.outer) (turn kinds keys done.links done.outer) es [] _ _ good refl))
