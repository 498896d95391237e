-- Each name is found, if at all, at a declaration before it ("For a name's earlier declaration the search goes outward"): all that is in force where it stands has
-- been declared before it.
use mathlib.Core.Path.{sym, subst}
use mathlib.Core.List.{List, [], ◌∷◌}
use Prim.Native.Nat.{ℕ, zero, suc, ◌+◌, ◌≤◌, ◌<◌}
use native.Mathlib.Omega.{arith}
use lib.Dec.{eqb}
use lib.ListN.{get_or, set}
use Rattle.base.specs.Lists.{All}
use Rattle.base.proofs.Lists.{all_map}
use Rattle.base.proofs.Tests.{by-test}
use Rattle.grammar.specs.Events.{Edge, opened, closed, entered, left, Entry, named, celled, itemed, valued, based, Event, edge, route, entry, phrase, mark, phrase_uses, uses, declares}
use Rattle.grammar.specs.Places.{within, body, Place, after, along}
use Rattle.grammar.specs.Texts.{EdgeFits, InBlock, is_event, Stands, Text}
use Rattle.grammar.proofs.Uses.{Rise, uses-rise}
use Rattle.grammar.proofs.Order.{Earlier, earlier-later, earlier-after}
use Rattle.scopes.specs.Search.{first_token, around, in_block, find, innermost}
use Rattle.scopes.specs.Names.{Named, names_in, note_found, use_name, use_names, declare_names, name_event}
use Rattle.scopes.proofs.Finding.{declare-keeps}

-- each entry of a table of found names, from token k on
abbrev EarlyFrom : ℕ → List ℕ → Type 0
EarlyFrom k found = (t : ℕ) → get_or found t 0 ≤ k + t

abbrev pub Early : List ℕ → Type 0
Early found = (t : ℕ) → get_or found t 0 ≤ t

set-early : (k : ℕ) (l : List ℕ) (i v : ℕ) → v ≤ k + i → EarlyFrom k l → EarlyFrom k (set l i v)
set-early k [] i v h a t = a t
set-early k (x ∷ l) zero v h a zero = h
set-early k (x ∷ l) zero v h a (suc t) = a (suc t)
set-early k (x ∷ l) (suc i) v h a zero = a zero
set-early k (x ∷ l) (suc i) v h a (suc t) = let r = set-early (suc k) l i v (omega arith) (λ u. let q = a (suc u) in omega arith) t in omega arith

-- all declarations in these blocks stand before token i
abbrev Upto : ℕ → List (List ℕ) → Type 0
Upto i bs = All (λ (b : List ℕ). All (λ (d : ℕ). d < i) b) bs

module _ (kinds keys : List ℕ) where
  in-upto : (key : ℕ) (b : List ℕ) (further i : ℕ) → All (λ (d : ℕ). d < i) b → further < i → in_block keys key b further < i
  unfolding in_block
  in-upto key [] further i a h = h
  in-upto key (d ∷ ds) further i a h = by-test (λ (y : ℕ). y < i) (eqb (get_or keys d 0) key) d _ (λ e. a.0) (λ e. in-upto key ds further i a.1 h)

  find-upto : (key : ℕ) (bs : List (List ℕ)) (i : ℕ) → 0 < i → Upto i bs → find keys key bs < i
  unfolding find
  find-upto key [] i h a = h
  find-upto key (b ∷ bs) i h a = in-upto key b _ i a.0 (find-upto key bs i h a.1)

  -- the standard names stand in front of the text
  standard-early : All (λ (d : ℕ). d < first_token) (innermost around)
  standard-early = omega arith

  names-upto : (p : Place) (i : ℕ) → first_token ≤ i → Earlier kinds i p → Upto i (names_in p)
  names-upto [] i h a = (all_map (λ (d : ℕ). d < first_token) (λ (d : ℕ). d < i) (innermost around) (λ d l. omega arith) standard-early, tt)
  names-upto (within b ∷ p) i h a = (a.0, names-upto p i h a.2)
  names-upto (body n r ∷ p) i h a = names-upto p i h a.2

  use-early : (ts : List ℕ) (bs : List (List ℕ)) (s : Named) → All (λ (t : ℕ). (0 < t) × Upto t bs) ts → Early s.found → Early (use_names keys ts bs s).found
  unfolding use_names use_name note_found
  use-early [] bs s a k = k
  use-early (t ∷ ts) bs s a k =
      let d = find-upto (get_or keys t 0) bs t a.0.0 a.0.1 in
      use-early ts bs (use_name keys t bs s) a.1 (λ u. let r = set-early 0 s.found t (find keys (get_or keys t 0) bs) (omega arith) (λ v. let q = k v in omega arith) u in omega arith)

  -- ── an event ──

  from_on : (ts : List ℕ) (i j : ℕ) → Rise ts i j → All (λ (t : ℕ). i ≤ t) ts
  from_on [] i j r = tt
  from_on (t ∷ ts) i j (l, r) = (l, all_map (λ (u : ℕ). t + 1 ≤ u) (λ (u : ℕ). i ≤ u) ts (λ u h. omega arith) (from_on ts (t + 1) j r))

  abbrev Uses : Event → Place → Type 0
  Uses e p = All (λ (t : ℕ). (0 < t) × Upto t (names_in (after e p))) (uses e)

  edge-uses : (x : Edge) (p : Place) (i j : ℕ) → EdgeFits x p → is_event kinds (edge x) i j → first_token ≤ i → Earlier kinds i p → Uses (edge x) p
  edge-uses (opened t ls) p i j f h l a = tt
  edge-uses (closed t) p i j f h l a = tt
  edge-uses (entered n r) (within b ∷ p) i j f h l a =
      let c = earlier-later kinds (within b ∷ p) (let q = h.1.2.1.0 in let e = h.1.0 in let z : i ≤ r = omega arith in z) a in
      ((omega arith, ((omega arith, c.0), names-upto p r (omega arith) c.2)), tt)
  edge-uses (left n) p i j f h l a = tt
  edge-uses (entered n r) [] i j f h l a = elim f [ ]
  edge-uses (entered n r) (body name return ∷ p) i j f h l a = elim f [ ]

  entry-uses : (x : Entry) (p : Place) (i j : ℕ) → InBlock p → is_event kinds (entry x) i j → first_token ≤ i → Earlier kinds i p → Uses (entry x) p
  entry-uses (named r) p i j f h l a = tt
  entry-uses (celled c w) p i j f h l a = tt
  entry-uses (itemed c w y) p i j f h l a = tt
  entry-uses (valued t) p i j f h l a = tt
  entry-uses (based n) (within b ∷ p) i j f h l a =
      let c = earlier-later kinds (within b ∷ p) (let z : i ≤ n = omega arith in z) a in
      ((omega arith, (c.0, names-upto p n (omega arith) c.2)), tt)
  entry-uses (based n) [] i j f h l a = elim f [ ]
  entry-uses (based n) (body name return ∷ p) i j f h l a = elim f [ ]

  event-uses : (e : Event) (p : Place) (i : ℕ) → Stands kinds e p i → first_token ≤ i → Earlier kinds i p → Uses e p
  event-uses (edge x) p i s l a = edge-uses x p s.from s.to s.fits s.is (omega arith) (earlier-later kinds p s.later a)
  event-uses (route x) p i s l a = tt
  event-uses (entry x) p i s l a = entry-uses x p s.from s.to s.fits s.is (omega arith) (earlier-later kinds p s.later a)
  event-uses (phrase x) p i s l a =
      all_map (λ (t : ℕ). s.from ≤ t) (λ (t : ℕ). (0 < t) × Upto t (names_in p)) (phrase_uses x)
      (λ t h. (omega arith, names-upto p t (omega arith) (earlier-later kinds p (omega arith) a)))
      (from_on (phrase_uses x) s.from s.to (uses-rise kinds (phrase x) s.from s.to s.rises s.is))
  event-uses (mark x) p i s l a = tt

  -- ── a text ──

  event-early : (e : Event) (p : Place) (i : ℕ) → Stands kinds e p i → first_token ≤ i → Earlier kinds i p → (s : Named) → Early s.found → Early (name_event keys e p s).found
  unfolding name_event
  event-early e p i x l a s k =
      use-early (uses e) (names_in (after e p)) (declare_names keys (declares e) (names_in p) s) (event-uses e p i x l a)
      (subst (λ (found : List ℕ). Early found) (sym (declare-keeps kinds keys (declares e) (names_in p) s)) k)

  pub found_early : (es : List Event) (p : Place) (i j : ℕ) → Text kinds es p i j → first_token ≤ i → Earlier kinds i p → (s : Named) → Early s.found
      → Early (along (name_event keys) es p s).found
  unfolding Text along
  found_early [] p i j h l a s k = k
  found_early (e ∷ es) p i j (x, h) l a s k =
      found_early es (after e p) x.to j h (omega arith) (earlier-after kinds e p i x a) (name_event keys e p s) (event-early e p i x l a s k)
