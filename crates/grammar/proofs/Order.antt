-- Tokens rise along a text: what each event keeps, by the tokens that it stands at, is kept to the end (`text-keeps`); and what has been declared at a place stands
-- before what stands there (`text-earlier`).
use mathlib.Core.List.{List, [], ◌∷◌}
use Prim.Native.Nat.{ℕ, ◌<◌, ◌≤◌}
use native.Mathlib.Omega.{arith}
use Rattle.base.specs.Lists.{All}
use Rattle.base.proofs.Lists.{all_map}
use Rattle.grammar.specs.Derives.{is_register}
use Rattle.grammar.specs.Events.{Edge, opened, closed, entered, left, Route, labelled, sent, Entry, named, celled, itemed, valued, based, Event, edge, route, entry, phrase, mark}
use Rattle.grammar.specs.Places.{within, body, Place, after, along, Along}
use Rattle.grammar.specs.Texts.{EdgeFits, RouteFits, InBlock, Stands, Text, is_event}
use Rattle.grammar.proofs.Texts.{text-rises}

module _ (kinds : List ℕ) where
  -- ── what each event keeps ──

  module _
      {S : Type 0} (f : Event → Place → S → S) (I : ℕ → S → Type 0) (j : ℕ) (later : (i k : ℕ) (s : S) → i ≤ k → I i s → I k s)
      (turn : (e : Event) (p : Place) (i : ℕ) (s : S) (x : Stands kinds e p i) → x.to ≤ j → I i s → I x.to (f e p s))
    where
      pub text-keeps : (es : List Event) (p : Place) (i : ℕ) (s : S) → Text kinds es p i j → I i s → I j (along f es p s)
      unfolding Text along
      text-keeps [] p i s h k = later i j s h k
      text-keeps (e ∷ es) p i s (x, h) k = text-keeps es (after e p) x.to (f e p s) h (turn e p i s x (text-rises kinds es (after e p) x.to j h) k)

  -- ── what has been declared ──

  abbrev Before : ℕ → List ℕ → Type 0
  Before i ts = All (λ (t : ℕ). t < i) ts

  -- the names and bases declared at a place, and the return registers of its procedures, stand before token i
  abbrev pub Earlier : ℕ → Place → Type 0
  Earlier i [] = Unit {0}
  Earlier i (within b ∷ p) = Before i b.names × Before i b.bases × Earlier i p
  Earlier i (body n r ∷ p) = (n < i) × (r < i) × Earlier i p

  still : {i k : ℕ} (ts : List ℕ) → i ≤ k → Before i ts → Before k ts
  still {i} {k} ts h a = all_map (λ (t : ℕ). t < i) (λ (t : ℕ). t < k) ts (λ t l. omega arith) a

  pub earlier-later : {i k : ℕ} (p : Place) → i ≤ k → Earlier i p → Earlier k p
  earlier-later [] h a = tt
  earlier-later (within b ∷ p) h (a, c, d) = (still b.names h a, still b.bases h c, earlier-later p h d)
  earlier-later (body n r ∷ p) h (a, c, d) = (omega arith, omega arith, earlier-later p h d)

  after-edge : (x : Edge) (p : Place) (i j : ℕ) → i ≤ j → EdgeFits x p → is_event kinds (edge x) i j → Earlier i p → Earlier j (after (edge x) p)
  after-edge (opened t ls) p i j l f h a = (tt, tt, earlier-later p l a)
  after-edge (closed t) (within b ∷ p) i j l f h (a, c, d) = earlier-later p l d
  after-edge (entered n r) (within b ∷ p) i j l f h (a, c, d) = (omega arith, omega arith, ((omega arith, still b.names l a), still b.bases l c, earlier-later p l d))
  after-edge (left n) (body m r ∷ p) i j l f h (a, c, d) = earlier-later p l d
  after-edge (closed t) [] i j l f h a = elim f [ ]
  after-edge (closed t) (body m r ∷ p) i j l f h a = elim f [ ]
  after-edge (entered n r) [] i j l f h a = elim f [ ]
  after-edge (entered n r) (body m return ∷ p) i j l f h a = elim f [ ]
  after-edge (left n) [] i j l f h a = elim f [ ]
  after-edge (left n) (within b ∷ p) i j l f h a = elim f [ ]

  after-route : (x : Route) (p : Place) (i j : ℕ) → i ≤ j → RouteFits x p → Earlier i p → Earlier j (after (route x) p)
  after-route (labelled t) (within b ∷ p) i j l f (a, c, d) = (still b.names l a, still b.bases l c, earlier-later p l d)
  after-route (sent t n) p i j l f a = earlier-later p l a
  after-route (labelled t) [] i j l f a = elim f [ ]
  after-route (labelled t) (body name return ∷ p) i j l f a = elim f [ ]

  after-entry : (x : Entry) (p : Place) (i j : ℕ) → i ≤ j → InBlock p → is_event kinds (entry x) i j → Earlier i p → Earlier j (after (entry x) p)
  unfolding is_register
  after-entry (named r) (within b ∷ p) i j l f h (a, c, d) = ((omega arith, still b.names l a), still b.bases l c, earlier-later p l d)
  after-entry (celled n w) (within b ∷ p) i j l f h (a, c, d) = (still b.names l a, still b.bases l c, earlier-later p l d)
  after-entry (itemed n w x) (within b ∷ p) i j l f h (a, c, d) = ((omega arith, still b.names l a), still b.bases l c, earlier-later p l d)
  after-entry (valued t) (within b ∷ p) i j l f h (a, c, d) = (still b.names l a, still b.bases l c, earlier-later p l d)
  after-entry (based n) (within b ∷ p) i j l f h (a, c, d) = (still b.names l a, (omega arith, still b.bases l c), earlier-later p l d)
  after-entry (named r) [] i j l f h _ = elim f [ ]
  after-entry (named r) (body name return ∷ p) i j l f h _ = elim f [ ]
  after-entry (celled n w) [] i j l f h _ = elim f [ ]
  after-entry (celled n w) (body name return ∷ p) i j l f h _ = elim f [ ]
  after-entry (itemed n w x) [] i j l f h _ = elim f [ ]
  after-entry (itemed n w x) (body name return ∷ p) i j l f h _ = elim f [ ]
  after-entry (valued t) [] i j l f h _ = elim f [ ]
  after-entry (valued t) (body name return ∷ p) i j l f h _ = elim f [ ]
  after-entry (based n) [] i j l f h _ = elim f [ ]
  after-entry (based n) (body name return ∷ p) i j l f h _ = elim f [ ]

  pub earlier-after : (e : Event) (p : Place) (i : ℕ) (x : Stands kinds e p i) → Earlier i p → Earlier x.to (after e p)
  earlier-after (edge y) p i x a = after-edge y p x.from x.to x.rises x.fits x.is (earlier-later p x.later a)
  earlier-after (route y) p i x a = after-route y p x.from x.to x.rises x.fits (earlier-later p x.later a)
  earlier-after (entry y) p i x a = after-entry y p x.from x.to x.rises x.fits x.is (earlier-later p x.later a)
  earlier-after (phrase y) p i x a = earlier-later p (omega arith) a
  earlier-after (mark y) p i x a = earlier-later p (omega arith) a

  -- an event at its place, after all that has been declared there, and before token N
  pub record Placed (N : ℕ) (e : Event) (p : Place) : Type 0 where
    pub stands : Stands kinds e p 0
    pub earlier : Earlier stands.from p
    pub inside : stands.to ≤ N

  pub text-placed : (N : ℕ) (es : List Event) (p : Place) (i j : ℕ) → j ≤ N → Text kinds es p i j → Earlier i p → Along (Placed N) es p
  unfolding Text Along
  text-placed N [] p i j l h a = tt
  text-placed N (e ∷ es) p i j l (x, h) a = (
    record {
      stands = record { fits = x.fits; from = x.from; to = x.to; later = omega arith; rises = x.rises; is = x.is };
      earlier = earlier-later p x.later a;
      inside = (let r = text-rises kinds es (after e p) x.to j h in omega arith);
    },
    text-placed N es (after e p) x.to j l h (earlier-after e p i x a),
  )
