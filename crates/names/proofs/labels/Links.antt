-- The chains that the first loop makes along a text. At every event, for each block that is open there, they hold the labels set in it so far (`Going`), and what
-- stands in them before the event's tokens stays, but for the newest labels of the open blocks (`kept`).
use mathlib.Core.Path.{◌≡◌, refl, ap, sym, ◌∙◌}
use mathlib.Core.List.{List, [], ◌∷◌}
use mathlib.Core.Bool.{false}
use Prim.Native.Nat.{ℕ, zero, suc, ◌≤◌, ◌<◌}
use native.Mathlib.Omega.{arith}
use lib.Dec.{eqb}
use lib.ListN.{length, get_or, set, length-set}
use lib.Seq.{get_or-set_same, get_or-set_other}
use borrow.Author.Tests.{lt-ltb}
use Rattle.base.specs.Lists.{All}
use Rattle.grammar.specs.Events.{Edge, opened, closed, entered, left, Route, labelled, sent, Entry, Event, edge, route, entry, phrase, mark}
use Rattle.grammar.specs.Places.{within, body, Place, enter_entry, after}
use Rattle.grammar.specs.Texts.{InBlock, EdgeFits, RouteFits, Stands, Text}
use Rattle.grammar.proofs.Texts.{text-rises}
use Rattle.tape.specs.Pass.{pass}
use Rattle.tape.specs.Events as E
use Rattle.tape.specs.Numbers.{EDGE, ROUTE, layer_at}
use Rattle.tape.specs.Written.{layer_of, op_of, token_of, tape_of}
use Rattle.tape.proofs.Pass.{pass-none}
use Rattle.tape.proofs.Numbers.{other-layer}
use Rattle.tape.proofs.Written.{pass-first}
use Rattle.names.specs.Chains.{after as next, chain_of, chain}
use Rattle.names.specs.Linking.{Linking, block_after, outer_after, links_after, link_op}
use Rattle.names.proofs.labels.Chains.{chain-turn, chain-end}

-- ── linking, event by event ──

unfoldable pub link_event : Event → Linking → Linking
link_event (edge x) m = link_op (op_of (edge x)) (token_of (edge x)) m
link_event (route r) m = link_op (op_of (route r)) (token_of (route r)) m
link_event (entry d) m = m
link_event (phrase f) m = m
link_event (mark k) m = m

unfoldable pub link_all : List Event → Linking → Linking
link_all [] m = m
link_all (e ∷ es) m = link_all es (link_event e m)

-- only edges and routes are heeded
quiet : (e : Event) (m : Linking) → eqb (layer_of e) EDGE ≡ false → eqb (layer_of e) ROUTE ≡ false → link_op (op_of e) (token_of e) m ≡ m
unfolding link_op block_after outer_after links_after layer_at
quiet e m a b = rw (other-layer e E.BLOCK a, other-layer e E.PROCEDURE a, other-layer e E.END-BLOCK a, other-layer e E.END-PROCEDURE a, other-layer e E.LABEL b)

link-is : (e : Event) (m : Linking) → link_op (op_of e) (token_of e) m ≡ link_event e m
unfolding link_event
link-is (edge x) m = refl
link-is (route r) m = refl
link-is (entry d) m = quiet (entry d) m refl refl
link-is (phrase f) m = quiet (phrase f) m refl refl
link-is (mark k) m = quiet (mark k) m refl refl

pub link-all : (es : List Event) (m : Linking) → pass link_op m (tape_of es) ≡ link_all es m
unfolding link_all
link-all [] m = pass-none link_op m
link-all (e ∷ es) m = pass-first link_op e m es ∙ (ap (λ (x : Linking). pass link_op x (tape_of es)) (link-is e m) ∙ link-all es (link_event e m))

-- ── chains ──

pub next-is : (a : List ℕ) (t n : ℕ) → get_or a t 0 ≡ n → n < t → next a t ≡ n
unfolding next
next-is a t n e h = rw (e, lt-ltb n t h)

-- a chain hangs on its own tokens alone
abbrev Alike : List ℕ → List ℕ → ℕ → Type 0
Alike a b u = get_or b u 0 ≡ get_or a u 0

alike_of : (a b : List ℕ) (most t : ℕ) → All (Alike a b) (chain_of a most t) → chain_of b most t ≡ chain_of a most t
unfolding chain_of next
alike_of a b zero t h = refl
alike_of a b (suc most) zero h = refl
alike_of a b (suc most) (suc t) h = ap (λ (ts : List ℕ). suc t ∷ ts) (rw h.0 (alike_of a b most _ h.1))

pub chain-alike : (a b : List ℕ) (t : ℕ) (ts : List ℕ) → chain a t ≡ ts → All (Alike a b) ts → chain b t ≡ ts
chain-alike a b t ts e h = alike_of a b t t (rw e h) ∙ e

-- ── what the chains hold ──

-- the BEGIN of the innermost block, 0 at the edge of a procedure body
abbrev pub block_of : Place → ℕ
block_of [] = 0
block_of (within b ∷ p) = b.at
block_of (body n r ∷ p) = 0

abbrev pub Between : ℕ → ℕ → ℕ → Type 0
Between lo hi u = (lo < u) × (u < hi)

-- an open block, where tokens before c have been read
pub record Open (links outer : List ℕ) (p : Place) (at : ℕ) (labels : List ℕ) (c : ℕ) : Type 0 where
  pub low : at < c
  pub real : 0 < at
  pub around : get_or outer at 0 ≡ block_of p
  pub newest : get_or links at 0 < c
  pub chained : chain links (get_or links at 0) ≡ labels
  pub apart : All (Between at c) labels

abbrev pub Held : List ℕ → List ℕ → Place → ℕ → Type 0
Held links outer [] c = Unit {0}
Held links outer (within b ∷ p) c = Open links outer p b.at b.set c × Held links outer p b.at
Held links outer (body n r ∷ p) c = (n < c) × (get_or outer n 0 ≡ block_of p) × Held links outer p n

widen : (ts : List ℕ) (lo hi hi' : ℕ) → hi ≤ hi' → All (Between lo hi) ts → All (Between lo hi') ts
widen [] lo hi hi' l h = tt
widen (t ∷ ts) lo hi hi' l ((a, b), h) = ((a, omega arith), widen ts lo hi hi' l h)

pub held_more : (links outer : List ℕ) (p : Place) (c c' : ℕ) → c ≤ c' → Held links outer p c → Held links outer p c'
held_more links outer [] c c' l h = tt
held_more links outer (within b ∷ p) c c' l (o, h) =
    (record { low = omega arith; real = o.real; around = o.around; newest = omega arith; chained = o.chained; apart = widen b.set b.at c c' l o.apart }, h)
held_more links outer (body n r ∷ p) c c' l (a, e, h) = (omega arith, e, h)

-- lists that are the same before c
pub record SameTo (links outer links' outer' : List ℕ) (c : ℕ) : Type 0 where
  pub link : (u : ℕ) → u < c → get_or links' u 0 ≡ get_or links u 0
  pub out : (u : ℕ) → u < c → get_or outer' u 0 ≡ get_or outer u 0

pub all_alike : (a b ts : List ℕ) (lo hi : ℕ) → ((u : ℕ) → lo < u → u < hi → get_or b u 0 ≡ get_or a u 0) → All (Between lo hi) ts → All (Alike a b) ts
all_alike a b [] lo hi f h = tt
all_alike a b (t ∷ ts) lo hi f ((l, u), h) = (f t l u, all_alike a b ts lo hi f h)

held_same : (links outer links' outer' : List ℕ) (p : Place) (c : ℕ) → SameTo links outer links' outer' c → Held links outer p c → Held links' outer' p c
held_same links outer links' outer' [] c g h = tt
held_same links outer links' outer' (within b ∷ p) c g (o, h) =
    let e = g.link b.at o.low in (
      record {
        low = o.low;
        real = o.real;
        around = g.out b.at o.low ∙ o.around;
        newest = rw e o.newest;
        chained = rw e (chain-alike links links' _ _ o.chained (all_alike links links' b.set b.at c (λ u a l. g.link u l) o.apart));
        apart = o.apart;
      },
      held_same links outer links' outer' p b.at (record { link = λ u l. g.link u (omega arith); out = λ u l. g.out u (omega arith) }) h,
    )
held_same links outer links' outer' (body n r ∷ p) c g (a, e, h) =
    (a, g.out n a ∙ e, held_same links outer links' outer' p n (record { link = λ u l. g.link u (omega arith); out = λ u l. g.out u (omega arith) }) h)

-- no block of p begins at u
abbrev pub Apart : Place → ℕ → Type 0
Apart [] u = Unit {0}
Apart (within b ∷ p) u = (u ≡ b.at → ⊥) × Apart p u
Apart (body n r ∷ p) u = Apart p u

pub apart_from : (links outer : List ℕ) (p : Place) (c u : ℕ) → c ≤ u → Held links outer p c → Apart p u
apart_from links outer [] c u l h = tt
apart_from links outer (within b ∷ p) c u l (o, h) = let low = o.low in ((λ e. omega arith), apart_from links outer p b.at u (omega arith) h)
apart_from links outer (body n r ∷ p) c u l (a, e, h) = apart_from links outer p n u (omega arith) h

-- ── from event to event ──

module _ (kinds : List ℕ) (j : ℕ) where
  -- tokens before lo have been read, of j
  pub record Going (p : Place) (lo : ℕ) (m : Linking) : Type 0 where
    pub block : m.block ≡ block_of p
    pub held : Held m.links m.outer p lo
    pub real : 0 < lo
    pub wide-links : j ≤ length m.links
    pub wide-outer : j ≤ length m.outer

  on : {p : Place} {lo : ℕ} {m : Linking} (to : ℕ) → lo ≤ to → Going p lo m → Going p to m
  on {p} {lo} {m} to l g = (let r = g.real in record {
    block = g.block;
    held = held_more m.links m.outer p lo to l g.held;
    real = omega arith;
    wide-links = g.wide-links;
    wide-outer = g.wide-outer;
  })

  step-edge : (x : Edge) (p : Place) (lo : ℕ) (m : Linking) (s : Stands kinds (edge x) p lo) → EdgeFits x p → s.to ≤ j → Going p lo m → Going (after (edge x) p) s.to (link_event (edge x) m)
  unfolding link_event link_op block_after outer_after links_after
  step-edge (opened t ls) p lo m s f w g =
      record {
        block = refl;
        held = (
          record {
            low = omega arith;
            real = omega arith;
            around = get_or-set_same m.outer t m.block 0 (omega arith) ∙ g.block;
            newest = omega (arith, get_or-set_same m.links t 0 0 (omega arith));
            chained = ap (λ (n : ℕ). chain (set m.links t 0) n) (get_or-set_same m.links t 0 0 (omega arith)) ∙ chain-end _ 0 (omega arith);
            apart = tt;
          },
          held_same m.links m.outer _ _ p t (record {
            link = λ u l. get_or-set_other m.links t u 0 0 (λ q. omega arith);
            out = λ u l. get_or-set_other m.outer t u m.block 0 (λ q. omega arith);
          }) (held_more m.links m.outer p lo t (omega arith) g.held),
        );
        real = omega arith;
        wide-links = omega (arith, length-set m.links t 0);
        wide-outer = omega (arith, length-set m.outer t m.block);
      }
  step-edge (closed t) (within b ∷ p) lo m s f w g =
      record {
        block = ap (λ (n : ℕ). get_or m.outer n 0) (sym f.0) ∙ g.held.0.around;
        held = held_more m.links m.outer p b.at s.to (omega arith) g.held.1;
        real = omega arith;
        wide-links = g.wide-links;
        wide-outer = g.wide-outer;
      }
  step-edge (entered n r) (within b ∷ p) lo m s f w g =
      record {
        block = refl;
        held = (
          omega arith,
          get_or-set_same m.outer n m.block 0 (omega arith) ∙ g.block,
          held_same m.links m.outer _ _ (within b ∷ p) n (record {
            link = λ u l. refl;
            out = λ u l. get_or-set_other m.outer n u m.block 0 (λ q. omega arith);
          }) (held_more m.links m.outer (within b ∷ p) lo n (omega arith) g.held),
        );
        real = omega arith;
        wide-links = g.wide-links;
        wide-outer = omega (arith, length-set m.outer n m.block);
      }
  step-edge (left n) (body k r ∷ p) lo m s f w g =
      record {
        block = ap (λ (n : ℕ). get_or m.outer n 0) (sym f) ∙ g.held.1;
        held = held_more m.links m.outer p k s.to (omega arith) g.held.2;
        real = omega arith;
        wide-links = g.wide-links;
        wide-outer = g.wide-outer;
      }
  step-edge (closed t) [] lo m s f w g = elim f [ ]
  step-edge (closed t) (body k r ∷ p) lo m s f w g = elim f [ ]
  step-edge (entered n r) [] lo m s f w g = elim f [ ]
  step-edge (entered n r) (body k return ∷ p) lo m s f w g = elim f [ ]
  step-edge (left n) [] lo m s f w g = elim f [ ]
  step-edge (left n) (within b ∷ p) lo m s f w g = elim f [ ]

  step-route : (r : Route) (p : Place) (lo : ℕ) (m : Linking) (s : Stands kinds (route r) p lo) → RouteFits r p → s.to ≤ j → Going p lo m
      → Going (after (route r) p) s.to (link_event (route r) m)
  unfolding link_event link_op block_after outer_after links_after
  step-route (labelled l) (within b ∷ p) lo m s f w g =
      let blk = g.block in
      let o = g.held.0 in
      let old : get_or m.links m.block 0 ≡ get_or m.links b.at 0 = ap (λ (n : ℕ). get_or m.links n 0) blk in
      let first = set m.links l (get_or m.links m.block 0) in
      let size = length-set m.links l (get_or m.links m.block 0) in
      let here : get_or (set first m.block l) b.at 0 ≡ l = rw (← blk) (get_or-set_same first m.block l 0 (omega arith)) in
      let there : get_or (set first m.block l) l 0 ≡ get_or m.links b.at 0 = get_or-set_other first m.block l l 0 (λ q. omega arith) ∙ (get_or-set_same m.links l _ 0 (omega arith) ∙ old) in
      let others : (u : ℕ) → u < l → (u ≡ b.at → ⊥) → get_or (set first m.block l) u 0 ≡ get_or m.links u 0 =
      λ u k n. get_or-set_other first m.block u l 0 (λ q. n (q ∙ blk)) ∙ get_or-set_other m.links l u _ 0 (λ q. omega arith) in
      record {
        block = blk;
        held = (
          record {
            low = omega arith;
            real = o.real;
            around = o.around;
            newest = omega arith;
            chained = ap (λ (n : ℕ). chain (set first m.block l) n) here ∙ (chain-turn _ l (omega arith)
                ∙ ap (λ (ts : List ℕ). l ∷ ts) (ap (λ (n : ℕ). chain (set first m.block l) n) (next-is _ l _ there (omega arith))
                ∙ chain-alike m.links _ _ _ o.chained (all_alike m.links (set first m.block l) b.set b.at lo (λ u a k. others u (omega arith) (λ q. omega arith)) o.apart)));
            apart = ((omega arith, omega arith), widen b.set b.at lo s.to (omega arith) o.apart);
          },
          held_same m.links m.outer _ _ p b.at (record { link = λ u k. others u (omega arith) (λ q. omega arith); out = λ u k. refl }) g.held.1,
        );
        real = omega arith;
        wide-links = omega (arith, length-set first m.block l);
        wide-outer = g.wide-outer;
      }
  step-route (sent t n) p lo m s f w g = on s.to (omega arith) g
  step-route (labelled l) [] lo m s f w g = elim f [ ]
  step-route (labelled l) (body name return ∷ p) lo m s f w g = elim f [ ]

  pub step : (e : Event) (p : Place) (lo : ℕ) (m : Linking) (s : Stands kinds e p lo) → s.to ≤ j → Going p lo m → Going (after e p) s.to (link_event e m)
  unfolding link_event
  step (edge x) p lo m s w g = step-edge x p lo m s s.fits w g
  step (route r) p lo m s w g = step-route r p lo m s s.fits w g
  step (entry d) p lo m s w g = step-entry p s.fits (on s.to (omega arith) g)
    where
      step-entry : (p : Place) → InBlock p → Going p s.to m → Going (enter_entry d p) s.to m
      step-entry (within b ∷ p) f g = record { block = g.block; held = g.held; real = g.real; wide-links = g.wide-links; wide-outer = g.wide-outer }
      step-entry [] f g = elim f [ ]
      step-entry (body name return ∷ p) f g = elim f [ ]
  step (phrase f) p lo m s w g = on s.to (omega arith) g
  step (mark k) p lo m s w g = on s.to (omega arith) g

  -- ── what stays ──

  -- a token before lo, in the links where no open block begins there
  pub record Stays (p : Place) (u : ℕ) (m m' : Linking) : Type 0 where
    pub link : Apart p u → get_or m'.links u 0 ≡ get_or m.links u 0
    pub out : get_or m'.outer u 0 ≡ get_or m.outer u 0

  stays : (p : Place) (u : ℕ) (m : Linking) → Stays p u m m
  stays p u m = record { link = λ a. refl; out = refl }

  edge_stays : (x : Edge) (p : Place) (lo : ℕ) (m : Linking) (s : Stands kinds (edge x) p lo) → EdgeFits x p → Going p lo m → (u : ℕ) → u < lo → Stays p u m (link_event (edge x) m)
  unfolding link_event link_op block_after outer_after links_after
  edge_stays (opened t ls) p lo m s f g u h =
      record { link = λ a. get_or-set_other m.links t u 0 0 (λ q. omega arith); out = get_or-set_other m.outer t u m.block 0 (λ q. omega arith) }
  edge_stays (closed t) p lo m s f g u h = record { link = λ a. refl; out = refl }
  edge_stays (entered n r) p lo m s f g u h =
      record { link = λ a. refl; out = get_or-set_other m.outer n u m.block 0 (λ q. omega arith) }
  edge_stays (left n) p lo m s f g u h = record { link = λ a. refl; out = refl }

  route-stays : (r : Route) (p : Place) (lo : ℕ) (m : Linking) (s : Stands kinds (route r) p lo) → RouteFits r p → Going p lo m → (u : ℕ) → u < lo
      → Stays p u m (link_event (route r) m)
  unfolding link_event link_op block_after outer_after links_after
  route-stays (labelled l) (within b ∷ p) lo m s f g u h =
      let newest = get_or m.links m.block 0 in
      record { link = λ a. get_or-set_other (set m.links l newest) m.block u l 0 (λ q. a.0 (q ∙ g.block)) ∙ get_or-set_other m.links l u newest 0 (λ q. omega arith); out = refl }
  route-stays (sent t n) p lo m s f g u h = record { link = λ a. refl; out = refl }
  route-stays (labelled l) [] lo m s f g u h = elim f [ ]
  route-stays (labelled l) (body name return ∷ p) lo m s f g u h = elim f [ ]

  event-stays : (e : Event) (p : Place) (lo : ℕ) (m : Linking) → Stands kinds e p lo → Going p lo m → (u : ℕ) → u < lo → Stays p u m (link_event e m)
  unfolding link_event
  event-stays (edge x) p lo m s g u h = edge_stays x p lo m s s.fits g u h
  event-stays (route r) p lo m s g u h = route-stays r p lo m s s.fits g u h
  event-stays (entry d) p lo m s g u h = stays p u m
  event-stays (phrase f) p lo m s g u h = stays p u m
  event-stays (mark k) p lo m s g u h = stays p u m

  apart-edge : (x : Edge) (p : Place) (lo u : ℕ) (s : Stands kinds (edge x) p lo) → EdgeFits x p → u < lo → Apart p u → Apart (after (edge x) p) u
  apart-edge (opened t ls) p lo u s f h a = ((λ q. omega arith), a)
  apart-edge (closed t) (within b ∷ p) lo u s f h a = a.1
  apart-edge (entered n r) (within b ∷ p) lo u s f h a = a
  apart-edge (left n) (body k r ∷ p) lo u s f h a = a
  apart-edge (closed t) [] lo u s f h a = elim f [ ]
  apart-edge (closed t) (body k r ∷ p) lo u s f h a = elim f [ ]
  apart-edge (entered n r) [] lo u s f h a = elim f [ ]
  apart-edge (entered n r) (body k return ∷ p) lo u s f h a = elim f [ ]
  apart-edge (left n) [] lo u s f h a = elim f [ ]
  apart-edge (left n) (within b ∷ p) lo u s f h a = elim f [ ]

  apart_route : (r : Route) (p : Place) (u : ℕ) → RouteFits r p → Apart p u → Apart (after (route r) p) u
  apart_route (labelled l) (within b ∷ p) u f a = a
  apart_route (sent t n) p u f a = a
  apart_route (labelled l) [] u f a = elim f [ ]
  apart_route (labelled l) (body name return ∷ p) u f a = elim f [ ]

  apart-entry : (d : Entry) (p : Place) (u : ℕ) → InBlock p → Apart p u → Apart (enter_entry d p) u
  apart-entry d (within b ∷ p) u f a = a
  apart-entry d [] u f a = elim f [ ]
  apart-entry d (body name return ∷ p) u f a = elim f [ ]

  apart-on : (e : Event) (p : Place) (lo u : ℕ) → Stands kinds e p lo → u < lo → Apart p u → Apart (after e p) u
  apart-on (edge x) p lo u s h a = apart-edge x p lo u s s.fits h a
  apart-on (route r) p lo u s h a = apart_route r p u s.fits a
  apart-on (entry d) p lo u s h a = apart-entry d p u s.fits a
  apart-on (phrase f) p lo u s h a = a
  apart-on (mark k) p lo u s h a = a

  pub kept : (es : List Event) (p : Place) (lo : ℕ) (m : Linking) → Text kinds es p lo j → Going p lo m → (u : ℕ) → u < lo → Stays p u m (link_all es m)
  unfolding Text link_all
  kept [] p lo m h g u l = stays p u m
  kept (e ∷ es) p lo m (s, h) g u l =
      let one = event-stays e p lo m s g u l in
      let rest = kept es (after e p) s.to (link_event e m) h (step e p lo m s (text-rises kinds es (after e p) s.to j h) g) u (omega arith) in
      record { link = λ a. rest.link (apart-on e p lo u s l a) ∙ one.link a; out = rest.out ∙ one.out }
