-- The events of every program are a text (`program-text`): the one induction over the tree, from the rules of `Derives`. What a pass sets in a table at an event's own
-- tokens stays to the end of a text (`settles`).
use mathlib.Core.Path.{◌≡◌, refl, ap, sym, subst, ◌∙◌}
use mathlib.Core.List.{List, [], ◌∷◌, ◌++◌}
use mathlib.Core.Option.{Option, none, some}
use Prim.Native.Nat.{ℕ, ◌+◌, ◌≤◌, ◌<◌}
use native.Mathlib.Omega.{arith}
use lib.ListN.{length, get_or}
use Rattle.grammar.specs.Tree.{Designator, Operand, Sign, plain, abs, neg, neg_abs, Term, Assignment, Condition, Width, Register, Item, Declaration, registers, cells, base, Statement, assign, call, apply, block, goto, null, if_then, if_else, while, for, choose, Body, declare, procedure, items, Items, ended, label, item, Choices, over, choice}
use Rattle.grammar.specs.Derives.{Part, is_designator, is_condition, is_sign, are_terms, is_assignment, are_numbers, is_item, is_register, are_more, are_some, is_declaration, are_arguments, is_statement, is_body, is_items, are_choices, is_program}
use Rattle.grammar.specs.Events.{opened, closed, entered, left, labelled, sent, named, celled, itemed, valued, based, Phrase, aimed, driven, signed, given, joined, tested, limited, called, applied, argued, counted, chosen, Mark, listed, ended_choice, Event, edge, route, entry, phrase, mark, each, events_value, events_item, events_register, events_declaration, events_sign, events_term, events_chain, events_arguments, labels_onto, labels_of, choices_count, events_statement, events_body, events_items, events_choices, events_of}
use Rattle.grammar.specs.Places.{Block, within, Place, after, after_all, along, Along}
use Rattle.grammar.specs.Texts.{Fits, is_entry, is_event, Stands, Text}
use Rattle.grammar.proofs.Places.{Appends}
use Rattle.grammar.proofs.Kept.{Kept, keep-designator, keep-operand, keep-condition, keep-sign, keep-register, keep-type}

module _ (kinds : List ℕ) (j : ℕ) where
  -- what is derived begins no later than it ends
  up : {p : Part} → Kept kinds kinds p p → {i m : ℕ} → p i m → i ≤ m
  up k h = k.rises h

  sooner : (es : List Event) (p : Place) (i i' : ℕ) → i' ≤ i → Text kinds es p i j → Text kinds es p i' j
  unfolding Text
  sooner [] p i i' l h = omega arith
  sooner (e ∷ es) p i i' l (s, h) = (record { fits = s.fits; from = s.from; to = s.to; later = (let g = s.later in omega arith); rises = s.rises; is = s.is }, h)

  module _ (e : Event) (p : Place) (k : List Event) where
    put : (i m : ℕ) → Fits e p → is_event kinds e i m → i ≤ m → Text kinds k (after e p) m j → Text kinds (e ∷ k) p i j
    unfolding Text
    put i m f h l t = (record { fits = f; from = i; to = m; later = omega arith; rises = l; is = h }, t)

  -- ── declarations ──

  values : (b : Block) (p : Place) (ts : List ℕ) (k : List Event) (i m : ℕ) → are_numbers kinds ts i m → Text kinds k (within b ∷ p) m j → Text kinds (each events_value ts k) (within b ∷ p) i j
  unfolding are_numbers each
  values b p [] k i m h t = sooner k _ _ _ (omega arith) t
  values b p (n ∷ ts) k i m (o, (x, y, (c, h))) t =
      put (entry (valued n)) _ _ i (i + 1 + 1 + 1) tt (o, (x, y, (c, refl))) (omega arith) (values b p ts k _ m h t)

  -- k, in the same block, whatever more has been declared in it
  abbrev Inside : List Event → Block → Place → ℕ → Type 0
  Inside k b p i = (b' : Block) → b'.at ≡ b.at → b'.labels ≡ b.labels → b'.set ≡ b.set → Text kinds k (within b' ∷ p) i j

  abbrev Declared : (List Event → List Event) → Part → Type 0
  Declared out part = (b : Block) (p : Place) (k : List Event) (i m : ℕ) → part i m → Inside k b p m → Text kinds (out k) (within b ∷ p) i j

  module _ {A : Type 0} (is_one : A → Part) (out : A → List Event → List Event) (one : (x : A) → Declared (out x) (is_one x)) where
    more : (xs : List A) → Declared (each out xs) (are_more kinds is_one xs)
    unfolding are_more each
    more [] b p k i m h f = sooner k _ _ _ (omega arith) (f b refl refl refl)
    more (x ∷ xs) b p k i m (c, (n, h, hs)) f =
        sooner _ _ _ _ (omega arith) (one x b p _ (i + 1) n h (λ b' u v w. more xs b' p k n m hs (λ b'' u' v' w'. f b'' (u' ∙ u) (v' ∙ v) (w' ∙ w))))

    some_of : (xs : List A) → Declared (each out xs) (are_some kinds is_one xs)
    unfolding are_some each
    some_of [] b p k i m h f = absurd h
    some_of (x ∷ xs) b p k i m (n, h, hs) f = one x b p _ i n h (λ b' u v w. more xs b' p k n m hs (λ b'' u' v' w'. f b'' (u' ∙ u) (v' ∙ v) (w' ∙ w)))

  one-register : (r : Register) → Declared (events_register r) (is_register kinds r)
  one-register r b p k i m h f = put (entry (named r)) _ k i m tt h (up (keep-register r) h) (f _ refl refl refl)

  one-item : (c : Option ℕ) (w : Width) (x : Item) → Declared (events_item c w x) (is_item kinds x)
  unfolding is_item events_item
  one-item c w x b p k i m (e, y, h) f = put (entry (itemed c w x)) _ _ i (i + 1) tt (e, y, refl) (omega arith) (values _ p x.numbers k _ m h (f _ refl refl refl))

  cells_of : (c : Option ℕ) (w : Width) (xs : List Item) (n : ℕ) (b : Block) (p : Place) (k : List Event) (i m : ℕ) → is_entry kinds (celled c w) i n → i ≤ n → are_some kinds (is_item kinds) xs n m
      → Inside k b p m → Text kinds (events_declaration (cells c w xs) k) (within b ∷ p) i j
  unfolding events_declaration
  cells_of c w xs n b p k i m h l hs f = put (entry (celled c w)) _ _ i n tt h l (some_of (is_item kinds) (events_item c w) (one-item c w) xs b p k n m hs f)

  declaration : (d : Declaration) → Declared (events_declaration d) (is_declaration kinds d)
  unfolding is_declaration events_declaration
  declaration (registers rs) b p k i m (z, (r, h)) f = sooner _ _ _ _ (omega arith) (some_of (is_register kinds) events_register one-register rs b p k _ m h f)
  declaration (cells none w xs) b p k i m (n, h, hs) f = cells_of none w xs n b p k i m h (up (keep-type w) h) hs f
  declaration (cells (some c) w xs) b p k i m (a, (o, (e, y, (z, (n, h, hs))))) f =
      let l = up (keep-type w) h in
      cells_of (some c) w xs n b p k i m (a, (o, (e, y, (z, h)))) (omega arith) hs f
  declaration (base n) b p k i m (a, (o, (e, y, h))) f = put (entry (based n)) _ k i m tt (a, (o, (e, y, h))) (omega arith) (f _ refl refl refl)

  -- ── assignments ──

  terms : (d : Designator) (ts : List Term) (p : Place) (k : List Event) (i m : ℕ) → are_terms kinds ts i m → Text kinds k p m j → Text kinds (each (events_term d) ts k) p i j
  unfolding are_terms each
  terms d [] p k i m h t = sooner k _ _ _ (omega arith) t
  terms d (x ∷ xs) p k i m (e, y, (n, h, hs)) t =
      let l = up (keep-operand x.operand) h in
      put (phrase (joined d x)) p _ i n tt (e, y, h) (omega arith) (terms d xs p k n m hs t)

  sign : (d : Designator) (g : Sign) (p : Place) (k : List Event) (i m : ℕ) → is_sign kinds g i m → Text kinds k p m j → Text kinds (events_sign d g k) p i j
  unfolding events_sign is_sign
  sign d plain p k i m h t = sooner k _ _ _ (omega arith) t
  sign d (abs n) p k i m h t = put (phrase (signed d (abs n))) p k i m tt h (up (keep-sign (abs n)) h) t
  sign d (neg n) p k i m h t = put (phrase (signed d (neg n))) p k i m tt h (up (keep-sign (neg n)) h) t
  sign d (neg_abs n) p k i m h t = put (phrase (signed d (neg_abs n))) p k i m tt h (up (keep-sign (neg_abs n)) h) t

  assignment : (f : Phrase) (a : Assignment) (p : Place) (k : List Event) (i m : ℕ)
      → ((u v : ℕ) → is_designator kinds a.target u v → is_event kinds (phrase f) u v) → is_assignment kinds a i m → Text kinds k p m j
      → Text kinds (phrase f ∷ events_chain a k) p i j
  unfolding is_assignment events_chain
  assignment f a p k i m g (n, h, (z, (v, hs, (w, ho, ht)))) t =
      let l = up (keep-designator a.target) h in
      put (phrase f) p _ i n tt (g i n h) l
      (sooner _ _ _ _ (omega arith) (sign a.target a.sign p _ _ v hs
      (put (phrase (given a.target a.first)) p _ v w tt ho (up (keep-operand a.first) ho) (terms a.target a.rest p k w m ht t))))

  condition : (t : ℕ) (c : Condition) (p : Place) (k : List Event) (i m : ℕ) → t ≡ i → is_condition kinds c (i + 1) m → Text kinds k p (m + 1) j → Text kinds (phrase (tested t c) ∷ k) p i j
  condition t c p k i m e h g =
      let l = up (keep-condition c) h in
      put (phrase (tested t c)) p k i m tt (e, h) (omega arith) (sooner k _ _ _ (omega arith) g)

  -- ── statements ──

  -- the arguments of a use, and its end behind the last
  arguments : (n c : ℕ) (xs : List Operand) (p : Place) (k : List Event) (i m : ℕ) → are_arguments kinds xs i m → Text kinds k p m j → Text kinds (events_arguments n c xs k) p i j
  unfolding are_arguments events_arguments
  arguments n c [] p k i m h t = put (phrase (counted n c)) p k i i tt refl (omega arith) (sooner k _ _ _ (omega arith) t)
  arguments n c (a ∷ xs) p k i m (o, (v, h, (z, hs))) t =
      let l = up (keep-operand a) h in
      put (phrase (argued n c a)) p _ i (v + 1) tt (o, (v, h, (z, refl))) (omega arith) (arguments n (c + 1) xs p k (v + 1) m hs t)

  -- a mark stands between two tokens
  marked : (m : Mark) (p : Place) (k : List Event) (i : ℕ) → Text kinds k p i j → Text kinds (mark m ∷ k) p i j
  marked m p k i t = put (mark m) p k i i tt refl (omega arith) t

  -- the end of a block, where all its labels have been set
  abbrev Ended : List Event → Block → Place → ℕ → Type 0
  Ended k b p i = (b' : Block) → b'.at ≡ b.at → b'.set ≡ b'.labels → Text kinds k (within b' ∷ p) i j

  mutual
    unfolding is_statement events_statement

    statement : (x : Statement) (p : Place) (k : List Event) (i m : ℕ) → is_statement kinds x i m → Text kinds k p m j → Text kinds (events_statement x k) p i j
    statement (assign a) p k i m h t = assignment (aimed a.target) a p k i m (λ u v q. q) h t
    statement (call n) p k i m (e, y, h) t = put (phrase (called n)) p k i m tt (e, y, h) (omega arith) t
    statement (apply n a xs) p k i m (e, y, h) t = put (phrase (applied n)) p _ i (i + 1) tt (e, y, refl) (omega arith) (arguments n 0 (a ∷ xs) p k (i + 1) m h t)
    statement (block n b) p k i m (e, y, h) t =
        put (edge (opened n (labels_of b []))) p _ i (i + 1) tt (e, y, refl) (omega arith)
        (bodied b _ p _ _ m refl h (λ b' u w. put (edge (closed n)) _ k m m (u, w) refl (omega arith) t))
    statement (goto n l) p k i m (e, y, (u, v, h)) t = put (route (sent n l)) p k i m tt (e, y, (u, v, h)) (omega arith) t
    statement null p k i m (y, h) t = sooner k _ _ _ (omega arith) t
    statement (if_then n c x) p k i m (e, y, (v, h, (z, hs))) t =
        condition n c p _ i v e h (statement x p _ _ m hs (marked _ p k m t))
    statement (if_else n c x l u) p k i m (e, y, (v, h, (z, (w, (o, hs), (a, q, hu))))) t =
        condition n c p _ i v e h (statement x p _ _ w hs (marked _ p _ w (sooner _ _ _ _ (omega arith) (statement u p _ (w + 1) m hu (marked _ p k m t)))))
    statement (while n c x) p k i m (e, y, (v, h, (z, hs))) t =
        marked _ p _ i (condition n c p _ i v e h (statement x p _ _ m hs (marked _ p k m t)))
    statement (for n a s l x) p k i m (e, y, (v, h, (z, (q, r, (o, (w, hl, (d, hs))))))) t =
        let up-l = up (keep-operand l) hl in
        sooner _ _ _ _ (omega arith)
        (assignment (driven a.target) a p _ (i + 1) v (λ u v q. q) h
        (put (phrase (limited a.target s l)) p _ v w tt (z, (q, r, (o, hl))) (omega arith) (sooner _ _ _ _ (omega arith) (statement x p _ (w + 1) m hs (marked _ p k m t)))))
    statement (choose n r xs) p k i m (e, y, (u, v, (o, (b, h)))) t =
        marked (listed (choices_count xs)) p _ i (put (phrase (chosen r)) p _ i (i + 1 + 1 + 1 + 1) tt (y, (u, v, (o, (b, refl)))) (omega arith) (choosing r xs p _ _ m h (marked _ p k m t)))

    bodied : (x : Body) (b : Block) (p : Place) (k : List Event) (i m : ℕ) → labels_of x b.set ≡ b.labels → is_body kinds x i m → Ended k b p m → Text kinds (events_body x k) (within b ∷ p) i j
    bodied (declare d x) b p k i m e (n, h, (z, hs)) f =
        declaration d b p _ i n h (λ b' u v w. sooner _ _ _ _ (omega arith) (bodied x b' p k (n + 1) m (ap (λ (l : List ℕ). labels_of x l) w ∙ (e ∙ sym v)) hs (λ b'' u' s. f b'' (u' ∙ u) s)))
    bodied (procedure n r x y) b p k i m e (v, (a, (q, z, (o, (u, w, (c, (d, h)))))), (s, hs)) f =
        put (edge (entered n r)) _ _ i (i + 1 + 1 + 1 + 1 + 1 + 1) tt (a, (q, z, (o, (u, w, (c, (d, refl)))))) (omega arith)
        (statement x _ _ _ v h (put (edge (left n)) _ _ v v refl refl (omega arith) (sooner _ _ _ _ (omega arith) (bodied y _ p k (v + 1) m e hs f))))
    bodied (items is) b p k i m e h f = listing is b p k i m e h f

    listing : (is : Items) (b : Block) (p : Place) (k : List Event) (i m : ℕ) → labels_onto is b.set ≡ b.labels → is_items kinds is i m → Ended k b p m
        → Text kinds (events_items is k) (within b ∷ p) i j
    listing ended b p k i m e (y, h) f = sooner k _ _ _ (omega arith) (f b refl e)
    listing (label l is) b p k i m e (q, y, (c, h)) f = put (route (labelled l)) _ _ i (i + 1 + 1) tt (q, y, (c, refl)) (omega arith) (listing is _ p k _ m e h f)
    listing (item x is) b p k i m e (n, h, (s, hs)) f = statement x _ _ i n h (sooner _ _ _ _ (omega arith) (listing is b p k (n + 1) m e hs f))

    choosing : (n : ℕ) (xs : Choices) (p : Place) (k : List Event) (i m : ℕ) → are_choices kinds xs i m → Text kinds k p m j → Text kinds (events_choices n xs k) p i j
    choosing n over p k i m (y, h) t = sooner k _ _ _ (omega arith) t
    choosing n (choice x xs) p k i m (v, h, (s, hs)) t = statement x p _ i v h (marked (ended_choice n) p _ v (sooner _ _ _ _ (omega arith) (choosing n xs p k (v + 1) m hs t)))

-- ── programs ──

pub statement-text : (kinds : List ℕ) (x : Statement) (i j : ℕ) → is_statement kinds x i j → Text kinds (events_of x) [] i j
unfolding Text
statement-text kinds x i j h = statement kinds j x [] [] i j h (omega arith)

pub program-text : (kinds : List ℕ) (x : Statement) (i j : ℕ) → is_program kinds x i j → Text kinds (events_of x) [] i j
unfolding is_program Text
program-text kinds x i j (m, (e, h), (a, q)) = statement kinds j x [] [] i m h (omega arith)

-- each event of a text stands where it does
pub text-stands : (kinds : List ℕ) (es : List Event) (p : Place) (i j : ℕ) → Text kinds es p i j → Along (λ e p. Stands kinds e p 0) es p
unfolding Text Along
text-stands kinds [] p i j h = tt
text-stands kinds (e ∷ es) p i j (s, h) = (record { fits = s.fits; from = s.from; to = s.to; later = omega arith; rises = s.rises; is = s.is }, text-stands kinds es (after e p) s.to j h)

pub text-rises : (kinds : List ℕ) (es : List Event) (p : Place) (i j : ℕ) → Text kinds es p i j → i ≤ j
unfolding Text
text-rises kinds [] p i j h = h
text-rises kinds (e ∷ es) p i j (s, h) = (let l = s.later in let r = s.rises in let t = text-rises kinds es (after e p) s.to j h in omega arith)

-- ── parts of a text ──

text-append : (kinds : List ℕ) (es k : List Event) (p : Place) (i j : ℕ) → Text kinds (es ++ k) p i j → (m : ℕ) × Text kinds es p i m × Text kinds k (after_all es p) m j
unfolding Text after_all
text-append kinds [] k p i j h = (i, omega arith, h)
text-append kinds (e ∷ es) k p i j (s, h) = let (m, a, b) = text-append kinds es k (after e p) s.to j h in (m, (s, a), b)

-- of what comes first, and of what follows it
pub text-parts : (kinds : List ℕ) (out : List Event → List Event) → Appends out → (k : List Event) (p : Place) (i j : ℕ) → Text kinds (out k) p i j
    → (m : ℕ) × Text kinds (out []) p i m × Text kinds k (after_all (out []) p) m j
text-parts kinds out a k p i j h = text-append kinds (out []) k p i j (subst (λ (es : List Event). Text kinds es p i j) (a [] k) h)

-- ── tables by token ──

-- A pass that keeps a table and sets in it at each event only what stands at the event's own tokens: what it sets stays to the end of the text (`settles`).
module _ {S : Type 0} (kinds : List ℕ) (f : Event → Place → S → S) (table : S → List ℕ)
    (size : (e : Event) (p : Place) (s : S) → length (table (f e p s)) ≡ length (table s))
    (keeps : (e : Event) (p : Place) (s : S) (i : ℕ) → Stands kinds e p i → (u : ℕ) → u < i → get_or (table (f e p s)) u 0 ≡ get_or (table s) u 0) where
  pub size-along : (es : List Event) (p : Place) (s : S) → length (table (along f es p s)) ≡ length (table s)
  unfolding along
  size-along [] p s = refl
  size-along (e ∷ es) p s = size-along es (after e p) (f e p s) ∙ size e p s

  pub stays-along : (es : List Event) (p : Place) (i j : ℕ) → Text kinds es p i j → (s : S) (u : ℕ) → u < i → get_or (table (along f es p s)) u 0 ≡ get_or (table s) u 0
  unfolding Text along
  stays-along [] p i j h s u l = refl
  stays-along (e ∷ es) p i j (x, h) s u l = stays-along es (after e p) x.to j h (f e p s) u (omega arith) ∙ keeps e p s i x u l

  -- so what each event tells of a table that is the same before its end, the finished table has
  pub settles :
      (P : List ℕ → Event → Place → Type 0)
      → ((e : Event) (p : Place) (s : S) (final : List ℕ) (i : ℕ) (x : Stands kinds e p i) → x.to ≤ length (table s)
      → ((u : ℕ) → u < x.to → get_or final u 0 ≡ get_or (table (f e p s)) u 0) → P final e p)
      → (es : List Event) (p : Place) (i j : ℕ) → Text kinds es p i j → (s : S) → j ≤ length (table s) → Along (P (table (along f es p s))) es p
  unfolding Text along Along
  settles P one [] p i j h s w = tt
  settles P one (e ∷ es) p i j (x, h) s w =
      let up = text-rises kinds es (after e p) x.to j h in (
        one e p s (table (along f es (after e p) (f e p s))) i x (omega arith) (stays-along es (after e p) x.to j h (f e p s)),
        settles P one es (after e p) x.to j h (f e p s) (omega (arith, size e p s)),
      )
