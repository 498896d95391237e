-- From every instruction of a safe text control goes to instructions that were written: `flow`, and `program-flows` for the whole program.
use mathlib.Core.Path.{◌≡◌, refl, sym, ap, subst, ◌∙◌}
use mathlib.Core.Logic.{◌⊎◌, inl, inr}
use mathlib.Core.List.{List, [], ◌∷◌, ◌++◌, map, map-append}
use mathlib.Core.Bool.{Bool, true, false}
use mathlib.Core.Option.{some}
use Prim.Native.Nat.{ℕ, zero, suc, ◌+◌, ◌*◌, ◌≤◌, ◌<◌}
use native.Mathlib.Omega.{arith}
use lib.Dec.{eqb}
use borrow.Author.Tests.{eqb-false}
use Rattle.base.specs.Choose.{whether◌then◌else◌}
use Rattle.base.specs.Lists.{◌∈◌, ◌⊆◌, All}
use Rattle.base.proofs.Lists.{all_both, all_first, all-last, all_map, all_of, some_is, none-some}
use Rattle.static_rules.specs.Registers.{Registers}
use Rattle.static_rules.specs.Meaning.{Based}
use Rattle.static_rules.specs.Meanings.{data_base}
use Rattle.static_rules.specs.Rules.{protected}
use Rattle.translation.specs.Instructions.{element, literal, entry, Instruction, rr, rx, address, immediate, shift, branch, link, indexed, stop, size, sizes, opcode, add_row, always}
use Rattle.translation.specs.Core.{Core, skip, run, seq, mark, scope, jump, call, procedure, base, when, either, loop, count, select, Arms, last, arm}
use Rattle.translation.specs.Code.{Mark, arm_count, head_size, own, mark_at, size_of, table}
use Rattle.translation.specs.Layout.{Layout}
use Rattle.join.specs.Points.{Within, Point, start, with_base, in_body, procedure_of, Case, choices, first_of, end_of, statement_at, Knows, nothing, compared, at_most, tested, between, scaled, Placed, program_segment, here-knowing, here, line, head, placed, placed_arms, program}
use Rattle.join.proofs.Safe.{KeptBase, Guarded, Plain, Basing, Routine, first, Callable, Choosing, labels_of, Safe, SafeArms}
use Rattle.join.proofs.Chosen.{not-above, numbered}
use Rattle.join.proofs.Flows.{Good, Enters, Calls, Onward, Entry, Goes, Flows}

abbrev names_of : List Mark → List ℕ
names_of ms = map (λ (m : Mark). m.name) ms

-- ── the labels of a block: their names do not depend on where it starts ──

own-names : (c : Core) (p q : ℕ) → names_of (own c p) ≡ names_of (own c q)
unfolding own
own-names skip p q = refl
own-names (run is) p q = refl
own-names (seq a b) p q = own-names b (p + size_of a) (q + size_of a)
own-names (mark x c) p q = ap (λ (l : List ℕ). x ∷ l) (own-names c p q)
own-names (scope c) p q = refl
own-names (jump x) p q = refl
own-names (call x r) p q = refl
own-names (procedure x r a b) p q = refl
own-names (base r k c) p q = refl
own-names (when is m c) p q = refl
own-names (either is m a b) p q = refl
own-names (loop is m c) p q = refl
own-names (count is cs m r v c) p q = refl
own-names (select r xs) p q = refl

names_in : (c : Core) (p : ℕ) (ls : List Mark) → labels_of c ++ names_of ls ≡ names_of (own c p ++ ls)
names_in c p ls = ap (λ (l : List ℕ). l ++ names_of ls) (own-names c 0 p) ∙ sym (map-append _ (own c p) ls)

-- ── places to which control may go ──

module _ (w : List Placed) where
  abbrev Reached : ℕ → Point → Type 0
  Reached a q = Good w program_segment a q nothing

  abbrev Mine : List Placed → Type 0
  Mine xs = All (λ (x : Placed). x ∈ w) xs

  -- the same place, said otherwise
  at_same : (a b : ℕ) (q : Point) → a ≡ b → Reached a q → Reached b q
  at_same a b q e g = record { to = g.to; one = g.one; segment = g.segment; at = g.at ∙ e; under = g.under; knows = g.knows }

  at-knowing : (p : ℕ) (i : Instruction) (q : Point) (k : Knows) → here-knowing p i q k ∈ w → Good w program_segment p q k
  at-knowing p i q k h = record { to = here-knowing p i q k; one = h; segment = refl; at = refl; under = record { bases = λ b k. k; within = refl }; knows = refl }

  at_here : (p : ℕ) (i : Instruction) (q : Point) → here p i q ∈ w → Reached p q
  at_here p i q h = at-knowing p i q nothing h

  -- with a base more
  at-based : (a : ℕ) (q : Point) (r k : ℕ) → Reached a q → Reached a (with_base q r k)
  at-based a q r k g =
      record { to = g.to; one = g.one; segment = g.segment; at = g.at; under = record { bases = λ b h. inr (g.under.bases b h); within = g.under.within }; knows = g.knows }

  -- the first of instructions one after the other, or what follows them
  enter-line : (is : List Instruction) (p : ℕ) (q : Point) → Mine (line is p q) → Reached (p + sizes is) q → Reached p q
  enter-line [] p q m g = at_same _ p q (omega arith) g
  enter-line (i ∷ is) p q m g = at_here p i q m.0

  -- the first of such and of an instruction behind them
  enter-before : (is : List Instruction) (i : Instruction) (xs : List Placed) (p : ℕ) (q : Point) → Mine (line is p q ++ (here (p + sizes is) i q ∷ xs)) → Reached p q
  enter-before is i xs p q m =
      let after = here (p + sizes is) i q ∷ xs in
      enter-line is p q (all_first _ (line is p q) after m) (at_here (p + sizes is) i q (all-last _ (line is p q) after m).0)

  enter-both : (is cs : List Instruction) (i : Instruction) (xs : List Placed) (p : ℕ) (q : Point)
      → Mine (line is p q ++ (line cs (p + sizes is) q ++ (here (p + (sizes is + sizes cs)) i q ∷ xs))) → Reached p q
  enter-both is cs i xs p q m =
      let at = p + (sizes is + sizes cs) in
      let after = here at i q ∷ xs in
      let n = all-last _ (line is p q) (line cs (p + sizes is) q ++ after) m in
      enter-line is p q (all_first _ (line is p q) (line cs (p + sizes is) q ++ after) m)
      (enter-line cs (p + sizes is) q (all_first _ (line cs (p + sizes is) q) after n)
      (at_same at _ q (omega arith) (at_here at i q (all-last _ (line cs (p + sizes is) q) after n).0)))

  module _ (written : List Registers) where
    -- the first instruction of a text, or what follows it
    entering : (ls ps : List Mark) (c : Core) (p : ℕ) (q : Point) → Mine (placed written ls ps c p q) → Reached (p + size_of c) q → Reached p q
    unfolding placed size_of
    entering ls ps skip p q m g = at_same _ p q (omega arith) g
    entering ls ps (run is) p q m g = enter-line is p q m g
    entering ls ps (seq a b) p q m g =
        let x = placed written ls ps a p q in
        let y = placed written ls ps b (p + size_of a) q in
        entering ls ps a p q (all_first _ x y m) (entering ls ps b (p + size_of a) q (all-last _ x y m) (at_same _ _ q (omega arith) g))
    entering ls ps (mark l c) p q m g = entering ls ps c p q m g
    entering ls ps (scope c) p q m g = entering (own c p ++ ls) ps c p q m g
    entering ls ps (jump l) p q m g = at_here p _ q m.0
    entering ls ps (call n r) p q m g = at_here p _ q m.0
    entering ls ps (procedure n r a b) p q m g = at_here p _ q m.0
    entering ls ps (base r k c) p q m g = at_here p _ q m.0
    entering ls ps (when is k c) p q m g = enter-before is _ _ p q m
    entering ls ps (either is k a b) p q m g = enter-before is _ _ p q m
    entering ls ps (loop is k c) p q m g = enter-before is _ _ p q m
    entering ls ps (count is cs k r v c) p q m g = enter-both is cs _ _ p q m
    entering ls ps (select r xs) p q m g = at_here p _ q m.0

    -- ── labels ──

    mark-reached : (q : Point) (ls : List Mark) (n : ℕ) → n ∈ names_of ls → All (λ (m : Mark). Reached m.at q) ls → Reached (mark_at ls n) q
    unfolding mark_at
    mark-reached q [] n h a = absurd h
    mark-reached q (m ∷ ls) n h a = go (eqb m.name n) refl h (λ k. mark-reached q ls n k a.1)
      where
        go : (b : Bool) → eqb m.name n ≡ b → (n ≡ m.name) ⊎ (n ∈ names_of ls) → (n ∈ names_of ls → Reached (mark_at ls n) q)
            → Reached (whether b then m.at else mark_at ls n) q
        go true e k f = a.0
        go false e (inl k) f = absurd (eqb-false _ _ e (sym k))
        go false e (inr k) f = f k

    own-reached : (ls ps : List Mark) (c : Core) (p : ℕ) (q : Point) → Mine (placed written ls ps c p q) → Reached (p + size_of c) q
        → All (λ (m : Mark). Reached m.at q) (own c p)
    unfolding placed size_of own
    own-reached ls ps skip p q m g = tt
    own-reached ls ps (run is) p q m g = tt
    own-reached ls ps (seq a b) p q m g =
        own-reached ls ps b (p + size_of a) q (all-last _ (placed written ls ps a p q) (placed written ls ps b (p + size_of a) q) m) (at_same _ _ q (omega arith) g)
    own-reached ls ps (mark x c) p q m g = (entering ls ps c p q m g, own-reached ls ps c p q m g)
    own-reached ls ps (scope c) p q m g = tt
    own-reached ls ps (jump x) p q m g = tt
    own-reached ls ps (call x r) p q m g = tt
    own-reached ls ps (procedure x r a b) p q m g = tt
    own-reached ls ps (base r k c) p q m g = tt
    own-reached ls ps (when is k c) p q m g = tt
    own-reached ls ps (either is k a b) p q m g = tt
    own-reached ls ps (loop is k c) p q m g = tt
    own-reached ls ps (count is cs k r v c) p q m g = tt
    own-reached ls ps (select r xs) p q m g = tt

    -- ── procedures ──

    -- the marks of procedures, and the procedures themselves, in the same order: at each mark stands its body
    abbrev Marked : List Mark → List Routine → Type 0
    Marked [] [] = Unit {0}
    Marked [] (g ∷ gs) = ⊥
    Marked (m ∷ ps) [] = ⊥
    Marked (m ∷ ps) (g ∷ gs) = (m.name ≡ g.within.name) × Enters w m.at g.within g.bases × Marked ps gs

    routine-found : (P : Routine → Type 0) (ps : List Mark) (gs : List Routine) (n : ℕ) (g : Routine) → Marked ps gs → All P gs → first n gs ≡ some g
        → Enters w (mark_at ps n) g.within g.bases × P g
    unfolding mark_at first
    routine-found P [] [] n g a b e = absurd (none-some g e)
    routine-found P [] (h ∷ gs) n g a b e = absurd a
    routine-found P (m ∷ ps) [] n g a b e = absurd a
    routine-found P (m ∷ ps) (h ∷ gs) n g a b e = go (eqb h.within.name n) refl (λ f. routine-found P ps gs n g a.2 b.1 f)
      where
        at_first : eqb h.within.name n ≡ true → h ≡ g
        at_first t = some_is h g (rw t at e)

        go : (t : Bool) → eqb h.within.name n ≡ t → (first n gs ≡ some g → Enters w (mark_at ps n) g.within g.bases × P g)
            → Enters w (whether eqb m.name n then m.at else mark_at ps n) g.within g.bases × P g
        go true t f = rw (a.0, t) (subst (λ (x : Routine). Enters w m.at x.within x.bases × P x) (at_first t) (a.1, b.0))
        go false t f = rw (a.0, t) (f (rw t at e))

    module _ (n : ℕ) (l : Layout) (e : ℕ) where
      -- a procedure that may be called from q
      abbrev Known : Point → Routine → Type 0
      Known q g = (g.bases ⊆ q.bases) × (g.within.return < 16) × (g.within.segment ≡ program_segment)

      -- the labels ls, the procedures ps, which are gs, and the point q
      record InForce (ls ps : List Mark) (gs : List Routine) (q : Point) : Type 0 where
        guarded : Guarded n q
        labels : All (λ (m : Mark). Reached m.at q) ls
        marked : Marked ps gs
        known : All (Known q) gs

      -- in a block
      in_scope : (ls ps : List Mark) (gs : List Routine) (q : Point) (c : Core) (p : ℕ) → InForce ls ps gs q → Mine (placed written (own c p ++ ls) ps c p q)
          → Reached (p + size_of c) q → InForce (own c p ++ ls) ps gs q
      in_scope ls ps gs q c p x m g =
          record { guarded = x.guarded; labels = all_both _ (own c p) ls (own-reached (own c p ++ ls) ps c p q m g) x.labels; marked = x.marked; known = x.known }

      guarded-body : (q : Point) (v : Within) → Guarded n q → 0 < v.return → v.return < 16 → Guarded n (in_body q v)
      guarded-body q v d low small = record {
        fifteen = inr d.fifteen;
        fourteen = d.fourteen;
        bases = λ b h. let k = d.bases b h in (inr k.0, k.1, k.2, k.3, k.4);
        return = λ u i. subst (λ (z : Within). (z.return ∈ (v.return ∷ q.kept)) × (0 < z.return) × (z.return < 16)) (some_is v u i) (inl refl, low, small);
      }

      -- in the body of a procedure, where no label is known
      in-body : (ls ps : List Mark) (gs : List Routine) (q : Point) (v : Within) → InForce ls ps gs q → 0 < v.return → v.return < 16 → InForce [] ps gs (in_body q v)
      in-body ls ps gs q v x low small = record { guarded = guarded-body q v x.guarded low small; labels = tt; marked = x.marked; known = x.known }

      -- with a procedure more
      with-routine : (ls ps : List Mark) (gs : List Routine) (q : Point) (m : Mark) (v : Within) → InForce ls ps gs q → m.name ≡ v.name → Enters w m.at v q.bases
          → v.return < 16 → v.segment ≡ program_segment → InForce ls (m ∷ ps) (record { within = v; bases = q.bases } ∷ gs) q
      with-routine ls ps gs q m v x i h small s =
          record { guarded = x.guarded; labels = x.labels; marked = (i, h, x.marked); known = ((λ b k. k, small, s), x.known) }

      guarded-base : (q : Point) (r k : ℕ) → Guarded n q → Basing n q r k → Guarded n (with_base q r k)
      guarded-base q r k d h = record {
        fifteen = inr d.fifteen;
        fourteen = inr d.fourteen;
        bases = λ b i. cases b i;
        return = λ u i. let y = d.return u i in (inr y.0, y.1, y.2);
      }
        where
          cases : (b : Based) → (b ≡ record { register = r; segment = k }) ⊎ (b ∈ q.bases) → KeptBase n (r ∷ q.kept) b
          cases b (inl i) = subst (KeptBase n (r ∷ q.kept)) (sym i) (inl refl, h.positive, h.small, h.data-segment, h.exists)
          cases b (inr i) = let y = d.bases b i in (inr y.0, y.1, y.2, y.3, y.4)

      -- after a base declaration
      with-base : (ls ps : List Mark) (gs : List Routine) (q : Point) (r k : ℕ) → InForce ls ps gs q → Basing n q r k → InForce ls ps gs (with_base q r k)
      with-base ls ps gs q r k x h = record {
        guarded = guarded-base q r k x.guarded h;
        labels = all_map _ _ ls (λ m g. at-based m.at q r k g) x.labels;
        marked = x.marked;
        known = all_map (Known q) (Known (with_base q r k)) gs (λ g y. (λ b i. inr (y.0 b i), y.1, y.2)) x.known;
      }

      -- ── instructions one after the other ──

      abbrev FlowsOn : Placed → Type 0
      FlowsOn x = Flows n l e w x

      on-to : (p : ℕ) (i : Instruction) (q : Point) → Plain l q i → Reached (p + size i) q → Onward l w (here p i q)
      on-to p i q h g = record { plain = h; after = nothing; next = g; gains = tt }

      goes_on_lem : (p : ℕ) (i : Instruction) (q : Point) → Onward l w (here p i q) → Goes n l e w (here p i q) i
      goes_on_lem p (rr op r s) q u = inr u
      goes_on_lem p (rx op r (element c o x)) q u = u
      goes_on_lem p (rx op r (literal v)) q u = u
      goes_on_lem p (rx op r (entry k)) q u = absurd u.plain.fits.1
      goes_on_lem p (address r a) q u = u
      goes_on_lem p (immediate op v a) q u = u
      goes_on_lem p (shift op r s d) q u = u
      goes_on_lem p (branch m t) q u = absurd u.plain.fits
      goes_on_lem p (link r t) q u = absurd u.plain.fits
      goes_on_lem p (indexed r t) q u = absurd u.plain.fits
      goes_on_lem p stop q u = absurd u.plain.fits

      line-flow : (is : List Instruction) (p : ℕ) (q : Point) → Guarded n q → All (Plain l q) is → Mine (line is p q) → Reached (p + sizes is) q → All FlowsOn (line is p q)
      line-flow [] p q d h m g = tt
      line-flow (i ∷ is) p q d h m g =
          let next : Reached ((p + size i) + sizes is) q = at_same _ _ q (omega arith) g in
          (record { guarded = d; goes = goes_on_lem p i q (on-to p i q h.0 (enter-line is (p + size i) q m.1 next)) }, line-flow is (p + size i) q d h.1 m.1 next)

      -- a branch that is always taken, and one that may be
      goes_to : (p t : ℕ) (q : Point) → Guarded n q → Reached t q → FlowsOn (here p (branch always t) q)
      goes_to p t q d g = record { guarded = d; goes = record { to = g; after = nothing; next = inl refl; gains = λ c b a k. tt } }

      branches : (p m t : ℕ) (q : Point) → Guarded n q → Reached t q → Reached (p + 4) q → FlowsOn (here p (branch m t) q)
      branches p m t q d g h = record { guarded = d; goes = record { to = g; after = nothing; next = inr h; gains = λ c b a k. tt } }

      calls : (ls ps : List Mark) (gs : List Routine) (q : Point) (x r p : ℕ) → InForce ls ps gs q → Callable gs q x r → Reached (p + 4) q
          → Calls w (here p (link r (mark_at ps x)) q) r (mark_at ps x)
      calls ls ps gs q x r p f c g =
          let h = routine-found (Known q) ps gs x c.g f.marked f.known c.found in
          let b = h.0 in
          let k = h.1 in
          record {
            v = c.g.within;
            return = c.return;
            small = subst (λ (y : ℕ). y < 16) c.return k.1;
            segment = k.2;
            body = record { to = b.to; one = b.one; segment = b.segment; at = b.at; within = b.within; bases = λ y i. k.0 y (b.bases y i); knows = b.knows };
            spared = c.spared;
            counted = c.counted;
            back = g;
          }

      enters : (a : ℕ) (q : Point) (v : Within) → v.segment ≡ program_segment → Reached a (in_body q v) → Enters w a v q.bases
      enters a q v s g = record { to = g.to; one = g.one; segment = g.segment ∙ sym s; at = g.at; within = g.under.within; bases = g.under.bases; knows = g.knows }

      -- ── a CASE ──

      -- the table's entry with a number, of the table that begins four bytes behind t
      entry_at : (xs : Arms) (p t : ℕ) (q : Point) (j : ℕ) → 1 ≤ j → j ≤ arm_count xs → Mine (line (table xs p) (t + 4) q)
          → Entry w program_segment (t + 4 * j) q (statement_at xs j p)
      unfolding table at_same at_here at-knowing
      entry_at last p t q j low high m = absurd (omega arith)
      entry_at (arm c xs) p t q zero low high m = absurd (omega arith)
      entry_at (arm c xs) p t q (suc zero) low high m = record { good = at_same (t + 4) _ q (omega arith) (at_here (t + 4) _ q m.0); branches = refl }
      entry_at (arm c xs) p t q (suc (suc j)) low high m =
          let r = entry_at xs (p + (size_of c + 4)) (t + 4) q (suc j) (omega arith) (omega arith) m.1 in
          record { good = at_same _ _ q (omega arith) r.good; branches = r.branches }

      -- in its head control goes on in order, or to the end
      head-flow : (k : Case) (q : Point) → Guarded n q → Choosing l q k.register (choices k) → Mine (head k q) → Mine (line (table k.arms (first_of k)) (k.at + 18 + 4) q)
          → Reached (end_of k) q → All FlowsOn (head k q)
      head-flow k q d f m t g = (
        record { guarded = d; goes = record { plain = f.compare; after = compared k; next = at-knowing _ _ q (compared k) m.1.0; gains = refl } },
        (
          record { guarded = d; goes = record { to = g; after = at_most k; next = inr (at-knowing _ _ q (at_most k) m.1.1.0); gains = λ c b a h. not-above k c a h } },
          (
            record { guarded = d; goes = inr (record { plain = f.test; after = tested k; next = at-knowing _ _ q (tested k) m.1.1.1.0; gains = (refl, refl, f.small) }) },
            (
              record { guarded = d; goes = record { to = g; after = between k; next = inr (at-knowing _ _ q (between k) m.1.1.1.1.0); gains = λ c b a h. numbered k c (omega arith) a h } },
              (
                record { guarded = d; goes = record { plain = f.scale; after = scaled k; next = at-knowing _ _ q (scaled k) m.1.1.1.1.1.0; gains = (refl, refl, f.small) } },
                (
                  record {
                    guarded = d;
                    goes = record {
                      case = k;
                      knows = refl;
                      register = refl;
                      positive = f.positive;
                      small = f.small;
                      before = omega arith;
                      entries = λ j low high. entry_at k.arms (first_of k) (k.at + 18) q j low high t;
                    };
                  },
                  tt,
                ),
              ),
            ),
          ),
        ),
      )

      -- a table leads to the statements
      table-flow : (ls ps : List Mark) (xs : Arms) (p end at : ℕ) (q : Point) → Guarded n q → Mine (placed_arms written ls ps xs p end q) → All FlowsOn (line (table xs p) at q)
      unfolding table placed
      table-flow ls ps last p end at q d m = tt
      table-flow ls ps (arm c xs) p end at q d m =
          let la = placed written ls ps c p q in
          let lb = here (p + size_of c) (branch always end) q ∷ placed_arms written ls ps xs (p + (size_of c + 4)) end q in
          let mb = all-last _ la lb m in (
            goes_to at p q d (entering ls ps c p q (all_first _ la lb m) (at_here (p + size_of c) _ q mb.0)),
            table-flow ls ps xs (p + (size_of c + 4)) end (at + 4) q d mb.1,
          )

      -- ── a safe text at q, from p on, with what follows it ──

      mutual
        unfolding placed size_of Safe

        flow : (ls ps : List Mark) (gs : List Routine) (c : Core) (p : ℕ) (q : Point) → InForce ls ps gs q → Safe written n l (names_of ls) gs q c
            → Mine (placed written ls ps c p q) → Reached (p + size_of c) q → All FlowsOn (placed written ls ps c p q)
        flow ls ps gs skip p q x f m g = tt
        flow ls ps gs (run is) p q x f m g = line-flow is p q x.guarded f m g
        flow ls ps gs (seq a b) p q x f m g =
            let la = placed written ls ps a p q in
            let lb = placed written ls ps b (p + size_of a) q in
            let mb = all-last _ la lb m in
            let gb : Reached ((p + size_of a) + size_of b) q = at_same _ _ q (omega arith) g in
            all_both _ la lb (flow ls ps gs a p q x f.0 (all_first _ la lb m) (entering ls ps b (p + size_of a) q mb gb)) (flow ls ps gs b (p + size_of a) q x f.1 mb gb)
        flow ls ps gs (mark y c) p q x f m g = flow ls ps gs c p q x f m g
        flow ls ps gs (scope c) p q x f m g =
            flow (own c p ++ ls) ps gs c p q (in_scope ls ps gs q c p x m g) (subst (λ (ns : List ℕ). Safe written n l ns gs q c) (names_in c p ls) f) m g
        flow ls ps gs (jump y) p q x f m g = (goes_to p (mark_at ls y) q x.guarded (mark-reached q ls y f x.labels), tt)
        flow ls ps gs (call y r) p q x f m g = (record { guarded = x.guarded; goes = calls ls ps gs q y r p x f g }, tt)
        flow ls ps gs (procedure y r a b) p q x f m g =
            let v = procedure_of written y r in
            let inner = in_body q v in
            let at : Mark = record { name = y; at = p + 4 } in
            let known : List Routine = record { within = v; bases = q.bases } ∷ gs in
            let past = p + (4 + (size_of a + 2)) in
            let last = here (p + (4 + size_of a)) (rr 0x07 15 r) inner in
            let la = placed written [] (at ∷ ps) a (p + 4) inner in
            let lb = last ∷ placed written ls (at ∷ ps) b past q in
            let ma = all_first _ la lb m.1 in
            let mb = all-last _ la lb m.1 in
            let ga : Reached ((p + 4) + size_of a) inner = at_same _ _ inner (omega arith) (at_here (p + (4 + size_of a)) (rr 0x07 15 r) inner mb.0) in
            let gb : Reached (past + size_of b) q = at_same _ _ q (omega arith) g in
            let y1 = with-routine ls ps gs q at v x refl (enters (p + 4) q v refl (entering [] (at ∷ ps) a (p + 4) inner ma ga)) f.0.1 refl in
            let xa = in-body ls (at ∷ ps) known q v y1 f.0.0 f.0.1 in (
              goes_to p past q x.guarded (entering ls (at ∷ ps) b past q mb.1 gb),
              all_both _ la lb (flow [] (at ∷ ps) known a (p + 4) inner xa f.1 ma ga) (
                record { guarded = xa.guarded; goes = inl (record { branches = refl; taken = refl; v = v; within = refl; segment = refl; return = refl }) },
                flow ls (at ∷ ps) known b past q y1 f.2 mb.1 gb,
              ),
            )
        flow ls ps gs (base r k c) p q x f m g =
            let inner = with_base q r k in
            let gc : Reached ((p + 4) + size_of c) inner = at-based _ q r k (at_same _ _ q (omega arith) g) in (
              record { guarded = x.guarded; goes = record { loads = refl; basing = f.0; next = entering ls ps c (p + 4) inner m.1 gc } },
              flow ls ps gs c (p + 4) inner (with-base ls ps gs q r k x f.0) f.1 m.1 gc,
            )
        flow ls ps gs (when is k c) p q x f m g =
            let pc = p + (sizes is + 4) in
            let exit = branch k (p + (sizes is + (4 + size_of c))) in
            let lc = here (p + sizes is) exit q ∷ placed written ls ps c pc q in
            let mc = all-last _ (line is p q) lc m in
            let gc : Reached (pc + size_of c) q = at_same _ _ q (omega arith) g in
            all_both _ (line is p q) lc (line-flow is p q x.guarded f.0 (all_first _ (line is p q) lc m) (at_here (p + sizes is) exit q mc.0)) (
              branches (p + sizes is) k _ q x.guarded g (at_same _ _ q (omega arith) (entering ls ps c pc q mc.1 gc)),
              flow ls ps gs c pc q x f.1 mc.1 gc,
            )
        flow ls ps gs (either is k a b) p q x f m g =
            let pa = p + (sizes is + 4) in
            let pb = p + (sizes is + (4 + (size_of a + 4))) in
            let exit = branch k pb in
            let over = branch always (p + (sizes is + (4 + (size_of a + (4 + size_of b))))) in
            let la = placed written ls ps a pa q in
            let lb = here (p + (sizes is + (4 + size_of a))) over q ∷ placed written ls ps b pb q in
            let lc = here (p + sizes is) exit q ∷ (la ++ lb) in
            let mc = all-last _ (line is p q) lc m in
            let ma = all_first _ la lb mc.1 in
            let mb = all-last _ la lb mc.1 in
            let ga : Reached (pa + size_of a) q = at_same _ _ q (omega arith) (at_here (p + (sizes is + (4 + size_of a))) over q mb.0) in
            let gb : Reached (pb + size_of b) q = at_same _ _ q (omega arith) g in
            all_both _ (line is p q) lc (line-flow is p q x.guarded f.0 (all_first _ (line is p q) lc m) (at_here (p + sizes is) exit q mc.0)) (
              branches (p + sizes is) k pb q x.guarded (entering ls ps b pb q mb.1 gb) (at_same _ _ q (omega arith) (entering ls ps a pa q ma ga)),
              all_both _ la lb (flow ls ps gs a pa q x f.1 ma ga) (goes_to _ _ q x.guarded g, flow ls ps gs b pb q x f.2 mb.1 gb),
            )
        flow ls ps gs (loop is k c) p q x f m g =
            let pc = p + (sizes is + 4) in
            let exit = branch k (p + (sizes is + (4 + (size_of c + 4)))) in
            let back = here (p + (sizes is + (4 + size_of c))) (branch always p) q in
            let lb = placed written ls ps c pc q in
            let lc = here (p + sizes is) exit q ∷ (lb ++ (back ∷ [])) in
            let mi = all_first _ (line is p q) lc m in
            let mc = all-last _ (line is p q) lc m in
            let mb = all_first _ lb (back ∷ []) mc.1 in
            let me = all-last _ lb (back ∷ []) mc.1 in
            let gc : Reached (pc + size_of c) q = at_same _ _ q (omega arith) (at_here (p + (sizes is + (4 + size_of c))) (branch always p) q me.0) in
            let gi = at_here (p + sizes is) exit q mc.0 in
            all_both _ (line is p q) lc (line-flow is p q x.guarded f.0 mi gi) (
              branches (p + sizes is) k _ q x.guarded g (at_same _ _ q (omega arith) (entering ls ps c pc q mb gc)),
              all_both _ lb (back ∷ []) (flow ls ps gs c pc q x f.1 mb gc) (goes_to _ p q x.guarded (enter-line is p q mi gi), tt),
            )
        flow ls ps gs (count is cs k r v c) p q x f m g =
            let pc = p + (sizes is + (sizes cs + 4)) in
            let exit = branch k (p + (sizes is + (sizes cs + (4 + (size_of c + 8))))) in
            let step = rx (opcode add_row 1) r (literal v) in
            let stepped = p + (sizes is + (sizes cs + (8 + size_of c))) in
            let after : List Placed = here (p + (sizes is + (sizes cs + (4 + size_of c)))) step q ∷ here stepped (branch always (p + sizes is)) q ∷ [] in
            let lb = placed written ls ps c pc q in
            let lc = here (p + (sizes is + sizes cs)) exit q ∷ (lb ++ after) in
            let ld = line cs (p + sizes is) q ++ lc in
            let md = all-last _ (line is p q) ld m in
            let ms = all_first _ (line cs (p + sizes is) q) lc md in
            let mc = all-last _ (line cs (p + sizes is) q) lc md in
            let mb = all_first _ lb after mc.1 in
            let me = all-last _ lb after mc.1 in
            let gc : Reached (pc + size_of c) q = at_same _ _ q (omega arith) (at_here (p + (sizes is + (sizes cs + (4 + size_of c)))) step q me.0) in
            let gj : Reached ((p + sizes is) + sizes cs) q = at_same _ _ q (omega arith) (at_here (p + (sizes is + sizes cs)) exit q mc.0) in
            let compare = enter-line cs (p + sizes is) q ms gj in
            all_both _ (line is p q) ld (line-flow is p q x.guarded f.0 (all_first _ (line is p q) ld m) compare)
            (all_both _ (line cs (p + sizes is) q) lc (line-flow cs (p + sizes is) q x.guarded f.1 ms gj) (
              branches _ k _ q x.guarded g (at_same _ _ q (omega arith) (entering ls ps c pc q mb gc)),
              all_both _ lb after (flow ls ps gs c pc q x f.3 mb gc) (
                record { guarded = x.guarded; goes = on-to _ step q f.2 (at_same _ _ q (omega arith) (at_here stepped (branch always (p + sizes is)) q me.1.0)) },
                (goes_to stepped (p + sizes is) q x.guarded compare, tt),
              ),
            ))
        flow ls ps gs (select r xs) p q x f m g =
            let k : Case = record { register = r; arms = xs; at = p } in
            let lt = line (table xs (first_of k)) (p + head_size 0) q in
            let la = placed_arms written ls ps xs (first_of k) (end_of k) q in
            let mr = all-last _ (head k q) (lt ++ la) m in
            let ma = all-last _ lt la mr in
            let e : p + head_size 0 ≡ p + 18 + 4 = omega arith in
            let mt : Mine (line (table xs (first_of k)) (p + 18 + 4) q) = subst (λ (a : ℕ). Mine (line (table xs (first_of k)) a q)) e (all_first _ lt la mr) in
            all_both _ (head k q) (lt ++ la) (head-flow k q x.guarded f.0 (all_first _ (head k q) (lt ++ la) m) mt g)
            (all_both _ lt la (table-flow ls ps xs (first_of k) (end_of k) (p + head_size 0) q x.guarded ma) (flow-arms ls ps gs xs (first_of k) (end_of k) q x f.1 ma g))

        flow-arms : (ls ps : List Mark) (gs : List Routine) (xs : Arms) (p end : ℕ) (q : Point) → InForce ls ps gs q → SafeArms written n l (names_of ls) gs q xs
            → Mine (placed_arms written ls ps xs p end q) → Reached end q → All FlowsOn (placed_arms written ls ps xs p end q)
        flow-arms ls ps gs last p end q x f m g = tt
        flow-arms ls ps gs (arm c xs) p end q x f m g =
            let la = placed written ls ps c p q in
            let lb = here (p + size_of c) (branch always end) q ∷ placed_arms written ls ps xs (p + (size_of c + 4)) end q in
            let mb = all-last _ la lb m in
            all_both _ la lb (flow ls ps gs c p q x f.0 (all_first _ la lb m) (at_here (p + size_of c) _ q mb.0))
            (goes_to (p + size_of c) end q x.guarded g, flow-arms ls ps gs xs (p + (size_of c + 4)) end q x f.1 mb.1 g)

-- ── the whole program ──

module _ (written : List Registers) (n : ℕ) (l : Layout) (c : Core) where
  all-mine : All (λ (x : Placed). x ∈ program written c) (program written c)
  all-mine = all_of _ (program written c) (λ x h. h)

  last-reached : Good (program written c) program_segment (0 + size_of c) start nothing
  unfolding program
  last-reached =
      let w = program written c in
      at_same w (size_of c) _ start (omega arith) (at_here w (size_of c) stop start (all-last _ (placed written [] [] c 0 start) (here (size_of c) stop start ∷ []) all-mine).0)

  pub guarded-start : Guarded n start
  guarded-start = record {
    fifteen = inl refl;
    fourteen = inl refl;
    bases = λ b h. only b h;
    return = λ v i. absurd (none-some v i);
  }
    where
      only : (b : Based) → (b ≡ data_base) ⊎ ⊥ → KeptBase n protected b
      only b (inl i) = subst (KeptBase n protected) (sym i) (inr (inl refl), omega arith, omega arith, omega arith, omega arith)
      only b (inr i) = absurd i

  pub program-flows : Safe written n l [] [] start c → All (Flows n l (size_of c) (program written c)) (program written c)
  unfolding program
  program-flows f =
      let w = program written c in
      let body = placed written [] [] c 0 start in
      let end : List Placed = here (size_of c) stop start ∷ [] in
      all_both _ body end
      (flow w written n l (size_of c) [] [] [] c 0 start (record { guarded = guarded-start; labels = tt; marked = tt; known = tt }) f (all_first _ body end all-mine) last-reached)
      (record { guarded = guarded-start; goes = refl }, tt)

  -- its first instruction
  pub program-start : Good (program written c) program_segment 0 start nothing
  unfolding program
  program-start = entering (program written c) written [] [] c 0 start (all_first _ (placed written [] [] c 0 start) (here (size_of c) stop start ∷ []) all-mine) last-reached
