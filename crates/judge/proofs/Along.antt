-- The loop along the tape: i events are passed, and what the arrays show is what the definition has after them.
use mathlib.Core.Path.{◌≡◌, refl, sym, ap, ap₂, subst, ◌∙◌}
use mathlib.Core.Bool.{◌||◌}
use mathlib.Core.List.{List, [], ◌∷◌}
use Prim.Native.Nat.{ℕ, zero, suc, ◌+◌, ◌-◌, ◌/◌, ◌%◌, ◌≤◌, ◌<◌}
use native.Mathlib.Omega.{arith}
use lib.Dec.{eqb}
use lib.ListN.{get_or, length, drop}
use lib.Seq.{get_or-set_same, get_or-set_other}
use Rattle.base.specs.Lists.{All}
use Rattle.base.proofs.Lists.{all_map}
use Rattle.base.proofs.Tests.{by-test}
use Rattle.tape.specs.Events as E
use Rattle.tape.specs.Numbers.{family_at}
use Rattle.tape.specs.Pass.{pass}
use Rattle.tape.proofs.Pass.{pass-turn, pass-end}
use Rattle.ledger.specs.Book.{Wide, Thin, wide_of, thin_of, put_offset}
use Rattle.ledger.specs.Bounds.{blocks_open, procedures_open, Nested}
use Rattle.ledger.proofs.Bounds.{nested-here, nested-on}
use Rattle.ledger.proofs.Columns.{wide-length}
use Rattle.scopes.specs.Broken.{Ruling, ◌⊕◌}
use Rattle.static_rules.specs.Tables.{Tables}
use Rattle.static_rules.specs.Rules.{protected}
use Rattle.tables.specs.Packed.{meanings_of, sets_of}
use Rattle.tables.specs.Stacks.{stack_of, top, under}
use Rattle.rules.specs.Shows.{Listed, Shown}
use Rattle.judge.specs.declared.Cells.{Cells}
use Rattle.judge.specs.declared.Depths.{Depths}
use Rattle.judge.specs.declared.Open.{Open}
use Rattle.judge.specs.declared.Target.TheVariants.{Unfit}
use Rattle.judge.specs.Along.{Held, held_after, cells_after, cells_of, open_of, open_after, event_rule, Judging, judge_event, beginning, held_of, Moved, Stays}
use Rattle.judge.proofs.Moves.{stays_same, stays_on, offsets-put, put-stays}

-- ── no block has more bases than there were events ──

abbrev Low : ℕ → Held → Type 0
Low n h = (h.count ≤ n) × All (λ x. x ≤ n) h.counts

more : (n : ℕ) (l : List ℕ) → All (λ x. x ≤ n) l → All (λ x. x ≤ n + 1) l
more n l a = all_map (λ x. x ≤ n) (λ x. x ≤ n + 1) l (λ x h. omega arith) a

low-top : (n : ℕ) (l : List ℕ) → All (λ x. x ≤ n) l → top l ≤ n + 1
low-top n [] a = omega arith
low-top n (x ∷ l) a = let h = a.0 in omega arith

low-under : (n : ℕ) (l : List ℕ) → All (λ x. x ≤ n) l → All (λ x. x ≤ n + 1) (under l)
low-under n [] a = tt
low-under n (x ∷ l) a = more n l a.1

low-after : (f : Tables) (op t n : ℕ) (h : Held) → Low n h → Low (n + 1) (held_after f op t h)
unfolding held_after
low-after f op t n h (a, b) =
    by-test (Low (n + 1)) (eqb op E.BLOCK) _ _ (λ _. (omega arith, (omega arith, more n h.counts b)))
    (λ _. by-test (Low (n + 1)) (eqb op E.END-BLOCK) _ _ (λ _. (low-top n h.counts b, low-under n h.counts b))
    (λ _. by-test (Low (n + 1)) (eqb op E.BASE) _ _ (λ _. (omega arith, more n h.counts b))
    (λ _. by-test (Low (n + 1)) (eqb op E.PROCEDURE) _ _ (λ _. (omega arith, more n h.counts b))
    (λ _. by-test (Low (n + 1)) (eqb op E.END-PROCEDURE) _ _ (λ _. (omega arith, more n h.counts b)) (λ _. (omega arith, more n h.counts b))))))

-- ── so many blocks are open as the tape has opened and not closed ──

stack-length : (a : List ℕ) (d : ℕ) → length (stack_of a d) ≡ d
unfolding stack_of
stack-length a zero = refl
stack-length a (suc d) = ap suc (stack-length a d)

under-length : (l : List ℕ) → length (under l) ≡ length l - 1
under-length [] = omega arith
under-length (x ∷ l) = omega arith

abbrev Opened : ℕ → Held → Held → Type 0
Opened op h x = length x.counts ≡ blocks_open op (length h.counts)

opened_after : (f : Tables) (op t : ℕ) (h : Held) → Opened op h (held_after f op t h)
unfolding held_after
opened_after f op t h =
    by-test (Opened op h) (eqb op E.BLOCK) _ _ (λ e. rw e)
    (λ e. by-test (Opened op h) (eqb op E.END-BLOCK) _ _ (λ g. rw (e, g) (under-length h.counts))
    (λ g. by-test (Opened op h) (eqb op E.BASE) _ _ (λ _. rw (e, g))
    (λ _. by-test (Opened op h) (eqb op E.PROCEDURE) _ _ (λ _. rw (e, g))
    (λ _. by-test (Opened op h) (eqb op E.END-PROCEDURE) _ _ (λ _. rw (e, g)) (λ _. rw (e, g))))))

-- ── no use has more arguments than there were events ──

abbrev Few : ℕ → Open → Type 0
Few n o = o.position ≤ n

few-after : (f : Tables) (op t n : ℕ) (o : Open) → Few n o → Few (n + 1) (open_after f op t o)
unfolding open_after
few-after f op t n o h =
    by-test (Few (n + 1)) (eqb (family_at op) E.TARGET || eqb (family_at op) E.CONTROL) _ _ (λ _. omega arith)
    (λ _. by-test (Few (n + 1)) (eqb op E.APPLIED) _ _ (λ _. omega arith)
    (λ _. by-test (Few (n + 1)) (eqb (family_at op) E.ARGUED) _ _ (λ _. omega arith) (λ _. omega arith)))

-- ── the loop ──

abbrev judging : Held → Cells → Open → Ruling → Judging
judging h c o b = record { held = h; cells = c; standing = o; broken = b }

-- there are tables that the columns list
some-tables : Wide → Thin → Tables
some-tables w b = record { kinds = []; values = w.values; found = b.found; goes = []; means = meanings_of w.means []; opens = b.opens; written = sets_of b.written }

some-listed : (w : Wide) (b : Thin) → Listed (some-tables w b) w b
unfolding some-tables
some-listed w b = record { bases = []; found-is = refl; means_is = refl; values-is = refl; opens-is = refl; written_is = refl }

-- whatever stands in the column of offsets
listed-after : {f : Tables} {w w' : Wide} {b : Thin} → Stays w w' → Listed f w b → Listed f w' b
listed-after {f} {w} {w'} {b} e s =
    subst (λ (x : Wide). Listed f x b) (sym e)
    (record { bases = s.bases; found-is = s.found-is; means_is = s.means_is; values-is = s.values-is; opens-is = s.opens-is; written_is = s.written_is })

shown-after : {f : Tables} {kinds : List ℕ} {w w' : Wide} {b : Thin} → Stays w w' → Shown f kinds w b → Shown f kinds w' b
shown-after e s = record { listed = listed-after e s.listed; kinds-is = s.kinds-is }

module _ (tape kinds wide₀ thin : List ℕ) (others : Ruling) where
  abbrev begun : Tables → Judging
  begun f = pass (judge_event f) (beginning others) tape

  pub record Going (wide counts : List ℕ) (d : Depths) (c : Cells) (o : Open) (b : Ruling) (i : ℕ) : Type 0 where
    pub is : (f : Tables) → Shown f kinds (wide_of wide₀) (thin_of thin) → pass (judge_event f) (judging (held_of (wide_of wide).offsets counts d) c o b) (drop i tape) ≡ begun f
    pub stays : Stays (wide_of wide₀) (wide_of wide)
    pub inside : i ≤ length tape
    pub deep : d.kept ≤ i + 2
    pub procedures : ℕ
    pub nested : Nested (length counts) d.counts procedures (drop i tape)
    pub low : Low i (held_of (wide_of wide).offsets counts d)
    pub few : Few i o
    pub small : length tape < 4294967296
    pub room : length tape + 2 ≤ length wide / 4

  module _ {wide counts : List ℕ} {d : Depths} {c : Cells} {o : Open} {b : Ruling} {i : ℕ} (g : Going wide counts d c o b i) (h : i < length tape) where
    -- there is room for one more protected register, and for one more block where one opens
    pub kept-fits : (d.kept < length (wide_of wide).offsets) × ((d.kept ≤ 4294967296) × (d.count < 4294967296))
    kept-fits =
        let deep = g.deep in
        let room = g.room in
        let small = g.small in
        let low = g.low.0 in
        let long : length (wide_of wide).offsets ≡ length wide / 4 = wide-length 3 wide in
        (omega arith, (omega arith, omega arith))

    pub few-fit : o.position < 4294967296
    few-fit = let few = g.few in let small = g.small in omega arith

    pub opened-fits : (op : ℕ) → op ≡ get_or tape i 0 % E.EVENTS → blocks_open op d.counts ≤ length counts
    opened-fits op eo = (nested-here _ _ _ _ (nested-on (length counts) d.counts g.procedures op i tape h eo g.nested)).0

    pub going_on :
        {wide' counts' : List ℕ} {d' : Depths} {c' : Cells} {o' : Open} {b' r : Ruling} (op t : ℕ) → op ≡ get_or tape i 0 % E.EVENTS → t ≡ get_or tape i 0 / E.EVENTS
        → ((f : Tables) → Shown f kinds (wide_of wide) (thin_of thin) → r ≡ event_rule f (stack_of (wide_of wide).offsets d.kept) c o op t)
        → b' ≡ b ⊕ r
        → ((f : Tables) → Listed f (wide_of wide) (thin_of thin) → Moved (held_after f op t (held_of (wide_of wide).offsets counts d)) (wide_of wide').offsets counts' d d')
        → Stays (wide_of wide) (wide_of wide')
        → ((f : Tables) → f.values ≡ (wide_of wide').values → c' ≡ cells_after f op t c)
        → ((f : Tables) → Listed f (wide_of wide') (thin_of thin) → o' ≡ open_after f op t o)
        → length wide' ≡ length wide → length counts' ≡ length counts
        → Going wide' counts' d' c' o' b' (i + 1)
    unfolding judge_event
    going_on {wide'} {counts'} {d'} {c'} {o'} {b'} {r} op t eo et judged joined moved stayed celled opened-to lw lc =
        let deep = g.deep in
        let room = g.room in
        let some = some-tables (wide_of wide) (thin_of thin) in
        let next = some-tables (wide_of wide') (thin_of thin) in
        let m = moved some (some-listed (wide_of wide) (thin_of thin)) in
        let deep' = m.deep in
        let opened : d'.counts ≡ blocks_open op d.counts =
        sym (stack-length counts' d'.counts) ∙ (ap (λ (x : Held). length x.counts) m.is
        ∙ (opened_after some op t (held_of (wide_of wide).offsets counts d) ∙ ap (blocks_open op) (stack-length counts d.counts))) in
        record {
          is = λ f s. ap (λ (x : Judging). pass (judge_event f) x (drop (i + 1) tape)) (stepped f s) ∙ pass-turn (judge_event f) _ tape i op t h eo et (g.is f s);
          stays = stays_on (wide_of wide₀) (wide_of wide) (wide_of wide') g.stays stayed;
          inside = omega arith;
          deep = omega arith;
          procedures = procedures_open op g.procedures;
          nested = rw (lc, opened) (nested-on (length counts) d.counts g.procedures op i tape h eo g.nested);
          low = subst (λ (h : Held). Low (i + 1) h) (sym m.is) (low-after some op t i (held_of (wide_of wide).offsets counts d) g.low);
          few = rw (opened-to next (some-listed (wide_of wide') (thin_of thin))) (few-after next op t i o g.few);
          small = g.small;
          room = omega arith;
        }
      where
        stepped : (f : Tables) → Shown f kinds (wide_of wide₀) (thin_of thin)
            → judging (held_of (wide_of wide').offsets counts' d') c' o' b' ≡ judge_event f op t (judging (held_of (wide_of wide).offsets counts d) c o b)
        stepped f s =
            let now = shown-after g.stays s in
            let later = listed-after stayed now.listed in
            rw ((moved f now.listed).is, celled f later.values-is, opened-to f later, joined, judged f now)

  pub going :
      (wide wide₁ counts : List ℕ) → wide_of wide₁ ≡ put_offset 0 14 (wide_of wide) → wide_of wide₀ ≡ put_offset 1 15 (wide_of wide₁) → length wide₁ ≡ length wide → length wide₀ ≡ length wide₁
      → length tape < 4294967296 → length tape + 2 ≤ length wide / 4 → Nested (length counts) 0 0 tape
      → Going wide₀ counts (record { kept = 2; count = 0; counts = 0 }) (cells_of 0 0 0) (open_of Unfit 0 0) others 0
  unfolding stack_of
  going wide wide₁ counts e f l m h r n = record {
    is = λ t q. ap (λ (k : List ℕ). pass (judge_event t) (judging (record { kept = k; count = 0; counts = [] }) (cells_of 0 0 0) (open_of Unfit 0 0) others) tape) first;
    stays = stays_same wide₀;
    inside = omega arith;
    deep = omega arith;
    procedures = 0;
    nested = n;
    low = (omega arith, tt);
    few = omega arith;
    small = h;
    room = omega arith;
  }
    where
      kept₁ : length (wide_of wide).offsets ≡ length wide / 4
      kept₁ = wide-length 3 wide

      kept₂ : length (wide_of wide₁).offsets ≡ length wide₁ / 4
      kept₂ = wide-length 3 wide₁

      one : get_or (wide_of wide₀).offsets 1 0 ≡ 15
      one = ap (λ (x : List ℕ). get_or x 1 0) (offsets-put (wide_of wide₁) (wide_of wide₀) 1 15 f) ∙ get_or-set_same (wide_of wide₁).offsets 1 15 0 (omega (arith, kept₂, l, r))

      two : get_or (wide_of wide₀).offsets 0 0 ≡ 14
      two =
          ap (λ (x : List ℕ). get_or x 0 0) (offsets-put (wide_of wide₁) (wide_of wide₀) 1 15 f)
          ∙ (get_or-set_other (wide_of wide₁).offsets 1 0 15 0 (λ q. absurd (omega arith))
          ∙ (ap (λ (x : List ℕ). get_or x 0 0) (offsets-put (wide_of wide) (wide_of wide₁) 0 14 e) ∙ get_or-set_same (wide_of wide).offsets 0 14 0 (omega (arith, kept₁, r))))

      first : get_or (wide_of wide₀).offsets 1 0 ∷ get_or (wide_of wide₀).offsets 0 0 ∷ [] ≡ protected
      first = ap₂ (λ (x y : ℕ). x ∷ y ∷ []) one two

  pub going_end :
      {wide counts : List ℕ} {d : Depths} {c : Cells} {o : Open} {b : Ruling} {i : ℕ} (start wide₁ : List ℕ)
      → wide_of wide₁ ≡ put_offset 0 14 (wide_of start) → wide_of wide₀ ≡ put_offset 1 15 (wide_of wide₁) → Going wide counts d c o b i → length tape ≤ i
      → ((f : Tables) → Shown f kinds (wide_of start) (thin_of thin) → b ≡ (begun f).broken) × Stays (wide_of start) (wide_of wide)
  going_end {wide} start wide₁ e₁ e₂ g h =
      let first : Stays (wide_of start) (wide_of wide₀) =
      stays_on (wide_of start) (wide_of wide₁) (wide_of wide₀) (put-stays (wide_of start) (wide_of wide₁) 0 14 e₁) (put-stays (wide_of wide₁) (wide_of wide₀) 1 15 e₂) in
      ((λ f s. ap (λ (x : Judging). x.broken) (pass-end (judge_event f) _ tape _ h (g.is f (shown-after first s)))), stays_on (wide_of start) (wide_of wide₀) (wide_of wide) first g.stays)
