-- A text in which no rule is broken is safe (`safe-program`): by its tree, from what holds of each of its events at its place.
use mathlib.Core.Path.{◌≡◌, refl, sym, ap, subst, ◌∙◌}
use mathlib.Core.Logic.{◌⊎◌, inl, inr}
use mathlib.Core.List.{List, [], ◌∷◌, ◌++◌, map}
use mathlib.Core.Bool.{Bool, true, false, not, ◌&&◌}
use mathlib.Core.Option.{Option, none, some}
use Prim.Native.Nat.{ℕ, zero, suc, ◌+◌, ◌-◌, ◌<◌}
use native.Mathlib.Omega.{arith}
use lib.Dec.{eqb}
use lib.ListN.{get_or}
use borrow.Author.Tests.{eqb-true, eq-eqb}
use Rattle.base.specs.Choose.{whether◌then◌else◌}
use Rattle.base.specs.Lists.{◌∈◌, All}
use Rattle.base.proofs.Lists.{in_left, in_right, all_in, all_both, some_is, none-some}
use Rattle.base.proofs.Tests.{never_true}
use Rattle.grammar.specs.Tree as T
use Rattle.grammar.specs.Tree.{Designator, Operand, number, place, Sign, plain, abs, neg, neg_abs, Term, Assignment, Condition, compared, bare, Width, Register, Item, Statement, Body, Items, Choices}
use Rattle.grammar.specs.Events as E
use Rattle.grammar.specs.Events.{opened, closed, entered, labelled, sent, celled, based, aimed, driven, given, joined, tested, called, argued, chosen, Event, edge, route, entry, phrase, mark, operand_names, uses, each, events_value, events_item, events_register, events_declaration, events_sign, events_term, events_chain, events_arguments, labels_onto, events_statement, events_body, events_items, events_choices, events_of}
use Rattle.grammar.specs.Places.{Block, Place, after, Along}
use Rattle.grammar.specs.Places as P
use Rattle.scopes.specs.declared.Refusal.TheVariants.{Misfit, WrongRegister, Protected}
use Rattle.scopes.specs.Broken.{unbroken}
use Rattle.scopes.specs.Search.{first_token, around, innermost}
use Rattle.scopes.specs.Names.{names_in}
use Rattle.scopes.specs.Labels.{labels_in}
use Rattle.scopes.proofs.Joins.{some-none, quiet-left, quiet-right, rule-holds}
use Rattle.scopes.proofs.Led.{none-at-edge}
use Rattle.scopes.proofs.Bound as B
use Rattle.scopes.proofs.Bound.{Bound}
use Rattle.static_rules.specs.Registers.{no_registers, has, spares}
use Rattle.static_rules.specs.Meaning.{Meaning, nothing, register, cell, routine, function, Based, Cell, register_of, function_of, argument_of}
use Rattle.static_rules.specs.Meanings.{Meant, meaning_in, own_in, newest, base_in, data_base}
use Rattle.static_rules.specs.Tables.{Tables, value_at, meaning_at}
use Rattle.static_rules.specs.Rules as R
use Rattle.static_rules.specs.Rules.{is_register, is_zero}
use Rattle.static_rules.specs.Kinds.{kept_in}
use Rattle.static_rules.proofs.Flags.{spares-is}
use Rattle.static_rules.proofs.Small.{Small, register-small, meaning-small}
use Rattle.static_rules.proofs.Unbroken.{Unbroken}
use Rattle.static_rules.proofs.Kept.{kept-return, kept-in-block, kept-in-body}
use Rattle.static_rules.proofs.Told.{WrittenBy, NotAround, Told}
use Rattle.translation.specs.Instructions.{Instruction}
use Rattle.translation.specs.Core.{Core, use_of, load, chain_of, term_of, to_register, source_of, assign_by, assignment_of, test_of, control_of, function_code, return_of, core_statement, core_body, core_items, core_choices}
use Rattle.translation.specs.Code.{Mark, arm_count, own, size_of}
use Rattle.translation.specs.Layout.{Layout, offset_of}
use Rattle.translation.proofs.Rooms.{CellAt}
use Rattle.join.specs.Points.{Within, Writes, Point, start, procedure_of}
use Rattle.join.proofs.Safe.{Plain, Routine, first, Callable, Basing, Choosing, labels_of, Safe, SafeArms}
use Rattle.join.proofs.Plain.{is-register, Free, SeenOperand, used, spared-by, plain-load, plain-term, plain-compared, plain-stored, plain_step, plain-choosing, register-is, taken, Given, function-plain}

-- a register that is not 0
positive : (m : Meaning) → is_register m ≡ true → not (is_zero m) ≡ true → 0 < register_of m
positive nothing h k = never_true h
positive (register zero) h k = never_true k
positive (register (suc r)) h k = omega arith
positive (cell c) h k = never_true h
positive (routine r) h k = never_true h
positive (function i) h k = never_true h

-- neither a cell nor a procedure
abbrev pub Bare : Meaning → Type 0
Bare nothing = Unit {0}
Bare (register r) = Unit {0}
Bare (cell c) = ⊥
Bare (routine r) = ⊥
Bare (function k) = Unit {0}

-- the names in front of the text
in-front : (d : ℕ) → B.Within d around → d < first_token
unfolding B.Within
in-front d (inl h) = all_in (λ (t : ℕ). t < first_token) (innermost around) low d h
  where
    low : All (λ (t : ℕ). t < first_token) (innermost around)
    low = omega arith
in-front d (inr h) = absurd h

-- the finished tables, and the layout
module _ (kinds values found goes : List ℕ) (z : Meant) (l : Layout) where
  abbrev pub f : Tables
  f = record { kinds = kinds; values = values; found = found; goes = goes; means = z.means; opens = z.opens; written = z.written }

  abbrev meant : ℕ → Meaning
  meant d = get_or z.means d nothing

  -- ── the point of a place ──

  abbrev base_of : ℕ → Based
  base_of n = record { register = register_of (meaning_at f n); segment = get_or z.opens n 0 }

  abbrev bases_in : Place → List Based
  bases_in [] = data_base ∷ []
  bases_in (P.within b ∷ p) = map base_of b.bases ++ bases_in p
  bases_in (P.body n r ∷ p) = bases_in p

  abbrev procedure_in : ℕ → ℕ → Within
  procedure_in n r = procedure_of z.written n (register_of (meaning_at f r))

  abbrev within_in : Place → Option Within
  within_in [] = none
  within_in (P.within b ∷ p) = within_in p
  within_in (P.body n r ∷ p) = some (procedure_in n r)

  abbrev point_in : Place → Point
  point_in p = record { bases = bases_in p; kept = kept_in f p; within = within_in p }

  -- the base in force is one of them
  base-in : (p : Place) → base_in found z p ∈ bases_in p
  base-in [] = inl refl
  base-in (P.within b ∷ p) = go b.bases (base-in p)
    where
      go : (ns : List ℕ) → base_in found z p ∈ bases_in p → newest found z ns (base_in found z p) ∈ (map base_of ns ++ bases_in p)
      go [] h = h
      go (n ∷ ns) h = inl refl
  base-in (P.body n r ∷ p) = base-in p

  -- what the text around a place writes is counted there
  counted-in : (p : Place) (x : ℕ) → x < 16 → WrittenBy z (own_in p) x → (v : Within) → within_in p ≡ some v → Writes v x
  counted-in [] x h k v e = absurd (none-some v e)
  counted-in (P.within b ∷ p) x h k v e = counted-in p x h k v e
  counted-in (P.body n r ∷ p) x h k v e = subst (λ (w : Within). Writes w x) (some_is (procedure_in n r) v e) (inr (h, k))

  -- ── what is known at a place ──

  -- of a name that means m: the base of a cell is in force, a procedure is one of gs
  abbrev Means : List Based → List Routine → ℕ → Meaning → Type 0
  Means bs gs d nothing = Unit {0}
  Means bs gs d (register r) = Unit {0}
  Means bs gs d (cell c) = c.base ∈ bs
  Means bs gs d (routine r) = (hs : List Based) × (first d gs ≡ some (record { within = procedure_of z.written d r; bases = hs }))
  Means bs gs d (function k) = Unit {0}

  -- the procedures around a place mean what their bodies say
  abbrev Around : Place → Type 0
  Around [] = Unit {0}
  Around (P.within b ∷ p) = Around p
  Around (P.body n r ∷ p) = (meant n ≡ routine (register_of (meaning_at f r))) × Around p

  record InForce (p : Place) (gs : List Routine) : Type 0 where
    names : (d : ℕ) → B.Within d (names_in p) → Means (bases_in p) gs d (meant d)
    around : Around p

  -- every label of these blocks
  abbrev Covers : List (List ℕ) → List ℕ → Type 0
  Covers bs ls = (d : ℕ) → B.Within d bs → d ∈ ls

  -- ── what holds of each event at its place ──

  abbrev pub Leads : Event → Place → Type 0
  Leads (edge x) p = Unit {0}
  Leads (route (labelled t)) p = Unit {0}
  Leads (route (sent t n)) p = B.Within (get_or goes n 0) (labels_in p)
  Leads (entry d) p = Unit {0}
  Leads (phrase x) p = Unit {0}
  Leads (mark m) p = Unit {0}

  -- no rule is broken, the tables have what it tells, and each name and GOTO is found in a block that is open, a name perhaps not at all
  pub record Fact (e : Event) (p : Place) : Type 0 where
    pub unbroken : Unbroken f e p
    pub told : Told kinds values found z e p
    pub bound : All (λ (t : ℕ). Bound (get_or found t 0) (names_in (after e p))) (uses e)
    pub leads : Leads e p

  module _
      (small : All Small z.means) (front : (d : ℕ) → d < first_token → Bare (meant d))
      (stands : (t : ℕ) (c : Cell) → meaning_at f t ≡ cell c → CellAt c l.ends (offset_of l.placed c.name))
    where
      small_at : (t : ℕ) → Small (meaning_at f t)
      small_at t = meaning-small found z.means t small

      register-at : (t : ℕ) → register_of (meaning_at f t) < 16
      register-at t = register-small (meaning_at f t) (small_at t)

      -- ── names ──

      not-zero : (t : ℕ) (m : Meaning) → get_or found t 0 ≡ 0 → meaning_at f t ≡ m → Bare m
      not-zero t m e h = subst Bare (ap meant (sym e) ∙ h) (front 0 (omega arith))

      seen : (p : Place) (gs : List Routine) → InForce p gs → (t : ℕ) → Bound (get_or found t 0) (names_in p) → (c : Cell) → meaning_at f t ≡ cell c → c.base ∈ bases_in p
      seen p gs x t (inl e) c h = absurd (not-zero t (cell c) e h)
      seen p gs x t (inr w) c h = subst (Means (bases_in p) gs (get_or found t 0)) h (x.names (get_or found t 0) w)

      seen-operand : (p : Place) (gs : List Routine) → InForce p gs → (a : Operand) → All (λ (t : ℕ). Bound (get_or found t 0) (names_in p)) (operand_names a)
          → SeenOperand f small l (point_in p) stands a
      seen-operand p gs x (number t) h = tt
      seen-operand p gs x (place d) h = seen p gs x d.name h.0

      -- ── assignments ──

      -- the target's register may be written
      free-target : (p : Place) (d : Designator) (r : ℕ) → meaning_at f d.name ≡ register r → r < 16 → R.target_by f (meaning_at f d.name) (kept_in f p) d.name ≡ unbroken
          → ((r : ℕ) → r < 16 → meaning_in found z d.name ≡ register r → WrittenBy z (own_in p) r) → Free (point_in p) r
      free-target p d r e h q t =
          let k : R.write_rule (kept_in f p) r d.name ≡ unbroken = subst (λ (m : Meaning). R.target_by f m (kept_in f p) d.name ≡ unbroken) e q in
          record { spared = spared-by f small l (point_in p) stands r d.name k; counted = counted-in p r h (t r h e) }

      skip-sign : (d : Designator) (s : Sign) (k : List Event) (p : Place) → Along Fact (events_sign d s k) p → Along Fact k p
      unfolding events_sign Along
      skip-sign d plain k p h = h
      skip-sign d (abs t) k p h = h.1
      skip-sign d (neg t) k p h = h.1
      skip-sign d (neg_abs t) k p h = h.1

      terms-of : (d : Designator) (ts : List Term) (k : List Event) (p : Place) → Along Fact (each (events_term d) ts k) p → All (λ (t : Term). Fact (phrase (joined d t)) p) ts × Along Fact k p
      unfolding each Along
      terms-of d [] k p h = (tt, h)
      terms-of d (t ∷ ts) k p (h, hs) = let r = terms-of d ts k p hs in ((h, r.0), r.1)

      -- what follows a target: its first operand, its terms, and what comes next
      chain-of : (a : Assignment) (k : List Event) (p : Place) → Along Fact (events_chain a k) p
          → Fact (phrase (given a.target a.first)) p × All (λ (t : Term). Fact (phrase (joined a.target t)) p) a.rest × Along Fact k p
      unfolding events_chain Along
      chain-of a k p h =
          let (g, gs) = skip-sign a.target a.sign _ p h in
          let r = terms-of a.target a.rest k p gs in
          (g, r.0, r.1)

      module _ (p : Place) (gs : List Routine) (x : InForce p gs) where
        abbrev PlainHere : List Instruction → Type 0
        PlainHere is = All (Plain l (point_in p)) is

        both : (a b : Bool) → a ≡ true → b ≡ true → (a && b) ≡ true
        both a b h k = rw (h, k)

        term-plain : (d : Designator) (r : ℕ) (t : Term) → meaning_at f d.name ≡ register r → r < 16 → Free (point_in p) r → Fact (phrase (joined d t)) p → PlainHere (term_of f r t)
        term-plain d r t e h y k =
            plain-term f small l (point_in p) stands r t (seen-operand p gs x t.operand k.bound)
            (subst (λ (m : Meaning). R.term_by f m (kept_in f p) t ≡ unbroken) e k.unbroken)
            (λ times long. counted-in p (r - 1) (omega arith) (k.told r h e (both _ _ times long))) y

        chain-plain : (d : Designator) (r : ℕ) (ts : List Term) → meaning_at f d.name ≡ register r → r < 16 → Free (point_in p) r → All (λ (t : Term). Fact (phrase (joined d t)) p) ts
            → PlainHere (chain_of f r ts)
        unfolding chain_of
        chain-plain d r [] e h y k = tt
        chain-plain d r (t ∷ ts) e h y (k, ks) = all_both (Plain l (point_in p)) (term_of f r t) (chain_of f r ts) (term-plain d r t e h y k) (chain-plain d r ts e h y ks)

        register-plain : (r : ℕ) (a : Assignment) → meaning_at f a.target.name ≡ register r → r < 16 → Free (point_in p) r → Fact (phrase (given a.target a.first)) p
            → All (λ (t : Term). Fact (phrase (joined a.target t)) p) a.rest → PlainHere (to_register f r a)
        unfolding to_register
        register-plain r a e h y g ts =
            all_both (Plain l (point_in p)) (load a.sign r (use_of f a.first)) (chain_of f r a.rest)
            (plain-load l (point_in p) a.sign r (use_of f a.first) h
            (used f small l (point_in p) stands a.first (seen-operand p gs x a.first g.bound) (subst (λ (m : Meaning). R.first_by f m a.first ≡ unbroken) e g.unbroken)) y)
            (chain-plain a.target r a.rest e h y ts)

        assign-plain : (a : Assignment) → Fact (phrase (aimed a.target)) p → Fact (phrase (given a.target a.first)) p
            → All (λ (t : Term). Fact (phrase (joined a.target t)) p) a.rest → PlainHere (assignment_of f a)
        unfolding assignment_of R.target_rules
        assign-plain a k g ts = go (meaning_at f a.target.name) refl
          where
            go : (m : Meaning) → meaning_at f a.target.name ≡ m → PlainHere (assign_by f m a)
            go nothing e = tt
            go (register r) e =
                let h : r < 16 = subst Small e (small_at a.target.name) in
                register-plain r a e h (free-target p a.target r e h (quiet-right (R.no_byte f a.target) _ (quiet-right (R.place_rules f a.target) _ k.unbroken)) k.told) g ts
            go (cell c) e =
                plain-stored f small l (point_in p) stands (source_of f a.first) a.target c e (seen p gs x a.target.name k.bound.0)
                (quiet-left (R.place_rules f a.target) _ k.unbroken) (quiet-left (R.no_byte f a.target) _ (quiet-right (R.place_rules f a.target) _ k.unbroken))
            go (routine r) e = tt
            go (function i) e = tt

        test_plain : (t : ℕ) (c : Condition) → Fact (phrase (tested t c)) p → PlainHere (test_of f c)
        unfolding test_of R.condition_rules
        test_plain t (compared n k a) h =
            plain-compared f small l (point_in p) stands (register_of (meaning_at f n)) a (seen-operand p gs x a h.bound.1) (quiet-right (R.register_rule f n) (R.operand_rules f a) h.unbroken)
        test_plain t (bare k) h = tt

        -- ── uses of functions ──

        abbrev Argued : ℕ → ℕ → List Operand → Type 0
        Argued n q [] = Unit {0}
        Argued n q (a ∷ xs) = Fact (phrase (argued n q a)) p × Argued n (q + 1) xs

        -- the arguments, and what comes next
        arguments-of : (n q : ℕ) (xs : List Operand) (k : List Event) → Along Fact (events_arguments n q xs k) p → Argued n q xs × Along Fact k p
        unfolding events_arguments Along
        arguments-of n q [] k h = (tt, h.1)
        arguments-of n q (a ∷ xs) k (h, hs) = let r = arguments-of n (q + 1) xs k hs in ((h, r.0), r.1)

        given-all : (n q : ℕ) (xs : List Operand) → Argued n q xs → Given f small l (point_in p) stands (function_of (meaning_at f n)) q xs
        given-all n q [] h = tt
        given-all n q (a ∷ xs) (h, hs) = (
          taken f small l (point_in p) stands (argument_of (meaning_at f n) q) a (seen-operand p gs x a h.bound) h.unbroken
              (λ w r s o. counted-in p r s (h.told r s o w)),
          given-all n (q + 1) xs hs,
        )

        use-plain : (n : ℕ) (a : Operand) (xs : List Operand) → Argued n 0 (a ∷ xs) → PlainHere (function_code f (function_of (meaning_at f n)) a xs)
        use-plain n a xs h = function-plain f small l (point_in p) stands (meaning_at f n) a xs (given-all n 0 (a ∷ xs) h)

        -- ── calls ──

        -- a procedure that may be called is not around
        not-around : (d r : ℕ) (q : Place) → Around q → meant d ≡ routine r → (r ∈ kept_in f q → ⊥) → NotAround d q
        not-around d r [] a e h = tt
        not-around d r (P.within b ∷ q) a e h = not-around d r q a e (λ i. h (kept-in-block f b q r i))
        not-around d r (P.body n s ∷ q) (k, a) e h =
            (λ i. h (subst (λ (u : ℕ). u ∈ kept_in f (P.body n s ∷ q)) (sym (same d n r s i k e)) (kept-return f n s q)), not-around d r q a e (λ i. h (kept-in-body f n s q r i)))
          where
            same : (d n r s : ℕ) → d ≡ n → meant n ≡ routine (register_of (meaning_at f s)) → meant d ≡ routine r → r ≡ register_of (meaning_at f s)
            same d n r s i k e = ap return_of (sym e ∙ (ap meant i ∙ k))

        call-safe : (n : ℕ) → Fact (phrase (called n)) p → Callable gs (point_in p) (get_or found n 0) (return_of (meaning_at f n))
        unfolding R.call_rules
        call-safe n k = go (meaning_at f n) refl k.unbroken k.bound.0
          where
            d : ℕ
            d = get_or found n 0

            go : (m : Meaning) → meaning_at f n ≡ m → R.call_by f m (kept_in f p) n ≡ unbroken → Bound d (names_in p) → Callable gs (point_in p) d (return_of m)
            go nothing e q b = absurd (some-none q)
            go (register r) e q b = absurd (some-none q)
            go (cell c) e q b = absurd (some-none q)
            go (function i) e q b = absurd (some-none q)
            go (routine r) e q (inl i) = absurd (not-zero n (routine r) i e)
            go (routine r) e q (inr i) =
                let m = subst (Means (bases_in p) gs d) e (x.names d i) in
                let h : r < 16 = subst Small e (small_at n) in
                let free = spared-by f small l (point_in p) stands r n (quiet-left (R.write_rule (kept_in f p) r n) _ q) in
                let set = get_or z.written d no_registers in
                let text = spares-is set (kept_in f p) (rule-holds (spares set (kept_in f p)) Protected n (quiet-right (R.write_rule (kept_in f p) r n) _ q)) in
                let Has-both = k.told r h e (above n r e) (not-around d r p x.around e free) in
                record {
                  g = record { within = procedure_of z.written d r; bases = m.0 };
                  found = m.1;
                  return = refl;
                  spared = λ y w i. spared y w i free text;
                  counted = λ v o y w. counted v o y w Has-both h;
                }
              where
                spared : (y : ℕ) → (y ≡ r) ⊎ ((y < 16) × (has (get_or z.written d no_registers) y ≡ true)) → y ∈ kept_in f p → (r ∈ kept_in f p → ⊥)
                    → ((y : ℕ) → y ∈ kept_in f p → has (get_or z.written d no_registers) y ≡ true → ⊥) → ⊥
                spared y (inl o) i free text = free (subst (λ (w : ℕ). w ∈ kept_in f p) o i)
                spared y (inr o) i free text = text y i o.1

                counted : (v : Within) → within_in p ≡ some v → (y : ℕ) → (y ≡ r) ⊎ ((y < 16) × (has (get_or z.written d no_registers) y ≡ true))
                    → WrittenBy z (own_in p) r × ((y : ℕ) → y < 16 → WrittenBy z d y → WrittenBy z (own_in p) y) → r < 16 → Writes v y
                counted v o y (inl w) b h = subst (λ (u : ℕ). Writes v u) (sym w) (counted-in p r h b.0 v o)
                counted v o y (inr w) b h = counted-in p y w.0 (b.1 y w.0 w.1) v o

                above : (n r : ℕ) → meaning_at f n ≡ routine r → 0 < get_or found n 0
                above n r e = upon (get_or found n 0) refl
                  where
                    upon : (u : ℕ) → get_or found n 0 ≡ u → 0 < get_or found n 0
                    upon zero i = absurd (not-zero n (routine r) i e)
                    upon (suc u) i = omega arith

      -- ── what is in force, inward ──

      abbrev with_names : Block → List ℕ → Block
      with_names b ns = record { at = b.at; names = ns; bases = b.bases; labels = b.labels; set = b.set }

      -- in a block, where nothing has been declared yet
      open_block : (t : ℕ) (ls : List ℕ) (p : Place) (gs : List Routine) → InForce p gs → InForce (after (edge (opened t ls)) p) gs
      unfolding B.Within
      open_block t ls p gs x = record { names = λ d w. outer d w; around = x.around }
        where
          outer : (d : ℕ) → ⊥ ⊎ B.Within d (names_in p) → Means (bases_in p) gs d (meant d)
          outer d (inl w) = absurd w
          outer d (inr w) = x.names d w

      -- a name more
      with-name : (t : ℕ) (b : Block) (p : Place) (gs : List Routine) → Means (bases_in (P.within b ∷ p)) gs t (meant t) → InForce (P.within b ∷ p) gs
          → InForce (P.within (with_names b (t ∷ b.names)) ∷ p) gs
      unfolding B.Within
      with-name t b p gs m x = record { names = λ d w. one d w; around = x.around }
        where
          one : (d : ℕ) → ((d ≡ t) ⊎ (d ∈ b.names)) ⊎ B.Within d (names_in p) → Means (bases_in (P.within b ∷ p)) gs d (meant d)
          one d (inl (inl e)) = subst (λ (u : ℕ). Means (bases_in (P.within b ∷ p)) gs u (meant u)) (sym e) m
          one d (inl (inr w)) = x.names d (inl w)
          one d (inr w) = x.names d (inr w)

      more-bases : (bs : List Based) (b : Based) (gs : List Routine) (d : ℕ) (m : Meaning) → Means bs gs d m → Means (b ∷ bs) gs d m
      more-bases bs b gs d nothing h = tt
      more-bases bs b gs d (register r) h = tt
      more-bases bs b gs d (cell c) h = inr h
      more-bases bs b gs d (routine r) h = h
      more-bases bs b gs d (function k) h = tt

      -- a base more
      with-base : (n : ℕ) (b : Block) (p : Place) (gs : List Routine) → InForce (P.within b ∷ p) gs → InForce (after (entry (based n)) (P.within b ∷ p)) gs
      with-base n b p gs x = record { names = λ d w. more-bases (bases_in (P.within b ∷ p)) (base_of n) gs d (meant d) (x.names d w); around = x.around }

      -- a procedure more, of which the name means it
      abbrev routine_of : ℕ → ℕ → List Based → Routine
      routine_of n r bs = record { within = procedure_of z.written n r; bases = bs }

      known_more : (n r : ℕ) (hs bs : List Based) (gs : List Routine) (d : ℕ) (m : Meaning) → meant n ≡ routine r → meant d ≡ m
          → Means bs gs d m → Means bs (routine_of n r hs ∷ gs) d m
      unfolding first
      known_more n r hs bs gs d nothing e i h = tt
      known_more n r hs bs gs d (register s) e i h = tt
      known_more n r hs bs gs d (cell c) e i h = h
      known_more n r hs bs gs d (function k) e i h = tt
      known_more n r hs bs gs d (routine s) e i (ks, h) = go (eqb n d) refl
        where
          go : (t : Bool) → eqb n d ≡ t → (ks : List Based) × ((whether eqb n d then some (routine_of n r hs) else first d gs) ≡ some (routine_of d s ks))
          go true t =
              let same = eqb-true n d t in
              let q : r ≡ s = ap return_of (sym e ∙ (ap meant same ∙ i)) in
              (hs, rw t (λ k. some (routine_of (same k) (q k) hs)))
          go false t = (ks, rw t h)

      known-here : (n r : ℕ) (hs bs : List Based) (gs : List Routine) → meant n ≡ routine r → Means bs (routine_of n r hs ∷ gs) n (meant n)
      unfolding first
      known-here n r hs bs gs e = subst (Means bs (routine_of n r hs ∷ gs) n) (sym e) (hs, rw (eq-eqb n n refl))

      with-routine : (n r : ℕ) (b : Block) (p : Place) (gs : List Routine) → meant n ≡ routine r → InForce (P.within b ∷ p) gs
          → InForce (P.within (with_names b (n ∷ b.names)) ∷ p) (routine_of n r (bases_in (P.within b ∷ p)) ∷ gs)
      with-routine n r b p gs e x =
          let bs = bases_in (P.within b ∷ p) in
          with-name n b p (routine_of n r bs ∷ gs) (known-here n r bs bs gs e)
          (record { names = λ d w. known_more n r bs bs gs d (meant d) e refl (x.names d w); around = x.around })

      -- ── declarations ──

      -- names declared in the block b, and what comes next
      record Declared (k : List Event) (b : Block) (p : Place) (gs : List Routine) : Type 0 where
        names : List ℕ
        here : InForce (P.within (with_names b names) ∷ p) gs
        rest : Along Fact k (P.within (with_names b names) ∷ p)

      registers-in : (rs : List Register) (k : List Event) (b : Block) (p : Place) (gs : List Routine) → InForce (P.within b ∷ p) gs
          → Along Fact (each events_register rs k) (P.within b ∷ p) → Declared k b p gs
      unfolding each Along
      registers-in [] k b p gs x h = record { names = b.names; here = x; rest = h }
      registers-in (r ∷ rs) k b p gs x (h, hs) =
          let t = subst (Means (bases_in (P.within b ∷ p)) gs r.name) (sym h.told) tt in
          let d = registers-in rs k (with_names b (r.name ∷ b.names)) p gs (with-name r.name b p gs t x) hs in
          record { names = d.names; here = d.here; rest = d.rest }

      values-in : (ts : List ℕ) (k : List Event) (b : Block) (p : Place) → Along Fact (each events_value ts k) (P.within b ∷ p) → Along Fact k (P.within b ∷ p)
      unfolding each Along
      values-in [] k b p h = h
      values-in (t ∷ ts) k b p (h, hs) = values-in ts k b p hs

      cells_in : (c : Option ℕ) (w : Width) (is : List Item) (k : List Event) (b : Block) (p : Place) (gs : List Routine) → InForce (P.within b ∷ p) gs
          → Along Fact (each (events_item c w) is k) (P.within b ∷ p) → Declared k b p gs
      unfolding each events_item Along
      cells_in c w [] k b p gs x h = record { names = b.names; here = x; rest = h }
      cells_in c w (i ∷ is) k b p gs x (h, hs) =
          let t = subst (Means (bases_in (P.within b ∷ p)) gs i.name) (sym h.told) (base-in (P.within b ∷ p)) in
          let inner = with_names b (i.name ∷ b.names) in
          let d = cells_in c w is k inner p gs (with-name i.name b p gs t x) (values-in i.numbers _ inner p hs) in
          record { names = d.names; here = d.here; rest = d.rest }

      -- a register that the text takes for itself
      record Took (n : ℕ) (p : Place) : Type 0 where
        register : is_register (meaning_at f n) ≡ true
        positive : 0 < register_of (meaning_at f n)
        spared : register_of (meaning_at f n) ∈ kept_in f p → ⊥

      took : (n : ℕ) (p : Place) → R.taken_rules f (kept_in f p) n ≡ unbroken → Took n p
      unfolding R.taken_rules R.register_rule R.zero_rule
      took n p q =
          let a = rule-holds (is_register (meaning_at f n)) Misfit n (quiet-left (R.register_rule f n) _ q) in
          let rest = quiet-right (R.register_rule f n) _ q in
          let c = rule-holds (not (is_zero (meaning_at f n))) WrongRegister n (quiet-left (R.zero_rule f n) _ rest) in
          let r = register_of (meaning_at f n) in
          record {
            register = a;
            positive = positive (meaning_at f n) a c;
            spared = spared-by f small l (point_in p) stands r n (quiet-right (R.zero_rule f n) _ rest);
          }

      -- a base declaration
      base-safe : (n : ℕ) (p : Place) → Fact (entry (based n)) p → Basing z.bases (point_in p) (register_of (meaning_at f n)) (get_or z.opens n 0)
      unfolding R.base_rules
      base-safe n p k =
          let t = took n p (quiet-left (R.taken_rules f (kept_in f p) n) _ k.unbroken) in
          let r = register_of (meaning_at f n) in
          let h = register-at n in
          record {
            positive = t.positive;
            small = h;
            data-segment = k.told.0;
            exists = k.told.1;
            spared = λ x i. subst (λ (y : ℕ). y ∈ kept_in f p → ⊥) (sym i) t.spared;
            counted = λ v o x i. subst (λ (y : ℕ). Writes v y) (sym i) (counted-in p r h (k.told.2 h) v o);
          }

      -- a procedure: its return register, and what its name means
      return-safe : (n r : ℕ) (p : Place) → Fact (edge (entered n r)) p
          → ((0 < register_of (meaning_at f r)) × (register_of (meaning_at f r) < 16)) × (meant n ≡ routine (register_of (meaning_at f r)))
      unfolding R.register_rule R.zero_rule
      return-safe n r p k =
          let a = rule-holds (is_register (meaning_at f r)) Misfit r (quiet-left (R.register_rule f r) _ k.unbroken) in
          let c = rule-holds (not (is_zero (meaning_at f r))) WrongRegister r (quiet-right (R.register_rule f r) _ k.unbroken) in
          ((positive (meaning_at f r) a c, register-at r), k.told a)

      -- ── labels ──

      own-labels : (is : Items) (earlier : List ℕ) (q d : ℕ) → d ∈ labels_onto is earlier → (d ∈ earlier) ⊎ (d ∈ map (λ (m : Mark). m.name) (own (core_items f is) q))
      unfolding own core_items
      own-labels T.ended earlier q d h = inl h
      own-labels (T.label t is) earlier q d h = go (own-labels is (t ∷ earlier) q d h)
        where
          go : ((d ≡ t) ⊎ (d ∈ earlier)) ⊎ (d ∈ map (λ (m : Mark). m.name) (own (core_items f is) q))
              → (d ∈ earlier) ⊎ ((d ≡ t) ⊎ (d ∈ map (λ (m : Mark). m.name) (own (core_items f is) q)))
          go (inl (inl e)) = inr (inl e)
          go (inl (inr e)) = inl e
          go (inr e) = inr (inr e)
      own-labels (T.item x is) earlier q d h = own-labels is earlier (q + size_of (core_statement f x)) d h

      labels_in_lem : (is : Items) (bs : List ℕ) (ps : List (List ℕ)) (ls : List ℕ) → ((d : ℕ) → d ∈ bs → d ∈ labels_onto is []) → Covers ps ls
          → Covers (bs ∷ ps) (labels_of (core_items f is) ++ ls)
      unfolding B.Within
      labels_in_lem is bs ps ls h c d (inl w) = go (own-labels is [] 0 d (h d w))
        where
          go : ⊥ ⊎ (d ∈ labels_of (core_items f is)) → d ∈ (labels_of (core_items f is) ++ ls)
          go (inl e) = absurd e
          go (inr e) = in_left d (labels_of (core_items f is)) ls e
      labels_in_lem is bs ps ls h c d (inr w) = in_right d (labels_of (core_items f is)) ls (c d w)

      -- ── the text ──

      abbrev SafeAt : Place → List ℕ → List Routine → Core → Type 0
      SafeAt p ls gs c = Safe z.written z.bases l ls gs (point_in p) c

      -- what comes after a block's part
      record Next (k : List Event) (p : Place) : Type 0 where
        block : Block
        rest : Along Fact k (P.within block ∷ p)

      -- a declaration's events
      registers-are : (rs : List Register) (k : List Event) (p : Place) → Along Fact (events_declaration (T.registers rs) k) p → Along Fact (each events_register rs k) p
      unfolding events_declaration
      registers-are rs k p h = h

      cells_are : (c : Option ℕ) (w : Width) (is : List Item) (k : List Event) (p : Place) → Along Fact (events_declaration (T.cells c w is) k) p
          → Along Fact (each (events_item c w) is k) (after (entry (celled c w)) p)
      unfolding events_declaration Along
      cells_are c w is k p h = h.1

      base-are : (n : ℕ) (k : List Event) (p : Place) → Along Fact (events_declaration (T.base n) k) p → Fact (entry (based n)) p × Along Fact k (after (entry (based n)) p)
      unfolding events_declaration Along
      base-are n k p h = h

      -- no label is known outside all blocks
      no_label : (d : ℕ) → B.Within d [] → d ∈ []
      unfolding B.Within
      no_label d w = w

      -- the target of FOR is a register that may be written
      control-free : (a : Assignment) (p : Place) → Fact (phrase (driven a.target)) p → (meaning_at f a.target.name ≡ register (control_of f a)) × Free (point_in p) (control_of f a)
      unfolding R.control_rules
      control-free a p k =
          let d = a.target in
          let e = register-is f small l (point_in p) stands d (quiet-left (R.only_register f (place d)) _ k.unbroken) in
          (e, free-target p d (control_of f a) e (register-at d.name) (quiet-right (R.only_register f (place d)) _ k.unbroken) k.told)

      -- the register of a CASE that chooses from m statements
      case-safe : (n m : ℕ) (p : Place) → Fact (phrase (chosen n)) p → Choosing l (point_in p) (register_of (meaning_at f n)) m
      case-safe n m p k =
          let t = took n p k.unbroken in
          let r = register_of (meaning_at f n) in
          let h = register-at n in
          plain-choosing l (point_in p) r m t.positive h
          (record { spared = t.spared; counted = counted-in p r h (k.told r h (is-register (meaning_at f n) t.register)) })

      mutual
        unfolding events_statement core_statement Safe Along

        safe-statement : (x : Statement) (k : List Event) (p : Place) (ls : List ℕ) (gs : List Routine) → InForce p gs → Covers (labels_in p) ls → Along Fact (events_statement x k) p
            → SafeAt p ls gs (core_statement f x) × Along Fact k p
        safe-statement (T.assign a) k p ls gs i c (h, hs) = let r = chain-of a k p hs in (assign-plain p gs i a h r.0 r.1, r.2)
        safe-statement (T.call n) k p ls gs i c (h, hs) = (call-safe p gs i n h, hs)
        safe-statement (T.apply n a xs) k p ls gs i c (h, hs) = let r = arguments-of p gs i n 0 (a ∷ xs) k hs in (use-plain p gs i n a xs r.0, r.1)
        safe-statement (T.block t b) k p ls gs i c (h, hs) =
            let r = safe-body b (edge (closed t) ∷ k) _ p ls gs (open_block t (E.labels_of b []) p gs i) c (λ d w. w) hs in
            (r.0, r.1.rest.1)
        safe-statement (T.goto t n) k p ls gs i c (h, hs) = (c (get_or goes n 0) h.leads, hs)
        safe-statement T.null k p ls gs i c h = (tt, h)
        safe-statement (T.if_then t q x) k p ls gs i c (h, hs) =
            let r = safe-statement x _ p ls gs i c hs in
            ((test_plain p gs i t q h, r.0), r.1.1)
        safe-statement (T.if_else t q x e y) k p ls gs i c (h, hs) =
            let r = safe-statement x _ p ls gs i c hs in
            let s = safe-statement y _ p ls gs i c r.1.1 in
            ((test_plain p gs i t q h, r.0, s.0), s.1.1)
        safe-statement (T.while t q x) k p ls gs i c (g, (h, hs)) =
            let r = safe-statement x _ p ls gs i c hs in
            ((test_plain p gs i t q h, r.0), r.1.1)
        safe-statement (T.for t a v o x) k p ls gs i c (h, hs) =
            let r = chain-of a _ p hs in
            let (m, ms) = r.2 in
            let s = safe-statement x _ p ls gs i c ms in
            let y = control-free a p h in (
              (
                register-plain p gs i (control_of f a) a y.0 (register-at a.target.name) y.1 r.0 r.1,
                plain-compared f small l (point_in p) stands (control_of f a) o (seen-operand p gs i o m.bound) m.unbroken,
                plain_step l (point_in p) (control_of f a) (value_at f v) y.1,
                s.0,
              ),
              s.1.1,
            )
        safe-statement (T.choose t n xs) k p ls gs i c (g, (h, hs)) =
            let r = safe-choices n xs _ p ls gs i c hs in
            ((case-safe n (arm_count (core_choices f xs)) p h, r.0), r.1.1)

        safe-body : (x : Body) (k : List Event) (b : Block) (p : Place) (ls : List ℕ) (gs : List Routine) → InForce (P.within b ∷ p) gs → Covers (labels_in p) ls
            → ((d : ℕ) → d ∈ b.labels → d ∈ E.labels_of x []) → Along Fact (events_body x k) (P.within b ∷ p) → SafeAt (P.within b ∷ p) ls gs (core_body f x) × Next k p
        safe-body (T.declare (T.registers rs) x) k b p ls gs i c o h =
            let d = registers-in rs (events_body x k) b p gs i (registers-are rs _ _ h) in
            safe-body x k (with_names b d.names) p ls gs d.here c o d.rest
        safe-body (T.declare (T.cells n w is) x) k b p ls gs i c o h =
            let d = cells_in n w is (events_body x k) b p gs i (cells_are n w is _ _ h) in
            safe-body x k (with_names b d.names) p ls gs d.here c o d.rest
        safe-body (T.declare (T.base n) x) k b p ls gs i c o h =
            let (g, hs) = base-are n _ _ h in
            let r = safe-body x k _ p ls gs (with-base n b p gs i) c o hs in
            ((base-safe n (P.within b ∷ p) g, r.0), r.1)
        safe-body (T.procedure n r x y) k b p ls gs i c o (h, hs) =
            let q = return-safe n r (P.within b ∷ p) h in
            let known = routine_of n (register_of (meaning_at f r)) (bases_in (P.within b ∷ p)) ∷ gs in
            let inner = with_names b (n ∷ b.names) in
            let j = with-routine n (register_of (meaning_at f r)) b p gs q.1 i in
            let s = safe-statement x _ (P.body n r ∷ P.within inner ∷ p) [] known (record { names = j.names; around = (q.1, j.around) })
            (λ d w. absurd (none-at-edge n r (P.within inner ∷ p) d w)) hs in
            let u = safe-body y k inner p ls known j c o s.1.1 in
            ((q.0, s.0, u.0), u.1)
        safe-body (T.items is) k b p ls gs i c o h = safe-items is k b p (labels_of (core_items f is) ++ ls) gs i (labels_in_lem is b.labels (labels_in p) ls o c) h

        safe-items : (is : Items) (k : List Event) (b : Block) (p : Place) (ls : List ℕ) (gs : List Routine) → InForce (P.within b ∷ p) gs → Covers (labels_in (P.within b ∷ p)) ls
            → Along Fact (events_items is k) (P.within b ∷ p) → SafeAt (P.within b ∷ p) ls gs (core_items f is) × Next k p
        safe-items T.ended k b p ls gs i c h = (tt, record { block = b; rest = h })
        safe-items (T.label t is) k b p ls gs i c (h, hs) =
            let next : Block = record { at = b.at; names = b.names; bases = b.bases; labels = b.labels; set = t ∷ b.set } in
            safe-items is k next p ls gs (record { names = i.names; around = i.around }) c hs
        safe-items (T.item x is) k b p ls gs i c h =
            let r = safe-statement x (events_items is k) (P.within b ∷ p) ls gs i c h in
            let s = safe-items is k b p ls gs i c r.1 in
            ((r.0, s.0), s.1)

        safe-choices : (t : ℕ) (xs : Choices) (k : List Event) (p : Place) (ls : List ℕ) (gs : List Routine) → InForce p gs → Covers (labels_in p) ls
            → Along Fact (events_choices t xs k) p → SafeArms z.written z.bases l ls gs (point_in p) (core_choices f xs) × Along Fact k p
        safe-choices t T.over k p ls gs i c h = (tt, h)
        safe-choices t (T.choice x xs) k p ls gs i c h =
            let r = safe-statement x _ p ls gs i c h in
            let s = safe-choices t xs k p ls gs i c r.1.1 in
            ((r.0, s.0), s.1)

      -- ── the whole program ──

      before_text : InForce [] []
      before_text = record { names = λ d w. bare-means d (meant d) (front d (in-front d w)); around = tt }
        where
          bare-means : (d : ℕ) (m : Meaning) → Bare m → Means (data_base ∷ []) [] d m
          bare-means d nothing h = tt
          bare-means d (register r) h = tt
          bare-means d (cell c) h = absurd h
          bare-means d (routine r) h = absurd h
          bare-means d (function k) h = tt

      pub safe-program : (x : Statement) → Along Fact (events_of x) [] → Safe z.written z.bases l [] [] start (core_statement f x)
      safe-program x h = (safe-statement x [] [] [] [] before_text (λ d w. no_label d w) h).0
