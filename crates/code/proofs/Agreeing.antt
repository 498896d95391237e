-- The address pass leaves the addresses that the tree has. Tokens rise along a text, so none is set twice; and where a call's or a GOTO's name was found, there the
-- definition's marks lead.
use mathlib.Core.Path.{◌≡◌, refl, sym, ap, subst, ◌∙◌}
use mathlib.Core.Logic.{◌⊎◌, inl, inr}
use mathlib.Core.List.{List, [], ◌∷◌, ◌++◌}
use mathlib.Core.Bool.{Bool, true, false}
use Prim.Native.Nat.{ℕ, ◌+◌, ◌-◌, ◌≤◌, ◌<◌}
use native.Mathlib.Omega.{arith}
use lib.Dec.{eqb}
use lib.ListN.{length, get_or, set, length-set, replicate, length-replicate, get_or-replicate}
use lib.Seq.{get_or-set_same, get_or-set_other}
use borrow.Author.Tests.{eqb-true, eqb-false}
use Rattle.base.specs.Choose.{whether◌then◌else◌}
use Rattle.base.specs.Lists.{◌∈◌, All}
use Rattle.base.proofs.Lists.{all_in}
use Rattle.grammar.specs.Tree.{Assignment, Condition, compared, bare, Declaration, registers, cells, base, Statement, assign, call, apply, block, goto, null, if_then, if_else, while, for, choose, Body, declare, procedure, items, Items, ended, label, item, Choices, over, choice}
use Rattle.grammar.specs.Derives.{is_condition, is_register}
use Rattle.grammar.specs.Events.{Entry, named, celled, itemed, valued, based, Event, edge, route, entry, phrase, mark, entry_declares, labels_onto, labels_of, events_declaration, events_chain, choices_count, events_statement, events_body, events_items, events_choices, events_of}
use Rattle.grammar.specs.Places.{Block, within, Place, enter_name, enter_label, after_all, Along}
use Rattle.grammar.specs.Texts.{Stands, Text}
use Rattle.grammar.proofs.Kept.{keep-operand}
use Rattle.grammar.proofs.Places.{Appends, append-chain, append-declaration, append-statement, append-body, append-choices, leave-chain, after-statement, after-choices, along-parts, IsEntry, block_after, after-entries, labels-stay, declaration-entries}
use Rattle.grammar.proofs.Texts.{text-rises, text-parts}
use Rattle.scopes.specs.Search.{innermost, enter, around, first_token}
use Rattle.scopes.specs.Names.{names_in}
use Rattle.scopes.specs.Labels.{labels_in}
use Rattle.scopes.proofs.Bound.{Within, Bound, Goes}
use Rattle.static_rules.specs.Tables.{Tables}
use Rattle.translation.specs.Instructions.{sizes}
use Rattle.translation.specs.Core.{to_register, compare_with, test_of, control_of, core_statement, core_items, core_choices}
use Rattle.translation.specs.Code.{Mark, head_size, size_of, arms_size, own, mark_at}
use Rattle.code.proofs.Statements.{Agree, AgreeBody, AgreeItems, AgreeChoices}
use Rattle.code.proofs.Addresses.{marks_of, marks_body, marks_items, marks_choices}

-- ── what is changed lies at the tokens from lo up to hi ──

record Changes (lo hi : ℕ) (before after : List ℕ) : Type 0 where
  long : length after ≡ length before
  other : (u : ℕ) → (lo ≤ u → u < hi → ⊥) → get_or after u 0 ≡ get_or before u 0

changes-none : {lo hi : ℕ} (ms : List ℕ) → Changes lo hi ms ms
changes-none ms = record { long = refl; other = λ u n. refl }

changes-set : (ms : List ℕ) (t v : ℕ) → Changes t (t + 1) ms (set ms t v)
changes-set ms t v = record { long = length-set ms t v; other = λ u n. get_or-set_other ms t u v 0 (λ e. n (omega arith) (omega arith)) }

wider : {l h lo hi : ℕ} {a b : List ℕ} → Changes l h a b → (lo ≤ l) × (h ≤ hi) → Changes lo hi a b
wider k s = record { long = k.long; other = λ u n. k.other u (λ x y. let p = s.0 in let q = s.1 in n (omega arith) (omega arith)) }

changes-then : {lo hi : ℕ} {a b c : List ℕ} → Changes lo hi a b → Changes lo hi b c → Changes lo hi a c
changes-then j k = record { long = k.long ∙ j.long; other = λ u n. k.other u n ∙ j.other u n }

module _ (f : Tables) where
  -- ── parts of a text, in which each call and each GOTO goes to what is open at its place ──

  abbrev Part : List Event → Place → ℕ → ℕ → Type 0
  Part es pl lo hi = Text f.kinds es pl lo hi × Along (Goes f.found f.goes) es pl

  rises : (es : List Event) (pl : Place) (lo hi : ℕ) → Part es pl lo hi → lo ≤ hi
  rises es pl lo hi h = text-rises f.kinds es pl lo hi h.0

  -- what comes first, at tokens before some m, and what follows it, at the place that it leaves
  record Parted (out : List Event → List Event) (k : List Event) (pl to : Place) (lo hi : ℕ) : Type 0 where
    m : ℕ
    low : lo ≤ m
    high : m ≤ hi
    one : Part (out []) pl lo m
    next : Part k to m hi

  part : (out : List Event → List Event) → Appends out → (k : List Event) (pl to : Place) (lo hi : ℕ) → after_all (out []) pl ≡ to → Part (out k) pl lo hi → Parted out k pl to lo hi
  part out a k pl to lo hi e (t, g) =
      let (m, one, two) = text-parts f.kinds out a k pl lo hi t in
      let (first, second) = along-parts (Goes f.found f.goes) out a k pl g in
      let last : Part k to m hi = subst (λ (q : Place). Part k q m hi) e (two, second) in
      record { m = m; low = rises (out []) pl lo m (one, first); high = rises k to m hi last; one = (one, first); next = last }

  part-statement : (x : Statement) (k : List Event) (pl : Place) (lo hi : ℕ) → Part (events_statement x k) pl lo hi → Parted (events_statement x) k pl pl lo hi
  unfolding after_all
  part-statement x k pl lo hi h = part (events_statement x) (append-statement x) k pl pl lo hi (after-statement x [] pl) h

  part-chain : (a : Assignment) (k : List Event) (pl : Place) (lo hi : ℕ) → Part (events_chain a k) pl lo hi → Parted (events_chain a) k pl pl lo hi
  unfolding after_all
  part-chain a k pl lo hi h = part (events_chain a) (append-chain a) k pl pl lo hi (leave-chain a [] pl) h

  part-choices : (n : ℕ) (xs : Choices) (k : List Event) (pl : Place) (lo hi : ℕ) → Part (events_choices n xs k) pl lo hi → Parted (events_choices n xs) k pl pl lo hi
  unfolding after_all
  part-choices n xs k pl lo hi h = part (events_choices n xs) (append-choices n xs) k pl pl lo hi (after-choices n xs [] pl) h

  part_body : (x : Body) (k : List Event) (pl : Place) (lo hi : ℕ) → Part (events_body x k) pl lo hi → Parted (events_body x) k pl (after_all (events_body x []) pl) lo hi
  part_body x k pl lo hi h = part (events_body x) (append-body x) k pl _ lo hi refl h

  -- the block after a declaration
  abbrev declared_in : Declaration → Block → Block
  declared_in d b = block_after (events_declaration d []) b

  part-declaration : (d : Declaration) (k : List Event) (b : Block) (pl : Place) (lo hi : ℕ) → Part (events_declaration d k) (within b ∷ pl) lo hi
      → Parted (events_declaration d) k (within b ∷ pl) (within (declared_in d b) ∷ pl) lo hi
  part-declaration d k b pl lo hi h = part (events_declaration d) (append-declaration d) k _ _ lo hi (after-entries (events_declaration d []) (declaration-entries d) b pl) h

  condition-strict : (c : Condition) (i j : ℕ) → is_condition f.kinds c i j → i < j
  unfolding is_condition
  condition-strict (compared n r a) i j (e, h, (y, z, k)) = (let u = (keep-operand {kinds = f.kinds} {others = f.kinds} a).rises k in omega arith)
  condition-strict (bare r) i j (e, h, q) = omega arith

  -- ── what the pass changes ──

  mutual
    unfolding Text Along events_statement marks_of

    changes-statement : (x : Statement) (pl : Place) (lo hi p : ℕ) (ms : List ℕ) → Part (events_statement x []) pl lo hi → Changes lo hi ms (marks_of f x p ms)
    changes-statement (assign a) pl lo hi p ms h = changes-none ms
    changes-statement (call n) pl lo hi p ms h = changes-none ms
    changes-statement (apply n a xs) pl lo hi p ms h = changes-none ms
    changes-statement (block t b) pl lo hi p ms ((s, h), (u, g)) =
        let q = part_body b _ _ s.to hi (h, g) in
        wider (changes-body b _ pl s.to q.m p ms q.one) (omega arith)
    changes-statement (goto t n) pl lo hi p ms h = changes-none ms
    changes-statement null pl lo hi p ms h = changes-none ms
    changes-statement (if_then t c x) pl lo hi p ms ((s, h), (u, g)) =
        let r = condition-strict c _ _ s.is.1 in
        let q = part-statement x _ pl s.to hi (h, g) in
        changes-then (wider (changes-statement x pl s.to q.m _ ms q.one) (omega arith)) (wider (changes-set _ t _) (omega arith))
    changes-statement (if_else t c x e y) pl lo hi p ms ((s, h), (u, g)) =
        let r = condition-strict c _ _ s.is.1 in
        let q = part-statement x _ pl s.to hi (h, g) in
        let o = q.next.0.0 in
        let z = part-statement y _ pl o.to hi (q.next.0.1, q.next.1.1) in
        changes-then (wider (changes-statement x pl s.to q.m _ ms q.one) (omega arith))
        (changes-then (wider (changes-set _ t _) (omega arith))
        (changes-then (wider (changes-statement y pl o.to z.m _ _ z.one) (omega arith)) (wider (changes-set _ (t + 1) _) (omega arith))))
    changes-statement (while t c x) pl lo hi p ms ((l, (s, h)), (v, (u, g))) =
        let r = condition-strict c _ _ s.is.1 in
        let q = part-statement x _ pl s.to hi (h, g) in
        changes-then (wider (changes-set ms (t + 1) _) (omega arith))
        (changes-then (wider (changes-statement x pl s.to q.m _ _ q.one) (omega arith)) (wider (changes-set _ t _) (omega arith)))
    changes-statement (for t a v l x) pl lo hi p ms ((s, h), (u, g)) =
        let c = part-chain a _ pl s.to hi (h, g) in
        let o = c.next.0.0 in
        let r = (keep-operand {kinds = f.kinds} {others = f.kinds} l).rises o.is.1.2.1 in
        let q = part-statement x _ pl o.to hi (c.next.0.1, c.next.1.1) in
        changes-then (wider (changes-set ms v _) (omega arith))
        (changes-then (wider (changes-set _ (v + 1) _) (omega arith))
        (changes-then (wider (changes-statement x pl o.to q.m _ _ q.one) (omega arith)) (wider (changes-set _ (v - 1) _) (omega arith))))
    changes-statement (choose t n xs) pl lo hi p ms ((l, (s, h)), (v, (u, g))) =
        let e = s.is in
        let q = part-choices n xs _ pl s.to hi (h, g) in
        changes-then (wider (changes-set ms n _) (omega arith))
        (changes-then (wider (changes-choices n xs pl s.to q.m _ _ q.one) (omega arith)) (wider (changes-set _ (n + 1) _) (omega arith)))

    changes-body : (x : Body) (b : Block) (pl : Place) (lo hi p : ℕ) (ms : List ℕ) → Part (events_body x []) (within b ∷ pl) lo hi → Changes lo hi ms (marks_body f x p ms)
    changes-body (declare (registers rs) x) b pl lo hi p ms h =
        let q = part-declaration (registers rs) _ b pl lo hi h in
        wider (changes-body x _ pl q.m hi p ms q.next) (omega arith)
    changes-body (declare (cells c w is) x) b pl lo hi p ms h =
        let q = part-declaration (cells c w is) _ b pl lo hi h in
        wider (changes-body x _ pl q.m hi p ms q.next) (omega arith)
    changes-body (declare (base n) x) b pl lo hi p ms h =
        let q = part-declaration (base n) _ b pl lo hi h in
        wider (changes-body x _ pl q.m hi (p + 4) ms q.next) (omega arith)
    changes-body (procedure n r x y) b pl lo hi p ms ((s, h), (u, g)) =
        let q = part-statement x _ _ s.to hi (h, g) in
        let o = q.next.0.0 in
        let z = rises (events_body y []) (enter_name n (within b ∷ pl)) o.to hi (q.next.0.1, q.next.1.1) in
        changes-then (wider (changes-set ms n _) (omega arith))
        (changes-then (wider (changes-statement x _ s.to q.m _ _ q.one) (omega arith))
        (changes-then (wider (changes-set _ (n + 1) _) (omega arith)) (wider (changes-body y _ pl o.to hi _ _ (q.next.0.1, q.next.1.1)) (omega arith))))
    changes-body (items is) b pl lo hi p ms h = changes-items is b pl lo hi p ms h

    changes-items : (is : Items) (b : Block) (pl : Place) (lo hi p : ℕ) (ms : List ℕ) → Part (events_items is []) (within b ∷ pl) lo hi → Changes lo hi ms (marks_items f is p ms)
    changes-items ended b pl lo hi p ms h = changes-none ms
    changes-items (label l is) b pl lo hi p ms ((s, h), (u, g)) =
        let z = rises (events_items is []) (enter_label l (within b ∷ pl)) s.to hi (h, g) in
        changes-then (wider (changes-set ms l _) (omega arith)) (wider (changes-items is _ pl s.to hi _ _ (h, g)) (omega arith))
    changes-items (item x is) b pl lo hi p ms h =
        let q = part-statement x _ _ lo hi h in
        changes-then (wider (changes-statement x _ lo q.m p ms q.one) (omega arith)) (wider (changes-items is b pl q.m hi _ _ q.next) (omega arith))

    changes-choices : (n : ℕ) (xs : Choices) (pl : Place) (lo hi p : ℕ) (ms : List ℕ) → Part (events_choices n xs []) pl lo hi → Changes lo hi ms (marks_choices f xs p ms)
    changes-choices n over pl lo hi p ms h = changes-none ms
    changes-choices n (choice x xs) pl lo hi p ms h =
        let q = part-statement x _ pl lo hi h in
        let o = q.next.0.0 in
        let z = rises (events_choices n xs []) pl o.to hi (q.next.0.1, q.next.1.1) in
        changes-then (wider (changes-statement x pl lo q.m p ms q.one) (omega arith)) (wider (changes-choices n xs pl o.to hi _ _ (q.next.0.1, q.next.1.1)) (omega arith))

-- ── the marks that the pass leaves in the end ──

module _ (marks : List ℕ) where
  -- a part of the pass, from `before` to `after`: it finds no address at its tokens, and what it leaves there stays
  record Final (lo hi : ℕ) (before after : List ℕ) : Type 0 where
    kept : (u : ℕ) → lo ≤ u → u < hi → get_or marks u 0 ≡ get_or after u 0
    blank : (u : ℕ) → lo ≤ u → u < hi → get_or before u 0 ≡ 0
    room : hi ≤ length before

  -- tokens inside those from lo up to hi, and none of those from l up to h
  abbrev Beside : (lo' hi' lo hi l h : ℕ) → Type 0
  Beside lo' hi' lo hi l h = (lo ≤ lo') × (hi' ≤ hi) × ((u : ℕ) → lo' ≤ u → u < hi' → l ≤ u → u < h → ⊥)

  narrower : {lo hi : ℕ} {a b : List ℕ} (lo' hi' : ℕ) → Final lo hi a b → (lo ≤ lo') × (hi' ≤ hi) → Final lo' hi' a b
  narrower lo' hi' k s =
      let p = s.0 in
      let q = s.1 in
      let n = k.room in
      record { kept = λ u x y. k.kept u (omega arith) (omega arith); blank = λ u x y. k.blank u (omega arith) (omega arith); room = omega arith }

  without-last : {lo hi l h : ℕ} {a b c : List ℕ} (lo' hi' : ℕ) → Final lo hi a c → Changes l h b c → Beside lo' hi' lo hi l h → Final lo' hi' a b
  without-last lo' hi' k g s =
      let p = s.0 in
      let q = s.1 in
      let n = k.room in
      record {
        kept = λ u x y. k.kept u (omega arith) (omega arith) ∙ g.other u (s.2 u x y);
        blank = λ u x y. k.blank u (omega arith) (omega arith);
        room = omega arith;
      }

  without-first : {lo hi l h : ℕ} {a b c : List ℕ} (lo' hi' : ℕ) → Final lo hi a c → Changes l h a b → Beside lo' hi' lo hi l h → Final lo' hi' b c
  without-first lo' hi' k g s =
      let p = s.0 in
      let q = s.1 in
      let n = k.room in
      let m = g.long in
      record {
        kept = λ u x y. k.kept u (omega arith) (omega arith);
        blank = λ u x y. g.other u (s.2 u x y) ∙ k.blank u (omega arith) (omega arith);
        room = omega arith;
      }

  set-final : {t h : ℕ} (ms : List ℕ) (v : ℕ) → Final t h ms (set ms t v) → t < h → get_or marks t 0 ≡ v
  set-final {t} ms v k s = let n = k.room in k.kept t (omega arith) s ∙ get_or-set_same ms t v 0 (omega arith)

  -- a token at which the part sets none
  unset : {lo hi l h : ℕ} {a b : List ℕ} → Final lo hi a b → Changes l h a b → (u : ℕ) → lo ≤ u → u < hi → (l ≤ u → u < h → ⊥) → get_or marks u 0 ≡ 0
  unset k g u x y n = k.kept u x y ∙ (g.other u n ∙ k.blank u x y)

  -- ── the names of a block, and the marks in force ──

  -- of each name in reach, and of each token with no address, the definition's mark is where its address leads
  record Told (bs : List (List ℕ)) (ps : List Mark) : Type 0 where
    told : (d : ℕ) → Within d bs ⊎ (get_or marks d 0 ≡ 0) → get_or marks d 0 ≡ mark_at ps d

  told_none : Told [] []
  unfolding Within mark_at
  told_none = record { told = by }
    where
      by : (d : ℕ) → Within d [] ⊎ (get_or marks d 0 ≡ 0) → get_or marks d 0 ≡ mark_at [] d
      by d (inl i) = absurd i
      by d (inr e) = e

  told-bound : {bs : List (List ℕ)} {ps : List Mark} (d : ℕ) → get_or marks 0 0 ≡ 0 → Told bs ps → Bound d bs → get_or marks d 0 ≡ mark_at ps d
  told-bound d z t (inl e) = t.told d (inr (ap (λ (u : ℕ). get_or marks u 0) e ∙ z))
  told-bound d z t (inr i) = t.told d (inl i)

  told-block : {bs : List (List ℕ)} {ps : List Mark} → Told bs ps → Told ([] ∷ bs) ps
  unfolding Within
  told-block {bs} {ps} t = record { told = by }
    where
      by : (d : ℕ) → Within d ([] ∷ bs) ⊎ (get_or marks d 0 ≡ 0) → get_or marks d 0 ≡ mark_at ps d
      by d (inl (inl i)) = absurd i
      by d (inl (inr i)) = t.told d (inl i)
      by d (inr e) = t.told d (inr e)

  within-enter : (d n : ℕ) (bs : List (List ℕ)) → Within d (enter n bs) → (d ≡ n) ⊎ Within d bs
  unfolding Within
  within-enter d n [] i = absurd i
  within-enter d n (b ∷ bs) (inl (inl e)) = inl e
  within-enter d n (b ∷ bs) (inl (inr i)) = inr (inl i)
  within-enter d n (b ∷ bs) (inr i) = inr (inr i)

  -- a name more, with no address
  told-enter : {bs : List (List ℕ)} {ps : List Mark} (n : ℕ) → get_or marks n 0 ≡ 0 → Told bs ps → Told (enter n bs) ps
  told-enter {bs} {ps} n z t = record { told = by }
    where
      entered : (d : ℕ) → (d ≡ n) ⊎ Within d bs → get_or marks d 0 ≡ mark_at ps d
      entered d (inl e) = t.told d (inr (ap (λ (u : ℕ). get_or marks u 0) e ∙ z))
      entered d (inr i) = t.told d (inl i)

      by : (d : ℕ) → Within d (enter n bs) ⊎ (get_or marks d 0 ≡ 0) → get_or marks d 0 ≡ mark_at ps d
      by d (inl i) = entered d (within-enter d n bs i)
      by d (inr e) = t.told d (inr e)

  -- a mark more
  marked : (n q d : ℕ) (ps : List Mark) → get_or marks n 0 ≡ q → ((n ≡ d → ⊥) → get_or marks d 0 ≡ mark_at ps d) → get_or marks d 0 ≡ mark_at (record { name = n; at = q } ∷ ps) d
  unfolding mark_at
  marked n q d ps e g = go (eqb n d) refl
    where
      go : (b : Bool) → eqb n d ≡ b → get_or marks d 0 ≡ (whether b then q else mark_at ps d)
      go true h = ap (λ (u : ℕ). get_or marks u 0) (sym (eqb-true n d h)) ∙ e
      go false h = g (eqb-false n d h)

  told-procedure : {bs : List (List ℕ)} {ps : List Mark} (n q : ℕ) → get_or marks n 0 ≡ q → Told bs ps → Told (enter n bs) (record { name = n; at = q } ∷ ps)
  told-procedure {bs} {ps} n q e t = record { told = λ d i. marked n q d ps e (by d i) }
    where
      entered : (d : ℕ) → (n ≡ d → ⊥) → (d ≡ n) ⊎ Within d bs → get_or marks d 0 ≡ mark_at ps d
      entered d a (inl e) = absurd (a (sym e))
      entered d a (inr i) = t.told d (inl i)

      by : (d : ℕ) → Within d (enter n bs) ⊎ (get_or marks d 0 ≡ 0) → (n ≡ d → ⊥) → get_or marks d 0 ≡ mark_at ps d
      by d (inl i) a = entered d a (within-enter d n bs i)
      by d (inr z) a = t.told d (inr z)

  module _ (f : Tables) where
    -- ── declared registers and cells have no address ──

    told-entry : (d : Entry) (b : Block) (pl : Place) (lo : ℕ) (s : Stands f.kinds (entry d) (within b ∷ pl) lo) → ((u : ℕ) → s.from ≤ u → u < s.to → get_or marks u 0 ≡ 0)
        → (bs : List (List ℕ)) (ps : List Mark) → Told (b.names ∷ bs) ps → Told ((entry_declares d ++ b.names) ∷ bs) ps
    unfolding is_register
    told-entry (named r) b pl lo s z bs ps t = told-enter r.name (z r.name (omega arith) (omega arith)) t
    told-entry (celled c w) b pl lo s z bs ps t = t
    told-entry (itemed c w i) b pl lo s z bs ps t = told-enter i.name (z i.name (omega arith) (omega arith)) t
    told-entry (valued n) b pl lo s z bs ps t = t
    told-entry (based n) b pl lo s z bs ps t = t

    told_entries : (es : List Event) → All IsEntry es → (b : Block) (pl : Place) (lo hi : ℕ) → Text f.kinds es (within b ∷ pl) lo hi → ((u : ℕ) → lo ≤ u → u < hi → get_or marks u 0 ≡ 0)
        → (bs : List (List ℕ)) (ps : List Mark) → Told (b.names ∷ bs) ps → Told ((block_after es b).names ∷ bs) ps
    unfolding Text block_after
    told_entries [] a b pl lo hi h z bs ps t = t
    told_entries (edge x ∷ es) (a, more) b pl lo hi h z bs ps t = absurd a
    told_entries (route r ∷ es) (a, more) b pl lo hi h z bs ps t = absurd a
    told_entries (entry d ∷ es) (a, more) b pl lo hi (s, h) z bs ps t =
        let up = text-rises f.kinds es _ s.to hi h in
        told_entries es more _ pl s.to hi h (λ u x y. z u (omega arith) y) bs ps (told-entry d b pl lo s (λ u x y. z u (omega arith) (omega arith)) bs ps t)
    told_entries (phrase x ∷ es) (a, more) b pl lo hi h z bs ps t = absurd a
    told_entries (mark m ∷ es) (a, more) b pl lo hi h z bs ps t = absurd a

    -- after a declaration, where the rest of the body leaves its tokens
    told-declared : (d : Declaration) (x : Body) (b : Block) (pl : Place) (lo hi p : ℕ) (ms : List ℕ)
        (q : Parted f (events_declaration d) (events_body x []) (within b ∷ pl) (within (declared_in f d b) ∷ pl) lo hi)
        → Final lo hi ms (marks_body f x p ms) → (ps : List Mark) → Told (b.names ∷ names_in pl) ps → Told ((declared_in f d b).names ∷ names_in pl) ps
    told-declared d x b pl lo hi p ms q k ps t =
        told_entries (events_declaration d []) (declaration-entries d) b pl lo q.m q.one.0
        (λ u a c. unset k (changes-body f x _ pl q.m hi p ms q.next) u a (omega arith) (λ l h. omega arith)) (names_in pl) ps t

    -- ── the labels of a block ──

    -- with the labels es before them, where whatever else is asked of d leads by the marks around
    labels-led : (is : Items) (es : List ℕ) (b : Block) (pl : Place) (lo hi p : ℕ) (ms : List ℕ) → Part f (events_items is []) (within b ∷ pl) lo hi → Final lo hi ms (marks_items f is p ms)
        → (ls : List Mark) (d : ℕ) (Q : Type 0) → ((d ∈ es) ⊎ Q → get_or marks d 0 ≡ mark_at ls d) → (d ∈ labels_onto is es) ⊎ Q → get_or marks d 0 ≡ mark_at (own (core_items f is) p ++ ls) d
    unfolding Text Along events_statement marks_of core_statement own
    labels-led ended es b pl lo hi p ms h k ls d Q g i = g i
    labels-led (label l is) es b pl lo hi p ms ((s, h), (v, w)) k ls d Q g i =
        let z = rises f (events_items is []) (enter_label l (within b ∷ pl)) s.to hi (h, w) in
        marked l p d _ (set-final ms p (without-last l (l + 1) k (changes-items f is _ pl s.to hi p _ (h, w)) (omega arith)) (omega arith))
        (λ n. labels-led is (l ∷ es) _ pl s.to hi p (set ms l p) (h, w) (without-first s.to hi k (changes-set ms l p) (omega arith)) ls d Q (earlier n) i)
      where
        earlier : (l ≡ d → ⊥) → ((d ≡ l) ⊎ (d ∈ es)) ⊎ Q → get_or marks d 0 ≡ mark_at ls d
        earlier n (inl (inl e)) = absurd (n (sym e))
        earlier n (inl (inr i)) = g (inl i)
        earlier n (inr q) = g (inr q)
    labels-led (item x is) es b pl lo hi p ms h k ls d Q g i =
        let q = part-statement f x _ _ lo hi h in
        labels-led is es b pl q.m hi _ _ q.next (without-first q.m hi k (changes-statement f x _ lo q.m p ms q.one) (omega arith)) ls d Q g i

    told-labels : (is : Items) (b : Block) (pl : Place) (lo hi p : ℕ) (ms : List ℕ) → Part f (events_items is []) (within b ∷ pl) lo hi → Final lo hi ms (marks_items f is p ms) → (bs : List (List ℕ))
        (ls : List Mark) → Told bs ls → Told (labels_onto is [] ∷ bs) (own (core_items f is) p ++ ls)
    unfolding Within
    told-labels is b pl lo hi p ms h k bs ls t = record { told = λ d i. labels-led is [] b pl lo hi p ms h k ls d (Within d bs ⊎ (get_or marks d 0 ≡ 0)) (around d) (by d i) }
      where
        around : (d : ℕ) → ⊥ ⊎ (Within d bs ⊎ (get_or marks d 0 ≡ 0)) → get_or marks d 0 ≡ mark_at ls d
        around d (inl i) = absurd i
        around d (inr i) = t.told d i

        by : (d : ℕ) → Within d (labels_onto is [] ∷ bs) ⊎ (get_or marks d 0 ≡ 0) → (d ∈ labels_onto is []) ⊎ (Within d bs ⊎ (get_or marks d 0 ≡ 0))
        by d (inl (inl i)) = inl i
        by d (inl (inr i)) = inr (inl i)
        by d (inr e) = inr (inr e)

    -- ── the addresses of a tree ──

    -- token 0, where no name was found, has no address
    module _ (zero : get_or marks 0 0 ≡ 0) where
      mutual
        unfolding Text Along events_statement marks_of Agree

        agree-statement : (x : Statement) (pl : Place) (lo hi p : ℕ) (ms : List ℕ) → Part f (events_statement x []) pl lo hi → Final lo hi ms (marks_of f x p ms)
            → (ls ps : List Mark) → Told (names_in pl) ps → Told (labels_in pl) ls → Agree f marks ls ps x p
        agree-statement (assign a) pl lo hi p ms h k ls ps n l = tt
        agree-statement (call t) pl lo hi p ms (h, (b, g)) k ls ps n l = told-bound _ zero n b
        agree-statement (apply t a xs) pl lo hi p ms h k ls ps n l = tt
        agree-statement (block t x) pl lo hi p ms ((s, h), (u, g)) k ls ps n l =
            let q = part_body f x _ _ s.to hi (h, g) in
            agree-body x _ pl s.to q.m p ms refl q.one (narrower s.to q.m k (omega arith)) ls ps (told-block n) l
        agree-statement (goto t m) pl lo hi p ms (h, (b, g)) k ls ps n l = told-bound _ zero l b
        agree-statement null pl lo hi p ms h k ls ps n l = tt
        agree-statement (if_then t c x) pl lo hi p ms ((s, h), (u, g)) k ls ps n l =
            let r = condition-strict f c _ _ s.is.1 in
            let q = part-statement f x _ pl s.to hi (h, g) in
            let p1 = p + (sizes (test_of f c) + 4) in
            let cx = changes-statement f x pl s.to q.m p1 ms q.one in
            let ct = changes-set (marks_of f x p1 ms) t (p + (sizes (test_of f c) + (4 + size_of (core_statement f x)))) in (
              set-final _ _ (without-first t (t + 1) k cx (omega arith)) (omega arith),
              agree-statement x pl s.to q.m p1 ms q.one (without-last s.to q.m k ct (omega arith)) ls ps n l,
            )
        agree-statement (if_else t c x e y) pl lo hi p ms ((s, h), (u, g)) k ls ps n l =
            let r = condition-strict f c _ _ s.is.1 in
            let q = part-statement f x _ pl s.to hi (h, g) in
            let o = q.next.0.0 in
            let z = part-statement f y _ pl o.to hi (q.next.0.1, q.next.1.1) in
            let p1 = p + (sizes (test_of f c) + 4) in
            let p2 = p + (sizes (test_of f c) + (4 + (size_of (core_statement f x) + 4))) in
            let p3 = p + (sizes (test_of f c) + (4 + (size_of (core_statement f x) + (4 + size_of (core_statement f y))))) in
            let m1 = marks_of f x p1 ms in
            let cx = changes-statement f x pl s.to q.m p1 ms q.one in
            let ct = changes-set m1 t p2 in
            let cy = changes-statement f y pl o.to z.m p2 (set m1 t p2) z.one in
            let cu = changes-set (marks_of f y p2 (set m1 t p2)) (t + 1) p3 in (
              set-final _ _ (without-first t (t + 1) (without-last t (t + 1) (without-last t (t + 1) k cu (omega arith)) cy (omega arith)) cx (omega arith)) (omega arith),
              set-final _ _ (without-first (t + 1) (t + 2) (without-first (t + 1) (t + 2) (without-first (t + 1) (t + 2) k cx (omega arith)) ct (omega arith)) cy (omega arith)) (omega arith),
              agree-statement x pl s.to q.m p1 ms q.one
                  (without-last s.to q.m (without-last s.to q.m (without-last s.to q.m k cu (omega arith)) cy (omega arith)) ct (omega arith)) ls ps n l,
              agree-statement y pl o.to z.m p2 _ z.one
                  (without-first o.to z.m (without-first o.to z.m (without-last o.to z.m k cu (omega arith)) cx (omega arith)) ct (omega arith)) ls ps n l,
            )
        agree-statement (while t c x) pl lo hi p ms ((w, (s, h)), (v, (u, g))) k ls ps n l =
            let r = condition-strict f c _ _ s.is.1 in
            let q = part-statement f x _ pl s.to hi (h, g) in
            let p1 = p + (sizes (test_of f c) + 4) in
            let cu = changes-set ms (t + 1) p in
            let cx = changes-statement f x pl s.to q.m p1 (set ms (t + 1) p) q.one in
            let ct = changes-set (marks_of f x p1 (set ms (t + 1) p)) t (p + (sizes (test_of f c) + (4 + (size_of (core_statement f x) + 4)))) in (
              set-final _ _ (without-first t (t + 1) (without-first t (t + 1) k cu (omega arith)) cx (omega arith)) (omega arith),
              set-final _ _ (without-last (t + 1) (t + 2) (without-last (t + 1) (t + 2) k ct (omega arith)) cx (omega arith)) (omega arith),
              agree-statement x pl s.to q.m p1 _ q.one (without-first s.to q.m (without-last s.to q.m k ct (omega arith)) cu (omega arith)) ls ps n l,
            )
        agree-statement (for t a v o x) pl lo hi p ms ((s, h), (u, g)) k ls ps n l =
            let c = part-chain f a _ pl s.to hi (h, g) in
            let b = c.next.0.0 in
            let r = (keep-operand {kinds = f.kinds} {others = f.kinds} o).rises b.is.1.2.1 in
            let q = part-statement f x _ pl b.to hi (c.next.0.1, c.next.1.1) in
            let p0 = p + sizes (to_register f (control_of f a) a) in
            let p1 = p + (sizes (to_register f (control_of f a) a) + (sizes (compare_with f (control_of f a) o) + 4)) in
            let p2 = p + (sizes (to_register f (control_of f a) a) + (sizes (compare_with f (control_of f a) o) + (4 + (size_of (core_statement f x) + 8)))) in
            let m1 = set ms v p0 in
            let m2 = set m1 (v + 1) (control_of f a) in
            let cv = changes-set ms v p0 in
            let cr = changes-set m1 (v + 1) (control_of f a) in
            let cx = changes-statement f x pl b.to q.m p1 m2 q.one in
            let ce = changes-set (marks_of f x p1 m2) (v - 1) p2 in (
              set-final _ _ (without-first (v - 1) v (without-first (v - 1) v (without-first (v - 1) v k cv (omega arith)) cr (omega arith)) cx (omega arith)) (omega arith),
              set-final _ _ (without-last v (v + 1) (without-last v (v + 1) (without-last v (v + 1) k ce (omega arith)) cx (omega arith)) cr (omega arith)) (omega arith),
              set-final _ _ (without-last (v + 1) (v + 2) (without-last (v + 1) (v + 2) (without-first (v + 1) (v + 2) k cv (omega arith)) ce (omega arith)) cx (omega arith)) (omega arith),
              agree-statement x pl b.to q.m p1 m2 q.one
                  (without-first b.to q.m (without-first b.to q.m (without-last b.to q.m k ce (omega arith)) cv (omega arith)) cr (omega arith)) ls ps n l,
            )
        agree-statement (choose t m xs) pl lo hi p ms ((w, (s, h)), (v, (u, g))) k ls ps n l =
            let e = s.is in
            let q = part-choices f m xs _ pl s.to hi (h, g) in
            let p1 = p + head_size (choices_count xs) in
            let p2 = p + (head_size (choices_count xs) + arms_size (core_choices f xs)) in
            let m1 = set ms m p1 in
            let cm = changes-set ms m p1 in
            let cx = changes-choices f m xs pl s.to q.m p1 m1 q.one in
            let ce = changes-set (marks_choices f xs p1 m1) (m + 1) p2 in (
              set-final _ _ (without-first (m + 1) (m + 2) (without-first (m + 1) (m + 2) k cm (omega arith)) cx (omega arith)) (omega arith),
              set-final _ _ (without-last m (m + 1) (without-last m (m + 1) k ce (omega arith)) cx (omega arith)) (omega arith),
              agree-choices m xs pl s.to q.m p1 m1 q.one (without-first s.to q.m (without-last s.to q.m k ce (omega arith)) cm (omega arith)) ls ps n l,
            )

        agree-body : (x : Body) (b : Block) (pl : Place) (lo hi p : ℕ) (ms : List ℕ) → b.labels ≡ labels_of x [] → Part f (events_body x []) (within b ∷ pl) lo hi → Final lo hi ms (marks_body f x p ms)
            → (ls ps : List Mark) → Told (b.names ∷ names_in pl) ps → Told (labels_in pl) ls → AgreeBody f marks ls ps x p
        agree-body (declare (registers rs) x) b pl lo hi p ms e h k ls ps n l =
            let q = part-declaration f (registers rs) _ b pl lo hi h in
            agree-body x _ pl q.m hi p ms (labels-stay (events_declaration (registers rs) []) b ∙ e) q.next (narrower q.m hi k (omega arith)) ls ps
            (told-declared (registers rs) x b pl lo hi p ms q k ps n) l
        agree-body (declare (cells c w is) x) b pl lo hi p ms e h k ls ps n l =
            let q = part-declaration f (cells c w is) _ b pl lo hi h in
            agree-body x _ pl q.m hi p ms (labels-stay (events_declaration (cells c w is) []) b ∙ e) q.next (narrower q.m hi k (omega arith)) ls ps
            (told-declared (cells c w is) x b pl lo hi p ms q k ps n) l
        agree-body (declare (base d) x) b pl lo hi p ms e h k ls ps n l =
            let q = part-declaration f (base d) _ b pl lo hi h in
            agree-body x _ pl q.m hi (p + 4) ms (labels-stay (events_declaration (base d) []) b ∙ e) q.next (narrower q.m hi k (omega arith)) ls ps
            (told-declared (base d) x b pl lo hi (p + 4) ms q k ps n) l
        agree-body (procedure t r x y) b pl lo hi p ms e ((s, h), (u, g)) k ls ps n l =
            let q = part-statement f x _ _ s.to hi (h, g) in
            let o = q.next.0.0 in
            let rest : Part f (events_body y []) (enter_name t (within b ∷ pl)) o.to hi = (q.next.0.1, q.next.1.1) in
            let z = rises f (events_body y []) (enter_name t (within b ∷ pl)) o.to hi rest in
            let p1 = p + (4 + (size_of (core_statement f x) + 2)) in
            let m1 = set ms t (p + 4) in
            let m2 = marks_of f x (p + 4) m1 in
            let ct = changes-set ms t (p + 4) in
            let cx = changes-statement f x _ s.to q.m (p + 4) m1 q.one in
            let cb = changes-set m2 (t + 1) p1 in
            let cy = changes-body f y _ pl o.to hi p1 (set m2 (t + 1) p1) rest in
            let mine = set-final _ _ (without-last t (t + 1) (without-last t (t + 1) (without-last t (t + 1) k cy (omega arith)) cb (omega arith)) cx (omega arith)) (omega arith) in
            let known = told-procedure t (p + 4) mine n in (
              set-final _ _ (without-first (t + 1) (t + 2) (without-first (t + 1) (t + 2) (without-last (t + 1) (t + 2) k cy (omega arith)) ct (omega arith)) cx (omega arith)) (omega arith),
              agree-statement x _ s.to q.m (p + 4) m1 q.one
                  (without-first s.to q.m (without-last s.to q.m (without-last s.to q.m k cy (omega arith)) cb (omega arith)) ct (omega arith)) [] _ known told_none,
              agree-body y _ pl o.to hi p1 _ e rest
                  (without-first o.to hi (without-first o.to hi (without-first o.to hi k ct (omega arith)) cx (omega arith)) cb (omega arith)) ls _ known l,
            )
        agree-body (items is) b pl lo hi p ms e h k ls ps n l =
            agree-items is b pl lo hi p ms h k _ ps n (subst (λ (mine : List ℕ). Told (mine ∷ labels_in pl) (own (core_items f is) p ++ ls)) (sym e)
            (told-labels is b pl lo hi p ms h k (labels_in pl) ls l))

        agree-items : (is : Items) (b : Block) (pl : Place) (lo hi p : ℕ) (ms : List ℕ) → Part f (events_items is []) (within b ∷ pl) lo hi → Final lo hi ms (marks_items f is p ms)
            → (ls ps : List Mark) → Told (b.names ∷ names_in pl) ps → Told (b.labels ∷ labels_in pl) ls → AgreeItems f marks ls ps is p
        agree-items ended b pl lo hi p ms h k ls ps n l = tt
        agree-items (label t is) b pl lo hi p ms ((s, h), (u, g)) k ls ps n l =
            let z = rises f (events_items is []) (enter_label t (within b ∷ pl)) s.to hi (h, g) in
            agree-items is _ pl s.to hi p _ (h, g) (without-first s.to hi k (changes-set ms t p) (omega arith)) ls ps n l
        agree-items (item x is) b pl lo hi p ms h k ls ps n l =
            let q = part-statement f x _ _ lo hi h in
            let p1 = p + size_of (core_statement f x) in
            let cx = changes-statement f x _ lo q.m p ms q.one in
            let ci = changes-items f is b pl q.m hi p1 (marks_of f x p ms) q.next in (
              agree-statement x _ lo q.m p ms q.one (without-last lo q.m k ci (omega arith)) ls ps n l,
              agree-items is b pl q.m hi p1 _ q.next (without-first q.m hi k cx (omega arith)) ls ps n l,
            )

        agree-choices : (m : ℕ) (xs : Choices) (pl : Place) (lo hi p : ℕ) (ms : List ℕ) → Part f (events_choices m xs []) pl lo hi → Final lo hi ms (marks_choices f xs p ms)
            → (ls ps : List Mark) → Told (names_in pl) ps → Told (labels_in pl) ls → AgreeChoices f marks ls ps xs p
        agree-choices m over pl lo hi p ms h k ls ps n l = tt
        agree-choices m (choice x xs) pl lo hi p ms h k ls ps n l =
            let q = part-statement f x _ pl lo hi h in
            let o = q.next.0.0 in
            let rest : Part f (events_choices m xs []) pl o.to hi = (q.next.0.1, q.next.1.1) in
            let z = rises f (events_choices m xs []) pl o.to hi rest in
            let p1 = p + (size_of (core_statement f x) + 4) in
            let cx = changes-statement f x pl lo q.m p ms q.one in
            let ci = changes-choices f m xs pl o.to hi p1 (marks_of f x p ms) rest in (
              agree-statement x pl lo q.m p ms q.one (without-last lo q.m k ci (omega arith)) ls ps n l,
              agree-choices m xs pl o.to hi p1 _ rest (without-first o.to hi k cx (omega arith)) ls ps n l,
            )

-- ── programs ──

-- the names around a program stand before its tokens
pub agree-program :
    (f : Tables) (x : Statement) (lo hi n : ℕ) → Text f.kinds (events_of x) [] lo hi → Along (Goes f.found f.goes) (events_of x) [] → first_token ≤ lo → hi ≤ n
    → Agree f (marks_of f x 0 (replicate n 0)) [] [] x 0
unfolding Within mark_at
agree-program f x lo hi n h b l r =
    let o = text-rises f.kinds (events_of x) [] lo hi h in
    agree-statement marks f (before 0 (omega arith)) x [] lo hi 0 (replicate n 0) (h, b)
    (record { kept = λ u a b. refl; blank = λ u a b. get_or-replicate n u 0 0 (omega arith); room = omega (arith, length-replicate {A = ℕ} n 0) })
    [] [] (record { told = by }) (told_none marks)
  where
    marks : List ℕ
    marks = marks_of f x 0 (replicate n 0)

    before : (d : ℕ) → d < first_token → get_or marks d 0 ≡ 0
    before d k =
        let o = text-rises f.kinds (events_of x) [] lo hi h in
        (changes-statement f x [] lo hi 0 (replicate n 0) (h, b)).other d (λ a b. omega arith) ∙ get_or-replicate n d 0 0 (omega arith)

    by : (d : ℕ) → Within d around ⊎ (get_or marks d 0 ≡ 0) → get_or marks d 0 ≡ mark_at [] d
    by d (inl (inl i)) = before d (all_in (λ (u : ℕ). u < first_token) (innermost around) (omega arith) d i)
    by d (inl (inr i)) = absurd i
    by d (inr e) = e
