-- What is broken in a program is the least of the rules that it breaks: of joined rules, along events, of the whole. Assumes nothing.
use Rattle.std.specs.Prelude.{Some}
use mathlib.Core.Path.{◌≡◌, refl, sym, ap, subst, ◌∙◌}
use mathlib.Core.Logic.{◌⊎◌, inl, inr}
use mathlib.Core.List.{List, [], ◌∷◌}
use mathlib.Core.Bool.{Bool, true, false, ◌&&◌, ◌||◌}
use Prim.Native.Nat.{ℕ, ◌<◌, ◌≤◌}
use native.Mathlib.Omega.{arith}
use lib.Dec.{eqb, leb, ltb}
use lib.ListN.{get_or}
use borrow.Author.Tests.{ltb-true, ltb-false, eqb-true, eqb-false, leb-true, leb-false, le-ltb, ne_eqb}
use Rattle.base.specs.Lists.{◌∈◌}
use Rattle.base.proofs.Tests.{cases, never_true}
use Rattle.token.specs.declared.Token.{Token}
use Rattle.grammar.specs.Tree.{Statement}
use Rattle.grammar.specs.Events.{opened, closed, entered, left, Route, labelled, sent, named, celled, itemed, valued, based, Event, edge, route, entry, phrase, mark, uses, declares, events_of}
use Rattle.grammar.specs.Places.{Place, after, along}
use Rattle.scopes.specs.declared.Refusal.TheVariants as R
use Rattle.scopes.specs.declared.Broken.{Broken}
use Rattle.scopes.specs.declared.Refusal.{Refusal}
use Rattle.scopes.specs.Broken.{refusal_number, Ruling, unbroken, broken, rule, before, ◌⊕◌}
use Rattle.scopes.specs.Search.{in_block, find, innermost}
use Rattle.scopes.specs.Names.{most_names, Named, names_in, note_found, use_name, declare_name, declare_names, use_names, name_event}
use Rattle.scopes.specs.Labels.{most_labels, Labelled, labels_in, labels_set, note_label, set_label, label_event}
use Rattle.scopes.proofs.Joins.{some-none, is_some}
use Rattle.scopes.proofs.Least.{Leads, LeastOf, join-least}
use Rattle.static_rules.specs.Meanings.{Filled, Meant}
use Rattle.static_rules.specs.Tables.{Tables}
use Rattle.static_rules.specs.Kinds.{rules_at, rule_event}
use Rattle.translation.specs.Layout.{segment_limit, end_for, place_cell, place_cells, layout}
use Rattle.translation.specs.Translate as T
use Rattle.translation.specs.Translate.{values_of, make}
use Rattle.translation.specs.Broken.{NameBroken, LabelBroken, KindBroken, CellBroken, Somewhere, Breaks, NotAfter}

-- ── the order ──

after-trans : {a b c d e f : ℕ} → NotAfter a b c d → NotAfter c d e f → NotAfter a b e f
after-trans (inl h) (inl g) = inl (omega arith)
after-trans (inl h) (inr (g, k)) = inl (omega arith)
after-trans (inr (h, l)) (inl g) = inl (omega arith)
after-trans (inr (h, l)) (inr (g, k)) = inr (omega arith, omega arith)

pub after_same : {a b c d : ℕ} → NotAfter a b c d → NotAfter c d a b → (a ≡ c) × (b ≡ d)
after_same (inl h) (inl g) = absurd (omega arith)
after_same (inl h) (inr (g, k)) = absurd (omega arith)
after_same (inr (h, l)) (inl g) = absurd (omega arith)
after_same (inr (h, l)) (inr (g, k)) = (omega arith, omega arith)

not_after : (a b : Broken) → before a b ≡ true → NotAfter (refusal_number a.refusal) a.at (refusal_number b.refusal) b.at
not_after a b h = go (ltb a.at b.at) refl (eqb a.at b.at) refl (leb (refusal_number a.refusal) (refusal_number b.refusal)) refl h
  where
    go : (x : Bool) → ltb a.at b.at ≡ x → (y : Bool) → eqb a.at b.at ≡ y → (z : Bool) → leb (refusal_number a.refusal) (refusal_number b.refusal) ≡ z
        → (x || (y && z)) ≡ true → NotAfter (refusal_number a.refusal) a.at (refusal_number b.refusal) b.at
    go true p y q z r h = inl (ltb-true _ _ p)
    go false p true q true r h = inr (eqb-true _ _ q, leb-true _ _ r)
    go false p true q false r h = never_true h
    go false p false q z r h = never_true h

-- ── the least of what is broken ──

-- which rules are broken: number n at token t
abbrev pub Which : Type 1
Which = (n t : ℕ) → Type 0

-- one rule, unless it holds
abbrev pub Falls : (holds : Bool) (refusal : Refusal) (token : ℕ) → Which
Falls b r t m u = (b ≡ false) × (m ≡ refusal_number r) × (u ≡ t)

-- b is broken, and not after rule n at token t
pub record First (b : Ruling) (n t : ℕ) : Type 0 where
  pub one : Broken
  pub is : b ≡ Some one
  pub not_after_it : NotAfter (refusal_number one.refusal) one.at n t

-- b is unbroken where nothing is, and else the least of what is
pub record Least (P : Which) (b : Ruling) : Type 0 where
  pub one_of : (x : Broken) → b ≡ Some x → P (refusal_number x.refusal) x.at
  pub least : (n t : ℕ) → P n t → First b n t

same-least : {P Q : Which} {b : Ruling} → ((n t : ℕ) → P n t → Q n t) → ((n t : ℕ) → Q n t → P n t) → Least P b → Least Q b
same-least f g l = record { one_of = λ x e. f _ _ (l.one_of x e); least = λ n t h. l.least n t (g n t h) }

none-least : Least (λ n t. ⊥) unbroken
none-least = record { one_of = λ x e. absurd (some-none (sym e)); least = λ n t h. absurd h }

rule-least : (b : Bool) (r : Refusal) (t : ℕ) → Least (Falls b r t) (rule b r t)
unfolding rule
rule-least true r t = record { one_of = λ x e. absurd (some-none (sym e)); least = λ m u (e, f, g). never_true (sym e) }
rule-least false r t = record {
  one_of = λ x e. (let q = is_some e in (refl, ap (λ (y : Broken). refusal_number y.refusal) (sym q), ap (λ (y : Broken). y.at) (sym q)));
  least = λ m u (e, f, g). record { one = record { at = t; refusal = r }; is = refl; not_after_it = inr (sym g, omega arith) };
}

join-both : {P Q : Which} (a b : Ruling) → Least P a → Least Q b → Least (λ n t. P n t ⊎ Q n t) (a ⊕ b)
join-both {P} {Q} a b p q = record { one_of = λ x e. go x e j.one_of; least = by }
  where
    j : LeastOf a b (a ⊕ b)
    j = join-least a b

    go : (x : Broken) → (a ⊕ b) ≡ Some x → ((a ⊕ b) ≡ a) ⊎ ((a ⊕ b) ≡ b) → P (refusal_number x.refusal) x.at ⊎ Q (refusal_number x.refusal) x.at
    go x e (inl d) = inl (p.one_of x (sym d ∙ e))
    go x e (inr d) = inr (q.one_of x (sym d ∙ e))

    first : (x : Broken) (n t : ℕ) → NotAfter (refusal_number x.refusal) x.at n t → Leads (a ⊕ b) x → First (a ⊕ b) n t
    first x n t h l = record { one = l.one; is = l.is; not_after_it = after-trans (not_after l.one x l.before_it) h }

    by : (n t : ℕ) → P n t ⊎ Q n t → First (a ⊕ b) n t
    by n t (inl h) = (let f = p.least n t h in first f.one n t f.not_after_it (j.not-before-first f.one f.is))
    by n t (inr h) = (let f = q.least n t h in first f.one n t f.not_after_it (j.not-before-second f.one f.is))

-- a rule more
join_rule : {P : Which} (a : Ruling) (b : Bool) (r : Refusal) (t : ℕ) → Least P a → Least (λ m u. P m u ⊎ Falls b r t m u) (a ⊕ rule b r t)
join_rule a b r t p = join-both a (rule b r t) p (rule-least b r t)

-- ── along events ──

module _
    {S : Type 0} (f : Event → Place → S → S) (broken_in : S → Ruling) (Q : Event → Place → S → Which)
    (step : (e : Event) (p : Place) (s : S) (P : Which) → Least P (broken_in s) → Least (λ n t. P n t ⊎ Q e p s n t) (broken_in (f e p s)))
  where
    along-least : (es : List Event) (p : Place) (s : S) (P : Which) → Least P (broken_in s)
        → Least (λ n t. P n t ⊎ Somewhere f (λ e p s. Q e p s n t) es p s) (broken_in (along f es p s))
    unfolding along Somewhere
    along-least [] p s P l = same-least (λ n t h. inl h) (λ n t h. elim h [ inl y ↦ y | inr y ↦ absurd y ]) l
    along-least (e ∷ es) p s P l =
        same-least
        (λ n t h. elim h [ inl y ↦ elim y [ inl z ↦ inl z | inr z ↦ inr (inl z) ] | inr y ↦ inr (inr y) ])
        (λ n t h. elim h [ inl y ↦ inl (inl y) | inr y ↦ elim y [ inl z ↦ inl (inr z) | inr z ↦ inr z ] ])
        (along-least es (after e p) (f e p s) (λ n t. P n t ⊎ Q e p s n t) (step e p s P l))

    -- from nothing
    all-least : (es : List Event) (s : S) → broken_in s ≡ unbroken → Least (λ n t. Somewhere f (λ e p s. Q e p s n t) es [] s) (broken_in (along f es [] s))
    all-least es s z =
        same-least {P = λ n t. ⊥ ⊎ Somewhere f (λ e p s. Q e p s n t) es [] s} (λ n t h. elim h [ inl y ↦ absurd y | inr y ↦ y ]) (λ n t h. inr h)
        (along-least es [] s (λ n t. ⊥) (subst (Least (λ n t. ⊥)) (sym z) none-least))

-- ── names ──

module _ (keys : List ℕ) where
  abbrev Missing : List ℕ → List (List ℕ) → Which
  Missing ts bs n t = (n ≡ 6) × t ∈ ts × (find keys (get_or keys t 0) bs ≡ 0)

  used : (ts : List ℕ) (bs : List (List ℕ)) (s : Named) (P : Which) → Least P s.broken
      → Least (λ n t. P n t ⊎ Missing ts bs n t) (use_names keys ts bs s).broken
  unfolding use_names use_name note_found
  used [] bs s P l = same-least (λ n t h. inl h) (λ n t h. elim h [ inl y ↦ y | inr y ↦ absurd y.1 ]) l
  used (u ∷ us) bs s P l =
      let d = find keys (get_or keys u 0) bs in
      same-least there back (used us bs (use_name keys u bs s) _ (join_rule s.broken (ltb 0 d) R.NotFound u l))
    where
      there : (n t : ℕ) → (P n t ⊎ Falls (ltb 0 (find keys (get_or keys u 0) bs)) R.NotFound u n t) ⊎ Missing us bs n t → P n t ⊎ Missing (u ∷ us) bs n t
      there n t (inl (inl h)) = inl h
      there n t (inl (inr (b, e, q))) = inr (e, inl q, rw q (let z = ltb-false 0 (find keys (get_or keys u 0) bs) b in omega arith))
      there n t (inr (e, h, z)) = inr (e, inr h, z)

      back : (n t : ℕ) → P n t ⊎ Missing (u ∷ us) bs n t → (P n t ⊎ Falls (ltb 0 (find keys (get_or keys u 0) bs)) R.NotFound u n t) ⊎ Missing us bs n t
      back n t (inl h) = inl (inl h)
      back n t (inr (e, inl q, z)) = inl (inr (le-ltb 0 (find keys (get_or keys u 0) bs) (let y = rw q at z in omega arith), e, q))
      back n t (inr (e, inr h, z)) = inr (e, h, z)

  abbrev Twice : List ℕ → List (List ℕ) → Which
  Twice ts bs n t = (n ≡ 7) × t ∈ ts × (0 < in_block keys (get_or keys t 0) (innermost bs) 0)

  abbrev TooMany : List ℕ → Named → Which
  TooMany ts s n t = (n ≡ 13) × t ∈ ts × (most_names ≤ s.count)

  abbrev Declared : List ℕ → List (List ℕ) → Named → Which
  Declared ts bs s n t = Twice ts bs n t ⊎ TooMany ts s n t

  one-declared : (u : ℕ) (bs : List (List ℕ)) (s : Named) (P : Which) → Least P s.broken
      → Least (λ n t. P n t ⊎ Declared (u ∷ []) bs s n t) (declare_names keys (u ∷ []) bs s).broken
  unfolding declare_names declare_name
  one-declared u bs s P l =
      same-least there back
      (join-both s.broken _ l
      (join-both _ _ (rule-least (eqb d 0) R.Twice u) (rule-least (ltb s.count most_names) R.TooMany u)))
    where
      d : ℕ
      d = in_block keys (get_or keys u 0) (innermost bs) 0

      there : (n t : ℕ) → P n t ⊎ (Falls (eqb d 0) R.Twice u n t ⊎ Falls (ltb s.count most_names) R.TooMany u n t) → P n t ⊎ Declared (u ∷ []) bs s n t
      there n t (inl h) = inl h
      there n t (inr (inl (b, e, q))) = inr (inl (e, inl q, rw q (let z = eqb-false d 0 b in omega arith)))
      there n t (inr (inr (b, e, q))) = inr (inr (e, inl q, ltb-false s.count most_names b))

      back : (n t : ℕ) → P n t ⊎ Declared (u ∷ []) bs s n t → P n t ⊎ (Falls (eqb d 0) R.Twice u n t ⊎ Falls (ltb s.count most_names) R.TooMany u n t)
      back n t (inl h) = inl h
      back n t (inr (inl (e, inl q, z))) = inr (inl (ne_eqb d 0 (λ w. (let y = rw q at z in omega arith)), e, q))
      back n t (inr (inl (e, inr h, z))) = absurd h
      back n t (inr (inr (e, inl q, z))) = inr (inr (le-ltb s.count most_names z, e, q))
      back n t (inr (inr (e, inr h, z))) = absurd h

  none-declared : (bs : List (List ℕ)) (s : Named) (P : Which) → Least P s.broken
      → Least (λ n t. P n t ⊎ Declared [] bs s n t) (declare_names keys [] bs s).broken
  unfolding declare_names
  none-declared bs s P l = same-least (λ n t h. inl h) (λ n t h. elim h [ inl y ↦ y | inr y ↦ elim y [ inl z ↦ absurd z.1 | inr z ↦ absurd z.1 ] ]) l

  -- an event declares one name at most
  declared : (e : Event) (p : Place) (s : Named) (P : Which) → Least P s.broken
      → Least (λ n t. P n t ⊎ Declared (declares e) (names_in p) s n t) (declare_names keys (declares e) (names_in p) s).broken
  declared (edge (opened t ls)) p s P l = none-declared (names_in p) s P l
  declared (edge (closed t)) p s P l = none-declared (names_in p) s P l
  declared (edge (entered n r)) p s P l = one-declared n (names_in p) s P l
  declared (edge (left n)) p s P l = none-declared (names_in p) s P l
  declared (route r) p s P l = none-declared (names_in p) s P l
  declared (entry (named r)) p s P l = one-declared r.name (names_in p) s P l
  declared (entry (celled c w)) p s P l = none-declared (names_in p) s P l
  declared (entry (itemed c w i)) p s P l = one-declared i.name (names_in p) s P l
  declared (entry (valued t)) p s P l = none-declared (names_in p) s P l
  declared (entry (based n)) p s P l = none-declared (names_in p) s P l
  declared (phrase g) p s P l = none-declared (names_in p) s P l
  declared (mark m) p s P l = none-declared (names_in p) s P l

  name-step : (e : Event) (p : Place) (s : Named) (P : Which) → Least P s.broken
      → Least (λ n t. P n t ⊎ NameBroken keys e p s n t) (name_event keys e p s).broken
  unfolding name_event
  name-step e p s P l = same-least there back (used (uses e) (names_in (after e p)) (declare_names keys (declares e) (names_in p) s) _ (declared e p s P l))
    where
      there : (n t : ℕ) → (P n t ⊎ Declared (declares e) (names_in p) s n t) ⊎ Missing (uses e) (names_in (after e p)) n t → P n t ⊎ NameBroken keys e p s n t
      there n t (inl (inl h)) = inl h
      there n t (inl (inr (inl (q, h, z)))) = inr (NameBroken.twice q h z)
      there n t (inl (inr (inr (q, h, z)))) = inr (NameBroken.too_many q h z)
      there n t (inr (q, h, z)) = inr (NameBroken.not_found q h z)

      back : (n t : ℕ) → P n t ⊎ NameBroken keys e p s n t → (P n t ⊎ Declared (declares e) (names_in p) s n t) ⊎ Missing (uses e) (names_in (after e p)) n t
      back n t (inl h) = inl (inl h)
      back n t (inr (NameBroken.not_found q h z)) = inr (q, h, z)
      back n t (inr (NameBroken.twice q h z)) = inl (inr (inl (q, h, z)))
      back n t (inr (NameBroken.too_many q h z)) = inl (inr (inr (q, h, z)))

  -- ── labels ──

  sent_is : {a u b t : ℕ} → route (sent a u) ≡ route (sent b t) → t ≡ u
  sent_is e = sym cc

  set_is : {u t : ℕ} → route (labelled u) ≡ route (labelled t) → t ≡ u
  set_is e = sym cc

  not-sent : {a u t : ℕ} → route (sent a u) ≡ route (labelled t) → ⊥
  not-sent e = let z : ◌≡◌ {A = ℕ} 0 1 = cc in omega arith

  no_label : (e : Event) (p : Place) (s : Labelled) (P : Which) → ((r : Route) → e ≡ route r → ⊥) → Least P s.broken
      → Least (λ n t. P n t ⊎ LabelBroken keys e p s n t) s.broken
  no_label e p s P not l = same-least (λ n t h. inl h) back l
    where
      back : (n t : ℕ) → P n t ⊎ LabelBroken keys e p s n t → P n t
      back n t (inl h) = h
      back n t (inr (LabelBroken.not_found at q h z)) = absurd (not _ h)
      back n t (inr (LabelBroken.twice q h z)) = absurd (not _ h)
      back n t (inr (LabelBroken.too_many q h z)) = absurd (not _ h)

  sent-step : (at u : ℕ) (p : Place) (s : Labelled) (P : Which) → Least P s.broken
      → Least (λ n t. P n t ⊎ LabelBroken keys (route (sent at u)) p s n t) (s.broken ⊕ rule (ltb 0 (find keys (get_or keys u 0) (labels_in p))) R.NotFound u)
  sent-step at u p s P l = same-least there back (join_rule s.broken (ltb 0 d) R.NotFound u l)
    where
      d : ℕ
      d = find keys (get_or keys u 0) (labels_in p)

      there : (n t : ℕ) → P n t ⊎ Falls (ltb 0 d) R.NotFound u n t → P n t ⊎ LabelBroken keys (route (sent at u)) p s n t
      there n t (inl h) = inl h
      there n t (inr (b, e, q)) = inr (LabelBroken.not_found at e (rw q) (rw q (let z = ltb-false 0 d b in omega arith)))

      back : (n t : ℕ) → P n t ⊎ LabelBroken keys (route (sent at u)) p s n t → P n t ⊎ Falls (ltb 0 d) R.NotFound u n t
      back n t (inl h) = inl h
      back n t (inr (LabelBroken.not_found a e q z)) = (let w = sent_is q in inr (le-ltb 0 d (let y = rw w at z in omega arith), e, w))
      back n t (inr (LabelBroken.twice e q z)) = absurd (not-sent q)
      back n t (inr (LabelBroken.too_many e q z)) = absurd (not-sent q)

  set-step : (u : ℕ) (p : Place) (s : Labelled) (P : Which) → Least P s.broken
      → Least (λ n t. P n t ⊎ LabelBroken keys (route (labelled u)) p s n t) (set_label keys u (labels_set p) s).broken
  unfolding set_label
  set-step u p s P l =
      same-least there back
      (join-both s.broken _ l (join-both _ _ (rule-least (eqb d 0) R.Twice u) (rule-least (ltb s.count most_labels) R.TooMany u)))
    where
      d : ℕ
      d = in_block keys (get_or keys u 0) (labels_set p) 0

      there : (n t : ℕ) → P n t ⊎ (Falls (eqb d 0) R.Twice u n t ⊎ Falls (ltb s.count most_labels) R.TooMany u n t) → P n t ⊎ LabelBroken keys (route (labelled u)) p s n t
      there n t (inl h) = inl h
      there n t (inr (inl (b, e, q))) = inr (LabelBroken.twice e (rw q) (rw q (let z = eqb-false d 0 b in omega arith)))
      there n t (inr (inr (b, e, q))) = inr (LabelBroken.too_many e (rw q) (ltb-false s.count most_labels b))

      back : (n t : ℕ) → P n t ⊎ LabelBroken keys (route (labelled u)) p s n t → P n t ⊎ (Falls (eqb d 0) R.Twice u n t ⊎ Falls (ltb s.count most_labels) R.TooMany u n t)
      back n t (inl h) = inl h
      back n t (inr (LabelBroken.not_found a e q z)) = absurd (not-sent (sym q))
      back n t (inr (LabelBroken.twice e q z)) = (let w = set_is q in inr (inl (ne_eqb d 0 (λ v. (let y = rw w at z in omega arith)), e, w)))
      back n t (inr (LabelBroken.too_many e q z)) = inr (inr (le-ltb s.count most_labels z, e, set_is q))

  label-step : (e : Event) (p : Place) (s : Labelled) (P : Which) → Least P s.broken
      → Least (λ n t. P n t ⊎ LabelBroken keys e p s n t) (label_event keys e p s).broken
  unfolding label_event note_label
  label-step (edge x) p s P l = no_label (edge x) p s P (λ r h. (let z : ◌≡◌ {A = ℕ} 0 1 = cc in omega arith)) l
  label-step (route (sent at u)) p s P l = sent-step at u p s P l
  label-step (route (labelled u)) p s P l = set-step u p s P l
  label-step (entry d) p s P l = no_label (entry d) p s P (λ r h. (let z : ◌≡◌ {A = ℕ} 0 1 = cc in omega arith)) l
  label-step (phrase g) p s P l = no_label (phrase g) p s P (λ r h. (let z : ◌≡◌ {A = ℕ} 0 1 = cc in omega arith)) l
  label-step (mark m) p s P l = no_label (mark m) p s P (λ r h. (let z : ◌≡◌ {A = ℕ} 0 1 = cc in omega arith)) l

-- ── kinds ──

as-broken : (b : Ruling) → Least (λ n t. (r : Refusal) × (n ≡ refusal_number r) × (b ≡ broken r t)) b
as-broken b = record {
  one_of = λ x e. (x.refusal, refl, e);
  least = λ n t (r, e, q). record { one = record { at = t; refusal = r }; is = q; not_after_it = inr (refl, omega arith) };
}

kind-step : (f : Tables) (e : Event) (p : Place) (s : Ruling) (P : Which) → Least P s → Least (λ n t. P n t ⊎ KindBroken f e p n t) (rule_event f e p s)
unfolding rule_event
kind-step f e p s P l =
    same-least
    (λ n t h. elim h [ inl y ↦ inl y | inr y ↦ inr (record { refusal = y.0; number_is = y.1; is = y.2 }) ])
    (λ n t h. elim h [ inl y ↦ inl y | inr y ↦ inr (y.refusal, y.number_is, y.is) ])
    (join-both s (rules_at f e p) l (as-broken (rules_at f e p)))

-- ── cells ──

cells-least : (bases : ℕ) (ds : List Filled) → Least (CellBroken bases ds) (place_cells bases ds).broken
unfolding place_cells place_cell
cells-least bases [] = none-least
cells-least bases (d ∷ ds) =
    same-least there back (join_rule (place_cells bases ds).broken (leb end segment_limit) R.NoRoom d.cell.name (cells-least bases ds))
  where
    end : ℕ
    end = end_for d.cell (place_cells bases ds).ends

    there : (n t : ℕ) → CellBroken bases ds n t ⊎ Falls (leb end segment_limit) R.NoRoom d.cell.name n t → CellBroken bases (d ∷ ds) n t
    there n t (inl h) = inl h
    there n t (inr (b, e, q)) = inr (e, q, leb-false end segment_limit b)

    back : (n t : ℕ) → CellBroken bases (d ∷ ds) n t → CellBroken bases ds n t ⊎ Falls (leb end segment_limit) R.NoRoom d.cell.name n t
    back n t (inl h) = inl h
    back n t (inr (e, q, z)) = inr (cases (leb end segment_limit) (λ b. absurd (omega (arith, leb-true end segment_limit b))) (λ b. b), e, q)

-- ── the whole ──

pub make-least : (ts : List Token) (x : Statement) → Least (Breaks ts x) (make ts x).broken
unfolding make T.named T.labelled layout
make-least ts x =
    join-both _ _ (all-least (name_event (values_of ts)) (λ (s : Named). s.broken) (NameBroken (values_of ts)) (name-step (values_of ts)) (events_of x) _ refl)
    (join-both _ _ (all-least (label_event (values_of ts)) (λ (s : Labelled). s.broken) (LabelBroken (values_of ts)) (label-step (values_of ts)) (events_of x) _ refl)
    (join-both _ _ (all-least (rule_event f) (λ (s : Ruling). s) (λ e p s. KindBroken f e p) (kind-step f) (events_of x) unbroken refl)
    (cells-least m.bases m.cells)))
  where
    m : Meant
    m = T.meant ts (T.named ts x) x

    f : Tables
    f = T.tables_of ts (T.named ts x) (T.labelled ts x) m
