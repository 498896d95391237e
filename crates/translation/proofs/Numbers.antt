-- Each rule that a text breaks has a number from 6 to 13. Assumes nothing.
use mathlib.Core.Path.{sym, subst}
use mathlib.Core.Logic.{inl, inr}
use mathlib.Core.List.{List, [], ◌∷◌}
use Prim.Native.Nat.{ℕ}
use native.Mathlib.Omega.{arith}
use Rattle.token.specs.declared.Token.{Token}
use Rattle.grammar.specs.Tree.{Statement}
use Rattle.grammar.specs.Events.{Event, events_of}
use Rattle.grammar.specs.Places.{Place, after}
use Rattle.scopes.specs.Names.{Named, name_event}
use Rattle.scopes.specs.Labels.{Labelled, label_event}
use Rattle.scopes.proofs.Numbers.{InGroup, in-group}
use Rattle.static_rules.specs.Meanings.{Filled}
use Rattle.static_rules.specs.Tables.{Tables}
use Rattle.static_rules.specs.Kinds.{rule_event}
use Rattle.translation.specs.Translate.{values_of, named, meant}
use Rattle.translation.specs.Broken.{NameBroken, LabelBroken, KindBroken, CellBroken, Somewhere, Breaks}

somewhere-is : {S : Type 0} (f : Event → Place → S → S) {Q : Event → Place → S → Type 0} {A : Type 0} → ((e : Event) (p : Place) (s : S) → Q e p s → A)
    → (es : List Event) (p : Place) (s : S) → Somewhere f Q es p s → A
unfolding Somewhere
somewhere-is f g [] p s h = absurd h
somewhere-is f g (e ∷ es) p s (inl h) = g e p s h
somewhere-is f g (e ∷ es) p s (inr h) = somewhere-is f g es (after e p) (f e p s) h

name_in : (keys : List ℕ) (n t : ℕ) (e : Event) (p : Place) (s : Named) → NameBroken keys e p s n t → InGroup n
name_in keys n t e p s (NameBroken.not_found q h z) = (omega arith, omega arith)
name_in keys n t e p s (NameBroken.twice q h z) = (omega arith, omega arith)
name_in keys n t e p s (NameBroken.too_many q h z) = (omega arith, omega arith)

label-in : (keys : List ℕ) (n t : ℕ) (e : Event) (p : Place) (s : Labelled) → LabelBroken keys e p s n t → InGroup n
label-in keys n t e p s (LabelBroken.not_found at q h z) = (omega arith, omega arith)
label-in keys n t e p s (LabelBroken.twice q h z) = (omega arith, omega arith)
label-in keys n t e p s (LabelBroken.too_many q h z) = (omega arith, omega arith)

kind-in : (f : Tables) (n t : ℕ) (e : Event) (p : Place) → KindBroken f e p n t → InGroup n
kind-in f n t e p h = subst InGroup (sym h.number_is) (in-group h.refusal)

cell_in : (bases : ℕ) (ds : List Filled) (n t : ℕ) → CellBroken bases ds n t → InGroup n
cell_in bases [] n t h = absurd h
cell_in bases (d ∷ ds) n t (inl h) = cell_in bases ds n t h
cell_in bases (d ∷ ds) n t (inr (e, q, h)) = (omega arith, omega arith)

pub breaks-ruled : (ts : List Token) (x : Statement) (n t : ℕ) → Breaks ts x n t → InGroup n
breaks-ruled ts x n t (inl h) = somewhere-is (name_event (values_of ts)) (name_in (values_of ts) n t) (events_of x) [] _ h
breaks-ruled ts x n t (inr (inl h)) = somewhere-is (label_event (values_of ts)) (label-in (values_of ts) n t) (events_of x) [] _ h
breaks-ruled ts x n t (inr (inr (inl h))) = somewhere-is (rule_event _) (λ e p s. kind-in _ n t e p) (events_of x) [] _ h
breaks-ruled ts x n t (inr (inr (inr h))) = (let m = meant ts (named ts x) x in cell_in m.bases m.cells n t h)
