-- A pass that heeds only cells and their values goes, on the tape of a program, through the cells that the definition lists: `cells-made`. Assumes nothing.
use mathlib.Core.Path.{◌≡◌, refl, sym, ap, subst, ◌∙◌}
use mathlib.Core.List.{List, [], ◌∷◌, map}
use mathlib.Core.Bool.{false}
use mathlib.Core.Option.{none, some}
use Prim.Native.Nat.{ℕ}
use lib.Dec.{eqb}
use lib.ListN.{get_or}
use Rattle.base.specs.Lists.{All}
use Rattle.base.proofs.Tests.{never_true}
use Rattle.grammar.specs.Tree.{Designator, Item, Statement}
use Rattle.grammar.specs.Derives.{is_program}
use Rattle.grammar.specs.Events.{Entry, named, celled, itemed, valued, based, Phrase, aimed, driven, signed, given, joined, tested, limited, called, applied, argued, counted, chosen, Event, edge, route, entry, phrase, mark, events_of}
use Rattle.grammar.specs.Places.{Place, after}
use Rattle.grammar.specs.Contexts.{Context, nowhere, aiming, applying, declaring, context_after, Complete, Aims, Applies, phrase_context, PhraseSuits, EntrySuits, Suits}
use Rattle.grammar.proofs.Contexts.{program-coherent}
use Rattle.grammar.specs.Texts.{Stands}
use Rattle.grammar.proofs.Texts.{program-text, text-stands}
use Rattle.tape.specs.Events as E
use Rattle.tape.specs.Numbers.{ENTRY, layer_at, form_at}
use Rattle.tape.specs.Tape.{tape_statement}
use Rattle.tape.specs.Pass.{pass}
use Rattle.tape.specs.Written.{layer_of, op_of, token_of, tape_of}
use Rattle.tape.proofs.Numbers.{other-layer, other-family}
use Rattle.tape.proofs.Written.{tree-tape, follows-in}
use Rattle.static_rules.specs.Meanings.{Filled, Meant, write, open_base, add_cell, cell_of, base_in, mean_event, mean_program}
use Rattle.static_rules.proofs.Heeds.{Heeds, enters, names, adds, opens, other, heeds}

-- an event that is neither
abbrev pub Apart : ℕ → Type 0
Apart op = (eqb op E.ITEM ≡ false) × (eqb op E.VALUE ≡ false)

-- an event of another layer is
apart-layer : (e : Event) → eqb (layer_of e) ENTRY ≡ false → Apart (op_of e)
unfolding layer_at
apart-layer e h = (other-layer e E.ITEM h, other-layer e E.VALUE h)

-- what the values and the cells of a text do
module _ {S : Type 0} (f : ℕ → ℕ → S → S) where
  abbrev pub on_values : List ℕ → S → S
  on_values [] s = s
  on_values (t ∷ ts) s = on_values ts (f E.VALUE t s)

  abbrev pub on_item : Item → S → S
  on_item i s = on_values i.numbers (f E.ITEM i.name s)

-- the values that are still to come
abbrev values_in : Context → List ℕ
values_in nowhere = []
values_in (aiming d) = []
values_in (applying n p) = []
values_in (declaring n w ts) = ts

complete-none : (c : Context) → Complete c → values_in c ≡ []
complete-none nowhere h = refl
complete-none (aiming d) h = refl
complete-none (applying n p) h = refl
complete-none (declaring n w ts) h = h

aims-none : (d : Designator) (c : Context) → Aims d c → values_in c ≡ []
aims-none d (aiming x) h = refl
aims-none d nowhere h = elim h [ ]
aims-none d (applying name position) h = elim h [ ]
aims-none d (declaring count _ values) h = elim h [ ]

applies-none : (n k : ℕ) (c : Context) → Applies n k c → values_in c ≡ []
applies-none n k (applying m p) h = refl
applies-none n k nowhere h = elim h [ ]
applies-none n k (aiming _) h = elim h [ ]
applies-none n k (declaring count _ values) h = elim h [ ]

-- no values stand before or after a phrase
phrase-none : (y : Phrase) (c : Context) → PhraseSuits y c → (values_in c ≡ []) × (values_in (phrase_context y c) ≡ [])
phrase-none (aimed d) c q = (complete-none c q, refl)
phrase-none (driven d) c q = (complete-none c q, refl)
phrase-none (signed d g) c q = (aims-none d c q.0, aims-none d c q.0)
phrase-none (given d a) c q = (aims-none d c q, aims-none d c q)
phrase-none (joined d t) c q = (aims-none d c q, aims-none d c q)
phrase-none (tested t x) c q = (complete-none c q, refl)
phrase-none (limited d v a) c q = (aims-none d c q, refl)
phrase-none (called n) c q = (complete-none c q, refl)
phrase-none (applied n) c q = (complete-none c q, refl)
phrase-none (argued n p a) c q = (applies-none n p c q, refl)
phrase-none (counted n k) c q = (applies-none n k c q, refl)
phrase-none (chosen n) c q = (complete-none c q, refl)

module _ (kinds values found : List ℕ) where
  -- only a cell's event lists a cell more
  cells_same : {p : Place} {s t : Meant} {e : Event} → Heeds kinds values found p s e t → eqb (op_of e) E.ITEM ≡ false → t.cells ≡ s.cells
  unfolding open_base write
  cells_same (enters n r) h = refl
  cells_same (names r) h = refl
  cells_same (adds c w i) h = never_true (sym h)
  cells_same (opens n) h = refl
  cells_same (other a) h = a.of-cells

  -- the pass leaves everything else as it is, each cell is right, and one more does as the pass does
  module _
      {S : Type 0} (f : ℕ → ℕ → S → S) (quiet : (op t : ℕ) (s : S) → Apart op → f op t s ≡ s) (Right : Filled → Type 0) (made : List Filled → S)
      (one : (i : Item) (d : Filled) (ds : List Filled) → d.cell.name ≡ i.name → d.values ≡ map (λ (t : ℕ). get_or values t 0) i.numbers → Right d → on_item f i (made ds) ≡ made (d ∷ ds))
    where
      -- with the values that are still to come, the pass has made the cells so far
      abbrev Made : Place → Context → Meant → S → Type 0
      Made p c s m = All Right s.cells → on_values f (values_in c) m ≡ made s.cells

      abbrev step : Event → Place → Meant → Meant
      step = mean_event kinds values found

      apart : (e : Event) (p : Place) (c : Context) (s : Meant) (m : S) → Apart (op_of e) → values_in c ≡ [] → values_in (context_after e c) ≡ [] → Made p c s m
          → Made (after e p) (context_after e c) (step e p s) (f (op_of e) (token_of e) m)
      apart e p c s m h u v k r =
          let same = cells_same (heeds kinds values found e p s) h.0 in
          ap (λ (ts : List ℕ). on_values f ts (f (op_of e) (token_of e) m)) v
          ∙ (quiet (op_of e) (token_of e) m h
          ∙ (ap (λ (ts : List ℕ). on_values f ts m) (sym u) ∙ (k (subst (λ (ds : List Filled). All Right ds) same r) ∙ ap made (sym same))))

      turn-entry : (d : Entry) (p : Place) (c : Context) (s : Meant) (m : S) → EntrySuits d c → Made p c s m
          → Made (after (entry d) p) (context_after (entry d) c) (step (entry d) p s) (f (op_of (entry d)) (token_of (entry d)) m)
      unfolding mean_event add_cell form_at
      turn-entry (named r) p c s m q k = apart (entry (named r)) p c s m (refl, refl) (complete-none c q) refl k
      turn-entry (celled none w) p c s m q k =
          apart (entry (celled none w)) p c s m (other-family (entry (celled none w)) E.ITEM refl, other-family (entry (celled none w)) E.VALUE refl) (complete-none c q) refl k
      turn-entry (celled (some t) w) p c s m q k =
          apart (entry (celled (some t) w)) p c s m (other-family (entry (celled (some t) w)) E.ITEM refl, other-family (entry (celled (some t) w)) E.VALUE refl) (complete-none c q) refl k
      turn-entry (itemed n w i) p (declaring n' w' ts) s m q k = λ r.
          let before : m ≡ made s.cells = ap (λ (l : List ℕ). on_values f l m) (sym q.2) ∙ k r.1 in
          ap (on_item f i) before ∙ one i (record { cell = cell_of values n w (base_in found s p) i; values = map (λ (t : ℕ). get_or values t 0) i.numbers }) s.cells refl refl r.0
      turn-entry (valued t) p (declaring n w (u ∷ ts)) s m q k = λ r. ap (λ (v : ℕ). on_values f ts (f E.VALUE v m)) (sym q) ∙ k r
      turn-entry (based n) p c s m q k = apart (entry (based n)) p c s m (refl, refl) (complete-none c q) refl k
      turn-entry (itemed n w i) p nowhere s m q k = elim q [ ]
      turn-entry (itemed n w i) p (aiming _) s m q k = elim q [ ]
      turn-entry (itemed n w i) p (applying name position) s m q k = elim q [ ]
      turn-entry (valued t) p nowhere s m q k = elim q [ ]
      turn-entry (valued t) p (aiming _) s m q k = elim q [ ]
      turn-entry (valued t) p (applying name position) s m q k = elim q [ ]
      turn-entry (valued t) p (declaring n w []) s m q k = elim q [ ]

      turn : (e : Event) (p : Place) (c : Context) (s : Meant) (m : S) → Stands kinds e p 0 → Suits e c → Made p c s m
          → Made (after e p) (context_after e c) (step e p s) (f (op_of e) (token_of e) m)
      turn (edge x) p c s m z q k = apart (edge x) p c s m (apart-layer (edge x) refl) (complete-none c q) refl k
      turn (route x) p c s m z q k = apart (route x) p c s m (apart-layer (route x) refl) (complete-none c q) refl k
      turn (entry x) p c s m z q k = turn-entry x p c s m q k
      turn (phrase x) p c s m z q k = apart (phrase x) p c s m (apart-layer (phrase x) refl) (phrase-none x c q).0 (phrase-none x c q).1 k
      turn (mark x) p c s m z q k = apart (mark x) p c s m (apart-layer (mark x) refl) (complete-none c q) refl k

      pub cells-made : (x : Statement) (i j : ℕ) → is_program kinds x i j → (s : Meant) → s.cells ≡ [] → All Right (mean_program kinds values found x s).cells
          → pass f (made []) (tape_statement x []) ≡ made (mean_program kinds values found x s).cells
      cells-made x i j h s e r =
          let (c, d, k) = follows-in f step Made (λ e p. Stands kinds e p 0) turn (events_of x) [] nowhere s (made [])
          (text-stands kinds _ _ _ _ (program-text kinds x i j h)) (program-coherent x) (λ r. ap made (sym e)) in
          ap (pass f (made [])) (tree-tape x) ∙ (ap (λ (ts : List ℕ). on_values f ts (pass f (made []) (tape_of (events_of x)))) (sym (complete-none c d)) ∙ k r)
