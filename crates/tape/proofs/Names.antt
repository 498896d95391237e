-- The names at an event of a tape are those of the event that it is (`declares-at`, `uses-at`).
use mathlib.Core.Path.{◌≡◌, refl, ◌∙◌}
use mathlib.Core.List.{List, [], ◌∷◌, ◌++◌}
use mathlib.Core.Bool.{false}
use mathlib.Core.Option.{Option, none, some}
use Prim.Native.Nat.{ℕ, ◌+◌, ◌-◌}
use native.Mathlib.Omega.{arith}
use lib.Dec.{eqb}
use Rattle.grammar.specs.Tree.{Operand, number, place, Sign, plain, abs, neg, neg_abs, Condition, compared, bare}
use Rattle.grammar.specs.Derives.{is_operand, is_condition}
use Rattle.grammar.specs.Pinned.{head_of, ShapePinned, DesignatorPinned}
use Rattle.grammar.proofs.Pinned.{pinned-designator, pinned-operand}
use Rattle.grammar.specs.Events.{opened, closed, entered, left, labelled, sent, named, celled, itemed, valued, based, Phrase, aimed, driven, signed, given, joined, tested, limited, called, applied, argued, counted, chosen, looped, otherwise, ended_if, ended_else, ended_while, ended_for, listed, ended_choice, ended_case, Event, edge, route, entry, phrase, mark, index_names, operand_names, condition_names, phrase_uses, uses, declares}
use Rattle.grammar.specs.Texts.{is_event}
use Rattle.tape.specs.Events as E
use Rattle.tape.specs.Tape.{shape_by}
use Rattle.tape.specs.Written.{operand_shape, sign_code, condition_code, layer_of, op_of, token_of}
use Rattle.tape.specs.Numbers.{layer_at, form_at}
use Rattle.tape.specs.Names.{declares_at, shape_at, uses_at}
use Rattle.tape.proofs.Numbers.{by_width, other-layer}

-- ── declared names ──

-- by its layer an event is none of those that declare
quiet : (e : Event) → eqb (layer_of e) (layer_at E.REGISTER) ≡ false → eqb (layer_of e) (layer_at E.ITEM) ≡ false → eqb (layer_of e) (layer_at E.PROCEDURE) ≡ false
    → declares_at (op_of e) (token_of e) ≡ []
quiet e a b c = rw (other-layer e E.REGISTER a, other-layer e E.ITEM b, other-layer e E.PROCEDURE c)

pub declares-at : (e : Event) → declares_at (op_of e) (token_of e) ≡ declares e
unfolding layer_at
declares-at (edge (opened t ls)) = refl
declares-at (edge (closed t)) = refl
declares-at (edge (entered n r)) = refl
declares-at (edge (left n)) = refl
declares-at (route (labelled l)) = refl
declares-at (route (sent t n)) = refl
declares-at (entry (named r)) = refl
declares-at (entry (celled none w)) = by_width (λ f. declares_at (E.SINGLE-FULL + f) 0 ≡ []) refl refl refl refl w
declares-at (entry (celled (some c) w)) = by_width (λ f. declares_at (E.ARRAY-FULL + f) c ≡ []) refl refl refl refl w
declares-at (entry (itemed c w i)) = refl
declares-at (entry (valued t)) = refl
declares-at (entry (based n)) = refl
declares-at (phrase f) = quiet (phrase f) refl refl refl
declares-at (mark m) = quiet (mark m) refl refl refl

-- ── used names ──

-- the names that an event with a designator uses, by its shape, after others
abbrev Uses : ℕ → (ℕ → List ℕ) → Type 0
Uses op before =
    (t : ℕ)
    → (uses_at (op + 0) t ≡ before t ++ t ∷ [])
    × (uses_at (op + 1) t ≡ before t ++ t ∷ [])
    × (uses_at (op + 2) t ≡ before t ++ t ∷ (t + 2) ∷ [])
    × (uses_at (op + 3) t ≡ before t ++ t ∷ (t + 5) ∷ [])

module _ (op : ℕ) (before : ℕ → List ℕ) (u : Uses op before) where
  used-shape : (n : ℕ) (s x : Option ℕ) → ShapePinned n s x → uses_at (op + shape_by s x) n ≡ before n ++ n ∷ index_names x
  used-shape n none none h = (u n).0
  used-shape n (some s) none h = (u n).1
  used-shape n none (some x) h = rw h (u n).2
  used-shape n (some s) (some x) h = rw h.1 (u n).3

  -- and with a number
  used-operand : ((t : ℕ) → uses_at (op + E.NUMBER) t ≡ before t ++ []) → (kinds : List ℕ) (a : Operand) (i j : ℕ) → is_operand kinds a i j
      → uses_at (op + operand_shape a) (head_of a) ≡ before (head_of a) ++ operand_names a
  unfolding is_operand DesignatorPinned
  used-operand v kinds (number t) i j h = v t
  used-operand v kinds (place d) i j h = used-shape d.name d.subscript d.index (pinned-designator kinds d i j h).1

abbrev nothing : ℕ → List ℕ
nothing t = []

module _ (kinds : List ℕ) where
  used-sign : (g : Sign) → uses_at ((sign_code g).family + (sign_code g).form) (sign_code g).token ≡ []
  unfolding shape_at form_at
  used-sign plain = refl
  used-sign (abs t) = refl
  used-sign (neg t) = refl
  used-sign (neg_abs t) = refl

  used-condition : (c : Condition) (i j : ℕ) → is_condition kinds c i j → uses_at ((condition_code c).family + (condition_code c).form) (condition_code c).token ≡ condition_names c
  unfolding shape_at form_at is_condition
  used-condition (compared n r a) i j h =
      let e : head_of a - 2 ≡ n = omega (arith, h.0, (pinned-operand kinds a _ _ h.2.2).0) in
      used-operand E.COMPARED (λ t. (t - 2) ∷ []) (λ t. (refl, refl, refl, refl)) (λ t. refl) kinds a _ _ h.2.2 ∙ rw e
  used-condition (bare r) i j h = refl

  used-phrase : (f : Phrase) (i j : ℕ) → is_event kinds (phrase f) i j → uses_at (op_of (phrase f)) (token_of (phrase f)) ≡ phrase_uses f
  unfolding shape_at form_at DesignatorPinned
  used-phrase (aimed d) i j h = used-shape E.TARGET nothing (λ t. (refl, refl, refl, refl)) d.name d.subscript d.index (pinned-designator kinds d i j h).1
  used-phrase (driven d) i j h = used-shape E.CONTROL nothing (λ t. (refl, refl, refl, refl)) d.name d.subscript d.index (pinned-designator kinds d i j h).1
  used-phrase (signed d g) i j h = used-sign g
  used-phrase (given d a) i j h = used-operand E.FIRST nothing (λ t. (refl, refl, refl, refl)) (λ t. refl) kinds a i j h
  used-phrase (joined d t) i j h = used-operand E.TERM nothing (λ t. (refl, refl, refl, refl)) (λ t. refl) kinds t.operand _ _ h.2
  used-phrase (tested t c) i j h = used-condition c _ _ h.1
  used-phrase (limited d v a) i j h = used-operand E.LIMIT nothing (λ t. (refl, refl, refl, refl)) (λ t. refl) kinds a _ _ h.1.2.1
  used-phrase (called n) i j h = refl
  used-phrase (applied n) i j h = refl
  used-phrase (argued n p a) i j h = used-operand E.ARGUED nothing (λ t. (refl, refl, refl, refl)) (λ t. refl) kinds a _ _ h.1.1
  used-phrase (counted n c) i j h = refl
  used-phrase (chosen n) i j h = refl

  pub uses-at : (e : Event) (i j : ℕ) → is_event kinds e i j → uses_at (op_of e) (token_of e) ≡ uses e
  unfolding shape_at form_at
  uses-at (edge (opened t ls)) i j h = refl
  uses-at (edge (closed t)) i j h = refl
  uses-at (edge (entered n r)) i j h = let e : r ≡ n + 2 = omega (arith, h.1.0, h.1.2.1.0) in rw e
  uses-at (edge (left n)) i j h = refl
  uses-at (route (labelled l)) i j h = refl
  uses-at (route (sent t n)) i j h = refl
  uses-at (entry (named r)) i j h = refl
  uses-at (entry (celled none w)) i j h = by_width (λ f. uses_at (E.SINGLE-FULL + f) 0 ≡ []) refl refl refl refl w
  uses-at (entry (celled (some c) w)) i j h = by_width (λ f. uses_at (E.ARRAY-FULL + f) c ≡ []) refl refl refl refl w
  uses-at (entry (itemed c w x)) i j h = refl
  uses-at (entry (valued t)) i j h = refl
  uses-at (entry (based n)) i j h = refl
  uses-at (phrase f) i j h = used-phrase f i j h
  uses-at (mark (looped t)) i j h = refl
  uses-at (mark (otherwise t)) i j h = refl
  uses-at (mark (ended_if t)) i j h = refl
  uses-at (mark (ended_else t)) i j h = refl
  uses-at (mark (ended_while t)) i j h = refl
  uses-at (mark (ended_for v)) i j h = refl
  uses-at (mark (listed c)) i j h = refl
  uses-at (mark (ended_choice t)) i j h = refl
  uses-at (mark (ended_case t)) i j h = refl
