-- What each event leaves in the tables.
use Rattle.std.specs.Prelude.{Option}
use mathlib.Core.Path.{◌≡◌, refl, sym, ap, ap₂, ◌∙◌}
use mathlib.Core.Bool.{Bool, false, ◌&&◌, ◌||◌}
use mathlib.Core.List.{List, []}
use Prim.Native.Nat.{ℕ, ◌+◌, ◌-◌, ◌≤◌, ◌<◌}
use native.Mathlib.Numerals.{add-one}
use lib.Dec.{eqb}
use lib.ListN.{get_or, set, length}
use Rattle.base.proofs.Tests.{never_true}
use Rattle.token.specs.Kinds as K
use Rattle.static_rules.specs.Functions.{Function, argument_at, is_written}
use Rattle.static_rules.specs.Meaning.{Meaning, register, routine, meaning_of, register_of, function_of, argument_of, is_long}
use Rattle.static_rules.specs.Meanings.{mean, call_writes}
use Rattle.tape.specs.Numbers.{form_at}
use Rattle.tables.specs.Packed.{REGISTER, ROUTINE, low, packed, is_routine_in, based_in, unpacked, meanings_of, register_in, long_in, packed_at, sets_of}
use Rattle.tables.proofs.Meanings.{by-sort, low-is, long-is, packed-register, packed-routine, meaning-at, meaning-set, meaning-set-both}
use Rattle.functions.specs.declared.Function.{Function as Coded}
use Rattle.functions.specs.Arguments.{argument_by, coded, function_in}
use Rattle.functions.proofs.Table.{by_code}
use Rattle.functions.proofs.Packed.{meant_is}
use Rattle.meanings.specs.Along.{target_of, is_product_at}
use Rattle.meanings.specs.Flat.{meant_of, standard_meaning, standard_named, target_in}
use Rattle.meanings.proofs.Moves.{register-at}

-- ── by the packed meaning ──

module _ (found means bases : List ℕ) (t : ℕ) where
  pub meant-at : meaning_of found (meanings_of means bases) t ≡ unpacked (get_or found t 0) (packed_at found means t) (based_in (get_or bases (get_or found t 0) 0))
  meant-at = meaning-at means bases (get_or found t 0)

  pub target_at : (m : ℕ) (g : Option ℕ) → m ≡ packed_at found means t → g ≡ target_in m → g ≡ target_of (meaning_of found (meanings_of means bases) t)
  unfolding target_in
  target_at m g e f =
      f ∙ (ap target_in e ∙ sym (ap target_of meant-at ∙ by-sort (λ y. target_of y ≡ target_in (packed_at found means t)) _ (packed_at found means t) _ (λ e. rw e)
      (λ e f. rw e) (λ e f g. rw e) (λ e f g h. rw e) (λ e f g h. rw e)))

  -- "IC, LA and LTR write the first"
  pub first-at :
      (m : ℕ) (r : Coded) (g : Bool) → m ≡ packed_at found means t → r ≡ coded (function_in m) → g ≡ is_written (argument_by r.first)
      → g ≡ is_written (argument_of (meaning_of found (meanings_of means bases) t) 0)
  first-at m r g e f h =
      h ∙ ap (λ (y : Coded). is_written (argument_by y.first)) f
      ∙ (ap is_written (by_code (argument_at (function_in m) 0)) ∙ ap (λ (y : Function). is_written (argument_at y 0)) (ap function_in e ∙ sym (ap function_of meant-at ∙ meant_is _ _ _)))

  long-at : is_long (meaning_of found (meanings_of means bases) t) ≡ long_in (packed_at found means t)
  long-at = ap is_long meant-at ∙ long-is _ _ _

  pub product_at :
      (kinds : List ℕ) (op g d k m : ℕ) (l : Bool) → g ≡ form_at op → d ≡ t - 1 → k ≡ get_or kinds d 0 → m ≡ packed_at found means t → l ≡ long_in m
      → (eqb k K.TIMES && (eqb g 4 || l)) ≡ is_product_at kinds found op t (meanings_of means bases)
  unfolding is_product_at
  product_at kinds op g d k m l w e f u h = rw (long-at, h, u, f, e, w)

-- ── declarations ──

module _ (means bases opens written : List ℕ) (count t : ℕ) where
  pub register-declared :
      (values : List ℕ) {means' : List ℕ} (v p : ℕ) → v ≡ get_or values (t + 2) 0 → p ≡ packed REGISTER 0 v → means' ≡ set means t p
      → meant_of means' bases opens written count ≡ mean t (register (low (get_or values (t + 2) 0))) (meant_of means bases opens written count)
  register-declared values v p e f g =
      ap (λ (l : List Meaning). record { means = l; opens = opens; written = sets_of written; cells = []; bases = count })
      (ap (λ (l : List ℕ). meanings_of l bases) g ∙ (meaning-set means bases t p ∙ ap (λ (x : Meaning). set (meanings_of means bases) t x) (rw (f, e) (packed-register t _ _))))

  pub item-declared :
      {means' bases' : List ℕ} (form base : ℕ) → length means ≤ length bases → means' ≡ set means t form → bases' ≡ set bases t base
      → meant_of means' bases' opens written count ≡ mean t (unpacked t form (based_in base)) (meant_of means bases opens written count)
  item-declared form base h e f =
      ap (λ (l : List Meaning). record { means = l; opens = opens; written = sets_of written; cells = []; bases = count })
      (ap₂ (λ (l m : List ℕ). meanings_of l m) e f ∙ meaning-set-both means bases t form base h)

pub routine-declared :
    (found means bases : List ℕ) (t : ℕ) {means' : List ℕ} (m r p : ℕ) → m ≡ packed_at found means (t + 2) → r ≡ register_in m → r < 4294967296 → p ≡ packed ROUTINE 0 r → means' ≡ set means t p
    → meanings_of means' bases ≡ set (meanings_of means bases) t (routine (register_of (meaning_of found (meanings_of means bases) (t + 2))))
routine-declared found means bases t m r p e f h g k =
    ap (λ (l : List ℕ). meanings_of l bases) k
    ∙ (meaning-set means bases t p
    ∙ ap (λ (x : Meaning). set (meanings_of means bases) t x)
    (ap (λ (x : ℕ). unpacked t x (based_in (get_or bases t 0))) g ∙ (packed-routine t r _ ∙ ap routine (low-is r h ∙ (f ∙ (ap register_in e ∙ sym (register-at found means bases (t + 2))))))))

-- ── a call of what is no procedure ──

module _ (means bases opens written : List ℕ) (count own : ℕ) where
  pub no_call :
      (found : List ℕ) (t p m : ℕ) → p ≡ get_or found t 0 → m ≡ get_or means p 0 → is_routine_in m ≡ false
      → meant_of means bases opens written count ≡ call_writes (meaning_of found (meanings_of means bases) t) own (get_or found t 0) (meant_of means bases opens written count)
  unfolding call_writes
  no_call found t p m e f h =
      rw (meant-at found means bases t, ← e, ← f)
      (by-sort (λ x. meant_of means bases opens written count ≡ call_writes x own p (meant_of means bases opens written count)) _ m _ (λ a. refl) (λ a b.
      never_true (sym h ∙ b)) (λ a b c. refl) (λ a b c d. refl) (λ a b c d. refl))

-- ── the names around the program ──

pub one-named : (means₀ means means' : List ℕ) (n p : ℕ) → means ≡ standard_named n means₀ → p ≡ standard_meaning n → means' ≡ set means (n + 1) p → means' ≡ standard_named (n + 1) means₀
unfolding standard_named
one-named means₀ means means' n p e f g = g ∙ rw (f, e, add-one n)
