-- What each put shows: one law a change. What a change leaves needs no law, since a view is one record.
use mathlib.Core.Path.{◌≡◌, refl, ap, ◌∙◌}
use mathlib.Core.Bool.{true, false}
use mathlib.Core.List.{List, []}
use Prim.Native.Nat.{ℕ, ◌+◌, ◌^◌, ◌≤◌, ◌<◌}
use native.Mathlib.Omega.{arith}
use native.Mathlib.Numerals.{add-one}
use lib.Bits.{bit_or, or_lt}
use lib.Pow.{pow-lt}
use lib.ListN.{get_or, length}
use Rattle.static_rules.specs.Registers.{Registers, add_register}
use Rattle.static_rules.specs.Meaning.{Meaning, register, routine, meaning_of, register_of}
use Rattle.static_rules.specs.Meanings.{Meant, mean, write, write_text, call_writes, open_base}
use Rattle.tables.specs.Packed.{REGISTER, ROUTINE, low, packed, number_in, is_routine_in, based_in, unpacked, meanings_of, register_in, packed_at, set_of, sets_of}
use Rattle.tables.proofs.Sets.{grown-by, grown-text}
use Rattle.tables.proofs.Meanings.{as-routine}
use Rattle.meanings.proofs.Moves.{register-at}
use Rattle.meanings.proofs.Changes as changes
use Rattle.ledger.specs.Book.{Wide, Thin, put_mean, put_under, put_opens, put_written, thin_limit}
use Rattle.meanings.specs.Flat.{View, view_of, changed, standard_meaning, named_to}

pub more-small : (x m : ℕ) → x < 16 → m < thin_limit → bit_or m (2 ^ x) < thin_limit
more-small x m h k = or_lt 16 m (2 ^ x) k (pow-lt {i = x} {j = 16} h)

abbrev with-meant : View → Meant → View
with-meant v m = changed (λ _. m) v

module _ (w : Wide) (b : Thin) (n : ℕ) where
  abbrev with-sets : List Registers → View
  with-sets l = with-meant (view_of w b n) (record { means = meanings_of w.means w.under; opens = b.opens; written = l; cells = []; bases = n })

  pub one_written : (own r x g : ℕ) → g ≡ get_or b.written own 0 → set_of x ≡ add_register r (set_of g) → view_of w (put_written own x b) n ≡ changed (write own r) (view_of w b n)
  unfolding write
  one_written own r x g e h = ap with-sets (grown-by b.written _ own (add_register r) g x e h refl)

  pub text-written : (own p g h : ℕ) → g ≡ get_or b.written p 0 → h ≡ get_or b.written own 0 → view_of w (put_written own (bit_or g h) b) n ≡ changed (write_text own p) (view_of w b n)
  unfolding write_text
  text-written own p g h i j = ap with-sets (grown-text b.written _ own p g h i j refl)

  pub register-declared : (t v p : ℕ) → v ≡ get_or w.values (t + 2) 0 → p ≡ packed REGISTER 0 v
      → view_of (put_mean t p w) b n ≡ changed (mean t (register (low (get_or w.values (t + 2) 0)))) (view_of w b n)
  register-declared t v p e f = ap (with-meant (view_of w b n)) (changes.register-declared w.means w.under b.opens b.written n t w.values v p e f refl)

  pub item-declared : (t form base : ℕ) → length w.means ≤ length w.under → view_of (put_under t base (put_mean t form w)) b n ≡ changed (mean t (unpacked t form (based_in base))) (view_of w b n)
  item-declared t form base h = ap (with-meant (view_of w b n)) (changes.item-declared w.means w.under b.opens b.written n t form base h refl refl)

  pub base-opened :
      (own t m r : ℕ) → m ≡ packed_at b.found w.means t → r ≡ register_in m
      → changed (write own r) (view_of w (put_opens t (n + 2) b) (n + 1)) ≡ changed (open_base own (register_of (meaning_of b.found (meanings_of w.means w.under) t)) t) (view_of w b n)
  unfolding open_base
  base-opened own t m r e f = let c : n + 2 ≡ 2 + n = omega arith in rw (register-at b.found w.means w.under t, ← e, ← f, add-one n, c)

  pub routine-declared :
      (t m r p : ℕ) → m ≡ packed_at b.found w.means (t + 2) → r ≡ register_in m → r < 4294967296 → p ≡ packed ROUTINE 0 r
      → view_of (put_mean t p w) b n ≡ changed (mean t (routine (register_of (meaning_of b.found (meanings_of w.means w.under) (t + 2))))) (view_of w b n)
  routine-declared t m r p e f h g =
      ap (λ (l : List Meaning). with-meant (view_of w b n) (record { means = l; opens = b.opens; written = sets_of b.written; cells = []; bases = n }))
      (changes.routine-declared b.found w.means w.under t m r p e f h g refl)

  pub call-written :
      (own t p m r : ℕ) → p ≡ get_or b.found t 0 → m ≡ get_or w.means p 0 → is_routine_in m ≡ true → r ≡ number_in m
      → changed (write_text own p) (changed (write own r) (view_of w b n)) ≡ changed (call_writes (meaning_of b.found (meanings_of w.means w.under) t) own (get_or b.found t 0)) (view_of w b n)
  unfolding call_writes
  call-written own t p m r e f h g = rw (changes.meant-at b.found w.means w.under t, ← e, ← f, as-routine p m (based_in (get_or w.under p 0)) h, ← g)

  pub no_call :
      (own t p m : ℕ) → p ≡ get_or b.found t 0 → m ≡ get_or w.means p 0 → is_routine_in m ≡ false
      → view_of w b n ≡ changed (call_writes (meaning_of b.found (meanings_of w.means w.under) t) own (get_or b.found t 0)) (view_of w b n)
  no_call own t p m e f h = ap (with-meant (view_of w b n)) (changes.no_call w.means w.under b.opens b.written n own b.found t p m e f h)

-- ── the names around the program ──

pub one-named : (w₀ w : Wide) (n p : ℕ) → w ≡ named_to n w₀ → p ≡ standard_meaning n → put_mean (n + 1) p w ≡ named_to (n + 1) w₀
one-named w₀ w n p e f =
    ap (put_mean (n + 1) p) e
    ∙ ap (λ (l : List ℕ). record { values = w₀.values; means = l; under = w₀.under; offsets = w₀.offsets }) (changes.one-named w₀.means _ _ n p refl f refl)
