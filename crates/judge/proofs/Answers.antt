-- What each function of the walk answers, by what its callees answer.
use mathlib.Core.Path.{◌≡◌, refl, sym, ap, ap₂, ◌∙◌}
use mathlib.Core.Bool.{true, false}
use mathlib.Core.List.{List}
use Prim.Native.Nat.{ℕ}
use lib.ListN.{get_or}
use Rattle.base.proofs.Tests.{never_true}
use Rattle.ledger.specs.Book.{Wide, Thin}
use Rattle.scopes.specs.declared.Refusal.TheVariants.{Misfit}
use Rattle.scopes.specs.Broken.{Ruling, broken, ◌⊕◌}
use Rattle.static_rules.specs.Meaning.{Meaning, cell, Based, register_of}
use Rattle.static_rules.specs.Tables.{Tables, meaning_at}
use Rattle.static_rules.specs.Rules.{place_by, no_byte}
use Rattle.tables.specs.Packed.{number_in, is_register_in, is_cell_in, unpacked, cell_in, register_in, packed_at}
use Rattle.tables.proofs.Meanings.{by-sort, as-register, as-cell, register-is}
use Rattle.rules.specs.Parts.{designator_at}
use Rattle.rules.specs.Shows.{Listed}
use Rattle.rules.proofs.Sorts.{base_at, meant-at}
use Rattle.judge.specs.declared.Target.TheVariants as T
use Rattle.judge.specs.Along.{aim_of, register_target, aim_by, control_by}

-- ── what a target means ──

module _ (m : ℕ) where
  pub aimed-register : (k : ℕ) → is_register_in m ≡ true → k ≡ number_in m → (n : ℕ) (b : Based) → T.Register k ≡ aim_of (unpacked n m b)
  aimed-register k h e n b = rw (as-register n m b h, ← e)

  pub aimed-cell : is_cell_in m ≡ true → (n : ℕ) (b : Based) → T.Cell ≡ aim_of (unpacked n m b)
  aimed-cell h n b = rw (as-cell n m b h)

  pub aimed-nowhere : is_register_in m ≡ false → is_cell_in m ≡ false → (n : ℕ) (b : Based) → T.Unfit ≡ aim_of (unpacked n m b)
  aimed-nowhere h g n b = by-sort (λ x. T.Unfit ≡ aim_of x) n m b (λ e. never_true (sym h ∙ e)) (λ e f. refl) (λ e f l. never_true (sym g ∙ l)) (λ e f l k. refl) (λ e f l k. refl)

module _ {f : Tables} {w : Wide} {l : Thin} (s : Listed f w l) (t m : ℕ) (e : m ≡ packed_at l.found w.means t) where
  pub told : {A : Type 0} (g : Meaning → A) (x : A) → ((n : ℕ) (b : Based) → x ≡ g (unpacked n m b)) → x ≡ g (meaning_at f t)
  told g x p = p _ _ ∙ ap g (sym (meant-at s t m e))

  pub kept-is : (r : ℕ) → r ≡ register_in m → register_of (meaning_at f t) ≡ r
  kept-is r h = ap register_of (meant-at s t m e) ∙ (register-is _ _ _ ∙ sym h)

  pub aims-register : (kept : List ℕ) (shape : ℕ) {x : Ruling} → is_register_in m ≡ true → x ≡ register_target kept (designator_at shape t) (number_in m)
      → x ≡ aim_by f kept (designator_at shape t) (meaning_at f t)
  aims-register kept shape h p = rw (meant-at s t m e, as-register (get_or l.found t 0) m (base_at s t) h) p

  pub aims-cell :
      (kept : List ℕ) (shape : ℕ) {x y z : Ruling} → is_cell_in m ≡ true → ((n : ℕ) (b : Based) → y ≡ place_by f (cell (cell_in n m b)) (designator_at shape t))
      → z ≡ no_byte f (designator_at shape t) → x ≡ y ⊕ z → x ≡ aim_by f kept (designator_at shape t) (meaning_at f t)
  unfolding no_byte
  aims-cell kept shape h p q j =
      let a = meant-at s t m e ∙ as-cell (get_or l.found t 0) m (base_at s t) h in
      rw a (j ∙ ap₂ (λ (v w : Ruling). v ⊕ w) (p _ _) (rw a at q))

  pub aims-nowhere : (kept : List ℕ) (shape : ℕ) {x : Ruling} → is_register_in m ≡ false → is_cell_in m ≡ false → x ≡ broken Misfit t → x ≡ aim_by f kept (designator_at shape t) (meaning_at f t)
  aims-nowhere kept shape h g p =
      p ∙ rw (meant-at s t m e)
      (by-sort (λ y. broken Misfit t ≡ aim_by f kept (designator_at shape t) y) (get_or l.found t 0) m (base_at s t) (λ a. never_true (sym h ∙ a)) (λ a b. refl)
      (λ a b l. never_true (sym g ∙ l)) (λ a b l k. refl) (λ a b l k. refl))

  pub control-register : (kept : List ℕ) (shape : ℕ) {x : Ruling} → is_register_in m ≡ true → x ≡ register_target kept (designator_at shape t) (number_in m)
      → x ≡ control_by kept (designator_at shape t) (meaning_at f t)
  control-register kept shape h p = rw (meant-at s t m e, as-register (get_or l.found t 0) m (base_at s t) h) p

  pub control-nothing : (kept : List ℕ) (shape : ℕ) {x : Ruling} → is_register_in m ≡ false → x ≡ broken Misfit t → x ≡ control_by kept (designator_at shape t) (meaning_at f t)
  control-nothing kept shape h p =
      p ∙ rw (meant-at s t m e) (by-sort (λ y. broken Misfit t ≡ control_by kept (designator_at shape t) y) (get_or l.found t 0) m (base_at s t) (λ a.
      never_true (sym h ∙ a)) (λ a b. refl) (λ a b l. refl) (λ a b l k. refl) (λ a b l k. refl))
