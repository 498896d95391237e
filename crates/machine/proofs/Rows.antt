-- Rows of the tables of opcodes: what holds of every row holds of what is found (`row_is`), an opcode that is none of theirs finds what is said further on
-- (`row-rest`), and from 128 on opcodes are those that have no index (`step-storage`, `step-plain`; `index_is`). Assumes nothing.
use Prim.Native.Nat.{ℕ, suc, ◌+◌, ◌*◌, ◌/◌, ◌%◌, ◌<◌, ◌≤◌}
use mathlib.Core.Path.{◌≡◌, refl, sym, ap, ◌∙◌}
use mathlib.Core.Bool.{Bool, true, false}
use mathlib.Core.List.{List, [], ◌∷◌}
use lib.Dec.{T, eqb, ltb, leb}
use lib.ListN.{get_or}
use borrow.Author.Tests.{ne_eqb, lt-leb, le-ltb}
use Rattle.base.specs.Choose.{choose}
use Rattle.base.specs.Lists.{All}
use Rattle.base.specs.Tables.{every}
use Rattle.base.proofs.Tests.{never_true, is_true, and_left, and_right}
use Rattle.machine.specs.Space.{Space, origin}
use Rattle.machine.specs.Instructions.{Long, unlisted_long, row_of, storage_rows, plain_rows, storage_kind, plain_kind, long_kind}
use Rattle.machine.specs.Step.{Cpu, Stepped, address, long_on, index_of, step}
use Rattle.machine.proofs.Effects.{step-long}

module _ {A : Type 0} where
  either : (P : A → Type 0) (t : Bool) {a b : A} → P a → P b → P (choose t a b)
  either P true p q = p
  either P false p q = q

  pub row_is : (P : A → Type 0) (rows : List (ℕ × A)) → All (λ x. P x.1) rows → (op : ℕ) {other : A} → P other → P (row_of rows op other)
  row_is P [] a op z = z
  row_is P (x ∷ xs) a op z = either P (eqb op x.0) a.0 (row_is P xs a.1 op z)

  -- what is known where a match on the opcode comes to its last arm: each opcode before is another
  abbrev pub Rest : ℕ → List (ℕ × A) → Type 0 → Type 0
  Rest op [] B = B
  Rest op (x ∷ xs) B = Rest op xs (B × (op ≡ x.0 → ⊥))

  rest-first : (op : ℕ) (rows : List (ℕ × A)) (B : Type 0) → Rest op rows B → B
  rest-first op [] B r = r
  rest-first op (x ∷ xs) B r = (rest-first op xs (B × (op ≡ x.0 → ⊥)) r).0

  rest-none : (op : ℕ) (rows : List (ℕ × A)) (other : A) (B : Type 0) → Rest op rows B → row_of rows op other ≡ other
  rest-none op [] other B r = refl
  rest-none op (x ∷ xs) other B r =
      rw (ne_eqb op x.0 (rest-first op xs (B × (op ≡ x.0 → ⊥)) r).1) (rest-none op xs other (B × (op ≡ x.0 → ⊥)) r)

  pub row-rest : (op : ℕ) (rows : List (ℕ × A)) (other : A) → Rest op rows (Unit {0}) → row_of rows op other ≡ other
  row-rest op rows other r = rest-none op rows other (Unit {0}) r

  -- an opcode that fails a test which all rows pass is in none
  row_other : (f : ℕ → Bool) (rows : List (ℕ × A)) (i op : ℕ) (other : A) → T (every (λ j x. f x.0) i rows) → f op ≡ false → row_of rows op other ≡ other
  row_other f [] i op other t e = refl
  row_other f (x ∷ xs) i op other t e =
      let more = every (λ (j : ℕ) (y : ℕ × A). f y.0) (suc i) xs in
      rw (ne_eqb op x.0 (λ q. never_true (sym e ∙ (ap f q ∙ is_true (f x.0) (and_left (f x.0) more t)))))
      (row_other f xs (suc i) op other (and_right (f x.0) more t) e)

module _ (m : Space) (c : Cpu) (s : List ℕ) (even : c.counter % 2 ≡ 0) (low : origin 0 ≤ c.counter) (is : 64 ≤ get_or s c.counter 0) (fits : c.counter + 4 ≤ origin 0 + m.program) where
  abbrev op : ℕ
  op = get_or s c.counter 0

  abbrev rx : ℕ
  rx = get_or s (c.counter + 1) 0

  -- the address that is formed with x as the index
  abbrev at : ℕ → ℕ
  at x = address c.regs x (get_or s (c.counter + 2) 0 / 16) (get_or s (c.counter + 2) 0 % 16 * 256 + get_or s (c.counter + 3) 0)

  -- a kind has the index x
  abbrev Indexed : ℕ → Long → Type 0
  Indexed x k = long_on k m rx (at x) c s ≡ long_on k m rx (at (index_of k (rx % 16))) c s

  abbrev by_kind : Long → Stepped
  by_kind k = long_on k m rx (at (index_of k (rx % 16))) c s

  pub step-storage : op < 128 → long_on (storage_kind op) m rx (at (rx % 16)) c s ≡ step m c s
  step-storage h =
      row_is (Indexed (rx % 16)) storage_rows
      (refl, (refl, (refl, (refl, (refl, (refl, (refl, (refl, (refl, (refl, (refl, (refl, (refl, (refl, (refl, (refl, (refl, (refl, (refl, (refl, (refl, (refl, tt)))))))))))))))))))))) op
      refl
      ∙ ap (λ (k : Long). by_kind (row_of storage_rows op k)) (sym (row_other (λ k. leb 128 k) plain_rows 0 op unlisted_long tt (lt-leb 128 op h)))
      ∙ sym (step-long m c s even low op refl is fits)

  pub step-plain : 128 ≤ op → long_on (plain_kind op) m rx (at 0) c s ≡ step m c s
  step-plain h =
      row_is (Indexed 0) plain_rows (refl, (refl, (refl, (refl, (refl, (refl, tt)))))) op refl
      ∙ ap by_kind (sym (row_other (λ k. ltb k 128) storage_rows 0 op (plain_kind op) tt (le-ltb op 128 h)))
      ∙ sym (step-long m c s even low op refl is fits)

-- an opcode in no row of those that have no index has that of its field
pub index_is : (op x : ℕ) → Rest op plain_rows (Unit {0}) → x ≡ index_of (long_kind op) x
index_is op x r = sym (
    ap (λ (k : Long). index_of (row_of storage_rows op k) x) (row-rest op plain_rows unlisted_long r)
    ∙ row_is (λ k. index_of k x ≡ x) storage_rows
    (refl, (refl, (refl, (refl, (refl, (refl, (refl, (refl, (refl, (refl, (refl, (refl, (refl, (refl, (refl, (refl, (refl, (refl, (refl, (refl, (refl, (refl, tt)))))))))))))))))))))) op
    refl
    )
