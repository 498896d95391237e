-- What the machine does with the opcodes of the code table, by row and column: every row but `*` and store applies a function to its operand.
use mathlib.Core.Path.{◌≡◌, refl, sym}
use mathlib.Core.Logic.{inl, inr}
use mathlib.Core.List.{List, [], ◌∷◌}
use mathlib.Core.Bool.{Bool, true, false}
use Prim.Native.Nat.{ℕ, zero, suc, ◌<◌, ◌≤◌}
use native.Mathlib.Omega.{arith}
use lib.Dec.{eqb}
use lib.ListN.{length, get_or}
use borrow.Author.Tests.{eqb-true}
use Rattle.base.specs.Lists.{◌∈◌}
use Rattle.base.specs.Runs.{run_len, index_of}
use Rattle.token.specs.Kinds as K
use Rattle.static_rules.specs.Rules.{shifts, full_only}
use Rattle.machine.specs.declared.Fun.{Fun}
use Rattle.machine.specs.declared.Fun.TheVariants.{Load, Add, Subtract, AddLogical, SubtractLogical, And, Or, ExclusiveOr, Compare, Positive, Negative, Complement, MultiplyHalf, Insert, Test}
use Rattle.machine.specs.declared.Shift.{Shift}
use Rattle.machine.specs.declared.Shift.TheVariants.{RightLogical, LeftLogical, Right, Left}
use Rattle.machine.specs.Instructions as M
use Rattle.machine.specs.Instructions.{applies, applies_to, short_kind, long_kind}
use Rattle.translation.specs.Instructions.{row_kinds, row_of, opcode, shift_code}
use Rattle.join.specs.Writes.{writes_by}

pub writes-only : (f : Fun) (r x : ℕ) → x ∈ writes_by f r → x ≡ r
writes-only Load r x (inl e) = e
writes-only Load r x (inr h) = absurd h
writes-only Add r x (inl e) = e
writes-only Add r x (inr h) = absurd h
writes-only Subtract r x (inl e) = e
writes-only Subtract r x (inr h) = absurd h
writes-only AddLogical r x (inl e) = e
writes-only AddLogical r x (inr h) = absurd h
writes-only SubtractLogical r x (inl e) = e
writes-only SubtractLogical r x (inr h) = absurd h
writes-only And r x (inl e) = e
writes-only And r x (inr h) = absurd h
writes-only Or r x (inl e) = e
writes-only Or r x (inr h) = absurd h
writes-only ExclusiveOr r x (inl e) = e
writes-only ExclusiveOr r x (inr h) = absurd h
writes-only Compare r x h = absurd h
writes-only Positive r x (inl e) = e
writes-only Positive r x (inr h) = absurd h
writes-only Negative r x (inl e) = e
writes-only Negative r x (inr h) = absurd h
writes-only Complement r x (inl e) = e
writes-only Complement r x (inr h) = absurd h
writes-only MultiplyHalf r x (inl e) = e
writes-only MultiplyHalf r x (inr h) = absurd h
writes-only Insert r x (inl e) = e
writes-only Insert r x (inr h) = absurd h
writes-only Test r x (inl e) = e
writes-only Test r x (inr h) = absurd h

-- ── the place of a number in a table: where it stands, or the table's end ──

pub index-by-place : (P : ℕ → Type 0) (v : ℕ) (l : List ℕ) → ((i : ℕ) → i < length l → get_or l i 0 ≡ v → P i) → P (length l) → P (index_of v l)
unfolding run_len
index-by-place P v [] f g = g
index-by-place P v (x ∷ l) f g = go (eqb x v) refl (λ P f g. index-by-place P v l f g)
  where
    go : (b : Bool) → eqb x v ≡ b → ((P : ℕ → Type 0) → ((i : ℕ) → i < length l → get_or l i 0 ≡ v → P i) → P (length l) → P (index_of v l)) → P (index_of v (x ∷ l))
    go true e h = rw (e, run_len) (f 0 (omega arith) (eqb-true x v e))
    go false e h = rw (e, run_len) (h (λ (i : ℕ). P (suc i)) (λ i k q. f (suc i) (omega arith) q) g)

-- ── rows ──

-- an opcode of two bytes, and one of four with an operand of z, that apply a function
abbrev pub AppliesShort : ℕ → Type 0
AppliesShort op = (op < 64) × ((f : Fun) × (short_kind op ≡ applies f))

abbrev pub AppliesLong : ℕ → ℕ → Type 0
AppliesLong op z = (64 ≤ op) × ((f : Fun) × (long_kind op ≡ applies_to z f))

-- with a register and with a word
abbrev pub Row : ℕ → Type 0
Row row = AppliesShort (opcode row 0) × AppliesLong (opcode row 1) 4

-- with a half word
abbrev pub ShortRow : ℕ → Type 0
ShortRow row = AppliesLong (opcode row 2) 2

pub load_row_lem : Row 0 × ShortRow 0
unfolding opcode
load_row_lem = (((omega arith, (Load, refl)), (omega arith, (Load, refl))), (omega arith, (Load, refl)))

pub add_row_lem : Row 1 × ShortRow 1
unfolding opcode
add_row_lem = (((omega arith, (Add, refl)), (omega arith, (Add, refl))), (omega arith, (Add, refl)))

pub compare-row : Row 9 × ShortRow 9
unfolding opcode
compare-row = (((omega arith, (Compare, refl)), (omega arith, (Compare, refl))), (omega arith, (Compare, refl)))

-- of an operator that is not `*`
pub operator-row : (kind : ℕ) → (kind ≡ K.TIMES → ⊥) → Row (row_of kind)
unfolding opcode
operator-row kind other = index-by-place Row kind row_kinds at compare-row.0
  where
    at : (i : ℕ) → i < 9 → get_or row_kinds i 0 ≡ kind → Row i
    at zero h e = load_row_lem.0
    at (suc zero) h e = add_row_lem.0
    at (suc (suc zero)) h e = ((omega arith, (Subtract, refl)), (omega arith, (Subtract, refl)))
    at (suc (suc (suc zero))) h e = absurd (other (sym e))
    at (suc (suc (suc (suc zero)))) h e = ((omega arith, (AddLogical, refl)), (omega arith, (AddLogical, refl)))
    at (suc (suc (suc (suc (suc zero))))) h e = ((omega arith, (SubtractLogical, refl)), (omega arith, (SubtractLogical, refl)))
    at (suc (suc (suc (suc (suc (suc zero)))))) h e = ((omega arith, (And, refl)), (omega arith, (And, refl)))
    at (suc (suc (suc (suc (suc (suc (suc zero))))))) h e = ((omega arith, (Or, refl)), (omega arith, (Or, refl)))
    at (suc (suc (suc (suc (suc (suc (suc (suc zero)))))))) h e = ((omega arith, (ExclusiveOr, refl)), (omega arith, (ExclusiveOr, refl)))
    at (suc (suc (suc (suc (suc (suc (suc (suc (suc i))))))))) h e = absurd (omega arith)

-- and that takes a short cell
pub short_row : (kind : ℕ) → (kind ≡ K.TIMES → ⊥) → (kind ∈ full_only → ⊥) → ShortRow (row_of kind)
unfolding opcode
short_row kind other only = index-by-place ShortRow kind row_kinds at compare-row.1
  where
    at : (i : ℕ) → i < 9 → get_or row_kinds i 0 ≡ kind → ShortRow i
    at zero h e = load_row_lem.1
    at (suc zero) h e = add_row_lem.1
    at (suc (suc zero)) h e = (omega arith, (Subtract, refl))
    at (suc (suc (suc zero))) h e = absurd (other (sym e))
    at (suc (suc (suc (suc zero)))) h e = absurd (only (inr (inr (inr (inl (sym e))))))
    at (suc (suc (suc (suc (suc zero))))) h e = absurd (only (inr (inr (inr (inr (inl (sym e)))))))
    at (suc (suc (suc (suc (suc (suc zero)))))) h e = absurd (only (inl (sym e)))
    at (suc (suc (suc (suc (suc (suc (suc zero))))))) h e = absurd (only (inr (inl (sym e))))
    at (suc (suc (suc (suc (suc (suc (suc (suc zero)))))))) h e = absurd (only (inr (inr (inl (sym e)))))
    at (suc (suc (suc (suc (suc (suc (suc (suc (suc i))))))))) h e = absurd (omega arith)

-- ── shifts ──

pub shift-kind : (kind : ℕ) → kind ∈ shifts → (64 ≤ shift_code kind) × ((f : Shift) × (long_kind (shift_code kind) ≡ M.shifts f))
unfolding shift_code run_len
shift-kind kind (inl e) = rw e (omega arith, (LeftLogical, refl))
shift-kind kind (inr (inl e)) = rw e (omega arith, (RightLogical, refl))
shift-kind kind (inr (inr (inl e))) = rw e (omega arith, (Left, refl))
shift-kind kind (inr (inr (inr (inl e)))) = rw e (omega arith, (Right, refl))
shift-kind kind (inr (inr (inr (inr h)))) = absurd h
