-- The table of opcodes is the definition's, by computation; an operator that has a shift's opcode is one. Assumes nothing.
use Rattle.std.specs.Prelude.{Option, Some, None}
use Rattle.std.specs.Option.{unwrap_or}
use Prim.Native.Nat.{ℕ, ◌+◌, ◌*◌, ◌/◌, ◌%◌, ◌<◌}
use mathlib.Core.Path.{◌≡◌, sym, ap, ◌∙◌}
use mathlib.Core.Bool.{Bool, true, false}
use native.Mathlib.Omega.{arith}
use lib.Dec.{eqb, eqb→eq}
use lib.ListN.{get_or}
use Rattle.base.specs.Lists.{member}
use Rattle.base.proofs.Tests.{cases, never_true}
use Rattle.base.proofs.Tables.{all-below}
use Rattle.translation.specs.Instructions.{opcode, shift_code}
use Rattle.static_rules.specs.Rules.{shifts}
use Rattle.emit.specs.Codes.{code_rows, IsRow, opcode_in, shift_of}

pub opcode-is : (k row column : ℕ) → IsRow k row → column < 4 → opcode_in row column ≡ opcode k column
unfolding opcode
opcode-is k row column (a, e) b =
    let r : (k * 4 + column) / 4 ≡ k = omega arith in
    let s : (k * 4 + column) % 4 ≡ column = omega arith in
    rw e (rw (s, r) at (eqb→eq (opcode_in (get_or code_rows ((k * 4 + column) / 4) 0) ((k * 4 + column) % 4)) (opcode ((k * 4 + column) / 4) ((k * 4 + column) % 4))
    (all-below 44 (λ (n : ℕ). eqb (opcode_in (get_or code_rows (n / 4) 0) (n % 4)) (opcode (n / 4) (n % 4))) tt (k * 4 + column) (omega arith))))

-- ── shifts ──

abbrev is_some : Option ℕ → Bool
is_some None = false
is_some (Some x) = true

pub shifted : (k op : ℕ) → Some op ≡ shift_of k → (member k shifts ≡ true) × (op ≡ shift_code k)
shifted k op e =
    cases (member k shifts) (λ h. let s : shift_of k ≡ Some (shift_code k) = rw h in (h, ap (λ (o : Option ℕ). unwrap_or o 0) (e ∙ s)))
    (λ h. let s : shift_of k ≡ None = rw h in never_true (sym (ap is_some (e ∙ s))))

pub unshifted : (k : ℕ) → None ≡ shift_of k → member k shifts ≡ false
unshifted k e = cases (member k shifts) (λ h. let s : shift_of k ≡ Some (shift_code k) = rw h in never_true (ap is_some (e ∙ s))) (λ h. h)
