-- Document 01, "Runner": what stops an instruction, each cause told by itself whatever else is wrong, and the order of several at once; the states of a run.
use Rattle.std.specs.Prelude.{Bool, true, false, not, ◌&&◌, ◌||◌, List, ℕ, zero, suc, ◌+◌, ◌/◌, ◌%◌, ltb, leb, eqb, get_or}
use Rattle.base.specs.Choose.{choose}
use Rattle.machine.specs.Space.{Space, origin, readable, writable}
use Rattle.machine.specs.Instructions.{Short, applies, multiplies, branches, ends, unlisted, Long, applies_to, multiplies_by, stores, branches_to, links, shifts, addresses, moves, compares, unlisted_long, short_kind, long_kind}
use Rattle.machine.specs.Step.{Cpu, completed, step}
use Rattle.machine.specs.Operands.{operand_address}

-- ── the instruction at the counter ──

abbrev pub opcode : Cpu → List ℕ → ℕ
opcode c s = get_or s c.counter 0

abbrev pub second : Cpu → List ℕ → ℕ
second c s = get_or s (c.counter + 1) 0

-- two bytes where the opcode is below 64, else four
abbrev pub is_short : Cpu → List ℕ → Bool
is_short c s = ltb (opcode c s) 64

abbrev pub size : Cpu → List ℕ → ℕ
size c s = choose (is_short c s) 2 4

-- ── "4 an odd counter, an instruction not wholly in the program's bytes, one not listed, or an odd register field in 1C or 5C" ──

abbrev pub is_odd : ℕ → Bool
is_odd n = not (eqb (n % 2) 0)

abbrev pub is_outside : Space → Cpu → List ℕ → Bool
is_outside m c s = not (leb (origin 0) c.counter && leb (c.counter + size c s) (origin 0 + m.program))

-- "the opcodes above with any fields, but of 0A only `0A 00`"; "an odd register field in 1C"
abbrev pub no_short : Short → ℕ → Bool
no_short (applies f) rx = false
no_short multiplies rx = is_odd (rx / 16)
no_short branches rx = false
no_short ends rx = not (eqb rx 0)
no_short unlisted rx = true

abbrev pub no_long : Long → ℕ → Bool
no_long (applies_to n f) rx = false
no_long multiplies_by rx = is_odd (rx / 16)
no_long (stores n) rx = false
no_long branches_to rx = false
no_long links rx = false
no_long (shifts f) rx = false
no_long addresses rx = false
no_long moves rx = false
no_long compares rx = false
no_long unlisted_long rx = true

abbrev pub is_none : Space → Cpu → List ℕ → Bool
is_none m c s =
    is_odd c.counter || (is_outside m c s || choose (is_short c s) (no_short (short_kind (opcode c s)) (second c s)) (no_long (long_kind (opcode c s)) (second c s)))

-- ── "1 at `0A 00`" ──

abbrev pub ends_at : Short → ℕ → Bool
ends_at (applies f) rx = false
ends_at multiplies rx = false
ends_at branches rx = false
ends_at ends rx = eqb rx 0
ends_at unlisted rx = false

abbrev pub is_end : Cpu → List ℕ → Bool
is_end c s = choose (is_short c s) (ends_at (short_kind (opcode c s)) (second c s)) false

-- ── "3 misaligned operand", "2 forbidden operand" ──

abbrev pub misaligned_at : Long → ℕ → Bool
misaligned_at (applies_to n f) a = not (eqb (a % n) 0)
misaligned_at multiplies_by a = not (eqb (a % 4) 0)
misaligned_at (stores n) a = not (eqb (a % n) 0)
misaligned_at branches_to a = false
misaligned_at links a = false
misaligned_at (shifts f) a = false
misaligned_at addresses a = false
misaligned_at moves a = false
misaligned_at compares a = false
misaligned_at unlisted_long a = false

abbrev pub is_misaligned : Cpu → List ℕ → Bool
is_misaligned c s = choose (is_short c s) false (misaligned_at (long_kind (opcode c s)) (operand_address c s))

-- "What is read must lie wholly in one data segment's bytes, what is stored in its writable part."
abbrev pub forbidden_at : Long → Space → ℕ → Bool
forbidden_at (applies_to n f) m a = not (readable m a n)
forbidden_at multiplies_by m a = not (readable m a 4)
forbidden_at (stores n) m a = not (writable m a n)
forbidden_at branches_to m a = false
forbidden_at links m a = false
forbidden_at (shifts f) m a = false
forbidden_at addresses m a = false
forbidden_at moves m a = not (writable m a 1)
forbidden_at compares m a = not (readable m a 1)
forbidden_at unlisted_long m a = false

abbrev pub is_forbidden : Space → Cpu → List ℕ → Bool
is_forbidden m c s = choose (is_short c s) false (forbidden_at (long_kind (opcode c s)) m (operand_address c s))

-- ── "Several at once: 0 first, then 4, 1, 3, 2." ──

abbrev pub first_of : (none end misaligned forbidden : Bool) → ℕ
first_of none end misaligned forbidden = choose none 4 (choose end 1 (choose misaligned 3 (choose forbidden 2 completed)))

-- ── the states of a run ──

-- registers, code and counter, and storage
pub record State : Type 0 where
  pub cpu : Cpu
  pub store : List ℕ

-- after n instructions
abbrev pub reached : ℕ → Space → Cpu → List ℕ → State
reached zero m c s = record { cpu = c; store = s }
reached (suc n) m c s = reached n m (step m c s).turn.cpu (step m c s).store
