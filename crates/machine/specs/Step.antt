-- One instruction of the machine. "A stopped instruction changes nothing."
use Rattle.std.specs.Prelude.{Bool, List, ℕ, ◌+◌, ◌*◌, ◌/◌, ◌%◌, ◌^◌, ltb, leb, eqb, get_or, set}
use Rattle.std.specs.Int.Bits.{bit_and, bit_or, bit_xor}
use Rattle.base.specs.Choose.{choose}
use Rattle.base.specs.Numbers.{value_at, stored}
use Rattle.alu.specs.Word.{added, subtracted, complemented, made_positive, made_negative, compared_code, tested, compared_logical, inserted, added_logical, subtracted_logical, bits_made, product, half_product, shifted_left_logical, shifted_right_logical, shifted_left, shifted_right}
use Rattle.alu.specs.declared.Made.{Made}
use Rattle.machine.specs.declared.Fun.{Fun}
use Rattle.machine.specs.declared.Fun.TheVariants.{Load, Add, Subtract, AddLogical, SubtractLogical, And, Or, ExclusiveOr, Compare, Positive, Negative, Complement, MultiplyHalf, Insert, Test}
use Rattle.machine.specs.declared.Shift.{Shift}
use Rattle.machine.specs.declared.Shift.TheVariants.{RightLogical, LeftLogical, Right, Left}
use Rattle.machine.specs.Space.{Space, origin, readable, writable}
use Rattle.machine.specs.Instructions.{Short, applies, multiplies, branches, ends, unlisted, Long, applies_to, multiplies_by, stores, branches_to, links, shifts, addresses, moves, compares, unlisted_long, short_kind, long_kind}

-- ── states ──

-- registers, condition code and counter
pub record Cpu : Type 0 where
  pub regs : List ℕ
  pub code : ℕ
  pub counter : ℕ

abbrev pub cpu : List ℕ → ℕ → ℕ → Cpu
cpu rs k a = record { regs = rs; code = k; counter = a }

-- how an instruction ends: its stop, and registers, code and counter after it
pub record Turn : Type 0 where
  pub stop : ℕ
  pub cpu : Cpu

-- the same with storage
pub record Stepped : Type 0 where
  pub turn : Turn
  pub store : List ℕ

abbrev pub stepped : Turn → List ℕ → Stepped
stepped t s = record { turn = t; store = s }

-- "Stop 0 budget used, 1 at `0A 00`, 2 forbidden operand, 3 misaligned operand, 4 an odd counter, an instruction not wholly in the program's bytes, one not listed,
-- or an odd register field in 1C or 5C"; beside these the number of no stop
abbrev pub at_end : ℕ
at_end = 1

abbrev pub forbidden : ℕ
forbidden = 2

abbrev pub misaligned : ℕ
misaligned = 3

abbrev pub no_instruction : ℕ
no_instruction = 4

abbrev pub completed : ℕ
completed = 5

abbrev pub went : Cpu → Turn
went c = record { stop = completed; cpu = c }

abbrev pub halted : ℕ → Cpu → Turn
halted k c = record { stop = k; cpu = c }

-- ── what is done ──

-- the value and the code that a function makes of a register's a, an operand b and the code k before
abbrev pub applied : Fun → ℕ → ℕ → ℕ → Made
applied Load a b k = record { value = b; code = k }
applied Add a b k = added a b
applied Subtract a b k = subtracted a b
applied AddLogical a b k = added_logical a b
applied SubtractLogical a b k = subtracted_logical a b
applied And a b k = bits_made (bit_and a b)
applied Or a b k = bits_made (bit_or a b)
applied ExclusiveOr a b k = bits_made (bit_xor a b)
applied Compare a b k = record { value = a; code = compared_code a b }
applied Positive a b k = made_positive b
applied Negative a b k = made_negative b
applied Complement a b k = complemented b
applied MultiplyHalf a b k = record { value = half_product a b; code = k }
applied Insert a b k = record { value = inserted a b; code = k }
applied Test a b k = tested b

abbrev pub shifted_by : Shift → ℕ → ℕ → ℕ → Made
shifted_by RightLogical a n k = record { value = shifted_right_logical a n; code = k }
shifted_by LeftLogical a n k = record { value = shifted_left_logical a n; code = k }
shifted_by Right a n k = shifted_right a n
shifted_by Left a n k = shifted_left a n

-- register r gets a value with its code
abbrev pub wrote : Cpu → ℕ → Made → ℕ → Cpu
wrote c r v next = cpu (set c.regs r v.value) v.code next

abbrev pub moved : Cpu → ℕ → Cpu
moved c next = cpu c.regs c.code next

abbrev pub executed : Cpu → Fun → ℕ → ℕ → ℕ → Cpu
executed c f r b next = wrote c r (applied f (get_or c.regs r 0) b c.code) next

-- registers r and r + 1 get the product of register r + 1 with b
abbrev pub paired : Cpu → ℕ → ℕ → ℕ → Cpu
paired c r b next =
    let p = product (get_or c.regs (r + 1) 0) b in
    cpu (set (set c.regs r (p / 2 ^ 32)) (r + 1) (p % 2 ^ 32)) c.code next

-- "an odd register field in 1C or 5C"
abbrev pub paired_from : ℕ → {A : Type 0} → A → A → A
paired_from r even odd = choose (eqb (r % 2) 0) even odd

-- ── where the operand is ──

-- what a register adds to an address: register 0 adds nothing
abbrev pub part : List ℕ → ℕ → ℕ
part regs i = choose (eqb i 0) 0 (get_or regs i 0)

-- "Addresses keep 24 bits"
abbrev pub address : List ℕ → ℕ → ℕ → ℕ → ℕ
address regs x b d = (part regs b + part regs x + d) % 2 ^ 24

-- an operand of n bytes as a word: copies of the sign stand before a half word
abbrev pub extended : ℕ → ℕ → ℕ
extended n v = choose (eqb n 2) (choose (ltb v 32768) v (v + 4294901760)) v

-- "3 misaligned operand" before "2 forbidden operand"
abbrev pub on_operand : {A : Type 0} → Bool → ℕ → ℕ → A → (ℕ → A) → A
on_operand allowed a n done halt = choose (eqb (a % n) 0) (choose allowed done (halt forbidden)) (halt misaligned)

abbrev pub operand : List ℕ → ℕ → ℕ → ℕ
operand s a n = extended n (value_at s a n)

abbrev pub load_turn : Space → Cpu → Fun → ℕ → ℕ → ℕ → List ℕ → Turn
load_turn m c f n r a s = on_operand (readable m a n) a n (went (executed c f r (operand s a n) (c.counter + 4))) (λ k. halted k c)

-- the low n bytes of v are stored: a register's, or the number of MVI
abbrev pub store_step : Space → Cpu → ℕ → ℕ → ℕ → List ℕ → Stepped
store_step m c n v a s =
    on_operand (writable m a n) a n
    (stepped (went (moved c (c.counter + 4))) (stored s a n v))
    (λ k. stepped (halted k c) s)

-- CLI: the byte in storage is the first operand, the number v the second
abbrev pub compare_turn : Space → Cpu → ℕ → ℕ → List ℕ → Turn
compare_turn m c v a s =
    on_operand (readable m a 1) a 1
    (went (cpu c.regs (compared_logical (operand s a 1) v) (c.counter + 4)))
    (λ k. halted k c)

-- LA: "no storage references for operands take place"; 24 bits of address, so the high byte is zero
abbrev pub address_turn : Cpu → ℕ → ℕ → Turn
address_turn c r a = went (executed c Load r a (c.counter + 4))

abbrev pub multiply_turn : Cpu → ℕ → ℕ → Turn
multiply_turn c r b = paired_from r (went (paired c r b (c.counter + 2))) (halted no_instruction c)

abbrev pub multiply_by_turn : Space → Cpu → ℕ → ℕ → List ℕ → Turn
multiply_by_turn m c r a s =
    paired_from r (on_operand (readable m a 4) a 4 (went (paired c r (operand s a 4) (c.counter + 4))) (λ k. halted k c)) (halted no_instruction c)

-- whether the mask m asks for the code k: its bits stand for the codes 0 to 3 from the left
abbrev pub asked : ℕ → ℕ → Bool
asked m k = eqb (choose (eqb k 0) (m / 8) (choose (eqb k 1) (m / 4) (choose (eqb k 2) (m / 2) m)) % 2) 1

abbrev pub branch_turn : Cpu → ℕ → ℕ → Turn
branch_turn c m a = choose (asked m c.code) (went (moved c a)) (went (moved c (c.counter + 4)))

-- by register x, which holds b; with register 0 no branch is taken
abbrev pub branch_register_turn : Cpu → ℕ → ℕ → ℕ → Turn
branch_register_turn c m x b =
    choose (eqb x 0) (went (moved c (c.counter + 2)))
    (choose (asked m c.code) (went (moved c (b % 2 ^ 24))) (went (moved c (c.counter + 2))))

-- "45 leaves length code, condition code, mask and address in the link": 2, the code, 0 and the next instruction's
abbrev pub link : ℕ → ℕ → ℕ
link k next = 2 ^ 31 + k % 4 * 2 ^ 28 + next

abbrev pub link_turn : Cpu → ℕ → ℕ → Turn
link_turn c r a = went (cpu (set c.regs r (link c.code (c.counter + 4))) c.code a)

-- the low six bits of the address say how far
abbrev pub shift_turn : Cpu → Shift → ℕ → ℕ → Turn
shift_turn c f r a = went (wrote c r (shifted_by f (get_or c.regs r 0) (a % 64) c.code) (c.counter + 4))

-- ── one instruction ──

-- "of 0A only `0A 00`"
abbrev pub end_stop : ℕ → ℕ
end_stop rx = choose (eqb rx 0) at_end no_instruction

-- by kind, with the register fields and what the second register holds
abbrev pub short_on : Short → ℕ → ℕ → Cpu → Turn
short_on (applies f) rx b c = went (executed c f (rx / 16) b (c.counter + 2))
short_on multiplies rx b c = multiply_turn c (rx / 16) b
short_on branches rx b c = branch_register_turn c (rx / 16) (rx % 16) b
short_on ends rx b c = halted (end_stop rx) c
short_on unlisted rx b c = halted no_instruction c

abbrev pub short_by : Short → ℕ → Cpu → Turn
short_by k rx c = short_on k rx (get_or c.regs (rx % 16) 0) c

-- by kind, with the register fields or the number, and the address that the other fields name
abbrev pub long_on : Long → Space → ℕ → ℕ → Cpu → List ℕ → Stepped
long_on (applies_to n f) m rx a c s = stepped (load_turn m c f n (rx / 16) a s) s
long_on multiplies_by m rx a c s = stepped (multiply_by_turn m c (rx / 16) a s) s
long_on (stores n) m rx a c s = store_step m c n (get_or c.regs (rx / 16) 0) a s
long_on branches_to m rx a c s = stepped (branch_turn c (rx / 16) a) s
long_on links m rx a c s = stepped (link_turn c (rx / 16) a) s
long_on (shifts f) m rx a c s = stepped (shift_turn c f (rx / 16) a) s
long_on addresses m rx a c s = stepped (address_turn c (rx / 16) a) s
long_on moves m rx a c s = store_step m c 1 rx a s
long_on compares m rx a c s = stepped (compare_turn m c rx a s) s
long_on unlisted_long m rx a c s = stepped (halted no_instruction c) s

-- the index of a kind: a shift and what takes a number have none
abbrev pub index_of : Long → ℕ → ℕ
index_of (applies_to n f) x = x
index_of multiplies_by x = x
index_of (stores n) x = x
index_of branches_to x = x
index_of links x = x
index_of (shifts f) x = 0
index_of addresses x = x
index_of moves x = 0
index_of compares x = 0
index_of unlisted_long x = x

abbrev pub long_by : Long → Space → ℕ → ℕ → ℕ → Cpu → List ℕ → Stepped
long_by k m rx b d c s = long_on k m rx (address c.regs (index_of k (rx % 16)) b d) c s

-- a step where a test passes, and else none for want of an instruction
abbrev pub where4 : Bool → Cpu → List ℕ → Stepped → Stepped
where4 passed c s next = choose passed next (stepped (halted no_instruction c) s)

-- the instruction at the counter: opcodes below 64 have two bytes, others four; "an odd counter, an instruction not wholly in the program's bytes"
unfoldable pub step : Space → Cpu → List ℕ → Stepped
step m c s =
    let i = c.counter in
    let op = get_or s i 0 in
    where4 (eqb (i % 2) 0) c s
    (where4 (leb (origin 0) i) c s
    (where4 (leb (i + 2) (origin 0 + m.program)) c s
    (choose (ltb op 64)
    (stepped (short_by (short_kind op) (get_or s (i + 1) 0) c) s)
    (where4 (leb (i + 4) (origin 0 + m.program)) c s
    (long_by (long_kind op) m (get_or s (i + 1) 0) (get_or s (i + 2) 0 / 16) (get_or s (i + 2) 0 % 16 * 256 + get_or s (i + 3) 0) c s)))))
