-- What an instruction's operand names: the bytes of the cell, literal or table entry in storage; and what the machine takes for it.
use Rattle.std.specs.Prelude.{◌≡◌, List, ℕ, ◌+◌, ◌*◌, ◌≤◌, ◌<◌, get_or}
use Rattle.base.specs.Runs.{index_of}
use Rattle.static_rules.specs.Meaning.{element_size}
use Rattle.machine.specs.Space.{origin}
use Rattle.machine.specs.Instructions.{long_kind}
use Rattle.machine.specs.Step.{Cpu}
use Rattle.machine.specs.Operands.{operand_address, operand_bytes}
use Rattle.translation.specs.Instructions.{Datum, element, literal, entry, Instruction, rr, rx, address, immediate, shift, branch, link, indexed, stop}
use Rattle.translation.specs.Layout.{Layout, offset_of}
use Rattle.translation.specs.Bytes.{index_register}

-- where what the text names begins: the cell, the literal, the entry of segment 1's table
abbrev pub named_from : Layout → Datum → ℕ
named_from l (element c o x) = origin c.base.segment + offset_of l.placed c.name
named_from l (literal v) = origin 1 + (l.literals_at + 4 * index_of v l.literals)
named_from l (entry k) = origin 1 + 4 * k

-- and how many bytes it has
abbrev pub named_bytes : Datum → ℕ
named_bytes (element c o x) = element_size c.width * c.elements
named_bytes (literal v) = 4
named_bytes (entry k) = 4

-- the byte of it at which the operand begins
abbrev pub named_at : Datum → ℕ
named_at (element c o x) = o
named_at (literal v) = 0
named_at (entry k) = 0

-- the operand that the machine takes at a state is the one that the text names, for its whole width
pub record Whole (l : Layout) (c : Cpu) (s : List ℕ) (a : Datum) : Type 0 where
  pub at : operand_address c s ≡ named_from l a + named_at a
  pub some : 0 < operand_bytes (long_kind (get_or s c.counter 0))
  pub inside : named_at a + operand_bytes (long_kind (get_or s c.counter 0)) ≤ named_bytes a

-- the address that the machine forms at a state is that of the element that the text names, and lies in its cell
pub record Lies (l : Layout) (c : Cpu) (s : List ℕ) (a : Datum) : Type 0 where
  pub formed : operand_address c s ≡ named_from l a + named_at a
  pub inside : named_at a < named_bytes a

-- the address that the machine forms at the branch of a CASE, by register r and the offset t of segment g, is that of an entry of its table, which begins four bytes
-- behind t: "`47 Fr` indexed by r at four bytes before the branch table", "Numbering starts at 1." That the table has an entry with this number, and where it leads,
-- is `Meets`.
pub record Entered (g : ℕ) (c : Cpu) (s : List ℕ) (r t : ℕ) : Type 0 where
  pub number : ℕ
  pub from_one : 1 ≤ number
  pub holds : get_or c.regs r 0 ≡ 4 * number
  pub formed : operand_address c s ≡ origin g + (t + 4 * number)

-- "every unindexed operand lies wholly … in the cell, literal or table entry that the text names (and every branch goes to the instruction that the text means)";
-- g is the segment of the instruction. LA touches no storage: its address, unindexed, lies in the cell that the text names. MVI and CLI have no index.
abbrev pub Named : Layout → ℕ → Cpu → List ℕ → Instruction → Type 0
Named l g c s (rr op r x) = Unit {0}
Named l g c s (rx op r a) = index_register a ≡ 0 → Whole l c s a
Named l g c s (address r a) = index_register a ≡ 0 → Lies l c s a
Named l g c s (immediate op v a) = Whole l c s a
Named l g c s (shift op r x n) = Unit {0}
Named l g c s (branch m t) = operand_address c s ≡ origin g + t
Named l g c s (link r t) = operand_address c s ≡ origin g + t
Named l g c s (indexed r t) = Entered g c s r t
Named l g c s stop = Unit {0}

-- an operand that is indexed; the address of LA is no operand in storage, nor is that of the branch of a CASE
abbrev pub Indexed : Instruction → Type 0
Indexed (rr op r x) = ⊥
Indexed (rx op r a) = 0 < index_register a
Indexed (address r a) = ⊥
Indexed (immediate op v a) = ⊥
Indexed (shift op r x n) = ⊥
Indexed (branch m t) = ⊥
Indexed (link r t) = ⊥
Indexed (indexed r t) = ⊥
Indexed stop = ⊥
