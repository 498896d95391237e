-- The operand in storage of the instruction at the counter: its address and its width, as `step` takes them.
use Rattle.std.specs.Prelude.{List, ℕ, ◌+◌, ◌*◌, ◌/◌, ◌%◌, get_or}
use Rattle.machine.specs.Instructions.{Long, applies_to, multiplies_by, stores, branches_to, links, shifts, addresses, moves, compares, unlisted_long, long_kind}
use Rattle.machine.specs.Step.{Cpu, address, index_of}

-- where the operand of a four-byte instruction is, or where it branches to, or the address that it is about
abbrev pub operand_address : Cpu → List ℕ → ℕ
operand_address c s =
    let i = c.counter in
    address c.regs (index_of (long_kind (get_or s i 0)) (get_or s (i + 1) 0 % 16)) (get_or s (i + 2) 0 / 16) (get_or s (i + 2) 0 % 16 * 256 + get_or s (i + 3) 0)

-- how many bytes of storage an instruction of a kind reads or stores there
abbrev pub operand_bytes : Long → ℕ
operand_bytes (applies_to n f) = n
operand_bytes multiplies_by = 4
operand_bytes (stores n) = n
operand_bytes branches_to = 0
operand_bytes links = 0
operand_bytes (shifts f) = 0
operand_bytes addresses = 0
operand_bytes moves = 1
operand_bytes compares = 1
operand_bytes unlisted_long = 0
