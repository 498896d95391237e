-- Document 01, "Code": the bytes of an instruction, by the layout. "Two bytes: opcode, r·16+s. Four bytes: opcode, r·16+index, base·16 + displacement/256,
-- displacement mod 256."
use Rattle.std.specs.Prelude.{List, [], ◌∷◌, ◌++◌, ℕ, ◌+◌, ◌*◌, ◌/◌, ◌%◌}
use Rattle.base.specs.Runs.{index_of}
use Rattle.static_rules.specs.Meanings.{data_base}
use Rattle.translation.specs.Instructions.{Datum, element, literal, entry, Instruction, rr, rx, address, immediate, shift, branch, link, indexed, stop, address_op, branch_op, link_op, stop_op, always}
use Rattle.translation.specs.Layout.{Layout, offset_of}

-- "Program base is register 15."
abbrev pub program_base : ℕ
program_base = 15

abbrev pub base_register : Datum → ℕ
base_register (element c o x) = c.base.register
base_register (literal v) = data_base.register
base_register (entry k) = data_base.register

abbrev pub displacement : Layout → Datum → ℕ
displacement l (element c o x) = offset_of l.placed c.name + o
displacement l (literal v) = l.literals_at + 4 * index_of v l.literals
displacement l (entry k) = 4 * k

abbrev pub index_register : Datum → ℕ
index_register (element c o x) = x
index_register (literal v) = 0
index_register (entry k) = 0

abbrev pub two_bytes : ℕ → ℕ → ℕ → List ℕ
two_bytes op r s = op ∷ (r * 16 + s) ∷ []

abbrev pub four_bytes : ℕ → ℕ → ℕ → ℕ → ℕ → List ℕ
four_bytes op r x b d = op ∷ (r * 16 + x) ∷ (b * 16 + d / 256) ∷ d % 256 ∷ []

-- of MVI and CLI opcode, the number, then base and displacement: the number is v / 16 · 16 + v % 16; "`89 r0 00 n`, or by register `89 r0 s0 00`"; "Branch `47 m0` to a displacement from 15"; "Call: `45 r0`"; "`47 Fr` indexed by r"; "The last instruction is `0A 00`."
unfoldable pub encode : Layout → Instruction → List ℕ
encode l (rr op r s) = two_bytes op r s
encode l (rx op r a) = four_bytes op r (index_register a) (base_register a) (displacement l a)
encode l (address r a) = four_bytes address_op r (index_register a) (base_register a) (displacement l a)
encode l (immediate op v a) = four_bytes op (v / 16) (v % 16) (base_register a) (displacement l a)
encode l (shift op r s n) = four_bytes op r 0 s n
encode l (branch m t) = four_bytes branch_op m 0 program_base t
encode l (link r t) = four_bytes link_op r 0 program_base t
encode l (indexed r t) = four_bytes branch_op always r program_base t
encode l stop = two_bytes stop_op 0 0

unfoldable pub encode_all : Layout → List Instruction → List ℕ
encode_all l [] = []
encode_all l (i ∷ is) = encode l i ++ encode_all l is
