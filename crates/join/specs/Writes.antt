-- The registers that an instruction writes, by what the machine does with its opcode.
use Rattle.std.specs.Prelude.{List, [], ◌∷◌, ℕ}
use Rattle.machine.specs.Instructions.{short_kind, long_kind}
pub use Rattle.machine.specs.Writes.{writes_by, writes_short, writes_long}
use Rattle.translation.specs.Instructions.{Instruction, rr, rx, address, immediate, shift, branch, link, indexed, stop}

abbrev pub writes : Instruction → List ℕ
writes (rr op r s) = writes_short (short_kind op) r
writes (rx op r a) = writes_long (long_kind op) r
writes (address r a) = r ∷ []
writes (immediate op v a) = []
writes (shift op r s n) = r ∷ []
writes (branch m t) = []
writes (link r t) = r ∷ []
writes (indexed r t) = []
writes stop = []
