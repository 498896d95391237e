-- What a standard function takes in a parenthesis, and a function, as the code has them; the function that a packed meaning is.
use Rattle.std.specs.Prelude.{ℕ}
use Rattle.base.specs.Choose.{whether◌then◌else◌}
use Rattle.static_rules.specs.Functions as F
use Rattle.tables.specs.Packed.{number_in, is_function_in}
use Rattle.functions.specs.declared.Argument.{Argument}
use Rattle.functions.specs.declared.Argument.TheVariants.{WrittenRegister, ReadRegister, ByteNumber, IndexedCell, PlainCell, Surplus}
use Rattle.functions.specs.declared.Function.{Function}

abbrev pub coded_argument : F.Argument → Argument
coded_argument x = elim x [ F.written_register ↦ WrittenRegister | F.read_register ↦ ReadRegister | F.byte_number ↦ ByteNumber | F.indexed_cell ↦ IndexedCell | F.plain_cell ↦ PlainCell | F.surplus ↦ Surplus ]

abbrev pub argument_by : Argument → F.Argument
argument_by WrittenRegister = F.written_register
argument_by ReadRegister = F.read_register
argument_by ByteNumber = F.byte_number
argument_by IndexedCell = F.indexed_cell
argument_by PlainCell = F.plain_cell
argument_by Surplus = F.surplus

-- what it takes in its first and in its second parenthesis, in how many, its opcode, its number
abbrev pub coded : F.Function → Function
coded g = record { first = coded_argument (F.argument_at g 0); second = coded_argument (F.argument_at g 1); arity = F.arity g; op = g.op; number = g.number }

-- of what means none, one that takes nothing
unfoldable pub function_in : ℕ → F.Function
function_in m = whether is_function_in m then F.function_at (number_in m) else F.no_function
