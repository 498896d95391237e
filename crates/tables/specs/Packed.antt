-- What a name means, in one number: from the low end its sort, with room for more sorts than there are; the width of a cell's elements; a number of 32 bits. Sets of registers,
-- in one number: a bit a register.
use Rattle.std.specs.Prelude.{List, [], ◌∷◌, map, Bool, ◌&&◌, ◌||◌, ℕ, suc, ◌+◌, ◌*◌, ◌/◌, ◌%◌, ◌^◌, eqb, leb, get_or, set}
use Rattle.base.specs.Choose.{whether◌then◌else◌}
use Rattle.grammar.specs.Tree.{Width, full, short, byte}
use Rattle.static_rules.specs.Registers.{Registers, flags, no_registers}
use Rattle.static_rules.specs.Meaning.{Meaning, nothing, register, cell, routine, function, Based, Cell}
use Rattle.tables.specs.declared.Sort as S
use Rattle.tables.specs.declared.Sort.TheVariants.{Register, Routine, Cell as OneCell, Array, Function}
use Rattle.tables.specs.declared.Width as W
use Rattle.tables.specs.declared.Width.TheVariants.{Full, Short, Byte, Character}

-- ── meanings ──

-- the sorts; 0 is that of what means nothing
abbrev pub REGISTER : ℕ
REGISTER = 1

abbrev pub ROUTINE : ℕ
ROUTINE = 2

abbrev pub CELL : ℕ
CELL = 3

abbrev pub ARRAY : ℕ
ARRAY = 4

abbrev pub FUNCTION : ℕ
FUNCTION = 5

abbrev pub sort_number : S.Sort → ℕ
sort_number Register = REGISTER
sort_number Routine = ROUTINE
sort_number OneCell = CELL
sort_number Array = ARRAY
sort_number Function = FUNCTION

-- as many as there is room for
abbrev pub SORTS : ℕ
SORTS = 16

-- a number's 32 bits
unfoldable pub low : ℕ → ℕ
low v = v % 4294967296

-- the width of a cell's elements: 0, 1 if they are short, 2 and 3 if they are bytes, by the word BYTE or CHARACTER; of what is no cell it is 0
abbrev pub WIDTHS : ℕ
WIDTHS = 4

unfoldable pub packed : (sort width number : ℕ) → ℕ
packed sort w v = (low v * WIDTHS + w) * SORTS + sort

abbrev pub width_number : W.Width → ℕ
width_number Full = 0
width_number Short = 1
width_number Byte = 2
width_number Character = 3

abbrev pub coded_width : ℕ → W.Width
coded_width n = whether eqb n 0 then Full else whether eqb n 1 then Short else whether eqb n 2 then Byte else Character

abbrev pub sort_in : ℕ → ℕ
sort_in m = m % SORTS

unfoldable pub number_in : ℕ → ℕ
number_in m = low (m / SORTS / WIDTHS)

unfoldable pub is_register_in : ℕ → Bool
is_register_in m = eqb (sort_in m) REGISTER

unfoldable pub is_routine_in : ℕ → Bool
is_routine_in m = eqb (sort_in m) ROUTINE

unfoldable pub is_array_in : ℕ → Bool
is_array_in m = eqb (sort_in m) ARRAY

unfoldable pub is_cell_in : ℕ → Bool
is_cell_in m = eqb (sort_in m) CELL || eqb (sort_in m) ARRAY

unfoldable pub is_function_in : ℕ → Bool
is_function_in m = eqb (sort_in m) FUNCTION

unfoldable pub width_number_in : ℕ → ℕ
width_number_in m = m / SORTS % WIDTHS

abbrev pub is_full_in : ℕ → Bool
is_full_in m = eqb (width_number_in m) 0

abbrev pub is_short_in : ℕ → Bool
is_short_in m = eqb (width_number_in m) 1

abbrev pub is_byte_in : ℕ → Bool
is_byte_in m = leb 2 (width_number_in m)

-- the width by its number
abbrev pub width_by : ℕ → Width
width_by w = whether eqb w 0 then full else whether eqb w 1 then short else byte (eqb w 3)

abbrev pub width_in : ℕ → Width
width_in m = width_by (width_number_in m)

-- a base in force: its register, and below it its segment
unfoldable pub based_in : ℕ → Based
based_in b = record { register = b / 4294967296; segment = b % 4294967296 }

abbrev pub cell_in : (name packed : ℕ) → Based → Cell
cell_in t m b = record { name = t; base = b; width = width_in m; elements = number_in m; array = is_array_in m }

-- what the name at token t means, with the base that was in force
unfoldable pub unpacked : (name packed : ℕ) → Based → Meaning
unpacked t m b =
    whether is_register_in m then register (number_in m) else
    whether is_routine_in m then routine (number_in m) else
    whether is_cell_in m then cell (cell_in t m b) else
    whether is_function_in m then function (number_in m) else
    nothing

-- by token, from token t on
unfoldable pub meanings_from : ℕ → List ℕ → List ℕ → List Meaning
meanings_from t [] bases = []
meanings_from t (m ∷ ms) bases = unpacked t m (based_in (get_or bases t 0)) ∷ meanings_from (suc t) ms bases

abbrev pub meanings_of : (means bases : List ℕ) → List Meaning
meanings_of means bases = meanings_from 0 means bases

-- the register that a packed meaning is; 0 where it is none
unfoldable pub register_in : ℕ → ℕ
register_in m = whether is_register_in m then number_in m else 0

-- "`*` … by what begins with the name of a register or integer cell"
unfoldable pub long_in : ℕ → Bool
long_in m = is_register_in m || (is_cell_in m && is_full_in m)

-- the packed meaning of the name at token t
abbrev pub packed_at : List ℕ → List ℕ → ℕ → ℕ
packed_at found means t = get_or means (get_or found t 0) 0

-- ── sets of registers ──

unfoldable pub has_bit : ℕ → ℕ → Bool
has_bit m r = eqb (m / 2 ^ r % 2) 1

unfoldable pub set_of : ℕ → Registers
set_of m = flags (λ r. has_bit m r)

unfoldable pub sets_of : List ℕ → List Registers
sets_of written = map set_of written

-- the set of procedure own, changed
abbrev pub grown : ℕ → (Registers → Registers) → List Registers → List Registers
grown own f sets = set sets own (f (get_or sets own no_registers))
