-- Document 02, 1/13: the standard functions. "IC 43, STC 42, LA 41, MVI 92, CLI 95, SET (MVI with FF), RESET (MVI with 00), TEST (CLI with FF). LTR 12 becomes standard
-- too. … IC, STC and LA take a register, then a cell that may be indexed; LTR takes two registers; IC, LA and LTR write the first … MVI and CLI take a number 0 to 255,
-- else 11, then a cell; the others of that family only a cell; an index there is refusal 8". A function is known by its place in the table, which is that of its name in
-- `function_names`.
use Rattle.std.specs.Prelude.{List, [], ◌∷◌, Bool, true, false, ℕ, get_or, length}

-- what stands in a parenthesis: a register that is written, one that is read, a number 0 to 255, a cell that may be indexed, one that may not; or more than the function takes
pub data Argument : Type 0 where
  written_register read_register byte_number indexed_cell plain_cell surplus : Argument

-- what its instruction does with a cell: reads or stores it, names its address, or holds a number against it
pub data Form : Type 0 where
  operand address immediate : Form

-- the number is that of SET, RESET and TEST
pub record Function : Type 0 where
  pub takes : List Argument
  pub form : Form
  pub op : ℕ
  pub number : ℕ

abbrev row : List Argument → Form → ℕ → ℕ → Function
row takes form op number = record { takes = takes; form = form; op = op; number = number }

abbrev pub function_table : List Function
function_table =
    row (written_register ∷ indexed_cell ∷ []) operand 0x43 0  -- IC
    ∷ row (read_register ∷ indexed_cell ∷ []) operand 0x42 0  -- STC
    ∷ row (written_register ∷ indexed_cell ∷ []) address 0x41 0  -- LA
    ∷ row (byte_number ∷ plain_cell ∷ []) immediate 0x92 0  -- MVI
    ∷ row (byte_number ∷ plain_cell ∷ []) immediate 0x95 0  -- CLI
    ∷ row (plain_cell ∷ []) immediate 0x92 0xff  -- SET
    ∷ row (plain_cell ∷ []) immediate 0x92 0x00  -- RESET
    ∷ row (plain_cell ∷ []) immediate 0x95 0xff  -- TEST
    ∷ row (written_register ∷ read_register ∷ []) operand 0x12 0  -- LTR
    ∷ []

-- the places in the table
abbrev pub nine : List ℕ
nine = 0 ∷ 1 ∷ 2 ∷ 3 ∷ 4 ∷ 5 ∷ 6 ∷ 7 ∷ 8 ∷ []

abbrev pub no_function : Function
no_function = row [] operand 0 0

unfoldable pub function_at : ℕ → Function
function_at k = get_or function_table k no_function

-- how many arguments it takes
abbrev pub arity : Function → ℕ
arity g = length g.takes

-- the argument at a position, from 0 on
abbrev pub argument_at : Function → ℕ → Argument
argument_at g p = get_or g.takes p surplus

-- "IC, LA and LTR write the first"
abbrev pub is_written : Argument → Bool
is_written x = elim x [ written_register ↦ true | read_register ↦ false | byte_number ↦ false | indexed_cell ↦ false | plain_cell ↦ false | surplus ↦ false ]
