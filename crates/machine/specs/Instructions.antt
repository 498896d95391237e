-- The opcodes of document 01 and of the byte functions (document 02, 1/13), in two steps: where an instruction's operand is, and what is done with it.
use Rattle.std.specs.Prelude.{ℕ, List, [], ◌∷◌, ◌++◌, eqb}
use Rattle.base.specs.Choose.{choose}
use Rattle.machine.specs.declared.Fun.{Fun}
use Rattle.machine.specs.declared.Fun.TheVariants.{Load, Add, Subtract, AddLogical, SubtractLogical, And, Or, ExclusiveOr, Compare, Positive, Negative, Complement, MultiplyHalf, Insert, Test}
use Rattle.machine.specs.declared.Shift.{Shift}
use Rattle.machine.specs.declared.Shift.TheVariants.{RightLogical, LeftLogical, Right, Left}

-- two bytes: opcode, r·16+s
pub data Short : Type 0 where
  applies : Fun → Short  -- to registers r and s
  multiplies : Short
  branches : Short
  ends : Short
  unlisted : Short

-- four bytes: opcode, r·16+index, base·16 + displacement/256, displacement mod 256; of those that take a number, opcode, the number, then base and displacement
pub data Long : Type 0 where
  applies_to : (size : ℕ) → Fun → Long  -- register r and an operand of so many bytes
  multiplies_by : Long
  stores : (size : ℕ) → Long
  branches_to : Long
  links : Long
  shifts : Shift → Long
  addresses : Long  -- register r gets the address itself
  moves : Long  -- the number to a byte of storage
  compares : Long  -- a byte of storage with the number
  unlisted_long : Long

-- an opcode's row in a table, or else what is said of it further on
abbrev pub row_of : {A : Type 0} → List (ℕ × A) → ℕ → A → A
row_of [] op other = other
row_of (x ∷ xs) op other = choose (eqb op x.0) x.1 (row_of xs op other)

abbrev pub register_rows : List (ℕ × Short)
register_rows =
    (0x07, branches)
    ∷ (0x0A, ends)
    ∷ (0x10, applies Positive)
    ∷ (0x11, applies Negative)
    ∷ (0x12, applies Test)
    ∷ (0x13, applies Complement)
    ∷ (0x14, applies And)
    ∷ (0x16, applies Or)
    ∷ (0x17, applies ExclusiveOr)
    ∷ (0x18, applies Load)
    ∷ (0x19, applies Compare)
    ∷ (0x1A, applies Add)
    ∷ (0x1B, applies Subtract)
    ∷ (0x1C, multiplies)
    ∷ (0x1E, applies AddLogical)
    ∷ (0x1F, applies SubtractLogical)
    ∷ []

abbrev pub short_kind : ℕ → Short
short_kind op = row_of register_rows op unlisted

-- what a register stores, of two bytes, one and four
abbrev pub store_rows : List (ℕ × Long)
store_rows = (0x40, stores 2) ∷ (0x42, stores 1) ∷ (0x50, stores 4) ∷ []

-- the address, and one byte of storage
abbrev pub byte_rows : List (ℕ × Long)
byte_rows = (0x41, addresses) ∷ (0x43, applies_to 1 Insert) ∷ []

-- of two bytes of storage, and the branches
abbrev pub halfword_rows : List (ℕ × Long)
halfword_rows =
    (0x45, links)
    ∷ (0x47, branches_to)
    ∷ (0x48, applies_to 2 Load)
    ∷ (0x49, applies_to 2 Compare)
    ∷ (0x4A, applies_to 2 Add)
    ∷ (0x4B, applies_to 2 Subtract)
    ∷ (0x4C, applies_to 2 MultiplyHalf)
    ∷ []

-- of four bytes of storage
abbrev pub word_rows : List (ℕ × Long)
word_rows =
    (0x54, applies_to 4 And)
    ∷ (0x56, applies_to 4 Or)
    ∷ (0x57, applies_to 4 ExclusiveOr)
    ∷ (0x58, applies_to 4 Load)
    ∷ (0x59, applies_to 4 Compare)
    ∷ (0x5A, applies_to 4 Add)
    ∷ (0x5B, applies_to 4 Subtract)
    ∷ (0x5C, multiplies_by)
    ∷ (0x5E, applies_to 4 AddLogical)
    ∷ (0x5F, applies_to 4 SubtractLogical)
    ∷ []

abbrev pub shift_rows : List (ℕ × Long)
shift_rows =
    (0x88, shifts RightLogical)
    ∷ (0x89, shifts LeftLogical)
    ∷ (0x8A, shifts Right)
    ∷ (0x8B, shifts Left)
    ∷ []

abbrev pub shift_kind : ℕ → Long
shift_kind op = row_of shift_rows op unlisted_long

-- those that take a number where others name registers
abbrev pub immediate_rows : List (ℕ × Long)
immediate_rows = (0x92, moves) ∷ (0x95, compares) ∷ []

-- all that names an address without an index
abbrev pub plain_rows : List (ℕ × Long)
plain_rows = immediate_rows ++ shift_rows

abbrev pub plain_kind : ℕ → Long
plain_kind op = row_of plain_rows op unlisted_long

-- all that stores nothing, and all that names an address with an index
abbrev pub read_rows : List (ℕ × Long)
read_rows = byte_rows ++ (halfword_rows ++ word_rows)

abbrev pub read_kind : ℕ → Long
read_kind op = row_of read_rows op unlisted_long

abbrev pub storage_rows : List (ℕ × Long)
storage_rows = store_rows ++ read_rows

abbrev pub storage_kind : ℕ → Long
storage_kind op = row_of storage_rows op unlisted_long

abbrev pub long_kind : ℕ → Long
long_kind op = row_of storage_rows op (plain_kind op)
