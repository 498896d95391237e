-- Instructions as the code pass lays them: with their displacements, but for a literal, whose place is found when it is laid. Operands as instructions name them.
-- The instructions of an event are a list.
use Rattle.std.specs.Prelude as P
use Rattle.std.specs.Prelude.{Option, Some, Bool, true, false, List, [], ◌∷◌, ◌≡◌, ℕ, ◌+◌, ◌-◌, ◌*◌, ◌/◌, ◌%◌, ◌<◌, eqb, leb, get_or}
use Rattle.base.specs.Choose.{whether◌then◌else◌}
use Rattle.base.specs.Lists.{member}
use Rattle.token.specs.Kinds as K
use Rattle.static_rules.specs.Rules.{shifts}
use Rattle.static_rules.specs.Meanings.{data_base}
use Rattle.translation.specs.Instructions.{opcode, row_of, load_row, times_row, compare_row, store_row, abs_op, neg_op, neg_abs_op, test_op, branch_op, link_op, return_op, stop_op, shift_code, always}
use Rattle.translation.specs.Bytes.{program_base}
use Rattle.emit.specs.declared.Use.{Use}
use Rattle.emit.specs.declared.Use.TheVariants.{Absent, Held, Number, Stored}
use Rattle.tables.specs.declared.Width.{Width}
use Rattle.tables.specs.declared.Width.TheVariants.{Full, Short, Byte, Character}
use Rattle.emit.specs.declared.Sign.{Sign}
use Rattle.emit.specs.declared.Sign.TheVariants.{Abs, Neg, NegAbs}
use Rattle.emit.specs.declared.Code.{Code}
use Rattle.emit.specs.declared.Code.TheVariants.{Two, Four, Literal}
use Rattle.emit.specs.declared.Codes.{Codes}
use Rattle.emit.specs.declared.Codes.TheVariants.{None, One, Both, Head}

-- ── branches ──

-- "Branch `47 m0` to a displacement from 15"
abbrev pub branch_code : (mask to : ℕ) → Code
branch_code mask to = Four branch_op mask 0 program_base to

-- "`47 Fr` indexed by r"
abbrev pub indexed_code : (r to : ℕ) → Code
indexed_code r to = Four branch_op always r program_base to

-- ── lists ──

-- of a CASE: "compare with the count as a literal, branch mask 2 to the end; LTR, branch mask 12 to the end; SHLL by 2; `47 Fr` indexed by r"
unfoldable pub list_of : Codes → List Code
list_of None = []
list_of (One c) = c ∷ []
list_of (Both c d) = c ∷ d ∷ []
list_of (Head r n at end) =
    Literal (opcode compare_row 1) r 0 n ∷ branch_code 2 end ∷ Two test_op r r ∷ branch_code 12 end ∷ Four (shift_code K.SHLL) r 0 0 2 ∷ indexed_code r at ∷ []

-- "Two bytes", "Four bytes"
unfoldable pub code_size : Code → ℕ
code_size (Two op r s) = 2
code_size (Four op r x b d) = 4
code_size (Literal op r x v) = 4

abbrev pub code_sizes : List Code → ℕ
code_sizes [] = 0
code_sizes (c ∷ cs) = code_size c + code_sizes cs

-- ── the code table at an operand ──

-- the code table, a row a number: two digits to the base 16 a column
abbrev pub code_rows : List ℕ
code_rows =
    0x18584800 ∷ 0x1a5a4a00 ∷ 0x1b5b4b00 ∷ 0x1c5c4c00 ∷ 0x1e5e0000 ∷ 0x1f5f0000 ∷ 0x14540000 ∷ 0x16560000 ∷ 0x17570000 ∷ 0x19594900 ∷ 0x00504000 ∷ []

-- what the code has for row k of the table
abbrev pub IsRow : (k row : ℕ) → Type 0
IsRow k row = (k < 11) × (row ≡ get_or code_rows k 0)

abbrev pub opcode_in : (row column : ℕ) → ℕ
opcode_in row column = whether eqb column 0 then row / 16777216 % 256 else whether eqb column 1 then row / 65536 % 256 else whether eqb column 2 then row / 256 % 256 else row % 256

-- by the width of a cell; a byte cell has no column
abbrev pub column_of : Width → ℕ
column_of Full = 1
column_of Short = 2
column_of Byte = 3
column_of Character = 3

-- the instruction of a row of the code table at register r; none for an operand that there is not
unfoldable pub apply_code : (row r : ℕ) → Use → Option Code
apply_code row r Absent = P.None
apply_code row r (Held s) = Some (Two (opcode row 0) r s)
apply_code row r (Number v) = Some (Literal (opcode row 1) r 0 v)
apply_code row r (Stored w x b d) = Some (Four (opcode row (column_of w)) r x b d)

abbrev pub only : Option Code → Codes
only P.None = None
only (Some a) = One a

abbrev pub followed : Option Code → Code → Codes
followed P.None c = One c
followed (Some a) c = Both a c

unfoldable pub apply_codes : (row r : ℕ) → Use → Codes
apply_codes row r u = only (apply_code row r u)

-- and another behind it
unfoldable pub apply_then : (row r : ℕ) → Use → Code → Codes
apply_then row r u c = followed (apply_code row r u) c

-- ── assignments ──

-- "ABS 10, NEG 13, NEG ABS 11"
abbrev pub sign_code : Sign → ℕ
sign_code Abs = abs_op
sign_code Neg = neg_op
sign_code NegAbs = neg_abs_op

-- "a cell or number is loaded first, then the instruction names the target twice."
unfoldable pub signed_codes : (op r : ℕ) → Use → Codes
signed_codes op r Absent = None
signed_codes op r (Held s) = One (Two op r s)
signed_codes op r (Number v) = apply_then load_row r (Number v) (Two op r r)
signed_codes op r (Stored w x b d) = apply_then load_row r (Stored w x b d) (Two op r r)

unfoldable pub load_codes : Option Sign → (r : ℕ) → Use → Codes
load_codes P.None r u = apply_codes load_row r u
load_codes (Some sign) r u = signed_codes (sign_code sign) r u

-- the register that an operand is; 0 where it is none
unfoldable pub held_in : Use → ℕ
held_in Absent = 0
held_in (Held r) = r
held_in (Number v) = 0
held_in (Stored w x b d) = 0

unfoldable pub amount_in : Use → ℕ
amount_in Absent = 0
amount_in (Held r) = 0
amount_in (Number v) = v
amount_in (Stored w x b d) = 0

abbrev pub is_full : Width → Bool
is_full Full = true
is_full Short = false
is_full Byte = false
is_full Character = false

-- "`*` by a number, or by what begins with the name of a register or integer cell"
unfoldable pub is_long_use : Use → Bool
is_long_use Absent = false
is_long_use (Held r) = true
is_long_use (Number v) = true
is_long_use (Stored w x b d) = is_full w

-- "1C and 5C name the register below the target."
unfoldable pub product_register : ℕ → Use → ℕ
product_register r u = whether is_long_use u then (r - 1) else r

-- the opcode of a shift, of no other operator
abbrev pub shift_of : ℕ → Option ℕ
shift_of kind = whether member kind shifts then Some (shift_code kind) else P.None

-- "`89 r0 00 n`, or by register `89 r0 s0 00`"
unfoldable pub term_codes : (kind r : ℕ) → Use → Codes
term_codes kind r u =
    whether member kind shifts then One (Four (shift_code kind) r 0 (held_in u) (amount_in u)) else
    whether eqb kind K.TIMES then apply_codes times_row (product_register r u) u else
    apply_codes (row_of kind) r u

-- an assignment's first operand: loaded into a register target, or the register that is stored in a cell target
unfoldable pub first_codes : (aim : Use) (sign : Option Sign) → Use → Codes
first_codes Absent sign u = None
first_codes (Held r) sign u = load_codes sign r u
first_codes (Number v) sign u = None
first_codes (Stored w x b d) sign u = apply_codes store_row (held_in u) (Stored w x b d)

unfoldable pub next_codes : (aim : Use) (kind : ℕ) → Use → Codes
next_codes Absent kind u = None
next_codes (Held r) kind u = term_codes kind r u
next_codes (Number v) kind u = None
next_codes (Stored w x b d) kind u = None

-- ── uses of functions ──

-- the opcodes that take a number: MVI and CLI
abbrev pub is_immediate : (op : ℕ) → Bool
is_immediate op = leb 128 op

-- a half of an instruction's second byte: the number's where the opcode takes one, else the register or the index
abbrev pub half_of : (op nibble field : ℕ) → ℕ
half_of op nibble field = whether is_immediate op then nibble else field

-- with the last argument, by the register r or the number v before it
unfoldable pub function_codes : (op r v : ℕ) → Use → Codes
function_codes op r v Absent = None
function_codes op r v (Held s) = One (Two op r s)
function_codes op r v (Number n) = One (Literal op (half_of op (v / 16) r) (half_of op (v % 16) 0) n)
function_codes op r v (Stored w x b d) = One (Four op (half_of op (v / 16) r) (half_of op (v % 16) x) b d)

-- ── the others ──

-- "Call: `45 r0` to the body."
abbrev pub link_code : (r to : ℕ) → Code
link_code r to = Four link_op r 0 program_base to

-- "Base declaration for segment k: `58 r0 E0`, 4k."
abbrev pub base_code : (r k : ℕ) → Code
base_code r k = Four (opcode load_row 1) r 0 data_base.register (4 * k)

-- "Procedure: … `07 Fr`."
abbrev pub return_code : ℕ → Code
return_code r = Two return_op always r

-- "The last instruction is `0A 00`."
abbrev pub stop_code : Code
stop_code = Two stop_op 0 0
