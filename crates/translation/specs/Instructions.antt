-- Document 01, "Code": instructions, each with the operand that the text names, and the tables of opcodes and masks. An operand has no offset before layout.
use Rattle.std.specs.Prelude.{List, [], ◌∷◌, ◌++◌, ℕ, ◌+◌, get_or}
use Rattle.base.specs.Runs.{index_of}
use Rattle.token.specs.Kinds as K
use Rattle.grammar.specs.Tree.{Width, full, short, byte}
use Rattle.grammar.specs.Grammar.{relations}
use Rattle.static_rules.specs.Meaning.{Cell}
use Rattle.static_rules.specs.Rules.{shifts}

-- an operand in storage: an element of a cell, by its byte offset in the cell, with its index register, 0 for none; a number; an entry of segment 1's table
pub data Datum : Type 0 where
  element : Cell → (offset index : ℕ) → Datum
  literal : (value : ℕ) → Datum
  entry : (k : ℕ) → Datum

-- opcode, r and s; opcode, r and an operand in storage; r and the address of an operand, which is not touched; opcode, a number and an operand of one byte; a shift of r
-- by the register s, or by n with s 0; a branch, and a branch that links, to an address in the program; an always-branch to an address that is indexed by r; the end
pub data Instruction : Type 0 where
  rr : (op r s : ℕ) → Instruction
  rx : (op r : ℕ) → Datum → Instruction
  address : (r : ℕ) → Datum → Instruction
  immediate : (op value : ℕ) → Datum → Instruction
  shift : (op r s n : ℕ) → Instruction
  branch : (mask to : ℕ) → Instruction
  link : (r to : ℕ) → Instruction
  indexed : (r to : ℕ) → Instruction
  stop : Instruction

abbrev pub size : Instruction → ℕ
size (rr op r s) = 2
size (rx op r a) = 4
size (address r a) = 4
size (immediate op v a) = 4
size (shift op r s n) = 4
size (branch mask to) = 4
size (link r to) = 4
size (indexed r to) = 4
size stop = 2

abbrev pub sizes : List Instruction → ℕ
sizes [] = 0
sizes (i ∷ is) = size i + sizes is

-- ── the code table: by row; register, integer cell or number, short cell; 0 where there is no instruction. A byte cell has no column ──

abbrev pub code_table : List (List ℕ)
code_table =
    (0x18 ∷ 0x58 ∷ 0x48 ∷ [])  -- :=
    ∷ (0x1a ∷ 0x5a ∷ 0x4a ∷ [])  -- +
    ∷ (0x1b ∷ 0x5b ∷ 0x4b ∷ [])  -- -
    ∷ (0x1c ∷ 0x5c ∷ 0x4c ∷ [])  -- *
    ∷ (0x1e ∷ 0x5e ∷ 0 ∷ [])  -- ++
    ∷ (0x1f ∷ 0x5f ∷ 0 ∷ [])  -- --
    ∷ (0x14 ∷ 0x54 ∷ 0 ∷ [])  -- AND
    ∷ (0x16 ∷ 0x56 ∷ 0 ∷ [])  -- OR
    ∷ (0x17 ∷ 0x57 ∷ 0 ∷ [])  -- XOR
    ∷ (0x19 ∷ 0x59 ∷ 0x49 ∷ [])  -- compare
    ∷ (0 ∷ 0x50 ∷ 0x40 ∷ [])  -- store
    ∷ []

-- the kinds of the signs and words whose rows stand first, in the order of the rows
abbrev pub row_kinds : List ℕ
row_kinds = K.BECOMES ∷ K.PLUS ∷ K.MINUS ∷ K.TIMES ∷ K.ADD-LOGICAL ∷ K.SUBTRACT-LOGICAL ∷ K.AND ∷ K.OR ∷ K.XOR ∷ []

abbrev pub row_of : ℕ → ℕ
row_of kind = index_of kind row_kinds

abbrev pub load_row : ℕ
load_row = 0

abbrev pub add_row : ℕ
add_row = 1

abbrev pub times_row : ℕ
times_row = 3

abbrev pub compare_row : ℕ
compare_row = 9

abbrev pub store_row : ℕ
store_row = 10

abbrev pub column : Width → ℕ
column full = 1
column short = 2
column (byte c) = 3

unfoldable pub opcode : ℕ → ℕ → ℕ
opcode row col = get_or (get_or code_table row []) col 0

-- ── the opcodes of signs, branches, returns and the end ──

-- "ABS 10, NEG 13, NEG ABS 11"
abbrev pub abs_op : ℕ
abs_op = 0x10

abbrev pub neg_op : ℕ
neg_op = 0x13

abbrev pub neg_abs_op : ℕ
neg_abs_op = 0x11

-- "LTR 12"
abbrev pub test_op : ℕ
test_op = 0x12

-- "LA 41"
abbrev pub address_op : ℕ
address_op = 0x41

-- "Branch `47 m0` to a displacement from 15"
abbrev pub branch_op : ℕ
branch_op = 0x47

-- "Call: `45 r0` to the body."
abbrev pub link_op : ℕ
link_op = 0x45

-- "Procedure: branch around, body, `07 Fr`."
abbrev pub return_op : ℕ
return_op = 0x07

-- "The last instruction is `0A 00`."
abbrev pub stop_op : ℕ
stop_op = 0x0a

-- ── "Shifts 89, 88, 8B, 8A for SHLL, SHRL, SHLA, SHRA" ──

abbrev pub shift_table : List ℕ
shift_table = 0x89 ∷ 0x88 ∷ 0x8b ∷ 0x8a ∷ []

unfoldable pub shift_code : ℕ → ℕ
shift_code kind = get_or shift_table (index_of kind shifts) 0

-- ── "Masks when a condition is false: = 7, ^= 9, < 11, <= 3, >= 5, > 13, OVERFLOW 14." ──

abbrev pub condition_kinds : List ℕ
condition_kinds = relations ++ (K.OVERFLOW ∷ [])

abbrev pub false_masks : List ℕ
false_masks = 7 ∷ 9 ∷ 11 ∷ 3 ∷ 5 ∷ 13 ∷ 14 ∷ []

unfoldable pub false_mask : ℕ → ℕ
false_mask kind = get_or false_masks (index_of kind condition_kinds) 0

-- "always is mask 15"
abbrev pub always : ℕ
always = 15
