-- Document 01, "Names, cells, protected registers": the rules on kinds, registers and values of each part of a text, refusals 8 to 11, and 12 of a base
-- declaration. A name that was not found fits nowhere: 6 at the same place is the smaller number.
use Rattle.std.specs.Prelude.{List, [], ◌∷◌, Bool, true, false, ◌&&◌, ◌||◌, not, ℕ, zero, suc, ◌+◌, ◌*◌, ◌-◌, ◌%◌, eqb, leb, get_or}
use Rattle.std.proofs.Math.Option.{Option, none, some}
use Rattle.base.specs.Choose.{whether◌then◌else◌}
use Rattle.base.specs.Lists.{member}
use Rattle.token.specs.Kinds as K
use Rattle.grammar.specs.Tree.{Designator, Operand, number, place, Sign, plain, abs, neg, neg_abs, Term, Condition, compared, bare, Width, full, short, byte}
use Rattle.scopes.specs.declared.Refusal.TheVariants.{Misfit, WrongRegister, Protected, OutOfBounds, NoRoom}
use Rattle.scopes.specs.Broken.{Ruling, unbroken, rule, broken, ◌⊕◌}
use Rattle.static_rules.specs.Registers.{no_registers, spares}
use Rattle.static_rules.specs.Functions.{Argument, written_register, read_register, byte_number, indexed_cell, plain_cell, surplus, function_at, arity}
use Rattle.static_rules.specs.Meaning.{Meaning, nothing, register, cell, routine, function, Cell, element_size, is_half, is_byte, by_target, register_of, cell_is, long_operand}
use Rattle.static_rules.specs.Tables.{Tables, kind_at, value_at, meaning_at}

-- "Program base is register 15. Data base is 14 … Protected at a point: 15, 14, the bases of enclosing blocks declared so far, the return registers of
-- enclosing procedures."
abbrev pub protected : List ℕ
protected = 15 ∷ 14 ∷ []

-- "No statement, base declaration or call may write a protected register": "10: … target, call or base name; `*` for the lower register"
unfoldable pub write_rule : List ℕ → ℕ → ℕ → Ruling
write_rule kept r t = rule (not (member r kept)) Protected t

-- ── registers ──

abbrev pub is_register : Meaning → Bool
is_register m = by_target m (λ r. true) false false

abbrev pub is_zero : Meaning → Bool
is_zero m = is_register m && eqb (register_of m) 0

-- ── forms and values ──

abbrev pub is_bare : Option ℕ → Option ℕ → Bool
is_bare none none = true
is_bare none (some x) = false
is_bare (some s) none = false
is_bare (some s) (some x) = false

abbrev pub bare_name : Designator → Bool
bare_name d = is_bare d.subscript d.index

-- "Rules on a number's value or sign read its 32 bits as signed."
abbrev pub negative : ℕ → Bool
negative v = leb 2147483648 v

abbrev pub in_range : (low high : ℕ) → ℕ → Bool
in_range low high v = not (negative v) && (leb low v && leb v high)

-- "A subscript is a byte offset, … is a multiple of the element size, and its element lies inside the array."
abbrev pub inside : Cell → ℕ → Bool
inside c v = not (negative v) && (eqb (v % element_size c.width) 0 && leb (v + element_size c.width) (element_size c.width * c.elements))

abbrev pub shifts : List ℕ
shifts = K.SHLL ∷ K.SHRL ∷ K.SHLA ∷ K.SHRA ∷ []

-- "AND, OR, XOR, `++`, `--` take no short cell."
abbrev pub full_only : List ℕ
full_only = K.AND ∷ K.OR ∷ K.XOR ∷ K.ADD-LOGICAL ∷ K.SUBTRACT-LOGICAL ∷ []

abbrev pub is_short : Meaning → Bool
is_short m = cell_is is_half m

abbrev pub is_cell : Meaning → Bool
is_cell m = cell_is (λ w. true) m

abbrev pub is_byte_cell : Meaning → Bool
is_byte_cell m = cell_is is_byte m

abbrev pub no_sign : Sign → Ruling
no_sign plain = unbroken
no_sign (abs t) = broken Misfit t
no_sign (neg t) = broken Misfit t
no_sign (neg_abs t) = broken Misfit t

-- "a cell target one register name only": no sign
abbrev pub sign_by : Meaning → Sign → Ruling
sign_by m g = by_target m (λ r. unbroken) (no_sign g) unbroken

-- "an index there is refusal 8", at its name
abbrev pub no_index : Option ℕ → Ruling
no_index none = unbroken
no_index (some t) = broken Misfit t

-- "or a wrong count at the function's name"; what is no function takes no arguments at all
abbrev pub count_by : Meaning → (name count : ℕ) → Ruling
count_by nothing n count = broken Misfit n
count_by (register r) n count = broken Misfit n
count_by (cell c) n count = broken Misfit n
count_by (routine r) n count = broken Misfit n
count_by (function k) n count = rule (eqb count (arity (function_at k))) Misfit n

-- "A value for a short cell has signed value -32768 to 65535"; of byte cells "initial values 0 to 255"
abbrev pub fits_width : Width → ℕ → Bool
fits_width full v = true
fits_width short v = whether negative v then leb (4294967296 - 32768) v else leb v 65535
fits_width (byte c) v = in_range 0 255 v

-- "11: … array count not 1 to 2,048"
abbrev pub most_elements : ℕ
most_elements = 2048

-- the last of segments 1 to 3: "12: … a third base declaration"
abbrev pub last_segment : ℕ
last_segment = 3

-- ── rules by the tables ──

module _ (f : Tables) where
  -- "The first name in a condition, the FOR target and indexes are registers."
  unfoldable pub register_rule : ℕ → Ruling
  register_rule t = rule (is_register (meaning_at f t)) Misfit t

  -- "9: … 0 as base, return, index, shift"
  unfoldable pub zero_rule : ℕ → Ruling
  zero_rule t = rule (not (is_zero (meaning_at f t))) WrongRegister t

  -- ── designators and operands ──

  unfoldable pub index_rules : Option ℕ → Ruling
  index_rules none = unbroken
  index_rules (some t) = register_rule t ⊕ zero_rule t

  unfoldable pub subscript_rules : Cell → Option ℕ → Ruling
  subscript_rules c none = unbroken
  subscript_rules c (some t) = rule (inside c (value_at f t)) OutOfBounds t

  -- "A subscript … belongs only to arrays (else 8 at the name before it)", and so does an index
  abbrev pub place_by : Meaning → Designator → Ruling
  place_by nothing d = broken Misfit d.name
  place_by (register r) d = rule (bare_name d) Misfit d.name
  place_by (cell c) d = rule (c.array || bare_name d) Misfit d.name ⊕ subscript_rules c d.subscript ⊕ index_rules d.index
  place_by (routine r) d = broken Misfit d.name
  place_by (function k) d = broken Misfit d.name

  unfoldable pub place_rules : Designator → Ruling
  place_rules d = place_by (meaning_at f d.name) d

  -- "A byte cell in an assignment or condition, or as a FOR limit, is refusal 8."
  unfoldable pub no_byte : Designator → Ruling
  no_byte d = rule (not (is_byte_cell (meaning_at f d.name))) Misfit d.name

  unfoldable pub operand_rules : Operand → Ruling
  operand_rules (number t) = unbroken
  operand_rules (place d) = place_rules d ⊕ no_byte d

  -- one register name and nothing else
  unfoldable pub only_register : Operand → Ruling
  only_register (number t) = broken Misfit t
  only_register (place d) = rule (is_register (meaning_at f d.name) && bare_name d) Misfit d.name

  -- ── chains ──

  -- "Shift operands are a number 0 to 63 or a register."
  unfoldable pub shift_rules : Operand → Ruling
  shift_rules (number t) = rule (in_range 0 63 (value_at f t)) OutOfBounds t
  shift_rules (place d) = only_register (place d) ⊕ zero_rule d.name

  unfoldable pub no_short : Operand → Ruling
  no_short (number t) = unbroken
  no_short (place d) = rule (not (is_short (meaning_at f d.name))) Misfit d.name

  -- "`*` by a number, or by what begins with the name of a register or integer cell, needs an odd target and also writes the register below."
  unfoldable pub product_rules : List ℕ → ℕ → Term → Ruling
  product_rules kept r t =
      whether long_operand f.found f.means t.operand then rule (eqb (r % 2) 1) WrongRegister t.operator ⊕ write_rule kept (r - 1) t.operator else unbroken

  -- a term in the chain of the target register r
  unfoldable pub term_rules : List ℕ → ℕ → Term → Ruling
  term_rules kept r t =
      let k = kind_at f t.operator in
      whether member k shifts then shift_rules t.operand else
      whether eqb k K.TIMES then product_rules kept r t ⊕ operand_rules t.operand else
      whether member k full_only then operand_rules t.operand ⊕ no_short t.operand else
      operand_rules t.operand

  -- ── assignments: each part by what the target means ──

  abbrev pub target_by : Meaning → List ℕ → ℕ → Ruling
  target_by m kept t = by_target m (λ r. write_rule kept r t) unbroken unbroken

  unfoldable pub target_rules : List ℕ → Designator → Ruling
  target_rules kept d = place_rules d ⊕ no_byte d ⊕ target_by (meaning_at f d.name) kept d.name

  -- the FOR target is a register
  unfoldable pub control_rules : List ℕ → Designator → Ruling
  control_rules kept d = only_register (place d) ⊕ target_by (meaning_at f d.name) kept d.name

  -- "A register target takes the whole chain, left to right, a cell target one register name only."
  abbrev pub first_by : Meaning → Operand → Ruling
  first_by m a = by_target m (λ r. operand_rules a) (only_register a) unbroken

  abbrev pub term_by : Meaning → List ℕ → Term → Ruling
  term_by m kept t = by_target m (λ r. term_rules kept r t) (broken Misfit t.operator) unbroken

  unfoldable pub condition_rules : Condition → Ruling
  condition_rules (compared n r a) = register_rule n ⊕ operand_rules a
  condition_rules (bare r) = unbroken

  -- ── calls ──

  -- "A procedure's name is known in its own body; a call there is refused": its return register is protected there
  abbrev pub call_by : Meaning → List ℕ → ℕ → Ruling
  call_by nothing kept n = broken Misfit n
  call_by (register r) kept n = broken Misfit n
  call_by (cell c) kept n = broken Misfit n
  call_by (routine r) kept n = write_rule kept r n ⊕ rule (spares (get_or f.written (get_or f.found n 0) no_registers) kept) Protected n
  call_by (function k) kept n = broken Misfit n

  unfoldable pub call_rules : List ℕ → ℕ → Ruling
  call_rules kept n = call_by (meaning_at f n) kept n

  -- ── uses of functions ──

  -- "IC, LA and LTR write the first, so the protected rule counts it": at the register's name
  unfoldable pub written_rules : List ℕ → Operand → Ruling
  written_rules kept (number t) = unbroken
  written_rules kept (place d) = target_by (meaning_at f d.name) kept d.name

  -- "MVI and CLI take a number 0 to 255, else 11"
  unfoldable pub byte_rules : Operand → Ruling
  byte_rules (number t) = rule (in_range 0 255 (value_at f t)) OutOfBounds t
  byte_rules (place d) = broken Misfit d.name

  -- "a cell that may be indexed", of any width
  unfoldable pub cell_rules : Operand → Ruling
  cell_rules (number t) = broken Misfit t
  cell_rules (place d) = rule (is_cell (meaning_at f d.name)) Misfit d.name ⊕ place_rules d

  unfoldable pub plain_rules : Operand → Ruling
  plain_rules (number t) = broken Misfit t
  plain_rules (place d) = cell_rules (place d) ⊕ no_index d.index

  -- "as is a wrong kind of argument"
  unfoldable pub argument_rules : List ℕ → Argument → Operand → Ruling
  argument_rules kept written_register a = only_register a ⊕ written_rules kept a
  argument_rules kept read_register a = only_register a
  argument_rules kept byte_number a = byte_rules a
  argument_rules kept indexed_cell a = cell_rules a
  argument_rules kept plain_cell a = plain_rules a
  argument_rules kept surplus a = unbroken

  -- ── registers that the text takes for itself: of a base, of a CASE ──

  -- "0 as base"; document 02, 3/13: "Register 0 is refusal 9. The case register counts as written, refusal 10 at its name."
  unfoldable pub taken_rules : List ℕ → ℕ → Ruling
  taken_rules kept n = register_rule n ⊕ zero_rule n ⊕ write_rule kept (register_of (meaning_at f n)) n

  -- ── declarations ──

  -- "11: bad initial value or one too many", of the values for which there is room; each that is too many is judged, and the first stands before the others
  unfoldable pub value_rules : Width → ℕ → List ℕ → Ruling
  value_rules w room [] = unbroken
  value_rules w zero (t ∷ ts) = broken OutOfBounds t ⊕ value_rules w zero ts
  value_rules w (suc room) (t ∷ ts) = rule (fits_width w (value_at f t)) OutOfBounds t ⊕ value_rules w room ts

  abbrev pub count_rule : Option ℕ → Ruling
  count_rule none = unbroken
  count_rule (some t) = rule (in_range 1 most_elements (value_at f t)) OutOfBounds t

  unfoldable pub base_rules : List ℕ → ℕ → Ruling
  base_rules kept n = taken_rules kept n ⊕ rule (leb (get_or f.opens n 0) last_segment) NoRoom n
