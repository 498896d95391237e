-- Document 01, "Code": the statements of a text with their names found: the instructions of assignments and conditions, and the shape around them.
use Rattle.std.specs.Prelude.{List, [], ◌∷◌, ◌++◌, Bool, true, ◌&&◌, ℕ, ◌-◌, eqb, get_or}
use Rattle.std.proofs.Math.Option.{Option, none, some}
use Rattle.base.specs.Choose.{whether◌then◌else◌}
use Rattle.base.specs.Lists.{member}
use Rattle.token.specs.Kinds as K
use Rattle.grammar.specs.Tree as T
use Rattle.grammar.specs.Tree.{Designator, Operand, number, place, Sign, plain, abs, neg, neg_abs, Term, Assignment, Condition, compared, bare, Width, full, Statement, Body, Items, Choices}
use Rattle.static_rules.specs.Functions as F
use Rattle.static_rules.specs.Functions.{Form, Function, arity}
use Rattle.static_rules.specs.Meaning.{Meaning, nothing, register, cell, routine, function, by_target, register_of, function_of, long_operand}
use Rattle.static_rules.specs.Tables.{Tables, kind_at, value_at, meaning_at}
use Rattle.static_rules.specs.Rules.{negative, bare_name, shifts}
use Rattle.translation.specs.Instructions.{Datum, element, literal, Instruction, rr, rx, address, immediate, shift, opcode, row_of, load_row, compare_row, times_row, store_row, column, abs_op, neg_op, neg_abs_op, shift_code, false_mask}

mutual
  -- a label or a procedure is known by the token of its name
  pub data Core : Type 0 where
    skip : Core
    run : List Instruction → Core
    seq : Core → Core → Core
    mark : (label : ℕ) → Core → Core
    -- the statements of a block, in which its labels are known
    scope : Core → Core
    jump : (label : ℕ) → Core
    call : (name return : ℕ) → Core
    -- a procedure's body, and the rest of its block
    procedure : (name return : ℕ) → Core → Core → Core
    -- a base declaration for segment k, and the rest of its block
    base : (r k : ℕ) → Core → Core
    -- a condition's instructions and its mask when false
    when loop : List Instruction → (mask : ℕ) → Core → Core
    either : List Instruction → (mask : ℕ) → Core → Core → Core
    -- FOR: assignment, compare, exit mask, register and step
    count : List Instruction → List Instruction → (mask r step : ℕ) → Core → Core
    -- CASE: the register, and the statements from which it chooses
    select : (r : ℕ) → Arms → Core

  pub data Arms : Type 0 where
    last : Arms
    arm : Core → Arms → Arms

-- ── operands ──

-- what an operand is: held in a register; stored, with the width of its element; or none, where its name was not found or does not fit
pub data Use : Type 0 where
  held : (r : ℕ) → Use
  stored : Width → Datum → Use
  absent : Use

-- the instruction of a row of the code table at register r
abbrev pub apply : ℕ → ℕ → Use → List Instruction
apply row r (held s) = rr (opcode row 0) r s ∷ []
apply row r (stored w a) = rx (opcode row (column w)) r a ∷ []
apply row r absent = []

-- "ABS 10, NEG 13, NEG ABS 11; a cell or number is loaded first, then the instruction names the target twice."
abbrev pub signed : ℕ → ℕ → Use → List Instruction
signed op r (held s) = rr op r s ∷ []
signed op r (stored w a) = rx (opcode load_row (column w)) r a ∷ rr op r r ∷ []
signed op r absent = []

abbrev pub load : Sign → ℕ → Use → List Instruction
load plain r u = apply load_row r u
load (abs t) r u = signed abs_op r u
load (neg t) r u = signed neg_op r u
load (neg_abs t) r u = signed neg_abs_op r u

-- the instruction of a function with a cell: by the register r, or by the number v
abbrev pub function_with : Form → (op r v : ℕ) → Datum → Instruction
function_with F.operand op r v a = rx op r a
function_with F.address op r v a = address r a
function_with F.immediate op r v a = immediate op v a

-- "LTR takes two registers", all others a cell
abbrev pub function_on : Function → (r v : ℕ) → Use → List Instruction
function_on g r v (held s) = rr g.op r s ∷ []
function_on g r v (stored w a) = function_with g.form g.op r v a ∷ []
function_on g r v absent = []

-- one token: a number, or a name alone
abbrev pub is_token : Operand → Bool
is_token (number t) = true
is_token (place d) = bare_name d

-- "exit branch, mask 2, or 4 if the step is negative"
abbrev pub exit_mask : ℕ → ℕ
exit_mask step = whether negative step then 4 else 2

-- the return register of the procedure that is called
abbrev pub return_of : Meaning → ℕ
return_of m = elim m [ nothing ↦ 0 | register r ↦ 0 | cell c ↦ 0 | routine r ↦ r | function k ↦ 0 ]

-- ── by the tables ──

module _ (f : Tables) where
  -- "An array name alone is its first element."
  abbrev pub subscript_of : Option ℕ → ℕ
  subscript_of none = 0
  subscript_of (some t) = value_at f t

  abbrev pub index_of : Option ℕ → ℕ
  index_of none = 0
  index_of (some t) = register_of (meaning_at f t)

  abbrev pub use_by : Meaning → Designator → Use
  use_by nothing d = absent
  use_by (register r) d = held r
  use_by (cell c) d = stored c.width (element c (subscript_of d.subscript) (index_of d.index))
  use_by (routine r) d = absent
  use_by (function k) d = absent

  unfoldable pub use_of : Operand → Use
  use_of (number t) = stored full (literal (value_at f t))
  use_of (place d) = use_by (meaning_at f d.name) d

  -- "`89 r0 00 n`, or by register `89 r0 s0 00`"
  unfoldable pub shift_by : ℕ → ℕ → Operand → List Instruction
  shift_by op r (number t) = shift op r 0 (value_at f t) ∷ []
  shift_by op r (place d) = shift op r (register_of (meaning_at f d.name)) 0 ∷ []

  -- "1C and 5C name the register below the target."
  abbrev pub product_target : ℕ → Operand → ℕ
  product_target r a = whether long_operand f.found f.means a then (r - 1) else r

  unfoldable pub term_of : ℕ → Term → List Instruction
  term_of r t =
      let k = kind_at f t.operator in
      whether member k shifts then shift_by (shift_code k) r t.operand else
      whether eqb k K.TIMES then apply times_row (product_target r t.operand) (use_of t.operand) else
      apply (row_of k) r (use_of t.operand)

  unfoldable pub chain_of : ℕ → List Term → List Instruction
  chain_of r [] = []
  chain_of r (t ∷ ts) = term_of r t ++ chain_of r ts

  -- ── assignments and conditions ──

  unfoldable pub to_register : ℕ → Assignment → List Instruction
  to_register r a = load a.sign r (use_of a.first) ++ chain_of r a.rest

  abbrev pub source_of : Operand → ℕ
  source_of (number t) = 0
  source_of (place d) = register_of (meaning_at f d.name)

  abbrev pub number_of : Operand → ℕ
  number_of (number t) = value_at f t
  number_of (place d) = 0

  abbrev pub assign_by : Meaning → Assignment → List Instruction
  assign_by m a = by_target m (λ r. to_register r a) (apply store_row (source_of a.first) (use_of (place a.target))) []

  unfoldable pub assignment_of : Assignment → List Instruction
  assignment_of a = assign_by (meaning_at f a.target.name) a

  unfoldable pub compare_with : ℕ → Operand → List Instruction
  compare_with r a = apply compare_row r (use_of a)

  unfoldable pub test_of : Condition → List Instruction
  test_of (compared n k a) = compare_with (register_of (meaning_at f n)) a
  test_of (bare k) = []

  abbrev pub mask_of : Condition → ℕ
  mask_of (compared n k a) = false_mask (kind_at f k)
  mask_of (bare k) = false_mask (kind_at f k)

  abbrev pub control_of : Assignment → ℕ
  control_of a = register_of (meaning_at f a.target.name)

  -- ── uses of functions ──

  -- of its last argument, by the register or number before it, which is one token, or by the function's own number; none where the count is wrong
  unfoldable pub function_code : Function → Operand → List Operand → List Instruction
  function_code g a [] = whether eqb 1 (arity g) then function_on g 0 g.number (use_of a) else []
  function_code g a (b ∷ []) = whether eqb 2 (arity g) && is_token a then function_on g (source_of a) (number_of a) (use_of b) else []
  function_code g a (b ∷ c ∷ more) = []

  -- ── the whole text ──

  unfoldable mutual
    pub core_statement : Statement → Core
    core_statement (T.assign a) = run (assignment_of a)
    core_statement (T.call n) = call (get_or f.found n 0) (return_of (meaning_at f n))
    core_statement (T.apply n a more) = run (function_code (function_of (meaning_at f n)) a more)
    core_statement (T.block t x) = core_body x
    core_statement (T.goto t n) = jump (get_or f.goes n 0)
    core_statement T.null = skip
    core_statement (T.if_then t c x) = when (test_of c) (mask_of c) (core_statement x)
    core_statement (T.if_else t c x e y) = either (test_of c) (mask_of c) (core_statement x) (core_statement y)
    core_statement (T.while t c x) = loop (test_of c) (mask_of c) (core_statement x)
    core_statement (T.for t a v l x) =
        count (to_register (control_of a) a) (compare_with (control_of a) l) (exit_mask (value_at f v)) (control_of a) (value_at f v) (core_statement x)
    core_statement (T.choose t n xs) = select (register_of (meaning_at f n)) (core_choices xs)

    pub core_body : Body → Core
    core_body (T.declare (T.registers rs) x) = core_body x
    core_body (T.declare (T.cells c w is) x) = core_body x
    core_body (T.declare (T.base n) x) = base (register_of (meaning_at f n)) (get_or f.opens n 0) (core_body x)
    core_body (T.procedure n r x y) = procedure n (register_of (meaning_at f r)) (core_statement x) (core_body y)
    core_body (T.items is) = scope (core_items is)

    pub core_items : Items → Core
    core_items T.ended = skip
    core_items (T.label l is) = mark l (core_items is)
    core_items (T.item x is) = seq (core_statement x) (core_items is)

    pub core_choices : Choices → Arms
    core_choices T.over = last
    core_choices (T.choice x xs) = arm (core_statement x) (core_choices xs)
