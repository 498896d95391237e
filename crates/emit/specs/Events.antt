-- The instructions of an event. Where branches go stands in `marks`, by token: a label's name, its statement; a procedure's name, its body, and behind it at the
-- next token; IF and WHILE, where a false condition goes, and at the next token behind an ELSE part, or the condition of the loop; a STEP's number, the compare,
-- and at the token before it behind the loop, at the token after it the control register; a CASE's register, its first statement, and at the next token
-- behind it all.
use Rattle.std.specs.Prelude as P
use Rattle.std.specs.Prelude.{Option, Some, List, ◌||◌, ℕ, ◌+◌, ◌-◌, ◌*◌, ◌/◌, ◌%◌, eqb, ltb, get_or}
use Rattle.base.specs.Choose.{whether◌then◌else◌}
use Rattle.token.specs.Kinds as K
use Rattle.tape.specs.Events as E
use Rattle.tape.specs.Numbers.{family_at, form_at}
use Rattle.tables.specs.Packed.{low, number_in, is_register_in, is_routine_in, is_cell_in, width_number_in, coded_width, register_in, packed_at}
use Rattle.static_rules.specs.Functions.{Function, arity}
use Rattle.functions.specs.Arguments.{function_in}
use Rattle.translation.specs.Instructions.{add_row, compare_row, false_mask, always}
use Rattle.translation.specs.Core.{exit_mask}
use Rattle.ledger.specs.Book.{Wide, Thin}
use Rattle.emit.specs.declared.Use.{Use}
use Rattle.emit.specs.declared.Use.TheVariants.{Absent, Held, Number, Stored}
use Rattle.emit.specs.declared.Codes.{Codes}
use Rattle.emit.specs.declared.Codes.TheVariants.{None, One, Head}
use Rattle.emit.specs.declared.Named.{Named}
use Rattle.emit.specs.declared.Sign.{Sign}
use Rattle.emit.specs.declared.Sign.TheVariants.{Abs, Neg, NegAbs}
use Rattle.emit.specs.declared.Writing.{Writing}
use Rattle.emit.specs.declared.Emitted.{Emitted}
use Rattle.emit.specs.Codes.{apply_then, held_in, first_codes, next_codes, function_codes, branch_code, link_code, base_code, return_code}

-- ── operands ──

-- a subscript follows the name where the shape is odd: name(number), name(number)(name)
unfoldable pub subscript_in : (values : List ℕ) (shape t : ℕ) → ℕ
subscript_in values shape t = whether eqb (shape % 2) 1 then get_or values (t + 2) 0 else 0

-- an index, two or five tokens behind it: name(name), name(number)(name)
unfoldable pub index_in : (found means : List ℕ) (shape t : ℕ) → ℕ
index_in found means shape t =
    whether eqb shape E.INDEXED then register_in (packed_at found means (t + 2)) else
    whether eqb shape E.SUBSCRIPTED-INDEXED then register_in (packed_at found means (t + 5)) else
    0

-- an element of the cell that is declared at token d, with the packed meaning m
unfoldable pub element_in : (under offsets : List ℕ) (d m subscript index : ℕ) → Use
element_in under offsets d m subscript index = Stored (coded_width (width_number_in m)) index (get_or under d 0 / 4294967296) (low (get_or offsets d 0) + low subscript)

-- what is declared at token d, by its packed meaning m
unfoldable pub place_by : (under offsets : List ℕ) (d m subscript index : ℕ) → Use
place_by under offsets d m subscript index =
    whether is_register_in m then Held (number_in m) else
    whether is_cell_in m then element_in under offsets d m subscript index else
    Absent

module _ (values found means under offsets : List ℕ) where
  unfoldable pub place_in : (shape t : ℕ) → Use
  place_in shape t = place_by under offsets (get_or found t 0) (packed_at found means t) (subscript_in values shape t) (index_in found means shape t)

  unfoldable pub use_in : (shape t : ℕ) → Use
  use_in shape t = whether eqb shape E.NUMBER then Number (get_or values t 0) else place_in shape t

-- ── what an event names ──

-- the return register of the procedure that is called
unfoldable pub return_in : ℕ → ℕ
return_in m = whether is_routine_in m then number_in m else 0

-- the register: of a procedure two tokens behind its name, of a compare two before its operand, of a call the procedure's; else what the name itself means
unfoldable pub register_at : (found means : List ℕ) (family t : ℕ) → ℕ
register_at found means family t =
    whether eqb family E.END-PROCEDURE then register_in (packed_at found means (t + 2)) else
    whether eqb family E.COMPARED then register_in (packed_at found means (t - 2)) else
    whether eqb family E.CALL then return_in (packed_at found means t) else
    register_in (packed_at found means t)

-- where it leads: the segment of a base, the procedure of a call, the label of a GOTO
unfoldable pub goal_at : (found goes opens : List ℕ) (family t : ℕ) → ℕ
goal_at found goes opens family t =
    whether eqb family E.BASE then get_or opens t 0 else
    whether eqb family E.CALL then get_or found t 0 else
    get_or goes t 0

-- ── the assignment or use that is written ──

abbrev pub no_writing : Writing
no_writing = record { aim = Absent; sign = P.None; arguments = 0 }

-- no function takes three
abbrev pub more : ℕ → ℕ
more n = whether ltb n 3 then n + 1 else n

-- the sign that an event is
abbrev pub sign_at : ℕ → Option Sign
sign_at family = whether eqb family E.ABS then Some Abs else whether eqb family E.NEG then Some Neg else whether eqb family E.NEG-ABS then Some NegAbs else P.None

abbrev pub signing : Option Sign → Writing → Writing
signing sign w = record { aim = w.aim; sign = sign; arguments = w.arguments }

-- before the register of a CASE stands how many statements there are, in place of a token
unfoldable pub written_after : (family t : ℕ) → Writing → Use → (register : ℕ) → Writing
written_after family t w u r =
    whether eqb family E.TARGET then record { aim = u; sign = P.None; arguments = 0 } else
    whether eqb family E.CONTROL then record { aim = Held r; sign = P.None; arguments = 0 } else
    whether eqb family E.ABS || (eqb family E.NEG || eqb family E.NEG-ABS) then signing (sign_at family) w else
    whether eqb family E.ARGUED then record { aim = u; sign = P.None; arguments = more w.arguments } else
    whether eqb family E.APPLIED || (eqb family E.COUNTED || eqb family E.CHOSEN) then no_writing else
    whether eqb family E.LISTED then record { aim = Absent; sign = P.None; arguments = t } else
    w

-- ── the instructions ──

-- "IF and WHILE branch on false"
unfoldable pub compared_codes : (kinds marks : List ℕ) (r t : ℕ) → Use → Codes
compared_codes kinds marks r t u = apply_then compare_row r u (branch_code (false_mask (get_or kinds (t - 1) 0)) (get_or marks (t - 3) 0))

unfoldable pub bare_codes : (kinds marks : List ℕ) (t : ℕ) → Codes
bare_codes kinds marks t = One (branch_code (false_mask (get_or kinds t 0)) (get_or marks (t - 1) 0))

-- "compare with limit; exit branch"
unfoldable pub limit_codes : (values marks : List ℕ) (aim : Use) (t : ℕ) → Use → Codes
limit_codes values marks aim t u = apply_then compare_row (held_in aim) u (branch_code (exit_mask (get_or values (t - 2) 0)) (get_or marks (t - 3) 0))

-- "5A of the step; branch to the compare"
unfoldable pub step_codes : (values marks : List ℕ) (t : ℕ) → Codes
step_codes values marks t = apply_then add_row (get_or marks (t + 1) 0) (Number (get_or values t 0)) (branch_code always (get_or marks t 0))

-- by the first of two arguments, if it is one token: its parenthesis closes behind it
unfoldable pub second_codes : (kinds values found means : List ℕ) (t op : ℕ) → Use → Codes
second_codes kinds values found means t op u =
    whether eqb (get_or kinds (t + 3) 0) K.CLOSE then
    (whether eqb (get_or kinds (t + 2) 0) K.NUMBER then function_codes op 0 (get_or values (t + 2) 0) u else
    function_codes op (register_in (packed_at found means (t + 2))) 0 u)
    else None

-- of the function g, by its last argument and how many there are
unfoldable pub used_codes : (kinds values found means : List ℕ) (t : ℕ) → Function → Writing → Codes
used_codes kinds values found means t g w =
    whether eqb w.arguments (arity g) then
    (whether eqb w.arguments 1 then function_codes g.op 0 g.number w.aim else second_codes kinds values found means t g.op w.aim)
    else None

-- ── a CASE ──

-- its instructions but the table; "at four bytes before the branch table", which stands before the first statement
unfoldable pub chosen_codes : (marks : List ℕ) (r t : ℕ) → Writing → Codes
chosen_codes marks r t w = Head r w.arguments (get_or marks t 0 - (4 * w.arguments + 4)) (get_or marks (t + 1) 0)

-- how many bytes its table has
abbrev pub table_bytes : (family : ℕ) → Writing → ℕ
table_bytes family w = whether eqb family E.CHOSEN then 4 * w.arguments else 0

-- ── the others ──

-- declarations, ends of statements, calls and GOTOs
unfoldable pub other_codes : (marks : List ℕ) (family t : ℕ) → Named → Codes
other_codes marks family t n =
    whether eqb family E.BASE then One (base_code n.register n.goal) else
    whether eqb family E.END-PROCEDURE then One (return_code n.register) else
    whether eqb family E.CALL then One (link_code n.register (get_or marks n.goal 0)) else
    whether eqb family E.GOTO then One (branch_code always (get_or marks n.goal 0)) else
    whether (eqb family E.PROCEDURE || eqb family E.ELSE) || (eqb family E.END-WHILE || eqb family E.END-CHOICE) then One (branch_code always (get_or marks (t + 1) 0)) else
    None

unfoldable pub codes_of : (kinds values found means marks : List ℕ) (family t : ℕ) → Writing → Use → Named → Codes
codes_of kinds values found means marks family t w u n =
    whether eqb family E.FIRST then first_codes w.aim w.sign u else
    whether eqb family E.TERM then next_codes w.aim (get_or kinds (t - 1) 0) u else
    whether eqb family E.COMPARED then compared_codes kinds marks n.register t u else
    whether eqb family E.LIMIT then limit_codes values marks w.aim t u else
    whether eqb family E.BARE then bare_codes kinds marks t else
    whether eqb family E.END-FOR then step_codes values marks t else
    whether eqb family E.COUNTED then used_codes kinds values found means t (function_in (packed_at found means t)) w else
    whether eqb family E.CHOSEN then chosen_codes marks n.register t w else
    other_codes marks family t n

-- ── by the lists ──

unfoldable pub writing_after : (values found means under offsets : List ℕ) (op t : ℕ) → Writing → Writing
writing_after values found means under offsets op t w =
    written_after (family_at op) t w (use_in values found means under offsets (form_at op) t) (register_at found means (family_at op) t)

unfoldable pub codes_by : (kinds values found goes means under opens offsets marks : List ℕ) (op t : ℕ) → Writing → Codes
codes_by kinds values found goes means under opens offsets marks op t w =
    codes_of kinds values found means marks (family_at op) t w (use_in values found means under offsets (form_at op) t)
    (record { register = register_at found means (family_at op) t; goal = goal_at found goes opens (family_at op) t })

-- by the ledger: where branches go stands in the column of what procedures write, which is done
abbrev pub writing_in : Wide → Thin → (op t : ℕ) → Writing → Writing
writing_in w b op t v = writing_after w.values b.found w.means w.under w.offsets op t v

abbrev pub codes_in : (kinds : List ℕ) → Wide → Thin → (op t : ℕ) → Writing → Codes
codes_in kinds w b op t v = codes_by kinds w.values b.found b.goes w.means w.under b.opens w.offsets b.written op t v

abbrev pub emitted_in : (kinds : List ℕ) → Wide → Thin → (op t : ℕ) → Writing → Emitted
emitted_in kinds w b op t v = record { codes = codes_in kinds w b op t v; writing = writing_in w b op t v }
