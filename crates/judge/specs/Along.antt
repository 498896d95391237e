-- The rules along a tape: what each event is judged by, and what of it the later events need.
use Rattle.std.specs.Prelude.{◌≡◌, List, [], ◌∷◌, ◌&&◌, ◌||◌, not, ℕ, suc, ◌+◌, ◌-◌, ◌≤◌, eqb, leb, drop}
use Rattle.base.specs.Choose.{whether◌then◌else◌}
use Rattle.tape.specs.Events as E
use Rattle.tape.specs.Numbers.{PHRASE, layer_at, form_at, family_at}
use Rattle.grammar.specs.Tree.{Designator, Operand}
use Rattle.ledger.specs.Book.{Wide, on_wide}
use Rattle.scopes.specs.declared.Refusal.TheVariants.{Misfit, WrongRegister, OutOfBounds}
use Rattle.scopes.specs.Broken.{Ruling, unbroken, rule, broken, ◌⊕◌}
use Rattle.static_rules.specs.Meaning.{Meaning, nothing, register, cell, routine, function, is_byte, register_of, argument_of}
use Rattle.static_rules.specs.Tables.{Tables, value_at, meaning_at}
use Rattle.static_rules.specs.Rules.{protected, bare_name, most_elements, fits_width, write_rule, register_rule, zero_rule, place_by, operand_rules, only_register, term_rules, call_rules, argument_rules, count_by, taken_rules, base_rules}
use Rattle.tables.specs.Packed.{width_by}
use Rattle.tables.specs.Stacks.{stack_of, top, under}
use Rattle.rules.specs.Parts.{designator_at, operand_at, term_at}
use Rattle.judge.specs.declared.Cells.{Cells}
use Rattle.judge.specs.declared.Depths.{Depths}
use Rattle.judge.specs.declared.Open.{Open}
use Rattle.judge.specs.declared.Target.{Target}
use Rattle.judge.specs.declared.Target.TheVariants as T

-- ── the protected registers ──

-- kept: the protected registers, the innermost first; count: how many of them are bases of the innermost block; counts: those of the blocks around it
pub record Held : Type 0 where
  pub kept : List ℕ
  pub count : ℕ
  pub counts : List ℕ

abbrev pub enter_block : Held → Held
enter_block h = record { kept = h.kept; count = 0; counts = h.count ∷ h.counts }

-- "the bases of enclosing blocks declared so far"
abbrev pub leave_block : Held → Held
leave_block h = record { kept = drop h.count h.kept; count = top h.counts; counts = under h.counts }

abbrev pub keep_base : ℕ → Held → Held
keep_base r h = record { kept = r ∷ h.kept; count = suc h.count; counts = h.counts }

-- "the return registers of enclosing procedures"
abbrev pub keep_return : ℕ → Held → Held
keep_return r h = record { kept = r ∷ h.kept; count = h.count; counts = h.counts }

abbrev pub leave_procedure : Held → Held
leave_procedure h = record { kept = under h.kept; count = h.count; counts = h.counts }

unfoldable pub held_after : Tables → (op t : ℕ) → Held → Held
held_after f op t h =
    whether eqb op E.BLOCK then enter_block h else
    whether eqb op E.END-BLOCK then leave_block h else
    whether eqb op E.BASE then keep_base (register_of (meaning_at f t)) h else
    whether eqb op E.PROCEDURE then keep_return (register_of (meaning_at f (t + 2))) h else
    whether eqb op E.END-PROCEDURE then leave_procedure h else
    h

-- ── cells and their values ──

-- what the cells that follow are, how wide and of how many elements, and for how many more values the last has room
abbrev pub cells_of : (width elements room : ℕ) → Cells
cells_of w n room = record { width = w; elements = n; room = room }

unfoldable pub cells_after : Tables → (op t : ℕ) → Cells → Cells
cells_after f op t c =
    whether eqb (family_at op) E.SINGLE-FULL then cells_of (form_at op) 1 c.room else
    whether eqb (family_at op) E.ARRAY-FULL then cells_of (form_at op) (value_at f t) c.room else
    whether eqb op E.ITEM then cells_of c.width c.elements c.elements else
    whether eqb op E.VALUE then cells_of c.width c.elements (c.room - 1) else
    c

-- "11: bad initial value or one too many"
unfoldable pub value_rule : Cells → (v t : ℕ) → Ruling
value_rule c v t = whether eqb c.room 0 then broken OutOfBounds t else rule (fits_width (width_by c.width) v) OutOfBounds t

-- ── what stands open in a statement: the target of an assignment; the name of a use and how many arguments it has had ──

-- by what it means; where it is neither a register nor a cell the assignment is not judged further
abbrev pub aim_of : Meaning → Target
aim_of nothing = T.Unfit
aim_of (register r) = T.Register r
aim_of (cell c) = T.Cell
aim_of (routine r) = T.Unfit
aim_of (function k) = T.Unfit

abbrev pub open_of : (target : Target) (name position : ℕ) → Open
open_of target n position = record { target = target; name = n; position = position }

unfoldable pub open_after : Tables → (op t : ℕ) → Open → Open
open_after f op t o =
    whether eqb (family_at op) E.TARGET || eqb (family_at op) E.CONTROL then open_of (aim_of (meaning_at f t)) o.name o.position else
    whether eqb op E.APPLIED then open_of o.target t 0 else
    whether eqb (family_at op) E.ARGUED then open_of o.target o.name (o.position + 1) else
    o

abbrev pub register_target : List ℕ → Designator → ℕ → Ruling
register_target kept d r = rule (bare_name d) Misfit d.name ⊕ write_rule kept r d.name

abbrev pub aim_by : Tables → List ℕ → Designator → Meaning → Ruling
aim_by f kept d nothing = broken Misfit d.name
aim_by f kept d (register r) = register_target kept d r
aim_by f kept d (cell c) = place_by f (cell c) d ⊕ rule (not (is_byte c.width)) Misfit d.name
aim_by f kept d (routine r) = broken Misfit d.name
aim_by f kept d (function k) = broken Misfit d.name

-- "the FOR target" is a register
abbrev pub control_by : List ℕ → Designator → Meaning → Ruling
control_by kept d nothing = broken Misfit d.name
control_by kept d (register r) = register_target kept d r
control_by kept d (cell c) = broken Misfit d.name
control_by kept d (routine r) = broken Misfit d.name
control_by kept d (function k) = broken Misfit d.name

-- "A register target takes the whole chain, left to right, a cell target one register name only."
unfoldable pub sign_rule : Target → (t : ℕ) → Ruling
sign_rule T.Unfit t = unbroken
sign_rule T.Cell t = broken Misfit t
sign_rule (T.Register r) t = unbroken

unfoldable pub first_rules : Tables → Target → Operand → Ruling
first_rules f T.Unfit a = unbroken
first_rules f T.Cell a = only_register f a
first_rules f (T.Register r) a = operand_rules f a

unfoldable pub chain_rule : Tables → List ℕ → Target → (shape t : ℕ) → Ruling
chain_rule f kept T.Unfit shape t = unbroken
chain_rule f kept T.Cell shape t = broken Misfit (t - 1)
chain_rule f kept (T.Register r) shape t = term_rules f kept r (term_at shape t)

-- ── an event ──

unfoldable pub declaration_rule : Tables → List ℕ → Cells → (op t : ℕ) → Ruling
declaration_rule f kept c op t =
    whether eqb op E.REGISTER then rule (leb (value_at f (t + 2)) 15) WrongRegister (t + 2) else
    whether eqb (family_at op) E.ARRAY-FULL then rule (leb 1 (value_at f t) && leb (value_at f t) most_elements) OutOfBounds t else
    whether eqb op E.VALUE then value_rule c (value_at f t) t else
    whether eqb op E.BASE then base_rules f kept t else
    whether eqb op E.PROCEDURE then register_rule f (t + 2) ⊕ zero_rule f (t + 2) else
    unbroken

unfoldable pub assignment_rule : Tables → List ℕ → Target → (op t : ℕ) → Ruling
assignment_rule f kept target op t =
    whether eqb (family_at op) E.TARGET then aim_by f kept (designator_at (form_at op) t) (meaning_at f t) else
    whether eqb (family_at op) E.CONTROL then control_by kept (designator_at (form_at op) t) (meaning_at f t) else
    whether eqb (family_at op) E.FIRST then first_rules f target (operand_at (form_at op) t) else
    whether eqb (family_at op) E.TERM then chain_rule f kept target (form_at op) t else
    whether eqb op E.ABS || (eqb op E.NEG || eqb op E.NEG-ABS) then sign_rule target t else
    unbroken

unfoldable pub statement_rule : Tables → List ℕ → Open → (op t : ℕ) → Ruling
statement_rule f kept o op t =
    whether eqb (family_at op) E.COMPARED then register_rule f (t - 2) ⊕ operand_rules f (operand_at (form_at op) t) else
    whether eqb (family_at op) E.LIMIT then operand_rules f (operand_at (form_at op) t) else
    whether eqb op E.CALL then call_rules f kept t else
    whether eqb (family_at op) E.ARGUED then argument_rules f kept (argument_of (meaning_at f o.name) o.position) (operand_at (form_at op) t) else
    whether eqb op E.COUNTED then count_by (meaning_at f t) t o.position else
    whether eqb op E.CHOSEN then taken_rules f kept t else
    assignment_rule f kept o.target op t

unfoldable pub event_rule : Tables → List ℕ → Cells → Open → (op t : ℕ) → Ruling
event_rule f kept c o op t =
    whether eqb (layer_at op) PHRASE then statement_rule f kept o op t else
    declaration_rule f kept c op t

-- between two events: the protected registers; the cells; what stands open in a statement; the broken rules
pub record Judging : Type 0 where
  pub held : Held
  pub cells : Cells
  pub standing : Open
  pub broken : Ruling

unfoldable pub judge_event : Tables → (op t : ℕ) → Judging → Judging
judge_event f op t j = record {
  held = held_after f op t j.held;
  cells = cells_after f op t j.cells;
  standing = open_after f op t j.standing;
  broken = j.broken ⊕ event_rule f j.held.kept j.cells j.standing op t;
}

-- before the first event, with what else is broken in the text
abbrev pub beginning : Ruling → Judging
beginning b = record { held = record { kept = protected; count = 0; counts = [] }; cells = cells_of 0 0 0; standing = open_of T.Unfit 0 0; broken = b }

-- ── as arrays ──

abbrev pub held_of : (kept counts : List ℕ) → Depths → Held
held_of kept counts d = record { kept = stack_of kept d.kept; count = d.count; counts = stack_of counts d.counts }

pub record Moved (h : Held) (kept counts : List ℕ) (d r : Depths) : Type 0 where
  pub is : held_of kept counts r ≡ h
  pub deep : r.kept ≤ d.kept + 1

-- the column of offsets anew
abbrev pub with_offsets : List ℕ → Wide → Wide
with_offsets l w = on_wide 3 (λ _. l) w

-- the protected registers stand in the column of offsets: the others are as they were
abbrev pub Stays : (before after : Wide) → Type 0
Stays before after = after ≡ with_offsets after.offsets before
