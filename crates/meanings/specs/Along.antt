-- Meanings along a tape: what names mean and which registers procedures write, event by event. What a statement writes goes to the innermost open procedure;
-- cells are under the base in force.
use Rattle.std.specs.Prelude.{List, [], ◌∷◌, Bool, false, ◌&&◌, ◌||◌, not, ℕ, Option, Some, None, ◌+◌, ◌-◌, ◌%◌, eqb, get_or}
use Rattle.base.specs.Choose.{whether◌then◌else◌}
use Rattle.token.specs.Kinds as K
use Rattle.tape.specs.Events as E
use Rattle.tape.specs.Numbers.{form_at, family_at}
use Rattle.static_rules.specs.Functions.{is_written}
use Rattle.static_rules.specs.Meaning.{Meaning, nothing, register, cell, routine, function, Based, meaning_of, register_of, argument_of, is_long}
use Rattle.static_rules.specs.Meanings.{Meant, mean, write, write_text, call_writes, open_base, meaning_in, data_base}
use Rattle.tables.specs.Packed.{CELL, ARRAY, WIDTHS, low, packed, based_in, unpacked}
use Rattle.tables.specs.Stacks.{top, under}

-- ── where the walk is ──

-- own: the token of the innermost open procedure, 0 outside all; owners: those around it; base: the data base in force; outer: those in force before each
-- open block
pub record Within : Type 0 where
  pub own : ℕ
  pub owners : List ℕ
  pub base : Based
  pub outer : List Based

abbrev pub first_base : List Based → Based
first_base [] = based_in 0
first_base (b ∷ bs) = b

abbrev pub later_bases : List Based → List Based
later_bases [] = []
later_bases (b ∷ bs) = bs

abbrev pub enter_block : Within → Within
enter_block w = record { own = w.own; owners = w.owners; base = w.base; outer = w.base ∷ w.outer }

-- "a base declaration … holds for the cells after it in that block and its inner blocks."
abbrev pub leave_block : Within → Within
leave_block w = record { own = w.own; owners = w.owners; base = first_base w.outer; outer = later_bases w.outer }

abbrev pub enter_procedure : ℕ → Within → Within
enter_procedure t w = record { own = t; owners = w.own ∷ w.owners; base = w.base; outer = w.outer }

abbrev pub leave_procedure : Within → Within
leave_procedure w = record { own = top w.owners; owners = under w.owners; base = w.base; outer = w.outer }

-- "Segment 0 is the program, 1 the data of base 14, 2 and 3 those of base declarations in text order."
abbrev pub change_base : (r bases : ℕ) → Within → Within
change_base r bases w = record { own = w.own; owners = w.owners; base = record { register = r; segment = 2 + bases }; outer = w.outer }

-- ── an event ──

-- the register that a target is
abbrev pub target_of : Meaning → Option ℕ
target_of nothing = None
target_of (register r) = Some r
target_of (cell c) = None
target_of (routine r) = None
target_of (function k) = None

-- a target is written
unfoldable pub write_target : ℕ → Option ℕ → Meant → Meant
write_target own None s = s
write_target own (Some r) s = write own r s

-- a product writes the register below the target
unfoldable pub write_lower : ℕ → Option ℕ → Meant → Meant
write_lower own None s = s
write_lower own (Some r) s = write own (r - 1) s

unfoldable pub within_after : (found : List ℕ) (op t : ℕ) → List Meaning → ℕ → Within → Within
within_after found op t means bases w =
    whether eqb op E.BLOCK then enter_block w else
    whether eqb op E.END-BLOCK then leave_block w else
    whether eqb op E.BASE then change_base (register_of (meaning_of found means t)) bases w else
    whether eqb op E.PROCEDURE then enter_procedure t w else
    whether eqb op E.END-PROCEDURE then leave_procedure w else
    w

-- what the cells that follow are, as a packed meaning: a cell declared without ARRAY is one element
unfoldable pub form_after : (values : List ℕ) (op t form : ℕ) → ℕ
form_after values op t form =
    whether eqb (family_at op) E.SINGLE-FULL then packed CELL (form_at op % WIDTHS) 1 else
    whether eqb (family_at op) E.ARRAY-FULL then packed ARRAY (form_at op % WIDTHS) (get_or values t 0) else
    form

-- the register of a CASE is a target, as "The case register counts as written", and an argument where it is written; a number is none
unfoldable pub target_after : (found : List ℕ) (op t : ℕ) → List Meaning → (first : Bool) → Option ℕ → Option ℕ
target_after found op t means first target =
    whether ((eqb (family_at op) E.TARGET || eqb (family_at op) E.CONTROL) || eqb op E.CHOSEN) || ((eqb (family_at op) E.ARGUED && first) && not (eqb (form_at op) E.NUMBER)) then target_of (meaning_of found means t) else
    whether eqb (family_at op) E.ARGUED then None else
    target

-- "IC, LA and LTR write the first": the argument that follows is written
unfoldable pub first_after : (found : List ℕ) (op t : ℕ) → List Meaning → Bool
first_after found op t means = eqb op E.APPLIED && is_written (argument_of (meaning_of found means t) 0)

unfoldable pub declared_after : (values found : List ℕ) (op t own : ℕ) → Based → ℕ → Meant → Meant
declared_after values found op t own b form s =
    whether eqb op E.REGISTER then mean t (register (low (get_or values (t + 2) 0))) s else
    whether eqb op E.ITEM then mean t (unpacked t form b) s else
    whether eqb op E.BASE then open_base own (register_of (meaning_in found s t)) t s else
    whether eqb op E.PROCEDURE then mean t (routine (register_of (meaning_in found s (t + 2)))) s else
    whether eqb op E.END-PROCEDURE then write_text own t s else
    s

-- the operator stands before its operand
unfoldable pub is_product_at : (kinds found : List ℕ) (op t : ℕ) → List Meaning → Bool
is_product_at kinds found op t means = eqb (get_or kinds (t - 1) 0) K.TIMES && (eqb (form_at op) E.NUMBER || is_long (meaning_of found means t))

unfoldable pub write_product : (kinds found : List ℕ) (op t own : ℕ) → Option ℕ → Meant → Meant
write_product kinds found op t own target s = whether is_product_at kinds found op t s.means then write_lower own target s else s

unfoldable pub written_after : (kinds found : List ℕ) (op t own : ℕ) → Option ℕ → Meant → Meant
written_after kinds found op t own target s =
    whether ((eqb (family_at op) E.TARGET || eqb (family_at op) E.CONTROL) || eqb op E.CHOSEN) || eqb (family_at op) E.ARGUED then write_target own target s else
    whether eqb (family_at op) E.TERM then write_product kinds found op t own target s else
    whether eqb op E.CALL then call_writes (meaning_in found s t) own (get_or found t 0) s else
    s

-- between two events: where the walk is; what the cells that follow are; the register that the target is, of an assignment, of a CASE or as an argument that is written; whether the
-- argument that follows is written; the tables, but for the list of cells
pub record Meaning-walk : Type 0 where
  pub within : Within
  pub form : ℕ
  pub target : Option ℕ
  pub first : Bool
  pub meant : Meant

unfoldable pub mean_event : (kinds values found : List ℕ) (op t : ℕ) → Meaning-walk → Meaning-walk
mean_event kinds values found op t m =
    let w = within_after found op t m.meant.means m.meant.bases m.within in
    let form = form_after values op t m.form in
    let target = target_after found op t m.meant.means m.first m.target in
    record {
      within = w;
      form = form;
      target = target;
      first = first_after found op t m.meant.means;
      meant = written_after kinds found op t w.own target (declared_after values found op t w.own w.base form m.meant);
    }

-- before the first event: outside all procedures and blocks
abbrev pub outside : Within
outside = record { own = 0; owners = []; base = data_base; outer = [] }

abbrev pub beginning : Meant → Meaning-walk
beginning s = record { within = outside; form = 0; target = None; first = false; meant = s }
