-- What the number of an event says: the layer of events that it is of, its family, and its form. Who reads a tape asks these and never compares numbers by order, so
-- that a new event may have any number that is free.
use Rattle.std.specs.Prelude.{ℕ, ◌-◌, ◌%◌, eqb, ltb, leb}
use Rattle.base.specs.Choose.{whether◌then◌else◌}
use Rattle.tape.specs.Events as E

-- ── layers: the five kinds of events (grammar/specs/Events) ──

abbrev pub EDGE : ℕ
EDGE = 0

abbrev pub ROUTE : ℕ
ROUTE = 1

abbrev pub ENTRY : ℕ
ENTRY = 2

abbrev pub PHRASE : ℕ
PHRASE = 3

abbrev pub MARK : ℕ
MARK = 4

unfoldable pub layer_at : ℕ → ℕ
layer_at op =
    whether ltb op E.REGISTER then EDGE else
    whether ltb op E.PROCEDURE then ENTRY else
    whether ltb op E.LABEL then EDGE else
    whether eqb op E.LABEL then ROUTE else
    whether ltb op E.WHILE then PHRASE else
    whether eqb op E.CALL then PHRASE else
    whether eqb op E.GOTO then ROUTE else
    whether ltb op E.APPLIED then MARK else
    whether ltb op E.SINGLE-FULL then PHRASE else
    whether leb op E.ARRAY-CHARACTER then ENTRY else
    whether eqb op E.CHOSEN then PHRASE else
    MARK

-- ── families: numbers that differ in their form alone ──

-- how far a number is from its family's: the width of cells, the shape of a designator or an operand
unfoldable pub form_at : ℕ → ℕ
form_at op =
    whether ltb op E.TARGET then 0 else
    whether ltb op E.ABS then (op - E.TARGET) % 4 else
    whether ltb op E.FIRST then 0 else
    whether ltb op E.BARE then (op - E.FIRST) % 5 else
    whether ltb op E.ARGUED then 0 else
    whether ltb op E.SINGLE-FULL then op - E.ARGUED else
    whether leb op E.ARRAY-CHARACTER then (op - E.SINGLE-FULL) % 4 else
    0

abbrev pub family_at : ℕ → ℕ
family_at op = op - form_at op
