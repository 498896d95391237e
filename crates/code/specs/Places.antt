-- Addresses along a tape: where branches go, by token, as `emit` reads them. Each is set when its place is passed, from the addresses before and behind the
-- event's instructions. The ledger keeps 16 bits of each: enough for a program that fits its segment.
use Rattle.std.specs.Prelude.{List, ◌||◌, ℕ, ◌+◌, ◌-◌, ◌%◌, eqb, set}
use Rattle.base.specs.Choose.{whether◌then◌else◌}
use Rattle.tape.specs.Events as E
use Rattle.tape.specs.Numbers.{family_at}
use Rattle.tape.specs.Pass.{pass}
use Rattle.ledger.specs.Book.{Wide, Thin, on_thin, thin_limit}
use Rattle.emit.specs.declared.Use.{Use}
use Rattle.emit.specs.declared.Writing.{Writing}
use Rattle.emit.specs.Codes.{held_in}
use Rattle.emit.specs.Events.{writing_after}
use Rattle.emit.specs.Along.{event_bytes}
pub use Rattle.emit.specs.Events.{no_writing}

-- all of an address, and what the ledger keeps of a number
abbrev pub whole : ℕ → ℕ
whole n = n

unfoldable pub kept : ℕ → ℕ
kept n = n % thin_limit

-- a FOR's compare, and its control register
unfoldable pub mark_limit : (t from : ℕ) → Use → List ℕ → List ℕ
mark_limit t from aim marks = set (set marks (t - 2) from) (t - 1) (kept (held_in aim))

unfoldable pub mark_closing : (family t to : ℕ) → List ℕ → List ℕ
mark_closing family t to marks =
    whether eqb family E.END-FOR then set marks (t - 1) to else
    whether eqb family E.END-PROCEDURE || (eqb family E.END-ELSE || eqb family E.END-CASE) then set marks (t + 1) to else
    whether (eqb family E.PROCEDURE || eqb family E.ELSE) || (eqb family E.END-IF || (eqb family E.END-WHILE || eqb family E.CHOSEN)) then set marks t to else
    marks

unfoldable pub mark_after : (family t from to : ℕ) → Use → List ℕ → List ℕ
mark_after family t from to aim marks =
    whether eqb family E.LABEL then set marks t from else
    whether eqb family E.LIMIT then mark_limit t from aim marks else
    whether eqb family E.WHILE then set marks (t + 1) from else
    mark_closing family t to marks

-- the address, the assignment or use that is written, and the addresses by token
pub record Placing : Type 0 where
  pub at : ℕ
  pub writing : Writing
  pub marks : List ℕ

abbrev pub placing_of : ℕ → Writing → List ℕ → Placing
placing_of at w marks = record { at = at; writing = w; marks = marks }

module _ (keep : ℕ → ℕ) (kinds values found goes means under opens offsets : List ℕ) where
  abbrev pub behind : (op t : ℕ) → Placing → ℕ
  behind op t s = s.at + event_bytes kinds values found goes means under opens offsets s.marks op t s.writing

  unfoldable pub place_event : (op t : ℕ) → Placing → Placing
  place_event op t s = record {
    at = behind op t s;
    writing = writing_after values found means under offsets op t s.writing;
    marks = mark_after (family_at op) t (keep s.at) (keep (behind op t s)) s.writing.aim s.marks;
  }

-- along a whole tape, over the marks as they were lent
unfoldable pub places_along : (keep : ℕ → ℕ) (kinds values found goes means under opens offsets : List ℕ) (marks tape : List ℕ) → Placing
places_along keep kinds values found goes means under opens offsets marks tape =
    pass (place_event keep kinds values found goes means under opens offsets) (placing_of 0 no_writing marks) tape

-- ── by the ledger: where branches go stands in the column of what procedures write, which is done ──

abbrev pub on_marks : (List ℕ → List ℕ) → Thin → Thin
on_marks f b = on_thin 3 f b

abbrev pub place_step : (kinds : List ℕ) → Wide → Thin → (op t : ℕ) → Placing → Placing
place_step kinds w b = place_event kept kinds w.values b.found b.goes w.means w.under b.opens w.offsets

abbrev pub places_in : (kinds : List ℕ) → Wide → Thin → (tape : List ℕ) → Placing
places_in kinds w b tape = places_along kept kinds w.values b.found b.goes w.means w.under b.opens w.offsets b.written tape
