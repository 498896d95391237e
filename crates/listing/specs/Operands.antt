-- The operand of the instruction at an address, as it is written: along the tape of a text, each event with the instructions that it becomes.
use Rattle.std.specs.Prelude.{List, Bool, true, false, ◌&&◌, ◌||◌, ℕ, ◌+◌, eqb, ltb, Option, None, Some}
use Rattle.base.specs.Choose.{choose}
use Rattle.tape.specs.Events as E
use Rattle.tape.specs.Numbers.{family_at, form_at}
use Rattle.tape.specs.Pass.{pass}
use Rattle.ledger.specs.Book.{Wide, Thin}
use Rattle.emit.specs.declared.Use.{Use}
use Rattle.emit.specs.declared.Use.TheVariants.{Absent, Held, Number, Stored}
use Rattle.emit.specs.declared.Writing.{Writing}
use Rattle.emit.specs.Codes.{list_of, code_sizes}
use Rattle.emit.specs.Events.{no_writing, table_bytes, writing_in, codes_in}
use Rattle.listing.specs.declared.Span.{Span}

-- from its first token to its last, by its shape: a name, name(number), name(name), name(number)(name), or a number
abbrev pub reach : (shape : ℕ) → ℕ
reach shape = choose (eqb shape 1 || eqb shape 2) 3 (choose (eqb shape 3) 6 0)

abbrev pub span_of : (token shape : ℕ) → Span
span_of t shape = record { token = t; last = t + reach shape }

-- the assignment that is written stores
abbrev pub stores : Use → Bool
stores Absent = false
stores (Held r) = false
stores (Number v) = false
stores (Stored width x b d) = true

-- what is written: the target of an assignment, or the last argument of a use
abbrev pub target_after : (family : ℕ) (own : Span) (target : Option Span) → Option Span
target_after family own target = choose (eqb family E.TARGET || (eqb family E.CONTROL || eqb family E.ARGUED)) (Some own) target

-- "store": the operand in storage is the target; that of a use is its last argument; else it is the event's own
abbrev pub operand_by : (family : ℕ) → Use → (own : Span) (target : Option Span) → Option Span
operand_by family aim own target = choose ((eqb family E.FIRST && stores aim) || eqb family E.COUNTED) target (Some own)

-- an event from address p to address q is the one at the address
abbrev pub span_after : (address p q : ℕ) → (operand span : Option Span) → Option Span
span_after address p q operand span = choose (eqb p address && ltb p q) operand span

-- the address so far, the assignment or use that is written, with its target, and the operand
pub record Spanning : Type 0 where
  pub at : ℕ
  pub writing : Writing
  pub target : Option Span
  pub span : Option Span

abbrev pub spanning_of : ℕ → Writing → (target span : Option Span) → Spanning
spanning_of at w target span = record { at = at; writing = w; target = target; span = span }

module _ (address : ℕ) (kinds : List ℕ) (w : Wide) (b : Thin) where
  abbrev pub behind : (op t : ℕ) → Spanning → ℕ
  behind op t s = s.at + (code_sizes (list_of (codes_in kinds w b op t s.writing)) + table_bytes (family_at op) s.writing)

  unfoldable pub span_event : (op t : ℕ) → Spanning → Spanning
  span_event op t s =
      let own : Span = span_of t (form_at op) in
      spanning_of (behind op t s) (writing_in w b op t s.writing) (target_after (family_at op) own s.target)
      (span_after address s.at (behind op t s) (operand_by (family_at op) s.writing.aim own s.target) s.span)

  -- along a whole tape
  unfoldable pub span_along : List ℕ → Option Span
  span_along tape = (pass span_event (spanning_of 0 no_writing None None) tape).span
