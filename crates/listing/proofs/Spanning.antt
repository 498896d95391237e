-- A turn of the loop along the tape, from the facts of its calls. Assumes nothing.
use Rattle.std.specs.Prelude.{Option}
use Prim.Native.Nat.{ℕ, ◌+◌, ◌/◌, ◌%◌, ◌<◌}
use mathlib.Core.Path.{◌≡◌}
use mathlib.Core.List.{List}
use lib.ListN.{length, drop, get_or}
use Rattle.tape.specs.Events as E
use Rattle.tape.specs.Numbers.{family_at, form_at}
use Rattle.tape.specs.Pass.{pass}
use Rattle.tape.proofs.Pass.{pass-turn}
use Rattle.ledger.specs.Book.{Wide, Thin}
use Rattle.emit.specs.declared.Emitted.{Emitted}
use Rattle.emit.specs.declared.Writing.{Writing}
use Rattle.emit.specs.Codes.{list_of, code_sizes}
use Rattle.emit.specs.Events.{table_bytes, emitted_in}
use Rattle.listing.specs.declared.Span.{Span}
use Rattle.listing.specs.Operands.{span_of, target_after, operand_by, span_after, Spanning, spanning_of, span_event}

module _
    (address : ℕ) (kinds : List ℕ) (w : Wide) (b : Thin) (op t p : ℕ) (v : Writing) (target span : Option Span) {family form z : ℕ} {own : Span} {operand span' target' : Option Span}
    {m : Emitted}
  where
    span-is :
        m ≡ emitted_in kinds w b op t v → z ≡ code_sizes (list_of m.codes) + table_bytes (family_at op) v → family ≡ family_at op → form ≡ form_at op → own ≡ span_of t form
        → operand ≡ operand_by family v.aim own target → span' ≡ span_after address p (p + z) operand span → target' ≡ target_after family own target
        → spanning_of (p + z) m.writing target' span' ≡ span_event address kinds w b op t (spanning_of p v target span)
    unfolding span_event
    span-is em ez ef eo ew er es et = rw (es, et, er, ew, ez, em, ef, eo)

    pub span-turn :
        (tape : List ℕ) (i : ℕ) {x : Spanning} → i < length tape → op ≡ get_or tape i 0 % E.EVENTS → t ≡ get_or tape i 0 / E.EVENTS
        → m ≡ emitted_in kinds w b op t v → z ≡ code_sizes (list_of m.codes) + table_bytes (family_at op) v → family ≡ family_at op → form ≡ form_at op → own ≡ span_of t form
        → operand ≡ operand_by family v.aim own target → span' ≡ span_after address p (p + z) operand span → target' ≡ target_after family own target
        → pass (span_event address kinds w b) (spanning_of p v target span) (drop i tape) ≡ x
        → pass (span_event address kinds w b) (spanning_of (p + z) m.writing target' span') (drop (i + 1) tape) ≡ x
    span-turn tape i h e₁ e₂ em ez ef eo ew er es et e =
        rw (span-is em ez ef eo ew er es et) (pass-turn (span_event address kinds w b) (spanning_of p v target span) tape i op t h e₁ e₂ e)
