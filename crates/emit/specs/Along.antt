-- The instructions along a tape, and how the definition's instructions are laid: with the places of cells, but for a literal, whose place is found then.
use Rattle.std.specs.Prelude.{Option, Some, None, List, [], ◌∷◌, ◌++◌, map, Bool, ◌&&◌, ℕ, ◌+◌, ◌-◌, ◌*◌, ◌/◌, ◌%◌, eqb, get_or}
use Rattle.base.specs.Choose.{whether◌then◌else◌}
use Rattle.grammar.specs.Tree.{Sign, plain, abs, neg, neg_abs, Assignment}
use Rattle.tape.specs.Events as E
use Rattle.tape.specs.Numbers.{family_at}
use Rattle.tape.specs.Tape.{shape}
use Rattle.tables.specs.Packed.{register_in, packed_at}
use Rattle.ledger.specs.Book.{Wide, Thin}
use Rattle.static_rules.specs.Meanings.{data_base}
use Rattle.translation.specs.Bytes.{index_register}
use Rattle.translation.specs.Instructions.{Datum, element, literal, entry, Instruction, rr, rx, address, immediate, shift, branch, link, indexed, stop, address_op, always}
use Rattle.emit.specs.declared.Sign as S
use Rattle.emit.specs.declared.Sign.TheVariants.{Abs, Neg, NegAbs}
use Rattle.emit.specs.declared.Use.TheVariants.{Held}
use Rattle.emit.specs.declared.Code.{Code}
use Rattle.emit.specs.declared.Code.TheVariants.{Two, Four, Literal}
use Rattle.emit.specs.declared.Writing.{Writing}
use Rattle.emit.specs.declared.Past.{Past}
use Rattle.emit.specs.Codes.{list_of, code_sizes, branch_code, indexed_code, link_code, stop_code}
use Rattle.emit.specs.Events.{place_in, table_bytes, writing_after, codes_by, writing_in}

-- ── the statements of a CASE, inside d CASEs counted from it: 1 in its own, 0 behind it ──

abbrev pub depth_after : (family d : ℕ) → ℕ
depth_after family d = whether eqb family E.CHOSEN then d + 1 else whether eqb family E.END-CASE then (d - 1) else d

-- one of its own ends
abbrev pub ends_here : (family d : ℕ) → Bool
ends_here family d = eqb family E.END-CHOICE && eqb d 1

-- that starts at `from`; the next one starts behind the event
abbrev pub entry_of : (family d from : ℕ) → List ℕ
entry_of family d from = whether ends_here family d then from ∷ [] else []

abbrev pub start_after : (family d from to : ℕ) → ℕ
start_after family d from to = whether ends_here family d then to else from

module _ (kinds values found goes means under opens offsets marks : List ℕ) where
  -- how many bytes an event makes, the table of a CASE among them
  abbrev pub event_bytes : (op t : ℕ) → Writing → ℕ
  event_bytes op t w = code_sizes (list_of (codes_by kinds values found goes means under opens offsets marks op t w)) + table_bytes (family_at op) w

  -- ── the table of a CASE: where each of its statements starts ──

  -- along the tape behind its head, at address p, where the statement at hand starts at `from`
  unfoldable pub starts : (depth from p : ℕ) → Writing → List ℕ → List ℕ
  starts d from p w [] = []
  starts d from p w (e ∷ es) =
      let op = e % E.EVENTS in
      let q = p + event_bytes op (e / E.EVENTS) w in
      let v = writing_after values found means under offsets op (e / E.EVENTS) w in
      whether eqb d 0 then [] else (entry_of (family_at op) d from ++ starts (depth_after (family_at op) d) (start_after (family_at op) d from q) q v es)

  -- "the table, one always-branch each"; the first statement starts behind it
  unfoldable pub table_along : (op t : ℕ) → Writing → List ℕ → List Code
  table_along op t w es = whether eqb (family_at op) E.CHOSEN then map (branch_code always) (starts 1 (get_or marks t 0) (get_or marks t 0) w es) else []

  -- along a tape, with the assignment or use that is written
  unfoldable pub along : Writing → List ℕ → List Code
  along w [] = []
  along w (e ∷ es) =
      let v = writing_after values found means under offsets (e % E.EVENTS) (e / E.EVENTS) w in
      list_of (codes_by kinds values found goes means under opens offsets marks (e % E.EVENTS) (e / E.EVENTS) w) ++ (table_along (e % E.EVENTS) (e / E.EVENTS) v es ++ along v es)

-- ── past an event at address p: the address behind all that it makes, and what is written after it ──

abbrev pub past_in : (kinds : List ℕ) → Wide → Thin → (op t p : ℕ) → Writing → Past
past_in kinds w b op t p v = record {
  at = p + event_bytes kinds w.values b.found b.goes w.means w.under b.opens w.offsets b.written op t v;
  writing = writing_in w b op t v;
}

-- whatever is written before it, an event makes at most so many bytes: those of six instructions, and a table of 2^32 - 1 branches
abbrev pub most_bytes : ℕ
most_bytes = 24 + 4 * 4294967295

-- the addresses of a program's code stay below this, whatever tape there is
abbrev pub code_limit : ℕ
code_limit = 1152921504606846976

-- ── the definition's instructions, with the places of cells ──

abbrev pub code_at : (place : ℕ → ℕ) (op r x : ℕ) → Datum → Code
code_at place op r x (element c o i) = Four op r x c.base.register (place c.name + o)
code_at place op r x (literal v) = Literal op r x v
code_at place op r x (entry k) = Four op r x data_base.register (4 * k)

unfoldable pub code_for : (place : ℕ → ℕ) → Instruction → Code
code_for place (rr op r s) = Two op r s
code_for place (rx op r a) = code_at place op r (index_register a) a
code_for place (address r a) = code_at place address_op r (index_register a) a
code_for place (immediate op v a) = code_at place op (v / 16) (v % 16) a
code_for place (shift op r s n) = Four op r 0 s n
code_for place (branch m t) = branch_code m t
code_for place (link r t) = link_code r t
code_for place (indexed r t) = indexed_code r t
code_for place stop = stop_code

-- ── the assignment that is written after its tape ──

abbrev pub sign_of : Sign → Option S.Sign
sign_of plain = None
sign_of (abs t) = Some Abs
sign_of (neg t) = Some Neg
sign_of (neg_abs t) = Some NegAbs

unfoldable pub target_writing : (values found means under offsets : List ℕ) → Assignment → Writing
target_writing values found means under offsets a =
    record { aim = place_in values found means under offsets (shape a.target) a.target.name; sign = sign_of a.sign; arguments = 0 }

unfoldable pub control_writing : (found means : List ℕ) → Assignment → Writing
control_writing found means a = record { aim = Held (register_in (packed_at found means a.target.name)); sign = sign_of a.sign; arguments = 0 }
