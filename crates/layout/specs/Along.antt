-- Where cells stand, and their initial values in a segment's image, event by event. A cell is known by its token: its packed meaning has its width and its
-- number of elements, its base the segment.
use Rattle.std.specs.Prelude.{List, ℕ, suc, ◌+◌, ◌*◌, ◌%◌, eqb, leb, ltb, get_or, set, replicate}
use Rattle.base.specs.Choose.{whether◌then◌else◌}
use Rattle.base.specs.Numbers.{stored}
use Rattle.scopes.specs.declared.Refusal.TheVariants.{NoRoom}
use Rattle.scopes.specs.Broken.{Ruling, unbroken, rule, ◌⊕◌}
use Rattle.static_rules.specs.Meaning.{element_size}
use Rattle.tape.specs.Events as E
use Rattle.tape.specs.Pass.{pass}
use Rattle.tables.specs.Packed.{width_in, number_in}
use Rattle.ledger.specs.Book.{Wide, Thin, wide_of, thin_of, on_wide, on_thin}
use Rattle.translation.specs.Layout.{segment_limit, table_bytes, round_up}
use Rattle.layout.specs.declared.Filling.{Filling}

-- ── where cells stand ──

-- where the cells of each segment end so far; by token, where each cell stands; the broken rules
pub record Laying : Type 0 where
  pub ends : List ℕ
  pub offsets : List ℕ
  pub broken : Ruling

abbrev pub laying_of : (ends offsets : List ℕ) → Ruling → Laying
laying_of ends offsets b = record { ends = ends; offsets = offsets; broken = b }

-- "Segment 1 begins with a table of four 4-byte entries, so cells start at 16; segments 2 and 3 start at 0."
abbrev pub start_ends : ℕ → List ℕ
start_ends n = set (replicate n 0) 1 table_bytes

-- of the cell that is declared at a token
abbrev pub segment_at : (bases : List ℕ) (t : ℕ) → ℕ
segment_at bases t = get_or bases t 0 % 4294967296

abbrev pub size_at : (means : List ℕ) (t : ℕ) → ℕ
size_at means t = element_size (width_in (get_or means t 0))

module _ (means bases : List ℕ) where
  -- "Cells take the next multiple of their size"
  abbrev pub offset_at : ℕ → List ℕ → ℕ
  offset_at t ends = round_up (size_at means t) (get_or ends (segment_at bases t) 0)

  abbrev pub end_at : ℕ → List ℕ → ℕ
  end_at t ends = offset_at t ends + size_at means t * number_in (get_or means t 0)

  -- "12: cell ends past 4,096"; of the new end `keep` is kept
  unfoldable pub place_by : (keep : ℕ → ℕ) → ℕ → Laying → Laying
  place_by keep t s = record {
    ends = set s.ends (segment_at bases t) (keep (end_at t s.ends));
    offsets = set s.offsets t (offset_at t s.ends);
    broken = s.broken ⊕ rule (leb (end_at t s.ends) segment_limit) NoRoom t;
  }

  unfoldable pub event_by : (keep : ℕ → ℕ) → (op t : ℕ) → Laying → Laying
  event_by keep op t s = whether eqb op E.ITEM then place_by keep t s else s

  -- every end as it is
  abbrev pub place_at : ℕ → Laying → Laying
  place_at = place_by (λ n. n)

  abbrev pub layout_event : (op t : ℕ) → Laying → Laying
  layout_event = event_by (λ n. n)

-- "A segment is at most 4,096 bytes, every cell included": of an end past that is kept that it is past
unfoldable pub capped : ℕ → ℕ
capped n = whether leb n segment_limit then n else suc segment_limit

abbrev pub capped_event : (means bases : List ℕ) → (op t : ℕ) → Laying → Laying
capped_event means bases = event_by means bases capped

-- ── in the ledger ──

-- the ledger, with the broken rules
pub record Book : Type 0 where
  pub wide : Wide
  pub thin : Thin
  pub broken : Ruling

abbrev pub book_of : Wide → Thin → Ruling → Book
book_of w b r = record { wide = w; thin = b; broken = r }

abbrev pub book_in : (wide thin : List ℕ) → Ruling → Book
book_in wide thin r = book_of (wide_of wide) (thin_of thin) r

-- the ends stand in the column `written`; all columns but it and the offsets stay
abbrev pub laying_in : Book → Laying
laying_in l = laying_of l.thin.written l.wide.offsets l.broken

abbrev pub with_laying : Laying → Book → Book
with_laying s l = record { wide = on_wide 3 (λ _. s.offsets) l.wide; thin = on_thin 3 (λ _. s.ends) l.thin; broken = s.broken }

-- the layout of a book, changed
abbrev pub laid_by : (Laying → Laying) → Book → Book
laid_by f l = with_laying (f (laying_in l)) l

-- by a cell, by an event, and by a whole tape: n segments' ends are kept, and what stood there goes
abbrev pub place_in : (t : ℕ) → Book → Book
place_in t l = laid_by (place_by l.wide.means l.wide.under capped t) l

abbrev pub event_in : (op t : ℕ) → Book → Book
event_in op t l = laid_by (capped_event l.wide.means l.wide.under op t) l

abbrev pub layout_in : (n : ℕ) (tape : List ℕ) → Book → Book
layout_in n tape l = laid_by (λ s. pass (capped_event l.wide.means l.wide.under) (laying_of (start_ends n) s.offsets unbroken) tape) l

-- ── initial values ──

-- the image, where the next value goes and how many bytes it takes: none in a cell of another segment
pub record Imaging : Type 0 where
  pub image : List ℕ
  pub next : Filling

abbrev pub imaging_of : List ℕ → Filling → Imaging
imaging_of image f = record { image = image; next = f }

abbrev pub nowhere : Filling
nowhere = record { at = 0; size = 0 }

unfoldable pub start_cell : (k : ℕ) (means bases offsets : List ℕ) (t : ℕ) → Filling
start_cell k means bases offsets t = whether eqb (segment_at bases t) k then record { at = get_or offsets t 0; size = size_at means t } else nowhere

-- a value past the segment's end is not laid
unfoldable pub lay_value : ℕ → Imaging → Imaging
lay_value v s =
    whether ltb s.next.at segment_limit then
    record { image = stored s.image s.next.at s.next.size v; next = record { at = s.next.at + s.next.size; size = s.next.size } }
    else s

unfoldable pub image_event : (k : ℕ) (means bases offsets values : List ℕ) (op t : ℕ) → Imaging → Imaging
image_event k means bases offsets values op t s =
    whether eqb op E.ITEM then imaging_of s.image (start_cell k means bases offsets t) else
    whether eqb op E.VALUE then lay_value (get_or values t 0) s else
    s

-- in the ledger
abbrev pub start_in : (k : ℕ) → Wide → (t : ℕ) → Filling
start_in k w = start_cell k w.means w.under w.offsets

abbrev pub image_in : (k : ℕ) → Wide → (op t : ℕ) → Imaging → Imaging
image_in k w = image_event k w.means w.under w.offsets w.values
