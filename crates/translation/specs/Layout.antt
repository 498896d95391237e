-- Document 01, "Names, cells, protected registers": where cells and literals stand in their segments, and refusal 12 of a cell. Offsets begin here.
use Rattle.std.specs.Prelude.{List, [], ◌∷◌, ◌++◌, ℕ, ◌+◌, ◌*◌, ◌-◌, ◌/◌, eqb, leb, get_or, set, length, replicate}
use Rattle.base.specs.Choose.{whether◌then◌else◌}
use Rattle.base.specs.Lists.{member}
use Rattle.base.specs.Numbers.{bytes_of}
use Rattle.scopes.specs.declared.Refusal.TheVariants.{NoRoom}
use Rattle.scopes.specs.Broken.{Ruling, unbroken, rule, ◌⊕◌}
use Rattle.grammar.specs.Tree.{Width}
use Rattle.static_rules.specs.Meaning.{Cell, element_size}
use Rattle.static_rules.specs.Meanings.{Filled}
use Rattle.translation.specs.Instructions.{Datum, element, literal, entry, Instruction, rr, rx, address, immediate, shift, branch, link, indexed, stop}

-- "A segment is at most 4,096 bytes, every cell included."
abbrev pub segment_limit : ℕ
segment_limit = 4096

-- "Segment 1 begins with a table of four 4-byte entries, so cells start at 16"
abbrev pub table_bytes : ℕ
table_bytes = 16

-- a cell in its place, with the bytes of its initial values
pub record Placed : Type 0 where
  pub name : ℕ
  pub segment : ℕ
  pub offset : ℕ
  pub content : List ℕ

-- where the cells of each segment end, by segment; the cells' places, the newest first; the literals and where they start; the broken rules
pub record Layout : Type 0 where
  pub ends : List ℕ
  pub placed : List Placed
  pub literals : List ℕ
  pub literals_at : ℕ
  pub broken : Ruling

-- "the next multiple of" z
abbrev pub round_up : ℕ → ℕ → ℕ
round_up z n = (n + (z - 1)) / z * z

-- ── cells ──

-- "keeps its low 16 bits": as many low bytes as the element has
unfoldable pub value_bytes : Width → List ℕ → List ℕ
value_bytes w [] = []
value_bytes w (v ∷ vs) = bytes_of (element_size w) v ++ value_bytes w vs

-- the cells so far
pub record Room : Type 0 where
  pub ends : List ℕ
  pub placed : List Placed
  pub broken : Ruling

abbrev pub offset_for : Cell → List ℕ → ℕ
offset_for c ends = round_up (element_size c.width) (get_or ends c.base.segment 0)

abbrev pub end_for : Cell → List ℕ → ℕ
end_for c ends = offset_for c ends + element_size c.width * c.elements

-- "12: cell ends past 4,096". "Room is not shared between blocks."
unfoldable pub place_cell : Filled → Room → Room
place_cell d s =
    let c = d.cell in
    record {
      ends = set s.ends c.base.segment (end_for c s.ends);
      placed =
          record { name = c.name; segment = c.base.segment; offset = offset_for c s.ends; content = value_bytes c.width d.values } ∷ s.placed;
      broken = s.broken ⊕ rule (leb (end_for c s.ends) segment_limit) NoRoom c.name;
    }

-- the ends before any cell: of the program, which has none, of segment 1, and of n segments more, which "start at 0"
abbrev pub empty_ends : ℕ → List ℕ
empty_ends n = 0 ∷ table_bytes ∷ replicate n 0

-- of the cells, the newest first, with n base declarations
unfoldable pub place_cells : ℕ → List Filled → Room
place_cells n [] = record { ends = empty_ends n; placed = []; broken = unbroken }
place_cells n (d ∷ ds) = place_cell d (place_cells n ds)

unfoldable pub offset_of : List Placed → ℕ → ℕ
offset_of [] name = 0
offset_of (p ∷ ps) name = whether eqb p.name name then p.offset else offset_of ps name

-- ── literals ──

-- "Each distinct 32-bit value that an instruction takes from storage as a number is one 4-byte literal, in the order in which the code first needs it"
abbrev pub needs : Datum → List ℕ → List ℕ
needs (element c o x) seen = seen
needs (literal v) seen = whether member v seen then seen else seen ++ (v ∷ [])
needs (entry k) seen = seen

unfoldable pub literals_from : List ℕ → List Instruction → List ℕ
literals_from seen [] = seen
literals_from seen (rr op r s ∷ is) = literals_from seen is
literals_from seen (rx op r a ∷ is) = literals_from (needs a seen) is
literals_from seen (address r a ∷ is) = literals_from (needs a seen) is
literals_from seen (immediate op v a ∷ is) = literals_from (needs a seen) is
literals_from seen (shift op r s n ∷ is) = literals_from seen is
literals_from seen (branch m t ∷ is) = literals_from seen is
literals_from seen (link r t ∷ is) = literals_from seen is
literals_from seen (indexed r t ∷ is) = literals_from seen is
literals_from seen (stop ∷ is) = literals_from seen is

-- ── both ──

-- "from the next multiple of 4 after segment 1's cells"
unfoldable pub layout : ℕ → List Filled → List Instruction → Layout
layout bases ds is =
    let s = place_cells bases ds in
    record { ends = s.ends; placed = s.placed; literals = literals_from [] is; literals_at = round_up 4 (get_or s.ends 1 0); broken = s.broken }

abbrev pub literals_end : Layout → ℕ
literals_end l = l.literals_at + 4 * length l.literals

-- the end of segment k
abbrev pub cells_end : Layout → ℕ → ℕ
cells_end l k = get_or l.ends k 0
