-- The program's bytes and the literals along a tape. A byte keeps eight bits, and what lies past the image is not laid: positions stay exact.
use Rattle.std.specs.Prelude.{List, [], ◌∷◌, map, ◌≡◌, ℕ, ◌+◌, ◌*◌, ◌/◌, ◌%◌, ◌<◌, ◌≤◌, length, take}
use Rattle.std.proofs.lemmas.List.Edits.{sets}
use Rattle.base.specs.Runs.{index_of}
use Rattle.base.specs.Walk.{fold}
use Rattle.static_rules.specs.Meanings.{data_base}
use Rattle.translation.specs.Instructions.{literal}
use Rattle.translation.specs.Layout.{needs}
use Rattle.translation.specs.Bytes.{two_bytes, four_bytes}
use Rattle.tape.specs.Events as E
use Rattle.ledger.specs.Book.{Wide, Thin}
use Rattle.emit.specs.declared.Code.{Code}
use Rattle.emit.specs.declared.Code.TheVariants.{Two, Four, Literal}
use Rattle.emit.specs.declared.Writing.{Writing}
use Rattle.emit.specs.Codes.{list_of, code_size, stop_code}
use Rattle.emit.specs.Events.{writing_after, codes_by}
use Rattle.emit.specs.Along.{starts, table_along}
use Rattle.code.specs.Places.{no_writing}

abbrev pub bytes_in : List ℕ → List ℕ
bytes_in bs = map (λ (b : ℕ). b % 256) bs

-- the address, the program's image and the literals so far
pub record Laid : Type 0 where
  pub at : ℕ
  pub image : List ℕ
  pub literals : List ℕ

abbrev pub laid_of : ℕ → List ℕ → List ℕ → Laid
laid_of at image literals = record { at = at; image = image; literals = literals }

-- with the first n of a list as literals
abbrev pub laid_by : (at n : ℕ) (image literals : List ℕ) → Laid
laid_by at n image literals = laid_of at image (take n literals)

-- the bytes of an instruction; literals stand from `start`
unfoldable pub code_bytes : (start : ℕ) (literals : List ℕ) → Code → List ℕ
code_bytes start literals (Two op r s) = two_bytes op r s
code_bytes start literals (Four op r x b d) = four_bytes op r x b d
code_bytes start literals (Literal op r x v) = four_bytes op r x data_base.register (start + 4 * index_of v literals)

-- "Each distinct 32-bit value … is one 4-byte literal, in the order in which the code first needs it"
unfoldable pub literals_after : Code → List ℕ → List ℕ
literals_after (Two op r s) seen = seen
literals_after (Four op r x b d) seen = seen
literals_after (Literal op r x v) seen = needs (literal v) seen

unfoldable pub lay_code : (start : ℕ) → Code → Laid → Laid
lay_code start c s = record {
  at = s.at + code_size c;
  image = sets s.image s.at (bytes_in (code_bytes start (literals_after c s.literals) c));
  literals = literals_after c s.literals;
}

-- one instruction behind the other
abbrev pub lay_all : (start : ℕ) → List Code → Laid → Laid
lay_all start cs s = fold (λ (l : Laid) (c : Code). lay_code start c l) s cs

pub record Coding : Type 0 where
  pub laid : Laid
  pub writing : Writing

abbrev pub coding_of : Laid → Writing → Coding
coding_of l w = record { laid = l; writing = w }

module _ (start : ℕ) (kinds values found goes means under opens offsets marks : List ℕ) where
  -- an event before others: its instructions, and the table of a CASE, which hangs on what follows
  unfoldable pub code_event : (op t : ℕ) → (later : List ℕ) → Coding → Coding
  code_event op t later s =
      let v = writing_after values found means under offsets op t s.writing in
      record {
        laid =
            lay_all start (table_along kinds values found goes means under opens offsets marks op t v later)
            (lay_all start (list_of (codes_by kinds values found goes means under opens offsets marks op t s.writing)) s.laid);
        writing = v;
      }

  unfoldable pub code_from : Coding → (tape : List ℕ) → Coding
  code_from s [] = s
  code_from s (e ∷ es) = code_from (code_event (e % E.EVENTS) (e / E.EVENTS) es s) es

-- along a whole tape, over the image as it was lent; "The last instruction is `0A 00`."
unfoldable pub code_along : (start : ℕ) (kinds values found goes means under opens offsets marks : List ℕ) (image tape : List ℕ) → Laid
code_along start kinds values found goes means under opens offsets marks image tape =
    lay_code start stop_code (code_from start kinds values found goes means under opens offsets marks (coding_of (laid_of 0 image []) no_writing) tape).laid

-- by the ledger
abbrev pub code_rest : (start : ℕ) (kinds : List ℕ) → Wide → Thin → Coding → (tape : List ℕ) → Coding
code_rest start kinds w b = code_from start kinds w.values b.found b.goes w.means w.under b.opens w.offsets b.written

abbrev pub starts_in : (kinds : List ℕ) → Wide → Thin → (depth from p : ℕ) → Writing → (tape : List ℕ) → List ℕ
starts_in kinds w b = starts kinds w.values b.found b.goes w.means w.under b.opens w.offsets b.written

abbrev pub table_in : (kinds : List ℕ) → Wide → Thin → (op t : ℕ) → Writing → (later : List ℕ) → List Code
table_in kinds w b = table_along kinds w.values b.found b.goes w.means w.under b.opens w.offsets b.written

-- the addresses of a program's code stay below this, whatever tape there is
abbrev pub code_limit : ℕ
code_limit = 1152921504606846976

abbrev pub code_in : (start : ℕ) (kinds : List ℕ) → Wide → Thin → (image tape : List ℕ) → Laid
code_in start kinds w b image tape = code_along start kinds w.values b.found b.goes w.means w.under b.opens w.offsets b.written image tape

-- What is reached in a room for so many literals: the address always; all else while the room is not full; a full room says that there are as many literals.
pub record Holds (room at n : ℕ) (image literals : List ℕ) (s : Laid) : Type 0 where
  pub reached : at ≡ s.at
  pub inside : n ≤ room
  pub same : n < room → laid_by at n image literals ≡ s
  pub full : n ≡ room → room ≤ length s.literals
