-- The object that the passes make of a text along its tape, by what the ledger has of its tokens.
use Rattle.std.specs.Prelude.{List, ℕ, ◌+◌, ◌*◌, ◌/◌, eqb, ltb, length, take, replicate}
use Rattle.std.proofs.lemmas.List.Edits.{sets}
use Rattle.base.specs.Choose.{whether◌then◌else◌}
use Rattle.tape.specs.Pass.{pass}
use Rattle.objtext.specs.Object.{Segment, object_text}
use Rattle.translation.specs.Layout.{segment_limit, round_up}
use Rattle.translation.specs.Image.{words}
use Rattle.translation.specs.Translate.{Answer, accepted, refused, in_room}
use Rattle.layout.specs.Along.{imaging_of, nowhere, image_event}
use Rattle.ledger.specs.Book.{Wide, Thin}
use Rattle.settled.specs.Texts.{end_of}
use Rattle.code.specs.Places.{on_marks, places_in}
use Rattle.code.specs.Coding.{Laid, code_in}
use Rattle.frames.specs.Frames.{object_of}

-- "Each segment's image is built in an array of 4,096 zero bytes"
abbrev pub zeros : List ℕ
zeros = replicate segment_limit 0

-- "15: literals end past 4,096": where a room for so many is full, they do
abbrev pub literal_room : ℕ
literal_room = segment_limit / 4 + 1

-- "Segment 1 ends with its last literal; with none, with its last cell, or at 16."
unfoldable pub end_of_first : (cells start literals : ℕ) → ℕ
end_of_first cells start literals = whether eqb literals 0 then cells else start + 4 * literals

module _ (w : Wide) (tape : List ℕ) where
  unfoldable pub image_along : ℕ → List ℕ
  image_along k = (pass (image_event k w.means w.under w.offsets w.values) (imaging_of zeros nowhere) tape).image

  module _ (bases : ℕ) where
    -- the object of a program and the literals from `start`, by the ends of segment 1's cells and of the data segments
    unfoldable pub object_cut : (start : ℕ) (code literals : List ℕ) (cells last two three : ℕ) → List Segment
    object_cut start code literals cells last two three =
        object_of code (take last (sets (image_along 1) start (words literals))) cells bases (take two (image_along 2)) (take three (image_along 3))

    unfoldable pub object_along : (ends : List ℕ) (start : ℕ) (code literals : List ℕ) → List Segment
    object_along ends start code literals =
        object_cut start code literals (end_of ends 1) (end_of_first (end_of ends 1) start (length literals)) (end_of ends 2) (end_of ends 3)

abbrev pub start_of : (ends : List ℕ) → ℕ
start_of ends = round_up 4 (end_of ends 1)

-- the program's bytes and the literals: where branches go is placed first
unfoldable pub coded_along : (kinds : List ℕ) → Wide → Thin → (ends tape : List ℕ) → Laid
coded_along kinds w b ends tape = code_in (start_of ends) kinds w (on_marks (λ (marks : List ℕ). (places_in kinds w b tape).marks) b) zeros tape

-- "14: program over 4,096 bytes … 0"; "15: literals end past 4,096 … 0"; 16
unfoldable pub made_along : (kinds : List ℕ) → Wide → Thin → (ends tape : List ℕ) (bases room : ℕ) → Answer
made_along kinds w b ends tape bases room =
    let l = coded_along kinds w b ends tape in
    whether ltb segment_limit l.at then refused 14 0 else
    whether ltb segment_limit (start_of ends + 4 * length l.literals) then refused 15 0 else
    in_room room (accepted (object_text (object_along w tape bases ends (start_of ends) (take l.at l.image) l.literals)))
