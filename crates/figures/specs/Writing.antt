-- A text that is written from the front of lent room: as much of it as there is room for, and behind it what stood there.
use Rattle.std.specs.Prelude.{ℕ, min, ◌≡◌, List, ◌++◌, length, take, drop}
use Rattle.std.specs.Borrow.{MutBor}
use Rattle.figures.specs.declared.Text.{Text}

abbrev pub written : List ℕ → List ℕ → List ℕ
written room text = take (length room) text ++ drop (length text) room

-- how many bytes of it there are
abbrev pub cut : List ℕ → List ℕ → ℕ
cut room text = min (length text) (length room)

-- `now` is the room with the text in it, which ends at `at`
pub record Holds (room text now : List ℕ) (at : ℕ) : Type 0 where
  pub stands : now ≡ written room text
  pub ends : at ≡ cut room text

-- whatever text stood there and ended at `at`, it goes on with the piece, and ends at `end`
abbrev pub Adds : List ℕ → List ℕ → ℕ → List ℕ → ℕ → Type 0
Adds piece before at after end = (room text : List ℕ) → Holds room text before at → Holds room (text ++ piece) after end

-- the text lies in the room that is lent, and ends at `end`
pub record StandsIn (room : MutBor (List ℕ)) (end : ℕ) (text : Text) : Type 0 where
  pub stands : text.room.now ≡ room.now
  pub same_room : text.room.ghost_name ≡ room.ghost_name
  pub ends : text.end ≡ end

-- the text goes on with the piece, in the same room
pub record Puts (piece : List ℕ) (before after : Text) : Type 0 where
  pub adds : Adds piece before.room.now before.end after.room.now after.end
  pub same_room : after.room.ghost_name ≡ before.room.ghost_name
