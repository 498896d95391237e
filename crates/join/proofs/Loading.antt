-- What is asked of the storage map: `Mapped`.
use mathlib.Core.Path.{◌≡◌}
use mathlib.Core.Bool.{true, false}
use Prim.Native.Nat.{ℕ, ◌+◌, ◌*◌, ◌%◌, ◌<◌, ◌≤◌}
use lib.ListN.{length}
use Rattle.machine.specs.Space.{Space, origin, room, readable, writable}
use Rattle.translation.specs.Layout.{Layout, table_bytes, cells_end, literals_end}
use Rattle.translation.proofs.Rooms.{start_of}

-- the map m of a program of these many bytes, with n base declarations and the layout l
pub record Mapped (n : ℕ) (l : Layout) (program : ℕ) (m : Space) : Type 0 where
  pub length-is : m.program ≡ program
  pub few : n ≤ 2
  -- page 0, the program and the table cannot be stored to, nor can literals
  pub below : (a : ℕ) → a < origin 1 + table_bytes → writable m a 1 ≡ false
  pub fixed : (a : ℕ) → l.literals_at ≤ a → a < room → writable m (origin 1 + a) 1 ≡ false
  -- table entries, cells and literals can be read, and cells stored to
  pub entries : (k : ℕ) → k < 2 + n → readable m (origin 1 + 4 * k) 4 ≡ true
  pub cells : (k o z : ℕ) → 1 ≤ k → k < 2 + n → start_of k ≤ o → 0 < z → o + z ≤ cells_end l k
      → (readable m (origin k + o) z ≡ true) × (writable m (origin k + o) z ≡ true)
  pub literals : (i : ℕ) → i < length l.literals → readable m (origin 1 + (l.literals_at + 4 * i)) 4 ≡ true
  -- each segment has room, and literals are aligned
  pub cells-room : (k : ℕ) → cells_end l k ≤ room
  pub literals_room : literals_end l ≤ room
  pub literals-aligned : l.literals_at % 4 ≡ 0
