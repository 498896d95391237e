-- The open blocks as two flat lists: `scope`, the ledger's column `opens`, has the tokens that declare names, oldest first, and `starts`, its column `written`,
-- for each open block where it begins there.
use Rattle.std.specs.Prelude.{◌≡◌, List, [], ◌∷◌, ℕ, zero, suc, ◌+◌, ◌≤◌, ◌<◌, leb, get_or, length}
use Rattle.base.specs.Choose.{whether◌then◌else◌}
use Rattle.scopes.specs.Search.{standard_names, around}
use Rattle.scopes.specs.Names.{Named}
use Rattle.ledger.specs.Book.{Thin, thin_limit}
use Rattle.names.specs.declared.Blocks.{Blocks}
use Rattle.scopes.specs.declared.Noted.{Noted}

-- the entries from lo up to hi, the newest first
unfoldable pub span : List ℕ → ℕ → ℕ → List ℕ
span scope lo zero = []
span scope lo (suc hi) = whether leb lo hi then get_or scope hi 0 ∷ span scope lo hi else []

-- so many blocks, the innermost first, whose entries end at hi
unfoldable pub blocks_of : List ℕ → List ℕ → ℕ → ℕ → List (List ℕ)
blocks_of scope starts zero hi = []
blocks_of scope starts (suc depth) hi = span scope (get_or starts depth 0) hi ∷ blocks_of scope starts depth (get_or starts depth 0)

-- each block begins where the one inside it begins, or before
unfoldable pub Rising : List ℕ → ℕ → ℕ → Type 0
Rising starts zero hi = Unit
Rising starts (suc depth) hi = (get_or starts depth 0 ≤ hi) × Rising starts depth (get_or starts depth 0)

abbrev pub blocks_in : Thin → Blocks → List (List ℕ)
blocks_in l b = blocks_of l.opens l.written b.depth b.count

abbrev pub named_in : List ℕ → Noted → Named
named_in found n = record { found = found; count = n.count; broken = n.broken }

-- what a change of the blocks asks for, and what it leaves
pub record Roomy (l : Thin) (b : Blocks) : Type 0 where
  pub rising : Rising l.written b.depth b.count
  pub deep : b.depth < length l.written
  pub wide : b.count < length l.opens
  pub shallow : b.depth < thin_limit
  pub small : b.count < thin_limit

pub record Changed (blocks : List (List ℕ)) (l : Thin) (b r : Blocks) : Type 0 where
  pub is : blocks_in l r ≡ blocks
  pub rising : Rising l.written r.depth r.count
  pub deep : r.depth ≤ b.depth + 1
  pub wide : r.count ≤ b.count + 1

-- what has been found stays
pub record Stays (before after : Thin) : Type 0 where
  pub found-is : after.found ≡ before.found
  pub goes-is : after.goes ≡ before.goes

-- before the first event
pub record Begun (l : Thin) (b : Blocks) : Type 0 where
  pub is : blocks_in l b ≡ around
  pub rising : Rising l.written b.depth b.count
  pub depth : b.depth ≡ 1
  pub count : b.count ≡ standard_names

-- ── what is found, with what stays meanwhile ──

pub record Searching : Type 0 where
  pub named : Named
  pub goes : List ℕ
  pub opens : List ℕ
  pub written : List ℕ

abbrev pub search_in : Thin → Noted → Searching
search_in l n = record { named = named_in l.found n; goes = l.goes; opens = l.opens; written = l.written }

-- what is found, changed by the open blocks
abbrev pub naming : Blocks → (List (List ℕ) → Named → Named) → Searching → Searching
naming b f s = record { named = f (blocks_of s.opens s.written b.depth b.count) s.named; goes = s.goes; opens = s.opens; written = s.written }
