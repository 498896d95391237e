-- Chains in lists by token. `links`, the ledger's column `opens`, has at a block's BEGIN the newest label of the block, and at a label the one set before it there; `outer`, its column
-- `written`, has at a block's BEGIN the BEGIN around it, or 0 at the edge of a procedure body. A chain ends at 0, and it falls.
use Rattle.std.specs.Prelude.{List, [], ◌∷◌, map, ℕ, zero, suc, ltb, get_or}
use Rattle.base.specs.Choose.{whether◌then◌else◌}
use Rattle.ledger.specs.Book.{Thin}
use Rattle.scopes.specs.declared.Noted.{Noted}
use Rattle.scopes.specs.Labels.{Labelled}

-- what comes after t in a chain
unfoldable pub after : List ℕ → ℕ → ℕ
after a t = whether ltb (get_or a t 0) t then get_or a t 0 else 0

-- of so many at most
unfoldable pub chain_of : List ℕ → ℕ → ℕ → List ℕ
chain_of a zero t = []
chain_of a (suc most) zero = []
chain_of a (suc most) (suc t) = suc t ∷ chain_of a most (after a (suc t))

-- t and what comes after it
abbrev pub chain : List ℕ → ℕ → List ℕ
chain a t = chain_of a t t

abbrev pub labels_in : List ℕ → ℕ → List ℕ
labels_in links block = chain links (get_or links block 0)

-- the labels of a block and of those around it, up to the edge of the procedure body, innermost first
unfoldable pub blocks_in : List ℕ → List ℕ → ℕ → List (List ℕ)
blocks_in links outer block = map (labels_in links) (chain outer block)

abbrev pub labelled_in : List ℕ → Noted → Labelled
labelled_in goes n = record { goes = goes; count = n.count; broken = n.broken }

-- ── what each GOTO means, with what stays meanwhile ──

pub record Marking : Type 0 where
  pub labelled : Labelled
  pub found : List ℕ
  pub links : List ℕ
  pub outer : List ℕ

abbrev pub mark_in : Thin → Noted → Marking
mark_in b n = record { labelled = labelled_in b.goes n; found = b.found; links = b.opens; outer = b.written }

-- what is labelled, changed by the chains
abbrev pub marking : ((links outer : List ℕ) → Labelled → Labelled) → Marking → Marking
marking f s = record { labelled = f s.links s.outer s.labelled; found = s.found; links = s.links; outer = s.outer }
