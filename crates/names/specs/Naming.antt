-- Naming along a tape: which declaration each name means, event by event.
use Rattle.std.specs.Prelude.{List, [], ◌∷◌, ℕ, ◌+◌, ◌-◌, eqb, ltb}
use Rattle.base.specs.Choose.{whether◌then◌else◌}
use Rattle.tape.specs.Events as E
use Rattle.tape.specs.Numbers.{family_at}
use Rattle.tape.specs.Names.{declaring, shape_at, index_after}
use Rattle.scopes.specs.Broken.{unbroken}
use Rattle.scopes.specs.Search.{enter, around}
use Rattle.scopes.specs.Names.{Named, use_name, declare_name}

-- between two events: the open blocks with what is declared in them so far, innermost first; what has been found
pub record Naming : Type 0 where
  pub blocks : List (List ℕ)
  pub named : Named

-- ── blocks ──

abbrev pub outer : List (List ℕ) → List (List ℕ)
outer [] = []
outer (b ∷ bs) = bs

unfoldable pub blocks_after : ℕ → ℕ → List (List ℕ) → List (List ℕ)
blocks_after op t bs =
    whether eqb op E.BLOCK then [] ∷ bs else
    whether eqb op E.END-BLOCK then outer bs else
    whether declaring op then enter t bs else
    bs

-- ── uses ──

module _ (keys : List ℕ) where
  unfoldable pub declare_at : ℕ → ℕ → List (List ℕ) → Named → Named
  declare_at op t bs s = whether declaring op then declare_name keys t bs s else s

  -- the register that stands before or behind an event's token: a procedure's return register, or what a condition compares
  unfoldable pub use_register : ℕ → ℕ → List (List ℕ) → Named → Named
  use_register op t bs s =
      whether eqb op E.PROCEDURE then use_name keys (t + 2) bs s else
      whether eqb (family_at op) E.COMPARED then use_name keys (t - 2) bs s else
      s

  unfoldable pub use_place : ℕ → ℕ → List (List ℕ) → Named → Named
  use_place shape t bs s =
      whether ltb E.SUBSCRIPTED-INDEXED shape then s else
      whether ltb shape E.INDEXED then use_name keys t bs s else
      use_name keys (t + index_after shape) bs (use_name keys t bs s)

  unfoldable pub use_at : ℕ → ℕ → List (List ℕ) → Named → Named
  use_at op t bs s = use_place (shape_at op) t bs (use_register op t bs s)

  -- ── an event ──

  unfoldable pub name_op : ℕ → ℕ → Naming → Naming
  name_op op t m = record {
    blocks = blocks_after op t m.blocks;
    named = use_at op t (blocks_after op t m.blocks) (declare_at op t m.blocks m.named);
  }

-- before the first event, with whatever the list of what is found holds
abbrev pub beginning : List ℕ → Naming
beginning found = record { blocks = around; named = record { found = found; count = 0; broken = unbroken } }
