-- The first loop along the tape: the labels of each block are chained, and each block to the one around it.
use Rattle.std.specs.Prelude.{List, ◌||◌, ℕ, eqb, get_or, set}
use Rattle.base.specs.Choose.{whether◌then◌else◌}
use Rattle.tape.specs.Events as E

pub record Linking : Type 0 where
  pub links : List ℕ
  pub outer : List ℕ
  pub block : ℕ

-- the BEGIN of the block that an event leads into, or 0 at the edge of a procedure body
unfoldable pub block_after : ℕ → ℕ → List ℕ → ℕ → ℕ
block_after op t outer block =
    whether eqb op E.BLOCK then t else
    whether eqb op E.PROCEDURE then 0 else
    whether eqb op E.END-BLOCK || eqb op E.END-PROCEDURE then get_or outer t 0 else
    block

-- what a block or a procedure's body returns to
unfoldable pub outer_after : ℕ → ℕ → ℕ → List ℕ → List ℕ
outer_after op t block outer = whether eqb op E.BLOCK || eqb op E.PROCEDURE then set outer t block else outer

unfoldable pub links_after : ℕ → ℕ → ℕ → List ℕ → List ℕ
links_after op t block links =
    whether eqb op E.BLOCK then set links t 0 else
    whether eqb op E.LABEL then set (set links t (get_or links block 0)) block t else
    links

unfoldable pub link_op : ℕ → ℕ → Linking → Linking
link_op op t m = record {
  links = links_after op t m.block m.links;
  outer = outer_after op t m.block m.outer;
  block = block_after op t m.outer m.block;
}
