-- The tables as the ledger's columns.
use Rattle.std.specs.Prelude.{◌≡◌, List, ℕ}
use Rattle.ledger.specs.Book.{Wide, Thin}
use Rattle.static_rules.specs.Tables.{Tables}
use Rattle.tables.specs.Packed.{meanings_of, sets_of}

-- the tables are what the columns list, whatever the bases of cells
pub record Listed (f : Tables) (w : Wide) (b : Thin) : Type 0 where
  pub bases : List ℕ
  pub found-is : f.found ≡ b.found
  pub means_is : f.means ≡ meanings_of w.means bases
  pub values-is : f.values ≡ w.values
  pub opens-is : f.opens ≡ b.opens
  pub written_is : f.written ≡ sets_of b.written

-- and the kinds of tokens beside them
pub record Shown (f : Tables) (kinds : List ℕ) (w : Wide) (b : Thin) : Type 0 where
  pub listed : Listed f w b
  pub kinds-is : f.kinds ≡ kinds
