-- Why `is_long` meets its contract: the width is full when its number is 0.
use mathlib.Core.Path.{◌≡◌, refl}
use lib.Dec.{eqb}
use denote.Enum.Bare.{sameb}
use Rattle.tables.specs.declared.Width.{Width}
use Rattle.tables.specs.declared.Width.TheVariants.{Full, Short, Byte, Character}
use Rattle.tables.specs.contracts.Width as W
use Rattle.tables.specs.Packed.{width_number, long_in}
use Rattle.tables.proofs.is_long.Goals as goal

full_is : (w : Width) → sameb W.the_type w Full ≡ eqb (width_number w) 0
full_is Full = refl
full_is Short = refl
full_is Byte = refl
full_is Character = refl

pub returns : goal.returns
unfolding long_in
returns c =
    rw (c.is_register.ensures, c.is_cell.ensures, c.eq.ensures, full_is, c.width_of.ensures)
