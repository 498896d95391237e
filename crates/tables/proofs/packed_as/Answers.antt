-- Why `packed_as` meets its contract: a sort and a width are packed by their numbers.
use mathlib.Core.Path.{◌≡◌, refl}
use Prim.Native.Nat.{◌+◌}
use denote.Enum.Declared.{tag_of}
use Rattle.tables.specs.declared.Sort.{Sort}
use Rattle.tables.specs.declared.Sort.TheVariants.{Register, Routine, Cell, Array, Function}
use Rattle.tables.specs.declared.Width.{Width}
use Rattle.tables.specs.declared.Width.TheVariants.{Full, Short, Byte, Character}
use Rattle.tables.specs.contracts.Sort as S
use Rattle.tables.specs.contracts.Width as W
use Rattle.tables.specs.Packed.{sort_number, width_number}
use Rattle.tables.proofs.packed_as.Goals as goal

sort_is : (s : Sort) → tag_of S.the_type s + 1 ≡ sort_number s
sort_is Register = refl
sort_is Routine = refl
sort_is Cell = refl
sort_is Array = refl
sort_is Function = refl

width_is : (w : Width) → tag_of W.the_type w ≡ width_number w
width_is Full = refl
width_is Short = refl
width_is Byte = refl
width_is Character = refl

pub returns : goal.returns
returns c =
    rw (← sort_is c.args.sort, ← width_is c.args.width) c.packed.ensures
