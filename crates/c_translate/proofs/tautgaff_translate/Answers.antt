-- What `translate::translate` answered is left in lent memory, and its buffer is handed on. Assumes nothing.
use Rattle.c_translate.proofs.Rooms.{lent_is}
use Rattle.c_translate.proofs.tautgaff_translate.Goals as goal

pub returns : goal.returns
returns c =
    lent_is _ _ _ c.translate-told.result _ _ c.number_of.ensures c.parts_of.ensures c.translate-told.ensures
