-- `translates` stays in what is lent; the room is the front of the buffer. Assumes nothing.
use borrow.Author.Rules.{rules}
use lib.Seq.{length-take-le}
use mathlib.Core.Path.{sym}
use Rattle.translate_vectors.proofs.translates.Goals as goal

pub slice_bounds-tautgaff_translate-end-2 : goal.slice_bounds-tautgaff_translate-end-2
slice_bounds-tautgaff_translate-end-2 c =
    sym (length-take-le _ _ (search rules))
