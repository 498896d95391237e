-- `write_code` is the pass, and the last instruction. The invariant: what is laid holds of a state from which the rest of the tape leads to the whole; an event takes
-- so many bytes and literals at most. Assumes nothing.
use Rattle.code.proofs.Holding.{Coded}
use Rattle.code.specs.Places.{no_writing}
use Rattle.code.specs.Coding.{laid_of, coding_of, code_rest}
use Rattle.emit.specs.Books.{wide_in, thin_in}
use lib.ListN.{length, drop}
use mathlib.Core.Path.{◌≡◌}
use mathlib.Core.List.{[]}
use Prim.Native.Nat.{◌*◌, ◌≤◌}
use Rattle.code.proofs.write_code.Given as goal

abbrev pub invariant-loop-i : goal.invariant-loop-i
invariant-loop-i l =
    (l.i ≤ length l.tape) × (l.at.length ≤ 268435480 * l.i) × (l.at.literals ≤ 6 * l.i)
    × (l.at.literals ≤ length l.initial.literals) × (length l.image ≡ length l.initial.image) × (length l.literals ≡ length l.initial.literals)
    × Coded l.start (length l.initial.literals) l.book.kinds.now (wide_in l.book) (thin_in l.book) l.at.length l.at.literals l.image l.literals l.w (drop l.i l.tape)
    (code_rest l.start l.book.kinds.now (wide_in l.book) (thin_in l.book) (coding_of (laid_of 0 l.initial.image []) no_writing) l.tape)
