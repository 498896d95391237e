-- The statements of a CASE are passed, and each that ends leaves a branch to its start. The invariant: what is laid, with the branches to those that are left, is the whole table. Assumes nothing.
use Prim.Native.Nat.{ℕ, ◌+◌, ◌*◌, ◌≤◌}
use mathlib.Core.Path.{◌≡◌}
use mathlib.Core.List.{List}
use lib.ListN.{length, drop}
use Rattle.emit.specs.Books.{wide_in, thin_in}
use Rattle.emit.specs.Along.{most_bytes}
use Rattle.code.specs.Coding.{laid_of, lay_all}
use Rattle.code.proofs.Tables.{rest}
use Rattle.code.proofs.lay_table.Given as goal

abbrev pub invariant-loop-x : goal.invariant-loop-x
invariant-loop-x l =
    (l.x-index ≤ length l.rest) × (l.depth ≤ l.x-index + 1) × (l.p ≤ 65536 + most_bytes * l.x-index) × (l.end ≤ l.initial.end + 4 * l.x-index)
    × (length l.image ≡ length l.initial.image)
    × ((k : ℕ) (seen : List ℕ) → lay_all k (rest l.book.kinds.now l.rest (wide_in l.book) (thin_in l.book) l.depth l.from l.p l.v (drop l.x-index l.rest)) (laid_of l.end l.image seen)
    ≡ lay_all k (rest l.book.kinds.now l.rest (wide_in l.book) (thin_in l.book) l.initial.depth l.initial.from l.initial.p l.initial.v l.rest) (laid_of l.initial.end l.initial.image seen))
