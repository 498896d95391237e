-- The rules that hold statements meet their contracts: one recursion, whose measure is the room for constructs. Along a block, and along the list of a CASE, the
-- invariant is that whatever reads the rest from where the loop stands reads the whole. Assumes nothing.
use Rattle.statements.proofs.Rules.{Counted}
use Rattle.statements.specs.Parts.{tape_block}
use Rattle.readers.proofs.Loops.{Onward, Going}
use Rattle.tape.specs.Tape.{tape_body, tape_items}
use Rattle.grammar.specs.Grammar as G
use Rattle.grammar.specs.Grammar.{choices_of, body_of, items_of, procedure_of}
use lib.ListN.{length}
use Prim.Native.Nat.{◌+◌, ◌-◌, ◌*◌}
use Prim.Native.Nat.{◌≤◌, ◌<◌}
use Rattle.statements.proofs.+statements.Given as goal

abbrev pub decreases-body : goal.decreases-body
decreases-body l = 4 * l.room + 2

abbrev pub decreases-case_of : goal.decreases-case_of
decreases-case_of l = 4 * l.room + 1

abbrev pub decreases-for_do : goal.decreases-for_do
decreases-for_do l = 4 * l.room + 1

abbrev pub decreases-if_then : goal.decreases-if_then
decreases-if_then l = 4 * l.room + 1

abbrev pub decreases-items : goal.decreases-items
decreases-items l = 4 * l.room + 1

abbrev pub decreases-procedure : goal.decreases-procedure
decreases-procedure l = 4 * l.room + 1

abbrev pub decreases-statement : goal.decreases-statement
decreases-statement l = 4 * l.room

abbrev pub decreases-while_do : goal.decreases-while_do
decreases-while_do l = 4 * l.room + 1

abbrev pub invariant-body-loop-r : goal.invariant-body-loop-r
invariant-body-loop-r l = Going (tape_block tape_body l.begin) (body_of (G.statement l.room) (procedure_of l.room)) l.initial.r l.r

abbrev pub decreases-body-loop-r : goal.decreases-body-loop-r
decreases-body-loop-r l = length l.initial.r.kinds.now - l.r.at

abbrev pub invariant-case_of-loop-r : goal.invariant-case_of-loop-r
invariant-case_of-loop-r l =
    Onward (Counted l.name l.place 0 l.initial.r.events l.initial.r.tape.now) (Counted l.name l.place l.n l.r.events l.r.tape.now) (choices_of (G.statement l.room)) l.initial.r l.r
    × ((l.place < l.r.events) × (l.n ≤ l.r.at))

abbrev pub decreases-case_of-loop-r : goal.decreases-case_of-loop-r
decreases-case_of-loop-r l = length l.initial.r.kinds.now - l.r.at

abbrev pub invariant-items-loop-r : goal.invariant-items-loop-r
invariant-items-loop-r l = Going (tape_block tape_items l.begin) (items_of (G.statement l.room)) l.initial.r l.r

abbrev pub decreases-items-loop-r : goal.decreases-items-loop-r
decreases-items-loop-r l = length l.initial.r.kinds.now - l.r.at
