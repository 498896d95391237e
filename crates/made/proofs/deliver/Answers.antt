-- `deliver` writes the object where there is room for its text. Assumes nothing.
use Rattle.made.proofs.Delivering.{short-room, enough-room}
use Rattle.ledger.specs.Book.{wide_of}
use Rattle.made.proofs.deliver.Goals as goal

pub returns-then-out-needed : goal.returns-then-out-needed
returns-then-out-needed c =
    λ ends w. short-room (wide_of c.args.wide.now) c.args.tape.now _ _ c.args.code.now c.args.literals.now ends _ _ _ _ w.cells_is c.end_of_first-last.ensures.0 w.two_is w.three-is (c.end_of_first-last.ensures.1, c.requires.3, c.requires.4) _
    c.text_length-needed.ensures _ c.if-out-needed.true

pub returns : goal.returns
returns c =
    λ ends w. enough-room (wide_of c.args.wide.now) c.args.tape.now _ _ c.args.code.now c.args.literals.now ends _ _ _ _ w.cells_is c.end_of_first-last.ensures.0 w.two_is w.three-is (c.end_of_first-last.ensures.1, c.requires.3, c.requires.4) _
    c.text_length-needed.ensures _ _ c.if-out-needed.false c.write.ensures
