-- `look_tokens` reads the program, refusals 4 and 5, and then its tape. Assumes nothing.
use native.Mathlib.Omega.{arith}
use mathlib.Core.Path.{sym}
use lib.Seq.{length-take-le}
use lib.ListN.{length-take}
use Rattle.ledger.specs.Book.{wide_of}
use Rattle.settled.specs.Texts.{all_tokens}
use Rattle.settled.proofs.Programs.{tape-fits}
use Rattle.listing.proofs.Looking.{no_program, some-program}
use Rattle.listing.proofs.look_tokens.Goals as goal

pub shape_of-tape-in-Err : goal.shape_of-tape-in-Err
shape_of-tape-in-Err c =
    c.program.auto.tape

pub returns-in-Err : goal.returns-in-Err
returns-in-Err c =
    λ ek ev small bs. no_program _ c.args.key c.args.address (all_tokens c.args.src.now) _ _ c.in-Err.ensures (c.nothing.ensures c.args.key c.args.address)

pub slice_bounds-look_tape-end-in-Ok : goal.slice_bounds-look_tape-end-in-Ok
slice_bounds-look_tape-end-in-Ok c =
    sym (length-take-le _ _ c.in-Ok.ensures.fits)

pub look_tape-requires : goal.look_tape-requires
look_tape-requires c =
    let d = c.in-Ok.ensures in
    let f = tape-fits _ _ _ d (omega (arith, c.requires.3.few)) in (
      c.requires.0,
      omega (arith, length-take c.in-Ok.p.value c.program.new.tape, d.few, c.requires.2),
      f.0,
      f.1,
      c.requires.3,
    )

pub shape_of-tape-in-Ok : goal.shape_of-tape-in-Ok
shape_of-tape-in-Ok c =
    c.program.auto.tape

pub returns-in-Ok : goal.returns-in-Ok
returns-in-Ok c =
    λ ek ev small bs. some-program _ c.args.key c.args.address (all_tokens c.args.src.now) c.args.kinds.now c.program.new.tape c.in-Ok.p c.in-Ok.ensures
    (wide_of c.args.wide.now).values ek ev small (λ x t. c.look_tape.ensures x t ek bs)
