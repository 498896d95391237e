-- `translate_tokens` reads the program, refusals 4 and 5, and then its tape. Assumes nothing.
use Rattle.translate.proofs.Groups.{no_program, some-program}
use Rattle.settled.proofs.Programs.{tape-fits}
use Rattle.settled.specs.Texts.{all_tokens}
use Rattle.ledger.specs.Book.{wide_of}
use lib.ListN.{length-take}
use lib.Seq.{length-take-le}
use mathlib.Core.Path.{sym}
use native.Mathlib.Omega.{arith}
use Rattle.translate.proofs.translate_tokens.Goals as goal

pub place_of-requires : goal.place_of-requires
place_of-requires c =
    c.requires.0

pub shape_of-tape-in-Err : goal.shape_of-tape-in-Err
shape_of-tape-in-Err c =
    c.program.auto.tape

pub returns-in-Err : goal.returns-in-Err
returns-in-Err c =
    λ ek ev small bs. rw c.number.ensures (no_program (all_tokens c.args.src.now) _ _ c.in-Err.ensures _ _ c.place_of.ensures)

pub slice_bounds-translate_tape-end-in-Ok : goal.slice_bounds-translate_tape-end-in-Ok
slice_bounds-translate_tape-end-in-Ok c =
    sym (length-take-le _ _ c.in-Ok.ensures.fits)

pub translate_tape-requires : goal.translate_tape-requires
translate_tape-requires c =
    let d = c.in-Ok.ensures in
    let f = tape-fits _ _ _ d (omega (arith, c.requires.3.few)) in (
      c.requires.0,
      omega (arith, length-take c.in-Ok.p.value c.program.new.tape, d.few, c.requires.2),
      f.0,
      f.1,
      c.requires.3,
    )

pub shape_of-tape-in-Ok : goal.shape_of-tape-in-Ok
shape_of-tape-in-Ok c =
    c.program.auto.tape

pub returns-in-Ok : goal.returns-in-Ok
returns-in-Ok c =
    λ ek ev small bs. some-program (all_tokens c.args.src.now) c.args.kinds.now c.program.new.tape c.in-Ok.p c.in-Ok.ensures (wide_of c.args.wide.now).values c.args.out.now _ _ ek ev small (λ x t.
    c.translate_tape.ensures x t ek bs)
