-- `translate_read` cuts the lists to the rows that fit. Assumes nothing.
use Rattle.settled.proofs.Rooms.{cut-lent}
use lib.Seq.{length-take-le}
use mathlib.Core.Path.{sym}
use native.Mathlib.Omega.{arith}
use Rattle.translate.proofs.translate_read.Goals as goal

pub slice_bounds-translate_tokens-end : goal.slice_bounds-translate_tokens-end
slice_bounds-translate_tokens-end c =
    sym (length-take-le _ _ c.requires.1.for-kinds)

pub slice_bounds-translate_tokens-end-3 : goal.slice_bounds-translate_tokens-end-3
slice_bounds-translate_tokens-end-3 c =
    sym (length-take-le _ _ c.requires.1.for-tape)

pub slice_bounds-translate_tokens-end-5 : goal.slice_bounds-translate_tokens-end-5
slice_bounds-translate_tokens-end-5 c =
    sym (length-take-le _ _ c.requires.1.for-wide)

pub slice_bounds-translate_tokens-end-7 : goal.slice_bounds-translate_tokens-end-7
slice_bounds-translate_tokens-end-7 c =
    sym (length-take-le _ _ c.requires.1.for-thin)

pub translate_tokens-requires : goal.translate_tokens-requires
translate_tokens-requires c =
    let f = c.requires.1 in
    let l = cut-lent _ c.args.kinds.now c.args.tape.now c.args.wide.now c.args.thin.now (omega arith) f.few f.for-kinds
    f.for-tape f.for-wide f.for-thin in
    (c.requires.0, l.0, l.1, l.2)
