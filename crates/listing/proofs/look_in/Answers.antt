-- `look_in` reads the text, refusals 1 to 3, and then goes on with the lists cut to its tokens. Assumes nothing.
use native.Mathlib.Omega.{arith}
use Prim.Native.Nat.{◌+◌, ◌*◌}
use mathlib.Core.Path.{sym, ◌∙◌}
use lib.Seq.{length_front, length-take-le}
use Rattle.ledger.proofs.Cutting.{wide-take}
use Rattle.scopes.specs.Search.{first_token}
use Rattle.settled.proofs.Reading.{all_read, few-read}
use Rattle.settled.proofs.Rooms.{cut-blanks, cut-lent}
use Rattle.listing.proofs.Looking.{text-refused, text-read}
use Rattle.listing.proofs.look_in.Goals as goal

pub read-tokens-requires : goal.read-tokens-requires
read-tokens-requires c =
    (c.requires.short, c.requires.for-kinds, c.requires.for-wide)

pub overflow_add-m : goal.overflow_add-m
overflow_add-m c =
    omega (arith, few-read c.args.src.now _ c.read-tokens.ensures.0.is _ c.in-Ok.is, c.requires.short)

pub overflow_mul-rows : goal.overflow_mul-rows
overflow_mul-rows c =
    omega (arith, few-read c.args.src.now _ c.read-tokens.ensures.0.is _ c.in-Ok.is, c.requires.short)

pub slice_bounds-look_tokens-end : goal.slice_bounds-look_tokens-end
slice_bounds-look_tokens-end c =
    omega (arith, few-read c.args.src.now _ c.read-tokens.ensures.0.is _ c.in-Ok.is, c.requires.for-kinds, c.read-tokens.auto.kinds)

pub slice_bounds-look_tokens-end-in-Ok : goal.slice_bounds-look_tokens-end-in-Ok
slice_bounds-look_tokens-end-in-Ok c =
    sym (length-take-le _ _ (omega (
      arith,
      few-read c.args.src.now _ c.read-tokens.ensures.0.is _ c.in-Ok.is,
      c.requires.for-kinds,
      c.read-tokens.auto.kinds,
    )))

pub slice_bounds-look_tokens-end-in-Ok-2 : goal.slice_bounds-look_tokens-end-in-Ok-2
slice_bounds-look_tokens-end-in-Ok-2 c =
    omega (arith, few-read c.args.src.now _ c.read-tokens.ensures.0.is _ c.in-Ok.is, c.requires.for-tape)

pub slice_bounds-look_tokens-end-in-Ok-3 : goal.slice_bounds-look_tokens-end-in-Ok-3
slice_bounds-look_tokens-end-in-Ok-3 c =
    sym (length-take-le _ _ (omega (arith, few-read c.args.src.now _ c.read-tokens.ensures.0.is _ c.in-Ok.is, c.requires.for-tape)))

pub slice_bounds-look_tokens-end-in-Ok-4 : goal.slice_bounds-look_tokens-end-in-Ok-4
slice_bounds-look_tokens-end-in-Ok-4 c =
    omega (arith, few-read c.args.src.now _ c.read-tokens.ensures.0.is _ c.in-Ok.is, c.requires.for-wide, c.read-tokens.auto.wide)

pub slice_bounds-look_tokens-end-in-Ok-5 : goal.slice_bounds-look_tokens-end-in-Ok-5
slice_bounds-look_tokens-end-in-Ok-5 c =
    sym (length-take-le _ _ (omega (
      arith,
      few-read c.args.src.now _ c.read-tokens.ensures.0.is _ c.in-Ok.is,
      c.requires.for-wide,
      c.read-tokens.auto.wide,
    )))

pub slice_bounds-look_tokens-end-in-Ok-6 : goal.slice_bounds-look_tokens-end-in-Ok-6
slice_bounds-look_tokens-end-in-Ok-6 c =
    omega (arith, few-read c.args.src.now _ c.read-tokens.ensures.0.is _ c.in-Ok.is, c.requires.for-thin)

pub slice_bounds-look_tokens-end-in-Ok-7 : goal.slice_bounds-look_tokens-end-in-Ok-7
slice_bounds-look_tokens-end-in-Ok-7 c =
    sym (length-take-le _ _ (omega (arith, few-read c.args.src.now _ c.read-tokens.ensures.0.is _ c.in-Ok.is, c.requires.for-thin)))

pub look_tokens-requires : goal.look_tokens-requires
look_tokens-requires c =
    let f = few-read c.args.src.now _ c.read-tokens.ensures.0.is _ c.in-Ok.is in
    let l = cut-lent (first_token + c.in-Ok.n) c.read-tokens.new.kinds c.args.tape.now c.read-tokens.new.wide c.args.thin.now
    (omega arith) (omega (arith, f, c.requires.short)) (omega (arith, f, c.requires.for-kinds, c.read-tokens.auto.kinds)) (omega (arith, f, c.requires.for-tape))
    (omega (arith, f, c.requires.for-wide, c.read-tokens.auto.wide)) (omega (arith, f, c.requires.for-thin)) in
    (all_read c.args.src.now _ c.read-tokens.ensures.0.is _ c.in-Ok.is, l.0, l.1, l.2)

pub shape_of-kinds-in-Ok : goal.shape_of-kinds-in-Ok
shape_of-kinds-in-Ok c =
    c.read-tokens.auto.kinds

pub shape_of-tape : goal.shape_of-tape
shape_of-tape c =
    length_front c.args.tape.now c.look_tokens.new.tape (first_token + c.in-Ok.n) c.look_tokens.auto.tape

pub shape_of-wide-in-Ok : goal.shape_of-wide-in-Ok
shape_of-wide-in-Ok c =
    length_front c.read-tokens.new.wide c.look_tokens.new.wide (4 * (first_token + c.in-Ok.n))
    c.look_tokens.auto.wide ∙ c.read-tokens.auto.wide

pub shape_of-thin : goal.shape_of-thin
shape_of-thin c =
    length_front c.args.thin.now c.look_tokens.new.thin (4 * (first_token + c.in-Ok.n))
    c.look_tokens.auto.thin

pub returns-in-Ok : goal.returns-in-Ok
returns-in-Ok c =
    let f = few-read c.args.src.now _ c.read-tokens.ensures.0.is _ c.in-Ok.is in
    text-read _ c.args.key c.args.address _ _ _ _ c.read-tokens.ensures.0
    _ c.in-Ok.is _ _ (wide-take 0 (first_token + c.in-Ok.n) c.read-tokens.new.wide (omega arith) (omega (arith, f, c.requires.for-wide, c.read-tokens.auto.wide)))
    (cut-blanks c.args.src.now _ c.read-tokens.ensures.0.is _ c.in-Ok.is c.args.wide.now c.read-tokens.new.wide
    c.args.thin.now c.requires.no-wide c.requires.no-thin c.read-tokens.ensures.1 c.read-tokens.auto.wide (omega (arith, f, c.requires.for-wide))
    (omega (arith, f, c.requires.for-thin)))
    c.look_tokens.ensures

pub returns-in-Err : goal.returns-in-Err
returns-in-Err c =
    text-refused _ c.args.key c.args.address _ _ _ _ c.read-tokens.ensures.0
    _ c.in-Err.is (c.nothing.ensures c.args.key c.args.address)
