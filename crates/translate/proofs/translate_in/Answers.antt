-- `translate_in` reads the text, refusals 1 to 3, and then goes on with its tokens. Assumes nothing.
use Rattle.translate.proofs.Groups.{text-refused, text-read}
use Rattle.settled.proofs.Rooms.{read_fits, cut-blanks}
use Rattle.settled.proofs.Reading.{all_read}
use Rattle.scopes.specs.Search.{first_token}
use Rattle.ledger.proofs.Cutting.{wide-take}
use Prim.Native.Nat.{◌+◌}
use native.Mathlib.Omega.{arith}
use Rattle.translate.proofs.translate_in.Goals as goal

pub translate_read-requires : goal.translate_read-requires
translate_read-requires c = (
  all_read c.args.src.now _ c.read-tokens.ensures.0.is _ c.in-Ok.is,
  read_fits c.requires c.read-tokens.ensures.0 c.read-tokens.auto.kinds c.read-tokens.auto.wide c.in-Ok.is,
)

pub returns-in-Ok : goal.returns-in-Ok
returns-in-Ok c =
    let f = read_fits {wide' = c.read-tokens.new.wide} c.requires c.read-tokens.ensures.0 c.read-tokens.auto.kinds c.read-tokens.auto.wide c.in-Ok.is in
    text-read _ _ _ _ c.read-tokens.ensures.0 _ c.in-Ok.is _ _ _ _ _
    (wide-take 0 (first_token + c.in-Ok.n) c.read-tokens.new.wide (omega arith) f.for-wide)
    (cut-blanks c.args.src.now _ c.read-tokens.ensures.0.is _ c.in-Ok.is c.args.wide.now c.read-tokens.new.wide c.args.thin.now
    c.requires.no-wide c.requires.no-thin c.read-tokens.ensures.1 c.read-tokens.auto.wide (omega (arith, f.for-wide, c.read-tokens.auto.wide)) f.for-thin)
    c.translate_read.ensures

pub returns-in-Err : goal.returns-in-Err
returns-in-Err c =
    rw (c.number.ensures, c.spot.ensures) (text-refused _ _ _ _ c.read-tokens.ensures.0 _ _ c.in-Err.is)
