-- `load` reads the number in n bytes. Assumes nothing.
use Rattle.std.proofs.Common.{◌+◌, ◌-◌, ◌<◌, ◌≤◌, drop, refl, arith, length-take}
use Rattle.base.specs.Numbers.{number_from}
use Rattle.base.proofs.Numbers.{load_more, byte-on, some-room, fewer_bytes}
use Rattle.base.proofs.Parts.{get_d_part}
use Rattle.base.proofs.load.Goals as goal

pub loop-b-init : goal.loop-b-init
unfolding number_from
loop-b-init c =
    record { fits = some-room 0; is = refl }

pub overflow_mul-v : goal.overflow_mul-v
overflow_mul-v c =
    let k : c.loop-b.b-index ≤ 3 = omega (arith, length-take (c.args.at + c.args.n - c.args.at) (drop c.args.at c.args.s.now)) in
    omega (arith, fewer_bytes 3 c.loop-b.invariant.fits k)

pub loop-b-preserved : goal.loop-b-preserved
loop-b-preserved c =
    let s = c.args.s.now in
    let i = c.loop-b.b-index in
    let k : i < c.args.at + c.args.n - c.args.at = omega (arith, length-take (c.args.at + c.args.n - c.args.at) (drop c.args.at s)) in
    let e = get_d_part s c.args.at (c.args.at + c.args.n - c.args.at) i 0 k in
    let b : c.from.result < 256 = omega (arith, e, c.from.ensures, c.type_inv.s (c.args.at + i)) in
    record {
      fits = byte-on c.loop-b.invariant.fits b (omega arith);
      is = load_more _ i _ _ c.loop-b-test.true c.from.ensures c.loop-b.invariant.is;
    }

pub overflow_cast-result : goal.overflow_cast-result
overflow_cast-result c =
    let k : c.loop-b.b-index ≤ 4 = omega (arith, length-take (c.args.at + c.args.n - c.args.at) (drop c.args.at c.args.s.now)) in
    omega (arith, fewer_bytes 4 c.loop-b.invariant.fits k)
