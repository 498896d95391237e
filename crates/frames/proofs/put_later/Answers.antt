-- `put_later` lays no, one or two segments, by the number of base declarations. Assumes nothing.
use native.Mathlib.Omega.{arith}
use lib.ListN.{length}
use Rattle.frames.proofs.Objects.{none-length, none-laid, one-laid, two-laid, one-length, two-length, some-length}
use Rattle.frames.proofs.put_later.Goals as goal

pub returns-then-bases-eq0 : goal.returns-then-bases-eq0
returns-then-bases-eq0 c = (
  omega (
    arith,
    none-length c.args.bases (length c.args.second.now)
        (length c.args.third.now) c.if-bases-eq0.true,
  ),
  none-laid c.args.second.now c.args.third.now _
      c.args.at c.args.bases c.if-bases-eq0.true,
)

pub put_data-next-requires : goal.put_data-next-requires
put_data-next-requires c =
    omega (
      arith,
      some-length c.args.bases
          (length c.args.second.now) (length c.args.third.now)
          c.if-bases-eq0.false,
    )

pub returns-then-bases-eq1 : goal.returns-then-bases-eq1
returns-then-bases-eq1 c = (
  omega (arith, one-length c.args.bases (length c.args.second.now) (length c.args.third.now) c.if-bases-eq1.true),
  one-laid c.args.second.now c.args.third.now c.args.out.now _ c.args.at c.args.bases c.if-bases-eq1.true
      c.put_data-next.ensures.1,
)

pub put_data-requires : goal.put_data-requires
put_data-requires c =
    omega (
      arith,
      two-length c.args.bases
          (length c.args.second.now)
          (length c.args.third.now)
          c.if-bases-eq0.false c.if-bases-eq1.false,
    )

pub returns : goal.returns
returns c = (
  omega (
    arith,
    two-length c.args.bases (length c.args.second.now) (length c.args.third.now) c.if-bases-eq0.false
        c.if-bases-eq1.false,
  ),
  two-laid c.args.second.now c.args.third.now c.args.out.now _ _ c.args.at c.args.bases
      c.if-bases-eq0.false c.if-bases-eq1.false c.put_data-next.ensures.1
      (rw c.put_data-next.ensures.0 at c.put_data.ensures.1),
)
