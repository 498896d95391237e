-- By the cases of the instruction. Assumes nothing.
use mathlib.Core.Path.{refl}
use native.Mathlib.Omega.{arith}
use lib.ListN.{take}
use Rattle.code.proofs.Coding.{lay-two, lay-four, lay-literal}
use Rattle.code.proofs.lay_code.Goals as goal

pub returns-in-Two : goal.returns-in-Two
returns-in-Two c =
    let a = c.args in (
      λ h.
          lay-two a.start a.p a.image.now (take a.n a.literals.now) a.c _ _ _ c.in-Two.is
          c.lay_two.ensures,
      λ e. refl,
      omega arith,
    )

pub returns-in-Four : goal.returns-in-Four
returns-in-Four c =
    let a = c.args in (
      λ h.
          lay-four a.start a.p a.image.now (take a.n a.literals.now) a.c _ _ _ _ _ c.in-Four.is
          c.lay_four.ensures,
      λ e. refl,
      omega arith,
    )

pub returns-in-Literal : goal.returns-in-Literal
returns-in-Literal c =
    let a = c.args in
    let e = c.enter_in_room.ensures in
    let q = c.lay_four-in-Literal.ensures in (
      λ h.
          lay-literal a.start a.p a.image.now (take a.n a.literals.now) a.c _ _ _ _
          c.find-place.result
          c.in-Literal.is
          (e.0 h).0 (e.0 h).1 q,
      e.1,
      e.2,
    )
