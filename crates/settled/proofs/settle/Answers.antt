-- `settle` makes the tables, judges by them and places the cells: on the tape of a program as the definition does. Assumes nothing.
use Rattle.settled.proofs.Judging.{settled, stays}
use Rattle.ledger.proofs.Columns.{wide-length}
use Rattle.ledger.specs.Book.{wide_of, thin_of, on_wide, zeros}
use lib.ListN.{length, replicate}
use mathlib.Core.Path.{refl, ap, ◌∙◌}
use Prim.Native.Nat.{ℕ, ◌/◌}
use native.Mathlib.Omega.{arith}
use Rattle.settled.proofs.settle.Goals as goal

pub meanings-bases-requires : goal.meanings-bases-requires
meanings-bases-requires c =
    record { small = omega (arith, c.requires.1); nested = c.requires.0; deep = omega arith; wide = omega arith }

pub judge-ruled-requires : goal.judge-ruled-requires
judge-ruled-requires c =
    (omega (arith, c.requires.1), (omega (arith, c.requires.2, c.meanings-bases.auto.wide), c.requires.0))

pub shape_of-wide : goal.shape_of-wide
shape_of-wide c =
    c.layout-placed.auto.wide ∙ (c.clear_offsets.auto.wide ∙ (c.judge-ruled.auto.wide ∙ c.meanings-bases.auto.wide))

pub shape_of-thin : goal.shape_of-thin
shape_of-thin c =
    c.layout-placed.auto.thin ∙ c.meanings-bases.auto.thin

pub returns : goal.returns
returns c =
    let cleared = c.clear_offsets.ensures ∙ ap (on_wide 3 zeros) c.judge-ruled.ensures.1 in let same = c.judge-ruled.auto.wide ∙
    c.meanings-bases.auto.wide in (
      record {
        cells_is = c.end_of.ensures.0;
        two_is = c.end_of-2.ensures.0;
        three-is = c.end_of-3.ensures.0;
      },
      stays c.args.kinds.now c.args.tape.now (wide_of c.args.wide.now) (wide_of c.meanings-bases.new.wide)
          (wide_of c.clear_offsets.new.wide) (wide_of c.layout-placed.new.wide) (thin_of c.args.thin.now) (thin_of c.meanings-bases.new.thin) (thin_of c.layout-placed.new.thin) c.meanings-bases.result (length c.meanings-bases.new.thin
          / 4) (zeros (wide_of c.judge-ruled.new.wide).offsets) c.layout-placed.result c.meanings-bases.ensures cleared c.layout-placed.ensures,
      λ ts x t ek ef bm bo bw rows. settled ts x c.args.kinds.now c.args.tape.now (wide_of c.args.wide.now) (thin_of c.args.thin.now) t ek ef (wide_of c.meanings-bases.new.wide) (thin_of c.meanings-bases.new.thin) c.meanings-bases.result bm bo bw c.meanings-bases.ensures (wide_of c.clear_offsets.new.wide) (wide_of c.layout-placed.new.wide) (thin_of
          c.layout-placed.new.thin) (zeros (wide_of c.judge-ruled.new.wide).offsets) (length c.meanings-bases.new.thin / 4) c.args.others c.judge-ruled.result c.layout-placed.result _ (omega (arith, c.requires.3, c.meanings-bases.auto.thin)) c.judge-ruled.ensures.0 cleared (ap (λ (n : ℕ). replicate {A = ℕ} n 0) (wide-length 3 c.judge-ruled.new.wide ∙ (ap (λ (n : ℕ). n / 4) same ∙ rows)))
          c.layout-placed.ensures refl c.join.ensures,
    )
