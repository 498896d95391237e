-- `meanings` passes over the tape. Assumes nothing.
use Rattle.meanings.specs.Along.{mean_event, beginning}
use Rattle.tape.specs.Pass.{pass}
use Rattle.meanings.specs.Flat.{view_of, changed}
use Rattle.ledger.specs.Book.{Wide, thin_of}
use Rattle.meanings.proofs.Along.{going, going_on, going_end, room-for-one}
use Rattle.tables.specs.Packed.{based_in}
use mathlib.Core.Path.{refl, ap, ◌∙◌}
use native.Mathlib.Omega.{arith}
use Rattle.meanings.proofs.meanings.Goals as goal

pub loop-e-init : goal.loop-e-init
unfolding based_in
loop-e-init c = (
  going _ _ _ _ _ _ _ _ refl refl c.requires,
  record { same-wide = refl; same-thin = refl; same-owners = refl; same-outer = refl },
)

pub within_after-s-requires : goal.within_after-s-requires
within_after-s-requires c =
    (let g = c.loop-e.invariant.0 in let (a, b) = room-for-one _ _ _ g in (a, (b, omega (arith, g.few, g.room.small, c.loop-e-test.true))))

pub declared_after-bases-requires : goal.declared_after-bases-requires
declared_after-bases-requires c =
    (let g = c.loop-e.invariant.0 in let r = g.room in let h = c.loop-e-test.true in (omega (arith, c.token-t.ensures.1), omega (arith, g.few, r.small, h)))

pub loop-e-preserved : goal.loop-e-preserved
loop-e-preserved c = (
  going_on _ _ _ c.loop-e.invariant.0 _ _ _ c.loop-e-test.true c.op-op.ensures.0 c.token-t.ensures.0
      c.within_after-s.ensures c.form_after-form.ensures c.target_after-target.ensures c.first_after-first.ensures
      c.declared_after-bases.ensures.0 c.declared_after-bases.ensures.1 c.written_after.ensures
      c.within_after-s.auto.owners c.within_after-s.auto.outer,
  (let s = c.loop-e.invariant.1 in record {
    same-wide = c.declared_after-bases.auto.wide ∙ s.same-wide;
    same-thin = c.written_after.auto.thin ∙ (c.declared_after-bases.auto.thin ∙ s.same-thin);
    same-owners = c.within_after-s.auto.owners ∙ s.same-owners;
    same-outer = c.within_after-s.auto.outer ∙ s.same-outer;
  }),
)

pub shape_of-wide : goal.shape_of-wide
shape_of-wide c =
    c.loop-e.invariant.1.same-wide ∙ c.name_standard.auto.wide

pub shape_of-thin : goal.shape_of-thin
shape_of-thin c =
    c.loop-e.invariant.1.same-thin

pub shape_of-owners : goal.shape_of-owners
shape_of-owners c =
    c.loop-e.invariant.1.same-owners

pub shape_of-outer : goal.shape_of-outer
shape_of-outer c =
    c.loop-e.invariant.1.same-outer

pub returns : goal.returns
returns c =
    going_end _ _ _ c.loop-e.invariant.0 c.loop-e-test.false
    ∙ ap (λ (w : Wide). changed (λ s. (pass (mean_event c.args.kinds.now w.values
    (thin_of c.args.thin.now).found) (beginning s)
    c.args.tape.now).meant)
    (view_of w (thin_of c.args.thin.now) 0))
    c.name_standard.ensures
