-- `translate_tape` finds, settles, and makes where no rule is broken: groups 6 to 16 of a program on the tape. Assumes nothing.
use Rattle.translate.proofs.Groups.{rule-broken, none-broken}
use Rattle.settled.proofs.Rooms.{rows_are}
use Rattle.settled.specs.Texts.{all_tokens}
use Rattle.ledger.proofs.Columns.{thin-length}
use lib.ListN.{replicate}
use mathlib.Core.Path.{ap, ◌∙◌}
use Prim.Native.Nat.{ℕ, ◌/◌}
use native.Mathlib.Omega.{arith}
use Rattle.translate.proofs.translate_tape.Goals as goal

pub bind-others-requires : goal.bind-others-requires
bind-others-requires c =
    let l = c.requires.4 in (
      c.requires.2,
      omega (arith, c.requires.1, l.thin-long),
      omega (arith, l.few, l.thin-long),
      omega (
        arith,
        l.wide-long,
        l.thin-long,
      ),
    )

pub settle-s-requires : goal.settle-s-requires
settle-s-requires c =
    let l = c.requires.4 in (
      c.requires.3,
      omega (arith, c.requires.1, l.few),
      omega (arith, c.requires.1, l.wide-long),
      omega (
        arith,
        c.requires.1,
        l.thin-long,
      ),
    )

pub place_of-requires : goal.place_of-requires
place_of-requires c =
    c.requires.0

pub shape_of-wide-in-Some : goal.shape_of-wide-in-Some
shape_of-wide-in-Some c =
    c.settle-s.auto.wide

pub shape_of-thin-in-Some : goal.shape_of-thin-in-Some
shape_of-thin-in-Some c =
    c.settle-s.auto.thin ∙ c.bind-others.auto.thin

pub returns-in-Some : goal.returns-in-Some
returns-in-Some c =
    λ x t ek bs. let ts = all_tokens c.args.src.now in let b = c.bind-others.ensures.1 ts x t bs.no_found bs.no-goes in let many = rows_are ts _
    _ _ ek c.requires.4 in let rows = ap (λ (n : ℕ). replicate {A = ℕ} n 0) many.1 in let s = c.settle-s.ensures.2 ts x t ek b.found-is bs.no-means (c.bind-others.ensures.0.opens-are ∙ rows) (c.bind-others.ensures.0.written-are ∙ rows) many.0 in rule-broken ts x _ _ _ _ _ _ _ t b
    c.settle-s.ensures.1 s _ _ _ _ c.in-Some.is c.number.ensures c.place_of.ensures

pub make-requires : goal.make-requires
make-requires c =
    let e = c.settle-s.ensures.0 in (
      omega (arith, c.requires.1, c.requires.4.few),
      omega (arith, e.cells_is),
      omega (arith, e.two_is),
      omega
          (arith, e.three-is),
    )

pub shape_of-wide-in-None : goal.shape_of-wide-in-None
shape_of-wide-in-None c =
    c.settle-s.auto.wide

pub shape_of-thin-in-None : goal.shape_of-thin-in-None
shape_of-thin-in-None c =
    c.make.auto.thin ∙ (c.clear_written.auto.thin ∙ (c.settle-s.auto.thin ∙ c.bind-others.auto.thin))

pub shape_of-out : goal.shape_of-out
shape_of-out c =
    c.make.auto.out

pub returns-in-None : goal.returns-in-None
returns-in-None c =
    λ x t ek bs. let ts = all_tokens c.args.src.now in let b = c.bind-others.ensures.1 ts x t bs.no_found bs.no-goes in let many = rows_are ts _
    _ _ ek c.requires.4 in let rows = ap (λ (n : ℕ). replicate {A = ℕ} n 0) many.1 in let s = c.settle-s.ensures.2 ts x t ek b.found-is bs.no-means (c.bind-others.ensures.0.opens-are ∙ rows) (c.bind-others.ensures.0.written-are ∙ rows) many.0 in let long = thin-length 3 _ ∙ (ap (λ (n
    : ℕ). n / 4) (c.settle-s.auto.thin ∙ c.bind-others.auto.thin) ∙ many.1) in none-broken ts x _ _ _ _ _ _ _ t b c.settle-s.ensures.1 s c.args.kinds.now c.args.out.now _ _ _ ek c.clear_written.ensures long c.in-None.is (c.make.ensures _ c.settle-s.ensures.0)
