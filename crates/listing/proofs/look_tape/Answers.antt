-- `look_tape` finds, settles, and looks where no rule is broken: groups 6 to 13 of a program on the tape. Assumes nothing.
use native.Mathlib.Omega.{arith}
use Prim.Native.Nat.{ℕ}
use mathlib.Core.Path.{ap, ◌∙◌}
use lib.ListN.{replicate}
use Rattle.settled.specs.Texts.{all_tokens}
use Rattle.settled.proofs.Rooms.{rows_are}
use Rattle.listing.proofs.Looking.{rule-broken, none-broken}
use Rattle.listing.proofs.look_tape.Goals as goal

pub bind-others-requires : goal.bind-others-requires
bind-others-requires c =
    let l = c.requires.4 in (c.requires.2, omega (arith, c.requires.1, l.thin-long), omega (arith, l.few, l.thin-long), omega (arith, l.wide-long, l.thin-long))

pub settle-s-requires : goal.settle-s-requires
settle-s-requires c =
    let l = c.requires.4 in (c.requires.3, omega (arith, c.requires.1, l.few), omega (arith, c.requires.1, l.wide-long), omega (arith, c.requires.1, l.thin-long))

pub shape_of-wide-in-Some : goal.shape_of-wide-in-Some
shape_of-wide-in-Some c =
    c.settle-s.auto.wide

pub shape_of-thin-in-Some : goal.shape_of-thin-in-Some
shape_of-thin-in-Some c =
    c.settle-s.auto.thin ∙ c.bind-others.auto.thin

pub returns-in-Some : goal.returns-in-Some
returns-in-Some c =
    λ x t ek bs. let ts = all_tokens c.args.src.now in let b = c.bind-others.ensures.1 ts x t bs.no_found bs.no-goes in
    let many = rows_are ts _ _ _ ek c.requires.4 in
    let rows = ap (λ (n : ℕ). replicate {A = ℕ} n 0) many.1 in
    let s = c.settle-s.ensures.2 ts x t ek b.found-is bs.no-means (c.bind-others.ensures.0.opens-are ∙ rows) (c.bind-others.ensures.0.written-are ∙ rows)
    many.0 in
    rule-broken _ c.args.key c.args.address ts x _ _ _ _ _ _ _ t b c.settle-s.ensures.1 s c.in-Some.is
    (c.nothing.ensures c.args.key c.args.address)

pub look_settled-requires : goal.look_settled-requires
look_settled-requires c =
    (c.requires.0, omega (arith, c.requires.1, c.requires.4.few))

pub shape_of-wide-in-None : goal.shape_of-wide-in-None
shape_of-wide-in-None c =
    c.settle-s.auto.wide

pub shape_of-thin-in-None : goal.shape_of-thin-in-None
shape_of-thin-in-None c =
    c.settle-s.auto.thin ∙ c.bind-others.auto.thin

pub returns-in-None : goal.returns-in-None
returns-in-None c =
    λ x t ek bs. let ts = all_tokens c.args.src.now in let b = c.bind-others.ensures.1 ts x t bs.no_found bs.no-goes in
    let many = rows_are ts _ _ _ ek c.requires.4 in
    let rows = ap (λ (n : ℕ). replicate {A = ℕ} n 0) many.1 in
    let s = c.settle-s.ensures.2 ts x t ek b.found-is bs.no-means (c.bind-others.ensures.0.opens-are ∙ rows) (c.bind-others.ensures.0.written-are ∙ rows)
    many.0 in
    none-broken _ c.args.key c.args.address ts x _ _ _ _ _ _ _ t b c.settle-s.ensures.1 s c.args.kinds.now ek c.in-None.is
    c.look_settled.ensures
