-- `read` counts the segments. Assumes nothing.
use Rattle.std.proofs.Common.{rules, arith, ◌≡◌}
use Rattle.base.proofs.Tests.{told}
use Rattle.objtext.proofs.Places.{after-program-place}
use Rattle.objtext.proofs.Segments.{no_program, no-data, first-data, at_last_lem, not_last, no_more, one_more}
use Rattle.objtext.proofs.read.Goals as goal

pub returns-then-not-is_program : goal.returns-then-not-is_program
returns-then-not-is_program c =
    no_program c.args.t.now (told c.is_program.ensures.0 c.if-not-is_program.true)

pub after_program-at-requires : goal.after_program-at-requires
after_program-at-requires c =
    c.is_program.ensures.1 c.if-not-is_program.false

pub returns-then-not-is_data : goal.returns-then-not-is_data
returns-then-not-is_data c =
    no-data c.args.t.now c.after_program-at.result
    (told c.is_program.ensures.0 c.if-not-is_program.false)
    (rw c.after_program-at.ensures.0 (after-program-place c.args.t.now))
    (told c.is_data.ensures.0 c.if-not-is_data.true)

pub after_data-at-requires : goal.after_data-at-requires
after_data-at-requires c =
    (search rules, c.is_data.ensures.1 c.if-not-is_data.false)

pub loop-k-init : goal.loop-k-init
loop-k-init c = (
  search rules,
  rw c.after_data-at.ensures.0 (first-data c.args.t.now c.after_program-at.result
      (told c.is_program.ensures.0 c.if-not-is_program.false)
      (rw c.after_program-at.ensures.0 (after-program-place c.args.t.now))
      (told c.is_data.ensures.0 c.if-not-is_data.false)),
)

pub returns-then-is_last : goal.returns-then-is_last
returns-then-is_last c =
    at_last_lem c.args.t.now
    c.loop-k.k c.loop-k.at (search rules) c.loop-k.invariant.1
    (told c.is_last.ensures c.if-is_last.true)

pub returns-then-not-is_data-2 : goal.returns-then-not-is_data-2
returns-then-not-is_data-2 c =
    no_more c.args.t.now
    c.loop-k.k c.loop-k.at (search rules)
    c.loop-k.invariant.1 c.loop-k-test.true
    (told c.is_last.ensures c.if-is_last.false) (told c.is_data-in-loop-k.ensures.0 c.if-not-is_data-2.true)

pub after_data-at-requires-in-loop-k : goal.after_data-at-requires-in-loop-k
after_data-at-requires-in-loop-k c =
    (search rules, c.is_data-in-loop-k.ensures.1 c.if-not-is_data-2.false)

pub loop-k-preserved : goal.loop-k-preserved
loop-k-preserved c = (
  search rules,
  rw c.after_data-at-in-loop-k.ensures.0 (one_more c.args.t.now c.loop-k.k c.loop-k.at (search rules) c.loop-k.invariant.1
      c.loop-k-test.true (told c.is_last.ensures c.if-is_last.false)
      (told c.is_data-in-loop-k.ensures.0 c.if-not-is_data-2.false)),
)

pub returns-then-is_last-2 : goal.returns-then-is_last-2
returns-then-is_last-2 c =
    let e : c.loop-k.k ≡ 4 = omega arith in
    rw e at (at_last_lem c.args.t.now
    c.loop-k.k c.loop-k.at (search rules) c.loop-k.invariant.1
    (told c.is_last-2.ensures c.if-is_last-2.true))

pub returns-else-is_last-2 : goal.returns-else-is_last-2
returns-else-is_last-2 c =
    not_last c.args.t.now
    c.loop-k.k c.loop-k.at (search rules) c.loop-k.invariant.1
    c.loop-k-test.false (told c.is_last-2.ensures c.if-is_last-2.false)
