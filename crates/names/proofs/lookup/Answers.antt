-- `lookup` finds the declaration that a key means. Assumes nothing.
use Rattle.names.proofs.Search.{hit, miss, out, find-in, find-end}
use native.Mathlib.Omega.{arith}
use mathlib.Core.Path.{refl, sym, ◌∙◌}
use Rattle.names.proofs.lookup.Goals as goal

pub search-init : goal.search-init
search-init c =
    (refl, refl)

pub loop-j-init : goal.loop-j-init
loop-j-init c =
    (c.search.invariant.0, c.search.invariant.1 ∙ find-in _ _ _ _ c.search.b _ _ c.search-test.true c.written-start.ensures.0)

pub loop-j-preserved : goal.loop-j-preserved
loop-j-preserved c = (
  c.loop-j.invariant.0,
  miss _ _ _ _ _ c.loop-j.j _ _ c.loop-j-test.true c.opens-d.ensures.0
      c.value.ensures c.if-value-wanted.false c.loop-j.invariant.1,
)

pub search-preserved : goal.search-preserved
search-preserved c =
    (c.loop-j.invariant.0, out _ _ _ _ _ c.loop-j.j c.loop-j-test.false c.loop-j.invariant.1)

pub returns-after-search : goal.returns-after-search
returns-after-search c =
    (c.search.invariant.0 ∙ sym (c.search.invariant.1 ∙ find-end _ _ _ _ c.search.b _ c.search-test.false), (let z = c.search.invariant.0 in omega arith))

pub returns-then-value-wanted : goal.returns-then-value-wanted
returns-then-value-wanted c = (
  sym (hit _ _ _ _ _ c.loop-j.j _ _ c.loop-j-test.true
      c.opens-d.ensures.0 c.value.ensures c.if-value-wanted.true c.loop-j.invariant.1),
  c.opens-d.ensures.1,
)
