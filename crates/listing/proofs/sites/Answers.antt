-- `sites` goes from the last token to the first. Assumes nothing.
use native.Mathlib.Omega.{arith}
use Rattle.listing.proofs.Siting.{sites-start, sites-turn}
use Rattle.listing.proofs.sites.Goals as goal

pub loop-t-init : goal.loop-t-init
loop-t-init c =
    sites-start c.args.wide.now c.args.key

pub loop-t-preserved : goal.loop-t-preserved
loop-t-preserved c =
    let h = c.loop-t-test.true in
    sites-turn c.args.wide.now c.args.key c.loop-t.t _ (omega arith) c.loop-t.auto.t c.loop-t.invariant c.sited-site.ensures
