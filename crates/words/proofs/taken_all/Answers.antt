-- `taken_all` takes word by word. Assumes nothing.
use Rattle.std.proofs.lemmas.Result.{err_from_is_err_and}
use Rattle.words.proofs.Going.{word_on, word_wrong, words-end}
use Rattle.words.proofs.taken_all.Goals as goal

pub returns-in_err-said : goal.returns-in_err-said
returns-in_err-said c =
    let p = err_from_is_err_and c.from_residual.result c.from_residual.ensures.1 in
    rw (p.1, p.2) (word_wrong _ _ _ _ c.loop-n.invariant c.loop-n-test.true c.part.ensures c.taken.ensures c.in_err-said.was)

pub loop-n-init : goal.loop-n-init
loop-n-init c = rw c.start-said.ensures

pub loop-n-preserved : goal.loop-n-preserved
loop-n-preserved c =
    word_on _ _ _ _ c.loop-n.invariant c.loop-n-test.true c.part.ensures c.taken.ensures c.in_ok-said.was

pub returns : goal.returns
returns c = words-end _ _ _ _ c.loop-n.invariant c.loop-n-test.false
