-- A return register is pushed on the protected registers.
use Rattle.ledger.specs.Book.{wide_of}
use Rattle.judge.proofs.Moves as moves
use Rattle.judge.proofs.keep_return.Goals as goal

pub returns : goal.returns
returns c =
    let a = c.args in
    let w = wide_of a.wide.now in
    let put = c.put_offset.ensures in (
      (λ counts. moves.kept-return w.offsets counts a.d a.r c.requires.0
          (moves.offsets-put w _ a.d.kept a.r put)),
      moves.put-stays w _ a.d.kept a.r put,
    )
