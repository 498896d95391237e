-- `stands` counts lines only behind more than blanks. Assumes nothing.
use Prim.Native.Nat.{◌+◌}
use mathlib.Core.Path.{◌≡◌, sym, ◌∙◌}
use native.Mathlib.Omega.{arith}
use lib.ListN.{length, take, length-take}
use Rattle.spots.specs.Spots.{column_from, NoNewline}
use Rattle.spots.proofs.Going.{plain-line, plain-column}
use Rattle.scanner.proofs.stands.Goals as goal

pub returns-then-at-blanks : goal.returns-then-at-blanks
returns-then-at-blanks c =
    let s = c.args.s.now in
    let at = c.args.at in
    let e : c.args.blanks ≡ at = sym c.if-at-blanks.true in
    let f : NoNewline (take at s) = (rw e at c.requires.1) in
    let h : length (take at s) ≡ at = omega (arith, length-take at s, c.requires.0) in
    let k : column_from 1 (take at s) ≡ at + 1 = plain-column 1 (take at s) f ∙ omega arith in
    rw (plain-line 1 (take at s) f, k)
