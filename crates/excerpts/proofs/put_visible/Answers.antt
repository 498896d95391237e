-- `put_visible` puts each byte as it is shown. Assumes nothing.
use borrow.Author.Rules.{rules}
use Rattle.std.proofs.lemmas.List.{map_more}
use Rattle.excerpts.specs.Lines.{visible}
use Rattle.figures.proofs.Writing.{called, then}
use mathlib.Core.List.{[], ◌∷◌}
use mathlib.Core.Path.{ap, sym}
use Prim.Native.Nat.{ℕ}
use Rattle.excerpts.proofs.put_visible.Goals as goal

pub loop-b-preserved : goal.loop-b-preserved
loop-b-preserved c =
    called (sym (map_more visible c.args.line.now c.loop-b.b-index 0 (search rules)))
    (then c.loop-b.invariant (called (ap (λ (b : ℕ). b ∷ []) c.visible.ensures) c.put.ensures))
