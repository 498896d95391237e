-- Document 02, 2/13, over the bytes of a text: line is one more than the bytes 10 before the place, column one more than the bytes since the last of them.
-- Assumes nothing.
use Prim.Native.Nat.{ℕ, ◌+◌}
use mathlib.Core.Path.{◌≡◌}
use mathlib.Core.List.{List, [], ◌∷◌, ◌++◌}
use native.Mathlib.Omega.{arith}
use lib.Dec.{eqb}
use lib.ListN.{length, take}
use Rattle.base.specs.Walk.{fold}
use Rattle.base.proofs.Tests.{cases}
use Rattle.spots.specs.Spots.{next_line, line_from, spot_at, newlines, NoNewline}
use Rattle.spots.proofs.Going.{plain-column, since-last}

line-counted : (n : ℕ) (l : List ℕ) → line_from n l ≡ n + newlines l
unfolding fold newlines
line-counted n [] = omega arith
line-counted n (x ∷ l) = go (line-counted (n + 1) l) (line-counted n l)
  where
    go : line_from (n + 1) l ≡ n + 1 + newlines l → line_from n l ≡ n + newlines l → line_from (next_line n x) l ≡ n + newlines (x ∷ l)
    go h k = cases (eqb x 10) (λ e. rw (e, newlines) (omega arith)) (λ e. rw (e, newlines) (omega arith))

module _ (s : List ℕ) (p : ℕ) where
  pub line-is : (spot_at s p).line ≡ 1 + newlines (take p s)
  line-is = line-counted 1 (take p s)

  -- on the first line, and behind the last byte 10
  pub first-column-is : NoNewline (take p s) → (spot_at s p).column ≡ 1 + length (take p s)
  first-column-is h = plain-column 1 (take p s) h

  pub column-is : (front since : List ℕ) → take p s ≡ front ++ 10 ∷ since → NoNewline since → (spot_at s p).column ≡ 1 + length since
  column-is front since e h = rw e (since-last 1 front since h)
