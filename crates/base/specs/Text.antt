-- Texts as lists of bytes: `bytes` of a quoted text, `same_bytes` for two that are compared whole, `within` for a range of bytes.
use Rattle.std.specs.Prelude.{ℕ, Bool, true, false, ◌&&◌, List, [], ◌∷◌, eqb, leb}
use Prim.Native.String.{String, [] as nothing, ◌∷◌ as then}
use Prim.Native.Char.{code}

abbrev pub bytes : String → List ℕ
bytes nothing = []
bytes (then c s) = code c ∷ bytes s

unfoldable pub same_bytes : List ℕ → List ℕ → Bool
same_bytes [] [] = true
same_bytes [] (y ∷ ys) = false
same_bytes (x ∷ xs) [] = false
same_bytes (x ∷ xs) (y ∷ ys) = eqb x y && same_bytes xs ys

abbrev pub within : ℕ → ℕ → ℕ → Bool
within from to b = leb from b && leb b to
