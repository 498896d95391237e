-- The lines of the registers, one more at a time. Assumes nothing.
use Prim.Native.Nat.{ℕ, suc, ◌+◌, ◌<◌}
use mathlib.Core.Path.{◌≡◌, sym}
use mathlib.Core.List.{List, [], ◌∷◌, ◌++◌, append_assoc, append-nil}
use native.Mathlib.Omega.{arith}
use native.Mathlib.Numerals.{add-one}
use lib.ListN.{length, take, get_or}
use lib.Seq.{take-suc, length-take-le}
use Rattle.reports.specs.Reports.{register_text, registers_text}

registers-more : (k n : ℕ) (vs : List ℕ) (v : ℕ) → n ≡ k + length vs → registers_text k (vs ++ (v ∷ [])) ≡ registers_text k vs ++ register_text n v
unfolding registers_text
registers-more k n [] v e = let h : n ≡ k = omega (arith, e) in rw h (append-nil (register_text k v))
registers-more k n (x ∷ xs) v e =
    rw (registers-more (suc k) n xs v (omega (arith, e))) (sym (append_assoc (register_text k x) (registers_text (suc k) xs) (register_text n v)))

pub registers-on : (s : List ℕ) (i : ℕ) → i < length s → registers_text 0 (take i s) ++ register_text i (get_or s i 0) ≡ registers_text 0 (take (i + 1) s)
registers-on s i l =
    rw (add-one i, take-suc s i 0 l) (sym (registers-more 0 i (take i s) (get_or s i 0) (omega (arith, length-take-le i s (omega arith)))))
