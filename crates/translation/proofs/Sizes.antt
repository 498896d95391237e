-- The bytes of instructions are as many as their sizes, and a text's code is as long as `size_of` says.
use mathlib.Core.Path.{◌≡◌, refl, ap, ◌∙◌}
use mathlib.Core.List.{List, [], ◌∷◌, ◌++◌}
use Prim.Native.Nat.{ℕ, ◌+◌, ◌*◌}
use native.Mathlib.Omega.{arith}
use lib.ListN.{length, length-append}
use Rattle.translation.specs.Instructions.{literal, Instruction, rr, rx, address, immediate, shift, branch, link, indexed, stop, size, sizes, opcode, add_row, always}
use Rattle.translation.specs.Core.{Core, skip, run, seq, mark, scope, jump, call, procedure, base, when, either, loop, count, select, Arms, last, arm}
use Rattle.translation.specs.Code.{Mark, arm_count, head_size, size_of, arms_size, own, case_head, table, code, code_arms, instructions}
use Rattle.translation.specs.Layout.{Layout}
use Rattle.translation.specs.Bytes.{encode, encode_all}

pub length-encode : (l : Layout) (i : Instruction) → length (encode l i) ≡ size i
unfolding encode
length-encode l (rr op r s) = refl
length-encode l (rx op r a) = refl
length-encode l (address r a) = refl
length-encode l (immediate op v a) = refl
length-encode l (shift op r s n) = refl
length-encode l (branch m t) = refl
length-encode l (link r t) = refl
length-encode l (indexed r t) = refl
length-encode l stop = refl

pub length-encode_all : (l : Layout) (is : List Instruction) → length (encode_all l is) ≡ sizes is
unfolding encode_all
length-encode_all l [] = refl
length-encode_all l (i ∷ is) =
    let a = length-append (encode l i) (encode_all l is) in
    let b = length-encode l i in
    let c = length-encode_all l is in
    omega arith

pub sizes-append : (is js : List Instruction) → sizes (is ++ js) ≡ sizes is + sizes js
sizes-append [] js = omega arith
sizes-append (i ∷ is) js = let h = sizes-append is js in omega arith

-- an instruction between two pieces of code
sizes-mid : (is : List Instruction) (i : Instruction) (js : List Instruction) (m n : ℕ) → sizes is ≡ m → sizes js ≡ n → sizes (is ++ (i ∷ js)) ≡ m + (size i + n)
sizes-mid is i js m n h k = let e = sizes-append is (i ∷ js) in omega arith

sizes-table : (xs : Arms) (p : ℕ) → sizes (table xs p) ≡ 4 * arm_count xs
unfolding table
sizes-table last p = refl
sizes-table (arm c xs) p = let h = sizes-table xs (p + (size_of c + 4)) in omega arith

mutual
  unfolding code size_of

  pub sizes-code : (ls ps : List Mark) (c : Core) (p : ℕ) → sizes (code ls ps c p) ≡ size_of c
  sizes-code ls ps skip p = refl
  sizes-code ls ps (run is) p = refl
  sizes-code ls ps (seq a b) p =
      let h = sizes-append (code ls ps a p) (code ls ps b (p + size_of a)) in
      let x = sizes-code ls ps a p in
      let y = sizes-code ls ps b (p + size_of a) in
      omega arith
  sizes-code ls ps (mark l c) p = sizes-code ls ps c p
  sizes-code ls ps (scope c) p = sizes-code (own c p ++ ls) ps c p
  sizes-code ls ps (jump l) p = refl
  sizes-code ls ps (call n r) p = refl
  sizes-code ls ps (procedure n r a b) p =
      let known : List Mark = record { name = n; at = p + 4 } ∷ ps in
      ap (λ (k : ℕ). 4 + k)
      (sizes-mid (code [] known a (p + 4)) (rr 0x07 15 r) _ (size_of a) (size_of b) (sizes-code [] known a (p + 4)) (sizes-code ls known b (p + (4 + (size_of a + 2)))))
  sizes-code ls ps (base r k c) p = ap (λ (n : ℕ). 4 + n) (sizes-code ls ps c (p + 4))
  sizes-code ls ps (when is m c) p = sizes-mid is _ _ (sizes is) (size_of c) refl (sizes-code ls ps c (p + (sizes is + 4)))
  sizes-code ls ps (either is m a b) p =
      sizes-mid is _ _ (sizes is) (size_of a + (4 + size_of b)) refl
      (sizes-mid (code ls ps a (p + (sizes is + 4))) _ _ (size_of a) (size_of b) (sizes-code ls ps a (p + (sizes is + 4)))
      (sizes-code ls ps b (p + (sizes is + (4 + (size_of a + 4))))))
  sizes-code ls ps (loop is m c) p =
      sizes-mid is _ _ (sizes is) (size_of c + 4) refl (sizes-mid (code ls ps c (p + (sizes is + 4))) _ [] (size_of c) 0 (sizes-code ls ps c (p + (sizes is + 4))) refl)
  sizes-code ls ps (count is cs m r v c) p =
      let q = p + (sizes is + (sizes cs + 4)) in
      let after = rx (opcode add_row 1) r (literal v) ∷ branch always (p + sizes is) ∷ [] in
      let body = sizes-append (code ls ps c q) after in
      let x = sizes-code ls ps c q in
      let mid = sizes-mid cs (branch m (p + (sizes is + (sizes cs + (4 + (size_of c + 8)))))) (code ls ps c q ++ after) (sizes cs) (size_of c + 8) refl (omega arith) in
      sizes-append is _ ∙ ap (λ (k : ℕ). sizes is + k) mid
  sizes-code ls ps (select r xs) p =
      let q = p + head_size (arm_count xs) in
      let end = p + (head_size (arm_count xs) + arms_size xs) in
      let h = sizes-append (case_head r (arm_count xs) p end) (table xs q ++ code_arms ls ps xs q end) in
      let t = sizes-append (table xs q) (code_arms ls ps xs q end) in
      let x = sizes-table xs q in
      let y = sizes-arms ls ps xs q end in
      omega arith

  pub sizes-arms : (ls ps : List Mark) (xs : Arms) (p end : ℕ) → sizes (code_arms ls ps xs p end) ≡ arms_size xs
  sizes-arms ls ps last p end = refl
  sizes-arms ls ps (arm c xs) p end = sizes-mid (code ls ps c p) (branch always end) _ (size_of c) (arms_size xs) (sizes-code ls ps c p) (sizes-arms ls ps xs (p + (size_of c + 4)) end)

-- 14 is judged by the sizes, which are the bytes
pub sizes-instructions : (c : Core) → sizes (instructions c) ≡ size_of c + 2
unfolding instructions
sizes-instructions c = sizes-mid (code [] [] c 0) stop [] (size_of c) 0 (sizes-code [] [] c 0) refl
