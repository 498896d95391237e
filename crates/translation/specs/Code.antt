-- Document 01, "Code": the instructions of a text in order, with the addresses of branches. Labels and procedures are in force by scope.
use Rattle.std.specs.Prelude.{List, [], ◌∷◌, ◌++◌, ℕ, ◌+◌, ◌*◌, eqb}
use Rattle.base.specs.Choose.{whether◌then◌else◌}
use Rattle.token.specs.Kinds as K
use Rattle.translation.specs.Instructions.{Instruction, rr, rx, shift, branch, link, indexed, stop, entry, literal, sizes, opcode, load_row, add_row, compare_row, shift_code, test_op, return_op, always}
use Rattle.translation.specs.Core.{Core, skip, run, seq, mark, scope, jump, call, procedure, base, when, either, loop, count, select, Arms, last, arm}

-- how many statements a CASE chooses from
abbrev pub arm_count : Arms → ℕ
arm_count last = 0
arm_count (arm c xs) = arm_count xs + 1

-- of a CASE, before its first statement: six instructions, of which one has two bytes, and a branch for each of n statements
abbrev pub head_size : ℕ → ℕ
head_size n = 22 + 4 * n

-- how many bytes of code a text has
unfoldable mutual
  pub size_of : Core → ℕ
  size_of skip = 0
  size_of (run is) = sizes is
  size_of (seq a b) = size_of a + size_of b
  size_of (mark l c) = size_of c
  size_of (scope c) = size_of c
  size_of (jump l) = 4
  size_of (call n r) = 4
  size_of (procedure n r a b) = 4 + (size_of a + (2 + size_of b))
  size_of (base r k c) = 4 + size_of c
  size_of (when is m c) = sizes is + (4 + size_of c)
  size_of (either is m a b) = sizes is + (4 + (size_of a + (4 + size_of b)))
  size_of (loop is m c) = sizes is + (4 + (size_of c + 4))
  size_of (count is cs m r v c) = sizes is + (sizes cs + (4 + (size_of c + 8)))
  size_of (select r xs) = head_size (arm_count xs) + arms_size xs

  -- each statement has a branch behind it
  pub arms_size : Arms → ℕ
  arms_size last = 0
  arms_size (arm c xs) = size_of c + (4 + arms_size xs)

-- where a label or a procedure's body stands
pub record Mark : Type 0 where
  pub name : ℕ
  pub at : ℕ

-- the labels of a block whose statements start at p, not those of blocks inside
unfoldable pub own : Core → ℕ → List Mark
own skip p = []
own (run is) p = []
own (seq a b) p = own b (p + size_of a)
own (mark l c) p = record { name = l; at = p } ∷ own c p
own (scope c) p = []
own (jump l) p = []
own (call n r) p = []
own (procedure n r a b) p = []
own (base r k c) p = []
own (when is m c) p = []
own (either is m a b) p = []
own (loop is m c) p = []
own (count is cs m r v c) p = []
own (select r xs) p = []

-- where the label or procedure of this name stands; the innermost come first
unfoldable pub mark_at : List Mark → ℕ → ℕ
mark_at [] n = 0
mark_at (m ∷ ms) n = whether eqb m.name n then m.at else mark_at ms n

-- ── document 02, 3/13: a CASE ──

-- "compare with the count as a literal, branch mask 2 to the end; LTR, branch mask 12 to the end; SHLL by 2; `47 Fr` indexed by r at four bytes before the branch table": of n statements, from
-- p on, up to `end`
abbrev pub case_head : (r n p end : ℕ) → List Instruction
case_head r n p end =
    rx (opcode compare_row 1) r (literal n) ∷ branch 2 end ∷ rr test_op r r ∷ branch 12 end ∷ shift (shift_code K.SHLL) r 0 2 ∷ indexed r (p + 18) ∷ []

-- "the table, one always-branch each": to statements of which the first starts at p
unfoldable pub table : Arms → ℕ → List Instruction
table last p = []
table (arm c xs) p = branch always p ∷ table xs (p + (size_of c + 4))

-- the instructions of a text that starts at p, with the labels ls and the procedures ps in force
unfoldable mutual
  pub code : List Mark → List Mark → Core → ℕ → List Instruction
  code ls ps skip p = []
  code ls ps (run is) p = is
  code ls ps (seq a b) p = code ls ps a p ++ code ls ps b (p + size_of a)
  code ls ps (mark l c) p = code ls ps c p
  code ls ps (scope c) p = code (own c p ++ ls) ps c p
  -- "GOTO is an always-branch."
  code ls ps (jump l) p = branch always (mark_at ls l) ∷ []
  -- "Call: `45 r0` to the body."
  code ls ps (call n r) p = link r (mark_at ps n) ∷ []
  -- "Procedure: branch around, body, `07 Fr`."; "A procedure's name is known in its own body"
  code ls ps (procedure n r a b) p =
      let known : List Mark = record { name = n; at = p + 4 } ∷ ps in
      branch always (p + (4 + (size_of a + 2))) ∷ (code [] known a (p + 4) ++ (rr return_op always r ∷ code ls known b (p + (4 + (size_of a + 2)))))
  -- "Base declaration for segment k: `58 r0 E0`, 4k."
  code ls ps (base r k c) p = rx (opcode load_row 1) r (entry k) ∷ code ls ps c (p + 4)
  -- "IF and WHILE branch on false, past the true part (and its always-branch) or past the loop."
  code ls ps (when is m c) p = is ++ (branch m (p + (sizes is + (4 + size_of c))) ∷ code ls ps c (p + (sizes is + 4)))
  -- "With ELSE, the true part is followed by an always-branch past the other statement"
  code ls ps (either is m a b) p =
      is ++ (branch m (p + (sizes is + (4 + (size_of a + 4))))
      ∷ (code ls ps a (p + (sizes is + 4)) ++ (branch always (p + (sizes is + (4 + (size_of a + (4 + size_of b)))))
      ∷ code ls ps b (p + (sizes is + (4 + (size_of a + 4)))))))
  -- "a WHILE body by one to the first instruction of the condition"
  code ls ps (loop is m c) p = is ++ (branch m (p + (sizes is + (4 + (size_of c + 4)))) ∷ (code ls ps c (p + (sizes is + 4)) ++ (branch always p ∷ [])))
  -- "FOR: assignment; compare with limit; exit branch, mask 2, or 4 if the step is negative; statement; 5A of the step; branch to the compare."
  code ls ps (count is cs m r v c) p =
      is ++ (cs ++ (branch m (p + (sizes is + (sizes cs + (4 + (size_of c + 8)))))
      ∷ (code ls ps c (p + (sizes is + (sizes cs + 4))) ++ (rx (opcode add_row 1) r (literal v) ∷ branch always (p + sizes is) ∷ []))))
  -- "the table, one always-branch each; the statements, each followed by an always-branch to the end"
  code ls ps (select r xs) p =
      case_head r (arm_count xs) p (p + (head_size (arm_count xs) + arms_size xs)) ++ (table xs (p + head_size (arm_count xs))
      ++ code_arms ls ps xs (p + head_size (arm_count xs)) (p + (head_size (arm_count xs) + arms_size xs)))

  pub code_arms : List Mark → List Mark → Arms → (p end : ℕ) → List Instruction
  code_arms ls ps last p end = []
  code_arms ls ps (arm c xs) p end = code ls ps c p ++ (branch always end ∷ code_arms ls ps xs (p + (size_of c + 4)) end)

-- "The last instruction is `0A 00`."
unfoldable pub instructions : Core → List Instruction
instructions c = code [] [] c 0 ++ (stop ∷ [])
