-- Where each instruction of a text stands and what is in force there: the data bases, the protected registers, the innermost procedure; and what is known there.
-- The recursion is that of `code`.
use Rattle.std.specs.Prelude.{◌≡◌, ◌⊎◌, List, [], ◌∷◌, ◌++◌, true, ℕ, zero, suc, ◌+◌, ◌<◌, get_or}
use Rattle.std.proofs.Math.Option.{Option, none, some}
use Rattle.static_rules.specs.Registers.{Registers, no_registers, has}
use Rattle.static_rules.specs.Meaning.{Based}
use Rattle.static_rules.specs.Meanings.{data_base}
use Rattle.static_rules.specs.Rules.{protected}
use Rattle.translation.specs.Instructions.{Instruction, rr, rx, branch, link, stop, entry, literal, size, sizes, opcode, load_row, add_row, always}
use Rattle.translation.specs.Core.{Core, skip, run, seq, mark, scope, jump, call, procedure, base, when, either, loop, count, select, Arms, last, arm}
use Rattle.translation.specs.Code.{Mark, own, mark_at, arm_count, head_size, size_of, arms_size, case_head, table}

-- ── points ──

-- a procedure in whose body a point is: the token of its name, its return register, what its body's text writes, the segment of its code
pub record Within : Type 0 where
  pub name : ℕ
  pub return : ℕ
  pub written : Registers
  pub segment : ℕ

-- "A call writes the procedure's return register and all that its body's text writes"
abbrev pub Writes : Within → ℕ → Type 0
Writes v x = (x ≡ v.return) ⊎ ((x < 16) × (has v.written x ≡ true))

-- the data bases in force, the protected registers, both innermost first, and the innermost procedure
pub record Point : Type 0 where
  pub bases : List Based
  pub kept : List ℕ
  pub within : Option Within

abbrev pub start : Point
start = record { bases = data_base ∷ []; kept = protected; within = none }

-- after a base declaration
abbrev pub with_base : Point → ℕ → ℕ → Point
with_base p r k = record { bases = record { register = r; segment = k } ∷ p.bases; kept = r ∷ p.kept; within = p.within }

-- in the body of a procedure
abbrev pub in_body : Point → Within → Point
in_body p v = record { bases = p.bases; kept = v.return ∷ p.kept; within = some v }

-- ── a CASE ──

-- its register, the statements from which it chooses, and where it begins
pub record Case : Type 0 where
  pub register : ℕ
  pub arms : Arms
  pub at : ℕ

-- how many statements it has
abbrev pub choices : Case → ℕ
choices k = arm_count k.arms

-- where its first statement begins, and where it ends
abbrev pub first_of : Case → ℕ
first_of k = k.at + head_size (choices k)

abbrev pub end_of : Case → ℕ
end_of k = k.at + (head_size (choices k) + arms_size k.arms)

-- where the statement with a number begins, if the first begins at p: "Numbering starts at 1."
abbrev pub statement_at : Arms → (number p : ℕ) → ℕ
statement_at last n p = p
statement_at (arm c xs) zero p = p
statement_at (arm c xs) (suc zero) p = p
statement_at (arm c xs) (suc (suc n)) p = statement_at xs (suc n) (p + (size_of c + 4))

-- what is known where an instruction is at the counter: of the register of a CASE, at the instructions of its head behind the first; at all others nothing
pub data Knows : Type 0 where
  nothing : Knows
  -- the condition code is that of the register compared with the count
  compared : Case → Knows
  -- the register is not above the count
  at_most : Case → Knows
  -- and the condition code is that of the register
  tested : Case → Knows
  -- the register holds the number of a statement
  between : Case → Knows
  -- it holds four times the number of a statement
  scaled : Case → Knows

-- ── placed instructions ──

-- an instruction, the offset at which it stands in a segment, its point and what is known. While it is at the counter, register 15 holds the origin of that segment.
pub record Placed : Type 0 where
  pub segment : ℕ
  pub at : ℕ
  pub instruction : Instruction
  pub point : Point
  pub knows : Knows

-- "Segment 0 is the program"
abbrev pub program_segment : ℕ
program_segment = 0

abbrev pub here-knowing : ℕ → Instruction → Point → Knows → Placed
here-knowing p i q k = record { segment = program_segment; at = p; instruction = i; point = q; knows = k }

abbrev pub here : ℕ → Instruction → Point → Placed
here p i q = here-knowing p i q nothing

-- instructions one after the other, from p on, with what is known at the first of them
abbrev pub knowing : List Instruction → List Knows → ℕ → Point → List Placed
knowing [] ks p q = []
knowing (i ∷ is) [] p q = here p i q ∷ knowing is [] (p + size i) q
knowing (i ∷ is) (k ∷ ks) p q = here-knowing p i q k ∷ knowing is ks (p + size i) q

abbrev pub line : List Instruction → ℕ → Point → List Placed
line is p q = knowing is [] p q

-- the head of a CASE: what each of its instructions does is known at the next
abbrev pub head_knows : Case → List Knows
head_knows k = nothing ∷ compared k ∷ at_most k ∷ tested k ∷ between k ∷ scaled k ∷ []

abbrev pub head : Case → Point → List Placed
head k q = knowing (case_head k.register (choices k) k.at (end_of k)) (head_knows k) k.at q

-- written: by the token of a procedure's name, the registers that its body's text writes
module _ (written : List Registers) where
  abbrev pub procedure_of : ℕ → ℕ → Within
  procedure_of n r = record { name = n; return = r; written = get_or written n no_registers; segment = program_segment }

  unfoldable mutual
    pub placed : List Mark → List Mark → Core → ℕ → Point → List Placed
    placed ls ps skip p q = []
    placed ls ps (run is) p q = line is p q
    placed ls ps (seq a b) p q = placed ls ps a p q ++ placed ls ps b (p + size_of a) q
    placed ls ps (mark l c) p q = placed ls ps c p q
    placed ls ps (scope c) p q = placed (own c p ++ ls) ps c p q
    placed ls ps (jump l) p q = here p (branch always (mark_at ls l)) q ∷ []
    placed ls ps (call n r) p q = here p (link r (mark_at ps n)) q ∷ []
    placed ls ps (procedure n r a b) p q =
        let known : List Mark = record { name = n; at = p + 4 } ∷ ps in
        let inner = in_body q (procedure_of n r) in
        here p (branch always (p + (4 + (size_of a + 2)))) q
        ∷ (placed [] known a (p + 4) inner ++ (here (p + (4 + size_of a)) (rr 0x07 15 r) inner ∷ placed ls known b (p + (4 + (size_of a + 2))) q))
    placed ls ps (base r k c) p q = here p (rx (opcode load_row 1) r (entry k)) q ∷ placed ls ps c (p + 4) (with_base q r k)
    placed ls ps (when is m c) p q =
        line is p q ++ (here (p + sizes is) (branch m (p + (sizes is + (4 + size_of c)))) q ∷ placed ls ps c (p + (sizes is + 4)) q)
    placed ls ps (either is m a b) p q =
        line is p q ++ (here (p + sizes is) (branch m (p + (sizes is + (4 + (size_of a + 4))))) q
        ∷ (placed ls ps a (p + (sizes is + 4)) q
        ++ (here (p + (sizes is + (4 + size_of a))) (branch always (p + (sizes is + (4 + (size_of a + (4 + size_of b)))))) q
        ∷ placed ls ps b (p + (sizes is + (4 + (size_of a + 4)))) q)))
    placed ls ps (loop is m c) p q =
        line is p q ++ (here (p + sizes is) (branch m (p + (sizes is + (4 + (size_of c + 4))))) q
        ∷ (placed ls ps c (p + (sizes is + 4)) q ++ (here (p + (sizes is + (4 + size_of c))) (branch always p) q ∷ [])))
    placed ls ps (count is cs m r v c) p q =
        line is p q ++ (line cs (p + sizes is) q
        ++ (here (p + (sizes is + sizes cs)) (branch m (p + (sizes is + (sizes cs + (4 + (size_of c + 8)))))) q
        ∷ (placed ls ps c (p + (sizes is + (sizes cs + 4))) q
        ++ (here (p + (sizes is + (sizes cs + (4 + size_of c)))) (rx (opcode add_row 1) r (literal v)) q
        ∷ here (p + (sizes is + (sizes cs + (8 + size_of c)))) (branch always (p + sizes is)) q ∷ []))))
    placed ls ps (select r xs) p q =
        let k : Case = record { register = r; arms = xs; at = p } in
        head k q ++ (line (table xs (first_of k)) (p + head_size 0) q ++ placed_arms ls ps xs (first_of k) (end_of k) q)

    pub placed_arms : List Mark → List Mark → Arms → (p end : ℕ) → Point → List Placed
    placed_arms ls ps last p end q = []
    placed_arms ls ps (arm c xs) p end q = placed ls ps c p q ++ (here (p + size_of c) (branch always end) q ∷ placed_arms ls ps xs (p + (size_of c + 4)) end q)

  -- the whole program
  unfoldable pub program : Core → List Placed
  program c = placed [] [] c 0 start ++ (here (size_of c) stop start ∷ [])
