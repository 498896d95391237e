-- The placed instructions of a text are those of `code`, they stand one after the other, and the bytes of each stand where it does.
use mathlib.Core.Path.{◌≡◌, refl, sym, ap, subst, ◌∙◌}
use mathlib.Core.Logic.{inl, inr}
use mathlib.Core.List.{List, [], ◌∷◌, ◌++◌, map, map-append}
use Prim.Native.Nat.{ℕ, zero, suc, ◌+◌, ◌*◌, ◌≤◌, ◌<◌}
use native.Mathlib.Omega.{arith}
use lib.ListN.{length, get_or, take, get_or-append}
use lib.Seq.{get_or-append-add}
use Rattle.base.specs.Lists.{◌∈◌}
use Rattle.static_rules.specs.Registers.{Registers}
use Rattle.translation.specs.Instructions.{Instruction, rr, rx, branch, stop, entry, literal, size, sizes, opcode, load_row, add_row, always}
use Rattle.translation.specs.Core.{Core, skip, run, seq, mark, scope, jump, call, procedure, base, when, either, loop, count, select, Arms, last, arm}
use Rattle.translation.specs.Code.{Mark, arm_count, head_size, own, size_of, arms_size, case_head, table, code, code_arms, instructions}
use Rattle.translation.specs.Layout.{Layout}
use Rattle.translation.specs.Bytes.{encode, encode_all}
use Rattle.translation.proofs.Sizes.{length-encode}
use Rattle.join.specs.Points.{Point, start, with_base, in_body, procedure_of, Case, first_of, end_of, Knows, Placed, program_segment, here, knowing, line, head_knows, head, placed, placed_arms, program}

abbrev pub instructions_of : List Placed → List Instruction
instructions_of xs = map (λ (x : Placed). x.instruction) xs

-- ── one after the other, from p to e, in the program's segment ──

abbrev pub Laid : ℕ → ℕ → List Placed → Type 0
Laid p e [] = p ≡ e
Laid p e (x ∷ xs) = (x.segment ≡ program_segment) × (x.at ≡ p) × Laid (p + size x.instruction) e xs

laid-append : (p m e : ℕ) (s t : List Placed) → Laid p m s → Laid m e t → Laid p e (s ++ t)
laid-append p m e [] t a b = rw a b
laid-append p m e (x ∷ s) t a b = (a.0, a.1, laid-append (p + size x.instruction) m e s t a.2 b)

-- the same places, said otherwise
laid_same : (p q d e : ℕ) (s : List Placed) → q ≡ p → d ≡ e → Laid q d s → Laid p e s
laid_same p q d e s h k l = rw (← h, ← k) l

laid-knowing : (is : List Instruction) (ks : List Knows) (p : ℕ) (q : Point) → Laid p (p + sizes is) (knowing is ks p q)
laid-knowing [] ks p q = omega arith
laid-knowing (i ∷ is) [] p q = (refl, refl, laid_same _ _ _ _ (knowing is [] (p + size i) q) refl (omega arith) (laid-knowing is [] (p + size i) q))
laid-knowing (i ∷ is) (k ∷ ks) p q = (refl, refl, laid_same _ _ _ _ (knowing is ks (p + size i) q) refl (omega arith) (laid-knowing is ks (p + size i) q))

laid-line : (is : List Instruction) (p : ℕ) (q : Point) → Laid p (p + sizes is) (line is p q)
laid-line is p q = laid-knowing is [] p q

knowing-is : (is : List Instruction) (ks : List Knows) (p : ℕ) (q : Point) → instructions_of (knowing is ks p q) ≡ is
knowing-is [] ks p q = refl
knowing-is (i ∷ is) [] p q = ap (λ (l : List Instruction). i ∷ l) (knowing-is is [] (p + size i) q)
knowing-is (i ∷ is) (k ∷ ks) p q = ap (λ (l : List Instruction). i ∷ l) (knowing-is is ks (p + size i) q)

line-is : (is : List Instruction) (p : ℕ) (q : Point) → instructions_of (line is p q) ≡ is
line-is is p q = knowing-is is [] p q

laid_table : (xs : Arms) (p at : ℕ) (q : Point) → Laid at (at + 4 * arm_count xs) (line (table xs p) at q)
unfolding table
laid_table last p at q = omega arith
laid_table (arm c xs) p at q =
    let next = p + (size_of c + 4) in
    (refl, refl, laid_same _ _ _ _ (line (table xs next) (at + 4) q) refl (omega arith) (laid_table xs next (at + 4) q))

module _ (written : List Registers) where
  -- ── the instructions are those of `code` ──

  append-is : (s t : List Placed) → instructions_of (s ++ t) ≡ instructions_of s ++ instructions_of t
  append-is s t = map-append _ s t

  mutual
    unfolding placed code

    pub placed-code : (ls ps : List Mark) (c : Core) (p : ℕ) (q : Point) → instructions_of (placed written ls ps c p q) ≡ code ls ps c p
    placed-code ls ps skip p q = refl
    placed-code ls ps (run is) p q = line-is is p q
    placed-code ls ps (seq a b) p q = simp (append-is, placed-code ls ps a p q, placed-code ls ps b (p + size_of a) q)
    placed-code ls ps (mark l c) p q = placed-code ls ps c p q
    placed-code ls ps (scope c) p q = placed-code (own c p ++ ls) ps c p q
    placed-code ls ps (jump l) p q = refl
    placed-code ls ps (call n r) p q = refl
    placed-code ls ps (procedure n r a b) p q =
        let known : List Mark = record { name = n; at = p + 4 } ∷ ps in
        simp (append-is, placed-code [] known a (p + 4) (in_body q (procedure_of written n r)), placed-code ls known b (p + (4 + (size_of a + 2))) q)
    placed-code ls ps (base r k c) p q = ap (λ (l : List Instruction). rx (opcode load_row 1) r (entry k) ∷ l) (placed-code ls ps c (p + 4) (with_base q r k))
    placed-code ls ps (when is m c) p q = simp (append-is, line-is, placed-code ls ps c (p + (sizes is + 4)) q)
    placed-code ls ps (either is m a b) p q =
        simp (append-is, line-is, placed-code ls ps a (p + (sizes is + 4)) q, placed-code ls ps b (p + (sizes is + (4 + (size_of a + 4)))) q)
    placed-code ls ps (loop is m c) p q = simp (append-is, line-is, placed-code ls ps c (p + (sizes is + 4)) q)
    placed-code ls ps (count is cs m r v c) p q = simp (append-is, line-is, placed-code ls ps c (p + (sizes is + (sizes cs + 4))) q)
    placed-code ls ps (select r xs) p q =
        let k : Case = record { register = r; arms = xs; at = p } in
        simp (append-is, knowing-is, arms_code ls ps xs (first_of k) (end_of k) q)

    arms_code : (ls ps : List Mark) (xs : Arms) (p end : ℕ) (q : Point) → instructions_of (placed_arms written ls ps xs p end q) ≡ code_arms ls ps xs p end
    arms_code ls ps last p end q = refl
    arms_code ls ps (arm c xs) p end q = simp (append-is, placed-code ls ps c p q, arms_code ls ps xs (p + (size_of c + 4)) end q)

  pub program-code : (c : Core) → instructions_of (program written c) ≡ instructions c
  unfolding program instructions
  program-code c = simp (append-is, placed-code [] [] c 0 start)

  -- ── where they stand ──

  mutual
    unfolding placed size_of

    pub laid : (ls ps : List Mark) (c : Core) (p : ℕ) (q : Point) → Laid p (p + size_of c) (placed written ls ps c p q)
    laid ls ps skip p q = omega arith
    laid ls ps (run is) p q = laid-line is p q
    laid ls ps (seq a b) p q =
        let m = p + size_of a in
        let y = placed written ls ps b m q in
        laid-append p m (p + (size_of a + size_of b)) (placed written ls ps a p q) y (laid ls ps a p q) (laid_same _ _ _ _ y refl (omega arith) (laid ls ps b m q))
    laid ls ps (mark l c) p q = laid ls ps c p q
    laid ls ps (scope c) p q = laid (own c p ++ ls) ps c p q
    laid ls ps (jump l) p q = (refl, refl, refl)
    laid ls ps (call n r) p q = (refl, refl, refl)
    laid ls ps (procedure n r a b) p q =
        let known : List Mark = record { name = n; at = p + 4 } ∷ ps in
        let inner = in_body q (procedure_of written n r) in
        let z = placed written ls known b (p + (4 + (size_of a + 2))) q in (
          refl,
          refl,
          laid-append (p + 4) ((p + 4) + size_of a) _ (placed written [] known a (p + 4) inner) (here (p + (4 + size_of a)) (rr 0x07 15 r) inner ∷ z) (laid [] known a (p + 4) inner)
              (refl, omega arith, laid_same _ _ _ _ z (omega arith) (omega arith) (laid ls known b (p + (4 + (size_of a + 2))) q)),
        )
    laid ls ps (base r k c) p q = (refl, refl, laid_same _ _ _ _ (placed written ls ps c (p + 4) (with_base q r k)) refl (omega arith) (laid ls ps c (p + 4) (with_base q r k)))
    laid ls ps (when is m c) p q =
        let at = p + (sizes is + 4) in
        let y = placed written ls ps c at q in
        laid-append p (p + sizes is) _ (line is p q) (here (p + sizes is) (branch m (p + (sizes is + (4 + size_of c)))) q ∷ y) (laid-line is p q)
        (refl, refl, laid_same _ _ _ _ y (omega arith) (omega arith) (laid ls ps c at q))
    laid ls ps (either is m a b) p q =
        let at = p + (sizes is + 4) in
        let other = p + (sizes is + (4 + (size_of a + 4))) in
        let y = placed written ls ps a at q in
        let z = placed written ls ps b other q in
        let past = here (p + (sizes is + (4 + size_of a))) (branch always (p + (sizes is + (4 + (size_of a + (4 + size_of b)))))) q in
        laid-append p (p + sizes is) _ (line is p q) (here (p + sizes is) (branch m other) q ∷ (y ++ (past ∷ z))) (laid-line is p q) (
          refl,
          refl,
          laid-append _ (at + size_of a) _ y (past ∷ z) (laid_same _ _ _ _ y (omega arith) refl (laid ls ps a at q))
              (refl, omega arith, laid_same _ _ _ _ z (omega arith) (omega arith) (laid ls ps b other q)),
        )
    laid ls ps (loop is m c) p q =
        let at = p + (sizes is + 4) in
        let y = placed written ls ps c at q in
        let back = here (p + (sizes is + (4 + size_of c))) (branch always p) q in
        laid-append p (p + sizes is) _ (line is p q) (here (p + sizes is) (branch m (p + (sizes is + (4 + (size_of c + 4))))) q ∷ (y ++ (back ∷ []))) (laid-line is p q)
        (refl, refl, laid-append _ (at + size_of c) _ y (back ∷ []) (laid_same _ _ _ _ y (omega arith) refl (laid ls ps c at q)) (refl, omega arith, omega arith))
    laid ls ps (count is cs m r v c) p q =
        let at = p + (sizes is + (sizes cs + 4)) in
        let y = placed written ls ps c at q in
        let exit = here (p + (sizes is + sizes cs)) (branch m (p + (sizes is + (sizes cs + (4 + (size_of c + 8)))))) q in
        let step = here (p + (sizes is + (sizes cs + (4 + size_of c)))) (rx (opcode add_row 1) r (literal v)) q in
        let back = here (p + (sizes is + (sizes cs + (8 + size_of c)))) (branch always (p + sizes is)) q in
        laid-append p (p + sizes is) _ (line is p q) (line cs (p + sizes is) q ++ (exit ∷ (y ++ (step ∷ back ∷ [])))) (laid-line is p q)
        (laid-append (p + sizes is) ((p + sizes is) + sizes cs) _ (line cs (p + sizes is) q) (exit ∷ (y ++ (step ∷ back ∷ []))) (laid-line cs (p + sizes is) q)
        (refl, omega arith, laid-append _ (at + size_of c) _ y (step ∷ back ∷ []) (laid_same _ _ _ _ y (omega arith) refl (laid ls ps c at q)) (refl, omega arith, (refl, omega arith, omega arith))))
    laid ls ps (select r xs) p q =
        let k : Case = record { register = r; arms = xs; at = p } in
        let lt = line (table xs (first_of k)) (p + head_size 0) q in
        let la = placed_arms written ls ps xs (first_of k) (end_of k) q in
        laid-append p (p + head_size 0) _ (head k q) (lt ++ la) (laid-knowing (case_head r (arm_count xs) p (end_of k)) (head_knows k) p q)
        (laid-append _ (p + head_size 0 + 4 * arm_count xs) _ lt la (laid_table xs (first_of k) (p + head_size 0) q)
        (laid_same _ _ _ _ la (omega arith) (omega arith) (laid-arms ls ps xs (first_of k) (end_of k) q)))

    laid-arms : (ls ps : List Mark) (xs : Arms) (p end : ℕ) (q : Point) → Laid p (p + arms_size xs) (placed_arms written ls ps xs p end q)
    laid-arms ls ps last p end q = omega arith
    laid-arms ls ps (arm c xs) p end q =
        let y = placed_arms written ls ps xs (p + (size_of c + 4)) end q in
        laid-append p (p + size_of c) _ (placed written ls ps c p q) (here (p + size_of c) (branch always end) q ∷ y) (laid ls ps c p q)
        (refl, refl, laid_same _ _ _ _ y (omega arith) (omega arith) (laid-arms ls ps xs (p + (size_of c + 4)) end q))

  pub laid-program : (c : Core) → Laid 0 (size_of c + 2) (program written c)
  unfolding program
  laid-program c = laid-append 0 (0 + size_of c) _ (placed written [] [] c 0 start) (here (size_of c) stop start ∷ []) (laid [] [] c 0 start) (refl, omega arith, omega arith)

-- ── a placed instruction among all ──

-- it is the one with number i, stands behind those before it, and ends at or before e
pub record Stands (p e : ℕ) (xs : List Placed) (x : Placed) : Type 0 where
  pub i : ℕ
  pub index : i < length (instructions_of xs)
  pub is : get_or (instructions_of xs) i stop ≡ x.instruction
  pub segment : x.segment ≡ program_segment
  pub offset : p + sizes (take i (instructions_of xs)) ≡ x.at
  pub end : x.at + size x.instruction ≤ e

stands-next : (p e : ℕ) (y : Placed) (xs : List Placed) (x : Placed) → Stands (p + size y.instruction) e xs x → Stands p e (y ∷ xs) x
stands-next p e y xs x s = let o = s.offset in record { i = suc s.i; index = omega arith; is = s.is; segment = s.segment; offset = omega arith; end = s.end }

laid-le : (p e : ℕ) (xs : List Placed) → Laid p e xs → p ≤ e
laid-le p e [] h = omega arith
laid-le p e (x ∷ xs) h = omega (arith, laid-le (p + size x.instruction) e xs h.2)

pub stands : (p e : ℕ) (xs : List Placed) → Laid p e xs → (x : Placed) → x ∈ xs → Stands p e xs x
stands p e [] l x h = absurd h
stands p e (y ∷ xs) l x (inl q) =
    subst (λ (z : Placed). Stands p e (y ∷ xs) z) (sym q)
    (let k = laid-le (p + size y.instruction) e xs l.2 in
    let o = l.1 in
    record { i = 0; index = omega arith; is = refl; segment = l.0; offset = omega arith; end = omega arith })
stands p e (y ∷ xs) l x (inr h) = stands-next p e y xs x (stands (p + size y.instruction) e xs l.2 x h)

pub laid_end : (p e : ℕ) (xs : List Placed) → Laid p e xs → p + sizes (instructions_of xs) ≡ e
laid_end p e [] h = let k : p ≡ e = h in omega arith
laid_end p e (x ∷ xs) h = omega (arith, laid_end (p + size x.instruction) e xs h.2)

-- ── bytes ──

-- those of the instruction with number i stand behind those of the instructions before it
pub bytes_of : (l : Layout) (is : List Instruction) (i j : ℕ) → i < length is → j < size (get_or is i stop)
    → get_or (encode_all l is) (sizes (take i is) + j) 0 ≡ get_or (encode l (get_or is i stop)) j 0
unfolding encode_all
bytes_of l [] i j h k = absurd (omega arith)
bytes_of l (x ∷ is) zero j h k =
    let e : 0 + j ≡ j = omega arith in
    rw e (get_or-append (encode l x) (encode_all l is) 0 j (rw (length-encode l x) k))
bytes_of l (x ∷ is) (suc i) j h k =
    let e : (size x + sizes (take i is)) + j ≡ length (encode l x) + (sizes (take i is) + j) = rw (length-encode l x) (omega arith) in
    rw e (get_or-append-add (encode l x) (encode_all l is) (sizes (take i is) + j) 0 ∙ bytes_of l is i j (omega arith) k)

-- so do those of a placed instruction at its offset
pub bytes-at : (l : Layout) (e : ℕ) (w : List Placed) → Laid 0 e w → (x : Placed) → x ∈ w → (j : ℕ) → j < size x.instruction
    → get_or (encode_all l (instructions_of w)) (x.at + j) 0 ≡ get_or (encode l x.instruction) j 0
bytes-at l e w h x one j k =
    let s = stands 0 e w h x one in
    let o = s.offset in
    let a : x.at + j ≡ sizes (take s.i (instructions_of w)) + j = omega arith in
    ap (λ (n : ℕ). get_or (encode_all l (instructions_of w)) n 0) a
    ∙ bytes_of l (instructions_of w) s.i j s.index (subst (λ (i : Instruction). j < size i) (sym s.is) k)
    ∙ ap (λ (i : Instruction). get_or (encode l i) j 0) s.is
