-- Instructions whose fields have room in their bytes, and that the code of a text is made of such.
use mathlib.Core.List.{List, [], ◌∷◌, ◌++◌}
use mathlib.Core.Bool.{Bool, true, false}
use Prim.Native.Nat.{ℕ, ◌+◌, ◌<◌, ◌≤◌}
use native.Mathlib.Omega.{arith}
use lib.Dec.{eqb}
use lib.ListN.{get_or}
use Rattle.base.specs.Choose.{whether◌then◌else◌}
use Rattle.base.specs.Lists.{All}
use Rattle.base.proofs.Lists.{all_both, all_get_d}
use Rattle.base.specs.Runs.{index_of}
use Rattle.static_rules.specs.Rules.{shifts}
use Rattle.token.specs.Kinds as K
use Rattle.translation.specs.Instructions.{Datum, element, literal, entry, Instruction, rr, rx, address, immediate, shift, branch, link, indexed, stop, sizes, code_table, opcode, shift_table, shift_code, condition_kinds, false_masks, false_mask, load_row, add_row, compare_row, always}
use Rattle.translation.specs.Core.{Core, skip, run, seq, mark, scope, jump, call, procedure, base, when, either, loop, count, select, Arms, last, arm}
use Rattle.translation.specs.Code.{Mark, arm_count, head_size, size_of, arms_size, own, mark_at, case_head, table, code, code_arms}
use Rattle.translation.specs.Layout.{Layout, segment_limit, offset_of}

-- ── the tables ──

pub opcode-small : (row col : ℕ) → opcode row col < 256
unfolding opcode
opcode-small row col =
    all_get_d (λ (x : ℕ). x < 256) (get_or code_table row []) col 0 (all_get_d (λ (l : List ℕ). All (λ (x : ℕ). x < 256) l) code_table row [] rows tt) (omega arith)
  where
    rows : All (λ (l : List ℕ). All (λ (x : ℕ). x < 256) l) code_table
    rows = (omega arith, (omega arith, (omega arith, (omega arith, (omega arith, (omega arith, (omega arith, (omega arith, (omega arith, (omega arith, (omega arith, tt)))))))))))

pub shift_small : (kind : ℕ) → shift_code kind < 256
unfolding shift_code
shift_small kind = all_get_d (λ (x : ℕ). x < 256) shift_table (index_of kind shifts) 0 (omega arith) (omega arith)

pub mask-small : (kind : ℕ) → false_mask kind < 16
unfolding false_mask
mask-small kind = all_get_d (λ (x : ℕ). x < 16) false_masks (index_of kind condition_kinds) 0 (omega arith) (omega arith)

-- ── an instruction whose fields have room; a literal's displacement is judged with all literals ──

abbrev pub ReadyDatum : Layout → Datum → Type 0
ReadyDatum l (element c o x) = (c.base.register < 16) × (x < 16) × (offset_of l.placed c.name + o < segment_limit)
ReadyDatum l (literal v) = Unit {0}
ReadyDatum l (entry k) = k ≤ 3

-- n: the last place to which a branch may go
abbrev pub Ready : Layout → ℕ → Instruction → Type 0
Ready l n (rr op r s) = (op < 256) × (r < 16) × (s < 16)
Ready l n (rx op r a) = (op < 256) × (r < 16) × ReadyDatum l a
Ready l n (address r a) = (r < 16) × ReadyDatum l a
Ready l n (immediate op v a) = (op < 256) × (v < 256) × ReadyDatum l a
Ready l n (shift op r s d) = (op < 256) × (r < 16) × (s < 16) × (d < 256)
Ready l n (branch m t) = (m < 16) × (t ≤ n)
Ready l n (link r t) = (r < 16) × (t ≤ n)
Ready l n (indexed r t) = (r < 16) × (t ≤ n)
Ready l n stop = Unit {0}

-- a text's
abbrev mutual
  pub ReadyCore : Layout → ℕ → Core → Type 0
  ReadyCore l n skip = Unit {0}
  ReadyCore l n (run is) = All (Ready l n) is
  ReadyCore l n (seq a b) = ReadyCore l n a × ReadyCore l n b
  ReadyCore l n (mark x c) = ReadyCore l n c
  ReadyCore l n (scope c) = ReadyCore l n c
  ReadyCore l n (jump x) = Unit {0}
  ReadyCore l n (call x r) = r < 16
  ReadyCore l n (procedure x r a b) = (r < 16) × ReadyCore l n a × ReadyCore l n b
  ReadyCore l n (base r k c) = (r < 16) × (k ≤ 3) × ReadyCore l n c
  ReadyCore l n (when is m c) = All (Ready l n) is × (m < 16) × ReadyCore l n c
  ReadyCore l n (either is m a b) = All (Ready l n) is × (m < 16) × ReadyCore l n a × ReadyCore l n b
  ReadyCore l n (loop is m c) = All (Ready l n) is × (m < 16) × ReadyCore l n c
  ReadyCore l n (count is cs m r v c) = All (Ready l n) is × All (Ready l n) cs × (m < 16) × (r < 16) × ReadyCore l n c
  ReadyCore l n (select r xs) = (r < 16) × ReadyArms l n xs

  pub ReadyArms : Layout → ℕ → Arms → Type 0
  ReadyArms l n last = Unit {0}
  ReadyArms l n (arm c xs) = ReadyCore l n c × ReadyArms l n xs

-- ── marks ──

abbrev Marked : ℕ → List Mark → Type 0
Marked n ms = All (λ (m : Mark). m.at ≤ n) ms

mark-within : (n x : ℕ) (ms : List Mark) → Marked n ms → mark_at ms x ≤ n
unfolding mark_at
mark-within n x [] h = omega arith
mark-within n x (m ∷ ms) h = go (eqb m.name x) (mark-within n x ms h.1)
  where
    go : (b : Bool) → mark_at ms x ≤ n → (whether b then m.at else mark_at ms x) ≤ n
    go true k = h.0
    go false k = k

own-within : (c : Core) (p n : ℕ) → p + size_of c ≤ n → Marked n (own c p)
unfolding own size_of
own-within skip p n h = tt
own-within (run is) p n h = tt
own-within (seq a b) p n h = own-within b (p + size_of a) n (omega arith)
own-within (mark x c) p n h = (omega arith, own-within c p n h)
own-within (scope c) p n h = tt
own-within (jump x) p n h = tt
own-within (call x r) p n h = tt
own-within (procedure x r a b) p n h = tt
own-within (base r k c) p n h = tt
own-within (when is m c) p n h = tt
own-within (either is m a b) p n h = tt
own-within (loop is m c) p n h = tt
own-within (count is cs m r v c) p n h = tt
own-within (select r xs) p n h = tt

-- ── the code ──

module _ (l : Layout) (n : ℕ) where
  both : (is js : List Instruction) → All (Ready l n) is → All (Ready l n) js → All (Ready l n) (is ++ js)
  both is js a b = all_both (Ready l n) is js a b

  ready-table : (xs : Arms) (p : ℕ) → p + arms_size xs ≤ n → All (Ready l n) (table xs p)
  unfolding table size_of
  ready-table last p h = tt
  ready-table (arm c xs) p h = ((omega arith, omega arith), ready-table xs (p + (size_of c + 4)) (omega arith))

  mutual
    unfolding code size_of

    pub ready-code : (ls ps : List Mark) (c : Core) (p : ℕ) → Marked n ls → Marked n ps → p + size_of c ≤ n → ReadyCore l n c → All (Ready l n) (code ls ps c p)
    ready-code ls ps skip p u v h r = tt
    ready-code ls ps (run is) p u v h r = r
    ready-code ls ps (seq a b) p u v h r = both (code ls ps a p) (code ls ps b (p + size_of a)) (ready-code ls ps a p u v (omega arith) r.0)
        (ready-code ls ps b (p + size_of a) u v (omega arith) r.1)
    ready-code ls ps (mark x c) p u v h r = ready-code ls ps c p u v h r
    ready-code ls ps (scope c) p u v h r =
        ready-code (own c p ++ ls) ps c p (all_both (λ (m : Mark). m.at ≤ n) (own c p) ls (own-within c p n h) u) v h r
    ready-code ls ps (jump x) p u v h r = ((omega arith, mark-within n x ls u), tt)
    ready-code ls ps (call x q) p u v h r = ((r, mark-within n x ps v), tt)
    ready-code ls ps (procedure x q a b) p u v h r =
        let to = p + (4 + (size_of a + 2)) in
        let ms : List Mark = record { name = x; at = p + 4 } ∷ ps in (
          (omega arith, omega arith),
          both (code [] ms a (p + 4)) (rr 0x07 15 q ∷ code ls ms b to) (ready-code [] ms a (p + 4) tt (omega arith, v) (omega arith) r.1)
              ((omega arith, omega arith, r.0), ready-code ls ms b to u (omega arith, v) (omega arith) r.2),
        )
    ready-code ls ps (base q k c) p u v h r = ((opcode-small load_row 1, r.0, r.1), ready-code ls ps c (p + 4) u v (omega arith) r.2)
    ready-code ls ps (when is m c) p u v h r =
        both is (branch m (p + (sizes is + (4 + size_of c))) ∷ code ls ps c (p + (sizes is + 4))) r.0
        ((r.1, omega arith), ready-code ls ps c (p + (sizes is + 4)) u v (omega arith) r.2)
    ready-code ls ps (either is m a b) p u v h r =
        let other = p + (sizes is + (4 + (size_of a + 4))) in
        let past = p + (sizes is + (4 + (size_of a + (4 + size_of b)))) in
        let x = code ls ps a (p + (sizes is + 4)) in
        let y = branch always past ∷ code ls ps b other in
        both is (branch m other ∷ (x ++ y)) r.0
        ((r.1, omega arith), both x y (ready-code ls ps a (p + (sizes is + 4)) u v (omega arith) r.2) ((omega arith, omega arith), ready-code ls ps b other u v (omega arith) r.3))
    ready-code ls ps (loop is m c) p u v h r =
        let x = code ls ps c (p + (sizes is + 4)) in
        both is (branch m (p + (sizes is + (4 + (size_of c + 4)))) ∷ (x ++ (branch always p ∷ []))) r.0
        ((r.1, omega arith), both x (branch always p ∷ []) (ready-code ls ps c (p + (sizes is + 4)) u v (omega arith) r.2) ((omega arith, omega arith), tt))
    ready-code ls ps (count is cs m q w c) p u v h r =
        let x = code ls ps c (p + (sizes is + (sizes cs + 4))) in
        let y = rx (opcode add_row 1) q (literal w) ∷ branch always (p + sizes is) ∷ [] in
        let exit = branch m (p + (sizes is + (sizes cs + (4 + (size_of c + 8))))) in
        both is (cs ++ (exit ∷ (x ++ y))) r.0 (both cs (exit ∷ (x ++ y)) r.1
        ((r.2, omega arith), both x y (ready-code ls ps c (p + (sizes is + (sizes cs + 4))) u v (omega arith) r.4) ((opcode-small add_row 1, r.3, tt), ((omega arith, omega arith), tt))))
    ready-code ls ps (select q xs) p u v h r =
        let from = p + head_size (arm_count xs) in
        let end = p + (head_size (arm_count xs) + arms_size xs) in
        both (case_head q (arm_count xs) p end) (table xs from ++ code_arms ls ps xs from end)
        ((opcode-small compare_row 1, r.0, tt), ((omega arith, omega arith), ((omega arith, r.0, r.0), ((omega arith, omega arith), ((shift_small K.SHLL, r.0, omega arith, omega arith), ((r.0, omega arith), tt))))))
        (both (table xs from) (code_arms ls ps xs from end) (ready-table xs from (omega arith)) (ready-arms ls ps xs from end u v (omega arith) (omega arith) r.1))

    ready-arms : (ls ps : List Mark) (xs : Arms) (p end : ℕ) → Marked n ls → Marked n ps → p + arms_size xs ≤ n → end ≤ n → ReadyArms l n xs → All (Ready l n) (code_arms ls ps xs p end)
    ready-arms ls ps last p end u v h e r = tt
    ready-arms ls ps (arm c xs) p end u v h e r =
        both (code ls ps c p) (branch always end ∷ code_arms ls ps xs (p + (size_of c + 4)) end) (ready-code ls ps c p u v (omega arith) r.0)
        ((omega arith, e), ready-arms ls ps xs (p + (size_of c + 4)) end u v (omega arith) e r.1)
