-- A walk along a tape that takes in the instructions of each event: over an assignment and over a condition it takes in the definition's instructions with
-- the places of cells, and over a use. `along` is such a walk, and so is the pass of addresses, but where it sets an address. Assumes nothing.
use Rattle.std.specs.Prelude.{Option, None}
use mathlib.Core.Path.{◌≡◌, refl, sym, ap, ap₂, ◌∙◌}
use mathlib.Core.Bool.{Bool, true, false}
use mathlib.Core.List.{List, [], ◌∷◌, ◌++◌}
use Prim.Native.Nat.{ℕ, ◌+◌, ◌-◌, ◌%◌}
use native.Mathlib.Omega.{arith}
use lib.Dec.{eqb}
use lib.ListN.{get_or}
use Rattle.base.specs.Lists.{member}
use Rattle.base.proofs.Lists.{each}
use Rattle.grammar.specs.Tree.{Designator, Operand, Sign, plain, abs, neg, neg_abs, Term, Assignment, Condition, compared, bare}
use Rattle.grammar.specs.Derives.{is_operand, is_condition, are_terms, is_assignment, are_arguments}
use Rattle.grammar.specs.Pinned.{head_of}
use Rattle.grammar.proofs.Pinned.{pinned-operand}
use Rattle.tape.specs.Events as E
use Rattle.tape.specs.Numbers.{family_at, form_at}
use Rattle.tape.specs.Tape.{event, shape, tape_designator, tape_operand, tape_condition, tape_sign, tape_each, tape_term, tape_assignment, tape_argument}
use Rattle.static_rules.specs.Meaning.{register_of, function_of}
use Rattle.static_rules.specs.Tables.{Tables, kind_at, value_at, meaning_at}
use Rattle.tables.specs.Packed.{meanings_of, register_in, packed_at}
use Rattle.translation.specs.Instructions.{compare_row, false_mask}
use Rattle.translation.specs.Core.{exit_mask, to_register, assignment_of, compare_with, test_of, mask_of, control_of, function_code}
use Rattle.emit.specs.declared.Use.{Use}
use Rattle.emit.specs.declared.Sign as Signs
use Rattle.emit.specs.declared.Use.TheVariants.{Absent, Held, Number, Stored}
use Rattle.emit.specs.declared.Code.{Code}
use Rattle.emit.specs.declared.Writing.{Writing}
use Rattle.emit.specs.Codes.{list_of, apply_code, apply_codes, apply_then, held_in, first_codes, next_codes, branch_code}
use Rattle.functions.specs.Arguments.{function_in}
use Rattle.emit.specs.Events.{place_in, use_in, register_at, written_after, no_writing, compared_codes, bare_codes, limit_codes, used_codes, other_codes, codes_of, writing_after, codes_by}
use Rattle.emit.specs.Along.{code_for, sign_of, target_writing, control_writing}
use Rattle.emit.proofs.Operands.{Small, shape_of, by_form, by_shape, operand-tape, register-at, placed, used}
use Rattle.emit.proofs.Uses.{argued, argued_all, use-is}
use Rattle.emit.proofs.Written.{coded, tested, chain_codes, assigned_codes, apply-is, register-assigned, target-assigned}

-- the events that set no address
abbrev pub unmarking : List ℕ
unmarking = E.TARGET ∷ E.CONTROL ∷ E.ABS ∷ E.NEG ∷ E.NEG-ABS ∷ E.FIRST ∷ E.TERM ∷ E.COMPARED ∷ E.BARE ∷ E.APPLIED ∷ E.ARGUED ∷ E.COUNTED ∷ []

abbrev pub unmarked : ℕ → Bool
unmarked op = member (family_at op) unmarking

-- the event of a CASE alone has a table
abbrev pub Plain : (op : ℕ) → Type 0
Plain op = eqb (family_at (op % E.EVENTS)) E.CHOSEN ≡ false

pub no_table : (family : ℕ) → member family unmarking ≡ true → eqb family E.CHOSEN ≡ false
no_table family q = each (λ (x : ℕ). eqb x E.CHOSEN ≡ false) unmarking (refl, (refl, (refl, (refl, (refl, (refl, (refl, (refl, (refl, (refl, (refl, (refl, tt)))))))))))) family q

-- an instruction of the code table, and another behind it
then-list : (row r : ℕ) (u : Use) (c : Code) → list_of (apply_then row r u c) ≡ list_of (apply_codes row r u) ++ (c ∷ [])
unfolding list_of apply_codes apply_then apply_code
then-list row r Absent c = refl
then-list row r (Held s) c = refl
then-list row r (Number v) c = refl
then-list row r (Stored w x b d) c = refl

abbrev writing_of : Use → Option Signs.Sign → Writing
writing_of aim sign = record { aim = aim; sign = sign; arguments = 0 }

module _ (f : Tables) (means under offsets marks : List ℕ) where
  abbrev pub made : (op t : ℕ) → Writing → List Code
  made op t w = list_of (codes_by f.kinds f.values f.found f.goes means under f.opens offsets marks op t w)

  abbrev pub after : (op t : ℕ) → Writing → Writing
  after op t w = writing_after f.values f.found means under offsets op t w

  -- emit takes instructions into a state; run goes on from a state and the assignment that is written
  pub record Walk (S X : Type 0) : Type 0 where
    pub emit : List Code → S → S
    pub run : S → Writing → List ℕ → X
    pub emit-none : (s : S) → emit [] s ≡ s
    pub emit-both : (a b : List Code) (s : S) → emit (a ++ b) s ≡ emit b (emit a s)
    pub on : (op t : ℕ) → unmarked (op % E.EVENTS) ≡ true → (s : S) (w : Writing) (k : List ℕ)
        → run s w (event op t ∷ k) ≡ run (emit (made (op % E.EVENTS) t w) s) (after (op % E.EVENTS) t w) k

  -- ── what an event makes, and the assignment that is written after it ──

  abbrev pub Makes : (op t : ℕ) → Writing → List Code → Writing → Type 0
  Makes op t w cs w' = (made (op % E.EVENTS) t w ≡ cs) × (after (op % E.EVENTS) t w ≡ w')

  abbrev Does : (op t : ℕ) → Writing → List Code → Writing → Type 0
  Does op t w cs w' = (unmarked (op % E.EVENTS) ≡ true) × Makes op t w cs w'

  -- with the shape n of its token's operand
  abbrev at : (n t : ℕ) → Use
  at n t = use_in f.values f.found means under offsets n t

  -- the register that a FOR's target names
  abbrev controlled : Designator → Use
  controlled d = Held (register_in (packed_at f.found means d.name))

  target-does : (d : Designator) (w : Writing) → Does (E.TARGET + shape d) d.name w [] (writing_of (placed f means under offsets d) None)
  unfolding list_of form_at use_in other_codes codes_of codes_by written_after writing_after
  target-does d w =
      by_form (λ n. Does (E.TARGET + n) d.name w [] (writing_of (place_in f.values f.found means under offsets n d.name) None))
      (refl, (refl, refl)) (refl, (refl, refl)) (refl, (refl, refl)) (refl, (refl, refl)) d

  control-does : (d : Designator) (w : Writing) → Does (E.CONTROL + shape d) d.name w [] (writing_of (controlled d) None)
  unfolding list_of form_at register_at other_codes codes_of codes_by written_after writing_after
  control-does d w =
      by_form (λ n. Does (E.CONTROL + n) d.name w [] (writing_of (controlled d) None)) (refl, (refl, refl)) (refl, (refl, refl)) (refl, (refl, refl)) (refl, (refl, refl)) d

  first_does : (a : Operand) (w : Writing) → Does (E.FIRST + shape_of a) (head_of a) w (list_of (first_codes w.aim w.sign (used f means under offsets a))) w
  unfolding form_at codes_of codes_by written_after writing_after
  first_does a w =
      by_shape (λ n. Does (E.FIRST + n) (head_of a) w (list_of (first_codes w.aim w.sign (at n (head_of a)))) w)
      (refl, (refl, refl)) (refl, (refl, refl)) (refl, (refl, refl)) (refl, (refl, refl)) (refl, (refl, refl)) a

  -- the operator's kind stands before the operand
  term-does :
      (o : ℕ) (a : Operand) (w : Writing) → head_of a - 1 ≡ o
      → Does (E.TERM + shape_of a) (head_of a) w (list_of (next_codes w.aim (kind_at f o) (used f means under offsets a))) w
  unfolding form_at codes_of codes_by written_after writing_after
  term-does o a w e =
      let p = by_shape (λ n. Does (E.TERM + n) (head_of a) w (list_of (next_codes w.aim (kind_at f (head_of a - 1)) (at n (head_of a)))) w)
      (refl, (refl, refl)) (refl, (refl, refl)) (refl, (refl, refl)) (refl, (refl, refl)) (refl, (refl, refl)) a in
      (p.0, (p.1.0 ∙ ap (λ (x : ℕ). list_of (next_codes w.aim (kind_at f x) (used f means under offsets a))) e, p.1.1))

  applied-does : (n : ℕ) (w : Writing) → Does E.APPLIED n w [] no_writing
  unfolding list_of form_at other_codes codes_of codes_by written_after writing_after
  applied-does n w = (refl, (refl, refl))

  argued-does : (a : Operand) (w : Writing) → Does (E.ARGUED + shape_of a) (head_of a) w [] (argued w (used f means under offsets a))
  unfolding list_of form_at other_codes codes_of codes_by written_after writing_after
  argued-does a w =
      by_shape (λ n. Does (E.ARGUED + n) (head_of a) w [] (argued w (at n (head_of a))))
      (refl, (refl, refl)) (refl, (refl, refl)) (refl, (refl, refl)) (refl, (refl, refl)) (refl, (refl, refl)) a

  counted-does : (n : ℕ) (w : Writing)
      → Does E.COUNTED n w (list_of (used_codes f.kinds f.values f.found means n (function_in (packed_at f.found means n)) w)) no_writing
  unfolding form_at codes_of codes_by written_after writing_after
  counted-does n w = (refl, (refl, refl))

  module _ (table : f.means ≡ meanings_of means under) (small : Small f) where
    compare-is :
        (r mask to : ℕ) (a : Operand) (i j : ℕ) → is_operand f.kinds a i j
        → list_of (apply_then compare_row r (used f means under offsets a) (branch_code mask to)) ≡ tested offsets (compare_with f r a) mask to
    unfolding code_for compare_with
    compare-is r mask to a i j h = then-list compare_row r (used f means under offsets a) (branch_code mask to)
        ∙ ap (λ (x : List Code). x ++ (branch_code mask to ∷ [])) (apply-is f means under offsets table small a i j h compare_row r)

    compared-does :
        (n r to : ℕ) (a : Operand) (i j : ℕ) → is_operand f.kinds a i j → head_of a - 2 ≡ n → head_of a - 1 ≡ r → get_or marks (head_of a - 3) 0 ≡ to → (w : Writing)
        → Does (E.COMPARED + shape_of a) (head_of a) w (tested offsets (compare_with f (register_of (meaning_at f n)) a) (false_mask (kind_at f r)) to) w
    unfolding form_at register_at compared_codes codes_of codes_by written_after writing_after
    compared-does n r to a i j h en er et w =
        let p =
        by_shape
        (λ x. Does (E.COMPARED + x) (head_of a) w
        (list_of
        (apply_then compare_row (register_in (packed_at f.found means (head_of a - 2))) (at x (head_of a))
        (branch_code (false_mask (kind_at f (head_of a - 1))) (get_or marks (head_of a - 3) 0))))
        w)
        (refl, (refl, refl)) (refl, (refl, refl)) (refl, (refl, refl)) (refl, (refl, refl)) (refl, (refl, refl)) a in
        (p.0, (p.1.0 ∙ rw (en, er, et, register-at f means under table n) (compare-is (register_of (meaning_at f n)) (false_mask (kind_at f r)) to a i j h), p.1.1))

    bare-does : (r to : ℕ) → get_or marks (r - 1) 0 ≡ to → (w : Writing) → Does E.BARE r w (tested offsets [] (false_mask (kind_at f r)) to) w
    unfolding list_of form_at bare_codes codes_of codes_by written_after writing_after code_for
    bare-does r to e w = (refl, (rw e, refl))

    pub limit-makes :
        (v : ℕ) (l : Operand) (j : ℕ) → is_operand f.kinds l (v + 2) j → (w : Writing)
        → Makes (E.LIMIT + shape_of l) (head_of l) w (tested offsets (compare_with f (held_in w.aim) l) (exit_mask (value_at f v)) (get_or marks (v - 1) 0)) w
    unfolding form_at limit_codes codes_of codes_by written_after writing_after
    limit-makes v l j h w =
        let p =
        by_shape
        (λ x. Makes (E.LIMIT + x) (head_of l) w
        (list_of (apply_then compare_row (held_in w.aim) (at x (head_of l)) (branch_code (exit_mask (value_at f (head_of l - 2))) (get_or marks (head_of l - 3) 0))))
        w)
        (refl, refl) (refl, refl) (refl, refl) (refl, refl) (refl, refl) l in
        let e = (pinned-operand f.kinds l (v + 2) j h).0 in
        let ev : head_of l - 2 ≡ v = omega arith in
        let em : head_of l - 3 ≡ v - 1 = omega arith in
        (p.0 ∙ rw (ev, em) (compare-is (held_in w.aim) (exit_mask (value_at f v)) (get_or marks (v - 1) 0) l (v + 2) j h), p.1)

    -- ── the walk ──

    module _ {S X : Type 0} (walk : Walk S X) where
      via : (op t : ℕ) (s : S) (w : Writing) (k : List ℕ) {cs : List Code} {w' : Writing} → Does op t w cs w'
          → walk.run s w (event op t ∷ k) ≡ walk.run (walk.emit cs s) w' k
      via op t s w k (q, (e, g)) = walk.on op t q s w k ∙ ap₂ (λ (cs : List Code) (x : Writing). walk.run (walk.emit cs s) x k) e g

      quietly : (op t : ℕ) (s : S) (w : Writing) (k : List ℕ) {w' : Writing} → Does op t w [] w' → walk.run s w (event op t ∷ k) ≡ walk.run s w' k
      quietly op t s w k {w'} p = via op t s w k p ∙ ap (λ (x : S). walk.run x w' k) (walk.emit-none s)

      sign : (g : Sign) (u : Use) (s : S) (k : List ℕ) → walk.run s (writing_of u None) (tape_sign g k) ≡ walk.run s (writing_of u (sign_of g)) k
      unfolding tape_sign list_of form_at other_codes codes_of codes_by written_after writing_after
      sign plain u s k = refl
      sign (abs t) u s k = quietly E.ABS t s (writing_of u None) k (refl, (refl, refl))
      sign (neg t) u s k = quietly E.NEG t s (writing_of u None) k (refl, (refl, refl))
      sign (neg_abs t) u s k = quietly E.NEG-ABS t s (writing_of u None) k (refl, (refl, refl))

      operand : (op : ℕ) (a : Operand) (s : S) (w : Writing) (k : List ℕ) {cs : List Code} → Does (op + shape_of a) (head_of a) w cs w
          → walk.run s w (tape_operand op a k) ≡ walk.run (walk.emit cs s) w k
      operand op a s w k p = ap (walk.run s w) (operand-tape op a k) ∙ via (op + shape_of a) (head_of a) s w k p

      chain : (ts : List Term) (i j : ℕ) → are_terms f.kinds ts i j → (s : S) (w : Writing) (k : List ℕ)
          → walk.run s w (tape_each tape_term ts k) ≡ walk.run (walk.emit (chain_codes f means under offsets w.aim ts) s) w k
      unfolding are_terms tape_each chain_codes
      chain [] i j h s w k = sym (ap (λ (x : S). walk.run x w k) (walk.emit-none s))
      chain (t ∷ ts) i j (e, q, (m, h, hs)) s w k =
          let p = (pinned-operand f.kinds t.operand (i + 1) m h).0 in
          operand E.TERM t.operand s w _ (term-does t.operator t.operand w (omega arith))
          ∙ (chain ts m j hs _ w k ∙ sym (ap (λ (x : S). walk.run x w k) (walk.emit-both _ _ s)))

      -- op: TARGET or CONTROL
      assignment :
          (op : ℕ) (aimed : Designator → Use) → ((d : Designator) (w : Writing) → Does (op + shape d) d.name w [] (writing_of (aimed d) None))
          → (a : Assignment) (i j : ℕ) → is_assignment f.kinds a i j → (s : S) (w : Writing) (k : List ℕ)
          → walk.run s w (tape_assignment op a k)
          ≡ walk.run (walk.emit (assigned_codes f means under offsets (aimed a.target) a) s) (writing_of (aimed a.target) (sign_of a.sign)) k
      unfolding is_assignment tape_assignment tape_designator assigned_codes
      assignment op aimed does a i j (m, h, (b, (n, hs, (p, ho, ht)))) s w k =
          let w' = writing_of (aimed a.target) (sign_of a.sign) in
          quietly (op + shape a.target) a.target.name s w _ (does a.target w)
          ∙ (sign a.sign (aimed a.target) s _
          ∙ (operand E.FIRST a.first s w' _ (first_does a.first w')
          ∙ (chain a.rest p j ht _ w' k ∙ sym (ap (λ (x : S). walk.run x w' k) (walk.emit-both _ _ s)))))

      pub assignment-walked :
          (a : Assignment) (i j : ℕ) → is_assignment f.kinds a i j → (s : S) (w : Writing) (k : List ℕ)
          → walk.run s w (tape_assignment E.TARGET a k)
          ≡ walk.run (walk.emit (coded offsets (assignment_of f a)) s) (target_writing f.values f.found means under offsets a) k
      unfolding target_writing
      assignment-walked a i j h s w k =
          assignment E.TARGET (placed f means under offsets) target-does a i j h s w k
          ∙ ap (λ (cs : List Code). walk.run (walk.emit cs s) (target_writing f.values f.found means under offsets a) k)
          (target-assigned f means under offsets table small a i j h)

      pub control-walked :
          (a : Assignment) (i j : ℕ) → is_assignment f.kinds a i j → (s : S) (w : Writing) (k : List ℕ)
          → walk.run s w (tape_assignment E.CONTROL a k)
          ≡ walk.run (walk.emit (coded offsets (to_register f (control_of f a) a)) s) (control_writing f.found means a) k
      unfolding control_writing
      control-walked a i j h s w k =
          let r = register_in (packed_at f.found means a.target.name) in
          assignment E.CONTROL controlled control-does a i j h s w k
          ∙ ap (λ (cs : List Code). walk.run (walk.emit cs s) (control_writing f.found means a) k)
          (register-assigned f means under offsets table small r a i j h ∙ ap (λ (x : ℕ). coded offsets (to_register f x a)) (register-at f means under table a.target.name))

      arguments : (xs : List Operand) (s : S) (w : Writing) (k : List ℕ) → walk.run s w (tape_each tape_argument xs k) ≡ walk.run s (argued_all f means under offsets w xs) k
      unfolding tape_each argued_all
      arguments [] s w k = refl
      arguments (a ∷ xs) s w k =
          ap (walk.run s w) (operand-tape E.ARGUED a _)
          ∙ (quietly (E.ARGUED + shape_of a) (head_of a) s w _ (argued-does a w) ∙ arguments xs s (argued w (used f means under offsets a)) k)

      pub use-walked :
          (n : ℕ) (a : Operand) (xs : List Operand) (j : ℕ) → are_arguments f.kinds (a ∷ xs) (n + 1) j → (s : S) (w : Writing) (k : List ℕ)
          → walk.run s w (event E.APPLIED n ∷ tape_each tape_argument (a ∷ xs) (event E.COUNTED n ∷ k))
          ≡ walk.run (walk.emit (coded offsets (function_code f (function_of (meaning_at f n)) a xs)) s) no_writing k
      use-walked n a xs j h s w k =
          quietly E.APPLIED n s w _ (applied-does n w)
          ∙ (arguments (a ∷ xs) s no_writing _
          ∙ (via E.COUNTED n s _ k (counted-does n _) ∙ ap (λ (cs : List Code). walk.run (walk.emit cs s) no_writing k) (use-is f means under offsets table small n a xs j h)))

      -- IF or WHILE stands before it
      pub condition-walked :
          (c : Condition) (i j : ℕ) → is_condition f.kinds c i j → (s : S) (w : Writing) (k : List ℕ)
          → walk.run s w (tape_condition c k) ≡ walk.run (walk.emit (tested offsets (test_of f c) (mask_of f c) (get_or marks (i - 1) 0)) s) w k
      unfolding is_condition tape_condition test_of
      condition-walked (compared n r a) i j (e, _, (g, _, h)) s w k =
          let p = (pinned-operand f.kinds a (i + 1 + 1) j h).0 in
          let q : head_of a - 3 ≡ i - 1 = omega arith in
          operand E.COMPARED a s w k (compared-does n r (get_or marks (i - 1) 0) a (i + 1 + 1) j h (omega arith) (omega arith) (ap (λ (x : ℕ). get_or marks x 0) q) w)
      condition-walked (bare r) i j (e, _, _) s w k = via E.BARE r s w k (bare-does r (get_or marks (i - 1) 0) (ap (λ (x : ℕ). get_or marks (x - 1) 0) e) w)
