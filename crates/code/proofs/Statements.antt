-- On the tape of a tree, with the addresses that the tree has, the code pass makes the definition's instructions: a line for each way to make a tree. Assumes nothing.
use Rattle.std.specs.Prelude as P
use mathlib.Core.Path.{◌≡◌, refl, sym, ap, subst, ◌∙◌}
use mathlib.Core.List.{List, [], ◌∷◌, ◌++◌, map}
use mathlib.Core.Bool.{true}
use Prim.Native.Nat.{ℕ, ◌+◌, ◌-◌}
use native.Mathlib.Omega.{arith}
use lib.ListN.{get_or}
use Rattle.base.specs.Lists.{All, member}
use Rattle.base.proofs.Lists.{all_in, all_of}
use Rattle.grammar.specs.Tree.{Condition, registers, cells, base, Statement, assign, call, apply, block, goto, null, if_then, if_else, while, for, choose, Body, declare, procedure, items, Items, ended, label, item, Choices, over, choice}
use Rattle.grammar.specs.Derives.{is_operand, is_condition, are_arguments, is_statement, is_body, is_items, are_choices}
use Rattle.grammar.specs.Events.{choices_count}
use Rattle.tape.specs.Events as E
use Rattle.tape.specs.Numbers.{form_at}
use Rattle.tape.specs.Tape.{event, tape_condition, tape_declaration, tape_statement, tape_body, tape_items, tape_choices}
use Rattle.tables.specs.Packed.{meanings_of}
use Rattle.static_rules.specs.Meaning.{register_of}
use Rattle.static_rules.specs.Tables.{Tables, value_at, meaning_at}
use Rattle.translation.specs.Instructions.{Instruction, rr, rx, branch, link, entry, literal, sizes, opcode, load_row, add_row, return_op, always}
use Rattle.translation.specs.Core.{Arms, last, arm, return_of, to_register, compare_with, test_of, mask_of, control_of, core_statement, core_body, core_items, core_choices}
use Rattle.translation.specs.Code.{Mark, head_size, size_of, arms_size, own, mark_at, case_head, table as branch_table, code, code_arms}
use Rattle.emit.specs.declared.Code.{Code}
use Rattle.emit.specs.declared.Use.TheVariants.{Absent}
use Rattle.emit.specs.declared.Writing.{Writing}
use Rattle.emit.specs.Codes.{branch_code}
use Rattle.emit.specs.Events.{no_writing}
use Rattle.emit.specs.Along.{code_for, control_writing}
use Rattle.emit.proofs.Operands.{Small, offset_at}
use Rattle.emit.proofs.Written.{coded}
use Rattle.emit.proofs.Walks.{Plain}
use Rattle.emit.proofs.Events.{declaring, idle, Adds, idle-adds, idle-plain, procedure-adds, else-adds, end-while-adds, end-for-adds, end-choice-adds, listed-makes, goto-adds, base-adds, end-procedure-adds, call-adds, chosen-makes}
use Rattle.emit.proofs.Trees.{go, along-makes, along-case, assignment-coded, use-coded, control-coded, condition-coded, limit-coded}
use Rattle.code.proofs.Declarations.{registers-out, cells_out}
use Rattle.code.proofs.Leaves.{leaves, leaves_body, leaves_items, leaves_choices}
use Rattle.code.proofs.Addresses.{Held, arms_counted, starts_of, starts-choices}

-- ── the addresses in `marks` are those that the tree has ──

module _ (f : Tables) (marks : List ℕ) where
  -- where the mark of token t leads
  abbrev pub to : ℕ → ℕ
  to t = get_or marks t 0

  unfoldable mutual
    pub Agree : (ls ps : List Mark) → Statement → ℕ → Type 0
    Agree ls ps (assign a) p = Unit {0}
    Agree ls ps (call n) p = to (get_or f.found n 0) ≡ mark_at ps (get_or f.found n 0)
    Agree ls ps (apply n a xs) p = Unit {0}
    Agree ls ps (block t b) p = AgreeBody ls ps b p
    Agree ls ps (goto t n) p = to (get_or f.goes n 0) ≡ mark_at ls (get_or f.goes n 0)
    Agree ls ps null p = Unit {0}
    Agree ls ps (if_then t c x) p =
        (to t ≡ p + (sizes (test_of f c) + (4 + size_of (core_statement f x)))) × Agree ls ps x (p + (sizes (test_of f c) + 4))
    Agree ls ps (if_else t c x e y) p =
        (to t ≡ p + (sizes (test_of f c) + (4 + (size_of (core_statement f x) + 4))))
        × (to (t + 1) ≡ p + (sizes (test_of f c) + (4 + (size_of (core_statement f x) + (4 + size_of (core_statement f y))))))
        × Agree ls ps x (p + (sizes (test_of f c) + 4))
        × Agree ls ps y (p + (sizes (test_of f c) + (4 + (size_of (core_statement f x) + 4))))
    Agree ls ps (while t c x) p =
        (to t ≡ p + (sizes (test_of f c) + (4 + (size_of (core_statement f x) + 4)))) × (to (t + 1) ≡ p) × Agree ls ps x (p + (sizes (test_of f c) + 4))
    Agree ls ps (for t a v l x) p =
        (to (v - 1) ≡ p + (sizes (to_register f (control_of f a) a) + (sizes (compare_with f (control_of f a) l) + (4 + (size_of (core_statement f x) + 8)))))
        × (to v ≡ p + sizes (to_register f (control_of f a) a))
        × (to (v + 1) ≡ control_of f a)
        × Agree ls ps x (p + (sizes (to_register f (control_of f a) a) + (sizes (compare_with f (control_of f a) l) + 4)))
    Agree ls ps (choose t n xs) p =
        (to (n + 1) ≡ p + (head_size (choices_count xs) + arms_size (core_choices f xs))) × (to n ≡ p + head_size (choices_count xs)) × AgreeChoices ls ps xs (p + head_size (choices_count xs))

    pub AgreeBody : (ls ps : List Mark) → Body → ℕ → Type 0
    AgreeBody ls ps (declare (registers rs) b) p = AgreeBody ls ps b p
    AgreeBody ls ps (declare (cells c w is) b) p = AgreeBody ls ps b p
    AgreeBody ls ps (declare (base n) b) p = AgreeBody ls ps b (p + 4)
    AgreeBody ls ps (procedure n r x b) p =
        (to (n + 1) ≡ p + (4 + (size_of (core_statement f x) + 2)))
        × Agree [] (record { name = n; at = p + 4 } ∷ ps) x (p + 4)
        × AgreeBody ls (record { name = n; at = p + 4 } ∷ ps) b (p + (4 + (size_of (core_statement f x) + 2)))
    AgreeBody ls ps (items is) p = AgreeItems (own (core_items f is) p ++ ls) ps is p

    pub AgreeItems : (ls ps : List Mark) → Items → ℕ → Type 0
    AgreeItems ls ps ended p = Unit {0}
    AgreeItems ls ps (label l is) p = AgreeItems ls ps is p
    AgreeItems ls ps (item x is) p = Agree ls ps x p × AgreeItems ls ps is (p + size_of (core_statement f x))

    pub AgreeChoices : (ls ps : List Mark) → Choices → ℕ → Type 0
    AgreeChoices ls ps over p = Unit {0}
    AgreeChoices ls ps (choice x xs) p = Agree ls ps x p × AgreeChoices ls ps xs (p + (size_of (core_statement f x) + 4))

-- ── the instructions ──

module _ (f : Tables) (means under offsets marks : List ℕ) where
  -- instructions along a tape, and what follows them
  record Begins (all : List Code) (is : List Instruction) (rest : List Code) : Type 0 where
    begins : all ≡ coded offsets is ++ rest

  coded-append : (is js : List Instruction) (k : List Code) → coded offsets (is ++ js) ++ k ≡ coded offsets is ++ (coded offsets js ++ k)
  coded-append [] js k = refl
  coded-append (i ∷ is) js k = ap (λ (l : List Code). code_for (offset_at offsets) i ∷ l) (coded-append is js k)

  none-begins : (k : List Code) → Begins k [] k
  none-begins k = record { begins = refl }

  one-begins : (i : Instruction) (k : List Code) → Begins (code_for (offset_at offsets) i ∷ k) (i ∷ []) k
  one-begins i k = record { begins = refl }

  then-begins : {all rest k : List Code} {is js : List Instruction} → Begins all is rest → Begins rest js k → Begins all (is ++ js) k
  then-begins {is = is} {js = js} e g = record { begins = e.begins ∙ (ap (λ (l : List Code). coded offsets is ++ l) g.begins ∙ sym (coded-append is js _)) }

  -- after or before events that make none
  after_none : {all rest k : List Code} {is : List Instruction} → all ≡ rest → Begins rest is k → Begins all is k
  after_none e g = record { begins = e ∙ g.begins }

  before-none : {all rest k : List Code} {is : List Instruction} → Begins all is rest → rest ≡ k → Begins all is k
  before-none {is = is} e g = record { begins = e.begins ∙ ap (λ (l : List Code). coded offsets is ++ l) g }

  -- an address in other words
  by_address : {all rest : List Code} (is : ℕ → List Instruction) {q r : ℕ} → q ≡ r → Begins all (is q) rest → Begins all (is r) rest
  by_address {all} {rest} is e g = subst (λ (q : ℕ). Begins all (is q) rest) e g

  abbrev along-it : Writing → List ℕ → List Code
  along-it w k = go f means under offsets marks w k

  event-begins : (op t : ℕ) (w : Writing) (k : List ℕ) (is : List Instruction) → Plain op → Adds f means under offsets marks op t w is → Begins (along-it w (event op t ∷ k)) is (along-it w k)
  event-begins op t w k is n h = record { begins = along-makes f means under offsets marks op t w k n h }

  -- ── tables ──

  table-coded : (xs : Arms) (p : ℕ) → coded offsets (branch_table xs p) ≡ map (branch_code always) (starts_of xs p)
  unfolding branch_table code_for starts_of
  table-coded last p = refl
  table-coded (arm c xs) p = ap (λ (l : List Code). branch_code always p ∷ l) (table-coded xs (p + (size_of c + 4)))

  -- ── events that make none ──

  idle-event : (op : ℕ) → member op idle ≡ true → (t : ℕ) (w : Writing) (k : List ℕ) → along-it w (event op t ∷ k) ≡ along-it w k
  idle-event op h t w k = along-makes f means under offsets marks op t w k (idle-plain f means under offsets marks op h) (idle-adds f means under offsets marks op h t w)

  idle-declaring : (w : Writing) (t : ℕ) (k : List ℕ) → All (λ (op : ℕ). along-it w (event op t ∷ k) ≡ along-it w k) declaring
  idle-declaring w t k =
      all_of (λ (op : ℕ). along-it w (event op t ∷ k) ≡ along-it w k) declaring (λ op i. idle-event op (all_in (λ (x : ℕ). member x idle ≡ true) declaring is-idle op i) t w k)
    where
      is-idle : All (λ (x : ℕ). member x idle ≡ true) declaring
      is-idle = (refl, (refl, (refl, (refl, (refl, (refl, (refl, (refl, (refl, (refl, (refl, tt)))))))))))

  -- ── statements ──

  module _ (table : f.means ≡ meanings_of means under) (small : Small f) (held : Held f) where
    tested : (c : Condition) (t i j q : ℕ) → t ≡ i → is_condition f.kinds c (i + 1) j → get_or marks t 0 ≡ q → (w : Writing) (k : List ℕ)
        → Begins (along-it w (tape_condition c k)) (test_of f c) (code_for (offset_at offsets) (branch (mask_of f c) q) ∷ along-it w k)
    tested c t i j q e h g w k = record { begins = condition-coded f means under offsets marks table small c t j q (rw e h) g w k }

    mutual
      unfolding is_statement tape_statement tape_declaration core_statement code leaves Agree code_for form_at

      statement-begins : (x : Statement) (i j : ℕ) → is_statement f.kinds x i j → (ls ps : List Mark) (p : ℕ) → Agree f marks ls ps x p → (w : Writing) (k : List ℕ)
          → Begins (along-it w (tape_statement x k)) (code ls ps (core_statement f x) p) (along-it (leaves f means under offsets x w) k)
      statement-begins (assign a) i j h ls ps p g w k = record { begins = assignment-coded f means under offsets marks table small a i j h w k }
      statement-begins (call n) i j h ls ps p g w k =
          by_address (λ (q : ℕ). link (return_of (meaning_at f n)) q ∷ []) g (event-begins E.CALL n w k _ refl (call-adds f means under offsets marks table n w))
      statement-begins (apply n a xs) i j (e, _, h) ls ps p g w k =
          record { begins = use-coded f means under offsets marks table small n a xs j (subst (λ (q : ℕ). are_arguments f.kinds (a ∷ xs) (q + 1) j) (sym e) h) w k }
      statement-begins (block t b) i j h ls ps p g w k =
          after_none (idle-event E.BLOCK refl t w _) (before-none (body-begins b _ _ h.2 ls ps p g w _) (idle-event E.END-BLOCK refl t _ k))
      statement-begins (goto t n) i j h ls ps p g w k =
          by_address (λ (q : ℕ). branch always q ∷ []) g (event-begins E.GOTO n w k _ refl (goto-adds f means under offsets marks n w))
      statement-begins null i j h ls ps p g w k = none-begins _
      statement-begins (if_then t c x) i j h ls ps p g w k =
          then-begins (tested c t _ _ _ h.0 h.2.1 g.0 w _)
          (then-begins (one-begins (branch _ _) _) (before-none (statement-begins x _ _ h.2.2.1 ls ps _ g.1 w _) (idle-event E.END-IF refl t _ k)))
      statement-begins (if_else t c x e y) i j h ls ps p g w k =
          let w' = leaves f means under offsets x w in
          then-begins (tested c t _ _ _ h.0 h.2.1 g.0 w _)
          (then-begins (one-begins (branch _ _) _)
          (then-begins (statement-begins x _ _ h.2.2.1.1.1 ls ps _ g.2 w _)
          (then-begins (by_address (λ (q : ℕ). branch always q ∷ []) g.1 (event-begins E.ELSE t w' _ _ refl (else-adds f means under offsets marks t w')))
          (before-none (statement-begins y _ _ h.2.2.1.2.2 ls ps _ g.3 w' _) (idle-event E.END-ELSE refl t _ k)))))
      statement-begins (while t c x) i j h ls ps p g w k =
          let w' = leaves f means under offsets x w in
          after_none (idle-event E.WHILE refl t w _)
          (then-begins (tested c t _ _ _ h.0 h.2.1 g.0 w _)
          (then-begins (one-begins (branch _ _) _)
          (then-begins (statement-begins x _ _ h.2.2.1 ls ps _ g.2 w _)
          (by_address (λ (q : ℕ). branch always q ∷ []) g.1 (event-begins E.END-WHILE t w' k _ refl (end-while-adds f means under offsets marks t w'))))))
      statement-begins (for t a v l x) i j h ls ps p g w k =
          let e : v ≡ h.2.0 + 1 = h.2.2.1.0 in
          let w' = control_writing f.found means a in
          let w'' = leaves f means under offsets x w' in
          let end = h.2.2.1.2.1.0 in
          then-begins {is = to_register f (control_of f a) a} (record { begins = control-coded f means under offsets marks table small a _ _ h.2.1 w _ })
          (then-begins {is = compare_with f (control_of f a) l}
          (record {
            begins = limit-coded f means under offsets marks table small a l v end _
                (subst (λ (q : ℕ). is_operand f.kinds l q end) (omega arith) h.2.2.1.2.1.1) w' refl g.0 (omega arith) _;
          })
          (then-begins (one-begins (branch _ _) _)
          (then-begins (statement-begins x _ _ h.2.2.1.2.1.2.1 ls ps _ g.3 w' _)
          (by_address (λ (q : ℕ). rx (opcode add_row 1) (control_of f a) (literal (value_at f v)) ∷ branch always q ∷ []) g.1
          (by_address (λ (r : ℕ). rx (opcode add_row 1) r (literal (value_at f v)) ∷ branch always (get_or marks v 0) ∷ []) g.2
          (event-begins E.END-FOR v w'' k _ refl (end-for-adds f means under offsets marks v w'')))))))
      statement-begins (choose t n xs) i j h ls ps p g w k =
          let w' : Writing = record { aim = Absent; sign = P.None; arguments = choices_count xs } in
          let q = p + head_size (choices_count xs) in
          let rest : List Code = along-it no_writing (tape_choices n xs (event E.END-CASE n ∷ k)) in
          let count = arms_counted f xs in
          after_none (along-makes f means under offsets marks E.LISTED (choices_count xs) w _ refl (listed-makes f means under offsets marks (choices_count xs) w))
          (before-none
          (rw count
          (then-begins {is = case_head (register_of (meaning_at f n)) (choices_count xs) p (p + (head_size (choices_count xs) + arms_size (core_choices f xs)))}
          (record {
            begins = along-case f means under offsets marks n q w' _ g.1 (chosen-makes f means under offsets marks table n p _ w' g.1 g.0);
          })
          (then-begins {is = branch_table (core_choices f xs) q}
          (record { begins = ap (λ (l : List ℕ). map (branch_code always) l ++ rest) (starts-choices f means under offsets table small held marks n xs _ _ h.2.2.1.1 q no_writing k) ∙ ap (λ (l : List Code). l ++ rest) (sym (table-coded (core_choices f xs) q)) })
          (choices-begins n xs _ _ h.2.2.1.1 ls ps q _ g.0 g.2 no_writing _))))
          (idle-event E.END-CASE refl n _ k))

      body-begins : (b : Body) (i j : ℕ) → is_body f.kinds b i j → (ls ps : List Mark) (p : ℕ) → AgreeBody f marks ls ps b p → (w : Writing) (k : List ℕ)
          → Begins (along-it w (tape_body b k)) (code ls ps (core_body f b) p) (along-it (leaves_body f means under offsets b w) k)
      body-begins (declare (registers rs) b) i j h ls ps p g w k = after_none (registers-out (along-it w) (idle-declaring w) rs _) (body-begins b _ _ h.2.1 ls ps p g w k)
      body-begins (declare (cells c s is) b) i j h ls ps p g w k =
          after_none (cells_out (along-it w) (idle-declaring w) c s is _) (body-begins b _ _ h.2.1 ls ps p g w k)
      body-begins (declare (base n) b) i j h ls ps p g w k =
          then-begins (event-begins E.BASE n w _ (rx (opcode load_row 1) (register_of (meaning_at f n)) (entry (get_or f.opens n 0)) ∷ []) refl
          (base-adds f means under offsets marks table n w)) (body-begins b _ _ h.2.1 ls ps _ g w k)
      body-begins (procedure n r x b) i j h ls ps p g w k =
          let e : n + 2 ≡ r = omega (arith, h.1.1.0, h.1.1.2.1.0) in
          let w' = leaves f means under offsets x w in
          then-begins (by_address (λ (q : ℕ). branch always q ∷ []) g.0 (event-begins E.PROCEDURE n w _ _ refl (procedure-adds f means under offsets marks n w)))
          (then-begins (statement-begins x _ _ h.1.1.2.1.2.1.1 [] _ _ g.1 w _)
          (then-begins (by_address (λ (q : ℕ). rr return_op always (register_of (meaning_at f q)) ∷ []) e
          (event-begins E.END-PROCEDURE n w' _ _ refl (end-procedure-adds f means under offsets marks table n w')))
          (body-begins b _ _ h.2.1 ls _ _ g.2 w' k)))
      body-begins (items is) i j h ls ps p g w k = items-begins is i j h _ ps p g w k

      items-begins : (is : Items) (i j : ℕ) → is_items f.kinds is i j → (ls ps : List Mark) (p : ℕ) → AgreeItems f marks ls ps is p → (w : Writing) (k : List ℕ)
          → Begins (along-it w (tape_items is k)) (code ls ps (core_items f is) p) (along-it (leaves_items f means under offsets is w) k)
      items-begins ended i j h ls ps p g w k = none-begins _
      items-begins (label l is) i j h ls ps p g w k = after_none (idle-event E.LABEL refl l w _) (items-begins is _ _ h.2.1 ls ps p g w k)
      items-begins (item x is) i j h ls ps p g w k =
          then-begins (statement-begins x _ _ h.1 ls ps p g.0 w _) (items-begins is _ _ h.2.1 ls ps _ g.1 _ k)

      choices-begins : (t : ℕ) (xs : Choices) (i j : ℕ) → are_choices f.kinds xs i j → (ls ps : List Mark) (p end : ℕ) → get_or marks (t + 1) 0 ≡ end → AgreeChoices f marks ls ps xs p → (w : Writing) (k : List ℕ)
          → Begins (along-it w (tape_choices t xs k)) (code_arms ls ps (core_choices f xs) p end) (along-it (leaves_choices f means under offsets xs w) k)
      choices-begins t over i j h ls ps p end e g w k = none-begins _
      choices-begins t (choice x xs) i j h ls ps p end e g w k =
          let w' = leaves f means under offsets x w in
          then-begins (statement-begins x _ _ h.1 ls ps p g.0 w _)
          (then-begins (by_address (λ (q : ℕ). branch always q ∷ []) e (event-begins E.END-CHOICE t w' _ _ refl (end-choice-adds f means under offsets marks t w')))
          (choices-begins t xs _ _ h.2.1 ls ps _ end e g.1 w' k))

    pub code-statement : (x : Statement) (i j : ℕ) → is_statement f.kinds x i j → (ls ps : List Mark) (p : ℕ) → Agree f marks ls ps x p → (w : Writing) (k : List ℕ)
        → go f means under offsets marks w (tape_statement x k) ≡ coded offsets (code ls ps (core_statement f x) p) ++ go f means under offsets marks (leaves f means under offsets x w) k
    code-statement x i j h ls ps p g w k = (statement-begins x i j h ls ps p g w k).begins
