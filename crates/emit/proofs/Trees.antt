-- The instructions along the tape of a tree: those of an assignment, of a condition, of a FOR's limit and of a use are the definition's with the places of cells.
-- Assumes nothing.
use mathlib.Core.Path.{◌≡◌, refl, sym, ap, ap₂, ◌∙◌}
use mathlib.Core.List.{List, [], ◌∷◌, ◌++◌, map, append_assoc, append-nil}
use Prim.Native.Nat.{ℕ, ◌+◌, ◌-◌, ◌%◌, ◌≤◌}
use native.Mathlib.Omega.{arith}
use lib.ListN.{get_or}
use Rattle.grammar.specs.Tree.{Operand, Assignment, Condition}
use Rattle.grammar.specs.Derives.{is_operand, is_condition, is_assignment, are_arguments}
use Rattle.grammar.specs.Pinned.{head_of}
use Rattle.tape.specs.Events as E
use Rattle.tape.specs.Numbers.{family_at, form_at}
use Rattle.tape.specs.Tape.{event, tape_operand, tape_condition, tape_each, tape_assignment, tape_argument}
use Rattle.tape.proofs.Pass.{event-op, event-token}
use Rattle.static_rules.specs.Meaning.{function_of}
use Rattle.static_rules.specs.Tables.{Tables, value_at, meaning_at}
use Rattle.tables.specs.Packed.{meanings_of}
use Rattle.translation.specs.Instructions.{branch, always}
use Rattle.translation.specs.Core.{exit_mask, to_register, assignment_of, compare_with, test_of, mask_of, control_of, function_code}
use Rattle.emit.specs.declared.Code.{Code}
use Rattle.emit.specs.declared.Writing.{Writing}
use Rattle.emit.specs.Codes.{branch_code, held_in}
use Rattle.emit.specs.Events.{no_writing}
use Rattle.emit.specs.Along.{starts, table_along, along, code_for, target_writing, control_writing}
use Rattle.emit.proofs.Operands.{Small, offset_at, shape_of, by_shape, operand-tape, register-at}
use Rattle.emit.proofs.Written.{coded}
use Rattle.emit.proofs.Walks.{made, after, Plain, no_table, Makes, Walk, limit-makes, assignment-walked, control-walked, use-walked, condition-walked}

module _ (f : Tables) (means under offsets marks : List ℕ) where
  abbrev pub go : Writing → List ℕ → List Code
  go w tape = along f.kinds f.values f.found f.goes means under f.opens offsets marks w tape

  pub along-event :
      (op t : ℕ) (w : Writing) (k : List ℕ) → Plain op
      → go w (event op t ∷ k) ≡ made f means under offsets marks (op % E.EVENTS) t w ++ go (after f means under offsets marks (op % E.EVENTS) t w) k
  unfolding along table_along
  along-event op t w k n = rw (event-op op t, event-token op t, n)

  pub along-makes :
      (op t : ℕ) (w : Writing) (k : List ℕ) {cs : List Code} {w' : Writing} → Plain op → Makes f means under offsets marks op t w cs w' → go w (event op t ∷ k) ≡ cs ++ go w' k
  along-makes op t w k n (e, g) = along-event op t w k n ∙ ap₂ (λ (cs : List Code) (x : Writing). cs ++ go x k) e g

  -- at the register of a CASE, with its table
  pub along-case :
      (n p : ℕ) (w : Writing) (k : List ℕ) {cs : List Code} {w' : Writing} → get_or marks n 0 ≡ p → Makes f means under offsets marks E.CHOSEN n w cs w'
      → go w (event E.CHOSEN n ∷ k) ≡ cs ++ (map (branch_code always) (starts f.kinds f.values f.found f.goes means under f.opens offsets marks 1 p p w' k) ++ go w' k)
  unfolding along table_along form_at
  along-case n p w k g (e, h) = rw (event-op E.CHOSEN n, event-token E.CHOSEN n, e, h, g)

  -- behind instructions that there are already
  coding : Walk f means under offsets marks (List Code) (List Code)
  coding = record {
    emit = λ cs s. s ++ cs;
    run = λ s w k. s ++ go w k;
    emit-none = λ s. append-nil s;
    emit-both = λ a b s. sym (append_assoc s a b);
    on = λ op t q s w k. ap (λ (x : List Code). s ++ x) (along-event op t w k (no_table (family_at (op % E.EVENTS)) q)) ∙ sym (append_assoc s _ _);
  }

  module _ (table : f.means ≡ meanings_of means under) (small : Small f) where
    -- ── assignments, uses, conditions and limits ──

    pub assignment-coded :
        (a : Assignment) (i j : ℕ) → is_assignment f.kinds a i j → (w : Writing) (k : List ℕ)
        → go w (tape_assignment E.TARGET a k) ≡ coded offsets (assignment_of f a) ++ go (target_writing f.values f.found means under offsets a) k
    unfolding coding
    assignment-coded a i j h w k = assignment-walked f means under offsets marks table small coding a i j h [] w k

    pub control-coded :
        (a : Assignment) (i j : ℕ) → is_assignment f.kinds a i j → (w : Writing) (k : List ℕ)
        → go w (tape_assignment E.CONTROL a k) ≡ coded offsets (to_register f (control_of f a) a) ++ go (control_writing f.found means a) k
    unfolding coding
    control-coded a i j h w k = control-walked f means under offsets marks table small coding a i j h [] w k

    pub use-coded :
        (n : ℕ) (a : Operand) (xs : List Operand) (j : ℕ) → are_arguments f.kinds (a ∷ xs) (n + 1) j → (w : Writing) (k : List ℕ)
        → go w (event E.APPLIED n ∷ tape_each tape_argument (a ∷ xs) (event E.COUNTED n ∷ k)) ≡ coded offsets (function_code f (function_of (meaning_at f n)) a xs) ++ go no_writing k
    unfolding coding
    use-coded n a xs j h w k = use-walked f means under offsets marks table small coding n a xs j h [] w k

    pub condition-coded :
        (c : Condition) (t j to : ℕ) → is_condition f.kinds c (t + 1) j → get_or marks t 0 ≡ to → (w : Writing) (k : List ℕ)
        → go w (tape_condition c k) ≡ coded offsets (test_of f c) ++ (code_for (offset_at offsets) (branch (mask_of f c) to) ∷ go w k)
    unfolding coding
    condition-coded c t j to h e w k =
        let q : t + 1 - 1 ≡ t = omega arith in
        condition-walked f means under offsets marks table small coding c (t + 1) j h [] w k ∙ rw (q, e) (append_assoc (coded offsets (test_of f c)) _ (go w k))

    pub limit-coded :
        (a : Assignment) (l : Operand) (v j to : ℕ) → is_operand f.kinds l (v + 2) j → (w : Writing) → w ≡ control_writing f.found means a
        → get_or marks (v - 1) 0 ≡ to → 1 ≤ v → (k : List ℕ)
        → go w (tape_operand E.LIMIT l k)
        ≡ coded offsets (compare_with f (control_of f a) l) ++ (code_for (offset_at offsets) (branch (exit_mask (value_at f v)) to) ∷ go w k)
    unfolding control_writing held_in form_at
    limit-coded a l v j to h w e g _ k =
        let r : held_in w.aim ≡ control_of f a = ap (λ (x : Writing). held_in x.aim) e ∙ register-at f means under table a.target.name in
        ap (go w) (operand-tape E.LIMIT l k)
        ∙ (along-makes (E.LIMIT + shape_of l) (head_of l) w k (by_shape (λ x. Plain (E.LIMIT + x)) refl refl refl refl refl l) (limit-makes f means under offsets marks table small v l j h w)
        ∙ rw (r, g) (append_assoc (coded offsets (compare_with f (control_of f a) l)) _ (go w k)))
