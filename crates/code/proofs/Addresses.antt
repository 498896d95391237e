-- On the tape of a tree the address pass comes to where the tree's code ends, and leaves the addresses that `marks_of` says: a line for each way to make a tree.
-- Assumes nothing.
use Rattle.std.specs.Prelude as P
use mathlib.Core.Path.{◌≡◌, refl, sym, ap, subst, ◌∙◌}
use mathlib.Core.Bool.{Bool, true, false}
use mathlib.Core.List.{List, [], ◌∷◌, ◌++◌, append-nil, append_assoc}
use Prim.Native.Nat.{ℕ, zero, suc, ◌+◌, ◌-◌, ◌/◌, ◌%◌, ◌<◌}
use native.Mathlib.Omega.{arith}
use lib.Dec.{eqb}
use lib.ListN.{set}
use borrow.Author.Tests.{ne_eqb}
use Rattle.base.specs.Choose.{whether◌then◌else◌}
use Rattle.base.specs.Lists.{All}
use Rattle.base.specs.Walk.{fold}
use Rattle.base.proofs.Lists.{all_in, all_of}
use Rattle.grammar.specs.Tree.{registers, cells, base, Statement, assign, call, apply, block, goto, null, if_then, if_else, while, for, choose, Body, declare, procedure, items, Items, ended, label, item, Choices, over, choice}
use Rattle.grammar.specs.Derives.{is_operand, are_arguments, is_statement, is_body, is_items, are_choices}
use Rattle.grammar.specs.Events.{choices_count}
use Rattle.tape.specs.Events as E
use Rattle.tape.specs.Numbers.{family_at, form_at}
use Rattle.tape.specs.Tape.{event, tape_declaration, tape_statement, tape_body, tape_items, tape_choices}
use Rattle.tape.specs.Pass.{on_event, pass}
use Rattle.tables.specs.Packed.{meanings_of}
use Rattle.static_rules.specs.Meaning.{register_of}
use Rattle.static_rules.specs.Tables.{Tables, meaning_at}
use Rattle.translation.specs.Instructions.{sizes}
use Rattle.translation.specs.Core.{Arms, last, arm, to_register, compare_with, test_of, control_of, core_statement, core_body, core_items, core_choices}
use Rattle.translation.specs.Code.{arm_count, head_size, size_of, arms_size}
use Rattle.emit.specs.declared.Use.TheVariants.{Absent}
use Rattle.emit.specs.declared.Writing.{Writing}
use Rattle.emit.specs.Codes.{list_of, code_size, apply_code, apply_then}
use Rattle.emit.specs.Events.{no_writing, written_after, step_codes, chosen_codes, other_codes, codes_of, writing_after, codes_by}
use Rattle.emit.specs.Along.{depth_after, entry_of, start_after, event_bytes, starts}
use Rattle.code.specs.Places.{placing_of, mark_closing, mark_after, place_event}
use Rattle.emit.proofs.Operands.{Small}
use Rattle.emit.proofs.Events.{declaring}
use Rattle.code.proofs.Declarations.{registers-out, cells_out}
use Rattle.code.proofs.Expressions.{Listing, listing, gather, Quiet, quiet-stays, Walking, place_at, place, stepped, assignment-placed, use-placed, control-placed, condition-placed, limit-placed}
use Rattle.code.proofs.Kept.{event-bytes}
use Rattle.code.proofs.Leaves.{leaves, leaves_body, leaves_items, leaves_choices}

-- ── the addresses by token after a tree whose code starts at p ──

module _ (f : Tables) where
  unfoldable mutual
    pub marks_of : Statement → ℕ → List ℕ → List ℕ
    marks_of (assign a) p ms = ms
    marks_of (call n) p ms = ms
    marks_of (apply n a xs) p ms = ms
    marks_of (block t b) p ms = marks_body b p ms
    marks_of (goto t n) p ms = ms
    marks_of null p ms = ms
    marks_of (if_then t c x) p ms = set (marks_of x (p + (sizes (test_of f c) + 4)) ms) t (p + (sizes (test_of f c) + (4 + size_of (core_statement f x))))
    marks_of (if_else t c x e y) p ms =
        set
        (marks_of y (p + (sizes (test_of f c) + (4 + (size_of (core_statement f x) + 4))))
        (set (marks_of x (p + (sizes (test_of f c) + 4)) ms) t (p + (sizes (test_of f c) + (4 + (size_of (core_statement f x) + 4))))))
        (t + 1) (p + (sizes (test_of f c) + (4 + (size_of (core_statement f x) + (4 + size_of (core_statement f y))))))
    marks_of (while t c x) p ms =
        set (marks_of x (p + (sizes (test_of f c) + 4)) (set ms (t + 1) p)) t (p + (sizes (test_of f c) + (4 + (size_of (core_statement f x) + 4))))
    marks_of (for t a v l x) p ms =
        set
        (marks_of x (p + (sizes (to_register f (control_of f a) a) + (sizes (compare_with f (control_of f a) l) + 4)))
        (set (set ms v (p + sizes (to_register f (control_of f a) a))) (v + 1) (control_of f a)))
        (v - 1) (p + (sizes (to_register f (control_of f a) a) + (sizes (compare_with f (control_of f a) l) + (4 + (size_of (core_statement f x) + 8)))))
    marks_of (choose t n xs) p ms =
        set (marks_choices xs (p + head_size (choices_count xs)) (set ms n (p + head_size (choices_count xs)))) (n + 1) (p + (head_size (choices_count xs) + arms_size (core_choices f xs)))

    pub marks_body : Body → ℕ → List ℕ → List ℕ
    marks_body (declare (registers rs) b) p ms = marks_body b p ms
    marks_body (declare (cells c w is) b) p ms = marks_body b p ms
    marks_body (declare (base n) b) p ms = marks_body b (p + 4) ms
    marks_body (procedure n r x b) p ms =
        marks_body b (p + (4 + (size_of (core_statement f x) + 2)))
        (set (marks_of x (p + 4) (set ms n (p + 4))) (n + 1) (p + (4 + (size_of (core_statement f x) + 2))))
    marks_body (items is) p ms = marks_items is p ms

    pub marks_items : Items → ℕ → List ℕ → List ℕ
    marks_items ended p ms = ms
    marks_items (label l is) p ms = marks_items is p (set ms l p)
    marks_items (item x is) p ms = marks_items is (p + size_of (core_statement f x)) (marks_of x p ms)

    pub marks_choices : Choices → ℕ → List ℕ → List ℕ
    marks_choices over p ms = ms
    marks_choices (choice x xs) p ms = marks_choices xs (p + (size_of (core_statement f x) + 4)) (marks_of x p ms)

-- ── along the tape ──

-- what names mean are registers 0 to 15, if any
abbrev pub Held : Tables → Type 0
Held f = (t : ℕ) → register_of (meaning_at f t) < 16

-- ── the statements of a CASE ──

pub arms_counted : (f : Tables) (xs : Choices) → arm_count (core_choices f xs) ≡ choices_count xs
unfolding core_statement
arms_counted f over = refl
arms_counted f (choice x xs) = ap (λ (n : ℕ). n + 1) (arms_counted f xs)

-- where they start, the first at p
unfoldable pub starts_of : Arms → ℕ → List ℕ
starts_of last p = []
starts_of (arm c xs) p = p ∷ starts_of xs (p + (size_of c + 4))

abbrev seen_in : Listing → List ℕ
seen_in (listing d from seen) = seen

either : (F : Listing → List ℕ) (seen : List ℕ) (b : Bool) (g h : Listing) (k l : List ℕ) → (b ≡ true → F g ≡ seen ++ k) → (b ≡ false → F h ≡ seen ++ l)
    → F (whether b then g else h) ≡ seen ++ (whether b then k else l)
either F seen true g h k l e q = e refl
either F seen false g h k l e q = q refl

-- what is passed behind them
abbrev gather_arms : Arms → ℕ → Listing → Listing
gather_arms last p g = g
gather_arms (arm c xs) p g = gather_arms xs (p + (size_of c + 4)) (gather E.END-CHOICE (p + (size_of c + 4)) g)

-- of a CASE inside: nothing
abbrev inner : Listing → Listing
inner (listing d from seen) = whether eqb d 0 then listing d from seen else listing (d + 1) from seen

inner-is : (to : ℕ) (g : Listing) → gather E.CHOSEN to g ≡ inner g
inner-is to (listing d from seen) = rw (append-nil seen)

outer-is : (to : ℕ) (g : Listing) → gather E.END-CASE to (inner g) ≡ g
outer-is to (listing zero from seen) = refl
outer-is to (listing (suc d) from seen) =
    let x : eqb (suc d) 0 ≡ false = ne_eqb (suc d) 0 (λ e. omega arith) in
    let y : eqb (suc d + 1) 0 ≡ false = ne_eqb (suc d + 1) 0 (λ e. omega arith) in
    let z : suc d + 1 - 1 ≡ suc d = omega arith in
    rw (x, y, z, append-nil seen)

inner-passes : (to : ℕ) (g : Listing) → gather E.END-CHOICE to (inner g) ≡ inner g
inner-passes to (listing zero from seen) = refl
inner-passes to (listing (suc d) from seen) =
    let x : eqb (suc d) 0 ≡ false = ne_eqb (suc d) 0 (λ e. omega arith) in
    let y : eqb (suc d + 1) 0 ≡ false = ne_eqb (suc d + 1) 0 (λ e. omega arith) in
    let z : eqb (suc d + 1) 1 ≡ false = ne_eqb (suc d + 1) 1 (λ e. omega arith) in
    rw (x, y, z, append-nil seen)

inner_arms : (xs : Arms) (p : ℕ) (g : Listing) → gather_arms xs p (inner g) ≡ inner g
inner_arms last p g = refl
inner_arms (arm c xs) p g = ap (gather_arms xs (p + (size_of c + 4))) (inner-passes (p + (size_of c + 4)) g) ∙ inner_arms xs (p + (size_of c + 4)) g

-- of the CASE itself: where each starts
own-arms : (xs : Arms) (p : ℕ) (seen : List ℕ) → gather_arms xs p (listing 1 p seen) ≡ listing 1 (p + arms_size xs) (seen ++ starts_of xs p)
unfolding starts_of size_of
own-arms last p seen = let e : p + 0 ≡ p = omega arith in rw (e, append-nil seen)
own-arms (arm c xs) p seen =
    let q = p + (size_of c + 4) in
    let e : q + arms_size xs ≡ p + (size_of c + (4 + arms_size xs)) = omega arith in
    own-arms xs q (seen ++ (p ∷ [])) ∙ rw (e, append_assoc seen (p ∷ []) (starts_of xs q))

module _ (f : Tables) (means under offsets : List ℕ) where
  abbrev at : ℕ → Writing → List ℕ → Listing → List ℕ → Walking
  at p w ms g k = place f means under offsets p w ms g k

  -- an event of n bytes, none of a CASE's, that changes the addresses to what `marked` says by the address behind it
  on : (op t p n q : ℕ) (w : Writing) (ms : List ℕ) (marked : ℕ → List ℕ) (g : Listing) (k : List ℕ) → Quiet (family_at (op % E.EVENTS))
      → place_at f means under offsets (op % E.EVENTS) t (placing_of p w ms) ≡ placing_of (p + n) w (marked (p + n)) → p + n ≡ q → at p w ms g (event op t ∷ k) ≡ at q w (marked q) g k
  on op t p n q w ms marked g k h e i =
      stepped f means under offsets op t p n q w w ms marked g k e i ∙ ap (λ (x : Listing). at q w (marked q) x k) (quiet-stays (family_at (op % E.EVENTS)) q g h)

  -- the same address, in other words
  moved : (p q : ℕ) (w : Writing) (ms : List ℕ) (g : Listing) (k : List ℕ) → p ≡ q → at p w ms g k ≡ at q w ms g k
  moved p q w ms g k e = ap (λ (m : ℕ). at m w ms g k) e

  -- ── declarations ──

  still : (p : ℕ) (w : Writing) (ms : List ℕ) (g : Listing) (t : ℕ) (k : List ℕ) → All (λ (op : ℕ). at p w ms g (event op t ∷ k) ≡ at p w ms g k) declaring
  unfolding place_event list_of form_at other_codes codes_of codes_by written_after writing_after code_size mark_after mark_closing
  still p w ms g t k =
      all_of (λ (op : ℕ). at p w ms g (event op t ∷ k) ≡ at p w ms g k) declaring
      (λ op i. let h = all_in Still declaring each-still op i in on op t p 0 p w ms (λ q. ms) g k h.0 h.1 (omega arith))
    where
      Still : ℕ → Type 0
      Still op = Quiet (family_at (op % E.EVENTS)) × (place_at f means under offsets (op % E.EVENTS) t (placing_of p w ms) ≡ placing_of (p + 0) w ms)

      each-still : All Still declaring
      each-still = (
        ((refl, refl, refl), refl),
        (
          ((refl, refl, refl), refl),
          (
            ((refl, refl, refl), refl),
            (
              ((refl, refl, refl), refl),
              (
                ((refl, refl, refl), refl),
                (
                  ((refl, refl, refl), refl),
                  (((refl, refl, refl), refl), (((refl, refl, refl), refl), (((refl, refl, refl), refl), (((refl, refl, refl), refl), (((refl, refl, refl), refl), tt))))),
                ),
              ),
            ),
          ),
        ),
      )

  -- ── statements ──

  module _ (table : f.means ≡ meanings_of means under) (small : Small f) (held : Held f) where
    mutual
      unfolding is_statement tape_statement tape_declaration core_statement size_of leaves marks_of place_event list_of form_at other_codes step_codes chosen_codes codes_of codes_by
          apply_then apply_code written_after writing_after code_size mark_after mark_closing

      pub place-statement : (x : Statement) (i j : ℕ) → is_statement f.kinds x i j → (p : ℕ) (w : Writing) (ms : List ℕ) (g : Listing) (k : List ℕ)
          → at p w ms g (tape_statement x k) ≡ at (p + size_of (core_statement f x)) (leaves f means under offsets x w) (marks_of f x p ms) g k
      place-statement (assign a) i j h p w ms g k = assignment-placed f means under offsets table small a i j h p w ms g k
      place-statement (call n) i j h p w ms g k = on E.CALL n p 4 _ w ms (λ q. ms) g k (refl, refl, refl) refl refl
      place-statement (apply n a xs) i j (e, _, h) p w ms g k =
          use-placed f means under offsets table small n a xs j (subst (λ (q : ℕ). are_arguments f.kinds (a ∷ xs) (q + 1) j) (sym e) h) p w ms g k
      place-statement (block t b) i j h p w ms g k =
          on E.BLOCK t p 0 p w ms (λ q. ms) g _ (refl, refl, refl) refl (omega arith) ∙ (place-body b _ _ h.2 p w ms g _ ∙ on E.END-BLOCK t _ 0 _ _ _ (λ q. marks_body f b p ms) g k (refl, refl, refl) refl (omega arith))
      place-statement (goto t n) i j h p w ms g k = on E.GOTO n p 4 _ w ms (λ q. ms) g k (refl, refl, refl) refl refl
      place-statement null i j h p w ms g k = moved p _ w ms g k (omega arith)
      place-statement (if_then t c x) i j h p w ms g k =
          condition-placed f means under offsets table small c _ _ h.2.1 p w ms g _
          ∙ (place-statement x _ _ h.2.2.1 _ w ms g _
          ∙ on E.END-IF t _ 0 _ _ _ (λ q. set (marks_of f x (p + (sizes (test_of f c) + 4)) ms) t q) g k (refl, refl, refl) refl (omega arith))
      place-statement (if_else t c x e y) i j h p w ms g k =
          let q1 = p + (sizes (test_of f c) + 4) in
          let q2 = p + (sizes (test_of f c) + (4 + (size_of (core_statement f x) + 4))) in
          condition-placed f means under offsets table small c _ _ h.2.1 p w ms g _
          ∙ (place-statement x _ _ h.2.2.1.1.1 q1 w ms g _
          ∙ (on E.ELSE t _ 4 q2 _ _ (λ q. set (marks_of f x q1 ms) t q) g _ (refl, refl, refl) refl (omega arith)
          ∙ (place-statement y _ _ h.2.2.1.2.2 q2 _ _ g _
          ∙ on E.END-ELSE t _ 0 _ _ _ (λ q. set (marks_of f y q2 (set (marks_of f x q1 ms) t q2)) (t + 1) q) g k (refl, refl, refl) refl (omega arith))))
      place-statement (while t c x) i j h p w ms g k =
          let q1 = p + (sizes (test_of f c) + 4) in
          on E.WHILE t p 0 p w ms (λ q. set ms (t + 1) p) g _ (refl, refl, refl) refl (omega arith)
          ∙ (condition-placed f means under offsets table small c _ _ h.2.1 p w _ g _
          ∙ (place-statement x _ _ h.2.2.1 q1 w _ g _
          ∙ on E.END-WHILE t _ 4 _ _ _ (λ q. set (marks_of f x q1 (set ms (t + 1) p)) t q) g k (refl, refl, refl) refl (omega arith)))
      place-statement (for t a v l x) i j h p w ms g k =
          let e : v ≡ h.2.0 + 1 = h.2.2.1.0 in
          let q0 = p + sizes (to_register f (control_of f a) a) in
          let q1 = p + (sizes (to_register f (control_of f a) a) + (sizes (compare_with f (control_of f a) l) + 4)) in
          control-placed f means under offsets table small a _ _ h.2.1 p w ms g _
          ∙ (limit-placed f means under offsets table small a l v h.2.2.1.2.1.0 (held a.target.name)
          (subst (λ (q : ℕ). is_operand f.kinds l q h.2.2.1.2.1.0) (omega arith) h.2.2.1.2.1.1) q0 _ refl ms g _
          ∙ (moved _ q1 _ _ g _ (omega arith)
          ∙ (place-statement x _ _ h.2.2.1.2.1.2.1 q1 _ _ g _
          ∙ on E.END-FOR v _ 8 _ _ _ (λ q. set (marks_of f x q1 (set (set ms v q0) (v + 1) (control_of f a))) (v - 1) q) g k (refl, refl, refl) refl (omega arith))))
      place-statement (choose t n xs) i j h p w ms g k =
          let c = choices_count xs in
          let arms = core_choices f xs in
          let w' : Writing = record { aim = Absent; sign = P.None; arguments = c } in
          let w'' : Writing = leaves_choices f means under offsets xs no_writing in
          let q = p + head_size c in
          let end = p + (head_size c + arms_size arms) in
          let last : List ℕ = event E.END-CASE n ∷ k in
          let list : List ℕ = tape_choices n xs last in
          let m1 = set ms n q in
          let m2 = marks_choices f xs q m1 in
          stepped f means under offsets E.LISTED c p 0 p w w' ms (λ m. ms) g (event E.CHOSEN n ∷ list) refl (omega arith)
          ∙ (ap (λ (x : Listing). at p w' ms x (event E.CHOSEN n ∷ list)) (quiet-stays E.LISTED p g (refl, refl, refl))
          ∙ (stepped f means under offsets E.CHOSEN n p (head_size c) q w' no_writing ms (λ m. set ms n m) g list refl refl
          ∙ (ap (λ (x : Listing). at q no_writing m1 x list) (inner-is q g)
          ∙ (place-choices n xs _ _ h.2.2.1.1 q no_writing m1 (inner g) last
          ∙ (ap (λ (x : Listing). at (q + arms_size arms) w'' m2 x last) (inner_arms arms q g)
          ∙ (stepped f means under offsets E.END-CASE n (q + arms_size arms) 0 end w'' w'' m2 (λ m. set m2 (n + 1) m) (inner g) k refl (omega arith)
          ∙ (ap (λ (x : Listing). at end w'' (set m2 (n + 1) end) x k) (outer-is end g)
          ∙ moved end (p + (head_size (arm_count arms) + arms_size arms)) w'' (set m2 (n + 1) end) g k (rw (arms_counted f xs)))))))))

      pub place-body : (b : Body) (i j : ℕ) → is_body f.kinds b i j → (p : ℕ) (w : Writing) (ms : List ℕ) (g : Listing) (k : List ℕ)
          → at p w ms g (tape_body b k) ≡ at (p + size_of (core_body f b)) (leaves_body f means under offsets b w) (marks_body f b p ms) g k
      place-body (declare (registers rs) b) i j h p w ms g k = registers-out (at p w ms g) (still p w ms g) rs _ ∙ place-body b _ _ h.2.1 p w ms g k
      place-body (declare (cells c s is) b) i j h p w ms g k = cells_out (at p w ms g) (still p w ms g) c s is _ ∙ place-body b _ _ h.2.1 p w ms g k
      place-body (declare (base n) b) i j h p w ms g k =
          on E.BASE n p 4 (p + 4) w ms (λ q. ms) g _ (refl, refl, refl) refl refl ∙ (place-body b _ _ h.2.1 (p + 4) w ms g k ∙ moved _ _ _ _ g k (omega arith))
      place-body (procedure n r x b) i j h p w ms g k =
          let q = p + (4 + (size_of (core_statement f x) + 2)) in
          on E.PROCEDURE n p 4 (p + 4) w ms (λ m. set ms n m) g _ (refl, refl, refl) refl refl
          ∙ (place-statement x _ _ h.1.1.2.1.2.1.1 (p + 4) w _ g _
          ∙ (on E.END-PROCEDURE n _ 2 q _ _ (λ m. set (marks_of f x (p + 4) (set ms n (p + 4))) (n + 1) m) g _ (refl, refl, refl) refl (omega arith)
          ∙ (place-body b _ _ h.2.1 q _ _ g k ∙ moved _ _ _ _ g k (omega arith))))
      place-body (items is) i j h p w ms g k = place-items is i j h p w ms g k

      pub place-items : (is : Items) (i j : ℕ) → is_items f.kinds is i j → (p : ℕ) (w : Writing) (ms : List ℕ) (g : Listing) (k : List ℕ)
          → at p w ms g (tape_items is k) ≡ at (p + size_of (core_items f is)) (leaves_items f means under offsets is w) (marks_items f is p ms) g k
      place-items ended i j h p w ms g k = moved p _ w ms g k (omega arith)
      place-items (label l is) i j h p w ms g k = on E.LABEL l p 0 p w ms (λ q. set ms l p) g _ (refl, refl, refl) refl (omega arith) ∙ place-items is _ _ h.2.1 p w _ g k
      place-items (item x is) i j h p w ms g k =
          place-statement x _ _ h.1 p w ms g _ ∙ (place-items is _ _ h.2.1 _ _ _ g k ∙ moved _ _ _ _ g k (omega arith))

      place-choices : (t : ℕ) (xs : Choices) (i j : ℕ) → are_choices f.kinds xs i j → (p : ℕ) (w : Writing) (ms : List ℕ) (g : Listing) (k : List ℕ)
          → at p w ms g (tape_choices t xs k)
          ≡ at (p + arms_size (core_choices f xs)) (leaves_choices f means under offsets xs w) (marks_choices f xs p ms) (gather_arms (core_choices f xs) p g) k
      place-choices t over i j h p w ms g k = moved p _ w ms g k (omega arith)
      place-choices t (choice x xs) i j h p w ms g k =
          let q = p + (size_of (core_statement f x) + 4) in
          let w' = leaves f means under offsets x w in
          let m1 = marks_of f x p ms in
          let rest = tape_choices t xs k in
          place-statement x _ _ h.1 p w ms g (event E.END-CHOICE t ∷ rest)
          ∙ (stepped f means under offsets E.END-CHOICE t (p + size_of (core_statement f x)) 4 q w' w' m1 (λ m. m1) g rest refl (omega arith)
          ∙ (place-choices t xs _ _ h.2.1 q w' m1 (gather E.END-CHOICE q g) k ∙ moved _ _ _ _ _ k (omega arith)))

    -- ── where the statements of a CASE start, as the code pass finds them ──

    module _ (marks : List ℕ) where
      abbrev starts_along : (depth from p : ℕ) → Writing → List ℕ → List ℕ
      starts_along d from p w es = starts f.kinds f.values f.found f.goes means under f.opens offsets marks d from p w es

      -- behind the CASE nothing more is found
      none-behind : (es : List ℕ) (d from p : ℕ) (w : Writing) → eqb d 0 ≡ true → starts_along d from p w es ≡ []
      unfolding starts
      none-behind [] d from p w h = refl
      none-behind (e ∷ es) d from p w h = rw h

      -- what is seen along a tape: what was, and what the code pass finds
      seen-is : (es : List ℕ) (p : ℕ) (w : Writing) (ms : List ℕ) (d from : ℕ) (seen : List ℕ) → seen_in (at p w ms (listing d from seen) es).list ≡ seen ++ starts_along d from p w es
      unfolding starts pass fold on_event place_event
      seen-is [] p w ms d from seen = sym (append-nil seen)
      seen-is (e ∷ es) p w ms d from seen =
          let op = e % E.EVENTS in
          let t = e / E.EVENTS in
          let size = event-bytes f.kinds f.values f.found f.goes means under f.opens offsets ms marks op t w in
          let q = p + event_bytes f.kinds f.values f.found f.goes means under f.opens offsets ms op t w in
          let v = writing_after f.values f.found means under offsets op t w in
          let ms' = mark_after (family_at op) t p q w.aim ms in
          let entry = entry_of (family_at op) d from in
          let from' = start_after (family_at op) d from q in
          rw (← size)
          (either (λ g. seen_in (at q v ms' g es).list) seen (eqb d 0) _ _ _ _ (λ h. seen-is es q v ms' d from seen ∙ ap (λ (l : List ℕ). seen ++ l) (none-behind es d from q v h))
          (λ h. seen-is es q v ms' (depth_after (family_at op) d) from' (seen ++ entry) ∙ append_assoc seen entry (starts_along (depth_after (family_at op) d) from' q v es)))

      pub starts-choices : (t : ℕ) (xs : Choices) (i j : ℕ) → are_choices f.kinds xs i j → (p : ℕ) (w : Writing) (k : List ℕ)
          → starts_along 1 p p w (tape_choices t xs (event E.END-CASE t ∷ k)) ≡ starts_of (core_choices f xs) p
      unfolding starts place_event list_of form_at other_codes codes_of codes_by written_after writing_after code_size mark_after mark_closing
      starts-choices t xs i j h p w k =
          let arms = core_choices f xs in
          let q = p + arms_size arms in
          let found = starts_of arms p in
          let w' : Writing = leaves_choices f means under offsets xs w in
          let m1 = marks_choices f xs p [] in
          let last : List ℕ = event E.END-CASE t ∷ k in
          sym (seen-is (tape_choices t xs last) p w [] 1 p [])
          ∙ (ap (λ (s : Walking). seen_in s.list)
          (place-choices t xs i j h p w [] (listing 1 p []) last
          ∙ (ap (λ (g : Listing). at q w' m1 g last) (own-arms arms p [])
          ∙ stepped f means under offsets E.END-CASE t q 0 q w' w' m1 (λ m. set m1 (t + 1) m) (listing 1 q found) k refl (omega arith)))
          ∙ (seen-is k q w' (set m1 (t + 1) q) 0 q (found ++ [])
          ∙ (ap (λ (l : List ℕ). (found ++ []) ++ l) (none-behind k 0 q q w' refl) ∙ (append-nil (found ++ []) ∙ append-nil found))))
