-- Over the tape of an assignment, a use, a condition or a FOR's limit the address grows by the size of the definition's instructions; a limit sets the place of its
-- compare and its control register. Beside the addresses goes what is passed of a CASE (`Listing`), which these leave as it is. Assumes nothing.
use mathlib.Core.Path.{◌≡◌, refl, sym, ap, ◌∙◌}
use mathlib.Core.Bool.{Bool, true, false}
use mathlib.Core.List.{List, [], ◌∷◌, ◌++◌, append-nil}
use Prim.Native.Nat.{ℕ, ◌+◌, ◌-◌, ◌/◌, ◌%◌, ◌<◌}
use native.Mathlib.Omega.{arith}
use lib.Dec.{eqb}
use lib.ListN.{get_or, set}
use Rattle.base.specs.Choose.{whether◌then◌else◌}
use Rattle.base.specs.Lists.{member}
use Rattle.base.proofs.Lists.{each}
use Rattle.grammar.specs.Tree.{Operand, Assignment, Condition}
use Rattle.grammar.specs.Derives.{is_operand, is_condition, is_assignment, are_arguments}
use Rattle.grammar.specs.Pinned.{head_of}
use Rattle.grammar.proofs.Pinned.{pinned-operand}
use Rattle.tape.specs.Events as E
use Rattle.tape.specs.Numbers.{family_at, form_at}
use Rattle.tape.specs.Tape.{event, tape_operand, tape_condition, tape_each, tape_assignment, tape_argument}
use Rattle.base.specs.Walk.{fold}
use Rattle.tape.specs.Pass.{on_event, pass}
use Rattle.tape.proofs.Pass.{pass-event}
use Rattle.static_rules.specs.Meaning.{function_of}
use Rattle.static_rules.specs.Tables.{Tables, value_at, meaning_at}
use Rattle.tables.specs.Packed.{meanings_of, register_in, packed_at}
use Rattle.translation.specs.Instructions.{sizes}
use Rattle.translation.specs.Core.{exit_mask, to_register, assignment_of, compare_with, test_of, mask_of, control_of, function_code}
use Rattle.emit.specs.declared.Use.{Use}
use Rattle.emit.specs.declared.Writing.{Writing}
use Rattle.emit.specs.Codes.{code_sizes, held_in}
use Rattle.emit.specs.Events.{no_writing, table_bytes}
use Rattle.emit.specs.Along.{depth_after, entry_of, start_after, target_writing, control_writing}
use Rattle.emit.proofs.Operands.{Small, shape_of, by_shape, operand-tape, register-at}
use Rattle.emit.proofs.Sizes.{sizes-append, coded-sizes, tested-size}
use Rattle.emit.proofs.Walks.{unmarking, made, after, Walk, limit-makes, assignment-walked, control-walked, use-walked, condition-walked}
use Rattle.code.specs.Places.{whole, kept, mark_limit, mark_closing, mark_after, Placing, placing_of, place_event}
use Rattle.code.proofs.Kept.{kept-is}
use Rattle.code.proofs.Placing.{place_is}

unmarked-stays : (family t from to : ℕ) (aim : Use) (marks : List ℕ) → member family unmarking ≡ true → marks ≡ mark_after family t from to aim marks
unfolding mark_after mark_closing
unmarked-stays family t from to aim marks q =
    each (λ (x : ℕ). marks ≡ mark_after x t from to aim marks) unmarking (refl, (refl, (refl, (refl, (refl, (refl, (refl, (refl, (refl, (refl, (refl, (refl, tt)))))))))))) family q

-- two tokens behind its STEP's number v
limit-marked :
    (l : Operand) (v p to r : ℕ) (aim : Use) (ms : List ℕ) → head_of l ≡ v + 2 → kept (held_in aim) ≡ r
    → set (set ms v p) (v + 1) r ≡ mark_after (family_at ((E.LIMIT + shape_of l) % E.EVENTS)) (head_of l) p to aim ms
unfolding form_at mark_after mark_limit
limit-marked l v p to r aim ms e s =
    let at : head_of l - 2 ≡ v = omega arith in
    let next : head_of l - 1 ≡ v + 1 = omega arith in
    let here : set (set ms v p) (v + 1) r ≡ mark_limit (head_of l) p aim ms = rw (s, at, next) in
    here ∙ by_shape (λ x. mark_limit (head_of l) p aim ms ≡ mark_after (family_at ((E.LIMIT + x) % E.EVENTS)) (head_of l) p to aim ms) refl refl refl refl refl l

-- ── the statements of a CASE that are passed ──

-- inside how many CASEs, 0 behind the one at hand; where the statement at hand starts, and where those before it do
pub data Listing : Type 0 where
  listing : (depth from : ℕ) (seen : List ℕ) → Listing

-- an event, with the address behind it
abbrev pub gather : (family to : ℕ) → Listing → Listing
gather family to (listing d from seen) =
    whether eqb d 0 then listing d from seen else listing (depth_after family d) (start_after family d from to) (seen ++ entry_of family d from)

-- families that are none of a CASE's
abbrev pub Quiet : ℕ → Type 0
Quiet family = (eqb family E.CHOSEN ≡ false) × (eqb family E.END-CASE ≡ false) × (eqb family E.END-CHOICE ≡ false)

pub quiet-stays : (family to : ℕ) (g : Listing) → Quiet family → gather family to g ≡ g
quiet-stays family to (listing d from seen) h = rw (h.0, h.1, h.2, append-nil seen) (go (eqb d 0))
  where
    go : (b : Bool) → (whether b then listing d from seen else listing d from seen) ≡ listing d from seen
    go true = refl
    go false = refl

unmarked-quiet : (family : ℕ) → member family unmarking ≡ true → Quiet family
unmarked-quiet family q =
    each Quiet unmarking (
      (refl, refl, refl),
      (
        (refl, refl, refl),
        (
          (refl, refl, refl),
          (
            (refl, refl, refl),
            (
              (refl, refl, refl),
              (
                (refl, refl, refl),
                (
                  (refl, refl, refl),
                  (
                    (refl, refl, refl),
                    (
                      (refl, refl, refl),
                      ((refl, refl, refl), ((refl, refl, refl), ((refl, refl, refl), tt))),
                    ),
                  ),
                ),
              ),
            ),
          ),
        ),
      ),
    )
    family q

-- addresses, and what is passed of a CASE
pub record Walking : Type 0 where
  pub placing : Placing
  pub list : Listing

module _ (f : Tables) (means under offsets : List ℕ) where
  abbrev pub place_at : (op t : ℕ) → Placing → Placing
  place_at = place_event whole f.kinds f.values f.found f.goes means under f.opens offsets

  abbrev pub walk_at : (op t : ℕ) → Walking → Walking
  walk_at op t s = record { placing = place_at op t s.placing; list = gather (family_at op) (place_at op t s.placing).at s.list }

  abbrev pub place : (p : ℕ) → Writing → (marks : List ℕ) → Listing → (tape : List ℕ) → Walking
  place p w ms g tape = pass walk_at (record { placing = placing_of p w ms; list = g }) tape

  -- the addresses, whatever is passed
  pub place-alone : (tape : List ℕ) (p : ℕ) (w : Writing) (ms : List ℕ) (g : Listing) → pass place_at (placing_of p w ms) tape ≡ (place p w ms g tape).placing
  unfolding pass fold on_event
  place-alone tape p w ms g = along tape (placing_of p w ms) g
    where
      along : (tape : List ℕ) (s : Placing) (g : Listing) → pass place_at s tape ≡ (pass walk_at (record { placing = s; list = g }) tape).placing
      along [] s g = refl
      along (e ∷ es) s g = along es (place_at (e % E.EVENTS) (e / E.EVENTS) s) _

  -- an event, by the addresses after it
  pub stepped :
      (op t p n q : ℕ) (w w' : Writing) (ms : List ℕ) (marked : ℕ → List ℕ) (g : Listing) (k : List ℕ) → place_at (op % E.EVENTS) t (placing_of p w ms) ≡ placing_of (p + n) w' (marked (p + n))
      → p + n ≡ q → place p w ms g (event op t ∷ k) ≡ place q w' (marked q) (gather (family_at (op % E.EVENTS)) q g) k
  stepped op t p n q w w' ms marked g k e h =
      pass-event walk_at op t (record { placing = placing_of p w ms; list = g }) k
      ∙ (ap (λ (x : Placing). pass walk_at (record { placing = x; list = gather (family_at (op % E.EVENTS)) x.at g }) k) e
      ∙ ap (λ (m : ℕ). place m w' (marked m) (gather (family_at (op % E.EVENTS)) m g) k) h)

  -- one that is none of a CASE's, by the size of what it makes
  pub event-placed :
      (op t p z : ℕ) (w : Writing) (ms : List ℕ) (g : Listing) {w' : Writing} {ms' : List ℕ} (k : List ℕ) → Quiet (family_at (op % E.EVENTS))
      → z ≡ code_sizes (made f means under offsets ms (op % E.EVENTS) t w) → ms' ≡ mark_after (family_at (op % E.EVENTS)) t p (p + z) w.aim ms
      → w' ≡ after f means under offsets ms (op % E.EVENTS) t w → place p w ms g (event op t ∷ k) ≡ place (p + z) w' ms' g k
  event-placed op t p z w ms g {w'} {ms'} k h ez ek ew =
      let size : z ≡ code_sizes (made f means under offsets ms (op % E.EVENTS) t w) + table_bytes (family_at (op % E.EVENTS)) w = rw h.0 (omega arith) in
      stepped op t p z (p + z) w w' ms (λ q. ms') g k
      (sym (place_is whole f.kinds f.values f.found f.goes means under f.opens offsets ms (op % E.EVENTS) t p w (ap (λ (n : ℕ). p + n) size) ek ew)) refl
      ∙ ap (λ (x : Listing). place (p + z) w' ms' x k) (quiet-stays (family_at (op % E.EVENTS)) (p + z) g h)

  placing : (ms : List ℕ) (g : Listing) → Walk f means under offsets ms ℕ Walking
  placing ms g = record {
    emit = λ cs p. p + code_sizes cs;
    run = λ p w k. place p w ms g k;
    emit-none = λ p. omega arith;
    emit-both = λ a b p. omega (arith, sizes-append a b);
    on = λ op t q p w k. event-placed op t p _ w ms g k (unmarked-quiet (family_at (op % E.EVENTS)) q) refl (unmarked-stays (family_at (op % E.EVENTS)) t p _ w.aim ms q) refl;
  }

  module _ (table : f.means ≡ meanings_of means under) (small : Small f) where
    pub assignment-placed :
        (a : Assignment) (i j : ℕ) → is_assignment f.kinds a i j → (p : ℕ) (w : Writing) (ms : List ℕ) (g : Listing) (k : List ℕ)
        → place p w ms g (tape_assignment E.TARGET a k) ≡ place (p + sizes (assignment_of f a)) (target_writing f.values f.found means under offsets a) ms g k
    unfolding placing
    assignment-placed a i j h p w ms g k =
        assignment-walked f means under offsets ms table small (placing ms g) a i j h p w k
        ∙ ap (λ (n : ℕ). place (p + n) (target_writing f.values f.found means under offsets a) ms g k) (coded-sizes offsets (assignment_of f a))

    pub control-placed :
        (a : Assignment) (i j : ℕ) → is_assignment f.kinds a i j → (p : ℕ) (w : Writing) (ms : List ℕ) (g : Listing) (k : List ℕ)
        → place p w ms g (tape_assignment E.CONTROL a k) ≡ place (p + sizes (to_register f (control_of f a) a)) (control_writing f.found means a) ms g k
    unfolding placing
    control-placed a i j h p w ms g k =
        control-walked f means under offsets ms table small (placing ms g) a i j h p w k
        ∙ ap (λ (n : ℕ). place (p + n) (control_writing f.found means a) ms g k) (coded-sizes offsets (to_register f (control_of f a) a))

    pub use-placed :
        (n : ℕ) (a : Operand) (xs : List Operand) (j : ℕ) → are_arguments f.kinds (a ∷ xs) (n + 1) j → (p : ℕ) (w : Writing) (ms : List ℕ) (g : Listing) (k : List ℕ)
        → place p w ms g (event E.APPLIED n ∷ tape_each tape_argument (a ∷ xs) (event E.COUNTED n ∷ k)) ≡ place (p + sizes (function_code f (function_of (meaning_at f n)) a xs)) no_writing ms g k
    unfolding placing
    use-placed n a xs j h p w ms g k =
        use-walked f means under offsets ms table small (placing ms g) n a xs j h p w k
        ∙ ap (λ (n : ℕ). place (p + n) no_writing ms g k) (coded-sizes offsets (function_code f (function_of (meaning_at f n)) a xs))

    pub condition-placed :
        (c : Condition) (i j : ℕ) → is_condition f.kinds c i j → (p : ℕ) (w : Writing) (ms : List ℕ) (g : Listing) (k : List ℕ)
        → place p w ms g (tape_condition c k) ≡ place (p + (sizes (test_of f c) + 4)) w ms g k
    unfolding placing
    condition-placed c i j h p w ms g k =
        condition-walked f means under offsets ms table small (placing ms g) c i j h p w k
        ∙ ap (λ (n : ℕ). place (p + n) w ms g k) (tested-size offsets (test_of f c) (mask_of f c) (get_or ms (i - 1) 0))

    pub limit-placed :
        (a : Assignment) (l : Operand) (v j : ℕ) → control_of f a < 16 → is_operand f.kinds l (v + 2) j → (p : ℕ) (w : Writing) → w ≡ control_writing f.found means a → (ms : List ℕ) (g : Listing) (k : List ℕ)
        → place p w ms g (tape_operand E.LIMIT l k)
        ≡ place (p + (sizes (compare_with f (control_of f a) l) + 4)) w (set (set ms v p) (v + 1) (control_of f a)) g k
    unfolding control_writing held_in form_at
    limit-placed a l v j small-control h p w e ms g k =
        let (m, u) = limit-makes f means under offsets ms table small v l j h w in
        let n = a.target.name in
        let q : held_in w.aim ≡ register_in (packed_at f.found means n) = ap (λ (x : Writing). held_in x.aim) e in
        let r : held_in w.aim ≡ control_of f a = q ∙ register-at f means under table n in
        let s : kept (held_in w.aim) ≡ control_of f a = ap kept r ∙ kept-is (control_of f a) (omega arith) in
        ap (place p w ms g) (operand-tape E.LIMIT l k)
        ∙ event-placed (E.LIMIT + shape_of l) (head_of l) p (sizes (compare_with f (control_of f a) l) + 4) w ms g k (by_shape (λ x. Quiet (family_at ((E.LIMIT + x) % E.EVENTS))) (refl, refl, refl) (refl, refl, refl) (refl, refl, refl) (refl, refl, refl) (refl, refl, refl) l)
        (sym (ap code_sizes m ∙ (tested-size offsets (compare_with f (held_in w.aim) l) (exit_mask (value_at f v)) (get_or ms (v - 1) 0) ∙ ap (λ (x : ℕ). sizes (compare_with f x l) + 4) r)))
        (limit-marked l v p _ (control_of f a) w.aim ms (pinned-operand f.kinds l (v + 2) j h).0 s) (sym u)
