-- What holds where a run of an accepted program ends, from the invariant: the instruction at the counter, its operand, what did not change, how it stopped.
use mathlib.Core.Path.{◌≡◌, refl, sym, ap, ap₂, subst, ◌∙◌}
use mathlib.Core.Logic.{◌⊎◌, inl, inr}
use mathlib.Core.List.{List, [], ◌∷◌}
use mathlib.Core.Option.{some}
use Prim.Native.Nat.{ℕ, zero, suc, ◌+◌, ◌-◌, ◌%◌, ◌^◌, ◌≤◌, ◌<◌}
use native.Mathlib.Omega.{arith}
use lib.ListN.{length, get_or, take}
use Rattle.base.specs.Lists.{◌∈◌}
use Rattle.token.specs.declared.Token.{Token}
use Rattle.grammar.specs.Tree.{Statement}
use Rattle.static_rules.specs.Registers.{Registers}
use Rattle.static_rules.specs.Meanings.{data_base}
use Rattle.objtext.specs.Object.{Segment, Object}
use Rattle.objtext.specs.Reader.{read_object}
use Rattle.machine.specs.Space.{Space, room, origin, needed, writable}
use Rattle.machine.specs.Step.{Cpu}
use Rattle.machine.specs.Run.{Result, budget_used, run}
use Rattle.machine.proofs.Effects.{Changes}
use Rattle.runner.specs.Load.{loaded, space_of, started}
use Rattle.translation.specs.Instructions.{Instruction, stop, size, sizes, link, indexed}
use Rattle.translation.specs.Core.{Core, core_statement}
use Rattle.translation.specs.Code.{size_of, instructions}
use Rattle.translation.specs.Layout.{Layout, segment_limit, literals_from}
use Rattle.translation.specs.Image.{segments}
use Rattle.translation.specs.Translate.{Made, make}
use Rattle.translation.proofs.Sizes.{sizes-instructions}
use Rattle.translation.proofs.Images.{Fitting}
use Rattle.join.specs.Writes.{writes}
use Rattle.join.specs.Points as P
use Rattle.join.specs.Points.{Within, Point, Placed, start}
use Rattle.join.specs.Operands.{Named, Indexed}
use Rattle.join.specs.Programs.{At, Fixed, Stops, CalledFrom, Meets}
use Rattle.join.proofs.Placement.{Laid, Stands, stands, laid-program, program-code}
use Rattle.join.proofs.Safe.{Safe}
use Rattle.join.proofs.Chosen.{reg}
use Rattle.join.proofs.ChainMoves.{chain-holds, chain-return}
use Rattle.join.proofs.Step.{InStorage, Inv, Allowed, guarded, operand-named, meets-table, stop-last, two-or-more}
use Rattle.join.proofs.Runs.{Ends, run-fine}
use Rattle.join.proofs.Start.{in-storage, begins}

-- ── places in a row of instructions ──

no-sizes : (is : List Instruction) → sizes is ≡ 0 → length is ≡ 0
no-sizes [] h = refl
no-sizes (i ∷ is) h = absurd (let z = two-or-more i in omega arith)

-- an instruction is told by its offset
same_number : (is : List Instruction) (i j : ℕ) → i < length is → j < length is → sizes (take i is) ≡ sizes (take j is) → i ≡ j
same_number [] i j h k e = absurd (omega arith)
same_number (x ∷ is) zero zero h k e = refl
same_number (x ∷ is) zero (suc j) h k e = absurd (let z = two-or-more x in omega arith)
same_number (x ∷ is) (suc i) zero h k e = absurd (let z = two-or-more x in omega arith)
same_number (x ∷ is) (suc i) (suc j) h k e = ap suc (same_number is i j (omega arith) (omega arith) (omega arith))

last-number : (is : List Instruction) (i : ℕ) → i < length is → sizes (take i is) + size (get_or is i stop) ≡ sizes is → suc i ≡ length is
last-number [] i h e = absurd (omega arith)
last-number (x ∷ is) zero h e = let z = no-sizes is (omega arith) in omega arith
last-number (x ∷ is) (suc i) h e = ap suc (last-number is i (omega arith) (omega arith))

pub at_same : (is : List Instruction) (a i j : ℕ) → At is a i → At is a j → i ≡ j
at_same is a i j p q = let x = p.counter in let y = q.counter in same_number is i j p.index q.index (omega arith)

-- a placed instruction is told by its offset
later : (p e : ℕ) (xs : List Placed) → Laid p e xs → (x : Placed) → x ∈ xs → p ≤ x.at
later p e xs h x i = let o = (stands p e xs h x i).offset in omega arith

same-placed : (p e : ℕ) (xs : List Placed) → Laid p e xs → (x y : Placed) → x ∈ xs → y ∈ xs → x.at ≡ y.at → x ≡ y
same-placed p e [] l x y i j h = absurd i
same-placed p e (z ∷ xs) l x y (inl a) (inl b) h = a ∙ sym b
same-placed p e (z ∷ xs) l x y (inr a) (inr b) h = same-placed (p + size z.instruction) e xs l.2 x y a b h
same-placed p e (z ∷ xs) l x y (inl a) (inr b) h =
    absurd (let q = l.1 in let r : x.at ≡ z.at = ap (λ (u : Placed). u.at) a in let t = later (p + size z.instruction) e xs l.2 y b in let k = two-or-more z.instruction in omega arith)
same-placed p e (z ∷ xs) l x y (inr a) (inl b) h =
    absurd (let q = l.1 in let r : y.at ≡ z.at = ap (λ (u : Placed). u.at) b in let t = later (p + size z.instruction) e xs l.2 x a in let k = two-or-more z.instruction in omega arith)

-- ── where a run ends ──

-- what holds of a program w with the instructions `is` and the layout l, loaded as s₀, at the state d and s where a run of b instructions ended with the stop k and
-- the count q
pub record Sound (w : List Placed) (is : List Instruction) (l : Layout) (s₀ : List ℕ) (d : Cpu) (s : List ℕ) (b k q : ℕ) : Type 0 where
  pub number : ℕ
  pub at : At is d.counter number
  pub named : (i : ℕ) → At is d.counter i → Named l 0 d s (get_or is i stop)
  pub fixed : (a : ℕ) → Fixed is l a → get_or s a 0 ≡ get_or s₀ a 0
  pub stops : (i : ℕ) → At is d.counter i → Stops is b i k q
  pub bases : (get_or d.regs 14 0 ≡ origin 1) × (get_or d.regs 15 0 ≡ origin 0)
  pub called : (y : Placed) → y ∈ w → d.counter ≡ origin y.segment + y.at → (u : Within) → y.point.within ≡ some u
      → CalledFrom w u (get_or d.regs u.return 0)
  pub chosen : (y : Placed) → y ∈ w → d.counter ≡ origin y.segment + y.at → (r t : ℕ) → y.instruction ≡ indexed r t → Meets w d s y r

module _
    (written : List Registers) (n : ℕ) (l : Layout) (c : Core) (m : Space) (s₀ : List ℕ) (p : InStorage n l (size_of c) (P.program written c) m s₀) (code-end : sizes (instructions c) ≡ size_of c + 2)
    (short : sizes (instructions c) ≤ room) (d : Cpu) (s : List ℕ) (v : Inv n (P.program written c) m s₀ d s)
  where
    abbrev w : List Placed
    w = P.program written c

    abbrev is : List Instruction
    is = instructions c

    stand : Stands 0 (size_of c + 2) w v.x
    stand = stands 0 (size_of c + 2) w (laid-program written c) v.x v.one

    there : get_or is stand.i stop ≡ v.x.instruction
    there = rw (program-code written c) at stand.is

    at-instruction : At (instructions c) d.counter stand.i
    at-instruction =
        let o : 0 + sizes (take stand.i is) ≡ v.x.at = rw (program-code written c) at stand.offset in
        let k = v.counter in
        let g = stand.segment in
        record { index = rw (program-code written c) at stand.index; counter = omega arith }

    instruction-at : (i : ℕ) → At is d.counter i → get_or is i stop ≡ v.x.instruction
    instruction-at i a = ap (λ (j : ℕ). get_or is j stop) (at_same is d.counter i stand.i a at-instruction) ∙ there

    named-at : (i : ℕ) → At (instructions c) d.counter i → Named l 0 d s (get_or (instructions c) i stop)
    named-at i a =
        subst (λ (j : Instruction). Named l 0 d s j) (sym (instruction-at i a))
        (subst (λ (g : ℕ). Named l g d s v.x.instruction) stand.segment (operand-named n l (size_of c) w m s₀ p d s v))

    stops_at : (b k q : ℕ) → ((k ≡ budget_used) × (q ≡ b)) ⊎ Allowed v.x.instruction k → (i : ℕ) → At (instructions c) d.counter i → Stops (instructions c) b i k q
    stops_at b k q (inl h) i a = inl h
    stops_at b k q (inr (inl h)) i a =
        let e = stop-last n l (size_of c) w m s₀ p d s v h.1 in
        let j = instruction-at i a ∙ h.1 in
        let z : size (get_or is i stop) ≡ 2 = ap size j in
        let o = v.counter in
        let g = stand.segment in
        let t = a.counter in
        inr (inl (h.0, j, last-number is i a.index (omega (arith, code-end))))
    stops_at b k q (inr (inr h)) i a = inr (inr (h.0, subst Indexed (sym (instruction-at i a)) h.1))

    fixed_kept : (a : ℕ) → Fixed (instructions c) l a → get_or s a 0 ≡ get_or s₀ a 0
    fixed_kept a (inl h) = v.keeps.kept a (p.map.below a (omega arith))
    fixed_kept a (inr (inl h)) = v.keeps.kept a (p.map.below a (omega arith))
    fixed_kept a (inr (inr h)) =
        let r = p.map.literals_room in
        let e : a ≡ origin 1 + (a - origin 1) = omega arith in
        v.keeps.kept a (ap (λ (b : ℕ). writable m b 1) e ∙ p.map.fixed (a - origin 1) (omega arith) (omega arith))

    bases-held : (get_or d.regs 14 0 ≡ origin 1) × (get_or d.regs 15 0 ≡ origin 0)
    bases-held =
        (chain-holds n w (reg d) v.x.point v.chain data_base (guarded n l (size_of c) w m s₀ p v.x v.one).fourteen, v.base ∙ ap origin stand.segment)

    -- the placed instruction at the counter
    the_one : (y : Placed) → y ∈ P.program written c → d.counter ≡ origin y.segment + y.at → y ≡ v.x
    the_one y i a =
        let g = stand.segment in
        let f = (stands 0 (size_of c + 2) w (laid-program written c) y i).segment in
        let o = v.counter in
        same-placed 0 (size_of c + 2) w (laid-program written c) y v.x i v.one (omega arith)

    called-from : (y : Placed) → y ∈ P.program written c → d.counter ≡ origin y.segment + y.at → (u : Within) → y.point.within ≡ some u
        → CalledFrom (P.program written c) u (get_or d.regs u.return 0)
    called-from y i a u k =
        let b = chain-return n w (reg d) v.x.point u (subst (λ (z : Placed). z.point.within ≡ some u) (the_one y i a) k) v.chain in
        let r : b.r ≡ u.return = sym b.calls.return ∙ ap (λ (z : Within). z.return) b.same in
        record {
          call = b.y;
          written = b.one;
          body = b.calls.body.to;
          placed = b.calls.body.one;
          calls = b.is ∙ ap₂ link r (sym b.calls.body.at);
          of-it = b.calls.body.within ∙ ap some b.same;
          holds = ap (λ (z : ℕ). reg d z % 2 ^ 24) (sym r) ∙ b.value;
        }

    chosen-from : (y : Placed) → y ∈ P.program written c → d.counter ≡ origin y.segment + y.at → (r t : ℕ) → y.instruction ≡ indexed r t
        → Meets (P.program written c) d s y r
    chosen-from y i a r t q =
        let e = the_one y i a in
        subst (λ (z : Placed). Meets w d s z r) (sym e) (meets-table n l (size_of c) w m s₀ p d s v r t (subst (λ (z : Placed). z.instruction ≡ indexed r t) e q))

    pub sound : (b k q : ℕ) → ((k ≡ budget_used) × (q ≡ b)) ⊎ Allowed v.x.instruction k → Sound (P.program written c) (instructions c) l s₀ d s b k q
    sound b k q h =
        record {
          number = stand.i;
          at = at-instruction;
          named = named-at;
          fixed = fixed_kept;
          stops = stops_at b k q h;
          bases = bases-held;
          called = called-from;
          chosen = chosen-from;
        }

-- ── an accepted text ──

-- what is known of a text of tokens ts, read as the tree x, that is accepted with an object text
pub record Program (ts : List Token) (x : Statement) (object : List ℕ) : Type 0 where
  pub fitting : Fitting (make ts x).layout
  pub few : (make ts x).bases ≤ 2
  pub aligned : (make ts x).layout.literals_at % 4 ≡ 0
  pub known : (make ts x).layout.literals ≡ literals_from [] (make ts x).instructions
  pub short : sizes (make ts x).instructions ≤ segment_limit
  pub is-object : Object (segments (make ts x).bases (make ts x).layout (make ts x).instructions)
  pub read : read_object object ≡ some (segments (make ts x).bases (make ts x).layout (make ts x).instructions)
  pub safe : Safe (make ts x).tables.written (make ts x).bases (make ts x).layout [] [] start (core_statement (make ts x).tables x)

module _ (ts : List Token) (x : Statement) (object : List ℕ) (p : Program ts x object) (s : List ℕ) (enough : needed ≤ length s) where
  abbrev text : Made
  text = make ts x

  abbrev core : Core
  core = core_statement text.tables x

  abbrev gs : List Segment
  gs = segments text.bases text.layout text.instructions

  abbrev code : List Placed
  code = P.program text.tables.written core

  pub loaded-program : InStorage (make ts x).bases (make ts x).layout (size_of core) code (space_of gs) (loaded gs s)
  unfolding make
  loaded-program =
      in-storage text.tables.written text.bases text.layout core p.safe p.fitting p.few p.aligned p.known p.short p.is-object s enough

  pub ends : (regs : List ℕ) → length regs ≡ 16 → (k : ℕ) (Q : Cpu → Type 0) → ((y : Placed) → y ∈ code → (c d : Cpu) → Changes c (writes y.instruction) d → Q c → Q d)
      → Q (started regs k) → (b : ℕ) → Ends (make ts x).bases code (space_of gs) (loaded gs s) Q b (run b (space_of gs) (started regs k) (loaded gs s))
  unfolding make
  ends regs sixteen k Q keeps q b =
      run-fine text.bases text.layout (size_of core) code (space_of gs) (loaded gs s) loaded-program Q keeps b (started regs k) (loaded gs s)
      (begins text.tables.written text.bases text.layout core p.safe p.fitting p.few p.aligned p.known p.short p.is-object s enough regs sixteen k) q

  -- where it ended
  pub sound-end : (Q : Cpu → Type 0) (b : ℕ) (r : Result) → Ends (make ts x).bases code (space_of gs) (loaded gs s) Q b r
      → Sound code (make ts x).instructions (make ts x).layout (loaded gs s) r.cpu r.store b r.stop r.count
  unfolding make
  sound-end Q b r u =
      sound text.tables.written text.bases text.layout core (space_of gs) (loaded gs s) loaded-program (sizes-instructions core) p.short r.cpu r.store u.inv
      b r.stop r.count u.how
