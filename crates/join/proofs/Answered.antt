-- The runner's answer on the object text of an accepted source: what holds there, by the text's own instructions and layout.
use mathlib.Core.Path.{◌≡◌, refl, sym, ap, subst, ◌∙◌}
use mathlib.Core.Logic.{◌⊎◌, inl, inr}
use mathlib.Core.List.{List}
use Prim.Native.Nat.{ℕ, ◌≤◌, ◌<◌}
use native.Mathlib.Omega.{arith}
use lib.ListN.{length, get_or, set, length-append}
use lib.Seq.{get_or-set_other}
use borrow.Author.Tests.{le-ltb}
use Rattle.base.specs.Lists.{◌∈◌, All}
use Rattle.base.proofs.Lists.{all_in, all_get_d}
use Rattle.token.specs.declared.Token.{Token}
use Rattle.token.specs.Text.{tokens_of}
use Rattle.grammar.specs.Tree.{Statement, full}
use Rattle.grammar.specs.Grammar as G
use Rattle.grammar.proofs.Theorems.{read-is-program}
use Rattle.scopes.specs.Search.{in_front, first_token}
use Rattle.machine.specs.Space.{origin, needed}
use Rattle.machine.specs.Step.{Cpu, at_end, no_instruction}
use Rattle.machine.specs.Run.{Result, budget_used, run}
use Rattle.machine.proofs.Effects.{Changes}
use Rattle.runner.specs.Load.{loaded, space_of, started}
use Rattle.runner.specs.Runner as R
use Rattle.runner.specs.Runner.{Outcome, runner}
use Rattle.runner.proofs.Forms.{runner-read}
use Rattle.translation.specs.Instructions.{Instruction, stop}
use Rattle.translation.specs.Core.{Core, core_statement}
use Rattle.translation.specs.Code.{instructions}
use Rattle.translation.specs.Layout.{layout}
use Rattle.translation.specs.Translate.{make, kinds_of}
use Rattle.translation.proofs.Rooms.{round-up}
use Rattle.translation.proofs.Answers.{Accepted}
use Rattle.translation.proofs.Objects.{few, fitting, accepted-object, accepted-read}
use Rattle.join.specs.Writes.{writes}
use Rattle.join.specs.Points.{Placed}
use Rattle.join.specs.Operands.{Indexed}
use Rattle.join.specs.Programs.{tokens_in, tree_from, tree_of, made_of, instructions_of, layout_of, segments_of, placed_of, state_of, Stops}
use Rattle.join.proofs.Placement.{program-code}
use Rattle.join.proofs.Accepted.{accepted-safe}
use Rattle.join.proofs.Runs.{Ends}
use Rattle.join.proofs.Start.{placed-in}
use Rattle.join.proofs.Reached.{Sound, Program, ends, sound-end}

-- ── from an acceptance ──

module _ (source object : List ℕ) (a : Accepted source object) where
  front : first_token ≤ length a.tokens
  front = subst (λ (ts : List Token). first_token ≤ length ts) (sym a.text) (let e = length-append in_front (tokens_of source).tokens in omega arith)

  tree_is : a.tree ≡ tree_of source
  tree_is = sym (ap tree_from a.read) ∙ ap (λ (ts : List Token). tree_from (G.program (kinds_of ts) first_token)) a.text

  pub accepted-program : Program (tokens_in source) (tree_of source) object
  unfolding make layout
  accepted-program =
      let d = read-is-program (kinds_of a.tokens) first_token a.tree a.next a.read in
      subst (λ (ts : List Token). Program ts (tree_of source) object) a.text
      (subst (λ (x : Statement). Program a.tokens x object) tree_is
      (record {
        fitting = fitting a.tokens a.tree a.next front d a.quiet a.room;
        few = few a.tokens a.tree a.next front d a.quiet;
        aligned = (round-up full _).1;
        known = refl;
        short = a.short;
        is-object = accepted-object source object a;
        read = accepted-read source object a;
        safe = accepted-safe source object a;
      }))

-- ── the answer ──

module _
    (source object : List ℕ) (p : Program (tokens_in source) (tree_of source) object) (regs : List ℕ) (sixteen : length regs ≡ 16) (k : ℕ) (valid : k ≤ 3) (b : ℕ) (s : List ℕ)
    (enough : needed ≤ length s)
  where
    abbrev result : Result
    result = run b (space_of (segments_of source)) (started regs k) (loaded (segments_of source) s)

    pub answer-is : runner object regs k b s ≡ R.accepted (run b (space_of (segments_of source)) (started regs k) (loaded (segments_of source) s))
    unfolding made_of
    answer-is = runner-read object regs k b s (segments_of source) p.read ∙ rw (le-ltb 3 k valid, le-ltb (length s) needed enough)

    -- where the run ends, with a property Q of registers that each instruction keeps
    ended : (Q : Cpu → Type 0) → ((y : Placed) → y ∈ placed_of source → (c d : Cpu) → Changes c (writes y.instruction) d → Q c → Q d) → Q (started regs k)
        → Ends (made_of source).bases (placed_of source) (space_of (segments_of source)) (loaded (segments_of source) s) Q b result
    unfolding made_of
    ended Q keeps q = ends (tokens_in source) (tree_of source) object p s enough regs sixteen k Q keeps q b

    abbrev SoundOf : Outcome → Type 0
    SoundOf o = Sound (placed_of source) (instructions_of source) (layout_of source) (loaded (segments_of source) s) (state_of o) o.store b o.stop o.count

    sound-run : SoundOf (R.accepted result)
    unfolding made_of
    sound-run =
        sound-end (tokens_in source) (tree_of source) object p s enough (λ c. Unit {0}) b result (ended (λ c. Unit {0}) (λ y h c d ch q. tt) tt)

    pub sound-answer : Sound (placed_of source) (instructions_of source) (layout_of source) (loaded (segments_of source) s) (state_of (runner object regs k b s))
        (runner object regs k b s).store b (runner object regs k b s).stop (runner object regs k b s).count
    sound-answer = subst SoundOf (sym answer-is) sound-run

    pub is-run : (runner object regs k b s).number ≡ 0
    is-run = ap (λ (o : Outcome). o.number) answer-is

    -- ── stops ──

    not-four : (is : List Instruction) (i j q : ℕ) → Stops is b i j q → j ≡ no_instruction → ⊥
    not-four is i j q (inl h) e = let z = h.0 in omega arith
    not-four is i j q (inr (inl h)) e = let z = h.0 in omega arith
    not-four is i j q (inr (inr (inl h, x))) e = omega arith
    not-four is i j q (inr (inr (inr h, x))) e = omega arith

    pub never-four : (runner object regs k b s).stop ≡ no_instruction → ⊥
    never-four = not-four (instructions_of source) sound-answer.number _ _ (sound-answer.stops sound-answer.number sound-answer.at)

    zero-or-one : (is : List Instruction) (i j q : ℕ) → All (λ (x : Instruction). Indexed x → ⊥) is → Stops is b i j q → (j ≡ budget_used) ⊎ (j ≡ at_end)
    zero-or-one is i j q n (inl h) = inl h.0
    zero-or-one is i j q n (inr (inl h)) = inr h.0
    zero-or-one is i j q n (inr (inr h)) = absurd (all_get_d (λ (x : Instruction). Indexed x → ⊥) is i stop n (λ x. x) h.1)

    pub unindexed-stops : All (λ (x : Instruction). Indexed x → ⊥) (instructions_of source)
        → ((runner object regs k b s).stop ≡ budget_used) ⊎ ((runner object regs k b s).stop ≡ at_end)
    unindexed-stops n = zero-or-one (instructions_of source) sound-answer.number _ _ n (sound-answer.stops sound-answer.number sound-answer.at)

    -- ── registers ──

    abbrev core : Core
    core = core_statement (made_of source).tables (tree_of source)

    instructions-are : instructions core ≡ instructions_of source
    unfolding made_of make
    instructions-are = refl

    written-here : (y : Placed) → y ∈ placed_of source → y.instruction ∈ instructions_of source
    written-here y h =
        subst (λ (is : List Instruction). y.instruction ∈ is) (program-code (made_of source).tables.written core ∙ instructions-are) (placed-in y (placed_of source) h)

    pub unwritten-stays : (q : ℕ) → q < 14 → All (λ (x : Instruction). q ∈ writes x → ⊥) (instructions_of source)
        → get_or (runner object regs k b s).regs q 0 ≡ get_or regs q 0
    unwritten-stays q h n =
        ap (λ (o : Outcome). get_or o.regs q 0) answer-is
        ∙ (ended (λ c. get_or c.regs q 0 ≡ get_or regs q 0)
        (λ y i c d ch e. ch.others q (all_in (λ (x : Instruction). q ∈ writes x → ⊥) (instructions_of source) n y.instruction (written-here y i)) ∙ e)
        (get_or-set_other (set regs 14 (origin 1)) 15 q (origin 0) 0 (λ e. omega arith) ∙ get_or-set_other regs 14 q (origin 1) 0 (λ e. omega arith))).also
