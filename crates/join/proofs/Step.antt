-- One instruction at a state that meets the invariant: it stops as it may, or leads to a state that meets the invariant.
use mathlib.Core.Path.{◌≡◌, refl, sym, ap, subst, ◌∙◌}
use mathlib.Core.Logic.{◌⊎◌, inl, inr}
use mathlib.Core.List.{List, [], ◌∷◌}
use mathlib.Core.Bool.{true, false}
use mathlib.Core.Option.{some}
use Prim.Native.Nat.{ℕ, zero, suc, ◌+◌, ◌*◌, ◌/◌, ◌%◌, ◌≤◌, ◌<◌, ◌^◌}
use native.Mathlib.Omega.{arith}
use lib.ListN.{length, get_or, set}
use lib.Seq.{get_or-set_same, set-get_or}
use borrow.Author.Tests.{eq-eqb, ne_eqb}
use Rattle.base.specs.Lists.{◌∈◌, All}
use Rattle.base.specs.Runs.{run_len, index_of}
use Rattle.base.specs.Numbers.{value_of, value_at}
use Rattle.base.proofs.Lists.{all_in}
use Rattle.base.proofs.Parts.{same-part}
use Rattle.base.proofs.Tests.{cases, never_true}
use Rattle.grammar.specs.Tree.{Width, full, short, byte}
use Rattle.static_rules.specs.Meaning.{Based, Cell, element_size}
use Rattle.static_rules.specs.Meanings.{data_base}
use Rattle.static_rules.proofs.Elements.{size-positive}
use Rattle.alu.specs.Word.{signed, sign_code, compared_code}
use Rattle.machine.specs.declared.Shift.TheVariants.{LeftLogical}
use Rattle.machine.specs.declared.Fun.TheVariants.{Load, Compare, Test}
use Rattle.machine.specs.Space.{Space, room, origin, needed, displacements, readable, writable}
use Rattle.machine.specs.Instructions.{Long, applies_to, multiplies_by, stores, branches_to, links, shifts, addresses, moves, compares, unlisted_long, short_kind, long_kind}
use Rattle.machine.specs.Operands.{operand_address, operand_bytes}
use Rattle.machine.specs.Writes.{writes_short, writes_long}
use Rattle.machine.specs.Step as M
use Rattle.machine.specs.Step.{Cpu, cpu, Turn, Stepped, stepped, went, moved, executed, completed, at_end, forbidden, misaligned, address, asked, operand, shifted_by, short_by, long_by, step}
use Rattle.machine.proofs.Outside.{Keeps, keeps_then, step_keeps}
use Rattle.machine.proofs.Effects as E
use Rattle.machine.proofs.Effects.{Changes, short-changes, long-changes, PlainShort, Reads, Serves, plain-onward, shift-onward, address-onward, Ended, on, off, read-ends, store-ends, move-ends, compare-ends, index-none, asked-always, Branched, taken, passed, branch-goes, return-goes, link-address}
use Rattle.translation.specs.Instructions as I
use Rattle.translation.specs.Instructions.{Datum, element, literal, entry, Instruction, rr, rx, immediate, shift, branch, link, indexed, stop, size, opcode, load_row, shift_code, address_op, branch_op, link_op, always}
use Rattle.translation.specs.Layout.{Layout, offset_of, cells_end}
use Rattle.translation.specs.Bytes.{program_base, index_register, four_bytes, encode}
use Rattle.translation.proofs.Sizes.{length-encode}
use Rattle.translation.proofs.Literals.{Takes, index-lt}
use Rattle.join.specs.Writes.{writes}
use Rattle.join.specs.Points.{Within, Point, choices, first_of, statement_at, Knows, nothing, compared, at_most, tested, between, scaled, Placed}
use Rattle.join.specs.Operands.{named_from, named_bytes, named_at, Whole, Lies, Named, Indexed}
use Rattle.join.specs.Programs.{Meets}
use Rattle.join.proofs.Safe.{Spared, Counted, Guarded, InCell, Served, IsCell, TakesNumber, Fits}
use Rattle.join.proofs.Chosen.{reg, count_word, NotAbove, Told}
use Rattle.join.proofs.Flows.{Good, Calls, Gains, Onward, Opens, Branches, Entry, Chooses, Goes, Flows}
use Rattle.join.proofs.Chain.{Holds, after_call, Chain}
use Rattle.join.proofs.ChainMoves.{chain-holds, chain-kept, chain-at, chain-under, chain-call, chain-return}
use Rattle.join.proofs.Loading.{Mapped}
use Rattle.join.proofs.Decode.{StandAt, first_field, second-field, decode-address, decode-opcode, decode-two, decode-four}

-- ── a program in storage ──

-- an instruction's bytes stand at its place, in the program's bytes
pub record Standing (l : Layout) (m : Space) (s : List ℕ) (x : Placed) : Type 0 where
  pub even : x.at % 2 ≡ 0
  pub inside : origin x.segment + (x.at + size x.instruction) ≤ origin 0 + m.program
  pub bytes : StandAt s (origin x.segment + x.at) (encode l x.instruction)

-- the instructions w, whose last stands at e, by the layout l with n base declarations, as loaded: in the storage s with the map m
pub record InStorage (n : ℕ) (l : Layout) (e : ℕ) (w : List Placed) (m : Space) (s : List ℕ) : Type 0 where
  pub flows : All (Flows n l e w) w
  pub map : Mapped n l m.program m
  pub short : m.program ≤ room
  pub long : needed ≤ length s
  pub table : (k : ℕ) → k < 2 + n → value_at s (origin 1 + 4 * k) 4 ≡ origin k
  pub standing : (x : Placed) → x ∈ w → Standing l m s x
  pub literals : (x : Placed) → x ∈ w → (v : ℕ) → Takes x.instruction v → v ∈ l.literals
  pub numbers : (v : ℕ) → v ∈ l.literals → value_at s (origin 1 + (l.literals_at + 4 * index_of v l.literals)) 4 ≡ v % 2 ^ 32

-- ── the invariant ──

-- the instruction x is at the counter; 15 holds the origin of its segment, its point's chain of calls holds, what is known there is so, and storage that is not
-- writable is as it was loaded
pub record Inv (n : ℕ) (w : List Placed) (m : Space) (s₀ : List ℕ) (c : Cpu) (s : List ℕ) : Type 0 where
  pub x : Placed
  pub one : x ∈ w
  pub counter : c.counter ≡ origin x.segment + x.at
  pub base : reg c program_base ≡ origin x.segment
  pub sixteen : length c.regs ≡ 16
  pub chain : Chain n w (reg c) x.point
  pub known : Told x.knows c
  pub keeps : Keeps m s₀ s

-- how it may stop: at the last instruction, or by 2 or 3 at an indexed operand
abbrev pub Allowed : Instruction → ℕ → Type 0
Allowed i k = ((k ≡ at_end) × (i ≡ stop)) ⊎ (((k ≡ forbidden) ⊎ (k ≡ misaligned)) × Indexed i)

-- an instruction stops as it may, or leads to a state that meets the invariant, with no registers changed but those that it writes
pub data Fine (n : ℕ) (w : List Placed) (m : Space) (s₀ : List ℕ) (c : Cpu) (s : List ℕ) (i : Instruction) : Type 0 where
  stops : Allowed i (step m c s).turn.stop → Fine n w m s₀ c s i
  goes : (step m c s).turn.stop ≡ completed → Changes c (writes i) (step m c s).turn.cpu → Inv n w m s₀ (step m c s).turn.cpu (step m c s).store → Fine n w m s₀ c s i

-- ── small laws ──

pub two-or-more : (i : Instruction) → 2 ≤ size i
two-or-more (rr op r s) = omega arith
two-or-more (rx op r a) = omega arith
two-or-more (I.address r a) = omega arith
two-or-more (immediate op v a) = omega arith
two-or-more (shift op r s n) = omega arith
two-or-more (branch m t) = omega arith
two-or-more (link r t) = omega arith
two-or-more (indexed r t) = omega arith
two-or-more stop = omega arith

load-opcode : opcode load_row 1 ≡ 0x58
unfolding opcode
load-opcode = refl

-- base and displacement
address-based : (regs : List ℕ) (b d a : ℕ) → 0 < b → get_or regs b 0 ≡ a → a + d < 2 ^ 24 → address regs 0 b d ≡ a + d
address-based regs b d a h e l = rw (ne_eqb b 0 (λ z. omega arith), e) (omega arith)

aligned_at : (w : Width) (k a b : ℕ) → a % element_size w ≡ 0 → b % element_size w ≡ 0 → (origin k + (a + b)) % element_size w ≡ 0
aligned_at full k a b h g = omega arith
aligned_at short k a b h g = omega arith
aligned_at (byte c) k a b h g = omega arith

-- a part of an element: it has bytes, it is inside, and it is aligned where the element is
part-inside : (w : Width) (z : ℕ) → (z ≡ element_size w) ⊎ (z ≡ 1) → (0 < z) × (z ≤ element_size w)
part-inside w z (inl e) = let h = size-positive w in (omega arith, omega arith)
part-inside w z (inr e) = let h = size-positive w in (omega arith, omega arith)

part-aligned : (w : Width) (z k a b : ℕ) → (z ≡ element_size w) ⊎ (z ≡ 1) → a % element_size w ≡ 0 → b % element_size w ≡ 0 → (origin k + (a + b)) % z ≡ 0
part-aligned w z k a b (inl e) h g = rw e (aligned_at w k a b h g)
part-aligned w z k a b (inr e) h g = rw e (omega arith)

reads-some : (k : Long) (z r : ℕ) → Reads k z r → operand_bytes k ≡ z
reads-some (applies_to n f) z r h = h
reads-some multiplies_by z r h = sym h.0
reads-some (stores n) z r h = absurd h
reads-some branches_to z r h = absurd h
reads-some links z r h = absurd h
reads-some (shifts f) z r h = absurd h
reads-some addresses z r h = absurd h
reads-some moves z r h = absurd h
reads-some compares z r h = absurd h
reads-some unlisted_long z r h = absurd h

serves-bytes : (k : Long) (z r : ℕ) → Serves k z r → operand_bytes k ≡ z
serves-bytes k z r (inl h) = reads-some k z r h
serves-bytes k z r (inr e) = ap operand_bytes e

-- what takes a number has no index, and an operand of one byte
number-index : (k : Long) (x : ℕ) → TakesNumber k → M.index_of k x ≡ 0
number-index k x (inl e) = ap (λ (y : Long). M.index_of y x) e
number-index k x (inr e) = ap (λ (y : Long). M.index_of y x) e

number-bytes : (k : Long) → TakesNumber k → operand_bytes k ≡ 1
number-bytes k (inl e) = ap operand_bytes e
number-bytes k (inr e) = ap operand_bytes e

-- of an operand that is an element
on-cell : (l : Layout) (p : Point) (P : Datum → Type 0) (a : Datum) → IsCell l p a → ((d : Cell) (o x : ℕ) → InCell l p d o x → P (element d o x)) → P a
on-cell l p P (element d o x) h f = f d o x h
on-cell l p P (literal v) h f = absurd h
on-cell l p P (entry k) h f = absurd h

-- the one element of a list
only_one : (x r : ℕ) → x ∈ (r ∷ []) → x ≡ r
only_one x r (inl e) = e
only_one x r (inr h) = absurd h

module _ (n : ℕ) (l : Layout) (e : ℕ) (w : List Placed) (m : Space) (s₀ : List ℕ) (p : InStorage n l e w m s₀) where
  pub guarded : (x : Placed) → x ∈ w → Guarded n x.point
  guarded x h = (all_in (Flows n l e w) w p.flows x h).guarded

  -- ── places ──

  -- an instruction of the program, and what stands before the end of the program
  record Near (x : Placed) (a : ℕ) : Type 0 where
    even : (origin x.segment + a) % 2 ≡ 0
    low : origin 0 ≤ origin x.segment + a
    inside : origin x.segment + a + size x.instruction ≤ origin 0 + m.program
    small : origin x.segment + a + 4 < 2 ^ 24
    short : a < room

  near : (x : Placed) → x ∈ w → (a : ℕ) → x.at ≡ a → Near x a
  near x h a q =
      let s = p.standing x h in
      let z = two-or-more x.instruction in
      let b = p.short in
      let ev = s.even in
      let i = s.inside in
      record { even = omega arith; low = omega arith; inside = omega arith; small = omega arith; short = omega arith }

  module _ (c : Cpu) (s : List ℕ) (v : Inv n w m s₀ c s) where
    abbrev here : Placed
    here = v.x

    fifteen-kept : program_base ∈ here.point.kept
    fifteen-kept = (guarded here v.one).fifteen

    fifteen-spared : (P : ℕ → Type 0) → Spared here.point P → P program_base → ⊥
    fifteen-spared P d k = d program_base k fifteen-kept

    base-holds : (b : Based) → b ∈ here.point.bases → reg c b.register ≡ origin b.segment
    base-holds b i = chain-holds n w (reg c) here.point v.chain b i

    -- the bytes of the instruction at the counter
    stand : (i : Instruction) → here.instruction ≡ i → StandAt s c.counter (encode l i)
    stand i q = subst (λ (k : Instruction). StandAt s c.counter (encode l k)) q at-counter
      where
        at-counter : StandAt s c.counter (encode l here.instruction)
        at-counter j h =
            let t = p.standing here v.one in
            let g : j < size here.instruction = rw (length-encode l here.instruction) at h in
            let en = t.inside in
            let sh = p.short in
            let a : c.counter + j ≡ origin here.segment + here.at + j = ap (λ (k : ℕ). k + j) v.counter in
            ap (λ (k : ℕ). get_or s k 0) a ∙ (v.keeps.kept (origin here.segment + here.at + j) (p.map.below _ (omega arith)) ∙ t.bytes j h)

    around : Near here here.at
    around = near here v.one here.at refl

    even : c.counter % 2 ≡ 0
    even = let k = v.counter in let a = around.even in omega arith

    low : origin 0 ≤ c.counter
    low = let k = v.counter in let a = around.low in omega arith

    high : (i : Instruction) → here.instruction ≡ i → c.counter + size i ≤ origin 0 + m.program
    high i q = let k = v.counter in let a = around.inside in let z : size here.instruction ≡ size i = ap size q in omega arith

    -- ── to an instruction that was written ──

    abbrev next : Cpu
    next = (step m c s).turn.cpu

    arrives : (i : Instruction) (q : Point) (a : ℕ) → (step m c s).turn.stop ≡ completed → next.counter ≡ origin here.segment + a → Changes c (writes i) next
        → (program_base ∈ writes i → ⊥) → Chain n w (reg next) q → {j : Knows} → Good w here.segment a q j → Told j next → Fine n w m s₀ c s i
    arrives i q a st ct ch f k g t =
        goes st ch
        (record {
          x = g.to;
          one = g.one;
          counter = let z = g.at in let y = g.segment in omega arith;
          base = ch.others program_base f ∙ (v.base ∙ ap origin (sym g.segment));
          sixteen = ch.long ∙ v.sixteen;
          chain = chain-under n w (reg next) q g.to.point g.under (guarded g.to g.one) k;
          known = subst (λ (j : Knows). Told j next) (sym g.knows) t;
          keeps = keeps_then v.keeps (step_keeps m c s);
        })

    -- with registers written that are not protected here
    wrote : (i : Instruction) (a : ℕ) → (step m c s).turn.stop ≡ completed → next.counter ≡ origin here.segment + a → Changes c (writes i) next
        → Spared here.point (λ x. x ∈ writes i) → Counted here.point (λ x. x ∈ writes i) → {j : Knows} → Good w here.segment a here.point j → Told j next
        → Fine n w m s₀ c s i
    wrote i a st ct ch d k g t =
        arrives i here.point a st ct ch (fifteen-spared (λ x. x ∈ writes i) d)
        (chain-kept n w (reg c) (reg next) (λ x. x ∈ writes i) here.point d k ch.others v.chain) g t

    -- ── four bytes, as they are decoded ──

    decode : (i : Instruction) (op r x b d : ℕ) → here.instruction ≡ i → encode l i ≡ four_bytes op r x b d → size i ≡ 4 → 64 ≤ op → d < displacements
        → step m c s ≡ long_by (long_kind op) m (r * 16 + x) b d c s
    decode i op r x b d q en z h g =
        let hi = high i q in
        decode-four m c s even low op r x b d h g (omega arith) (subst (λ (bs : List ℕ). StandAt s c.counter bs) en (stand i q))

    long-writes : (k : Long) (r x b d : ℕ) → x < 16 → step m c s ≡ long_by k m (r * 16 + x) b d c s → Changes c (writes_long k r) next
    long-writes k r x b d h st =
        subst (λ (o : Stepped). Changes c (writes_long k r) o.turn.cpu) (sym st) (rw (first_field r x h) at (long-changes k m (r * 16 + x) b d c s))

    -- ── literals ──

    literal-in : (op r y : ℕ) → here.instruction ≡ rx op r (literal y) → y ∈ l.literals
    literal-in op r y q = p.literals here v.one y (subst (λ (i : Instruction). Takes i y) (sym q) refl)

    literal-place : (op r y : ℕ) → here.instruction ≡ rx op r (literal y) → l.literals_at + 4 * index_of y l.literals + 4 ≤ room
    literal-place op r y q =
        let j = index-lt y l.literals (literal-in op r y q) in
        let g = p.map.literals_room in
        omega arith

    literal-address : (op r y : ℕ) → here.instruction ≡ rx op r (literal y)
        → address c.regs 0 14 (l.literals_at + 4 * index_of y l.literals) ≡ origin 1 + (l.literals_at + 4 * index_of y l.literals)
    literal-address op r y q =
        let j = literal-place op r y q in
        address-based c.regs 14 (l.literals_at + 4 * index_of y l.literals) (origin 1) (omega arith) (base-holds data_base (guarded here v.one).fourteen) (omega arith)

    literal-reach : (op r y : ℕ) → here.instruction ≡ rx op r (literal y)
        → ((origin 1 + (l.literals_at + 4 * index_of y l.literals)) % 4 ≡ 0) × (readable m (origin 1 + (l.literals_at + 4 * index_of y l.literals)) 4 ≡ true)
    literal-reach op r y q =
        let al = p.map.literals-aligned in
        (omega arith, p.map.literals (index_of y l.literals) (index-lt y l.literals (literal-in op r y q)))

    -- its word is as it was loaded
    literal-word : (op r y : ℕ) → here.instruction ≡ rx op r (literal y) → value_at s (origin 1 + (l.literals_at + 4 * index_of y l.literals)) 4 ≡ y % 2 ^ 32
    literal-word op r y q =
        let d = l.literals_at + 4 * index_of y l.literals in
        let j = literal-place op r y q in
        ap value_of
        (same-part s s₀ (origin 1 + d) 4 0 v.keeps.long
        (λ i h. let e : origin 1 + (d + i) ≡ origin 1 + d + i = omega arith in v.keeps.kept (origin 1 + d + i) (rw e at (p.map.fixed (d + i) (omega arith) (omega arith)))))
        ∙ p.numbers y (literal-in op r y q)

    -- ── what a plain instruction makes known ──

    learns : (k : Knows) → Gains here.knows here.instruction k → Told k next
    unfolding encode opcode shift_code run_len
    learns nothing q = tt
    learns (compared k) q =
        let r = k.register in
        let y = choices k in
        let d = l.literals_at + 4 * index_of y l.literals in
        let j = literal-place 0x59 r y q in
        let a = literal-reach 0x59 r y q in
        let st : step m c s ≡ stepped (went (executed c Compare r (y % 2 ^ 32) (c.counter + 4))) s =
        decode (rx 0x59 r (literal y)) 0x59 r 0 14 d q refl refl (omega arith) (omega arith)
        ∙ rw (second-field r 0 (omega arith), first_field r 0 (omega arith), literal-address 0x59 r y q, eq-eqb ((origin 1 + d) % 4) 0 a.0, a.1, literal-word 0x59 r y q) in
        let e : reg next r ≡ reg c r = ap (λ (o : Stepped). reg o.turn.cpu r) st ∙ ap (λ (rs : List ℕ). get_or rs r 0) (set-get_or c.regs r 0) in
        ap (λ (o : Stepped). o.turn.cpu.code) st ∙ ap (λ (x : ℕ). compared_code x (count_word k)) (sym e)
    learns (at_most k) q = absurd q
    learns (tested k) (h, q, small) =
        let r = k.register in
        let st : step m c s ≡ stepped (went (executed c Test r (reg c r) (c.counter + 2))) s =
        decode-two m c s even low 0x12 r r (omega arith) (high (rr 0x12 r r) q) (stand (rr 0x12 r r) q) ∙ rw (first_field r r small, second-field r r small) in
        let e : reg next r ≡ reg c r = ap (λ (o : Stepped). reg o.turn.cpu r) st ∙ ap (λ (rs : List ℕ). get_or rs r 0) (set-get_or c.regs r 0) in (
          subst (NotAbove k) (sym e) (subst (λ (j : Knows). Told j c) h v.known),
          ap (λ (o : Stepped). o.turn.cpu.code) st ∙ ap (λ (x : ℕ). sign_code (signed x)) (sym e),
        )
    learns (between k) q = absurd q
    learns (scaled k) (h, q, small) =
        let r = k.register in
        let b : Told (between k) c = subst (λ (j : Knows). Told j c) h v.known in
        let st : step m c s ≡ stepped (went (M.wrote c r (shifted_by LeftLogical (reg c r) 2 c.code) (c.counter + 4))) s =
        decode (shift 0x89 r 0 2) 0x89 r 0 0 2 q refl refl (omega arith) (omega arith) ∙ rw (first_field r 0 (omega arith)) in
        let lg = v.sixteen in
        let e : reg next r ≡ reg c r * 2 ^ 2 % 2 ^ 32 = ap (λ (o : Stepped). reg o.turn.cpu r) st ∙ get_or-set_same c.regs r _ 0 (omega arith) in
        (reg c r, b.0, b.1, e ∙ omega arith)

    -- ── on to the next ──

    onward : (i : Instruction) → here.instruction ≡ i → E.Onward (size i) c (step m c s).turn → Changes c (writes i) next → Onward l w here → Fine n w m s₀ c s i
    onward i q o ch u =
        let ct : next.counter ≡ origin here.segment + (here.at + size i) = let a = o.counter in let b = v.counter in omega arith in
        wrote i (here.at + size i) o.stop ct ch
        (subst (λ (j : Instruction). Spared here.point (λ x. x ∈ writes j)) q u.plain.spared)
        (subst (λ (j : Instruction). Counted here.point (λ x. x ∈ writes j)) q u.plain.counted)
        (subst (λ (j : Instruction). Good w here.segment (here.at + size j) here.point u.after) q u.next) (learns u.after u.gains)

    fits : (i : Instruction) → here.instruction ≡ i → Onward l w here → Fits l here.point i
    fits i q u = subst (λ (j : Instruction). Fits l here.point j) q u.plain.fits

    -- ── two bytes ──

    short-fine : (op r x : ℕ) → here.instruction ≡ rr op r x → Onward l w here → Fine n w m s₀ c s (rr op r x)
    unfolding encode
    short-fine op r x q u =
        let f = fits (rr op r x) q u in
        let st = decode-two m c s even low op r x f.0 (high (rr op r x) q) (stand (rr op r x) q) in
        onward (rr op r x) q
        (subst (λ (o : Stepped). E.Onward 2 c o.turn) (sym st) (plain-onward (short_kind op) (r * 16 + x) c (rw (first_field r x f.2) f.1)))
        (subst (λ (o : Stepped). Changes c (writes_short (short_kind op) r) o.turn.cpu) (sym st) (rw (first_field r x f.2) at (short-changes (short_kind op) (r * 16 + x) c))) u

    stop-fine : here.instruction ≡ stop → Fine n w m s₀ c s stop
    unfolding encode
    stop-fine q =
        let st = decode-two m c s even low 0x0a 0 0 (omega arith) (high stop q) (stand stop q) in
        stops (inl (ap (λ (o : Stepped). o.turn.stop) st, refl))

    return-fine : (r : ℕ) (u : Within) → here.instruction ≡ rr 0x07 15 r → here.point.within ≡ some u → u.segment ≡ here.segment → u.return ≡ r → Fine n w m s₀ c s (rr 0x07 15 r)
    unfolding encode
    return-fine r u q i g e =
        let b = chain-return n w (reg c) here.point u i v.chain in
        let k = b.calls in
        let e1 : k.v.return ≡ r = ap (λ (x : Within). x.return) b.same ∙ e in
        let e2 : b.r ≡ r = sym k.return ∙ e1 in
        let e3 : b.y.segment ≡ here.segment = sym k.segment ∙ (ap (λ (x : Within). x.segment) b.same ∙ g) in
        let gr = (guarded here v.one).return u i in
        let lo : 0 < r = rw e at gr.1 in
        let hi : r < 16 = rw e at gr.2 in
        let st : step m c s ≡ stepped (went (moved c (reg c r % 2 ^ 24))) s =
        decode-two m c s even low 0x07 15 r (omega arith) (high (rr 0x07 15 r) q) (stand (rr 0x07 15 r) q) ∙ ap (λ (t : Turn). stepped t s) (return-goes r c lo hi) in
        let ct : next.counter ≡ origin here.segment + (b.y.at + 4) =
        ap (λ (o : Stepped). o.turn.cpu.counter) st ∙ (ap (λ (x : ℕ). reg c x % 2 ^ 24) (sym e2) ∙ (b.value ∙ ap (λ (x : ℕ). origin x + (b.y.at + 4)) e3)) in
        let ch : Changes c [] next = subst (λ (o : Stepped). Changes c [] o.turn.cpu) (sym st) (record { long = refl; others = λ x h. refl }) in
        let go : Good w here.segment (b.y.at + 4) b.y.point nothing = rw e3 at k.back in
        arrives (rr 0x07 15 r) b.y.point (b.y.at + 4) (ap (λ (o : Stepped). o.turn.stop) st) ct ch (λ h. h)
        (chain-kept n w (reg c) (reg next) (λ x. x ∈ []) b.y.point (λ x h i. h) (λ z i x h. absurd h) ch.others b.chain) go tt

    -- ── four bytes ──

    shift-fine : (op r x d : ℕ) → here.instruction ≡ shift op r x d → Onward l w here → Fine n w m s₀ c s (shift op r x d)
    unfolding encode
    shift-fine op r x d q u =
        let f = fits (shift op r x d) q u in
        let k : long_kind op ≡ shifts f.1.0 = f.1.1 in
        let st : step m c s ≡ long_by (shifts f.1.0) m (r * 16 + 0) x d c s =
        decode (shift op r x d) op r 0 x d q refl refl f.0 f.2 ∙ ap (λ (y : Long). long_by y m (r * 16 + 0) x d c s) k in
        onward (shift op r x d) q (subst (λ (o : Stepped). E.Onward 4 c o.turn) (sym st) (shift-onward f.1.0 m (r * 16 + 0) x d c s))
        (long-writes (shifts f.1.0) r 0 x d (omega arith) st) u

    -- an operand in storage: in reach, or indexed
    operand-fine : (i : Instruction) (o : Stepped) → here.instruction ≡ i → size i ≡ 4 → step m c s ≡ o → Changes c (writes i) next → Ended c o.turn (Indexed i)
        → Onward l w here → Fine n w m s₀ c s i
    operand-fine i o q z st ch (on t) u =
        onward i q (subst (λ (y : Stepped). E.Onward (size i) c y.turn) (sym st) (subst (λ (y : ℕ). E.Onward y c o.turn) (sym z) t)) ch u
    operand-fine i o q z st ch (off t x) u = stops (inr (subst (λ (y : Stepped). (y.turn.stop ≡ forbidden) ⊎ (y.turn.stop ≡ misaligned)) (sym st) t, x))

    reads-fine : (op r : ℕ) (a : Datum) (x b d z : ℕ) → here.instruction ≡ rx op r a → x < 16 → step m c s ≡ long_by (long_kind op) m (r * 16 + x) b d c s → Reads (long_kind op) z r
        → Indexed (rx op r a) ⊎ ((address c.regs x b d % z ≡ 0) × (readable m (address c.regs x b d) z ≡ true)) → Onward l w here → Fine n w m s₀ c s (rx op r a)
    reads-fine op r a x b d z q h st k i u =
        operand-fine (rx op r a) _ q refl st (long-writes (long_kind op) r x b d h st)
        (read-ends (long_kind op) z m (r * 16 + x) b d c s (rw (first_field r x h) k) (rw (second-field r x h) i)) u

    stores-fine : (op r : ℕ) (a : Datum) (x b d z : ℕ) → here.instruction ≡ rx op r a → x < 16 → step m c s ≡ long_by (long_kind op) m (r * 16 + x) b d c s → long_kind op ≡ stores z
        → Indexed (rx op r a) ⊎ ((address c.regs x b d % z ≡ 0) × (writable m (address c.regs x b d) z ≡ true)) → Onward l w here → Fine n w m s₀ c s (rx op r a)
    stores-fine op r a x b d z q h st k i u =
        operand-fine (rx op r a) _ q refl st (long-writes (long_kind op) r x b d h st)
        (subst (λ (y : Long). Ended c (long_by y m (r * 16 + x) b d c s).turn (Indexed (rx op r a))) (sym k) (store-ends z m (r * 16 + x) b d c s (rw (second-field r x h) i))) u

    literal-fine : (op r y : ℕ) → here.instruction ≡ rx op r (literal y) → Onward l w here → Fine n w m s₀ c s (rx op r (literal y))
    unfolding encode
    literal-fine op r y q u =
        let f = fits (rx op r (literal y)) q u in
        let d = l.literals_at + 4 * index_of y l.literals in
        let j = literal-place op r y q in
        let a = literal-address op r y q in
        let k = literal-reach op r y q in
        reads-fine op r (literal y) 0 14 d 4 q (omega arith) (decode (rx op r (literal y)) op r 0 14 d q refl refl f.0 (omega arith)) f.1
        (inr (ap (λ (b : ℕ). b % 4) a ∙ k.0, ap (λ (b : ℕ). readable m b 4) a ∙ k.1)) u

    -- ── cells ──

    module _ (d : Cell) (o x : ℕ) (i : InCell l here.point d o x) where
      abbrev place : ℕ
      place = offset_of l.placed d.name + o

      abbrev width : ℕ
      width = element_size d.width

      segment-is : (1 ≤ d.base.segment) × (d.base.segment < 2 + n) × (0 < d.base.register)
      segment-is = let g = (guarded here v.one).bases d.base i.based in (g.3, g.4, g.1)

      cell-place : place + width ≤ cells_end l d.base.segment
      cell-place = let a = i.at.high in let b = i.whole in omega arith

      cell-near : place < room
      cell-near = let a = cell-place in let b = p.map.cells-room d.base.segment in let z = size-positive d.width in omega arith

      cell-address : address c.regs 0 d.base.register place ≡ origin d.base.segment + place
      cell-address =
          let g = segment-is in
          let few = p.map.few in
          let b = cell-near in
          let g1 = g.1 in
          address-based c.regs d.base.register place (origin d.base.segment) g.2 (base-holds d.base i.based) (omega arith)

      -- z bytes at an address are aligned and in storage
      abbrev InReach : ℕ → ℕ → Type 0
      InReach z a = (a % z ≡ 0) × (readable m a z ≡ true) × (writable m a z ≡ true)

      -- z bytes of the element
      within-reach : (z : ℕ) → (z ≡ width) ⊎ (z ≡ 1) → InReach z (address c.regs 0 d.base.register place)
      within-reach z t =
          let a = cell-address in
          let g = segment-is in
          let lo = i.at.low in
          let b = part-inside d.width z t in
          let f = cell-place in
          let k = p.map.cells d.base.segment place z g.0 g.1 (omega arith) b.0 (omega arith) in (
            ap (λ (b : ℕ). b % z) a ∙ part-aligned d.width z d.base.segment (offset_of l.placed d.name) o t i.at.aligned i.aligned,
            ap (λ (b : ℕ). readable m b z) a ∙ k.0,
            ap (λ (b : ℕ). writable m b z) a ∙ k.1,
          )

      -- unless it is indexed
      reach : (z : ℕ) → (z ≡ width) ⊎ (z ≡ 1) → (y : ℕ) → y ≡ x → (0 < y) ⊎ InReach z (address c.regs y d.base.register place)
      reach z t zero e = inr (within-reach z t)
      reach z t (suc y) e = inl (omega arith)

      cell-fine : (op r : ℕ) → here.instruction ≡ rx op r (element d o x) → 64 ≤ op → Served (long_kind op) width r → Onward l w here → Fine n w m s₀ c s (rx op r (element d o x))
      unfolding encode
      cell-fine op r q h k u = go (reach z k.part x refl) k.serves
        where
          st : step m c s ≡ long_by (long_kind op) m (r * 16 + x) d.base.register place c s
          st = decode (rx op r (element d o x)) op r x d.base.register place q refl refl h cell-near

          A : ℕ
          A = address c.regs x d.base.register place

          z : ℕ
          z = k.bytes

          go : (0 < x) ⊎ ((A % z ≡ 0) × (readable m A z ≡ true) × (writable m A z ≡ true)) → Serves (long_kind op) z r → Fine n w m s₀ c s (rx op r (element d o x))
          go (inl g) (inl t) = reads-fine op r (element d o x) x d.base.register place z q i.index st t (inl g) u
          go (inl g) (inr t) = stores-fine op r (element d o x) x d.base.register place z q i.index st t (inl g) u
          go (inr g) (inl t) = reads-fine op r (element d o x) x d.base.register place z q i.index st t (inr (g.0, g.1)) u
          go (inr g) (inr t) = stores-fine op r (element d o x) x d.base.register place z q i.index st t (inr (g.0, g.2)) u

      -- LA touches no storage
      address-fine : (r : ℕ) → here.instruction ≡ I.address r (element d o x) → Onward l w here → Fine n w m s₀ c s (I.address r (element d o x))
      unfolding encode
      address-fine r q u =
          let st : step m c s ≡ long_by addresses m (r * 16 + x) d.base.register place c s =
          decode (I.address r (element d o x)) address_op r x d.base.register place q refl refl (omega arith) cell-near in
          onward (I.address r (element d o x)) q
          (subst (λ (y : Stepped). E.Onward 4 c y.turn) (sym st) (address-onward m (r * 16 + x) d.base.register place c s))
          (long-writes addresses r x d.base.register place i.index st) u

      -- MVI and CLI, which have no index
      number-fine : (op v : ℕ) → here.instruction ≡ immediate op v (element d o x) → 64 ≤ op → TakesNumber (long_kind op) → Onward l w here
          → Fine n w m s₀ c s (immediate op v (element d o x))
      unfolding encode
      number-fine op v q h k u = go k
        where
          by : Long → Stepped
          by y = long_by y m (v / 16 * 16 + v % 16) d.base.register place c s

          st : step m c s ≡ by (long_kind op)
          st = decode (immediate op v (element d o x)) op (v / 16) (v % 16) d.base.register place q refl refl h cell-near

          one : InReach 1 (address c.regs 0 d.base.register place)
          one = within-reach 1 (inr refl)

          go : TakesNumber (long_kind op) → Fine n w m s₀ c s (immediate op v (element d o x))
          go (inl e) =
              let t : step m c s ≡ by moves = st ∙ ap by e in
              operand-fine (immediate op v (element d o x)) (by moves) q refl t (long-writes moves (v / 16) (v % 16) d.base.register place (omega arith) t)
              (move-ends m (v / 16 * 16 + v % 16) d.base.register place c s (inr one.2)) u
          go (inr e) =
              let t : step m c s ≡ by compares = st ∙ ap by e in
              operand-fine (immediate op v (element d o x)) (by compares) q refl t (long-writes compares (v / 16) (v % 16) d.base.register place (omega arith) t)
              (compare-ends m (v / 16 * 16 + v % 16) d.base.register place c s (inr one.1)) u

    -- ── branches ──

    -- an instruction to which one may come stands near
    good-near : (a : ℕ) (q : Point) {j : Knows} → Good w here.segment a q j → (a < room) × (origin here.segment + a < 2 ^ 24)
    good-near a q g =
        let t = near g.to g.one a g.at in
        let sh = t.short in
        let sm = t.small in
        let e = g.segment in
        (omega arith, omega arith)

    -- 15 and a displacement
    from-base : (a : ℕ) → origin here.segment + a < 2 ^ 24 → address c.regs 0 program_base a ≡ origin here.segment + a
    from-base a h = address-based c.regs program_base a (origin here.segment) (omega arith) v.base h

    branch-fine : (k t : ℕ) → here.instruction ≡ branch k t → Branches w here k t → Fine n w m s₀ c s (branch k t)
    unfolding encode
    branch-fine k t q u = cases (asked k c.code) taken-to passed-by
      where
        b : (t < room) × (origin here.segment + t < 2 ^ 24)
        b = good-near t here.point u.to

        st : step m c s ≡ long_by branches_to m (k * 16 + 0) program_base t c s
        st = decode (branch k t) 0x47 k 0 program_base t q refl refl (omega arith) b.0

        ch : Changes c [] next
        ch = long-writes branches_to k 0 program_base t (omega arith) st

        goes_by : (a : ℕ) → step m c s ≡ stepped (went (moved c a)) s → (o : ℕ) → a ≡ origin here.segment + o → {j : Knows} → Good w here.segment o here.point j → Told j c
            → Fine n w m s₀ c s (branch k t)
        goes_by a e o h {j} g d =
            wrote (branch k t) o (ap (λ (y : Stepped). y.turn.stop) e) (ap (λ (y : Stepped). y.turn.cpu.counter) e ∙ h) ch (λ x i z. i) (λ z i x h. absurd h) g
            (subst (λ (y : Stepped). Told j y.turn.cpu) (sym e) d)

        taken-to : asked k c.code ≡ true → Fine n w m s₀ c s (branch k t)
        taken-to e = goes_by _ (st ∙ rw (first_field k 0 (omega arith), second-field k 0 (omega arith), e)) t (from-base t b.1) u.to tt

        past : asked k c.code ≡ false → (k ≡ always) ⊎ Good w here.segment (here.at + 4) here.point u.after → Good w here.segment (here.at + 4) here.point u.after
        past f (inl e) = never_true (sym f ∙ (ap (λ (x : ℕ). asked x c.code) e ∙ asked-always c.code))
        past f (inr g) = g

        passed-by : asked k c.code ≡ false → Fine n w m s₀ c s (branch k t)
        passed-by e =
            let z = v.counter in
            goes_by (c.counter + 4) (st ∙ rw (first_field k 0 (omega arith), e)) (here.at + 4) (omega arith) (past e u.next) (u.gains c b.0 e v.known)

    -- ── the branch of a CASE ──

    -- the number of the statement that is chosen
    chosen : (r t : ℕ) (u : Chooses w here r t) → (j : ℕ) × (1 ≤ j) × (j ≤ choices u.case) × (reg c r ≡ 4 * j)
    chosen r t u = rw u.register at (subst (λ (k : Knows). Told k c) u.knows v.known)

    entry_of : (r t : ℕ) (u : Chooses w here r t) → Entry w here.segment (t + 4 * (chosen r t u).0) here.point (statement_at u.case.arms (chosen r t u).0 (first_of u.case))
    entry_of r t u = let k = chosen r t u in u.entries k.0 k.1 k.2

    entry-near : (r t : ℕ) (u : Chooses w here r t) → (t + 4 * (chosen r t u).0 < room) × (origin here.segment + (t + 4 * (chosen r t u).0) < 2 ^ 24)
    entry-near r t u = good-near (t + 4 * (chosen r t u).0) here.point (entry_of r t u).good

    -- 15, the register and a displacement
    by_register : (r t : ℕ) (u : Chooses w here r t) → address c.regs r program_base t ≡ origin here.segment + (t + 4 * (chosen r t u).0)
    by_register r t u =
        let k = chosen r t u in
        let h = (entry-near r t u).1 in
        let low = u.positive in
        rw (ne_eqb r 0 (λ z. omega arith), v.base, k.3) (omega arith)

    indexed-address : (r t : ℕ) → here.instruction ≡ indexed r t → (u : Chooses w here r t) → operand_address c s ≡ origin here.segment + (t + 4 * (chosen r t u).0)
    unfolding encode
    indexed-address r t q u =
        let h = (entry-near r t u).0 in
        decode-address m c s branch_op always r program_base t u.small refl (omega arith) (stand (indexed r t) q) ∙ by_register r t u

    indexed-fine : (r t : ℕ) → here.instruction ≡ indexed r t → Chooses w here r t → Fine n w m s₀ c s (indexed r t)
    unfolding encode
    indexed-fine r t q u = go (branch-goes m (always * 16 + r) program_base t c s)
      where
        st : step m c s ≡ long_by branches_to m (always * 16 + r) program_base t c s
        st = let h = (entry-near r t u).0 in decode (indexed r t) 0x47 always r program_base t q refl refl (omega arith) (omega arith)

        to-address : address c.regs ((always * 16 + r) % 16) program_base t ≡ origin here.segment + (t + 4 * (chosen r t u).0)
        to-address = rw (second-field always r u.small) (by_register r t u)

        go : Branched ((always * 16 + r) / 16) c (address c.regs ((always * 16 + r) % 16) program_base t) (long_by branches_to m (always * 16 + r) program_base t c s).turn
            → Fine n w m s₀ c s (indexed r t)
        go (taken a g) =
            wrote (indexed r t) (t + 4 * (chosen r t u).0) (ap (λ (o : Stepped). o.turn.stop) st ∙ a) (ap (λ (o : Stepped). o.turn.cpu.counter) st ∙ (g ∙ to-address))
            (long-writes branches_to always r program_base t u.small st) (λ x i z. i) (λ z i x h. absurd h) (entry_of r t u).good tt
        go (passed f o) = absurd (f (first_field always r u.small))

    link-fine : (r t : ℕ) → here.instruction ≡ link r t → Calls w here r t → Fine n w m s₀ c s (link r t)
    unfolding encode
    link-fine r t q k =
        let to = k.body.to in
        let nr = near to k.body.one t k.body.at in
        let sh = nr.short in
        let sm = nr.small in
        let sg : to.segment ≡ here.segment = k.body.segment ∙ k.segment in
        let fw : origin here.segment + t < 2 ^ 24 = omega arith in
        let fs = second-field r 0 (omega arith) in
        let ff = first_field r 0 (omega arith) in
        let back = M.link c.code (c.counter + 4) in
        let st : step m c s ≡ stepped (went (cpu (set c.regs r back) c.code (origin here.segment + t))) s =
        decode (link r t) 0x45 r 0 program_base t q refl refl (omega arith) sh ∙ rw (fs, ff, from-base t fw) in
        let ch : Changes c (r ∷ []) next = long-writes links r 0 program_base t (omega arith) (decode (link r t) 0x45 r 0 program_base t q refl refl (omega arith) sh) in
        let ct : next.counter ≡ origin here.segment + t = ap (λ (o : Stepped). o.turn.cpu.counter) st in
        let lg = v.sixteen in
        let small = k.small in
        let rv : reg next r ≡ back = ap (λ (o : Stepped). get_or o.turn.cpu.regs r 0) st ∙ get_or-set_same c.regs r back 0 (omega arith) in
        let sc = around.small in
        let cn = v.counter in
        let lk : reg next r % 2 ^ 24 ≡ after_call here = ap (λ (x : ℕ). x % 2 ^ 24) rv ∙ (link-address c.code (c.counter + 4) (omega arith) ∙ omega arith) in
        let g : Good w here.segment t to.point nothing =
        record { to = to; one = k.body.one; segment = sg; at = k.body.at; under = record { bases = λ b h. h; within = refl }; knows = k.body.knows } in
        arrives (link r t) to.point t (ap (λ (o : Stepped). o.turn.stop) st) ct ch (λ h. k.spared program_base (inl (only_one program_base r h ∙ sym k.return)) fifteen-kept)
        (chain-call n w (reg c) (reg next) here r t k v.one q (guarded to k.body.one) (λ x h. ch.others x (λ i. h (only_one x r i))) lk v.chain) g tt

    -- ── base declarations ──

    -- the table's word is as it was loaded
    table-word : (k : ℕ) → k < 2 + n → value_at s (origin 1 + 4 * k) 4 ≡ origin k
    table-word k h =
        let few = p.map.few in
        ap value_of (same-part s s₀ (origin 1 + 4 * k) 4 0 v.keeps.long (λ j i. v.keeps.kept (origin 1 + 4 * k + j) (p.map.below (origin 1 + 4 * k + j) (omega arith))))
        ∙ p.table k h

    base-fine : (r k : ℕ) → here.instruction ≡ rx 0x58 r (entry k) → Opens n w here 0x58 r k → Fine n w m s₀ c s (rx 0x58 r (entry k))
    unfolding encode
    base-fine r k q u =
        let b = u.basing in
        let ex = b.exists in
        let few = p.map.few in
        let fs = second-field r 0 (omega arith) in
        let ff = first_field r 0 (omega arith) in
        let a : address c.regs 0 14 (4 * k) ≡ origin 1 + 4 * k =
        address-based c.regs 14 (4 * k) (origin 1) (omega arith) (base-holds data_base (guarded here v.one).fourteen) (omega arith) in
        let al : (origin 1 + 4 * k) % 4 ≡ 0 = omega arith in
        let st : step m c s ≡ stepped (went (cpu (set c.regs r (origin k)) c.code (c.counter + 4))) s =
        decode (rx 0x58 r (entry k)) 0x58 r 0 14 (4 * k) q refl refl (omega arith) (omega arith)
        ∙ rw (fs, ff, a, eq-eqb ((origin 1 + 4 * k) % 4) 0 al, p.map.entries k ex, table-word k ex) in
        let ch : Changes c (r ∷ []) next =
        long-writes (applies_to 4 Load) r 0 14 (4 * k) (omega arith) (decode (rx 0x58 r (entry k)) 0x58 r 0 14 (4 * k) q refl refl (omega arith) (omega arith)) in
        let cn = v.counter in
        let ct : next.counter ≡ origin here.segment + (here.at + 4) = ap (λ (o : Stepped). o.turn.cpu.counter) st ∙ omega arith in
        let lg = v.sixteen in
        let sm = b.small in
        let rv : reg next r ≡ origin k = ap (λ (o : Stepped). get_or o.turn.cpu.regs r 0) st ∙ get_or-set_same c.regs r (origin k) 0 (omega arith) in
        let kept = chain-kept n w (reg c) (reg next) (λ x. x ≡ r) here.point b.spared b.counted (λ x h. ch.others x (λ i. h (only_one x r i))) v.chain in
        let g = u.next in
        goes (ap (λ (o : Stepped). o.turn.stop) st) ch
        (record {
          x = g.to;
          one = g.one;
          counter = let z = g.at in let y = g.segment in omega arith;
          base = ch.others program_base (λ h. b.spared program_base (only_one program_base r h) fifteen-kept) ∙ (v.base ∙ ap origin (sym g.segment));
          sixteen = ch.long ∙ v.sixteen;
          chain = chain-at n w (reg next) here.point g.to.point g.under.within (guarded g.to g.one)
              (λ d i. held d (g.under.bases d i) rv (chain-holds n w (reg next) here.point kept)) kept;
          known = subst (λ (j : Knows). Told j next) (sym g.knows) tt;
          keeps = keeps_then v.keeps (step_keeps m c s);
        })
      where
        held : (d : Based) → (d ≡ record { register = r; segment = k }) ⊎ (d ∈ here.point.bases) → reg next r ≡ origin k → Holds (reg next) here.point
            → reg next d.register ≡ origin d.segment
        held d (inl e) h f = subst (λ (y : Based). reg next y.register ≡ origin y.segment) (sym e) h
        held d (inr i) h f = f d i

    -- ── any instruction ──

    flow : Goes n l e w here here.instruction
    flow = (all_in (Flows n l e w) w p.flows here v.one).goes

    fine : (i : Instruction) → here.instruction ≡ i → Goes n l e w here i → Fine n w m s₀ c s i
    fine (rr op r x) q (inl u) =
        let z : rr 0x07 15 x ≡ rr op r x = λ i. rr (sym u.branches i) (sym u.taken i) x in
        subst (λ (i : Instruction). Fine n w m s₀ c s i) z (return-fine x u.v (q ∙ sym z) u.within u.segment u.return)
    fine (rr op r x) q (inr u) = short-fine op r x q u
    fine (rx op r (element d o x)) q u = let f = fits (rx op r (element d o x)) q u in cell-fine d o x f.1.0 op r q f.0 f.1.1 u
    fine (rx op r (literal y)) q u = literal-fine op r y q u
    fine (rx op r (entry k)) q u =
        let o : op ≡ 0x58 = u.loads ∙ load-opcode in
        let z : rx 0x58 r (entry k) ≡ rx op r (entry k) = λ i. rx (sym o i) r (entry k) in
        subst (λ (i : Instruction). Fine n w m s₀ c s i) z (base-fine r k (q ∙ sym z) (subst (λ (y : ℕ). Opens n w here y r k) o u))
    fine (I.address r a) q u =
        on-cell l here.point (λ (y : Datum). here.instruction ≡ I.address r y → Fine n w m s₀ c s (I.address r y)) a (fits (I.address r a) q u)
        (λ d o x i t. address-fine d o x i r t u) q
    fine (immediate op y a) q u =
        let f = fits (immediate op y a) q u in
        on-cell l here.point (λ (b : Datum). here.instruction ≡ immediate op y b → Fine n w m s₀ c s (immediate op y b)) a f.2
        (λ d o x i t. number-fine d o x i op y t f.0 f.1 u) q
    fine (shift op r x d) q u = shift-fine op r x d q u
    fine (branch k t) q u = branch-fine k t q u
    fine (link r t) q u = link-fine r t q u
    fine (indexed r t) q u = indexed-fine r t q u
    fine stop q u = stop-fine q

    pub step-fine : Fine n w m s₀ c s v.x.instruction
    step-fine = fine v.x.instruction refl flow

    -- ── operands ──

    -- an operand of z bytes, by an instruction that has no index
    whole : (i : Instruction) (a : Datum) (op r x b d z : ℕ) → here.instruction ≡ i → encode l i ≡ four_bytes op r x b d → x < 16 → M.index_of (long_kind op) x ≡ 0 → d < displacements
        → address c.regs 0 b d ≡ named_from l a + named_at a → 0 < z → operand_bytes (long_kind op) ≡ z → named_at a + z ≤ named_bytes a → Whole l c s a
    whole i a op r x b d z q en small bare h ad pos k wi =
        let by = subst (λ (bs : List ℕ). StandAt s c.counter bs) en (stand i q) in
        let o : operand_bytes (long_kind (get_or s c.counter 0)) ≡ z = ap (λ (y : ℕ). operand_bytes (long_kind y)) (decode-opcode m c s op r x b d by) ∙ k in
        record { at = decode-address m c s op r x b d small bare h by ∙ ad; some = omega arith; inside = omega arith }

    no_index_lem : (k : Long) (x : ℕ) → x ≡ 0 → M.index_of k x ≡ 0
    no_index_lem k x e = ap (M.index_of k) e ∙ index-none k

    module _ (d : Cell) (o x : ℕ) (i : InCell l here.point d o x) where
      element-address : address c.regs 0 d.base.register (place d o x i) ≡ named_from l (element d o x) + named_at (element d o x)
      element-address = cell-address d o x i ∙ omega arith

      -- z bytes of the element
      whole-element : (j : Instruction) (op r y z : ℕ) → here.instruction ≡ j → encode l j ≡ four_bytes op r y d.base.register (place d o x i) → y < 16 → M.index_of (long_kind op) y ≡ 0
          → (z ≡ element_size d.width) ⊎ (z ≡ 1) → operand_bytes (long_kind op) ≡ z → Whole l c s (element d o x)
      whole-element j op r y z q en small bare t k =
          let b = part-inside d.width z t in
          let h = i.whole in
          whole j (element d o x) op r y d.base.register (place d o x i) z q en small bare (cell-near d o x i) element-address b.0 k (omega arith)

      address-lies : (r : ℕ) → here.instruction ≡ I.address r (element d o x) → x ≡ 0 → Lies l c s (element d o x)
      unfolding encode
      address-lies r q e =
          let h = i.whole in
          let g = size-positive d.width in
          record {
            formed = decode-address m c s address_op r x d.base.register (place d o x i) i.index (no_index_lem addresses x e) (cell-near d o x i)
                (stand (I.address r (element d o x)) q) ∙ element-address;
            inside = omega arith;
          }

    named : (i : Instruction) → here.instruction ≡ i → Goes n l e w here i → Named l here.segment c s i
    unfolding encode
    named (rr op r x) q u = tt
    named (rx op r (element d o x)) q u = λ h.
        let f = fits (rx op r (element d o x)) q u in
        let t = f.1.1 in
        whole-element d o x f.1.0 (rx op r (element d o x)) op r x t.bytes q refl f.1.0.index (no_index_lem (long_kind op) x h) t.part
        (serves-bytes (long_kind op) t.bytes r t.serves)
    named (rx op r (literal y)) q u = λ h.
        let f = fits (rx op r (literal y)) q u in
        let j = literal-place op r y q in
        whole (rx op r (literal y)) (literal y) op r 0 14 (l.literals_at + 4 * index_of y l.literals) 4 q refl (omega arith) (index-none (long_kind op)) (omega arith)
        (literal-address op r y q ∙ omega arith) (omega arith) (reads-some (long_kind op) 4 r f.1) (omega arith)
    named (rx op r (entry k)) q u = λ h.
        let ex = u.basing.exists in
        let few = p.map.few in
        let a : address c.regs 0 14 (4 * k) ≡ origin 1 + 4 * k =
        address-based c.regs 14 (4 * k) (origin 1) (omega arith) (base-holds data_base (guarded here v.one).fourteen) (omega arith) in
        whole (rx op r (entry k)) (entry k) op r 0 14 (4 * k) 4 q refl (omega arith) (index-none (long_kind op)) (omega arith) (a ∙ omega arith) (omega arith)
        (ap (λ (y : ℕ). operand_bytes (long_kind y)) (u.loads ∙ load-opcode)) (omega arith)
    named (I.address r a) q u =
        on-cell l here.point (λ (y : Datum). here.instruction ≡ I.address r y → index_register y ≡ 0 → Lies l c s y) a (fits (I.address r a) q u)
        (λ d o x i t h. address-lies d o x i r t h) q
    named (immediate op y a) q u =
        let f = fits (immediate op y a) q u in
        on-cell l here.point (λ (b : Datum). here.instruction ≡ immediate op y b → Whole l c s b) a f.2
        (λ d o x i t. whole-element d o x i (immediate op y (element d o x)) op (y / 16) (y % 16) 1 t refl (omega arith) (number-index (long_kind op) (y % 16) f.1) (inr refl)
        (number-bytes (long_kind op) f.1)) q
    named (shift op r x d) q u = tt
    named (branch k t) q u =
        let b = good-near t here.point u.to in
        decode-address m c s branch_op k 0 program_base t (omega arith) refl b.0 (stand (branch k t) q) ∙ from-base t b.1
    named (link r t) q u =
        let nr = near u.body.to u.body.one t u.body.at in
        let sh = nr.short in
        let sm = nr.small in
        let sg : u.body.to.segment ≡ here.segment = u.body.segment ∙ u.segment in
        decode-address m c s link_op r 0 program_base t (omega arith) refl sh (stand (link r t) q) ∙ from-base t (omega arith)
    named (indexed r t) q u =
        let k = chosen r t u in
        record { number = k.0; from_one = k.1; holds = k.3; formed = indexed-address r t q u }
    named stop q u = tt

    pub operand-named : Named l v.x.segment c s v.x.instruction
    operand-named = named v.x.instruction refl flow

    -- the branch of a CASE meets its table
    meets : (r t : ℕ) → here.instruction ≡ indexed r t → (u : Chooses w here r t) → Meets w c s here r
    meets r t q u =
        let k = chosen r t u in
        let g = (entry_of r t u).good in
        record {
          case = u.case;
          its = u.knows;
          by = u.register;
          number = k.0;
          from_one = k.1;
          to-count = k.2;
          holds = k.3;
          entry = g.to;
          written = g.one;
          at = g.at ∙ ap (λ (a : ℕ). a + 4 * k.0) u.before;
          formed = indexed-address r t q u ∙ let e = g.at in let f = g.segment in omega arith;
          goes = (entry_of r t u).branches;
        }

    pub meets-table : (r t : ℕ) → v.x.instruction ≡ indexed r t → Meets w c s v.x r
    meets-table r t q = meets r t q (subst (λ (i : Instruction). Goes n l e w here i) q flow)

    -- the final instruction is the last
    pub stop-last : v.x.instruction ≡ stop → v.x.at ≡ e
    stop-last q = subst (λ (i : Instruction). Goes n l e w here i) q flow
