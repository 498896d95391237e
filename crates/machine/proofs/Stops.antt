-- Which stops there are: an instruction's is at most 5, which is none, and a run's is below 5. And what stops changes nothing. Assumes nothing.
use Prim.Native.Nat.{ℕ, zero, suc, ◌+◌, ◌*◌, ◌/◌, ◌%◌, ◌<◌}
use mathlib.Core.Path.{◌≡◌, refl, sym, subst}
use mathlib.Core.Bool.{Bool, true, false}
use mathlib.Core.List.{List}
use native.Mathlib.Omega.{arith}
use lib.Dec.{eqb, leb, ltb}
use lib.ListN.{get_or}
use borrow.Author.Tests.{ne_eqb}
use Rattle.base.specs.Choose.{choose}
use Rattle.machine.specs.Space.{Space, origin, readable, writable}
use Rattle.machine.specs.Instructions.{Short, applies, multiplies, branches, ends, unlisted, Long, applies_to, multiplies_by, stores, branches_to, links, shifts, addresses, moves, compares, unlisted_long, short_kind, long_kind}
use Rattle.machine.specs.Step.{Cpu, Turn, Stepped, stepped, went, halted, completed, address, asked, short_by, long_by, step}
use Rattle.machine.specs.Run.{onward, after, run}

-- completed, or stopped by a number from 1 to 4 with all as it was
pub data Ends (c : Cpu) (s : List ℕ) : Stepped → Type 0 where
  on : {d : Cpu} {t : List ℕ} → Ends c s (stepped (went d) t)
  off : (k : ℕ) → 0 < k → k < 5 → Ends c s (stepped (halted k c) s)

either : {c : Cpu} {s : List ℕ} (t : Bool) {a b : Stepped} → Ends c s a → Ends c s b → Ends c s (choose t a b)
either true p q = p
either false p q = q

-- the same of an answer that leaves storage
turns : {c : Cpu} {s : List ℕ} (t : Bool) {a b : Turn} → Ends c s (stepped a s) → Ends c s (stepped b s) → Ends c s (stepped (choose t a b) s)
turns true p q = p
turns false p q = q

no-instruction : {c : Cpu} {s : List ℕ} → Ends c s (stepped (halted 4 c) s)
no-instruction = off 4 (omega arith) (omega arith)

misaligned : {c : Cpu} {s : List ℕ} → Ends c s (stepped (halted 3 c) s)
misaligned = off 3 (omega arith) (omega arith)

forbidden : {c : Cpu} {s : List ℕ} → Ends c s (stepped (halted 2 c) s)
forbidden = off 2 (omega arith) (omega arith)

short-ends : (k : Short) (rx : ℕ) (c : Cpu) (s : List ℕ) → Ends c s (stepped (short_by k rx c) s)
short-ends (applies f) rx c s = on
short-ends multiplies rx c s = turns (eqb (rx / 16 % 2) 0) on no-instruction
short-ends branches rx c s = turns (eqb (rx % 16) 0) on (turns (asked (rx / 16) c.code) on on)
short-ends ends rx c s = go (eqb rx 0)
  where
    go : (b : Bool) → Ends c s (stepped (halted (choose b 1 4) c) s)
    go true = off 1 (omega arith) (omega arith)
    go false = off 4 (omega arith) (omega arith)
short-ends unlisted rx c s = no-instruction

long-ends : (k : Long) (m : Space) (rx b d : ℕ) (c : Cpu) (s : List ℕ) → Ends c s (long_by k m rx b d c s)
long-ends (applies_to n f) m rx b d c s = let a = address c.regs (rx % 16) b d in turns (eqb (a % n) 0) (turns (readable m a n) on forbidden) misaligned
long-ends multiplies_by m rx b d c s =
    let a = address c.regs (rx % 16) b d in
    turns (eqb (rx / 16 % 2) 0) (turns (eqb (a % 4) 0) (turns (readable m a 4) on forbidden) misaligned) no-instruction
long-ends (stores n) m rx b d c s = let a = address c.regs (rx % 16) b d in either (eqb (a % n) 0) (either (writable m a n) on forbidden) misaligned
long-ends branches_to m rx b d c s = turns (asked (rx / 16) c.code) on on
long-ends links m rx b d c s = on
long-ends (shifts f) m rx b d c s = on
long-ends addresses m rx b d c s = on
long-ends moves m rx b d c s = let a = address c.regs 0 b d in either (eqb (a % 1) 0) (either (writable m a 1) on forbidden) misaligned
long-ends compares m rx b d c s = let a = address c.regs 0 b d in turns (eqb (a % 1) 0) (turns (readable m a 1) on forbidden) misaligned
long-ends unlisted_long m rx b d c s = no-instruction

pub step-ends : (m : Space) (c : Cpu) (s : List ℕ) → Ends c s (step m c s)
unfolding step
step-ends m c s =
    let i = c.counter in
    let op = get_or s i 0 in
    either (eqb (i % 2) 0)
    (either (leb (origin 0) i)
    (either (leb (i + 2) (origin 0 + m.program))
    (either (ltb op 64)
    (short-ends (short_kind op) (get_or s (i + 1) 0) c s)
    (either (leb (i + 4) (origin 0 + m.program))
    (long-ends (long_kind op) m (get_or s (i + 1) 0) (get_or s (i + 2) 0 / 16) (get_or s (i + 2) 0 % 16 * 256 + get_or s (i + 3) 0) c s)
    no-instruction))
    no-instruction)
    no-instruction)
    no-instruction

-- "A stopped instruction changes nothing": registers, code, counter and storage are as before
pub stopped-same : (m : Space) (c : Cpu) (s : List ℕ) → ((step m c s).turn.stop ≡ completed → ⊥) → ((step m c s).turn.cpu ≡ c) × ((step m c s).store ≡ s)
stopped-same m c s h = go (step m c s) (step-ends m c s) h
  where
    go : (o : Stepped) → Ends c s o → (o.turn.stop ≡ completed → ⊥) → (o.turn.cpu ≡ c) × (o.store ≡ s)
    go o on n = absurd (n refl)
    go o (off k z l) n = (refl, refl)

pub run-stops : (n : ℕ) (m : Space) (c : Cpu) (s : List ℕ) → (run n m c s).stop < 5
unfolding run onward
run-stops zero m c s = omega arith
run-stops (suc n) m c s = go (step m c s) (step-ends m c s) (λ d t. run-stops n m d t)
  where
    go : (o : Stepped) → Ends c s o → ((d : Cpu) (t : List ℕ) → (run n m d t).stop < 5) → (after o (λ d t. run n m d t)).stop < 5
    go o (on {d} {t}) ih = ih d t
    go o (off k z l) ih = subst (λ (b : Bool). (onward b (stepped (halted k c) s) (λ d t. run n m d t)).stop < 5) (sym (ne_eqb k 5 (λ e. omega arith))) l
