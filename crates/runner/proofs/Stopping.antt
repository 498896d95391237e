-- How a step stops and what a run counts: the step's stop is the first of the causes that apply, a run is its completed steps and then its end, and the counter
-- stays below 2 ^ 24. Assumes nothing.
use Prim.Native.Nat.{ℕ, zero, suc, ◌+◌, ◌*◌, ◌/◌, ◌%◌, ◌^◌, ◌<◌, ◌≤◌}
use mathlib.Core.Path.{◌≡◌, refl, sym, ◌∙◌, subst}
use mathlib.Core.Bool.{Bool, true, false, not}
use mathlib.Core.List.{List}
use native.Mathlib.Omega.{arith}
use lib.Dec.{ltb, leb, eqb}
use lib.ListN.{get_or}
use borrow.Author.Tests.{leb-true, le-leb, eq-eqb, ne_eqb, eqb-true, eqb-false}
use Rattle.base.specs.Choose.{choose}
use Rattle.base.proofs.Tests.{cases, by-test}
use Rattle.machine.specs.Space.{Space, room, origin, readable, writable}
use Rattle.machine.specs.Instructions.{Short, applies, multiplies, branches, ends, unlisted, Long, applies_to, multiplies_by, stores, branches_to, links, shifts, addresses, moves, compares, unlisted_long, short_kind, long_kind}
use Rattle.machine.specs.Step.{Cpu, Turn, Stepped, stepped, went, halted, address, asked, completed, index_of, short_by, long_by, step}
use Rattle.machine.specs.Run.{Result, result, counted, onward, run}
use Rattle.machine.proofs.Operands.{byte-aligned}
use Rattle.machine.proofs.Stops.{stopped-same}
use Rattle.runner.specs.Stops.{no_short, no_long, is_none, ends_at, is_end, misaligned_at, is_misaligned, forbidden_at, is_forbidden, first_of, reached}

-- ── the first of several causes ──

short-stop : (k : Short) (rx : ℕ) (c : Cpu) → (short_by k rx c).stop ≡ first_of (no_short k rx) (ends_at k rx) false false
short-stop (applies f) rx c = refl
short-stop multiplies rx c = go (eqb (rx / 16 % 2) 0) _
  where
    go : (t : Bool) (d : Cpu) → (choose t (went d) (halted 4 c)).stop ≡ first_of (not t) false false false
    go true d = refl
    go false d = refl
short-stop branches rx c = go (eqb (rx % 16) 0) (asked (rx / 16) c.code) _ _ _
  where
    go : (t u : Bool) (d e f : Cpu) → (choose t (went d) (choose u (went e) (went f))).stop ≡ completed
    go true u d e f = refl
    go false true d e f = refl
    go false false d e f = refl
short-stop ends rx c = go (eqb rx 0)
  where
    go : (t : Bool) → choose t 1 4 ≡ first_of (not t) t false false
    go true = refl
    go false = refl
short-stop unlisted rx c = refl

-- an operand: 3 before 2
operand-stop : (t u : Bool) (c d : Cpu) → (choose t (choose u (went d) (halted 2 c)) (halted 3 c)).stop ≡ first_of false false (not t) (not u)
operand-stop true true c d = refl
operand-stop true false c d = refl
operand-stop false u c d = refl

stored-stop : (t u : Bool) (c d : Cpu) (s s' : List ℕ)
    → (choose t (choose u (stepped (went d) s') (stepped (halted 2 c) s)) (stepped (halted 3 c) s)).turn.stop ≡ first_of false false (not t) (not u)
stored-stop true true c d s s' = refl
stored-stop true false c d s s' = refl
stored-stop false u c d s s' = refl

paired-stop : (v t u : Bool) (c d : Cpu)
    → (choose v (choose t (choose u (went d) (halted 2 c)) (halted 3 c)) (halted 4 c)).stop ≡ first_of (not v) false (not t) (not u)
paired-stop true t u c d = operand-stop t u c d
paired-stop false t u c d = refl

long-stop : (k : Long) (m : Space) (rx b d : ℕ) (c : Cpu) (s : List ℕ)
    → (long_by k m rx b d c s).turn.stop ≡ first_of (no_long k rx) false (misaligned_at k (address c.regs (index_of k (rx % 16)) b d)) (forbidden_at k m (address c.regs (index_of k (rx % 16)) b d))
long-stop (applies_to n f) m rx b d c s = let a = address c.regs (rx % 16) b d in operand-stop (eqb (a % n) 0) (readable m a n) c _
long-stop multiplies_by m rx b d c s = let a = address c.regs (rx % 16) b d in paired-stop (eqb (rx / 16 % 2) 0) (eqb (a % 4) 0) (readable m a 4) c _
long-stop (stores n) m rx b d c s = let a = address c.regs (rx % 16) b d in stored-stop (eqb (a % n) 0) (writable m a n) c _ s _
long-stop branches_to m rx b d c s = go (asked (rx / 16) c.code) _ _
  where
    go : (t : Bool) (e f : Cpu) → (choose t (went e) (went f)).stop ≡ completed
    go true e f = refl
    go false e f = refl
long-stop links m rx b d c s = refl
long-stop (shifts f) m rx b d c s = refl
long-stop addresses m rx b d c s = refl
long-stop moves m rx b d c s = let a = address c.regs 0 b d in rw (byte-aligned a) (stored-stop true (writable m a 1) c _ s _)
long-stop compares m rx b d c s = let a = address c.regs 0 b d in rw (byte-aligned a) (operand-stop true (readable m a 1) c _)
long-stop unlisted_long m rx b d c s = refl

pub first-cause : (m : Space) (c : Cpu) (s : List ℕ) → (step m c s).turn.stop ≡ first_of (is_none m c s) (is_end c s) (is_misaligned c s) (is_forbidden m c s)
unfolding step
first-cause m c s =
    cases (eqb (i % 2) 0)
    (λ e.
    cases (leb (origin 0) i)
    (λ f.
    cases (ltb op 64)
    (λ l. cases (leb (i + 2) (origin 0 + m.program)) (λ g. rw (e, f, l, g) (short-stop (short_kind op) rx c)) (λ g. rw (e, f, l, g)))
    (λ l.
    cases (leb (i + 4) (origin 0 + m.program))
    (λ g.
    let h : leb (i + 2) (origin 0 + m.program) ≡ true = le-leb (i + 2) (origin 0 + m.program) (omega (arith, leb-true (i + 4) (origin 0 + m.program) g)) in
    rw (e, f, l, g, h) (long-stop (long_kind op) m rx (get_or s (i + 2) 0 / 16) (get_or s (i + 2) 0 % 16 * 256 + get_or s (i + 3) 0) c s))
    (λ g. cases (leb (i + 2) (origin 0 + m.program)) (λ h. rw (e, f, l, g, h)) (λ h. rw (e, f, l, g, h)))))
    (λ f. rw (e, f)))
    (λ e. rw e)
  where
    i : ℕ
    i = c.counter

    op : ℕ
    op = get_or s i 0

    rx : ℕ
    rx = get_or s (i + 1) 0

-- ── a step in a run ──

-- one that stops is the end: all stays as it was, and it is not counted
pub stops-run : (n : ℕ) (m : Space) (c : Cpu) (s : List ℕ) → ((step m c s).turn.stop ≡ completed → ⊥) → run (suc n) m c s ≡ result (step m c s).turn.stop c 0 s
unfolding run onward
stops-run n m c s h =
    let e = stopped-same m c s h in
    rw (ne_eqb (step m c s).turn.stop completed h, e.0, e.1)

-- one that is completed counts, and the run goes on from it
pub counts-on : (n : ℕ) (m : Space) (c : Cpu) (s : List ℕ) → (step m c s).turn.stop ≡ completed
    → run (suc n) m c s ≡ counted 1 (run n m (step m c s).turn.cpu (step m c s).store)
unfolding run onward
counts-on n m c s h = rw (eq-eqb (step m c s).turn.stop completed h)

-- what a run of at most n instructions answers
pub record Counts (n : ℕ) (m : Space) (c : Cpu) (s : List ℕ) (r : Result) : Type 0 where
  pub within : r.count ≤ n
  pub cpu : r.cpu ≡ (reached r.count m c s).cpu
  pub store : r.store ≡ (reached r.count m c s).store
  pub each : (i : ℕ) → i < r.count → (step m (reached i m c s).cpu (reached i m c s).store).turn.stop ≡ completed
  pub used : r.stop ≡ 0 → r.count ≡ n
  pub stopped : (r.stop ≡ 0 → ⊥) → r.stop ≡ (step m r.cpu r.store).turn.stop

-- no stop of a step is 0: that is the budget's
not-zero : (m : Space) (c : Cpu) (s : List ℕ) → (step m c s).turn.stop ≡ 0 → ⊥
not-zero m c s e = go (is_none m c s) (is_end c s) (is_misaligned c s) (is_forbidden m c s) (sym (first-cause m c s) ∙ e)
  where
    go : (p q r u : Bool) → first_of p q r u ≡ 0 → ⊥
    go true q r u h = omega arith
    go false true r u h = omega arith
    go false false true u h = omega arith
    go false false false true h = omega arith
    go false false false false h = omega arith

counts-first : (n : ℕ) (m : Space) (c : Cpu) (s : List ℕ) → (step m c s).turn.stop ≡ completed → (r : Result)
    → Counts n m (step m c s).turn.cpu (step m c s).store r → Counts (suc n) m c s (counted 1 r)
counts-first n m c s e r k =
    let w = k.within in
    let p : 1 + r.count ≡ suc r.count = omega arith in
    record {
      within = omega arith;
      cpu = rw p k.cpu;
      store = rw p k.store;
      each = λ i h. at i h;
      used = λ z. (let u = k.used z in omega arith);
      stopped = k.stopped;
    }
  where
    at : (i : ℕ) → i < 1 + r.count → (step m (reached i m c s).cpu (reached i m c s).store).turn.stop ≡ completed
    at zero h = e
    at (suc i) h = k.each i (omega arith)

pub run-counts : (n : ℕ) (m : Space) (c : Cpu) (s : List ℕ) → Counts n m c s (run n m c s)
unfolding run
run-counts zero m c s = record { within = omega arith; cpu = refl; store = refl; each = λ i h. absurd (omega arith); used = λ z. refl; stopped = λ z. absurd (z refl) }
run-counts (suc n) m c s = go (eqb (step m c s).turn.stop completed) refl (run-counts n m (step m c s).turn.cpu (step m c s).store)
  where
    go : (b : Bool) → eqb (step m c s).turn.stop completed ≡ b → Counts n m (step m c s).turn.cpu (step m c s).store (run n m (step m c s).turn.cpu (step m c s).store)
        → Counts (suc n) m c s (run (suc n) m c s)
    go true e k =
        let h = eqb-true (step m c s).turn.stop completed e in
        subst (Counts (suc n) m c s) (sym (counts-on n m c s h)) (counts-first n m c s h (run n m (step m c s).turn.cpu (step m c s).store) k)
    go false e k =
        let h = eqb-false (step m c s).turn.stop completed e in
        subst (Counts (suc n) m c s) (sym (stops-run n m c s h))
        (record {
          within = omega arith;
          cpu = refl;
          store = refl;
          each = λ i l. absurd (omega arith);
          used = λ z. absurd (not-zero m c s z);
          stopped = λ z. refl;
        })

-- ── 24 bits ──

abbrev Short24 : Stepped → Type 0
Short24 o = o.turn.cpu.counter < 2 ^ 24

either : (t : Bool) (a b : Stepped) → Short24 a → Short24 b → Short24 (choose t a b)
either true a b p q = p
either false a b p q = q

module _ (c : Cpu) (s : List ℕ) where
  turns : (t : Bool) (a b : Turn) → Short24 (stepped a s) → Short24 (stepped b s) → Short24 (stepped (choose t a b) s)
  turns true a b p q = p
  turns false a b p q = q

  short-24 : (k : Short) (rx : ℕ) → c.counter + 4 < 2 ^ 24 → Short24 (stepped (short_by k rx c) s)
  short-24 (applies f) rx h = omega arith
  short-24 multiplies rx h = turns (eqb (rx / 16 % 2) 0) _ _ (omega arith) (omega arith)
  short-24 branches rx h = turns (eqb (rx % 16) 0) _ _ (omega arith) (turns (asked (rx / 16) c.code) _ _ (omega arith) (omega arith))
  short-24 ends rx h = omega arith
  short-24 unlisted rx h = omega arith

  long-24 : (k : Long) (m : Space) (rx b d : ℕ) → c.counter + 4 < 2 ^ 24 → Short24 (long_by k m rx b d c s)
  long-24 (applies_to n f) m rx b d h =
      let a = address c.regs (rx % 16) b d in turns (eqb (a % n) 0) _ _ (turns (readable m a n) _ _ (omega arith) (omega arith)) (omega arith)
  long-24 multiplies_by m rx b d h =
      let a = address c.regs (rx % 16) b d in
      turns (eqb (rx / 16 % 2) 0) _ _ (turns (eqb (a % 4) 0) _ _ (turns (readable m a 4) _ _ (omega arith) (omega arith)) (omega arith)) (omega arith)
  long-24 (stores n) m rx b d h =
      let a = address c.regs (rx % 16) b d in either (eqb (a % n) 0) _ _ (either (writable m a n) _ _ (omega arith) (omega arith)) (omega arith)
  long-24 branches_to m rx b d h = turns (asked (rx / 16) c.code) _ _ (omega arith) (omega arith)
  long-24 links m rx b d h = omega arith
  long-24 (shifts f) m rx b d h = omega arith
  long-24 addresses m rx b d h = omega arith
  long-24 moves m rx b d h = let a = address c.regs 0 b d in either (eqb (a % 1) 0) _ _ (either (writable m a 1) _ _ (omega arith) (omega arith)) (omega arith)
  long-24 compares m rx b d h = let a = address c.regs 0 b d in turns (eqb (a % 1) 0) _ _ (turns (readable m a 1) _ _ (omega arith) (omega arith)) (omega arith)
  long-24 unlisted_long m rx b d h = omega arith

  pub step-24 : (m : Space) → m.program ≤ room → c.counter < 2 ^ 24 → (step m c s).turn.cpu.counter < 2 ^ 24
  unfolding step
  step-24 m p h =
      let i = c.counter in
      let op = get_or s i 0 in
      either (eqb (i % 2) 0) _ _
      (either (leb (origin 0) i) _ _
      (by-test Short24 (leb (i + 2) (origin 0 + m.program)) _ _
      (λ e.
      let l = leb-true (i + 2) (origin 0 + m.program) e in
      either (ltb op 64) _ _
      (short-24 (short_kind op) (get_or s (i + 1) 0) (omega arith))
      (either (leb (i + 4) (origin 0 + m.program)) _ _
      (long-24 (long_kind op) m (get_or s (i + 1) 0) (get_or s (i + 2) 0 / 16) (get_or s (i + 2) 0 % 16 * 256 + get_or s (i + 3) 0) (omega arith))
      h))
      (λ e. h))
      h)
      h

pub reached-24 : (n : ℕ) (m : Space) (c : Cpu) (s : List ℕ) → m.program ≤ room → c.counter < 2 ^ 24 → (reached n m c s).cpu.counter < 2 ^ 24
reached-24 zero m c s p h = h
reached-24 (suc n) m c s p h = reached-24 n m (step m c s).turn.cpu (step m c s).store p (step-24 c s m p h)
