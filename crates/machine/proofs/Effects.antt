-- What an instruction does to registers and counter, by its kind: which registers it may change (`short-changes`, `long-changes`, `step-writes`), when it goes
-- on to the next, and how it stops where it does not. Assumes nothing.
use Prim.Native.Nat.{ℕ, ◌+◌, ◌*◌, ◌/◌, ◌%◌, ◌^◌, ◌<◌, ◌≤◌}
use mathlib.Core.Path.{◌≡◌, refl, sym, ap, ◌∙◌}
use mathlib.Core.Logic.{◌⊎◌, inl, inr}
use mathlib.Core.Bool.{Bool, true, false}
use mathlib.Core.List.{List, [], ◌∷◌}
use native.Mathlib.Omega.{arith}
use lib.Dec.{eqb}
use lib.ListN.{length, get_or, set, length-set}
use lib.Seq.{get_or-set_other, set-get_or}
use borrow.Author.Tests.{eq-eqb, ne_eqb, le-leb, lt-ltb, le-ltb}
use Rattle.base.specs.Choose.{choose}
use Rattle.base.specs.Lists.{◌∈◌}
use Rattle.base.proofs.Tests.{by-test, never_true}
use Rattle.machine.specs.declared.Fun.{Fun}
use Rattle.machine.specs.declared.Fun.TheVariants.{Load, Add, Subtract, AddLogical, SubtractLogical, And, Or, ExclusiveOr, Compare, Positive, Negative, Complement, MultiplyHalf, Insert, Test}
use Rattle.machine.specs.declared.Shift.{Shift}
use Rattle.machine.specs.Space.{Space, origin, readable, writable}
use Rattle.machine.specs.Instructions.{Short, applies, multiplies, branches, ends, unlisted, Long, applies_to, multiplies_by, stores, branches_to, links, shifts, addresses, moves, compares, unlisted_long, short_kind, long_kind}
use Rattle.machine.specs.Writes.{writes_by, writes_short, writes_long}
use Rattle.machine.specs.Step.{Cpu, cpu, Turn, Stepped, stepped, went, halted, moved, executed, paired, completed, forbidden, misaligned, address, asked, link, operand, on_operand, index_of, short_by, long_by, step}

-- ── registers ──

-- as many registers as before, and all but those of ws as they were
pub record Changes (c : Cpu) (ws : List ℕ) (d : Cpu) : Type 0 where
  pub long : length d.regs ≡ length c.regs
  pub others : (q : ℕ) → (q ∈ ws → ⊥) → get_or d.regs q 0 ≡ get_or c.regs q 0

unchanged : {ws : List ℕ} (c : Cpu) (k a : ℕ) → Changes c ws (cpu c.regs k a)
unchanged c k a = record { long = refl; others = λ q h. refl }

one : (c : Cpu) (r v k a : ℕ) → Changes c (r ∷ []) (cpu (set c.regs r v) k a)
one c r v k a = record { long = length-set c.regs r v; others = λ q h. get_or-set_other c.regs r q v 0 (λ e. h (inl e)) }

-- a register that is written back as it was
same : (c : Cpu) (r k a : ℕ) → Changes c [] (cpu (set c.regs r (get_or c.regs r 0)) k a)
same c r k a = record { long = length-set c.regs r _; others = λ q h. ap (λ (l : List ℕ). get_or l q 0) (set-get_or c.regs r 0) }

two : (c : Cpu) (r b a : ℕ) → Changes c (r ∷ (r + 1) ∷ []) (paired c r b a)
two c r b a =
    record {
      long = length-set (set c.regs r _) (r + 1) _ ∙ length-set c.regs r _;
      others = λ q h. get_or-set_other (set c.regs r _) (r + 1) q _ 0 (λ e. h (inr (inl e))) ∙ get_or-set_other c.regs r q _ 0 (λ e. h (inl e));
    }

executes : (c : Cpu) (f : Fun) (r b a : ℕ) → Changes c (writes_by f r) (executed c f r b a)
executes c Load r b a = one c r _ _ a
executes c Add r b a = one c r _ _ a
executes c Subtract r b a = one c r _ _ a
executes c AddLogical r b a = one c r _ _ a
executes c SubtractLogical r b a = one c r _ _ a
executes c And r b a = one c r _ _ a
executes c Or r b a = one c r _ _ a
executes c ExclusiveOr r b a = one c r _ _ a
executes c Compare r b a = same c r _ a
executes c Positive r b a = one c r _ _ a
executes c Negative r b a = one c r _ _ a
executes c Complement r b a = one c r _ _ a
executes c MultiplyHalf r b a = one c r _ _ a
executes c Insert r b a = one c r _ _ a
executes c Test r b a = one c r _ _ a

-- of an answer
abbrev TurnChanges : Cpu → List ℕ → Turn → Type 0
TurnChanges c ws t = Changes c ws t.cpu

pub short-changes : (k : Short) (rx : ℕ) (c : Cpu) → Changes c (writes_short k (rx / 16)) (short_by k rx c).cpu
short-changes (applies f) rx c = executes c f (rx / 16) _ _
short-changes multiplies rx c = by-test (TurnChanges c _) (eqb (rx / 16 % 2) 0) _ _ (λ e. two c (rx / 16) (get_or c.regs (rx % 16) 0) _) (λ e. unchanged c _ _)
short-changes branches rx c =
    by-test (TurnChanges c _) (eqb (rx % 16) 0) _ _ (λ e. unchanged c _ _)
    (λ e. by-test (TurnChanges c _) (asked (rx / 16) c.code) _ _ (λ g. unchanged c _ _) (λ g. unchanged c _ _))
short-changes ends rx c = unchanged c _ _
short-changes unlisted rx c = unchanged c _ _

abbrev StepChanges : Cpu → List ℕ → Stepped → Type 0
StepChanges c ws o = Changes c ws o.turn.cpu

-- an operand that is stored or compared leaves the registers, whether it is allowed or not
leaves_all : {A : Type 0} (f : A → Turn) (c : Cpu) (ok : Bool) (a n : ℕ) (done : A) (halt : ℕ → A) → (f done).cpu.regs ≡ c.regs → ((k : ℕ) → (f (halt k)).cpu.regs ≡ c.regs)
    → Changes c [] (f (on_operand ok a n done halt)).cpu
leaves_all {A} f c ok a n done halt d h = go (eqb (a % n) 0) ok
  where
    as-was : (t : Turn) → t.cpu.regs ≡ c.regs → Changes c [] t.cpu
    as-was t e = record { long = ap length e; others = λ q i. ap (λ (l : List ℕ). get_or l q 0) e }

    go : (p q : Bool) → Changes c [] (f (choose p (choose q done (halt forbidden)) (halt misaligned))).cpu
    go true true = as-was (f done) d
    go true false = as-was (f (halt forbidden)) (h forbidden)
    go false q = as-was (f (halt misaligned)) (h misaligned)

pub long-changes : (k : Long) (m : Space) (rx b d : ℕ) (c : Cpu) (s : List ℕ) → Changes c (writes_long k (rx / 16)) (long_by k m rx b d c s).turn.cpu
long-changes (applies_to n f) m rx b d c s =
    let a = address c.regs (rx % 16) b d in
    by-test (TurnChanges c _) (eqb (a % n) 0) _ _
    (λ e. by-test (TurnChanges c _) (readable m a n) _ _ (λ g. executes c f (rx / 16) (operand s a n) _) (λ g. unchanged c _ _)) (λ e. unchanged c _ _)
long-changes multiplies_by m rx b d c s =
    let a = address c.regs (rx % 16) b d in
    by-test (TurnChanges c _) (eqb (rx / 16 % 2) 0) _ _
    (λ h. by-test (TurnChanges c _) (eqb (a % 4) 0) _ _
    (λ e. by-test (TurnChanges c _) (readable m a 4) _ _ (λ g. two c (rx / 16) (operand s a 4) _) (λ g. unchanged c _ _)) (λ e. unchanged c _ _))
    (λ h. unchanged c _ _)
long-changes (stores n) m rx b d c s =
    let a = address c.regs (rx % 16) b d in
    leaves_all (λ (o : Stepped). o.turn) c (writable m a n) a n _ (λ j. stepped (halted j c) s) refl (λ j. refl)
long-changes branches_to m rx b d c s = by-test (TurnChanges c _) (asked (rx / 16) c.code) _ _ (λ e. unchanged c _ _) (λ e. unchanged c _ _)
long-changes links m rx b d c s = one c (rx / 16) _ _ _
long-changes (shifts f) m rx b d c s = one c (rx / 16) _ _ _
long-changes addresses m rx b d c s = one c (rx / 16) _ _ _
long-changes moves m rx b d c s =
    let a = address c.regs 0 b d in
    leaves_all (λ (o : Stepped). o.turn) c (writable m a 1) a 1 _ (λ j. stepped (halted j c) s) refl (λ j. refl)
long-changes compares m rx b d c s =
    let a = address c.regs 0 b d in
    leaves_all (λ t. t) c (readable m a 1) a 1 _ (λ j. halted j c) refl (λ j. refl)
long-changes unlisted_long m rx b d c s = unchanged c _ _

-- ── the kind and the fields of the instruction at the counter ──

module _ (m : Space) (c : Cpu) (s : List ℕ) (even : c.counter % 2 ≡ 0) (low : origin 0 ≤ c.counter) (op : ℕ) (is : get_or s c.counter 0 ≡ op) where
  pub step-short : op < 64 → c.counter + 2 ≤ origin 0 + m.program → step m c s ≡ stepped (short_by (short_kind op) (get_or s (c.counter + 1) 0) c) s
  unfolding step
  step-short h e =
      rw (eq-eqb (c.counter % 2) 0 even, le-leb (origin 0) c.counter low, le-leb (c.counter + 2) (origin 0 + m.program) e, is, lt-ltb op 64 h)

  pub step-long : 64 ≤ op → c.counter + 4 ≤ origin 0 + m.program
      → step m c s
      ≡ long_by (long_kind op) m (get_or s (c.counter + 1) 0) (get_or s (c.counter + 2) 0 / 16) (get_or s (c.counter + 2) 0 % 16 * 256 + get_or s (c.counter + 3) 0) c s
  unfolding step
  step-long h e =
      rw (
        eq-eqb (c.counter % 2) 0 even,
        le-leb (origin 0) c.counter low,
        le-leb (c.counter + 2) (origin 0 + m.program) (omega arith),
        is,
        le-ltb op 64 h,
        le-leb (c.counter + 4) (origin 0 + m.program) e,
      )

-- ── where control goes ──

-- completed, with the counter n further on
pub record Onward (n : ℕ) (c : Cpu) (t : Turn) : Type 0 where
  pub stop : t.stop ≡ completed
  pub counter : t.cpu.counter ≡ c.counter + n

-- a two-byte instruction that goes on: "an odd register field in 1C" is none
abbrev pub PlainShort : Short → ℕ → Type 0
PlainShort (applies f) r = Unit {0}
PlainShort multiplies r = r % 2 ≡ 0
PlainShort branches r = ⊥
PlainShort ends r = ⊥
PlainShort unlisted r = ⊥

pub plain-onward : (k : Short) (rx : ℕ) (c : Cpu) → PlainShort k (rx / 16) → Onward 2 c (short_by k rx c)
plain-onward (applies f) rx c h = record { stop = refl; counter = refl }
plain-onward multiplies rx c h = rw (eq-eqb (rx / 16 % 2) 0 h) (record { stop = refl; counter = refl })
plain-onward branches rx c h = absurd h
plain-onward ends rx c h = absurd h
plain-onward unlisted rx c h = absurd h

pub shift-onward : (f : Shift) (m : Space) (rx b d : ℕ) (c : Cpu) (s : List ℕ) → Onward 4 c (long_by (shifts f) m rx b d c s).turn
shift-onward f m rx b d c s = record { stop = refl; counter = refl }

-- a four-byte instruction that reads z bytes: "an odd register field in … 5C" is none
abbrev pub Reads : Long → ℕ → ℕ → Type 0
Reads (applies_to n f) z r = n ≡ z
Reads multiplies_by z r = (z ≡ 4) × (r % 2 ≡ 0)
Reads (stores n) z r = ⊥
Reads branches_to z r = ⊥
Reads links z r = ⊥
Reads (shifts f) z r = ⊥
Reads addresses z r = ⊥
Reads moves z r = ⊥
Reads compares z r = ⊥
Reads unlisted_long z r = ⊥

-- one that reads or stores z bytes
abbrev pub Serves : Long → ℕ → ℕ → Type 0
Serves k z r = Reads k z r ⊎ (k ≡ stores z)

-- it goes on, or stops by 2 or 3 for the reason X
pub data Ended (c : Cpu) (t : Turn) (X : Type 0) : Type 0 where
  on : Onward 4 c t → Ended c t X
  off : (t.stop ≡ forbidden) ⊎ (t.stop ≡ misaligned) → X → Ended c t X

-- where an operand is aligned and allowed the instruction goes on
operand-ends : {A X : Type 0} (f : A → Turn) (c : Cpu) (ok : Bool) (a n : ℕ) (done : A) (halt : ℕ → A) → Onward 4 c (f done) → ((k : ℕ) → (f (halt k)).stop ≡ k)
    → X ⊎ ((a % n ≡ 0) × (ok ≡ true)) → Ended c (f (on_operand ok a n done halt)) X
operand-ends {A} {X} f c ok a n done halt o e h = go (eqb (a % n) 0) ok refl refl h
  where
    go : (p q : Bool) → eqb (a % n) 0 ≡ p → ok ≡ q → X ⊎ ((a % n ≡ 0) × (ok ≡ true)) → Ended c (f (choose p (choose q done (halt forbidden)) (halt misaligned))) X
    go true true p q h = on o
    go true false p q (inl x) = off (inl (e forbidden)) x
    go true false p q (inr g) = never_true (sym q ∙ g.1)
    go false q p r (inl x) = off (inr (e misaligned)) x
    go false q p r (inr g) = never_true (sym p ∙ eq-eqb (a % n) 0 g.0)

one_byte : {X : Type 0} (a : ℕ) (ok : Bool) → X ⊎ (ok ≡ true) → X ⊎ ((a % 1 ≡ 0) × (ok ≡ true))
one_byte a ok (inl x) = inl x
one_byte a ok (inr e) = inr (omega arith, e)

pub read-ends : {X : Type 0} (k : Long) (z : ℕ) (m : Space) (rx b d : ℕ) (c : Cpu) (s : List ℕ) → Reads k z (rx / 16)
    → X ⊎ ((address c.regs (rx % 16) b d % z ≡ 0) × (readable m (address c.regs (rx % 16) b d) z ≡ true)) → Ended c (long_by k m rx b d c s).turn X
read-ends (applies_to n f) z m rx b d c s e h =
    let a = address c.regs (rx % 16) b d in
    operand-ends (λ t. t) c (readable m a n) a n (went (executed c f (rx / 16) (operand s a n) (c.counter + 4))) (λ j. halted j c)
    (record { stop = refl; counter = refl }) (λ j. refl) (rw e h)
read-ends multiplies_by z m rx b d c s e h =
    let a = address c.regs (rx % 16) b d in
    rw (eq-eqb (rx / 16 % 2) 0 e.1)
    (operand-ends (λ t. t) c (readable m a 4) a 4 (went (paired c (rx / 16) (operand s a 4) (c.counter + 4))) (λ j. halted j c)
    (record { stop = refl; counter = refl }) (λ j. refl) (rw e.0 at h))
read-ends (stores n) z m rx b d c s e h = absurd e
read-ends branches_to z m rx b d c s e h = absurd e
read-ends links z m rx b d c s e h = absurd e
read-ends (shifts f) z m rx b d c s e h = absurd e
read-ends addresses z m rx b d c s e h = absurd e
read-ends moves z m rx b d c s e h = absurd e
read-ends compares z m rx b d c s e h = absurd e
read-ends unlisted_long z m rx b d c s e h = absurd e

pub store-ends : {X : Type 0} (z : ℕ) (m : Space) (rx b d : ℕ) (c : Cpu) (s : List ℕ)
    → X ⊎ ((address c.regs (rx % 16) b d % z ≡ 0) × (writable m (address c.regs (rx % 16) b d) z ≡ true)) → Ended c (long_by (stores z) m rx b d c s).turn X
store-ends z m rx b d c s h =
    let a = address c.regs (rx % 16) b d in
    operand-ends (λ (o : Stepped). o.turn) c (writable m a z) a z _ (λ j. stepped (halted j c) s) (record { stop = refl; counter = refl }) (λ j. refl) h

-- an address is formed and nothing is touched
pub address-onward : (m : Space) (rx b d : ℕ) (c : Cpu) (s : List ℕ) → Onward 4 c (long_by addresses m rx b d c s).turn
address-onward m rx b d c s = record { stop = refl; counter = refl }

-- what takes a number has no index, and one byte is never misaligned
pub move-ends : {X : Type 0} (m : Space) (rx b d : ℕ) (c : Cpu) (s : List ℕ) → X ⊎ (writable m (address c.regs 0 b d) 1 ≡ true)
    → Ended c (long_by moves m rx b d c s).turn X
move-ends {X} m rx b d c s h =
    let a = address c.regs 0 b d in
    operand-ends (λ (o : Stepped). o.turn) c (writable m a 1) a 1 _ (λ j. stepped (halted j c) s) (record { stop = refl; counter = refl }) (λ j. refl) (one_byte a _ h)

pub compare-ends : {X : Type 0} (m : Space) (rx b d : ℕ) (c : Cpu) (s : List ℕ) → X ⊎ (readable m (address c.regs 0 b d) 1 ≡ true)
    → Ended c (long_by compares m rx b d c s).turn X
compare-ends {X} m rx b d c s h =
    let a = address c.regs 0 b d in
    operand-ends (λ t. t) c (readable m a 1) a 1 _ (λ j. halted j c) (record { stop = refl; counter = refl }) (λ j. refl) (one_byte a _ h)

-- an index field of 0 is no index, by whatever kind
pub index-none : (k : Long) → index_of k 0 ≡ 0
index-none (applies_to n f) = refl
index-none multiplies_by = refl
index-none (stores n) = refl
index-none branches_to = refl
index-none links = refl
index-none (shifts f) = refl
index-none addresses = refl
index-none moves = refl
index-none compares = refl
index-none unlisted_long = refl

-- ── branches ──

-- "always is mask 15", whatever the code
pub asked-always : (k : ℕ) → asked 15 k ≡ true
asked-always k = go (eqb k 0) (eqb k 1) (eqb k 2)
  where
    go : (x y z : Bool) → eqb (choose x (15 / 8) (choose y (15 / 4) (choose z (15 / 2) 15)) % 2) 1 ≡ true
    go true y z = refl
    go false true z = refl
    go false false true = refl
    go false false false = refl

-- a branch is completed, and goes to the address or, unless always, on
pub data Branched (m : ℕ) (c : Cpu) (to : ℕ) (t : Turn) : Type 0 where
  taken : t.stop ≡ completed → t.cpu.counter ≡ to → Branched m c to t
  passed : (m ≡ 15 → ⊥) → Onward 4 c t → Branched m c to t

pub branch-goes : (m : Space) (rx b d : ℕ) (c : Cpu) (s : List ℕ) → Branched (rx / 16) c (address c.regs (rx % 16) b d) (long_by branches_to m rx b d c s).turn
branch-goes m rx b d c s = go (asked (rx / 16) c.code) refl
  where
    go : (p : Bool) → asked (rx / 16) c.code ≡ p
        → Branched (rx / 16) c (address c.regs (rx % 16) b d) (choose p (went (moved c (address c.regs (rx % 16) b d))) (went (moved c (c.counter + 4))))
    go true e = taken refl refl
    go false e = passed (λ q. never_true (sym e ∙ (ap (λ (x : ℕ). asked x c.code) q ∙ asked-always c.code))) (record { stop = refl; counter = refl })

-- a return by a register that is not 0
pub return-goes : (r : ℕ) (c : Cpu) → 0 < r → r < 16 → short_by branches (15 * 16 + r) c ≡ went (moved c (get_or c.regs r 0 % 2 ^ 24))
return-goes r c h l =
    let e : (15 * 16 + r) / 16 ≡ 15 = omega arith in
    let f : (15 * 16 + r) % 16 ≡ r = omega arith in
    rw (e, f, ne_eqb r 0 (λ q. omega arith), asked-always c.code)

-- the address in a link
pub link-address : (k next : ℕ) → next < 2 ^ 24 → link k next % 2 ^ 24 ≡ next
link-address k next h = omega arith
