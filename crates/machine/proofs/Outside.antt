-- What an instruction, and so a run, leaves: every byte that is not writable (`step_keeps`, `run-keeps`). Assumes nothing.
use Prim.Native.Nat.{ℕ, zero, suc, ◌+◌, ◌*◌, ◌/◌, ◌%◌, ◌<◌, ◌≤◌}
use mathlib.Core.Path.{◌≡◌, refl, sym, ap₂, ◌∙◌, subst}
use mathlib.Core.Logic.{◌⊎◌, inl, inr}
use mathlib.Core.Bool.{Bool, true, false, ◌&&◌}
use mathlib.Core.List.{List}
use native.Mathlib.Omega.{arith}
use native.Mathlib.Decide.{dec_le}
use lib.Dec.{T, eqb, ltb, leb, leb→le}
use lib.ListN.{length, get_or}
use borrow.Author.Tests.{le-leb, eqb-true}
use Rattle.base.specs.Choose.{choose}
use Rattle.base.specs.Numbers.{stored, bytes_of}
use Rattle.base.proofs.Tests.{by-test, never_true, and_left, and_right}
use Rattle.base.proofs.Lists.{all_both}
use Rattle.base.proofs.Parts.{sets-before, sets-after}
use Rattle.base.proofs.Numbers.{length-stored, length-bytes_of}
use Rattle.machine.specs.declared.Fun.{Fun}
use Rattle.machine.specs.declared.Shift.{Shift}
use Rattle.machine.specs.Space.{Space, room, origin, writable}
use Rattle.machine.specs.Instructions.{Long, applies_to, multiplies_by, stores, branches_to, links, shifts, addresses, moves, compares, unlisted_long, halfword_rows, word_rows, storage_rows, plain_rows, long_kind}
use Rattle.machine.specs.Step.{Cpu, Turn, Stepped, stepped, went, halted, moved, address, store_step, long_by, step}
use Rattle.machine.specs.Run.{onward, run}
use Rattle.machine.proofs.Rows.{row_is}

-- a byte outside the n bytes that are stored stays
pub byte-elsewhere : (s : List ℕ) (at n v a : ℕ) → (a < at) ⊎ (at + n ≤ a) → get_or (stored s at n v) a 0 ≡ get_or s a 0
byte-elsewhere s at n v a (inl h) = sets-before s at (bytes_of n v) a 0 h
byte-elsewhere s at n v a (inr h) = sets-after s at (bytes_of n v) a 0 (rw (length-bytes_of n v) h)

-- what is stored has one, two or four bytes
data Sized : Long → Type 0 where
  byte : Sized (stores 1)
  two : Sized (stores 2)
  four : Sized (stores 4)
  loads : {n : ℕ} {f : Fun} → Sized (applies_to n f)
  product : Sized multiplies_by
  branch : Sized branches_to
  link : Sized links
  shift : {f : Shift} → Sized (shifts f)
  plain : Sized addresses
  move : Sized moves
  compare : Sized compares
  none : Sized unlisted_long

abbrev Size : ℕ → Type 0
Size n = (n ≡ 1) ⊎ ((n ≡ 2) ⊎ (n ≡ 4))

-- an aligned operand ends in the page in which it begins
in-page : (w n : ℕ) → Size n → w % n ≡ 0 → w % room + n ≤ room
in-page w n (inl q) r = rw q (omega arith)
in-page w n (inr (inl q)) r = let e : w % 2 ≡ 0 = rw q at r in rw q (omega arith)
in-page w n (inr (inr q)) r = let e : w % 4 ≡ 0 = rw q at r in rw q (omega arith)

-- a byte of an aligned operand that is writable is writable
module _ (m : Space) (w n a : ℕ) (z : Size n) (e : w % n ≡ 0) (h : w ≤ a) (l : a < w + n) where
  page : (a / room ≡ w / room) × (a % room + w ≡ w % room + a) × (w % room ≤ a % room) × (a % room + 1 ≤ w % room + n)
  page = let i = in-page w n z e in (omega arith, omega arith, omega arith, omega arith)

  byte-writable : writable m w n ≡ true → writable m a 1 ≡ true
  byte-writable o =
      let p = m.from (w / room) in
      let t = m.to (w / room) in
      let x : p ≤ w % room = leb→le p (w % room) (and_left (leb p (w % room)) (leb (w % room + n) t) (subst T (sym o) tt)) in
      let y : w % room + n ≤ t = leb→le (w % room + n) t (and_right (leb p (w % room)) (leb (w % room + n) t) (subst T (sym o) tt)) in
      let g = page in
      let f : m.from (a / room) ≤ a % room = rw g.0 (omega arith) in
      let u : a % room + 1 ≤ m.to (a / room) = rw g.0 (omega arith) in
      ap₂ ◌&&◌ (le-leb (m.from (a / room)) (a % room) f) (le-leb (a % room + 1) (m.to (a / room)) u)

pub record Keeps (m : Space) (s t : List ℕ) : Type 0 where
  pub long : length t ≡ length s
  pub kept : (a : ℕ) → writable m a 1 ≡ false → get_or t a 0 ≡ get_or s a 0

pub keeps-all : (m : Space) (s : List ℕ) → Keeps m s s
keeps-all m s = record { long = refl; kept = λ a h. refl }

stores-keep : (m : Space) (s : List ℕ) (w n v : ℕ) → Size n → w % n ≡ 0 → writable m w n ≡ true → Keeps m s (stored s w n v)
stores-keep m s w n v z e o = record { long = length-stored s w n v; kept = λ a h. go a h (dec_le w a) (dec_le (w + n) a) }
  where
    go : (a : ℕ) → writable m a 1 ≡ false → Dec (w ≤ a) → Dec (w + n ≤ a) → get_or (stored s w n v) a 0 ≡ get_or s a 0
    go a h (no p) d = byte-elsewhere s w n v a (inl (omega arith))
    go a h (yes p) (yes q) = byte-elsewhere s w n v a (inr q)
    go a h (yes p) (no q) = never_true (sym h ∙ byte-writable m w n a z e p (omega arith) o)

-- the same of a step
record StepKeeps (m : Space) (s : List ℕ) (o : Stepped) : Type 0 where
  keeps : Keeps m s o.store

untouched : {m : Space} {s : List ℕ} {t : Turn} → StepKeeps m s (stepped t s)
untouched {m} {s} = record { keeps = keeps-all m s }

either : {m : Space} {s : List ℕ} (t : Bool) {a b : Stepped} → StepKeeps m s a → StepKeeps m s b → StepKeeps m s (choose t a b)
either true p q = p
either false p q = q

store_keeps : (m : Space) (c : Cpu) (s : List ℕ) (n v w : ℕ) → Size n → StepKeeps m s (store_step m c n v w s)
store_keeps m c s n v w z =
    let on = stepped (went (moved c (c.counter + 4))) (stored s w n v) in
    by-test (StepKeeps m s) (eqb (w % n) 0) (choose (writable m w n) on (stepped (halted 2 c) s)) (stepped (halted 3 c) s)
    (λ e. by-test (StepKeeps m s) (writable m w n) on (stepped (halted 2 c) s) (λ f. record { keeps = stores-keep m s w n v z (eqb-true (w % n) 0 e) f }) (λ f. untouched))
    (λ e. untouched)

long-keeps : {k : Long} → Sized k → (m : Space) (rx b d : ℕ) (c : Cpu) (s : List ℕ) → StepKeeps m s (long_by k m rx b d c s)
long-keeps byte m rx b d c s = store_keeps m c s 1 (get_or c.regs (rx / 16) 0) (address c.regs (rx % 16) b d) (inl refl)
long-keeps two m rx b d c s = store_keeps m c s 2 (get_or c.regs (rx / 16) 0) (address c.regs (rx % 16) b d) (inr (inl refl))
long-keeps four m rx b d c s = store_keeps m c s 4 (get_or c.regs (rx / 16) 0) (address c.regs (rx % 16) b d) (inr (inr refl))
long-keeps loads m rx b d c s = untouched
long-keeps product m rx b d c s = untouched
long-keeps branch m rx b d c s = untouched
long-keeps link m rx b d c s = untouched
long-keeps shift m rx b d c s = untouched
long-keeps plain m rx b d c s = untouched
long-keeps move m rx b d c s = store_keeps m c s 1 rx (address c.regs 0 b d) (inl refl)
long-keeps compare m rx b d c s = untouched
long-keeps none m rx b d c s = untouched

all-sized : (op : ℕ) → Sized (long_kind op)
all-sized op =
    row_is Sized storage_rows (
      two,
      (
        byte,
        (
          four,
          (
            plain,
            (
              loads,
              all_both (λ (x : ℕ × Long). Sized x.1) halfword_rows word_rows
                  (link, (branch, (loads, (loads, (loads, (loads, (loads, tt)))))))
                  (loads, (loads, (loads, (loads, (loads, (loads, (loads, (product, (loads, (loads, tt)))))))))),
            ),
          ),
        ),
      ),
    ) op
    (row_is Sized plain_rows (move, (compare, (shift, (shift, (shift, (shift, tt)))))) op none)

-- a step leaves the length of storage and every byte that is not writable
pub step_keeps : (m : Space) (c : Cpu) (s : List ℕ) → Keeps m s (step m c s).store
unfolding step
step_keeps m c s =
    let i = c.counter in
    let op = get_or s i 0 in
    (either (eqb (i % 2) 0)
    (either (leb (origin 0) i)
    (either (leb (i + 2) (origin 0 + m.program))
    (either (ltb op 64) untouched
    (either (leb (i + 4) (origin 0 + m.program))
    (long-keeps (all-sized op) m (get_or s (i + 1) 0) (get_or s (i + 2) 0 / 16) (get_or s (i + 2) 0 % 16 * 256 + get_or s (i + 3) 0) c s)
    untouched))
    untouched)
    untouched)
    untouched).keeps

pub keeps_then : {m : Space} {s t u : List ℕ} → Keeps m s t → Keeps m t u → Keeps m s u
keeps_then p q = record { long = q.long ∙ p.long; kept = λ a h. q.kept a h ∙ p.kept a h }

-- and so does a run
pub run-keeps : (n : ℕ) (m : Space) (c : Cpu) (s : List ℕ) → Keeps m s (run n m c s).store
unfolding run onward
run-keeps zero m c s = keeps-all m s
run-keeps (suc n) m c s = go (eqb (step m c s).turn.stop 5) (step m c s) (step_keeps m c s) (λ d t. run-keeps n m d t)
  where
    go : (b : Bool) (o : Stepped) → Keeps m s o.store → ((d : Cpu) (t : List ℕ) → Keeps m t (run n m d t).store) → Keeps m s (onward b o (λ d t. run n m d t)).store
    go true o k ih = keeps_then k (ih o.turn.cpu o.store)
    go false o k ih = k
