-- What is known inside the head of a CASE, as a fact of registers and condition code (`Told`), and that its two tests say so (`not-above`, `numbered`).
use mathlib.Core.Path.{◌≡◌, sym, ap, ◌∙◌}
use mathlib.Core.List.{List}
use mathlib.Core.Bool.{false}
use Prim.Native.Nat.{ℕ, ◌+◌, ◌*◌, ◌%◌, ◌^◌, ◌≤◌, ◌<◌}
use native.Mathlib.Omega.{arith}
use native.Mathlib.Decide.{dec_le}
use lib.ListN.{get_or}
use Rattle.base.proofs.Tests.{never_true}
use Rattle.alu.specs.Word.{signed, sign_code, compared_code}
use Rattle.alu.specs.Biased.{biased}
use Rattle.alu.proofs.Signed.{high, compare-more}
use Rattle.machine.specs.Space.{room}
use Rattle.machine.specs.Step.{Cpu, asked}
use Rattle.join.specs.Points.{Case, choices, Knows, nothing, compared, at_most, tested, between, scaled}

abbrev pub reg : Cpu → ℕ → ℕ
reg c r = get_or c.regs r 0

-- the count as a word, as its literal has it
abbrev pub count_word : Case → ℕ
count_word k = choices k % 2 ^ 32

-- comparing a word with the count does not say "above"
abbrev pub NotAbove : Case → ℕ → Type 0
NotAbove k a = compared_code a (count_word k) ≡ 2 → ⊥

-- of the registers and the condition code
abbrev pub ToldOf : Knows → (regs : List ℕ) → (code : ℕ) → Type 0
ToldOf nothing regs code = Unit {0}
ToldOf (compared k) regs code = code ≡ compared_code (get_or regs k.register 0) (count_word k)
ToldOf (at_most k) regs code = NotAbove k (get_or regs k.register 0)
ToldOf (tested k) regs code = NotAbove k (get_or regs k.register 0) × (code ≡ sign_code (signed (get_or regs k.register 0)))
ToldOf (between k) regs code = (1 ≤ get_or regs k.register 0) × (get_or regs k.register 0 ≤ choices k) × (choices k < room)
ToldOf (scaled k) regs code = (j : ℕ) × (1 ≤ j) × (j ≤ choices k) × (get_or regs k.register 0 ≡ 4 * j)

abbrev pub Told : Knows → Cpu → Type 0
Told k c = ToldOf k c.regs c.code

-- past "branch mask 2 to the end"
pub not-above : (k : Case) (c : Cpu) → asked 2 c.code ≡ false → Told (compared k) c → Told (at_most k) c
not-above k c a h e = never_true (sym a ∙ ap (asked 2) (h ∙ e))

-- past "LTR, branch mask 12 to the end", where the count is that of a table in the program
pub numbered : (k : Case) (c : Cpu) → choices k < room → asked 12 c.code ≡ false → Told (tested k) c → Told (between k) c
numbered k c few a h = go (dec_le 1 x) (dec_le x (choices k)) (dec_le (2 ^ 31) x)
  where
    x : ℕ
    x = reg c k.register

    -- the code is neither 0 nor 1
    not-zero : sign_code (signed x) ≡ 0 → ⊥
    not-zero e = never_true (sym a ∙ ap (asked 12) (h.1 ∙ e))

    not-one : sign_code (signed x) ≡ 1 → ⊥
    not-one e = never_true (sym a ∙ ap (asked 12) (h.1 ∙ e))

    go : Dec (1 ≤ x) → Dec (x ≤ choices k) → Dec (2 ^ 31 ≤ x) → (1 ≤ x) × (x ≤ choices k) × (choices k < room)
    go (yes l) (yes u) d = (l, u, few)
    go (no l) u d = absurd (not-zero (let e : x ≡ 0 = omega arith in ap (λ (y : ℕ). sign_code (signed y)) e))
    go (yes l) (no u) (yes d) = absurd (not-one (ap sign_code (high x d)))
    go (yes l) (no u) (no d) =
        let b : biased x ≡ x + 2 ^ 31 = omega arith in
        let n : biased (count_word k) ≡ choices k + 2 ^ 31 = omega arith in
        absurd (h.0 (sym (compare-more {a = x} {b = count_word k} {x = x + 2 ^ 31} {y = choices k + 2 ^ 31} (omega arith) (omega arith) (sym b) (sym n) (omega arith) (λ q. omega arith))))
