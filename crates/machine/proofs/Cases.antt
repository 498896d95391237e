-- The instructions of the byte functions in cases by computation: what they leave, which is compared with which, what stops. Assumes nothing.
use Prim.Native.Nat.{ℕ}
use mathlib.Core.Path.{◌≡◌, refl}
use mathlib.Core.List.{List, [], ◌∷◌, ◌++◌}
use lib.ListN.{replicate}
use Rattle.base.specs.Numbers.{number_from, bytes_of}
use Rattle.machine.specs.Space.{Space}
use Rattle.machine.specs.Instructions.{short_kind, long_kind}
use Rattle.machine.specs.Step.{Cpu, cpu, Stepped, stepped, went, halted, forbidden, short_by, long_by}

-- 24 bytes in each page, of which those from 16 to 19 are writable
abbrev space : Space
space = record { program = 0; end = λ k. 24; from = λ k. 16; to = λ k. 20 }

-- two registers, condition code 3
abbrev before : ℕ → ℕ → Cpu
before a b = cpu (a ∷ b ∷ []) 3 4096

abbrev after : ℕ → ℕ → ℕ → Cpu
after a b k = cpu (a ∷ b ∷ []) k 4100

abbrev bytes : List ℕ → List ℕ
bytes bs = replicate 16 0 ++ bs

-- an instruction with its second byte, and the displacement beside no base
abbrev does : ℕ → ℕ → ℕ → Cpu → List ℕ → Stepped
does op rx d c s = long_by (long_kind op) space rx 0 d c s

-- IC: the byte, and the other 24 bits as they were
pub insert-byte : does 0x43 0x00 16 (before 0x11223344 0) (bytes (0xab ∷ [])) ≡ stepped (went (after 0x112233ab 0 3)) (bytes (0xab ∷ []))
unfolding number_from
insert-byte = refl

-- STC: the low byte, at an odd address too
pub store_byte : does 0x42 0x00 17 (before 0x11223344 0) (bytes (1 ∷ 2 ∷ 3 ∷ [])) ≡ stepped (went (after 0x11223344 0 3)) (bytes (1 ∷ 0x44 ∷ 3 ∷ []))
unfolding bytes_of
store_byte = refl

-- LA: the address is formed with its own register as index before that is written; 24 bits of it are kept, and nothing is read there
pub load-address : does 0x41 0x11 3 (before 0 0xffffffff) [] ≡ stepped (went (after 0 2 3)) []
load-address = refl

pub load-address-far : does 0x41 0x11 0 (before 0 0xffffffff) [] ≡ stepped (went (after 0 0xffffff 3)) []
load-address-far = refl

-- MVI: the number, though its halves look like registers
pub move-number : does 0x92 0xc1 16 (before 0 0) (bytes (7 ∷ [])) ≡ stepped (went (after 0 0 3)) (bytes (0xc1 ∷ []))
unfolding bytes_of
move-number = refl

pub move-outside : does 0x92 0xc1 20 (before 0 0) (bytes (1 ∷ 2 ∷ 3 ∷ 4 ∷ 5 ∷ [])) ≡ stepped (halted forbidden (before 0 0)) (bytes (1 ∷ 2 ∷ 3 ∷ 4 ∷ 5 ∷ []))
move-outside = refl

-- CLI: code 1 where the byte in storage is the lower one; unsigned
pub compare-low : does 0x95 5 16 (before 0 0) (bytes (3 ∷ [])) ≡ stepped (went (after 0 0 1)) (bytes (3 ∷ []))
unfolding number_from
compare-low = refl

pub compare-high : does 0x95 0x7f 16 (before 0 0) (bytes (0x80 ∷ [])) ≡ stepped (went (after 0 0 2)) (bytes (0x80 ∷ []))
unfolding number_from
compare-high = refl

-- LTR: the code by the sign, the smallest number too
pub load-test : short_by (short_kind 0x12) 0x10 (before 0x80000000 0) ≡ went (cpu (0x80000000 ∷ 0x80000000 ∷ []) 1 4098)
load-test = refl
