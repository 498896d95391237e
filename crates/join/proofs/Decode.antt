-- The machine finds in an instruction's bytes the fields that were put in: decoding undoes encoding.
use mathlib.Core.Path.{◌≡◌, ◌∙◌}
use mathlib.Core.List.{List, [], ◌∷◌}
use Prim.Native.Nat.{ℕ, ◌+◌, ◌*◌, ◌/◌, ◌%◌, ◌≤◌, ◌<◌}
use native.Mathlib.Omega.{arith}
use lib.ListN.{length, get_or}
use Rattle.machine.specs.Space.{Space, origin, displacements}
use Rattle.machine.specs.Instructions.{short_kind, long_kind}
use Rattle.machine.specs.Step.{Cpu, stepped, address, index_of, short_by, long_by, step}
use Rattle.machine.specs.Operands.{operand_address}
use Rattle.machine.proofs.Effects.{step-short, step-long}
use Rattle.translation.specs.Bytes.{two_bytes, four_bytes}

-- the bytes bs stand in storage from a place
abbrev pub StandAt : List ℕ → ℕ → List ℕ → Type 0
StandAt s a bs = (j : ℕ) → j < length bs → get_or s (a + j) 0 ≡ get_or bs j 0

-- the register fields of the second byte
pub first_field : (r x : ℕ) → x < 16 → (r * 16 + x) / 16 ≡ r
first_field r x h = omega arith

pub second-field : (r x : ℕ) → x < 16 → (r * 16 + x) % 16 ≡ x
second-field r x h = omega arith

-- base and displacement
base-field : (b d : ℕ) → d < displacements → (b * 16 + d / 256) / 16 ≡ b
base-field b d h = omega arith

displacement-field : (b d : ℕ) → d < displacements → (b * 16 + d / 256) % 16 * 256 + d % 256 ≡ d
displacement-field b d h = omega arith

module _ (m : Space) (c : Cpu) (s : List ℕ) where
  first : (b : ℕ) (bs : List ℕ) → StandAt s c.counter (b ∷ bs) → get_or s c.counter 0 ≡ b
  first b bs h = let e : c.counter + 0 ≡ c.counter = omega arith in rw e at (h 0 (omega arith))

  pub decode-opcode : (op r x b d : ℕ) → StandAt s c.counter (four_bytes op r x b d) → get_or s c.counter 0 ≡ op
  decode-opcode op r x b d h = first op ((r * 16 + x) ∷ (b * 16 + d / 256) ∷ d % 256 ∷ []) h

  -- the address that the machine makes of an instruction's fields, where its index is i
  pub decode-address : (op r x b d : ℕ) {i : ℕ} → x < 16 → index_of (long_kind op) x ≡ i → d < displacements → StandAt s c.counter (four_bytes op r x b d)
      → operand_address c s ≡ address c.regs i b d
  decode-address op r x b d hx index hd h =
      let e1 = h 1 (omega arith) in
      let e2 = h 2 (omega arith) in
      let e3 = h 3 (omega arith) in
      rw (decode-opcode op r x b d h, e1, e2, e3, second-field r x hx, index, base-field b d hd, displacement-field b d hd)

  module _ (even : c.counter % 2 ≡ 0) (low : origin 0 ≤ c.counter) where
    pub decode-two : (op r x : ℕ) → op < 64 → c.counter + 2 ≤ origin 0 + m.program → StandAt s c.counter (two_bytes op r x)
        → step m c s ≡ stepped (short_by (short_kind op) (r * 16 + x) c) s
    decode-two op r x ho hp h = step-short m c s even low op (first op ((r * 16 + x) ∷ []) h) ho hp ∙ rw (h 1 (omega arith))

    pub decode-four : (op r x b d : ℕ) → 64 ≤ op → d < displacements → c.counter + 4 ≤ origin 0 + m.program → StandAt s c.counter (four_bytes op r x b d)
        → step m c s ≡ long_by (long_kind op) m (r * 16 + x) b d c s
    decode-four op r x b d ho hd hp h =
        let e1 = h 1 (omega arith) in
        let e2 = h 2 (omega arith) in
        let e3 = h 3 (omega arith) in
        step-long m c s even low op (decode-opcode op r x b d h) ho hp ∙ rw (e1, e2, e3, base-field b d hd, displacement-field b d hd)
