-- Instructions that are ready, with their literals in place, are written as bytes.
use mathlib.Core.Path.{refl}
use mathlib.Core.Logic.{inl, inr}
use mathlib.Core.List.{List, [], ◌∷◌}
use Prim.Native.Nat.{ℕ, ◌/◌, ◌%◌, ◌<◌, ◌≤◌}
use native.Mathlib.Omega.{arith}
use Rattle.base.specs.Lists.{◌∈◌, All}
use Rattle.base.proofs.Lists.{all_both}
use Rattle.translation.specs.Instructions.{Datum, element, literal, entry, Instruction, rr, rx, address, immediate, shift, branch, link, indexed, stop, address_op}
use Rattle.translation.specs.Layout.{Layout, segment_limit, literals_end}
use Rattle.translation.specs.Bytes.{base_register, displacement, index_register, four_bytes, two_bytes, encode, encode_all}
use Rattle.translation.proofs.Literals.{IsNumber, Takes, index-lt}
use Rattle.translation.proofs.Ready.{Ready, ReadyDatum}

abbrev Bytes : List ℕ → Type 0
Bytes bs = All (λ (b : ℕ). b < 256) bs

two : (op r s : ℕ) → op < 256 → r < 16 → s < 16 → Bytes (two_bytes op r s)
two op r s a b c = omega arith

four : (op r x b d : ℕ) → op < 256 → r < 16 → x < 16 → b < 16 → d < segment_limit → Bytes (four_bytes op r x b d)
four op r x b d a h k m n = omega arith

module _ (l : Layout) (n : ℕ) (near : n < segment_limit) (room : literals_end l ≤ segment_limit) where
  -- every number that the instruction takes is a literal
  abbrev Literal : Instruction → Type 0
  Literal i = (v : ℕ) → Takes i v → v ∈ l.literals

  -- where an operand stands has room in the fields
  datum-room : (a : Datum) → ReadyDatum l a → ((v : ℕ) → IsNumber a v → v ∈ l.literals) → (index_register a < 16) × (base_register a < 16) × (displacement l a < segment_limit)
  datum-room (element c o x) h t = (h.1, h.0, h.2)
  datum-room (literal v) h t = let k = index-lt v l.literals (t v refl) in (omega arith, omega arith, omega arith)
  datum-room (entry k) h t = (omega arith, omega arith, omega arith)

  bytes-encode : (i : Instruction) → Ready l n i → Literal i → Bytes (encode l i)
  unfolding encode
  bytes-encode (rr op r s) h t = two op r s h.0 h.1 h.2
  bytes-encode (rx op r a) h t = let d = datum-room a h.2 t in four op r (index_register a) (base_register a) (displacement l a) h.0 h.1 d.0 d.1 d.2
  bytes-encode (address r a) h t =
      let d = datum-room a h.1 t in four address_op r (index_register a) (base_register a) (displacement l a) (omega arith) h.0 d.0 d.1 d.2
  bytes-encode (immediate op v a) h t =
      let d = datum-room a h.2 t in
      let e = h.1 in
      four op (v / 16) (v % 16) (base_register a) (displacement l a) h.0 (omega arith) (omega arith) d.1 d.2
  bytes-encode (shift op r s d) h t = let e = h.3 in four op r 0 s d h.0 h.1 (omega arith) h.2 (omega arith)
  bytes-encode (branch m to) h t = let e = h.1 in four 0x47 m 0 15 to (omega arith) h.0 (omega arith) (omega arith) (omega arith)
  bytes-encode (link r to) h t = let e = h.1 in four 0x45 r 0 15 to (omega arith) h.0 (omega arith) (omega arith) (omega arith)
  bytes-encode (indexed r to) h t = let e = h.1 in four 0x47 15 r 15 to (omega arith) (omega arith) h.0 (omega arith) (omega arith)
  bytes-encode stop h t = omega arith

  pub bytes-encode_all : (is : List Instruction) → All (Ready l n) is → ((i : Instruction) → i ∈ is → Literal i) → Bytes (encode_all l is)
  unfolding encode_all
  bytes-encode_all [] h t = tt
  bytes-encode_all (i ∷ is) h t =
      all_both (λ (b : ℕ). b < 256) (encode l i) (encode_all l is) (bytes-encode i h.0 (t i (inl refl))) (bytes-encode_all is h.1 (λ j k. t j (inr k)))
