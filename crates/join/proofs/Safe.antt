-- What the rules on names, kinds and registers give for a text, by its structure: `Safe`.
use mathlib.Core.Path.{◌≡◌, refl}
use mathlib.Core.Logic.{◌⊎◌, inl}
use mathlib.Core.List.{List, [], ◌∷◌, ◌++◌, map}
use mathlib.Core.Option.{Option, none, some}
use Prim.Native.Nat.{ℕ, ◌+◌, ◌*◌, ◌%◌, ◌<◌, ◌≤◌}
use lib.Dec.{eqb}
use Rattle.base.specs.Choose.{whether◌then◌else◌}
use Rattle.base.specs.Lists.{◌∈◌, All}
use Rattle.token.specs.Kinds as K
use Rattle.static_rules.specs.Registers.{Registers}
use Rattle.static_rules.specs.Meaning.{Based, Cell, element_size}
use Rattle.static_rules.specs.Meanings.{data_base}
use Rattle.machine.specs.declared.Shift.{Shift}
use Rattle.machine.specs.Space.{displacements}
use Rattle.machine.specs.Instructions.{Long, shifts, moves, compares, short_kind, long_kind}
pub use Rattle.machine.proofs.Effects.{PlainShort, Reads, Serves}
use Rattle.translation.specs.Instructions.{Datum, element, literal, entry, Instruction, rr, rx, address, immediate, shift, branch, link, indexed, stop, opcode, add_row, compare_row, shift_code, test_op}
use Rattle.translation.specs.Core.{Core, skip, run, seq, mark, scope, jump, call, procedure, base, when, either, loop, count, select, Arms, last, arm}
use Rattle.translation.specs.Code.{Mark, arm_count, own}
use Rattle.translation.specs.Layout.{Layout, offset_of}
use Rattle.translation.specs.Bytes.{program_base}
use Rattle.translation.proofs.Rooms.{CellAt}
use Rattle.join.specs.Writes.{writes}
use Rattle.join.specs.Points.{Within, Writes, Point, with_base, in_body, procedure_of}

-- ── registers ──

-- none of these registers is protected at a point
abbrev pub Spared : Point → (ℕ → Type 0) → Type 0
Spared p P = (x : ℕ) → P x → x ∈ p.kept → ⊥

-- the text of the procedure that a point is in writes all of these registers
abbrev pub Counted : Point → (ℕ → Type 0) → Type 0
Counted p P = (v : Within) → p.within ≡ some v → (x : ℕ) → P x → Writes v x

-- a base whose register is protected and not 0, of a segment that exists where the text has n base declarations
abbrev pub KeptBase : ℕ → List ℕ → Based → Type 0
KeptBase n kept b = (b.register ∈ kept) × (0 < b.register) × (b.register < 16) × (1 ≤ b.segment) × (b.segment < 2 + n)

-- 15, the bases in force and the return register are protected; bases and the return register are not register 0. The text has n base declarations.
pub record Guarded (n : ℕ) (p : Point) : Type 0 where
  pub fifteen : program_base ∈ p.kept
  pub fourteen : data_base ∈ p.bases
  pub bases : (b : Based) → b ∈ p.bases → KeptBase n p.kept b
  pub return : (v : Within) → p.within ≡ some v → (v.return ∈ p.kept) × (0 < v.return) × (v.return < 16)

-- ── plain instructions: those that go on to the next ──

-- the element at o of a cell, under a base in force
pub record InCell (l : Layout) (p : Point) (c : Cell) (o x : ℕ) : Type 0 where
  pub based : c.base ∈ p.bases
  pub index : x < 16
  pub aligned : o % element_size c.width ≡ 0
  pub whole : o + element_size c.width ≤ element_size c.width * c.elements
  pub at : CellAt c l.ends (offset_of l.placed c.name)

-- an instruction of a kind takes the whole element of w bytes or, if it is about bytes, the first one of it
pub record Served (k : Long) (w r : ℕ) : Type 0 where
  pub bytes : ℕ
  pub part : (bytes ≡ w) ⊎ (bytes ≡ 1)
  pub serves : Serves k bytes r

pub served-all : {k : Long} {w r : ℕ} → Serves k w r → Served k w r
served-all {w = w} h = record { bytes = w; part = inl refl; serves = h }

abbrev pub FitsDatum : Layout → Point → Long → ℕ → Datum → Type 0
FitsDatum l p k r (element c o x) = InCell l p c o x × Served k (element_size c.width) r
FitsDatum l p k r (literal v) = Reads k 4 r
FitsDatum l p k r (entry n) = ⊥

-- an operand that is an element of a cell
abbrev pub IsCell : Layout → Point → Datum → Type 0
IsCell l p (element c o x) = InCell l p c o x
IsCell l p (literal v) = ⊥
IsCell l p (entry n) = ⊥

-- an instruction of a kind takes a number: it moves it, or compares with it
abbrev pub TakesNumber : Long → Type 0
TakesNumber k = (k ≡ moves) ⊎ (k ≡ compares)

-- opcodes below 64 have two bytes, others four
abbrev pub Fits : Layout → Point → Instruction → Type 0
Fits l p (rr op r s) = (op < 64) × PlainShort (short_kind op) r × (s < 16)
Fits l p (rx op r a) = (64 ≤ op) × FitsDatum l p (long_kind op) r a
Fits l p (address r a) = IsCell l p a
Fits l p (immediate op v a) = (64 ≤ op) × TakesNumber (long_kind op) × IsCell l p a
Fits l p (shift op r s d) = (64 ≤ op) × ((f : Shift) × (long_kind op ≡ shifts f)) × (d < displacements)
Fits l p (branch m t) = ⊥
Fits l p (link r t) = ⊥
Fits l p (indexed r t) = ⊥
Fits l p stop = ⊥

-- its fields are as they should be, and what it writes is not protected and is counted
pub record Plain (l : Layout) (p : Point) (i : Instruction) : Type 0 where
  pub fits : Fits l p i
  pub spared : Spared p (λ x. x ∈ writes i)
  pub counted : Counted p (λ x. x ∈ writes i)

-- ── calls ──

-- a procedure that is known: by its name's token, with the bases in force at its declaration
pub record Routine : Type 0 where
  pub within : Within
  pub bases : List Based

unfoldable pub first : ℕ → List Routine → Option Routine
first n [] = none
first n (g ∷ gs) = whether eqb g.within.name n then some g else first n gs

pub record Callable (gs : List Routine) (p : Point) (n r : ℕ) : Type 0 where
  pub g : Routine
  pub found : first n gs ≡ some g
  pub return : g.within.return ≡ r
  pub spared : Spared p (Writes g.within)
  pub counted : Counted p (Writes g.within)

-- ── base declarations ──

-- register r becomes the base of segment k
pub record Basing (n : ℕ) (p : Point) (r k : ℕ) : Type 0 where
  pub positive : 0 < r
  pub small : r < 16
  pub data-segment : 1 ≤ k
  pub exists : k < 2 + n
  pub spared : Spared p (λ x. x ≡ r)
  pub counted : Counted p (λ x. x ≡ r)

-- ── a CASE ──

-- its register is not 0, and what is done with it before it chooses from n statements is plain
pub record Choosing (l : Layout) (p : Point) (r n : ℕ) : Type 0 where
  pub positive : 0 < r
  pub small : r < 16
  pub compare : Plain l p (rx (opcode compare_row 1) r (literal n))
  pub test : Plain l p (rr test_op r r)
  pub scale : Plain l p (shift (shift_code K.SHLL) r 0 2)

-- ── texts ──

-- the labels of a block
abbrev pub labels_of : Core → List ℕ
labels_of c = map (λ (m : Mark). m.name) (own c 0)

-- a text at a point, with these labels and procedures known; n base declarations in the whole text
module _ (written : List Registers) (n : ℕ) (l : Layout) where
  unfoldable mutual
    pub Safe : List ℕ → List Routine → Point → Core → Type 0
    Safe ls gs p skip = Unit {0}
    Safe ls gs p (run is) = All (Plain l p) is
    Safe ls gs p (seq a b) = Safe ls gs p a × Safe ls gs p b
    Safe ls gs p (mark x c) = Safe ls gs p c
    Safe ls gs p (scope c) = Safe (labels_of c ++ ls) gs p c
    Safe ls gs p (jump x) = x ∈ ls
    Safe ls gs p (call x r) = Callable gs p x r
    Safe ls gs p (procedure x r a b) =
        let v = procedure_of written x r in
        let known : List Routine = record { within = v; bases = p.bases } ∷ gs in
        ((0 < r) × (r < 16)) × Safe [] known (in_body p v) a × Safe ls known p b
    Safe ls gs p (base r k c) = Basing n p r k × Safe ls gs (with_base p r k) c
    Safe ls gs p (when is m c) = All (Plain l p) is × Safe ls gs p c
    Safe ls gs p (either is m a b) = All (Plain l p) is × Safe ls gs p a × Safe ls gs p b
    Safe ls gs p (loop is m c) = All (Plain l p) is × Safe ls gs p c
    Safe ls gs p (count is cs m r v c) =
        All (Plain l p) is × All (Plain l p) cs × Plain l p (rx (opcode add_row 1) r (literal v)) × Safe ls gs p c
    Safe ls gs p (select r xs) = Choosing l p r (arm_count xs) × SafeArms ls gs p xs

    pub SafeArms : List ℕ → List Routine → Point → Arms → Type 0
    SafeArms ls gs p last = Unit {0}
    SafeArms ls gs p (arm c xs) = Safe ls gs p c × SafeArms ls gs p xs
