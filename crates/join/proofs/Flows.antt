-- Where control can go from an instruction: `Flows`, to instructions that were written, with no more bases in force and in the same procedure, and where nothing is
-- known or what the instruction has made so. Nothing jumps past the tests of a CASE.
use mathlib.Core.Path.{◌≡◌}
use mathlib.Core.Logic.{◌⊎◌}
use mathlib.Core.List.{List}
use mathlib.Core.Bool.{false}
use mathlib.Core.Option.{some}
use Prim.Native.Nat.{ℕ, ◌+◌, ◌*◌, ◌≤◌, ◌<◌}
use Rattle.base.specs.Lists.{◌∈◌, ◌⊆◌}
use Rattle.token.specs.Kinds as K
use Rattle.static_rules.specs.Meaning.{Based}
use Rattle.machine.specs.Space.{room}
use Rattle.machine.specs.Step.{Cpu, asked}
use Rattle.translation.specs.Instructions.{element, literal, entry, Instruction, rr, rx, address, immediate, shift, branch, link, indexed, stop, size, opcode, load_row, compare_row, shift_code, test_op, always}
use Rattle.translation.specs.Layout.{Layout}
use Rattle.join.specs.Points.{Within, Writes, Point, with_base, Case, choices, first_of, statement_at, Knows, nothing, compared, at_most, tested, between, scaled, Placed}
use Rattle.join.proofs.Safe.{Spared, Counted, Guarded, Plain, Basing}
use Rattle.join.proofs.Chosen.{Told}

-- no more bases in force, and the same procedure
pub record Under (q p : Point) : Type 0 where
  pub bases : q.bases ⊆ p.bases
  pub within : q.within ≡ p.within

-- at offset a of segment g stands an instruction to which one may come from p with k known
pub record Good (w : List Placed) (g a : ℕ) (p : Point) (k : Knows) : Type 0 where
  pub to : Placed
  pub one : to ∈ w
  pub segment : to.segment ≡ g
  pub at : to.at ≡ a
  pub under : Under to.point p
  pub knows : to.knows ≡ k

-- at offset a of its segment stands the body of the procedure v, which is in force with the bases bs
pub record Enters (w : List Placed) (a : ℕ) (v : Within) (bs : List Based) : Type 0 where
  pub to : Placed
  pub one : to ∈ w
  pub segment : to.segment ≡ v.segment
  pub at : to.at ≡ a
  pub within : to.point.within ≡ some v
  pub bases : to.point.bases ⊆ bs
  pub knows : to.knows ≡ nothing

-- the instruction x calls a procedure, with return register r and its body at t
pub record Calls (w : List Placed) (x : Placed) (r t : ℕ) : Type 0 where
  pub v : Within
  pub return : v.return ≡ r
  pub small : r < 16
  pub segment : v.segment ≡ x.segment
  pub body : Enters w t v x.point.bases
  pub spared : Spared x.point (Writes v)
  pub counted : Counted x.point (Writes v)
  pub back : Good w x.segment (x.at + 4) x.point nothing

-- why k is known after the plain instruction i where h is known at it: "compare with the count as a literal", "LTR", "SHLL by 2"
abbrev pub Gains : Knows → Instruction → Knows → Type 0
Gains h i nothing = Unit {0}
Gains h i (compared k) = i ≡ rx (opcode compare_row 1) k.register (literal (choices k))
Gains h i (at_most k) = ⊥
Gains h i (tested k) = (h ≡ at_most k) × (i ≡ rr test_op k.register k.register) × (k.register < 16)
Gains h i (between k) = ⊥
Gains h i (scaled k) = (h ≡ between k) × (i ≡ shift (shift_code K.SHLL) k.register 0 2) × (k.register < 16)

-- it goes on to the next
pub record Onward (l : Layout) (w : List Placed) (x : Placed) : Type 0 where
  pub plain : Plain l x.point x.instruction
  pub after : Knows
  pub next : Good w x.segment (x.at + size x.instruction) x.point after
  pub gains : Gains x.knows x.instruction after

-- it makes register r the base of segment k
pub record Opens (n : ℕ) (w : List Placed) (x : Placed) (op r k : ℕ) : Type 0 where
  pub loads : op ≡ opcode load_row 1
  pub basing : Basing n x.point r k
  pub next : Good w x.segment (x.at + 4) (with_base x.point r k) nothing

-- it returns
pub record Returns (x : Placed) (op m s : ℕ) : Type 0 where
  pub branches : op ≡ 0x07
  pub taken : m ≡ always
  pub v : Within
  pub within : x.point.within ≡ some v
  pub segment : v.segment ≡ x.segment
  pub return : v.return ≡ s

-- it branches to t
pub record Branches (w : List Placed) (x : Placed) (m t : ℕ) : Type 0 where
  pub to : Good w x.segment t x.point nothing
  pub after : Knows
  pub next : (m ≡ always) ⊎ Good w x.segment (x.at + 4) x.point after
  pub gains : (c : Cpu) → t < room → asked m c.code ≡ false → Told x.knows c → Told after c

-- an entry of a table: an always-branch to t
pub record Entry (w : List Placed) (g a : ℕ) (p : Point) (t : ℕ) : Type 0 where
  pub good : Good w g a p nothing
  pub branches : good.to.instruction ≡ branch always t

-- it branches by register r, which holds four times the number of a statement, to that entry of its table; the entry with number 1 stands four bytes behind t
pub record Chooses (w : List Placed) (x : Placed) (r t : ℕ) : Type 0 where
  pub case : Case
  pub knows : x.knows ≡ scaled case
  pub register : case.register ≡ r
  pub positive : 0 < r
  pub small : r < 16
  pub before : t ≡ x.at
  pub entries : (j : ℕ) → 1 ≤ j → j ≤ choices case → Entry w x.segment (t + 4 * j) x.point (statement_at case.arms j (first_of case))

-- by the instruction i, which is x's; the last instruction of the program stands at e
abbrev pub Goes : ℕ → Layout → ℕ → List Placed → Placed → Instruction → Type 0
Goes n l e w x (rr op r s) = Returns x op r s ⊎ Onward l w x
Goes n l e w x (rx op r (element c o i)) = Onward l w x
Goes n l e w x (rx op r (literal v)) = Onward l w x
Goes n l e w x (rx op r (entry k)) = Opens n w x op r k
Goes n l e w x (address r a) = Onward l w x
Goes n l e w x (immediate op v a) = Onward l w x
Goes n l e w x (shift op r s d) = Onward l w x
Goes n l e w x (branch m t) = Branches w x m t
Goes n l e w x (link r t) = Calls w x r t
Goes n l e w x (indexed r t) = Chooses w x r t
Goes n l e w x stop = x.at ≡ e

pub record Flows (n : ℕ) (l : Layout) (e : ℕ) (w : List Placed) (x : Placed) : Type 0 where
  pub guarded : Guarded n x.point
  pub goes : Goes n l e w x x.instruction
