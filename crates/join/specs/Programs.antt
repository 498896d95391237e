-- The program that an accepted text is made into, by the translation's own records, and the state in which the runner leaves it.
use Rattle.std.specs.Prelude.{◌≡◌, ◌⊎◌, List, ◌++◌, ℕ, suc, ◌+◌, ◌*◌, ◌%◌, ◌^◌, ◌≤◌, ◌<◌, length, get_or, take}
use Rattle.std.proofs.Math.Option.{some}
use Rattle.base.specs.Lists.{◌∈◌}
use Rattle.token.specs.declared.Token.{Token}
use Rattle.token.specs.Text.{tokens_of}
use Rattle.grammar.specs.Tree as T
use Rattle.grammar.specs.Tree.{Statement}
use Rattle.grammar.specs.Reader as R
use Rattle.grammar.specs.Grammar as G
use Rattle.scopes.specs.Search.{in_front, first_token}
use Rattle.objtext.specs.Object.{Segment}
use Rattle.machine.specs.Space.{origin}
use Rattle.machine.specs.Step.{Cpu, cpu, at_end, forbidden, misaligned}
use Rattle.machine.specs.Operands.{operand_address}
use Rattle.machine.specs.Run.{budget_used}
use Rattle.runner.specs.Runner.{Outcome}
use Rattle.translation.specs.Instructions.{Instruction, branch, link, stop, sizes, always}
use Rattle.translation.specs.Core.{core_statement}
use Rattle.translation.specs.Layout.{Layout, table_bytes, literals_end}
use Rattle.translation.specs.Image.{segments}
use Rattle.translation.specs.Translate.{kinds_of, Made, make}
use Rattle.join.specs.Points.{Within, Case, choices, first_of, statement_at, scaled, Placed, program}
use Rattle.join.specs.Operands.{Indexed}

-- ── the program ──

-- the tokens of a text, with the register names in front
abbrev pub tokens_in : List ℕ → List Token
tokens_in source = in_front ++ (tokens_of source).tokens

-- a text that is no program has no statement
abbrev pub tree_from : R.Result Statement → Statement
tree_from (R.ok x next) = x
tree_from (R.bad n i) = T.null

abbrev pub tree_of : List ℕ → Statement
tree_of source = tree_from (G.program (kinds_of (tokens_in source)) first_token)

-- the instructions and the layout of a text
unfoldable pub made_of : List ℕ → Made
made_of source = make (tokens_in source) (tree_of source)

abbrev pub instructions_of : List ℕ → List Instruction
instructions_of source = (made_of source).instructions

abbrev pub layout_of : List ℕ → Layout
layout_of source = (made_of source).layout

-- its segments, as its object text has them
abbrev pub segments_of : List ℕ → List Segment
segments_of source = segments (made_of source).bases (layout_of source) (instructions_of source)

-- each instruction with its place and its point
abbrev pub placed_of : List ℕ → List Placed
placed_of source = program (made_of source).tables.written (core_statement (made_of source).tables (tree_of source))

-- ── the state ──

abbrev pub state_of : Outcome → Cpu
state_of r = cpu r.regs r.code r.counter

-- the counter a is at the start of the instruction with number i
pub record At (is : List Instruction) (a i : ℕ) : Type 0 where
  pub index : i < length is
  pub counter : a ≡ origin 0 + sizes (take i is)

-- a byte of the program, of the segment table or of the literals
abbrev pub Fixed : List Instruction → Layout → ℕ → Type 0
Fixed is l a =
    ((origin 0 ≤ a) × (a < origin 0 + sizes is)) ⊎ (((origin 1 ≤ a) × (a < origin 1 + table_bytes)) ⊎ ((origin 1 + l.literals_at ≤ a) × (a < origin 1 + literals_end l)))

-- a run of b instructions that ended at instruction i with the stop k and the count q: "it stops only at its final instruction, when the count given is used up,
-- or at an indexed operand that the storage map forbids or that is misaligned"
abbrev pub Stops : List Instruction → ℕ → ℕ → ℕ → ℕ → Type 0
Stops is b i k q =
    ((k ≡ budget_used) × (q ≡ b))
    ⊎ (((k ≡ at_end) × (get_or is i stop ≡ stop) × (suc i ≡ length is)) ⊎ (((k ≡ forbidden) ⊎ (k ≡ misaligned)) × Indexed (get_or is i stop)))

-- a call of the procedure v was written, to the body of v, and a register's value r has the address after it
pub record CalledFrom (w : List Placed) (v : Within) (r : ℕ) : Type 0 where
  pub call : Placed
  pub written : call ∈ w
  pub body : Placed
  pub placed : body ∈ w
  pub calls : call.instruction ≡ link v.return body.at
  pub of-it : body.point.within ≡ some v
  pub holds : r % 2 ^ 24 ≡ origin call.segment + (call.at + 4)

-- at the branch y of a CASE by register r: which CASE it is; r holds four times the number of one of its statements; the address that the machine forms is that of
-- an entry of its table, the one with that number behind y; and that is an always-branch to where the statement begins
pub record Meets (w : List Placed) (c : Cpu) (s : List ℕ) (y : Placed) (r : ℕ) : Type 0 where
  pub case : Case
  pub its : y.knows ≡ scaled case
  pub by : case.register ≡ r
  pub number : ℕ
  pub from_one : 1 ≤ number
  pub to-count : number ≤ choices case
  pub holds : get_or c.regs r 0 ≡ 4 * number
  pub entry : Placed
  pub written : entry ∈ w
  pub at : entry.at ≡ y.at + 4 * number
  pub formed : operand_address c s ≡ origin entry.segment + entry.at
  pub goes : entry.instruction ≡ branch always (statement_at case.arms number (first_of case))
