-- The state of the walk as arrays, and what the ledger shows of the tables.
use Rattle.std.specs.Prelude.{◌≡◌, List, [], map, ℕ, zero, suc, Option, Some, None, ◌-◌, ◌<◌, ltb, set, length}
use Rattle.base.specs.Choose.{whether◌then◌else◌}
use Rattle.grammar.specs.Grammar.{nesting}
use Rattle.ledger.specs.Book.{Wide, Thin, on_wide}
use Rattle.ledger.specs.Bounds.{Nested}
use Rattle.static_rules.specs.Meanings.{Meant}
use Rattle.tables.specs.Packed.{REGISTER, FUNCTION, packed, number_in, is_register_in, based_in, meanings_of, sets_of}
use Rattle.tables.specs.Stacks.{stack_of}
use Rattle.meanings.specs.declared.Scope.{Scope}
use Rattle.meanings.specs.Along.{Within}

abbrev pub within_of : (owners outer : List ℕ) → Scope → Within
within_of owners outer s = record {
  own = s.own;
  owners = stack_of owners s.owners;
  base = based_in s.base;
  outer = map based_in (stack_of outer s.outer);
}

abbrev pub meant_of : (means bases opens written : List ℕ) → ℕ → Meant
meant_of means bases opens written count = record {
  means = meanings_of means bases;
  opens = opens;
  written = sets_of written;
  cells = [];
  bases = count;
}

-- what a move leaves, with so many blocks and procedures open
pub record Moved (w : Within) (owners outer : List ℕ) (blocks procedures : ℕ) (r : Scope) : Type 0 where
  pub is : within_of owners outer r ≡ w
  pub blocks-are : r.outer ≡ blocks
  pub procedures-are : r.owners ≡ procedures

-- a tape, and the lengths of the stacks that are lent: they hold what a program opens
pub record Roomy (tape : List ℕ) (owners outer : ℕ) : Type 0 where
  pub small : length tape < 65534
  pub nested : Nested nesting 0 0 tape
  pub deep : nesting < owners
  pub wide : nesting < outer

-- the names around the program, from 0 on: sixteen mean registers, those that follow functions
unfoldable pub standard_meaning : ℕ → ℕ
standard_meaning n = whether ltb n 16 then packed REGISTER 0 n else packed FUNCTION 0 (n - 16)

-- tokens 1 to n mean them
unfoldable pub standard_named : ℕ → List ℕ → List ℕ
standard_named zero means = means
standard_named (suc n) means = set (standard_named n means) (suc n) (standard_meaning n)

-- of a packed meaning, the register that it is
unfoldable pub target_in : ℕ → Option ℕ
target_in m = whether is_register_in m then Some (number_in m) else None

-- ── what the ledger shows: the tables that this pass makes, beside the lists that it leaves ──

pub record View : Type 0 where
  pub values : List ℕ
  pub found : List ℕ
  pub goes : List ℕ
  pub offsets : List ℕ
  pub meant : Meant

abbrev pub view_of : Wide → Thin → ℕ → View
view_of w b count = record { values = w.values; found = b.found; goes = b.goes; offsets = w.offsets; meant = meant_of w.means w.under b.opens b.written count }

-- the tables changed, all else as it was
abbrev pub changed : (Meant → Meant) → View → View
changed f v = record { values = v.values; found = v.found; goes = v.goes; offsets = v.offsets; meant = f v.meant }

abbrev pub named_to : ℕ → Wide → Wide
named_to n w = on_wide 1 (standard_named n) w
