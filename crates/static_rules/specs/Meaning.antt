-- Document 01, "Names, cells, protected registers": what a declared name means. Meanings are held by the token that declares the name, and never taken back.
use Rattle.std.specs.Prelude.{List, Bool, true, false, ◌&&◌, ℕ, eqb, get_or}
use Rattle.token.specs.Kinds as K
use Rattle.grammar.specs.Tree.{Operand, number, place, Term, Width, full, short, byte}
use Rattle.static_rules.specs.Functions.{Function, Argument, no_function, function_at, argument_at}

-- "Cells take the next multiple of their size (4, or 2 for short)."; "BYTE and CHARACTER cells (one byte, any offset …)"
abbrev pub element_size : Width → ℕ
element_size full = 4
element_size short = 2
element_size (byte c) = 1

abbrev pub is_full : Width → Bool
is_full full = true
is_full short = false
is_full (byte c) = false

abbrev pub is_half : Width → Bool
is_half full = false
is_half short = true
is_half (byte c) = false

abbrev pub is_byte : Width → Bool
is_byte full = false
is_byte short = false
is_byte (byte c) = true

-- a data base in force: its register and its segment
pub record Based : Type 0 where
  pub register : ℕ
  pub segment : ℕ

-- a cell: the token of its name, the base in force at its declaration, the width and number of its elements, and whether it was declared an array
pub record Cell : Type 0 where
  pub name : ℕ
  pub base : Based
  pub width : Width
  pub elements : ℕ
  pub array : Bool

pub data Meaning : Type 0 where
  nothing : Meaning
  register : (r : ℕ) → Meaning
  cell : Cell → Meaning
  routine : (return : ℕ) → Meaning
  function : (k : ℕ) → Meaning

-- what the name at token t means, by its declaration's token
abbrev pub meaning_of : List ℕ → List Meaning → ℕ → Meaning
meaning_of found means t = get_or means (get_or found t 0) nothing

-- what the name at the head of an operand means; a number has none
abbrev pub operand_meaning : List ℕ → List Meaning → Operand → Meaning
operand_meaning found means (number t) = nothing
operand_meaning found means (place d) = meaning_of found means d.name

-- a target is a register or a cell: what is said of either, and of what is no target
abbrev pub by_target : {A : Type 0} → Meaning → (ℕ → A) → A → A → A
by_target m of-register of-cell of_none = elim m [ nothing ↦ of_none | register r ↦ of-register r | cell c ↦ of-cell | routine r ↦ of_none | function k ↦ of_none ]

-- the register that a name means; 0 where it means none
abbrev pub register_of : Meaning → ℕ
register_of m = by_target m (λ r. r) 0 0

-- a cell whose width passes a test
abbrev pub cell_is : (Width → Bool) → Meaning → Bool
cell_is test m = elim m [ nothing ↦ false | register r ↦ false | cell c ↦ test c.width | routine r ↦ false | function k ↦ false ]

-- the function that a name means; what means none takes nothing
abbrev pub function_of : Meaning → Function
function_of m = elim m [ nothing ↦ no_function | register r ↦ no_function | cell c ↦ no_function | routine r ↦ no_function | function k ↦ function_at k ]

-- what a name takes in its parenthesis at a position
abbrev pub argument_of : Meaning → ℕ → Argument
argument_of m p = argument_at (function_of m) p

-- "`*` by a number, or by what begins with the name of a register or integer cell, needs an odd target and also writes the register below."
abbrev pub is_long : Meaning → Bool
is_long m = elim m [ nothing ↦ false | register r ↦ true | cell c ↦ is_full c.width | routine r ↦ false | function k ↦ false ]

abbrev pub long_operand : List ℕ → List Meaning → Operand → Bool
long_operand found means (number t) = true
long_operand found means (place d) = is_long (meaning_of found means d.name)

abbrev pub is_product : (kinds found : List ℕ) → List Meaning → Term → Bool
is_product kinds found means t = eqb (get_or kinds t.operator 0) K.TIMES && long_operand found means t.operand
