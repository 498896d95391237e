-- Document 01, "Grammar": the tree of a program. What stands in it for a name, a number, a word or a sign is the number of its token; tokens are
-- looked up later, and places last of all.
use Rattle.std.specs.Prelude.{List, Bool, ℕ}
use Rattle.std.proofs.Math.Option.{Option}

-- "designator = name, name(number), name(name), name(number)(name)"
pub record Designator : Type 0 where
  pub name : ℕ
  pub subscript : Option ℕ
  pub index : Option ℕ

-- "operand = number or designator"
pub data Operand : Type 0 where
  number : (at : ℕ) → Operand
  place : Designator → Operand

-- "[ABS, NEG or NEG ABS]", by the first of these words
pub data Sign : Type 0 where
  plain : Sign
  abs neg neg_abs : (at : ℕ) → Sign

-- "{operator operand}"
pub record Term : Type 0 where
  pub operator : ℕ
  pub operand : Operand

-- "assignment = designator := [ABS, NEG or NEG ABS] operand {operator operand}"
pub record Assignment : Type 0 where
  pub target : Designator
  pub sign : Sign
  pub first : Operand
  pub rest : List Term

-- "condition = name relation operand, a bare relation, or OVERFLOW"
pub data Condition : Type 0 where
  compared : (name relation : ℕ) → Operand → Condition
  bare : (relation : ℕ) → Condition

-- "type = INTEGER, LOGICAL or SHORT INTEGER": "LOGICAL follows every rule of INTEGER", so an element is full or short. Document 02, 1/13: "BYTE and CHARACTER cells (one
-- byte, any offset …)", which are alike; the word stays with the cell.
pub data Width : Type 0 where
  full short : Width
  byte : (character : Bool) → Width

-- "REGISTER name(number)"
pub record Register : Type 0 where
  pub name : ℕ
  pub number : ℕ

-- "item = name {(number)}"
pub record Item : Type 0 where
  pub name : ℕ
  pub numbers : List ℕ

-- "(INTEGER or LOGICAL) REGISTER name(number) {, name(number)}; or [ARRAY (number)] type item {, item}; or … SEGMENT BASE name"
pub data Declaration : Type 0 where
  registers : List Register → Declaration
  cells : (count : Option ℕ) → Width → List Item → Declaration
  base : (name : ℕ) → Declaration

mutual
  -- "simple = assignment, name (a call), block, GOTO name, NULL"; "statement = simple; IF …; WHILE …; FOR …". A construct has the token that
  -- opens it, and an ELSE its own. Document 02, 1/13: "A use is a simple statement: the name, then each argument in its own parentheses"; with no argument it is a call. 3/13:
  -- "CASE register OF BEGIN {statement ;} END as a simple statement".
  pub data Statement : Type 0 where
    assign : Assignment → Statement
    call : (name : ℕ) → Statement
    apply : (name : ℕ) → (first : Operand) → (more : List Operand) → Statement
    block : (at : ℕ) → Body → Statement
    goto : (at name : ℕ) → Statement
    null : Statement
    if_then : (at : ℕ) → Condition → Statement → Statement
    if_else : (at : ℕ) → Condition → Statement → (else : ℕ) → Statement → Statement
    while : (at : ℕ) → Condition → Statement → Statement
    for : (at : ℕ) → Assignment → (step : ℕ) → (limit : Operand) → Statement → Statement
    choose : (at name : ℕ) → Choices → Statement

  -- "block = BEGIN {declaration ;} {statement ; or name :} END": the declarations come first, "PROCEDURE name(name) ; statement" among them
  pub data Body : Type 0 where
    declare : Declaration → Body → Body
    procedure : (name return : ℕ) → Statement → Body → Body
    items : Items → Body

  pub data Items : Type 0 where
    ended : Items
    label : (name : ℕ) → Items → Items
    item : Statement → Items → Items

  -- "{statement ;}", what a CASE chooses from
  pub data Choices : Type 0 where
    over : Choices
    choice : Statement → Choices → Choices
