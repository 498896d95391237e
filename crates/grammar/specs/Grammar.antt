-- Document 01, "Grammar": a reader for each rule, the last rule first. "4: no program begins with the tokens up to here" is given at the first token that no
-- rule has there; "5: BEGIN, IF, WHILE, FOR or PROCEDURE inside 64 such constructs" where the room for them is used up. What the grammar lacks is left out.
use Rattle.std.specs.Prelude.{List, [], ◌∷◌, true, false, ◌&&◌, not, ℕ, zero, suc, eqb, length}
use Rattle.std.proofs.Math.Option.{Option, none, some}
use Rattle.base.specs.Choose.{whether◌then◌else◌}
use Rattle.base.specs.Lists.{member}
use Rattle.token.specs.Kinds as K
use Rattle.grammar.specs.Tree.{Designator, Operand, number, place, Sign, plain, abs, neg, neg_abs, Term, Assignment, Condition, compared, bare, Width, full, short, byte, Register, Item, Declaration, registers, cells, base, Statement, assign, call, apply, block, goto, null, if_then, if_else, while, for, choose, Body, declare, procedure, items, Items, ended, label, item, Choices, over, choice}
use Rattle.grammar.specs.Reader.{Reader, ◌>>=◌, ◌>>◌, give, refuse, look, next, want, want_one}

-- a reader that is handed, as fuel for a list "{…}", the number of all tokens and one more, which no list uses up
abbrev pub fuelled : {A : Type 0} → (ℕ → Reader A) → Reader A
fuelled r kinds = r (suc (length kinds)) kinds

abbrev pub in_parens : ℕ → Reader ℕ
in_parens k = do
  want K.OPEN
  t ← want k
  want K.CLOSE
  give t

-- ── "designator = name, name(number), name(name), name(number)(name). operand = number or designator." ──

-- what follows a designator's name
unfoldable pub designator_of : ℕ → Reader Designator
designator_of n = do
  k ← look
  whether eqb k K.OPEN
      then (do
        next
        l ← look
        s ← want_one (K.NUMBER ∷ K.NAME ∷ [])
        want K.CLOSE
        whether eqb l K.NAME
            then give (record { name = n; subscript = none; index = some s })
            else (do
              m ← look
              whether eqb m K.OPEN
                  then (do
                    x ← in_parens K.NAME
                    give (record { name = n; subscript = some s; index = some x }))
                  else give (record { name = n; subscript = some s; index = none })))
      else give (record { name = n; subscript = none; index = none })

unfoldable pub operand : Reader Operand
operand = do
  k ← look
  t ← want_one (K.NUMBER ∷ K.NAME ∷ [])
  whether eqb k K.NUMBER
      then give (number t)
      else (do
        d ← designator_of t
        give (place d))

-- ── "condition = name relation operand, a bare relation, or OVERFLOW." ──

abbrev pub relations : List ℕ
relations = K.EQUAL ∷ K.UNEQUAL ∷ K.LESS ∷ K.AT-MOST ∷ K.AT-LEAST ∷ K.MORE ∷ []

unfoldable pub condition : Reader Condition
condition = do
  k ← look
  t ← want_one (K.NAME ∷ K.OVERFLOW ∷ relations)
  whether eqb k K.NAME
      then (do
        r ← want_one relations
        a ← operand
        give (compared t r a))
      else give (bare t)

-- ── "assignment = designator := [ABS, NEG or NEG ABS] operand {operator operand}." ──

-- "Operators: + - * ++ -- AND OR XOR SHLL SHRL SHLA SHRA."
abbrev pub operators : List ℕ
operators = K.PLUS ∷ K.MINUS ∷ K.TIMES ∷ K.ADD-LOGICAL ∷ K.SUBTRACT-LOGICAL ∷ K.AND ∷ K.OR ∷ K.XOR ∷ K.SHLL ∷ K.SHRL ∷ K.SHLA ∷ K.SHRA ∷ []

unfoldable pub terms : ℕ → Reader (List Term)
terms zero = give []
terms (suc fuel) = do
  k ← look
  whether member k operators
      then (do
        o ← next
        a ← operand
        ts ← terms fuel
        give (record { operator = o; operand = a } ∷ ts))
      else give []

unfoldable pub sign_of : Reader Sign
sign_of = do
  k ← look
  whether eqb k K.ABS then (do t ← next; give (abs t)) else
      whether eqb k K.NEG
      then (do
        t ← next
        l ← look
        whether eqb l K.ABS then (do next; give (neg_abs t)) else give (neg t))
      else give plain

-- what follows an assignment's target
unfoldable pub assigned_to : Designator → Reader Assignment
assigned_to d = do
  want K.BECOMES
  s ← sign_of
  a ← operand
  ts ← fuelled terms
  give (record { target = d; sign = s; first = a; rest = ts })

-- what follows the name of an assignment's target
unfoldable pub assignment_of : ℕ → Reader Assignment
assignment_of n = do
  d ← designator_of n
  assigned_to d

-- ── "declaration = (INTEGER or LOGICAL) REGISTER name(number) {, name(number)}; or [ARRAY (number)] type item {, item}; or PROCEDURE name(name) ;
-- statement; or SEGMENT BASE name. type = INTEGER, LOGICAL or SHORT INTEGER; item = name {(number)}." Document 02, 1/13: "BYTE and CHARACTER cells". Procedures stand below,
-- since they hold a statement ──

unfoldable pub numbers : ℕ → Reader (List ℕ)
numbers zero = give []
numbers (suc fuel) = do
  k ← look
  whether eqb k K.OPEN
      then (do
        t ← in_parens K.NUMBER
        ts ← numbers fuel
        give (t ∷ ts))
      else give []

unfoldable pub cell_item : Reader Item
cell_item = do
  n ← want K.NAME
  ts ← fuelled numbers
  give (record { name = n; numbers = ts })

unfoldable pub register_item : Reader Register
register_item = do
  n ← want K.NAME
  t ← in_parens K.NUMBER
  give (record { name = n; number = t })

-- one or more, with commas between
unfoldable pub list_of : {A : Type 0} → Reader A → ℕ → Reader (List A)
list_of one zero = give []
list_of one (suc fuel) = do
  a ← one
  k ← look
  whether eqb k K.COMMA
      then (do
        next
        more ← list_of one fuel
        give (a ∷ more))
      else give (a ∷ [])

-- the words with which a type begins
abbrev pub type_words : List ℕ
type_words = K.INTEGER ∷ K.LOGICAL ∷ K.SHORT ∷ K.BYTE ∷ K.CHARACTER ∷ []

unfoldable pub type_of : Reader Width
type_of = do
  k ← look
  want_one type_words
  whether eqb k K.SHORT then (do want K.INTEGER; give short) else
      whether eqb k K.BYTE then give (byte false) else
      whether eqb k K.CHARACTER then give (byte true) else
      give full

unfoldable pub cells_of : Option ℕ → Width → Reader Declaration
cells_of count w = do
  is ← fuelled (list_of cell_item)
  give (cells count w is)

-- what follows a type with which no array was announced: only INTEGER and LOGICAL go with REGISTER
unfoldable pub after_type : Width → Reader Declaration
after_type short = cells_of none short
after_type (byte c) = cells_of none (byte c)
after_type full = do
  k ← look
  whether eqb k K.REGISTER
      then (do
        next
        rs ← fuelled (list_of register_item)
        give (registers rs))
      else cells_of none full

unfoldable pub declaration : Reader Declaration
declaration = do
  k ← look
  whether eqb k K.SEGMENT
      then (do
        next
        want K.BASE
        n ← want K.NAME
        give (base n))
      else whether eqb k K.ARRAY
      then (do
        next
        c ← in_parens K.NUMBER
        w ← type_of
        cells_of (some c) w)
      else (do
        w ← type_of
        after_type w)

-- ── "simple = assignment, name (a call), block, GOTO name, NULL." Document 02, 1/13: "A use is a simple statement: the name, then each argument in its own parentheses." ──

-- document 02, 1/13: "each argument in its own parentheses"
unfoldable pub arguments : ℕ → Reader (List Operand)
arguments zero = give []
arguments (suc fuel) = do
  k ← look
  whether eqb k K.OPEN
      then (do
        next
        a ← operand
        want K.CLOSE
        xs ← arguments fuel
        give (a ∷ xs))
      else give []

-- a name x in the last parentheses of a designator, with nothing more
abbrev pub indexed : (name : ℕ) (subscript : Option ℕ) (x : ℕ) (its_subscript its_index : Option ℕ) → Option Designator
indexed n s x none none = some (record { name = n; subscript = s; index = some x })
indexed n s x none (some y) = none
indexed n s x (some t) none = none
indexed n s x (some t) (some y) = none

-- the designator that a name with a row of arguments is, if it is one: "name, name(number), name(name), name(number)(name)"
unfoldable pub target_of : ℕ → List Operand → Option Designator
target_of n [] = some (record { name = n; subscript = none; index = none })
target_of n (number s ∷ []) = some (record { name = n; subscript = some s; index = none })
target_of n (number s ∷ (number t ∷ xs)) = none
target_of n (number s ∷ (place d ∷ [])) = indexed n (some s) d.name d.subscript d.index
target_of n (number s ∷ (place d ∷ (a ∷ xs))) = none
target_of n (place d ∷ []) = indexed n none d.name d.subscript d.index
target_of n (place d ∷ (a ∷ xs)) = none

-- an assignment to d; without one, a statement that has been read
unfoldable pub assign_or : Option Designator → Statement → Reader Statement
assign_or none s = give s
assign_or (some d) s = do
  a ← assigned_to d
  give (assign a)

-- a name with a row of arguments; with none it is a call
abbrev pub use_of : (name : ℕ) → List Operand → Statement
use_of n [] = call n
use_of n (a ∷ xs) = apply n a xs

-- an assignment, a call or a use, its name read: which of them shows behind the row of arguments, since every designator is one
unfoldable pub after_name : ℕ → Reader Statement
after_name n = do
  xs ← fuelled arguments
  k ← look
  whether eqb k K.BECOMES then assign_or (target_of n xs) (use_of n xs) else give (use_of n xs)

abbrev pub openers : List ℕ
openers = K.BEGIN ∷ K.IF ∷ K.WHILE ∷ K.CASE ∷ K.FOR ∷ []

-- a statement, of which `construct` reads those that begin with BEGIN, IF, WHILE, CASE or FOR
unfoldable pub statement_of : Reader Statement → Reader Statement
statement_of construct = do
  k ← look
  whether member k openers then construct else
      whether eqb k K.NAME then (do n ← next; after_name n) else
      whether eqb k K.GOTO then (do t ← next; n ← want K.NAME; give (goto t n)) else
      whether eqb k K.NULL then (do next; give null) else
      refuse 4

-- ── "block = BEGIN {declaration ;} {statement ; or name :} END." ──

-- from the first statement or label on; `inner` reads a statement in the block
unfoldable pub items_of : Reader Statement → ℕ → Reader Items
items_of inner zero = refuse 4
items_of inner (suc fuel) = do
  k ← look
  whether eqb k K.END then (do next; give ended) else
      whether eqb k K.NAME
      then (do
        n ← next
        l ← look
        whether eqb l K.COLON
            then (do next; is ← items_of inner fuel; give (label n is))
            else (do s ← after_name n; want K.SEMICOLON; is ← items_of inner fuel; give (item s is)))
      else (do s ← inner; want K.SEMICOLON; is ← items_of inner fuel; give (item s is))

-- ── document 02, 3/13: "CASE register OF BEGIN {statement ;} END" ──

-- what follows BEGIN; `inner` reads a statement in the list
unfoldable pub choices_of : Reader Statement → ℕ → Reader Choices
choices_of inner zero = refuse 4
choices_of inner (suc fuel) = do
  k ← look
  whether eqb k K.END then (do next; give over) else (do s ← inner; want K.SEMICOLON; xs ← choices_of inner fuel; give (choice s xs))

-- a procedure's name, its return register's and its body
pub record Procedure : Type 0 where
  pub name : ℕ
  pub return : ℕ
  pub body : Statement

abbrev pub declarators : List ℕ
declarators = K.INTEGER ∷ K.LOGICAL ∷ K.SHORT ∷ K.BYTE ∷ K.CHARACTER ∷ K.ARRAY ∷ K.SEGMENT ∷ []

-- what follows BEGIN; `proc` reads a procedure in the block
unfoldable pub body_of : Reader Statement → Reader Procedure → ℕ → Reader Body
body_of inner proc zero = refuse 4
body_of inner proc (suc fuel) = do
  k ← look
  whether member k declarators then (do d ← declaration; want K.SEMICOLON; b ← body_of inner proc fuel; give (declare d b)) else
      whether eqb k K.PROCEDURE then (do p ← proc; want K.SEMICOLON; b ← body_of inner proc fuel; give (procedure p.name p.return p.body b)) else
      (do is ← fuelled (items_of inner); give (items is))

-- ── "statement = simple; IF condition THEN statement; IF condition THEN simple ELSE statement; WHILE condition DO statement; FOR assignment STEP number
-- UNTIL operand DO statement." ──

-- the words with which a statement begins that is not simple
abbrev pub compounds : List ℕ
compounds = K.IF ∷ K.WHILE ∷ K.FOR ∷ []

-- after THEN: an ELSE goes with a true part that is simple
unfoldable pub if_of : Reader Statement → ℕ → Condition → Reader Statement
if_of inner t c = do
  k ← look
  s ← inner
  e ← look
  whether eqb e K.ELSE && not (member k compounds)
      then (do e ← next; u ← inner; give (if_else t c s e u))
      else give (if_then t c s)

unfoldable pub construct_of : Reader Statement → Reader Procedure → Reader Statement
construct_of inner proc = do
  k ← look
  t ← next
  whether eqb k K.BEGIN then (do b ← fuelled (body_of inner proc); give (block t b)) else
      whether eqb k K.IF then (do c ← condition; want K.THEN; if_of inner t c) else
      whether eqb k K.WHILE then (do c ← condition; want K.DO; s ← inner; give (while t c s)) else
      whether eqb k K.CASE then (do n ← want K.NAME; want K.OF; want K.BEGIN; xs ← fuelled (choices_of inner); give (choose t n xs)) else
      (do
        n ← want K.NAME
        a ← assignment_of n
        want K.STEP
        v ← want K.NUMBER
        want K.UNTIL
        l ← operand
        want K.DO
        s ← inner
        give (for t a v l s))

-- with room for so many constructs, one inside the other
unfoldable mutual
  pub statement : ℕ → Reader Statement
  statement zero = statement_of (refuse 5)
  statement (suc room) = statement_of (construct_of (statement room) (procedure_of room))

  -- "PROCEDURE name(name) ; statement"
  pub procedure_of : ℕ → Reader Procedure
  procedure_of zero = refuse 5
  procedure_of (suc room) = do
    next
    n ← want K.NAME
    r ← in_parens K.NAME
    want K.SEMICOLON
    s ← statement room
    give (record { name = n; return = r; body = s })

-- ── "program = block @." ──

-- "inside 64 such constructs"
abbrev pub nesting : ℕ
nesting = 64

unfoldable pub program : Reader Statement
program = do
  k ← look
  whether eqb k K.BEGIN
      then (do
        b ← statement nesting
        want K.AT
        give b)
      else refuse 4
