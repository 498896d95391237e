-- Parts of the grammar's rules that the code reads by functions of their own.
use Rattle.std.specs.Prelude.{List, ◌∷◌, Bool, false, ℕ, eqb, get_or}
use Rattle.std.proofs.Math.Option.{some}
use Rattle.token.specs.Kinds as K
use Rattle.grammar.specs.Tree.{Designator, Operand, Assignment, Condition, Declaration, base, Statement}
use Rattle.grammar.specs.Reader.{Result, ok, bad, Reader, ◌>>=◌, ◌>>◌, give, want}
use Rattle.grammar.specs.Grammar.{fuelled, in_parens, operand, condition, assignment_of, arguments, use_of, type_of, cells_of, after_type}
use Rattle.tape.specs.Events as E
use Rattle.tape.specs.Tape.{event}

-- ── declarations ──

-- after SEGMENT
abbrev pub base_of : Reader Declaration
base_of = do
  want K.BASE
  n ← want K.NAME
  give (base n)

-- after ARRAY
abbrev pub array_of : Reader Declaration
array_of = do
  c ← in_parens K.NUMBER
  w ← type_of
  cells_of (some c) w

-- what begins with a type
abbrev pub typed_of : Reader Declaration
typed_of = do
  w ← type_of
  after_type w

-- ── what begins with a name ──

-- whether a designator has been read and `:=` stands behind it: it is a target
abbrev pub targeted : List ℕ → Result Designator → Bool
targeted ks (ok d j) = eqb (get_or ks j 0) K.BECOMES
targeted ks (bad n t) = false

-- after a name that is no target: a call or a use
abbrev pub used_of : ℕ → Reader Statement
used_of n = do
  xs ← fuelled arguments
  give (use_of n xs)

-- ── before the statement inside ──

-- a condition and the word after it, THEN or DO
abbrev pub head_of : ℕ → Reader Condition
head_of word = do
  c ← condition
  want word
  give c

-- "name OF BEGIN", with the register's name
abbrev pub case_head : Reader ℕ
case_head = do
  n ← want K.NAME
  want K.OF
  want K.BEGIN
  give n

-- "assignment STEP"
abbrev pub control_of : Reader Assignment
control_of = do
  n ← want K.NAME
  a ← assignment_of n
  want K.STEP
  give a

-- "number UNTIL operand DO"
abbrev pub limit_of : Reader Operand
limit_of = do
  want K.NUMBER
  want K.UNTIL
  l ← operand
  want K.DO
  give l

-- "name(name) ;", with the return register's name
abbrev pub procedure_head : Reader ℕ
procedure_head = do
  want K.NAME
  r ← in_parens K.NAME
  want K.SEMICOLON
  give r

abbrev pub tape_chosen : ℕ → List ℕ → List ℕ
tape_chosen n k = event E.CHOSEN n ∷ k

abbrev pub tape_opening : ℕ → ℕ → List ℕ → List ℕ
tape_opening n r k = event E.PROCEDURE n ∷ k
