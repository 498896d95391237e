-- Parts of the rules that hold statements, and their tapes.
use Rattle.std.specs.Prelude.{List, ◌∷◌, ℕ}
use Rattle.token.specs.Kinds as K
use Rattle.grammar.specs.Tree.{Statement, while, choose, for}
use Rattle.grammar.specs.Reader.{Reader, ◌>>=◌, ◌>>◌, give, want}
use Rattle.grammar.specs.Grammar.{fuelled, operand, condition, assignment_of, choices_of, if_of, Procedure}
use Rattle.tape.specs.Events as E
use Rattle.tape.specs.Tape.{event, tape_statement}

-- after IF, WHILE, CASE and FOR, the token t; `inner` reads a statement inside
abbrev pub if_part : Reader Statement → ℕ → Reader Statement
if_part inner t = do
  c ← condition
  want K.THEN
  if_of inner t c

abbrev pub while_part : Reader Statement → ℕ → Reader Statement
while_part inner t = do
  c ← condition
  want K.DO
  s ← inner
  give (while t c s)

abbrev pub case_part : Reader Statement → ℕ → Reader Statement
case_part inner t = do
  n ← want K.NAME
  want K.OF
  want K.BEGIN
  xs ← fuelled (choices_of inner)
  give (choose t n xs)

abbrev pub for_part : Reader Statement → ℕ → Reader Statement
for_part inner t = do
  n ← want K.NAME
  a ← assignment_of n
  want K.STEP
  v ← want K.NUMBER
  want K.UNTIL
  l ← operand
  want K.DO
  s ← inner
  give (for t a v l s)

abbrev pub tape_procedure : Procedure → List ℕ → List ℕ
tape_procedure q k = event E.PROCEDURE q.name ∷ tape_statement q.body (event E.END-PROCEDURE q.name ∷ k)

-- what follows BEGIN, the token t
abbrev pub tape_block : {A : Type 0} → (A → List ℕ → List ℕ) → ℕ → A → List ℕ → List ℕ
tape_block out t a k = out a (event E.END-BLOCK t ∷ k)
