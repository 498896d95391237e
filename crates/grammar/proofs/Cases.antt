-- The theorems at worked texts: what is read, and where refusals 4 and 5 are given, by computation.
use mathlib.Core.Path.{refl}
use mathlib.Core.List.{List, [], ◌∷◌}
use Prim.Native.Nat.{ℕ}
use lib.ListN.{replicate}
use Rattle.token.specs.Kinds as K
use Rattle.grammar.specs.Tree.{number, block, apply, items, ended, item}
use Rattle.grammar.specs.Reader.{and_then, look, next, want, want_one}
use Rattle.grammar.specs.Grammar.{designator_of, operand, condition, terms, sign_of, assigned_to, arguments, target_of, assign_or, after_name, statement_of, items_of, body_of, if_of, construct_of, statement, nesting, program}
use Rattle.grammar.specs.Derives.{is_program_within}
use Rattle.grammar.specs.Refusals.{FourAt, FiveAt}
use Rattle.grammar.proofs.Theorems.{accepted, refusal-4, refusal-5}

-- `BEGIN END @`
smallest : is_program_within nesting (K.BEGIN ∷ K.END ∷ K.AT ∷ []) (block 0 (items ended)) 0 3
unfolding program statement statement_of construct_of body_of items_of and_then look next want
smallest = (accepted (K.BEGIN ∷ K.END ∷ K.AT ∷ []) 0 (block 0 (items ended)) 3).0 refl

-- the empty text: 4 at its end
empty : FourAt [] 0 0
unfolding program and_then look
empty = (refusal-4 [] 0 0).0 refl

-- `BEGIN IF OVERFLOW THEN WHILE OVERFLOW DO NULL ELSE`: a true part before an ELSE is simple
abbrev else_after_while : List ℕ
else_after_while = K.BEGIN ∷ K.IF ∷ K.OVERFLOW ∷ K.THEN ∷ K.WHILE ∷ K.OVERFLOW ∷ K.DO ∷ K.NULL ∷ K.ELSE ∷ []

else-after-while : FourAt else_after_while 0 8
unfolding program statement statement_of construct_of condition if_of body_of items_of and_then look next want want_one
else-after-while = (refusal-4 else_after_while 0 8).0 refl

-- `BEGIN A(4)(4) :=`: a use could go on so, an assignment not: 4 stands at the `:=`
abbrev two_numbers : List ℕ
two_numbers = K.BEGIN ∷ K.NAME ∷ K.OPEN ∷ K.NUMBER ∷ K.CLOSE ∷ K.OPEN ∷ K.NUMBER ∷ K.CLOSE ∷ K.BECOMES ∷ []

two-numbers : FourAt two_numbers 0 8
unfolding program statement statement_of construct_of designator_of operand arguments target_of assign_or after_name body_of items_of and_then look next want want_one
two-numbers = (refusal-4 two_numbers 0 8).0 refl

-- `BEGIN A(4)(X) :=`: a target, and 4 is where the text ends
abbrev subscript_index : List ℕ
subscript_index = K.BEGIN ∷ K.NAME ∷ K.OPEN ∷ K.NUMBER ∷ K.CLOSE ∷ K.OPEN ∷ K.NAME ∷ K.CLOSE ∷ K.BECOMES ∷ []

subscript-index : FourAt subscript_index 0 9
unfolding program statement statement_of construct_of designator_of operand terms sign_of assigned_to arguments target_of assign_or after_name body_of items_of and_then look next want want_one
subscript-index = (refusal-4 subscript_index 0 9).0 refl

-- `BEGIN A(4)(4); END @`: the same row without it is a use
abbrev row : List ℕ
row = K.BEGIN ∷ K.NAME ∷ K.OPEN ∷ K.NUMBER ∷ K.CLOSE ∷ K.OPEN ∷ K.NUMBER ∷ K.CLOSE ∷ K.SEMICOLON ∷ K.END ∷ K.AT ∷ []

used : is_program_within nesting row (block 0 (items (item (apply 1 (number 3) (number 6 ∷ [])) ended))) 0 11
unfolding program statement statement_of construct_of designator_of operand arguments target_of assign_or after_name body_of items_of and_then look next want want_one
used = (accepted row 0 (block 0 (items (item (apply 1 (number 3) (number 6 ∷ [])) ended))) 11).0 refl

-- 65 times BEGIN: 5 at the last, which is inside 64
too-deep : FiveAt (replicate 65 K.BEGIN) 0 64
unfolding program statement statement_of construct_of body_of items_of and_then look next want
too-deep = (refusal-5 (replicate 65 K.BEGIN) 0 64).0 refl

-- 64 times BEGIN: all could go on, and 4 is where the text ends
deep-enough : FourAt (replicate 64 K.BEGIN) 0 64
unfolding program statement statement_of construct_of body_of items_of and_then look next want
deep-enough = (refusal-4 (replicate 64 K.BEGIN) 0 64).0 refl
