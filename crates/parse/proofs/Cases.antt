-- Worked texts, by computing the definition: refusals with their places, tapes, the limit of nesting. Assumes nothing.
use Prim.Native.Nat.{ℕ, zero, suc, ◌+◌}
use Prim.Native.String.{String}
use mathlib.Core.Path.{◌≡◌, refl}
use mathlib.Core.List.{List, [], ◌∷◌, ◌++◌, map}
use lib.ListN.{replicate}
use Rattle.base.specs.Text.{bytes, same_bytes}
use Rattle.base.specs.Runs.{run_len}
use Rattle.base.specs.Numbers.{number_from}
use Rattle.base.specs.Walk.{walk, fold}
use Rattle.spots.specs.Spots.{spot, unplaced}
use Rattle.token.specs.Kinds as K
use Rattle.token.specs.Text.{word_kind, comment, name_or_word, number, begins, sign, lexeme, next_step, next_token, read_from, tokens_of}
use Rattle.token.specs.Answers.{kind_of}
use Rattle.grammar.specs.Tree.{Statement}
use Rattle.grammar.specs.Reader.{Result, ok, bad, and_then, look, next, want, want_one}
use Rattle.grammar.specs.Grammar.{designator_of, operand, condition, terms, sign_of, assigned_to, assignment_of, numbers, cell_item, register_item, list_of, type_of, cells_of, after_type, declaration, arguments, target_of, assign_or, after_name, statement_of, items_of, choices_of, body_of, if_of, construct_of, statement, procedure_of, program}
use Rattle.tape.specs.Events as E
use Rattle.tape.specs.Tape.{event, tape_designator, tape_operand, tape_condition, tape_sign, tape_each, tape_assignment, tape_item, tape_declaration, tape_statement, tape_body, tape_items, tape_choices}
use Rattle.parse.specs.Programs.{says, judged}

-- number and place
abbrev verdict : String → ℕ × ℕ
verdict s = ((judged (bytes s)).number, (judged (bytes s)).spot.place)

verdicts :
    map verdict
    ("BEGIN END @" ∷ "" ∷ "BEGIN NULL" ∷ "BEGIN NULL END @" ∷ "BEGIN R1 := ; END @" ∷ "BEGIN INTEGER REGISTER A; END @" ∷ "BEGIN IF < THEN WHILE < DO NULL ELSE NULL; END @" ∷
    "BEGIN IF < THEN NULL ELSE WHILE < DO NULL; END @" ∷ "BEGIN A(B)(C) := 1; END @" ∷ "BEGIN NULL; INTEGER A; END @" ∷ "BEGIN L: END @" ∷ "BEGIN 99999999999 END @" ∷ [])
    ≡ (0, 0) ∷ (4, 0) ∷ (4, 10) ∷ (4, 11) ∷ (4, 12) ∷ (4, 24) ∷ (4, 32) ∷ (0, 0) ∷ (4, 14) ∷ (4, 12) ∷ (0, 0) ∷ (3, 6) ∷ []
unfolding same_bytes run_len number_from walk word_kind comment name_or_word number begins sign lexeme next_step next_token read_from tokens_of judged and_then look next
    want want_one designator_of operand condition terms sign_of assigned_to assignment_of numbers cell_item register_item list_of type_of cells_of after_type declaration
    arguments target_of assign_or after_name statement_of items_of body_of if_of construct_of statement procedure_of program
verdicts = refl

-- document 02, 1/13: "the name, then each argument in its own parentheses"; behind another row than a designator no `:=` stands
uses :
    map verdict
    ("BEGIN X(1)(R2)(Y(4))(5)(Z); END @" ∷ "BEGIN IC(); END @" ∷ "BEGIN IC(R1, B); END @" ∷ "BEGIN SET((F)); END @" ∷ "BEGIN MVI(4 + 1)(B); END @" ∷ "BEGIN A(R1)(4) := R2; END @" ∷
    "BEGIN A(B(4)) := R2; END @" ∷ "BEGIN A(4)(R1)(R2) := R3; END @" ∷ "BEGIN IC(4)(R1) := R2; END @" ∷ "BEGIN BYTE B; CHARACTER C; END @" ∷ "BEGIN BYTE REGISTER B(1); END @" ∷ [])
    ≡ (0, 0) ∷ (4, 9) ∷ (4, 11) ∷ (4, 10) ∷ (4, 12) ∷ (4, 15) ∷ (4, 14) ∷ (4, 19) ∷ (0, 0) ∷ (0, 0) ∷ (4, 11) ∷ []
unfolding same_bytes run_len number_from walk word_kind comment name_or_word number begins sign lexeme next_step next_token read_from tokens_of judged and_then look next
    want want_one designator_of operand terms sign_of assigned_to numbers cell_item list_of type_of cells_of after_type declaration arguments target_of assign_or after_name
    statement_of items_of body_of construct_of statement procedure_of program
uses = refl

-- document 02, 3/13: "CASE register OF BEGIN {statement ;} END" is simple, and in its list stand no labels and no declarations
choices :
    map verdict
    ("BEGIN CASE R1 OF BEGIN END; END @" ∷ "BEGIN CASE R1 OF BEGIN NULL; BEGIN L: END; END; END @" ∷ "BEGIN IF < THEN CASE R1 OF BEGIN NULL; END ELSE NULL; END @" ∷
    "BEGIN CASE 1 OF BEGIN END; END @" ∷ "BEGIN CASE R1(4) OF BEGIN END; END @" ∷ "BEGIN CASE R1 OF NULL; END @" ∷ "BEGIN CASE R1 OF BEGIN NULL END; END @" ∷
    "BEGIN CASE R1 OF BEGIN L: NULL; END; END @" ∷ "BEGIN CASE R1 OF BEGIN INTEGER A; END; END @" ∷ "BEGIN CASE R1 OF BEGIN NULL;" ∷ [])
    ≡ (0, 0) ∷ (0, 0) ∷ (0, 0) ∷ (4, 11) ∷ (4, 13) ∷ (4, 17) ∷ (4, 28) ∷ (4, 24) ∷ (4, 23) ∷ (4, 28) ∷ []
unfolding same_bytes run_len number_from walk word_kind comment name_or_word number begins sign lexeme next_step next_token read_from tokens_of judged and_then look next
    want want_one designator_of operand condition terms arguments target_of assign_or after_name statement_of items_of choices_of body_of if_of construct_of statement
    procedure_of program
choices = refl

-- document 02, 2/13: a refusal reports its line and column, "and one at the end where the next byte would stand"; success reports 0
spots :
    map (λ s. judged (bytes s))
    ("" ∷ "BEGIN END" ∷ "BEGIN END\n" ∷ "BEGIN END\n  " ∷ "BEGIN COMMENT X;\n\n" ∷ "BEGIN\n  NULL;\n  R1 := ;\nEND @" ∷ "BEGIN\nNULL;\n 2147483648;\nEND @" ∷
    "BEGIN\n?" ∷ "BEGIN\n\nEND\n@" ∷ [])
    ≡ says 4 (spot 0 1 1) ∷ says 4 (spot 9 1 10) ∷ says 4 (spot 10 2 1) ∷ says 4 (spot 12 2 3) ∷ says 4 (spot 18 3 1) ∷ says 4 (spot 22 3 9)
    ∷ says 3 (spot 13 3 2) ∷ says 2 (spot 6 2 1) ∷ says 0 (unplaced 0) ∷ []
unfolding same_bytes run_len number_from walk fold word_kind comment name_or_word number begins sign lexeme next_step next_token read_from tokens_of judged and_then look next
    want want_one designator_of operand condition terms sign_of assigned_to assignment_of numbers cell_item register_item list_of type_of cells_of after_type declaration
    arguments target_of assign_or after_name statement_of items_of body_of if_of construct_of statement procedure_of program
spots = refl

-- number, token and events: 0, the token after the program and the tape of its tree; or the refusal
record Told : Type 0 where
  number : ℕ
  token : ℕ
  events : List ℕ

abbrev told_of : Result Statement → Told
told_of (ok x j) = record { number = 0; token = j; events = tape_statement x [] }
told_of (bad n t) = record { number = n; token = t; events = [] }

abbrev tape : String → List ℕ
tape s = (told_of (program (map kind_of (tokens_of (bytes s)).tokens) 0)).events

abbrev events : List (ℕ × ℕ) → List ℕ
events es = map (λ (e : ℕ × ℕ). event e.0 e.1) es

tapes :
    map tape
    ("BEGIN INTEGER A(5); R1 := A + 3; A := R1; END @" ∷ "BEGIN FOR R1 := NEG ABS A(4)(R2) STEP 1 UNTIL 9 DO IF < THEN L ELSE WHILE R1 = 5 DO GOTO X; END @" ∷
    "BEGIN ARRAY (8) SHORT INTEGER S, T(1)(2); INTEGER REGISTER N(3); SEGMENT BASE RC; PROCEDURE P(R5); R0 := S(R1); L: P; END @" ∷
    "BEGIN ARRAY (4) CHARACTER C(7); BYTE B; IC(R1)(C(2)(R2)); SET(B); B(4)(R1) := R2; END @" ∷
    "BEGIN CASE R1 OF BEGIN NULL; P; CASE R2 OF BEGIN END; R3 := 4; END; END @" ∷ [])
    ≡ map events
    (((E.BLOCK, 0) ∷ (E.SINGLE-FULL, 0) ∷ (E.ITEM, 2) ∷ (E.VALUE, 4) ∷ (E.TARGET, 7) ∷ (E.FIRST, 9) ∷ (E.TERM + E.NUMBER, 11) ∷ (E.TARGET, 13) ∷ (E.FIRST, 15) ∷ (E.END-BLOCK, 0) ∷ [])
    ∷ ((E.BLOCK, 0) ∷ (E.CONTROL, 2) ∷ (E.NEG-ABS, 4) ∷ (E.FIRST + E.SUBSCRIPTED-INDEXED, 6) ∷ (E.LIMIT + E.NUMBER, 16) ∷ (E.BARE, 19) ∷ (E.CALL, 21) ∷ (E.ELSE, 18) ∷ (
      E.WHILE,
      23,
    ) ∷ (E.COMPARED + E.NUMBER, 26) ∷ (E.GOTO, 29) ∷ (E.END-WHILE, 23)
    ∷ (E.END-ELSE, 18) ∷ (E.END-FOR, 14) ∷ (E.END-BLOCK, 0) ∷ [])
    ∷ ((E.BLOCK, 0) ∷ (E.ARRAY-SHORT, 3) ∷ (E.ITEM, 7) ∷ (E.ITEM, 9) ∷ (E.VALUE, 11) ∷ (E.VALUE, 14) ∷ (E.REGISTER, 19) ∷ (E.BASE, 26) ∷ (
      E.PROCEDURE,
      29,
    ) ∷ (E.TARGET, 34) ∷ (E.FIRST + E.INDEXED, 36) ∷ (E.END-PROCEDURE, 29)
    ∷ (E.LABEL, 41) ∷ (E.CALL, 43) ∷ (E.END-BLOCK, 0) ∷ [])
    ∷ ((E.BLOCK, 0) ∷ (E.ARRAY-CHARACTER, 3) ∷ (E.ITEM, 6) ∷ (E.VALUE, 8) ∷ (E.SINGLE-BYTE, 0) ∷ (E.ITEM, 12) ∷ (E.APPLIED, 14) ∷ (E.ARGUED, 16)
    ∷ (E.ARGUED + E.SUBSCRIPTED-INDEXED, 19) ∷ (E.COUNTED, 14) ∷ (E.APPLIED, 28) ∷ (E.ARGUED, 30) ∷ (E.COUNTED, 28) ∷ (E.TARGET + E.SUBSCRIPTED-INDEXED, 33) ∷ (E.FIRST, 41)
    ∷ (E.END-BLOCK, 0) ∷ [])
    ∷ ((E.BLOCK, 0) ∷ (E.LISTED, 4) ∷ (E.CHOSEN, 2) ∷ (E.END-CHOICE, 2) ∷ (E.CALL, 7) ∷ (E.END-CHOICE, 2) ∷ (E.LISTED, 0) ∷ (E.CHOSEN, 10) ∷ (E.END-CASE, 10)
    ∷ (E.END-CHOICE, 2) ∷ (E.TARGET, 15) ∷ (E.FIRST + E.NUMBER, 17) ∷ (E.END-CHOICE, 2) ∷ (E.END-CASE, 2) ∷ (E.END-BLOCK, 0) ∷ [])
    ∷ [])
unfolding same_bytes run_len number_from walk word_kind comment name_or_word number begins sign lexeme next_step next_token read_from tokens_of and_then look next want
    want_one designator_of operand condition terms sign_of assigned_to assignment_of numbers cell_item register_item list_of type_of cells_of after_type declaration
    arguments target_of assign_or after_name statement_of items_of choices_of body_of if_of construct_of statement procedure_of program event tape_designator tape_operand tape_condition tape_sign tape_each tape_assignment
    tape_item tape_declaration tape_statement tape_body tape_items tape_choices
tapes = refl

-- n blocks, one inside the other
abbrev closed : ℕ → List ℕ → List ℕ
closed zero k = k
closed (suc n) k = K.SEMICOLON ∷ K.END ∷ closed n k

abbrev nested : ℕ → List ℕ
nested n = replicate (suc n) K.BEGIN ++ (K.END ∷ closed n (K.AT ∷ []))

-- "inside 64 such constructs": 64 are read, and the 65th is refused at its BEGIN
depths : (told_of (program (nested 63) 0)).number ∷ (told_of (program (nested 64) 0)).number ∷ (told_of (program (nested 64) 0)).token ∷ [] ≡ 0 ∷ 5 ∷ 64 ∷ []
unfolding and_then look next want want_one statement_of items_of body_of construct_of statement procedure_of program
depths = refl
