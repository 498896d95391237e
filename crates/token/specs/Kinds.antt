-- The kinds of tokens, as numbers: 0 the end of the text, 1 a name, 2 a number; from 3 the reserved words, from 64 the signs, both in the paper's order. No two share one
-- (proofs/Cases, `kinds-differ`). Between and behind them is room: a further word takes a free number below 64, as the scanner's table has them, anything else any that is free.
use Rattle.std.specs.Prelude.{ℕ, List, [], ◌∷◌}
use Prim.Native.String.{String}

abbrev pub END-OF-TEXT : ℕ
END-OF-TEXT = 0

abbrev pub NAME : ℕ
NAME = 1

abbrev pub NUMBER : ℕ
NUMBER = 2

abbrev pub BEGIN : ℕ
BEGIN = 3

abbrev pub END : ℕ
END = 4

abbrev pub IF : ℕ
IF = 5

abbrev pub THEN : ℕ
THEN = 6

abbrev pub ELSE : ℕ
ELSE = 7

abbrev pub WHILE : ℕ
WHILE = 8

abbrev pub DO : ℕ
DO = 9

abbrev pub FOR : ℕ
FOR = 10

abbrev pub STEP : ℕ
STEP = 11

abbrev pub UNTIL : ℕ
UNTIL = 12

abbrev pub GOTO : ℕ
GOTO = 13

abbrev pub NULL : ℕ
NULL = 14

abbrev pub COMMENT : ℕ
COMMENT = 15

abbrev pub INTEGER : ℕ
INTEGER = 16

abbrev pub LOGICAL : ℕ
LOGICAL = 17

abbrev pub SHORT : ℕ
SHORT = 18

abbrev pub ARRAY : ℕ
ARRAY = 19

abbrev pub REGISTER : ℕ
REGISTER = 20

abbrev pub SEGMENT : ℕ
SEGMENT = 21

abbrev pub BASE : ℕ
BASE = 22

abbrev pub PROCEDURE : ℕ
PROCEDURE = 23

abbrev pub AND : ℕ
AND = 24

abbrev pub OR : ℕ
OR = 25

abbrev pub XOR : ℕ
XOR = 26

abbrev pub ABS : ℕ
ABS = 27

abbrev pub NEG : ℕ
NEG = 28

abbrev pub SHLL : ℕ
SHLL = 29

abbrev pub SHRL : ℕ
SHRL = 30

abbrev pub SHLA : ℕ
SHLA = 31

abbrev pub SHRA : ℕ
SHRA = 32

abbrev pub OVERFLOW : ℕ
OVERFLOW = 33

abbrev pub BYTE : ℕ
BYTE = 34

abbrev pub CHARACTER : ℕ
CHARACTER = 35

abbrev pub CASE : ℕ
CASE = 36

abbrev pub OF : ℕ
OF = 37

abbrev pub BECOMES : ℕ
BECOMES = 64

abbrev pub AT-MOST : ℕ
AT-MOST = 65

abbrev pub AT-LEAST : ℕ
AT-LEAST = 66

abbrev pub UNEQUAL : ℕ
UNEQUAL = 67

abbrev pub ADD-LOGICAL : ℕ
ADD-LOGICAL = 68

abbrev pub SUBTRACT-LOGICAL : ℕ
SUBTRACT-LOGICAL = 69

abbrev pub PLUS : ℕ
PLUS = 70

abbrev pub MINUS : ℕ
MINUS = 71

abbrev pub TIMES : ℕ
TIMES = 72

abbrev pub EQUAL : ℕ
EQUAL = 73

abbrev pub LESS : ℕ
LESS = 74

abbrev pub MORE : ℕ
MORE = 75

abbrev pub COMMA : ℕ
COMMA = 76

abbrev pub SEMICOLON : ℕ
SEMICOLON = 77

abbrev pub COLON : ℕ
COLON = 78

abbrev pub OPEN : ℕ
OPEN = 79

abbrev pub CLOSE : ℕ
CLOSE = 80

abbrev pub AT : ℕ
AT = 81

-- "Reserved, compared whole: BEGIN END IF THEN ELSE WHILE DO FOR STEP UNTIL GOTO NULL COMMENT INTEGER LOGICAL SHORT ARRAY REGISTER SEGMENT BASE
-- PROCEDURE AND OR XOR ABS NEG SHLL SHRL SHLA SHRA OVERFLOW." Document 02, 1/13: "Add BYTE and CHARACTER cells"; 3/13: "Add CASE register OF BEGIN".
abbrev pub words : List (ℕ × String)
words =
    (BEGIN, "BEGIN") ∷ (END, "END") ∷ (IF, "IF") ∷ (THEN, "THEN") ∷ (ELSE, "ELSE") ∷ (WHILE, "WHILE") ∷ (DO, "DO") ∷ (FOR, "FOR") ∷
    (STEP, "STEP") ∷ (UNTIL, "UNTIL") ∷ (GOTO, "GOTO") ∷ (NULL, "NULL") ∷ (COMMENT, "COMMENT") ∷ (INTEGER, "INTEGER") ∷
    (LOGICAL, "LOGICAL") ∷ (SHORT, "SHORT") ∷ (ARRAY, "ARRAY") ∷ (REGISTER, "REGISTER") ∷ (SEGMENT, "SEGMENT") ∷ (BASE, "BASE") ∷
    (PROCEDURE, "PROCEDURE") ∷ (AND, "AND") ∷ (OR, "OR") ∷ (XOR, "XOR") ∷ (ABS, "ABS") ∷ (NEG, "NEG") ∷ (SHLL, "SHLL") ∷ (SHRL, "SHRL") ∷
    (SHLA, "SHLA") ∷ (SHRA, "SHRA") ∷ (OVERFLOW, "OVERFLOW") ∷ (BYTE, "BYTE") ∷ (CHARACTER, "CHARACTER") ∷
    (CASE, "CASE") ∷ (OF, "OF") ∷ []

-- "Signs, longest first: `:=` `<=` `>=` `^=` `++` `--` `+ - * = < > , ; : ( ) @`."
abbrev pub signs : List (ℕ × String)
signs =
    (BECOMES, ":=") ∷ (AT-MOST, "<=") ∷ (AT-LEAST, ">=") ∷ (UNEQUAL, "^=") ∷ (ADD-LOGICAL, "++") ∷ (SUBTRACT-LOGICAL, "--") ∷ (PLUS, "+") ∷
    (MINUS, "-") ∷ (TIMES, "*") ∷ (EQUAL, "=") ∷ (LESS, "<") ∷ (MORE, ">") ∷ (COMMA, ",") ∷ (SEMICOLON, ";") ∷ (COLON, ":") ∷ (OPEN, "(") ∷
    (CLOSE, ")") ∷ (AT, "@") ∷ []
