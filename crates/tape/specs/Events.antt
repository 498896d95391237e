-- The events of a tape, as numbers below EVENTS. To those of designators (TARGET, CONTROL) and operands (FIRST, TERM, COMPARED, LIMIT, ARGUED) their shape is added, to those of
-- cells (SINGLE-FULL, ARRAY-FULL) their width. In place of a token LISTED has how many statements its CASE chooses from.
use Rattle.std.specs.Prelude.{ℕ}

abbrev pub EVENTS : ℕ
EVENTS = 128

-- the number of a token is below this, since an event on the tape has 32 bits
abbrev pub TOKEN-LIMIT : ℕ
TOKEN-LIMIT = 33554432

abbrev pub BLOCK : ℕ
BLOCK = 0

abbrev pub END-BLOCK : ℕ
END-BLOCK = 1

abbrev pub REGISTER : ℕ
REGISTER = 2

abbrev pub ITEM : ℕ
ITEM = 7

abbrev pub VALUE : ℕ
VALUE = 8

abbrev pub BASE : ℕ
BASE = 9

abbrev pub PROCEDURE : ℕ
PROCEDURE = 10

abbrev pub END-PROCEDURE : ℕ
END-PROCEDURE = 11

abbrev pub LABEL : ℕ
LABEL = 12

abbrev pub TARGET : ℕ
TARGET = 13

abbrev pub CONTROL : ℕ
CONTROL = 17

abbrev pub ABS : ℕ
ABS = 21

abbrev pub NEG : ℕ
NEG = 22

abbrev pub NEG-ABS : ℕ
NEG-ABS = 23

abbrev pub FIRST : ℕ
FIRST = 24

abbrev pub TERM : ℕ
TERM = 29

abbrev pub COMPARED : ℕ
COMPARED = 34

abbrev pub LIMIT : ℕ
LIMIT = 39

abbrev pub BARE : ℕ
BARE = 44

abbrev pub WHILE : ℕ
WHILE = 45

abbrev pub END-FOR : ℕ
END-FOR = 46

abbrev pub ELSE : ℕ
ELSE = 47

abbrev pub END-ELSE : ℕ
END-ELSE = 48

abbrev pub END-IF : ℕ
END-IF = 49

abbrev pub END-WHILE : ℕ
END-WHILE = 50

abbrev pub CALL : ℕ
CALL = 51

abbrev pub GOTO : ℕ
GOTO = 52

abbrev pub APPLIED : ℕ
APPLIED = 53

abbrev pub COUNTED : ℕ
COUNTED = 54

abbrev pub ARGUED : ℕ
ARGUED = 55

abbrev pub SINGLE-FULL : ℕ
SINGLE-FULL = 60

abbrev pub SINGLE-SHORT : ℕ
SINGLE-SHORT = 61

abbrev pub SINGLE-BYTE : ℕ
SINGLE-BYTE = 62

abbrev pub SINGLE-CHARACTER : ℕ
SINGLE-CHARACTER = 63

abbrev pub ARRAY-FULL : ℕ
ARRAY-FULL = 64

abbrev pub ARRAY-SHORT : ℕ
ARRAY-SHORT = 65

abbrev pub ARRAY-BYTE : ℕ
ARRAY-BYTE = 66

abbrev pub ARRAY-CHARACTER : ℕ
ARRAY-CHARACTER = 67

abbrev pub LISTED : ℕ
LISTED = 68

abbrev pub CHOSEN : ℕ
CHOSEN = 69

abbrev pub END-CHOICE : ℕ
END-CHOICE = 70

abbrev pub END-CASE : ℕ
END-CASE = 71

-- ── the width of cells ──

abbrev pub FULL : ℕ
FULL = 0

abbrev pub SHORT : ℕ
SHORT = 1

abbrev pub BYTE : ℕ
BYTE = 2

abbrev pub CHARACTER : ℕ
CHARACTER = 3

-- ── the shape of a designator: name, name(number), name(name), name(number)(name); and of an operand that is a number ──

abbrev pub ALONE : ℕ
ALONE = 0

abbrev pub SUBSCRIPTED : ℕ
SUBSCRIPTED = 1

abbrev pub INDEXED : ℕ
INDEXED = 2

abbrev pub SUBSCRIPTED-INDEXED : ℕ
SUBSCRIPTED-INDEXED = 3

abbrev pub NUMBER : ℕ
NUMBER = 4
