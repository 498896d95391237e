-- Document 01, "Cases and slips": cases 1 to 9, the limits, the slips and more, as tables of texts with their answers, by computing the
-- definition.
use Rattle.std.specs.Prelude.{◌≡◌, List, [], ◌∷◌, ◌++◌, map, ℕ, zero, suc, ◌+◌, ◌*◌, eqb, replicate}
use Prim.Native.String.{String}
use Rattle.base.specs.Choose.{whether◌then◌else◌}
use Rattle.base.specs.Text.{bytes}
use Rattle.spots.specs.declared.Spot.{Spot}
use Rattle.spots.specs.Spots.{spot}
use Rattle.token.specs.Text.{digit_of}
use Rattle.objtext.specs.Object.{Segment, program, cells, object_text}
use Rattle.translation.specs.Translate.{Answer, accepted, refused, number_of, spot_of, translate}

-- ── how a table is written ──

-- bytes written as pairs of hexadecimal digits, with blanks between
abbrev pub digits : List ℕ → List ℕ
digits [] = []
digits (c ∷ cs) = whether eqb c 32 then digits cs else (digit_of c ∷ digits cs)

abbrev pub pairs : List ℕ → List ℕ
pairs [] = []
pairs (a ∷ []) = []
pairs (a ∷ b ∷ rest) = (a * 16 + b) ∷ pairs rest

abbrev pub hex : String → List ℕ
hex h = pairs (digits (bytes h))

abbrev pub times : ℕ → List ℕ → List ℕ
times zero t = []
times (suc n) t = t ++ times n t

-- a text, the buffer's room, and the answer
pub record Case : Type 0 where
  pub text : List ℕ
  pub room : ℕ
  pub answer : Answer

abbrev pub refuses : List ℕ → ℕ → ℕ → Case
refuses t number place = record { text = t; room = 32768; answer = refused number place }

-- a text that is accepted, with all its segments
abbrev pub makes : List ℕ → List Segment → Case
makes t gs = record { text = t; room = 32768; answer = accepted (object_text gs) }

-- segment 1 without cells, its literals after the table
abbrev pub literals : String → Segment
literals h = cells (replicate 16 0 ++ hex h) 16 16

abbrev pub Hold : List Case → Type 0
Hold cs = map (λ (c : Case). translate c.text c.room) cs ≡ map (λ (c : Case). c.answer) cs

-- ── cases 1 to 9 ──

abbrev pub object1 : List ℕ
object1 = bytes "0100000E\n000000000E5810E0105A10E0145010E0100A00\n0201001800100014\n000100001000000000000000000000000000000000\n00010010080000000500000003\nFF\n"

abbrev pub cases : List Case
cases =
    record { text = bytes "BEGIN INTEGER A(5); R1 := A + 3; A := R1; END @"; room = 138; answer = accepted object1 }
    ∷ makes (bytes "BEGIN END @") (program (hex "0A00") ∷ literals "" ∷ [])
    ∷ refuses (bytes "BEGIN RE := R1; END @") 10 6
    ∷ makes (bytes "BEGIN IF R1 < R2 THEN R3 := R1; END @") (program (hex "1912 47B0F008 1831 0A00") ∷ literals "" ∷ [])
    ∷ makes (bytes "BEGIN WHILE OVERFLOW DO NULL; END @") (program (hex "47E0F008 47F0F000 0A00") ∷ literals "" ∷ [])
    ∷ makes (bytes "BEGIN PROCEDURE P(R5); R0 := R0 + R1; P; END @") (program (hex "47F0F00A 1800 1A01 07F5 4550F004 0A00") ∷ literals "" ∷ [])
    ∷ makes (bytes "BEGIN SEGMENT BASE RC; SHORT INTEGER S(_1); R2 := S; END @")
    (program (hex "58C0E008 4820C000 0A00") ∷ literals "" ∷ cells (hex "FFFF") 0 2 ∷ [])
    ∷ makes (bytes "BEGIN FOR R1 := 0 STEP 1 UNTIL 9 DO NULL; END @")
    (program (hex "5810E010 5910E014 4720F014 5A10E018 47F0F004 0A00") ∷ literals "00000000 00000009 00000001" ∷ [])
    ∷ refuses [] 4 0
    ∷ []

-- ── "Limits: 2,040 short cells end segment 1 at 4,096, 2,041 refuse 12; shift 63 and 64; nesting 64 and 65." And the room. ──

abbrev pub nested : ℕ → List ℕ
nested n = times n (bytes "BEGIN ") ++ (bytes "NULL" ++ (times n (bytes "; END") ++ bytes " @"))

abbrev pub limits : List Case
limits =
    makes (bytes "BEGIN ARRAY (2040) SHORT INTEGER A; END @") (program (hex "0A00") ∷ cells (replicate 4096 0) 16 4096 ∷ [])
    ∷ refuses (bytes "BEGIN ARRAY (2041) SHORT INTEGER A; END @") 12 33
    ∷ makes (bytes "BEGIN R1 := R2 SHLL 63; END @") (program (hex "1812 8910003F 0A00") ∷ literals "" ∷ [])
    ∷ refuses (bytes "BEGIN R1 := R2 SHLL 64; END @") 11 20
    ∷ makes (nested 64) (program (hex "0A00") ∷ literals "" ∷ [])
    ∷ refuses (nested 65) 5 384
    ∷ record { text = bytes "BEGIN INTEGER A(5); R1 := A + 3; A := R1; END @"; room = 137; answer = refused 16 138 }
    ∷ []

-- ── "Slips to rule out: negating `<` as mask 10, so state 3 is misread; binding GOTO to an outer label that an inner, later one hides; letting a sibling
-- procedure load the caller's base." ──

abbrev pub slips : List Case
slips =
    makes (bytes "BEGIN WHILE < DO NULL; END @") (program (hex "47B0F008 47F0F000 0A00") ∷ literals "" ∷ [])
    ∷ makes (bytes "BEGIN GOTO L; BEGIN GOTO L; R1 := R2; L: R3 := R4; END; L: NULL; END @")
    (program (hex "47F0F00C 47F0F00A 1812 1834 0A00") ∷ literals "" ∷ [])
    ∷ refuses (bytes "BEGIN PROCEDURE P(R5); BEGIN SEGMENT BASE RC; R1 := R2; END; PROCEDURE Q(R6); BEGIN SEGMENT BASE RC; P; END; END @") 10 101
    ∷ []

-- ── more that a hasty translator gets wrong: a literal needed twice, the order of literals where the step of a FOR comes after its body, what is written by
-- the callee of a callee, a base in an inner block, a missing label before another error ──

abbrev pub traps : List Case
traps =
    makes (bytes "BEGIN R1 := 5; R2 := 5; END @") (program (hex "5810E010 5820E010 0A00") ∷ literals "00000005" ∷ [])
    ∷ makes (bytes "BEGIN FOR R1 := 3 STEP 1 UNTIL 9 DO R2 := 8; END @")
    (program (hex "5810E010 5910E014 4720F018 5820E018 5A10E01C 47F0F004 0A00") ∷ literals "00000003 00000009 00000008 00000001" ∷ [])
    ∷ refuses (bytes "BEGIN PROCEDURE A(R1); R7 := R2; PROCEDURE B(R3); A; PROCEDURE C(R7); B; END @") 10 70
    ∷ refuses (bytes "BEGIN SEGMENT BASE RC; BEGIN RC := R1; END; END @") 10 29
    ∷ refuses (bytes "BEGIN GOTO L; RE := 1; END @") 6 11
    ∷ []

-- ── Document 02, 1/13, byte functions: the code of all nine; a row of arguments that is no target; an index where none may be; a wrong count, before what is wrong in the
-- arguments; a byte cell at any offset; a register that a function writes, through a call ──

abbrev pub functions : List Case
functions =
    makes
    (bytes "BEGIN SEGMENT BASE RC; ARRAY (4) BYTE A; IC(R1)(A(2)(R3)); STC(R1)(A(R2)); LA(R2)(A); LTR(R1)(R2); MVI(5)(A(1)); CLI(#C1)(A); SET(A); RESET(A); TEST(A(3)); END @")
    (program (hex "58C0E008 4313C002 4212C000 4120C000 1212 9205C001 95C1C000 92FFC000 9200C000 95FFC003 0A00") ∷ literals "" ∷ cells (hex "00000000") 0 4 ∷ [])
    ∷ refuses (bytes "BEGIN LTR(R1)(R2) := 5; END @") 4 18
    ∷ refuses (bytes "BEGIN A(R1)(4) := R2; END @") 4 15
    ∷ refuses (bytes "BEGIN A(4)(4) := R2; END @") 4 14
    ∷ refuses (bytes "BEGIN A(B(4)) := R2; END @") 4 14
    ∷ refuses (bytes "BEGIN ARRAY (8) BYTE A; SET(A(R1)); END @") 8 30
    ∷ refuses (bytes "BEGIN IC(5); END @") 8 6
    ∷ makes (bytes "BEGIN BYTE B(1); INTEGER I(2); SHORT INTEGER S(3); BYTE C(4); END @")
    (program (hex "0A00") ∷ cells (hex "00000000 00000000 00000000 00000000 01000000 00000002 000304") 16 27 ∷ [])
    ∷ refuses (bytes "BEGIN BYTE B; B := R1; END @") 8 14
    ∷ refuses (bytes "BEGIN BYTE B; PROCEDURE P(R5); IC(R7)(B); PROCEDURE S(R7); P; END @") 10 59
    ∷ []

-- ── Document 02, 3/13, CASE: its code; an empty list; the literal of the count before those of the statements; inside a CASE of the same register; as a true part; no label in the list; register
-- 0; a protected register, and one that is written through a call; one nesting level, at CASE ──

abbrev pub deep_case : ℕ → List ℕ
deep_case n = times n (bytes "BEGIN ") ++ (bytes "CASE R1 OF BEGIN END; " ++ (times n (bytes "END; ") ++ bytes "@"))

abbrev pub choices : List Case
choices =
    makes (bytes "BEGIN CASE R3 OF BEGIN R1 := R2; NULL; END; END @")
    (program (hex "5930E010 4720F028 1233 47C0F028 89300002 47F3F012 47F0F01E 47F0F024 1812 47F0F028 47F0F028 0A00") ∷ literals "00000002" ∷ [])
    ∷ makes (bytes "BEGIN CASE R1 OF BEGIN END; END @") (program (hex "5910E010 4720F016 1211 47C0F016 89100002 47F1F012 0A00") ∷ literals "00000000" ∷ [])
    ∷ makes (bytes "BEGIN CASE R1 OF BEGIN R2 := 7; R3 := 2; END; END @")
    (program (hex "5910E010 4720F02E 1211 47C0F02E 89100002 47F1F012 47F0F01E 47F0F026 5820E014 47F0F02E 5830E010 47F0F02E 0A00") ∷ literals "00000002 00000007" ∷ [])
    ∷ makes (bytes "BEGIN CASE R1 OF BEGIN CASE R1 OF BEGIN NULL; NULL; END; END; END @")
    (program (hex "5910E010 4720F044 1211 47C0F044 89100002 47F1F012 47F0F01A 5910E014 4720F040 1211 47C0F040 89100002 47F1F02C 47F0F038 47F0F03C 47F0F040 47F0F040 47F0F044 0A00")
    ∷ literals "00000001 00000002" ∷ [])
    ∷ makes (bytes "BEGIN IF = THEN CASE R1 OF BEGIN NULL; END ELSE R2 := R3; END @")
    (program (hex "4770F026 5910E010 4720F022 1211 47C0F022 89100002 47F1F016 47F0F01E 47F0F022 47F0F028 1823 0A00") ∷ literals "00000001" ∷ [])
    ∷ refuses (bytes "BEGIN CASE R1 OF BEGIN L: NULL; END; END @") 4 24
    ∷ refuses (bytes "BEGIN INTEGER REGISTER Z(0); CASE Z OF BEGIN END; END @") 9 34
    ∷ refuses (bytes "BEGIN CASE RE OF BEGIN END; END @") 10 11
    ∷ refuses (bytes "BEGIN PROCEDURE P(R5); CASE R7 OF BEGIN END; PROCEDURE S(R7); P; END @") 10 62
    ∷ refuses (deep_case 64) 5 384
    ∷ []

-- ── Document 02, 2/13, lines and columns: behind newlines between tokens and in a comment; byte 13 ends no line; at the end of the text, behind its last newline;
-- at place 0; of the first of several; 0 and 0 of an acceptance and of 1, 15 and 16 ──

-- a text, the buffer's room, the number that is answered, and where
pub record Lined : Type 0 where
  pub text : List ℕ
  pub room : ℕ
  pub number : ℕ
  pub spot : Spot

abbrev pub stands : String → ℕ → Spot → Lined
stands t number spot = record { text = bytes t; room = 32768; number = number; spot = spot }

abbrev pub numbered : List Lined → List (ℕ × Spot)
numbered cs = map (λ (c : Lined). (c.number, c.spot)) cs

-- the answer, and where it stands
abbrev pub told : (text : List ℕ) (room : ℕ) → Answer × Spot
told text room = (translate text room, spot_of text (translate text room))

abbrev pub answered : List Lined → List (ℕ × Spot)
answered cs = map (λ (c : Lined). (number_of (told c.text c.room).0, (told c.text c.room).1)) cs

abbrev pub lines : List Lined
lines =
    stands "BEGIN\nRE := R1; END @" 10 (spot 6 2 1)
    ∷ stands "BEGIN\n  R1 := R2;\n  R1 := X; END @" 6 (spot 26 3 9)
    ∷ stands "BEGIN COMMENT A\nB\n Ã© ; X; END @" 6 (spot 24 3 7)
    ∷ stands "BEGIN\r\nEND @" 2 (spot 5 1 6)
    ∷ stands "" 4 (spot 0 1 1)
    ∷ stands "BEGIN END" 4 (spot 9 1 10)
    ∷ stands "BEGIN END\n" 4 (spot 10 2 1)
    ∷ stands "BEGIN END\n  " 4 (spot 12 2 3)
    ∷ stands "BEGIN COMMENT X;\n\n" 4 (spot 18 3 1)
    ∷ stands "?" 2 (spot 0 1 1)
    ∷ stands "\n\nX;\nBEGIN END 99999999999 @" 3 (spot 15 4 11)
    ∷ stands "\nBEGIN END\n@" 0 (spot 0 0 0)
    ∷ record { text = replicate 32769 32; room = 32768; number = 1; spot = spot 32768 0 0 }
    ∷ stands "\nBEGIN ARRAY (1020) INTEGER A; R1 := 5; END @" 15 (spot 0 0 0)
    ∷ record { text = bytes "\nBEGIN END @"; room = 86; number = 16; spot = spot 87 0 0 }
    ∷ []
