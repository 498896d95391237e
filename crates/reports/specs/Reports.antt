-- The report of a run is a function of its outcome, a line for each thing that "the result gives":
--     stop 1: the program's end
--     count 245
--     counter 4212
--     code 2: positive, greater: >, >= and ^= hold
--     R0 3 #00000003
-- and so on to RF; asked-for cells have lines like the registers.
use Rattle.std.specs.Prelude.{ℕ, suc, List, [], ◌∷◌, ◌++◌}
use Rattle.base.specs.Text.{bytes}
use Rattle.figures.specs.Digits.{decimal, signed, hexadecimal}
use Rattle.figures.specs.Parts.{entry_of}

-- why a run stopped, by the number of the stop
abbrev pub stops : List (List ℕ)
stops =
    bytes "the budget is used up"
    ∷ bytes "the program's end"
    ∷ bytes "a forbidden operand"
    ∷ bytes "a misaligned operand"
    ∷ bytes "no instruction to carry out"
    ∷ []

-- what a condition code says, and which conditions hold in it
abbrev pub codes : List (List ℕ)
codes =
    bytes "zero, equal: =, <= and >= hold"
    ∷ bytes "negative, less: <, <= and ^= hold"
    ∷ bytes "positive, greater: >, >= and ^= hold"
    ∷ bytes "overflow: OVERFLOW holds, and no relation"
    ∷ []

abbrev pub register_names : List (List ℕ)
register_names =
    bytes "R0" ∷ bytes "R1" ∷ bytes "R2" ∷ bytes "R3" ∷ bytes "R4" ∷ bytes "R5" ∷ bytes "R6" ∷ bytes "R7"
    ∷ bytes "R8" ∷ bytes "R9" ∷ bytes "RA" ∷ bytes "RB" ∷ bytes "RC" ∷ bytes "RD" ∷ bytes "RE" ∷ bytes "RF"
    ∷ []

-- a number and what it means
abbrev pub told_text : List ℕ → ℕ → List (List ℕ) → List ℕ
told_text name n meanings = name ++ decimal n ++ bytes ": " ++ entry_of meanings n ++ bytes "\n"

abbrev pub figure_text : List ℕ → ℕ → List ℕ
figure_text name n = name ++ decimal n ++ bytes "\n"

-- 32 bits as a signed number and as they are
abbrev pub value_text : List ℕ → ℕ → List ℕ
value_text name v = name ++ bytes " " ++ signed v ++ bytes " #" ++ hexadecimal v ++ bytes "\n"

abbrev pub register_text : ℕ → ℕ → List ℕ
register_text i v = value_text (entry_of register_names i) v

-- the registers from number i on
unfoldable pub registers_text : ℕ → List ℕ → List ℕ
registers_text i [] = []
registers_text i (v ∷ vs) = register_text i v ++ registers_text (suc i) vs

abbrev pub report_text : ℕ → ℕ → ℕ → ℕ → List ℕ → List ℕ
report_text stop counter code count regs =
    told_text (bytes "stop ") stop stops
    ++ figure_text (bytes "count ") count
    ++ figure_text (bytes "counter ") counter
    ++ told_text (bytes "code ") code codes
    ++ registers_text 0 regs
