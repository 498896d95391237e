-- A message is a function of a file's name, a refusal's number and where it stands, as the translator answers them, and the text:
--     survey.pl360:2:3: refusal 10: register 14 is protected here
--       RE := R1;
--       ^^ the data base: cells without SEGMENT BASE belong to it
use Rattle.std.specs.Prelude.{ℕ, Bool, List, ◌++◌, eqb, ltb, leb, length, get_or, replicate}
use Rattle.std.specs.Option.{unwrap_or}
use Rattle.base.specs.Choose.{choose}
use Rattle.base.specs.Text.{bytes, within}
use Rattle.spots.specs.declared.Spot.{Spot}
use Rattle.figures.specs.Digits.{decimal}
use Rattle.figures.specs.Parts.{filled, entry_of}
use Rattle.words.specs.Wishes.{register_in}
use Rattle.excerpts.specs.Lines.{shown_before, shown_line, word_at, wide_at, place_text, line_text}
use Rattle.messages.specs.Phrases.{headlines, notes, faults}

-- which headline a byte that is in no token gets
abbrev pub byte_headline : ℕ → ℕ
byte_headline b =
    choose (eqb b 13) 20
    (choose (eqb b 9) 21 (choose (eqb b 239) 22 (choose (within 97 122 b) 23 (choose (eqb b 67) 24 2))))

-- which headline a protected register gets: by its name, or by the `*` of a product
abbrev pub register_headline : ℕ → ℕ → ℕ
register_headline register b = choose (ltb register 16) 26 (choose (eqb b 42) 27 10)

-- the headline's number, by the refusal's, the byte at its place, the register that the word there names, and whether the text ends there
abbrev pub headline : ℕ → ℕ → ℕ → Bool → ℕ
headline number b register ends =
    choose (eqb number 2) (byte_headline b)
    (choose (eqb number 10) (register_headline register b) (choose (eqb number 4) (choose ends 25 4) number))

-- why registers 14 and 15 are protected, and others
abbrev pub register_note : ℕ → ℕ → ℕ
register_note register b =
    choose (eqb register 14) 26 (choose (eqb register 15) 27 (choose (ltb register 16) 30 (choose (eqb b 42) 29 10)))

abbrev pub byte_note : ℕ → ℕ
byte_note b = choose (eqb (byte_headline b) 2) 0 (byte_headline b)

abbrev pub note_for : ℕ → ℕ → ℕ → Bool → ℕ
note_for number b register ends =
    choose (eqb number 2) (byte_note b)
    (choose (eqb number 10) (register_note register b) (choose (eqb number 4) (choose ends 25 4) (choose (eqb number 3) 28 number)))

-- the number that a headline names
abbrev pub figure_for : ℕ → ℕ → ℕ → ℕ → ℕ
figure_for number b register place = choose (eqb number 2) b (choose (eqb number 10) register place)

abbrev pub head_text : ℕ → ℕ → ℕ → List ℕ
head_text number k n = bytes ": refusal " ++ decimal number ++ bytes ": " ++ filled n (entry_of headlines k) ++ bytes "\n"

abbrev pub caret_text : ℕ → ℕ → ℕ → List ℕ
caret_text before wide k = replicate before 32 ++ replicate wide 94 ++ entry_of notes k ++ bytes "\n"

-- what is said of a place of a text
-- 16 where the word there names no register
abbrev pub register_at : List ℕ → ℕ → ℕ
register_at text place = unwrap_or (register_in (word_at text place)) 16

abbrev pub headline_at : ℕ → List ℕ → ℕ → ℕ
headline_at number text place = headline number (get_or text place 0) (register_at text place) (leb (length text) place)

abbrev pub figure_at : ℕ → List ℕ → ℕ → ℕ
figure_at number text place = figure_for number (get_or text place 0) (register_at text place) place

abbrev pub note_at : ℕ → List ℕ → ℕ → ℕ
note_at number text place = note_for number (get_or text place 0) (register_at text place) (leb (length text) place)

abbrev pub first_line : List ℕ → ℕ → Spot → List ℕ → List ℕ
first_line file number p text =
    place_text file p.line p.column ++ head_text number (headline_at number text p.place) (figure_at number text p.place)

abbrev pub other_lines : ℕ → Spot → List ℕ → List ℕ
other_lines number p text =
    line_text (shown_line text p.place p.column) ++ caret_text (shown_before p.column) (wide_at text p.place) (note_at number text p.place)

abbrev pub placed_text : List ℕ → ℕ → Spot → List ℕ → List ℕ
placed_text file number p text = first_line file number p text ++ other_lines number p text

-- where no line is reported, nothing of the text is shown
abbrev pub message_text : List ℕ → ℕ → Spot → List ℕ → List ℕ
message_text file number p text = choose (eqb p.line 0) (file ++ head_text number number p.place) (placed_text file number p text)

-- a file that is accepted
abbrev pub accepted_text : List ℕ → ℕ → List ℕ
accepted_text file size = file ++ bytes ": accepted, " ++ decimal size ++ bytes " bytes of object text\n"

-- an object text that its source becomes
abbrev pub equal_text : List ℕ → List ℕ → List ℕ
equal_text source object = object ++ bytes ": the object text of " ++ source ++ bytes "\n"

-- a word of the command line that is wrong
abbrev pub fault_text : List ℕ → ℕ → List ℕ
fault_text word why = bytes "tautgaff: `" ++ word ++ bytes "`: " ++ entry_of faults why ++ bytes "\n"
