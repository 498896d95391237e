-- A message in full, computed from its definition. Assumes nothing.
use mathlib.Core.Path.{◌≡◌, refl}
use mathlib.Core.List.{[], ◌∷◌, ◌++◌}
use Rattle.base.specs.Text.{bytes}
use Rattle.base.specs.Runs.{run_len}
use Rattle.spots.specs.Spots.{spot, unplaced}
use Rattle.figures.specs.Digits.{numeral}
use Rattle.figures.specs.Parts.{filled}
use Rattle.messages.specs.Messages.{message_text}

pub protected-register : message_text (bytes "survey.pl360") 10 (spot 8 2 3) (bytes "BEGIN\n  RE := R1;\nEND @\n")
    ≡ bytes "survey.pl360:2:3: refusal 10: register 14 is protected here\n  RE := R1;\n  ^^ the data base: cells without SEGMENT BASE belong to it\n"
unfolding run_len numeral filled
protected-register = refl

pub carriage-return : message_text (bytes "a") 2 (spot 5 1 6) (bytes "BEGIN" ++ (13 ∷ 10 ∷ []) ++ bytes "END @\n")
    ≡ bytes "a:1:6: refusal 2: byte 13 (CR) is in no token\nBEGIN?\n     ^ lines are ended by byte 10 alone\n"
unfolding run_len numeral filled
carriage-return = refl

pub no_place : message_text (bytes "a") 14 (unplaced 0) (bytes "BEGIN") ≡ bytes "a: refusal 14: the program has more than 4,096 bytes\n"
unfolding numeral filled
no_place = refl
