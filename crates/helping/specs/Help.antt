-- `tautgaff help`: which page a word asks for, and the page.
use Rattle.std.specs.Prelude.{List, [], ℕ, ◌-◌, ◌^◌, get_or, Option, Some, None, ltb}
use Rattle.std.specs.Option.{option_and_then}
use Rattle.base.specs.Choose.{choose}
use Rattle.figures.specs.Numbers.{whole_number}
use Rattle.words.specs.declared.Command.{Command}
use Rattle.words.specs.declared.Command.TheVariants.{Translate, Check, Run, Same, Help}
use Rattle.words.specs.Wishes.{command_of}
use Rattle.helping.specs.Pages.{pages}

-- 0 to 19 are the numbers of refusals and stops, 20 is usage, 21 to 25 are the commands
abbrev pub page : ℕ → List ℕ
page n = get_or pages n []

-- the numbers of refusals and stops
abbrev pub known : ℕ → Option ℕ
known n = choose (ltb n 20) (Some n) None

abbrev pub page_for : Command → ℕ
page_for Translate = 21
page_for Check = 22
page_for Run = 23
page_for Same = 24
page_for Help = 25

-- a word is a command's name or a number
abbrev pub page_of : List ℕ → Option ℕ
page_of s = elim (command_of s) [ Some command ↦ Some (page_for command) | None ↦ option_and_then known (whole_number 10 (2 ^ 32 - 1) s) ]
