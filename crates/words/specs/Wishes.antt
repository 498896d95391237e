-- What a command line wishes for:
--     translate FILE [-o OBJECT]
--     check FILE..
--     run FILE|OBJECT [--set NAME=VALUE].. [--show NAME].. [--budget N] [--cc N]
--     same FILE OBJECT
--     help [COMMAND|NUMBER]
-- Each word is ended by a zero byte and named by its number, counted from 0. A word that begins with `-` and has more than that one byte is an option.
use Rattle.std.specs.Prelude.{ℕ, zero, suc, ◌+◌, ◌-◌, ◌^◌, Bool, ◌&&◌, ◌||◌, List, Option, Some, None, Result, Ok, Err, eqb, ltb, length, get_or}
use Rattle.std.specs.Option.{ok_or}
use Rattle.base.specs.Choose.{choose}
use Rattle.base.specs.Text.{bytes, same_bytes}
use Rattle.figures.specs.Parts.{part_count, part_of}
use Rattle.figures.specs.Numbers.{digit_of, whole_number}
use Rattle.words.specs.declared.Command.{Command}
use Rattle.words.specs.declared.Command.TheVariants as command
use Rattle.words.specs.declared.Awaited.{Awaited}
use Rattle.words.specs.declared.Awaited.TheVariants.{Object, Set, Show, Budget, Code}
use Rattle.words.specs.declared.Why.{Why}
use Rattle.words.specs.declared.Why.TheVariants.{UnknownCommand, UnknownOption, TooMany, NoNumber, NoValue, NoName, BadValue, NoRegister, NoPage, NoCell, NoElement, NotShort, NotByte}
use Rattle.words.specs.declared.Fault.{Fault}
use Rattle.words.specs.declared.Wish.{Wish}
use Rattle.words.specs.declared.Wish.TheVariants.{Translate, Check, Run, Same, Help}
use Rattle.words.specs.declared.Said.{Said}

-- a word behind a wrong one is not looked at
infixl 10 ◌>>=◌
abbrev pub ◌>>=◌ : {A B : Type 0} → Result A Fault → (A → Result B Fault) → Result B Fault
(Ok x) >>= f = f x
(Err e) >>= f = Err e

abbrev pub command_of : List ℕ → Option Command
command_of s =
    choose (same_bytes s (bytes "translate")) (Some command.Translate)
    (choose (same_bytes s (bytes "check")) (Some command.Check)
    (choose (same_bytes s (bytes "run")) (Some command.Run)
    (choose (same_bytes s (bytes "same")) (Some command.Same)
    (choose (same_bytes s (bytes "help") || same_bytes s (bytes "--help")) (Some command.Help) None))))

abbrev pub is_option : List ℕ → Bool
is_option s = eqb (get_or s 0 0) 45 && ltb 1 (length s)

-- the options, by the command that has them: what they wait for
abbrev pub run_option : List ℕ → Option Awaited
run_option s =
    choose (same_bytes s (bytes "--set")) (Some Set)
    (choose (same_bytes s (bytes "--show")) (Some Show)
    (choose (same_bytes s (bytes "--budget")) (Some Budget) (choose (same_bytes s (bytes "--cc")) (Some Code) None)))

abbrev pub option_of : Command → List ℕ → Option Awaited
option_of command.Translate s = choose (same_bytes s (bytes "-o")) (Some Object) None
option_of command.Run s = run_option s
option_of _ s = None

-- the reasons why a word is wrong, by the number of what is said of it
abbrev pub why_number : Why → ℕ
why_number UnknownCommand = 1
why_number UnknownOption = 2
why_number TooMany = 3
why_number NoNumber = 4
why_number NoValue = 5
why_number NoName = 6
why_number BadValue = 7
why_number NoRegister = 8
why_number NoPage = 9
why_number NoCell = 10
why_number NoElement = 11
why_number NotShort = 12
why_number NotByte = 13

-- the word with the number n is wrong
abbrev pub wrong_at : ℕ → Why → Fault
wrong_at n why = record { why = why; word = n }

-- nothing but a command
abbrev pub start_of : Command → Said
start_of c = record { command = c; first = None; second = None; waiting = None; object = None; budget = 1000000; code = 0 }

-- a value that an option waits for
abbrev pub number_at : ℕ → List ℕ → Result ℕ Fault
number_at n s = ok_or (whole_number 10 (2 ^ 32 - 1) s) (wrong_at n NoNumber)

-- one object is named
abbrev pub object_named : Said → ℕ → Result Said Fault
object_named said n = elim said.object [ None ↦ Ok (record said { object = Some n }) | Some _ ↦ Err (wrong_at n TooMany) ]

abbrev pub value_for : Awaited → Said → ℕ → List ℕ → Result Said Fault
value_for Object said n s = object_named said n
value_for Set said n s = Ok said
value_for Show said n s = Ok said
value_for Budget said n s = do
  v ← number_at n s
  Ok (record said { budget = v })
value_for Code said n s = do
  v ← number_at n s
  Ok (record said { code = v })

abbrev pub valued : Said → Awaited → ℕ → List ℕ → Result Said Fault
valued said option n s = choose (is_option s) (Err (wrong_at n NoValue)) (value_for option (record said { waiting = None }) n s)

-- an option
abbrev pub opened : Said → ℕ → List ℕ → Result Said Fault
opened said n s = do
  option ← ok_or (option_of said.command s) (wrong_at n UnknownOption)
  Ok (record said { waiting = Some option })

-- a name: `same` takes two, `check` any number, and any other command one
abbrev pub named_again : Command → Said → ℕ → Result Said Fault
named_again command.Check said n = Ok said
named_again command.Same said n = elim said.second [ None ↦ Ok (record said { second = Some n }) | Some _ ↦ Err (wrong_at n TooMany) ]
named_again _ said n = Err (wrong_at n TooMany)

abbrev pub named : Said → ℕ → Result Said Fault
named said n = elim said.first [ None ↦ Ok (record said { first = Some n }) | Some _ ↦ named_again said.command said n ]

-- the word with the number n behind the command
abbrev pub taken : Said → ℕ → List ℕ → Result Said Fault
taken said n s = elim said.waiting [ Some option ↦ valued said option n s | None ↦ choose (is_option s) (opened said n s) (named said n) ]

-- k words from the number n
unfoldable pub taken_all : List ℕ → ℕ → ℕ → Said → Result Said Fault
taken_all words zero n said = Ok said
taken_all words (suc k) n said = taken said n (part_of 0 n words) >>= λ then. taken_all words k (n + 1) then

-- at the end of n words: `help` wants no name, `same` two, and any other command one
abbrev pub name_at : ℕ → Option ℕ → Result ℕ Fault
name_at n name = ok_or name (wrong_at n NoName)

abbrev pub wish_by : Command → ℕ → Said → Result Wish Fault
wish_by command.Translate n said = do
  file ← name_at n said.first
  Ok (Translate file said.object)
wish_by command.Check n said = do
  file ← name_at n said.first
  Ok Check
wish_by command.Run n said = do
  file ← name_at n said.first
  Ok (Run (record { file = file; budget = said.budget; code = said.code }))
wish_by command.Same n said = do
  file ← name_at n said.first
  object ← name_at n said.second
  Ok (Same file object)
wish_by command.Help n said = Ok (Help said.first)

abbrev pub wish_for : ℕ → Said → Result Wish Fault
wish_for n said = elim said.waiting [ Some _ ↦ Err (wrong_at n NoValue) | None ↦ wish_by said.command n said ]

abbrev pub wish_of : List ℕ → Result Wish Fault
wish_of words = do
  c ← ok_or (command_of (part_of 0 0 words)) (wrong_at 0 UnknownCommand)
  said ← taken_all words (part_count 0 words - 1) 1 (start_of c)
  wish_for (part_count 0 words) said

-- "NAME is a register (R1, RA)": its number
abbrev pub register_in : List ℕ → Option ℕ
register_in s = choose (eqb (length s) 2 && eqb (get_or s 0 0) 82) (digit_of (get_or s 1 0)) None
