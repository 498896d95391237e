-- The registers that a run begins with: zero, or what `--set NAME=VALUE` says, the last one where a register is named twice. `--show NAME` names a register.
-- Of a source a name that is no register's may be a cell: it is left as it is.
use Rattle.std.specs.Prelude.{ℕ, zero, suc, ◌+◌, ◌-◌, Bool, List, Option, Some, None, Result, Ok, Err, take, drop, set, replicate}
use Rattle.std.specs.Option.{ok_or}
use Rattle.base.specs.Choose.{choose}
use Rattle.figures.specs.Parts.{part_length, part_of, part_count}
use Rattle.figures.specs.Numbers.{number_in}
use Rattle.words.specs.declared.Awaited.{Awaited}
use Rattle.words.specs.declared.Awaited.TheVariants.{Set, Show}
use Rattle.words.specs.declared.Why.TheVariants.{BadValue, NoRegister}
use Rattle.words.specs.declared.Fault.{Fault}
use Rattle.words.specs.Wishes.{◌>>=◌, wrong_at, register_in, run_option}

-- NAME=VALUE
abbrev pub name_in : List ℕ → Option ℕ
name_in s = register_in (take (part_length 61 s) s)

-- "values in decimal, `_`, `-` or `#` form"
abbrev pub value_in : ℕ → List ℕ → Result ℕ Fault
value_in n s = ok_or (number_in (drop 1 (drop (part_length 61 s) s))) (wrong_at n BadValue)

abbrev pub other : List ℕ → ℕ → (source : Bool) → Result (List ℕ) Fault
other values n source = choose source (Ok values) (Err (wrong_at n NoRegister))

abbrev pub set_by : List ℕ → ℕ → List ℕ → (source : Bool) → Result (List ℕ) Fault
set_by values n s source = elim (name_in s) [ Some k ↦ value_in n s >>= (λ v. Ok (set values k v)) | None ↦ other values n source ]

-- NAME
abbrev pub shown_by : List ℕ → ℕ → List ℕ → (source : Bool) → Result (List ℕ) Fault
shown_by values n s source = elim (register_in s) [ Some k ↦ Ok values | None ↦ other values n source ]

-- the word n behind an option, by what the option waits for
abbrev pub said_by : List ℕ → Option Awaited → ℕ → List ℕ → (source : Bool) → Result (List ℕ) Fault
said_by values (Some Set) n s source = set_by values n s source
said_by values (Some Show) n s source = shown_by values n s source
said_by values _ n s source = Ok values

-- step by step over k words from the number n: by the option that the word before each is, its number and the word itself
unfoldable pub words_from : {A : Type 0} → (Option Awaited → ℕ → List ℕ → A → A) → List ℕ → ℕ → ℕ → A → A
words_from step words zero n x = x
words_from step words (suc k) n x = words_from step words k (n + 1) (step (run_option (part_of 0 (n - 1) words)) n (part_of 0 n words) x)

abbrev pub said_in : (source : Bool) → Option Awaited → ℕ → List ℕ → Result (List ℕ) Fault → Result (List ℕ) Fault
said_in source option n s so_far = so_far >>= (λ values. said_by values option n s source)

abbrev pub start_of : List ℕ → (source : Bool) → Result (List ℕ) Fault
start_of words source = words_from (said_in source) words (part_count 0 words - 1) 1 (Ok (replicate 16 0))
