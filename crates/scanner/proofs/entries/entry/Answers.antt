-- What stands at a place is the definition's, arm by arm; made by `build/words`. Assumes nothing.
use Rattle.scanner.specs.Entries.{entries}
use Rattle.scanner.specs.Inner.{entry_at}
use Rattle.scanner.proofs.Words.{none-at}
use Rattle.scanner.proofs.entries.entry.Goals as goal

pub returns-in-3 : goal.returns-in-3
unfolding entries entry_at
returns-in-3 c =
    rw c.in-3.is

pub returns-in-4 : goal.returns-in-4
unfolding entries entry_at
returns-in-4 c =
    rw c.in-4.is

pub returns-in-5 : goal.returns-in-5
unfolding entries entry_at
returns-in-5 c =
    rw c.in-5.is

pub returns-in-6 : goal.returns-in-6
unfolding entries entry_at
returns-in-6 c =
    rw c.in-6.is

pub returns-in-8 : goal.returns-in-8
unfolding entries entry_at
returns-in-8 c =
    rw c.in-8.is

pub returns-in-9 : goal.returns-in-9
unfolding entries entry_at
returns-in-9 c =
    rw c.in-9.is

pub returns-in-10 : goal.returns-in-10
unfolding entries entry_at
returns-in-10 c =
    rw c.in-10.is

pub returns-in-11 : goal.returns-in-11
unfolding entries entry_at
returns-in-11 c =
    rw c.in-11.is

pub returns-in-12 : goal.returns-in-12
unfolding entries entry_at
returns-in-12 c =
    rw c.in-12.is

pub returns-in-13 : goal.returns-in-13
unfolding entries entry_at
returns-in-13 c =
    rw c.in-13.is

pub returns-in-14 : goal.returns-in-14
unfolding entries entry_at
returns-in-14 c =
    rw c.in-14.is

pub returns-in-15 : goal.returns-in-15
unfolding entries entry_at
returns-in-15 c =
    rw c.in-15.is

pub returns-in-17 : goal.returns-in-17
unfolding entries entry_at
returns-in-17 c =
    rw c.in-17.is

pub returns-in-19 : goal.returns-in-19
unfolding entries entry_at
returns-in-19 c =
    rw c.in-19.is

pub returns-in-21 : goal.returns-in-21
unfolding entries entry_at
returns-in-21 c =
    rw c.in-21.is

pub returns-in-23 : goal.returns-in-23
unfolding entries entry_at
returns-in-23 c =
    rw c.in-23.is

pub returns-in-25 : goal.returns-in-25
unfolding entries entry_at
returns-in-25 c =
    rw c.in-25.is

pub returns-in-27 : goal.returns-in-27
unfolding entries entry_at
returns-in-27 c =
    rw c.in-27.is

pub returns-in-28 : goal.returns-in-28
unfolding entries entry_at
returns-in-28 c =
    rw c.in-28.is

pub returns-in-30 : goal.returns-in-30
unfolding entries entry_at
returns-in-30 c =
    rw c.in-30.is

pub returns-in-31 : goal.returns-in-31
unfolding entries entry_at
returns-in-31 c =
    rw c.in-31.is

pub returns-in-33 : goal.returns-in-33
unfolding entries entry_at
returns-in-33 c =
    rw c.in-33.is

pub returns-in-34 : goal.returns-in-34
unfolding entries entry_at
returns-in-34 c =
    rw c.in-34.is

pub returns-in-35 : goal.returns-in-35
unfolding entries entry_at
returns-in-35 c =
    rw c.in-35.is

pub returns-in-37 : goal.returns-in-37
unfolding entries entry_at
returns-in-37 c =
    rw c.in-37.is

pub returns-in-38 : goal.returns-in-38
unfolding entries entry_at
returns-in-38 c =
    rw c.in-38.is

pub returns-in-40 : goal.returns-in-40
unfolding entries entry_at
returns-in-40 c =
    rw c.in-40.is

pub returns-in-42 : goal.returns-in-42
unfolding entries entry_at
returns-in-42 c =
    rw c.in-42.is

pub returns-in-43 : goal.returns-in-43
unfolding entries entry_at
returns-in-43 c =
    rw c.in-43.is

pub returns-in-45 : goal.returns-in-45
unfolding entries entry_at
returns-in-45 c =
    rw c.in-45.is

pub returns-in-46 : goal.returns-in-46
unfolding entries entry_at
returns-in-46 c =
    rw c.in-46.is

pub returns-in-53 : goal.returns-in-53
unfolding entries entry_at
returns-in-53 c =
    rw c.in-53.is

pub returns-in-55 : goal.returns-in-55
unfolding entries entry_at
returns-in-55 c =
    rw c.in-55.is

pub returns-in-58 : goal.returns-in-58
unfolding entries entry_at
returns-in-58 c =
    rw c.in-58.is

pub returns-in-59 : goal.returns-in-59
unfolding entries entry_at
returns-in-59 c =
    rw c.in-59.is

pub returns-in_default : goal.returns-in_default
unfolding entries
returns-in_default c =
    none-at _ entries _ c.in_default.in_default-own.rest
