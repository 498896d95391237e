-- `digit` follows the definition's tests. Assumes nothing.
use Rattle.std.proofs.Common.{rules, sym}
use Rattle.base.proofs.Tests.{picks}
use Rattle.objtext.specs.Reader.{digit_of}
use Rattle.objtext.proofs.digit.Goals as goal

pub returns-in-48-to-57 : goal.returns-in-48-to-57
unfolding digit_of
returns-in-48-to-57 c = (sym (search (picks, rules) depth 9), search rules)

pub returns-in-65-to-70 : goal.returns-in-65-to-70
unfolding digit_of
returns-in-65-to-70 c = (sym (search (picks, rules) depth 9), search rules)

pub returns-in_default : goal.returns-in_default
unfolding digit_of
returns-in_default c = sym (search (picks, rules) depth 9)

pub returns-in_default-2 : goal.returns-in_default-2
unfolding digit_of
returns-in_default-2 c = sym (search (picks, rules) depth 9)

pub returns-in_default-3 : goal.returns-in_default-3
unfolding digit_of
returns-in_default-3 c = sym (search (picks, rules) depth 9)
