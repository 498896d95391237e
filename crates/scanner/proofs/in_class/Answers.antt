-- `in_class` tests a byte as the definition of its class does. Assumes nothing.
use Rattle.scanner.proofs.in_class.Goals as goal

pub returns-in-Blank : goal.returns-in-Blank
returns-in-Blank c =
    cc

pub returns-in-Separator : goal.returns-in-Separator
returns-in-Separator c =
    cc

pub returns-in-InComment : goal.returns-in-InComment
returns-in-InComment c =
    cc
