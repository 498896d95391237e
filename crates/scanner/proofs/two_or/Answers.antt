-- `two_or` looks at the second byte. Assumes nothing.
use Rattle.base.proofs.Tests.{tests}
use Rattle.scanner.proofs.two_or.Goals as goal

pub returns-then-s-lt2 : goal.returns-then-s-lt2
returns-then-s-lt2 c =
    search tests

pub returns-then-s-second : goal.returns-then-s-second
returns-then-s-second c =
    search tests

pub returns : goal.returns
returns c =
    search tests
