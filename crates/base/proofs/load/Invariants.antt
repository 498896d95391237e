-- `load` reads the number in n bytes. The invariant: it is that of the bytes that are read so far. Assumes nothing.
use Rattle.std.proofs.Common.{◌≡◌, ◌<◌, ◌^◌, take}
use Rattle.base.specs.Numbers.{value_of}
use Rattle.base.proofs.load.Given as goal

abbrev pub invariant-loop-b : goal.invariant-loop-b
invariant-loop-b l =
    record { fits : l.v < 256 ^ l.b-index; is : l.v ≡ value_of (take l.b-index l.b-items) }
