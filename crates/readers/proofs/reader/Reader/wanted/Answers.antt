-- `wanted` takes a token of its kind, and refuses any other. Assumes nothing.
use Rattle.std.proofs.Common.{arith, refl}
use Rattle.readers.proofs.Reading.{want-yes, want-no}
use Rattle.readers.proofs.reader.Reader.wanted.Goals as goal

pub returns-then-kind-k : goal.returns-then-kind-k
returns-then-kind-k c =
    record { read = record { is = want-no c.kind.ensures c.if-kind-k.true; same = refl; onward = omega arith }; still = record { same = refl; onward = omega arith; tape = refl; events = refl; name = refl } }

pub returns : goal.returns
returns c =
    let m = c.take.ensures.moved in
    record {
      read = record {
        is = rw (c.take.ensures.token, m.there) (want-yes c.kind.ensures c.if-kind-k.false);
        same = m.same;
        from = omega arith;
        onward = omega arith;
      };
      still = record { same = m.same; onward = omega arith; tape = m.tape; events = m.events; name = m.name };
    }
