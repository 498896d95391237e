-- `program` says what the reader has read, or where it stands at a refusal. Assumes nothing.
use Rattle.std.proofs.Common.{◌≡◌, arith, sym, ◌∙◌, subst, ℕ, ◌≤◌, List, [], length}
use mathlib.Core.List.{append-nil}
use Rattle.grammar.specs.Grammar as G
use Rattle.tape.specs.Tape.{tape_statement}
use Rattle.readers.specs.declared.reader.Reader.{Reader}
use Rattle.readers.specs.Reads.{Written}
use Rattle.parse.specs.Programs.{Accepted}
use Rattle.parse.proofs.program.Goals as goal

accepts : {ks before after : List ℕ} {i : ℕ} {new : Reader} → Written tape_statement ks i 0 before new (G.program ks i) → after ≡ new.tape.now
    → Accepted ks i after (record { at = new.at; value = new.events })
accepts {ks} {before} {after} {i} {new} w e =
    let inside : new.at ≤ length ks = subst (λ (l : List ℕ). new.at ≤ length l) w.same new.inside in
    let room : length new.kinds.now ≤ length after = rw e new.room in
    let at = new.inside in
    let low = new.low in
    let far = w.low in
    record { tree = w.what; is = w.is; events = rw e (sym (append-nil _) ∙ w.laid []); inside = inside; fits = omega arith; few = omega arith }

pub returns-in-Ok : goal.returns-in-Ok
returns-in-Ok c =
    accepts c.in-Ok.ensures.read (grind arith)
