-- The rules that hold statements meet their contracts: one recursion, whose measure is the room for constructs. Assumes nothing.
use Rattle.statements.proofs.Rules.{if-parts, while-parts, case-parts, for-parts, no-construct, too-deep, construct, procedure-too-deep, procedure-parts, label-kinds, item-is, count-over, count-one, case-name, count-all}
use Rattle.readers.proofs.Choices.{among}
use Rattle.phrases.specs.Parts.{tape_chosen}
use Rattle.readers.proofs.Loops.{starts, turn, wrapped}
use Rattle.readers.proofs.Reading.{reaches, passed, stays, wrote, gives}
use Rattle.tape.specs.Tape.{tape_statement, tape_body, tape_items, tape_choices}
use Rattle.grammar.specs.Grammar as G
use Rattle.grammar.specs.Grammar.{declarators, openers, choices_of, if_of, construct_of, body_of, items_of}
use Rattle.grammar.specs.Reader.{and_then, look, next}
use Rattle.grammar.specs.Tree as T
use Rattle.base.proofs.Tests.{same, other}
use lib.ListN.{length, take}
use Prim.Native.Nat.{suc}
use mathlib.Core.Path.{refl, ◌∙◌}
use native.Mathlib.Omega.{arith}
use borrow.Author.Tests.{eq-eqb, ne_eqb}
use Rattle.statements.proofs.+statements.Goals as goal

pub body-loop-r-init : goal.body-loop-r-init
body-loop-r-init t c =
    starts

pub body-returns-in_err-declaration-clause-read : goal.body-returns-in_err-declaration-clause-read
unfolding body_of and_then look
body-returns-in_err-declaration-clause-read t c =
    let d = c.in_err-declaration.ensures.read in
    let v = c.loop-r.invariant in
    rw (passed c.from_residual.ensures, v.rest, among declarators c.kind-k.ensures c.declares.ensures c.if-declares.true, ← v.same, d.is) (stays d (omega arith))

pub body-returns-in_err-wanted-clause-read : goal.body-returns-in_err-wanted-clause-read
unfolding body_of and_then look
body-returns-in_err-wanted-clause-read t c =
    let d = c.in_ok-declaration.ensures.read in
    let z = c.in_err-wanted.ensures.read in
    let v = c.loop-r.invariant in
    rw (passed c.from_residual-in_err-wanted.ensures, v.rest, among declarators c.kind-k.ensures c.declares.ensures c.if-declares.true, ← v.same, d.is, ← d.same, z.is) (stays z (omega arith))

pub body-loop-r-preserved-then-declares : goal.body-loop-r-preserved-then-declares
unfolding body_of and_then look tape_body
body-loop-r-preserved-then-declares t c =
    let d = c.in_ok-declaration.ensures.read in
    let z = c.in_ok-wanted.ensures.read in
    let still = c.in_ok-wanted.ensures.still in
    turn (T.declare d.what) c.loop-r.invariant (omega arith) (omega arith) (z.same ∙ d.same)
    (still.name ∙ c.in_ok-declaration.ensures.same)
    (λ f. rw (among declarators c.kind-k.ensures c.declares.ensures c.if-declares.true, d.is, ← d.same, z.is, ← z.same) refl) (λ v after b l k. l k ∙ rw (still.events, still.tape) (d.laid _))

pub body-returns-then-k-ne-PROCEDURE-clause-read : goal.body-returns-then-k-ne-PROCEDURE-clause-read
unfolding body_of and_then look tape_body
body-returns-then-k-ne-PROCEDURE-clause-read t c =
    let v = c.loop-r.invariant in
    rw (
      v.rest,
      among declarators c.kind-k.ensures c.declares.ensures c.if-declares.false,
      ne_eqb _ _ (other c.kind-k.ensures.is c.if-k-ne-PROCEDURE.true),
      wrapped (items_of (G.statement c.args.room) (suc (length c.loop-r.r.kinds.now)) c.loop-r.r.kinds.now c.loop-r.r.at) T.items v.wrap,
      ← v.same,
    )
    (gives _ _ (λ is. v.wrap (T.items is)) _ _ _ _ _ _ _ _ _ _ (omega arith) (omega arith) (λ is l. v.fits _ _ (T.items is) l) c.items.ensures.read)

pub body-returns-in_err-procedure-clause-read : goal.body-returns-in_err-procedure-clause-read
unfolding body_of and_then look
body-returns-in_err-procedure-clause-read t c =
    let d = c.in_err-procedure.ensures.read in
    let v = c.loop-r.invariant in
    rw (passed c.from_residual-in_err-procedure.ensures, v.rest, among declarators c.kind-k.ensures c.declares.ensures c.if-declares.false, eq-eqb _ _ (same c.kind-k.ensures.is c.if-k-ne-PROCEDURE.false), ← v.same, d.is) (stays d (omega arith))

pub body-returns-in_err-wanted-2-clause-read : goal.body-returns-in_err-wanted-2-clause-read
unfolding body_of and_then look
body-returns-in_err-wanted-2-clause-read t c =
    let d = c.in_ok-procedure.ensures.read in
    let z = c.in_err-wanted-2.ensures.read in
    let v = c.loop-r.invariant in
    rw (passed c.from_residual-in_err-wanted-2.ensures, v.rest, among declarators c.kind-k.ensures c.declares.ensures c.if-declares.false, eq-eqb _ _ (same c.kind-k.ensures.is c.if-k-ne-PROCEDURE.false), ← v.same, d.is, ← d.same, z.is) (stays z (omega arith))

pub body-loop-r-preserved : goal.body-loop-r-preserved
unfolding body_of and_then look tape_body
body-loop-r-preserved t c =
    let d = c.in_ok-procedure.ensures.read in
    let z = c.in_ok-wanted-2.ensures.read in
    let still = c.in_ok-wanted-2.ensures.still in
    turn (T.procedure d.what.name d.what.return d.what.body) c.loop-r.invariant (omega arith) (omega arith) (z.same ∙ d.same)
    (still.name ∙ c.in_ok-procedure.ensures.same)
    (λ f. rw (among declarators c.kind-k.ensures c.declares.ensures c.if-declares.false, eq-eqb _ _ (same c.kind-k.ensures.is c.if-k-ne-PROCEDURE.false), d.is, ← d.same, z.is, ← z.same) refl) (λ v after b l k. l k ∙ rw (still.events, still.tape) (d.laid _))

pub case_of-returns-in_err-case_head-clause-read : goal.case_of-returns-in_err-case_head-clause-read
unfolding and_then
case_of-returns-in_err-case_head-clause-read t c =
    let p = c.skip-place.ensures.skipped in
    let h = c.in_err-case_head.ensures.read in
    rw (passed c.from_residual.ensures, ← case-parts (G.statement c.args.room) c.args.word c.args.r.now.kinds.now c.args.r.now.at, ← p.same, ← p.here, h.is) (stays h (omega arith))

pub case_of-loop-r-init : goal.case_of-loop-r-init
case_of-loop-r-init t c =
    let p = c.skip-place.ensures.skipped in
    let h = c.in_ok-case_head.ensures.read in
    let r = reaches tape_chosen c.skip-place.new.self.events _ c.skip-place.new.self.tape.now c.case_head.new.r.tape.now _ h.laid (omega arith) in
    (starts, (omega arith, omega arith))

pub case_of-returns-in_err-statement-clause-read : goal.case_of-returns-in_err-statement-clause-read
unfolding choices_of and_then look
case_of-returns-in_err-statement-clause-read t c =
    let p = c.skip-place.ensures.skipped in
    let h = c.in_ok-case_head.ensures.read in
    let g = c.loop-r.invariant.0 in
    let s = c.in_err-statement.ensures.read in
    rw (passed c.from_residual-in_err-statement.ensures, ← case-parts (G.statement c.args.room) c.args.word c.args.r.now.kinds.now c.args.r.now.at, ← p.same, ← p.here, h.is, ← h.same, g.rest, ne_eqb _ _ (other c.kind.ensures.is c.loop-r-test.true), ← g.same, s.is)
    (stays s (omega arith))

pub case_of-returns-in_err-wanted-clause-read : goal.case_of-returns-in_err-wanted-clause-read
unfolding choices_of and_then look
case_of-returns-in_err-wanted-clause-read t c =
    let p = c.skip-place.ensures.skipped in
    let h = c.in_ok-case_head.ensures.read in
    let g = c.loop-r.invariant.0 in
    let s = c.in_ok-statement.ensures.read in
    let z = c.in_err-wanted.ensures.read in
    rw (
      passed c.from_residual-in_err-wanted.ensures,
      ← case-parts (G.statement c.args.room) c.args.word c.args.r.now.kinds.now c.args.r.now.at,
      ← p.same,
      ← p.here,
      h.is,
      ← h.same,
      g.rest,
      ne_eqb _ _ (other c.kind.ensures.is c.loop-r-test.true),
      ← g.same,
      s.is,
      ← s.same,
      z.is,
    )
    (stays z (omega arith))

pub case_of-loop-r-preserved : goal.case_of-loop-r-preserved
unfolding choices_of and_then look
case_of-loop-r-preserved t c =
    let g = c.loop-r.invariant.0 in
    let m = c.loop-r.invariant.1 in
    let s = c.in_ok-statement.ensures.read in
    let z = c.in_ok-wanted.ensures.read in
    let still = c.in_ok-wanted.ensures.still in
    let w = c.write.ensures in
    let e = rw (still.events, still.tape) at w.laid in
    let r = reaches tape_statement c.loop-r.r.events _ c.loop-r.r.tape.now c.statement.new.r.tape.now _ s.laid (omega arith) in (
      turn (T.choice s.what) g (omega arith) (omega arith) (w.same ∙ (z.same ∙ s.same))
          (w.name ∙ (still.name ∙ c.in_ok-statement.ensures.same))
          (λ f. rw (ne_eqb _ _ (other c.kind.ensures.is c.loop-r-test.true), s.is, ← s.same, z.is, ← z.same, ← w.same, ← w.here) refl)
          (λ v after xs l k. l k ∙ count-one c.at-name.result c.skip-place.result c.loop-r.n s.what xs (take c.loop-r.r.events c.loop-r.r.tape.now) (take c.write.new.self.events c.write.new.self.tape.now) _ (λ k. e k ∙ s.laid _)),
      (omega arith, omega arith),
    )

pub case_of-returns-clause-read : goal.case_of-returns-clause-read
unfolding choices_of and_then look next tape_choices
case_of-returns-clause-read t c =
    let p = c.skip-place.ensures.skipped in
    let h = c.in_ok-case_head.ensures.read in
    let g = c.loop-r.invariant.0 in
    let m = c.loop-r.invariant.1 in
    let t = c.take.ensures.moved in
    let u = c.put.ensures in
    let w = c.write-2.ensures in
    let chosen = rw (case-name _ _ h.is, p.events, p.tape, ← c.at-name.ensures, ← c.skip-place.ensures.place) at h.laid in
    rw (
      ← case-parts (G.statement c.args.room) c.args.word c.args.r.now.kinds.now c.args.r.now.at,
      ← p.same,
      ← p.here,
      h.is,
      ← h.same,
      g.rest,
      same c.kind.ensures.is c.loop-r-test.false,
      ← g.same,
      ← t.there,
      ← t.same,
      ← u.same,
      ← u.here,
      ← w.same,
      ← w.here,
      ← c.at-name.ensures,
      ← c.skip-place.ensures.place,
    )
    (wrote
    (λ k. g.fits _ _ T.over (λ k. w.laid k ∙ rw (u.events, t.events, u.tape, t.tape) (count-over c.skip-place.result c.loop-r.n c.loop-r.r.events c.loop-r.r.tape.now _ m.0 (omega arith))) k ∙ count-all c.args.word c.at-name.result c.skip-place.result (g.wrap T.over) c.args.r.now.tape.now (take c.case_head.new.r.events c.case_head.new.r.tape.now) k (omega arith) chosen)
    (omega arith) (omega arith))

pub for_do-returns-in_err-control-clause-read : goal.for_do-returns-in_err-control-clause-read
unfolding and_then
for_do-returns-in_err-control-clause-read t c =
    let a = c.in_err-control.ensures.read in rw (passed c.from_residual.ensures, ← for-parts (G.statement c.args.room) c.args.word c.args.r.now.kinds.now c.args.r.now.at, a.is) (stays a (omega arith))

pub for_do-returns-in_err-limit-clause-read : goal.for_do-returns-in_err-limit-clause-read
unfolding and_then
for_do-returns-in_err-limit-clause-read t c =
    let a = c.in_ok-control.ensures.read in
    let l = c.in_err-limit.ensures.read in
    rw (passed c.from_residual-in_err-limit.ensures, ← for-parts (G.statement c.args.room) c.args.word c.args.r.now.kinds.now c.args.r.now.at, a.0.is, ← a.0.same, l.is) (stays l (omega arith))

pub for_do-returns-in_err-statement-clause-read : goal.for_do-returns-in_err-statement-clause-read
unfolding and_then
for_do-returns-in_err-statement-clause-read t c =
    let a = c.in_ok-control.ensures.read in
    let l = c.in_ok-limit.ensures.read in
    let s = c.in_err-statement.ensures.read in
    rw (passed c.from_residual-in_err-statement.ensures, ← for-parts (G.statement c.args.room) c.args.word c.args.r.now.kinds.now c.args.r.now.at, a.0.is, ← a.0.same, l.0.is, ← l.0.same, s.is) (stays s (omega arith))

pub for_do-returns-clause-read : goal.for_do-returns-clause-read
unfolding and_then tape_statement
for_do-returns-clause-read t c =
    let a = c.in_ok-control.ensures.read in
    let l = c.in_ok-limit.ensures.read in
    let s = c.in_ok-statement.ensures.read in
    let w = c.write.ensures in
    let e = rw c.at-number.ensures at w.laid in
    rw (← for-parts (G.statement c.args.room) c.args.word c.args.r.now.kinds.now c.args.r.now.at, a.0.is, ← a.0.same, l.0.is, ← l.0.same, s.is, ← s.same, ← w.same, ← w.here)
    (wrote (λ k. e k ∙ (s.laid _ ∙ (l.0.laid _ ∙ a.0.laid _))) (omega arith) (omega arith))

pub if_then-returns-in_err-head-clause-read : goal.if_then-returns-in_err-head-clause-read
unfolding and_then
if_then-returns-in_err-head-clause-read t c =
    let h = c.in_err-head.ensures.read in rw (passed c.from_residual.ensures, ← if-parts (G.statement c.args.room) c.args.word c.args.r.now.kinds.now c.args.r.now.at, h.is) (stays h (omega arith))

pub if_then-returns-in_err-statement-clause-read : goal.if_then-returns-in_err-statement-clause-read
unfolding if_of and_then look
if_then-returns-in_err-statement-clause-read t c =
    let h = c.in_ok-head.ensures.read in
    let s = c.in_err-statement.ensures.read in
    rw (passed c.from_residual-in_err-statement.ensures, ← if-parts (G.statement c.args.room) c.args.word c.args.r.now.kinds.now c.args.r.now.at, h.0.is, ← h.0.same, s.is) (stays s (omega arith))

pub if_then-returns-in_err-statement-2-clause-read : goal.if_then-returns-in_err-statement-2-clause-read
unfolding if_of and_then look next
if_then-returns-in_err-statement-2-clause-read t c =
    let h = c.in_ok-head.ensures.read in
    let s = c.in_ok-statement.ensures.read in
    let x = c.take.ensures.moved in
    let w = c.write.ensures in
    let u = c.in_err-statement-2.ensures.read in
    rw (
      passed c.from_residual-in_err-statement-2.ensures,
      ← if-parts (G.statement c.args.room) c.args.word c.args.r.now.kinds.now c.args.r.now.at,
      h.0.is,
      ← h.0.same,
      ← c.kind-k.ensures.is,
      s.is,
      ← s.same,
      ← c.has_else.ensures,
      c.if-has_else.true,
      ← x.there,
      ← x.same,
      ← w.same,
      ← w.here,
      u.is,
    )
    (stays u (omega arith))

pub if_then-returns-then-has_else-clause-read : goal.if_then-returns-then-has_else-clause-read
unfolding if_of and_then look next tape_statement
if_then-returns-then-has_else-clause-read t c =
    let h = c.in_ok-head.ensures.read in
    let s = c.in_ok-statement.ensures.read in
    let x = c.take.ensures.moved in
    let w = c.write.ensures in
    let u = c.in_ok-statement-2.ensures.read in
    let z = c.write-then-has_else.ensures in
    let e = rw (x.events, x.tape) at w.laid in
    rw (
      ← if-parts (G.statement c.args.room) c.args.word c.args.r.now.kinds.now c.args.r.now.at,
      h.0.is,
      ← h.0.same,
      ← c.kind-k.ensures.is,
      s.is,
      ← s.same,
      ← c.has_else.ensures,
      c.if-has_else.true,
      ← x.there,
      ← x.same,
      ← w.same,
      ← w.here,
      u.is,
      ← u.same,
      ← z.same,
      ← z.here,
    )
    (wrote (λ k. z.laid k ∙ (u.laid _ ∙ (e _ ∙ (s.laid _ ∙ h.0.laid _)))) (omega arith) (omega arith))

pub if_then-returns-clause-read : goal.if_then-returns-clause-read
unfolding if_of and_then look next tape_statement
if_then-returns-clause-read t c =
    let h = c.in_ok-head.ensures.read in
    let s = c.in_ok-statement.ensures.read in
    let w = c.write-2.ensures in
    rw (
      ← if-parts (G.statement c.args.room) c.args.word c.args.r.now.kinds.now c.args.r.now.at,
      h.0.is,
      ← h.0.same,
      ← c.kind-k.ensures.is,
      s.is,
      ← s.same,
      ← c.has_else.ensures,
      c.if-has_else.false,
      ← w.same,
      ← w.here,
    )
    (wrote (λ k. w.laid k ∙ (s.laid _ ∙ h.0.laid _)) (omega arith) (omega arith))

pub items-loop-r-init : goal.items-loop-r-init
items-loop-r-init t c =
    starts

pub items-loop-r-preserved-then-has_label : goal.items-loop-r-preserved-then-has_label
unfolding items_of and_then look next tape_items
items-loop-r-preserved-then-has_label t c =
    let (name, colon) = label-kinds c.loop-r.r.kinds.now c.loop-r.r.at c.has_label.ensures c.if-has_label.true in
    let x = c.take-label.ensures.moved in
    let y = c.take.ensures.moved in
    let w = c.write.ensures in
    turn (T.label c.loop-r.r.at) c.loop-r.invariant (omega arith) (omega arith) (w.same ∙ (y.same ∙ x.same))
    (w.name ∙ (y.name ∙ x.name))
    (λ f. rw (name, colon, ← x.there, ← x.same, ← y.there, ← y.same, ← w.same, ← w.here) refl)
    (λ v after b l k. l k ∙ rw (← x.events, ← y.events, ← x.tape, ← y.tape, ← c.take-label.ensures.token) (w.laid _))

pub items-returns-in_err-statement-clause-read : goal.items-returns-in_err-statement-clause-read
unfolding and_then
items-returns-in_err-statement-clause-read t c =
    let v = c.loop-r.invariant in
    let s = c.in_err-statement.ensures.read in
    rw (passed c.from_residual.ensures, v.rest, ← item-is c.loop-r.r.kinds.now c.loop-r.r.at c.has_label.ensures c.args.room v.fuel c.if-has_label.false (other c.kind.ensures.is c.loop-r-test.true), ← v.same, s.is) (stays s (omega arith))

pub items-returns-in_err-wanted-clause-read : goal.items-returns-in_err-wanted-clause-read
unfolding and_then
items-returns-in_err-wanted-clause-read t c =
    let v = c.loop-r.invariant in
    let s = c.in_ok-statement.ensures.read in
    let z = c.in_err-wanted.ensures.read in
    rw (passed c.from_residual-in_err-wanted.ensures, v.rest, ← item-is c.loop-r.r.kinds.now c.loop-r.r.at c.has_label.ensures c.args.room v.fuel c.if-has_label.false (other c.kind.ensures.is c.loop-r-test.true), ← v.same, s.is, ← s.same, z.is) (stays z (omega arith))

pub items-loop-r-preserved : goal.items-loop-r-preserved
unfolding and_then tape_items
items-loop-r-preserved t c =
    let s = c.in_ok-statement.ensures.read in
    let z = c.in_ok-wanted.ensures.read in
    let still = c.in_ok-wanted.ensures.still in
    turn (T.item s.what) c.loop-r.invariant (omega arith) (omega arith) (z.same ∙ s.same)
    (still.name ∙ c.in_ok-statement.ensures.same)
    (λ f. rw (← item-is c.loop-r.r.kinds.now c.loop-r.r.at c.has_label.ensures c.args.room f c.if-has_label.false (other c.kind.ensures.is c.loop-r-test.true), s.is, ← s.same, z.is, ← z.same) refl) (λ v after b l k. l k ∙ rw (still.events, still.tape) (s.laid _))

pub items-returns-clause-read : goal.items-returns-clause-read
unfolding items_of and_then look next tape_items
items-returns-clause-read t c =
    let v = c.loop-r.invariant in
    let x = c.take-2.ensures.moved in
    let w = c.write-2.ensures in
    rw (v.rest, same c.kind.ensures.is c.loop-r-test.false, ← v.same, ← x.there, ← x.same, ← w.same, ← w.here)
    (wrote (v.fits _ _ T.ended (λ k. rw (← x.events, ← x.tape) (w.laid k))) (omega arith) (omega arith))

pub procedure-returns-then-room-eq0-clause-read : goal.procedure-returns-then-room-eq0-clause-read
procedure-returns-then-room-eq0-clause-read t c =
    rw (← procedure-too-deep c.args.room c.args.r.now.kinds.now c.args.r.now.at c.if-room-eq0.true) record { is = refl; same = refl; onward = omega arith }

pub procedure-returns-in_err-procedure_head-clause-read : goal.procedure-returns-in_err-procedure_head-clause-read
unfolding and_then
procedure-returns-in_err-procedure_head-clause-read t c =
    let x = c.take.ensures.moved in
    let h = c.in_err-procedure_head.ensures.read in
    rw (passed c.from_residual.ensures, ← procedure-parts c.args.room c.args.r.now.kinds.now c.args.r.now.at c.if-room-eq0.false, ← x.there, ← x.same, h.is) (stays h (omega arith))

pub procedure-returns-in_err-statement-clause-read : goal.procedure-returns-in_err-statement-clause-read
unfolding and_then
procedure-returns-in_err-statement-clause-read t c =
    let x = c.take.ensures.moved in
    let h = c.in_ok-procedure_head.ensures.read in
    let s = c.in_err-statement.ensures.read in
    rw (passed c.from_residual-in_err-statement.ensures, ← procedure-parts c.args.room c.args.r.now.kinds.now c.args.r.now.at c.if-room-eq0.false, ← x.there, ← x.same, h.0.is, ← h.0.same, s.is) (stays s (omega arith))

pub procedure-returns-clause-read : goal.procedure-returns-clause-read
unfolding and_then
procedure-returns-clause-read t c =
    let x = c.take.ensures.moved in
    let h = c.in_ok-procedure_head.ensures.read in
    let s = c.in_ok-statement.ensures.read in
    let w = c.write.ensures in
    let e = rw c.at-name.ensures at w.laid in
    let g = rw (x.events, x.tape) at h.0.laid in
    rw (← procedure-parts c.args.room c.args.r.now.kinds.now c.args.r.now.at c.if-room-eq0.false, ← x.there, ← x.same, h.0.is, ← h.0.same, s.is, ← s.same, ← w.same, ← w.here)
    (wrote (λ k. e k ∙ (s.laid _ ∙ g _)) (omega arith) (omega arith))

pub statement-returns-then-room-eq0-clause-read : goal.statement-returns-then-room-eq0-clause-read
statement-returns-then-room-eq0-clause-read t c =
    rw (← too-deep c.args.room c.kind-k.ensures c.opens.ensures c.if-opens.true c.if-room-eq0.true) record { is = refl; same = refl; onward = omega arith }

pub statement-returns-then-k-eq-BEGIN-clause-read : goal.statement-returns-then-k-eq-BEGIN-clause-read
unfolding construct_of and_then look next tape_statement
statement-returns-then-k-eq-BEGIN-clause-read t c =
    let x = c.take-word.ensures.moved in
    let w = c.write.ensures in
    rw (← construct c.args.room c.kind-k.ensures c.opens.ensures c.if-opens.true c.if-room-eq0.false, same c.kind-k.ensures.is c.if-k-eq-BEGIN.true, ← x.there, ← x.same, ← w.same, ← w.here, ← c.take-word.ensures.token)
    (gives _ _ (T.block c.take-word.result) _ _ _ _ _ _ _ _ _ _ (omega arith) (omega arith)
    (λ b l k. l k ∙ rw (← x.events, ← x.tape) (w.laid _)) c.body.ensures.read)

pub statement-returns-then-k-eq-IF-clause-read : goal.statement-returns-then-k-eq-IF-clause-read
unfolding construct_of and_then look next
statement-returns-then-k-eq-IF-clause-read t c =
    let x = c.take-word.ensures.moved in
    rw (
      ← construct c.args.room c.kind-k.ensures c.opens.ensures c.if-opens.true c.if-room-eq0.false,
      same c.kind-k.ensures.is c.if-k-eq-IF.true,
      ← x.there,
      ← x.same,
      ← x.events,
      ← x.tape,
      ← c.take-word.ensures.token,
    )
    c.if_then.ensures.read

pub statement-returns-then-k-eq-WHILE-clause-read : goal.statement-returns-then-k-eq-WHILE-clause-read
unfolding construct_of and_then look next
statement-returns-then-k-eq-WHILE-clause-read t c =
    let x = c.take-word.ensures.moved in
    rw (
      ← construct c.args.room c.kind-k.ensures c.opens.ensures c.if-opens.true c.if-room-eq0.false,
      same c.kind-k.ensures.is c.if-k-eq-WHILE.true,
      ← x.there,
      ← x.same,
      ← x.events,
      ← x.tape,
      ← c.take-word.ensures.token,
    )
    c.while_do.ensures.read

pub statement-returns-then-k-eq-CASE-clause-read : goal.statement-returns-then-k-eq-CASE-clause-read
unfolding construct_of and_then look next
statement-returns-then-k-eq-CASE-clause-read t c =
    let x = c.take-word.ensures.moved in
    rw (
      ← construct c.args.room c.kind-k.ensures c.opens.ensures c.if-opens.true c.if-room-eq0.false,
      same c.kind-k.ensures.is c.if-k-eq-CASE.true,
      ← x.there,
      ← x.same,
      ← x.events,
      ← x.tape,
      ← c.take-word.ensures.token,
    )
    c.case_of.ensures.read

pub statement-returns-then-opens-clause-read : goal.statement-returns-then-opens-clause-read
unfolding construct_of and_then look next
statement-returns-then-opens-clause-read t c =
    let x = c.take-word.ensures.moved in
    rw (
      ← construct c.args.room c.kind-k.ensures c.opens.ensures c.if-opens.true c.if-room-eq0.false,
      ne_eqb _ _ (other c.kind-k.ensures.is c.if-k-eq-BEGIN.false),
      ne_eqb _ _ (other c.kind-k.ensures.is c.if-k-eq-IF.false),
      ne_eqb _ _ (other c.kind-k.ensures.is c.if-k-eq-WHILE.false),
      ne_eqb _ _ (other c.kind-k.ensures.is c.if-k-eq-CASE.false),
      ← x.there,
      ← x.same,
      ← x.events,
      ← x.tape,
      ← c.take-word.ensures.token,
    )
    c.for_do.ensures.read

pub statement-returns-clause-read : goal.statement-returns-clause-read
statement-returns-clause-read t c =
    rw (← no-construct c.args.room c.kind-k.ensures c.opens.ensures c.if-opens.false) c.simple.ensures.read

pub while_do-returns-in_err-head-clause-read : goal.while_do-returns-in_err-head-clause-read
unfolding and_then
while_do-returns-in_err-head-clause-read t c =
    let w = c.write.ensures in
    let h = c.in_err-head.ensures.read in rw (passed c.from_residual.ensures, ← while-parts (G.statement c.args.room) c.args.word c.args.r.now.kinds.now c.args.r.now.at, ← w.same, ← w.here, h.is) (stays h (omega arith))

pub while_do-returns-in_err-statement-clause-read : goal.while_do-returns-in_err-statement-clause-read
unfolding and_then
while_do-returns-in_err-statement-clause-read t c =
    let w = c.write.ensures in
    let h = c.in_ok-head.ensures.read in
    let s = c.in_err-statement.ensures.read in
    rw (passed c.from_residual-in_err-statement.ensures, ← while-parts (G.statement c.args.room) c.args.word c.args.r.now.kinds.now c.args.r.now.at, ← w.same, ← w.here, h.0.is, ← h.0.same, s.is) (stays s (omega arith))

pub while_do-returns-clause-read : goal.while_do-returns-clause-read
unfolding and_then tape_statement
while_do-returns-clause-read t c =
    let w = c.write.ensures in
    let h = c.in_ok-head.ensures.read in
    let s = c.in_ok-statement.ensures.read in
    let z = c.write-2.ensures in
    rw (← while-parts (G.statement c.args.room) c.args.word c.args.r.now.kinds.now c.args.r.now.at, ← w.same, ← w.here, h.0.is, ← h.0.same, s.is, ← s.same, ← z.same, ← z.here)
    (wrote (λ k. z.laid k ∙ (s.laid _ ∙ (h.0.laid _ ∙ w.laid _))) (omega arith) (omega arith))
