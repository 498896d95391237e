-- `tokens_of` lays the tokens of a text that the check has found to be without refusal and to fit. Assumes nothing.
use Rattle.std.proofs.Common.{Err}
use Rattle.std.proofs.lemmas.Result.{err_from_is_err_and}
use mathlib.Core.Path.{◌∙◌, sym, ap}
use native.Mathlib.Omega.{arith}
use Rattle.token.proofs.Readings.{stays, too_many, checked-limit, checked-count, all_read, unread-some}
use Rattle.token.specs.Answers.{summary_of}
use Rattle.token_lists.proofs.tokens_of.Goals as goal

pub returns-then-room_in-count : goal.returns-then-room_in-count
returns-then-room_in-count c =
    let s = c.args.src.now in
    too_many s _ (sym (ap summary_of c.in_ok-count.was) ∙ c.check_text.ensures) _
    (omega (arith, c.room_in.ensures, c.if-room_in-count.true))

pub lay_tokens-requires : goal.lay_tokens-requires
lay_tokens-requires c =
    let s = c.args.src.now in
    let e = sym (ap summary_of c.in_ok-count.was) ∙ c.check_text.ensures in
    (checked-limit s _ e, omega (arith, checked-count s _ e, c.room_in.ensures, c.if-room_in-count.false))

pub returns : goal.returns
returns c =
    let s = c.args.src.now in
    all_read s _ (sym (ap summary_of c.in_ok-count.was) ∙ c.check_text.ensures) _
    (omega (arith, c.room_in.ensures, c.if-room_in-count.false)) c.lay_tokens.ensures

pub returns-in_err-count : goal.returns-in_err-count
returns-in_err-count c =
    let p = err_from_is_err_and c.from_residual.result c.from_residual.ensures.1 in
    rw (p.1, p.2) (stays _ _ (Err c.in_err-count.field-0.0) (sym (ap summary_of c.in_err-count.was) ∙ c.check_text.ensures) (unread-some _))
