-- `answer_text` reads the kinds of the tokens into a list with room for them, and then the program. Assumes nothing.
use Rattle.token.specs.Text.{number_of}
use Rattle.std.proofs.Common.{Err}
use mathlib.Core.Path.{◌≡◌, refl, ap, ◌∙◌}
use Rattle.token.specs.Answers.{Tokens}
use Rattle.token.specs.declared.Unread.{Unread}
use Rattle.parse.proofs.Texts.{kinds-read, judged-refused, some-room}
use Rattle.parse.proofs.answer_text.Goals as goal

pub answer_tokens-requires : goal.answer_tokens-requires
answer_tokens-requires c =
    (kinds-read _ c.read_kinds-read.ensures c.requires.0 c.in-Ok.is, c.requires.1)

in_err : {r : Tokens} {x e : Unread} → r ≡ Err x → x ≡ e → r ≡ Err e
in_err p q = p ∙ ap Err q

pub returns-in-Err-TooLong : goal.returns-in-Err-TooLong
returns-in-Err-TooLong c =
    let q = in_err c.in-Err-TooLong.is (rw c.in-Err-TooLong.is at c.in-Err-TooLong.field-0-is) in
    judged-refused _ c.read_kinds-read.ensures c.requires.0 0 q refl

pub returns-in-NoToken : goal.returns-in-NoToken
returns-in-NoToken c =
    let q = in_err c.in-Err-Refused.is (rw c.in-Err-Refused.is at c.in-Err-Refused.field-0-is) in
    judged-refused _ c.read_kinds-read.ensures c.requires.0 1 q (ap number_of c.in-NoToken.is)

pub returns-in-OutOfRange : goal.returns-in-OutOfRange
returns-in-OutOfRange c =
    let q = in_err c.in-Err-Refused.is (rw c.in-Err-Refused.is at c.in-Err-Refused.field-0-is) in
    judged-refused _ c.read_kinds-read.ensures c.requires.0 2 q (ap number_of c.in-OutOfRange.is)

pub returns-in-Err-Room : goal.returns-in-Err-Room
returns-in-Err-Room c =
    let q = in_err c.in-Err-Room.is (rw c.in-Err-Room.is at c.in-Err-Room.field-0-is) in
    absurd (some-room _ c.read_kinds-read.ensures c.requires.0 q)
