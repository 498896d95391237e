-- The loop over digits: `value_on`, one digit more in a number that is cut off. Assumes nothing.
use Rattle.std.proofs.Common.{◌≡◌, ℕ, ◌+◌, ◌*◌, ◌<◌, min, List, length, get_or, take, ◌∙◌}
use Rattle.base.specs.Numbers.{number_from}
use Rattle.base.proofs.Numbers.{min-on, number_more}
use Rattle.lines.specs.Decimal.{digit_of}

pub value_on : (C : ℕ) (s : List ℕ) (i v d r : ℕ) → v ≡ min C (number_from digit_of 10 0 (take i s)) → i < length s → d ≡ digit_of (get_or s i 0) → r ≡ min C (v * 10 + d)
    → r ≡ min C (number_from digit_of 10 0 (take (i + 1) s))
value_on C s i v d r e h q f = f ∙ rw (e, q, number_more digit_of 10 s i h) (min-on C 10 (number_from digit_of 10 0 (take i s)) (digit_of (get_or s i 0)))
