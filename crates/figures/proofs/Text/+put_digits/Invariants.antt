-- `put_digits` writes the digits in front, then the last. The measure: the places. Assumes nothing.
use Rattle.figures.proofs.Text.+put_digits.Given as goal

abbrev pub decreases-put_digits : goal.decreases-put_digits
decreases-put_digits l = l.k
