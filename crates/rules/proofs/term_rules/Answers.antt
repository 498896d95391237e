-- A term by its operator: a shift, a product, one that takes full operands only, or any other.
use Rattle.rules.proofs.Answers as answers
use Rattle.rules.proofs.term_rules.Goals as goal

pub returns-then-is_shift : goal.returns-then-is_shift
returns-then-is_shift c =
    λ f s e. answers.shifted f _ _ _ _ _ e c.is_shift.ensures c.if-is_shift.true (c.shift_rules.ensures f s)

pub returns-then-k-eq-TIMES : goal.returns-then-k-eq-TIMES
returns-then-k-eq-TIMES c =
    λ f s e.
    answers.multiplied f _ _ _ _ _ e c.is_shift.ensures c.if-is_shift.false
    c.if-k-eq-TIMES.true (c.product_rules.ensures f s) (c.operand_rules-operand.ensures f s) c.join.ensures

pub returns-then-is_full_only : goal.returns-then-is_full_only
returns-then-is_full_only c =
    λ f s e.
    answers.taken-full f _ _ _ _ _ e c.is_shift.ensures
    c.if-is_shift.false c.if-k-eq-TIMES.false
    c.is_full_only.ensures c.if-is_full_only.true
    (c.operand_rules-operand.ensures f s) (c.no_short.ensures f s) c.join-then-is_full_only.ensures

pub returns : goal.returns
returns c =
    λ f s e.
    answers.added f _ _ _ _ _ e c.is_shift.ensures c.if-is_shift.false
    c.if-k-eq-TIMES.false c.is_full_only.ensures c.if-is_full_only.false (c.operand_rules-operand.ensures f s)
