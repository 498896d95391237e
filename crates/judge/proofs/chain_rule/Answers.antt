-- A term is judged by the target: nothing, a cell, or the register of the chain.
use Rattle.judge.specs.Along.{chain_rule}
use Rattle.judge.proofs.chain_rule.Goals as goal

pub returns-in-Unfit : goal.returns-in-Unfit
unfolding chain_rule
returns-in-Unfit c =
    λ f s. rw c.in-Unfit.is

pub returns-in-Cell : goal.returns-in-Cell
unfolding chain_rule
returns-in-Cell c =
    λ f s. rw (c.in-Cell.is, ← c.saturating_sub-operator.ensures) c.at.ensures

pub returns-in-Register : goal.returns-in-Register
unfolding chain_rule
returns-in-Register c =
    λ f s.
    rw c.in-Register.is (c.term_rules.ensures f s.listed (rw (s.kinds-is, ← c.saturating_sub-operator.ensures) c.kind-k.ensures))
