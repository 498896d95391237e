-- `find` searches the first literals: the place of the first that is equal, or their number. Assumes nothing.
use Rattle.std.proofs.Common.{rules, ◌≡◌, ℕ, take, tests, sym, ap, ◌∙◌, Option}
use Rattle.std.proofs.lemmas.Iterator.Search.{position_from_yields_List}
use Rattle.std.proofs.lemmas.Iterator.{YieldsList-from_slice}
use Rattle.std.specs.List.{position}
use Rattle.std.specs.Option.{unwrap_or}
use lib.Dec.{eqb}
use lib.Seq.{length-take-le}
use Rattle.code.proofs.Coding.{found_is}
use Rattle.code.proofs.find.Goals as goal

pub returns : goal.returns
returns c =
    let e : c.position.result ≡ position (λ (x : ℕ). eqb x c.args.v) (take c.args.count c.args.literals.now) =
    position_from_yields_List (λ (x : ℕ). eqb x c.args.v) _ _ c.position.result c.position.ensures.ran (YieldsList-from_slice _ c.iter.ensures.rest) (λ x b q k. search (rules, tests)) in
    found_is c.args.v (take c.args.count c.args.literals.now) c.args.count c.unwrap_or.result (sym (length-take-le c.args.count c.args.literals.now c.requires))
    (c.unwrap_or.ensures ∙ ap (λ (o : Option ℕ). unwrap_or o c.args.count) e)
