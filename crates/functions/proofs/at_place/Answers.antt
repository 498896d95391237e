-- The table is the definition's, row by row; past it there is no function.
use Rattle.std.proofs.Common.{ap, ◌∙◌, sym, arith, map}
use Rattle.std.proofs.Math.ListN.{get_or-map}
use Rattle.std.proofs.Math.ListN.{get_or-eq_default}
use Rattle.std.proofs.lemmas.List.{get_or_default}
use Rattle.static_rules.specs.Functions.{function_table, no_function, function_at}
use Rattle.functions.specs.Arguments.{coded}
use Rattle.functions.proofs.at_place.Goals as goal

pub returns-then-k-lt9 : goal.returns-then-k-lt9
unfolding function_at
returns-then-k-lt9 c =
    get_or_default (map coded function_table) c.args.k _ (coded no_function) c.if-k-lt9.true ∙ get_or-map coded function_table c.args.k no_function

pub returns-else-k-lt9 : goal.returns-else-k-lt9
unfolding function_at
returns-else-k-lt9 c =
    ap coded (sym (get_or-eq_default function_table no_function {n = c.args.k} (omega (arith, c.if-k-lt9.false))))
