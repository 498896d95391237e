-- What is settled of a text's broken rules is what the definition says of them. Assumes nothing.
use mathlib.Core.Path.{◌≡◌, ap, ◌∙◌}
use mathlib.Core.List.{List}
use Rattle.token.specs.declared.Token.{Token}
use Rattle.grammar.specs.Tree.{Statement}
use Rattle.ledger.specs.Book.{Wide, Thin}
use Rattle.scopes.specs.Broken.{Ruling, ◌⊕◌}
use Rattle.scopes.proofs.Joins.{join-assoc}
use Rattle.static_rules.specs.Kinds.{rules_of}
use Rattle.translation.specs.Layout.{layout, place_cells}
use Rattle.translation.specs.Translate.{named, labelled, make}
use Rattle.settled.specs.declared.Judged.{Judged}
use Rattle.settled.specs.Texts.{Bound, meant_in, tables_in, Settled}

pub broken-is : (ts : List Token) (x : Statement) (others : Ruling) (r : Judged) (w : Wide) (b₀ b : Thin) → Bound ts x b₀ others → Settled ts x w b others r → r.broken ≡ (make ts x).broken
unfolding make layout
broken-is ts x others r w b₀ b d s =
    let k = rules_of (tables_in ts x) x in
    let y = (place_cells (meant_in ts x).bases (meant_in ts x).cells).broken in
    s.broken-is ∙ (ap (λ (o : Ruling). (o ⊕ k) ⊕ y) d.broken-is
    ∙ (join-assoc ((named ts x).broken ⊕ (labelled ts x).broken) k y ∙ join-assoc (named ts x).broken (labelled ts x).broken (k ⊕ y)))
