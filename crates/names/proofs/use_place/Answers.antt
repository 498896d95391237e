-- `use_place` uses a name, and its index, by the shape. Assumes nothing.
use Rattle.tape.specs.Events as E
use Rattle.names.specs.Flat.{Searching, naming}
use Rattle.scopes.specs.Names.{use_name}
use Rattle.ledger.specs.Book.{wide_of}
use Prim.Native.Nat.{◌+◌}
use mathlib.Core.Path.{ap, ◌∙◌}
use Rattle.names.specs.Naming.{use_place}
use borrow.Author.Tests.{eq-eqb, ne_eqb, lt-ltb, le-ltb}
use Rattle.names.proofs.use_place.Goals as goal

pub returns-then-shape-gt-SUBSCRIPTED_INDEXED : goal.returns-then-shape-gt-SUBSCRIPTED_INDEXED
unfolding use_place
returns-then-shape-gt-SUBSCRIPTED_INDEXED c =
    rw (lt-ltb E.SUBSCRIPTED-INDEXED _ c.if-shape-gt-SUBSCRIPTED_INDEXED.true)

pub returns-then-shape-lt-INDEXED : goal.returns-then-shape-lt-INDEXED
unfolding use_place
returns-then-shape-lt-INDEXED c =
    rw (le-ltb E.SUBSCRIPTED-INDEXED _ c.if-shape-gt-SUBSCRIPTED_INDEXED.false, lt-ltb _ E.INDEXED c.if-shape-lt-INDEXED.true) c.use_name.ensures

pub returns-then-shape-eq-INDEXED : goal.returns-then-shape-eq-INDEXED
unfolding use_place
returns-then-shape-eq-INDEXED c =
    rw (
      le-ltb E.SUBSCRIPTED-INDEXED _ c.if-shape-gt-SUBSCRIPTED_INDEXED.false,
      le-ltb _ E.INDEXED c.if-shape-lt-INDEXED.false,
      eq-eqb _ E.INDEXED c.if-shape-eq-INDEXED.true,
    ) (c.use_name-then-shape-eq-INDEXED.ensures
    ∙ ap (λ (s : Searching). naming c.args.b
    (use_name (wide_of c.args.wide.now).values
    (c.args.t + 2)) s)
    c.use_name.ensures)

pub returns : goal.returns
unfolding use_place
returns c =
    rw (
      le-ltb E.SUBSCRIPTED-INDEXED _ c.if-shape-gt-SUBSCRIPTED_INDEXED.false,
      le-ltb _ E.INDEXED c.if-shape-lt-INDEXED.false,
      ne_eqb _ E.INDEXED c.if-shape-eq-INDEXED.false,
    ) (c.use_name-2.ensures
    ∙ ap (λ (s : Searching). naming c.args.b
    (use_name (wide_of c.args.wide.now).values
    (c.args.t + 5)) s)
    c.use_name.ensures)
