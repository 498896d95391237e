-- A base declaration opens the next segment and writes its register. Assumes nothing.
use mathlib.Core.Path.{refl, ap, ◌∙◌}
use Rattle.meanings.proofs.Views as views
use Rattle.ledger.specs.Book.{Thin, wide_of, thin_of}
use Rattle.meanings.specs.Flat.{view_of, changed}
use Prim.Native.Nat.{◌+◌}
use Rattle.static_rules.specs.Meanings.{write}
use Rattle.tables.specs.Packed.{packed_at}
use Rattle.meanings.proofs.open_base.Goals as goal

pub returns : goal.returns
returns c = (
  c.write.ensures (wide_of c.args.wide.now) (c.args.bases + 1)
      ∙ (ap (λ (b : Thin). changed (write c.args.own c.register.result)
      (view_of (wide_of c.args.wide.now) b (c.args.bases + 1))) c.put_opens.ensures
      ∙ views.base-opened (wide_of c.args.wide.now) (thin_of c.args.thin.now) c.args.bases c.args.own c.args.t _ _
      (c.meaning.ensures ∙ ap (λ (b : Thin). packed_at b.found (wide_of c.args.wide.now).means c.args.t)
      c.put_opens.ensures) c.register.ensures.0),
  refl,
)
