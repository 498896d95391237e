-- The second loop along the tape: labels are judged as they are set, and each GOTO is bound.
use Rattle.std.specs.Prelude.{◌≡◌, List, ℕ, eqb, get_or}
use Rattle.base.specs.Choose.{whether◌then◌else◌}
use Rattle.tape.specs.Events as E
use Rattle.tape.specs.Pass.{pass}
use Rattle.ledger.specs.Book.{Thin}
use Rattle.scopes.specs.Broken.{unbroken}
use Rattle.scopes.specs.Search.{find}
use Rattle.scopes.specs.Labels.{Labelled, note_label, set_label}
use Rattle.names.specs.Chains.{after, chain, blocks_in}
use Rattle.names.specs.Linking.{Linking, block_after, link_op}

pub record Labelling : Type 0 where
  pub block : ℕ
  pub labelled : Labelled

module _ (keys links outer : List ℕ) where
  unfoldable pub label_at : ℕ → ℕ → ℕ → Labelled → Labelled
  label_at op t block s =
      whether eqb op E.LABEL then set_label keys t (chain links (after links t)) s else
      whether eqb op E.GOTO then note_label t (find keys (get_or keys t 0) (blocks_in links outer block)) s else
      s

  unfoldable pub label_op : ℕ → ℕ → Labelling → Labelling
  label_op op t m = record { block = block_after op t outer m.block; labelled = label_at op t m.block m.labelled }

-- the loops, from whatever the lists hold
unfoldable pub linked : List ℕ → List ℕ → List ℕ → Linking
linked tape links outer = pass link_op (record { links = links; outer = outer; block = 0 }) tape

-- the chains are made, and what has been found stays
pub record Chained (tape : List ℕ) (before after : Thin) : Type 0 where
  pub links-are : after.opens ≡ (linked tape before.opens before.written).links
  pub outer-is : after.written ≡ (linked tape before.opens before.written).outer
  pub found-is : after.found ≡ before.found
  pub goes-is : after.goes ≡ before.goes

unfoldable pub labelled_by : List ℕ → List ℕ → List ℕ → List ℕ → List ℕ → Labelled
labelled_by tape keys links outer goes =
    (pass (label_op keys links outer) (record { block = 0; labelled = record { goes = goes; count = 0; broken = unbroken } }) tape).labelled

unfoldable pub labelled_along : List ℕ → List ℕ → List ℕ → List ℕ → List ℕ → Labelled
labelled_along tape keys links outer goes = labelled_by tape keys (linked tape links outer).links (linked tape links outer).outer goes
