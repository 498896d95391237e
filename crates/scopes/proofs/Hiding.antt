-- A label of the block that a GOTO stands in is found before those outside, whether it has been set or is still to come; and a block may declare again what blocks
-- around it have. Assumes nothing.
use mathlib.Core.Path.{◌≡◌}
use mathlib.Core.List.{List, [], ◌∷◌}
use Prim.Native.Nat.{ℕ, suc, ◌<◌}
use native.Mathlib.Omega.{arith}
use lib.Dec.{eqb, ltb}
use lib.ListN.{get_or}
use borrow.Author.Tests.{eq-eqb, lt-ltb}
use Rattle.base.proofs.Tests.{cases}
use Rattle.grammar.specs.Places.{Block, within, Place}
use Rattle.scopes.specs.declared.Refusal.TheVariants.{Twice, TooMany}
use Rattle.scopes.specs.Broken.{unbroken}
use Rattle.scopes.specs.Search.{in_block, find, innermost}
use Rattle.scopes.specs.Names.{Named, most_names, declare_name}
use Rattle.scopes.specs.Labels.{labels_in}
use Rattle.scopes.proofs.Joins.{rule-true, join-right}

module _ (keys : List ℕ) where
  -- what a block has is found there, whatever is found further out
  found_here : (key : ℕ) (ds : List ℕ) (further l : ℕ) → in_block keys key ds 0 ≡ suc l → in_block keys key ds further ≡ suc l
  unfolding in_block
  found_here key [] further l e = absurd (omega arith)
  found_here key (d ∷ ds) further l e =
      let rest = found_here key ds further l in
      cases (eqb (get_or keys d 0) key) (λ t. rw t (rw t at e)) (λ t. rw t (rest (rw t at e)))

  -- "binding GOTO to an outer label that an inner, later one hides" is ruled out
  pub inner-hides : (b : Block) (p : Place) (key l : ℕ) → in_block keys key b.labels 0 ≡ suc l → find keys key (labels_in (within b ∷ p)) ≡ suc l
  unfolding find
  inner-hides b p key l e = found_here key b.labels (find keys key (labels_in p)) l e

  -- "7: declared … twice in a block": what blocks around it have may be declared again
  pub may-repeat : (t : ℕ) (bs : List (List ℕ)) (s : Named) → in_block keys (get_or keys t 0) (innermost bs) 0 ≡ 0 → s.count < most_names → (declare_name keys t bs s).broken ≡ s.broken
  unfolding declare_name
  may-repeat t bs s e h =
      let once = rule-true (eqb (in_block keys (get_or keys t 0) (innermost bs) 0) 0) Twice t (eq-eqb _ 0 e) in
      rw (once, rule-true (ltb s.count most_names) TooMany t (lt-ltb _ _ h), join-right unbroken) (join-right s.broken)
