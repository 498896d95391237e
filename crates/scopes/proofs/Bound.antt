-- In the tables that naming and labelling leave, the name of each call and of each GOTO was found in a block that is open where it stands, or not at all.
use mathlib.Core.Path.{◌≡◌, refl, sym, subst}
use mathlib.Core.Logic.{◌⊎◌, inl, inr}
use mathlib.Core.List.{List, [], ◌∷◌}
use mathlib.Core.Bool.{Bool, true, false}
use Prim.Native.Nat.{ℕ}
use lib.Dec.{eqb}
use lib.ListN.{get_or}
use Rattle.base.specs.Choose.{whether◌then◌else◌}
use Rattle.base.specs.Lists.{◌∈◌}
use Rattle.grammar.specs.Events.{Route, labelled, sent, Phrase, aimed, driven, signed, given, joined, tested, limited, called, applied, argued, counted, chosen, Event, edge, route, entry, phrase, mark}
use Rattle.grammar.specs.Places.{Place, Along}
use Rattle.grammar.proofs.Places.{along-with}
use Rattle.scopes.specs.Search.{in_block, find}
use Rattle.scopes.specs.Names.{names_in}
use Rattle.scopes.specs.Labels.{labels_in}
use Rattle.scopes.specs.Found.{Found, LedRoute, Led}

-- in one of the blocks
unfoldable pub Within : ℕ → List (List ℕ) → Type 0
Within d [] = ⊥
Within d (b ∷ bs) = (d ∈ b) ⊎ Within d bs

abbrev pub Bound : ℕ → List (List ℕ) → Type 0
Bound d bs = (d ≡ 0) ⊎ Within d bs

-- of each call and of each GOTO: what it names was found in a block that is open at its place, or not at all
module _ (found goes : List ℕ) where
  abbrev pub GoesPhrase : Phrase → Place → Type 0
  GoesPhrase (aimed d) p = Unit {0}
  GoesPhrase (driven d) p = Unit {0}
  GoesPhrase (signed d g) p = Unit {0}
  GoesPhrase (given d a) p = Unit {0}
  GoesPhrase (joined d t) p = Unit {0}
  GoesPhrase (tested t c) p = Unit {0}
  GoesPhrase (limited d v a) p = Unit {0}
  GoesPhrase (called n) p = Bound (get_or found n 0) (names_in p)
  GoesPhrase (applied n) p = Unit {0}
  GoesPhrase (argued n q a) p = Unit {0}
  GoesPhrase (counted n k) p = Unit {0}
  GoesPhrase (chosen n) p = Unit {0}

  abbrev pub GoesRoute : Route → Place → Type 0
  GoesRoute (labelled l) p = Unit {0}
  GoesRoute (sent t n) p = Bound (get_or goes n 0) (labels_in p)

  abbrev pub Goes : Event → Place → Type 0
  Goes (edge x) p = Unit {0}
  Goes (route r) p = GoesRoute r p
  Goes (entry d) p = Unit {0}
  Goes (phrase f) p = GoesPhrase f p
  Goes (mark m) p = Unit {0}

module _ (keys : List ℕ) where
  -- in the block, or what is found further out
  in-block : (key : ℕ) (b : List ℕ) (further : ℕ) → (in_block keys key b further ∈ b) ⊎ (in_block keys key b further ≡ further)
  unfolding in_block
  in-block key [] further = inr refl
  in-block key (d ∷ ds) further = go (eqb (get_or keys d 0) key) (in-block key ds further)
    where
      go : (e : Bool) → (in_block keys key ds further ∈ ds) ⊎ (in_block keys key ds further ≡ further)
          → ((whether e then d else in_block keys key ds further) ∈ (d ∷ ds)) ⊎ ((whether e then d else in_block keys key ds further) ≡ further)
      go true h = inl (inl refl)
      go false (inl h) = inl (inr h)
      go false (inr h) = inr h

  find-bound : (key : ℕ) (bs : List (List ℕ)) → Bound (find keys key bs) bs
  unfolding find Within
  find-bound key [] = inl refl
  find-bound key (b ∷ bs) = go (in-block key b (find keys key bs)) (find-bound key bs)
    where
      go : (in_block keys key b (find keys key bs) ∈ b) ⊎ (in_block keys key b (find keys key bs) ≡ find keys key bs) → Bound (find keys key bs) bs
          → Bound (in_block keys key b (find keys key bs)) (b ∷ bs)
      go (inl h) k = inr (inl h)
      go (inr h) k = outer (subst (λ (d : ℕ). Bound d bs) (sym h) k)
        where
          outer : {d : ℕ} → Bound d bs → Bound d (b ∷ bs)
          outer (inl e) = inl e
          outer (inr i) = inr (inr i)

  -- so is an entry that has what the search finds
  pub by-search : (d key : ℕ) (bs : List (List ℕ)) → d ≡ find keys key bs → Bound d bs
  by-search d key bs e = subst (λ (d : ℕ). Bound d bs) (sym e) (find-bound key bs)

  module _ (found goes : List ℕ) where
    goes-phrase : (f : Phrase) (p : Place) → Found keys found (phrase f) p → GoesPhrase found goes f p
    goes-phrase (aimed d) p h = tt
    goes-phrase (driven d) p h = tt
    goes-phrase (signed d g) p h = tt
    goes-phrase (given d a) p h = tt
    goes-phrase (joined d t) p h = tt
    goes-phrase (tested t c) p h = tt
    goes-phrase (limited d v a) p h = tt
    goes-phrase (called n) p h = by-search _ _ (names_in p) h.0
    goes-phrase (applied n) p h = tt
    goes-phrase (argued n q a) p h = tt
    goes-phrase (counted n k) p h = tt
    goes-phrase (chosen n) p h = tt

    goes-route : (r : Route) (p : Place) → LedRoute keys goes r p → GoesRoute found goes r p
    goes-route (labelled l) p h = tt
    goes-route (sent t n) p h = by-search _ _ (labels_in p) h

    goes-event : (e : Event) (p : Place) → Found keys found e p → Led keys goes e p → Goes found goes e p
    goes-event (edge x) p h l = tt
    goes-event (route r) p h l = goes-route r p l
    goes-event (entry d) p h l = tt
    goes-event (phrase f) p h l = goes-phrase f p h
    goes-event (mark m) p h l = tt

    pub goes-along : (es : List Event) (p : Place) → Along (Found keys found) es p → Along (Led keys goes) es p → Along (Goes found goes) es p
    goes-along es p h l = along-with (Found keys found) (Led keys goes) (Goes found goes) goes-event es p h l
