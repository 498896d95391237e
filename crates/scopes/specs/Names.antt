-- Document 01, "Names, cells, protected registers": which declaration each name means, refusals 6, 7 and 13 of names. Said of each event of the text, at the place
-- where it stands.
use Rattle.std.specs.Prelude.{List, [], ◌∷◌, ℕ, suc, eqb, ltb, get_or, set}
use Rattle.grammar.specs.Tree.{Statement}
use Rattle.grammar.specs.Events.{Event, uses, declares, events_of}
use Rattle.grammar.specs.Places.{within, body, Place, after, along}
use Rattle.scopes.specs.declared.Refusal.TheVariants.{NotFound, Twice, TooMany}
use Rattle.scopes.specs.Broken.{Ruling, rule, ◌⊕◌}
use Rattle.scopes.specs.Search.{around, in_block, find, innermost, enter}

-- "257th declared name … in the program"
abbrev pub most_names : ℕ
most_names = 256

-- what naming leaves: by the token of each name that is used, the token of its declaration, 0 for none; how many names were declared; the broken rules
pub record Named : Type 0 where
  pub found : List ℕ
  pub count : ℕ
  pub broken : Ruling

-- the names in force at a place, innermost block first, by the tokens that declare them: "R0 to R9 and RA to RF are declared in a block around the program", and the
-- standard functions beside them
abbrev pub names_in : Place → List (List ℕ)
names_in [] = around
names_in (within b ∷ p) = b.names ∷ names_in p
names_in (body n r ∷ p) = names_in p

-- "6: name … not found"
unfoldable pub note_found : ℕ → ℕ → Named → Named
note_found t d s = record { found = set s.found t d; count = s.count; broken = s.broken ⊕ rule (ltb 0 d) NotFound t }

module _ (keys : List ℕ) where
  -- "For a name's earlier declaration the search goes outward": only what stands earlier has been entered
  unfoldable pub use_name : ℕ → List (List ℕ) → Named → Named
  use_name t bs s = note_found t (find keys (get_or keys t 0) bs) s

  -- "7: declared … twice in a block"; "13: 257th declared name"
  unfoldable pub declare_name : ℕ → List (List ℕ) → Named → Named
  declare_name t bs s = record {
    found = s.found;
    count = suc s.count;
    broken = s.broken ⊕ rule (eqb (in_block keys (get_or keys t 0) (innermost bs) 0) 0) Twice t ⊕ rule (ltb s.count most_names) TooMany t;
  }

  unfoldable pub declare_names : List ℕ → List (List ℕ) → Named → Named
  declare_names [] bs s = s
  declare_names (t ∷ ts) bs s = declare_names ts (enter t bs) (declare_name t bs s)

  unfoldable pub use_names : List ℕ → List (List ℕ) → Named → Named
  use_names [] bs s = s
  use_names (t ∷ ts) bs s = use_names ts bs (use_name t bs s)

  -- what an event declares is in force for what it uses: "A procedure's name is known in its own body"
  unfoldable pub name_event : Event → Place → Named → Named
  name_event e p s = use_names (uses e) (names_in (after e p)) (declare_names (declares e) (names_in p) s)

  -- along the whole program, outside of which stands no block
  abbrev pub name_program : Statement → Named → Named
  name_program x s = along name_event (events_of x) [] s
