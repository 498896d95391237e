-- Document 01, "Names, cells, protected registers": which label each GOTO means, refusals 6, 7 and 13 of labels. "Labels are a separate set, found forward or
-- backward in enclosing blocks, but never past the edge of a procedure body."
use Rattle.std.specs.Prelude.{List, [], ◌∷◌, ℕ, suc, eqb, ltb, get_or, set}
use Rattle.grammar.specs.Tree.{Statement}
use Rattle.grammar.specs.Events.{Route, labelled, sent, Event, edge, route, entry, phrase, mark, events_of}
use Rattle.grammar.specs.Places.{within, body, Place, along}
use Rattle.scopes.specs.declared.Refusal.TheVariants.{NotFound, Twice, TooMany}
use Rattle.scopes.specs.Broken.{Ruling, rule, ◌⊕◌}
use Rattle.scopes.specs.Search.{in_block, find}

-- "257th label, in the program"
abbrev pub most_labels : ℕ
most_labels = 256

-- by the token of the name after each GOTO, the token of the label that it means, 0 for none; how many labels were set; the broken rules
pub record Labelled : Type 0 where
  pub goes : List ℕ
  pub count : ℕ
  pub broken : Ruling

-- the labels in force at a place, innermost block first: "found forward or backward in enclosing blocks", so all labels of each; "never past the edge of a procedure body"
abbrev pub labels_in : Place → List (List ℕ)
labels_in [] = []
labels_in (within b ∷ p) = b.labels ∷ labels_in p
labels_in (body n r ∷ p) = []

-- the labels that have been set in the innermost block
abbrev pub labels_set : Place → List ℕ
labels_set [] = []
labels_set (within b ∷ p) = b.set
labels_set (body n r ∷ p) = []

-- "6: … label not found"
unfoldable pub note_label : ℕ → ℕ → Labelled → Labelled
note_label t l s = record { goes = set s.goes t l; count = s.count; broken = s.broken ⊕ rule (ltb 0 l) NotFound t }

module _ (keys : List ℕ) where
  -- "7: … label set, twice in a block", among those set before in it; "13: … 257th label"
  unfoldable pub set_label : ℕ → List ℕ → Labelled → Labelled
  set_label l earlier s = record {
    goes = s.goes;
    count = suc s.count;
    broken = s.broken ⊕ rule (eqb (in_block keys (get_or keys l 0) earlier 0) 0) Twice l ⊕ rule (ltb s.count most_labels) TooMany l;
  }

  abbrev pub label_route : Route → Place → Labelled → Labelled
  label_route (labelled l) p s = set_label l (labels_set p) s
  label_route (sent t n) p s = note_label n (find keys (get_or keys n 0) (labels_in p)) s

  unfoldable pub label_event : Event → Place → Labelled → Labelled
  label_event (edge x) p s = s
  label_event (route r) p s = label_route r p s
  label_event (entry d) p s = s
  label_event (phrase f) p s = s
  label_event (mark m) p s = s

  abbrev pub label_program : Statement → Labelled → Labelled
  label_program x s = along label_event (events_of x) [] s
