-- What stands open between two events of one assignment, use or declaration: the target; the name of the use and how many arguments it has had; or what the cells that
-- follow are, and which values of the last one are still to come. An event agrees with the events before it (`Suits`), and a pass that is handed numbers alone keeps what stands open.
use Rattle.std.specs.Prelude.{◌≡◌, List, [], ◌∷◌, ℕ, ◌+◌}
use Rattle.std.proofs.Math.Option.{Option}
use Rattle.grammar.specs.Tree.{Designator, Sign, plain, abs, neg, neg_abs, Width}
use Rattle.grammar.specs.Events.{Entry, named, celled, itemed, valued, based, Phrase, aimed, driven, signed, given, joined, tested, limited, called, applied, argued, counted, chosen, Event, edge, route, entry, phrase, mark}

pub data Context : Type 0 where
  nowhere : Context
  aiming : Designator → Context
  applying : (name position : ℕ) → Context
  declaring : (count : Option ℕ) → Width → (values : List ℕ) → Context

-- a value of a cell has come
abbrev pub later_values : Context → Context
later_values nowhere = nowhere
later_values (aiming d) = aiming d
later_values (applying n p) = applying n p
later_values (declaring n w []) = declaring n w []
later_values (declaring n w (t ∷ ts)) = declaring n w ts

abbrev pub entry_context : Entry → Context → Context
entry_context (named r) c = nowhere
entry_context (celled n w) c = declaring n w []
entry_context (itemed n w i) c = declaring n w i.numbers
entry_context (valued t) c = later_values c
entry_context (based n) c = nowhere

abbrev pub phrase_context : Phrase → Context → Context
phrase_context (aimed d) c = aiming d
phrase_context (driven d) c = aiming d
phrase_context (signed d g) c = c
phrase_context (given d a) c = c
phrase_context (joined d t) c = c
phrase_context (tested t x) c = nowhere
phrase_context (limited d v a) c = nowhere
phrase_context (called n) c = nowhere
phrase_context (applied n) c = applying n 0
phrase_context (argued n p a) c = applying n (p + 1)
phrase_context (counted n k) c = nowhere
phrase_context (chosen n) c = nowhere

abbrev pub context_after : Event → Context → Context
context_after (edge x) c = nowhere
context_after (route r) c = nowhere
context_after (entry d) c = entry_context d c
context_after (phrase f) c = phrase_context f c
context_after (mark m) c = nowhere

-- no value is still to come, and no end of a use
abbrev pub Complete : Context → Type 0
Complete nowhere = Unit {0}
Complete (aiming d) = Unit {0}
Complete (applying n p) = ⊥
Complete (declaring n w ts) = ts ≡ []

abbrev pub Aims : Designator → Context → Type 0
Aims d nowhere = ⊥
Aims d (aiming x) = x ≡ d
Aims d (applying n p) = ⊥
Aims d (declaring n w ts) = ⊥

-- a use of name n has had k arguments
abbrev pub Applies : (name position : ℕ) → Context → Type 0
Applies n k nowhere = ⊥
Applies n k (aiming x) = ⊥
Applies n k (applying m p) = (m ≡ n) × (p ≡ k)
Applies n k (declaring m v ts) = ⊥

abbrev pub Declares : Option ℕ → Width → Context → Type 0
Declares n w nowhere = ⊥
Declares n w (aiming x) = ⊥
Declares n w (applying m p) = ⊥
Declares n w (declaring m v ts) = (m ≡ n) × (v ≡ w) × (ts ≡ [])

abbrev pub Awaits : ℕ → Context → Type 0
Awaits t nowhere = ⊥
Awaits t (aiming x) = ⊥
Awaits t (applying m p) = ⊥
Awaits t (declaring n w []) = ⊥
Awaits t (declaring n w (u ∷ ts)) = u ≡ t

-- a sign that stands in the text
abbrev pub Shown : Sign → Type 0
Shown plain = ⊥
Shown (abs t) = Unit {0}
Shown (neg t) = Unit {0}
Shown (neg_abs t) = Unit {0}

abbrev pub EntrySuits : Entry → Context → Type 0
EntrySuits (named r) c = Complete c
EntrySuits (celled n w) c = Complete c
EntrySuits (itemed n w i) c = Declares n w c
EntrySuits (valued t) c = Awaits t c
EntrySuits (based n) c = Complete c

abbrev pub PhraseSuits : Phrase → Context → Type 0
PhraseSuits (aimed d) c = Complete c
PhraseSuits (driven d) c = Complete c
PhraseSuits (signed d g) c = Aims d c × Shown g
PhraseSuits (given d a) c = Aims d c
PhraseSuits (joined d t) c = Aims d c
PhraseSuits (tested t x) c = Complete c
PhraseSuits (limited d v a) c = Aims d c
PhraseSuits (called n) c = Complete c
PhraseSuits (applied n) c = Complete c
PhraseSuits (argued n p a) c = Applies n p c
PhraseSuits (counted n k) c = Applies n k c
PhraseSuits (chosen n) c = Complete c

abbrev pub Suits : Event → Context → Type 0
Suits (edge x) c = Complete c
Suits (route r) c = Complete c
Suits (entry d) c = EntrySuits d c
Suits (phrase f) c = PhraseSuits f c
Suits (mark m) c = Complete c

unfoldable pub Coherent : List Event → Context → Type 0
Coherent [] c = Complete c
Coherent (e ∷ es) c = Suits e c × Coherent es (context_after e c)
