-- Document 01, "Names, cells, protected registers": refusals 8 to 12 over the whole text. Said of each event, where it stands, by the tables that stand when the
-- whole text has been read: what follows a broken rule has some meaning, and only later places can change by it.
use Rattle.std.specs.Prelude.{List, [], ◌∷◌, ◌++◌, map, ℕ}
use Rattle.grammar.specs.Tree.{Statement}
use Rattle.grammar.specs.Events.{Edge, opened, closed, entered, left, Entry, named, celled, itemed, valued, based, Phrase, aimed, driven, signed, given, joined, tested, limited, called, applied, argued, counted, chosen, Event, edge, route, entry, phrase, mark, events_of}
use Rattle.grammar.specs.Places.{within, body, Place, along}
use Rattle.scopes.specs.declared.Refusal.TheVariants.{WrongRegister}
use Rattle.scopes.specs.Broken.{Ruling, unbroken, rule, ◌⊕◌}
use Rattle.static_rules.specs.Meaning.{register_of, argument_of}
use Rattle.static_rules.specs.Meanings.{count_of}
use Rattle.static_rules.specs.Tables.{Tables, value_at, meaning_at}
use Rattle.static_rules.specs.Rules.{protected, in_range, register_rule, zero_rule, operand_rules, target_rules, control_rules, sign_by, first_by, term_by, condition_rules, call_rules, argument_rules, count_by, taken_rules, count_rule, value_rules, base_rules}

module _ (f : Tables) where
  -- "Protected at a point: 15, 14, the bases of enclosing blocks declared so far, the return registers of enclosing procedures."
  abbrev pub kept_in : Place → List ℕ
  kept_in [] = protected
  kept_in (within b ∷ p) = map (λ (n : ℕ). register_of (meaning_at f n)) b.bases ++ kept_in p
  kept_in (body n r ∷ p) = register_of (meaning_at f r) ∷ kept_in p

  -- a return register
  abbrev pub edge_rules : Edge → Ruling
  edge_rules (opened t ls) = unbroken
  edge_rules (closed t) = unbroken
  edge_rules (entered n r) = register_rule f r ⊕ zero_rule f r
  edge_rules (left n) = unbroken

  -- "9: register not 0 to 15"; a value is judged with its cell, which has the count and the width
  abbrev pub entry_rules : Entry → Place → Ruling
  entry_rules (named r) p = rule (in_range 0 15 (value_at f r.number)) WrongRegister r.number
  entry_rules (celled c w) p = count_rule f c
  entry_rules (itemed c w i) p = value_rules f w (count_of f.values c) i.numbers
  entry_rules (valued t) p = unbroken
  entry_rules (based n) p = base_rules f (kept_in p) n

  abbrev pub phrase_rules : Phrase → Place → Ruling
  phrase_rules (aimed d) p = target_rules f (kept_in p) d
  phrase_rules (driven d) p = control_rules f (kept_in p) d
  phrase_rules (signed d g) p = sign_by (meaning_at f d.name) g
  phrase_rules (given d a) p = first_by f (meaning_at f d.name) a
  phrase_rules (joined d t) p = term_by f (meaning_at f d.name) (kept_in p) t
  phrase_rules (tested t c) p = condition_rules f c
  phrase_rules (limited d v a) p = operand_rules f a
  phrase_rules (called n) p = call_rules f (kept_in p) n
  phrase_rules (applied n) p = unbroken
  phrase_rules (argued n q a) p = argument_rules f (kept_in p) (argument_of (meaning_at f n) q) a
  phrase_rules (counted n k) p = count_by (meaning_at f n) n k
  phrase_rules (chosen n) p = taken_rules f (kept_in p) n

  -- the rules of an event at its place
  abbrev pub rules_at : Event → Place → Ruling
  rules_at (edge x) p = edge_rules x
  rules_at (route r) p = unbroken
  rules_at (entry d) p = entry_rules d p
  rules_at (phrase x) p = phrase_rules x p
  rules_at (mark m) p = unbroken

  unfoldable pub rule_event : Event → Place → Ruling → Ruling
  rule_event e p s = s ⊕ rules_at e p

  abbrev pub rules_of : Statement → Ruling
  rules_of x = along rule_event (events_of x) [] unbroken
