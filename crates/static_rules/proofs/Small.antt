-- Where no rule is broken, every register that a name means is one of 0 to 15, and so are the bases of cells and the return registers of procedures; a cell
-- has at least one element.
use mathlib.Core.Path.{sym, subst}
use mathlib.Core.List.{List, [], ◌∷◌, ◌++◌, map}
use mathlib.Core.Option.{Option, none, some}
use Prim.Native.Nat.{ℕ, ◌<◌, ◌≤◌}
use native.Mathlib.Omega.{arith}
use lib.ListN.{get_or, replicate}
use Rattle.base.specs.Lists.{All}
use Rattle.base.proofs.Lists.{all_set, all_get_d, all_replicate, all_both}
use Rattle.grammar.specs.Tree.{Statement}
use Rattle.grammar.specs.Events.{Entry, named, celled, itemed, valued, based, Phrase, aimed, driven, signed, given, joined, tested, limited, called, applied, argued, counted, chosen, Event, edge, route, entry, phrase, mark, events_of}
use Rattle.grammar.specs.Places.{within, body, Place, Along}
use Rattle.grammar.specs.Contexts.{Context, nowhere, aiming, applying, declaring, context_after, phrase_context, Suits}
use Rattle.grammar.proofs.Contexts.{program-coherent, along-keeps-in}
use Rattle.scopes.proofs.Joins.{rule-holds}
use Rattle.static_rules.specs.Registers.{sixteen}
use Rattle.static_rules.specs.Functions.{nine}
use Rattle.static_rules.specs.Meaning.{Meaning, nothing, register, cell, routine, function, meaning_of, register_of}
use Rattle.static_rules.specs.Meanings.{Meant, write, open_base, add_cell, count_of, cell_of, meaning_in, newest, base_in, mean_event, mean_program, standard}
use Rattle.static_rules.specs.Tables.{Tables, value_at}
use Rattle.static_rules.specs.Rules.{in_range, most_elements}
use Rattle.static_rules.proofs.Elements.{in-range}
use Rattle.static_rules.proofs.Heeds.{Heeds, enters, names, adds, opens, other, heeds}
use Rattle.static_rules.proofs.Unbroken.{Unbroken}
use Rattle.scopes.specs.declared.Refusal.TheVariants.{WrongRegister, OutOfBounds}

abbrev pub Small : Meaning → Type 0
Small nothing = Unit {0}
Small (register r) = r < 16
Small (cell c) = (c.base.register < 16) × (1 ≤ c.elements)
Small (routine r) = r < 16
Small (function k) = k < 9

abbrev pub AllSmall : Meant → Type 0
AllSmall s = All Small s.means

pub register-small : (m : Meaning) → Small m → register_of m < 16
register-small nothing h = omega arith
register-small (register r) h = h
register-small (cell c) h = omega arith
register-small (routine r) h = omega arith
register-small (function k) h = omega arith

pub meaning-small : (found : List ℕ) (ms : List Meaning) (t : ℕ) → All Small ms → Small (meaning_of found ms t)
meaning-small found ms t h = all_get_d Small ms (get_or found t 0) nothing h tt

pub standard-small : (n : ℕ) → AllSmall (standard n)
standard-small n = (
  tt,
  all_both Small (map register sixteen) (map function nine ++ replicate n nothing) registers
      (all_both Small (map function nine) (replicate n nothing) functions (all_replicate Small n nothing tt)),
)
  where
    registers : All Small (map register sixteen)
    registers = omega arith

    functions : All Small (map function nine)
    functions = omega arith

module _ (f : Tables) where
  -- the register of the name at token t, in tables that are small
  named_small : (s : Meant) (t : ℕ) → AllSmall s → register_of (meaning_in f.found s t) < 16
  named_small s t h = register-small (meaning_in f.found s t) (meaning-small f.found s.means t h)

  base-small : (s : Meant) (p : Place) → AllSmall s → (base_in f.found s p).register < 16
  base-small s [] h = omega arith
  base-small s (within b ∷ p) h = go b.bases (base-small s p h)
    where
      go : (ns : List ℕ) → (base_in f.found s p).register < 16 → (newest f.found s ns (base_in f.found s p)).register < 16
      go [] k = k
      go (n ∷ ns) k = named_small s n h
  base-small s (body n r ∷ p) h = base-small s p h

  -- the count of the cells that are being declared
  abbrev Counted : Context → Type 0
  Counted nowhere = Unit {0}
  Counted (aiming d) = Unit {0}
  Counted (applying n p) = Unit {0}
  Counted (declaring n w ts) = 1 ≤ count_of f.values n

  counted-entry : (d : Entry) (p : Place) (c : Context) → Unbroken f (entry d) p → Suits (entry d) c → Counted c → Counted (context_after (entry d) c)
  counted-entry (named r) p c q u h = tt
  counted-entry (celled none w) p c q u h = omega arith
  counted-entry (celled (some t) w) p c q u h = (in-range 1 most_elements (value_at f t) (rule-holds (in_range 1 most_elements (value_at f t)) OutOfBounds t q)).0
  counted-entry (itemed n w i) p (declaring m v ts) q u h = subst (λ (k : Option ℕ). 1 ≤ count_of f.values k) u.0 h
  counted-entry (valued t) p (declaring m v (x ∷ ts)) q u h = h
  counted-entry (based n) p c q u h = tt
  counted-entry (itemed n w i) p nowhere q u h = elim u [ ]
  counted-entry (itemed n w i) p (aiming _) q u h = elim u [ ]
  counted-entry (itemed n w i) p (applying name position) q u h = elim u [ ]
  counted-entry (valued t) p nowhere q u h = elim u [ ]
  counted-entry (valued t) p (aiming _) q u h = elim u [ ]
  counted-entry (valued t) p (applying name position) q u h = elim u [ ]
  counted-entry (valued t) p (declaring m v []) q u h = elim u [ ]

  counted-phrase : (x : Phrase) (c : Context) → Counted c → Counted (phrase_context x c)
  counted-phrase (aimed d) c h = tt
  counted-phrase (driven d) c h = tt
  counted-phrase (signed d g) c h = h
  counted-phrase (given d a) c h = h
  counted-phrase (joined d t) c h = h
  counted-phrase (tested t x) c h = tt
  counted-phrase (limited d v a) c h = tt
  counted-phrase (called n) c h = tt
  counted-phrase (applied n) c h = tt
  counted-phrase (argued n q a) c h = tt
  counted-phrase (counted n k) c h = tt
  counted-phrase (chosen n) c h = tt

  counted-event : (e : Event) (p : Place) (c : Context) → Unbroken f e p → Suits e c → Counted c → Counted (context_after e c)
  counted-event (edge x) p c q u h = tt
  counted-event (route x) p c q u h = tt
  counted-event (entry x) p c q u h = counted-entry x p c q u h
  counted-event (phrase x) p c q u h = counted-phrase x c h
  counted-event (mark x) p c q u h = tt

  record SmallIn (c : Context) (s : Meant) : Type 0 where
    means : AllSmall s
    count : Counted c

  heeds-small : {p : Place} {s t : Meant} {e : Event} → Heeds f.kinds f.values f.found p s e t → (c : Context) → Unbroken f e p → Suits e c → SmallIn c s → AllSmall t
  unfolding open_base write add_cell
  heeds-small {p} {s} (enters n r) c q u h = all_set Small s.means n (routine (register_of (meaning_in f.found s r))) h.means (named_small s r h.means)
  heeds-small {p} {s} (names r) c q u h =
      let e : get_or f.values r.number 0 ≤ 15 = (in-range 0 15 (value_at f r.number) (rule-holds (in_range 0 15 (value_at f r.number)) WrongRegister r.number q)).1 in
      all_set Small s.means r.name (register (get_or f.values r.number 0)) h.means (omega arith)
  heeds-small {p} {s} (adds n w i) c q u h =
      all_set Small s.means i.name (cell (cell_of f.values n w (base_in f.found s p) i)) h.means (base-small s p h.means, counted-entry (itemed n w i) p c q u h.count)
  heeds-small (opens n) c q u h = h.means
  heeds-small (other a) c q u h = subst (λ (l : List Meaning). All Small l) (sym a.of-means) h.means

  pub meant_small : (x : Statement) (s : Meant) → Along (Unbroken f) (events_of x) [] → AllSmall s → AllSmall (mean_program f.kinds f.values f.found x s)
  meant_small x s q h =
      let (c, k, r) = along-keeps-in (mean_event f.kinds f.values f.found) (Unbroken f) SmallIn
      (λ e p c s q u h. record { means = heeds-small (heeds f.kinds f.values f.found e p s) c q u h; count = counted-event e p c q u h.count })
      (events_of x) [] nowhere s q (program-coherent x) (record { means = h; count = tt }) in
      r.means
