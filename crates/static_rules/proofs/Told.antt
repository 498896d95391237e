-- What the finished tables have of each event at its place (`told_text`): what a declared name means, the segment that a base declaration opens, and that the text of
-- the procedure around it writes what it writes. Tokens rise along the text, and what is written only grows.
use mathlib.Core.Path.{◌≡◌, refl, sym, ap, subst, ◌∙◌}
use mathlib.Core.List.{List, [], ◌∷◌}
use mathlib.Core.Bool.{Bool, true, false, ◌&&◌}
use Prim.Native.Nat.{ℕ, zero, suc, ◌+◌, ◌-◌, ◌<◌, ◌≤◌}
use native.Mathlib.Omega.{arith}
use native.Mathlib.Decide.{ℕ_discrete}
use lib.Dec.{eqb}
use lib.ListN.{length, get_or, set, length-set}
use lib.Seq.{get_or-set_same, get_or-set_other}
use Rattle.base.specs.Choose.{whether◌then◌else◌}
use Rattle.base.specs.Lists.{All}
use Rattle.base.proofs.Tests.{never_true}
use Rattle.grammar.specs.Tree.{Designator, Operand, number, place, Term}
use Rattle.grammar.specs.Derives.{is_register}
use Rattle.grammar.specs.Events.{Edge, opened, closed, entered, left, labelled, sent, Entry, named, celled, itemed, valued, based, Phrase, aimed, driven, signed, given, joined, tested, limited, called, applied, argued, counted, chosen, Event, edge, route, entry, phrase, mark, uses, operand_names}
use Rattle.grammar.specs.Places.{within, body, Place, outward, enter_name, enter_entry, enter_label, after, along, Along}
use Rattle.grammar.specs.Texts.{Stands, Text}
use Rattle.grammar.specs.Contexts.{Context, nowhere, aiming, applying, declaring, later_values, Aims, Applies, Suits, context_after, Coherent}
use Rattle.grammar.proofs.Texts.{text-rises}
use Rattle.grammar.proofs.Uses.{Rise, uses-rise}
use Rattle.grammar.proofs.Order.{Earlier, earlier-after}
use Rattle.token.specs.Kinds as K
use Rattle.static_rules.specs.Registers.{Registers, no_registers, has, add_register, union}
use Rattle.static_rules.specs.Functions.{is_written}
use Rattle.static_rules.specs.Meaning.{Meaning, nothing, register, cell, routine, function, Based, Cell, operand_meaning, register_of, argument_of, is_long, long_operand, is_product}
use Rattle.static_rules.specs.Meanings.{Meant, grow_written, write, write_text, call_writes, target_writes, open_base, add_cell, cell_of, meaning_in, own_in, newest, base_in, mean_phrase, mean_event}
use Rattle.static_rules.specs.Rules as R
use Rattle.static_rules.proofs.Flags.{add-has, add-keeps, union_left, union_right}
use Rattle.static_rules.proofs.Heeds.{phrase-alike, Heeds, enters, names, adds, opens, other, heeds}
use Rattle.static_rules.proofs.Lengths.{event-long}
use Rattle.static_rules.proofs.Stays.{Stays, stays-text}

-- ── what is written ──

-- the text of procedure u writes register x
abbrev pub WrittenBy : Meant → ℕ → ℕ → Type 0
WrittenBy s u x = has (get_or s.written u no_registers) x ≡ true

-- of each procedure, as much or more
abbrev pub Grows : Meant → Meant → Type 0
Grows s t = (u x : ℕ) → x < 16 → WrittenBy s u x → WrittenBy t u x

-- an entry of a list of which one was set: as it was, or the new one
set-by : (P : Registers → Type 0) (l : List Registers) (i u : ℕ) (v : Registers) → P (get_or l u no_registers) → (u ≡ i → P v) → P (get_or (set l i v) u no_registers)
set-by P [] i u v h f = h
set-by P (x ∷ l) zero zero v h f = f refl
set-by P (x ∷ l) zero (suc u) v h f = h
set-by P (x ∷ l) (suc i) zero v h f = h
set-by P (x ∷ l) (suc i) (suc u) v h f = set-by P l i u v h (λ e. f (ap suc e))

grow-grows : (own : ℕ) (g : Registers → Registers) (s : Meant) → ((a : Registers) (x : ℕ) → x < 16 → has a x ≡ true → has (g a) x ≡ true) → Grows s (grow_written own g s)
grow-grows own g s keeps u x h k =
    set-by (λ (a : Registers). has a x ≡ true) s.written own u _ k (λ e. keeps _ x h (subst (λ (w : ℕ). WrittenBy s w x) e k))

write-grows : (own r : ℕ) (s : Meant) → Grows s (write own r s)
unfolding write
write-grows own r s = grow-grows own (add_register r) s (λ a x h k. add-keeps r a x h k)

text-grows : (own n : ℕ) (s : Meant) → Grows s (write_text own n s)
unfolding write_text
text-grows own n s = grow-grows own (union (get_or s.written n no_registers)) s (λ a x h k. union_right (get_or s.written n no_registers) a x h k)

target-grows : (m : Meaning) (g : ℕ → ℕ) (own : ℕ) (s : Meant) → Grows s (target_writes m g own s)
unfolding target_writes
target-grows nothing g own s u x h k = k
target-grows (register r) g own s u x h k = write-grows own (g r) s u x h k
target-grows (cell c) g own s u x h k = k
target-grows (routine r) g own s u x h k = k
target-grows (function i) g own s u x h k = k

call-grows : (m : Meaning) (own n : ℕ) (s : Meant) → Grows s (call_writes m own n s)
unfolding call_writes
call-grows nothing own n s u x h k = k
call-grows (register r) own n s u x h k = k
call-grows (cell c) own n s u x h k = k
call-grows (function i) own n s u x h k = k
call-grows (routine r) own n s u x h k = text-grows own n (write own r s) u x h (write-grows own r s u x h k)

writes-grows : (b : Bool) (m : Meaning) (g : ℕ → ℕ) (own : ℕ) (s : Meant) → Grows s (whether b then target_writes m g own s else s)
writes-grows true m g own s = target-grows m g own s
writes-grows false m g own s = λ u x h k. k

-- what is added to the set of a procedure is in it
own-has : (own : ℕ) (g : Registers → Registers) (s : Meant) (x : ℕ) → own < length s.written → has (g (get_or s.written own no_registers)) x ≡ true
    → WrittenBy (grow_written own g s) own x
own-has own g s x l h = ap (λ (a : Registers). has a x) (get_or-set_same s.written own _ no_registers l) ∙ h

write-has : (own r : ℕ) (s : Meant) → own < length s.written → r < 16 → WrittenBy (write own r s) own r
unfolding write
write-has own r s l h = own-has own (add_register r) s r l (add-has r _ h)

write-long : (own r : ℕ) (s : Meant) → own < length s.written → own < length (write own r s).written
unfolding write
write-long own r s l = let e = length-set s.written own (add_register r (get_or s.written own no_registers)) in omega arith

text-has : (own n x : ℕ) (s : Meant) → own < length s.written → x < 16 → WrittenBy s n x → WrittenBy (write_text own n s) own x
unfolding write_text
text-has own n x s l h k = own-has own (union (get_or s.written n no_registers)) s x l (union_left (get_or s.written n no_registers) _ x h k)

-- a call writes the return register and the text's
called-own : (own n r : ℕ) (s : Meant) → own < length s.written → r < 16 → WrittenBy (call_writes (routine r) own n s) own r
unfolding call_writes
called-own own n r s l h = text-grows own n (write own r s) own r h (write-has own r s l h)

called-text : (own n r x : ℕ) (s : Meant) → own < length s.written → x < 16 → WrittenBy s n x → WrittenBy (call_writes (routine r) own n s) own x
unfolding call_writes
called-text own n r x s l h k = text-has own n x (write own r s) (write-long own r s l) h (write-grows own r s n x h k)

-- so does a base declaration its register
based-has : (own r n : ℕ) (s : Meant) → own < length s.written → r < 16 → WrittenBy (open_base own r n s) own r
unfolding open_base
based-has own r n s l h = write-has own r _ l h

counted-base : (own r n : ℕ) (s : Meant) → s.bases ≤ (open_base own r n s).bases
unfolding open_base write
counted-base own r n s = omega arith

counted-cell : (c : Cell) (vs : List ℕ) (s : Meant) → s.bases ≤ (add_cell c vs s).bases
unfolding add_cell
counted-cell c vs s = omega arith

-- ── procedures around a place ──

abbrev pub NotAround : ℕ → Place → Type 0
NotAround u [] = Unit {0}
NotAround u (within b ∷ p) = NotAround u p
NotAround u (body n r ∷ p) = (u ≡ n → ⊥) × NotAround u p

not_own : (u : ℕ) (p : Place) → 0 < u → NotAround u p → u ≡ own_in p → ⊥
not_own u [] h n e = omega arith
not_own u (within b ∷ p) h n e = not_own u p h n e
not_own u (body m r ∷ p) h n e = n.0 e

not-outward : (u : ℕ) (p : Place) → NotAround u p → NotAround u (outward p)
not-outward u [] n = tt
not-outward u (within b ∷ p) n = n
not-outward u (body m r ∷ p) n = n.1

own-early : (kinds : List ℕ) (i : ℕ) (p : Place) → 0 < i → Earlier kinds i p → own_in p < i
own-early kinds i [] h a = h
own-early kinds i (within b ∷ p) h a = own-early kinds i p h a.2
own-early kinds i (body n r ∷ p) h a = a.0

-- ── what the finished tables have ──

module _ (kinds values found : List ℕ) where
  abbrev step : Event → Place → Meant → Meant
  step = mean_event kinds values found

  module _ (z : Meant) where
    -- a return register is a register
    abbrev ToldEdge : Edge → Type 0
    ToldEdge (opened t ls) = Unit {0}
    ToldEdge (closed t) = Unit {0}
    ToldEdge (entered n r) = R.is_register (meaning_in found z r) ≡ true → get_or z.means n nothing ≡ routine (register_of (meaning_in found z r))
    ToldEdge (left n) = Unit {0}

    abbrev ToldEntry : Entry → Place → Type 0
    ToldEntry (named r) p = get_or z.means r.name nothing ≡ register (get_or values r.number 0)
    ToldEntry (celled c w) p = Unit {0}
    ToldEntry (itemed c w i) p = get_or z.means i.name nothing ≡ cell (cell_of values c w (base_in found z p) i)
    ToldEntry (valued t) p = Unit {0}
    ToldEntry (based n) p =
        (1 ≤ get_or z.opens n 0) × (get_or z.opens n 0 < 2 + z.bases) × (register_of (meaning_in found z n) < 16 → WrittenBy z (own_in p) (register_of (meaning_in found z n)))

    abbrev ToldPhrase : Phrase → Place → Type 0
    ToldPhrase (aimed d) p = (r : ℕ) → r < 16 → meaning_in found z d.name ≡ register r → WrittenBy z (own_in p) r
    ToldPhrase (driven d) p = (r : ℕ) → r < 16 → meaning_in found z d.name ≡ register r → WrittenBy z (own_in p) r
    ToldPhrase (signed d g) p = Unit {0}
    ToldPhrase (given d a) p = Unit {0}
    ToldPhrase (joined d t) p = (r : ℕ) → r < 16 → meaning_in found z d.name ≡ register r → is_product kinds found z.means t ≡ true → WrittenBy z (own_in p) (r - 1)
    ToldPhrase (tested t c) p = Unit {0}
    ToldPhrase (limited d v a) p = Unit {0}
    ToldPhrase (called n) p =
        (r : ℕ) → r < 16 → meaning_in found z n ≡ routine r → 0 < get_or found n 0 → NotAround (get_or found n 0) p
        → WrittenBy z (own_in p) r × ((x : ℕ) → x < 16 → WrittenBy z (get_or found n 0) x → WrittenBy z (own_in p) x)
    ToldPhrase (applied n) p = Unit {0}
    ToldPhrase (argued n q a) p =
        (r : ℕ) → r < 16 → operand_meaning found z.means a ≡ register r → is_written (argument_of (meaning_in found z n) q) ≡ true → WrittenBy z (own_in p) r
    ToldPhrase (counted n k) p = Unit {0}
    ToldPhrase (chosen n) p = (r : ℕ) → r < 16 → meaning_in found z n ≡ register r → WrittenBy z (own_in p) r

    abbrev pub Told : Event → Place → Type 0
    Told (edge x) p = ToldEdge x
    Told (route r) p = Unit {0}
    Told (entry d) p = ToldEntry d p
    Told (phrase f) p = ToldPhrase f p
    Told (mark m) p = Unit {0}

  -- ── an event ──

  phrase-grows : (x : Phrase) (p : Place) (s : Meant) → Grows s (mean_phrase kinds values found x p s)
  phrase-grows (aimed d) p s = target-grows (meaning_in found s d.name) _ (own_in p) s
  phrase-grows (driven d) p s = target-grows (meaning_in found s d.name) _ (own_in p) s
  phrase-grows (signed d g) p s = λ u x h k. k
  phrase-grows (given d a) p s = λ u x h k. k
  phrase-grows (joined d t) p s = writes-grows (is_product kinds found s.means t) (meaning_in found s d.name) _ (own_in p) s
  phrase-grows (tested t c) p s = λ u x h k. k
  phrase-grows (limited d v a) p s = λ u x h k. k
  phrase-grows (called n) p s = call-grows (meaning_in found s n) (own_in p) (get_or found n 0) s
  phrase-grows (applied n) p s = λ u x h k. k
  phrase-grows (argued n q a) p s = writes-grows (is_written (argument_of (meaning_in found s n) q)) (operand_meaning found s.means a) _ (own_in p) s
  phrase-grows (counted n k) p s = λ u x h l. l
  phrase-grows (chosen n) p s = target-grows (meaning_in found s n) _ (own_in p) s

  event-grows : (e : Event) (p : Place) (s : Meant) → Grows s (step e p s)
  unfolding mean_event open_base add_cell
  event-grows (edge (opened t ls)) p s u x h k = k
  event-grows (edge (closed t)) p s u x h k = k
  event-grows (edge (entered n r)) p s u x h k = k
  event-grows (edge (left n)) p s u x h k = text-grows (own_in (outward p)) n s u x h k
  event-grows (route r) p s u x h k = k
  event-grows (entry (named r)) p s u x h k = k
  event-grows (entry (celled c w)) p s u x h k = k
  event-grows (entry (itemed c w i)) p s u x h k = k
  event-grows (entry (valued t)) p s u x h k = k
  event-grows (entry (based n)) p s u x h k = write-grows (own_in p) (register_of (meaning_in found s n)) _ u x h k
  event-grows (phrase f) p s u x h k = phrase-grows f p s u x h k
  event-grows (mark m) p s u x h k = k

  grows-along : (es : List Event) (p : Place) (s : Meant) → Grows s (along step es p s)
  unfolding along
  grows-along [] p s u x h k = k
  grows-along (e ∷ es) p s u x h k = grows-along es (after e p) (step e p s) u x h (event-grows e p s u x h k)

  -- the set of a procedure that is not around the place is left as it was
  elsewhere : (own u : ℕ) (g : Registers → Registers) (s : Meant) → (u ≡ own → ⊥) → get_or (grow_written own g s).written u no_registers ≡ get_or s.written u no_registers
  elsewhere own u g s n = get_or-set_other s.written own u _ no_registers n

  abbrev Same : Meant → Meant → ℕ → Type 0
  Same s t u = get_or t.written u no_registers ≡ get_or s.written u no_registers

  target-same : (m : Meaning) (g : ℕ → ℕ) (own u : ℕ) (s : Meant) → (u ≡ own → ⊥) → Same s (target_writes m g own s) u
  unfolding target_writes write
  target-same nothing g own u s n = refl
  target-same (register r) g own u s n = elsewhere own u (add_register (g r)) s n
  target-same (cell c) g own u s n = refl
  target-same (routine r) g own u s n = refl
  target-same (function k) g own u s n = refl

  call_same : (m : Meaning) (own d u : ℕ) (s : Meant) → (u ≡ own → ⊥) → Same s (call_writes m own d s) u
  unfolding call_writes write_text write
  call_same nothing own d u s n = refl
  call_same (register r) own d u s n = refl
  call_same (cell c) own d u s n = refl
  call_same (function k) own d u s n = refl
  call_same (routine r) own d u s n =
      let t = grow_written own (add_register r) s in
      elsewhere own u (union (get_or t.written d no_registers)) t n ∙ elsewhere own u (add_register r) s n

  writes-same : (b : Bool) (m : Meaning) (g : ℕ → ℕ) (own u : ℕ) (s : Meant) → (u ≡ own → ⊥) → Same s (whether b then target_writes m g own s else s) u
  writes-same true m g own u s n = target-same m g own u s n
  writes-same false m g own u s n = refl

  phrase-same : (x : Phrase) (p : Place) (s : Meant) (u : ℕ) → (u ≡ own_in p → ⊥) → Same s (mean_phrase kinds values found x p s) u
  phrase-same (aimed d) p s u n = target-same (meaning_in found s d.name) _ (own_in p) u s n
  phrase-same (driven d) p s u n = target-same (meaning_in found s d.name) _ (own_in p) u s n
  phrase-same (signed d g) p s u n = refl
  phrase-same (given d a) p s u n = refl
  phrase-same (joined d t) p s u n = writes-same (is_product kinds found s.means t) (meaning_in found s d.name) _ (own_in p) u s n
  phrase-same (tested t c) p s u n = refl
  phrase-same (limited d v a) p s u n = refl
  phrase-same (called m) p s u n = call_same (meaning_in found s m) (own_in p) (get_or found m 0) u s n
  phrase-same (applied m) p s u n = refl
  phrase-same (argued m q a) p s u n = writes-same (is_written (argument_of (meaning_in found s m) q)) (operand_meaning found s.means a) _ (own_in p) u s n
  phrase-same (counted m k) p s u n = refl
  phrase-same (chosen m) p s u n = target-same (meaning_in found s m) _ (own_in p) u s n

  event-same : (e : Event) (p : Place) (s : Meant) (u : ℕ) → 0 < u → NotAround u p → Same s (step e p s) u
  unfolding mean_event open_base add_cell write_text write
  event-same (edge (opened t ls)) p s u h n = refl
  event-same (edge (closed t)) p s u h n = refl
  event-same (edge (entered m r)) p s u h n = refl
  event-same (edge (left m)) p s u h n = elsewhere (own_in (outward p)) u (union (get_or s.written m no_registers)) s (not_own u (outward p) h (not-outward u p n))
  event-same (route r) p s u h n = refl
  event-same (entry (named r)) p s u h n = refl
  event-same (entry (celled c w)) p s u h n = refl
  event-same (entry (itemed c w i)) p s u h n = refl
  event-same (entry (valued t)) p s u h n = refl
  event-same (entry (based m)) p s u h n = elsewhere (own_in p) u (add_register (register_of (meaning_in found s m))) s (not_own u p h n)
  event-same (phrase f) p s u h n = phrase-same f p s u (not_own u p h n)
  event-same (mark m) p s u h n = refl

  -- nor will it be around a later place, when it stands before
  not_entered : (u m : ℕ) (p : Place) → NotAround u p → NotAround u (enter_name m p)
  not_entered u m [] n = tt
  not_entered u m (within b ∷ p) n = n
  not_entered u m (body k r ∷ p) n = n

  not_entry : (u : ℕ) (d : Entry) (p : Place) → NotAround u p → NotAround u (enter_entry d p)
  not_entry u d [] n = tt
  not_entry u d (within b ∷ p) n = n
  not_entry u d (body k r ∷ p) n = n

  not-labelled : (u m : ℕ) (p : Place) → NotAround u p → NotAround u (enter_label m p)
  not-labelled u m [] n = tt
  not-labelled u m (within b ∷ p) n = n
  not-labelled u m (body k r ∷ p) n = n

  still-not : (e : Event) (p : Place) (i u : ℕ) (x : Stands kinds e p i) → u < i → NotAround u p → NotAround u (after e p)
  still-not (edge (opened t ls)) p i u x l n = n
  still-not (edge (closed t)) p i u x l n = not-outward u p n
  still-not (edge (entered m r)) p i u x l n = let h = x.is in (λ e. omega arith, not_entered u m p n)
  still-not (edge (left m)) p i u x l n = not-outward u p n
  still-not (route (labelled t)) p i u x l n = not-labelled u t p n
  still-not (route (sent t m)) p i u x l n = n
  still-not (entry d) p i u x l n = not_entry u d p n
  still-not (phrase f) p i u x l n = n
  still-not (mark m) p i u x l n = n

  same-along : (es : List Event) (p : Place) (i j : ℕ) (s : Meant) (u : ℕ) → Text kinds es p i j → 0 < u → u < i → NotAround u p → Same s (along step es p s) u
  unfolding Text along
  same-along [] p i j s u t h l n = refl
  same-along (e ∷ es) p i j s u (x, t) h l n =
      same-along es (after e p) x.to j (step e p s) u t h (omega arith) (still-not e p i u x l n) ∙ event-same e p s u h n

  -- ── base declarations are counted ──

  event-bases : (e : Event) (p : Place) (s : Meant) → s.bases ≤ (step e p s).bases
  event-bases e p s = go (heeds kinds values found e p s)
    where
      go : {t : Meant} {e : Event} → Heeds kinds values found p s e t → s.bases ≤ t.bases
      go (enters n r) = omega arith
      go (names r) = omega arith
      go (adds c w i) = counted-cell _ _ s
      go (opens n) = counted-base _ _ n s
      go (other a) = let b = a.of-bases in omega arith

  bases-along : (es : List Event) (p : Place) (s : Meant) → s.bases ≤ (along step es p s).bases
  unfolding along
  bases-along [] p s = omega arith
  bases-along (e ∷ es) p s = let a = event-bases e p s in let b = bases-along es (after e p) (step e p s) in omega arith

  -- ── what stands open ──

  -- the target, or the name of the use, that stands open is before token i
  abbrev Aimed : ℕ → Context → Type 0
  Aimed i nowhere = Unit {0}
  Aimed i (aiming d) = d.name < i
  Aimed i (applying n q) = n < i
  Aimed i (declaring n w ts) = Unit {0}

  aimed-later : {i k : ℕ} (c : Context) → i ≤ k → Aimed i c → Aimed k c
  aimed-later nowhere h a = tt
  aimed-later (aiming d) h a = omega arith
  aimed-later (applying n q) h a = omega arith
  aimed-later (declaring n w ts) h a = tt

  values-aimed : (i : ℕ) (c : Context) → Aimed i c → Aimed i (later_values c)
  values-aimed i nowhere a = tt
  values-aimed i (aiming d) a = a
  values-aimed i (applying n q) a = a
  values-aimed i (declaring n w []) a = tt
  values-aimed i (declaring n w (t ∷ ts)) a = tt

  before : (ts : List ℕ) (i j : ℕ) → Rise ts i j → (i ≤ j) × All (λ (t : ℕ). t < j) ts
  before [] i j h = (h, tt)
  before (t ∷ ts) i j (l, h) = let r = before ts (t + 1) j h in let k = r.0 in (omega arith, (omega arith, r.1))

  -- the names that an event uses stand before its end
  uses-before : (e : Event) (p : Place) (i : ℕ) (x : Stands kinds e p i) → All (λ (t : ℕ). t < x.to) (uses e)
  uses-before e p i x = (before (uses e) x.from x.to (uses-rise kinds e x.from x.to x.rises x.is)).1

  target-before : (d : Designator) (i : ℕ) (c : Context) → Aims d c → Aimed i c → d.name < i
  target-before d i nowhere h a = absurd h
  target-before d i (aiming y) h a = subst (λ (e : Designator). e.name < i) h a
  target-before d i (applying n q) h a = absurd h
  target-before d i (declaring n w ts) h a = absurd h

  use-before : (n q i : ℕ) (c : Context) → Applies n q c → Aimed i c → n < i
  use-before n q i nowhere h a = absurd h
  use-before n q i (aiming y) h a = absurd h
  use-before n q i (applying m k) h a = subst (λ (e : ℕ). e < i) h.0 a
  use-before n q i (declaring m w ts) h a = absurd h

  aimed-after : (e : Event) (p : Place) (i : ℕ) (x : Stands kinds e p i) (c : Context) → Suits e c → Aimed i c → Aimed x.to (context_after e c)
  aimed-after (edge y) p i x c g a = tt
  aimed-after (route y) p i x c g a = tt
  aimed-after (entry (named r)) p i x c g a = tt
  aimed-after (entry (celled n w)) p i x c g a = tt
  aimed-after (entry (itemed n w d)) p i x c g a = tt
  aimed-after (entry (valued t)) p i x c g a = values-aimed x.to c (aimed-later c (omega arith) a)
  aimed-after (entry (based n)) p i x c g a = tt
  aimed-after (phrase (aimed d)) p i x c g a = (uses-before (phrase (aimed d)) p i x).0
  aimed-after (phrase (driven d)) p i x c g a = (uses-before (phrase (driven d)) p i x).0
  aimed-after (phrase (signed d v)) p i x c g a = aimed-later c (omega arith) a
  aimed-after (phrase (given d b)) p i x c g a = aimed-later c (omega arith) a
  aimed-after (phrase (joined d t)) p i x c g a = aimed-later c (omega arith) a
  aimed-after (phrase (tested t y)) p i x c g a = tt
  aimed-after (phrase (limited d v b)) p i x c g a = tt
  aimed-after (phrase (called n)) p i x c g a = tt
  aimed-after (phrase (applied n)) p i x c g a = (uses-before (phrase (applied n)) p i x).0
  aimed-after (phrase (argued n q b)) p i x c g a = let h = use-before n q i c g a in omega arith
  aimed-after (phrase (counted n k)) p i x c g a = tt
  aimed-after (phrase (chosen n)) p i x c g a = tt
  aimed-after (mark m) p i x c g a = tt

  -- ── by names that are found no later than they stand ──

  module _ (early : (t : ℕ) → get_or found t 0 ≤ t) where
    meaning-stays : (i : ℕ) (s z : Meant) (t : ℕ) → Stays i s z → t < i → meaning_in found s t ≡ meaning_in found z t
    meaning-stays i s z t a h = let e = early t in sym (a.of-means (get_or found t 0) (omega arith))

    base_stays : (i : ℕ) (s z : Meant) (p : Place) → Stays i s z → Earlier kinds i p → base_in found s p ≡ base_in found z p
    base_stays i s z [] a h = refl
    base_stays i s z (within b ∷ p) a (u, v, w) = go b.bases v (base_stays i s z p a w)
      where
        go : (ns : List ℕ) → All (λ (t : ℕ). t < i) ns → base_in found s p ≡ base_in found z p → newest found s ns (base_in found s p) ≡ newest found z ns (base_in found z p)
        go [] l e = e
        go (n ∷ ns) (l, ls) e =
            let m = meaning-stays i s z n a l in
            let o = sym (a.of-opens n l) in
            λ k. record { register = register_of (m k); segment = o k }
    base_stays i s z (body n r ∷ p) a (u, v, w) = base_stays i s z p a w

    -- from the tables s after an event that ends at `to` to the finished ones
    record Finished (to : ℕ) (s z : Meant) : Type 0 where
      stays : Stays to s z
      grows : Grows s z
      bases : s.bases ≤ z.bases

    -- ── phrases: the meanings stay as they were ──

    module _ (x : Phrase) (p : Place) (i : ℕ) (y : Stands kinds (phrase x) p i) (s z : Meant) (l : own_in p < length s.written) (e : Finished y.to (mean_phrase kinds values found x p s) z) where
      meaning-then : (t : ℕ) → t < y.to → meaning_in found s t ≡ meaning_in found z t
      meaning-then t h =
          ap (λ (m : List Meaning). get_or m (get_or found t 0) nothing) (sym (phrase-alike kinds values found x p s).of-means)
          ∙ meaning-stays y.to (mean_phrase kinds values found x p s) z t e.stays h

    target-has : (m : Meaning) (g : ℕ → ℕ) (own r : ℕ) (s : Meant) → m ≡ register r → own < length s.written → g r < 16 → WrittenBy (target_writes m g own s) own (g r)
    unfolding target_writes
    target-has m g own r s e l h = subst (λ (k : Meaning). WrittenBy (target_writes k g own s) own (g r)) (sym e) (write-has own (g r) s l h)

    writes-has : (b : Bool) (m : Meaning) (g : ℕ → ℕ) (own r : ℕ) (s : Meant) → b ≡ true → m ≡ register r → own < length s.written → g r < 16
        → WrittenBy (whether b then target_writes m g own s else s) own (g r)
    writes-has true m g own r s t e l h = target-has m g own r s e l h
    writes-has false m g own r s t e l h = never_true t

    call-has : (m : Meaning) (own n r : ℕ) (s : Meant) → m ≡ routine r → own < length s.written → r < 16
        → WrittenBy (call_writes m own n s) own r × ((x : ℕ) → x < 16 → WrittenBy s n x → WrittenBy (call_writes m own n s) own x)
    call-has m own n r s e l h = subst (λ (k : Meaning). Called k) (sym e) (here, there)
      where
        Called : Meaning → Type 0
        Called k = WrittenBy (call_writes k own n s) own r × ((x : ℕ) → x < 16 → WrittenBy s n x → WrittenBy (call_writes k own n s) own x)

        here : WrittenBy (call_writes (routine r) own n s) own r
        here = called-own own n r s l h

        there : (x : ℕ) → x < 16 → WrittenBy s n x → WrittenBy (call_writes (routine r) own n s) own x
        there x g k = called-text own n r x s l g k

    product-alike : (t : Term) (to : ℕ) (s z : Meant) → ((u : ℕ) → u < to → meaning_in found s u ≡ meaning_in found z u) → All (λ (u : ℕ). u < to) (operand_names t.operand)
        → is_product kinds found z.means t ≡ is_product kinds found s.means t
    product-alike t to s z f h = ap (λ (b : Bool). eqb (get_or kinds t.operator 0) K.TIMES && b) (go t.operand h)
      where
        go : (a : Operand) → All (λ (u : ℕ). u < to) (operand_names a) → long_operand found z.means a ≡ long_operand found s.means a
        go (number n) h = refl
        go (place d) h = ap is_long (sym (f d.name h.0))

    operand-alike : (a : Operand) (to : ℕ) (s z : Meant) → ((u : ℕ) → u < to → meaning_in found s u ≡ meaning_in found z u) → All (λ (u : ℕ). u < to) (operand_names a)
        → operand_meaning found s.means a ≡ operand_meaning found z.means a
    operand-alike (number n) to s z f h = refl
    operand-alike (place d) to s z f h = f d.name h.0

    phrase-told : (x : Phrase) (p : Place) (i : ℕ) (y : Stands kinds (phrase x) p i) (c : Context) (s z : Meant) → Suits (phrase x) c → Aimed i c → own_in p < length s.written
        → Finished y.to (mean_phrase kinds values found x p s) z
        → ((u : ℕ) → 0 < u → u < y.to → NotAround u p → Same (mean_phrase kinds values found x p s) z u) → ToldPhrase z x p
    phrase-told (aimed d) p i y c s z g a l e f = λ r h m.
        e.grows (own_in p) r h (target-has _ (λ k. k) (own_in p) r s (meaning-then (aimed d) p i y s z l e d.name (uses-before _ p i y).0 ∙ m) l h)
    phrase-told (driven d) p i y c s z g a l e f = λ r h m.
        e.grows (own_in p) r h (target-has _ (λ k. k) (own_in p) r s (meaning-then (driven d) p i y s z l e d.name (uses-before _ p i y).0 ∙ m) l h)
    phrase-told (signed d v) p i y c s z g a l e f = tt
    phrase-told (given d v) p i y c s z g a l e f = tt
    phrase-told (joined d t) p i y c s z g a l e f = λ r h m q.
        let b = target-before d i c g a in
        let same = product-alike t y.to s z (meaning-then (joined d t) p i y s z l e) (uses-before (phrase (joined d t)) p i y) in
        e.grows (own_in p) (r - 1) (omega arith)
        (writes-has _ _ (λ k. k - 1) (own_in p) r s (sym same ∙ q) (meaning-then (joined d t) p i y s z l e d.name (omega arith) ∙ m) l (omega arith))
    phrase-told (tested t v) p i y c s z g a l e f = tt
    phrase-told (limited d v b) p i y c s z g a l e f = tt
    phrase-told (called n) p i y c s z g a l e f = λ r h m pos around.
        let d = get_or found n 0 in
        let k = (uses-before (phrase (called n)) p i y).0 in
        let q = early n in
        let Has-both = call-has _ (own_in p) d r s (meaning-then (called n) p i y s z l e n k ∙ m) l h in
        let kept : Same s z d = f d pos (omega arith) around ∙ phrase-same (called n) p s d (not_own d p pos around) in (
          e.grows (own_in p) r h Has-both.0,
          λ v b w. e.grows (own_in p) v b (Has-both.1 v b (subst (λ (o : Registers). has o v ≡ true) kept w)),
        )
    phrase-told (applied n) p i y c s z g a l e f = tt
    phrase-told (argued n q b) p i y c s z g a l e f = λ r h m w.
        let o = use-before n q i c g a in
        let known = meaning-then (argued n q b) p i y s z l e in
        let same = operand-alike b y.to s z known (uses-before (phrase (argued n q b)) p i y) in
        e.grows (own_in p) r h
        (writes-has _ _ (λ k. k) (own_in p) r s (ap (λ (k : Meaning). is_written (argument_of k q)) (known n (omega arith)) ∙ w) (same ∙ m) l h)
    phrase-told (counted n k) p i y c s z g a l e f = tt
    phrase-told (chosen n) p i y c s z g a l e f = λ r h m.
        e.grows (own_in p) r h (target-has _ (λ k. k) (own_in p) r s (meaning-then (chosen n) p i y s z l e n (uses-before (phrase (chosen n)) p i y).0 ∙ m) l h)

    -- ── declarations and bodies ──

    entry-told : (d : Entry) (p : Place) (i : ℕ) (y : Stands kinds (entry d) p i) (s z : Meant) → Earlier kinds i p → own_in p < length s.written → y.to ≤ length s.means
        → y.to ≤ length s.opens → Stays i s z → Finished y.to (step (entry d) p s) z → ToldEntry z d p
    unfolding mean_event is_register add_cell open_base write
    entry-told (named r) p i y s z a l m o w e =
        let h = y.is in
        e.stays.of-means r.name (omega arith) ∙ get_or-set_same s.means r.name _ nothing (omega arith)
    entry-told (celled c v) p i y s z a l m o w e = tt
    entry-told (itemed c v d) p i y s z a l m o w e =
        let h = y.is in
        e.stays.of-means d.name (omega arith) ∙ get_or-set_same s.means d.name _ nothing (omega arith)
        ∙ ap (λ (b : Based). cell (cell_of values c v b d)) (base_stays i s z p w a)
    entry-told (valued t) p i y s z a l m o w e = tt
    entry-told (based n) p i y s z a l m o w e =
        let h = y.is in
        let k = e.stays.of-opens n (omega arith) ∙ opened-is s n (omega arith) in
        let b = e.bases in
        let t = meaning-stays y.to (step (entry (based n)) p s) z n e.stays (omega arith) in (
          omega arith,
          omega arith,
          λ g. e.grows (own_in p) _ g (subst (λ (x : ℕ). WrittenBy (step (entry (based n)) p s) (own_in p) x) (ap register_of t)
              (based-has (own_in p) (register_of (meaning_in found s n)) n s l (subst (λ (x : ℕ). x < 16) (sym (ap register_of t)) g))),
        )
      where
        opened-is : (s : Meant) (n : ℕ) → n < length s.opens → get_or (set s.opens n (2 + s.bases)) n 0 ≡ 2 + s.bases
        opened-is s n h = get_or-set_same s.opens n (2 + s.bases) 0 h

    edge-told : (x : Edge) (p : Place) (i : ℕ) (y : Stands kinds (edge x) p i) (s z : Meant) → y.to ≤ length s.means → Finished y.to (step (edge x) p s) z → ToldEdge z x
    unfolding mean_event
    edge-told (opened t ls) p i y s z m e = tt
    edge-told (closed t) p i y s z m e = tt
    edge-told (entered n r) p i y s z m e = λ isreg.
        let h = y.is in
        let b = (uses-before (edge (entered n r)) p i y).0 in
        let q = early r in
        let is : get_or z.means n nothing ≡ routine (register_of (meaning_in found s r))
        = e.stays.of-means n (omega arith) ∙ get_or-set_same s.means n _ nothing (omega arith) in
        is ∙ ap (λ (k : Meaning). routine (register_of k)) (go (ℕ_discrete (get_or found r 0) n) is b q isreg)
      where
        go : Dec (get_or found r 0 ≡ n) → get_or z.means n nothing ≡ routine (register_of (meaning_in found s r)) → r < y.to → get_or found r 0 ≤ r
            → R.is_register (meaning_in found z r) ≡ true → meaning_in found s r ≡ meaning_in found z r
        go (yes d) is b q k = never_true (sym (ap R.is_register (ap (λ (u : ℕ). get_or z.means u nothing) d ∙ is)) ∙ k)
        go (no d) is b q k =
            sym (e.stays.of-means (get_or found r 0) (omega arith) ∙ get_or-set_other s.means n (get_or found r 0) _ nothing d)
    edge-told (left n) p i y s z m e = tt

    -- ── a text ──

    event-told : (e : Event) (p : Place) (i : ℕ) (y : Stands kinds e p i) (c : Context) (s z : Meant) → Suits e c → Aimed i c → Earlier kinds i p → own_in p < length s.written
        → y.to ≤ length s.means → y.to ≤ length s.opens → Stays i s z → Finished y.to (step e p s) z
        → ((u : ℕ) → 0 < u → u < y.to → NotAround u (after e p) → Same (step e p s) z u) → Told z e p
    unfolding mean_event
    event-told (edge x) p i y c s z g a b l m o w h f = edge-told x p i y s z m h
    event-told (route x) p i y c s z g a b l m o w h f = tt
    event-told (entry x) p i y c s z g a b l m o w h f = entry-told x p i y s z b l m o w h
    event-told (phrase x) p i y c s z g a b l m o w h f = phrase-told x p i y c s z g a l h f
    event-told (mark x) p i y c s z g a b l m o w h f = tt

    pub told_text : (es : List Event) (p : Place) (i j : ℕ) (c : Context) (s : Meant) → Text kinds es p i j → Coherent es c → Aimed i c → Earlier kinds i p → 0 < i
        → j ≤ length s.means → j ≤ length s.opens → j ≤ length s.written → Along (Told (along step es p s)) es p
    unfolding Text Coherent along Along
    told_text [] p i j c s t k a b z m o w = tt
    told_text (e ∷ es) p i j c s (y, t) (k, ks) a b z m o w =
        let r = text-rises kinds es (after e p) y.to j t in
        let n = event-long kinds values found e p s in
        let n0 = n.of-means in
        let n1 = n.of-opens in
        let n2 = n.of-written in
        let own = own-early kinds i p z b in
        let next = step e p s in
        let last = along step es (after e p) next in
        let tail = stays-text kinds values found es (after e p) y.to j next t in (
          event-told e p i y c s last k a b (omega arith) (omega arith) (omega arith) (stays-text kinds values found (e ∷ es) p i j s (y, t))
              (record { stays = tail; grows = grows-along es (after e p) next; bases = bases-along es (after e p) next })
              (λ u h l q. same-along es (after e p) y.to j next u t h l q),
          told_text es (after e p) y.to j (context_after e c) next t ks (aimed-after e p i y c k a) (earlier-after kinds e p i y b) (omega arith) (omega arith) (omega arith) (omega arith),
        )
