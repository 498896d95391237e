-- Readers joined: what one reads after another. Assumes nothing.
use mathlib.Core.Path.{◌≡◌, refl, sym, ap, ◌∙◌}
use mathlib.Core.List.{List, [], ◌∷◌, ◌++◌, append_assoc}
use mathlib.Core.Bool.{Bool, true, false, true≢false}
use lib.Dec.{eqb}
use Rattle.base.specs.Choose.{whether◌then◌else◌}
use Prim.Native.Nat.{ℕ, ◌+◌, ◌*◌, ◌≤◌, ◌<◌}
use native.Mathlib.Omega.{arith}
use native.Mathlib.Nat.{mod-eq_of_lt}
use native.Mathlib.Numerals.{add-one}
use borrow.Author.Tests.{eq-eqb, ne_eqb}
use lib.ListN.{get_or, length, take, set, length-take, length-append, get_or-eq_default}
use lib.Seq.{take-suc-set, take-set-lt, set-append_left, length-take-le}
use Rattle.std.specs.Prelude.{Ok, Err, IsErr, IsErrAnd}
use Rattle.grammar.specs.Reader.{Result, ok, bad, and_then, want}
use Rattle.readers.specs.declared.reader.Reader.{Reader}
use Rattle.readers.specs.declared.tokens.Why.{Why}
use Rattle.tape.specs.Events as E
use Rattle.tape.specs.Tape.{event}
use Rattle.readers.specs.Refusals.{number_of}
use Rattle.readers.specs.Kinds.{Kind}
use Rattle.readers.specs.Reads.{Answer, Refuses, Laid, Written, WroteFrom, Seen, Still}

-- ── one event more ──
pub event-is : (op token : ℕ) → op < E.EVENTS → token * E.EVENTS + op ≡ event op token
unfolding event
event-is op token h = rw (mod-eq_of_lt h)

pub pushed : (l : List ℕ) (p e : ℕ) → p < length l → (k : List ℕ) → take (p + 1) (set l p e) ++ k ≡ take p l ++ (e ∷ k)
pushed l p e h k = rw (add-one p, take-suc-set l p e h) (append_assoc (take p l) (e ∷ []) k)

-- an event put before the place q
pub put-before : (l : List ℕ) (p q e : ℕ) (k : List ℕ) → p < q → q ≤ length l → take q (set l p e) ++ k ≡ set (take q l ++ k) p e
put-before l p q e k h g = rw (take-set-lt q l p e h) (sym (set-append_left (take q l) k p e (omega (arith, length-take-le q l g))))

-- what has been laid reaches at least as far as what stood before it
pub reaches : {A : Type 0} (out : A → List ℕ → List ℕ) (p q : ℕ) (before after : List ℕ) (a : A) → Laid out p before q after a → p ≤ length before → p ≤ q
reaches out p q before after a h l =
    let s = ap length (h []) in
    omega (arith, length-append (take q after) [], length-append (take p before) (out a []), length-take q after, length-take-le p before l)

-- ── answers ──

-- what `?` answers of a refusal
pub passed : {T : Type 0} {r : Answer T} {e : Why} → IsErr r × IsErrAnd r (λ y. y ≡ e) → r ≡ Err e
passed {r = Ok x} (h, g) = absurd (true≢false (sym h))
passed {r = Err y} (h, g) = ap (λ (x : Why). Err x) g

-- what a part refuses
pub stays : {A B : Type 0} {ks : List ℕ} {i j : ℕ} {e : Why} {new : Reader} {m : Result A} → Refuses ks j new e m → i ≤ j
    → Refuses {A = B} ks i new e (bad (number_of e) new.at)
stays h l = let o = h.onward in record { is = refl; same = h.same; onward = omega arith }

-- something read, the last event of which stands on the tape
pub wrote : {A : Type 0} {out : A → List ℕ → List ℕ} {i p : ℕ} {before : List ℕ} {new : Reader} {a : A} → Laid out p before new.events new.tape.now a
    → i ≤ new.at → new.events + i ≤ new.at + p → Written out new.kinds.now i p before new (ok a new.at)
wrote {a} l o w = record { what = a; is = refl; laid = l; same = refl; onward = o; low = w }

pub seen : {A : Type 0} {P : A → Type 0} {i : ℕ} {new : Reader} {a : A} → P a → i ≤ new.at → Seen P new.kinds.now i new (ok a new.at)
seen {a} f o = record { what = a; is = refl; fits = f; same = refl; onward = o }

-- a part is the last, whatever it answers
module _ {A B : Type 0} (f : A → List ℕ → List ℕ) (out : B → List ℕ → List ℕ) (g : A → B) (ks : List ℕ) (i j p q : ℕ) (before now : List ℕ) (new : Reader) where
  pub gives : (r : Answer Unit) (m : Result A) → i ≤ j → q + i ≤ j + p
      → ((a : A) → Laid f q now new.events new.tape.now a → Laid out p before new.events new.tape.now (g a))
      → WroteFrom f ks j q now new r m → WroteFrom out ks i p before new r (and_then m (λ a n. ok (g a) n))
  unfolding and_then
  gives (Ok x) m l w e h =
      let o = h.onward in
      let y = h.low in
      record { what = g h.what; is = rw h.is; laid = e _ h.laid; same = h.same; onward = omega arith; low = omega arith }
  gives (Err x) m l w e h = let o = h.onward in record { is = rw h.is; same = h.same; onward = omega arith }

-- from an earlier token on
pub later : {A : Type 0} (out : A → List ℕ → List ℕ) (ks : List ℕ) (i j p : ℕ) (before : List ℕ) (new : Reader) (r : Answer Unit) (m : Result A) → i ≤ j
    → WroteFrom out ks j p before new r m → WroteFrom out ks i p before new r m
later out ks i j p before new (Ok x) m l h =
    let o = h.onward in
    let y = h.low in
    record { what = h.what; is = h.is; laid = h.laid; same = h.same; onward = omega arith; low = omega arith }
later out ks i j p before new (Err x) m l h = let o = h.onward in record { is = h.is; same = h.same; onward = omega arith }

-- ── tokens ──
pub stills : {r s t : Reader} → Still r s → Still s t → Still r t
stills a b = let x = a.onward in let y = b.onward in record { same = b.same ∙ a.same; onward = omega arith; tape = b.tape ∙ a.tape; events = b.events ∙ a.events; name = b.name ∙ a.name }

pub past : (ks : List ℕ) (i : ℕ) → length ks ≤ i → i ≤ length ks → Kind ks i 0
past ks i h l = record { is = sym (get_or-eq_default ks 0 h); within = omega arith }

pub want-yes : {k : ℕ} {ks : List ℕ} {i x : ℕ} → Kind ks i x → x ≡ k → want k ks i ≡ ok i (i + 1)
unfolding want
want-yes h e = rw (eq-eqb _ _ (sym h.is ∙ e))

pub want-no : {k : ℕ} {ks : List ℕ} {i x : ℕ} → Kind ks i x → (x ≡ k → ⊥) → want k ks i ≡ bad 4 i
unfolding want
want-no h n = rw (ne_eqb _ _ (λ e. n (h.is ∙ e)))

-- what was wanted is the next token
pub want-is : (k : ℕ) (ks : List ℕ) (i n j : ℕ) → want k ks i ≡ ok n j → n ≡ i
unfolding want
want-is k ks i n j h = go (eqb (get_or ks i 0) k) h
  where
    go : (t : Bool) → (whether t then ok i (i + 1) else bad 4 i) ≡ ok n j → n ≡ i
    go true e = cc
    go false e = cc
