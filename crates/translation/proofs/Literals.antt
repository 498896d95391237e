-- Every number that an instruction takes from storage is a literal, at the place that `index_of` gives, and no two literals are the same.
use mathlib.Core.Path.{◌≡◌, refl, sym, ap, subst, ◌∙◌}
use mathlib.Core.Logic.{◌⊎◌, inl, inr}
use mathlib.Core.List.{List, [], ◌∷◌, ◌++◌, append_assoc, append-nil}
use mathlib.Core.Bool.{Bool, true, false}
use Prim.Native.Nat.{ℕ, suc, ◌<◌}
use native.Mathlib.Omega.{arith}
use lib.Dec.{eqb}
use lib.ListN.{length, get_or}
use borrow.Author.Tests.{eqb-true, eqb-false}
use Rattle.base.specs.Choose.{whether◌then◌else◌}
use Rattle.base.specs.Lists.{◌∈◌, member}
use Rattle.base.specs.Runs.{run_len, index_of}
use Rattle.base.proofs.Lists.{in_left, in_right, member-in}
use Rattle.translation.specs.Instructions.{Datum, element, literal, entry, Instruction, rr, rx, address, immediate, shift, branch, link, indexed, stop}
use Rattle.translation.specs.Layout.{needs, literals_from}

-- ── the place of a number that is in a list ──

-- the first is the number, or the search goes on
index-cons : (v x : ℕ) (l : List ℕ) → index_of v (x ∷ l) ≡ (whether eqb x v then 0 else suc (index_of v l))
unfolding run_len
index-cons v x l = go (eqb x v) refl
  where
    go : (b : Bool) → eqb x v ≡ b → index_of v (x ∷ l) ≡ (whether b then 0 else suc (index_of v l))
    go true e = rw (e, run_len)
    go false e = rw (e, run_len)

-- what holds at the front where it stands there, and further on where it does not
index-by : (P : ℕ → Type 0) (v x : ℕ) (l : List ℕ) → (v ≡ x) ⊎ (v ∈ l) → (x ≡ v → P 0) → (v ∈ l → P (suc (index_of v l))) → P (index_of v (x ∷ l))
index-by P v x l h f g = subst P (sym (index-cons v x l)) (go (eqb x v) refl h)
  where
    go : (b : Bool) → eqb x v ≡ b → (v ≡ x) ⊎ (v ∈ l) → P (whether b then 0 else suc (index_of v l))
    go true e i = f (eqb-true _ _ e)
    go false e (inl i) = absurd (eqb-false _ _ e (sym i))
    go false e (inr i) = g i

pub index-lt : (v : ℕ) (l : List ℕ) → v ∈ l → index_of v l < length l
index-lt v [] h = absurd h
index-lt v (x ∷ l) h = index-by (λ (n : ℕ). n < length (x ∷ l)) v x l h (λ e. omega arith) (λ i. let k = index-lt v l i in omega arith)

pub index_at : (v : ℕ) (l : List ℕ) → v ∈ l → get_or l (index_of v l) 0 ≡ v
index_at v [] h = absurd h
index_at v (x ∷ l) h = index-by (λ (n : ℕ). get_or (x ∷ l) n 0 ≡ v) v x l h (λ e. e) (λ i. index_at v l i)

-- ── the literals ──

-- the number that an operand in storage is, if it is one
abbrev pub IsNumber : Datum → ℕ → Type 0
IsNumber (element c o x) v = ⊥
IsNumber (literal w) v = v ≡ w
IsNumber (entry k) v = ⊥

-- the number that an instruction takes, if it takes one
abbrev pub Takes : Instruction → ℕ → Type 0
Takes (rr op r s) v = ⊥
Takes (rx op r a) v = IsNumber a v
Takes (address r a) v = IsNumber a v
Takes (immediate op n a) v = IsNumber a v
Takes (shift op r s n) v = ⊥
Takes (branch m t) v = ⊥
Takes (link r t) v = ⊥
Takes (indexed r t) v = ⊥
Takes stop v = ⊥

needs-keeps : (a : Datum) (seen : List ℕ) (v : ℕ) → v ∈ seen → v ∈ needs a seen
needs-keeps (element c o x) seen v h = h
needs-keeps (entry k) seen v h = h
needs-keeps (literal w) seen v h = go (member w seen)
  where
    go : (b : Bool) → v ∈ (whether b then seen else seen ++ (w ∷ []))
    go true = h
    go false = in_left v seen (w ∷ []) h

needs-has : (w : ℕ) (seen : List ℕ) → w ∈ needs (literal w) seen
needs-has w seen = go (member w seen) refl
  where
    go : (b : Bool) → member w seen ≡ b → w ∈ (whether b then seen else seen ++ (w ∷ []))
    go true e = member-in w seen e
    go false e = in_right w seen (w ∷ []) (inl refl)

needs-number : (a : Datum) (seen : List ℕ) (v : ℕ) → IsNumber a v → v ∈ needs a seen
needs-number (element c o x) seen v h = absurd h
needs-number (literal w) seen v h = subst (λ (x : ℕ). x ∈ needs (literal w) seen) (sym h) (needs-has w seen)
needs-number (entry k) seen v h = absurd h

pub literals-keep : (is : List Instruction) (seen : List ℕ) (v : ℕ) → v ∈ seen → v ∈ literals_from seen is
unfolding literals_from
literals-keep [] seen v h = h
literals-keep (rr op r s ∷ is) seen v h = literals-keep is seen v h
literals-keep (rx op r a ∷ is) seen v h = literals-keep is (needs a seen) v (needs-keeps a seen v h)
literals-keep (address r a ∷ is) seen v h = literals-keep is (needs a seen) v (needs-keeps a seen v h)
literals-keep (immediate op n a ∷ is) seen v h = literals-keep is (needs a seen) v (needs-keeps a seen v h)
literals-keep (shift op r s n ∷ is) seen v h = literals-keep is seen v h
literals-keep (branch m t ∷ is) seen v h = literals-keep is seen v h
literals-keep (link r t ∷ is) seen v h = literals-keep is seen v h
literals-keep (indexed r t ∷ is) seen v h = literals-keep is seen v h
literals-keep (stop ∷ is) seen v h = literals-keep is seen v h

pub literals-have : (is : List Instruction) (seen : List ℕ) (i : Instruction) (v : ℕ) → i ∈ is → Takes i v → v ∈ literals_from seen is
unfolding literals_from
literals-have [] seen i v h t = absurd h
literals-have (j ∷ is) seen i v (inr h) t = onward j (literals-have is)
  where
    onward : (j : Instruction) → ((s : List ℕ) (i : Instruction) (v : ℕ) → i ∈ is → Takes i v → v ∈ literals_from s is) → v ∈ literals_from seen (j ∷ is)
    onward (rr op r s) f = f seen i v h t
    onward (rx op r a) f = f (needs a seen) i v h t
    onward (address r a) f = f (needs a seen) i v h t
    onward (immediate op n a) f = f (needs a seen) i v h t
    onward (shift op r s n) f = f seen i v h t
    onward (branch m x) f = f seen i v h t
    onward (link r x) f = f seen i v h t
    onward (indexed r x) f = f seen i v h t
    onward stop f = f seen i v h t
literals-have (j ∷ is) seen i v (inl h) t = here j (subst (λ (k : Instruction). Takes k v) h t)
  where
    here : (j : Instruction) → Takes j v → v ∈ literals_from seen (j ∷ is)
    here (rr op r s) k = absurd k
    here (rx op r a) k = literals-keep is (needs a seen) v (needs-number a seen v k)
    here (address r a) k = literals-keep is (needs a seen) v (needs-number a seen v k)
    here (immediate op n a) k = literals-keep is (needs a seen) v (needs-number a seen v k)
    here (shift op r s n) k = absurd k
    here (branch m x) k = absurd k
    here (link r x) k = absurd k
    here (indexed r x) k = absurd k
    here stop k = absurd k

-- ── they only grow at the end, so that a number's place among those so far is its place among all ──

pub index-grows : (v : ℕ) (l more : List ℕ) → v ∈ l → index_of v (l ++ more) ≡ index_of v l
index-grows v [] more h = absurd h
index-grows v (x ∷ l) more h = index-cons v x (l ++ more) ∙ (go (eqb x v) refl h (index-grows v l more) ∙ sym (index-cons v x l))
  where
    go : (b : Bool) → eqb x v ≡ b → (v ≡ x) ⊎ (v ∈ l) → (v ∈ l → index_of v (l ++ more) ≡ index_of v l)
        → (whether b then 0 else suc (index_of v (l ++ more))) ≡ (whether b then 0 else suc (index_of v l))
    go true e i f = refl
    go false e (inl i) f = absurd (eqb-false _ _ e (sym i))
    go false e (inr i) f = ap suc (f i)

-- the later literals begin with the earlier
pub record Grows (earlier later : List ℕ) : Type 0 where
  pub more : List ℕ
  pub is : later ≡ earlier ++ more

pub grows_same : (l : List ℕ) → Grows l l
grows_same l = record { more = []; is = sym (append-nil l) }

grows-on : {k l m : List ℕ} → Grows k l → Grows l m → Grows k m
grows-on {k} g h = record { more = g.more ++ h.more; is = h.is ∙ (ap (λ (x : List ℕ). x ++ h.more) g.is ∙ append_assoc k g.more h.more) }

needs-grow : (a : Datum) (seen : List ℕ) → Grows seen (needs a seen)
needs-grow (element c o x) seen = grows_same seen
needs-grow (entry k) seen = grows_same seen
needs-grow (literal w) seen = go (member w seen)
  where
    go : (b : Bool) → Grows seen (whether b then seen else seen ++ (w ∷ []))
    go true = grows_same seen
    go false = record { more = w ∷ []; is = refl }

pub literals-grow : (is : List Instruction) (seen : List ℕ) → Grows seen (literals_from seen is)
unfolding literals_from
literals-grow [] seen = grows_same seen
literals-grow (rr op r s ∷ is) seen = literals-grow is seen
literals-grow (rx op r a ∷ is) seen = grows-on (needs-grow a seen) (literals-grow is (needs a seen))
literals-grow (address r a ∷ is) seen = grows-on (needs-grow a seen) (literals-grow is (needs a seen))
literals-grow (immediate op n a ∷ is) seen = grows-on (needs-grow a seen) (literals-grow is (needs a seen))
literals-grow (shift op r s n ∷ is) seen = literals-grow is seen
literals-grow (branch m t ∷ is) seen = literals-grow is seen
literals-grow (link r t ∷ is) seen = literals-grow is seen
literals-grow (indexed r t ∷ is) seen = literals-grow is seen
literals-grow (stop ∷ is) seen = literals-grow is seen

-- the place of a number that was needed is its place among all that are needed later
pub literal-place : (v : ℕ) (seen later : List ℕ) → Grows (needs (literal v) seen) later → index_of v (needs (literal v) seen) ≡ index_of v later
literal-place v seen later g = sym (ap (index_of v) g.is ∙ index-grows v (needs (literal v) seen) g.more (needs-has v seen))
