-- The tokens of a text behind the standard names: laid one after the other, and then together. Assumes nothing.
use Rattle.std.proofs.Common.{Ok}
use mathlib.Core.Path.{◌≡◌, refl, sym, ap, ap₂, subst, ◌∙◌}
use mathlib.Core.Bool.{true, false}
use mathlib.Core.List.{List, [], ◌∷◌, ◌++◌, map}
use Prim.Native.Nat.{ℕ, ◌+◌, ◌-◌, ◌≤◌}
use native.Mathlib.Omega.{arith}
use lib.Dec.{eqb}
use lib.ListN.{length, length-map, length-drop, take, drop, set}
use lib.Seq.{sets, length-sets, take-add, take-set-le, drop-set-add}
use borrow.Author.Tests.{le-ltb}
use Rattle.base.proofs.Parts.{part-sets}
use Rattle.spots.specs.declared.Spot.{Spot}
use Rattle.spots.specs.Spots.{spot_at}
use Rattle.token.specs.Text.{Reading, moved, next_token, refused, is_last, read_from, tokens_of, TEXT-LIMIT}
use Rattle.token.specs.Answers.{Next, Tokens, outcome_of, Summary, summary, summary_of, summed, laid, kind_of, value_of}
use Rattle.token.specs.declared.Token.{Token}
use Rattle.token.proofs.Readings.{few-tokens, all-read-from, Reads, reads-start, reads_on, reads-last, reads-no, LaidOn, Answered, laid_on, laid-last, refused-inside, laid-no}
use Rattle.ledger.specs.Book.{Wide, on_wide, put_value}
use Rattle.scopes.specs.Search.{in_front, first_token}
use Rattle.settled.specs.Texts.{LaidBehind, ButValues, Behind, Fronted, rows_for}

-- a text that is not too long is read from its start
pub read_whole : (s : List ℕ) → length s ≤ TEXT-LIMIT → tokens_of s ≡ read_from s 0 0 s
unfolding tokens_of
read_whole s h = rw (le-ltb TEXT-LIMIT (length s) h)

module _ (s : List ℕ) (answer : Tokens) (is : summary_of answer ≡ summed (tokens_of s)) (n : ℕ) (e : answer ≡ Ok n) where
  pub all_read : (tokens_of s).number ≡ 0
  all_read = sym (ap (λ (x : Summary). x.number) is) ∙ ap (λ (x : Tokens). (summary_of x).number) e

  pub count-is : n ≡ length (tokens_of s).tokens
  count-is = sym (ap (λ (x : Tokens). (summary_of x).count) e) ∙ (ap (λ (x : Summary). x.count) is ∙ rw all_read)

  pub few-read : n ≤ length s + 1
  few-read =
      let m = few-tokens s 0 0 s in
      let q = count-is ∙ ap (λ (r : Reading). length r.tokens) (all-read-from s all_read) in
      omega arith

-- ── one after the other ──

-- a list in which so much is laid
pub record Laying (part : Token → ℕ) (s old now : List ℕ) (at n : ℕ) : Type 0 where
  pub front : take first_token now ≡ take first_token old
  pub on : LaidOn part s (drop first_token old) (drop first_token now) at n

pub laying-start : (part : Token → ℕ) (s l : List ℕ) → Laying part s l l 0 0
laying-start part s l = record { front = refl; on = refl }

module _ {s : List ℕ} {at n : ℕ} {r : Next} {t : Token} {end : ℕ} (g : Answered s at n r) (q : r ≡ Ok (t, end)) (part : Token → ℕ) (old now : List ℕ) (w : Laying part s old now at n) where
  front-stays : take first_token (set now (first_token + n) (part (moved s at t))) ≡ take first_token old
  front-stays = take-set-le first_token now (first_token + n) (part (moved s at t)) (omega arith) ∙ w.front

  pub laying-on : is_last t.kind ≡ false → Laying part s old (set now (first_token + n) (part (moved s at t))) (at + end) (n + 1)
  laying-on l = record {
    front = front-stays;
    on =
        subst (λ (k : List ℕ). LaidOn part s (drop first_token old) k (at + end) (n + 1)) (sym (drop-set-add first_token now n (part (moved s at t))))
        (laid_on g q part (drop first_token old) (drop first_token now) w.on l);
  }

  pub laying-last : length s ≤ TEXT-LIMIT → is_last t.kind ≡ true → LaidBehind part s old (set now (first_token + n) (part (moved s at t)))
  laying-last h l = record {
    front = front-stays;
    behind =
        drop-set-add first_token now n (part (moved s at t))
        ∙ (laid-last g q part (drop first_token old) (drop first_token now) w.on l ∙ ap (λ (x : Reading). laid part x.tokens (drop first_token old)) (sym (read_whole s h)));
  }

pub laying-no :
    {s : List ℕ} {at n : ℕ} {r : Next} {number : ℕ} {spot : Spot} → Answered s at n r → outcome_of r ≡ refused number spot → (part : Token → ℕ) (old now : List ℕ)
    → Laying part s old now at n → length s ≤ TEXT-LIMIT → LaidBehind part s old now
laying-no {s} g q part old now w h = record {
  front = w.front;
  behind = laid-no g q part (drop first_token old) (drop first_token now) w.on ∙ ap (λ (x : Reading). laid part x.tokens (drop first_token old)) (sym (read_whole s h));
}

-- a value more
pub values-more : (w₀ w w' : Wide) (t v : ℕ) → ButValues w₀ w → w' ≡ put_value t v w → ButValues w₀ w'
values-more w₀ w w' t v same e =
    let em : w.means ≡ w₀.means = ap (λ (y : Wide). y.means) same in
    let eu : w.under ≡ w₀.under = ap (λ (y : Wide). y.under) same in
    let eo : w.offsets ≡ w₀.offsets = ap (λ (y : Wide). y.offsets) same in
    let ev : w'.values ≡ set w.values t v = ap (λ (y : Wide). y.values) e in
    e ∙ rw (em, eu, eo, ev)

-- all that the loop knows
pub record Underway (s kinds₀ kinds : List ℕ) (w₀ w : Wide) (at n : ℕ) : Type 0 where
  pub reads : Reads s at n
  pub kinds-on : Laying kind_of s kinds₀ kinds at n
  pub values-on : Laying value_of s w₀.values w.values at n
  pub same : ButValues w₀ w

pub underway-start : (s kinds : List ℕ) (w : Wide) → Underway s kinds kinds w w 0 0
underway-start s kinds w = record { reads = reads-start s; kinds-on = laying-start kind_of s kinds; values-on = laying-start value_of s w.values; same = refl }

module _
    {s kinds₀ kinds : List ℕ} {w₀ w : Wide} {at n : ℕ} {r : Next} (u : Underway s kinds₀ kinds w₀ w at n) (e : outcome_of r ≡ next_token (take (length s - at) (drop at s)))
  where
    pub answered : Answered s at n r
    answered = record { reads = u.reads; next = e }

    module _ {t : Token} {end : ℕ} (q : r ≡ Ok (t, end)) (w' : Wide) (ew : w' ≡ put_value (first_token + n) t.value w) where
      ev : set w.values (first_token + n) t.value ≡ w'.values
      ev = sym (ap (λ (y : Wide). y.values) ew)

      pub underway-on : is_last t.kind ≡ false → Underway s kinds₀ (set kinds (first_token + n) t.kind) w₀ w' (at + end) (n + 1)
      underway-on l = record {
        reads = reads_on answered q l;
        kinds-on = laying-on answered q kind_of kinds₀ kinds u.kinds-on l;
        values-on = subst (λ (k : List ℕ). Laying value_of s w₀.values k (at + end) (n + 1)) ev (laying-on answered q value_of w₀.values w.values u.values-on l);
        same = values-more w₀ w w' (first_token + n) t.value u.same ew;
      }

      pub underway-last : length s ≤ TEXT-LIMIT → is_last t.kind ≡ true → Behind s kinds₀ (set kinds (first_token + n) t.kind) w₀ w' (Ok (n + 1))
      underway-last h l = record {
        is = reads-last answered q l ∙ ap summed (sym (read_whole s h));
        kinds-laid = laying-last answered q kind_of kinds₀ kinds u.kinds-on h l;
        values-laid = subst (λ (k : List ℕ). LaidBehind value_of s w₀.values k) ev (laying-last answered q value_of w₀.values w.values u.values-on h l);
        same = values-more w₀ w w' (first_token + n) t.value u.same ew;
      }

-- it answered with a refusal
module _
    (r : Next) {s kinds₀ kinds : List ℕ} {w₀ w : Wide} {at n number : ℕ} {spot : Spot} (u : Underway s kinds₀ kinds w₀ w at n)
    (e : outcome_of r ≡ next_token (take (length s - at) (drop at s))) (q : outcome_of r ≡ refused number spot)
  where
    stopped : Answered s at n r
    stopped = record { reads = u.reads; next = e }

    pub underway-inside : at + spot.place ≤ length s
    underway-inside = refused-inside stopped q

    pub underway-no : eqb number 0 ≡ false → length s ≤ TEXT-LIMIT → (answer : Tokens) → summary_of answer ≡ summary number (spot_at s (at + spot.place)) 0 → Behind s kinds₀ kinds w₀ w answer
    underway-no z h answer ea = record {
      is = ea ∙ (reads-no stopped q z ∙ ap summed (sym (read_whole s h)));
      kinds-laid = laying-no stopped q kind_of kinds₀ kinds u.kinds-on h;
      values-laid = laying-no stopped q value_of w₀.values w.values u.values-on h;
      same = u.same;
    }

-- ── together ──

-- one part of each token, behind that of the names
fronted : (f : Token → ℕ) (old new new' : List ℕ) (ts : List Token) → first_token + length ts ≤ length old → new ≡ sets old 0 (map f in_front) → take first_token new' ≡ take first_token new
    → drop first_token new' ≡ laid f ts (drop first_token new) → take (first_token + length ts) new' ≡ map f (in_front ++ ts)
fronted f old new new' ts h en ef eb =
    let m : length (map f ts) ≡ length ts = length-map ts f in
    let o : length new ≡ length old = ap length en ∙ length-sets old 0 (map f in_front) in
    let d = length-drop first_token new in
    let a : take first_token new' ≡ map f in_front = ef ∙ rw en (part-sets old 0 (map f in_front) 0 (omega arith)) in
    let b : take (length ts) (drop first_token new') ≡ map f ts =
    rw eb (subst (λ (i : ℕ). take i (laid f ts (drop first_token new)) ≡ map f ts) m (part-sets (drop first_token new) 0 (map f ts) 0 (omega arith))) in
    take-add first_token (length ts) new' ∙ (ap₂ (λ (x y : List ℕ). x ++ y) a b ∙ both in_front)
  where
    both : (us : List Token) → map f us ++ map f ts ≡ map f (us ++ ts)
    both [] = refl
    both (u ∷ us) = ap (λ (l : List ℕ). f u ∷ l) (both us)

pub fronted-all :
    (src kinds kinds₁ kinds' : List ℕ) (w w₁ w' : Wide) (answer : Tokens) → rows_for (length src) ≤ length kinds → rows_for (length src) ≤ length w.values
    → kinds₁ ≡ sets kinds 0 (map kind_of in_front) → w₁ ≡ on_wide 0 (λ (l : List ℕ). sets l 0 (map value_of in_front)) w → Behind src kinds₁ kinds' w₁ w' answer
    → Fronted src kinds' w'.values answer × ButValues w w'
fronted-all src kinds kinds₁ kinds' w w₁ w' answer hk hv ek ew d = (
  record {
    is = d.is;
    kinds-are = λ n e. rw (count-is src answer d.is n e) (fronted kind_of kinds kinds₁ kinds' (tokens_of src).tokens (fits n e (length kinds) hk) ek d.kinds-laid.front d.kinds-laid.behind);
    values-are = λ n e. rw (count-is src answer d.is n e)
        (fronted value_of w.values w₁.values w'.values (tokens_of src).tokens (fits n e (length w.values) hv) (ap (λ (y : Wide). y.values) ew)
        d.values-laid.front d.values-laid.behind);
  },
  d.same ∙ ap (on_wide 0 (λ (l : List ℕ). w'.values)) ew,
)
  where
    fits : (n : ℕ) → answer ≡ Ok n → (N : ℕ) → rows_for (length src) ≤ N → first_token + length (tokens_of src).tokens ≤ N
    fits n e N h = let p = few-read src answer d.is n e in let q = count-is src answer d.is n e in omega arith
