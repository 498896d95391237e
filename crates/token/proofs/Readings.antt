-- The loop over the tokens of a text: what is read from a place on, one token more, and what is laid into the lent lists. Assumes nothing.
use Rattle.std.proofs.Common.{Ok, Err}
use Prim.Native.Nat.{ℕ, zero, suc, pred, ◌+◌, ◌-◌, ◌≤◌, ◌<◌}
use mathlib.Core.Path.{◌≡◌, refl, ap, sym, ◌∙◌}
use mathlib.Core.Bool.{Bool, true, false}
use mathlib.Core.List.{List, [], ◌∷◌, map}
use native.Mathlib.Omega.{arith}
use native.Mathlib.Decide.{dec_le}
use native.Mathlib.Nat.{add-zero}
use native.Mathlib.Numerals.{add-one}
use lib.Dec.{eqb, ltb}
use lib.ListN.{length, take, drop, set, length-drop, drop_of_length-le}
use lib.Seq.{sets, drop-cons, drop-drop}
use borrow.Author.Tests.{le-ltb, lt-ltb, le-leb, lt-leb, eq-eqb, ltb-false}
use Rattle.base.proofs.Parts.{to_end}
use Rattle.base.proofs.Tests.{cases, never_true}
use Rattle.spots.specs.declared.Spot.{Spot}
use Rattle.spots.specs.Spots.{spot_at, unplaced, NoNewline}
use Rattle.spots.specs.Going.{Near, onward, along}
use Rattle.spots.proofs.Going.{near, onward-is, along-is}
use Rattle.token.specs.Kinds as K
use Rattle.token.specs.Text.{number_of, token, Outcome, read, refused, next_token, Reading, ended, refused_at, after, is_last, moved, read_by, read_from, TEXT-LIMIT, tokens_of}
use Rattle.token.specs.Answers.{Next, Tokens, refusal_of, outcome_of, summary, summary_of, summed, laid, laid_from, laid_over, Summary, Lists, LaidBy, Laid, read_into, tokens_into}
use Rattle.token.specs.declared.Token.{Token}
use Rattle.token.specs.declared.Unread.{Unread}
use Rattle.token.specs.declared.Unread.TheVariants as U
use Rattle.token.specs.declared.Why.{Why}
use Rattle.token.specs.declared.Why.TheVariants.{NoToken, OutOfRange}
use Rattle.token.proofs.Gaps.{start, at-end, placed, spot_in, ends, is_final, Held, held}

-- what is read from a place on
abbrev pub rest : ℕ → List ℕ → Reading
rest at s = read_from s at 0 (drop at s)

skip : (text : List ℕ) (at k : ℕ) (s : List ℕ) → k ≤ length s → read_from text at k s ≡ read_from text (at + k) 0 (drop k s)
unfolding read_from
skip text at zero s h = rw (add-zero at)
skip text at (suc k) [] h = absurd (omega arith)
skip text at (suc k) (x ∷ xs) h =
    let e : suc at + k ≡ at + suc k = omega arith in
    skip text (suc at) k xs (omega arith) ∙ ap (λ (n : ℕ). read_from text n 0 (drop k xs)) e

token_in : Outcome → Token
token_in (read t end) = t
token_in (refused number spot) = token 0 0 spot

is_read : Outcome → Bool
is_read (read t end) = true
is_read (refused number spot) = false

-- what stands at a place, as the token reader finds it in the part of the text from there
module _ (s : List ℕ) (at : ℕ) (o : Outcome) (h : at ≤ length s) (e : o ≡ next_token (take (length s - at) (drop at s))) where
  found : next_token (drop at s) ≡ o
  found = ap next_token (sym (to_end s at)) ∙ sym e

  holds : Held (drop at s) o
  holds = rw (← found) (held (drop at s))

  fits : at + ends o ≤ length s
  fits = omega (arith, holds.fits, length-drop at s)

  before : placed o ≤ ends o
  before = holds.before

  some : is_final o ≡ false → placed o < ends o
  some = holds.some

  -- at the end of the text the next token says so
  ended_here : length s ≤ at → o ≡ read (token K.END-OF-TEXT 0 (spot_at [] 0)) 0
  ended_here l = sym found ∙ ap next_token (drop_of_length-le s l) ∙ start [] ∙ at-end [] 0 (omega arith)

  next : at < length s → rest at s ≡ read_by s o at (λ n. read_from s (suc at) (pred n) (drop (suc at) s))
  unfolding read_from
  next l = rw (drop-cons s at 0 l) (ap (λ (x : Outcome). read_by s x at (λ n. read_from s (suc at) (pred n) (drop (suc at) s))) (ap next_token (sym (drop-cons s at 0 l)) ∙ found))

  -- how reading goes on: with a token, after which the rest is read; with the last token; or with a refusal
  pub read-on : (t : Token) (end : ℕ) → o ≡ read t end → is_last t.kind ≡ false → rest at s ≡ after (moved s at t) (rest (at + end) s)
  read-on t end q l = go (dec_le (length s) at)
    where
      go : Dec (length s ≤ at) → rest at s ≡ after (moved s at t) (rest (at + end) s)
      go (yes m) = never_true (sym l ∙ ap is_final (sym q ∙ ended_here m))
      go (no m) =
          let b : at < length s = omega arith in
          let z : ends o ≡ end = ap ends q in
          let p : 0 < end = (let u = some (ap is_final q ∙ l) in omega arith) in
          let f = fits in
          let j : suc at + pred end ≡ at + end = omega arith in
          next b ∙ rw (q, l)
          (ap (λ (r : Reading). after (moved s at t) r)
          (skip s (suc at) (pred end) (drop (suc at) s) (omega (arith, length-drop (suc at) s)) ∙ rw (drop-drop (pred end) (suc at) s, j)))

  pub read-last : (t : Token) (end : ℕ) → o ≡ read t end → is_last t.kind ≡ true → rest at s ≡ ended (moved s at t ∷ [])
  unfolding read_from token_in
  read-last t end q l = go (dec_le (length s) at)
    where
      go : Dec (length s ≤ at) → rest at s ≡ ended (moved s at t ∷ [])
      go (yes m) =
          let z : t ≡ token K.END-OF-TEXT 0 (spot_at [] 0) = ap token_in (sym q ∙ ended_here m) in
          rw (drop_of_length-le s m, z, add-zero at)
      go (no m) = next (omega arith) ∙ rw (q, l)

  pub read_no : (number : ℕ) (spot : Spot) → o ≡ refused number spot → rest at s ≡ refused_at number (spot_at s (at + spot.place))
  unfolding is_read
  read_no number spot q = go (dec_le (length s) at)
    where
      go : Dec (length s ≤ at) → rest at s ≡ refused_at number (spot_at s (at + spot.place))
      go (yes m) = never_true (ap is_read (sym q ∙ ended_here m))
      go (no m) = next (omega arith) ∙ rw q

  -- where it stands in the text, counted on from there
  there-is : {a : Spot} → a ≡ spot_at s at → onward a (spot_in o) ≡ spot_at s (at + placed o)
  there-is p = rw (p, holds.stands) (onward-is s at (placed o))

  there-near : length s ≤ 4294967296 → Near (spot_in o)
  there-near m = rw holds.stands (near (drop at s) (placed o) (omega (arith, holds.before, holds.fits)) (omega (arith, length-drop at s)))

-- no more tokens than bytes, and one at the end
pub few-tokens : (text : List ℕ) (at k : ℕ) (s : List ℕ) → length (read_from text at k s).tokens ≤ length s + 1
unfolding read_from
few-tokens text at k [] = omega arith
few-tokens text at (suc k) (x ∷ xs) = omega (arith, few-tokens text (suc at) k xs)
few-tokens text at zero (x ∷ xs) = by (next_token (x ∷ xs)) (λ n. few-tokens text (suc at) (pred n) xs)
  where
    by : (o : Outcome) → ((n : ℕ) → length (read_from text (suc at) (pred n) xs).tokens ≤ length xs + 1)
        → length (read_by text o at (λ n. read_from text (suc at) (pred n) xs)).tokens ≤ suc (length xs) + 1
    by (refused number spot) ih = omega arith
    by (read t end) ih =
        cases (is_last t.kind) (λ e. rw e (omega arith)) (λ e. rw e (omega (arith, ih end)))

-- what the loops know at a place with n tokens read: the whole reading is what is read from there on
pub record Reads (s : List ℕ) (at n : ℕ) : Type 0 where
  pub inside : at ≤ length s
  pub few : n ≤ at
  pub number : (read_from s 0 0 s).number ≡ (rest at s).number
  pub spot : (read_from s 0 0 s).spot ≡ (rest at s).spot
  pub count : length (read_from s 0 0 s).tokens ≡ n + length (rest at s).tokens

pub reads-start : (s : List ℕ) → Reads s 0 0
reads-start s = record { inside = omega arith; few = omega arith; number = refl; spot = refl; count = omega arith }

-- what is laid so far over a list, by the part of each token that belongs there: the whole is what is left, laid over it
abbrev pub LaidOn : (Token → ℕ) → List ℕ → List ℕ → List ℕ → ℕ → ℕ → Type 0
LaidOn part s old now at n = laid part (read_from s 0 0 s).tokens old ≡ sets now n (map part (rest at s).tokens)

-- the same of five lists
pub record ListsOn (s : List ℕ) (old now : Lists) (at n : ℕ) : Type 0 where
  pub whole : laid_over (read_from s 0 0 s).tokens old ≡ laid_from n (rest at s).tokens now

-- what they know when the token reader has answered
pub record Answered (s : List ℕ) (at n : ℕ) (r : Next) : Type 0 where
  pub reads : Reads s at n
  pub next : outcome_of r ≡ next_token (take (length s - at) (drop at s))

-- it answered with a token
module _ {s : List ℕ} {at n : ℕ} {r : Next} {t : Token} {end : ℕ} (g : Answered s at n r) (q : r ≡ Ok (t, end)) where
  is : outcome_of r ≡ read t end
  is = ap outcome_of q

  h : at ≤ length s
  h = g.reads.inside

  pub ends-inside : at + end ≤ length s
  ends-inside = let f = fits s at (outcome_of r) h g.next in let z : ends (outcome_of r) ≡ end = ap ends is in omega arith

  pub place_inside : at + t.spot.place ≤ length s
  place_inside =
      let f = before s at (outcome_of r) h g.next in
      let z : placed (outcome_of r) ≡ t.spot.place = ap placed is in
      let y : ends (outcome_of r) ≡ end = ap ends is in
      omega (arith, ends-inside)

  pub one_more : is_last t.kind ≡ false → rest at s ≡ after (moved s at t) (rest (at + end) s)
  one_more l = read-on s at (outcome_of r) h g.next t end is l

  pub the_last : is_last t.kind ≡ true → rest at s ≡ ended (moved s at t ∷ [])
  the_last l = read-last s at (outcome_of r) h g.next t end is l

  pub some_bytes : is_last t.kind ≡ false → 0 < end
  some_bytes l =
      let f = some s at (outcome_of r) h g.next (ap is_final is ∙ l) in
      let z : ends (outcome_of r) ≡ end = ap ends is in
      omega arith

  -- where the token stands in the text, counted on from there; no byte of it ends a line
  pub token-there : {a : Spot} → a ≡ spot_at s at → onward a t.spot ≡ spot_at s (at + t.spot.place)
  token-there p = rw is at (there-is s at (outcome_of r) h g.next p)

  pub token-near : length s ≤ 4294967296 → Near t.spot
  token-near m = rw is at (there-near s at (outcome_of r) h g.next m)

  pub place-before : t.spot.place ≤ end
  place-before = rw is at (before s at (outcome_of r) h g.next)

  pub token-behind : {a : Spot} → a ≡ spot_at s (at + t.spot.place) → along a (end - t.spot.place) ≡ spot_at s (at + end)
  token-behind p =
      let n = end - t.spot.place in
      let b = place-before in
      let f = ends-inside in
      let j : at + t.spot.place + n ≡ at + end = omega arith in
      let l : NoNewline (take n (drop t.spot.place (drop at s))) = rw is at (holds s at (outcome_of r) h g.next).one_line in
      rw (p, ← j) (along-is s (at + t.spot.place) n (omega arith) (rw (← drop-drop t.spot.place at s) l))

  -- there is room for the token where there is room for all
  pub has_room : (m : ℕ) → length (read_from s 0 0 s).tokens ≤ m → n < m
  has_room m l =
      let c = g.reads.count in
      cases (is_last t.kind)
      (λ z. omega (arith, ap (λ (x : Reading). length x.tokens) (the_last z)))
      (λ z. omega (arith, ap (λ (x : Reading). length x.tokens) (one_more z)))

  pub reads_on : is_last t.kind ≡ false → Reads s (at + end) (n + 1)
  reads_on l =
      let p = some_bytes l in
      let w = g.reads in
      record {
        inside = ends-inside;
        few = omega arith;
        number = w.number ∙ ap (λ (x : Reading). x.number) (one_more l);
        spot = w.spot ∙ ap (λ (x : Reading). x.spot) (one_more l);
        count = omega (arith, ap (λ (x : Reading). length x.tokens) (one_more l));
      }

  pub reads-last : is_last t.kind ≡ true → summary 0 (unplaced 0) (n + 1) ≡ summed (read_from s 0 0 s)
  reads-last l =
      let w = g.reads in
      rw (w.number ∙ ap (λ (x : Reading). x.number) (the_last l), w.spot ∙ ap (λ (x : Reading). x.spot) (the_last l), w.count ∙ ap (λ (x : Reading). n + length x.tokens) (the_last l))

  module _ (part : Token → ℕ) (old now : List ℕ) (w : LaidOn part s old now at n) where
    pub laid_on : is_last t.kind ≡ false → LaidOn part s old (set now n (part (moved s at t))) (at + end) (n + 1)
    laid_on l = rw (add-one n) (w ∙ ap (λ (x : Reading). sets now n (map part x.tokens)) (one_more l))

    pub laid-last : is_last t.kind ≡ true → set now n (part (moved s at t)) ≡ laid part (read_from s 0 0 s).tokens old
    laid-last l = sym (w ∙ ap (λ (x : Reading). sets now n (map part x.tokens)) (the_last l))

  -- of five lists, by the place that was counted
  module _ {old now after : Lists} {spot : Spot} (w : ListsOn s old now at n) (p : spot ≡ spot_at s (at + t.spot.place))
      (e : after ≡ laid_from n (token t.kind t.value spot ∷ []) now) where
    pub lists-on : is_last t.kind ≡ false → ListsOn s old after (at + end) (n + 1)
    lists-on l = rw (e, p) (record { whole = rw (add-one n) (w.whole ∙ ap (λ (x : Reading). laid_from n x.tokens now) (one_more l)) })

    pub lists-last : is_last t.kind ≡ true → after ≡ laid_over (read_from s 0 0 s).tokens old
    lists-last l = e ∙ rw p (sym (w.whole ∙ ap (λ (x : Reading). laid_from n x.tokens now) (the_last l)))

-- it answered with a refusal
module _ {s : List ℕ} {at n : ℕ} {r : Next} {number : ℕ} {spot : Spot} (g : Answered s at n r) (q : outcome_of r ≡ refused number spot) where
  none_more : rest at s ≡ refused_at number (spot_at s (at + spot.place))
  none_more = read_no s at (outcome_of r) g.reads.inside g.next number spot q

  pub refused-inside : at + spot.place ≤ length s
  refused-inside =
      let f = fits s at (outcome_of r) g.reads.inside g.next in
      let z : ends (outcome_of r) ≡ spot.place = ap ends q in
      omega arith

  pub refused-there : {a : Spot} → a ≡ spot_at s at → onward a spot ≡ spot_at s (at + spot.place)
  refused-there p = rw q at (there-is s at (outcome_of r) g.reads.inside g.next p)

  pub refused-near : length s ≤ 4294967296 → Near spot
  refused-near m = rw q at (there-near s at (outcome_of r) g.reads.inside g.next m)

  pub reads-no : eqb number 0 ≡ false → summary number (spot_at s (at + spot.place)) 0 ≡ summed (read_from s 0 0 s)
  reads-no z =
      let w = g.reads in
      rw (w.number ∙ ap (λ (x : Reading). x.number) none_more, w.spot ∙ ap (λ (x : Reading). x.spot) none_more, z)

  pub laid-no : (part : Token → ℕ) (old now : List ℕ) → LaidOn part s old now at n → now ≡ laid part (read_from s 0 0 s).tokens old
  laid-no part old now w = sym (w ∙ ap (λ (x : Reading). sets now n (map part x.tokens)) none_more)

  pub lists-no : {old now : Lists} → ListsOn s old now at n → now ≡ laid_over (read_from s 0 0 s).tokens old
  lists-no {now = now} w = sym (w.whole ∙ ap (λ (x : Reading). laid_from n x.tokens now) none_more)

-- a text without a refusal is not too long, so all of it is read
pub not-too-long : (s : List ℕ) → (tokens_of s).number ≡ 0 → length s ≤ TEXT-LIMIT
unfolding tokens_of
not-too-long s = go (dec_le (length s) TEXT-LIMIT)
  where
    go : Dec (length s ≤ TEXT-LIMIT) → (tokens_of s).number ≡ 0 → length s ≤ TEXT-LIMIT
    go (yes h) z = h
    go (no h) z = let y : ◌≡◌ {A = ℕ} 1 0 = rw (lt-ltb TEXT-LIMIT (length s) (omega arith)) at z in absurd (omega arith)

pub all-read-from : (s : List ℕ) → (tokens_of s).number ≡ 0 → tokens_of s ≡ read_from s 0 0 s
unfolding tokens_of
all-read-from s z = rw (le-ltb TEXT-LIMIT (length s) (not-too-long s z))

-- no text has more tokens than bytes and one at the end, nor more than a text of the greatest length
pub tokens-few : (s : List ℕ) → (length (tokens_of s).tokens ≤ length s + 1) × (length (tokens_of s).tokens ≤ TEXT-LIMIT + 1)
unfolding tokens_of
tokens-few s =
    cases (ltb TEXT-LIMIT (length s))
    (λ e. rw e (omega arith, omega arith))
    (λ e. rw e (let f = few-tokens s 0 0 s in let l = ltb-false TEXT-LIMIT (length s) e in (omega arith, omega arith)))

-- what the entries answer before they read, when nothing is laid, and that they read
module _ {A : Type 0} {over : List Token → A → A} (s : List ℕ) {l : A} where
  pub too_long : (n : ℕ) → TEXT-LIMIT < length s → LaidBy over (read_into n s) l (over [] l) (Err U.TooLong)
  unfolding read_into
  too_long n h = rw (lt-ltb TEXT-LIMIT (length s) h) (record { is = refl; are-laid = refl })

  module _ {m n : ℕ} (e : m ≡ n) (h : length s ≤ TEXT-LIMIT) where
    pub no_room : m ≤ length s → LaidBy over (read_into n s) l (over [] l) (Err (U.Room (length s + 1)))
    unfolding read_into
    no_room q = rw (le-ltb TEXT-LIMIT (length s) h, le-leb n (length s) (rw (← e) q)) (record { is = refl; are-laid = refl })

    pub in-room : {l' : A} {a : Tokens} → length s < m → LaidBy over (read_from s 0 0 s) l l' a → LaidBy over (read_into n s) l l' a
    unfolding read_into
    in-room q d = rw (le-ltb TEXT-LIMIT (length s) h, lt-leb n (length s) (rw (← e) q)) d

-- a checked text without a refusal: how many tokens it has
module _ (s : List ℕ) (c : ℕ) (e : summary_of (Ok c) ≡ summed (tokens_of s)) where
  none-refused : (tokens_of s).number ≡ 0
  none-refused = sym (ap (λ (x : Summary). x.number) e)

  counted : length (tokens_of s).tokens ≡ c
  counted = sym (ap (λ (x : Summary). x.count) e ∙ rw none-refused)

  whole : tokens_of s ≡ read_from s 0 0 s
  whole = all-read-from s none-refused

  pub checked-limit : length s ≤ TEXT-LIMIT
  checked-limit = not-too-long s none-refused

  pub checked-count : length (read_from s 0 0 s).tokens ≡ c
  checked-count = rw (← whole) counted

  -- there is no room for them, or there is
  module _ (n : ℕ) {l : Lists} where
    pub too_many : n < c → Laid (tokens_into n s) l l (Err (U.Room c))
    unfolding tokens_into
    too_many q =
        rw (none-refused, counted, lt-ltb n c q)
        (record { is = refl; are-laid = refl })

    pub all_read : {l' : Lists} {a : Tokens} → c ≤ n → Laid (read_from s 0 0 s) l l' a → Laid (tokens_into n s) l l' a
    unfolding tokens_into
    all_read q d =
        let y : eqb (tokens_of s).number 0 ≡ true = eq-eqb _ _ none-refused in
        rw (y, counted, le-ltb n c q, whole) d

-- no refusal is numbered 0
pub refused-some : (why : Why) → eqb (number_of why) 0 ≡ false
refused-some NoToken = refl
refused-some OutOfRange = refl

pub unread-some : (e : Unread) → eqb (refusal_of e).number 0 ≡ false
unread-some U.TooLong = refl
unread-some (U.Refused r) = refused-some r.why
unread-some (U.Room needed) = refl

-- a checked text with a refusal
pub stays : (s : List ℕ) (n : ℕ) {l : Lists} (a : Tokens) → summary_of a ≡ summed (tokens_of s) → eqb (summary_of a).number 0 ≡ false → Laid (tokens_into n s) l l a
unfolding tokens_into
stays s n a e z =
    let y : eqb (tokens_of s).number 0 ≡ false = sym (ap (λ (x : Summary). eqb x.number 0) e) ∙ z in
    rw y (record { is = e ∙ rw y; are-laid = refl })
