-- What a reader of document 01's "Text and tokens" may rely on, over the reading of a text: refusals 1 to 3 are given exactly when and where the table says, and
-- no second answer fits. Assumes nothing.
use Rattle.std.proofs.Common.{Ok, Err}
use Prim.Native.Nat.{ℕ, ◌≤◌, ◌<◌}
use mathlib.Core.Path.{◌≡◌, refl, sym, ap, ◌∙◌, subst}
use mathlib.Core.List.{List}
use mathlib.Core.Logic.{◌↔◌}
use native.Mathlib.Omega.{arith}
use lib.Dec.{eqb, ltb}
use lib.ListN.{length}
use borrow.Author.Tests.{ltb-true, ltb-false, lt-ltb, le-ltb}
use Rattle.base.specs.Choose.{choose}
use Rattle.base.specs.Lists.{All}
use Rattle.base.proofs.Tests.{cases}
use Rattle.spots.specs.declared.Spot.{Spot}
use Rattle.spots.specs.Spots.{spot_at, unplaced}
use Rattle.token.specs.declared.Why.{Why}
use Rattle.token.specs.declared.Why.TheVariants.{NoToken, OutOfRange}
use Rattle.token.specs.declared.Refusal as R
use Rattle.token.specs.declared.Unread.TheVariants as U
use Rattle.token.specs.Text.{number_of, Outcome, read, refused, Reading, TEXT-LIMIT, refused_at, tokens_of}
use Rattle.token.specs.Answers.{Next, Tokens, outcome_of, Summary, summary_of}
use Rattle.token.specs.Refusals.{TwoAt, ThreeAt}
use Rattle.token.proofs.Readings.{rest}
use Rattle.token.proofs.Shape.{tokens-stand}
use Rattle.token.proofs.Refused.{led, Told, none, at-no-token, at-out-of-range, told, stands-refused}

-- which refusal reading a text answers, and where
pub data Refusal (s : List ℕ) (r : Reading) : Type 0 where
  all_read : length s ≤ TEXT-LIMIT → r.number ≡ 0 → Refusal s r
  one : TEXT-LIMIT < length s → r.number ≡ 1 → r.spot ≡ unplaced TEXT-LIMIT → Refusal s r
  two : (p : ℕ) → TwoAt s p → r.number ≡ 2 → r.spot ≡ spot_at s p → Refusal s r
  three : (p : ℕ) → ThreeAt s p → r.number ≡ 3 → r.spot ≡ spot_at s p → Refusal s r

module _ (s : List ℕ) where
  too_long : TEXT-LIMIT < length s → tokens_of s ≡ refused_at 1 (unplaced TEXT-LIMIT)
  unfolding tokens_of
  too_long h = rw (lt-ltb TEXT-LIMIT (length s) h)

  not-long : length s ≤ TEXT-LIMIT → tokens_of s ≡ rest 0 s
  unfolding tokens_of
  not-long h = rw (le-ltb TEXT-LIMIT (length s) h)

  pub refusal : Refusal s (tokens_of s)
  refusal =
      cases (ltb TEXT-LIMIT (length s))
      (λ e. let h = ltb-true TEXT-LIMIT (length s) e in let q = too_long h in one h (ap (λ (r : Reading). r.number) q) (ap (λ (r : Reading). r.spot) q))
      (λ e. let h = ltb-false TEXT-LIMIT (length s) e in subst (Refusal s) (sym (not-long h)) (go h (told s)))
    where
      go : length s ≤ TEXT-LIMIT → Told s 0 (rest 0 s) → Refusal s (rest 0 s)
      go h (none z) = all_read h z
      go h (at-no-token p l i e z w) = two p (record { short = h; reached = l; inside = i; stands = e }) z w
      go h (at-out-of-range p l i e z w) = three p (record { short = h; reached = l; inside = i; stands = e }) z w

  -- "1: source over 32,768 bytes … 32,768"
  pub refusal-1 : tokens_of s ≡ refused_at 1 (unplaced TEXT-LIMIT) ↔ TEXT-LIMIT < length s
  refusal-1 = (λ e. go refusal (ap (λ (r : Reading). r.number) e), too_long)
    where
      go : Refusal s (tokens_of s) → (tokens_of s).number ≡ 1 → TEXT-LIMIT < length s
      go (all_read h z) e = absurd (omega arith)
      go (one h z w) e = h
      go (two q h z w) e = absurd (omega arith)
      go (three q h z w) e = absurd (omega arith)

  -- "2: byte in no token, unclosed comment … its first byte"
  pub refusal-2 : (p : ℕ) → ((tokens_of s).number ≡ 2) × ((tokens_of s).spot ≡ spot_at s p) ↔ TwoAt s p
  refusal-2 p = (λ e. go refusal e.0 e.1, back)
    where
      go : Refusal s (tokens_of s) → (tokens_of s).number ≡ 2 → (tokens_of s).spot ≡ spot_at s p → TwoAt s p
      go (all_read h z) e f = absurd (omega arith)
      go (one h z w) e f = absurd (omega arith)
      go (two q h z w) e f = subst (TwoAt s) (ap (λ (u : Spot). u.place) (sym w ∙ f)) h
      go (three q h z w) e f = absurd (omega arith)

      back : TwoAt s p → ((tokens_of s).number ≡ 2) × ((tokens_of s).spot ≡ spot_at s p)
      back h =
          let a = led s h.reached in
          let q = stands-refused s p NoToken h.inside h.stands in
          rw (not-long h.short) (a.number ∙ ap (λ (r : Reading). r.number) q, a.spot ∙ ap (λ (r : Reading). r.spot) q)

  -- "3: number out of range … token"
  pub refusal-3 : (p : ℕ) → ((tokens_of s).number ≡ 3) × ((tokens_of s).spot ≡ spot_at s p) ↔ ThreeAt s p
  refusal-3 p = (λ e. go refusal e.0 e.1, back)
    where
      go : Refusal s (tokens_of s) → (tokens_of s).number ≡ 3 → (tokens_of s).spot ≡ spot_at s p → ThreeAt s p
      go (all_read h z) e f = absurd (omega arith)
      go (one h z w) e f = absurd (omega arith)
      go (two q h z w) e f = absurd (omega arith)
      go (three q h z w) e f = subst (ThreeAt s) (ap (λ (u : Spot). u.place) (sym w ∙ f)) h

      back : ThreeAt s p → ((tokens_of s).number ≡ 3) × ((tokens_of s).spot ≡ spot_at s p)
      back h =
          let a = led s h.reached in
          let q = stands-refused s p OutOfRange h.inside h.stands in
          rw (not-long h.short) (a.number ∙ ap (λ (r : Reading). r.number) q, a.spot ∙ ap (λ (r : Reading). r.spot) q)

  -- document 02, 2/13: "Each token carries its line and column": those of its place in the text
  pub token-stands : All (λ t. t.spot ≡ spot_at s t.spot.place) (tokens_of s).tokens
  token-stands = tokens-stand s

-- ── no second answer fits: answers that say the same are the same ──

why_of : ℕ → Why
why_of n = choose (eqb n 2) NoToken OutOfRange

refused_back : ℕ → Spot → R.Refusal
refused_back n spot = record { why = why_of n; spot = spot }

next_back : Outcome → Next
next_back (read t end) = Ok (t, end)
next_back (refused number spot) = Err (refused_back number spot)

next-back : (a : Next) → next_back (outcome_of a) ≡ a
unfolding next_back refused_back why_of
next-back (Ok found) = refl
next-back (Err r) = by r.why
  where
    by : (why : Why) → ◌≡◌ {A = Next} (Err (record { why = why_of (number_of why); spot = r.spot })) (Err (record { why = why; spot = r.spot }))
    by NoToken = refl
    by OutOfRange = refl

pub one-next : (a b : Next) → outcome_of a ≡ outcome_of b → a ≡ b
one-next a b e = sym (next-back a) ∙ ap next_back e ∙ next-back b

tokens_back : Summary → Tokens
tokens_back s =
    choose (eqb s.number 0) (Ok s.count)
    (choose (eqb s.number 1) (Err U.TooLong)
    (choose (eqb s.number 16) (Err (U.Room s.spot.place)) (Err (U.Refused (refused_back s.number s.spot)))))

tokens-back : (a : Tokens) → tokens_back (summary_of a) ≡ a
unfolding tokens_back refused_back why_of
tokens-back (Ok count) = refl
tokens-back (Err U.TooLong) = refl
tokens-back (Err (U.Refused r)) = by r.why
  where
    by : (why : Why) → tokens_back (summary_of (Err (U.Refused (record { why = why; spot = r.spot })))) ≡ Err (U.Refused (record { why = why; spot = r.spot }))
    by NoToken = refl
    by OutOfRange = refl
tokens-back (Err (U.Room needed)) = refl

pub one-tokens : (a b : Tokens) → summary_of a ≡ summary_of b → a ≡ b
one-tokens a b e = sym (tokens-back a) ∙ ap tokens_back e ∙ tokens-back b
