-- Reading a text lexeme by lexeme: what is read from a place on is told by what stands there (`rest-by`), so a refusal stands where reading comes to. Assumes nothing.
use Rattle.std.proofs.Common.{Result, Ok, Err}
use Prim.Native.Nat.{ℕ, zero, suc, pred, ◌+◌, ◌-◌, ◌≤◌, ◌<◌}
use mathlib.Core.Path.{◌≡◌, refl, ap, sym, ◌∙◌}
use mathlib.Core.Bool.{Bool, true, false, not}
use mathlib.Core.List.{List, [], ◌∷◌}
use native.Mathlib.Omega.{arith}
use native.Mathlib.Decide.{dec_le}
use lib.ListN.{length, take, drop, length-drop, drop_of_length-le}
use lib.Seq.{drop-drop}
use Rattle.base.specs.Walk.{walk}
use Rattle.base.specs.Choose.{choose}
use Rattle.base.proofs.Parts.{to_end}
use Rattle.base.proofs.Tests.{never_true}
use Rattle.spots.specs.declared.Spot.{Spot}
use Rattle.spots.specs.Spots.{spot_at}
use Rattle.token.specs.declared.Token as T
use Rattle.token.specs.declared.Lexeme.{Lexeme}
use Rattle.token.specs.declared.Lexeme.TheVariants.{Gap, Token}
use Rattle.token.specs.declared.Why.{Why}
use Rattle.token.specs.declared.Why.TheVariants.{NoToken, OutOfRange}
use Rattle.token.specs.Text.{number_of, lexeme, token, Outcome, read, refused, next_step, next_token, Reading, ended, refused_at, after, is_last, moved, read_from}
use Rattle.token.specs.Refusals.{passes, goes_on, Leads, here, on}
use Rattle.token.proofs.Gaps.{ending, from, start, past, found, refused-here, some, fits}
use Rattle.token.proofs.Readings.{rest, read-on, read-last, read_no}

-- ── places counted from an earlier place ──

abbrev shifted : List ℕ → ℕ → Outcome → Outcome
shifted text n (read t end) = read (moved text n t) (n + end)
shifted text n (refused number spot) = refused number (spot_at text (n + spot.place))

-- in a text, and in a part of it from which places are counted
walk-shift : (text part : List ℕ) (n at k : ℕ) (s : List ℕ) → walk (next_step text) (ending text) (n + at) k s ≡ shifted text n (walk (next_step part) (ending part) at k s)
unfolding walk next_step
walk-shift text part n at k [] = refl
walk-shift text part n at (suc k) (x ∷ xs) =
    let e : suc (n + at) ≡ n + suc at = omega arith in
    ap (λ (i : ℕ). walk (next_step text) (ending text) i k xs) e ∙ walk-shift text part n (suc at) k xs
walk-shift text part n at zero (x ∷ xs) =
    by (lexeme (x ∷ xs)) refl (λ m. ap (λ (i : ℕ). walk (next_step text) (ending text) i m xs) (let e : suc (n + at) ≡ n + suc at = omega arith in e) ∙ walk-shift text part n (suc at) m xs)
  where
    by : (l : Result Lexeme Why) → lexeme (x ∷ xs) ≡ l
        → ((m : ℕ) → walk (next_step text) (ending text) (suc (n + at)) m xs ≡ shifted text n (walk (next_step part) (ending part) (suc at) m xs))
        → walk (next_step text) (ending text) (n + at) zero (x ∷ xs) ≡ shifted text n (walk (next_step part) (ending part) at zero (x ∷ xs))
    by (Ok (Gap m)) e ih = rw (e, walk) (ih (pred m))
    by (Ok (Token kind value m)) e ih =
        let j : n + at + m ≡ n + (at + m) = omega arith in
        rw (e, walk) (ap (λ (i : ℕ). read (token kind value (spot_at text (n + at))) i) j)
    by (Err why) e ih = rw (e, walk)

-- ── what is read from a place on, by what stands there ──

abbrev standing : (kind value at : ℕ) → List ℕ → T.Token
standing kind value at s = token kind value (spot_at s at)

abbrev by_lexeme : Result Lexeme Why → ℕ → List ℕ → Reading
by_lexeme (Ok (Gap n)) at s = rest (at + n) s
by_lexeme (Ok (Token kind value n)) at s = choose (is_last kind) (ended (standing kind value at s ∷ [])) (after (standing kind value at s) (rest (at + n) s))
by_lexeme (Err why) at s = refused_at (number_of why) (spot_at s at)

module _ (s : List ℕ) (at : ℕ) (h : at < length s) where
  t : List ℕ
  t = drop at s

  long : 0 < length (drop at s)
  long = omega (arith, length-drop at s)

  -- the front of what remains, as the laws of gaps have it
  front : (l : Result Lexeme Why) → lexeme (drop at s) ≡ l → l ≡ lexeme (take (length (drop at s) - 0) (drop 0 (drop at s)))
  front l e = sym (ap lexeme (to_end (drop at s) 0) ∙ e)

  whole : (o : Outcome) → from 0 (drop at s) ≡ o → o ≡ next_token (take (length s - at) (drop at s))
  whole o e = sym (ap next_token (to_end s at) ∙ start (drop at s) ∙ e)

  -- by the next token
  by-outcome : (o : Outcome) → from 0 (drop at s) ≡ o → (n : ℕ) → at + n ≤ length s → from 0 (drop at s) ≡ shifted (drop at s) n (from 0 (drop (at + n) s)) → rest at s ≡ rest (at + n) s
  by-outcome o e n l q = go (from 0 (drop (at + n) s)) refl
    where
      there : (o : Outcome) → from 0 (drop (at + n) s) ≡ o → o ≡ next_token (take (length s - (at + n)) (drop (at + n) s))
      there o e = sym (ap next_token (to_end s (at + n)) ∙ start (drop (at + n) s) ∙ e)

      go : (p : Outcome) → from 0 (drop (at + n) s) ≡ p → rest at s ≡ rest (at + n) s
      go (refused number spot) f =
          let u : Spot = spot_at (drop at s) (n + spot.place) in
          let a : from 0 (drop at s) ≡ refused number u = q ∙ ap (shifted (drop at s) n) f in
          let j : at + (n + spot.place) ≡ at + n + spot.place = omega arith in
          read_no s at (refused number u) (omega arith) (whole (refused number u) a) number u refl
          ∙ ap (λ (i : ℕ). refused_at number (spot_at s i)) j
          ∙ sym (read_no s (at + n) (refused number spot) l (there (refused number spot) f) number spot refl)
      go (read u end) f = last (is_last u.kind) refl
        where
          a : from 0 (drop at s) ≡ read (moved (drop at s) n u) (n + end)
          a = q ∙ ap (shifted (drop at s) n) f

          j : moved s at (moved (drop at s) n u) ≡ moved s (at + n) u
          j = ap (λ (i : ℕ). token u.kind u.value (spot_at s i)) (let z : at + (n + u.spot.place) ≡ at + n + u.spot.place = omega arith in z)

          last : (b : Bool) → is_last u.kind ≡ b → rest at s ≡ rest (at + n) s
          last true z =
              read-last s at (read (moved (drop at s) n u) (n + end)) (omega arith) (whole (read (moved (drop at s) n u) (n + end)) a) (moved (drop at s) n u) (n + end) refl z
              ∙ ap (λ (v : _). ended (v ∷ [])) j
              ∙ sym (read-last s (at + n) (read u end) l (there (read u end) f) u end refl z)
          last false z =
              let i : at + (n + end) ≡ at + n + end = omega arith in
              read-on s at (read (moved (drop at s) n u) (n + end)) (omega arith) (whole (read (moved (drop at s) n u) (n + end)) a) (moved (drop at s) n u) (n + end) refl z
              ∙ (rw (j, i))
              ∙ sym (read-on s (at + n) (read u end) l (there (read u end) f) u end refl z)

  rest-by : rest at s ≡ by_lexeme (lexeme (drop at s)) at s
  rest-by = go (lexeme (drop at s)) refl
    where
      go : (l : Result Lexeme Why) → lexeme (drop at s) ≡ l → rest at s ≡ by_lexeme l at s
      go (Ok (Gap n)) e =
          let p = past (drop at s) 0 (Ok (Gap n)) long (front (Ok (Gap n)) e) n refl in
          let z : 0 + n ≡ n + 0 = omega arith in
          let f = fits (drop at s) 0 (Ok (Gap n)) long (front (Ok (Gap n)) e) in
          by-outcome (from 0 (drop at s)) refl n (omega (arith, length-drop at s))
          (p ∙ ap (λ (i : ℕ). walk (next_step (drop at s)) (ending (drop at s)) i 0 (drop (0 + n) (drop at s))) z
          ∙ walk-shift (drop at s) (drop (at + n) s) n 0 0 (drop (0 + n) (drop at s))
          ∙ ap (λ (l : List ℕ). shifted (drop at s) n (walk (next_step (drop (at + n) s)) (ending (drop (at + n) s)) 0 0 l)) (let y : 0 + n ≡ n = omega arith in rw y (drop-drop n at s)))
      go (Ok (Token kind value n)) e = last (is_last kind) refl
        where
          a : from 0 (drop at s) ≡ read (standing kind value 0 (drop at s)) (0 + n)
          a = found (drop at s) 0 (Ok (Token kind value n)) long (front (Ok (Token kind value n)) e) kind value n refl

          last : (b : Bool) → is_last kind ≡ b → rest at s ≡ choose (is_last kind) (ended (standing kind value at s ∷ [])) (after (standing kind value at s) (rest (at + n) s))
          last true z =
              let j : at + 0 ≡ at = omega arith in
              rw z (read-last s at (read (standing kind value 0 (drop at s)) (0 + n)) (omega arith) (whole (read (standing kind value 0 (drop at s)) (0 + n)) a) (standing kind value 0 (drop at s)) (0 + n) refl z ∙ rw j)
          last false z =
              let j : at + 0 ≡ at = omega arith in
              let i : at + (0 + n) ≡ at + n = omega arith in
              rw z (read-on s at (read (standing kind value 0 (drop at s)) (0 + n)) (omega arith) (whole (read (standing kind value 0 (drop at s)) (0 + n)) a) (standing kind value 0 (drop at s)) (0 + n) refl z ∙ rw (j, i))
      go (Err why) e =
          let j : at + 0 ≡ at = omega arith in
          let u : Spot = spot_at (drop at s) 0 in
          let n = number_of why in
          read_no s at (refused n u) (omega arith) (whole (refused n u) (refused-here (drop at s) 0 (Err why) long (front (Err why) e) why refl)) n u refl ∙ rw j

  passed : (l : Result Lexeme Why) → lexeme (drop at s) ≡ l → goes_on l ≡ true → (0 < passes l) × (at + passes l ≤ length s)
  passed (Ok (Gap n)) e g =
      let p = some (drop at s) 0 (Ok (Gap n)) long (front (Ok (Gap n)) e) in
      let f = fits (drop at s) 0 (Ok (Gap n)) long (front (Ok (Gap n)) e) in
      (p, omega (arith, length-drop at s))
  passed (Ok (Token kind value n)) e g =
      let p = some (drop at s) 0 (Ok (Token kind value n)) long (front (Ok (Token kind value n)) e) in
      let f = fits (drop at s) 0 (Ok (Token kind value n)) long (front (Ok (Token kind value n)) e) in
      (p, omega (arith, length-drop at s))
  passed (Err why) e g = never_true g

-- what reading from a place on answers is what reading from a later place answers
pub record Answers (r q : Reading) : Type 0 where
  pub number : r.number ≡ q.number
  pub spot : r.spot ≡ q.spot

goes_on_lem : (s : List ℕ) (at : ℕ) (l : Result Lexeme Why) → goes_on l ≡ true → Answers (by_lexeme l at s) (rest (at + passes l) s)
goes_on_lem s at (Ok (Gap n)) g = record { number = refl; spot = refl }
goes_on_lem s at (Ok (Token kind value n)) g = go (is_last kind) g
  where
    go : (b : Bool) → not b ≡ true → Answers (choose b (ended (standing kind value at s ∷ [])) (after (standing kind value at s) (rest (at + n) s))) (rest (at + n) s)
    go true e = never_true e
    go false e = record { number = refl; spot = refl }
goes_on_lem s at (Err why) g = never_true g

step-on : (s : List ℕ) (at : ℕ) → at < length s → goes_on (lexeme (drop at s)) ≡ true → Answers (rest at s) (rest (at + passes (lexeme (drop at s))) s)
step-on s at h g = rw (rest-by s at h) (goes_on_lem s at (lexeme (drop at s)) g)

pub led : (s : List ℕ) {p q : ℕ} → Leads s p q → Answers (rest p s) (rest q s)
led s here = record { number = refl; spot = refl }
led s (on {p} h g l) = let a = step-on s p h g in let b = led s l in record { number = a.number ∙ b.number; spot = a.spot ∙ b.spot }

-- ── every reading ends without a refusal, or where something stands that is none ──

pub data Told (s : List ℕ) (at : ℕ) (r : Reading) : Type 0 where
  none : r.number ≡ 0 → Told s at r
  at-no-token : (p : ℕ) → Leads s at p → p < length s → lexeme (drop p s) ≡ Err NoToken → r.number ≡ 2 → r.spot ≡ spot_at s p → Told s at r
  at-out-of-range : (p : ℕ) → Leads s at p → p < length s → lexeme (drop p s) ≡ Err OutOfRange → r.number ≡ 3 → r.spot ≡ spot_at s p → Told s at r

earlier : (s : List ℕ) (at : ℕ) (r : Reading) → at < length s → goes_on (lexeme (drop at s)) ≡ true → Answers r (rest (at + passes (lexeme (drop at s))) s)
    → Told s (at + passes (lexeme (drop at s))) (rest (at + passes (lexeme (drop at s))) s) → Told s at r
earlier s at r h g a (none z) = none (a.number ∙ z)
earlier s at r h g a (at-no-token p l i e z w) = at-no-token p (on h g l) i e (a.number ∙ z) (a.spot ∙ w)
earlier s at r h g a (at-out-of-range p l i e z w) = at-out-of-range p (on h g l) i e (a.number ∙ z) (a.spot ∙ w)

told-from : (m : ℕ) (s : List ℕ) (at : ℕ) → length s ≤ at + m → Told s at (rest at s)
unfolding read_from
told-from zero s at h = rw (drop_of_length-le s {i = at} (omega arith)) (none refl)
told-from (suc m) s at h = by (dec_le (length s) at) (λ p l. told-from m s p l)
  where
    by : Dec (length s ≤ at) → ((p : ℕ) → length s ≤ p + m → Told s p (rest p s)) → Told s at (rest at s)
    by (yes l) ih = rw (drop_of_length-le s l) (none refl)
    by (no l) ih = go (lexeme (drop at s)) refl
      where
        b : at < length s
        b = omega arith

        further : goes_on (lexeme (drop at s)) ≡ true → Told s at (rest at s)
        further g =
            let p = passed s at b (lexeme (drop at s)) refl g in
            earlier s at (rest at s) b g (step-on s at b g) (ih (at + passes (lexeme (drop at s))) (omega arith))

        go : (l : Result Lexeme Why) → lexeme (drop at s) ≡ l → Told s at (rest at s)
        go (Ok (Gap n)) e = further (ap goes_on e)
        go (Ok (Token kind value n)) e = last (is_last kind) refl
          where
            last : (c : Bool) → is_last kind ≡ c → Told s at (rest at s)
            last true z =
                let q : rest at s ≡ ended (standing kind value at s ∷ []) = rest-by s at b ∙ (rw (e, z)) in
                none (ap (λ (r : Reading). r.number) q)
            last false z = further (ap goes_on e ∙ ap not z)
        go (Err NoToken) e =
            let q : rest at s ≡ refused_at 2 (spot_at s at) = rest-by s at b ∙ ap (λ (l : Result Lexeme Why). by_lexeme l at s) e in
            at-no-token at here b e (ap (λ (r : Reading). r.number) q) (ap (λ (r : Reading). r.spot) q)
        go (Err OutOfRange) e =
            let q : rest at s ≡ refused_at 3 (spot_at s at) = rest-by s at b ∙ ap (λ (l : Result Lexeme Why). by_lexeme l at s) e in
            at-out-of-range at here b e (ap (λ (r : Reading). r.number) q) (ap (λ (r : Reading). r.spot) q)

pub told : (s : List ℕ) → Told s 0 (rest 0 s)
told s = told-from (length s) s 0 (omega arith)

pub stands-refused : (s : List ℕ) (p : ℕ) (why : Why) → p < length s → lexeme (drop p s) ≡ Err why → rest p s ≡ refused_at (number_of why) (spot_at s p)
stands-refused s p why h e = rest-by s p h ∙ ap (λ (l : Result Lexeme Why). by_lexeme l p s) e
