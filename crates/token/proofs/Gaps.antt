-- The way to the next token: one step past a gap or to a token, from what stands at a place; and where the next token ends. Assumes nothing.
use Rattle.std.proofs.Common.{Result, Ok, Err}
use Prim.Native.Nat.{ℕ, zero, suc, ◌+◌, ◌-◌, ◌≤◌, ◌<◌}
use mathlib.Core.Path.{◌≡◌, refl, ap, sym, ◌∙◌}
use mathlib.Core.Bool.{Bool, true, false}
use mathlib.Core.List.{List}
use native.Mathlib.Omega.{arith}
use native.Mathlib.Decide.{dec_le}
use lib.ListN.{length, take, drop, length-drop}
use Rattle.base.specs.Runs.{run_len}
use Rattle.base.specs.Walk.{walk}
use Rattle.base.proofs.Parts.{to_end}
use Rattle.base.proofs.Runs.{run-le, run-first, run_past}
use Rattle.base.proofs.Tests.{never_true}
use Rattle.base.proofs.Walk.{walk_end, walk-stop, walk-pass}
use Rattle.spots.specs.declared.Spot.{Spot}
use Rattle.spots.specs.Spots.{spot_at, NoNewline}
use Rattle.token.specs.Kinds as K
use Rattle.token.specs.Text.{number_of, separates, lexeme, token, Outcome, read, refused, next_step, next_token, is_last}
use Rattle.token.specs.declared.Lexeme.{Lexeme}
use Rattle.token.specs.declared.Lexeme.TheVariants.{Gap, Token}
use Rattle.token.specs.declared.Why.{Why}
use Rattle.token.specs.declared.Why.TheVariants.{NoToken, OutOfRange}
use Rattle.token.proofs.Sizes.{size_of, spelling, Sized, lexeme-sized}

abbrev pub ending : List ℕ → ℕ → Outcome
ending s at = read (token K.END-OF-TEXT 0 (spot_at s at)) at

-- the next token, looked for from a place
abbrev pub from : ℕ → List ℕ → Outcome
from at s = walk (next_step s) (ending s) at 0 (drop at s)

pub start : (s : List ℕ) → next_token s ≡ from 0 s
unfolding next_token
start s = refl

pub at-end : (s : List ℕ) (at : ℕ) → length s ≤ at → from at s ≡ read (token K.END-OF-TEXT 0 (spot_at s at)) at
at-end s at h = walk_end (next_step s) (ending s) s at h

module _ (s : List ℕ) (at : ℕ) (l : Result Lexeme Why) (h : at < length s) (e : l ≡ lexeme (take (length s - at) (drop at s))) where
  stands : lexeme (drop at s) ≡ l
  stands = ap lexeme (sym (to_end s at)) ∙ sym e

  sized : Sized (drop at s) l
  sized = rw (← stands) (lexeme-sized (drop at s) (omega (arith, length-drop at s)))

  pub some : 0 < size_of l
  some = sized.some

  pub fits : at + size_of l ≤ length s
  fits = omega (arith, sized.fits, length-drop at s)

  pub one_line : NoNewline (spelling l (drop at s))
  one_line = sized.one_line

  pub past : (n : ℕ) → l ≡ Ok (Gap n) → from at s ≡ from (at + n) s
  unfolding next_step
  past n q =
      let z : size_of l ≡ n = ap size_of q in
      walk-pass (next_step s) (ending s) s at n h (rw (stands, q)) (omega (arith, some)) (omega (arith, fits))

  pub found : (kind value n : ℕ) → l ≡ Ok (Token kind value n) → from at s ≡ read (token kind value (spot_at s at)) (at + n)
  unfolding next_step
  found kind value n q = walk-stop (next_step s) (ending s) s at (read (token kind value (spot_at s at)) (at + n)) h (rw (stands, q))

  pub refused-here : (why : Why) → l ≡ Err why → from at s ≡ refused (number_of why) (spot_at s at)
  unfolding next_step
  refused-here why q = walk-stop (next_step s) (ending s) s at (refused (number_of why) (spot_at s at)) h (rw (stands, q))

-- the next token may be looked for from anywhere in the separators at the front
module _ (s : List ℕ) where
  separators : (t : List ℕ) → 0 < run_len separates t → ◌≡◌ {A = Result Lexeme Why} (Ok (Gap (run_len separates t))) (lexeme t)
  unfolding lexeme
  separators t h = rw (run-first separates t h)

  to-their-end : (k : ℕ) → k ≤ run_len separates s → from k s ≡ from (run_len separates s) s
  to-their-end k h = go (dec_le (run_len separates s) k)
    where
      left : run_len separates s ≡ k + run_len separates (drop k s)
      left = run_past separates k s h

      go : Dec (run_len separates s ≤ k) → from k s ≡ from (run_len separates s) s
      go (yes l) = let e : run_len separates s ≡ k = omega arith in rw e
      go (no l) =
          let b : k < length s = omega (arith, run-le separates s) in
          let n = run_len separates (drop k s) in
          let e : ◌≡◌ {A = Result Lexeme Why} (Ok (Gap n)) (lexeme (take (length s - k) (drop k s))) = separators (drop k s) (omega (arith, left)) ∙ ap lexeme (sym (to_end s k)) in
          past s k (Ok (Gap n)) b e n refl ∙ ap (λ (i : ℕ). from i s) (sym left)

  pub from-separators : (k : ℕ) → k ≤ run_len separates s → next_token s ≡ from k s
  from-separators k h = start s ∙ to-their-end 0 (omega arith) ∙ sym (to-their-end k h)

-- where an outcome stands and ends, and whether reading goes on after it
abbrev pub placed : Outcome → ℕ
placed (read t end) = t.spot.place
placed (refused number spot) = spot.place

abbrev pub spot_in : Outcome → Spot
spot_in (read t end) = t.spot
spot_in (refused number spot) = spot

abbrev pub ends : Outcome → ℕ
ends (read t end) = end
ends (refused number spot) = spot.place

abbrev pub is_final : Outcome → Bool
is_final (read t end) = is_last t.kind
is_final (refused number spot) = true

abbrev pub refusal : Outcome → ℕ
refusal (read t end) = 1
refusal (refused number spot) = number

pub record Held (s : List ℕ) (o : Outcome) : Type 0 where
  pub before : placed o ≤ ends o
  pub fits : ends o ≤ length s
  pub some : is_final o ≡ false → placed o < ends o
  pub real : 0 < refusal o
  pub one_line : NoNewline (take (ends o - placed o) (drop (placed o) s))
  pub stands : spot_in o ≡ spot_at s (placed o)

-- what is refused, and the end of the text, have no bytes
none : (s : List ℕ) (at : ℕ) → NoNewline (take (at - at) (drop at s))
none s at = let z : at - at ≡ 0 = omega arith in rw z tt

-- no refusal is numbered 0
some_number : (why : Why) → 0 < number_of why
some_number NoToken = omega arith
some_number OutOfRange = omega arith

-- n is enough for what is left
held-from : (n : ℕ) (s : List ℕ) (at : ℕ) → at ≤ length s → length s ≤ at + n → Held s (from at s)
held-from zero s at h m = rw (at-end s at (omega arith)) (record { before = omega arith; fits = h; some = λ e. never_true (sym e); real = omega arith; one_line = none s at; stands = refl })
held-from (suc n) s at h m = go (held-from n s) (dec_le (length s) at)
  where
    go : ((i : ℕ) → i ≤ length s → length s ≤ i + n → Held s (from i s)) → Dec (length s ≤ at) → Held s (from at s)
    go ih (yes l) = rw (at-end s at l) (record { before = omega arith; fits = h; some = λ e. never_true (sym e); real = omega arith; one_line = none s at; stands = refl })
    go ih (no l) = by (lexeme (take (length s - at) (drop at s))) refl
      where
        b : at < length s
        b = omega arith

        by : (x : Result Lexeme Why) → x ≡ lexeme (take (length s - at) (drop at s)) → Held s (from at s)
        by (Ok (Gap k)) e =
            let p = some s at (Ok (Gap k)) b e in
            let f = fits s at (Ok (Gap k)) b e in
            rw (past s at (Ok (Gap k)) b e k refl) (ih (at + k) f (omega arith))
        by (Ok (Token kind value k)) e =
            let p = some s at (Ok (Token kind value k)) b e in
            let f = fits s at (Ok (Token kind value k)) b e in
            let j : at + k - at ≡ k = omega arith in
            rw (found s at (Ok (Token kind value k)) b e kind value k refl)
            (record { before = omega arith; fits = f; some = λ z. omega arith; real = omega arith; one_line = rw j (one_line s at (Ok (Token kind value k)) b e); stands = refl })
        by (Err why) e =
            rw (refused-here s at (Err why) b e why refl)
            (record { before = omega arith; fits = h; some = λ z. never_true (sym z); real = some_number why; one_line = none s at; stands = refl })

pub held : (s : List ℕ) → Held s (next_token s)
held s = rw (start s) (held-from (length s) s 0 (omega arith) (omega arith))
