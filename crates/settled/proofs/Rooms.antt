-- Room for a text: lists of zeros, and their rows cut to its tokens. Assumes nothing.
use Rattle.std.proofs.Common.{Ok}
use mathlib.Core.Path.{◌≡◌, refl, sym, ap, ◌∙◌}
use mathlib.Core.List.{List, ◌∷◌}
use Prim.Native.Nat.{ℕ, zero, suc, ◌+◌, ◌*◌, ◌/◌, ◌≤◌, ◌<◌}
use native.Mathlib.Omega.{arith}
use lib.ListN.{length, take, replicate, length-replicate}
use lib.Seq.{length-take-le}
use Rattle.token.specs.Text.{tokens_of, TEXT-LIMIT}
use Rattle.token.specs.Answers.{Tokens, summary_of, summed}
use Rattle.token.specs.declared.Token.{Token}
use Rattle.ledger.specs.Book.{Wide, wide_of, thin_of, thin_column, thin_limit}
use Rattle.ledger.proofs.Cutting.{wide-take, wide-zeros, thin-take, thin-zeros}
use Rattle.scopes.specs.Search.{first_token}
use Rattle.translation.specs.Translate.{kinds_of}
use Rattle.translation.proofs.Tables.{length-map}
use Rattle.translation.proofs.Tokens.{text-length}
use Rattle.settled.specs.Texts.{all_tokens, ButValues, Fronted, Blanks, Zeros, Lent, Fits, rows_for, Rooms}
use Rattle.settled.proofs.Reading.{count-is, few-read}

take-zeros : (k m : ℕ) → k ≤ m → take k (replicate {A = ℕ} m 0) ≡ replicate k 0
take-zeros zero m h = refl
take-zeros (suc k) zero h = absurd (omega arith)
take-zeros (suc k) (suc m) h = ap (λ (l : List ℕ). 0 ∷ l) (take-zeros k m (omega arith))

-- the rows of a text's tokens, of a ledger that was zeros but for the values
module _ (src : List ℕ) (answer : Tokens) (is : summary_of answer ≡ summed (tokens_of src)) (n : ℕ) (e : answer ≡ Ok n) where
  abbrev m : ℕ
  m = first_token + n

  tokens-long : length (all_tokens src) ≡ m
  tokens-long = text-length (tokens_of src).tokens ∙ ap (λ (k : ℕ). first_token + k) (sym (count-is src answer is n e))

  cut : (k : ℕ) → m ≤ k → take m (replicate {A = ℕ} k 0) ≡ replicate (length (all_tokens src)) 0
  cut k h = take-zeros m k h ∙ ap (λ (i : ℕ). replicate i 0) (sym tokens-long)

  thin-blank : (thin : List ℕ) → Zeros thin → 4 * m ≤ length thin → (c : ℕ) → c < 4 → thin_column c (thin_of (take (4 * m) thin)) ≡ replicate (length (all_tokens src)) 0
  thin-blank thin z h c less =
      thin-take c m thin less h
      ∙ (ap (λ (l : List ℕ). take m (thin_column c (thin_of l))) z ∙ (ap (take m) (thin-zeros c (length thin) less) ∙ cut (length thin / 4) (omega arith)))

  pub cut-blanks :
      (wide wide' thin : List ℕ) → Zeros wide → Zeros thin → ButValues (wide_of wide) (wide_of wide') → length wide' ≡ length wide → 4 * m ≤ length wide → 4 * m ≤ length thin
      → Blanks (all_tokens src) (wide_of (take (4 * m) wide')) (thin_of (take (4 * m) thin))
  cut-blanks wide wide' thin zw zt same long hw ht = record {
    no-means =
        wide-take 1 m wide' (omega arith) (omega arith)
        ∙ (ap (λ (y : Wide). take m y.means) same
        ∙ (ap (λ (l : List ℕ). take m (wide_of l).means) zw ∙ (ap (take m) (wide-zeros 1 (length wide) (omega arith)) ∙ cut (length wide / 4) (omega arith))));
    no_found = thin-blank thin zt ht 0 (omega arith);
    no-goes = thin-blank thin zt ht 1 (omega arith);
  }

-- there are as many rows as tokens
pub rows_are : (ts : List Token) (kinds wide thin : List ℕ) → kinds ≡ kinds_of ts → Lent (length kinds) wide thin → (length wide / 4 ≡ length ts) × (length thin / 4 ≡ length ts)
rows_are ts kinds wide thin ek l = let e = ap length ek ∙ length-map (λ (t : Token). t.kind) ts in (omega (arith, l.wide-long), omega (arith, l.thin-long))

-- the rows of the tokens that were read fit into what was lent
pub read_fits :
    {src kinds kinds' tape values wide wide' thin : List ℕ} {answer : Tokens} {n : ℕ} → Rooms (length src) kinds tape wide thin → Fronted src kinds' values answer
    → length kinds' ≡ length kinds → length wide' ≡ length wide → answer ≡ Ok n → Fits (first_token + n) kinds' tape wide' thin
read_fits {src} {answer = answer} {n = n} r d ek ew e =
    let h = few-read src answer d.is n e in
    record { few = omega arith; for-kinds = omega arith; for-tape = omega arith; for-wide = omega arith; for-thin = omega arith }

-- what is lent, cut to so many tokens
pub cut-lent :
    (m : ℕ) (kinds tape wide thin : List ℕ) → first_token ≤ m → m ≤ thin_limit → m ≤ length kinds → m ≤ length tape → 4 * m ≤ length wide → 4 * m ≤ length thin
    → (first_token ≤ length (take m kinds)) × (length (take m tape) ≡ length (take m kinds)) × Lent (length (take m kinds)) (take (4 * m) wide) (take (4 * m) thin)
cut-lent m kinds tape wide thin f few a b c d =
    let k = length-take-le m kinds a in
    let t = length-take-le m tape b in
    let v = length-take-le (4 * m) wide c in
    let h = length-take-le (4 * m) thin d in
    (omega arith, omega arith, record { few = omega arith; wide-long = omega arith; thin-long = omega arith })

-- lists of zeros, with a row for each of N tokens, are room for a text of n bytes
pub rooms : (n N : ℕ) → n ≤ TEXT-LIMIT → rows_for n ≤ N → Rooms n (replicate N 0) (replicate N 0) (replicate (4 * N) 0) (replicate (4 * N) 0)
rooms n N h k =
    let e = length-replicate {A = ℕ} N 0 in
    let f = length-replicate {A = ℕ} (4 * N) 0 in
    let z : Zeros (replicate (4 * N) 0) = ap (λ (i : ℕ). replicate i 0) (sym f) in
    record { short = h; for-kinds = omega arith; for-tape = omega arith; for-wide = omega arith; for-thin = omega arith; no-wide = z; no-thin = z }
