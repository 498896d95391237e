-- From the tokens of a text to its verdict. Assumes nothing.
use Rattle.std.proofs.Common.{Ok, Err}
use mathlib.Core.Path.{◌≡◌, ◌∙◌, sym, ap, subst}
use mathlib.Core.List.{List, map}
use Prim.Native.Nat.{ℕ, suc, ◌+◌, ◌≤◌, ◌<◌}
use native.Mathlib.Omega.{arith}
use borrow.Author.Tests.{lt-leb, lt-ltb}
use lib.Dec.{ltb}
use lib.ListN.{length, take, get_or, length-map}
use lib.Seq.{sets, length-sets}
use Rattle.base.proofs.Parts.{part-sets}
use Rattle.base.proofs.Tests.{cases}
use Rattle.spots.specs.declared.Spot.{Spot}
use Rattle.spots.specs.Spots.{unplaced}
use Rattle.token.specs.Text.{Reading, tokens_of, TEXT-LIMIT}
use Rattle.token.specs.Answers.{Tokens, Summary, summary_of, Kinds, kind_of, spot_of, read_into}
use Rattle.token.proofs.Readings.{tokens-few}
use Rattle.token.proofs.Theorems.{Refusal, all_read, one, two, three, refusal}
use Rattle.grammar.specs.Tree.{Statement}
use Rattle.grammar.specs.Reader.{ok, bad}
use Rattle.grammar.specs.Grammar.{program}
use Rattle.parse.specs.Programs.{says, judged_by, judged, KindsRead}
use Rattle.token.specs.declared.Unread.TheVariants as U

-- a text is refused by 1, 2 or 3
pub tokens-small : (s : List ℕ) → (tokens_of s).number ≤ 3
tokens-small s = go (refusal s)
  where
    go : Refusal s (tokens_of s) → (tokens_of s).number ≤ 3
    go (all_read h z) = omega arith
    go (one h z w) = omega arith
    go (two p h z w) = omega arith
    go (three p h z w) = omega arith

-- ── the tokens read into a list with room for them are those of the text ──

room-for-all : (n : ℕ) (s : List ℕ) → length s < n → read_into n s ≡ tokens_of s
unfolding read_into tokens_of
room-for-all n s h = cases (ltb TEXT-LIMIT (length s)) (λ e. rw e) (λ e. rw (e, lt-leb n (length s) h))

module _ (s : List ℕ) {k k' : List ℕ} {answer : Tokens} (d : Kinds (read_into (length k) s) k k' answer) (h : length s < length k) where
  whole : Kinds (tokens_of s) k k' answer
  whole = subst (λ (r : Reading). Kinds r k k' answer) (room-for-all (length k) s h) d

  number_is : (summary_of answer).number ≡ (tokens_of s).number
  number_is = ap (λ (x : Summary). x.number) whole.is

  -- all of them were read
  module _ {c : ℕ} (e : answer ≡ Ok c) where
    accepted : (tokens_of s).number ≡ 0
    accepted = sym number_is ∙ ap (λ (x : Tokens). (summary_of x).number) e

    count-is : length (map kind_of (tokens_of s).tokens) ≡ c
    count-is =
        length-map (tokens_of s).tokens kind_of
        ∙ sym (sym (ap (λ (x : Tokens). (summary_of x).count) e) ∙ (ap (λ (x : Summary). x.count) whole.is ∙ rw accepted))

    pub kinds-read : KindsRead s k' c
    kinds-read =
        let ks = map kind_of (tokens_of s).tokens in
        let w = (tokens-few s).0 in
        let n = count-is in
        let l = length-map (tokens_of s).tokens kind_of in
        record {
          accepted = accepted;
          inside = rw (whole.are-laid, length-sets k 0 ks) (omega arith);
          are = rw whole.are-laid (subst (λ (x : ℕ). take x (sets k 0 ks) ≡ ks) n (part-sets k 0 ks 0 (omega arith)));
        }

  pub judged-refused : {a : Tokens} (m : ℕ) → answer ≡ a → (summary_of a).number ≡ suc m → says (suc m) (summary_of a).spot ≡ judged s
  unfolding judged
  judged-refused m e z =
      let f : (tokens_of s).number ≡ suc m = sym number_is ∙ (ap (λ (x : Tokens). (summary_of x).number) e ∙ z) in
      rw (f, sym (ap (λ (x : Tokens). (summary_of x).spot) e) ∙ ap (λ (x : Summary). x.spot) whole.is)

  pub some-room : {c : ℕ} → answer ≡ Err (U.Room c) → ⊥
  some-room e = let f = sym (ap (λ (x : Tokens). (summary_of x).number) e) ∙ number_is in let g = tokens-small s in omega arith

pub too_long : (s : List ℕ) → TEXT-LIMIT < length s → says 1 (unplaced TEXT-LIMIT) ≡ judged s
unfolding judged tokens_of
too_long s h = rw (lt-ltb TEXT-LIMIT (length s) h)

-- ── the verdict on the tokens ──

module _ (s kinds : List ℕ) (n : ℕ) (r : KindsRead s kinds n) where
  pub few : (length (take n kinds) ≤ length s + 1) × (length (take n kinds) ≤ TEXT-LIMIT + 1)
  few = rw (r.are, length-map (tokens_of s).tokens kind_of) (tokens-few s)

  by-program : judged s ≡ judged_by (map spot_of (tokens_of s).tokens) (program (take n kinds) 0)
  unfolding judged
  by-program = rw (r.accepted, r.are)

  pub accepted-as : {x : Statement} {j : ℕ} → program (take n kinds) 0 ≡ ok x j → says 0 (unplaced 0) ≡ judged s
  accepted-as e = rw (by-program, e)

  pub refused_as : (m : ℕ) {t : ℕ} {spot : Spot} → program (take n kinds) 0 ≡ bad m t → spot ≡ get_or (map spot_of (tokens_of s).tokens) t (unplaced 0)
      → says m spot ≡ judged s
  refused_as m e q = rw (by-program, e, q)
