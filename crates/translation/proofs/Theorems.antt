-- What a reader of document 01's "Numbers answered" may rely on, over `translate source room`: the page to read first. Each is proved by citation. Assumes nothing.
use mathlib.Core.Path.{◌≡◌, refl, ap, subst, ◌∙◌}
use mathlib.Core.Logic.{◌↔◌, ◌⊎◌, inl, inr}
use mathlib.Core.List.{List, ◌∷◌, ◌++◌}
use Prim.Native.Nat.{ℕ, ◌+◌, ◌<◌, ◌≤◌}
use native.Mathlib.Omega.{arith}
use lib.ListN.{length, take}
use lib.Seq.{length-take-le}
use borrow.Author.Tests.{le-leb, lt-leb}
use Rattle.spots.specs.declared.Spot.{Spot}
use Rattle.spots.specs.Spots.{spot_at, unplaced, newlines, NoNewline}
use Rattle.spots.proofs.Theorems.{line-is, column-is, first-column-is}
use Rattle.token.specs.declared.Token.{Token}
use Rattle.token.specs.Text.{tokens_of}
use Rattle.grammar.specs.Tree.{Statement}
use Rattle.scopes.specs.Broken.{Ruling, ◌⊕◌}
use Rattle.scopes.specs.ByNumber.{Numbered, joined, numbered}
use Rattle.scopes.specs.Search.{in_front, first_token}
use Rattle.scopes.proofs.Least.{LeastOf, join-least}
use Rattle.scopes.proofs.ByNumber.{LeastByNumber, least-joined, joined-numbers}
use Rattle.objtext.specs.Object.{Segment, Object, object_text}
use Rattle.translation.specs.Image.{segments}
use Rattle.translation.specs.Translate.{Answer, accepted, refused, number_of, spot_of, length_of, place_at, make, translate}
use Rattle.translation.specs.Broken.{Breaks}
use Rattle.translation.specs.Rows.{BrokenAt, Given}
use Rattle.translation.proofs.Answers.{acceptance, fits-room, room-only}
use Rattle.translation.proofs.Objects.{accepted-object}
use Rattle.translation.proofs.Numbers.{breaks-ruled}
use Rattle.translation.proofs.Tokens.{later-token}
use Rattle.translation.proofs.Rows.{group-row, row-answered, row-given, place-in-text, number-some, text-some}

-- of broken rules that are joined the least is answered, as it is of those of one event
pub least : (a b : Ruling) → LeastOf a b (a ⊕ b)
least a b = join-least a b

-- so it is of any two numbers with their tokens, whatever refusals have them, and rulings are joined as their numbers are
pub least-by-number : (a b : Numbered) → LeastByNumber a b (joined a b)
least-by-number a b = least-joined a b

pub joined-by-number : (a b : Ruling) → numbered (a ⊕ b) ≡ joined (numbered a) (numbered b)
joined-by-number a b = joined-numbers a b

-- and each rule has a number from 6 to 13, so that a number belongs to one row of the table
pub rules-6-to-13 : (ts : List Token) (x : Statement) (n t : ℕ) → Breaks ts x n t → (6 ≤ n) × (n ≤ 13)
rules-6-to-13 ts x n t h = breaks-ruled ts x n t h

module _ (source : List ℕ) (room : ℕ) where
  -- "given exactly when": a refusal n at p is answered exactly when row n of the table (`Rows`) says so, and a text is accepted exactly when none does. "Groups in order: 1;
  -- 2, 3; 4, 5; 6 to 13; 14; 15; 16."
  pub given-exactly : (a : Answer) → translate source room ≡ a ↔ Given source room a
  given-exactly a = (λ e. subst (Given source room) e (row-given source room), row-answered source room a)

  -- "6 to 13 …": the number and the place of a rule that the program breaks, before which no other is broken. "Inside a group the smallest place wins, then the smaller
  -- number."
  pub rules-given : (n p : ℕ) → 6 ≤ n → n ≤ 13 → translate source room ≡ refused n p ↔ BrokenAt source n p
  rules-given n p l h =
      let g = given-exactly (refused n p) in
      let r = group-row source room n p l h in
      (λ e. r.0 (g.0 e), λ b. g.1 (r.1 b))

  -- a later token of the text stands at a greater place
  pub places-rise : (tokens_of source).number ≡ 0 → (i j : ℕ) → first_token ≤ i → i < j → j < length (in_front ++ (tokens_of source).tokens)
      → place_at (in_front ++ (tokens_of source).tokens) i < place_at (in_front ++ (tokens_of source).tokens) j
  places-rise z i j f h l = later-token source z i j f h l

  -- document 02, 2/13: "Success and refusals 1 and 14 to 19 report line and column 0"
  pub success-has-none : (t : List ℕ) → translate source room ≡ accepted t → spot_of source (translate source room) ≡ unplaced 0
  success-has-none t e = ap (spot_of source) e

  pub refusal-has-none : (n p : ℕ) → translate source room ≡ refused n p → (n ≡ 1) ⊎ ((14 ≤ n) × (n ≤ 19)) → spot_of source (translate source room) ≡ unplaced p
  refusal-has-none n p e (inl h) = ap (spot_of source) e ∙ rw h
  refusal-has-none n p e (inr h) =
      let l = h.0 in
      ap (spot_of source) e ∙ rw (lt-leb n 1 (omega arith), le-leb 14 n l, le-leb n 19 h.1)

  -- "every other with a place below the text's length reports its own, and one at the end where the next byte would stand": the line is one more than the bytes 10 before
  -- the place, the column one more than the bytes since the last of them, or since the text's begin
  pub refusal-stands : (n p : ℕ) → translate source room ≡ refused n p → 2 ≤ n → n ≤ 13 → (p ≤ length source) × (spot_of source (translate source room) ≡ spot_at source p)
  refusal-stands n p e l h = (place-in-text source room n p e l h, ap (spot_of source) e ∙ rw (lt-leb n 1 (omega arith), lt-leb 14 n (omega arith)))

  pub refusal-line : (n p : ℕ) → translate source room ≡ refused n p → 2 ≤ n → n ≤ 13 → (spot_of source (translate source room)).line ≡ 1 + newlines (take p source)
  refusal-line n p e l h = ap (λ (q : Spot). q.line) (refusal-stands n p e l h).1 ∙ line-is source p

  pub refusal-column : (n p : ℕ) → translate source room ≡ refused n p → 2 ≤ n → n ≤ 13 → (front since : List ℕ) → take p source ≡ front ++ 10 ∷ since → NoNewline since
      → (spot_of source (translate source room)).column ≡ 1 + length since
  refusal-column n p e l h front since q m = ap (λ (q : Spot). q.column) (refusal-stands n p e l h).1 ∙ column-is source p front since q m

  pub refusal-first-column : (n p : ℕ) → translate source room ≡ refused n p → 2 ≤ n → n ≤ 13 → NoNewline (take p source)
      → (spot_of source (translate source room)).column ≡ 1 + p
  refusal-first-column n p e l h m =
      let s = refusal-stands n p e l h in
      ap (λ (q : Spot). q.column) s.1 ∙ first-column-is source p m ∙ ap (λ (k : ℕ). 1 + k) (length-take-le p source s.0)

  -- no refusal has the number of an acceptance, and no object text is empty: so number, place and length tell the answer
  pub refusal-number : (n p : ℕ) → translate source room ≡ refused n p → 0 < n
  refusal-number n p e = number-some source room n p e

  pub object-length : (t : List ℕ) → translate source room ≡ accepted t → 0 < length t
  object-length t e = text-some source room t e

  -- an answer with number 0 and length 0 is none
  pub not-both : number_of (translate source room) ≡ 0 → length_of (translate source room) ≡ 0 → ⊥
  not-both = go (translate source room) refl
    where
      go : (a : Answer) → translate source room ≡ a → number_of a ≡ 0 → length_of a ≡ 0 → ⊥
      go (accepted t) e n l = omega (arith, object-length t e)
      go (refused n p) e z l = omega (arith, refusal-number n p e)

  -- "bytes written": an object text that is accepted fits the buffer, and the room counts for nothing else
  pub object-fits : (t : List ℕ) → translate source room ≡ accepted t → length t ≤ room
  unfolding translate
  object-fits t e = (fits-room _ room t e).1

  pub other-room : (wider : ℕ) (t : List ℕ) → translate source room ≡ accepted t → length t ≤ wider → translate source wider ≡ accepted t
  other-room wider t e h = room-only source room wider t e h

  -- what is accepted is the text of an object, of the form that the runner takes
  pub object-form : (t : List ℕ) → translate source room ≡ accepted t → (gs : List Segment) × Object gs × (object_text gs ≡ t)
  unfolding translate
  object-form t e =
      let a = acceptance source t (fits-room _ room t e).0 in
      let m = make a.tokens a.tree in
      (segments m.bases m.layout m.instructions, accepted-object source t a, a.made)
