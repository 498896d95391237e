-- Each row of the table against the definition, group by group: a source that a group lets pass is answered by the groups after it. Assumes nothing.
use Rattle.std.specs.Prelude.{Some, None}
use mathlib.Core.Path.{◌≡◌, refl, sym, ap, subst, ◌∙◌}
use mathlib.Core.Logic.{◌⊎◌, inl, inr, ◌↔◌}
use mathlib.Core.Bool.{false, ◌&&◌}
use mathlib.Core.List.{List, [], ◌∷◌, ◌++◌}
use Prim.Native.Nat.{ℕ, zero, suc, ◌<◌, ◌≤◌}
use native.Mathlib.Omega.{arith}
use lib.Dec.{eqb, ltb, leb}
use lib.ListN.{length, length-append}
use borrow.Author.Tests.{eqb-true, eqb-false, ne_eqb, ltb-true, ltb-false, lt-ltb, le-ltb, le-leb}
use Rattle.base.specs.Choose.{choose}
use Rattle.base.proofs.Tests.{cases}
use Rattle.spots.specs.declared.Spot.{Spot}
use Rattle.token.specs.declared.Token.{Token}
use Rattle.token.specs.Text.{Reading, TEXT-LIMIT, tokens_of}
use Rattle.token.specs.Refusals.{TwoAt, ThreeAt}
use Rattle.token.proofs.Theorems.{Refusal, all_read, one, two, three, refusal, refusal-1, refusal-2, refusal-3}
use Rattle.grammar.specs.Tree.{Statement}
use Rattle.grammar.specs.Reader.{Result, ok, bad}
use Rattle.grammar.specs.Grammar.{program}
use Rattle.grammar.specs.Refusals.{FourAt, FiveAt}
use Rattle.grammar.proofs.Theorems as G
use Rattle.scopes.specs.declared.Broken.{Broken}
use Rattle.scopes.specs.Broken.{refusal_number, Ruling, unbroken}
use Rattle.scopes.specs.Search.{in_front, first_token}
use Rattle.scopes.proofs.Joins.{some-none, is_some}
use Rattle.scopes.proofs.Numbers.{in-group}
use Rattle.objtext.specs.Object.{Segment, content_of, frames_for, head_frame, content_frames, object_frames, line, hex, newline, text_of, object_text}
use Rattle.translation.specs.Instructions.{sizes}
use Rattle.translation.specs.Layout.{literals_end, segment_limit}
use Rattle.translation.specs.Image.{segments}
use Rattle.translation.specs.Translate.{Answer, accepted, refused, kinds_of, place_at, make, finish, on_rules, after_tokens, translated, in_room, translate}
use Rattle.translation.specs.Broken.{Breaks, NotAfter}
use Rattle.translation.specs.Rows.{Tokens, Program, Keeps, Fits, object_of, TokenAt, BrokenAt, ProgramLong, LiteralsLong, BufferShort, Row, Given}
use Rattle.translation.proofs.Answers.{read-grammar}
use Rattle.translation.proofs.Tokens.{place_inside}
use Rattle.translation.proofs.Breaking.{after_same, make-least}

-- ── what is broken is the least of the rules that are ──

none-broken : (ts : List Token) (x : Statement) → ((n t : ℕ) → Breaks ts x n t → ⊥) → (make ts x).broken ≡ unbroken
none-broken ts x h = go (make ts x).broken refl
  where
    go : (b : Ruling) → (make ts x).broken ≡ b → (make ts x).broken ≡ unbroken
    go None e = e
    go (Some b) e = absurd (h _ _ ((make-least ts x).one_of b e))

-- the broken rule that is answered is rule n at token t
record BrokenIs (b : Ruling) (n t : ℕ) : Type 0 where
  one : Broken
  is : b ≡ Some one
  number_is : refusal_number one.refusal ≡ n
  at_is : one.at ≡ t

least-broken : (ts : List Token) (x : Statement) (n t : ℕ) → Breaks ts x n t → ((m u : ℕ) → Breaks ts x m u → NotAfter n t m u) → BrokenIs (make ts x).broken n t
least-broken ts x n t b l =
    let h = (make-least ts x).least n t b in
    let e = after_same h.not_after_it (l _ _ ((make-least ts x).one_of h.one h.is)) in
    record { one = h.one; is = h.is; number_is = e.0; at_is = e.1 }

module _ (source : List ℕ) (room : ℕ) where
  -- ── what the groups after those that are passed answer ──

  text-refused : (n : ℕ) → (tokens_of source).number ≡ suc n → translate source room ≡ refused (suc n) (tokens_of source).spot.place
  unfolding translate translated in_room
  text-refused n e = rw e

  module _ (ts : List Token) where
    after_text : Tokens source ts → translate source room ≡ in_room room (after_tokens ts (program (kinds_of ts) first_token))
    unfolding translate translated
    after_text t = rw (t.read, t.are) (ap (in_room room) (read-grammar (in_front ++ (tokens_of source).tokens)))

    tree-refused : Tokens source ts → (n t : ℕ) → program (kinds_of ts) first_token ≡ bad n t → translate source room ≡ refused n (place_at ts t)
    unfolding in_room
    tree-refused t n i e = after_text t ∙ rw e

    module _ (x : Statement) where
      after-tree : Program source ts x → translate source room ≡ in_room room (on_rules ts (make ts x))
      after-tree p = after_text p.tokens ∙ rw ((G.accepted (kinds_of ts) first_token x p.end).1 p.is)

      rules-refused : Program source ts x → (b : Broken) → (make ts x).broken ≡ Some b → translate source room ≡ refused (refusal_number b.refusal) (place_at ts b.at)
      unfolding on_rules in_room
      rules-refused p b e = after-tree p ∙ rw e

      after-rules : Keeps source ts x → translate source room ≡ in_room room (finish (make ts x))
      unfolding on_rules
      after-rules k = after-tree k.program ∙ rw (none-broken ts x k.unbroken)

      program-long : Keeps source ts x → segment_limit < sizes (make ts x).instructions → translate source room ≡ refused 14 0
      unfolding finish in_room
      program-long k h = after-rules k ∙ rw (lt-ltb segment_limit (sizes (make ts x).instructions) h)

      literals-long : Keeps source ts x → sizes (make ts x).instructions ≤ segment_limit → segment_limit < literals_end (make ts x).layout → translate source room ≡ refused 15 0
      unfolding finish in_room
      literals-long k h l =
          after-rules k ∙ rw (le-ltb segment_limit (sizes (make ts x).instructions) h, lt-ltb segment_limit (literals_end (make ts x).layout) l)

      all-fits : Fits source ts x → translate source room ≡ in_room room (accepted (object_of ts x))
      unfolding finish
      all-fits f =
          after-rules f.keeps
          ∙ rw (le-ltb segment_limit (sizes (make ts x).instructions) f.program-fits, le-ltb segment_limit (literals_end (make ts x).layout) f.literals-fit)

      no_room : Fits source ts x → room < length (object_of ts x) → translate source room ≡ refused 16 (length (object_of ts x))
      unfolding in_room
      no_room f h = all-fits f ∙ rw (lt-ltb room (length (object_of ts x)) h)

      in-room : Fits source ts x → length (object_of ts x) ≤ room → translate source room ≡ accepted (object_of ts x)
      unfolding in_room
      in-room f h = all-fits f ∙ rw (le-ltb room (length (object_of ts x)) h)

  -- ── a row that applies is answered ──

  number-row : (n p : ℕ) → Row source room n p → translate source room ≡ refused n p
  number-row n p h =
      cases (eqb n 1)
      (λ a.
      let g : (TEXT-LIMIT < length source) × (p ≡ TEXT-LIMIT) = rw a at h in
      let e = (refusal-1 source).1 g.0 in
      rw (eqb-true n 1 a, g.1) (text-refused 0 (ap (λ (r : Reading). r.number) e) ∙ ap (λ (r : Reading). refused 1 r.spot.place) e))
      (λ a.
      cases (eqb n 2)
      (λ b.
      let g : TwoAt source p = rw (a, b) at h in
      let e = (refusal-2 source p).1 g in
      rw (eqb-true n 2 b) (text-refused 1 e.0 ∙ ap (λ (q : Spot). refused 2 q.place) e.1))
      (λ b.
      cases (eqb n 3)
      (λ c.
      let g : ThreeAt source p = rw (a, b, c) at h in
      let e = (refusal-3 source p).1 g in
      rw (eqb-true n 3 c) (text-refused 2 e.0 ∙ ap (λ (q : Spot). refused 3 q.place) e.1))
      (λ c.
      cases (eqb n 4)
      (λ d.
      let g : TokenAt source FourAt p = rw (a, b, c, d) at h in
      rw (eqb-true n 4 d) (tree-refused g.ts g.tokens 4 g.token ((G.refusal-4 (kinds_of g.ts) first_token g.token).1 g.is) ∙ ap (refused 4) g.place))
      (λ d.
      cases (eqb n 5)
      (λ e.
      let g : TokenAt source FiveAt p = rw (a, b, c, d, e) at h in
      rw (eqb-true n 5 e) (tree-refused g.ts g.tokens 5 g.token ((G.refusal-5 (kinds_of g.ts) first_token g.token).1 g.is) ∙ ap (refused 5) g.place))
      (λ e. later n p (rw (a, b, c, d, e) at h))))))
    where
      broken : (n p : ℕ) → BrokenAt source n p → translate source room ≡ refused n p
      broken n p g =
          let e = least-broken g.ts g.x n g.token g.breaks g.least in
          rules-refused g.ts g.x g.program e.one e.is ∙ rw e.number_is (ap (refused n) (ap (place_at g.ts) e.at_is ∙ g.place))

      later : (n p : ℕ) → choose (leb 6 n && leb n 13) (BrokenAt source n p)
          (choose (eqb n 14) (ProgramLong source p) (choose (eqb n 15) (LiteralsLong source p) (choose (eqb n 16) (BufferShort source room p) ⊥)))
          → translate source room ≡ refused n p
      later n p h =
          cases (leb 6 n && leb n 13)
          (λ a. let g : BrokenAt source n p = rw a at h in broken n p g)
          (λ a.
          cases (eqb n 14)
          (λ b. let g : ProgramLong source p = rw (a, b) at h in rw (eqb-true n 14 b, g.place) (program-long g.ts g.x g.keeps g.long))
          (λ b.
          cases (eqb n 15)
          (λ c. let g : LiteralsLong source p = rw (a, b, c) at h in rw (eqb-true n 15 c, g.place) (literals-long g.ts g.x g.keeps g.program-fits g.long))
          (λ c.
          cases (eqb n 16)
          (λ d. let g : BufferShort source room p = rw (a, b, c, d) at h in rw (eqb-true n 16 d) (no_room g.ts g.x g.fits g.short ∙ ap (refused 16) g.place))
          (λ d. absurd (rw (a, b, c, d) at h)))))

  pub row-answered : (a : Answer) → Given source room a → translate source room ≡ a
  row-answered (accepted t) g = in-room g.ts g.x g.fits g.room-is ∙ ap accepted g.text-is
  row-answered (refused n p) g = number-row n p g

  -- ── and one applies ──

  answered-by : (a : Answer) → translate source room ≡ a → Given source room a → Given source room (translate source room)
  answered-by a e g = subst (Given source room) (sym e) g

  fits-given : (ts : List Token) (x : Statement) → Fits source ts x → Given source room (translate source room)
  fits-given ts x f =
      cases (ltb room (length (object_of ts x)))
      (λ e.
      let h = ltb-true room (length (object_of ts x)) e in
      answered-by (refused 16 (length (object_of ts x))) (no_room ts x f h) (record { ts = ts; x = x; fits = f; short = h; place = refl }))
      (λ e.
      let h = ltb-false room (length (object_of ts x)) e in
      answered-by (accepted (object_of ts x)) (in-room ts x f h) (record { ts = ts; x = x; fits = f; room-is = h; text-is = refl }))

  keeps_given : (ts : List Token) (x : Statement) → Keeps source ts x → Given source room (translate source room)
  keeps_given ts x k =
      cases (ltb segment_limit (sizes (make ts x).instructions))
      (λ e.
      let h = ltb-true segment_limit (sizes (make ts x).instructions) e in
      answered-by (refused 14 0) (program-long ts x k h) (record { ts = ts; x = x; keeps = k; long = h; place = refl }))
      (λ e.
      let h = ltb-false segment_limit (sizes (make ts x).instructions) e in
      cases (ltb segment_limit (literals_end (make ts x).layout))
      (λ d.
      let l = ltb-true segment_limit (literals_end (make ts x).layout) d in
      answered-by (refused 15 0) (literals-long ts x k h l) (record { ts = ts; x = x; keeps = k; program-fits = h; long = l; place = refl }))
      (λ d. fits-given ts x (record { keeps = k; program-fits = h; literals-fit = ltb-false segment_limit (literals_end (make ts x).layout) d })))

  -- what is broken has a number of its group, and so its row
  pub group-row : (n p : ℕ) → 6 ≤ n → n ≤ 13 → Row source room n p ↔ BrokenAt source n p
  group-row n p l h =
      let one = ne_eqb n 1 (λ e. omega arith) in
      let two = ne_eqb n 2 (λ e. omega arith) in
      let three = ne_eqb n 3 (λ e. omega arith) in
      let four = ne_eqb n 4 (λ e. omega arith) in
      let five = ne_eqb n 5 (λ e. omega arith) in
      (λ r. (rw (one, two, three, four, five, le-leb 6 n l, le-leb n 13 h) at r), λ b. rw (one, two, three, four, five, le-leb 6 n l, le-leb n 13 h) b)

  program-given : (ts : List Token) (x : Statement) → Program source ts x → Given source room (translate source room)
  program-given ts x p = go (make ts x).broken refl
    where
      go : (b : Ruling) → (make ts x).broken ≡ b → Given source room (translate source room)
      go None e = keeps_given ts x (record { program = p; unbroken = λ n t h. some-none (sym ((make-least ts x).least n t h).is ∙ e) })
      go (Some b) e =
          let n = refusal_number b.refusal in
          let r = in-group b.refusal in
          let at = place_at ts b.at in
          answered-by (refused n at) (rules-refused ts x p b e)
          ((group-row n at r.0 r.1).1
          (record {
            ts = ts;
            x = x;
            program = p;
            token = b.at;
            breaks = (make-least ts x).one_of b e;
            least = λ m t h. (let f = (make-least ts x).least m t h in rw (is_some (sym f.is ∙ e)) at f.not_after_it);
            place = refl;
          }))

  tokens-given : (ts : List Token) → Tokens source ts → Given source room (translate source room)
  tokens-given ts k = go (program (kinds_of ts) first_token) refl
    where
      either : (n t : ℕ) → program (kinds_of ts) first_token ≡ bad n t → (n ≡ 4) ⊎ (n ≡ 5) → Given source room (translate source room)
      either n t e (inl q) =
          let f = rw q at e in
          answered-by (refused 4 (place_at ts t)) (tree-refused ts k 4 t f)
          (record { ts = ts; token = t; tokens = k; is = (G.refusal-4 (kinds_of ts) first_token t).0 f; place = refl })
      either n t e (inr q) =
          let f = rw q at e in
          answered-by (refused 5 (place_at ts t)) (tree-refused ts k 5 t f)
          (record { ts = ts; token = t; tokens = k; is = (G.refusal-5 (kinds_of ts) first_token t).0 f; place = refl })

      go : (r : Result Statement) → program (kinds_of ts) first_token ≡ r → Given source room (translate source room)
      go (ok x j) e = program-given ts x (record { tokens = k; end = j; is = (G.accepted (kinds_of ts) first_token x j).0 e })
      go (bad n t) e = either n t e (G.refusals (kinds_of ts) first_token n t e)

  pub row-given : Given source room (translate source room)
  row-given = go (refusal source)
    where
      go : Refusal source (tokens_of source) → Given source room (translate source room)
      go (all_read h z) = tokens-given (in_front ++ (tokens_of source).tokens) (record { read = z; are = refl })
      go (one h z w) = answered-by (refused 1 TEXT-LIMIT) (text-refused 0 z ∙ ap (λ (q : Spot). refused 1 q.place) w) (h, refl)
      go (two p h z w) = answered-by (refused 2 p) (text-refused 1 z ∙ ap (λ (q : Spot). refused 2 q.place) w) h
      go (three p h z w) = answered-by (refused 3 p) (text-refused 2 z ∙ ap (λ (q : Spot). refused 3 q.place) w) h

-- ── a place that is reported with its line is in the text ──

pub place-in-text : (source : List ℕ) (room n p : ℕ) → translate source room ≡ refused n p → 2 ≤ n → n ≤ 13 → p ≤ length source
place-in-text source room n p e l h =
    cases (eqb n 2)
    (λ b. let g : TwoAt source p = rw (one, b) at r in omega (arith, g.inside))
    (λ b.
    cases (eqb n 3)
    (λ c. let g : ThreeAt source p = rw (one, b, c) at r in omega (arith, g.inside))
    (λ c.
    cases (eqb n 4)
    (λ d. let g : TokenAt source FourAt p = rw (one, b, c, d) at r in there g.ts g.tokens g.token g.place)
    (λ d.
    cases (eqb n 5)
    (λ f. let g : TokenAt source FiveAt p = rw (one, b, c, d, f) at r in there g.ts g.tokens g.token g.place)
    (λ f.
    let six : 6 ≤ n = omega (arith, eqb-false n 2 b, eqb-false n 3 c, eqb-false n 4 d, eqb-false n 5 f) in
    let g = (group-row source room n p six h).0 r in
    there g.ts g.program.tokens g.token g.place))))
  where
    r : Row source room n p
    r = subst (Given source room) e (row-given source room)

    one : eqb n 1 ≡ false
    one = ne_eqb n 1 (λ e. omega arith)

    there : (ts : List Token) → Tokens source ts → (t : ℕ) → place_at ts t ≡ p → p ≤ length source
    there ts k t q = rw (← q, k.are) (place_inside source k.read t)

-- ── no second answer ──

some-line : (f : List ℕ) (fs : List (List ℕ)) → 0 < length (text_of (f ∷ fs))
some-line f fs = omega (arith, length-append (line f) (text_of fs), length-append (hex f) (newline ∷ []))

some-text : (gs : List Segment) → 0 < length (object_text gs)
unfolding object_text
some-text [] = some-line (255 ∷ []) []
some-text (g ∷ gs) = some-line (head_frame 0 g) (content_frames (frames_for (length (content_of g))) 0 0 (content_of g) ++ object_frames 1 gs)

pub number-some : (source : List ℕ) (room n p : ℕ) → translate source room ≡ refused n p → 0 < n
number-some source room n p e = go n (subst (Given source room) e (row-given source room))
  where
    go : (n : ℕ) → Row source room n p → 0 < n
    go zero h = absurd h
    go (suc n) h = omega arith

pub text-some : (source : List ℕ) (room : ℕ) (t : List ℕ) → translate source room ≡ accepted t → 0 < length t
text-some source room t e =
    let g = subst (Given source room) e (row-given source room) in
    let m = make g.ts g.x in
    subst (λ (u : List ℕ). 0 < length u) g.text-is (some-text (segments m.bases m.layout m.instructions))
