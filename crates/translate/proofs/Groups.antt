-- The groups of refusals in order: what each part answers is what the definition does. Assumes nothing.
use Rattle.std.specs.Prelude.{Some}
use Rattle.std.proofs.Common.{Ok, Err}
use mathlib.Core.Path.{◌≡◌, refl, sym, ap, subst, ◌∙◌}
use mathlib.Core.List.{List}
use Prim.Native.Nat.{ℕ, zero, suc, ◌+◌, ◌<◌}
use native.Mathlib.Omega.{arith}
use lib.Dec.{eqb}
use lib.ListN.{length, take, get_or, replicate}
use Rattle.base.proofs.Tests.{never_true}
use borrow.Author.Tests.{lt-ltb}
use Rattle.token.specs.Text.{tokens_of, TEXT-LIMIT}
use Rattle.token.specs.Answers.{Tokens, Summary, refusal_of, summary_of}
use Rattle.token.specs.declared.Token.{Token}
use Rattle.token.specs.declared.Unread.{Unread}
use Rattle.token.proofs.Readings.{unread-some}
use Rattle.grammar.specs.Tree.{Statement}
use Rattle.grammar.specs.Grammar.{program}
use Rattle.scopes.specs.declared.Broken.{Broken}
use Rattle.scopes.specs.Broken.{refusal_number, Ruling, unbroken}
use Rattle.ledger.specs.Book.{Wide, Thin, on_wide, on_thin, zeros}
use Rattle.scopes.specs.Search.{first_token}
use Rattle.translation.specs.Translate as T
use Rattle.translation.specs.Translate.{kinds_of, values_of, named, labelled, make, finish, on_rules_by, on_rules, after_tokens, in_room, translated, translate}
use Rattle.translation.proofs.Answers.{read-grammar}
use Rattle.translation.proofs.Tokens.{small-text}
use Rattle.parse.specs.Programs.{Accepted}
use Rattle.readers.specs.declared.tokens.Read.{Read}
use Rattle.readers.specs.declared.tokens.Refused as P
use Rattle.readers.specs.Refusals.{number_of}
use Rattle.readers.specs.Reads.{Stopped}
use Rattle.settled.specs.declared.Judged.{Judged}
use Rattle.settled.specs.Texts.{all_tokens, places_of, Fronted, Small, Text, Blanks, Bound, meant_in, Settled, Stays}
use Rattle.settled.proofs.Reading.{all_read}
use Rattle.settled.proofs.Ruling.{broken-is}
use Rattle.settled.proofs.Programs.{text-is}
use Rattle.settled.proofs.Judging.{program-front}
use Rattle.std.specs.Prelude.{Err}
use Rattle.made.specs.Answers.{Answer, Gives}
use Rattle.made.specs.Making.{made_along}
use Rattle.made.proofs.Defined.{made-as-defined}
use Rattle.translate.specs.Answers.{outcome, answered, stood}
use Rattle.translate.proofs.Theorems.{stood-parts}

-- ── "6 to 13", then 14, 15, 16 ──

module _
    (ts : List Token) (x : Statement) (tape : List ℕ) (others : Ruling) (r : Judged) (w₀ w : Wide) (b₀ b : Thin) (t : Text ts x w₀.values tape) (d : Bound ts x b₀ others)
    (k : Stays w₀ w b₀ b) (s : Settled ts x w b others r)
  where
    ruled : r.broken ≡ (make ts x).broken
    ruled = broken-is ts x others r w b₀ b d s

    pub rule-broken : (one : Broken) (out : List ℕ) (number place : ℕ) → r.broken ≡ Some one → number ≡ refusal_number one.refusal → place ≡ get_or (places_of ts) one.at 0
        → Gives (in_room (length out) (on_rules ts (make ts x))) out out (Err (record { number = number; place = place }))
    unfolding on_rules in_room
    rule-broken one out number place h n p = rw (sym ruled ∙ h) (record { number_is = n; place_is = p; length-is = refl; buffer-is = refl })

    -- the column of the ends is cleared for the addresses
    pub none-broken : (kinds out out' : List ℕ) (c : Thin) (a : Answer) → kinds ≡ kinds_of ts → c ≡ on_thin 3 zeros b → length b.written ≡ length ts → r.broken ≡ unbroken
        → Gives (made_along kinds w c b.written tape r.bases (length out)) out out' a → Gives (in_room (length out) (on_rules ts (make ts x))) out out' a
    unfolding on_rules
    none-broken kinds out out' c a ek ec long h g =
        let quiet : (make ts x).broken ≡ unbroken = sym ruled ∙ h in
        let front = program-front ts x t.to t.program in
        let ew : w ≡ on_wide 0 (λ (l : List ℕ). values_of ts) w = ap (λ (v : List ℕ). on_wide 0 (λ (l : List ℕ). v) w) (k.values-stay ∙ t.values-are) in
        let eb : c ≡ record { found = (named ts x).found; goes = (labelled ts x).goes; opens = (meant_in ts x).opens; written = replicate (length ts) 0 } =
        ec ∙ rw (k.found-stays, d.found-is, k.goes-stays, d.goes-is, s.opens-are, long) in
        let room = length out in
        let e : made_along kinds w c b.written tape r.bases room ≡ in_room room (finish (make ts x)) =
        ap (λ (y : Wide). made_along kinds y c b.written tape r.bases room) ew
        ∙ (ap (λ (y : Thin). made_along kinds (on_wide 0 (λ (l : List ℕ). values_of ts) w) y b.written tape r.bases room) eb
        ∙ rw (ek, t.tape-is, s.bases-are)
        (made-as-defined ts x t.to t.small t.program (omega arith) quiet w.means w.under b.written w.offsets s.means-are (s.ends-are h) (s.offsets_are h) room)) in
        let j : on_rules_by ts (make ts x) (make ts x).broken ≡ finish (make ts x) = ap (λ (b : Ruling). on_rules_by ts (make ts x) b) quiet in
        subst (λ (z : T.Answer). Gives (in_room (length out) z) out out' a) (sym j) (subst (λ (z : T.Answer). Gives z out out' a) e g)

-- ── "4, 5" ──

module _ (ts : List Token) (kinds : List ℕ) where
  pub no_program : (e : P.Refused) → Stopped kinds first_token e (program kinds first_token) → (out : List ℕ) (place : ℕ) → place ≡ get_or (places_of ts) e.at 0
      → Gives (in_room (length out) (after_tokens ts (program kinds first_token))) out out (Err (record { number = number_of e.why; place = place }))
  unfolding in_room
  no_program e d out place q = rw d.is (record { number_is = refl; place_is = q; length-is = refl; buffer-is = refl })

  pub some-program : (tape : List ℕ) (p : Read) → Accepted kinds first_token tape p → (values out out' : List ℕ) (a : Answer) → kinds ≡ kinds_of ts → values ≡ values_of ts → Small ts
      → ((x : Statement) → Text ts x values (take p.value tape) → Gives (in_room (length out) (on_rules ts (make ts x))) out out' a)
      → Gives (in_room (length out) (after_tokens ts (program kinds first_token))) out out' a
  some-program tape p d values out out' a ek ev small g = rw d.is (g d.tree (text-is kinds tape p d ts values ek ev small))

-- ── "1; 2, 3" ──

module _ (src kinds values : List ℕ) (answer : Tokens) (d : Fronted src kinds values answer) where
  pub text-refused : (out : List ℕ) (u : Unread) → answer ≡ Err u → Gives (translate src (length out)) out out (Err (record { number = (refusal_of u).number; place = (refusal_of u).spot.place }))
  unfolding translate translated in_room
  text-refused out u e = by (refusal_of u).number refl
    where
      by : (m : ℕ) → (refusal_of u).number ≡ m → Gives (translate src (length out)) out out (Err (record { number = (refusal_of u).number; place = (refusal_of u).spot.place }))
      by zero z = never_true (sym (unread-some u) ∙ ap (λ (k : ℕ). eqb k 0) z)
      by (suc m) z =
          let n : (tokens_of src).number ≡ suc m = sym (ap (λ (y : Summary). y.number) d.is) ∙ (ap (λ (y : Tokens). (summary_of y).number) e ∙ z) in
          let p : (refusal_of u).spot.place ≡ (tokens_of src).spot.place = sym (ap (λ (y : Tokens). (summary_of y).spot.place) e) ∙ ap (λ (y : Summary). y.spot.place) d.is in
          rw (z, n) (record { number_is = refl; place_is = p; length-is = refl; buffer-is = refl })

  pub text-read :
      (n : ℕ) → answer ≡ Ok n → (w : Wide) (b : Thin) (out out' : List ℕ) (a : Answer) → w.values ≡ take (first_token + n) values → Blanks (all_tokens src) w b
      → (let ts = all_tokens src in take (first_token + n) kinds ≡ kinds_of ts → w.values ≡ values_of ts → Small ts → Blanks ts w b
      → Gives (in_room (length out) (after_tokens ts (program (take (first_token + n) kinds) first_token))) out out' a)
      → Gives (translate src (length out)) out out' a
  unfolding translate translated
  text-read n e w b out out' a v bs g =
      rw (all_read src answer d.is n e, read-grammar (all_tokens src)) (rw (d.kinds-are n e) at (g (d.kinds-are n e) (v ∙ d.values-are n e) (small-text src) bs))

-- number, place, line, column, length and buffer in one
pub as_one : (source : List ℕ) {a : T.Answer} {before after : List ℕ} {r : Answer} → Gives a before after r → outcome (stood source r) after ≡ answered source a before
as_one source {a} {before} {after} {r} g = stood-parts source r after ∙ rw (g.number_is, g.place_is, g.length-is, g.buffer-is)

-- "1: source over 32,768 bytes … 32,768"
pub too_long : (src out : List ℕ) → TEXT-LIMIT < length src → Gives (translate src (length out)) out out (Err (record { number = 1; place = TEXT-LIMIT }))
unfolding translate translated in_room tokens_of
too_long src out h = rw (lt-ltb TEXT-LIMIT (length src) h) (record { number_is = refl; place_is = refl; length-is = refl; buffer-is = refl })
