-- A text looked at: the groups of refusals on the way, 1 to 13, and what is seen where no rule is broken. Assumes nothing.
use Rattle.std.proofs.Common.{Ok, Err}
use mathlib.Core.Path.{◌≡◌, refl, sym, ap, subst, ◌∙◌}
use mathlib.Core.List.{List, [], ◌∷◌}
use Rattle.std.specs.Prelude.{Option, None, Some}
use Prim.Native.Nat.{ℕ, zero, suc, ◌+◌, ◌<◌}
use lib.Dec.{eqb}
use lib.ListN.{length, take}
use Rattle.base.proofs.Tests.{never_true}
use Rattle.token.proofs.Readings.{unread-some}
use borrow.Author.Tests.{lt-ltb}
use Rattle.token.specs.Text.{tokens_of, TEXT-LIMIT}
use Rattle.token.specs.Answers.{Tokens, Summary, refusal_of, summary_of}
use Rattle.token.specs.declared.Token.{Token}
use Rattle.token.specs.declared.Unread.{Unread}
use Rattle.grammar.specs.Tree.{Statement}
use Rattle.grammar.specs.Grammar.{program}
use Rattle.grammar.specs.Refusals.{Grammatical, derived, four, five}
use Rattle.grammar.proofs.Theorems.{grammatical, answer_of, one_told}
use Rattle.scopes.specs.declared.Broken.{Broken}
use Rattle.scopes.specs.Broken.{Ruling, unbroken}
use Rattle.ledger.specs.Book.{Wide, Thin}
use Rattle.scopes.specs.Search.{first_token}
use Rattle.static_rules.specs.Meaning.{Meaning, nothing, register, cell, routine, function}
use Rattle.translation.specs.Layout.{layout}
use Rattle.translation.specs.Translate.{kinds_of, values_of, make}
use Rattle.translation.proofs.Tokens.{small-text}
use Rattle.parse.specs.Programs.{Accepted}
use Rattle.readers.specs.declared.tokens.Read.{Read}
use Rattle.readers.specs.declared.tokens.Refused as P
use Rattle.readers.specs.Reads.{Stopped}
use Rattle.settled.specs.declared.Judged.{Judged}
use Rattle.settled.specs.Texts.{all_tokens, Fronted, Small, Text, Blanks, Bound, Settled, Stays}
use Rattle.settled.proofs.Reading.{all_read}
use Rattle.settled.proofs.Programs.{text-is}
use Rattle.settled.proofs.Ruling.{broken-is}
use Rattle.listing.specs.declared.Seen.{Seen}
use Rattle.listing.specs.declared.Site.{Site}
use Rattle.listing.specs.Sound.{ruled, on_grammar, after_tokens, sound_of}
use Rattle.listing.specs.Cells.{sited, sites_from, site_in}
use Rattle.listing.specs.Seeing.{Shows, Sees}

-- ── cells ──

-- by where they stand, token by token
sites-same : (values : List ℕ) (f g : ℕ → ℕ) (key t : ℕ) (ms : List Meaning) → ((i : ℕ) → f i ≡ g i) → sites_from values f key t ms ≡ sites_from values g key t ms
unfolding sites_from sited
sites-same values f g key t [] e = refl
sites-same values f g key t (m ∷ ms) e = rw (sites-same values f g key (suc t) ms e) (one m (sites_from values g key (suc t) ms))
  where
    one : (m : Meaning) (later : Option Site) → sited values f key t m later ≡ sited values g key t m later
    one nothing later = refl
    one (register r) later = refl
    one (cell c) later = rw (e t)
    one (routine r) later = refl
    one (function k) later = refl

module _ (q : Seen) (key address : ℕ) where
  -- ── "6 to 13" ──

  module _
      (ts : List Token) (x : Statement) (tape : List ℕ) (others : Ruling) (r : Judged) (w₀ w : Wide) (b₀ b : Thin) (t : Text ts x w₀.values tape) (d : Bound ts x b₀ others)
      (k : Stays w₀ w b₀ b) (s : Settled ts x w b others r)
    where
      judged : r.broken ≡ (make ts x).broken
      judged = broken-is ts x others r w b₀ b d s

      pub rule-broken : {one : Broken} → r.broken ≡ Some one → Sees None key address q → Sees (ruled ts x (make ts x).broken) key address q
      rule-broken h n = rw (sym judged ∙ h) n

      pub none-broken : (kinds : List ℕ) → kinds ≡ kinds_of ts → r.broken ≡ unbroken → Shows ts kinds w b tape key address q
          → Sees (ruled ts x (make ts x).broken) key address q
      unfolding make layout site_in
      none-broken kinds ek h g = subst (λ (b : Ruling). Sees (ruled ts x b) key address q) (sym (sym judged ∙ h)) (record {
        site-is = g.site-is ∙ rw (k.values-stay, t.values-are, s.means-are) (sites-same (values_of ts) _ _ key 0 _ (s.offsets_are h));
        located = record {
          book = record {
            wide = w;
            thin = b;
            values-are = k.values-stay ∙ t.values-are;
            means-are = s.means-are;
            offsets_are = s.offsets_are h;
            found-is = k.found-stays ∙ d.found-is;
            goes-is = k.goes-stays ∙ d.goes-is;
            opens-are = s.opens-are;
          };
          operand-is = rw (ek, t.tape-is) at g.operand-is;
        };
      })

  -- ── "4, 5" ──

  module _ (ts : List Token) (kinds : List ℕ) where
    pub no_program : (e : P.Refused) → Stopped kinds first_token e (program kinds first_token) → Sees None key address q → Sees (after_tokens ts (program kinds first_token)) key address q
    no_program e d n = rw d.is n

    pub some-program : (tape : List ℕ) (p : Read) → Accepted kinds first_token tape p → (values : List ℕ) → kinds ≡ kinds_of ts → values ≡ values_of ts → Small ts
        → ((x : Statement) → Text ts x values (take p.value tape) → Sees (ruled ts x (make ts x).broken) key address q)
        → Sees (after_tokens ts (program kinds first_token)) key address q
    some-program tape p d values ek ev small g = rw d.is (g d.tree (text-is kinds tape p d ts values ek ev small))

  -- ── "1; 2, 3" ──

  read-grammar : (ts : List Token) → on_grammar ts (grammatical (kinds_of ts) first_token) ≡ after_tokens ts (program (kinds_of ts) first_token)
  read-grammar ts = go (grammatical (kinds_of ts) first_token) ∙ ap (after_tokens ts) (one_told (kinds_of ts) first_token (grammatical (kinds_of ts) first_token))
    where
      go : (g : Grammatical (kinds_of ts) first_token) → on_grammar ts g ≡ after_tokens ts (answer_of g)
      go (derived x j h) = refl
      go (four t h) = refl
      go (five t h) = refl

  module _ (src kinds values : List ℕ) (answer : Tokens) (d : Fronted src kinds values answer) where
    pub text-refused : (u : Unread) → answer ≡ Err u → Sees None key address q → Sees (sound_of src) key address q
    unfolding sound_of
    text-refused u e n = by (refusal_of u).number refl
      where
        by : (m : ℕ) → (refusal_of u).number ≡ m → Sees (sound_of src) key address q
        by zero z = never_true (sym (unread-some u) ∙ ap (λ (k : ℕ). eqb k 0) z)
        by (suc m) z =
            let f : (tokens_of src).number ≡ suc m = sym (ap (λ (y : Summary). y.number) d.is) ∙ (ap (λ (y : Tokens). (summary_of y).number) e ∙ z) in
            rw f n

    pub text-read :
        (n : ℕ) → answer ≡ Ok n → (w : Wide) (b : Thin) → w.values ≡ take (first_token + n) values → Blanks (all_tokens src) w b
        → (let ts = all_tokens src in take (first_token + n) kinds ≡ kinds_of ts → w.values ≡ values_of ts → Small ts → Blanks ts w b
        → Sees (after_tokens ts (program (take (first_token + n) kinds) first_token)) key address q)
        → Sees (sound_of src) key address q
    unfolding sound_of
    text-read n e w b v bs g =
        rw (all_read src answer d.is n e, read-grammar (all_tokens src)) (rw (d.kinds-are n e) at (g (d.kinds-are n e) (v ∙ d.values-are n e) (small-text src) bs))

  -- "1: source over 32,768 bytes"
  pub too_long : (src : List ℕ) → TEXT-LIMIT < length src → Sees None key address q → Sees (sound_of src) key address q
  unfolding sound_of tokens_of
  too_long src h n = rw (lt-ltb TEXT-LIMIT (length src) h) n
