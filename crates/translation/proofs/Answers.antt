-- What an acceptance says: each group let the text pass. The room counts for 16 only.
use Rattle.std.specs.Prelude.{Some, None}
use mathlib.Core.Path.{◌≡◌, refl, sym, ap, subst, ◌∙◌}
use mathlib.Core.List.{List, ◌++◌}
use mathlib.Core.Bool.{Bool, true, false}
use Prim.Native.Nat.{ℕ, zero, suc, ◌≤◌}
use native.Mathlib.Omega.{arith}
use lib.Dec.{ltb}
use lib.ListN.{length}
use borrow.Author.Tests.{ltb-false, le-ltb}
use Rattle.base.specs.Choose.{whether◌then◌else◌}
use Rattle.token.specs.declared.Token.{Token}
use Rattle.token.specs.Text.{tokens_of}
use Rattle.grammar.specs.Tree.{Statement}
use Rattle.grammar.specs.Reader.{Result, ok, bad}
use Rattle.grammar.specs.Grammar.{program}
use Rattle.grammar.specs.Refusals.{Grammatical, derived, four, five}
use Rattle.grammar.proofs.Theorems.{answer_of, grammatical, one_told}
use Rattle.scopes.specs.Broken.{refusal_number, Ruling, unbroken}
use Rattle.scopes.specs.Search.{in_front, first_token}
use Rattle.objtext.specs.Object.{object_text}
use Rattle.translation.specs.Instructions.{sizes}
use Rattle.translation.specs.Layout.{literals_end, segment_limit}
use Rattle.translation.specs.Image.{segments}
use Rattle.translation.specs.Translate.{Answer, accepted, refused, kinds_of, Made, make, finish, on_rules_by, on_rules, on_grammar, after_text, after_tokens, translated, in_room, translate}

not-accepted : (n p : ℕ) (t : List ℕ) → refused n p ≡ accepted t → ⊥
not-accepted n p t e = let z : ◌≡◌ {A = ℕ} 0 1 = cc in omega arith

accepted-is : (s t : List ℕ) → accepted s ≡ accepted t → s ≡ t
accepted-is s t e = cc

-- ── the room ──

pub fits-room : (a : Answer) (room : ℕ) (t : List ℕ) → in_room room a ≡ accepted t → (a ≡ accepted t) × (length t ≤ room)
unfolding in_room
fits-room (refused n p) room t e = absurd (not-accepted n p t e)
fits-room (accepted s) room t e = go (ltb room (length s)) refl e
  where
    go : (b : Bool) → ltb room (length s) ≡ b → (whether b then refused 16 (length s) else accepted s) ≡ accepted t → (accepted s ≡ accepted t) × (length t ≤ room)
    go true q h = absurd (not-accepted 16 (length s) t h)
    go false q h = (h, subst (λ (u : List ℕ). length u ≤ room) (accepted-is s t h) (ltb-false _ _ q))

pub accepted-in : (t : List ℕ) (room : ℕ) → length t ≤ room → in_room room (accepted t) ≡ accepted t
unfolding in_room
accepted-in t room h = rw (le-ltb room (length t) h)

-- a text accepted in one room is accepted, with the same object text, in every room that holds it
pub room-only : (source : List ℕ) (room wider : ℕ) (t : List ℕ) → translate source room ≡ accepted t → length t ≤ wider → translate source wider ≡ accepted t
unfolding translate
room-only source room wider t e h = ap (in_room wider) (fits-room (translated source) room t e).0 ∙ accepted-in t wider h

-- ── the grammar and its reader ──

-- what is told of tokens is answered as the reader of programs would
pub read-grammar : (ts : List Token) → on_grammar ts (grammatical (kinds_of ts) first_token) ≡ after_tokens ts (program (kinds_of ts) first_token)
read-grammar ts = go (grammatical (kinds_of ts) first_token) ∙ ap (after_tokens ts) (one_told (kinds_of ts) first_token (grammatical (kinds_of ts) first_token))
  where
    go : (g : Grammatical (kinds_of ts) first_token) → on_grammar ts g ≡ after_tokens ts (answer_of g)
    go (derived x j h) = refl
    go (four t h) = refl
    go (five t h) = refl

-- ── what an acceptance says ──

pub record Accepted (source object : List ℕ) : Type 0 where
  pub whole : (tokens_of source).number ≡ 0
  pub tokens : List Token
  pub text : tokens ≡ in_front ++ (tokens_of source).tokens
  pub tree : Statement
  pub next : ℕ
  pub read : program (kinds_of tokens) first_token ≡ ok tree next
  pub quiet : (make tokens tree).broken ≡ unbroken
  pub short : sizes (make tokens tree).instructions ≤ segment_limit
  pub room : literals_end (make tokens tree).layout ≤ segment_limit
  pub made : object_text (segments (make tokens tree).bases (make tokens tree).layout (make tokens tree).instructions) ≡ object

pub record Finished (m : Made) (object : List ℕ) : Type 0 where
  pub short : sizes m.instructions ≤ segment_limit
  pub room : literals_end m.layout ≤ segment_limit
  pub made : object_text (segments m.bases m.layout m.instructions) ≡ object

finished : (m : Made) (t : List ℕ) → finish m ≡ accepted t → Finished m t
unfolding finish
finished m t e = go (ltb segment_limit (sizes m.instructions)) refl (ltb segment_limit (literals_end m.layout)) refl e
  where
    go : (a : Bool) → ltb segment_limit (sizes m.instructions) ≡ a → (b : Bool) → ltb segment_limit (literals_end m.layout) ≡ b
        → (whether a then refused 14 0 else whether b then refused 15 0 else accepted (object_text (segments m.bases m.layout m.instructions))) ≡ accepted t → Finished m t
    go true p b q h = absurd (not-accepted 14 0 t h)
    go false p true q h = absurd (not-accepted 15 0 t h)
    go false p false q h = record { short = ltb-false _ _ p; room = ltb-false _ _ q; made = accepted-is _ t h }

judged : (ts : List Token) (m : Made) (t : List ℕ) → on_rules ts m ≡ accepted t → (m.broken ≡ unbroken) × Finished m t
unfolding on_rules
judged ts m t e = go m.broken refl e
  where
    go : (b : Ruling) → m.broken ≡ b → on_rules_by ts m b ≡ accepted t → (m.broken ≡ unbroken) × Finished m t
    go None q h = (q, finished m t h)
    go (Some b) q h = absurd (not-accepted (refusal_number b.refusal) _ t h)

pub acceptance : (source : List ℕ) (t : List ℕ) → translated source ≡ accepted t → Accepted source t
unfolding translated
acceptance source t e = go (tokens_of source).number refl e
  where
    ts : List Token
    ts = in_front ++ (tokens_of source).tokens

    tree : (tokens_of source).number ≡ 0 → (r : Result Statement) → program (kinds_of ts) first_token ≡ r → after_tokens ts r ≡ accepted t → Accepted source t
    tree w (bad n i) q h = absurd (not-accepted n _ t h)
    tree w (ok x j) q h =
        let d = judged ts (make ts x) t h in
        record { whole = w; tokens = ts; text = refl; tree = x; next = j; read = q; quiet = d.0; short = d.1.short; room = d.1.room; made = d.1.made }

    go : (n : ℕ) → (tokens_of source).number ≡ n → after_text (tokens_of source) n ≡ accepted t → Accepted source t
    go zero q h = tree q (program (kinds_of ts) first_token) refl (sym (read-grammar ts) ∙ h)
    go (suc n) q h = absurd (not-accepted (suc n) _ t h)
