-- A text that breaks none of the rules 1 to 13: its tokens, behind the names in front of it, and its tree. Of such a text it is known where cells stand.
use Rattle.std.specs.Prelude.{List, ◌++◌, ℕ, zero, suc, Option, None, Some}
use Rattle.token.specs.declared.Token.{Token}
use Rattle.token.specs.Text.{Reading, tokens_of}
use Rattle.grammar.specs.Tree.{Statement}
use Rattle.grammar.specs.Reader.{Result, ok, bad}
use Rattle.grammar.specs.Refusals.{Grammatical, derived, four, five}
use Rattle.grammar.proofs.Theorems.{grammatical}
use Rattle.scopes.specs.Broken.{Ruling}
use Rattle.scopes.specs.Search.{in_front, first_token}
use Rattle.translation.specs.Translate.{kinds_of, make}

pub record Sound : Type 0 where
  pub tokens : List Token
  pub tree : Statement

-- "6 to 13"
abbrev pub ruled : List Token → Statement → Ruling → Option Sound
ruled ts x None = Some (record { tokens = ts; tree = x })
ruled ts x (Some b) = None

-- "4, 5"
abbrev pub on_grammar : (ts : List Token) → Grammatical (kinds_of ts) first_token → Option Sound
on_grammar ts (derived x j h) = ruled ts x (make ts x).broken
on_grammar ts (four t h) = None
on_grammar ts (five t h) = None

-- "1; 2, 3"
abbrev pub after_text : Reading → ℕ → Option Sound
after_text r zero = let ts = in_front ++ r.tokens in on_grammar ts (grammatical (kinds_of ts) first_token)
after_text r (suc n) = None

unfoldable pub sound_of : List ℕ → Option Sound
sound_of source = after_text (tokens_of source) (tokens_of source).number

-- ── 4 and 5 as the reader of programs answers them, which the code follows ──

abbrev pub after_tokens : List Token → Result Statement → Option Sound
after_tokens ts (ok x next) = ruled ts x (make ts x).broken
after_tokens ts (bad n i) = None
