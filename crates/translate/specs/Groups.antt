-- Document 01, "Numbers answered": the groups of refusals that are left when tokens are read, and when a program is on the tape.
use Rattle.std.specs.Prelude.{◌≡◌, List, ℕ, length}
use Rattle.grammar.specs.Tree.{Statement}
use Rattle.grammar.specs.Grammar.{program}
use Rattle.ledger.specs.Book.{Wide, Thin}
use Rattle.scopes.specs.Search.{first_token}
use Rattle.translation.specs.Translate.{kinds_of, values_of, in_room, make, on_rules, after_tokens}
use Rattle.settled.specs.Texts.{all_tokens, Small, Text, Blanks}
use Rattle.made.specs.Answers.{Answer, Gives}

module _ (source kinds : List ℕ) (w : Wide) (b : Thin) (before after : List ℕ) (r : Answer) where
  -- 4 and 5, then the rest: the text's tokens stand in the lists
  abbrev pub OnTokens : Type 0
  OnTokens =
      kinds ≡ kinds_of (all_tokens source) → w.values ≡ values_of (all_tokens source) → Small (all_tokens source) → Blanks (all_tokens source) w b
      → Gives (in_room (length before) (after_tokens (all_tokens source) (program kinds first_token))) before after r

  -- 6 to 13, then 14, 15, 16: the program is on the tape
  abbrev pub OnTape : (tape : List ℕ) → Type 0
  OnTape tape =
      (x : Statement) → Text (all_tokens source) x w.values tape → kinds ≡ kinds_of (all_tokens source) → Blanks (all_tokens source) w b
      → Gives (in_room (length before) (on_rules (all_tokens source) (make (all_tokens source) x))) before after r
