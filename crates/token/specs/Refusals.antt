-- Document 01, "Numbers answered", rows 2 and 3, over the bytes of a text alone: where each is given. That reading a text gives them exactly there is shown in
-- proofs/Theorems.
use Rattle.std.specs.Prelude.{ℕ, ◌+◌, ◌≤◌, ◌<◌, ◌≡◌, Bool, true, false, not, List, length, drop, Result, Ok, Err}
use Rattle.token.specs.declared.Lexeme.{Lexeme}
use Rattle.token.specs.declared.Lexeme.TheVariants.{Gap, Token}
use Rattle.token.specs.declared.Why.{Why}
use Rattle.token.specs.declared.Why.TheVariants.{NoToken, OutOfRange}
use Rattle.token.specs.Text.{lexeme, is_last, TEXT-LIMIT}

-- how many bytes a gap or a token has
abbrev pub passes : Result Lexeme Why → ℕ
passes (Ok (Gap n)) = n
passes (Ok (Token kind value n)) = n
passes (Err why) = 0

-- whether reading goes on behind it: "Only the bytes up to the first `@` outside a comment are read."
abbrev pub goes_on : Result Lexeme Why → Bool
goes_on (Ok (Gap n)) = true
goes_on (Ok (Token kind value n)) = not (is_last kind)
goes_on (Err why) = false

-- from place p on there are gaps and tokens, each "read from where that token ended", up to place q
pub data Leads (s : List ℕ) : ℕ → ℕ → Type 0 where
  here : {p : ℕ} → Leads s p p
  on : {p q : ℕ} → p < length s → goes_on (lexeme (drop p s)) ≡ true → Leads s (p + passes (lexeme (drop p s))) q → Leads s p q

-- reading a text that is not too long comes to place p, where l stands
pub record StandsAt (s : List ℕ) (l : Result Lexeme Why) (p : ℕ) : Type 0 where
  pub short : length s ≤ TEXT-LIMIT
  pub reached : Leads s 0 p
  pub inside : p < length s
  pub stands : lexeme (drop p s) ≡ l

-- "2: byte in no token, unclosed comment … its first byte"
abbrev pub TwoAt : List ℕ → ℕ → Type 0
TwoAt s p = StandsAt s (Err NoToken) p

-- "3: number out of range … token"
abbrev pub ThreeAt : List ℕ → ℕ → Type 0
ThreeAt s p = StandsAt s (Err OutOfRange) p
