-- Readers: a reader takes the kinds of all tokens and the number of the next token, and gives what it has read with the number of the token after it,
-- or a refusal with the number of the token at which it is given. They are written one after the other in `do` blocks.
use Rattle.std.specs.Prelude.{List, ℕ, ◌+◌, eqb, get_or}
use Rattle.base.specs.Choose.{whether◌then◌else◌}
use Rattle.base.specs.Lists.{member}

pub data Result (A : Type 0) : Type 0 where
  ok : A → (next : ℕ) → Result A
  bad : (number token : ℕ) → Result A

abbrev pub Reader : Type 0 → Type 0
Reader A = List ℕ → ℕ → Result A

unfoldable pub and_then : {A B : Type 0} → Result A → (A → ℕ → Result B) → Result B
and_then (ok a i) f = f a i
and_then (bad n i) f = bad n i

abbrev pub ◌>>=◌ : {A B : Type 0} → Reader A → (A → Reader B) → Reader B
◌>>=◌ m f kinds i = and_then (m kinds i) (λ a j. f a kinds j)

abbrev pub ◌>>◌ : {A B : Type 0} → Reader A → Reader B → Reader B
◌>>◌ m n kinds i = and_then (m kinds i) (λ a j. n kinds j)

abbrev pub give : {A : Type 0} → A → Reader A
give a kinds i = ok a i

abbrev pub refuse : {A : Type 0} → ℕ → Reader A
refuse number kinds i = bad number i

-- the kind of the next token, which stays; past the last token it is 0, the kind of the end
unfoldable pub look : Reader ℕ
look kinds i = ok (get_or kinds i 0) i

-- the next token, of whatever kind
unfoldable pub next : Reader ℕ
next kinds i = ok i (i + 1)

-- a token of kind k; any other has no place here: refusal 4 at it
unfoldable pub want : ℕ → Reader ℕ
want k kinds i = whether eqb (get_or kinds i 0) k then ok i (i + 1) else bad 4 i

-- a token of one of the kinds
unfoldable pub want_one : List ℕ → Reader ℕ
want_one ks kinds i = whether member (get_or kinds i 0) ks then ok i (i + 1) else bad 4 i
