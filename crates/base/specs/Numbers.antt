-- Numbers written in digits, the first digit the most significant: to any base, and cells of n bytes in a list, for every n.
use Rattle.std.specs.Prelude.{ℕ, zero, suc, ◌+◌, ◌*◌, ◌/◌, ◌%◌, List, [], ◌∷◌, ◌++◌, take, drop}
use Rattle.std.proofs.lemmas.List.Edits.{sets}

-- the number that the digits make after the number acc; `digit` says what each stands for
unfoldable pub number_from : (ℕ → ℕ) → ℕ → ℕ → List ℕ → ℕ
number_from digit base acc [] = acc
number_from digit base acc (x ∷ xs) = number_from digit base (acc * base + digit x) xs

-- the number that bytes make
abbrev pub value_of : List ℕ → ℕ
value_of bs = number_from (λ b. b) 256 0 bs

-- the n low bytes of a number
unfoldable pub bytes_of : ℕ → ℕ → List ℕ
bytes_of zero v = []
bytes_of (suc n) v = bytes_of n (v / 256) ++ (v % 256 ∷ [])

-- the number in the n bytes from a place
abbrev pub value_at : List ℕ → ℕ → ℕ → ℕ
value_at s at n = value_of (take n (drop at s))

-- the list with the n low bytes of a number laid from a place
abbrev pub stored : List ℕ → ℕ → ℕ → ℕ → List ℕ
stored s at n v = sets s at (bytes_of n v)
