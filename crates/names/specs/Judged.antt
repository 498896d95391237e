-- What is noted of a name that is declared or a label that is set, and of one that is looked for: the same rules for both.
use Rattle.std.specs.Prelude.{ℕ, suc, eqb, ltb}
use Rattle.scopes.specs.declared.Refusal.TheVariants.{NotFound, Twice, TooMany}
use Rattle.scopes.specs.Broken.{rule, ◌⊕◌}
use Rattle.scopes.specs.declared.Noted.{Noted}

-- "7: declared, or label set, twice in a block"; "13: 257th declared name, or label, in the program". Earlier in the block stands a token with the same key, or 0
unfoldable pub entered : (earlier most t : ℕ) → Noted → Noted
entered earlier most t n = record { count = suc n.count; broken = n.broken ⊕ rule (eqb earlier 0) Twice t ⊕ rule (ltb n.count most) TooMany t }

-- "6: name or label not found"
unfoldable pub sought : (d t : ℕ) → Noted → Noted
sought d t n = record { count = n.count; broken = n.broken ⊕ rule (ltb 0 d) NotFound t }
