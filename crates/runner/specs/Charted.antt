-- The map of what may be touched, from the data heads of a text.
use Rattle.std.specs.Prelude.{List, ℕ, zero, suc, ◌+◌, set}
use Rattle.machine.specs.Space.{end_column, from_column, to_column}
use Rattle.objtext.specs.Reader.{head_length, head_from, head_to, after_data}

-- the numbers of the data head at s as those of page p, laid over a map
abbrev pub paged : ℕ → List ℕ → List ℕ → List ℕ
paged p s map = set (set (set map (end_column + p) (head_length s)) (from_column + p) (head_from s)) (to_column + p) (head_to s)

-- of n data segments from s on, numbered from k: segment k has page k + 1
abbrev pub charted : ℕ → ℕ → List ℕ → List ℕ → List ℕ
charted zero k s map = map
charted (suc n) k s map = charted n (suc k) (after_data s) (paged (k + 1) s map)
