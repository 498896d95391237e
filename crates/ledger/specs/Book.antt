-- What is known of each token, in two slices with a row a token and four columns each. A put changes one list: the rest of the record says what stays.
use Rattle.std.specs.Prelude.{List, ℕ, zero, suc, set, length, replicate}
use Rattle.ledger.specs.Columns.{column}

-- 64 bits each: a number's value or a name's key; what a declared name means, and the base that it is under; where a cell stands
pub record Wide : Type 0 where
  pub values : List ℕ
  pub means : List ℕ
  pub under : List ℕ
  pub offsets : List ℕ

-- what 16 bits hold is below this
abbrev pub thin_limit : ℕ
thin_limit = 65536

-- 16 bits each: the declaration that a name means; the label that a GOTO means; the segment that a base declaration opens; the registers that a procedure's text writes
pub record Thin : Type 0 where
  pub found : List ℕ
  pub goes : List ℕ
  pub opens : List ℕ
  pub written : List ℕ

unfoldable pub wide_of : List ℕ → Wide
wide_of l = record { values = column 0 l; means = column 1 l; under = column 2 l; offsets = column 3 l }

unfoldable pub thin_of : List ℕ → Thin
thin_of l = record { found = column 0 l; goes = column 1 l; opens = column 2 l; written = column 3 l }

-- ── the columns by number ──

abbrev pub wide_column : ℕ → Wide → List ℕ
wide_column zero w = w.values
wide_column (suc zero) w = w.means
wide_column (suc (suc zero)) w = w.under
wide_column (suc (suc (suc c))) w = w.offsets

abbrev pub thin_column : ℕ → Thin → List ℕ
thin_column zero b = b.found
thin_column (suc zero) b = b.goes
thin_column (suc (suc zero)) b = b.opens
thin_column (suc (suc (suc c))) b = b.written

-- one column changed
abbrev pub on_wide : ℕ → (List ℕ → List ℕ) → Wide → Wide
on_wide zero f w = record { values = f w.values; means = w.means; under = w.under; offsets = w.offsets }
on_wide (suc zero) f w = record { values = w.values; means = f w.means; under = w.under; offsets = w.offsets }
on_wide (suc (suc zero)) f w = record { values = w.values; means = w.means; under = f w.under; offsets = w.offsets }
on_wide (suc (suc (suc c))) f w = record { values = w.values; means = w.means; under = w.under; offsets = f w.offsets }

abbrev pub on_thin : ℕ → (List ℕ → List ℕ) → Thin → Thin
on_thin zero f b = record { found = f b.found; goes = b.goes; opens = b.opens; written = b.written }
on_thin (suc zero) f b = record { found = b.found; goes = f b.goes; opens = b.opens; written = b.written }
on_thin (suc (suc zero)) f b = record { found = b.found; goes = b.goes; opens = f b.opens; written = b.written }
on_thin (suc (suc (suc c))) f b = record { found = b.found; goes = b.goes; opens = b.opens; written = f b.written }

-- ── what a put and a clearing do to a column ──

abbrev pub put_in : (t v : ℕ) → List ℕ → List ℕ
put_in t v l = set l t v

abbrev pub zeros : List ℕ → List ℕ
zeros l = replicate (length l) 0

-- ── puts by name ──

abbrev pub put_value : (t v : ℕ) → Wide → Wide
put_value t v w = on_wide 0 (put_in t v) w

abbrev pub put_mean : (t v : ℕ) → Wide → Wide
put_mean t v w = on_wide 1 (put_in t v) w

abbrev pub put_under : (t v : ℕ) → Wide → Wide
put_under t v w = on_wide 2 (put_in t v) w

abbrev pub put_offset : (t v : ℕ) → Wide → Wide
put_offset t v w = on_wide 3 (put_in t v) w

abbrev pub put_found : (t v : ℕ) → Thin → Thin
put_found t v b = on_thin 0 (put_in t v) b

abbrev pub put_goes : (t v : ℕ) → Thin → Thin
put_goes t v b = on_thin 1 (put_in t v) b

abbrev pub put_opens : (t v : ℕ) → Thin → Thin
put_opens t v b = on_thin 2 (put_in t v) b

abbrev pub put_written : (t v : ℕ) → Thin → Thin
put_written t v b = on_thin 3 (put_in t v) b
