-- Document 01, "Runner": where an object's segments go in storage, and the machine's start.
use Rattle.std.specs.Prelude.{List, [], ◌∷◌, ◌++◌, map, ℕ, zero, suc, ◌+◌, ◌*◌, leb, length, drop, get_or, set, replicate}
use Rattle.std.proofs.lemmas.List.Edits.{sets}
use Rattle.base.specs.Choose.{choose}
use Rattle.base.specs.Numbers.{stored}
use Rattle.objtext.specs.Object.{Segment, program, cells, content_of}
use Rattle.machine.specs.Space.{Space, origin, needed}
use Rattle.machine.specs.Step.{Cpu, cpu}

-- ── storage ──

-- "Segment k goes to 4096·(k+1)"
abbrev pub placed : ℕ → List Segment → List ℕ → List ℕ
placed k [] s = s
placed k (g ∷ gs) s = placed (suc k) gs (sets s (origin k) (content_of g))

-- "the word at offset 4k of segment 1 becomes segment k's origin where segment k exists and the word fits": segment 1 has l bytes
abbrev pub table_word : ℕ → ℕ → List ℕ → List ℕ
table_word l k s = choose (leb (4 * k + 4) l) (stored s (origin 1 + 4 * k) 4 (origin k)) s

-- the words of n segments from number k on
abbrev pub tabled : ℕ → ℕ → ℕ → List ℕ → List ℕ
tabled l zero k s = s
tabled l (suc n) k s = tabled l n (suc k) (table_word l k s)

-- the length of segment 1
abbrev pub table_length : List Segment → ℕ
table_length [] = 0
table_length (g ∷ []) = 0
table_length (g ∷ h ∷ gs) = length (content_of h)

-- "other bytes of the 20,480 are zero, bytes above stay"
abbrev pub cleared : List ℕ → List ℕ
cleared s = replicate needed 0 ++ drop needed s

unfoldable pub loaded : List Segment → List ℕ → List ℕ
loaded gs s = tabled (table_length gs) (length gs) 0 (placed 0 gs (cleared s))

-- ── what may be touched ──

abbrev pub end_of : Segment → ℕ
end_of (program c) = 0
end_of (cells c from to) = length c

abbrev pub from_of : Segment → ℕ
from_of (program c) = 0
from_of (cells c from to) = from

abbrev pub to_of : Segment → ℕ
to_of (program c) = 0
to_of (cells c from to) = to

-- page 0 has nothing, page k + 1 segment k
abbrev pub by_page : (Segment → ℕ) → List Segment → ℕ → ℕ
by_page f gs p = get_or (0 ∷ map f gs) p 0

abbrev pub program_length : List Segment → ℕ
program_length [] = 0
program_length (g ∷ gs) = length (content_of g)

unfoldable pub space_of : List Segment → Space
space_of gs = record { program = program_length gs; end = by_page end_of gs; from = by_page from_of gs; to = by_page to_of gs }

-- ── the start ──

-- "Register 15 becomes 4096, 14 becomes 8192, the counter 4096."
abbrev pub started : List ℕ → ℕ → Cpu
started regs k = cpu (set (set regs 14 (origin 1)) 15 (origin 0)) k (origin 0)
