-- NAME, or NAME(NUMBER), by which `--set` and `--show` name a cell of a source: as the language does, so that the number is a byte offset, a name alone is the
-- first element, and the first 10 characters count.
use Rattle.std.specs.Prelude.{List, Bool, false, ◌&&◌, ◌||◌, ℕ, ◌+◌, ◌/◌, ◌%◌, eqb, ltb, get_or, replicate, Option, None, Some, is_none, unwrap_or, Result, Ok, Err}
use Rattle.base.specs.Choose.{choose}
use Rattle.token.specs.Kinds as K
use Rattle.token.specs.Text.{Reading}
use Rattle.token.specs.Answers.{laid, kind_of, value_of, tokens_into}
use Rattle.machine.specs.Space.{origin, room}
use Rattle.listing.specs.declared.Site.{Site}
use Rattle.listing.specs.Cells.{site_named}
use Rattle.cells.specs.declared.Asked.{Asked}
use Rattle.cells.specs.declared.Element.{Element}
use Rattle.words.specs.declared.Why.{Why}
use Rattle.words.specs.declared.Why.TheVariants.{NoCell, NoElement}

-- ── what is asked for ──

-- by the kinds of at most five tokens: a name and the end; a name, `(`, a number, `)` and the end
abbrev pub is_name : List ℕ → Bool
is_name kinds = eqb (get_or kinds 0 0) K.NAME

abbrev pub is_alone : List ℕ → Bool
is_alone kinds = eqb (get_or kinds 1 0) K.END-OF-TEXT

abbrev pub is_numbered : List ℕ → Bool
is_numbered kinds = eqb (get_or kinds 1 0) K.OPEN && (eqb (get_or kinds 2 0) K.NUMBER && (eqb (get_or kinds 3 0) K.CLOSE && eqb (get_or kinds 4 0) K.END-OF-TEXT))

abbrev pub asking : (key : ℕ) (subscript : Option ℕ) → Asked
asking key subscript = record { key = key; subscript = subscript }

abbrev pub asked_by : (kinds values : List ℕ) → Option Asked
asked_by kinds values =
    choose (is_name kinds && is_alone kinds) (Some (asking (get_or values 0 0) None))
    (choose (is_name kinds && is_numbered kinds) (Some (asking (get_or values 0 0) (Some (get_or values 2 0)))) None)

abbrev pub five : List ℕ
five = replicate 5 0

unfoldable pub asked_in : List ℕ → Option Asked
asked_in word = let r : Reading = tokens_into 5 word in asked_by (laid kind_of r.tokens five) (laid value_of r.tokens five)

-- ── the element ──

-- "is a multiple of the element size, and its element lies inside the array": so many elements are before it
abbrev pub is_inside : Site → ℕ → Bool
is_inside s v = choose (eqb s.size 0) false (eqb (v % s.size) 0 && ltb (v / s.size) s.elements)

-- "A subscript is a byte offset, belongs only to arrays"
abbrev pub is_element : Site → Asked → Bool
is_element s a = (s.array || is_none a.subscript) && is_inside s (unwrap_or a.subscript 0)

-- where it lies in storage, in the page of its segment
unfoldable pub placed_at : Site → (v : ℕ) → Result Element Why
placed_at s v =
    choose (ltb 3 s.segment) (Err NoElement)
    (choose (ltb room s.offset) (Err NoElement)
    (choose (ltb room v) (Err NoElement) (Ok (record { address = origin s.segment + (s.offset + v); size = s.size; more = s.more }))))

-- a name alone is the first element
unfoldable pub element_of : Site → Asked → Result Element Why
element_of s a = choose (is_element s a) (placed_at s (unwrap_or a.subscript 0)) (Err NoElement)

abbrev pub element_in : Option Site → Asked → Result Element Why
element_in None a = Err NoCell
element_in (Some s) a = element_of s a

abbrev pub element_asked : (source : List ℕ) → Option Asked → Result Element Why
element_asked source None = Err NoCell
element_asked source (Some a) = element_in (site_named source a.key) a

unfoldable pub element_named : (source word : List ℕ) → Result Element Why
element_named source word = element_asked source (asked_in word)
