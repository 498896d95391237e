-- Document 01, "Numbers answered": the whole translation, a function of the source and the buffer's room. "Groups in order: 1; 2, 3; 4, 5; 6 to 13; 14; 15; 16."
use Rattle.std.specs.Prelude.{Bool, ◌||◌, List, ◌++◌, map, ℕ, zero, suc, ◌-◌, ltb, leb, length, drop, get_or, replicate, Some, None}
use Rattle.base.specs.Choose.{whether◌then◌else◌}
use Rattle.base.specs.Text.{within}
use Rattle.spots.specs.declared.Spot.{Spot}
use Rattle.spots.specs.Spots.{spot_at, unplaced}
use Rattle.token.specs.declared.Token.{Token}
use Rattle.token.specs.Text.{Reading, tokens_of}
use Rattle.grammar.specs.Tree.{Statement}
use Rattle.grammar.specs.Reader.{Result, ok, bad}
use Rattle.grammar.specs.Refusals.{Grammatical, derived, four, five}
use Rattle.grammar.proofs.Theorems.{grammatical}
use Rattle.scopes.specs.Broken.{refusal_number, Ruling, unbroken, ◌⊕◌}
use Rattle.scopes.specs.Search.{in_front, first_token}
use Rattle.scopes.specs.Names.{Named, name_program}
use Rattle.scopes.specs.Labels.{Labelled, label_program}
use Rattle.static_rules.specs.Meanings.{Meant, mean_program, standard}
use Rattle.static_rules.specs.Tables.{Tables}
use Rattle.static_rules.specs.Kinds.{rules_of}
use Rattle.objtext.specs.Object.{object_text}
use Rattle.translation.specs.Instructions.{Instruction, sizes}
use Rattle.translation.specs.Core.{core_statement}
use Rattle.translation.specs.Code.{instructions}
use Rattle.translation.specs.Layout.{Layout, layout, literals_end, segment_limit}
use Rattle.translation.specs.Image.{segments}

-- ── the answer ──

pub data Answer : Type 0 where
  accepted : (text : List ℕ) → Answer
  refused : (number place : ℕ) → Answer

-- "Translator: number, place, length. … Accepted is 0, place 0, bytes written … A refusal has length 0."
abbrev pub number_of : Answer → ℕ
number_of (accepted t) = 0
number_of (refused n p) = n

abbrev pub place_of : Answer → ℕ
place_of (accepted t) = 0
place_of (refused n p) = p

abbrev pub length_of : Answer → ℕ
length_of (accepted t) = length t
length_of (refused n p) = 0

-- Document 02, 2/13: "Success and refusals 1 and 14 to 19 report line and column 0; every other with a place below the text's length reports its own, and one at the
-- end where the next byte would stand."
abbrev pub reports_none : ℕ → Bool
reports_none number = leb number 1 || within 14 19 number

abbrev pub spot_for : List ℕ → (number place : ℕ) → Spot
spot_for source number place = whether reports_none number then unplaced place else spot_at source place

abbrev pub spot_of : List ℕ → Answer → Spot
spot_of source a = spot_for source (number_of a) (place_of a)

-- the buffer at the end: "later bytes of the buffer stay"
abbrev pub leaves : Answer → List ℕ → List ℕ
leaves (accepted t) buffer = t ++ drop (length t) buffer
leaves (refused n p) buffer = buffer

-- ── the tokens ──

abbrev pub kinds_of : List Token → List ℕ
kinds_of ts = map (λ (t : Token). t.kind) ts

-- of numbers their 32 bits, of names their keys
abbrev pub values_of : List Token → List ℕ
values_of ts = map (λ (t : Token). t.value) ts

-- "A place is the offset of the first byte of what is named."
abbrev pub place_at : List Token → ℕ → ℕ
place_at ts i = get_or (map (λ (t : Token). t.spot.place) ts) i 0

-- ── refusals 6 to 13, and what they are judged by ──

unfoldable pub named : List Token → Statement → Named
named ts x = name_program (values_of ts) x (record { found = replicate (length ts) 0; count = 0; broken = unbroken })

unfoldable pub labelled : List Token → Statement → Labelled
labelled ts x = label_program (values_of ts) x (record { goes = replicate (length ts) 0; count = 0; broken = unbroken })

-- a text with its names, labels and meanings found, its instructions and its layout
pub record Made : Type 0 where
  pub tables : Tables
  pub instructions : List Instruction
  pub layout : Layout
  pub bases : ℕ
  pub broken : Ruling

unfoldable pub meant : List Token → Named → Statement → Meant
meant ts n x = mean_program (kinds_of ts) (values_of ts) n.found x (standard (length ts - first_token))

abbrev pub tables_of : List Token → Named → Labelled → Meant → Tables
tables_of ts n l m =
    record { kinds = kinds_of ts; values = values_of ts; found = n.found; goes = l.goes; means = m.means; opens = m.opens; written = m.written }

unfoldable pub make : List Token → Statement → Made
make ts x =
    let n = named ts x in
    let l = labelled ts x in
    let m = meant ts n x in
    let f = tables_of ts n l m in
    let is = instructions (core_statement f x) in
    let y = layout m.bases m.cells is in
    record { tables = f; instructions = is; layout = y; bases = m.bases; broken = n.broken ⊕ l.broken ⊕ rules_of f x ⊕ y.broken }

-- ── the groups ──

-- "14: program over 4,096 bytes … 0"; "15: literals end past 4,096 … 0"
unfoldable pub finish : Made → Answer
finish m =
    whether ltb segment_limit (sizes m.instructions) then refused 14 0 else
    whether ltb segment_limit (literals_end m.layout) then refused 15 0 else
    accepted (object_text (segments m.bases m.layout m.instructions))

-- "6 to 13"
abbrev pub on_rules_by : List Token → Made → Ruling → Answer
on_rules_by ts m None = finish m
on_rules_by ts m (Some b) = refused (refusal_number b.refusal) (place_at ts b.at)

unfoldable pub on_rules : List Token → Made → Answer
on_rules ts m = on_rules_by ts m m.broken

-- "4 … 5 … token, or text length", which is the place of the end
abbrev pub on_grammar : (ts : List Token) → Grammatical (kinds_of ts) first_token → Answer
on_grammar ts (derived x j h) = on_rules ts (make ts x)
on_grammar ts (four t h) = refused 4 (place_at ts t)
on_grammar ts (five t h) = refused 5 (place_at ts t)

-- "1 … 2 … 3". Tokens are a program of the grammar, or refused with 4 or with 5: `grammatical` tells which
abbrev pub after_text : Reading → ℕ → Answer
after_text r zero = let ts = in_front ++ r.tokens in on_grammar ts (grammatical (kinds_of ts) first_token)
after_text r (suc n) = refused (suc n) r.spot.place

-- all but 16: the object text, whatever the room
unfoldable pub translated : List ℕ → Answer
translated source = after_text (tokens_of source) (tokens_of source).number

-- "16: buffer shorter than the object text … length needed"
unfoldable pub in_room : ℕ → Answer → Answer
in_room room (accepted t) = whether ltb room (length t) then refused 16 (length t) else accepted t
in_room room (refused n p) = refused n p

-- the answer to a source and a buffer with this room
unfoldable pub translate : List ℕ → ℕ → Answer
translate source room = in_room room (translated source)

-- ── 4 and 5 as the reader of programs answers them, which the code follows; that it is the same is `read-grammar` of proofs/Answers ──

abbrev pub after_tokens : List Token → Result Statement → Answer
after_tokens ts (ok x next) = on_rules ts (make ts x)
after_tokens ts (bad n i) = refused n (place_at ts i)
