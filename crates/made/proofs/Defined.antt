-- Of a program in which no rule is broken, what is made along its tape is what the definition makes of its tree: `made-as-defined`.
use mathlib.Core.Path.{◌≡◌, refl, sym, ap, ap₂, ◌∙◌}
use mathlib.Core.Bool.{false}
use mathlib.Core.List.{List, [], map}
use Prim.Native.Nat.{ℕ, ◌+◌, ◌-◌, ◌*◌, ◌<◌, ◌≤◌}
use native.Mathlib.Omega.{arith}
use lib.Dec.{ltb}
use lib.ListN.{length, take, get_or, replicate, length-replicate}
use lib.Seq.{sets}
use borrow.Author.Tests.{ltb-false}
use Rattle.base.specs.Lists.{All}
use Rattle.base.proofs.Lists.{all_map}
use Rattle.base.proofs.Tests.{cases}
use Rattle.token.specs.Kinds as K
use Rattle.token.specs.declared.Token.{Token}
use Rattle.grammar.specs.Tree.{Statement}
use Rattle.grammar.specs.Derives.{is_program}
use Rattle.grammar.specs.Events.{events_of}
use Rattle.grammar.specs.Places.{Along}
use Rattle.grammar.proofs.Theorems.{program-inside}
use Rattle.scopes.specs.Broken.{unbroken}
use Rattle.tape.specs.Tape.{tape_statement}
use Rattle.scopes.specs.Search.{first_token}
use Rattle.scopes.proofs.Bound.{Goes, goes-along}
use Rattle.static_rules.specs.Meanings.{Meant, standard}
use Rattle.static_rules.specs.Tables.{Tables, meaning_at}
use Rattle.static_rules.proofs.Known.{Known}
use Rattle.static_rules.proofs.Small.{register-small, meaning-small, meant_small, standard-small}
use Rattle.tables.specs.Packed.{low, meanings_of}
use Rattle.tables.proofs.Meanings.{low-is}
use Rattle.objtext.specs.Object.{Segment, object_text}
use Rattle.translation.specs.Instructions.{Instruction, sizes}
use Rattle.translation.specs.Core.{Core, core_statement}
use Rattle.translation.specs.Code.{size_of, code, instructions}
use Rattle.translation.specs.Layout.{Layout, Placed, layout, place_cells, offset_of, segment_limit, round_up, literals_end, cells_end}
use Rattle.translation.specs.Bytes.{encode_all}
use Rattle.translation.specs.Image.{fill, segments}
use Rattle.translation.specs.Translate.{accepted, kinds_of, values_of, named, labelled, meant, tables_of, make, finish, in_room}
use Rattle.translation.proofs.Sizes.{length-encode_all, sizes-instructions}
use Rattle.translation.proofs.Rooms.{ends-fit, offsets-fit}
use Rattle.translation.proofs.Tables.{length-map, names-found, labels-led}
use Rattle.translation.proofs.Images.{Fitting}
use Rattle.translation.proofs.Objects as O
use Rattle.layout.proofs.Laid.{Right, all_right}
use Rattle.layout.proofs.Images.{image-of-tree, placed-there}
use Rattle.ledger.specs.Book.{Wide, Thin}
use Rattle.emit.specs.Along.{along, code_for}
use Rattle.code.specs.Places.{whole, kept, Placing, no_writing, places_along}
use Rattle.code.specs.Coding.{bytes_in, Laid, laid_of, code_along}
use Rattle.code.proofs.Laying.{laid-instructions}
use Rattle.code.proofs.Addresses.{Held}
use Rattle.code.proofs.Kept.{places-kept, length-same}
use Rattle.code.proofs.Program.{places-program, code-program}
use Rattle.settled.specs.Texts.{end_of}
use Rattle.made.specs.Making.{zeros, end_of_first, image_along, object_cut, object_along, start_of, coded_along, made_along}
use Rattle.made.proofs.Segments.{program-cut, first-cut, later-cut, segments-are}

-- a text of tokens ts that is the program x, with no rule broken, and its tables in arrays
module _
    (ts : List Token) (x : Statement) (to : ℕ) (small : (t : ℕ) → get_or (kinds_of ts) t 0 ≡ K.NUMBER → get_or (values_of ts) t 0 < 4294967296)
    (program : is_program (kinds_of ts) x first_token to) (front : first_token ≤ length ts) (quiet : (make ts x).broken ≡ unbroken)
    (means under ends offsets : List ℕ)
    (means-are : meanings_of means under ≡ (meant ts (named ts x) x).means)
    (ends-are : (k : ℕ) → get_or ends k 0 ≡ get_or (place_cells (meant ts (named ts x) x).bases (meant ts (named ts x) x).cells).ends k 0)
    (offsets_are : (t : ℕ) → get_or offsets t 0 ≡ offset_of (place_cells (meant ts (named ts x) x).bases (meant ts (named ts x) x).cells).placed t)
  where
    abbrev m : Meant
    m = meant ts (named ts x) x

    abbrev f : Tables
    f = tables_of ts (named ts x) (labelled ts x) m

    abbrev core : Core
    core = core_statement f x

    abbrev is : List Instruction
    is = instructions core

    abbrev y : Layout
    y = layout m.bases m.cells is

    abbrev tape : List ℕ
    tape = tape_statement x []

    -- no address stands in the marks before
    abbrev marks : List ℕ
    marks = replicate (length ts) 0

    -- the ledger
    abbrev w : Wide
    w = record { values = values_of ts; means = means; under = under; offsets = offsets }

    abbrev b : Thin
    b = record { found = (named ts x).found; goes = (labelled ts x).goes; opens = m.opens; written = marks }

    known : Known to m
    known = O.known ts x to front program quiet

    cells-quiet : (place_cells m.bases m.cells).broken ≡ unbroken
    cells-quiet = O.cells-quiet ts x to front program quiet

    few : m.bases ≤ 2
    few = O.few ts x to front program quiet

    -- ── the layout ──

    end_is : (k : ℕ) → end_of ends k ≡ cells_end y k
    unfolding layout
    end_is k = let e = ends-are k in let h = ends-fit m.bases m.cells cells-quiet k in omega arith

    start_is : start_of ends ≡ y.literals_at
    unfolding layout
    start_is = ap (round_up 4) (end_is 1)

    place_is : (t : ℕ) → low (get_or offsets t 0) ≡ offset_of y.placed t
    unfolding layout
    place_is t = let h = offsets-fit m.bases m.cells cells-quiet t in let e = offsets_are t in low-is (get_or offsets t 0) (omega arith) ∙ e

    -- ── the images ──

    inside : to ≤ length ts
    inside = let h = program-inside (kinds_of ts) first_token x to program in let e = length-map (λ (t : Token). t.kind) ts in omega arith

    abbrev before : Meant
    before = standard (length ts - first_token)

    right : All (Right means under) m.cells
    unfolding meant
    right = all_right means under (kinds_of ts) (values_of ts) (named ts x).found x first_token to program before refl to known means-are

    image-is : (k : ℕ) → image_along w tape k ≡ fill k y.placed zeros
    unfolding image_along meant layout
    image-is k =
        image-of-tree k means under offsets (values_of ts) zeros (let e = length-replicate {A = ℕ} segment_limit 0 in omega arith) (kinds_of ts)
        (named ts x).found x first_token to program before m.bases refl right
        (all_map _ _ (place_cells m.bases m.cells).placed (λ (p : Placed) h. offsets_are p.name ∙ h) (placed-there m.bases m.cells known.falling))

    -- ── the program ──

    bound : Along (Goes (named ts x).found (labelled ts x).goes) (events_of x) []
    bound = goes-along (values_of ts) (named ts x).found (labelled ts x).goes (events_of x) [] (names-found ts x to program inside) (labels-led ts x to program inside)

    -- registers 0 to 15
    held : Held f
    unfolding meant
    held t = register-small (meaning_at f t) (meaning-small f.found m.means t (meant_small f x before (O.quiet-along ts x to front program quiet) (standard-small (length ts - first_token))))

    -- where branches go
    abbrev placed : (keep : ℕ → ℕ) → Placing
    placed keep = places_along keep (kinds_of ts) (values_of ts) (named ts x).found (labelled ts x).goes means under m.opens offsets marks tape

    coded : along (kinds_of ts) (values_of ts) (named ts x).found (labelled ts x).goes means under m.opens offsets
        (placed whole).marks no_writing tape
        ≡ map (code_for (λ (t : ℕ). low (get_or offsets t 0))) (code [] [] core 0)
    coded = code-program f means under offsets (sym means-are) small held x first_token to (length ts) program (omega arith) inside bound

    abbrev lain : Laid
    lain = coded_along (kinds_of ts) w b ends tape

    -- with all of each address
    abbrev exactly : Laid
    exactly = code_along (start_of ends) (kinds_of ts) (values_of ts) (named ts x).found (labelled ts x).goes means under m.opens offsets (placed whole).marks zeros tape

    exactly-is : exactly ≡ laid_of (sizes is) (sets zeros 0 (bytes_in (encode_all y is))) y.literals
    unfolding layout
    exactly-is =
        rw start_is
        (laid-instructions y (λ (t : ℕ). low (get_or offsets t 0)) place_is (kinds_of ts) (values_of ts) (named ts x).found (labelled ts x).goes means under
        m.opens offsets _ zeros tape core coded refl)

    length-is : lain.at ≡ sizes is
    unfolding coded_along
    length-is =
        length-same (start_of ends) (kinds_of ts) (values_of ts) (named ts x).found (labelled ts x).goes means under m.opens offsets (placed kept).marks (placed whole).marks zeros tape
        ∙ ap (λ (l : Laid). l.at) exactly-is

    -- 16 bits are all of an address of a program that fits
    lain-is : sizes is ≤ segment_limit → lain ≡ laid_of (sizes is) (sets zeros 0 (bytes_in (encode_all y is))) y.literals
    unfolding coded_along
    lain-is h =
        let p : (placed whole).at ≡ size_of core = ap (λ (s : Placing). s.at) (places-program f means under offsets (sym means-are) small held x first_token to (length ts) program) in
        let s = sizes-instructions core in
        let k : placed kept ≡ placed whole = places-kept (kinds_of ts) (values_of ts) (named ts x).found (labelled ts x).goes means under m.opens offsets marks tape (omega arith) in
        ap
        (λ (s : Placing).
        code_along (start_of ends) (kinds_of ts) (values_of ts) (named ts x).found (labelled ts x).goes means under m.opens offsets s.marks zeros tape)
        k
        ∙ exactly-is

    -- the object, if its program and its literals fit
    object-is : sizes is ≤ segment_limit → literals_end y ≤ segment_limit
        → object_along w tape m.bases ends (start_of ends) (take lain.at lain.image) lain.literals ≡ segments m.bases y is
    unfolding object_along object_cut end_of_first
    object-is h k =
        let fit : Fitting y = O.fitting ts x to front program quiet k in
        let bytes = O.program-bytes ts x to front program quiet h k in
        rw (
          lain-is h,
          start_is,
          image-is 1,
          image-is 2,
          image-is 3,
          end_is 1,
          end_is 2,
          end_is 3,
          program-cut (encode_all y is) (sizes is) (length-encode_all y is) h bytes,
          first-cut y fit,
          later-cut y 2 (fit.ends 2),
          later-cut y 3 (fit.ends 3),
        )
        (sym (segments-are y m.bases is few))

    pub made-as-defined : (room : ℕ)
        → made_along (kinds_of ts) w b ends tape m.bases room ≡ in_room room (finish (make ts x))
    unfolding made_along finish make in_room
    made-as-defined room =
        cases (ltb segment_limit (sizes is))
        (λ p. rw (length-is, p))
        (λ p.
        let fits = ltb-false segment_limit (sizes is) p in
        cases (ltb segment_limit (literals_end y))
        (λ q. rw (lain-is fits, start_is, p, q))
        (λ q.
        let a : ltb segment_limit lain.at ≡ false = ap (λ (l : Laid). ltb segment_limit l.at) (lain-is fits) ∙ p in
        let b : ltb segment_limit (start_of ends + 4 * length lain.literals) ≡ false =
        ap₂ (λ (n : ℕ) (l : Laid). ltb segment_limit (n + 4 * length l.literals)) start_is (lain-is fits) ∙ q in
        rw (a, b, p, q) (ap (λ (o : List Segment). in_room room (accepted (object_text o))) (object-is fits (ltb-false _ _ q)))))
