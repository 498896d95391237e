-- What is accepted is an object: bytes in every segment, the program and one to three data segments within their limits.
use mathlib.Core.Path.{◌≡◌, refl, sym, ap, subst, ◌∙◌}
use mathlib.Core.List.{List, [], ◌∷◌, ◌++◌}
use mathlib.Core.Option.{some}
use Prim.Native.Nat.{ℕ, ◌+◌, ◌*◌, ◌-◌, ◌<◌, ◌≤◌}
use native.Mathlib.Omega.{arith}
use lib.ListN.{length, get_or, length-replicate, length-append}
use Rattle.base.specs.Lists.{◌∈◌, All}
use Rattle.base.proofs.Lists.{all_both, all_get_d, all_in, map-in}
use Rattle.token.specs.declared.Token.{Token}
use Rattle.token.specs.Text.{tokens_of}
use Rattle.grammar.specs.Tree.{full, Statement}
use Rattle.grammar.specs.Derives.{is_program}
use Rattle.grammar.specs.Events.{events_of}
use Rattle.grammar.specs.Places.{Along}
use Rattle.grammar.specs.Texts.{Text}
use Rattle.grammar.proofs.Texts.{program-text}
use Rattle.grammar.proofs.Theorems.{read-is-program, program-inside}
use Rattle.scopes.specs.Broken.{unbroken}
use Rattle.scopes.specs.Search.{in_front, first_token}
use Rattle.scopes.specs.Names.{Named}
use Rattle.scopes.proofs.Joins.{quiet-left, quiet-right}
use Rattle.static_rules.specs.Meaning.{Meaning, nothing, cell, Cell, element_size}
use Rattle.static_rules.specs.Meanings.{Filled, Meant, standard}
use Rattle.static_rules.specs.Tables.{Tables, meaning_at}
use Rattle.static_rules.specs.Kinds.{rules_of}
use Rattle.static_rules.proofs.Elements.{size-positive}
use Rattle.static_rules.proofs.Unbroken.{Unbroken, unbroken-program}
use Rattle.static_rules.proofs.Small.{Small, meant_small, standard-small}
use Rattle.static_rules.proofs.Known.{Known, Held, known-text, known-standard}
use Rattle.static_rules.proofs.Bases.{few-bases}
use Rattle.objtext.specs.Object.{Object}
use Rattle.objtext.specs.Reader.{read_object}
use Rattle.objtext.proofs.Written.{read-written}
use Rattle.translation.specs.Instructions.{stop, sizes}
use Rattle.translation.specs.Core.{Core, core_statement}
use Rattle.translation.specs.Code.{code, instructions, size_of}
use Rattle.translation.specs.Layout.{Layout, layout, place_cells, offset_of, segment_limit, literals_end}
use Rattle.translation.specs.Bytes.{encode_all}
use Rattle.translation.specs.Image.{segments}
use Rattle.translation.specs.Translate.{kinds_of, values_of, named, labelled, meant, tables_of, make}
use Rattle.translation.proofs.Sizes.{length-encode_all, sizes-instructions}
use Rattle.translation.proofs.Literals.{literals-have}
use Rattle.translation.proofs.Rooms.{cell_at, ends-fit, start_first, round-up}
use Rattle.translation.proofs.Ready.{Ready, ready-code}
use Rattle.translation.proofs.Encoded.{bytes-encode_all}
use Rattle.translation.proofs.Emitted.{core-ready}
use Rattle.translation.proofs.Images.{Fitting, placed-bytes, first-data, data-from, length-data}
use Rattle.translation.proofs.Tables.{length-map}
use Rattle.translation.proofs.Answers.{Accepted}

-- a text of tokens ts that is the program x up to token j, with no rule broken
module _ (ts : List Token) (x : Statement) (j : ℕ) (front : first_token ≤ length ts) (read : is_program (kinds_of ts) x first_token j) (quiet : (make ts x).broken ≡ unbroken) where
  abbrev pub n : Named
  n = named ts x

  abbrev pub m : Meant
  m = meant ts n x

  abbrev pub f : Tables
  f = tables_of ts n (labelled ts x) m

  abbrev pub core : Core
  core = core_statement f x

  abbrev pub y : Layout
  y = layout m.bases m.cells (instructions core)

  kinds-quiet : rules_of f x ≡ unbroken
  unfolding make
  kinds-quiet = quiet-left (rules_of f x) _ (quiet-right (labelled ts x).broken _ (quiet-right n.broken _ quiet))

  pub cells-quiet : (place_cells m.bases m.cells).broken ≡ unbroken
  unfolding make layout
  cells-quiet = quiet-right (rules_of f x) _ (quiet-right (labelled ts x).broken _ (quiet-right n.broken _ quiet))

  -- ── what is known of the tables ──

  -- no rule is broken at any event, at its place
  pub quiet-along : Along (Unbroken f) (events_of x) []
  quiet-along = unbroken-program f x kinds-quiet

  abbrev before : Meant
  before = standard (length ts - first_token)

  text : Text (kinds_of ts) (events_of x) [] first_token j
  text = program-text (kinds_of ts) x first_token j read

  inside : j ≤ length ts
  inside = let h = program-inside (kinds_of ts) first_token x j read in let e = length-map (λ (t : Token). t.kind) ts in omega arith

  small : All Small m.means
  unfolding meant
  small = meant_small f x before quiet-along (standard-small (length ts - first_token))

  pub known : Known j m
  unfolding meant
  known =
      known-text (kinds_of ts) (values_of ts) n.found (events_of x) [] first_token j before text
      (let e = length-replicate {A = Meaning} (length ts - first_token) nothing in let h = inside in omega arith) (known-standard (length ts - first_token))

  -- "a third base declaration" is refused
  pub few : m.bases ≤ 2
  unfolding meant
  few =
      few-bases f (events_of x) [] first_token j before text quiet-along
      (let e = length-replicate {A = ℕ} (first_token + (length ts - first_token)) 0 in let h = inside in omega arith) (λ u h. refl) (omega arith)

  -- an element of a cell stands within its segment
  within : (t : ℕ) (c : Cell) → meaning_at f t ≡ cell c → (v : ℕ) → v + element_size c.width ≤ element_size c.width * c.elements → offset_of y.placed c.name + v < segment_limit
  unfolding layout
  within t c e =
      let h = all_get_d (Held m.cells) m.means (get_or n.found t 0) nothing known.held tt in
      let r = map-in (λ (d : Filled). d.cell) c m.cells (subst (λ (k : Meaning). Held m.cells k) e h) in
      subst (λ (k : Cell). (v : ℕ) → v + element_size k.width ≤ element_size k.width * k.elements → offset_of y.placed k.name + v < segment_limit) (sym r.2) (λ v g. at r.0 r.1 v g)
    where
      at : (d : Filled) → d ∈ m.cells → (v : ℕ) → v + element_size d.cell.width ≤ element_size d.cell.width * d.cell.elements
          → offset_of (place_cells m.bases m.cells).placed d.cell.name + v < segment_limit
      at d i v g =
          let o = all_in (λ (k : Filled). k.cell.base.segment ≤ 1 + m.bases) m.cells known.opened d i in
          let a = (cell_at m.bases m.cells d known.falling i (omega arith)).high in
          let b = ends-fit m.bases m.cells cells-quiet d.cell.base.segment in
          let z = size-positive d.cell.width in
          omega arith

  -- ── the program ──

  ready : sizes (instructions core) ≤ segment_limit → All (Ready y (size_of core)) (instructions core)
  unfolding instructions
  ready h =
      all_both (Ready y (size_of core)) (code [] [] core 0) (stop ∷ [])
      (ready-code y (size_of core) [] [] core 0 tt tt (omega arith) (core-ready f y (size_of core) small within x quiet-along)) (tt, tt)

  pub program-bytes : sizes (instructions core) ≤ segment_limit → literals_end y ≤ segment_limit → All (λ (b : ℕ). b < 256) (encode_all y (instructions core))
  unfolding layout
  program-bytes h k =
      let e = sizes-instructions core in
      bytes-encode_all y (size_of core) (omega arith) k (instructions core) (ready h) (λ i g v t. literals-have (instructions core) [] i v g t)

  -- ── the data ──

  pub fitting : literals_end y ≤ segment_limit → Fitting y
  unfolding layout
  fitting k = record {
    contents = placed-bytes m.bases m.cells;
    start = start_first m.bases m.cells 1;
    ends = ends-fit m.bases m.cells cells-quiet;
    at = (round-up full (get_or (place_cells m.bases m.cells).ends 1 0)).0;
    room = k;
  }

  pub object-is : sizes (make ts x).instructions ≤ segment_limit → literals_end (make ts x).layout ≤ segment_limit → Object (segments (make ts x).bases (make ts x).layout (make ts x).instructions)
  unfolding segments make
  object-is h k =
      let e = length-encode_all y (instructions core) in
      let d = length-data y 2 m.bases in
      let b = few in
      record {
        bytes = program-bytes h k;
        short = omega arith;
        some = omega arith;
        few = omega arith;
        data-segments = (first-data y (fitting k), data-from y 2 m.bases (fitting k));
      }

front_long : (ts : List Token) → first_token ≤ length (in_front ++ ts)
front_long ts = let e = length-append in_front ts in omega arith

-- every text that is accepted has the object text of an object
pub accepted-object : (source object : List ℕ) (a : Accepted source object)
    → Object (segments (make a.tokens a.tree).bases (make a.tokens a.tree).layout (make a.tokens a.tree).instructions)
accepted-object source object a =
    object-is a.tokens a.tree a.next (subst (λ (l : List Token). first_token ≤ length l) (sym a.text) (front_long (tokens_of source).tokens))
    (read-is-program (kinds_of a.tokens) first_token a.tree a.next a.read) a.quiet a.short a.room

-- and the reader of object texts gives its segments back
pub accepted-read : (source object : List ℕ) (a : Accepted source object)
    → read_object object ≡ some (segments (make a.tokens a.tree).bases (make a.tokens a.tree).layout (make a.tokens a.tree).instructions)
accepted-read source object a = ap read_object (sym a.made) ∙ read-written _ (accepted-object source object a)
