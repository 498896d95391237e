-- What the code pass lays: along a tape, the instructions along it one behind the other (`laid-along`); of the definition's instructions their bytes and their
-- literals (`laid-instructions`). Literals only grow at the end, so a place that was found among those so far is the place among all.
use mathlib.Core.Path.{◌≡◌, refl, sym, ap, subst, ◌∙◌}
use mathlib.Core.List.{List, [], ◌∷◌, ◌++◌, map}
use Prim.Native.Nat.{ℕ, ◌+◌, ◌/◌, ◌%◌}
use native.Mathlib.Omega.{arith}
use lib.ListN.{length, length-map}
use lib.Seq.{sets}
use Rattle.base.specs.Walk.{fold}
use Rattle.base.proofs.Parts.{sets-append}
use Rattle.base.proofs.Walk.{fold-append}
use Rattle.base.specs.Runs.{index_of}
use Rattle.tape.specs.Events as E
use Rattle.translation.specs.Instructions.{Datum, element, literal, entry, Instruction, rr, rx, address, immediate, shift, branch, link, indexed, stop, size, sizes, address_op}
use Rattle.translation.specs.Core.{Core}
use Rattle.translation.specs.Code.{code, instructions}
use Rattle.translation.specs.Layout.{Layout, offset_of, needs, literals_from}
use Rattle.translation.specs.Bytes.{encode, encode_all, four_bytes, base_register, displacement, index_register}
use Rattle.translation.proofs.Sizes.{length-encode}
use Rattle.translation.proofs.Literals.{Grows, literals-grow, literal-place}
use Rattle.emit.specs.declared.Code.{Code}
use Rattle.emit.specs.declared.Writing.{Writing}
use Rattle.emit.specs.Codes.{list_of, code_size}
use Rattle.emit.specs.Events.{writing_after, codes_by}
use Rattle.emit.specs.Along.{table_along, along, code_at, code_for}
use Rattle.code.specs.Places.{no_writing}
use Rattle.code.specs.Coding.{bytes_in, Laid, laid_of, code_bytes, literals_after, lay_code, lay_all, coding_of, code_event, code_from, code_along}

module _ (start : ℕ) where
  pub lay-append : (cs ds : List Code) (s : Laid) → lay_all start (cs ++ ds) s ≡ lay_all start ds (lay_all start cs s)
  lay-append cs ds s = fold-append _ s cs ds

  module _ (kinds values found goes means under opens offsets marks : List ℕ) where
    pub laid-along : (tape : List ℕ) (s : Laid) (w : Writing)
        → (code_from start kinds values found goes means under opens offsets marks (coding_of s w) tape).laid ≡ lay_all start (along kinds values found goes means under opens offsets marks w tape) s
    unfolding fold along code_from code_event
    laid-along [] s w = refl
    laid-along (e ∷ es) s w =
        let cs = list_of (codes_by kinds values found goes means under opens offsets marks (e % E.EVENTS) (e / E.EVENTS) w) in
        let v = writing_after values found means under offsets (e % E.EVENTS) (e / E.EVENTS) w in
        let ts = table_along kinds values found goes means under opens offsets marks (e % E.EVENTS) (e / E.EVENTS) v es in
        let rest = along kinds values found goes means under opens offsets marks v es in
        laid-along es (lay_all start ts (lay_all start cs s)) v ∙ sym (lay-append cs (ts ++ rest) s ∙ lay-append ts rest (lay_all start cs s))

-- ── the definition's instructions ──

bytes-append : (xs ys : List ℕ) → bytes_in (xs ++ ys) ≡ bytes_in xs ++ bytes_in ys
bytes-append [] ys = refl
bytes-append (x ∷ xs) ys = ap (λ (l : List ℕ). x % 256 ∷ l) (bytes-append xs ys)

laid_same : (a b : ℕ) (image image' literals literals' : List ℕ) → a ≡ b → image ≡ image' → literals ≡ literals' → laid_of a image literals ≡ laid_of b image' literals'
laid_same a b image image' literals literals' p q r = rw (p, q, r)

-- l: the layout of the whole text; the literals so far are the first of its literals
module _ (l : Layout) (place : ℕ → ℕ) (right : (t : ℕ) → place t ≡ offset_of l.placed t) where
  abbrev start : ℕ
  start = l.literals_at

  -- of one instruction
  pub record Lays (i : Instruction) (seen : List ℕ) : Type 0 where
    pub lays : (at : ℕ) (image : List ℕ)
        → lay_code start (code_for place i) (laid_of at image seen) ≡ laid_of (at + size i) (sets image at (bytes_in (encode l i))) (literals_from seen (i ∷ []))

  -- a number is a literal then, at the place that it has among all
  abbrev Known : Datum → List ℕ → Type 0
  Known (element c o x) seen = Unit {0}
  Known (literal v) seen = index_of v (needs (literal v) seen) ≡ index_of v l.literals
  Known (entry k) seen = Unit {0}

  abbrev Placed : Instruction → List ℕ → Type 0
  Placed (rr op r s) seen = Unit {0}
  Placed (rx op r a) seen = Known a seen
  Placed (address r a) seen = Known a seen
  Placed (immediate op v a) seen = Known a seen
  Placed (shift op r s n) seen = Unit {0}
  Placed (branch m t) seen = Unit {0}
  Placed (link r t) seen = Unit {0}
  Placed (indexed r t) seen = Unit {0}
  Placed stop seen = Unit {0}

  -- of four bytes, with an operand in storage
  datum : (op r x : ℕ) (a : Datum) (seen : List ℕ) → Known a seen → (at : ℕ) (image : List ℕ)
      → lay_code start (code_at place op r x a) (laid_of at image seen)
      ≡ laid_of (at + 4) (sets image at (bytes_in (four_bytes op r x (base_register a) (displacement l a)))) (needs a seen)
  unfolding lay_code code_size code_bytes literals_after
  datum op r x (element c o i) seen h at image = rw (right c.name)
  datum op r x (literal v) seen h at image = rw h
  datum op r x (entry k) seen h at image = refl

  lays_one : (i : Instruction) (seen : List ℕ) → Placed i seen → Lays i seen
  unfolding lay_code code_size code_bytes literals_after code_for encode literals_from
  lays_one (rr op r s) seen h = record { lays = λ at image. refl }
  lays_one (rx op r a) seen h = record { lays = λ at image. datum op r (index_register a) a seen h at image }
  lays_one (address r a) seen h = record { lays = λ at image. datum address_op r (index_register a) a seen h at image }
  lays_one (immediate op v a) seen h = record { lays = λ at image. datum op (v / 16) (v % 16) a seen h at image }
  lays_one (shift op r s n) seen h = record { lays = λ at image. refl }
  lays_one (branch m t) seen h = record { lays = λ at image. refl }
  lays_one (link r t) seen h = record { lays = λ at image. refl }
  lays_one (indexed r t) seen h = record { lays = λ at image. refl }
  lays_one stop seen h = record { lays = λ at image. refl }

  -- one after the other
  abbrev AllPlaced : List Instruction → List ℕ → Type 0
  AllPlaced [] seen = Unit {0}
  AllPlaced (i ∷ is) seen = Placed i seen × AllPlaced is (literals_from seen (i ∷ []))

  literals-cons : (i : Instruction) (is : List Instruction) (seen : List ℕ) → literals_from (literals_from seen (i ∷ [])) is ≡ literals_from seen (i ∷ is)
  unfolding literals_from
  literals-cons (rr op r s) is seen = refl
  literals-cons (rx op r a) is seen = refl
  literals-cons (address r a) is seen = refl
  literals-cons (immediate op v a) is seen = refl
  literals-cons (shift op r s n) is seen = refl
  literals-cons (branch m t) is seen = refl
  literals-cons (link r t) is seen = refl
  literals-cons (indexed r t) is seen = refl
  literals-cons stop is seen = refl

  laid-list : (is : List Instruction) (at : ℕ) (image seen : List ℕ) → AllPlaced is seen
      → lay_all start (map (code_for place) is) (laid_of at image seen) ≡ laid_of (at + sizes is) (sets image at (bytes_in (encode_all l is))) (literals_from seen is)
  unfolding encode_all literals_from fold
  laid-list [] at image seen h = let e : at + 0 ≡ at = omega arith in laid_same at (at + 0) image image seen seen (sym e) refl refl
  laid-list (i ∷ is) at image seen h =
      let bs = bytes_in (encode l i) in
      let n : length bs ≡ size i = length-map (encode l i) (λ (b : ℕ). b % 256) ∙ length-encode l i in
      let e : at + size i + sizes is ≡ at + (size i + sizes is) = omega arith in
      ap (lay_all start (map (code_for place) is)) ((lays_one i seen h.0).lays at image)
      ∙ (laid-list is (at + size i) (sets image at bs) (literals_from seen (i ∷ [])) h.1
      ∙ laid_same _ _ _ _ _ _ e (rw (← n) (sym (sets-append image at bs (bytes_in (encode_all l is)))) ∙ ap (sets image at) (sym (bytes-append (encode l i) (encode_all l is)))) (literals-cons i is seen))

  placed-all : (is : List Instruction) (seen : List ℕ) → literals_from seen is ≡ l.literals → AllPlaced is seen
  unfolding literals_from
  placed-all [] seen e = tt
  placed-all (i ∷ is) seen e =
      let later = literals-cons i is seen ∙ e in
      (one i (subst (λ (k : List ℕ). Grows (literals_from seen (i ∷ [])) k) later (literals-grow is (literals_from seen (i ∷ [])))), placed-all is (literals_from seen (i ∷ [])) later)
    where
      known : (a : Datum) → Grows (needs a seen) l.literals → Known a seen
      known (element c o x) g = tt
      known (literal v) g = literal-place v seen l.literals g
      known (entry k) g = tt

      one : (j : Instruction) → Grows (literals_from seen (j ∷ [])) l.literals → Placed j seen
      one (rr op r s) g = tt
      one (rx op r a) g = known a g
      one (address r a) g = known a g
      one (immediate op v a) g = known a g
      one (shift op r s n) g = tt
      one (branch m t) g = tt
      one (link r t) g = tt
      one (indexed r t) g = tt
      one stop g = tt

  map-end : (is : List Instruction) (i : Instruction) → map (code_for place) (is ++ (i ∷ [])) ≡ map (code_for place) is ++ (code_for place i ∷ [])
  map-end [] i = refl
  map-end (j ∷ is) i = ap (λ (cs : List Code). code_for place j ∷ cs) (map-end is i)

  -- the whole text: the code pass on a tape along which the definition's instructions stand lays their bytes, and their literals are the layout's
  pub laid-instructions : (kinds values found goes means under opens offsets marks image tape : List ℕ) (c : Core)
      → along kinds values found goes means under opens offsets marks no_writing tape ≡ map (code_for place) (code [] [] c 0) → literals_from [] (instructions c) ≡ l.literals
      → code_along start kinds values found goes means under opens offsets marks image tape
      ≡ laid_of (sizes (instructions c)) (sets image 0 (bytes_in (encode_all l (instructions c)))) l.literals
  unfolding code_along instructions code_for lay_code fold
  laid-instructions kinds values found goes means under opens offsets marks image tape c e q =
      let is = code [] [] c 0 in
      let s = laid_of 0 image [] in
      ap (lay_code start (code_for place stop)) (laid-along start kinds values found goes means under opens offsets marks tape s no_writing ∙ ap (λ (cs : List Code). lay_all start cs s) e)
      ∙ (sym (lay-append start (map (code_for place) is) (code_for place stop ∷ []) s)
      ∙ (ap (λ (cs : List Code). lay_all start cs s) (sym (map-end is stop))
      ∙ (laid-list (is ++ (stop ∷ [])) 0 image [] (placed-all (is ++ (stop ∷ [])) [] q) ∙ laid_same _ _ _ _ _ _ (omega arith) refl q)))
