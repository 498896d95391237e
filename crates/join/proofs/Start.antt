-- A safe text's program as the runner loads it meets all that the invariant asks for (`in-storage`), and so does its start (`begins`).
use mathlib.Core.Path.{◌≡◌, refl, sym, ap, subst, ◌∙◌}
use mathlib.Core.Logic.{inl, inr}
use mathlib.Core.List.{List, [], ◌∷◌}
use Prim.Native.Nat.{ℕ, zero, suc, ◌+◌, ◌*◌, ◌%◌, ◌^◌, ◌≤◌, ◌<◌}
use native.Mathlib.Omega.{arith}
use lib.ListN.{length, get_or, set, take, length-set, replicate, length-replicate, length-append, get_or-append}
use lib.Seq.{length-sets, get_or-set_same, get_or-set_other, get_or-append-add}
use Rattle.base.specs.Lists.{◌∈◌}
use Rattle.base.specs.Runs.{index_of}
use Rattle.base.specs.Numbers.{value_of, bytes_of, value_at, stored}
use Rattle.base.proofs.Parts.{same-part, sets-there}
use Rattle.base.proofs.Numbers.{length-bytes_of, value_at-stored}
use Rattle.static_rules.specs.Registers.{Registers}
use Rattle.static_rules.specs.Meaning.{Based}
use Rattle.objtext.specs.Object.{Segment, content_of, Object}
use Rattle.machine.specs.Space.{origin, needed}
use Rattle.machine.proofs.Outside.{keeps-all}
use Rattle.runner.specs.Load.{table_length, loaded, space_of, started}
use Rattle.runner.proofs.Loaded.{segment_at, object-short, loaded_bytes, loaded-table, length-loaded}
use Rattle.translation.specs.Instructions.{Instruction, rr, rx, address, immediate, shift, branch, link, indexed, stop, size, sizes}
use Rattle.translation.specs.Core.{Core}
use Rattle.translation.specs.Code.{size_of, instructions}
use Rattle.translation.specs.Layout.{Layout, segment_limit, literals_from}
use Rattle.translation.specs.Bytes.{encode_all}
use Rattle.translation.specs.Image.{words, end_of_first, first_data, segments}
use Rattle.translation.proofs.Sizes.{length-encode, length-encode_all, sizes-instructions}
use Rattle.translation.proofs.Literals.{index-lt, index_at, literals-have}
use Rattle.translation.proofs.Images.{Fitting, fill-length, end-first, length-data}
use Rattle.join.specs.Points as P
use Rattle.join.specs.Points.{Point, Knows, Placed, start, program_segment}
use Rattle.join.proofs.Placement.{instructions_of, stands, program-code, laid-program, bytes-at}
use Rattle.join.proofs.Safe.{Safe}
use Rattle.join.proofs.Chosen.{reg, Told}
use Rattle.join.proofs.Flow.{program-flows, program-start, guarded-start}
use Rattle.join.proofs.Chain.{Holds, outermost}
use Rattle.join.proofs.ChainMoves.{chain-under}
use Rattle.join.proofs.Loading.{Mapped}
use Rattle.join.proofs.Mapping.{mapped, end-first_data, with-literals}
use Rattle.join.proofs.Step.{Standing, InStorage, Inv, guarded}

size-even : (i : Instruction) → size i % 2 ≡ 0
size-even (rr op r s) = refl
size-even (rx op r a) = refl
size-even (address r a) = refl
size-even (immediate op v a) = refl
size-even (shift op r s n) = refl
size-even (branch m t) = refl
size-even (link r t) = refl
size-even (indexed r t) = refl
size-even stop = refl

sizes-even : (is : List Instruction) → sizes is % 2 ≡ 0
sizes-even [] = refl
sizes-even (i ∷ is) = omega (arith, size-even i, sizes-even is)

pub placed-in : (x : Placed) (w : List Placed) → x ∈ w → x.instruction ∈ instructions_of w
placed-in x [] h = absurd h
placed-in x (y ∷ w) (inl e) = inl (ap (λ (z : Placed). z.instruction) e)
placed-in x (y ∷ w) (inr h) = inr (placed-in x w h)

-- ── the words of literals ──

length-words : (vs : List ℕ) → length (words vs) ≡ 4 * length vs
unfolding words
length-words [] = refl
length-words (v ∷ vs) = omega (arith, length-append (bytes_of 4 v) (words vs), length-bytes_of 4 v, length-words vs)

words-at : (vs : List ℕ) (i j : ℕ) → i < length vs → j < 4 → get_or (words vs) (4 * i + j) 0 ≡ get_or (bytes_of 4 (get_or vs i 0)) j 0
unfolding words
words-at [] i j h k = absurd (omega arith)
words-at (v ∷ vs) zero j h k =
    let e : 4 * 0 + j ≡ j = omega arith in
    rw e (get_or-append (bytes_of 4 v) (words vs) 0 j (omega (arith, length-bytes_of 4 v)))
words-at (v ∷ vs) (suc i) j h k =
    let e : 4 * suc i + j ≡ length (bytes_of 4 v) + (4 * i + j) = omega (arith, length-bytes_of 4 v) in
    rw e (get_or-append-add (bytes_of 4 v) (words vs) (4 * i + j) 0 ∙ words-at vs i j (omega arith) k)

-- the number in four bytes that are those of v
word_of : (s : List ℕ) (a v : ℕ) → a + 4 ≤ length s → ((j : ℕ) → j < 4 → get_or s (a + j) 0 ≡ get_or (bytes_of 4 v) j 0) → value_at s a 4 ≡ v % 256 ^ 4
word_of s a v h f =
    let n = length-bytes_of 4 v in
    ap value_of
    (same-part s (stored s a 4 v) a 4 0 (sym (length-sets s a (bytes_of 4 v)))
    (λ j k. f j k ∙ sym (sets-there s a (bytes_of 4 v) j 0 (omega arith) (omega arith))))
    ∙ value_at-stored s a 4 v h

module _
    (written : List Registers) (n : ℕ) (l : Layout) (c : Core) (safe : Safe written n l [] [] start c) (fit : Fitting l) (few : n ≤ 2) (aligned : l.literals_at % 4 ≡ 0)
    (known : l.literals ≡ literals_from [] (instructions c)) (short : sizes (instructions c) ≤ segment_limit) (object : Object (segments n l (instructions c)))
    (s : List ℕ) (enough : needed ≤ length s)
  where
    abbrev w : List Placed
    w = P.program written c

    abbrev gs : List Segment
    gs = segments n l (instructions c)

    content-is : content_of (segment_at gs 0) ≡ encode_all l (instructions c)
    unfolding segments
    content-is = refl

    count-is : length gs ≡ 2 + n
    unfolding segments
    count-is = let e = length-data l 2 n in omega arith

    table_is : table_length gs ≡ end_of_first l
    unfolding segments first_data
    table_is = end-first_data l

    program-is : (space_of gs).program ≡ sizes (instructions c)
    unfolding space_of segments
    program-is = length-encode_all l (instructions c)

    code-end : sizes (instructions c) ≡ size_of c + 2
    code-end = sizes-instructions c

    standing : (x : Placed) → x ∈ w → Standing l (space_of gs) (loaded gs s) x
    standing x h =
        let t = stands 0 (size_of c + 2) w (laid-program written c) x h in
        let o = t.offset in
        let g = t.segment in
        let en = t.end in
        let ev = sizes-even (take t.i (instructions_of w)) in
        record {
          even = omega arith;
          inside = omega (arith, program-is, code-end);
          bytes = λ j k.
              let z : j < size x.instruction = rw (length-encode l x.instruction) at k in
              let a : origin x.segment + x.at + j ≡ origin 0 + (x.at + j) = omega arith in
              let b : x.at + j < length (content_of (segment_at gs 0)) = rw content-is (omega (arith, length-encode_all l (instructions c), code-end)) in
              let f = object-short gs object in
              ap (λ (i : ℕ). get_or (loaded gs s) i 0) a
              ∙ (loaded_bytes gs s f.0 f.1 enough 0 (x.at + j) (omega (arith, count-is)) b (λ q. absurd (let y : ◌≡◌ {A = ℕ} 0 1 = q in omega arith))
              ∙ (ap (λ (bs : List ℕ). get_or bs (x.at + j) 0) (content-is ∙ ap (encode_all l) (sym (program-code written c))) ∙ bytes-at l (size_of c + 2) w (laid-program written c) x h j z));
        }

    -- each literal's word
    first-content : (j : ℕ) → j < length (words l.literals) → get_or (content_of (segment_at gs 1)) (l.literals_at + j) 0 ≡ get_or (words l.literals) j 0
    unfolding segments first_data
    first-content j h =
        let e = with-literals l (omega (arith, length-words l.literals)) in
        sets-there _ l.literals_at (words l.literals) j 0
        (omega (arith, length-words l.literals, fill-length 1 l.placed (replicate (end_of_first l) 0), length-replicate {A = ℕ} (end_of_first l) 0)) h

    first-length : length (content_of (segment_at gs 1)) ≡ end_of_first l
    unfolding segments first_data
    first-length = end-first_data l

    number-loaded : (v : ℕ) → v ∈ l.literals → value_at (loaded gs s) (origin 1 + (l.literals_at + 4 * index_of v l.literals)) 4 ≡ v % 2 ^ 32
    number-loaded v h =
        let i = index_of v l.literals in
        let k = index-lt v l.literals h in
        let f = object-short gs object in
        let e = with-literals l (omega arith) in
        let z = fit.room in
        let o = fit.at in
        let t = fit.start in
        word_of (loaded gs s) (origin 1 + (l.literals_at + 4 * i)) v (omega (arith, length-loaded gs s f.0 f.1 enough))
        (λ j g.
        let a : origin 1 + (l.literals_at + 4 * i) + j ≡ origin 1 + (l.literals_at + (4 * i + j)) = omega arith in
        ap (λ (b : ℕ). get_or (loaded gs s) b 0) a
        ∙ (loaded_bytes gs s f.0 f.1 enough 1 (l.literals_at + (4 * i + j)) (omega (arith, count-is)) (omega (arith, first-length)) (λ q. omega arith)
        ∙ (first-content (4 * i + j) (omega (arith, length-words l.literals)) ∙ (words-at l.literals i j k g ∙ ap (λ (x : ℕ). get_or (bytes_of 4 x) j 0) (index_at v l.literals h)))))

    pub in-storage : InStorage n l (size_of c) (P.program written c) (space_of (segments n l (instructions c))) (loaded (segments n l (instructions c)) s)
    in-storage =
        let f = object-short gs object in
        let e = (end-first l fit).0 in
        let g = fit.start in
        record {
          flows = program-flows written n l c safe;
          map = subst (λ (k : ℕ). Mapped n l k (space_of gs)) (sym (program-is ∙ sym (length-encode_all l (instructions c)))) (mapped n l (instructions c) fit few aligned);
          short = omega (arith, program-is);
          long = omega (arith, length-loaded gs s f.0 f.1 enough);
          table = λ k h. loaded-table gs s f.0 f.1 enough k (omega (arith, count-is)) (omega (arith, table_is));
          standing = standing;
          literals = λ x h v t.
              rw known (literals-have (instructions c) [] x.instruction v (subst (λ (is : List Instruction). x.instruction ∈ is) (program-code written c) (placed-in x w h)) t);
          numbers = number-loaded;
        }

    -- ── the start ──

    module _ (regs : List ℕ) (sixteen : length regs ≡ 16) (k : ℕ) where
      fourteen-is : get_or (set (set regs 14 (origin 1)) 15 (origin 0)) 14 0 ≡ origin 1
      fourteen-is = get_or-set_other (set regs 14 (origin 1)) 15 14 (origin 0) 0 (λ e. omega arith) ∙ get_or-set_same regs 14 (origin 1) 0 (omega arith)

      fifteen-is : get_or (set (set regs 14 (origin 1)) 15 (origin 0)) 15 0 ≡ origin 0
      fifteen-is = get_or-set_same (set regs 14 (origin 1)) 15 (origin 0) 0 (omega (arith, length-set regs 14 (origin 1)))

      start-holds : Holds (reg (started regs k)) start
      start-holds b (inl e) = subst (λ (d : Based). reg (started regs k) d.register ≡ origin d.segment) (sym e) fourteen-is
      start-holds b (inr e) = absurd e

      pub begins : Inv n (P.program written c) (space_of (segments n l (instructions c))) (loaded (segments n l (instructions c)) s) (started regs k) (loaded (segments n l (instructions c)) s)
      begins =
          let g = program-start written n l c in
          record {
            x = g.to;
            one = g.one;
            counter = let z = g.at in let y = g.segment in omega arith;
            base = fifteen-is ∙ ap origin (sym g.segment);
            sixteen = length-set (set regs 14 (origin 1)) 15 (origin 0) ∙ (length-set regs 14 (origin 1) ∙ sixteen);
            chain = chain-under n w (reg (started regs k)) start g.to.point g.under (guarded n l (size_of c) w (space_of gs) (loaded gs s) in-storage g.to g.one)
                (outermost refl (guarded-start written n l c) start-holds);
            known = subst (λ (j : Knows). Told j (started regs k)) (sym g.knows) tt;
            keeps = keeps-all (space_of gs) (loaded gs s);
          }
