-- The program and its literals, and refusals 14 and 15. Assumes nothing.
use mathlib.Core.Path.{◌≡◌, refl, sym, ap, ◌∙◌}
use mathlib.Core.List.{List}
use Prim.Native.Nat.{ℕ, ◌+◌, ◌*◌, ◌≤◌, ◌<◌}
use native.Mathlib.Omega.{arith}
use native.Mathlib.Decide.{dec_le}
use lib.ListN.{length, take, length-take}
use borrow.Author.Tests.{lt-ltb, le-ltb}
use Rattle.objtext.specs.Object.{object_text}
use Rattle.translation.specs.Layout.{segment_limit, round_up}
use Rattle.translation.specs.Translate.{accepted, in_room}
use Rattle.ledger.specs.Book.{Wide, Thin}
use Rattle.code.specs.Places.{on_marks, places_in}
use Rattle.code.specs.Coding.{Laid, laid_of, Holds, code_in}
use Rattle.std.specs.Prelude.{Err}
use Rattle.made.specs.Answers.{Answer, Gives}
use Rattle.settled.specs.Texts.{end_of}
use Rattle.made.specs.Making.{zeros, literal_room, start_of, object_along, coded_along, made_along}

-- Where the room for literals is full, they end past the segment.
module _
    (kinds : List ℕ) (w : Wide) (b b' : Thin) (ends tape image literals : List ℕ) (bases cells start size count room : ℕ) (e₁ : cells ≡ end_of ends 1)
    (es : start ≡ round_up 4 cells) (eb : b' ≡ on_marks (λ (marks : List ℕ). (places_in kinds w b tape).marks) b)
    (ec : Holds room size count image literals (code_in start kinds w b' zeros tape)) (er : room ≡ literal_room) (el : length literals ≡ room)
  where
    abbrev laid : Laid
    laid = code_in start kinds w b' zeros tape

    coded : coded_along kinds w b ends tape ≡ laid
    unfolding coded_along
    coded = rw (es, e₁, eb)

    reached : (coded_along kinds w b ends tape).at ≡ size
    reached = ap (λ (l : Laid). l.at) coded ∙ sym ec.reached

    started : start_of ends ≡ start
    started = sym (es ∙ ap (λ (n : ℕ). round_up 4 n) e₁)

    counted : length (take count literals) ≡ count
    counted = omega (arith, length-take count literals, ec.inside)

    -- there are so many, or more
    many : count ≤ length (coded_along kinds w b ends tape).literals
    many = rw coded (go (dec_le room count))
      where
        go : Dec (room ≤ count) → count ≤ length laid.literals
        go (yes h) = omega (arith, ec.inside, ec.full (omega (arith, ec.inside)))
        go (no h) = omega (arith, counted, ap (λ (l : Laid). length l.literals) (ec.same (omega arith)))

    pub long-program : (out : List ℕ) → segment_limit < size → Gives (made_along kinds w b ends tape bases (length out)) out out (Err (record { number = 14; place = 0 }))
    unfolding made_along
    long-program out h = rw (reached, lt-ltb segment_limit size h) (record { number_is = refl; place_is = refl; length-is = refl; buffer-is = refl })

    pub long-literals : (out : List ℕ) → size ≤ segment_limit → segment_limit < start + 4 * count → Gives (made_along kinds w b ends tape bases (length out)) out out (Err (record { number = 15; place = 0 }))
    unfolding made_along
    long-literals out h q =
        let past : segment_limit < start_of ends + 4 * length (coded_along kinds w b ends tape).literals = omega (arith, many, started) in
        rw (reached, le-ltb segment_limit size h, lt-ltb segment_limit (start_of ends + 4 * length (coded_along kinds w b ends tape).literals) past)
        (record { number_is = refl; place_is = refl; length-is = refl; buffer-is = refl })

    pub all_made : (out out' : List ℕ) (r : Answer) → size ≤ segment_limit → start + 4 * count ≤ segment_limit
        → Gives (in_room (length out) (accepted (object_text (object_along w tape bases ends start (take size image) (take count literals))))) out out' r
        → Gives (made_along kinds w b ends tape bases (length out)) out out' r
    unfolding made_along
    all_made out out' r h q g =
        let all : coded_along kinds w b ends tape ≡ laid_of size image (take count literals) = coded ∙ sym (ec.same (omega (arith, er, q))) in
        rw (all, started, counted, le-ltb segment_limit size h, le-ltb segment_limit (start + 4 * count) q) g
