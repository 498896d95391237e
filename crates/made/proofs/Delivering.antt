-- The object of a text in its buffer, and what is answered. Assumes nothing.
use mathlib.Core.Path.{◌≡◌, refl, sym, ap, ◌∙◌}
use mathlib.Core.List.{List, [], ◌∷◌}
use Prim.Native.Nat.{ℕ, ◌/◌, ◌%◌, ◌≤◌, ◌<◌}
use native.Mathlib.Omega.{arith}
use lib.Dec.{eqb, ltb}
use lib.ListN.{length, take, get_or, length-take, length-replicate}
use lib.Seq.{sets, length-sets}
use borrow.Author.Tests.{lt-ltb, le-ltb}
use Rattle.base.specs.Walk.{fold}
use Rattle.base.specs.Numbers.{bytes_of}
use Rattle.base.proofs.Tests.{by-test}
use Rattle.tape.specs.Events as E
use Rattle.tape.specs.Pass.{on_event, pass}
use Rattle.ledger.specs.Book.{Wide}
use Rattle.objtext.specs.Object.{object_text}
use Rattle.translation.specs.Layout.{segment_limit}
use Rattle.translation.specs.Image.{words}
use Rattle.translation.specs.Translate.{accepted, in_room}
use Rattle.layout.specs.declared.Filling.{Filling}
use Rattle.layout.specs.Along.{Imaging, imaging_of, nowhere, lay_value, image_event}
use Rattle.frames.specs.Frames.{object_of, length_for}
use Rattle.frames.proofs.Objects.{text-length, laid-front}
use Rattle.std.specs.Prelude.{Ok, Err}
use Rattle.made.specs.Answers.{Gives}
use Rattle.settled.specs.Texts.{end_of}
use Rattle.made.specs.Making.{zeros, end_of_first, image_along, object_cut, object_along}

-- ── an image has the length that it was lent with ──

pub zeros-long : length zeros ≡ segment_limit
zeros-long = length-replicate {A = ℕ} segment_limit 0

module _ (k : ℕ) (means under offsets values : List ℕ) where
  event-long : (op t : ℕ) (s : Imaging) → length (image_event k means under offsets values op t s).image ≡ length s.image
  unfolding image_event lay_value
  event-long op t s =
      let P : Imaging → Type 0 = λ u. length u.image ≡ length s.image in
      by-test P (eqb op E.ITEM) _ _ (λ e. refl) (λ e.
      by-test P (eqb op E.VALUE) _ _ (λ e. by-test P (ltb s.next.at segment_limit) _ _ (λ e. length-sets s.image s.next.at (bytes_of s.next.size (get_or values t 0))) (λ e. refl))
      (λ e. refl))

  pass-long : (tape : List ℕ) (s : Imaging) → length (pass (image_event k means under offsets values) s tape).image ≡ length s.image
  unfolding pass fold on_event
  pass-long [] s = refl
  pass-long (e ∷ es) s = pass-long es (image_event k means under offsets values (e % E.EVENTS) (e / E.EVENTS) s) ∙ event-long (e % E.EVENTS) (e / E.EVENTS) s

module _ (w : Wide) (tape : List ℕ) where
  pub image-long : (k : ℕ) → length (image_along w tape k) ≡ segment_limit
  unfolding image_along
  image-long k = pass-long k w.means w.under w.offsets w.values tape (imaging_of zeros nowhere) ∙ zeros-long

  pub filled-along : (k : ℕ) (image : List ℕ) (f : Filling) → imaging_of image f ≡ pass (image_event k w.means w.under w.offsets w.values) (imaging_of zeros nowhere) tape
      → image ≡ image_along w tape k
  unfolding image_along
  filled-along k image f e = ap (λ (s : Imaging). s.image) e

  module _ (bases start : ℕ) (code literals : List ℕ) where
    pub written : (out out' first first₁ second third : List ℕ) (f g h : Filling) (cells last two three : ℕ)
        → imaging_of first f ≡ pass (image_event 1 w.means w.under w.offsets w.values) (imaging_of zeros nowhere) tape → first₁ ≡ sets first start (words literals)
        → imaging_of second g ≡ pass (image_event 2 w.means w.under w.offsets w.values) (imaging_of zeros nowhere) tape
        → imaging_of third h ≡ pass (image_event 3 w.means w.under w.offsets w.values) (imaging_of zeros nowhere) tape
        → out' ≡ sets out 0 (object_text (object_of code (take last first₁) cells bases (take two second) (take three third)))
        → out' ≡ sets out 0 (object_text (object_cut w tape bases start code literals cells last two three))
    unfolding object_cut
    written out out' first first₁ second third f g h cells last two three a l b c e =
        let p = filled-along 1 first f a in
        let q = filled-along 2 second g b in
        let r = filled-along 3 third h c in
        rw (l, p, q, r) at e

    module _ (ends : List ℕ) (cells last two three : ℕ) (e₁ : cells ≡ end_of ends 1) (el : last ≡ end_of_first cells start (length literals)) (e₂ : two ≡ end_of ends 2) (e₃ : three ≡ end_of ends 3) where
      object-is : object_cut w tape bases start code literals cells last two three ≡ object_along w tape bases ends start code literals
      unfolding object_along
      object-is = rw (el, e₁, e₂, e₃)

      abbrev text : List ℕ
      text = object_text (object_cut w tape bases start code literals cells last two three)

      module _ (fits : (last ≤ segment_limit) × (two ≤ segment_limit) × (three ≤ segment_limit)) (needed : ℕ) (en : needed ≡ length_for (length code) last bases two three) (out : List ℕ) where
        text-long : length text ≡ needed
        unfolding object_cut
        text-long =
            let a = image-long 1 in
            let b = image-long 2 in
            let c = image-long 3 in
            let s = length-sets (image_along w tape 1) start (words literals) in
            let l : length (take last (sets (image_along w tape 1) start (words literals))) ≡ last = omega (arith, length-take last (sets (image_along w tape 1) start (words literals)), fits) in
            let t : length (take two (image_along w tape 2)) ≡ two = omega (arith, length-take two (image_along w tape 2), fits) in
            let h : length (take three (image_along w tape 3)) ≡ three = omega (arith, length-take three (image_along w tape 3), fits) in
            text-length code _ cells bases _ _ ∙ rw (l, t, h, en)

        pub short-room : length out < needed
            → Gives (in_room (length out) (accepted (object_text (object_along w tape bases ends start code literals)))) out out (Err (record { number = 16; place = needed }))
        unfolding in_room
        short-room h =
            let n = text-long in
            rw (← object-is, lt-ltb (length out) (length text) (omega arith)) (record { number_is = refl; place_is = sym n; length-is = refl; buffer-is = refl })

        pub enough-room : (out' : List ℕ) → needed ≤ length out → out' ≡ sets out 0 text
            → Gives (in_room (length out) (accepted (object_text (object_along w tape bases ends start code literals)))) out out' (Ok needed)
        unfolding in_room
        enough-room out' h e =
            let n = text-long in
            rw (← object-is, le-ltb (length out) (length text) (omega arith)) (record { number_is = refl; place_is = refl; length-is = sym n; buffer-is = e ∙ laid-front out text (omega arith) })

-- ── parts of arrays ──

pub cut-long : (n N : ℕ) (l : List ℕ) → n ≤ N → length l ≡ N → n ≡ length (take n l)
cut-long n N l h e = omega (arith, length-take n l)

pub write-fits : (code first second third out : List ℕ) (bases last two three : ℕ)
    → (length code ≤ segment_limit) × (last ≡ length (take last first)) × (two ≡ length (take two second)) × (three ≡ length (take three third))
    → (last ≤ segment_limit) × (two ≤ segment_limit) × (three ≤ segment_limit) → length_for (length code) last bases two three ≤ length out
    → (length code ≤ segment_limit) × (length (take last first) ≤ segment_limit) × (length (take two second) ≤ segment_limit) × (length (take three third) ≤ segment_limit)
    × (length_for (length code) (length (take last first)) bases (length (take two second)) (length (take three third)) ≤ length out)
write-fits code first second third out bases last two three (hc, a, b, c) (l, t, h) n = rw (← a, ← b, ← c) (hc, l, t, h, n)
