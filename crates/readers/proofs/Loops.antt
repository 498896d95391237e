-- A loop along a list "{…}": what the rest is from where it stands, the whole is from where it began. Assumes nothing.
use mathlib.Core.Path.{◌≡◌, refl, ◌∙◌, ap, subst}
use mathlib.Core.List.{List}
use Prim.Native.Nat.{ℕ, zero, suc, ◌+◌, ◌≤◌, ◌<◌}
use native.Mathlib.Omega.{arith}
use lib.ListN.{length}
use Rattle.grammar.specs.Reader as G
use Rattle.grammar.specs.Reader.{Result, ok, bad, and_then}
use Rattle.readers.specs.declared.reader.Reader.{Reader}
use Rattle.readers.specs.Reads.{Laid, SameTape}

-- the reader of the whole, from the tokens `first` on, makes what that of the rest makes from `now` on, wrapped up, and where the rest fits a tape as `Rest` says
-- the whole fits it as `Whole` says
pub record Onward {A : Type 0} (Whole Rest : ℕ → List ℕ → A → Type 0) (list : ℕ → G.Reader A) (first now : Reader) : Type 0 where
  pub same : now.kinds.now ≡ first.kinds.now
  pub name : SameTape first now
  pub onward : first.at ≤ now.at
  pub low : now.events + first.at ≤ now.at + first.events
  pub fuel : ℕ
  pub enough : length now.kinds.now ≤ fuel + now.at
  pub wrap : A → A
  pub rest : list (suc (length first.kinds.now)) first.kinds.now first.at ≡ and_then (list (suc fuel) now.kinds.now now.at) (λ a n. ok (wrap a) n)
  pub fits : (v : ℕ) (after : List ℕ) (a : A) → Rest v after a → Whole v after (wrap a)

-- where what fits a tape is what was read, written out
abbrev pub Going : {A : Type 0} → (A → List ℕ → List ℕ) → (ℕ → G.Reader A) → (first now : Reader) → Type 0
Going out list first now = Onward (Laid out first.events first.tape.now) (Laid out now.events now.tape.now) list first now

unwrapped : {A : Type 0} (m : Result A) → m ≡ and_then m (λ a n. ok a n)
unfolding and_then
unwrapped (ok a n) = refl
unwrapped (bad k t) = refl

pub wrapped : {A B C : Type 0} (m : Result A) (f : A → B) (g : B → C) → and_then (and_then m (λ a n. ok (f a) n)) (λ b n. ok (g b) n) ≡ and_then m (λ a n. ok (g (f a)) n)
unfolding and_then
wrapped (ok a n) f g = refl
wrapped (bad k t) f g = refl

module _ {A : Type 0} {Whole : ℕ → List ℕ → A → Type 0} {list : ℕ → G.Reader A} {first : Reader} where
  pub starts : Onward Whole Whole list first first
  starts =
      record {
        same = refl;
        name = refl;
        onward = omega arith;
        low = omega arith;
        fuel = length first.kinds.now;
        enough = omega arith;
        wrap = λ a. a;
        rest = unwrapped _;
        fits = λ v after a r. r;
      }

  -- a turn, from `now` to `new`, that puts what g says in front of the rest
  pub turn : {Rest Less : ℕ → List ℕ → A → Type 0} {now new : Reader} (g : A → A) → Onward Whole Rest list first now → now.at < new.at → new.events + now.at ≤ new.at + now.events
      → new.kinds.now ≡ now.kinds.now → SameTape now new → ((f : ℕ) → list (suc f) now.kinds.now now.at ≡ and_then (list f new.kinds.now new.at) (λ a n. ok (g a) n))
      → ((v : ℕ) (after : List ℕ) (a : A) → Less v after a → Rest v after (g a)) → Onward Whole Less list first new
  turn {now} {new} g o far low same name step fits =
      let inside : new.at ≤ length now.kinds.now = subst (λ (l : List ℕ). new.at ≤ length l) same new.inside in
      let (f, e) = less o.fuel (length now.kinds.now) now.at new.at o.enough far inside in
      let on = o.onward in
      let w = o.low in
      let n = o.enough in
      let long = ap length same in
      record {
        same = same ∙ o.same;
        name = name ∙ o.name;
        onward = omega arith;
        low = omega arith;
        fuel = f;
        enough = omega arith;
        wrap = λ a. o.wrap (g a);
        rest = o.rest ∙ (ap (λ (m : Result A). and_then m (λ a n. ok (o.wrap a) n)) (step o.fuel)
            ∙ (wrapped _ g o.wrap ∙ ap (λ (x : ℕ). and_then (list x new.kinds.now new.at) (λ a n. ok (o.wrap (g a)) n)) e));
        fits = λ v after a r. o.fits v after (g a) (fits v after a r);
      }
    where
      less : (f n j l : ℕ) → n ≤ f + j → j < l → l ≤ n → (g : ℕ) × (f ≡ suc g)
      less zero n j l a b c = absurd (omega arith)
      less (suc g) n j l a b c = (g, refl)
