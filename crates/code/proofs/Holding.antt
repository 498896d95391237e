-- What is laid in a room for literals, in the form of the loops' invariants: an instruction more (`holds_on`), the instructions of an event (`event-turn`,
-- `event-end`), the events of a tape (`tape-turn`, `tape-end`). Assumes nothing.
use Prim.Native.Nat.{ℕ, ◌+◌, ◌/◌, ◌%◌, ◌<◌, ◌≤◌}
use mathlib.Core.Path.{◌≡◌, refl, sym, ap, subst, ◌∙◌}
use mathlib.Core.Logic.{◌⊎◌, inl, inr}
use mathlib.Core.List.{List, [], ◌∷◌}
use native.Mathlib.Omega.{arith}
use lib.Dec.{ltb}
use lib.ListN.{length, length-append, take, drop, get_or, drop_of_length-le}
use lib.Seq.{length-take-le}
use borrow.Author.Tests.{ltb-true, ltb-false}
use Rattle.base.specs.Lists.{member}
use Rattle.base.specs.Walk.{fold}
use Rattle.base.proofs.Tests.{cases}
use Rattle.base.proofs.Parts.{drop-turn}
use Rattle.base.proofs.Walk.{fold-turn, fold_end}
use Rattle.tape.specs.Events as E
use Rattle.translation.specs.Instructions.{literal}
use Rattle.translation.specs.Layout.{needs}
use Rattle.emit.specs.declared.Code.{Code}
use Rattle.emit.specs.declared.Code.TheVariants.{Two, Four, Literal}
use Rattle.emit.specs.declared.Codes.{Codes}
use Rattle.emit.specs.declared.Writing.{Writing}
use Rattle.emit.specs.Codes.{list_of, code_size, stop_code}
use Rattle.ledger.specs.Book.{Wide, Thin}
use Rattle.emit.specs.Events.{writing_in, codes_in}
use Rattle.code.specs.Places.{no_writing}
use Rattle.code.specs.Coding.{Laid, laid_of, laid_by, literals_after, lay_code, lay_all, Coding, coding_of, code_event, code_from, code_along, code_rest, table_in, code_in, Holds}
use Rattle.code.proofs.Kept.{laid-at}

-- ── an instruction ──

needs-more : (v : ℕ) (seen : List ℕ) → length seen ≤ length (needs (literal v) seen)
needs-more v seen =
    cases (member v seen) (λ e. rw e (omega arith)) (λ e. rw e (omega (arith, length-append seen (v ∷ []))))

literals-more : (c : Code) (seen : List ℕ) → length seen ≤ length (literals_after c seen)
unfolding literals_after
literals-more (Two op r s) seen = omega arith
literals-more (Four op r x b d) seen = omega arith
literals-more (Literal op r x v) seen = needs-more v seen

either : (n room : ℕ) → n ≤ room → (n < room) ⊎ (n ≡ room)
either n room h = cases (ltb n room) (λ e. inl (ltb-true n room e)) (λ e. inr (omega (arith, ltb-false n room e)))

-- the room is not left
pub in-room : (n n' room : ℕ) → n ≤ room → (n ≡ room → n' ≡ n) → n' ≤ n + 1 → n' ≤ room
in-room n n' room h stays b = by (either n room h)
  where
    by : (n < room) ⊎ (n ≡ room) → n' ≤ room
    by (inl g) = omega arith
    by (inr g) = omega (arith, stays g)

module _ (start room : ℕ) where
  pub holds_on :
      (at n n' : ℕ) (image literals image' literals' : List ℕ) (c : Code) (s : Laid) → length literals' ≡ room
      → (n < room → laid_by (at + code_size c) n' image' literals' ≡ lay_code start c (laid_by at n image literals)) → (n ≡ room → n' ≡ n)
      → n' ≤ n + 1 → Holds room at n image literals s → Holds room (at + code_size c) n' image' literals' (lay_code start c s)
  unfolding lay_code
  holds_on at n n' image literals image' literals' c s e step stays one h = record {
    reached = ap (λ (p : ℕ). p + code_size c) h.reached;
    inside = in-room n n' room h.inside stays one;
    same = λ l. by l (either n room h.inside);
    full = λ l. filled l (either n room h.inside);
  }
    where
      by : n' < room → (n < room) ⊎ (n ≡ room) → laid_by (at + code_size c) n' image' literals' ≡ lay_code start c s
      by l (inl g) = step g ∙ ap (lay_code start c) (h.same g)
      by l (inr g) = absurd (omega (arith, stays g))

      filled : n' ≡ room → (n < room) ⊎ (n ≡ room) → room ≤ length (literals_after c s.literals)
      filled l (inl g) =
          let q : laid_by (at + code_size c) n' image' literals' ≡ lay_code start c s = step g ∙ ap (lay_code start c) (h.same g) in
          let z : take n' literals' ≡ literals_after c s.literals = ap (λ (x : Laid). x.literals) q in
          omega (arith, length-take-le n' literals' (omega arith), ap length z)
      filled l (inr g) = omega (arith, h.full g, literals-more c s.literals)

-- nothing is laid at first
pub holds-first : (room : ℕ) (image literals : List ℕ) → Holds room 0 0 image literals (laid_of 0 image [])
holds-first room image literals = record { reached = refl; inside = omega arith; same = λ l. refl; full = λ e. omega arith }

-- ── an event ──

-- what is laid holds of a state from which the rest leads to the whole
pub record Left (start room at n : ℕ) (image literals : List ℕ) (rest : List Code) (whole : Laid) : Type 0 where
  pub state : Laid
  pub holds : Holds room at n image literals state
  pub leads : lay_all start rest state ≡ whole

module _ (start room k : ℕ) (cs : List Code) where
  pub event-turn :
      (at n z n' : ℕ) (image literals image' literals' : List ℕ) (c d : Code) (whole : Laid) → length literals' ≡ room → k < length cs → c ≡ get_or cs k d
      → z ≡ code_size c
      → (n < room → laid_by (at + code_size c) n' image' literals' ≡ lay_code start c (laid_by at n image literals)) → (n ≡ room → n' ≡ n)
      → n' ≤ n + 1 → Left start room at n image literals (drop k cs) whole → Left start room (at + z) n' image' literals' (drop (k + 1) cs) whole
  event-turn at n z n' image literals image' literals' c d whole e h q ez step stays one l = record {
    state = lay_code start c l.state;
    holds = rw ez (holds_on start room at n n' image literals image' literals' c l.state e step stays one l.holds);
    leads = rw q (fold-turn _ l.state cs k d h l.leads);
  }

  pub event-end :
      (at n : ℕ) (image literals : List ℕ) (whole : Laid) → length cs ≤ k → Left start room at n image literals (drop k cs) whole → Holds room at n image literals whole
  event-end at n image literals whole h l = subst (λ (s : Laid). Holds room at n image literals s) (fold_end _ l.state cs k h l.leads) l.holds

-- instructions that are laid whatever literals there are: a table
literals-all : (start : ℕ) (cs : List Code) (s : Laid) → length s.literals ≤ length (lay_all start cs s).literals
unfolding fold lay_code
literals-all start [] s = omega arith
literals-all start (c ∷ cs) s = omega (arith, literals-more c s.literals, literals-all start cs (lay_code start c s))

pub holds-table :
    (start room at n at' : ℕ) (image literals image' : List ℕ) (cs : List Code) (s : Laid) → ((k : ℕ) (seen : List ℕ) → laid_of at' image' seen ≡ lay_all k cs (laid_of at image seen))
    → Holds room at n image literals s → Holds room at' n image' literals (lay_all start cs s)
holds-table start room at n at' image literals image' cs s e h = record {
  reached =
      let a = laid-at start cs s in
      let b = laid-at start cs (laid_of at image []) in
      let c : at' ≡ (lay_all start cs (laid_of at image [])).at = ap (λ (x : Laid). x.at) (e start []) in
      let d = h.reached in
      omega arith;
  inside = h.inside;
  same = λ l. e start (take n literals) ∙ ap (lay_all start cs) (h.same l);
  full = λ l. omega (arith, h.full l, literals-all start cs s);
}

-- ── a tape ──

module _ (start room : ℕ) (kinds : List ℕ) (w : Wide) (b : Thin) where
  pub record Coded (at n : ℕ) (image literals : List ℕ) (v : Writing) (rest : List ℕ) (whole : Coding) : Type 0 where
    pub state : Laid
    pub holds : Holds room at n image literals state
    pub leads : code_rest start kinds w b (coding_of state v) rest ≡ whole

  -- the instructions of an event are laid up to at₁, and its table
  pub tape-turn :
      (tape : List ℕ) (i op t at n at₁ n' at' : ℕ) (image literals image₁ literals' image' : List ℕ) (m : Codes) (v v' : Writing) (whole : Coding) → i < length tape
      → op ≡ get_or tape i 0 % E.EVENTS → t ≡ get_or tape i 0 / E.EVENTS
      → m ≡ codes_in kinds w b op t v → v' ≡ writing_in w b op t v
      → {given : ℕ} → given ≡ room → ((s : Laid) → Holds given at n image literals s → Holds given at₁ n' image₁ literals' (lay_all start (list_of m) s))
      → ((k : ℕ) (seen : List ℕ) → laid_of at' image' seen
      ≡ lay_all k (table_in kinds w b (get_or tape i 0 % E.EVENTS) (get_or tape i 0 / E.EVENTS) v' (drop (i + 1) tape)) (laid_of at₁ image₁ seen))
      → Coded at n image literals v (drop i tape) whole → Coded at' n' image' literals' v' (drop (i + 1) tape) whole
  unfolding code_from code_event
  tape-turn tape i op t at n at₁ n' at' image literals image₁ literals' image' m v v' whole h eo et em ew e laid table l =
      let first : List Code = table_in kinds w b (get_or tape i 0 % E.EVENTS) (get_or tape i 0 / E.EVENTS) v' (drop (i + 1) tape) in
      record {
        state = lay_all start first (lay_all start (list_of m) l.state);
        holds = holds-table start room at₁ n' at' image₁ literals' image' first (lay_all start (list_of m) l.state) table ((rw e at laid) l.state l.holds);
        leads = rw (em, ew, eo, et) (ap (code_rest start kinds w b (coding_of l.state v)) (sym (drop-turn tape i 0 h)) ∙ l.leads);
      }

  -- and the last instruction behind all
  pub tape-end :
      (tape image₀ : List ℕ) (i at n n' : ℕ) (image literals image' literals' : List ℕ) (v : Writing) (c : Code) → length tape ≤ i → length literals' ≡ room → c ≡ stop_code
      → (n < room → laid_by (at + code_size c) n' image' literals' ≡ lay_code start c (laid_by at n image literals)) → (n ≡ room → n' ≡ n)
      → n' ≤ n + 1 → Coded at n image literals v (drop i tape) (code_rest start kinds w b (coding_of (laid_of 0 image₀ []) no_writing) tape)
      → Holds room (at + 2) n' image' literals' (code_in start kinds w b image₀ tape)
  unfolding code_along code_size code_from
  tape-end tape image₀ i at n n' image literals image' literals' v c h e ec step' stays one l =
      let q : coding_of l.state v ≡ code_rest start kinds w b (coding_of (laid_of 0 image₀ []) no_writing) tape =
      ap (code_rest start kinds w b (coding_of l.state v)) (sym (drop_of_length-le tape {i = i} h)) ∙ l.leads in
      let g = holds_on start room at n n' image literals image' literals' stop_code l.state e (rw ec at step') stays one l.holds in
      subst (λ (x : Coding). Holds room (at + 2) n' image' literals' (lay_code start stop_code x.laid)) q g
