-- The reader's loop over the segments, in the form of its invariant `Reading`: k segments are read, the text stands behind them, and they in front of what is read
-- next are the whole. Assumes nothing.
use Prim.Native.Nat.{ℕ, zero, suc, ◌+◌, ◌-◌, ◌<◌, ◌≤◌}
use mathlib.Core.Path.{◌≡◌, refl, sym, ap, ◌∙◌}
use mathlib.Core.Bool.{true, false}
use mathlib.Core.List.{List, []}
use mathlib.Core.Option.{none, some}
use native.Mathlib.Omega.{arith}
use native.Mathlib.Numerals.{add-one}
use lib.ListN.{drop}
use Rattle.std.specs.Prelude as P
use Rattle.objtext.specs.Reader.{content_length, head_length, is_program, program_at, after_program, is_data, data_at, after_data, is_last, Read, push, on_segment, at_last, read_data, read_object, data_list, read_as, data_line}
use Rattle.objtext.proofs.Places.{after-data-place}

-- the first j data segments from s on in front of what is read behind them
abbrev push_all : ℕ → List ℕ → Read → Read
push_all zero s r = r
push_all (suc j) s r = push (data_at s) (push_all j (after_data s) r)

-- what stands behind j data segments
abbrev rest_after : ℕ → List ℕ → List ℕ
rest_after zero s = s
rest_after (suc j) s = rest_after j (after_data s)

push-last : (j : ℕ) (s : List ℕ) (r : Read) → push_all j s (push (data_at (rest_after j s)) r) ≡ push_all (suc j) s r
push-last zero s r = refl
push-last (suc j) s r = ap (push (data_at s)) (push-last j (after_data s) r)

rest-last : (j : ℕ) (s : List ℕ) → after_data (rest_after j s) ≡ rest_after (suc j) s
rest-last zero s = refl
rest-last (suc j) s = rest-last j (after_data s)

push-none : (j : ℕ) (s : List ℕ) → push_all j s none ≡ none
unfolding push
push-none zero s = refl
push-none (suc j) s = ap (push (data_at s)) (push-none j (after_data s))

push-all : (j : ℕ) (s : List ℕ) → push_all j s (some []) ≡ some (data_list j s)
unfolding push
push-all zero s = refl
push-all (suc j) s = ap (push (data_at s)) (push-all j (after_data s))

pub record Reading (t : List ℕ) (k at : ℕ) : Type 0 where
  pub rest : drop at t ≡ rest_after (k - 1) (after_program t)
  pub whole : push (program_at t) (push_all (k - 1) (after_program t) (read_data (4 - k) k (drop at t))) ≡ read_object t

-- ── the start ──

pub no_program : (t : List ℕ) → is_program 0 t ≡ false → read_as P.None t ≡ read_object t
unfolding read_as read_object on_segment
no_program t h = rw h

module _ (t : List ℕ) (at : ℕ) (p : is_program 0 t ≡ true) (e : drop at t ≡ after_program t) where
  pub no-data : is_data 1 (drop at t) ≡ false → read_as P.None t ≡ read_object t
  unfolding read_as read_object on_segment push
  no-data h = rw (p, ← e, h)

  pub first-data : is_data 1 (drop at t) ≡ true → Reading t 2 (at + (data_line + content_length (head_length (drop at t))))
  unfolding read_object on_segment
  first-data h =
      let q : drop (at + (data_line + content_length (head_length (drop at t)))) t ≡ after_data (after_program t) = after-data-place t at ∙ ap after_data e in
      record { rest = q; whole = rw (q, p, ← e, h) }

-- ── the turns ──

module _ (t : List ℕ) (k at : ℕ) (l : 1 ≤ k) (g : Reading t k at) where
  -- what is read next is r
  next : (r : Read) → read_data (4 - k) k (drop at t) ≡ r → push (program_at t) (push_all (k - 1) (after_program t) r) ≡ read_object t
  next r e = ap (λ (x : Read). push (program_at t) (push_all (k - 1) (after_program t) x)) (sym e) ∙ g.whole

  nothing : read_data (4 - k) k (drop at t) ≡ none → read_as P.None t ≡ read_object t
  unfolding read_as push
  nothing e = ap (push (program_at t)) (sym (push-none (k - 1) (after_program t))) ∙ next none e

  pub at_last_lem : is_last (drop at t) ≡ true → read_as (P.Some k) t ≡ read_object t
  unfolding read_as read_data at_last push
  at_last_lem h = go k refl
    where
      last : (n : ℕ) → read_data n k (drop at t) ≡ some []
      last zero = rw h
      last (suc n) = rw h

      go : (j : ℕ) → j ≡ k → read_as (P.Some j) t ≡ read_object t
      go zero a = absurd (omega arith)
      go (suc j) a =
          let w : k - 1 ≡ j = omega arith in
          ap (push (program_at t)) (sym (push-all j (after_program t))) ∙ ap (λ (i : ℕ). push (program_at t) (push_all i (after_program t) (some []))) (sym w) ∙ next (some []) (last (4 - k))

  pub not_last : 4 ≤ k → is_last (drop at t) ≡ false → read_as P.None t ≡ read_object t
  unfolding read_data at_last
  not_last m h = let w : 4 - k ≡ 0 = omega arith in nothing (rw (w, h))

  module _ (m : k < 4) (h : is_last (drop at t) ≡ false) where
    pub no_more : is_data k (drop at t) ≡ false → read_as P.None t ≡ read_object t
    unfolding read_data at_last on_segment
    no_more d = let w : 4 - k ≡ suc (4 - (k + 1)) = omega arith in nothing (rw (w, h, d))

    pub one_more : is_data k (drop at t) ≡ true → Reading t (k + 1) (at + (data_line + content_length (head_length (drop at t))))
    unfolding read_data at_last on_segment
    one_more d =
        let w : 4 - k ≡ suc (4 - (k + 1)) = omega arith in
        let v : k + 1 - 1 ≡ suc (k - 1) = omega arith in
        let a = after_program t in
        let q : drop (at + (data_line + content_length (head_length (drop at t)))) t ≡ after_data (drop at t) = after-data-place t at in
        let r : Read = read_data (4 - (k + 1)) (k + 1) (after_data (drop at t)) in
        let s : read_data (4 - k) k (drop at t) ≡ push (data_at (drop at t)) r = rw (w, h, d, add-one k) in
        let u : push (program_at t) (push_all (k - 1) a (push (data_at (rest_after (k - 1) a)) r)) ≡ read_object t
        = ap (λ (z : List ℕ). push (program_at t) (push_all (k - 1) a (push (data_at z) r))) (sym g.rest) ∙ next (push (data_at (drop at t)) r) s in
        record {
          rest = rw (v, q) (ap after_data g.rest ∙ rest-last (k - 1) a);
          whole = rw (v, q) (ap (push (program_at t)) (sym (push-last (k - 1) a r)) ∙ u);
        }
