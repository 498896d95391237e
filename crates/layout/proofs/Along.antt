-- The loops of layout and images: a turn is a step of the pass, in the ledger. Assumes nothing.
use Prim.Native.Nat.{ℕ, suc, ◌+◌, ◌-◌, ◌*◌, ◌/◌, ◌%◌, ◌≤◌, ◌<◌}
use mathlib.Core.Path.{◌≡◌, refl, sym, ap, ap₂, ◌∙◌}
use mathlib.Core.List.{List}
use native.Mathlib.Omega.{arith}
use native.Mathlib.Nat.{div-mul-le_self, mul-le-mul_right}
use lib.Dec.{leb}
use lib.ListN.{length, get_or, drop}
use borrow.Author.Tests.{lt-ltb, le-ltb, le-leb, lt-leb, eq-eqb, ne_eqb}
use Rattle.base.specs.Numbers.{stored}
use Rattle.scopes.specs.declared.Refusal.TheVariants.{NoRoom}
use Rattle.scopes.specs.Broken.{Ruling, unbroken, rule, ◌⊕◌}
use Rattle.static_rules.specs.Meaning.{element_size}
use Rattle.tape.specs.Events as E
use Rattle.tape.specs.Pass.{pass}
use Rattle.tape.proofs.Pass.{pass-turn, pass-end}
use Rattle.ledger.specs.Book.{Wide, Thin, thin_of, on_thin, zeros, put_offset, put_written}
use Rattle.ledger.proofs.Columns.{thin-length}
use Rattle.tables.specs.Packed.{width_in, number_in}
use Rattle.translation.specs.Layout.{segment_limit, round_up}
use Rattle.layout.specs.declared.Filling.{Filling}
use Rattle.layout.specs.Along.{Laying, start_ends, segment_at, place_by, event_by, capped, capped_event}
use Rattle.layout.specs.Along.{Book, book_of, laying_in, with_laying, laid_by, place_in, event_in, layout_in}
use Rattle.layout.specs.Along.{Imaging, imaging_of, nowhere, start_cell, lay_value, image_event, start_in, image_in}

-- ── sizes ──

pub round_room : (z n : ℕ) → 1 ≤ z → z ≤ 4 → round_up z n ≤ n + 3
round_room z n a b = omega (arith, div-mul-le_self (n + (z - 1)) z)

-- at most 2^34
pub cell-small : (z n : ℕ) → z ≤ 4 → n < 4294967296 → z * n ≤ 17179869184
cell-small z n a b = omega (arith, mul-le-mul_right n a)

-- ── a cell is placed ──

pub within-is : (n : ℕ) → n ≤ segment_limit → n ≡ capped n
unfolding capped
within-is n h = rw (le-leb n segment_limit h)

pub past_is : (n : ℕ) → segment_limit < n → suc segment_limit ≡ capped n
unfolding capped
past_is n h = rw (lt-leb n segment_limit h)

pub place_is :
    (w : Wide) (b : Thin) (t : ℕ) (r : Ruling) {w' : Wide} {b' : Thin} {r' q : Ruling} {m size k end offset n v : ℕ} → m ≡ get_or w.means t 0
    → size ≡ element_size (width_in m) → k ≡ segment_at w.under t → end ≡ get_or b.written k 0 → offset ≡ round_up size end → n ≡ number_in m
    → w' ≡ put_offset t offset w → v ≡ capped (offset + size * n) → b' ≡ put_written k v b → q ≡ rule (leb (offset + size * n) segment_limit) NoRoom t → r' ≡ r ⊕ q
    → book_of w' b' r' ≡ place_in t (book_of w b r)
unfolding place_by
place_is w b t r em es ek ee eo en e1 ev e2 e3 e4 = rw (e4, e3, e2, ev, e1, eo, ee, ek, en, es, em)

pub item-is : (op t : ℕ) {x : Book} (l : Book) → op ≡ E.ITEM → x ≡ place_in t l → x ≡ event_in op t l
unfolding event_by
item-is op t l h e = rw (eq-eqb op E.ITEM h) e

pub other-is : (op t : ℕ) (l : Book) → (op ≡ E.ITEM → ⊥) → l ≡ event_in op t l
unfolding event_by
other-is op t l h = rw (ne_eqb op E.ITEM h)

-- ── the loop ──

-- a step, and the pass over a tape, that read the ledger w
abbrev step_of : Wide → ℕ → ℕ → Laying → Laying
step_of w = capped_event w.means w.under

abbrev along : Wide → List ℕ → Book → Book
along w tape l = laid_by (λ s. pass (step_of w) s tape) l

-- i events are passed, from the ledger l₀ on
pub record Going (tape : List ℕ) (l₀ l : Book) (i : ℕ) : Type 0 where
  pub inside : i ≤ length tape
  pub is : along l₀.wide (drop i tape) l ≡ along l₀.wide tape l₀
  pub means_is : l.wide.means ≡ l₀.wide.means
  pub under-is : l.wide.under ≡ l₀.wide.under

module _ (tape : List ℕ) (l₀ : Book) where
  pub going : Going tape l₀ l₀ 0
  going = record { inside = omega arith; is = refl; means_is = refl; under-is = refl }

  pub going_on :
      {l l' : Book} {i op t : ℕ} → Going tape l₀ l i → i < length tape → op ≡ get_or tape i 0 % E.EVENTS → t ≡ get_or tape i 0 / E.EVENTS → l' ≡ event_in op t l
      → Going tape l₀ l' (i + 1)
  going_on {l} {l'} {i} {op} {t} g h eo et e =
      let e' : l' ≡ laid_by (step_of l₀.wide op t) l = e ∙ ap₂ (λ (m u : List ℕ). laid_by (capped_event m u op t) l) g.means_is g.under-is in
      let turned = pass-turn (step_of l₀.wide) (laying_in l) tape i op t h eo et refl in
      record {
        inside = omega arith;
        is = ap (along l₀.wide (drop (i + 1) tape)) e' ∙ (ap (λ (s : Laying). with_laying s l) turned ∙ g.is);
        means_is = ap (λ (x : Book). x.wide.means) e ∙ g.means_is;
        under-is = ap (λ (x : Book). x.wide.under) e ∙ g.under-is;
      }

  pub going_end : {l : Book} {i : ℕ} → Going tape l₀ l i → length tape ≤ i → l ≡ along l₀.wide tape l₀
  going_end {l} {i} g h = ap (λ (s : Laying). with_laying s l) (pass-end (step_of l₀.wide) (laying_in l) tape i h refl) ∙ g.is

-- before the first event the column of ends is cleared, and segment 1 has its table
pub begun :
    (tape thin : List ℕ) (w : Wide) {b b' : Thin} → b ≡ on_thin 3 zeros (thin_of thin) → b' ≡ put_written 1 16 b
    → along w tape (book_of w b' unbroken) ≡ layout_in (length thin / 4) tape (book_of w (thin_of thin) unbroken)
begun tape thin w {b} {b'} e f =
    let ends : b' ≡ on_thin 3 (λ _. start_ends (length thin / 4)) (thin_of thin) = f ∙ rw (e, thin-length 3 thin) in
    ap (λ (x : Thin). along w tape (book_of w x unbroken)) ends

-- ── images ──

pub laid-is : (image : List ℕ) (f : Filling) (v : ℕ) {image' : List ℕ} → f.at < segment_limit → image' ≡ stored image f.at f.size v
    → imaging_of image' (record { at = f.at + f.size; size = f.size }) ≡ lay_value v (imaging_of image f)
unfolding lay_value
laid-is image f v h e = rw (lt-ltb f.at segment_limit h, e)

pub not-laid : (image : List ℕ) (f : Filling) (v : ℕ) → segment_limit ≤ f.at → imaging_of image f ≡ lay_value v (imaging_of image f)
unfolding lay_value
not-laid image f v h = rw (le-ltb f.at segment_limit h)

module _ (k : ℕ) (w : Wide) where
  pub started-is : (t : ℕ) {g at m size : ℕ} → g ≡ segment_at w.under t → g ≡ k → at ≡ get_or w.offsets t 0 → m ≡ get_or w.means t 0 → size ≡ element_size (width_in m)
      → record { at = at; size = size } ≡ start_in k w t
  unfolding start_cell
  started-is t eg h ea em es = rw (eq-eqb (segment_at w.under t) k (sym eg ∙ h), ea, es, em)

  pub elsewhere-is : (t : ℕ) {g : ℕ} → g ≡ segment_at w.under t → (g ≡ k → ⊥) → nowhere ≡ start_in k w t
  unfolding start_cell
  elsewhere-is t eg h = rw (ne_eqb (segment_at w.under t) k (λ e. h (eg ∙ e)))

  pub cell-is : (op t : ℕ) (image : List ℕ) (f : Filling) {g : Filling} → op ≡ E.ITEM → g ≡ start_in k w t → imaging_of image g ≡ image_in k w op t (imaging_of image f)
  unfolding image_event
  cell-is op t image f h e = rw (eq-eqb op E.ITEM h, e)

  pub value-is :
      (op t : ℕ) (s : Imaging) {v : ℕ} {x : Imaging} → (op ≡ E.ITEM → ⊥) → op ≡ E.VALUE → v ≡ get_or w.values t 0 → x ≡ lay_value v s → x ≡ image_in k w op t s
  unfolding image_event
  value-is op t s n h ev e = e ∙ rw (ne_eqb op E.ITEM n, eq-eqb op E.VALUE h, ev)

  pub neither-is : (op t : ℕ) (s : Imaging) → (op ≡ E.ITEM → ⊥) → (op ≡ E.VALUE → ⊥) → s ≡ image_in k w op t s
  unfolding image_event
  neither-is op t s n h = rw (ne_eqb op E.ITEM n, ne_eqb op E.VALUE h)
