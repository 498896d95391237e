-- The cells of a name by the ledger, token by token from the last: what is declared at a token, and a turn of the loop. Assumes nothing.
use mathlib.Core.Path.{◌≡◌, refl, sym, ap, ◌∙◌}
use mathlib.Core.Bool.{Bool, true, false, ◌&&◌}
use mathlib.Core.List.{List, [], ◌∷◌}
use Prim.Native.Nat.{ℕ, suc, ◌/◌, ◌≤◌, ◌<◌}
use native.Mathlib.Omega.{arith}
use lib.Dec.{eqb}
use lib.ListN.{length, drop, get_or}
use lib.Seq.{drop-cons, drop-length}
use Rattle.std.specs.Prelude.{Option, None, Some, is_some}
use Rattle.base.proofs.Tests.{never_true}
use Rattle.static_rules.specs.Meaning.{Meaning, nothing, Based}
use Rattle.tables.specs.Packed.{is_cell_in, cell_in, based_in, unpacked, meanings_from, meanings_of}
use Rattle.tables.proofs.Meanings.{by-sort, as-cell, meaning-at}
use Rattle.ledger.specs.Book.{Wide, wide_of}
use Rattle.ledger.proofs.Columns.{wide-length}
use Rattle.listing.specs.declared.Site.{Site}
use Rattle.listing.specs.Cells.{site_of, sited, sites_from}

and_first : (a b : Bool) → (a && b) ≡ true → a ≡ true
and_first true b e = refl
and_first false b e = e

and_second : (a b : Bool) → (a && b) ≡ true → b ≡ true
and_second true b e = e
and_second false b e = never_true e

-- ── at a token ──

module _ (w : Wide) (key t : ℕ) (later : Option Site) where
  abbrev m : ℕ
  m = get_or w.means t 0

  abbrev base : Based
  base = based_in (get_or w.under t 0)

  abbrev place : ℕ → ℕ
  place i = get_or w.offsets i 0

  pub sited-here : (is_cell_in m && eqb (get_or w.values t 0) key) ≡ true
      → Some (site_of (cell_in t m base) (get_or w.offsets t 0) (is_some later)) ≡ sited w.values place key t (unpacked t m base) later
  unfolding sited
  sited-here e = rw (as-cell t m base (and_first (is_cell_in m) _ e), and_second (is_cell_in m) _ e)

  pub sited-else : (is_cell_in m && eqb (get_or w.values t 0) key) ≡ false → later ≡ sited w.values place key t (unpacked t m base) later
  unfolding sited
  sited-else e =
      by-sort (λ (y : Meaning). later ≡ sited w.values place key t y later) t m base (λ a. refl) (λ a b. refl)
      (λ a b h. let q : eqb (get_or w.values t 0) key ≡ false = rw h at e in rw q) (λ a b h i. refl) (λ a b h i. refl)

-- ── the loop ──

length-meanings : (t : ℕ) (ms bs : List ℕ) → length (meanings_from t ms bs) ≡ length ms
unfolding meanings_from
length-meanings t [] bs = refl
length-meanings t (m ∷ ms) bs = ap suc (length-meanings (suc t) ms bs)

module _ (wide : List ℕ) (key : ℕ) where
  abbrev w : Wide
  w = wide_of wide

  abbrev ms : List Meaning
  ms = meanings_of w.means w.under

  -- the cells from token t on
  abbrev pub sites_at : ℕ → Option Site
  sites_at t = sites_from w.values (λ (i : ℕ). get_or w.offsets i 0) key t (drop t ms)

  -- at token t, before others
  abbrev at : ℕ → Meaning → Option Site → Option Site
  at t m s = sited w.values (λ (i : ℕ). get_or w.offsets i 0) key t m s

  long : length ms ≡ length wide / 4
  long = length-meanings 0 w.means w.under ∙ wide-length 1 wide

  pub sites-start : None ≡ sites_at (length wide / 4)
  unfolding sites_from
  sites-start = rw (← long, drop-length ms)

  sites-step : (t : ℕ) → t < length ms → sites_at t ≡ at t (get_or ms t nothing) (sites_at (suc t))
  unfolding sites_from
  sites-step t h = ap (λ (l : List Meaning). sites_from w.values (λ (i : ℕ). get_or w.offsets i 0) key t l) (drop-cons ms t nothing h)

  pub sites-turn : (u t : ℕ) {s s' : Option Site} → suc t ≡ u → u ≤ length wide / 4 → s ≡ sites_at u
      → s' ≡ at t (unpacked t (get_or w.means t 0) (based_in (get_or w.under t 0))) s → s' ≡ sites_at t
  sites-turn u t e h es e' =
      let l = long in
      e' ∙ (ap (at t (unpacked t (get_or w.means t 0) (based_in (get_or w.under t 0)))) (es ∙ ap sites_at (sym e))
      ∙ (ap (λ (m : Meaning). at t m (sites_at (suc t))) (sym (meaning-at w.means w.under t)) ∙ sym (sites-step t (omega arith))))
