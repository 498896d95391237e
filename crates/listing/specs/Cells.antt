-- The cell that a name means to who runs a text: the first in the text that is declared with this name.
use Rattle.std.specs.Prelude.{List, [], ◌∷◌, Bool, ℕ, suc, eqb, get_or, Option, None, Some, is_some}
use Rattle.base.specs.Choose.{choose}
use Rattle.token.specs.declared.Token.{Token}
use Rattle.static_rules.specs.Meaning.{Meaning, nothing, register, cell, routine, function, Cell, element_size}
use Rattle.translation.specs.Layout.{offset_of}
use Rattle.translation.specs.Translate.{Made, make, values_of}
use Rattle.listing.specs.declared.Site.{Site}
use Rattle.listing.specs.Sound.{Sound, sound_of}

-- ── the cells of a name ──

-- a cell at its offset, with whether there are more of its name
abbrev pub site_of : Cell → (offset : ℕ) → (more : Bool) → Site
site_of c offset more =
    record { more = more; segment = c.base.segment; offset = offset; size = element_size c.width; elements = c.elements; array = c.array }

module _ (values : List ℕ) (place : ℕ → ℕ) (key : ℕ) where
  -- what is declared at token t, before those behind it
  unfoldable pub sited : ℕ → Meaning → Option Site → Option Site
  sited t m later =
      elim m [ nothing ↦ later | register r ↦ later | cell c ↦ choose (eqb (get_or values t 0) key) (Some (site_of c (place t) (is_some later))) later | routine r ↦ later | function k ↦ later ]

  -- by the meanings of the tokens from t on
  unfoldable pub sites_from : ℕ → List Meaning → Option Site
  sites_from t [] = None
  sites_from t (m ∷ ms) = sited t m (sites_from (suc t) ms)

-- by a name's key
unfoldable pub site_in : List Token → Made → (key : ℕ) → Option Site
site_in ts m key = sites_from (values_of ts) (offset_of m.layout.placed) key 0 m.tables.means

abbrev pub site_by : Option Sound → (key : ℕ) → Option Site
site_by None key = None
site_by (Some s) key = site_in s.tokens (make s.tokens s.tree) key

abbrev pub site_named : (source : List ℕ) (key : ℕ) → Option Site
site_named source key = site_by (sound_of source) key
