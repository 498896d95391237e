-- What is answered of a text in one reading: the cell of a name, and the operand at an address of the program.
use Rattle.std.specs.Prelude.{◌≡◌, List, [], ℕ, eqb, get_or, Option, None, Some}
use Rattle.base.specs.Choose.{choose}
use Rattle.token.specs.declared.Token.{Token}
use Rattle.grammar.specs.Tree.{Statement}
use Rattle.grammar.specs.Grammar.{program}
use Rattle.scopes.specs.Search.{first_token}
use Rattle.tape.specs.Tape.{tape_statement}
use Rattle.ledger.specs.Book.{Wide, Thin}
use Rattle.tables.specs.Packed.{unpacked, based_in, meanings_of}
use Rattle.translation.specs.Translate.{kinds_of, values_of, place_at, named, labelled, make}
use Rattle.translation.specs.Layout.{place_cells, offset_of}
use Rattle.settled.specs.Texts.{all_tokens, Small, Text, Blanks, meant_in}
use Rattle.listing.specs.declared.Operand.{Operand}
use Rattle.listing.specs.declared.Seen.{Seen}
use Rattle.listing.specs.declared.Site.{Site}
use Rattle.listing.specs.Sound.{Sound, ruled, after_tokens}
use Rattle.listing.specs.Cells.{sited, sites_from, site_by}
use Rattle.listing.specs.declared.Span.{Span}
use Rattle.listing.specs.Operands.{span_along}

-- The ledger of a text, as the instructions of its events are made by it.
pub record Book (ts : List Token) (x : Statement) : Type 0 where
  pub wide : Wide
  pub thin : Thin
  pub values-are : wide.values ≡ values_of ts
  pub means-are : meanings_of wide.means wide.under ≡ (meant_in ts x).means
  pub offsets_are : (t : ℕ) → get_or wide.offsets t 0 ≡ offset_of (place_cells (meant_in ts x).bases (meant_in ts x).cells).placed t
  pub found-is : thin.found ≡ (named ts x).found
  pub goes-is : thin.goes ≡ (labelled ts x).goes
  pub opens-are : thin.opens ≡ (meant_in ts x).opens

-- from the place of its first token, which the names in front of the text do not have
abbrev pub operand_from : (from to : ℕ) → Option Operand
operand_from from to = choose (eqb from 0) None (Some (record { from = from; to = to }))

-- the places of the first and the last token of the operand, which is `)` where it is indexed
abbrev pub operand_of : List Token → Option Span → Option Operand
operand_of ts None = None
operand_of ts (Some s) = operand_from (place_at ts s.token) (place_at ts s.last)

pub record Located (ts : List Token) (x : Statement) (address : ℕ) (operand : Option Operand) : Type 0 where
  pub book : Book ts x
  pub operand-is : operand ≡ operand_of ts (span_along address (kinds_of ts) book.wide book.thin (tape_statement x []))

abbrev pub LocatedBy : Option Sound → (address : ℕ) (operand : Option Operand) → Type 0
LocatedBy None address operand = operand ≡ None
LocatedBy (Some s) address operand = Located s.tokens s.tree address operand

pub record Sees (s : Option Sound) (key address : ℕ) (r : Seen) : Type 0 where
  pub site-is : r.site ≡ site_by s key
  pub located : LocatedBy s address r.operand

-- ── by the ledger ──

abbrev pub place_by : Wide → ℕ → ℕ
place_by w t = get_or w.offsets t 0

-- what is declared at token t, before those behind it
abbrev pub sited_in : Wide → (key t : ℕ) → Option Site → Option Site
sited_in w key t later = sited w.values (place_by w) key t (unpacked t (get_or w.means t 0) (based_in (get_or w.under t 0))) later

abbrev pub sites_in : Wide → (key : ℕ) → Option Site
sites_in w key = sites_from w.values (place_by w) key 0 (meanings_of w.means w.under)

-- of a text on its tape
pub record Shows (ts : List Token) (kinds : List ℕ) (w : Wide) (b : Thin) (tape : List ℕ) (key address : ℕ) (r : Seen) : Type 0 where
  pub site-is : r.site ≡ sites_in w key
  pub operand-is : r.operand ≡ operand_of ts (span_along address kinds w b tape)

-- ── where the tape, or the tokens, are still to be found to be a program's ──

abbrev pub LooksOn : (source kinds tape : List ℕ) → Wide → Thin → (key address : ℕ) → Seen → Type 0
LooksOn source kinds tape w b key address r =
    let ts : List Token = all_tokens source in
    (x : Statement) → Text ts x w.values tape → kinds ≡ kinds_of ts → Blanks ts w b → Sees (ruled ts x (make ts x).broken) key address r

abbrev pub LooksAt : (source kinds : List ℕ) → Wide → Thin → (key address : ℕ) → Seen → Type 0
LooksAt source kinds w b key address r =
    let ts : List Token = all_tokens source in
    kinds ≡ kinds_of ts → w.values ≡ values_of ts → Small ts → Blanks ts w b → Sees (after_tokens ts (program kinds first_token)) key address r
