-- An event's addresses, from the facts of its calls; and a turn of the loop, which leaves the ledger's other columns as they are. Assumes nothing.
use Prim.Native.Nat.{ℕ, ◌+◌, ◌/◌, ◌%◌, ◌<◌}
use mathlib.Core.Path.{◌≡◌, ap, ◌∙◌}
use mathlib.Core.List.{List}
use lib.ListN.{length, drop, get_or}
use Rattle.tape.specs.Events as E
use Rattle.tape.specs.Numbers.{family_at}
use Rattle.tape.specs.Pass.{pass}
use Rattle.tape.proofs.Pass.{pass-turn}
use Rattle.ledger.specs.Book.{Wide, Thin}
use Rattle.emit.specs.declared.Writing.{Writing}
use Rattle.emit.specs.Events.{writing_after, writing_in}
use Rattle.emit.specs.Along.{event_bytes, past_in}
use Rattle.code.specs.Places.{kept, mark_after, Placing, placing_of, place_event, on_marks, place_step}

pub place_is :
    (keep : ℕ → ℕ) (kinds values found goes means under opens offsets marks : List ℕ) (op t p : ℕ) (w : Writing) {marks' : List ℕ} {w' : Writing} {q : ℕ}
    → q ≡ p + event_bytes kinds values found goes means under opens offsets marks op t w
    → marks' ≡ mark_after (family_at op) t (keep p) (keep q) w.aim marks → w' ≡ writing_after values found means under offsets op t w
    → placing_of q w' marks' ≡ place_event keep kinds values found goes means under opens offsets op t (placing_of p w marks)
unfolding place_event
place_is keep kinds values found goes means under opens offsets marks op t p w eq ek ew = rw (ek, ew, eq)

-- but for the addresses, as it was
abbrev pub Same : (before after : Thin) → Type 0
Same b₀ b = b ≡ on_marks (λ (m : List ℕ). b.written) b₀

module _ (kinds tape : List ℕ) (w : Wide) (b₀ : Thin) where
  pub places-turn :
      (b b' : Thin) (i op t p q : ℕ) (v v' : Writing) {x : Placing} → Same b₀ b → i < length tape → op ≡ get_or tape i 0 % E.EVENTS → t ≡ get_or tape i 0 / E.EVENTS
      → q ≡ (past_in kinds w b op t p v).at → b' ≡ on_marks (mark_after (family_at op) t (kept p) (kept q) v.aim) b → v' ≡ writing_in w b op t v
      → pass (place_step kinds w b₀) (placing_of p v b.written) (drop i tape) ≡ x
      → Same b₀ b' × (pass (place_step kinds w b₀) (placing_of q v' b'.written) (drop (i + 1) tape) ≡ x)
  places-turn b b' i op t p q v v' same h eo et eq eb ev e =
      let ef : b.found ≡ b₀.found = ap (λ (y : Thin). y.found) same in
      let eg : b.goes ≡ b₀.goes = ap (λ (y : Thin). y.goes) same in
      let en : b.opens ≡ b₀.opens = ap (λ (y : Thin). y.opens) same in
      let ek : b'.written ≡ mark_after (family_at op) t (kept p) (kept q) v.aim b.written = ap (λ (y : Thin). y.written) eb in (
        eb ∙ rw (ef, eg, en, ek),
        rw
            (place_is kept kinds w.values b₀.found b₀.goes w.means w.under b₀.opens w.offsets b.written op t p v (rw (ef, eg, en) at eq) ek (rw ef at ev))
            (pass-turn (place_step kinds w b₀) (placing_of p v b.written) tape i op t h eo et e),
      )
