-- What writers leave of a text: `still` for no piece, `then` for pieces in turn, `more` for a piece byte by byte, `again` and `counted` for one byte again and
-- again, `called` for a piece by another name; and of the room that was lent, `from_front` and `from_place`. Assumes nothing.
use Prim.Native.Nat.{ℕ, zero, suc, ◌+◌, ◌≤◌, ◌<◌}
use mathlib.Core.Path.{◌≡◌, refl, sym, ap, ◌∙◌}
use mathlib.Core.List.{List, [], ◌∷◌, ◌++◌, append_assoc, append-nil}
use native.Mathlib.Omega.{arith}
use native.Mathlib.Numerals.{add-one}
use lib.ListN.{length, take, drop, get_or, replicate, length-append, length-take, length-drop}
use lib.Seq.{take-nil, take-suc}
use Rattle.std.specs.Borrow.{MutBor}
use Rattle.figures.specs.declared.Text.{Text}
use Rattle.figures.specs.Writing.{Adds, Holds, Puts, StandsIn}

-- a room keeps its length
pub holds-length : {room text now : List ℕ} {at : ℕ} → Holds room text now at → length now ≡ length room
holds-length {room} {text} h = ap length h.stands ∙ length-append (take (length room) text) (drop (length text) room) ∙ omega (arith, length-take (length room) text, length-drop (length text) room)

pub still : {t : Text} → Puts [] t t
still {t} = record { adds = λ room text h. rw (append-nil text) h; same_room = refl }

-- a piece, and another behind it
pub then : {a b : List ℕ} {t u v : Text} → Puts a t u → Puts b u v → Puts (a ++ b) t v
then {a} {b} f g = record {
  adds = λ room text h. rw (← append_assoc text a b) (g.adds room (text ++ a) (f.adds room text h));
  same_room = g.same_room ∙ f.same_room;
}

-- a piece by another name
pub called : {a b : List ℕ} {t u : Text} → a ≡ b → Puts a t u → Puts b t u
called e f = rw e at f

pub more : (piece : List ℕ) (i : ℕ) {t u v : Text} → i < length piece → Puts (take i piece) t u → Puts (get_or piece i 0 ∷ []) u v → Puts (take (i + 1) piece) t v
more piece i l f g = rw (add-one i, take-suc piece i 0 l) (then f g)

replicate_more : (i b : ℕ) → replicate i b ++ (b ∷ []) ≡ replicate (suc i) b
replicate_more zero b = refl
replicate_more (suc i) b = ap (λ (l : List ℕ). b ∷ l) (replicate_more i b)

pub again : (i b : ℕ) {t u v : Text} → Puts (replicate i b) t u → Puts (b ∷ []) u v → Puts (replicate (i + 1) b) t v
again i b f g = rw (add-one i, ← replicate_more i b) (then f g)

pub counted : (n b : ℕ) {i : ℕ} {t u : Text} → n ≤ i → i ≤ n → Puts (replicate i b) t u → Puts (replicate n b) t u
counted n b {i} l g f = let e : n ≡ i = omega arith in rw e f

-- what stands in the room in the end, of a text that was written from its front, or from a place in it
module _ {a now : List ℕ} {at : ℕ} {r : MutBor (List ℕ)} {t u : Text} where
  pub from_front : StandsIn r 0 t → Puts a t u → at ≡ u.end → (r.ghost_name ≡ u.room.ghost_name → now ≡ u.room.now) → Holds r.now a now at
  from_front e f g h =
      rw (h (sym e.same_room ∙ sym f.same_room), g) ((rw (e.stands, e.ends) at f.adds) r.now [] record { stands = rw (take-nil (length r.now)); ends = omega arith })

  pub from_place : {end : ℕ} → StandsIn r end t → Puts a t u → at ≡ u.end → (r.ghost_name ≡ u.room.ghost_name → now ≡ u.room.now) → Adds a r.now end now at
  from_place e f g h = rw (h (sym e.same_room ∙ sym f.same_room), g) (rw (e.stands, e.ends) at f.adds)
