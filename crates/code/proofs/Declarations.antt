-- What goes along a tape and heeds no event of registers and cells leaves their declarations out. Assumes nothing.
use mathlib.Core.Path.{◌≡◌, refl, ◌∙◌}
use mathlib.Core.List.{List, [], ◌∷◌}
use mathlib.Core.Bool.{true, false}
use mathlib.Core.Option.{Option, none, some}
use Prim.Native.Nat.{ℕ}
use Rattle.base.specs.Lists.{All, member}
use Rattle.base.proofs.Lists.{each}
use Rattle.grammar.specs.Tree.{Width, full, short, byte, Register, Item}
use Rattle.tape.specs.Events as E
use Rattle.tape.specs.Tape.{event, tape_each, tape_value, tape_item, tape_register, cells_event}
use Rattle.emit.proofs.Events.{declaring}

module _ {X : Type 0} (run : List ℕ → X) (quiet : (t : ℕ) (k : List ℕ) → All (λ (op : ℕ). run (event op t ∷ k) ≡ run k) declaring) where
  event-out : (op : ℕ) → member op declaring ≡ true → (t : ℕ) (k : List ℕ) → run (event op t ∷ k) ≡ run k
  event-out op h t k = each (λ (op : ℕ). run (event op t ∷ k) ≡ run k) declaring (quiet t k) op h

  each-out : {A : Type 0} (out : A → List ℕ → List ℕ) → ((a : A) (k : List ℕ) → run (out a k) ≡ run k) → (l : List A) (k : List ℕ) → run (tape_each out l k) ≡ run k
  unfolding tape_each
  each-out out h [] k = refl
  each-out out h (a ∷ l) k = h a _ ∙ each-out out h l k

  pub registers-out : (rs : List Register) (k : List ℕ) → run (tape_each tape_register rs k) ≡ run k
  registers-out rs k = each-out tape_register (λ (r : Register). event-out E.REGISTER refl r.name) rs k

  opening-out : (c : Option ℕ) (w : Width) (k : List ℕ) → run (cells_event c w ∷ k) ≡ run k
  opening-out none full k = event-out E.SINGLE-FULL refl 0 k
  opening-out none short k = event-out E.SINGLE-SHORT refl 0 k
  opening-out none (byte false) k = event-out E.SINGLE-BYTE refl 0 k
  opening-out none (byte true) k = event-out E.SINGLE-CHARACTER refl 0 k
  opening-out (some c) full k = event-out E.ARRAY-FULL refl c k
  opening-out (some c) short k = event-out E.ARRAY-SHORT refl c k
  opening-out (some c) (byte false) k = event-out E.ARRAY-BYTE refl c k
  opening-out (some c) (byte true) k = event-out E.ARRAY-CHARACTER refl c k

  item_out : (i : Item) (k : List ℕ) → run (tape_item i k) ≡ run k
  unfolding tape_item
  item_out i k = event-out E.ITEM refl i.name _ ∙ each-out tape_value (event-out E.VALUE refl) i.numbers k

  pub cells_out : (c : Option ℕ) (w : Width) (is : List Item) (k : List ℕ) → run (cells_event c w ∷ tape_each tape_item is k) ≡ run k
  cells_out c w is k = opening-out c w _ ∙ each-out tape_item item_out is k
