-- On the tape of a program naming is what the definition says of it, event by event.
use mathlib.Core.Path.{◌≡◌, refl, ap, sym, ◌∙◌}
use mathlib.Core.List.{List, [], ◌∷◌, ◌++◌}
use mathlib.Core.Bool.{Bool, true, false}
use mathlib.Core.Option.{none, some}
use Prim.Native.Nat.{ℕ}
use lib.Dec.{eqb, ltb}
use Rattle.base.specs.Choose.{choose}
use Rattle.grammar.specs.Tree.{Statement, full, short, byte}
use Rattle.grammar.specs.Derives.{is_program}
use Rattle.grammar.specs.Events.{opened, closed, entered, left, labelled, sent, named, celled, itemed, valued, based, Event, edge, route, entry, phrase, mark, events_of}
use Rattle.grammar.specs.Places.{within, body, Place, after}
use Rattle.grammar.specs.Texts.{Fits, Stands}
use Rattle.grammar.proofs.Texts.{program-text, text-stands}
use Rattle.tape.specs.Events as E
use Rattle.tape.specs.Tape.{tape_statement}
use Rattle.tape.specs.Pass.{pass}
use Rattle.tape.specs.Numbers.{EDGE, ENTRY, layer_at, family_at}
use Rattle.tape.specs.Written.{layer_of, op_of, token_of}
use Rattle.tape.specs.Names.{declaring, declares_at, shape_at, place_at, register_at, uses_at}
use Rattle.tape.proofs.Numbers.{other-layer}
use Rattle.tape.proofs.Names.{declares-at, uses-at}
use Rattle.tape.proofs.Written.{tree-tape, follows}
use Rattle.scopes.specs.Broken.{unbroken}
use Rattle.scopes.specs.Names.{Named, names_in, use_name, declare_name, declare_names, use_names, name_event, name_program}
use Rattle.names.specs.Naming.{Naming, blocks_after, declare_at, use_register, use_place, use_at, name_op, beginning}

module _ (keys : List ℕ) where
  -- ── what an event declares and uses, as lists ──

  declared : (op t : ℕ) (bs : List (List ℕ)) (s : Named) → declare_at keys op t bs s ≡ declare_names keys (declares_at op t) bs s
  unfolding declare_at declare_names
  declared op t bs s = by-choice (declaring op)
    where
      by-choice : (b : Bool) → choose b (declare_name keys t bs s) s ≡ declare_names keys (choose b (t ∷ []) []) bs s
      by-choice true = refl
      by-choice false = refl

  uses-both : (xs ys : List ℕ) (bs : List (List ℕ)) (s : Named) → use_names keys (xs ++ ys) bs s ≡ use_names keys ys bs (use_names keys xs bs s)
  unfolding use_names
  uses-both [] ys bs s = refl
  uses-both (x ∷ xs) ys bs s = uses-both xs ys bs (use_name keys x bs s)

  used : (op t : ℕ) (bs : List (List ℕ)) (s : Named) → use_at keys op t bs s ≡ use_names keys (uses_at op t) bs s
  unfolding use_at use_register use_place use_names
  used op t bs s = place (shape_at op) _ ∙ (ap (λ (x : Named). use_names keys (place_at (shape_at op) t) bs x) register ∙ sym (uses-both (register_at op t) (place_at (shape_at op) t) bs s))
    where
      by : (b : Bool) (u v : List ℕ) (x y s : Named) → x ≡ use_names keys u bs s → y ≡ use_names keys v bs s → choose b x y ≡ use_names keys (choose b u v) bs s
      by true u v x y s e f = e
      by false u v x y s e f = f

      place : (n : ℕ) (s : Named) → use_place keys n t bs s ≡ use_names keys (place_at n t) bs s
      place n s = by (ltb 3 n) _ _ _ _ s refl (by (ltb n 2) _ _ _ _ s refl refl)

      register : use_register keys op t bs s ≡ use_names keys (register_at op t) bs s
      register = by (eqb op E.PROCEDURE) _ _ _ _ s refl (by (eqb (family_at op) E.COMPARED) _ _ _ _ s refl refl)

-- ── the blocks that an event leaves ──

-- an event that is neither an edge nor an entry leaves them
unheeded : (e : Event) (bs : List (List ℕ)) → eqb (layer_of e) EDGE ≡ false → eqb (layer_of e) ENTRY ≡ false → blocks_after (op_of e) (token_of e) bs ≡ bs
unfolding blocks_after layer_at
unheeded e bs a b = rw (other-layer e E.BLOCK a, other-layer e E.END-BLOCK a, other-layer e E.REGISTER b, other-layer e E.ITEM b, other-layer e E.PROCEDURE a)

blocks_at : (e : Event) (p : Place) → Fits e p → blocks_after (op_of e) (token_of e) (names_in p) ≡ names_in (after e p)
unfolding blocks_after
blocks_at (edge (opened t ls)) p h = refl
blocks_at (edge (closed t)) (within b ∷ p) h = refl
blocks_at (edge (entered n r)) (within b ∷ p) h = refl
blocks_at (edge (left n)) (body m r ∷ p) h = refl
blocks_at (route (labelled l)) (within b ∷ p) h = refl
blocks_at (route (sent t n)) p h = refl
blocks_at (entry (named r)) (within b ∷ p) h = refl
blocks_at (entry (celled none full)) (within b ∷ p) h = refl
blocks_at (entry (celled none short)) (within b ∷ p) h = refl
blocks_at (entry (celled none (byte true))) (within b ∷ p) h = refl
blocks_at (entry (celled none (byte false))) (within b ∷ p) h = refl
blocks_at (entry (celled (some c) full)) (within b ∷ p) h = refl
blocks_at (entry (celled (some c) short)) (within b ∷ p) h = refl
blocks_at (entry (celled (some c) (byte true))) (within b ∷ p) h = refl
blocks_at (entry (celled (some c) (byte false))) (within b ∷ p) h = refl
blocks_at (entry (itemed c w i)) (within b ∷ p) h = refl
blocks_at (entry (valued t)) (within b ∷ p) h = refl
blocks_at (entry (based n)) (within b ∷ p) h = refl
blocks_at (phrase f) p h = unheeded (phrase f) (names_in p) refl refl
blocks_at (mark m) p h = unheeded (mark m) (names_in p) refl refl
blocks_at (edge (closed t)) [] h = elim h [ ]
blocks_at (edge (closed t)) (body m r ∷ p) h = elim h [ ]
blocks_at (edge (entered n r)) [] h = elim h [ ]
blocks_at (edge (entered n r)) (body m return ∷ p) h = elim h [ ]
blocks_at (edge (left n)) [] h = elim h [ ]
blocks_at (edge (left n)) (within b ∷ p) h = elim h [ ]
blocks_at (route (labelled l)) [] h = elim h [ ]
blocks_at (route (labelled l)) (body m r ∷ p) h = elim h [ ]
blocks_at (entry (named r)) [] h = elim h [ ]
blocks_at (entry (named r)) (body m return ∷ p) h = elim h [ ]
blocks_at (entry (celled none full)) [] h = elim h [ ]
blocks_at (entry (celled none full)) (body m r ∷ p) h = elim h [ ]
blocks_at (entry (celled none short)) [] h = elim h [ ]
blocks_at (entry (celled none short)) (body m r ∷ p) h = elim h [ ]
blocks_at (entry (celled none (byte false))) [] h = elim h [ ]
blocks_at (entry (celled none (byte false))) (body m r ∷ p) h = elim h [ ]
blocks_at (entry (celled none (byte true))) [] h = elim h [ ]
blocks_at (entry (celled none (byte true))) (body m r ∷ p) h = elim h [ ]
blocks_at (entry (celled (some c) full)) [] h = elim h [ ]
blocks_at (entry (celled (some c) full)) (body m r ∷ p) h = elim h [ ]
blocks_at (entry (celled (some c) short)) [] h = elim h [ ]
blocks_at (entry (celled (some c) short)) (body m r ∷ p) h = elim h [ ]
blocks_at (entry (celled (some c) (byte false))) [] h = elim h [ ]
blocks_at (entry (celled (some c) (byte false))) (body m r ∷ p) h = elim h [ ]
blocks_at (entry (celled (some c) (byte true))) [] h = elim h [ ]
blocks_at (entry (celled (some c) (byte true))) (body m r ∷ p) h = elim h [ ]
blocks_at (entry (itemed c w i)) [] h = elim h [ ]
blocks_at (entry (itemed c w i)) (body m r ∷ p) h = elim h [ ]
blocks_at (entry (valued t)) [] h = elim h [ ]
blocks_at (entry (valued t)) (body m r ∷ p) h = elim h [ ]
blocks_at (entry (based n)) [] h = elim h [ ]
blocks_at (entry (based n)) (body m r ∷ p) h = elim h [ ]

-- ── along the tape ──

module _ (kinds keys : List ℕ) where
  abbrev At : Place → Named → Naming → Type 0
  At p s m = m ≡ record { blocks = names_in p; named = s }

  turn : (e : Event) (p : Place) (s : Named) (m : Naming) → Stands kinds e p 0 → At p s m → At (after e p) (name_event keys e p s) (name_op keys (op_of e) (token_of e) m)
  unfolding name_op name_event
  turn e p s m g r = rw (r, declared keys (op_of e) (token_of e) (names_in p) s, blocks_at e p g.fits, used keys (op_of e) (token_of e) (names_in (after e p)), declares-at e, uses-at kinds e _ _ g.is)

pub named-program :
    (kinds keys found : List ℕ) (x : Statement) (i j : ℕ) → is_program kinds x i j
    → (pass (name_op keys) (beginning found) (tape_statement x [])).named ≡ name_program keys x (record { found = found; count = 0; broken = unbroken })
named-program kinds keys found x i j h =
    ap (λ (l : List ℕ). (pass (name_op keys) (beginning found) l).named) (tree-tape x)
    ∙ ap (λ (m : Naming). m.named) (follows (name_op keys) (name_event keys) (At kinds keys) (λ e p. Stands kinds e p 0) (turn kinds keys) (events_of x) [] _ _
    (text-stands kinds _ _ _ _ (program-text kinds x i j h)) refl)
