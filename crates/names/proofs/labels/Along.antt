-- What a label, a GOTO and a whole event leave, and the two loops along the tape.
use mathlib.Core.Path.{◌≡◌, refl, ap, ◌∙◌}
use mathlib.Core.List.{List}
use Prim.Native.Nat.{ℕ, suc, ◌+◌, ◌/◌, ◌%◌, ◌≤◌, ◌<◌}
use native.Mathlib.Omega.{arith}
use lib.Dec.{eqb}
use lib.ListN.{get_or, length, drop}
use Rattle.base.proofs.Tests.{by-test}
use Rattle.tape.specs.Events as E
use Rattle.tape.specs.Pass.{pass}
use Rattle.tape.proofs.Pass.{pass-turn, pass-end}
use Rattle.ledger.specs.Book.{Thin, thin_of, on_thin, put_goes, thin_limit}
use Rattle.scopes.specs.declared.Noted.{Noted}
use Rattle.scopes.specs.Broken.{unbroken}
use Rattle.scopes.specs.Search.{in_block, find}
use Rattle.scopes.specs.Labels.{Labelled, note_label, set_label, most_labels}
use Rattle.names.specs.Judged.{entered, sought}
use Rattle.names.specs.Chains.{after, chain, blocks_in, labelled_in, Marking, mark_in, marking}
use Rattle.names.specs.Linking.{Linking, block_after, outer_after, links_after, link_op}
use Rattle.names.specs.Labelling.{Labelling, label_at, label_op, linked, Chained, labelled_by, labelled_along}

-- ── a label, a GOTO ──

module _ (keys links outer : List ℕ) (t : ℕ) (n : Noted) (key : ℕ) where
  pub label-set :
      (next same : ℕ) (r : Noted) → key ≡ get_or keys t 0 → next ≡ after links t → same ≡ in_block keys key (chain links next) 0 → r ≡ entered same most_labels t n
      → (goes : List ℕ) → labelled_in goes r ≡ set_label keys t (chain links (after links t)) (labelled_in goes n)
  unfolding set_label entered
  label-set next same r k e s q goes = rw (q, s, k, e)

  pub bound :
      (block l : ℕ) (r : Noted) (b b' : Thin) → b.opens ≡ links → b.written ≡ outer → key ≡ get_or keys t 0 → l ≡ find keys key (blocks_in links outer block) → b' ≡ put_goes t l b
      → r ≡ sought l t n
      → mark_in b' r ≡ marking (λ links outer. note_label t (find keys (get_or keys t 0) (blocks_in links outer block))) (mark_in b n)
  unfolding note_label sought
  bound block l r b b' x y k e s q = rw (q, s, e, k, x, y)

-- an event sets one label at most
label-count : (keys links outer : List ℕ) (op t block : ℕ) (s : Labelled) → (label_at keys links outer op t block s).count ≤ suc s.count
unfolding label_at set_label note_label
label-count keys links outer op t block s = by-test P (eqb op E.LABEL) _ _ (λ _. up) (λ _. by-test P (eqb op E.GOTO) _ _ (λ _. on) (λ _. on))
  where
    P : Labelled → Type 0
    P r = r.count ≤ suc s.count

    up : suc s.count ≤ suc s.count
    up = omega arith

    on : s.count ≤ suc s.count
    on = omega arith

-- ── the first loop ──

-- i events are passed
pub record Linked (tape thin₀ thin : List ℕ) (block i : ℕ) : Type 0 where
  pub is : pass link_op (record { links = (thin_of thin).opens; outer = (thin_of thin).written; block = block }) (drop i tape) ≡ linked tape (thin_of thin₀).opens (thin_of thin₀).written
  pub inside : i ≤ length tape
  pub small : block < thin_limit
  pub found-is : (thin_of thin).found ≡ (thin_of thin₀).found
  pub goes-is : (thin_of thin).goes ≡ (thin_of thin₀).goes
  pub same : length thin ≡ length thin₀

pub linking : (tape thin : List ℕ) → Linked tape thin thin 0 0
unfolding linked
linking tape thin = record { is = refl; inside = omega arith; small = omega arith; found-is = refl; goes-is = refl; same = refl }

module _ {tape thin₀ thin : List ℕ} {block i : ℕ} (g : Linked tape thin₀ thin block i) where
  pub linking-on :
      (thin₁ : List ℕ) {thin₂ : List ℕ} {block' : ℕ} (op t : ℕ) → i < length tape → op ≡ get_or tape i 0 % E.EVENTS → t ≡ get_or tape i 0 / E.EVENTS
      → block' ≡ block_after op t (thin_of thin).written block → thin_of thin₁ ≡ on_thin 2 (links_after op t block) (thin_of thin) → thin_of thin₂ ≡ on_thin 3 (outer_after op t block) (thin_of thin₁)
      → block' < thin_limit → length thin₁ ≡ length thin → length thin₂ ≡ length thin₁ → Linked tape thin₀ thin₂ block' (i + 1)
  unfolding link_op
  linking-on thin₁ {thin₂} op t h eo et b l o s p q =
      let e : thin_of thin₂ ≡ on_thin 3 (outer_after op t block) (on_thin 2 (links_after op t block) (thin_of thin)) = o ∙ ap (λ (x : Thin). on_thin 3 (outer_after op t block) x) l in
      record {
        is = rw (b, e) (pass-turn link_op _ tape i op t h eo et g.is);
        inside = omega arith;
        small = s;
        found-is = ap (λ (x : Thin). x.found) e ∙ g.found-is;
        goes-is = ap (λ (x : Thin). x.goes) e ∙ g.goes-is;
        same = q ∙ (p ∙ g.same);
      }

  pub linking-end : length tape ≤ i → Chained tape (thin_of thin₀) (thin_of thin)
  linking-end h =
      let e = pass-end link_op _ tape i h g.is in
      record { links-are = ap (λ (m : Linking). m.links) e; outer-is = ap (λ (m : Linking). m.outer) e; found-is = g.found-is; goes-is = g.goes-is }

-- ── the second loop ──

abbrev start : List ℕ → Labelling
start goes = record { block = 0; labelled = record { goes = goes; count = 0; broken = unbroken } }

-- i events are passed
pub record Binding (tape keys thin₀ thin : List ℕ) (block : ℕ) (n : Noted) (i : ℕ) : Type 0 where
  pub is :
      pass (label_op keys (thin_of thin₀).opens (thin_of thin₀).written) (record { block = block; labelled = labelled_in (thin_of thin).goes n }) (drop i tape)
      ≡ pass (label_op keys (thin_of thin₀).opens (thin_of thin₀).written) (start (thin_of thin₀).goes) tape
  pub inside : i ≤ length tape
  pub small : block < thin_limit
  pub few : n.count ≤ i
  pub links-are : (thin_of thin).opens ≡ (thin_of thin₀).opens
  pub outer-is : (thin_of thin).written ≡ (thin_of thin₀).written
  pub found-is : (thin_of thin).found ≡ (thin_of thin₀).found
  pub same : length thin ≡ length thin₀

pub binding : (tape keys thin : List ℕ) → Binding tape keys thin thin 0 (record { count = 0; broken = unbroken }) 0
binding tape keys thin = record { is = refl; inside = omega arith; small = omega arith; few = omega arith; links-are = refl; outer-is = refl; found-is = refl; same = refl }

module _ {tape keys thin₀ thin : List ℕ} {block : ℕ} {n : Noted} {i : ℕ} (g : Binding tape keys thin₀ thin block n i) where
  pub binding-on :
      {thin' : List ℕ} {block' : ℕ} {n' : Noted} (op t : ℕ) → i < length tape → op ≡ get_or tape i 0 % E.EVENTS → t ≡ get_or tape i 0 / E.EVENTS
      → mark_in (thin_of thin') n' ≡ marking (λ links outer. label_at keys links outer op t block) (mark_in (thin_of thin) n) → block' ≡ block_after op t (thin_of thin').written block
      → block' < thin_limit → length thin' ≡ length thin → Binding tape keys thin₀ thin' block' n' (i + 1)
  unfolding label_op
  binding-on {thin'} {block'} {n'} op t h eo et l b s p =
      let few = g.few in
      let links = (thin_of thin₀).opens in
      let outer = (thin_of thin₀).written in
      let outer' : (thin_of thin').written ≡ outer = ap (λ (x : Marking). x.outer) l ∙ g.outer-is in
      let l' : labelled_in (thin_of thin').goes n' ≡ label_at keys links outer op t block (labelled_in (thin_of thin).goes n) =
      ap (λ (x : Marking). x.labelled) l ∙ rw (g.links-are, g.outer-is) in
      record {
        is = rw (b, outer', l') (pass-turn (label_op keys links outer) _ tape i op t h eo et g.is);
        inside = omega arith;
        small = s;
        few = omega (arith, ap (λ (m : Labelled). m.count) l', label-count keys links outer op t block (labelled_in (thin_of thin).goes n));
        links-are = ap (λ (x : Marking). x.links) l ∙ g.links-are;
        outer-is = outer';
        found-is = ap (λ (x : Marking). x.found) l ∙ g.found-is;
        same = p ∙ g.same;
      }

  pub binding-end : length tape ≤ i
      → (labelled_in (thin_of thin).goes n ≡ labelled_by tape keys (thin_of thin₀).opens (thin_of thin₀).written (thin_of thin₀).goes) × ((thin_of thin).found ≡ (thin_of thin₀).found)
  unfolding labelled_by
  binding-end h = (ap (λ (m : Labelling). m.labelled) (pass-end (label_op keys (thin_of thin₀).opens (thin_of thin₀).written) _ tape i h g.is), g.found-is)

-- the one loop after the other
pub both-loops : (tape keys : List ℕ) (b₀ b₁ : Thin) (goes found : List ℕ) (n : Noted) → Chained tape b₀ b₁
    → labelled_in goes n ≡ labelled_by tape keys b₁.opens b₁.written b₁.goes → found ≡ b₁.found
    → (labelled_in goes n ≡ labelled_along tape keys b₀.opens b₀.written b₀.goes) × (found ≡ b₀.found)
unfolding labelled_along
both-loops tape keys b₀ b₁ goes found n c l f = (l ∙ rw (c.links-are, c.outer-is, c.goes-is), f ∙ c.found-is)
