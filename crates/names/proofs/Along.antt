-- What a declaration, a use and a whole event leave, and the loop along the tape.
use mathlib.Core.Path.{◌≡◌, refl, sym, ap, subst, ◌∙◌}
use mathlib.Core.List.{List}
use Prim.Native.Nat.{ℕ, suc, ◌+◌, ◌-◌, ◌*◌, ◌/◌, ◌%◌, ◌≤◌, ◌<◌}
use native.Mathlib.Omega.{arith}
use lib.Dec.{eqb, ltb}
use lib.ListN.{get_or, length, drop}
use Rattle.base.proofs.Tests.{by-test}
use Rattle.tape.specs.Pass.{pass}
use Rattle.tape.specs.Events as E
use Rattle.tape.specs.Numbers.{family_at}
use Rattle.tape.specs.Names.{declaring, shape_at, index_after}
use Rattle.tape.proofs.Pass.{pass-turn, pass-end}
use Rattle.ledger.specs.Book.{Thin, thin_of, put_found, thin_limit}
use Rattle.ledger.proofs.Columns.{thin-length}
use Rattle.scopes.specs.Broken.{unbroken}
use Rattle.scopes.specs.Search.{standard_names, first_token, in_block, find, innermost}
use Rattle.scopes.specs.Names.{Named, note_found, use_name, declare_name, most_names}
use Rattle.names.specs.declared.Blocks.{Blocks}
use Rattle.scopes.specs.declared.Noted.{Noted}
use Rattle.names.specs.Judged.{entered, sought}
use Rattle.names.specs.Naming.{Naming, blocks_after, declare_at, use_register, use_place, use_at, name_op, beginning}
use Rattle.names.specs.Flat.{span, blocks_of, blocks_in, named_in, Rising, Roomy, Changed, Stays, Begun, Searching, search_in, naming}

-- ── a declaration, a use ──

module _ (keys : List ℕ) (l : Thin) (b : Blocks) (t : ℕ) (n : Noted) (key : ℕ) where
  pub declared :
      (start earlier : ℕ) (r : Noted) → key ≡ get_or keys t 0 → innermost (blocks_in l b) ≡ span l.opens start b.count
      → earlier ≡ in_block keys key (span l.opens start b.count) 0 → r ≡ entered earlier most_names t n
      → (found : List ℕ) → named_in found r ≡ declare_name keys t (blocks_in l b) (named_in found n)
  unfolding declare_name entered
  declared start earlier r k s e q found = rw (q, e, k, s)

  pub used :
      (d : ℕ) (r : Noted) (l' : Thin) → key ≡ get_or keys t 0 → d ≡ find keys key (blocks_in l b) → l' ≡ put_found t d l → r ≡ sought d t n
      → search_in l' r ≡ naming b (use_name keys t) (search_in l n)
  unfolding use_name note_found sought
  used d r l' k e s q = rw (q, s, e, k)

-- ── an event declares one name at most ──

module _ (keys : List ℕ) (bs : List (List ℕ)) where
  use-count : (t : ℕ) (s : Named) → (use_name keys t bs s).count ≡ s.count
  unfolding use_name note_found
  use-count t s = refl

  register-count : (op t : ℕ) (s : Named) → (use_register keys op t bs s).count ≡ s.count
  unfolding use_register
  register-count op t s = by-test P (eqb op E.PROCEDURE) _ _ (λ _. use-count (t + 2) s) (λ _. by-test P (eqb (family_at op) E.COMPARED) _ _ (λ _. use-count (t - 2) s) (λ _. refl))
    where
      P : Named → Type 0
      P r = r.count ≡ s.count

  place-count : (shape t : ℕ) (s : Named) → (use_place keys shape t bs s).count ≡ s.count
  unfolding use_place
  place-count shape t s = by-test P (ltb 3 shape) _ _ (λ _. refl) (λ _. by-test P (ltb shape 2) _ _ (λ _. use-count t s) (λ _. use-count (t + index_after shape) (use_name keys t bs s) ∙ use-count t s))
    where
      P : Named → Type 0
      P r = r.count ≡ s.count

  at_count : (op t : ℕ) (s : Named) → (use_at keys op t bs s).count ≡ s.count
  unfolding use_at
  at_count op t s = place-count (shape_at op) t (use_register keys op t bs s) ∙ register-count op t s

  declare-count : (op t : ℕ) (s : Named) → (declare_at keys op t bs s).count ≤ suc s.count
  unfolding declare_at declare_name
  declare-count op t s = by-test P (declaring op) _ _ (λ _. le_refl) (λ _. omega arith)
    where
      P : Named → Type 0
      P r = r.count ≤ suc s.count

      le_refl : suc s.count ≤ suc s.count
      le_refl = omega arith

-- ── along the tape ──

abbrev state : Thin → Blocks → Noted → Naming
state l b n = record { blocks = blocks_in l b; named = named_in l.found n }

-- i events are passed
pub record Going (tape keys thin₀ thin : List ℕ) (b : Blocks) (n : Noted) (i : ℕ) : Type 0 where
  pub is : pass (name_op keys) (state (thin_of thin) b n) (drop i tape) ≡ pass (name_op keys) (beginning (thin_of thin₀).found) tape
  pub goes-is : (thin_of thin).goes ≡ (thin_of thin₀).goes
  pub inside : i ≤ length tape
  pub rising : Rising (thin_of thin).written b.depth b.count
  pub deep : b.depth ≤ i + 1
  pub wide : b.count ≤ i + standard_names
  pub few : n.count ≤ i
  pub same : length thin ≡ length thin₀

pub going : (tape keys thin : List ℕ) (b : Blocks) → Begun (thin_of thin) b → Going tape keys thin thin b (record { count = 0; broken = unbroken }) 0
going tape keys thin b g =
    let d = g.depth in
    let c = g.count in
    record {
      is = rw g.is;
      goes-is = refl;
      inside = omega arith;
      rising = g.rising;
      deep = omega arith;
      wide = omega arith;
      few = omega arith;
      same = refl;
    }

-- there is room for one more block and one more name
pub roomy : (tape keys thin₀ thin : List ℕ) (b : Blocks) (n : Noted) (i : ℕ) → Going tape keys thin₀ thin b n i → i < length tape → first_token + length tape ≤ length thin₀ / 4 → length thin₀ ≤ 4 * thin_limit
    → Roomy (thin_of thin) b
roomy tape keys thin₀ thin b n i g h r w =
    let deep = g.deep in
    let wide = g.wide in
    let same = g.same in
    let o = thin-length 2 thin in
    let z = thin-length 3 thin in
    record { rising = g.rising; deep = omega arith; wide = omega arith; shallow = omega arith; small = omega arith }

module _ {tape keys thin₀ thin : List ℕ} {b : Blocks} {n : Noted} {i : ℕ} (g : Going tape keys thin₀ thin b n i) where
  pub going_on :
      (thin₁ : List ℕ) {thin₂ : List ℕ} {b' : Blocks} {n' n'' : Noted} (op t : ℕ) → i < length tape → op ≡ get_or tape i 0 % E.EVENTS → t ≡ get_or tape i 0 / E.EVENTS
      → ((f : List ℕ) → named_in f n' ≡ declare_at keys op t (blocks_in (thin_of thin) b) (named_in f n))
      → Changed (blocks_after op t (blocks_in (thin_of thin) b)) (thin_of thin₁) b b' → Stays (thin_of thin) (thin_of thin₁)
      → search_in (thin_of thin₂) n'' ≡ naming b' (use_at keys op t) (search_in (thin_of thin₁) n')
      → length thin₁ ≡ length thin → length thin₂ ≡ length thin₁ → Going tape keys thin₀ thin₂ b' n'' (i + 1)
  unfolding name_op
  going_on thin₁ {thin₂} {b'} {n'} {n''} op t h eo et declare change stays uses p q =
      let few = g.few in
      let deep = g.deep in
      let wide = g.wide in
      let deep' = change.deep in
      let wide' = change.wide in
      record {
        is = ap (λ (m : Naming). pass (name_op keys) m (drop (i + 1) tape)) stepped ∙ pass-turn (name_op keys) _ tape i op t h eo et g.is;
        goes-is = ap (λ (s : Searching). s.goes) uses ∙ (stays.goes-is ∙ g.goes-is);
        inside = omega arith;
        rising = subst (λ (l : List ℕ). Rising l b'.depth b'.count) (sym (ap (λ (s : Searching). s.written) uses)) change.rising;
        deep = omega arith;
        wide = omega arith;
        few = omega (
          arith,
          ap (λ (s : Searching). s.named.count) uses,
          at_count keys (blocks_in (thin_of thin₁) b') op t (named_in (thin_of thin₁).found n'),
          ap (λ (m : Named). m.count) (declare (thin_of thin₁).found),
          declare-count keys (blocks_in (thin_of thin) b) op t (named_in (thin_of thin₁).found n),
        );
        same = q ∙ (p ∙ g.same);
      }
    where
      used-so : state (thin_of thin₂) b' n'' ≡ record { blocks = blocks_in (thin_of thin₁) b'; named = use_at keys op t (blocks_in (thin_of thin₁) b') (named_in (thin_of thin₁).found n') }
      used-so = ap (λ (s : Searching). record { blocks = blocks_of s.opens s.written b'.depth b'.count; named = s.named }) uses

      stepped : state (thin_of thin₂) b' n'' ≡ name_op keys op t (state (thin_of thin) b n)
      stepped = used-so ∙ rw (change.is, stays.found-is, declare (thin_of thin).found)

  pub going_end : (start : List ℕ) → Stays (thin_of start) (thin_of thin₀) → length tape ≤ i
      → (named_in (thin_of thin).found n ≡ (pass (name_op keys) (beginning (thin_of start).found) tape).named) × ((thin_of thin).goes ≡ (thin_of start).goes)
  going_end start s h = (
    ap (λ (m : Naming). m.named) (pass-end (name_op keys) _ tape i h g.is)
        ∙ ap (λ (l : List ℕ). (pass (name_op keys) (beginning l) tape).named) s.found-is,
    g.goes-is ∙ s.goes-is,
  )
