-- Where the walk is, as arrays: what each move leaves.
use mathlib.Core.Path.{◌≡◌, refl, sym, ap, ap₂, ◌∙◌}
use mathlib.Core.List.{List, [], ◌∷◌, map}
use Prim.Native.Nat.{ℕ, suc, ◌+◌, ◌-◌, ◌*◌, ◌<◌}
use native.Mathlib.Omega.{arith}
use lib.ListN.{get_or, set, length}
use Rattle.static_rules.specs.Meaning.{Based, meaning_of, register_of}
use Rattle.tables.specs.Packed.{based_in, meanings_of, register_in, packed_at}
use Rattle.tables.specs.Stacks.{stack_of, top, under}
use Rattle.tables.proofs.Stacks.{pushed, popped}
use Rattle.tables.proofs.Meanings.{based-is, register-is, meaning-at}
use Rattle.meanings.specs.declared.Scope.{Scope}
use Rattle.meanings.specs.Along.{first_base, later_bases, enter_block, leave_block, enter_procedure, leave_procedure, change_base}
use Rattle.meanings.specs.Flat.{within_of, Moved}

abbrev pub scope : (own owners base outer : ℕ) → Scope
scope own owners base outer = record { own = own; owners = owners; base = base; outer = outer }

first-is : (l : List ℕ) → based_in (top l) ≡ first_base (map based_in l)
first-is [] = refl
first-is (x ∷ l) = refl

later-is : (l : List ℕ) → map based_in (under l) ≡ later_bases (map based_in l)
later-is [] = refl
later-is (x ∷ l) = refl

-- the register that the name at token t means, by its packed meaning
pub register-at : (found means bases : List ℕ) (t : ℕ) → register_of (meaning_of found (meanings_of means bases) t) ≡ register_in (packed_at found means t)
register-at found means bases t = ap register_of (meaning-at means bases (get_or found t 0)) ∙ register-is _ _ _

module _ (owners outer : List ℕ) (s : Scope) where
  pub entered-block :
      {outer' : List ℕ} → s.outer < length outer → outer' ≡ set outer s.outer s.base
      → Moved (enter_block (within_of owners outer s)) owners outer' (suc s.outer) s.owners (scope s.own s.owners s.base (s.outer + 1))
  entered-block h e = record {
    is = ap (λ (l : List ℕ). record { own = s.own; owners = stack_of owners s.owners; base = based_in s.base; outer = map based_in l })
        (ap (λ (a : List ℕ). stack_of a (s.outer + 1)) e ∙ pushed outer s.outer s.base h);
    blocks-are = omega arith;
    procedures-are = omega arith;
  }

  pub left-block : (b d : ℕ) → b ≡ top (stack_of outer s.outer) → d ≡ s.outer - 1
      → Moved (leave_block (within_of owners outer s)) owners outer (s.outer - 1) s.owners (scope s.own s.owners b d)
  left-block b d e f = record {
    is = ap₂ (λ (x : Based) (l : List Based). record { own = s.own; owners = stack_of owners s.owners; base = x; outer = l })
        (ap based_in e ∙ first-is (stack_of outer s.outer)) (ap (λ (n : ℕ). map based_in (stack_of outer n)) f
        ∙ (ap (λ (l : List ℕ). map based_in l) (popped outer s.outer) ∙ later-is (stack_of outer s.outer)));
    blocks-are = omega arith;
    procedures-are = omega arith;
  }

  pub entered-procedure :
      {owners' : List ℕ} (t : ℕ) → s.owners < length owners → owners' ≡ set owners s.owners s.own
      → Moved (enter_procedure t (within_of owners outer s)) owners' outer s.outer (suc s.owners) (scope t (s.owners + 1) s.base s.outer)
  entered-procedure t h e = record {
    is = ap (λ (l : List ℕ). record { own = t; owners = l; base = based_in s.base; outer = map based_in (stack_of outer s.outer) })
        (ap (λ (a : List ℕ). stack_of a (s.owners + 1)) e ∙ pushed owners s.owners s.own h);
    blocks-are = omega arith;
    procedures-are = omega arith;
  }

  pub left-procedure :
      (own d : ℕ) → own ≡ top (stack_of owners s.owners) → d ≡ s.owners - 1
      → Moved (leave_procedure (within_of owners outer s)) owners outer s.outer (s.owners - 1) (scope own d s.base s.outer)
  left-procedure own d e f = record {
    is = ap₂ (λ (x : ℕ) (l : List ℕ). record { own = x; owners = l; base = based_in s.base; outer = map based_in (stack_of outer s.outer) })
        e (ap (λ (n : ℕ). stack_of owners n) f ∙ popped owners s.owners);
    blocks-are = omega arith;
    procedures-are = omega arith;
  }

  pub changed-base :
      (found means bases : List ℕ) (t count r m : ℕ) → count < 4294967294 → m ≡ packed_at found means t → r ≡ register_in m
      → Moved (change_base (register_of (meaning_of found (meanings_of means bases) t)) count (within_of owners outer s)) owners outer s.outer s.owners
      (scope s.own s.owners (r * 4294967296 + (count + 2)) s.outer)
  changed-base found means bases t count r m h e f = record {
    is = ap (λ (b : Based). record { own = s.own; owners = stack_of owners s.owners; base = b; outer = map based_in (stack_of outer s.outer) })
        (based-is r (count + 2) (omega arith) ∙ ap₂ (λ (x y : ℕ). record { register = x; segment = y }) (f ∙ (ap register_in e ∙ sym (register-at found means bases t))) (omega arith));
    blocks-are = omega arith;
    procedures-are = omega arith;
  }
