-- A turn along the statements of a CASE, whose starts become its table, and the end. Assumes nothing.
use mathlib.Core.Path.{◌≡◌, refl, ap, sym, ◌∙◌}
use mathlib.Core.List.{List, [], ◌∷◌, ◌++◌, map, map-append}
use Prim.Native.Nat.{ℕ, ◌+◌, ◌/◌, ◌%◌, ◌<◌, ◌≤◌}
use lib.ListN.{length, get_or, drop, drop_of_length-le}
use borrow.Author.Tests.{eq-eqb, ne_eqb}
use Rattle.base.specs.Walk.{fold}
use Rattle.base.proofs.Parts.{drop-turn}
use Rattle.tape.specs.Events as E
use Rattle.tape.specs.Numbers.{family_at}
use Rattle.translation.specs.Instructions.{always}
use Rattle.ledger.specs.Book.{Wide, Thin}
use Rattle.emit.specs.declared.Code.{Code}
use Rattle.emit.specs.declared.Writing.{Writing}
use Rattle.emit.specs.Codes.{branch_code}
use Rattle.emit.specs.Events.{writing_in}
use Rattle.emit.specs.Along.{depth_after, entry_of, start_after, starts, past_in}
use Rattle.code.specs.Coding.{Laid, laid_of, lay_all, starts_in}
use Rattle.code.proofs.Laying.{lay-append}

module _ (kinds tape : List ℕ) (w : Wide) (b : Thin) where
  abbrev pub rest : (depth from p : ℕ) → Writing → (tape : List ℕ) → List Code
  rest d from p v es = map (branch_code always) (starts_in kinds w b d from p v es)

  pub table-turn :
      (j op t d from p q end end' : ℕ) (v v' : Writing) (image image' : List ℕ) → j < length tape → (d ≡ 0 → ⊥) → op ≡ get_or tape j 0 % E.EVENTS
      → t ≡ get_or tape j 0 / E.EVENTS → q ≡ (past_in kinds w b op t p v).at → v' ≡ writing_in w b op t v
      → ((k : ℕ) (seen : List ℕ) → laid_of end' image' seen ≡ lay_all k (map (branch_code always) (entry_of (family_at op) d from)) (laid_of end image seen))
      → (k : ℕ) (seen : List ℕ) {whole : Laid} → lay_all k (rest d from p v (drop j tape)) (laid_of end image seen) ≡ whole
      → lay_all k (rest (depth_after (family_at op) d) (start_after (family_at op) d from q) q v' (drop (j + 1) tape)) (laid_of end' image' seen) ≡ whole
  unfolding starts
  table-turn j op t d from p q end end' v v' image image' h n eo et eq ew laid k seen e =
      let entry = map (branch_code always) (entry_of (family_at op) d from) in
      let later = starts_in kinds w b (depth_after (family_at op) d) (start_after (family_at op) d from q) q v' (drop (j + 1) tape) in
      let first : starts_in kinds w b d from p v (drop j tape) ≡ entry_of (family_at op) d from ++ later = rw (drop-turn tape j 0 h, ne_eqb d 0 n, eq, ew, eo, et) in
      let both : rest d from p v (drop j tape) ≡ entry ++ map (branch_code always) later = ap (map (branch_code always)) first ∙ map-append (branch_code always) (entry_of (family_at op) d from) later in
      ap (lay_all k (map (branch_code always) later)) (laid k seen)
      ∙ (sym (lay-append k entry (map (branch_code always) later) (laid_of end image seen)) ∙ (ap (λ (cs : List Code). lay_all k cs (laid_of end image seen)) (sym both) ∙ e))

  -- behind the CASE, or the tape
  pub table-end : (j d from p : ℕ) (v : Writing) (s : Laid) (k : ℕ) {whole : Laid} → d ≡ 0 → lay_all k (rest d from p v (drop j tape)) s ≡ whole → s ≡ whole
  unfolding starts fold
  table-end j d from p v s k h e = sym (ap (λ (l : List ℕ). lay_all k (map (branch_code always) l) s) (none (drop j tape))) ∙ e
    where
      none : (es : List ℕ) → starts_in kinds w b d from p v es ≡ []
      none [] = refl
      none (x ∷ es) = rw (eq-eqb d 0 h)

  pub tape-over : (j d from p : ℕ) (v : Writing) (s : Laid) (k : ℕ) {whole : Laid} → length tape ≤ j → lay_all k (rest d from p v (drop j tape)) s ≡ whole → s ≡ whole
  unfolding starts fold
  tape-over j d from p v s k h e = sym (ap (λ (es : List ℕ). lay_all k (rest d from p v es) s) (drop_of_length-le tape {i = j} h)) ∙ e
