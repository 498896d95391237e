-- What the events of declarations and statements make: the definition's instruction, or none. Branches go where `marks` says. Assumes nothing.
use Rattle.std.specs.Prelude as P
use mathlib.Core.Path.{◌≡◌, refl, ap, ◌∙◌}
use mathlib.Core.Bool.{true}
use mathlib.Core.List.{List, [], ◌∷◌, ◌++◌}
use Prim.Native.Nat.{ℕ, ◌+◌, ◌-◌, ◌*◌}
use native.Mathlib.Omega.{arith}
use lib.ListN.{get_or}
use Rattle.base.specs.Lists.{member}
use Rattle.base.proofs.Lists.{all_both, each}
use Rattle.tape.specs.Events as E
use Rattle.tape.specs.Numbers.{form_at}
use Rattle.static_rules.specs.Meaning.{register_of}
use Rattle.static_rules.specs.Tables.{Tables, value_at, meaning_at}
use Rattle.tables.specs.Packed.{meanings_of}
use Rattle.translation.specs.Instructions.{Instruction, rr, rx, branch, link, literal, entry, opcode, load_row, add_row, return_op, always}
use Rattle.translation.specs.Core.{return_of}
use Rattle.translation.specs.Code.{head_size, case_head}
use Rattle.emit.specs.declared.Codes.TheVariants.{Head}
use Rattle.emit.specs.declared.Use.TheVariants.{Absent}
use Rattle.emit.specs.declared.Writing.{Writing}
use Rattle.emit.specs.Codes.{list_of, apply_code, apply_then, return_code, link_code, base_code}
use Rattle.emit.specs.Events.{register_at, goal_at, no_writing, written_after, step_codes, chosen_codes, other_codes, codes_of, writing_after, codes_by}
use Rattle.emit.specs.Along.{code_for}
use Rattle.emit.proofs.Operands.{register-at, return-at}
use Rattle.emit.proofs.Written.{coded}
use Rattle.emit.proofs.Walks.{Plain, Makes}

-- the events of declarations but those of bases and procedures
abbrev pub declaring : List ℕ
declaring =
    E.REGISTER ∷ E.SINGLE-FULL ∷ E.SINGLE-SHORT ∷ E.SINGLE-BYTE ∷ E.SINGLE-CHARACTER ∷ E.ARRAY-FULL ∷ E.ARRAY-SHORT ∷ E.ARRAY-BYTE ∷ E.ARRAY-CHARACTER ∷ E.ITEM
    ∷ E.VALUE ∷ []

abbrev others : List ℕ
others = E.BLOCK ∷ E.END-BLOCK ∷ E.LABEL ∷ E.WHILE ∷ E.END-ELSE ∷ E.END-IF ∷ E.END-CASE ∷ []

-- the events of declarations and statements that make nothing
abbrev pub idle : List ℕ
idle = declaring ++ others

module _ (f : Tables) (means under offsets marks : List ℕ) where
  -- the definition's instructions, and the assignment that is written stays
  abbrev pub Adds : (op t : ℕ) → Writing → List Instruction → Type 0
  Adds op t w is = Makes f means under offsets marks op t w (coded offsets is) w

  pub idle-adds : (op : ℕ) → member op idle ≡ true → (t : ℕ) (w : Writing) → Adds op t w []
  unfolding list_of form_at register_at goal_at other_codes codes_of codes_by written_after writing_after
  idle-adds op h t w =
      each (λ x. Adds x t w []) idle
      (all_both (λ x. Adds x t w []) declaring others
      ((refl, refl), ((refl, refl), ((refl, refl), ((refl, refl), ((refl, refl), ((refl, refl), ((refl, refl), ((refl, refl), ((refl, refl), ((refl, refl), ((refl, refl), tt)))))))))))
      ((refl, refl), ((refl, refl), ((refl, refl), ((refl, refl), ((refl, refl), ((refl, refl), ((refl, refl), tt))))))))
      op h

  -- none of them has a table
  pub idle-plain : (op : ℕ) → member op idle ≡ true → Plain op
  unfolding form_at
  idle-plain op h =
      each Plain idle
      (all_both Plain declaring others
      (refl, (refl, (refl, (refl, (refl, (refl, (refl, (refl, (refl, (refl, (refl, tt)))))))))))
      (refl, (refl, (refl, (refl, (refl, (refl, (refl, tt))))))))
      op h

  -- around a procedure
  pub procedure-adds : (n : ℕ) (w : Writing) → Adds E.PROCEDURE n w (branch always (get_or marks (n + 1) 0) ∷ [])
  unfolding list_of code_for form_at register_at goal_at other_codes codes_of codes_by written_after writing_after
  procedure-adds n w = (refl, refl)

  pub else-adds : (t : ℕ) (w : Writing) → Adds E.ELSE t w (branch always (get_or marks (t + 1) 0) ∷ [])
  unfolding list_of code_for form_at register_at goal_at other_codes codes_of codes_by written_after writing_after
  else-adds t w = (refl, refl)

  pub end-while-adds : (t : ℕ) (w : Writing) → Adds E.END-WHILE t w (branch always (get_or marks (t + 1) 0) ∷ [])
  unfolding list_of code_for form_at register_at goal_at other_codes codes_of codes_by written_after writing_after
  end-while-adds t w = (refl, refl)

  pub end-for-adds : (v : ℕ) (w : Writing)
      → Adds E.END-FOR v w (rx (opcode add_row 1) (get_or marks (v + 1) 0) (literal (value_at f v)) ∷ branch always (get_or marks v 0) ∷ [])
  unfolding list_of code_for step_codes apply_then apply_code form_at register_at goal_at other_codes codes_of codes_by written_after writing_after
  end-for-adds v w = (refl, refl)

  pub end-choice-adds : (t : ℕ) (w : Writing) → Adds E.END-CHOICE t w (branch always (get_or marks (t + 1) 0) ∷ [])
  unfolding list_of code_for form_at register_at goal_at other_codes codes_of codes_by written_after writing_after
  end-choice-adds t w = (refl, refl)

  -- before a CASE's register, how many statements there are
  pub listed-makes : (c : ℕ) (w : Writing) → Makes f means under offsets marks E.LISTED c w [] (record { aim = Absent; sign = P.None; arguments = c })
  unfolding list_of form_at register_at goal_at other_codes codes_of codes_by written_after writing_after
  listed-makes c w = (refl, refl)

  pub goto-adds : (n : ℕ) (w : Writing) → Adds E.GOTO n w (branch always (get_or marks (get_or f.goes n 0) 0) ∷ [])
  unfolding list_of code_for form_at register_at goal_at other_codes codes_of codes_by written_after writing_after
  goto-adds n w = (refl, refl)

  module _ (table : f.means ≡ meanings_of means under) where
    pub base-adds : (n : ℕ) (w : Writing) → Adds E.BASE n w (rx (opcode load_row 1) (register_of (meaning_at f n)) (entry (get_or f.opens n 0)) ∷ [])
    unfolding list_of code_for form_at register_at goal_at other_codes codes_of codes_by written_after writing_after
    base-adds n w = (ap (λ (r : ℕ). base_code r (get_or f.opens n 0) ∷ []) (register-at f means under table n), refl)

    -- the return register stands two tokens behind the procedure's name
    pub end-procedure-adds : (n : ℕ) (w : Writing) → Adds E.END-PROCEDURE n w (rr return_op always (register_of (meaning_at f (n + 2))) ∷ [])
    unfolding list_of code_for form_at register_at goal_at other_codes codes_of codes_by written_after writing_after
    end-procedure-adds n w = (ap (λ (r : ℕ). return_code r ∷ []) (register-at f means under table (n + 2)), refl)

    pub call-adds : (n : ℕ) (w : Writing) → Adds E.CALL n w (link (return_of (meaning_at f n)) (get_or marks (get_or f.found n 0) 0) ∷ [])
    unfolding list_of code_for form_at register_at goal_at other_codes codes_of codes_by written_after writing_after
    call-adds n w = (ap (λ (r : ℕ). link_code r (get_or marks (get_or f.found n 0) 0) ∷ []) (return-at f means under table n), refl)

    -- the register of a CASE: what it makes but its table, which starts at p
    pub chosen-makes : (n p end : ℕ) (w : Writing) → get_or marks n 0 ≡ p + head_size w.arguments → get_or marks (n + 1) 0 ≡ end
        → Makes f means under offsets marks E.CHOSEN n w (coded offsets (case_head (register_of (meaning_at f n)) w.arguments p end)) no_writing
    unfolding list_of code_for form_at register_at goal_at chosen_codes codes_of codes_by written_after writing_after
    chosen-makes n p end w e g =
        let at : get_or marks n 0 - (4 * w.arguments + 4) ≡ p + 18 = omega arith in
        (ap (λ (r : ℕ). list_of (Head r w.arguments (get_or marks n 0 - (4 * w.arguments + 4)) (get_or marks (n + 1) 0))) (register-at f means under table n) ∙ rw (at, g), refl)
