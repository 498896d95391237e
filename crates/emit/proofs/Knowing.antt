-- An event's instructions, and the assignment after it, from what the loops know of it by value. Assumes nothing.
use mathlib.Core.Path.{◌≡◌}
use mathlib.Core.List.{List}
use Prim.Native.Nat.{ℕ}
use Rattle.tape.specs.Numbers.{family_at, form_at}
use Rattle.ledger.specs.Book.{Wide, Thin}
use Rattle.emit.specs.declared.Use.{Use}
use Rattle.emit.specs.declared.Codes.{Codes}
use Rattle.emit.specs.declared.Writing.{Writing}
use Rattle.emit.specs.Events.{use_in, register_at, goal_at, written_after, codes_of, writing_after, codes_by, writing_in, codes_in}

module _
    (kinds : List ℕ) (w : Wide) (b : Thin) (op t : ℕ) (v : Writing) {family form register : ℕ} {u : Use}
    (ef : family ≡ family_at op) (es : form ≡ form_at op) (eu : u ≡ use_in w.values b.found w.means w.under w.offsets form t)
    (er : register ≡ register_at b.found w.means family t)
  where
    pub codes-known : {goal : ℕ} {m : Codes} → goal ≡ goal_at b.found b.goes b.opens family t
        → m ≡ codes_of kinds w.values b.found w.means b.written family t v u (record { register = register; goal = goal }) → m ≡ codes_in kinds w b op t v
    unfolding codes_by
    codes-known eg em = rw (em, eg, er, eu, es, ef)

    pub written_known : {v' : Writing} → v' ≡ written_after family t v u register → v' ≡ writing_in w b op t v
    unfolding writing_after
    written_known ew = rw (ew, er, eu, es, ef)
