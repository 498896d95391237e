-- Document 01, "Numbers answered": broken rules, of which one is answered. Rules are judged over the whole text, and joined.
use Rattle.std.specs.Prelude.{Bool, ◌&&◌, ◌||◌, ℕ, eqb, leb, ltb, Option, Some, None}
use Rattle.base.specs.Choose.{whether◌then◌else◌}
use Rattle.scopes.specs.declared.Refusal.{Refusal}
use Rattle.scopes.specs.declared.Refusal.TheVariants.{NotFound, Twice, Misfit, WrongRegister, Protected, OutOfBounds, NoRoom, TooMany}
use Rattle.scopes.specs.declared.Broken.{Broken}

-- "6 to 13", the refusals of rules
abbrev pub refusal_number : Refusal → ℕ
refusal_number NotFound = 6
refusal_number Twice = 7
refusal_number Misfit = 8
refusal_number WrongRegister = 9
refusal_number Protected = 10
refusal_number OutOfBounds = 11
refusal_number NoRoom = 12
refusal_number TooMany = 13

-- a rule that is broken, at a token, or none
abbrev pub Ruling : Type 0
Ruling = Option Broken

abbrev pub unbroken : Ruling
unbroken = None

-- a rule that is broken at a token
abbrev pub broken : Refusal → ℕ → Ruling
broken refusal token = Some (record { at = token; refusal = refusal })

-- a refusal at a token, unless the rule holds
unfoldable pub rule : Bool → Refusal → ℕ → Ruling
rule holds refusal token = whether holds then unbroken else broken refusal token

-- "the smallest place wins, then the smaller number": a later token stands at a greater place
abbrev pub before : Broken → Broken → Bool
before a b = ltb a.at b.at || (eqb a.at b.at && leb (refusal_number a.refusal) (refusal_number b.refusal))

infixr 25 ◌⊕◌
unfoldable pub ◌⊕◌ : Ruling → Ruling → Ruling
◌⊕◌ a None = a
◌⊕◌ None (Some b) = Some b
◌⊕◌ (Some a) (Some b) = whether before a b then Some a else Some b
