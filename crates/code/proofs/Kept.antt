-- The ledger keeps 16 bits of an address. Of a program that ends below 65,536 that is all of it (`places-kept`); and how long a program is does not hang on where
-- its branches go (`length-same`). Assumes nothing.
use Rattle.std.specs.Prelude.{Option, Some, None}
use mathlib.Core.Path.{◌≡◌, refl, sym, ap, ◌∙◌}
use mathlib.Core.Bool.{Bool, true, false, ◌||◌}
use mathlib.Core.List.{List, [], ◌∷◌, ◌++◌, map}
use Prim.Native.Nat.{ℕ, suc, ◌+◌, ◌*◌, ◌/◌, ◌%◌, ◌<◌, ◌≤◌}
use native.Mathlib.Omega.{arith}
use lib.Dec.{eqb}
use lib.ListN.{length, get_or}
use Rattle.base.specs.Choose.{whether◌then◌else◌}
use Rattle.base.specs.Walk.{fold}
use Rattle.tape.specs.Events as E
use Rattle.tape.specs.Pass.{on_event, pass}
use Rattle.tape.specs.Numbers.{family_at, form_at}
use Rattle.emit.specs.declared.Code.{Code}
use Rattle.emit.specs.declared.Codes.{Codes}
use Rattle.emit.specs.declared.Named.{Named}
use Rattle.emit.specs.declared.Use.{Use}
use Rattle.emit.specs.declared.Writing.{Writing}
use Rattle.emit.specs.Codes.{followed, list_of, code_size, code_sizes, apply_code, apply_then, branch_code, stop_code}
use Rattle.emit.specs.Events.{use_in, register_at, goal_at, compared_codes, bare_codes, limit_codes, step_codes, chosen_codes, table_bytes, other_codes, codes_of, writing_after, codes_by}
use Rattle.emit.specs.Along.{ends_here, event_bytes, starts, table_along}
use Rattle.code.specs.Places.{whole, kept, Placing, place_event, places_along}
use Rattle.code.specs.Coding.{Laid, lay_code, lay_all, Coding, code_event, code_from, code_along}
use Rattle.translation.specs.Instructions.{always}
use Rattle.ledger.specs.Book.{thin_limit}

pub kept-is : (n : ℕ) → n < thin_limit → kept n ≡ n
unfolding kept
kept-is n h = omega arith

-- ── what is kept is all ──

module _ (kinds values found goes means under opens offsets : List ℕ) where
  abbrev exact : (op t : ℕ) → Placing → Placing
  exact = place_event whole kinds values found goes means under opens offsets

  abbrev cut : (op t : ℕ) → Placing → Placing
  cut = place_event kept kinds values found goes means under opens offsets

  event-grows : (op t : ℕ) (s : Placing) → s.at ≤ (exact op t s).at
  unfolding place_event
  event-grows op t s = omega arith

  pass-grows : (tape : List ℕ) (s : Placing) → s.at ≤ (pass exact s tape).at
  unfolding pass fold on_event
  pass-grows [] s = omega arith
  pass-grows (e ∷ es) s = omega (arith, event-grows (e % E.EVENTS) (e / E.EVENTS) s, pass-grows es (exact (e % E.EVENTS) (e / E.EVENTS) s))

  event-kept : (op t : ℕ) (s : Placing) → (exact op t s).at < thin_limit → cut op t s ≡ exact op t s
  unfolding place_event
  event-kept op t s h = rw (kept-is s.at (omega arith), kept-is _ h)

  pass_kept : (tape : List ℕ) (s : Placing) → (pass exact s tape).at < thin_limit → pass cut s tape ≡ pass exact s tape
  unfolding pass fold on_event
  pass_kept [] s h = refl
  pass_kept (e ∷ es) s h =
      let after = exact (e % E.EVENTS) (e / E.EVENTS) s in
      ap (λ (x : Placing). pass cut x es) (event-kept (e % E.EVENTS) (e / E.EVENTS) s (omega (arith, pass-grows es after, h))) ∙ pass_kept es after h

  pub places-kept : (marks tape : List ℕ) → (places_along whole kinds values found goes means under opens offsets marks tape).at < thin_limit
      → places_along kept kinds values found goes means under opens offsets marks tape ≡ places_along whole kinds values found goes means under opens offsets marks tape
  unfolding places_along
  places-kept marks tape h = pass_kept tape _ h

-- ── lengths ──

abbrev bytes : Codes → ℕ
bytes m = code_sizes (list_of m)

either_same : (b : Bool) (m n m' n' : Codes) → bytes m ≡ bytes m' → bytes n ≡ bytes n' → bytes (whether b then m else n) ≡ bytes (whether b then m' else n')
either_same true m n m' n' e q = e
either_same false m n m' n' e q = q

module _ (kinds values found means marks marks' : List ℕ) where
  then_same : (row r : ℕ) (u : Use) (c d : Code) → code_size c ≡ code_size d → bytes (apply_then row r u c) ≡ bytes (apply_then row r u d)
  unfolding apply_then list_of
  then_same row r u c d e = behind (apply_code row r u)
    where
      behind : (a : Option Code) → bytes (followed a c) ≡ bytes (followed a d)
      behind None = ap (λ (n : ℕ). n + 0) e
      behind (Some a) = ap (λ (n : ℕ). code_size a + (n + 0)) e

  others_same : (family t : ℕ) (n : Named) → bytes (other_codes marks family t n) ≡ bytes (other_codes marks' family t n)
  unfolding other_codes list_of code_size
  others_same family t n =
      either_same (eqb family E.BASE) _ _ _ _ refl
      (either_same (eqb family E.END-PROCEDURE) _ _ _ _ refl
      (either_same (eqb family E.CALL) _ _ _ _ refl
      (either_same (eqb family E.GOTO) _ _ _ _ refl
      (either_same ((eqb family E.PROCEDURE || eqb family E.ELSE) || (eqb family E.END-WHILE || eqb family E.END-CHOICE)) _ _ _ _ refl refl))))

  step_same : (t : ℕ) → bytes (step_codes values marks t) ≡ bytes (step_codes values marks' t)
  unfolding step_codes apply_then apply_code list_of code_size
  step_same t = refl

  codes_same : (family t : ℕ) (w : Writing) (u : Use) (n : Named) → bytes (codes_of kinds values found means marks family t w u n) ≡ bytes (codes_of kinds values found means marks' family t w u n)
  unfolding codes_of compared_codes limit_codes bare_codes chosen_codes list_of code_size
  codes_same family t w u n =
      either_same (eqb family E.FIRST) _ _ _ _ refl
      (either_same (eqb family E.TERM) _ _ _ _ refl
      (either_same (eqb family E.COMPARED) _ _ _ _ (then_same _ _ u _ _ refl)
      (either_same (eqb family E.LIMIT) _ _ _ _ (then_same _ _ u _ _ refl)
      (either_same (eqb family E.BARE) _ _ _ _ refl
      (either_same (eqb family E.END-FOR) _ _ _ _ (step_same t)
      (either_same (eqb family E.COUNTED) _ _ _ _ refl
      (either_same (eqb family E.CHOSEN) _ _ _ _ refl (others_same family t n))))))))

module _ (kinds values found goes means under opens offsets marks marks' : List ℕ) where
  event-same : (op t : ℕ) (w : Writing)
      → bytes (codes_by kinds values found goes means under opens offsets marks op t w) ≡ bytes (codes_by kinds values found goes means under opens offsets marks' op t w)
  unfolding codes_by
  event-same op t w =
      codes_same kinds values found means marks marks' (family_at op) t w (use_in values found means under offsets (form_at op) t)
      (record { register = register_at found means (family_at op) t; goal = goal_at found goes opens (family_at op) t })

  -- and those of a table
  pub event-bytes : (op t : ℕ) (w : Writing)
      → event_bytes kinds values found goes means under opens offsets marks op t w ≡ event_bytes kinds values found goes means under opens offsets marks' op t w
  event-bytes op t w = ap (λ (n : ℕ). n + table_bytes (family_at op) w) (event-same op t w)

  -- as many statements are found
  abbrev by : List ℕ → (depth from p : ℕ) → Writing → List ℕ → List ℕ
  by ms d from p w es = starts kinds values found goes means under opens offsets ms d from p w es

  either-long : (b : Bool) (k l k' l' : List ℕ) → length k ≡ length k' → length l ≡ length l' → length (whether b then k else l) ≡ length (whether b then k' else l')
  either-long true k l k' l' e q = e
  either-long false k l k' l' e q = q

  entry-long : (b : Bool) (from from' : ℕ) (k k' : List ℕ) → length k ≡ length k' → length ((whether b then from ∷ [] else []) ++ k) ≡ length ((whether b then from' ∷ [] else []) ++ k')
  entry-long true from from' k k' e = ap suc e
  entry-long false from from' k k' e = e

  starts-same : (es : List ℕ) (d from from' p p' : ℕ) (w : Writing) → length (by marks d from p w es) ≡ length (by marks' d from' p' w es)
  unfolding starts
  starts-same [] d from from' p p' w = refl
  starts-same (e ∷ es) d from from' p p' w =
      either-long (eqb d 0) _ _ _ _ refl (entry-long (ends_here (family_at (e % E.EVENTS)) d) from from' _ _ (starts-same es _ _ _ _ _ _))

  table-long : (l : List ℕ) → code_sizes (map (branch_code always) l) ≡ 4 * length l
  unfolding code_size
  table-long [] = refl
  table-long (x ∷ l) = let h = table-long l in omega arith

  table_same : (op t : ℕ) (w : Writing) (es : List ℕ)
      → code_sizes (table_along kinds values found goes means under opens offsets marks op t w es) ≡ code_sizes (table_along kinds values found goes means under opens offsets marks' op t w es)
  unfolding table_along
  table_same op t w es = go (eqb (family_at op) E.CHOSEN)
    where
      one : List ℕ
      one = by marks 1 (get_or marks t 0) (get_or marks t 0) w es

      other : List ℕ
      other = by marks' 1 (get_or marks' t 0) (get_or marks' t 0) w es

      go : (b : Bool) → code_sizes (whether b then map (branch_code always) one else []) ≡ code_sizes (whether b then map (branch_code always) other else [])
      go true = table-long one ∙ (ap (λ (n : ℕ). 4 * n) (starts-same es 1 _ _ _ _ w) ∙ sym (table-long other))
      go false = refl

module _ (start : ℕ) where
  pub laid-at : (cs : List Code) (s : Laid) → (lay_all start cs s).at ≡ s.at + code_sizes cs
  unfolding fold lay_code
  laid-at [] s = omega arith
  laid-at (c ∷ cs) s = omega (arith, laid-at cs (lay_code start c s))

  module _ (kinds values found goes means under opens offsets marks marks' : List ℕ) where
    abbrev from : List ℕ → Coding → List ℕ → Coding
    from ms = code_from start kinds values found goes means under opens offsets ms

    abbrev codes : List ℕ → (op t : ℕ) → Writing → List Code
    codes ms op t w = list_of (codes_by kinds values found goes means under opens offsets ms op t w)

    abbrev table : List ℕ → (op t : ℕ) → Writing → List ℕ → List Code
    table ms op t v es = table_along kinds values found goes means under opens offsets ms op t v es

    passes_same : (tape : List ℕ) (s s' : Coding) → s.laid.at ≡ s'.laid.at → s.writing ≡ s'.writing → (from marks s tape).laid.at ≡ (from marks' s' tape).laid.at
    unfolding code_from code_event
    passes_same [] s s' e q = e
    passes_same (e ∷ es) s s' p q =
        let op = e % E.EVENTS in
        let t = e / E.EVENTS in
        let v = writing_after values found means under offsets op t s.writing in
        let ev : v ≡ writing_after values found means under offsets op t s'.writing = ap (writing_after values found means under offsets op t) q in
        let a = laid-at (codes marks op t s.writing) s.laid in
        let b = laid-at (table marks op t v es) (lay_all start (codes marks op t s.writing) s.laid) in
        let a' = laid-at (codes marks' op t s.writing) s'.laid in
        let b' = laid-at (table marks' op t v es) (lay_all start (codes marks' op t s.writing) s'.laid) in
        let m = event-same kinds values found goes means under opens offsets marks marks' op t s.writing in
        let z = table_same kinds values found goes means under opens offsets marks marks' op t v es in
        passes_same es _ _ (rw (← q) (omega (arith, a, b, a', b', m, z, p))) ev

    pub length-same : (image tape : List ℕ)
        → (code_along start kinds values found goes means under opens offsets marks image tape).at ≡ (code_along start kinds values found goes means under opens offsets marks' image tape).at
    unfolding code_along lay_code
    length-same image tape = ap (λ (n : ℕ). n + code_size stop_code) (passes_same tape _ _ refl refl)
