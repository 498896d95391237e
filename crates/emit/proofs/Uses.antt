-- The instruction of a use of a function, by its last argument and how many there are, is the definition's with the places of cells. Assumes nothing.
use Rattle.std.specs.Prelude as P
use mathlib.Core.Path.{◌≡◌, refl, ap, subst, ◌∙◌}
use mathlib.Core.Bool.{Bool, true, false}
use mathlib.Core.List.{List, [], ◌∷◌}
use mathlib.Core.Option.{Option, none, some}
use Prim.Native.Nat.{ℕ, ◌+◌}
use native.Mathlib.Omega.{arith}
use lib.Dec.{eqb}
use lib.ListN.{get_or}
use Rattle.base.specs.Choose.{whether◌then◌else◌}
use Rattle.base.proofs.Tests.{cases}
use Rattle.token.specs.Kinds as K
use Rattle.grammar.specs.Tree.{Operand, number, place}
use Rattle.grammar.specs.Derives.{is_shape, is_designator, is_operand, are_arguments}
use Rattle.static_rules.specs.Functions.{Function, arity}
use Rattle.static_rules.specs.Meaning.{register_of, function_of}
use Rattle.static_rules.specs.Tables.{Tables, meaning_at}
use Rattle.static_rules.specs.Rules.{is_bare}
use Rattle.tables.specs.Packed.{meanings_of, packed_at}
use Rattle.translation.specs.Core.{is_token, use_of, source_of, number_of, function_on, function_code}
use Rattle.emit.specs.declared.Use.{Use}
use Rattle.emit.specs.declared.Code.{Code}
use Rattle.emit.specs.declared.Codes.{Codes}
use Rattle.emit.specs.declared.Codes.TheVariants.{None}
use Rattle.emit.specs.declared.Writing.{Writing}
use Rattle.emit.specs.Codes.{list_of, function_codes}
use Rattle.functions.specs.Arguments.{function_in}
use Rattle.functions.proofs.Packed.{by-function}
use Rattle.emit.specs.Events.{more, no_writing, second_codes, used_codes}
use Rattle.emit.proofs.Operands.{Small, used, register-at, function-at}
use Rattle.emit.proofs.Written.{coded, function-is}

-- ── what is written after arguments ──

abbrev pub argued : Writing → Use → Writing
argued w u = record { aim = u; sign = P.None; arguments = more w.arguments }

module _ (f : Tables) (means under offsets : List ℕ) where
  unfoldable pub argued_all : Writing → List Operand → Writing
  argued_all w [] = w
  argued_all w (a ∷ xs) = argued_all (argued w (used f means under offsets a)) xs

  -- no more than three are counted
  three-stay : (xs : List Operand) (w : Writing) → w.arguments ≡ 3 → (argued_all w xs).arguments ≡ 3
  unfolding argued_all
  three-stay [] w e = e
  three-stay (a ∷ xs) w e = three-stay xs (argued w (used f means under offsets a)) (rw e)

module _ (f : Tables) (means under offsets : List ℕ) (table : f.means ≡ meanings_of means under) where
  -- ── the first of two arguments ──

  abbrev second : (n op : ℕ) → Use → Codes
  second n op u = second_codes f.kinds f.values f.found means n op u

  -- another parenthesis opens
  opened : (n op : ℕ) (u : Use) → get_or f.kinds (n + 2 + 1) 0 ≡ K.OPEN → second n op u ≡ None
  unfolding second_codes
  opened n op u o =
      let p : n + 2 + 1 ≡ n + 3 = omega arith in
      let another : get_or f.kinds (n + 3) 0 ≡ K.OPEN = rw p at o in
      rw another

  place-first : (n t : ℕ) (s x : Option ℕ) (m : ℕ) → is_shape f.kinds t s x (n + 2) m → get_or f.kinds m 0 ≡ K.CLOSE → (op : ℕ) (u : Use)
      → second n op u ≡ (whether is_bare s x then function_codes op (register_of (meaning_at f t)) 0 u else None)
  unfolding second_codes
  place-first n t none none m (e, y, q) c op u =
      let p : m ≡ n + 3 = omega arith in
      let closed : get_or f.kinds (n + 3) 0 ≡ K.CLOSE = rw p at c in
      rw (closed, y, e, register-at f means under table (n + 2))
  place-first n t (some s) none m (e, y, (o, q)) c op u = opened n op u o
  place-first n t none (some x) m (e, y, (o, q)) c op u = opened n op u o
  place-first n t (some s) (some x) m (e, y, (o, q)) c op u = opened n op u o

  first-is : (a : Operand) (n m : ℕ) → is_operand f.kinds a (n + 2) m → get_or f.kinds m 0 ≡ K.CLOSE → (op : ℕ) (u : Use)
      → second n op u ≡ (whether is_token a then function_codes op (source_of f a) (number_of f a) u else None)
  unfolding is_operand is_designator second_codes
  first-is (number t) n m (e, y, q) c op u =
      let p : m ≡ n + 3 = omega arith in
      let closed : get_or f.kinds (n + 3) 0 ≡ K.CLOSE = rw p at c in
      rw (closed, y, e)
  first-is (place d) n m h c op u = place-first n d.name d.subscript d.index m h c op u

  -- ── uses ──

  module _ (small : Small f) where
    none-three : (m : ℕ) → eqb 3 (arity (function_in m)) ≡ false
    none-three m = by-function (λ (g : Function). eqb 3 (arity g) ≡ false) (refl, (refl, (refl, (refl, (refl, (refl, (refl, (refl, (refl, tt))))))))) refl m

    abbrev made : (n m : ℕ) → Writing → List Code
    made n m w = list_of (used_codes f.kinds f.values f.found means n (function_in m) w)

    one-used : (n m : ℕ) (a : Operand) (i j : ℕ) → is_operand f.kinds a i j
        → made n m (argued_all f means under offsets no_writing (a ∷ [])) ≡ coded offsets (function_code f (function_in m) a [])
    unfolding argued_all used_codes function_code list_of
    one-used n m a i j h =
        cases (eqb 1 (arity (function_in m))) (λ e. rw e (function-is f means under offsets table small a i j h 0 (function_in m).number m)) (λ e. rw e)

    by_token : (t : Bool) (r v m : ℕ) (b : Operand) (i j : ℕ) → is_operand f.kinds b i j
        → list_of (whether t then function_codes (function_in m).op r v (used f means under offsets b) else None)
        ≡ coded offsets (whether t then function_on (function_in m) r v (use_of f b) else [])
    unfolding list_of
    by_token true r v m b i j h = function-is f means under offsets table small b i j h r v m
    by_token false r v m b i j h = refl

    two-used : (n m : ℕ) (a b : Operand) (l i j : ℕ) → is_operand f.kinds a (n + 2) l → get_or f.kinds l 0 ≡ K.CLOSE → is_operand f.kinds b i j
        → made n m (argued_all f means under offsets no_writing (a ∷ b ∷ [])) ≡ coded offsets (function_code f (function_in m) a (b ∷ []))
    unfolding argued_all used_codes function_code list_of
    two-used n m a b l i j ha c hb =
        cases (eqb 2 (arity (function_in m)))
        (λ e. rw e (ap list_of (first-is a n l ha c (function_in m).op (used f means under offsets b)) ∙ by_token (is_token a) (source_of f a) (number_of f a) m b i j hb))
        (λ e. rw e)

    more-used : (n m : ℕ) (a b c : Operand) (xs : List Operand)
        → made n m (argued_all f means under offsets no_writing (a ∷ b ∷ c ∷ xs)) ≡ coded offsets (function_code f (function_in m) a (b ∷ c ∷ xs))
    unfolding argued_all used_codes function_code list_of
    more-used n m a b c xs =
        let with = used f means under offsets in
        rw (three-stay f means under offsets xs (argued (argued (argued no_writing (with a)) (with b)) (with c)) refl, none-three m)

    named : (n : ℕ) (a : Operand) (xs : List Operand)
        → coded offsets (function_code f (function_in (packed_at f.found means n)) a xs) ≡ coded offsets (function_code f (function_of (meaning_at f n)) a xs)
    named n a xs = ap (λ (g : Function). coded offsets (function_code f g a xs)) (function-at f means under table n)

    pub use-is : (n : ℕ) (a : Operand) (xs : List Operand) (j : ℕ) → are_arguments f.kinds (a ∷ xs) (n + 1) j
        → made n (packed_at f.found means n) (argued_all f means under offsets no_writing (a ∷ xs)) ≡ coded offsets (function_code f (function_of (meaning_at f n)) a xs)
    unfolding are_arguments
    use-is n a [] j (o, (i, h, (c, q))) = one-used n _ a _ i h ∙ named n a []
    use-is n a (b ∷ []) j (o, (i, h, (c, (y, (l, g, z))))) =
        let p : n + 1 + 1 ≡ n + 2 = omega arith in
        two-used n _ a b i _ l (subst (λ (q : ℕ). is_operand f.kinds a q i) p h) c g ∙ named n a (b ∷ [])
    use-is n a (b ∷ d ∷ xs) j h = more-used n _ a b d xs ∙ named n a (b ∷ d ∷ xs)
