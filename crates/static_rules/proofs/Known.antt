-- The cells of a text: no two are declared at one token, each is what its name means, each cell that a name means was declared, and its segment was opened. Tokens
-- rise along the text.
use mathlib.Core.Path.{◌≡◌, refl, sym, subst, ◌∙◌}
use mathlib.Core.Logic.{inl, inr}
use mathlib.Core.List.{List, [], ◌∷◌, ◌++◌, map}
use Prim.Native.Nat.{ℕ, suc, ◌+◌, ◌<◌, ◌≤◌}
use native.Mathlib.Omega.{arith}
use lib.ListN.{get_or, set, length, replicate}
use lib.Seq.{get_or-set_same, get_or-set_other}
use Rattle.base.specs.Lists.{◌∈◌, All}
use Rattle.base.proofs.Lists.{all_set, all_get_d, all_replicate, all_both, all_map}
use Rattle.grammar.specs.Derives.{is_register}
use Rattle.grammar.specs.Events.{Event}
use Rattle.grammar.specs.Places.{within, body, Place, along}
use Rattle.grammar.specs.Texts.{Stands, Text}
use Rattle.grammar.proofs.Order.{text-keeps}
use Rattle.scopes.specs.Search.{first_token}
use Rattle.static_rules.specs.Registers.{sixteen}
use Rattle.static_rules.specs.Functions.{nine}
use Rattle.static_rules.specs.Meaning.{Meaning, nothing, register, cell, routine, function, Cell}
use Rattle.static_rules.specs.Meanings.{Filled, Meant, mean, write, open_base, add_cell, cell_of, newest, base_in, mean_event, standard}
use Rattle.static_rules.proofs.Heeds.{Alike, Heeds, enters, names, adds, opens, other, heeds}
use Rattle.static_rules.proofs.Lengths.{event-long}

abbrev pub Below : ℕ → List Filled → Type 0
Below n ds = All (λ (d : Filled). d.cell.name < n) ds

-- each cell is declared at a later token than those before it, which follow in the list
abbrev pub Falling : List Filled → Type 0
Falling [] = Unit {0}
Falling (d ∷ ds) = Below d.cell.name ds × Falling ds

-- a cell that is meant was declared
abbrev pub Held : List Filled → Meaning → Type 0
Held ds nothing = Unit {0}
Held ds (register r) = Unit {0}
Held ds (cell c) = c ∈ map (λ (d : Filled). d.cell) ds
Held ds (routine r) = Unit {0}
Held ds (function k) = Unit {0}

-- a cell is what its name means
abbrev pub Told : List Meaning → Filled → Type 0
Told means d = get_or means d.cell.name nothing ≡ cell d.cell

-- of segment 1, or of one that a base declaration opened
abbrev pub Opened : ℕ → List Filled → Type 0
Opened bases ds = All (λ (d : Filled). d.cell.base.segment ≤ 1 + bases) ds

-- after the tokens before n
pub record Known (n : ℕ) (s : Meant) : Type 0 where
  pub below : Below n s.cells
  pub falling : Falling s.cells
  pub held : All (Held s.cells) s.means
  pub told : All (Told s.means) s.cells
  pub opened : Opened s.bases s.cells
  pub segments : All (λ (k : ℕ). k ≤ 1 + s.bases) s.opens

below-later : {m n : ℕ} (ds : List Filled) → m ≤ n → Below m ds → Below n ds
below-later {m} {n} ds h a = all_map (λ (d : Filled). d.cell.name < m) (λ (d : Filled). d.cell.name < n) ds (λ d e. omega arith) a

pub known-later : {m n : ℕ} (s : Meant) → m ≤ n → Known m s → Known n s
known-later s h k = record { below = below-later s.cells h k.below; falling = k.falling; held = k.held; told = k.told; opened = k.opened; segments = k.segments }

-- ── each change ──

known_alike : (n : ℕ) (s t : Meant) → Alike s t → Known n s → Known n t
known_alike n s t e k = record {
  below = subst (λ (l : List Filled). Below n l) (sym e.of-cells) k.below;
  falling = subst (λ (l : List Filled). Falling l) (sym e.of-cells) k.falling;
  held = subst (λ (l : List Filled). All (Held l) t.means) (sym e.of-cells) (subst (λ (l : List Meaning). All (Held s.cells) l) (sym e.of-means) k.held);
  told = subst (λ (l : List Filled). All (Told t.means) l) (sym e.of-cells) (subst (λ (l : List Meaning). All (Told l) s.cells) (sym e.of-means) k.told);
  opened = subst (λ (l : List Filled). Opened t.bases l) (sym e.of-cells) (subst (λ (m : ℕ). Opened m s.cells) (sym e.of-bases) k.opened);
  segments = subst (λ (l : List ℕ). All (λ (j : ℕ). j ≤ 1 + t.bases) l) (sym e.of-opens) (subst (λ (m : ℕ). All (λ (j : ℕ). j ≤ 1 + m) s.opens) (sym e.of-bases) k.segments);
}

-- a meaning that is set at a later token is no cell's of before
told-set : (n t : ℕ) (m : Meaning) (means : List Meaning) (ds : List Filled) → n ≤ t → Below n ds → All (Told means) ds → All (Told (set means t m)) ds
told-set n t m means [] h b a = tt
told-set n t m means (d ∷ ds) h (l, b) (e, a) = (get_or-set_other means t d.cell.name m nothing (λ q. omega arith) ∙ e, told-set n t m means ds h b a)

known-mean : (n j t : ℕ) (m : Meaning) (s : Meant) → n ≤ t → n ≤ j → Held s.cells m → Known n s → Known j (mean t m s)
known-mean n j t m s h l p k = record {
  below = below-later s.cells l k.below;
  falling = k.falling;
  held = all_set (Held s.cells) s.means t m k.held p;
  told = told-set n t m s.means s.cells h k.below k.told;
  opened = k.opened;
  segments = k.segments;
}

held_more : (d : Filled) (ds : List Filled) (m : Meaning) → Held ds m → Held (d ∷ ds) m
held_more d ds nothing h = tt
held_more d ds (register r) h = tt
held_more d ds (cell c) h = inr h
held_more d ds (routine r) h = tt
held_more d ds (function k) h = tt

known-cell : (n j : ℕ) (c : Cell) (vs : List ℕ) (s : Meant) → n ≤ c.name → c.name < j → c.name < length s.means → c.base.segment ≤ 1 + s.bases → Known n s → Known j (add_cell c vs s)
unfolding add_cell
known-cell n j c vs s h l i b k =
    let d : Filled = record { cell = c; values = vs } in
    record {
      below = (l, below-later s.cells (omega arith) k.below);
      falling = (below-later s.cells h k.below, k.falling);
      held = all_set (Held (d ∷ s.cells)) s.means c.name (cell c) (all_map (Held s.cells) (Held (d ∷ s.cells)) s.means (held_more d s.cells) k.held) (inl refl);
      told = (get_or-set_same s.means c.name (cell c) nothing i, told-set n c.name (cell c) s.means s.cells h k.below k.told);
      opened = (b, k.opened);
      segments = k.segments;
    }

known-open : (n j own r t : ℕ) (s : Meant) → n ≤ j → Known n s → Known j (open_base own r t s)
unfolding open_base write
known-open n j own r t s l k = record {
  below = below-later s.cells l k.below;
  falling = k.falling;
  held = k.held;
  told = k.told;
  opened = all_map (λ (d : Filled). d.cell.base.segment ≤ 1 + s.bases) (λ (d : Filled). d.cell.base.segment ≤ 1 + suc s.bases) s.cells (λ d h. omega arith) k.opened;
  segments =
      all_set (λ (j : ℕ). j ≤ 1 + suc s.bases) s.opens t (2 + s.bases)
      (all_map (λ (j : ℕ). j ≤ 1 + s.bases) (λ (j : ℕ). j ≤ 1 + suc s.bases) s.opens (λ d h. omega arith) k.segments) (omega arith);
}

-- ── along a text ──

module _ (kinds values found : List ℕ) where
  base-opened : (s : Meant) (p : Place) → All (λ (k : ℕ). k ≤ 1 + s.bases) s.opens → (base_in found s p).segment ≤ 1 + s.bases
  base-opened s [] h = omega arith
  base-opened s (within b ∷ p) h = go b.bases (base-opened s p h)
    where
      go : (ns : List ℕ) → (base_in found s p).segment ≤ 1 + s.bases → (newest found s ns (base_in found s p)).segment ≤ 1 + s.bases
      go [] k = k
      go (n ∷ ns) k = all_get_d (λ (k : ℕ). k ≤ 1 + s.bases) s.opens n 0 h (omega arith)
  base-opened s (body n r ∷ p) h = base-opened s p h

  heeds-known : {p : Place} {s t : Meant} {e : Event} → Heeds kinds values found p s e t → (i : ℕ) (x : Stands kinds e p i) → x.to ≤ length s.means → Known i s → Known x.to t
  unfolding is_register
  heeds-known {p} {s} (enters n r) i x l k = let h = x.is in known-mean i x.to n _ s (omega arith) (omega arith) tt k
  heeds-known {p} {s} (names r) i x l k = let h = x.is in known-mean i x.to r.name _ s (omega arith) (omega arith) tt k
  heeds-known {p} {s} (adds c w d) i x l k =
      let h = x.is in known-cell i x.to (cell_of values c w (base_in found s p) d) _ s (omega arith) (omega arith) (omega arith) (base-opened s p k.segments) k
  heeds-known {p} {s} (opens n) i x l k = known-open i x.to _ _ n s (omega arith) k
  heeds-known {p} {s} {t} (other a) i x l k = known-later t (omega arith) (known_alike i s t a k)

  record Going (N n : ℕ) (s : Meant) : Type 0 where
    long : length s.means ≡ N
    known : Known n s

  pub known-text : (es : List Event) (p : Place) (i j : ℕ) (s : Meant) → Text kinds es p i j → j ≤ length s.means → Known i s → Known j (along (mean_event kinds values found) es p s)
  known-text es p i j s t l k =
      (text-keeps kinds (mean_event kinds values found) (Going (length s.means)) j (λ i k s h g. record { long = g.long; known = known-later s h g.known })
      (λ e p i s x h g. record {
        long = (event-long kinds values found e p s).of-means ∙ g.long;
        known = (let w = g.long in heeds-known (heeds kinds values found e p s) i x (omega arith) g.known);
      })
      es p i s t (record { long = refl; known = k })).known

-- before the text
pub known-standard : (n : ℕ) → Known first_token (standard n)
known-standard n = record {
  below = tt;
  falling = tt;
  held = (
    tt,
    all_both (Held []) (map register sixteen) (map function nine ++ replicate n nothing) (
      tt,
      (tt, (tt, (tt, (tt, (tt, (tt, (tt, (tt, (tt, (tt, (tt, (tt, (tt, (tt, (tt, tt))))))))))))))),
    ) (all_both (Held []) (map function nine) (replicate n nothing) (tt, (tt, (tt, (tt, (tt, (tt, (tt, (tt, (tt, tt))))))))) (all_replicate (Held []) n nothing tt)),
  );
  told = tt;
  opened = tt;
  segments = all_replicate (λ (k : ℕ). k ≤ 1) (first_token + n) 0 (omega arith);
}
