-- On the tape of a program the passes find and settle what the definition does. Assumes nothing.
use mathlib.Core.Path.{◌≡◌, refl, sym, ap, ap₂, subst, ◌∙◌}
use mathlib.Core.List.{List, []}
use Prim.Native.Nat.{ℕ, zero, suc, ◌+◌, ◌-◌, ◌/◌, ◌≤◌, ◌<◌}
use native.Mathlib.Omega.{arith}
use lib.ListN.{length, get_or, replicate, length-replicate}
use Rattle.token.specs.declared.Token.{Token}
use Rattle.grammar.specs.Tree.{Statement}
use Rattle.grammar.specs.Derives.{is_program}
use Rattle.grammar.specs.Events.{Event, events_of}
use Rattle.grammar.proofs.Texts.{program-text}
use Rattle.grammar.proofs.Kept.{keep_statement}
use Rattle.grammar.proofs.Theorems.{program-inside}
use Rattle.tape.specs.Tape.{event, tape_statement}
use Rattle.tape.specs.Pass.{pass}
use Rattle.tape.specs.Written.{op_of, token_of}
use Rattle.tape.proofs.Written.{tree-tape}
use Rattle.ledger.specs.Book.{Wide, Thin, thin_of, thin_column, on_thin, zeros}
use Rattle.ledger.proofs.Columns.{thin-length}
use Rattle.scopes.specs.declared.Noted.{Noted}
use Rattle.scopes.specs.Broken.{Ruling, unbroken, ◌⊕◌}
use Rattle.scopes.specs.Search.{standard_names, first_token}
use Rattle.scopes.specs.Names.{Named}
use Rattle.scopes.specs.Labels.{Labelled}
use Rattle.scopes.proofs.Early.{Early, found_early}
use Rattle.scopes.proofs.Joins.{quiet-right}
use Rattle.static_rules.specs.Meaning.{Meaning, nothing}
use Rattle.static_rules.specs.Meanings.{Meant, mean_program, standard}
use Rattle.static_rules.specs.Tables.{Tables}
use Rattle.static_rules.specs.Kinds.{rules_of}
use Rattle.static_rules.proofs.Bases.{bases-along}
use Rattle.static_rules.proofs.Known.{Known, known-text, known-standard}
use Rattle.tables.specs.Packed.{meanings_of}
use Rattle.names.specs.Naming.{name_op, beginning}
use Rattle.names.specs.Flat.{named_in}
use Rattle.names.proofs.Trees.{named-program}
use Rattle.names.specs.Chains.{labelled_in}
use Rattle.names.specs.Labelling.{labelled_along}
use Rattle.names.proofs.labels.Trees.{labelled-program}
use Rattle.meanings.specs.Along.{mean_event}
use Rattle.meanings.specs.Along as M
use Rattle.meanings.specs.Flat.{meant_of, View, view_of, changed, named_to}
use Rattle.meanings.proofs.Trees.{tabled}
use Rattle.meanings.proofs.Start.{meant-text}
use Rattle.rules.specs.Shows.{Shown}
use Rattle.judge.specs.Along.{judge_event, with_offsets}
use Rattle.judge.specs.Along as J
use Rattle.judge.proofs.Trees.{judged-program}
use Rattle.layout.specs.Along.{Laying, laying_of, start_ends, layout_event, capped_event, Book, book_of, laying_in, layout_in}
use Rattle.layout.proofs.Capped.{Capped, capped-layout}
use Rattle.layout.proofs.Laid.{LaidAs, layout-of-tree}
use Rattle.translation.specs.Translate.{kinds_of, values_of, named, labelled, meant}
use Rattle.translation.proofs.Tables.{length-map}
use Rattle.settled.specs.declared.Judged.{Judged}
use Rattle.settled.specs.Texts.{Text, Blank, Bound, Cleared, meant_in, tables_in, Settled, Stays}

-- ── the tokens of a program ──

module _ (ts : List Token) (x : Statement) (to : ℕ) (p : is_program (kinds_of ts) x first_token to) where
  inside : to ≤ length ts
  inside = let h = program-inside (kinds_of ts) first_token x to p in let e = length-map (λ (t : Token). t.kind) ts in omega arith

  pub program-front : first_token < length ts
  unfolding is_program
  program-front = let r = (keep_statement {kinds = kinds_of ts} {others = kinds_of ts} x).rises p.1.1 in let h = inside in let q = p.2.1 in omega arith

  -- each name is found at a declaration before it
  pub early : Early (named ts x).found
  unfolding named
  early =
      found_early (kinds_of ts) (values_of ts) (events_of x) [] first_token to (program-text (kinds_of ts) x first_token to p) (omega arith) tt _ (λ t. let e = zeros (length ts) t in omega arith)
    where
      zeros : (k j : ℕ) → get_or (replicate {A = ℕ} k 0) j 0 ≡ 0
      zeros zero j = refl
      zeros (suc k) zero = refl
      zeros (suc k) (suc j) = zeros k j

-- ── names and labels ──

module _ (ts : List Token) (x : Statement) (values tape : List ℕ) (t : Text ts x values tape) where
  pub values-long : length values ≡ length ts
  values-long = ap length t.values-are ∙ length-map (λ (u : Token). u.value) ts

  -- names are found in b₁, labels in b₂, and other columns are cleared in b₃
  pub bound :
      (b₀ b₁ b₂ b₃ : Thin) (n l : Noted) (r : Ruling) → length values ≤ length b₁.opens → length values ≤ length b₁.written → Blank ts b₀.found → Blank ts b₀.goes
      → (named_in b₁.found n ≡ (pass (name_op values) (beginning b₀.found) tape).named) × (b₁.goes ≡ b₀.goes)
      → (labelled_in b₂.goes l ≡ labelled_along tape values b₁.opens b₁.written b₁.goes) × (b₂.found ≡ b₁.found)
      → b₃.found ≡ b₂.found → b₃.goes ≡ b₂.goes → r ≡ n.broken ⊕ l.broken → Bound ts x b₃ r
  unfolding named labelled
  bound b₀ b₁ b₂ b₃ n l r wl wo bf bg en el ef eg er =
      let i = inside ts x t.to t.program in
      let v = values-long in
      let p : named_in b₁.found n ≡ named ts x = rw (t.values-are, t.tape-is, bf) at en.0 ∙ named-program (kinds_of ts) (values_of ts) _ x first_token t.to t.program in
      let q : labelled_in b₂.goes l ≡ labelled ts x =
      rw (t.values-are, t.tape-is, en.1, bg) at el.0
      ∙ labelled-program (kinds_of ts) (values_of ts) b₁.opens b₁.written _ x first_token t.to t.program (omega arith) (omega arith) (omega arith) in
      record {
        found-is = ef ∙ (el.1 ∙ ap (λ (s : Named). s.found) p);
        goes-is = eg ∙ ap (λ (s : Labelled). s.goes) q;
        broken-is = er ∙ ap₂ (λ (a c : Ruling). a ⊕ c) (ap (λ (s : Named). s.broken) p) (ap (λ (s : Labelled). s.broken) q);
      }

pub cleared : (before after : List ℕ) (b₁ b₂ : Thin) → b₁ ≡ on_thin 2 zeros (thin_of after) → b₂ ≡ on_thin 3 zeros b₁ → length after ≡ length before → Cleared before b₂
cleared before after b₁ b₂ e₁ e₂ long = record {
  opens-are = ap (λ (b : Thin). b.opens) e₂ ∙ (ap (λ (b : Thin). b.opens) e₁ ∙ rows 2);
  written-are = ap (λ (b : Thin). b.written) e₂ ∙ (ap (λ (b : Thin). zeros b.written) e₁ ∙ rows 3);
}
  where
    rows : (c : ℕ) → zeros (thin_column c (thin_of after)) ≡ replicate (length before / 4) 0
    rows c = ap (λ (n : ℕ). replicate n 0) (thin-length c after ∙ ap (λ (n : ℕ). n / 4) long)

-- ── base declarations ──

-- there are no more of them than events
few-opened : (kinds values found : List ℕ) (x : Statement) (s : Meant) → (mean_program kinds values found x s).bases ≤ s.bases + length (tape_statement x [])
few-opened kinds values found x s =
    let e : length (tape_statement x []) ≡ length (events_of x) = ap length (tree-tape x) ∙ length-map (λ (e : Event). event (op_of e) (token_of e)) (events_of x) in
    omega (arith, bases-along kinds values found (events_of x) [] s)

-- ── meanings, rules and places ──

module _ (ts : List Token) (x : Statement) (kinds tape : List ℕ) (w₀ : Wide) (b₀ : Thin) (t : Text ts x w₀.values tape) (ek : kinds ≡ kinds_of ts) (ef : b₀.found ≡ (named ts x).found) where
  abbrev n : ℕ
  n = length ts - first_token

  long : first_token + n ≡ length ts
  long = let h = program-front ts x t.to t.program in omega arith

  blank : (l : List ℕ) → Blank ts l → l ≡ replicate (first_token + n) 0
  blank l b = b ∙ ap (λ (k : ℕ). replicate k 0) (sym long)

  -- the tables are made in w₁ and b₁
  module _
      (w₁ : Wide) (b₁ : Thin) (bases : ℕ) (bm : Blank ts w₀.means) (bo : Blank ts b₀.opens) (bw : Blank ts b₀.written)
      (e : view_of w₁ b₁ bases ≡ changed (λ (s : Meant). (pass (mean_event kinds w₀.values b₀.found) (M.beginning s) tape).meant) (view_of (named_to standard_names w₀) b₀ 0))
    where
      -- but for the list of cells
      tables : meant_of w₁.means w₁.under b₁.opens b₁.written bases ≡ tabled (meant_in ts x)
      unfolding meant
      tables =
          ap (λ (v : View). v.meant) e ∙ rw (t.values-are, t.tape-is, ek, ef, blank w₀.means bm, blank b₀.opens bo, blank b₀.written bw)
          (meant-text (kinds_of ts) (values_of ts) (named ts x).found w₀.under n t.small (early ts x t.to t.program) x first_token t.to
          t.program (let a = inside ts x t.to t.program in let b = long in omega arith))

      means-are : meanings_of w₁.means w₁.under ≡ (meant_in ts x).means
      means-are = ap (λ (s : Meant). s.means) tables

      few : (meant_in ts x).bases ≤ length tape
      unfolding meant
      few =
          let h : (meant_in ts x).bases ≤ 0 + length (tape_statement x []) = few-opened (kinds_of ts) (values_of ts) (named ts x).found x (standard n) in
          rw t.tape-is (omega (arith, h))

      shown : Shown (tables_in ts x) kinds w₁ b₁
      shown = record {
        listed = record {
          bases = w₁.under;
          found-is = sym (ap (λ (v : View). v.found) e ∙ ef);
          means_is = sym means-are;
          values-is = sym (ap (λ (v : View). v.values) e ∙ t.values-are);
          opens-is = sym (ap (λ (s : Meant). s.opens) tables);
          written_is = sym (ap (λ (s : Meant). s.written) tables);
        };
        kinds-is = sym ek;
      }

      known : Known t.to (meant_in ts x)
      unfolding meant
      known =
          known-text (kinds_of ts) (values_of ts) (named ts x).found (events_of x) [] first_token t.to (standard n) (program-text (kinds_of ts) x first_token t.to t.program)
          (let a = length-replicate {A = Meaning} n nothing in let b = long in let c = inside ts x t.to t.program in omega arith) (known-standard n)

      -- the rules are judged, with the offsets worked in; these are cleared in w₂; the cells are placed in w₃ and b₃, in N rows
      module _
          (w₂ w₃ : Wide) (b₃ : Thin) (offsets : List ℕ) (N : ℕ) (others ruled placed : Ruling) (r : Judged) (wide : length tape + 2 ≤ N)
          (ej : (f : Tables) → Shown f kinds w₁ b₁ → ruled ≡ (pass (judge_event f) (J.beginning others) tape).broken)
          (ec : w₂ ≡ with_offsets offsets w₁) (bl : Blank ts offsets) (el : book_of w₃ b₃ placed ≡ layout_in N tape (book_of w₂ b₁ unbroken))
          (eb : r.bases ≡ bases) (er : r.broken ≡ ruled ⊕ placed)
        where
          abbrev laid : Laying
          laid = laying_of b₃.written w₃.offsets placed

          abbrev exact : Laying
          exact = pass (layout_event w₁.means w₁.under) (laying_of (start_ends N) offsets unbroken) tape

          laid-is : laid ≡ pass (capped_event w₁.means w₁.under) (laying_of (start_ends N) offsets unbroken) tape
          laid-is = ap laying_in el ∙ ap (λ (w : Wide). pass (capped_event w.means w.under) (laying_of (start_ends N) w.offsets unbroken) tape) ec

          as-capped : Capped exact laid
          as-capped = subst (λ (l : Laying). Capped exact l) (sym laid-is) (capped-layout w₁.means w₁.under offsets N tape)

          as-defined : LaidAs (meant_in ts x).bases (meant_in ts x).cells exact
          unfolding meant
          as-defined =
              let f = few in
              let within = inside ts x t.to t.program in
              rw (t.tape-is, bl)
              (layout-of-tree w₁.means w₁.under (kinds_of ts) (values_of ts) (named ts x).found x first_token t.to t.program (standard n) refl
              t.to known means-are N (length ts) within (omega arith))

          -- where nothing is broken
          right : r.broken ≡ unbroken → laid ≡ exact
          right q = as-capped.same (sym as-capped.broken ∙ quiet-right ruled placed (sym er ∙ q))

          pub settled : Settled ts x w₃ b₃ others r
          unfolding is_program
          settled =
              let d : (pass (judge_event (tables_in ts x)) (J.beginning others) tape).broken ≡ others ⊕ rules_of (tables_in ts x) x =
              rw t.tape-is (judged-program (kinds_of ts) (tables_in ts x) x first_token t.to t.program others) in
              let em : w₃.means ≡ w₁.means = ap (λ (l : Book). l.wide.means) el ∙ ap (λ (w : Wide). w.means) ec in
              let eu : w₃.under ≡ w₁.under = ap (λ (l : Book). l.wide.under) el ∙ ap (λ (w : Wide). w.under) ec in
              record {
                means-are = ap₂ (λ (a c : List ℕ). meanings_of a c) em eu ∙ means-are;
                opens-are = ap (λ (l : Book). l.thin.opens) el ∙ ap (λ (s : Meant). s.opens) tables;
                bases-are = eb ∙ ap (λ (s : Meant). s.bases) tables;
                broken-is = er ∙ ap₂ (λ (a c : Ruling). a ⊕ c) (ej (tables_in ts x) shown ∙ d) (as-capped.broken ∙ as-defined.broken);
                ends-are = λ q k. ap (λ (l : Laying). get_or l.ends k 0) (right q) ∙ as-defined.ends k;
                offsets_are = λ q u. ap (λ (l : Laying). get_or l.offsets u 0) (right q) ∙ as-defined.offsets u;
              }

-- what stays
pub stays : (kinds tape : List ℕ) (w₀ w₁ w₂ w₃ : Wide) (b₀ b₁ b₃ : Thin) (bases N : ℕ) (offsets : List ℕ) (placed : Ruling)
    → view_of w₁ b₁ bases ≡ changed (λ (s : Meant). (pass (mean_event kinds w₀.values b₀.found) (M.beginning s) tape).meant) (view_of (named_to standard_names w₀) b₀ 0)
    → w₂ ≡ with_offsets offsets w₁ → book_of w₃ b₃ placed ≡ layout_in N tape (book_of w₂ b₁ unbroken) → Stays w₀ w₃ b₀ b₃
stays kinds tape w₀ w₁ w₂ w₃ b₀ b₁ b₃ bases N offsets placed e ec el = record {
  values-stay = ap (λ (l : Book). l.wide.values) el ∙ (ap (λ (w : Wide). w.values) ec ∙ ap (λ (v : View). v.values) e);
  found-stays = ap (λ (l : Book). l.thin.found) el ∙ ap (λ (v : View). v.found) e;
  goes-stays = ap (λ (l : Book). l.thin.goes) el ∙ ap (λ (v : View). v.goes) e;
}
