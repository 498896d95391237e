-- In the tables of an accepted text each name has the declaration, and each GOTO the label, that the search finds where it stands.
use mathlib.Core.Path.{◌≡◌, refl, ap}
use mathlib.Core.List.{List, [], ◌∷◌, map}
use Prim.Native.Nat.{ℕ, suc, ◌<◌, ◌≤◌}
use native.Mathlib.Omega.{arith}
use lib.ListN.{length, length-replicate}
use Rattle.token.specs.Kinds as K
use Rattle.token.specs.declared.Token.{Token}
use Rattle.grammar.specs.Tree.{Statement}
use Rattle.grammar.specs.Derives.{is_statement, is_program}
use Rattle.grammar.proofs.Tests.{real}
use Rattle.grammar.proofs.Theorems.{read-is-program, program-inside}
use Rattle.grammar.specs.Events.{events_of}
use Rattle.grammar.specs.Places.{Along}
use Rattle.grammar.proofs.Texts.{program-text}
use Rattle.scopes.specs.Search.{first_token}
use Rattle.scopes.specs.Found.{Found, Led}
use Rattle.scopes.proofs.Finding.{finding, leading}
use Rattle.translation.specs.Translate.{kinds_of, values_of, named, labelled}
use Rattle.translation.proofs.Answers.{Accepted}

pub length-map : {A : Type 0} (g : A → ℕ) (l : List A) → length (map g l) ≡ length l
length-map g [] = refl
length-map g (a ∷ l) = ap (λ (k : ℕ). suc k) (length-map g l)

pub names-found : (ts : List Token) (x : Statement) (j : ℕ) → is_program (kinds_of ts) x first_token j → j ≤ length ts
    → Along (Found (values_of ts) (named ts x).found) (events_of x) []
unfolding named
names-found ts x j p h =
    finding (kinds_of ts) (values_of ts) (events_of x) [] first_token j (program-text (kinds_of ts) x first_token j p) _ (omega (arith, length-replicate {A = ℕ} (length ts) 0))

pub labels-led : (ts : List Token) (x : Statement) (j : ℕ) → is_program (kinds_of ts) x first_token j → j ≤ length ts
    → Along (Led (values_of ts) (labelled ts x).goes) (events_of x) []
unfolding labelled
labels-led ts x j p h =
    leading (kinds_of ts) (values_of ts) (events_of x) [] first_token j (program-text (kinds_of ts) x first_token j p) _ (omega (arith, length-replicate {A = ℕ} (length ts) 0))

-- an accepted text's tree, from the first token up to the `@`, which is a token of the text
pub record Derived (source object : List ℕ) (a : Accepted source object) : Type 0 where
  pub to : ℕ
  pub derived : is_statement (kinds_of a.tokens) a.tree first_token to
  pub inside : to < length a.tokens

pub accepted-derived : (source object : List ℕ) (a : Accepted source object) → Derived source object a
unfolding is_program
accepted-derived source object a =
    let p = read-is-program (kinds_of a.tokens) first_token a.tree a.next a.read in
    let h = real (kinds_of a.tokens) p.0 K.AT (omega arith) p.2.0 in
    let e = length-map (λ (t : Token). t.kind) a.tokens in
    record { to = p.0; derived = p.1.1; inside = omega arith }

module _ (source object : List ℕ) (a : Accepted source object) where
  program : is_program (kinds_of a.tokens) a.tree first_token a.next
  program = read-is-program (kinds_of a.tokens) first_token a.tree a.next a.read

  inside : a.next ≤ length a.tokens
  inside = omega (arith, program-inside (kinds_of a.tokens) first_token a.tree a.next program, length-map (λ (t : Token). t.kind) a.tokens)

  pub accepted-names : Along (Found (values_of a.tokens) (named a.tokens a.tree).found) (events_of a.tree) []
  accepted-names = names-found a.tokens a.tree a.next program inside

  pub accepted-labels : Along (Led (values_of a.tokens) (labelled a.tokens a.tree).goes) (events_of a.tree) []
  accepted-labels = labels-led a.tokens a.tree a.next program inside
