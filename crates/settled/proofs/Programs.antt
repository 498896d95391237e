-- The tree that was read from a text's tokens, and its tape. Assumes nothing.
use mathlib.Core.Path.{◌≡◌, subst}
use mathlib.Core.List.{List}
use Prim.Native.Nat.{ℕ, ◌≤◌}
use native.Mathlib.Omega.{arith}
use lib.ListN.{length, take}
use Rattle.token.specs.declared.Token.{Token}
use Rattle.grammar.specs.Reader.{ok}
use Rattle.grammar.specs.Grammar.{nesting, program}
use Rattle.grammar.proofs.Theorems.{read-is-program, read-is-within, program-inside}
use Rattle.ledger.specs.Book.{thin_limit}
use Rattle.ledger.specs.Bounds.{Narrow, Nested}
use Rattle.ledger.proofs.Bounds.{program-narrow, program-nested}
use Rattle.scopes.specs.Search.{first_token}
use Rattle.translation.specs.Translate.{kinds_of, values_of}
use Rattle.parse.specs.Programs.{Accepted}
use Rattle.readers.specs.declared.tokens.Read.{Read}
use Rattle.settled.specs.Texts.{Small, Text}

module _ (kinds tape : List ℕ) (p : Read) (d : Accepted kinds first_token tape p) where
  -- its tape fits the ledger and the stacks
  pub tape-fits : length kinds ≤ thin_limit → Narrow (take p.value tape) × Nested nesting 0 0 (take p.value tape)
  tape-fits h =
      let whole = read-is-program kinds first_token d.tree p.at d.is in
      let to = program-inside kinds first_token d.tree p.at whole in
      rw d.events (program-narrow kinds d.tree first_token p.at whole (omega arith), program-nested nesting d.tree (read-is-within kinds first_token d.tree p.at d.is))

  pub text-is : (ts : List Token) (values : List ℕ) → kinds ≡ kinds_of ts → values ≡ values_of ts → Small ts → Text ts d.tree values (take p.value tape)
  text-is ts values ek ev small = record {
    to = p.at;
    program = read-is-program (kinds_of ts) first_token d.tree p.at (subst (λ (k : List ℕ). program k first_token ≡ ok d.tree p.at) ek d.is);
    small = small;
    values-are = ev;
    tape-is = d.events;
  }
