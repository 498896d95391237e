-- A program's code along its tape: with the addresses that the address pass leaves, the code pass makes exactly the definition's instructions, and they end where
-- the address pass ends.
use mathlib.Core.Path.{◌≡◌, ap, ◌∙◌}
use mathlib.Core.List.{List, [], append-nil}
use Prim.Native.Nat.{ℕ, ◌≤◌}
use native.Mathlib.Omega.{arith}
use lib.ListN.{replicate}
use Rattle.grammar.specs.Tree.{Statement}
use Rattle.grammar.specs.Derives.{is_program}
use Rattle.grammar.specs.Events.{events_of}
use Rattle.grammar.specs.Places.{Along}
use Rattle.grammar.proofs.Texts.{program-text}
use Rattle.tape.specs.Tape.{tape_statement}
use Rattle.tape.proofs.Pass.{pass-none}
use Rattle.scopes.specs.Search.{first_token}
use Rattle.scopes.proofs.Bound.{Goes}
use Rattle.tables.specs.Packed.{meanings_of}
use Rattle.static_rules.specs.Tables.{Tables}
use Rattle.translation.specs.Core.{core_statement}
use Rattle.translation.specs.Code.{size_of, code}
use Rattle.emit.specs.Along.{along}
use Rattle.emit.proofs.Operands.{Small}
use Rattle.emit.proofs.Written.{coded}
use Rattle.code.specs.Places.{whole, Placing, placing_of, no_writing, places_along}
use Rattle.code.proofs.Expressions.{listing, Walking, place-alone}
use Rattle.code.proofs.Leaves.{leaves}
use Rattle.code.proofs.Statements.{code-statement}
use Rattle.code.proofs.Addresses.{Held, marks_of, place-statement}
use Rattle.code.proofs.Agreeing.{agree-program}

module _
    (f : Tables) (means under offsets : List ℕ) (table : f.means ≡ meanings_of means under) (small : Small f)
    (held : Held f) (x : Statement) (i j n : ℕ) (program : is_program f.kinds x i j)
  where
    pub places-program :
        places_along whole f.kinds f.values f.found f.goes means under f.opens offsets (replicate n 0) (tape_statement x [])
        ≡ placing_of (size_of (core_statement f x)) (leaves f means under offsets x no_writing) (marks_of f x 0 (replicate n 0))
    unfolding is_program places_along
    places-program =
        place-alone f means under offsets (tape_statement x []) 0 no_writing (replicate n 0) (listing 0 0 [])
        ∙ (ap (λ (s : Walking). s.placing) (place-statement f means under offsets table small held x _ _ program.1.1 0 no_writing (replicate n 0) (listing 0 0 []) [] ∙ pass-none _ _)
        ∙ ap (λ (p : ℕ). placing_of p (leaves f means under offsets x no_writing) (marks_of f x 0 (replicate n 0))) (omega arith))

    -- the tokens of names around a program stand before it, and the marks have room for its own
    module _ (starts : first_token ≤ i) (room : j ≤ n) (bound : Along (Goes f.found f.goes) (events_of x) []) where
      pub code-program :
          along f.kinds f.values f.found f.goes means under f.opens offsets
          (places_along whole f.kinds f.values f.found f.goes means under f.opens offsets (replicate n 0) (tape_statement x [])).marks no_writing (tape_statement x [])
          ≡ coded offsets (code [] [] (core_statement f x) 0)
      unfolding is_program along
      code-program =
          ap
          (λ (s : Placing).
          along f.kinds f.values f.found f.goes means under f.opens offsets s.marks no_writing (tape_statement x []))
          places-program
          ∙ (code-statement f means under offsets _ table small held x _ _ program.1.1 [] [] 0
          (agree-program f x i j n (program-text f.kinds x i j program) bound starts room) no_writing []
          ∙ append-nil _)
