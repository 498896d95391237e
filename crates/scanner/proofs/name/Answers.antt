-- `name` counts the characters of a name and makes its key. Assumes nothing.
use Prim.Native.Nat.{ℕ}
use mathlib.Core.Bool.{Bool}
use mathlib.Core.List.{List}
use mathlib.Core.Path.{◌≡◌, sym, ap, ◌∙◌}
use lib.ListN.{length}
use native.Mathlib.Omega.{arith}
use borrow.Author.Rules.{rules}
use Rattle.base.proofs.Tests.{tests}
use Rattle.base.proofs.Runs.{run_on, run-stop, run_end}
use Rattle.base.specs.Numbers.{number_from}
use Rattle.base.specs.Runs.{run_len}
use Rattle.token.specs.Text.{in_name}
use Rattle.scanner.proofs.Spelling.{alphanumeric, key-on, key-small}
use Rattle.scanner.specs.Inner.{in_base}
use Rattle.scanner.proofs.name.Goals as goal

pub loop-size-init : goal.loop-size-init
unfolding number_from
loop-size-init c =
    record { run = search rules; key = search rules }

-- the characters are those of a name
in-name : (s : List ℕ) {n : ℕ} → n ≡ run_len (in_base 36) s → n ≡ run_len in_name s
in-name s e = e ∙ ap (λ (p : ℕ → Bool). run_len p s) alphanumeric

pub returns-then-d-ge36 : goal.returns-then-d-ge36
returns-then-d-ge36 c =
    record {
      size = in-name _ (run-stop _ _ _ c.loop-size-test.true (rw (← c.digit-d.ensures.0) (search tests)) c.loop-size.invariant.run);
      value = c.loop-size.invariant.key;
      fits = search rules;
    }

pub longer-value-requires : goal.longer-value-requires
longer-value-requires c =
    (rw c.loop-size.invariant.key (key-small c.args.s.now c.loop-size.size (omega (arith, c.loop-size.invariant.run))), search rules)

pub loop-size-preserved : goal.loop-size-preserved
loop-size-preserved c = record {
  run = run_on _ _ _ c.loop-size-test.true (rw (← c.digit-d.ensures.0) (search tests)) c.loop-size.invariant.run;
  key =
      key-on c.args.s.now c.loop-size.size c.loop-size.value c.digit-d.result _ c.loop-size.invariant.key c.loop-size-test.true c.digit-d.ensures.0
      c.longer-value.ensures;
}

pub returns : goal.returns
returns c =
    let e : c.loop-size.size ≡ length c.args.s.now = omega arith in
    record {
      size = in-name _ (sym e ∙ run_end _ _ _ (omega arith) c.loop-size.invariant.run);
      value = rw e at c.loop-size.invariant.key;
      fits = omega arith;
    }
