-- The runner by the form of a text: an object's text is run, every other text is refused, and so by what the reader answers. Assumes nothing.
use Prim.Native.Nat.{ℕ, ◌<◌, ◌≤◌}
use mathlib.Core.Path.{◌≡◌, refl, sym, ap, ◌∙◌}
use mathlib.Core.List.{List}
use mathlib.Core.Option.{some}
use lib.ListN.{length}
use borrow.Author.Tests.{lt-ltb, le-ltb}
use Rattle.objtext.specs.Object.{Segment, Object, object_text, Form, of-object, of_none}
use Rattle.std.specs.Prelude as P
use Rattle.objtext.specs.Reader.{read_object, read_as, segment_list}
use Rattle.objtext.proofs.Written.{written_once}
use Rattle.objtext.proofs.Exact.{exactly, form}
use Rattle.base.proofs.Lists.{none-some}
use Rattle.objtext.proofs.Walks.{read_as_lem}
use Rattle.machine.specs.Space.{needed}
use Rattle.machine.specs.Run.{run}
use Rattle.runner.specs.Load.{loaded, space_of, started}
use Rattle.runner.specs.Runner.{refused, accepted, on_object, on_form, runner}

module _ (text regs : List ℕ) (k budget : ℕ) (s : List ℕ) where
  on-object : (f : Form text) (gs : List Segment) → Object gs → object_text gs ≡ text → on_form f regs k budget s ≡ on_object gs regs k budget s
  on-object (of-object hs p q) gs o e = ap (λ (x : List Segment). on_object x regs k budget s) (written_once hs gs p o (q ∙ sym e))
  on-object (of_none n) gs o e = absurd (n gs o e)

  on_none : (f : Form text) → ((gs : List Segment) → Object gs → object_text gs ≡ text → ⊥) → on_form f regs k budget s ≡ refused 17 regs k s
  on_none (of-object gs o e) n = absurd (n gs o e)
  on_none (of_none m) n = refl

  -- the text of an object
  pub runner-object : (gs : List Segment) → Object gs → object_text gs ≡ text → runner text regs k budget s ≡ on_object gs regs k budget s
  unfolding runner
  runner-object gs o e = on-object (form text) gs o e

  -- the text of none
  pub runner-none : ((gs : List Segment) → Object gs → object_text gs ≡ text → ⊥) → runner text regs k budget s ≡ refused 17 regs k s
  unfolding runner
  runner-none n = on_none (form text) n

  pub runner-read : (gs : List Segment) → read_object text ≡ some gs → runner text regs k budget s ≡ on_object gs regs k budget s
  runner-read gs e = let f = (exactly text gs).0 e in runner-object gs f.0 f.1

  -- by the count of segments that the code reads
  pub runner-counted : (n : ℕ) → read_as (P.Some n) text ≡ read_object text → runner text regs k budget s ≡ on_object (segment_list n text) regs k budget s
  runner-counted n e = runner-read (segment_list n text) (read_as_lem n text e)

  pub runner-uncounted : read_as P.None text ≡ read_object text → runner text regs k budget s ≡ refused 17 regs k s
  unfolding read_as
  runner-uncounted e = runner-none (λ gs o q. none-some gs (e ∙ (exactly text gs).1 (o, q)))

  -- what is left where a count was read: 18, 19, or the run
  module _ (n : ℕ) (e : read_as (P.Some n) text ≡ read_object text) where
    pub runner-18 : 3 < k → runner text regs k budget s ≡ refused 18 regs k s
    runner-18 l = runner-counted n e ∙ rw (lt-ltb 3 k l)

    pub runner-19 : k ≤ 3 → length s < needed → runner text regs k budget s ≡ refused 19 regs k s
    runner-19 l m = runner-counted n e ∙ rw (le-ltb 3 k l, lt-ltb (length s) needed m)

    pub runner-runs : k ≤ 3 → needed ≤ length s
        → runner text regs k budget s ≡ accepted (run budget (space_of (segment_list n text)) (started regs k) (loaded (segment_list n text) s))
    runner-runs l m = runner-counted n e ∙ rw (le-ltb 3 k l, le-ltb (length s) needed m)
