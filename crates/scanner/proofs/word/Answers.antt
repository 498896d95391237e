-- `word` finds a reserved word at the place of its key: two tests over the whole table, which antt computes. Assumes nothing.
use mathlib.Core.Path.{ap, ◌∙◌}
use Rattle.base.specs.Numbers.{number_from}
use Rattle.scanner.specs.Entries.{place_of, entries}
use Rattle.scanner.specs.Inner.{key_kind, entry_at}
use Rattle.scanner.proofs.Words.{hit, miss}
use Rattle.scanner.proofs.word.Goals as goal

pub returns-then-w-key : goal.returns-then-w-key
unfolding entries entry_at key_kind number_from
returns-then-w-key c =
    hit entries place_of c.args.key _ (c.entry-w.ensures ∙ ap (entry_at entries) c.place.ensures) c.if-w-key.true tt tt

pub returns : goal.returns
unfolding entries entry_at key_kind number_from
returns c =
    miss entries place_of c.args.key _ (c.entry-w.ensures ∙ ap (entry_at entries) c.place.ensures) c.if-w-key.false tt
