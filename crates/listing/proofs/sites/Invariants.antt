-- `sites` goes from the last token to the first. The invariant: what is found is that of the tokens from t on. Assumes nothing.
use mathlib.Core.Path.{◌≡◌}
use Rattle.listing.proofs.Siting.{sites_at}
use Rattle.listing.proofs.sites.Given as goal

abbrev pub invariant-loop-t : goal.invariant-loop-t
invariant-loop-t l =
    l.site ≡ sites_at l.wide l.key l.t
