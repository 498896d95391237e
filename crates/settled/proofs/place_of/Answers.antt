-- `place_of` seeks the token behind the names in front, which have no place. Assumes nothing.
use Rattle.settled.proofs.Places.{place-in-front, place-behind}
use Rattle.settled.proofs.place_of.Goals as goal

pub returns-then-t-lt-FIRST_TOKEN : goal.returns-then-t-lt-FIRST_TOKEN
returns-then-t-lt-FIRST_TOKEN c =
    place-in-front _ _ c.if-t-lt-FIRST_TOKEN.true

pub spot_in-spot-requires : goal.spot_in-spot-requires
spot_in-spot-requires c =
    c.requires

pub returns : goal.returns
returns c =
    place-behind _ _ _ c.if-t-lt-FIRST_TOKEN.false c.spot_in-spot.ensures
