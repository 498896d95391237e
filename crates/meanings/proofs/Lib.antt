-- Laws of the walk: where it is, what each event leaves, the loop along the tape.
pub mod Moves
pub mod Changes
pub mod Views
pub mod Along
pub mod Trees
pub mod Start
