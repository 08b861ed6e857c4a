-- The worked sets of specs/States.antt, by what is drawn of them, so that no proof goes through what is not.
pub mod Each
pub mod Room
pub mod Links
pub mod Few
pub mod Small
pub mod Verdicts
pub mod Same
pub mod Numbered
pub mod Full
pub mod FullKept
pub mod Path
pub mod Emptied
pub mod Tested
pub mod Fitting
pub mod Crowded
