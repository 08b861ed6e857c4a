-- A set and the ledger of its calls: the set stays as the ledger says, whatever calls come.
pub mod Told
pub mod Tracks
pub mod TracksTouch
pub mod TracksPlaces
pub mod TracksClose
pub mod TracksDrain
pub mod TracksPop
pub mod TracksHead
pub mod TracksRing
pub mod TracksSteps
pub mod Runs
pub mod Owing
