-- Room not in use counts for nothing: two sets that differ only there give the same answers.
pub mod InUseDrain
pub mod InUseRings
pub mod InUseGuards
pub mod InUse
pub mod InUseLeft
