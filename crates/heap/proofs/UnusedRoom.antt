-- Room not in use counts for nothing: two heaps that differ only there give the same answers.
pub mod InUseTest
pub mod InUseStores
pub mod InUseWalks
pub mod InUse
