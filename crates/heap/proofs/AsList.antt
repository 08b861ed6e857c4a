-- The entries in use as a list: the rules on heaps are those on lists, and with them come order, pops and the count of swaps.
pub mod Items
pub mod ItemsUp
pub mod ItemsDown
pub mod ItemsCalls
pub mod Ordered
pub mod Bounds
pub mod Entries
pub mod Pops
