-- The slots: they and the positions name each other, the free chain goes through the empty ones, and what stands in each.
pub mod Slab
pub mod Stored
pub mod Spare
pub mod Swap
pub mod FreeHead
pub mod Pushing
pub mod Removing
pub mod Kept
pub mod Lookup
pub mod BySlot
