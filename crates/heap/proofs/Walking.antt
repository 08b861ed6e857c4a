-- The walks of an entry up and down: how they step and stop, that they make swaps and nothing else, and how a carried entry is one
-- that swaps.
pub mod Laws
pub mod Steps
pub mod Hole
