-- A set, part by part: its places, the slots of its heap and its list; and what a change of one place does to each.
pub mod Change
pub mod Lives
pub mod Freed
pub mod OpenSlots
pub mod Room
pub mod OpenSet
pub mod ListChange
pub mod Ties
