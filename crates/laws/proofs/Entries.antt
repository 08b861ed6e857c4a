-- The entry of a place in the heap: what a touch, a drain and a pop do to it.
pub mod EntryOfTouch
pub mod EntryOfSettle
pub mod EntryOfDrain
pub mod EntryOfPop
