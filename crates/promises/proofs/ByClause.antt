-- The clauses of a sound set, one by one: the test and the clauses say the same of every set.
pub mod ClauseLists
pub mod ClauseHeap
pub mod ClauseChain
pub mod ClauseTimers
pub mod ClauseOwners
pub mod ClauseKept
pub mod ClausesEnough
pub mod ClausesNeeded
