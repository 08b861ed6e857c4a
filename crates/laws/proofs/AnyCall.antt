-- A call of any kind: what it finds, that it is refused or let through, that a refused one changes nothing, and that what each turn of
-- a walk keeps and each rule keeps, every call keeps.
pub mod Found
pub mod Walks
pub mod CallsKeep
pub mod Keeping
pub mod CallCases
