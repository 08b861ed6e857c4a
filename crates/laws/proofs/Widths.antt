-- The widths of the code's types: every rule keeps them, turn by turn, and then every call.
pub mod Turns
pub mod Calls
pub mod TurnList
