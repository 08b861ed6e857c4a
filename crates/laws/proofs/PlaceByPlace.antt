-- What the rules do to each place by itself, on any set: words and use numbers, who has the place, whom a close marks.
pub mod Words
pub mod WordsKept
pub mod Places
pub mod Marked
pub mod Rooms
