-- In folders by what they are about: the file of a folder's name says what it holds, and lists its files.
pub mod Walking
pub mod Slots
pub mod AsList
pub mod Soundness
pub mod UnusedRoom
pub mod Testing
pub mod NoSecond
