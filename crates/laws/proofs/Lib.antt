-- In folders by what they are about: the file of a folder's name says what it holds, and lists its files.
pub mod Parts
pub mod Soundness
pub mod PlaceByPlace
pub mod AnyCall
pub mod Handles
pub mod Entries
pub mod Reporting
pub mod UnusedRoom
pub mod Widths
pub mod NoSecond
