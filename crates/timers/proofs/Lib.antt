pub mod Guarding
pub mod Alive
pub mod Lending
pub mod Shortest
