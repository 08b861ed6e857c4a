-- Sound heaps: the fresh one is sound, what else a sound one says, and that the calls keep it sound.
pub mod SoundFacts
pub mod SoundKept
pub mod EachEntry
pub mod Guarding
pub mod FreshSound
