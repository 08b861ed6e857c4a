-- One moment of a run: what each call answers, what a turn and an advance report, and when the next wake is.
pub mod Waking
pub mod Answering
pub mod Moments
