pub mod DrainLaws
pub mod RingLaws
pub mod CloseLaws
pub mod NoSecond
