-- The test of a heap, fault by fault and turn by turn; it says yes exactly of sound heaps.
pub mod FaultLaws
pub mod ChainLaws
pub mod Test
pub mod Named
pub mod OneFault
