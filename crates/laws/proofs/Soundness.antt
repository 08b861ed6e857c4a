-- A sound set stays sound: under each rule, turn by turn, and then under every call.
pub mod Touch
pub mod Settle
pub mod DrainSound
pub mod CallsSound
pub mod Popping
pub mod RungSound
pub mod AdvancedSound
pub mod Closing
pub mod Unlisting
pub mod ClosedSound
pub mod StepSound
pub mod Unguarded
