pub mod Enough
pub mod Internal
pub mod Line
pub mod Refusal
pub mod Roll
pub mod Runs
pub mod Stream
