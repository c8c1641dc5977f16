pub mod Capture
pub mod Internal
pub mod Message
pub mod Number
pub mod Text
