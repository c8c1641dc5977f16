pub mod Bytes
pub mod Digits
pub mod Levels
pub mod Looks
pub mod Rules
pub mod Streams
pub mod Waves
