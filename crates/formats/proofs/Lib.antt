pub mod Parting
pub mod Numbers
pub mod Lines
pub mod Back
pub mod Captures
pub mod Writing
