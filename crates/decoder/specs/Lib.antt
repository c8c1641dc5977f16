pub mod Machine
pub mod Reading
