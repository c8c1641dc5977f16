pub mod Calls
pub mod Cut
pub mod Places
pub mod Written
