pub mod Copying
pub mod Logs
pub mod Reading
pub mod Runs
pub mod Steps
pub mod Whole
