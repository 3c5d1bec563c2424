pub mod Lending
pub mod Logs
pub mod Runs
pub mod Steps
