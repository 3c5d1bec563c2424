pub mod Calls
pub mod Hosts
pub mod Laws
pub mod Runs
pub mod Sessions
