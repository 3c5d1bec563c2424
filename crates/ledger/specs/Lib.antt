pub mod Ledger
pub mod Sound
pub mod Histories
pub mod Laws
pub mod Port
pub mod Cases
