pub mod Counting
pub mod Faults
pub mod Legs
pub mod Means
pub mod Texts
pub mod Tickets
