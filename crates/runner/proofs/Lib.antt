pub mod Begins
pub mod Bytes
pub mod Carries
pub mod Fits
pub mod Printing
pub mod Telling
