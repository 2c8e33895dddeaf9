pub mod runs
pub mod bounds
pub mod worlds
pub mod Offered
