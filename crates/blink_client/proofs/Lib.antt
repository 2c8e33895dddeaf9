pub mod ReportsAreCounted
pub mod CountersRise
