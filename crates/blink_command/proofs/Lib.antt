pub mod Commands
pub mod OneMissing
pub mod OptionsAsked
pub mod ScheduleFromParts
