pub mod WordsAreAdded
pub mod RecordsAreCounted
pub mod RecordsAreAppended
