pub mod ReuseStaysSafe
pub mod RowsAreTakenOut
pub mod StocksChange
pub mod RowsWait
pub mod RowsComeIn
pub mod RowsAreFreed
pub mod NumbersAreExchanged
pub mod NumbersAreSpare
