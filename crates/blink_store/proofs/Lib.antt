pub mod ChangedLists
pub mod PagesByNumber
pub mod PagesAfterChange
pub mod LeavesInPlace
pub mod HoldersOfPages
pub mod ChangedHolders
pub mod ComparedStores
pub mod Offered
