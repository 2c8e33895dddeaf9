pub mod KeysMove
pub mod SharesOfKeys
pub mod PartingKeepsTable
pub mod ReceivingKeepsTable
pub mod KeysInList
pub mod PassesThen
pub mod HandedByKeys
