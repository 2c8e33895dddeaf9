pub mod KeysWithout
pub mod KeeperKnowsThen
pub mod RetiringKeepsTable
