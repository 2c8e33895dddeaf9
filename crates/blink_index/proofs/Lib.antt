pub mod alone
pub mod OneOperationMore
pub mod EndsOfMaps
pub mod CountsOfMaps
pub mod Offered
