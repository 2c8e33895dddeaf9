pub mod tree
pub mod operation
pub mod tree_state
pub mod law
pub mod Offered
