-- What the exports of `blink_c` promise stands in the definitions of `blink_handles`, whose Lib.antt lists them. No crate stands on this
-- one: its callers are C and Rust programs.

-- ---- files that no crate above names
-- what each handle owns, and what it is once what it lent comes back
pub mod IndexOwned
pub mod IndexLending
pub mod MapOwned
pub mod MapLending
pub mod SessionOwned
pub mod SessionLending
pub mod ReaderOwned
pub mod ReaderLending
-- what an export makes of a session by which it runs a change
pub mod Changing
