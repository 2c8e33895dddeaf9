-- What a caller of `blink_client` reads, in this order; then what proofs above it need; then the files themselves.

-- what was shown
pub use Rattle.blink_client.specs.Shown.{IsNewWith, IsShown, IsShownTwice}
-- how many keys of a range have an entry
pub use Rattle.blink_client.specs.Counted.{AllAreOwn, present}
-- ---- files that no crate above names
pub mod Shown
pub mod Counted
