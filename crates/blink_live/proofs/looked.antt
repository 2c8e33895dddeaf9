pub mod LeavesAreNoted
pub mod LeavesAreFollowed
pub mod SeatsGoAlong
pub mod SnapshotsGoOn
