pub mod Reach
pub mod Marking
pub mod Reasons
pub mod TableRun
pub mod RowRun
pub mod Peer
pub mod Examples
