pub mod Replies
pub mod Chain
pub mod Computed
pub mod History
