pub mod KeyLaws
pub mod Summaries
