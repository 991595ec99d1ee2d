-- The list of each call, from first store to last.
pub mod Collecting
pub mod Committing
pub mod Copying
pub mod CutRule
pub mod EachCall
pub mod Ending
pub mod Filling
pub mod Finish
pub mod Fresh
pub mod FreshSound
pub mod Writing
pub mod Lengths
pub mod Needed
pub mod Answers
