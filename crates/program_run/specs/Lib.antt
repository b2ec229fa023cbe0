pub mod CommandLine
pub mod Transcript
pub mod Jobs
pub mod Program
pub mod Causes
pub mod Endings
pub mod Preparing
