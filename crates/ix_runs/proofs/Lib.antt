pub mod OneRun
pub mod RunsEnter
mod Parts
mod RunPrefixes
mod Seen
mod Steps
pub mod StartedRuns
mod Told
