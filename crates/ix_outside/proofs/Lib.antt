mod FilesHeld
pub mod PrefixesTaken
mod PartsRead
pub mod PartsGiven
