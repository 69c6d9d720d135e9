pub mod Stands
pub mod Sound
pub mod Replay
pub mod Told
pub mod Reading
pub mod Whole
