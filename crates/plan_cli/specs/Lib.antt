pub mod Layout
pub mod Slack
pub mod Table
pub mod Moves
pub mod Plan
pub mod Shown
