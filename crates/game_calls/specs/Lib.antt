pub mod Reacting
pub mod Post
pub mod OneReact
pub mod Meaning
