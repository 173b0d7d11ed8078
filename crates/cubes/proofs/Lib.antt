pub mod CubeLaws
