pub mod OneVerdict
