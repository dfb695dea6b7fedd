pub mod Coming
pub mod Leading
pub mod Overwriting
pub mod Points
pub mod Rests
pub mod Stacks
pub mod Standing
pub mod Told
