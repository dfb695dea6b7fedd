mod Told
mod Turned
mod Walk
