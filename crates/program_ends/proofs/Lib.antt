mod Each
mod Kept
mod Told
mod Why
