mod Booted
mod Nothing
mod Settled
