mod Accepted
mod Judgeable
