mod Openers
mod Takeover
mod Taking
