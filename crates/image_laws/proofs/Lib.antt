mod Globals
mod Read
