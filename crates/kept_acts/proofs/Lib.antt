mod Coverings
mod Tables
