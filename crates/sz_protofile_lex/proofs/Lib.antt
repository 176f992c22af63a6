mod Turns
mod Searches
