mod Patches
mod SearchPatches
mod Made
mod SearchMade
mod Sizes
