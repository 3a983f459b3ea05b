mod Steps
mod Targets
mod Turns
