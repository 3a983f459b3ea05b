mod Layable
mod Steps
mod Tables
mod Told
