mod Held
mod Each
