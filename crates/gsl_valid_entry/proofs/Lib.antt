mod Readings
mod Known
mod Located
mod Entering
