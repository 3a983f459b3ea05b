mod Ordered
mod Shaped
mod Returning
mod Nesting
mod Close
