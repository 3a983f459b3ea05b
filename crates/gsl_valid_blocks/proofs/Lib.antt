mod Fronts
mod Bindings
mod Decorating
mod Guarding
