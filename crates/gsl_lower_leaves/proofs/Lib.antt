mod Layers
mod Rows
