mod Found
mod Modules
mod Rows
