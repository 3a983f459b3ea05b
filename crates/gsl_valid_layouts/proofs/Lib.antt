mod Laying
mod Marking
mod Sizing
