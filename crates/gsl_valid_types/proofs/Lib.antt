mod Outside
mod Firsts
mod Adding
