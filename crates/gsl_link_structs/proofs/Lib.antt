pub mod Distinguished
mod Listed
