-- Passed on for crates above.
pub use Rattle.gsl_lower_law_written.proofs.OfWrites.{IsServed, ServesPlace, adds_stores, after_stored, always_renewed, at_variable, place_renewed, renewed_strays, store_strays, trail_stored}
