-- Passed on for crates above.
pub use Rattle.gsl_lower_law_places.proofs.Chains.{pointer_grows}
pub use Rattle.gsl_lower_law_places.proofs.Loads.{extracted_grows, loaded_computes, loads}
pub use Rattle.gsl_lower_law_places.proofs.Stored.{put_acts, store_acts, stored_left}
