-- Passed on for crates above.
pub use Rattle.gsl_lower_writes.proofs.Adding.{adds_stores, always_renewed}
pub use Rattle.gsl_lower_writes.proofs.Once.{are_few, are_stored}
pub use Rattle.gsl_lower_writes.proofs.Outside.{renewed_strays, store_strays}
pub use Rattle.gsl_lower_writes.proofs.Pointed.{IsServed, ServesPlace, place_renewed}
pub use Rattle.gsl_lower_writes.proofs.Renewed.{after_stored}
pub use Rattle.gsl_lower_writes.proofs.Stored.{at_variable, trail_stored}
