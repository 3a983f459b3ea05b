-- Passed on for crates above.
pub use Rattle.gsl_fitting_reaching.proofs.Names.{block_reaches, named_reaches}
