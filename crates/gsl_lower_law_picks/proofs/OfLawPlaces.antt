-- Passed on for crates above.
pub use Rattle.gsl_lower_law_places.proofs.Again.{block_big, block_put, block_twice, leads_again}
pub use Rattle.gsl_lower_law_places.proofs.Blocks.{block_stores, component_led}
pub use Rattle.gsl_lower_law_places.proofs.Chains.{still_number}
pub use Rattle.gsl_lower_law_places.proofs.Each.{converted_of, each_grows, one_acts}
pub use Rattle.gsl_lower_law_places.proofs.Kept.{front_is, one_position}
pub use Rattle.gsl_lower_law_places.proofs.Picked.{converted_words}
pub use Rattle.gsl_lower_law_places.proofs.Reading.{component_converted, leads_on, mapped_length, numbers_on, word_converted}
pub use Rattle.gsl_lower_law_places.proofs.Stored.{Nothing, put_acts}
