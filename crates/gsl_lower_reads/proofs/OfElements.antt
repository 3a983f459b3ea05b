-- Passed on for crates above.
pub use Rattle.gsl_lower_elements.proofs.Indexing.{MayIndex, after_step, none_shape, step_in, step_out}
pub use Rattle.gsl_lower_elements.proofs.Lengths.{length_gives}
pub use Rattle.gsl_lower_elements.proofs.Literal.{literal_place}
pub use Rattle.gsl_lower_elements.proofs.Picked.{picked_found, shape_typed}
pub use Rattle.gsl_lower_elements.proofs.Pointed.{block_pointed_out}
pub use Rattle.gsl_lower_elements.proofs.Read.{block_shape, picks_stand}
pub use Rattle.gsl_lower_elements.proofs.Rebased.{GoesOn, does_both, place_then}
pub use Rattle.gsl_lower_elements.proofs.Standing.{bytes, from, held, laid, leads, leads_there, long, number_each, numbers_are, pointee, points, read_told, run, run_held, run_lie, run_of, run_stored, run_there, run_value, there, to, value_there, whole_is, whole_layout}
pub use Rattle.gsl_lower_elements.proofs.Strayed.{all_numbers, can, component_in, component_out, path_strays, picks_out}
pub use Rattle.gsl_lower_elements.proofs.Tables.{position_grows}
