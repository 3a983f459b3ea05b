-- Passed on for crates above.
pub use Rattle.gsl_lower_writes.proofs.OfElements.{after_step, all_numbers, block_pointed_out, block_shape, bytes, from, held, laid, leads, leads_there, long, none_shape, number_each, numbers_are, path_strays, picked_found, picks_stand, points, read_told, run, run_held, run_of, run_stored, run_there, run_value, to, value_there, whole_is, whole_layout}
