-- Passed on for crates above.
pub use Rattle.gsl_lower_law.specs.OfMachine.{Going, Held, Ids, InBlock, InVariable, Outcome, Pointer, Points, State, Strayed, Whole, along, bytes_if, bytes_of, giving, giving_value, into, into_block, into_variable, is_push, loading, on, on_pointer, on_whole, part_as, parts_as, picking, size_of, storing, with_block, with_bytes_if, with_variable, words_at}
