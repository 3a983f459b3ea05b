-- Passed on for crates above.
pub use Rattle.gsl_machine.specs.Memory.{along, bytes_if, bytes_of, into, into_block, into_variable, is_push, loading, part_as, parts_as, size_of, storing, with_block, with_bytes_if, with_variable, words_at}
pub use Rattle.gsl_machine.specs.Operations.{Operator, binary, select, unary}
pub use Rattle.gsl_machine.specs.State.{Going, Held, Ids, InBlock, InVariable, Outcome, Pointer, Points, State, Strayed, Whole, giving, giving_value, on, on_pointer, on_whole}
pub use Rattle.gsl_machine.specs.Steps.{act, drawing, on_two, picking}
