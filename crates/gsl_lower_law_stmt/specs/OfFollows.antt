-- Passed on for crates above.
pub use Rattle.gsl_lower_follows.specs.Following.{Reaches}
pub use Rattle.gsl_lower_follows.specs.Frames.{AreTyped, Frame, Global, Good, HasType, Holder, Holds, Inside, Interface, Kept, Local, Name, Param, Stage, coming, type_named, type_of_global, type_of_interface, value_if, value_of}
pub use Rattle.gsl_lower_follows.specs.Stretching.{room, room_behind}
