-- What is asked of the functions of a program, and how a module ends as its shader does, passed on for laws over programs.
pub use Rattle.gsl_lower_law_shader.specs.Alike.{EndsAs, EndsWith}
pub use Rattle.gsl_lower_law_shader.specs.Asked.{AllAsked, AreAskedElseOf, AsksElse, AsksElseFor}
pub use Rattle.gsl_lower_law_shader.specs.Depths.{ArePassed, IsPassedBy, call_of, globals_of, stage_of}
