-- How deep calls of functions nest, as ranks (GLSL 4.50, 6.1).
use Rattle.std.specs.Prelude.{ℕ, zero, suc, if◌then◌else◌, List}
use Rattle.gsl_tree.specs.declared.program.Program.{Program}
use Rattle.gsl_tree.specs.declared.unit.Function.{Function}
use Rattle.gsl_meaning.specs.Shader.{most_calls}
use Rattle.gsl_link_calls.specs.Calls.{nest}
use Rattle.gsl_lower_flow.specs.Reaching.{is_reached, main_head}

-- how deep calls nest from a function on, told no further than a bound
abbrev pub depth_in : List Function → ℕ → ℕ → ℕ
depth_in functions zero head = 0
depth_in functions (suc most) head = if nest functions (suc most) head then suc most else depth_in functions most head

-- A function that main reaches ranks by how deep calls nest from there on; any other ranks above all.
abbrev pub rank_of : Program → ℕ → ℕ
rank_of p head = if is_reached p.functions (main_head p) head then depth_in p.functions most_calls head else most_calls
