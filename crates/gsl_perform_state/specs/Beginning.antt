-- What a shader begins with, in words of which each is one call of the code.
use Rattle.std.specs.Prelude.{ℕ, List, [], unwrap_or}
use Rattle.gsl_base.specs.declared.input.Located.{Located}
use Rattle.gsl_types.specs.declared.ty.StructType.{StructType}
use Rattle.gsl_values.specs.declared.value.Value.{Value}
use Rattle.gsl_tree.specs.declared.unit.GlobalVar.{GlobalVar}
use Rattle.gsl_inputs.specs.Given.{words_at}
use Rattle.gsl_meaning.specs.Shader.{global_begins}

-- the value with which a global variable begins
abbrev pub global_begun : List StructType → GlobalVar → Value
global_begun structs g = global_begins structs g.ty g.value

-- the words that are given at a location, and none where there are none
abbrev pub given_words : List Located → ℕ → List ℕ
given_words ins location = unwrap_or (words_at ins location) []
