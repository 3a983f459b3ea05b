-- Values of scalars and vectors.
use Rattle.std.specs.Prelude.{Bool, true}
use Rattle.std.specs.List.{list_all}
use Rattle.gsl_sound_values.specs.Shaped.{is_word}
use Rattle.gsl_values.specs.declared.value.Value.{Value}
use Rattle.gsl_values.specs.declared.value.Value.TheOpen.{Value-F}
use Rattle.gsl_values.specs.declared.value.Value.TheViews.{out-Value}

abbrev pub lanes_layer : Value-F Value → Bool
lanes_layer (Value-F.Word word) = true
lanes_layer (Value-F.Many parts) = list_all is_word parts

-- whether a value is a word, or each of its parts is one
abbrev pub is_lanes : Value → Bool
is_lanes v = lanes_layer (out-Value v)
