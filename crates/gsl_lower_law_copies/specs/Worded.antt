-- Values whose scalars are words as they lie in blocks.
use Rattle.std.specs.Prelude.{Bool, false, List, replicate}
use Rattle.gsl_types.specs.Structs.{Meaning, meaning}
use Rattle.gsl_types.specs.declared.ty.StructType.{StructType}
use Rattle.gsl_types.specs.declared.ty.Ty.{Ty}
use Rattle.gsl_types.specs.declared.ty.Ty.TheOpen.{Ty-F}
use Rattle.gsl_values.specs.declared.value.Value.{Value}
use Rattle.gsl_tree.specs.Values.{has_parts, is_scalar, tests_of}
use Rattle.gsl_lower_places.specs.Reached.{stored_scalar}

abbrev pub words_kind : Ty-F (Value → Bool) → Value → Bool
words_kind Ty-F.Void v = false
words_kind (Ty-F.One s) v = is_scalar (stored_scalar s) v
words_kind (Ty-F.Vector s n) v = has_parts (replicate n (is_scalar (stored_scalar s))) v
words_kind (Ty-F.Array element n) v = has_parts (replicate n element) v
words_kind (Ty-F.Runtime element) v = false
words_kind (Ty-F.Struct number) v = false

abbrev pub words_meaning : Meaning (Value → Bool)
words_meaning = record { kind = words_kind; struct = λ name members. has_parts (tests_of members); none = λ v. false }

-- whether a value has the parts of a type, and words of 32 bits for its scalars, truth values too
abbrev pub has_words : List StructType → Ty → Value → Bool
has_words structs ty = meaning words_meaning structs ty
