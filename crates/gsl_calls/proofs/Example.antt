-- The candidates of the built-in functions have results, so that a wrong row is seen.
use Rattle.std.proofs.Common.{◌≡◌, refl, ℕ, Bool, true, false, ◌&&◌, is_some, List, [], ◌∷◌, ◌++◌, length}
use Rattle.std.specs.List.{list_all}
use Rattle.gsl_types.specs.declared.ty.Scalar.{Scalar}
use Rattle.gsl_types.specs.declared.ty.Scalar.TheVariants.{Bool as Boolean, Int, Uint}
use Rattle.gsl_values.specs.declared.function.Builtin.{Builtin}
use Rattle.gsl_values.specs.declared.function.Builtin.TheVariants as f
use Rattle.gsl_tree.specs.Shapes.{built_shape}
use Rattle.gsl_calls.specs.declared.families.Family.{Family}
use Rattle.gsl_calls.specs.declared.families.Family.TheVariants.{One, Two, Bounded, Three, Clamped, Mixed, Extracted, Inserted}
use Rattle.gsl_calls.specs.Candidates.{row, candidates}

abbrev has_result : Builtin → Family → Scalar → ℕ → Bool
has_result which family s n = is_some (built_shape which (row family s n))

abbrev vectors_have : Builtin → Family → Scalar → Bool
vectors_have which family s = list_all (has_result which family s) (2 ∷ 3 ∷ 4 ∷ [])

abbrev all_have : Builtin → Family → Scalar → Bool
all_have which family s = has_result which family s 1 && vectors_have which family s

bounds : (all_have f.Min Two Int && all_have f.Min Two Uint && vectors_have f.Max Bounded Int && vectors_have f.Max Bounded Uint) ≡ true
bounds = refl

clamps : (all_have f.Clamp Three Int && all_have f.Clamp Three Uint && vectors_have f.Clamp Clamped Int && vectors_have f.Clamp Clamped Uint) ≡ true
clamps = refl

mixes : (all_have f.Mix Mixed Int && all_have f.Mix Mixed Uint && all_have f.Mix Mixed Boolean) ≡ true
mixes = refl

relations : (vectors_have f.LessThan Two Int && vectors_have f.GreaterThanEqual Two Uint && vectors_have f.Equal Two Boolean) ≡ true
relations = refl

truths : (vectors_have f.Any One Boolean && vectors_have f.All One Boolean && vectors_have f.Not One Boolean) ≡ true
truths = refl

bits : (all_have f.BitCount One Uint && all_have f.FindMsb One Int && all_have f.BitfieldExtract Extracted Uint && all_have f.BitfieldInsert Inserted Int) ≡ true
bits = refl

-- how many candidates there are
count_of_clamp : length (candidates f.Clamp) ≡ 14
unfolding candidates
count_of_clamp = refl

count_of_mix : length (candidates f.Mix) ≡ 12
unfolding candidates
count_of_mix = refl
