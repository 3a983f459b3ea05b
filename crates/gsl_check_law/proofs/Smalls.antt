-- Operations on values whose words are below 2^32 give such values.
use Rattle.std.proofs.Common.{refl, sym, ap, ◌∙◌, subst, ℕ, zero, suc, ◌+◌, ◌^◌, ◌<◌, List, [], ◌∷◌, ◌++◌, map, take, length, replicate, slice_index, slice_index_or, slice_get, Option, Some, None, Bool, not, ◌==◌, IsTrue, arith}
use Rattle.std.specs.List.{AllByRecursion, list_any, list_all}
use Rattle.std.proofs.lemmas.Bool.{and_parts, and_from, ltb-true, lt-ltb}
use Rattle.gsl_types.specs.declared.ty.Scalar.{Scalar}
use Rattle.gsl_types.specs.declared.ty.Scalar.TheVariants.{Bool as Boolean, Int, Uint}
use Rattle.gsl_types.specs.declared.ty.Ty.{Ty}
use Rattle.gsl_types.specs.declared.ty.Ty.TheOpen.{Ty-F}
use Rattle.gsl_types.specs.declared.ty.Ty.TheViews.{out-Ty}
use Rattle.gsl_values.specs.declared.value.Value.{Value}
use Rattle.gsl_values.specs.declared.value.Value.TheOpen.{Value-F}
use Rattle.gsl_values.specs.declared.value.Value.TheViews.{out-Value, roll-Value, roll-out-Value}
use Rattle.gsl_values.specs.declared.value.Value.TheFolds.{fold-roll-Value}
use Rattle.gsl_values.specs.declared.value.Value.TheVariants.{Word, Many, rolls-Word, rolls-Many}
use Rattle.gsl_values.specs.declared.lane.Lanes.{Lanes}
use Rattle.gsl_values.specs.declared.op.UnaryOp.{UnaryOp}
use Rattle.gsl_values.specs.declared.op.BinaryOp.{BinaryOp}
use Rattle.gsl_values.specs.declared.op.BinaryOp.TheVariants as op
use Rattle.gsl_values.specs.declared.function.Builtin.{Builtin}
use Rattle.gsl_values.specs.declared.function.Builtin.TheVariants as f
use Rattle.gsl_values.specs.Operators.{unary_word}
use Rattle.gsl_values.specs.Vectors.{components as picked}
use Rattle.gsl_values.specs.Word.{word_of_bool}
use Rattle.gsl_values.specs.Functions.{builtin_answer}
use Rattle.gsl_tree.specs.Operations.{unary_value, spread, binary_words, of_words, binary_value, converted, all_components, filled, build_kind, build_value, index_value, member_value, swizzle_value, component_at, builtin_each, first_count, is_true, first_words, builtin_words, builtin_value}
use Rattle.gsl_tree.specs.Values.{word_in, word_layer, parts_in, parts_layer, components_in, components_layer, of_components, same_value}
use Rattle.gsl_check_law.specs.Labels.{AreWords}
use Rattle.gsl_check_law.specs.Small.{all_small, small_layer, is_small, IsSmall}
use Rattle.gsl_check_law.proofs.Answering.{WordsGiven, unary_below, each_words, index_word, builtin_answered, truth_word}

-- ---- values by their layers

abbrev pub AllSmall : List Value → Type 0
AllSmall vs = AllByRecursion IsSmall vs

pub word_small : (w : ℕ) → w < 2 ^ 32 → IsSmall (Word w)
word_small w is = ap is_small (sym (rolls-Word w)) ∙ fold-roll-Value Bool small_layer (Value-F.Word w) ∙ lt-ltb w (2 ^ 32) is

all_true : (vs : List Value) → AllSmall vs → IsTrue (all_small (map is_small vs))
all_true [] all = refl
all_true (v ∷ vs) all = and_from (is_small v) (all_small (map is_small vs)) all.0 (all_true vs all.1)

each_small : (vs : List Value) → IsTrue (all_small (map is_small vs)) → AllSmall vs
each_small [] is = tt
each_small (v ∷ vs) is = let parts = and_parts (is_small v) (all_small (map is_small vs)) is in (parts.0, each_small vs parts.1)

pub many_small : (vs : List Value) → AllSmall vs → IsSmall (Many vs)
many_small vs all = ap is_small (sym (rolls-Many vs)) ∙ fold-roll-Value Bool small_layer (Value-F.Many vs) ∙ all_true vs all

abbrev LayerSmall : Value-F Value → Type 0
LayerSmall (Value-F.Word w) = w < 2 ^ 32
LayerSmall (Value-F.Many vs) = AllSmall vs

rolled_small : (layer : Value-F Value) → IsSmall (roll-Value layer) → LayerSmall layer
rolled_small (Value-F.Word w) is = ltb-true w (2 ^ 32) (sym (fold-roll-Value Bool small_layer (Value-F.Word w)) ∙ is)
rolled_small (Value-F.Many vs) is = each_small vs (sym (fold-roll-Value Bool small_layer (Value-F.Many vs)) ∙ is)

layer_small : (v : Value) → IsSmall v → LayerSmall (out-Value v)
layer_small v is = rolled_small (out-Value v) (subst IsSmall (sym (roll-out-Value v)) is)

word_of_layer : (layer : Value-F Value) → LayerSmall layer → word_layer layer < 2 ^ 32
word_of_layer (Value-F.Word w) is = is
word_of_layer (Value-F.Many vs) is = omega arith

pub word_in_small : (v : Value) → IsSmall v → word_in v < 2 ^ 32
word_in_small v is = word_of_layer (out-Value v) (layer_small v is)

words_in : (vs : List Value) → AllSmall vs → AreWords (map word_in vs)
words_in [] all = tt
words_in (v ∷ vs) all = (word_in_small v all.0, words_in vs all.1)

components_of_layer : (layer : Value-F Value) → LayerSmall layer → AreWords (components_layer layer)
components_of_layer (Value-F.Word w) is = (is, tt)
components_of_layer (Value-F.Many vs) is = words_in vs is

pub components_words : (v : Value) → IsSmall v → AreWords (components_in v)
components_words v is = components_of_layer (out-Value v) (layer_small v is)

parts_of_layer : (layer : Value-F Value) → LayerSmall layer → AllSmall (parts_layer layer)
parts_of_layer (Value-F.Word w) is = tt
parts_of_layer (Value-F.Many vs) is = is

parts_small : (v : Value) → IsSmall v → AllSmall (parts_in v)
parts_small v is = parts_of_layer (out-Value v) (layer_small v is)

words_small : (ws : List ℕ) → AreWords ws → AllSmall (map Word ws)
words_small [] all = tt
words_small (w ∷ ws) all = (word_small w all.0, words_small ws all.1)

of_components_small : (ws : List ℕ) → AreWords ws → IsSmall (of_components ws)
of_components_small [] all = many_small [] tt
of_components_small (w ∷ []) all = word_small w all.0
of_components_small (w ∷ next ∷ ws) all = many_small (map Word (w ∷ next ∷ ws)) (words_small (w ∷ next ∷ ws) all)

-- ---- operators

abbrev pub SmallGiven : Value × List ℕ → Type 0
SmallGiven given = IsSmall given.0 × AreWords given.1

mapped_words : (g : ℕ → ℕ) (ws : List ℕ) → ((w : ℕ) → g w < 2 ^ 32) → AreWords (map g ws)
mapped_words g [] each = tt
mapped_words g (w ∷ ws) each = (each w, mapped_words g ws each)

pub unary_small : (o : UnaryOp) (v : Value) → IsSmall (unary_value o v)
unary_small o v = of_components_small (map (unary_word o) (components_in v)) (mapped_words (unary_word o) (components_in v) (unary_below o))

truth_given : (b : Bool) (choices : List ℕ) → AreWords choices → SmallGiven (Word (word_of_bool b), choices)
truth_given b choices all = (word_small (word_of_bool b) (truth_word b), all)

words_given : (given : List ℕ × List ℕ) → WordsGiven given → SmallGiven (of_words given)
words_given given is = (of_components_small given.0 is.0, is.1)

by_words : (o : BinaryOp) (signed : Bool) (a b : Value) (choices : List ℕ) → AreWords choices → SmallGiven (of_words (binary_words o signed (components_in a) (components_in b) choices))
by_words o signed a b choices all = words_given _ (each_words o signed (spread (length (components_in b)) (components_in a)) (spread (length (components_in a)) (components_in b)) choices all)

pub binary_small : (o : BinaryOp) (signed : Bool) (a b : Value) (choices : List ℕ) → AreWords choices → SmallGiven (binary_value o signed a b choices)
binary_small op.Equal signed a b choices all = truth_given (same_value a b) choices all
binary_small op.Unequal signed a b choices all = truth_given (not (same_value a b)) choices all
binary_small op.Add signed a b choices all = by_words op.Add signed a b choices all
binary_small op.Sub signed a b choices all = by_words op.Sub signed a b choices all
binary_small op.Mul signed a b choices all = by_words op.Mul signed a b choices all
binary_small op.Div signed a b choices all = by_words op.Div signed a b choices all
binary_small op.Mod signed a b choices all = by_words op.Mod signed a b choices all
binary_small op.Shl signed a b choices all = by_words op.Shl signed a b choices all
binary_small op.Shr signed a b choices all = by_words op.Shr signed a b choices all
binary_small op.And signed a b choices all = by_words op.And signed a b choices all
binary_small op.Or signed a b choices all = by_words op.Or signed a b choices all
binary_small op.Xor signed a b choices all = by_words op.Xor signed a b choices all
binary_small op.Less signed a b choices all = by_words op.Less signed a b choices all
binary_small op.LessEq signed a b choices all = by_words op.LessEq signed a b choices all
binary_small op.Greater signed a b choices all = by_words op.Greater signed a b choices all
binary_small op.GreaterEq signed a b choices all = by_words op.GreaterEq signed a b choices all

-- ---- constructors

append_words : (xs ys : List ℕ) → AreWords xs → AreWords ys → AreWords (xs ++ ys)
append_words [] ys first second = second
append_words (x ∷ xs) ys first second = (first.0, append_words xs ys first.1 second)

pub all_words : (vs : List Value) → AllSmall vs → AreWords (all_components vs)
all_words [] all = tt
all_words (v ∷ vs) all = append_words (components_in v) (all_components vs) (components_words v all.0) (all_words vs all.1)

repeated_words : (n w : ℕ) → w < 2 ^ 32 → AreWords (replicate n w)
repeated_words zero w is = tt
repeated_words (suc n) w is = (is, repeated_words n w is)

spread_words : (n : ℕ) (ws : List ℕ) → AreWords ws → AreWords (spread n ws)
spread_words n [] all = all
spread_words n (w ∷ []) all = repeated_words n w all.0
spread_words n (w ∷ next ∷ ws) all = all

taken_words : (n : ℕ) (ws : List ℕ) → AreWords ws → AreWords (take n ws)
taken_words zero ws all = tt
taken_words (suc n) [] all = tt
taken_words (suc n) (w ∷ ws) all = (all.0, taken_words n ws all.1)

converted_word : (s : Scalar) (w : ℕ) → w < 2 ^ 32 → converted s w < 2 ^ 32
converted_word Boolean w is = truth_word (not (w == 0))
converted_word Int w is = is
converted_word Uint w is = is

converted_words : (s : Scalar) (ws : List ℕ) → AreWords ws → AreWords (map (converted s) ws)
converted_words s [] all = tt
converted_words s (w ∷ ws) all = (converted_word s w all.0, converted_words s ws all.1)

build_layer : (layer : Ty-F Ty) (vs : List Value) → AllSmall vs → IsSmall (build_kind layer vs)
build_layer Ty-F.Void vs all = many_small vs all
build_layer (Ty-F.One s) vs all = word_small _ (converted_word s (slice_index (all_components vs) 0) (index_word (all_components vs) 0 (all_words vs all)))
build_layer (Ty-F.Vector s n) vs all =
    many_small (map Word (filled s n (all_components vs))) (words_small (filled s n (all_components vs)) (converted_words s _ (taken_words n (spread n (all_components vs)) (spread_words n (all_components vs) (all_words vs all)))))
build_layer (Ty-F.Array e n) vs all = many_small vs all
build_layer (Ty-F.Runtime e) vs all = many_small vs all
build_layer (Ty-F.Struct n) vs all = many_small vs all

pub build_small : (t : Ty) (vs : List Value) → AllSmall vs → IsSmall (build_value t vs)
build_small t vs all = build_layer (out-Ty t) vs all

-- ---- parts

abbrev pub SmallOr : Option Value → Type 0
SmallOr None = Unit {0}
SmallOr (Some v) = IsSmall v

get_small : (vs : List Value) (k : ℕ) → AllSmall vs → SmallOr (slice_get vs k)
get_small [] k all = tt
get_small (v ∷ vs) zero all = all.0
get_small (v ∷ vs) (suc k) all = get_small vs k all.1

pub index_small : (v : Value) (k : ℕ) → IsSmall v → SmallOr (index_value v k)
index_small v k is = get_small (parts_in v) k (parts_small v is)

index_or_small : (vs : List Value) (k : ℕ) → AllSmall vs → IsSmall (slice_index_or vs k (Word 0))
index_or_small [] k all = word_small 0 (omega arith)
index_or_small (v ∷ vs) zero all = all.0
index_or_small (v ∷ vs) (suc k) all = index_or_small vs k all.1

pub member_small : (v : Value) (k : ℕ) → IsSmall v → IsSmall (member_value v k)
member_small v k is = index_or_small (parts_in v) k (parts_small v is)

pub swizzle_small : (v : Value) (lanes : Lanes) → IsSmall v → IsSmall (swizzle_value v lanes)
swizzle_small v lanes is = of_components_small (map (slice_index (components_in v)) (picked lanes)) (mapped_words (slice_index (components_in v)) (picked lanes) (λ k. index_word (components_in v) k (components_words v is)))

-- ---- built-in functions

abbrev AllWords : List (List ℕ) → Type 0
AllWords args = AllByRecursion AreWords args

component_word : (k : ℕ) (ws : List ℕ) → AreWords ws → component_at k ws < 2 ^ 32
component_word k [] all = index_word [] k all
component_word k (w ∷ []) all = all.0
component_word k (w ∷ next ∷ ws) all = index_word (w ∷ next ∷ ws) k all

components_at : (k : ℕ) (args : List (List ℕ)) → AllWords args → AreWords (map (component_at k) args)
components_at k [] all = tt
components_at k (ws ∷ args) all = (component_word k ws all.0, components_at k args all.1)

each_builtin : (which : Builtin) (signed : Bool) (args : List (List ℕ)) (count from : ℕ) (choices : List ℕ) → AllWords args → AreWords choices → WordsGiven (builtin_each which signed args count from choices)
each_builtin which signed args zero from choices are all = (tt, all)
each_builtin which signed args (suc count) from choices are all =
    let first = builtin_answered which signed (map (component_at from) args) choices (components_at from args are) all in
    let rest = each_builtin which signed args count (from + 1) (builtin_answer which signed (map (component_at from) args) choices).1 are first.1 in
    ((first.0, rest.0), rest.1)

args_words : (vs : List Value) → AllSmall vs → AllWords (map components_in vs)
args_words [] all = tt
args_words (v ∷ vs) all = (components_words v all.0, args_words vs all.1)

module _ (signed : Bool) (args : List (List ℕ)) (choices : List ℕ) (are : AllWords args) (all : AreWords choices) where
  by_each : (which : Builtin) → SmallGiven (of_words (builtin_each which signed args (first_count args) 0 choices))
  by_each which = words_given _ (each_builtin which signed args (first_count args) 0 choices are all)

  builtin_words_small : (which : Builtin) → SmallGiven (builtin_words which signed args choices)
  builtin_words_small f.Any = truth_given (list_any is_true (first_words args)) choices all
  builtin_words_small f.All = truth_given (list_all is_true (first_words args)) choices all
  builtin_words_small f.Abs = by_each f.Abs
  builtin_words_small f.Sign = by_each f.Sign
  builtin_words_small f.Min = by_each f.Min
  builtin_words_small f.Max = by_each f.Max
  builtin_words_small f.Clamp = by_each f.Clamp
  builtin_words_small f.Mix = by_each f.Mix
  builtin_words_small f.LessThan = by_each f.LessThan
  builtin_words_small f.LessThanEqual = by_each f.LessThanEqual
  builtin_words_small f.GreaterThan = by_each f.GreaterThan
  builtin_words_small f.GreaterThanEqual = by_each f.GreaterThanEqual
  builtin_words_small f.Equal = by_each f.Equal
  builtin_words_small f.NotEqual = by_each f.NotEqual
  builtin_words_small f.Not = by_each f.Not
  builtin_words_small f.BitCount = by_each f.BitCount
  builtin_words_small f.FindLsb = by_each f.FindLsb
  builtin_words_small f.FindMsb = by_each f.FindMsb
  builtin_words_small f.BitfieldReverse = by_each f.BitfieldReverse
  builtin_words_small f.BitfieldExtract = by_each f.BitfieldExtract
  builtin_words_small f.BitfieldInsert = by_each f.BitfieldInsert

pub builtin_small : (which : Builtin) (signed : Bool) (vs : List Value) (choices : List ℕ) → AllSmall vs → AreWords choices → SmallGiven (builtin_value which signed vs choices)
builtin_small which signed vs choices small all = builtin_words_small signed (map components_in vs) choices (args_words vs small) all which
