-- Sizes in brackets are at least 1, and types with them are types.
use Rattle.std.proofs.Common.{sym, ap, ◌∙◌, subst, ℕ, ◌≤◌, ◌^◌, List, [], ◌∷◌, Option, Some, None, Bool, not, IsTrue, nat_le, nat_lt, Ok, arith, ◌<◌, lt-ltb, ◌&&◌}
use Rattle.std.specs.List.{AllByRecursion}
use Rattle.std.proofs.lemmas.Bool.{and_parts, and_from, leb-true, le-leb}
use Rattle.gsl_base.specs.Checked.{◌>>=◌}
use Rattle.gsl_base.specs.declared.fault.Place.{Place}
use Rattle.gsl_base.specs.declared.fault.Code.TheVariants.{E0507, E0601, E0602, E0603}
use Rattle.gsl_syntax.specs.declared.expr.Basic.{Basic}
use Rattle.gsl_syntax.specs.declared.expr.Basic.TheVariants as basic
use Rattle.gsl_types.specs.Known.{IsSound, sound, sound_kind}
use Rattle.gsl_types.proofs.Layers.{sound_array}
use Rattle.gsl_types.specs.declared.ty.Scalar.TheVariants.{Bool as Boolean, Int, Uint}
use Rattle.gsl_types.specs.declared.ty.Ty.{Ty}
use Rattle.gsl_types.specs.declared.ty.Ty.TheOpen.{Ty-F}
use Rattle.gsl_types.specs.declared.ty.Ty.TheFolds.{fold-roll-Ty}
use Rattle.gsl_types.specs.declared.ty.Ty.TheViews.{out-Ty}
use Rattle.gsl_types.specs.declared.ty.Ty.TheVariants as ty
use Rattle.gsl_types.specs.declared.ty.Ty.TheVariants.{rolls-Void, outs-Array, rolls-Array}
use Rattle.gsl_overload.proofs.Same.{no_more}
use Rattle.gsl_tree.specs.Constants.{constant_of}
use Rattle.gsl_typing.specs.declared.scene.Scene.{Scene}
use Rattle.gsl_typing.specs.declared.scene.Part.{Part}
use Rattle.gsl_typing.specs.Scene.{type_in}
use Rattle.gsl_typing.specs.Uses.{is_unread}
use Rattle.gsl_check_expr.specs.declared.brackets.Dimensions.{Dimensions}
use Rattle.gsl_check_expr.specs.declared.brackets.Dimensions.TheVariants.{Plain, Sized}
use Rattle.gsl_check_expr.specs.Sizes.{is_not_constant, is_left_open, word_of, is_size_kind, size_in, Bracket, stated, stated_size, all_stated, arrayed, dimensions, with_dimensions, known_word}
use Rattle.gsl_check_expr.specs.Callees.{basic_type}
use Rattle.gsl_check_decl.proofs.Gathering.{Holds, holds_after}
use Rattle.gsl_check_law.proofs.Rows.{row, not_false}
use Rattle.gsl_check_law.proofs.Types.{IsCount, sound_shape}
use Rattle.gsl_check_law.proofs.Building.{PartsSound, HasSoundParts, sound_parts}
use Rattle.gsl_check_law.specs.Small.{IsCounted, IsSmallFolded, is_counted, counted_layer}
use Rattle.gsl_tree.specs.declared.folded.Folded.{Folded}
use Rattle.gsl_tree.specs.declared.folded.Folded.TheVariants.{Known, NotConstant, Free}
use Rattle.gsl_types.specs.declared.ty.Ty.TheVariants.{rolls-Array}
use Rattle.gsl_check_law.proofs.Smalls.{word_in_small}

-- ---- a size

size_layer : (layer : Ty-F Ty) (word : ℕ) → IsTrue (is_size_kind layer word) → 1 ≤ word
size_layer (Ty-F.One Int) word is = leb-true 1 word (and_parts (nat_le 1 word) (nat_lt word (2 ^ 31)) is).0
size_layer (Ty-F.One Uint) word is = leb-true 1 word is
size_layer (Ty-F.One Boolean) word is = no_more is
size_layer Ty-F.Void word is = no_more is
size_layer (Ty-F.Vector s n) word is = no_more is
size_layer (Ty-F.Array e n) word is = no_more is
size_layer (Ty-F.Runtime e) word is = no_more is
size_layer (Ty-F.Struct n) word is = no_more is

abbrev pub Positive : ℕ → Type 0
Positive n = (1 ≤ n) × (n < 2 ^ 32)

known_word_small : (f : Folded) → IsSmallFolded f → known_word f < 2 ^ 32
known_word_small (Known v) is = word_in_small v is
known_word_small NotConstant is = omega arith
known_word_small Free is = omega arith

-- the word of what is known is one
pub word_of_small : (scene : Scene) (e : Part) → IsSmallFolded (constant_of scene.consts e.expr) → word_of scene e < 2 ^ 32
word_of_small scene e is = known_word_small (constant_of scene.consts e.expr) is

pub size_positive : (scene : Scene) (place : Place) (e : Part) → IsSmallFolded (constant_of scene.consts e.expr) → Holds Positive (size_in scene place e)
unfolding size_in
size_positive scene place e small =
    row Positive place E0507 (is_unread scene e) ((E0601, is_not_constant (constant_of scene.consts e.expr)) ∷ (E0602, is_left_open (constant_of scene.consts e.expr)) ∷ (E0603, not (is_size_kind (out-Ty (type_in e)) (word_of scene e))) ∷ []) (Ok (word_of scene e))
    (λ _. row Positive place E0601 (is_not_constant (constant_of scene.consts e.expr)) ((E0602, is_left_open (constant_of scene.consts e.expr)) ∷ (E0603, not (is_size_kind (out-Ty (type_in e)) (word_of scene e))) ∷ []) (Ok (word_of scene e))
    (λ _. row Positive place E0602 (is_left_open (constant_of scene.consts e.expr)) ((E0603, not (is_size_kind (out-Ty (type_in e)) (word_of scene e))) ∷ []) (Ok (word_of scene e))
    (λ _. row Positive place E0603 (not (is_size_kind (out-Ty (type_in e)) (word_of scene e))) [] (Ok (word_of scene e))
    (λ is. (size_layer (out-Ty (type_in e)) (word_of scene e) (not_false _ is), word_of_small scene e small)))))

-- ---- brackets

abbrev pub IsStated : Option ℕ → Type 0
IsStated None = Unit {0}
IsStated (Some n) = Positive n

-- the size of a pair of brackets, if it has one and that has no fault
abbrev pub GoodBracket : Bracket → Type 0
GoodBracket b = Holds IsStated b.size

abbrev pub GoodDimensions : Dimensions → Type 0
GoodDimensions Plain = Unit {0}
GoodDimensions (Sized place size rest) = IsStated size × AllByRecursion Positive rest

stated_good : (place : Place) (size : Option ℕ) → IsStated size → Holds Positive (stated place size)
stated_good place None is = tt
stated_good place (Some n) is = is

all_good : (brackets : List Bracket) → AllByRecursion GoodBracket brackets → Holds (AllByRecursion Positive) (all_stated brackets)
all_good [] all = tt
all_good (b ∷ brackets) all =
    holds_after Positive (AllByRecursion Positive) (stated_size b) (λ first. all_stated brackets >>= (λ rest. Ok (first ∷ rest)))
    (holds_after IsStated Positive b.size (stated b.place) all.0 (stated_good b.place))
    (λ first is. holds_after (AllByRecursion Positive) (AllByRecursion Positive) (all_stated brackets) (λ rest. Ok (first ∷ rest)) (all_good brackets all.1) (λ rest are. (is, are)))

pub dimensions_good : (brackets : List Bracket) → AllByRecursion GoodBracket brackets → Holds GoodDimensions (dimensions brackets)
unfolding dimensions
dimensions_good [] all = tt
dimensions_good (b ∷ brackets) all =
    holds_after IsStated GoodDimensions b.size (λ size. all_stated brackets >>= (λ rest. Ok (Sized b.place size rest))) all.0
    (λ size is. holds_after (AllByRecursion Positive) GoodDimensions (all_stated brackets) (λ rest. Ok (Sized b.place size rest)) (all_good brackets all.1) (λ rest are. (is, are)))

-- ---- types with brackets

pub array_counted : (e : Ty) (n : ℕ) → n < 2 ^ 32 → IsCounted e → IsCounted (ty.Array e n)
array_counted e n few is = ap is_counted (sym (rolls-Array e n)) ∙ fold-roll-Ty Bool counted_layer (Ty-F.Array e n) ∙ and_from (nat_lt n (2 ^ 32)) (is_counted e) (lt-ltb n (2 ^ 32) few) is

pub arrayed_counted : (sizes : List ℕ) (e : Ty) → AllByRecursion Positive sizes → IsCounted e → IsCounted (arrayed sizes e)
arrayed_counted [] e all is = is
arrayed_counted (n ∷ sizes) e all is = array_counted (arrayed sizes e) n all.0.1 (arrayed_counted sizes e all.1 is)

pub array_sound : (count : ℕ) (e : Ty) (n : ℕ) → Positive n → IsSound count e → IsSound count (ty.Array e n)
array_sound count e n some is = sound_array count e n ∙ and_from (nat_le 1 n && nat_lt n (2 ^ 32)) (sound count e) (and_from (nat_le 1 n) (nat_lt n (2 ^ 32)) (le-leb 1 n some.0) (lt-ltb n (2 ^ 32) some.1)) is

pub arrayed_sound : (count : ℕ) (sizes : List ℕ) (e : Ty) → AllByRecursion Positive sizes → IsSound count e → IsSound count (arrayed sizes e)
arrayed_sound count [] e all is = is
arrayed_sound count (n ∷ sizes) e all is = array_sound count (arrayed sizes e) n all.0 (arrayed_sound count sizes e all.1 is)

pub array_parts : (count : ℕ) (e : Ty) (n : ℕ) → IsSound count e → HasSoundParts count (ty.Array e n)
array_parts count e n is = subst (λ layer. PartsSound count layer (ty.Array e n)) (sym (outs-Array e n)) is

pub with_sound : (count n : ℕ) (dims : Dimensions) (e : Ty) → GoodDimensions dims → IsSound count e → HasSoundParts count (with_dimensions n dims e)
with_sound count n Plain e good is = sound_parts count e is
with_sound count n (Sized place (Some size) rest) e good is = array_parts count (arrayed rest e) size (arrayed_sound count rest e good.1 is)
with_sound count n (Sized place None rest) e good is = array_parts count (arrayed rest e) n (arrayed_sound count rest e good.1 is)

two_is : IsCount 2
two_is = record { least = omega arith; most = omega arith }

three_is : IsCount 3
three_is = record { least = omega arith; most = omega arith }

four_is : IsCount 4
four_is = record { least = omega arith; most = omega arith }

one_is : IsCount 1
one_is = record { least = omega arith; most = omega arith }

pub void_sound : (count : ℕ) → IsSound count ty.Void
void_sound count = ap (sound count) (sym rolls-Void) ∙ fold-roll-Ty Bool (sound_kind count) Ty-F.Void

pub basic_sound : (count : ℕ) (b : Basic) → IsSound count (basic_type b)
basic_sound count basic.Void = void_sound count
basic_sound count basic.Bool = sound_shape count (Boolean, 1) one_is
basic_sound count basic.Int = sound_shape count (Int, 1) one_is
basic_sound count basic.Uint = sound_shape count (Uint, 1) one_is
basic_sound count basic.Bvec2 = sound_shape count (Boolean, 2) two_is
basic_sound count basic.Bvec3 = sound_shape count (Boolean, 3) three_is
basic_sound count basic.Bvec4 = sound_shape count (Boolean, 4) four_is
basic_sound count basic.Ivec2 = sound_shape count (Int, 2) two_is
basic_sound count basic.Ivec3 = sound_shape count (Int, 3) three_is
basic_sound count basic.Ivec4 = sound_shape count (Int, 4) four_is
basic_sound count basic.Uvec2 = sound_shape count (Uint, 2) two_is
basic_sound count basic.Uvec3 = sound_shape count (Uint, 3) three_is
basic_sound count basic.Uvec4 = sound_shape count (Uint, 4) four_is
