-- What shapes say of values, layer by layer.
use Rattle.std.proofs.Common.{◌≡◌, sym, ap, ◌∙◌, ℕ, List, [], map}
use Rattle.std.specs.Prelude.{replicate}
use Rattle.gsl_types.specs.declared.ty.Scalar.{Scalar}
use Rattle.gsl_values.specs.declared.value.Value.{Value}
use Rattle.gsl_values.specs.declared.value.Value.TheVariants.{Word, Many}
use Rattle.gsl_tree.specs.Values.{parts_in}
use Rattle.gsl_meaning.specs.Accesses.{told_scalar}
use Rattle.gsl_shapes.specs.declared.shape.Shape.{Shape}
use Rattle.gsl_shapes.specs.declared.shape.Shape.TheOpen.{Shape-F}
use Rattle.gsl_shapes.specs.declared.shape.Shape.TheFolds.{fold-roll-Shape}
use Rattle.gsl_shapes.specs.declared.shape.Shape.TheVariants as shape
use Rattle.gsl_shapes.specs.declared.shape.Shape.TheVariants.{rolls-Void, rolls-One, rolls-Vector, rolls-Array, rolls-Runtime, rolls-Struct}
use Rattle.gsl_shapes.specs.Shaping.{side_by_side, zero_layer, zero_of, told_layer, told_of}

pub zero_void : zero_of shape.Void ≡ Many []
zero_void = ap zero_of (sym rolls-Void) ∙ fold-roll-Shape Value zero_layer Shape-F.Void

pub zero_one : (s : Scalar) → zero_of (shape.One s) ≡ Word 0
zero_one s = ap zero_of (sym (rolls-One s)) ∙ fold-roll-Shape Value zero_layer (Shape-F.One s)

pub zero_vector : (s : Scalar) (n : ℕ) → zero_of (shape.Vector s n) ≡ Many (replicate n (Word 0))
zero_vector s n = ap zero_of (sym (rolls-Vector s n)) ∙ fold-roll-Shape Value zero_layer (Shape-F.Vector s n)

pub zero_array : (e : Shape) (n : ℕ) → zero_of (shape.Array e n) ≡ Many (replicate n (zero_of e))
zero_array e n = ap zero_of (sym (rolls-Array e n)) ∙ fold-roll-Shape Value zero_layer (Shape-F.Array e n)

pub zero_runtime : (e : Shape) → zero_of (shape.Runtime e) ≡ Many []
zero_runtime e = ap zero_of (sym (rolls-Runtime e)) ∙ fold-roll-Shape Value zero_layer (Shape-F.Runtime e)

pub zero_struct : (es : List Shape) → zero_of (shape.Struct es) ≡ Many (map zero_of es)
zero_struct es = ap zero_of (sym (rolls-Struct es)) ∙ fold-roll-Shape Value zero_layer (Shape-F.Struct es)

abbrev Telling : Type 0
Telling = Value → Value

pub told_void : told_of shape.Void ≡ told_layer Shape-F.Void
told_void = ap told_of (sym rolls-Void) ∙ fold-roll-Shape Telling told_layer Shape-F.Void

pub told_one : (s : Scalar) → told_of (shape.One s) ≡ told_layer (Shape-F.One s)
told_one s = ap told_of (sym (rolls-One s)) ∙ fold-roll-Shape Telling told_layer (Shape-F.One s)

pub told_vector : (s : Scalar) (n : ℕ) → told_of (shape.Vector s n) ≡ told_layer (Shape-F.Vector s n)
told_vector s n = ap told_of (sym (rolls-Vector s n)) ∙ fold-roll-Shape Telling told_layer (Shape-F.Vector s n)

pub told_array : (e : Shape) (n : ℕ) → told_of (shape.Array e n) ≡ told_layer (Shape-F.Array (told_of e) n)
told_array e n = ap told_of (sym (rolls-Array e n)) ∙ fold-roll-Shape Telling told_layer (Shape-F.Array e n)

pub told_runtime : (e : Shape) → told_of (shape.Runtime e) ≡ told_layer (Shape-F.Runtime (told_of e))
told_runtime e = ap told_of (sym (rolls-Runtime e)) ∙ fold-roll-Shape Telling told_layer (Shape-F.Runtime e)

pub told_struct : (es : List Shape) → told_of (shape.Struct es) ≡ told_layer (Shape-F.Struct (map told_of es))
told_struct es = ap told_of (sym (rolls-Struct es)) ∙ fold-roll-Shape Telling told_layer (Shape-F.Struct es)
