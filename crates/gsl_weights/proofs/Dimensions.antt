-- Dimensions of types by their kinds; sums over declarations.
use Rattle.std.proofs.Common.{◌≡◌, sym, ap, ◌∙◌, ℕ, ◌+◌}
use Rattle.gsl_types.specs.declared.ty.Scalar.{Scalar}
use Rattle.gsl_types.specs.declared.ty.Ty.{Ty}
use Rattle.gsl_types.specs.declared.ty.Ty.TheOpen.{Ty-F}
use Rattle.gsl_types.specs.declared.ty.Ty.TheVariants as ty
use Rattle.gsl_types.specs.declared.ty.Ty.TheVariants.{rolls-Array, rolls-Runtime, rolls-Struct, rolls-Vector, rolls-One, rolls-Void}
use Rattle.gsl_types.specs.declared.ty.Ty.TheFolds.{fold-roll-Ty}
use Rattle.gsl_tree.specs.Weights.{dimensions, dimensions_kind}

pub dims-Void : dimensions ty.Void ≡ 0
dims-Void = ap dimensions (sym rolls-Void) ∙ fold-roll-Ty ℕ dimensions_kind Ty-F.Void

pub dims-One : (s : Scalar) → dimensions (ty.One s) ≡ 0
dims-One s = ap dimensions (sym (rolls-One s)) ∙ fold-roll-Ty ℕ dimensions_kind (Ty-F.One s)

pub dims-Vector : (s : Scalar) (n : ℕ) → dimensions (ty.Vector s n) ≡ 0
dims-Vector s n = ap dimensions (sym (rolls-Vector s n)) ∙ fold-roll-Ty ℕ dimensions_kind (Ty-F.Vector s n)

pub dims-Struct : (n : ℕ) → dimensions (ty.Struct n) ≡ 0
dims-Struct n = ap dimensions (sym (rolls-Struct n)) ∙ fold-roll-Ty ℕ dimensions_kind (Ty-F.Struct n)

pub dims-Array : (e : Ty) (n : ℕ) → dimensions (ty.Array e n) ≡ dimensions e + 1
dims-Array e n = ap dimensions (sym (rolls-Array e n)) ∙ fold-roll-Ty ℕ dimensions_kind (Ty-F.Array e n)

pub dims-Runtime : (e : Ty) → dimensions (ty.Runtime e) ≡ dimensions e + 1
dims-Runtime e = ap dimensions (sym (rolls-Runtime e)) ∙ fold-roll-Ty ℕ dimensions_kind (Ty-F.Runtime e)

pub ruleset dimensions_step = (dims-Void, dims-One, dims-Vector, dims-Struct, dims-Array, dims-Runtime)
