-- What is plain for a declaration is plain for a layout.
use Rattle.std.proofs.Common.{◌≡◌, sym, subst, ◌∙◌}
use Rattle.std.specs.Prelude.{Bool}
use Rattle.gsl_types.specs.declared.ty.Ty.{Ty}
use Rattle.gsl_types.specs.declared.ty.Ty.TheOpen.{Ty-F}
use Rattle.gsl_types.specs.declared.ty.Ty.TheViews.{roll-Ty}
use Rattle.gsl_types.specs.declared.ty.Ty.TheFolds.{fold-roll-Ty, ind-Ty, map-Ty}
use Rattle.gsl_layout.specs.Extents.{plain, plain_kind}
use Rattle.gsl_types.specs.Known.{is_plain, is_plain_kind}

abbrev Same : Ty → Type 0
Same t = is_plain t ≡ plain t

asked : (x : Ty-F Ty) → is_plain (roll-Ty x) ≡ is_plain_kind (map-Ty _ _ is_plain x)
asked x = fold-roll-Ty Bool is_plain_kind x

laid : (x : Ty-F Ty) → plain (roll-Ty x) ≡ plain_kind (map-Ty _ _ plain x)
laid x = fold-roll-Ty Bool plain_kind x

layer_same : (y : Ty-F ((t : Ty) × Same t)) → Same (roll-Ty (map-Ty _ _ (λ e. e.0) y))
layer_same Ty-F.Void = asked Ty-F.Void ∙ sym (laid Ty-F.Void)
layer_same (Ty-F.One s) = asked (Ty-F.One s) ∙ sym (laid (Ty-F.One s))
layer_same (Ty-F.Vector s n) = asked (Ty-F.Vector s n) ∙ sym (laid (Ty-F.Vector s n))
layer_same (Ty-F.Array e n) = asked (Ty-F.Array e.0 n) ∙ e.1 ∙ sym (laid (Ty-F.Array e.0 n))
layer_same (Ty-F.Runtime e) = asked (Ty-F.Runtime e.0) ∙ sym (laid (Ty-F.Runtime e.0))
layer_same (Ty-F.Struct k) = asked (Ty-F.Struct k) ∙ sym (laid (Ty-F.Struct k))

pub same_plain : (t : Ty) → is_plain t ≡ plain t
same_plain = ind-Ty Same (λ x y is. subst (λ z. Same (roll-Ty z)) is (layer_same y))
