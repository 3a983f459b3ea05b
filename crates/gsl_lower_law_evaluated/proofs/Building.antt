-- The arguments of constructors have values.
use Rattle.std.proofs.Common.{◌≡◌, ◌≢◌, sym, ap, ◌∙◌, subst, ℕ, zero, suc, Bool, IsTrue, List, [], ◌∷◌, Some}
use Rattle.std.specs.Prelude.{replicate}
use Rattle.std.specs.List.{AllByRecursion}
use Rattle.gsl_types.specs.Known.{is_plain, is_plain_kind}
use Rattle.gsl_types.specs.declared.ty.Direction.{Direction}
use Rattle.gsl_types.specs.declared.ty.Member.{Member}
use Rattle.gsl_types.specs.declared.ty.Ty.{Ty}
use Rattle.gsl_types.specs.declared.ty.Ty.TheFolds.{fold-roll-Ty}
use Rattle.gsl_types.specs.declared.ty.Ty.TheOpen.{Ty-F}
use Rattle.gsl_types.specs.declared.ty.Ty.TheVariants as ty
use Rattle.gsl_types.specs.declared.ty.Ty.TheViews.{out-Ty, roll-Ty, roll-out-Ty}
use Rattle.gsl_tree.specs.Expressions.{IsBuild, IsBuildKind, member_types, shapes_of, types_of}
use Rattle.gsl_tree.specs.Shapes.{Shape, shape_of}
use Rattle.gsl_tree.specs.Trees.{type_of}
use Rattle.gsl_tree.specs.WellTyped.{AreWellTyped, around_body, program_lists}
use Rattle.gsl_tree.specs.declared.expr.Expr.{Expr}
use Rattle.gsl_tree.specs.declared.program.Program.{Program}
use Rattle.gsl_typed_law.proofs.Zeros.{declared_plain}
use Rattle.gsl_lower_law_evaluated.proofs.Facts.{plain_real, shaped_real}
use Rattle.gsl_lower_law_evaluated.proofs.Lists.{shapes_cons}

abbrev AreReal : List Expr → Type 0
AreReal = AllByRecursion (λ (e : Expr). type_of e ≢ ty.Void)

-- scalars and vectors
shaped : (es : List Expr) (shapes : List Shape) → shapes_of es ≡ Some shapes → AreReal es
shaped [] shapes is = tt
shaped (e ∷ es) shapes is = let c = shapes_cons (shape_of (type_of e)) (shapes_of es) shapes is in (shaped_real (type_of e) c.0 c.2, shaped es c.1 c.3)

-- elements of an array
elements : (es : List Expr) (n : ℕ) (element : Ty) → IsTrue (is_plain element) → types_of es ≡ replicate n element → AreReal es
elements [] n element plain is = tt
elements (e ∷ es) zero element plain is = absurd cc
elements (e ∷ es) (suc n) element plain is =
    let first : type_of e ≡ element = cc in
    let rest : types_of es ≡ replicate n element = cc in
    (subst (λ t. t ≢ ty.Void) (sym first) (plain_real element plain), elements es n element plain rest)

-- members of a struct
members_real : (es : List Expr) (members : List Member) → AllByRecursion (λ (member : Member). IsTrue (is_plain member.ty)) members → types_of es ≡ member_types members → AreReal es
members_real [] members plain is = tt
members_real (e ∷ es) [] plain is = absurd cc
members_real (e ∷ es) (member ∷ members) plain is =
    let first : type_of e ≡ member.ty = cc in
    let rest : types_of es ≡ member_types members = cc in
    (subst (λ t. t ≢ ty.Void) (sym first) (plain_real member.ty plain.0), members_real es members plain.1 rest)

pub parts_real : (p : Program) → AreWellTyped (program_lists p) → (params : List (Direction × Ty)) (locals : List Ty) (args : List Expr) (t : Ty) → IsBuild (around_body (program_lists p) params locals) args t → AllByRecursion (λ (e : Expr). type_of e ≢ ty.Void) args
parts_real p typed params locals args t is = by (out-Ty t) (roll-out-Ty t) is.0
  where
    by : (layer : Ty-F Ty) → roll-Ty layer ≡ t → IsBuildKind (around_body (program_lists p) params locals) layer args → AreReal args
    by (Ty-F.One s) e of = shaped args (of.0 ∷ []) of.1
    by (Ty-F.Vector s n) e of = shaped args of.0 of.1
    by (Ty-F.Array element n) e of = elements args n element (sym (fold-roll-Ty Bool is_plain_kind (Ty-F.Array element n)) ∙ ap is_plain e ∙ is.4) of
    by (Ty-F.Struct number) e of = members_real args of.0.members (declared_plain p.structs typed.declared number of.0 of.1) of.2
    by Ty-F.Void e of = absurd of
    by (Ty-F.Runtime element) e of = absurd of
