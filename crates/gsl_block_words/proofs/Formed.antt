-- What a well typed block has of what its layout asks.
use Rattle.std.proofs.Common.{◌≡◌, refl, sym, ap, subst, ◌∙◌, suc, ◌<◌, List, [], ◌∷◌, length, IsTrue, arith}
use Rattle.std.specs.Prelude.{Bool, true, false, ◌&&◌}
use Rattle.std.specs.List.{AllByRecursion}
use Rattle.std.proofs.lemmas.Bool.{and_parts, true≢false}
use Rattle.gsl_types.specs.Known.{IsSound, is_plain, is_plain_kind}
use Rattle.gsl_types.specs.declared.ty.Member.{Member}
use Rattle.gsl_types.specs.declared.ty.StructType.{StructType}
use Rattle.gsl_types.specs.declared.ty.Ty.{Ty}
use Rattle.gsl_types.specs.declared.ty.Ty.TheOpen.{Ty-F}
use Rattle.gsl_types.specs.declared.ty.Ty.TheViews.{roll-Ty, out-Ty, roll-out-Ty}
use Rattle.gsl_types.specs.declared.ty.Ty.TheFolds.{fold-roll-Ty, ind-Ty, map-Ty}
use Rattle.gsl_layout.specs.Extents.{AreMembers, last_open, may_be_last, plain, plain_kind}
use Rattle.gsl_tree.specs.declared.unit.BlockKind.{BlockKind}
use Rattle.gsl_tree.specs.declared.unit.BlockMember.{BlockMember}
use Rattle.gsl_tree.specs.Around.{is_buffer}
use Rattle.gsl_tree.specs.Laying.{members_of}
use Rattle.gsl_tree.specs.WellTyped.{is_member_kind, is_member_type, AreBlockMembers}

-- ---- what is plain

abbrev Same : Ty → Type 0
Same t = is_plain t ≡ plain t

asked : (x : Ty-F Ty) → is_plain (roll-Ty x) ≡ is_plain_kind (map-Ty _ _ is_plain x)
asked x = fold-roll-Ty Bool is_plain_kind x

laid : (x : Ty-F Ty) → plain (roll-Ty x) ≡ plain_kind (map-Ty _ _ plain x)
laid x = fold-roll-Ty Bool plain_kind x

layer_same : (y : Ty-F ((t : Ty) × Same t)) → Same (roll-Ty (map-Ty _ _ (λ e. e.0) y))
layer_same Ty-F.Void = asked Ty-F.Void ∙ sym (laid Ty-F.Void)
layer_same (Ty-F.One s) = asked (Ty-F.One s) ∙ sym (laid (Ty-F.One s))
layer_same (Ty-F.Vector s n) = asked (Ty-F.Vector s n) ∙ sym (laid (Ty-F.Vector s n))
layer_same (Ty-F.Array e n) = asked (Ty-F.Array e.0 n) ∙ e.1 ∙ sym (laid (Ty-F.Array e.0 n))
layer_same (Ty-F.Runtime e) = asked (Ty-F.Runtime e.0) ∙ sym (laid (Ty-F.Runtime e.0))
layer_same (Ty-F.Struct k) = asked (Ty-F.Struct k) ∙ sym (laid (Ty-F.Struct k))

pub same_plain : (t : Ty) → is_plain t ≡ plain t
same_plain = ind-Ty Same (λ x y is. subst (λ z. Same (roll-Ty z)) is (layer_same y))

-- ---- the types of members

-- a layer of a type that a member has, and of what a layout asks
layer_last : (b : Bool) (x : Ty-F Ty) (t : Ty) → roll-Ty x ≡ t → IsTrue (is_member_kind b x) → IsTrue (last_open x t)
layer_last b Ty-F.Void t at is = let never : ⊥ = true≢false (sym is) in elim never [ ]
layer_last b (Ty-F.One s) t at is = sym (ap plain at) ∙ laid (Ty-F.One s)
layer_last b (Ty-F.Vector s n) t at is = sym (ap plain at) ∙ laid (Ty-F.Vector s n)
layer_last b (Ty-F.Array e n) t at is = sym (ap plain at) ∙ laid (Ty-F.Array e n) ∙ sym (same_plain e) ∙ is
layer_last b (Ty-F.Runtime e) t at is = sym (same_plain e) ∙ (and_parts b (is_plain e) is).1
layer_last b (Ty-F.Struct k) t at is = sym (ap plain at) ∙ laid (Ty-F.Struct k)

layer_plain : (x : Ty-F Ty) (t : Ty) → roll-Ty x ≡ t → IsTrue (is_member_kind false x) → IsTrue (plain t)
layer_plain Ty-F.Void t at is = let never : ⊥ = true≢false (sym is) in elim never [ ]
layer_plain (Ty-F.One s) t at is = sym (ap plain at) ∙ laid (Ty-F.One s)
layer_plain (Ty-F.Vector s n) t at is = sym (ap plain at) ∙ laid (Ty-F.Vector s n)
layer_plain (Ty-F.Array e n) t at is = sym (ap plain at) ∙ laid (Ty-F.Array e n) ∙ sym (same_plain e) ∙ is
layer_plain (Ty-F.Runtime e) t at is = let never : ⊥ = true≢false (sym is) in elim never [ ]
layer_plain (Ty-F.Struct k) t at is = sym (ap plain at) ∙ laid (Ty-F.Struct k)

member_last : (b : Bool) (t : Ty) → IsTrue (is_member_type b t) → IsTrue (may_be_last t)
member_last b t is = layer_last b (out-Ty t) t (roll-out-Ty t) is

member_plain : (t : Ty) → IsTrue (is_member_type false t) → IsTrue (plain t)
member_plain t is = layer_plain (out-Ty t) t (roll-out-Ty t) is

-- ---- the members of a block

pub members_laid : (structs : List StructType) (kind : BlockKind) (members : List BlockMember) → 0 < length members → AreBlockMembers structs kind members → AreMembers (members_of members)
members_laid structs kind [] some are = let never : ⊥ = omega (arith, some) in elim never [ ]
members_laid structs kind (m ∷ []) some are = member_last (true && is_buffer kind) m.ty are.type
members_laid structs kind (m ∷ next ∷ rest) some are = (member_plain m.ty are.0.type, members_laid structs kind (next ∷ rest) (omega arith) are.1)

pub members_sound : (structs : List StructType) (kind : BlockKind) (members : List BlockMember) → AreBlockMembers structs kind members
    → AllByRecursion (λ (member : Member). IsSound (length structs) member.ty) (members_of members)
members_sound structs kind [] are = tt
members_sound structs kind (m ∷ []) are = (are.known, tt)
members_sound structs kind (m ∷ next ∷ rest) are = (are.0.known, members_sound structs kind (next ∷ rest) are.1)

pub as_many : (members : List BlockMember) → length (members_of members) ≡ length members
as_many [] = refl
as_many (m ∷ members) = ap suc (as_many members)
