-- Indexes, members, swizzles and lengths of well typed parts are well typed.
use Rattle.std.proofs.Common.{◌≡◌, refl, sym, ap, ◌∙◌, subst, ℕ, List, [], ◌∷◌, length, slice_get, Option, Some, None, is_none, unwrap_or, Bool, not, ◌||◌, IsTrue, Ok, inl, inr}
use Rattle.std.specs.List.{AllByRecursion}
use Rattle.std.specs.Str.{bytes_eq}
use Rattle.std.proofs.lemmas.Bool.{and_parts}
use Rattle.std.proofs.lemmas.Option.{none-some}
use Rattle.gsl_base.specs.declared.fault.Place.{Place}
use Rattle.gsl_base.specs.declared.fault.Code.TheVariants.{E0506, E0507, E0508, E0509, E0606}
use Rattle.gsl_types.specs.Known.{IsSound, sound, sound_kind}
use Rattle.gsl_types.specs.declared.ty.Member.{Member}
use Rattle.gsl_types.specs.declared.ty.StructType.{StructType}
use Rattle.gsl_types.specs.declared.ty.Scalar.{Scalar}
use Rattle.gsl_types.specs.declared.ty.Scalar.TheVariants.{Bool as Boolean, Int, Uint}
use Rattle.gsl_types.specs.declared.ty.Ty.{Ty}
use Rattle.gsl_types.specs.declared.ty.Ty.TheOpen.{Ty-F}
use Rattle.gsl_types.specs.declared.ty.Ty.TheFolds.{fold-roll-Ty}
use Rattle.gsl_types.specs.declared.ty.Ty.TheViews.{out-Ty, roll-Ty, roll-out-Ty}
use Rattle.gsl_types.specs.declared.ty.Ty.TheVariants as ty
use Rattle.gsl_types.specs.declared.ty.Ty.TheVariants.{rolls-One, rolls-Struct}
use Rattle.gsl_values.specs.declared.value.Value.{Value}
use Rattle.gsl_values.specs.declared.lane.Lanes.{Lanes}
use Rattle.gsl_overload.proofs.Same.{no_more}
use Rattle.gsl_tree.specs.declared.expr.Expr.{Expr}
use Rattle.gsl_tree.specs.declared.expr.ExprKind.TheVariants as kind
use Rattle.gsl_tree.specs.declared.expr.ExprKind.{ExprKind}
use Rattle.gsl_tree.specs.declared.expr.ExprKind.TheVariants.{outs-BlockMember, outs-Member, outs-Index, outs-Swizzle, outs-Length}
use Rattle.gsl_tree.specs.declared.expr.ExprKind.TheOpen.{ExprKind-F}
use Rattle.gsl_tree.specs.declared.folded.Folded.{Folded}
use Rattle.gsl_tree.specs.declared.folded.Folded.TheVariants.{Known, NotConstant, Free}
use Rattle.gsl_tree.specs.declared.unit.Block.{Block}
use Rattle.gsl_tree.specs.declared.unit.BlockMember.{BlockMember}
use Rattle.gsl_tree.specs.Around.{Around, consts_of, member_in}
use Rattle.gsl_tree.specs.Constants.{constant_of, known_at}
use Rattle.gsl_tree.specs.Shapes.{shape_of, shape_kind}
use Rattle.gsl_tree.specs.Trees.{form_of, parts_of, ThroughoutAll}
use Rattle.gsl_tree.specs.Expressions.{IsIndex, element_of, element_kind, in_range_by, IsSwizzle}
use Rattle.gsl_tree.specs.WellTyped.{IsVariableType}
use Rattle.gsl_tree.proofs.Nodes.{expr_at}
use Rattle.gsl_typing.specs.declared.scene.Scene.{Scene}
use Rattle.gsl_typing.specs.declared.scene.Part.{Part}
use Rattle.gsl_typing.specs.Scene.{around, type_in, made}
use Rattle.gsl_typing.specs.Uses.{is_unread}
use Rattle.gsl_makers.specs.declared.paths.Picked.{Picked}
use Rattle.gsl_makers.specs.declared.paths.Picked.TheVariants.{Nothing, Field, Components}
use Rattle.gsl_makers.specs.Members.{Found, struct_member, block_member_of}
use Rattle.gsl_makers.specs.Paths.{inside, is_index, is_index_kind, element, in_range, index, picked, picked_by, field, components_of, member, member_by, block_member, block_member_by, method, length_name, has_length}
use Rattle.gsl_makers.specs.Swizzles.{swizzle}
use Rattle.gsl_check_decl.proofs.Gathering.{Holds}
use Rattle.gsl_check_law.specs.Parts.{IsPart, IsTaken}
use Rattle.gsl_check_law.specs.Scenes.{IsScene}
use Rattle.gsl_check_law.proofs.Rows.{row, not_false, neither, there}
use Rattle.gsl_check_law.proofs.Found.{at_place, struct_member_is, block_member_is}
use Rattle.gsl_check_law.proofs.Picks.{swizzle_picks}
use Rattle.gsl_check_law.proofs.Constants.{LeafKnown, stays_known}
use Rattle.gsl_check_law.proofs.Types.{IsSettled, flag_count, sound_shape, shape_back, shape_settled}
use Rattle.gsl_check_law.proofs.Parts.{may_be_read}
use Rattle.gsl_check_law.proofs.Operators.{only, two}

-- ---- what an index gives

element_sound_by : (count : ℕ) (layer : Ty-F Ty) (t : Ty) → element_kind layer ≡ Some t → IsSound count (roll-Ty layer) → IsSound count t
element_sound_by count Ty-F.Void t is known = elim (none-some t is) [ ]
element_sound_by count (Ty-F.One s) t is known = elim (none-some t is) [ ]
element_sound_by count (Ty-F.Vector s n) t is known = subst (IsSound count) (ap (λ o. unwrap_or o t) is) (sound_shape count (s, 1) flag_count)
element_sound_by count (Ty-F.Array e n) t is known =
    subst (IsSound count) (ap (λ o. unwrap_or o t) is) (and_parts _ _ (sym (fold-roll-Ty Bool (sound_kind count) (Ty-F.Array e n)) ∙ known)).1
element_sound_by count (Ty-F.Runtime e) t is known = subst (IsSound count) (ap (λ o. unwrap_or o t) is) (sym (fold-roll-Ty Bool (sound_kind count) (Ty-F.Runtime e)) ∙ known)
element_sound_by count (Ty-F.Struct n) t is known = elim (none-some t is) [ ]

pub element_sound : (count : ℕ) (a t : Ty) → element_of a ≡ Some t → IsSound count a → IsSound count t
element_sound count a t is known = element_sound_by count (out-Ty a) t is (ap (sound count) (roll-out-Ty a) ∙ known)

index_layer : (layer : Ty-F Ty) → IsTrue (is_index_kind layer) → IsIndex (roll-Ty layer)
index_layer (Ty-F.One Int) is = inl (rolls-One Int)
index_layer (Ty-F.One Uint) is = inr (rolls-One Uint)
index_layer (Ty-F.One Boolean) is = no_more is
index_layer Ty-F.Void is = no_more is
index_layer (Ty-F.Vector s n) is = no_more is
index_layer (Ty-F.Array e n) is = no_more is
index_layer (Ty-F.Runtime e) is = no_more is
index_layer (Ty-F.Struct n) is = no_more is

pub index_is : (i : Part) → IsTrue (is_index i) → IsIndex (type_in i)
index_is i is = subst IsIndex (roll-out-Ty (type_in i)) (index_layer (out-Ty (type_in i)) is)

index_settled_by : (t : Ty) → IsIndex t → IsSettled t
index_settled_by t (inl is) = subst IsSettled (sym is) (shape_settled (ty.One Int) (Int, 1) (shape_back (Int, 1)))
index_settled_by t (inr is) = subst IsSettled (sym is) (shape_settled (ty.One Uint) (Uint, 1) (shape_back (Uint, 1)))

pub index_settled : (i : Part) → IsTrue (is_index i) → IsSettled (type_in i)
index_settled i is = index_settled_by (type_in i) (index_is i is)

-- what is in range by what is known is so by less
pub in_range_too : (few many : Folded) (base i : Ty) → ((v : Value) → few ≡ Known v → many ≡ Known v) → IsTrue (in_range_by many base i) → IsTrue (in_range_by few base i)
in_range_too (Known v) many base i also is = subst (λ f. IsTrue (in_range_by f base i)) (also v refl) is
in_range_too NotConstant many base i also is = refl
in_range_too Free many base i also is = refl

module _ (scene : Scene) (fine : IsScene scene) where
  abbrev count : ℕ
  count = length scene.structs

  abbrev here : Around
  here = around scene

  abbrev Anything : Expr → Type 0
  Anything e = Unit {0}

  all_anything : (es : List Expr) → AllByRecursion Anything es
  all_anything [] = tt
  all_anything (e ∷ es) = (tt, all_anything es)

  none_known : (number : ℕ) (v : Value) → known_at [] number ≡ Known v → known_at scene.consts.locals number ≡ Known v
  none_known number v is = let no : ⊥ = cc in elim no [ ]

  leaf_known : (f : ExprKind-F ExprKind Expr) → LeafKnown (consts_of scene.globals) scene.consts f
  leaf_known (ExprKind-F.Local n) = none_known n
  leaf_known (ExprKind-F.Global n) = λ v is. ap (λ l. known_at l n) fine.known ∙ is
  leaf_known _ = tt

  -- what the unit shows to be constant is known to be
  pub known_here : (e : Expr) (v : Value) → constant_of (consts_of scene.globals) e ≡ Known v → constant_of scene.consts e ≡ Known v
  known_here e v is = stays_known (consts_of scene.globals) scene.consts Anything (λ e _. all_anything (parts_of (form_of e))) (λ e _. leaf_known (form_of e)) e tt v is

  module _ (place : Place) where
    pub index_typed : (a i : Part) → IsPart scene a → IsTaken scene i → Holds (IsPart scene) (index scene place a i)
    unfolding index element in_range
    index_typed a i first second =
        row (IsPart scene) place E0507 (is_unread scene i) ((E0508, is_none (element (type_in a)) || not (is_index i)) ∷ (E0606, not (in_range (constant_of scene.consts i.expr) (type_in a) (type_in i))) ∷ []) (Ok (inside place (unwrap_or (element (type_in a)) ty.Void) (kind.Index a.expr i.expr) a))
        (λ read. row (IsPart scene) place E0508 (is_none (element (type_in a)) || not (is_index i)) ((E0606, not (in_range (constant_of scene.consts i.expr) (type_in a) (type_in i))) ∷ []) (Ok (inside place (unwrap_or (element (type_in a)) ty.Void) (kind.Index a.expr i.expr) a))
        (λ fits. row (IsPart scene) place E0606 (not (in_range (constant_of scene.consts i.expr) (type_in a) (type_in i))) [] (Ok (inside place (unwrap_or (element (type_in a)) ty.Void) (kind.Index a.expr i.expr) a))
        (λ ranges.
        let parts = neither _ _ fits in
        let is = there (element (type_in a)) ty.Void parts.0 in
        let indexes = not_false _ parts.1 in
        let within = in_range_too (constant_of (consts_of scene.globals) i.expr) (constant_of scene.consts i.expr) (type_in a) (type_in i) (known_here i.expr) (not_false _ ranges) in
        record {
          expr = expr_at here place (unwrap_or (element (type_in a)) ty.Void) (kind.Index a.expr i.expr) (ExprKind-F.Index a.expr i.expr) (outs-Index a.expr i.expr) (is, index_is i indexes, within)
              (may_be_read scene i second read (index_settled i indexes), tt) tt (two here a.expr i.expr first.expr second.part.expr);
          sound = element_sound count (type_in a) (unwrap_or (element (type_in a)) ty.Void) is first.sound;
        })))

    -- ---- members and swizzles

    abbrev PickedRight : Part → Picked → Type 0
    PickedRight a Nothing = Unit {0}
    PickedRight a (Field number t) =
        ((n : ℕ) × (struct : StructType) × (m : Member) × (type_in a ≡ ty.Struct n) × (slice_get scene.structs n ≡ Some struct) × (slice_get struct.members number ≡ Some m) × (m.ty ≡ t)) × IsSound count t
    PickedRight a (Components lanes t) = IsSwizzle (type_in a) lanes t × IsSound count t

    field_right : (a : Part) (n : ℕ) (name : List ℕ) (o : Option Found) → type_in a ≡ ty.Struct n → struct_member scene.structs n name ≡ o → PickedRight a (field o)
    field_right a n name None is found = tt
    field_right a n name (Some f) is found =
        let m = struct_member_is scene.structs n name f found in
        let members = at_place (λ (s : StructType). AllByRecursion (λ (m : Member). IsVariableType scene.structs m.ty) s.members) scene.structs n m.0 fine.structs m.2 in
        let member_is = at_place (λ (m : Member). IsVariableType scene.structs m.ty) m.0.members f.0 m.1 members m.3 in
        ((n, m.0, m.1, is, m.2, m.3, m.4), subst (IsSound count) m.4 member_is.known)

    components_right : (a : Part) (s : Scalar) (n : ℕ) (name : List ℕ) (o : Option Lanes) → shape_of (type_in a) ≡ Some (s, n) → swizzle n name ≡ o → PickedRight a (components_of s o)
    components_right a s n name None is found = tt
    components_right a s n name (Some lanes) is found =
        let picks = swizzle_picks n lanes name found in
        (((s, n), is, picks.0, picks.1, refl), sound_shape count (s, lanes.count) (record { least = picks.0.0; most = picks.0.1 }))

    picked_right : (a : Part) (name : List ℕ) (layer : Ty-F Ty) → out-Ty (type_in a) ≡ layer → PickedRight a (picked_by scene layer name)
    picked_right a name Ty-F.Void is = tt
    picked_right a name (Ty-F.One s) is = components_right a s 1 name (swizzle 1 name) (ap shape_kind is) refl
    picked_right a name (Ty-F.Vector s n) is = components_right a s n name (swizzle n name) (ap shape_kind is) refl
    picked_right a name (Ty-F.Array e n) is = tt
    picked_right a name (Ty-F.Runtime e) is = tt
    picked_right a name (Ty-F.Struct n) is = field_right a n name (struct_member scene.structs n name) (sym (roll-out-Ty (type_in a)) ∙ ap roll-Ty is ∙ rolls-Struct n) refl

    member_node : (a : Part) (p : Picked) → IsPart scene a → PickedRight a p → Holds (IsPart scene) (member_by place a p)
    member_node a Nothing first right = tt
    member_node a (Field number t) first right = record {
      expr = expr_at here place t (kind.Member a.expr number) (ExprKind-F.Member a.expr number) (outs-Member a.expr number) right.0 tt tt (only here a.expr first.expr);
      sound = right.1;
    }
    member_node a (Components lanes t) first right = record {
      expr = expr_at here place t (kind.Swizzle a.expr lanes) (ExprKind-F.Swizzle a.expr lanes) (outs-Swizzle a.expr lanes) right.0 tt tt (only here a.expr first.expr);
      sound = right.1;
    }

    pub member_typed : (a : Part) (name : List ℕ) → IsPart scene a → Holds (IsPart scene) (member scene place a name)
    unfolding member picked
    member_typed a name first = member_node a (picked_by scene (out-Ty (type_in a)) name) first (picked_right a name (out-Ty (type_in a)) refl)

    -- ---- members of blocks

    block_node : (block : ℕ) (name : List ℕ) (o : Option Found) → block_member_of scene.blocks block name ≡ o → Holds (IsPart scene) (block_member_by place block o)
    block_node block name None found = tt
    block_node block name (Some f) found =
        let m = block_member_is scene.blocks block name f found in
        let members = at_place (λ (b : Block). AllByRecursion (λ (m : BlockMember). IsSound count m.ty) b.members) scene.blocks block m.0 fine.blocks m.2 in
        let member_is = at_place (λ (m : BlockMember). IsSound count m.ty) m.0.members f.0 m.1 members m.3 in
        let there_is = ap (λ o. member_in o f.0) m.2 ∙ m.3 in
        record {
          expr = expr_at here place f.1 (kind.BlockMember block f.0) (ExprKind-F.BlockMember block f.0) (outs-BlockMember block f.0) (m.1, there_is, m.4) tt tt ThroughoutAll.none;
          sound = subst (IsSound count) m.4 member_is;
        }

    pub block_member_typed : (block : ℕ) (name : List ℕ) → Holds (IsPart scene) (block_member scene place block name)
    unfolding block_member
    block_member_typed block name = block_node block name (block_member_of scene.blocks block name) refl

    -- ---- lengths

    pub method_typed : (a : Part) (name : List ℕ) → IsPart scene a → Holds (IsPart scene) (method place a name)
    unfolding method
    method_typed a name first =
        row (IsPart scene) place E0506 (not (bytes_eq name length_name)) ((E0509, not (has_length a)) ∷ []) (Ok (made place (ty.One Int) (kind.Length a.expr)))
        (λ _. row (IsPart scene) place E0509 (not (has_length a)) [] (Ok (made place (ty.One Int) (kind.Length a.expr)))
        (λ has. record {
          expr = expr_at here place (ty.One Int) (kind.Length a.expr) (ExprKind-F.Length a.expr) (outs-Length a.expr) (refl, not_false _ has) tt tt (only here a.expr first.expr);
          sound = sound_shape count (Int, 1) flag_count;
        }))
