-- Constructors and initialiser lists over well typed parts are well typed.
use Rattle.std.proofs.Common.{le_trans, ◌≡◌, refl, sym, ap, ◌∙◌, subst, ℕ, zero, suc, ◌≤◌, List, [], ◌∷◌, map, length, replicate, Option, Some, None, Bool, true, false, not, ◌||◌, IsTrue, nat_eq, nat_le, Ok, arith, nat_lt, ◌^◌, ◌&&◌}
use Rattle.std.specs.List.{AllByRecursion, list_any}
use Rattle.std.proofs.lemmas.Bool.{and_parts, and_from, eqb-true, leb-true, le-leb, lt-ltb, ltb-true}
use Rattle.std.proofs.lemmas.Option.{none-some}
use Rattle.gsl_base.specs.declared.fault.Place.{Place}
use Rattle.gsl_base.specs.declared.fault.Code.TheVariants.{E0504, E0505, E0507, E0510, E0908}
use Rattle.gsl_types.specs.Known.{IsSound, sound, sound_kind, is_plain, is_plain_kind}
use Rattle.gsl_types.specs.declared.ty.Member.{Member}
use Rattle.gsl_types.specs.declared.ty.Ty.{Ty}
use Rattle.gsl_types.specs.declared.ty.Ty.TheOpen.{Ty-F}
use Rattle.gsl_types.specs.declared.ty.Ty.TheFolds.{fold-roll-Ty}
use Rattle.gsl_types.specs.declared.ty.Ty.TheViews.{out-Ty, roll-Ty, roll-out-Ty}
use Rattle.gsl_overload.proofs.Same.{no_more}
use Rattle.gsl_tree.specs.declared.expr.Expr.{Expr}
use Rattle.gsl_tree.specs.declared.expr.ExprKind.TheVariants as kind
use Rattle.gsl_tree.specs.declared.expr.ExprKind.TheVariants.{outs-Build}
use Rattle.gsl_tree.specs.declared.expr.ExprKind.TheOpen.{ExprKind-F}
use Rattle.gsl_tree.specs.Around.{Around}
use Rattle.gsl_tree.specs.Shapes.{Shape, shape_of}
use Rattle.gsl_tree.specs.Trees.{type_of, ThroughoutAll}
use Rattle.gsl_tree.specs.Weights.{height_of, most_high}
use Rattle.gsl_tree.specs.Expressions.{IsExpr, IsNode, MayBeRead, IsBuildKind, shapes_of, shapes_with, types_of, member_types, supplies, is_one_scalar, most_parts, is_runtime_layer}
use Rattle.gsl_tree.specs.WellTyped.{IsVariableType}
use Rattle.gsl_tree.proofs.Nodes.{expr_at}
use Rattle.gsl_typing.specs.declared.scene.Scene.{Scene}
use Rattle.gsl_typing.specs.declared.scene.Part.{Part}
use Rattle.gsl_typing.specs.Scene.{around, type_in, made}
use Rattle.gsl_typing.specs.Conversions.{serves_as, as_type}
use Rattle.gsl_typing.specs.Uses.{is_unread}
use Rattle.gsl_makers.specs.Members.{members_in}
use Rattle.gsl_makers.specs.Constructors.{exprs_in, all_serve, each_serves, as_elements, as_members, members_of, serve_kind, is_one, supply, count_kind, converted_kind, serve, count as counted, converted, any_unread, plain, is_too_large, buildable, build}
use Rattle.gsl_check_decl.proofs.Gathering.{Holds, holds_after}
use Rattle.gsl_check_law.specs.Parts.{IsPart, IsTaken}
use Rattle.gsl_check_law.specs.Scenes.{IsScene, HasVariables}
use Rattle.gsl_check_law.proofs.Rows.{row, not_false, neither}
use Rattle.gsl_check_law.proofs.Found.{at_place, below}
use Rattle.gsl_check_law.proofs.Types.{IsSettled, shape_settled}
use Rattle.gsl_check_law.proofs.Parts.{may_be_read}
use Rattle.gsl_check_law.proofs.Operators.{operand_of}

-- ---- plain types

plain_layer_settled : (layer : Ty-F Ty) → IsTrue (is_plain (roll-Ty layer)) → is_runtime_layer layer ≡ false
plain_layer_settled Ty-F.Void is = refl
plain_layer_settled (Ty-F.One s) is = refl
plain_layer_settled (Ty-F.Vector s n) is = refl
plain_layer_settled (Ty-F.Array e n) is = refl
plain_layer_settled (Ty-F.Runtime e) is = no_more (sym (fold-roll-Ty Bool is_plain_kind (Ty-F.Runtime e)) ∙ is)
plain_layer_settled (Ty-F.Struct n) is = refl

-- no runtime array is plain
pub plain_settled : (t : Ty) → IsTrue (is_plain t) → IsSettled t
plain_settled t is = plain_layer_settled (out-Ty t) (ap is_plain (roll-out-Ty t) ∙ is)

-- ---- shapes of several

shaped_settled : (e : Expr) (es : List Expr) (x : Option Shape) (xs : Option (List Shape)) (all : List Shape) → shape_of (type_of e) ≡ x → shapes_of es ≡ xs → shapes_with x xs ≡ Some all
    → IsSettled (type_of e) × ((rest : List Shape) × (shapes_of es ≡ Some rest))
shaped_settled e es None xs all shape shapes is = elim (none-some all is) [ ]
shaped_settled e es (Some x) None all shape shapes is = elim (none-some all is) [ ]
shaped_settled e es (Some x) (Some xs) all shape shapes is = (shape_settled (type_of e) x shape, (xs, shapes))

pub shapes_settled : (es : List Expr) (all : List Shape) → shapes_of es ≡ Some all → AllByRecursion (λ (e : Expr). IsSettled (type_of e)) es
shapes_settled [] all is = tt
shapes_settled (e ∷ es) all is =
    let first = shaped_settled e es (shape_of (type_of e)) (shapes_of es) all refl refl is in
    (first.0, shapes_settled es first.1.0 first.1.1)

-- ---- arguments that are read

-- a type is sound, but for the size of its outermost array
abbrev pub PartsSound : ℕ → Ty-F Ty → Ty → Type 0
PartsSound count (Ty-F.Array e n) t = IsSound count e
PartsSound count Ty-F.Void t = IsSound count t
PartsSound count (Ty-F.One s) t = IsSound count t
PartsSound count (Ty-F.Vector s n) t = IsSound count t
PartsSound count (Ty-F.Runtime e) t = IsSound count t
PartsSound count (Ty-F.Struct n) t = IsSound count t

-- the same of a type by its layer; a constructor refuses a size of 0
abbrev pub HasSoundParts : ℕ → Ty → Type 0
HasSoundParts count t = PartsSound count (out-Ty t) t

sound_parts_by : (count : ℕ) (layer : Ty-F Ty) (t : Ty) → roll-Ty layer ≡ t → IsSound count t → PartsSound count layer t
sound_parts_by count Ty-F.Void t at is = is
sound_parts_by count (Ty-F.One s) t at is = is
sound_parts_by count (Ty-F.Vector s n) t at is = is
sound_parts_by count (Ty-F.Array e n) t at is = (and_parts _ _ (sym (fold-roll-Ty Bool (sound_kind count) (Ty-F.Array e n)) ∙ ap (sound count) at ∙ is)).1
sound_parts_by count (Ty-F.Runtime e) t at is = is
sound_parts_by count (Ty-F.Struct n) t at is = is

pub sound_parts : (count : ℕ) (t : Ty) → IsSound count t → HasSoundParts count t
sound_parts count t is = sound_parts_by count (out-Ty t) t (roll-out-Ty t) is

module _ (scene : Scene) (fine : IsScene scene) where
  abbrev count : ℕ
  count = length scene.structs

  abbrev here : Around
  here = around scene

  -- expressions that are well typed and may be read
  abbrev pub AllRead : List Expr → Type 0
  AllRead es = AllByRecursion (λ (e : Expr). IsExpr here e × MayBeRead here e) es

  pub reads_of : (es : List Expr) → AllRead es → AllByRecursion (MayBeRead here) es
  reads_of [] all = tt
  reads_of (e ∷ es) all = (all.0.1, reads_of es all.1)

  pub exprs_of : (es : List Expr) → AllRead es → ThroughoutAll (IsNode here) es
  exprs_of [] all = ThroughoutAll.none
  exprs_of (e ∷ es) all = ThroughoutAll.more e es all.0.0 (exprs_of es all.1)

  abbrev pub AllTaken : List Part → Type 0
  AllTaken args = AllByRecursion (IsTaken scene) args

  -- as they are, where they are scalars or vectors
  as_they_are : (args : List Part) → AllTaken args → any_unread scene args ≡ false → AllByRecursion (λ (e : Expr). IsSettled (type_of e)) (exprs_in args) → AllRead (exprs_in args)
  unfolding any_unread
  as_they_are [] all read settled = tt
  as_they_are (arg ∷ args) all read settled =
      let unread = neither (is_unread scene arg) (list_any (is_unread scene) args) read in
      ((all.0.part.expr, may_be_read scene arg all.0 unread.0 settled.0), as_they_are args all.1 unread.1 settled.1)

  -- as elements
  elements_read : (e : Ty) (args : List Part) → AllTaken args → any_unread scene args ≡ false → IsTrue (all_serve e args) → IsSettled e → AllRead (as_elements e args)
  unfolding any_unread
  elements_read e [] all read serves settled = tt
  elements_read e (arg ∷ args) all read serves settled =
      let unread = neither (is_unread scene arg) (list_any (is_unread scene) args) read in
      let parts = and_parts (serves_as (type_in arg) e) (all_serve e args) serves in
      let x = operand_of scene e arg all.0 unread.0 parts.0 settled in
      ((x.expr, x.reads), elements_read e args all.1 unread.1 parts.1 settled)

  elements_types : (e : Ty) (n : ℕ) (args : List Part) → AllTaken args → any_unread scene args ≡ false → IsTrue (all_serve e args) → IsSettled e → length args ≡ n → types_of (as_elements e args) ≡ replicate n e
  unfolding any_unread
  elements_types e zero [] all read serves settled long = refl
  elements_types e (suc n) [] all read serves settled long = let no : ⊥ = omega (arith, long) in elim no [ ]
  elements_types e zero (arg ∷ args) all read serves settled long = let no : ⊥ = omega (arith, long) in elim no [ ]
  elements_types e (suc n) (arg ∷ args) all read serves settled long =
      let unread = neither (is_unread scene arg) (list_any (is_unread scene) args) read in
      let parts = and_parts (serves_as (type_in arg) e) (all_serve e args) serves in
      let x = operand_of scene e arg all.0 unread.0 parts.0 settled in
      ap (λ t. t ∷ types_of (as_elements e args)) x.type ∙ ap (λ ts. e ∷ ts) (elements_types e n args all.1 unread.1 parts.1 settled (omega (arith, long)))

  -- as members
  abbrev Variables : List Member → Type 0
  Variables members = AllByRecursion (λ (m : Member). IsVariableType scene.structs m.ty) members

  members_read : (members : List Member) (args : List Part) → Variables members → AllTaken args → any_unread scene args ≡ false → IsTrue (each_serves members args) → AllRead (as_members members args)
  unfolding any_unread
  members_read [] args types all read serves = tt
  members_read (m ∷ members) [] types all read serves = tt
  members_read (m ∷ members) (arg ∷ args) types all read serves =
      let unread = neither (is_unread scene arg) (list_any (is_unread scene) args) read in
      let parts = and_parts (serves_as (type_in arg) m.ty) (each_serves members args) serves in
      let x = operand_of scene m.ty arg all.0 unread.0 parts.0 (plain_settled m.ty types.0.plain) in
      ((x.expr, x.reads), members_read members args types.1 all.1 unread.1 parts.1)

  members_typed : (members : List Member) (args : List Part) → Variables members → AllTaken args → any_unread scene args ≡ false → IsTrue (each_serves members args) → length args ≡ length members
      → types_of (as_members members args) ≡ member_types members
  unfolding any_unread
  members_typed [] [] types all read serves long = refl
  members_typed [] (arg ∷ args) types all read serves long = let no : ⊥ = omega (arith, long) in elim no [ ]
  members_typed (m ∷ members) [] types all read serves long = let no : ⊥ = omega (arith, long) in elim no [ ]
  members_typed (m ∷ members) (arg ∷ args) types all read serves long =
      let unread = neither (is_unread scene arg) (list_any (is_unread scene) args) read in
      let parts = and_parts (serves_as (type_in arg) m.ty) (each_serves members args) serves in
      let x = operand_of scene m.ty arg all.0 unread.0 parts.0 (plain_settled m.ty types.0.plain) in
      ap (λ t. t ∷ types_of (as_members members args)) x.type ∙ ap (λ ts. m.ty ∷ ts) (members_typed members args types.1 all.1 unread.1 parts.1 (omega (arith, long)))

  -- ---- lengths

  mapped : {A B : Type 0} (f : A → B) (xs : List A) → length (map f xs) ≡ length xs
  mapped f [] = refl
  mapped f (x ∷ xs) = ap suc (mapped f xs)

  as_members_few : (members : List Member) (args : List Part) → length (as_members members args) ≤ length args
  as_members_few [] args = omega arith
  as_members_few (m ∷ members) [] = omega arith
  as_members_few (m ∷ members) (arg ∷ args) = omega (arith, as_members_few members args)

  pub converted_few : (layer : Ty-F Ty) (args : List Part) → length (converted_kind scene layer args) ≤ length args
  converted_few Ty-F.Void args = omega (arith, mapped (λ (part : Part). part.expr) args)
  converted_few (Ty-F.One s) args = omega (arith, mapped (λ (part : Part). part.expr) args)
  converted_few (Ty-F.Vector s n) args = omega (arith, mapped (λ (part : Part). part.expr) args)
  converted_few (Ty-F.Array e n) args = omega (arith, mapped (λ (arg : Part). as_type e arg.expr) args)
  converted_few (Ty-F.Runtime e) args = omega (arith, mapped (λ (part : Part). part.expr) args)
  converted_few (Ty-F.Struct n) args = as_members_few (members_of scene n) args

  -- ---- what a constructor asks for, by the kind of its type

  pub record IsMade (layer : Ty-F Ty) (t : Ty) (args : List Part) : Type 0 where
    pub kind : IsBuildKind here layer (converted_kind scene layer args)
    pub read : AllRead (converted_kind scene layer args)
    pub sound : IsSound count t

  one_is : (o : Option (List Shape)) → IsTrue (is_one o) → (shape : Shape) × (o ≡ Some (shape ∷ []))
  one_is None is = no_more is
  one_is (Some []) is = no_more is
  one_is (Some (shape ∷ [])) is = (shape, refl)
  one_is (Some (shape ∷ other ∷ shapes)) is = no_more is

  supply_is : (n : ℕ) (o : Option (List Shape)) → IsTrue (supply n o) → (shapes : List Shape) × (o ≡ Some shapes) × IsTrue (is_one_scalar shapes || supplies n shapes)
  supply_is n None is = no_more is
  supply_is n (Some shapes) is = (shapes, refl, is)

  made_is : (layer : Ty-F Ty) (t : Ty) (args : List Part) → roll-Ty layer ≡ t → PartsSound count layer t → AllTaken args → any_unread scene args ≡ false → IsTrue (is_plain t)
      → length args ≤ most_parts → IsTrue (serve_kind scene layer args) → IsTrue (count_kind scene layer args) → IsMade layer t args
  made_is Ty-F.Void t args at known all read flat few serves counts = no_more (sym (fold-roll-Ty Bool is_plain_kind Ty-F.Void) ∙ ap is_plain at ∙ flat)
  made_is (Ty-F.Runtime e) t args at known all read flat few serves counts = no_more (sym (fold-roll-Ty Bool is_plain_kind (Ty-F.Runtime e)) ∙ ap is_plain at ∙ flat)
  made_is (Ty-F.One s) t args at known all read flat few serves counts =
      let is = one_is (shapes_of (exprs_in args)) counts in
      record { kind = is; read = as_they_are args all read (shapes_settled (exprs_in args) (is.0 ∷ []) is.1); sound = known }
  made_is (Ty-F.Vector s n) t args at known all read flat few serves counts =
      let is = supply_is n (shapes_of (exprs_in args)) counts in
      record { kind = is; read = as_they_are args all read (shapes_settled (exprs_in args) is.0 is.1); sound = known }
  made_is (Ty-F.Array e n) t args at known all read flat few serves counts =
      let parts = and_parts (nat_eq (length args) n) (not (nat_eq n 0)) counts in
      let settled = plain_settled e (sym (fold-roll-Ty Bool is_plain_kind (Ty-F.Array e n)) ∙ ap is_plain at ∙ flat) in
      let many = eqb-true (length args) n parts.0 in
      let some : IsTrue (nat_le 1 n && nat_lt n (2 ^ 32)) = and_from (nat_le 1 n) (nat_lt n (2 ^ 32)) (positive n parts.1) (lt-ltb n (2 ^ 32) (omega (arith, many, few))) in
      record {
        kind = elements_types e n args all read serves settled many;
        read = elements_read e args all read serves settled;
        sound = ap (sound count) (sym at) ∙ fold-roll-Ty Bool (sound_kind count) (Ty-F.Array e n) ∙ and_from (nat_le 1 n && nat_lt n (2 ^ 32)) (sound count e) some known;
      }
    where
      positive : (m : ℕ) → IsTrue (not (nat_eq m 0)) → nat_le 1 m ≡ true
      positive zero is = no_more is
      positive (suc m) is = le-leb 1 (suc m) (omega arith)
  made_is (Ty-F.Struct n) t args at known all read flat few serves counts =
      let within = ltb-true n count (sym (fold-roll-Ty Bool (sound_kind count) (Ty-F.Struct n)) ∙ ap (sound count) at ∙ known) in
      let s = below scene.structs n within in
      let members : members_of scene n ≡ s.0.members = ap members_in s.1 in
      let types = at_place (HasVariables scene.structs) scene.structs n s.0 fine.structs s.1 in
      let parts = and_parts (nat_eq (length args) (length (members_of scene n))) (not (nat_eq (length args) 0)) counts in
      record {
        kind = (
          s.0,
          s.1,
          ap (λ ms. types_of (as_members ms args)) members
              ∙ members_typed s.0.members args types all read (subst (λ ms. IsTrue (each_serves ms args)) members serves) (eqb-true _ _ parts.0 ∙ ap (λ (ms : List Member). length ms) members),
        );
        read = subst (λ ms. AllRead (as_members ms args)) (sym members) (members_read s.0.members args types all read (subst (λ ms. IsTrue (each_serves ms args)) members serves));
        sound = known;
      }

  -- ---- the node

  module _ (place : Place) (t : Ty) (args : List Part) where
    abbrev pub Buildable : Unit {0} → Type 0
    Buildable _ = IsMade (out-Ty t) t args × (length args ≤ most_parts) × (height_of scene.structs t ≤ most_high) × IsTrue (is_plain t)

    buildable_is : HasSoundParts count t → AllTaken args → Holds Buildable (buildable scene place t args)
    unfolding buildable serve counted plain is_too_large
    buildable_is known all =
        row Buildable place E0504 (not (serve scene t args)) ((E0505, not (counted scene t args)) ∷ (E0507, any_unread scene args) ∷ (E0510, not (plain t)) ∷ (E0908, is_too_large scene t args) ∷ []) (Ok tt)
        (λ serves. row Buildable place E0505 (not (counted scene t args)) ((E0507, any_unread scene args) ∷ (E0510, not (plain t)) ∷ (E0908, is_too_large scene t args) ∷ []) (Ok tt)
        (λ counts. row Buildable place E0507 (any_unread scene args) ((E0510, not (plain t)) ∷ (E0908, is_too_large scene t args) ∷ []) (Ok tt)
        (λ read. row Buildable place E0510 (not (plain t)) ((E0908, is_too_large scene t args) ∷ []) (Ok tt)
        (λ flat. row Buildable place E0908 (is_too_large scene t args) [] (Ok tt)
        (λ low.
        let parts = neither _ _ low in
        let few = leb-true _ _ (not_false _ parts.1) in
        (made_is (out-Ty t) t args (roll-out-Ty t) known all read (not_false _ flat) few (not_false _ serves) (not_false _ counts), few, leb-true _ _ (not_false _ parts.0), not_false _ flat))))))

    pub build_typed : HasSoundParts count t → AllTaken args → Holds (IsPart scene) (build scene place t args)
    unfolding build converted
    build_typed known all =
        holds_after Buildable (IsPart scene) (buildable scene place t args) (λ _. Ok (made place t (kind.Build (converted scene t args)))) (buildable_is known all)
        (λ _ is. record {
          expr = expr_at here place t (kind.Build (converted scene t args)) (ExprKind-F.Build (converted scene t args)) (outs-Build (converted scene t args))
              (is.0.kind, le_trans (converted_few (out-Ty t) args) is.1, is.0.sound, is.2, is.3) (reads_of (converted scene t args) is.0.read) tt (exprs_of (converted scene t args) is.0.read);
          sound = is.0.sound;
        })

    -- what a constructor gives, with what is known of it
    pub build_is : HasSoundParts count t → AllTaken args → Holds (λ x. Buildable tt × (made place t (kind.Build (converted scene t args)) ≡ x)) (build scene place t args)
    unfolding build
    build_is known all =
        holds_after Buildable (λ x. Buildable tt × (made place t (kind.Build (converted scene t args)) ≡ x)) (buildable scene place t args) (λ _. Ok (made place t (kind.Build (converted scene t args)))) (buildable_is known all)
        (λ _ is. (is, refl))
