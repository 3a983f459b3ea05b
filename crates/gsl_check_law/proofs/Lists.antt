-- What initialisers give is well typed.
use Rattle.std.proofs.Common.{le_trans, ◌≡◌, refl, sym, ap, ◌∙◌, subst, ℕ, zero, suc, ◌+◌, ◌-◌, ◌≤◌, List, [], ◌∷◌, map, length, replicate, slice_get, Option, Some, None, Bool, false, not, ◌&&◌, ◌||◌, IsTrue, nat_lt, Ok, arith}
use Rattle.std.specs.List.{AllByRecursion}
use Rattle.std.proofs.lemmas.Bool.{and_parts, and_from, or_right, lt-ltb}
use Rattle.gsl_base.specs.Checked.{Checked, ◌>>=◌}
use Rattle.gsl_base.specs.declared.fault.Place.{Place}
use Rattle.gsl_syntax.specs.declared.declaration.Init.{Init, roll-Init}
use Rattle.gsl_syntax.specs.declared.declaration.Init.TheOpen.{Init-F}
use Rattle.gsl_syntax.specs.declared.declaration.Init.TheFolds.{fold-roll-Init, ind-Init, map-Init}
use Rattle.gsl_types.specs.Known.{IsSound, is_plain, is_plain_kind}
use Rattle.gsl_types.specs.Structs.{numbered}
use Rattle.gsl_types.proofs.Layers.{over_vector}
use Rattle.gsl_types.specs.declared.ty.Member.{Member}
use Rattle.gsl_types.specs.declared.ty.StructType.{StructType}
use Rattle.gsl_types.specs.declared.ty.Scalar.{Scalar}
use Rattle.gsl_types.specs.declared.ty.Ty.{Ty}
use Rattle.gsl_types.specs.declared.ty.Ty.TheFolds.{fold-roll-Ty}
use Rattle.gsl_types.specs.declared.ty.Ty.TheOpen.{Ty-F}
use Rattle.gsl_types.specs.declared.ty.Ty.TheViews.{out-Ty, roll-Ty, roll-out-Ty}
use Rattle.gsl_types.specs.declared.ty.Ty.TheVariants as ty
use Rattle.gsl_types.specs.declared.ty.Ty.TheVariants.{rolls-Vector, outs-Array}
use Rattle.gsl_tree.specs.declared.expr.Expr.{Expr}
use Rattle.gsl_tree.specs.declared.expr.ExprKind.TheVariants as kind
use Rattle.gsl_tree.specs.declared.expr.ExprKind.TheVariants.{outs-Build}
use Rattle.gsl_tree.specs.declared.expr.ExprKind.TheOpen.{ExprKind-F}
use Rattle.gsl_tree.specs.Around.{Around}
use Rattle.gsl_tree.specs.Paths.{in_block, in_block_by, kind_in, is_aggregate, is_small}
use Rattle.gsl_tree.specs.Shapes.{shape_of}
use Rattle.gsl_tree.specs.Trees.{typed, type_of}
use Rattle.gsl_tree.specs.Weights.{height_of, height_meaning, most_high}
use Rattle.gsl_tree.specs.Expressions.{IsBuildKind, shapes_of, shapes_with, types_of, supplies, is_one_scalar, most_parts}
use Rattle.gsl_tree.specs.WellTyped.{IsVariableType}
use Rattle.gsl_tree.proofs.Nodes.{expr_at}
use Rattle.gsl_tree.proofs.Folds as at
use Rattle.gsl_typing.specs.declared.scene.Scene.{Scene}
use Rattle.gsl_typing.specs.declared.scene.Part.{Part}
use Rattle.gsl_typing.specs.Scene.{around, made}
use Rattle.gsl_makers.specs.Members.{members_in}
use Rattle.gsl_makers.specs.Constructors.{converted, build}
use Rattle.gsl_check_expr.specs.declared.env.Env.{Env}
use Rattle.gsl_check_expr.specs.declared.writing.Written.{Written}
use Rattle.gsl_check_expr.specs.declared.writing.Written.TheVariants.{Whole, Open}
use Rattle.gsl_check_expr.specs.Initialisers.{type_in_struct, part_by, part_type, as_of, listed_by, listed, parts_from, by_items, value_as, count_in, needed, initial}
use Rattle.gsl_check_decl.proofs.Gathering.{Holds, holds_after}
use Rattle.gsl_formed.specs.Formed.{all_formed, init_formed_by, init_formed, IsFormedInit}
use Rattle.gsl_check_law.specs.Parts.{IsPart, IsTaken}
use Rattle.gsl_check_law.specs.Scenes.{IsScene, IsEnv}
use Rattle.gsl_check_law.proofs.Rows.{given, holds_of}
use Rattle.gsl_check_law.proofs.Found.{at_place}
use Rattle.gsl_check_law.proofs.Types.{sound_shape, shape_back}
use Rattle.gsl_check_law.proofs.Parts.{test_node}
use Rattle.gsl_check_law.proofs.Building.{PartsSound, HasSoundParts, AllTaken, reads_of, exprs_of, build_is, build_typed, converted_few, Buildable}
use Rattle.gsl_check_law.proofs.Sizing.{void_sound, array_parts}
use Rattle.gsl_check_law.proofs.Building.{sound_parts}
use Rattle.gsl_check_law.proofs.Phrases.{taken_is}
use Rattle.gsl_check_law.specs.Small.{IsCounted}

-- ---- a vector as a list of its components

scalars_are : (s : Scalar) (n : ℕ) (es : List Expr) → types_of es ≡ replicate n (ty.One s) → shapes_of es ≡ Some (replicate n (s, 1))
scalars_are s zero [] is = refl
scalars_are s zero (e ∷ es) is = let no : ⊥ = cc in elim no [ ]
scalars_are s (suc n) [] is = let no : ⊥ = cc in elim no [ ]
scalars_are s (suc n) (e ∷ es) is =
    let first : type_of e ≡ ty.One s = ap (head_or (ty.One s)) is in
    ap (λ t. shapes_with (shape_of t) (shapes_of es)) first ∙ ap (λ o. shapes_with o (shapes_of es)) (shape_back (s, 1)) ∙ ap (λ o. shapes_with (Some (s, 1)) o) (scalars_are s n es (ap tail_of is))
  where
    head_or : Ty → List Ty → Ty
    head_or d [] = d
    head_or d (t ∷ ts) = t

    tail_of : List Ty → List Ty
    tail_of [] = []
    tail_of (t ∷ ts) = ts

supplied : (s : Scalar) (n : ℕ) → IsTrue (supplies n (replicate n (s, 1)))
supplied s zero = refl
supplied s (suc n) = and_from (nat_lt 0 (suc n)) (supplies (suc n - 1) (replicate n (s, 1))) (lt-ltb 0 (suc n) (omega arith)) (subst (λ k. IsTrue (supplies k (replicate n (s, 1)))) (let e : n ≡ suc n - 1 = omega arith in e) (supplied s n))

vector_low : (structs : List StructType) (s : Scalar) (n : ℕ) → height_of structs (ty.Vector s n) ≤ most_high
vector_low structs s n = omega (arith, over_vector height_meaning (numbered height_meaning structs) s n)

module _ (scene : Scene) (fine : IsScene scene) where
  abbrev count : ℕ
  count = length scene.structs

  abbrev here : Around
  here = around scene

  -- a constructor is no part of a block
  built_taken : (p : Place) (t : Ty) (es : List Expr) → IsPart scene (made p t (kind.Build es)) → IsTaken scene (made p t (kind.Build es))
  built_taken p t es is =
      let inside : in_block (typed p t (kind.Build es)) ≡ false = test_node in_block_by p t (kind.Build es) ∙ at.at-Build Bool Bool in_block_by kind_in es in
      record { part = is; small = ap (λ b. not (b && is_aggregate t) || is_small here t) inside }

  -- ---- which types the parts are needed as

  struct_part : (members : List Member) (k : ℕ) (o : Option Member) → slice_get members k ≡ o → AllByRecursion (λ (m : Member). IsVariableType scene.structs m.ty) members → IsSound count (type_in_struct o)
  struct_part members k None is all = void_sound count
  struct_part members k (Some m) is all = (at_place (λ (m : Member). IsVariableType scene.structs m.ty) members k m all is).known

  of_struct : (n k : ℕ) (o : Option StructType) → slice_get scene.structs n ≡ o → IsSound count (type_in_struct (slice_get (members_in o) k))
  of_struct n k None is = void_sound count
  of_struct n k (Some s) is =
      struct_part s.members k (slice_get s.members k) refl (at_place (λ (s : StructType). AllByRecursion (λ (m : Member). IsVariableType scene.structs m.ty) s.members) scene.structs n s fine.structs is)

  part_sound_by : (layer : Ty-F Ty) (t : Ty) (k : ℕ) → PartsSound count layer t → IsSound count (part_by scene layer k)
  part_sound_by Ty-F.Void t k is = void_sound count
  part_sound_by (Ty-F.One s) t k is = void_sound count
  part_sound_by (Ty-F.Vector s n) t k is = sound_shape count (s, 1) (record { least = omega arith; most = omega arith })
  part_sound_by (Ty-F.Array e n) t k is = is
  part_sound_by (Ty-F.Runtime e) t k is = void_sound count
  part_sound_by (Ty-F.Struct n) t k is = of_struct n k (slice_get scene.structs n) refl

  part_sound : (t : Ty) (k : ℕ) → HasSoundParts count t → IsSound count (part_type scene t k)
  unfolding part_type
  part_sound t k is = part_sound_by (out-Ty t) t k is

  -- ---- a list over its parts

  module _ (place : Place) (parts : List Part) (taken : AllTaken scene fine parts) where
    built_list : (t : Ty) → HasSoundParts count t → Holds (IsTaken scene) (build scene place t parts)
    built_list t known =
        holds_of (IsTaken scene) (build scene place t parts)
        (λ x eq.
        let part = given (IsPart scene) (build scene place t parts) x (build_typed scene fine place t parts known taken) eq in
        let info = given (λ x. Buildable scene fine place t parts tt × (made place t (kind.Build (converted scene t parts)) ≡ x)) (build scene place t parts) x (build_is scene fine place t parts known taken) eq in
        subst (IsTaken scene) info.1 (built_taken place t (converted scene t parts) (subst (IsPart scene) (sym info.1) part)))

    vector_made : (s : Scalar) (n : ℕ) (t : Ty) → out-Ty t ≡ Ty-F.Vector s n → IsSound count t → Buildable scene fine place (ty.Array (ty.One s) n) parts tt
        → IsTaken scene (made place t (kind.Build (converted scene (ty.Array (ty.One s) n) parts)))
    unfolding converted
    vector_made s n t at known is =
        let es = converted scene (ty.Array (ty.One s) n) parts in
        let types : types_of es ≡ replicate n (ty.One s) = subst (λ layer. IsBuildKind here layer es) (outs-Array (ty.One s) n) is.0.kind in
        let shapes = scalars_are s n es types in
        let few : length es ≤ most_parts = le_trans (converted_few scene fine (out-Ty (ty.Array (ty.One s) n)) parts) is.1 in
        let whole : t ≡ ty.Vector s n = sym (roll-out-Ty t) ∙ ap roll-Ty at ∙ rolls-Vector s n in
        let low : height_of scene.structs t ≤ most_high = subst (λ (u : Ty). height_of scene.structs u ≤ most_high) (sym whole) (vector_low scene.structs s n) in
        built_taken place t es (record {
          expr = expr_at here place t (kind.Build es) (ExprKind-F.Build es) (outs-Build es)
              (subst (λ layer. IsBuildKind here layer es) (sym at) (replicate n (s, 1), shapes, or_right (is_one_scalar (replicate n (s, 1))) (supplies n (replicate n (s, 1))) (supplied s n)), few, known, low, ap is_plain whole ∙ ap is_plain (sym (rolls-Vector s n)) ∙ fold-roll-Ty Bool is_plain_kind (Ty-F.Vector s n))
              (reads_of scene fine es is.0.read) tt (exprs_of scene fine es is.0.read);
          sound = known;
        })

    vector_list : (s : Scalar) (n : ℕ) (t : Ty) → out-Ty t ≡ Ty-F.Vector s n → IsSound count t → Holds (IsTaken scene) (build scene place (ty.Array (ty.One s) n) parts >>= (λ x. Ok (as_of place t x)))
    vector_list s n t at known =
        let a = ty.Array (ty.One s) n in
        holds_after (λ x. Buildable scene fine place a parts tt × (made place a (kind.Build (converted scene a parts)) ≡ x)) (IsTaken scene) (build scene place a parts) (λ x. Ok (as_of place t x))
        (build_is scene fine place a parts (array_parts count (ty.One s) n (sound_shape count (s, 1) (record { least = omega arith; most = omega arith }))) taken)
        (λ x is. subst (λ y. IsTaken scene (as_of place t y)) is.1 (vector_made s n t at known is.0))

    list_layer : (layer : Ty-F Ty) (t : Ty) → out-Ty t ≡ layer → PartsSound count layer t → Holds (IsTaken scene) (listed_by scene place t layer parts)
    list_layer Ty-F.Void t at known = tt
    list_layer (Ty-F.One s) t at known = tt
    list_layer (Ty-F.Vector s n) t at known = vector_list s n t at known
    list_layer (Ty-F.Array e n) t at known = built_list t (subst (λ layer. PartsSound count layer t) (sym at) known)
    list_layer (Ty-F.Runtime e) t at known = tt
    list_layer (Ty-F.Struct n) t at known = built_list t (subst (λ layer. PartsSound count layer t) (sym at) known)

    pub listed_typed : (t : Ty) → HasSoundParts count t → Holds (IsTaken scene) (listed scene place t parts)
    unfolding listed
    listed_typed t known = list_layer (out-Ty t) t refl known

-- a type as it is written, over so many structs
abbrev pub GoodAt : ℕ → Written → Type 0
GoodAt count (Whole t) = IsSound count t × IsCounted t
GoodAt count (Open place e) = IsSound count e × IsCounted e

-- ---- initialisers, by the fold of the syntax tree

module _ (env : Env) (fine : IsEnv env) where
  abbrev scene : Scene
  scene = env.scene

  abbrev Gives : (Ty → Checked Part) → Type 0
  Gives f = (t : Ty) → HasSoundParts (length scene.structs) t → Holds (IsTaken scene) (f t)

  abbrev Fine : Init → Type 0
  Fine init = IsFormedInit init → Gives (value_as env init)

  abbrev Child : Type 0
  Child = (init : Init) × Fine init

  items_typed : (t : Ty) (k : ℕ) (items : List (Ty → Checked Part)) → HasSoundParts (length scene.structs) t → AllByRecursion Gives items → Holds (AllTaken scene fine.scene) (parts_from scene t k items)
  items_typed t k [] known all = tt
  items_typed t k (item ∷ items) known all =
      holds_after (IsTaken scene) (AllTaken scene fine.scene) (item (part_type scene t k)) (λ first. parts_from scene t (k + 1) items >>= (λ rest. Ok (first ∷ rest)))
      (all.0 (part_type scene t k) (sound_parts (length scene.structs) (part_type scene t k) (part_sound scene fine.scene t k known)))
      (λ first is. holds_after (AllTaken scene fine.scene) (AllTaken scene fine.scene) (parts_from scene t (k + 1) items) (λ rest. Ok (first ∷ rest)) (items_typed t (k + 1) items known all.1) (λ rest are. (is, are)))

  opens : (layer : Init-F Init) → Gives (by_items env (map-Init _ _ (value_as env) layer)) → Gives (value_as env (roll-Init layer))
  unfolding value_as
  opens layer is = subst Gives (sym (fold-roll-Init (Ty → Checked Part) (by_items env) layer)) is

  formed : (layer : Init-F Init) → IsFormedInit (roll-Init layer) → IsTrue (init_formed_by (map-Init _ _ init_formed layer))
  unfolding init_formed
  formed layer is = sym (fold-roll-Init Bool init_formed_by layer) ∙ is

  all_items : (items : List Child) → IsTrue (all_formed (map init_formed (map (λ (i : Child). i.0) items))) → AllByRecursion Gives (map (value_as env) (map (λ (i : Child). i.0) items))
  all_items [] is = tt
  all_items (i ∷ items) is = let parts = and_parts (init_formed i.0) (all_formed (map init_formed (map (λ (i : Child). i.0) items))) is in (i.1 parts.0, all_items items parts.1)

  layer : (y : Init-F Child) → Fine (roll-Init (map-Init _ _ (λ i. i.0) y))
  layer (Init-F.Expr e) is = opens (Init-F.Expr e) (λ t known. taken_is env fine e (formed (Init-F.Expr e) is))
  layer (Init-F.Braces place items) is =
      opens (Init-F.Braces place (map (λ (i : Child). i.0) items))
      (λ t known. holds_after (AllTaken scene fine.scene) (IsTaken scene) (parts_from scene t 0 (map (value_as env) (map (λ (i : Child). i.0) items))) (λ parts. listed scene place t parts)
      (items_typed t 0 (map (value_as env) (map (λ (i : Child). i.0) items)) known (all_items items (formed (Init-F.Braces place (map (λ (i : Child). i.0) items)) is)))
      (λ parts are. listed_typed scene fine.scene place parts are t known))

  pub value_typed : (init : Init) → IsFormedInit init → (t : Ty) → HasSoundParts (length scene.structs) t → Holds (IsTaken scene) (value_as env init t)
  value_typed = ind-Init Fine (λ x y is. subst (λ z. Fine (roll-Init z)) is (layer y))

  abbrev GoodWritten : Written → Type 0
  GoodWritten w = GoodAt (length scene.structs) w

  needed_sound : (w : Written) (n : ℕ) → GoodWritten w → HasSoundParts (length scene.structs) (needed w n)
  needed_sound (Whole t) n is = sound_parts (length scene.structs) t is.0
  needed_sound (Open place e) n is = array_parts (length scene.structs) e n is.0

  -- what a variable begins as is well typed
  pub initial_typed : (w : Written) (init : Init) → GoodWritten w → IsFormedInit init → Holds (IsTaken scene) (initial env w init)
  unfolding initial
  initial_typed w init known is = value_typed init is (needed w (count_in init)) (needed_sound w (count_in init) known)
