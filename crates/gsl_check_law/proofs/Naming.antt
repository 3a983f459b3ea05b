-- What names, literals and callees stand for is well typed.
use Rattle.std.proofs.Common.{if◌then◌else◌, ◌≡◌, refl, sym, ap, ◌∙◌, ℕ, zero, suc, ◌<◌, ◌^◌, List, [], ◌∷◌, map, length, replicate, slice_get, Option, Some, None, Bool, true, false, ◌&&◌, IsTrue, nat_le, inl, inr, arith}
use Rattle.std.specs.List.{AllByRecursion}
use Rattle.std.specs.Str.{bytes_eq}
use Rattle.std.proofs.lemmas.Bool.{and_parts, and_from, leb-true, lt-ltb}
use Rattle.gsl_base.specs.Checked.{Checked}
use Rattle.gsl_base.specs.declared.fault.Place.{Place}
use Rattle.gsl_base.specs.declared.stage.Stage.TheVariants.{Compute}
use Rattle.gsl_types.specs.Known.{IsSound}
use Rattle.gsl_types.proofs.Layers.{sound_struct}
use Rattle.gsl_types.specs.declared.ty.Direction.{Direction}
use Rattle.gsl_types.specs.declared.ty.Scalar.{Scalar}
use Rattle.gsl_types.specs.declared.ty.Scalar.TheVariants.{Int, Uint}
use Rattle.gsl_types.specs.declared.ty.Ty.{Ty}
use Rattle.gsl_types.specs.declared.ty.Ty.TheVariants as ty
use Rattle.gsl_values.specs.declared.value.Value.TheVariants.{Word, Many, outs-Word, outs-Many}
use Rattle.gsl_names.specs.declared.entry.Entry.{Entry}
use Rattle.gsl_names.specs.declared.entry.Entry.TheVariants as entry
use Rattle.gsl_names.specs.Scopes.{Scope, Scopes, all_in, all_of, first_of, find}
use Rattle.gsl_tree.specs.declared.expr.ExprKind.TheVariants as kind
use Rattle.gsl_tree.specs.declared.expr.ExprKind.TheVariants.{outs-Const, outs-Local, outs-Global, outs-Param, outs-BlockMember, outs-Stage, outs-Interface}
use Rattle.gsl_tree.specs.declared.expr.ExprKind.TheOpen.{ExprKind-F}
use Rattle.gsl_tree.specs.declared.expr.StageVar.{StageVar}
use Rattle.gsl_tree.specs.declared.expr.StageVar.TheVariants.{NumWorkGroups, WorkGroupId, LocalInvocationId, GlobalInvocationId, LocalInvocationIndex, VertexIndex, InstanceIndex}
use Rattle.gsl_tree.specs.declared.unit.Block.{Block}
use Rattle.gsl_tree.specs.declared.unit.BlockMember.{BlockMember}
use Rattle.gsl_tree.specs.declared.unit.GlobalVar.{GlobalVar}
use Rattle.gsl_tree.specs.declared.unit.Interface.{Interface}
use Rattle.gsl_tree.specs.declared.unit.LocalSize.{LocalSize}
use Rattle.gsl_tree.specs.Around.{Around, uvec3, stage_var_type, block_member, member_in}
use Rattle.gsl_tree.specs.Values.{word_in, parts_in, parts_layer, word_layer, is_word_of, is_scalar, is_scalar_layer, has_parts_layer, all_pass, is_value_of}
use Rattle.gsl_tree.specs.Trees.{ThroughoutAll}
use Rattle.gsl_tree.specs.Expressions.{is_size}
use Rattle.gsl_tree.specs.WellTyped.{IsVariableType}
use Rattle.gsl_tree.proofs.Nodes.{expr_at, value_of_one, value_of_vector}
use Rattle.gsl_typing.specs.declared.scene.Scene.{Scene}
use Rattle.gsl_typing.specs.declared.scene.Part.{Part}
use Rattle.gsl_typing.specs.Scene.{around}
use Rattle.gsl_check_expr.specs.declared.env.Env.{Env}
use Rattle.gsl_check_expr.specs.declared.brackets.Dimensions.{Dimensions}
use Rattle.gsl_check_expr.specs.Named.{literal, global_type, param_type, member_type, interface_type, variable, size_value, named_by, named}
use Rattle.gsl_check_expr.specs.Sizes.{is_plain_name, with_dimensions}
use Rattle.gsl_check_expr.specs.Callees.{basic_type, Base, Keyword, Name, functions_in, count_of, constructor, functions, bare, called_entry, called_base, called}
use Rattle.gsl_check_decl.proofs.Gathering.{Holds}
use Rattle.gsl_typing.specs.Rows.{fault}
use Rattle.gsl_base.specs.declared.fault.Code.TheVariants.{E0402}
use Rattle.gsl_calls.specs.Calls.{built}
use Rattle.gsl_check_law.specs.Parts.{IsPart, IsTaken}
use Rattle.gsl_check_law.specs.Scenes.{IsScene, IsThere, AreThere, IsEnv}
use Rattle.gsl_check_law.proofs.Found.{at_place, all_append}
use Rattle.gsl_check_law.proofs.Types.{IsCount, sound_shape}
use Rattle.gsl_check_law.proofs.Building.{build_typed}
use Rattle.gsl_check_law.proofs.Calling.{call_typed, built_typed}
use Rattle.gsl_check_law.proofs.Sizing.{GoodDimensions, with_sound, basic_sound}

-- ---- names

in_scope : (scene : Scene) (scope : Scope) (name : List ℕ) → AreThere scene scope → AllByRecursion (IsThere scene) (all_in scope name)
in_scope scene [] name all = tt
in_scope scene (d ∷ scope) name all = by_name (bytes_eq d.0 name) (in_scope scene scope name all.1)
  where
    by_name : (b : Bool) → AllByRecursion (IsThere scene) (all_in scope name) → AllByRecursion (IsThere scene) (if b then d.1 ∷ all_in scope name else all_in scope name)
    by_name true rest = (all.0, rest)
    by_name false rest = rest

-- what a name stands for is there
pub all_there : (scene : Scene) (names : Scopes) (name : List ℕ) → AllByRecursion (AreThere scene) names → AllByRecursion (IsThere scene) (all_of names name)
all_there scene [] name all = tt
all_there scene (scope ∷ names) name all = all_append (IsThere scene) (all_in scope name) (all_of names name) (in_scope scene scope name all.0) (all_there scene names name all.1)

abbrev pub IsThereOr : Scene → Option Entry → Type 0
IsThereOr scene None = Unit {0}
IsThereOr scene (Some e) = IsThere scene e

first_there : (scene : Scene) (entries : List Entry) → AllByRecursion (IsThere scene) entries → IsThereOr scene (first_of entries)
first_there scene [] all = tt
first_there scene (e ∷ entries) all = all.0

pub find_there : (scene : Scene) (names : Scopes) (name : List ℕ) → AllByRecursion (AreThere scene) names → IsThereOr scene (find names name)
find_there scene names name all = first_there scene (all_of names name) (all_there scene names name all)

functions_there : (scene : Scene) (entries : List Entry) → AllByRecursion (IsThere scene) entries → AllByRecursion (λ n. n < length scene.prototypes) (functions_in entries)
functions_there scene [] all = tt
functions_there scene (entry.Function n ∷ entries) all = (all.0, functions_there scene entries all.1)
functions_there scene (entry.Local n fixed ∷ entries) all = functions_there scene entries all.1
functions_there scene (entry.Param n fixed ∷ entries) all = functions_there scene entries all.1
functions_there scene (entry.Global n ∷ entries) all = functions_there scene entries all.1
functions_there scene (entry.Member b n ∷ entries) all = functions_there scene entries all.1
functions_there scene (entry.Instance n ∷ entries) all = functions_there scene entries all.1
functions_there scene (entry.Block n ∷ entries) all = functions_there scene entries all.1
functions_there scene (entry.Interface n ∷ entries) all = functions_there scene entries all.1
functions_there scene (entry.Struct n ∷ entries) all = functions_there scene entries all.1
functions_there scene (entry.Builtin which ∷ entries) all = functions_there scene entries all.1
functions_there scene (entry.Stage var ∷ entries) all = functions_there scene entries all.1
functions_there scene (entry.Size ∷ entries) all = functions_there scene entries all.1

-- ---- words and sizes

scalar_word : (s : Scalar) (w : ℕ) → is_scalar s (Word w) ≡ is_word_of s w
scalar_word s w = ap (is_scalar_layer s) (outs-Word w)

words_back : (ws : List ℕ) → map word_in (map Word ws) ≡ ws
words_back [] = refl
words_back (w ∷ ws) = ap (λ x. x ∷ map word_in (map Word ws)) (ap word_layer (outs-Word w)) ∙ ap (λ l. w ∷ l) (words_back ws)

part_word : (w : ℕ) (ws : List ℕ) → IsTrue (is_size (w ∷ ws)) → IsTrue (is_scalar Uint (Word w)) × IsTrue (is_size ws)
part_word w ws is =
    let parts = and_parts (nat_le 1 w && nat_le w 1024) (is_size ws) is in
    let most = leb-true w 1024 (and_parts (nat_le 1 w) (nat_le w 1024) parts.0).1 in
    (scalar_word Uint w ∙ lt-ltb w (2 ^ 32) (omega (arith, most)), parts.1)

sizes_pass : (n : ℕ) (ws : List ℕ) → length ws ≡ n → IsTrue (is_size ws) → IsTrue (all_pass (replicate n (is_scalar Uint)) (map Word ws))
sizes_pass zero [] long is = refl
sizes_pass zero (w ∷ ws) long is = let no : ⊥ = omega (arith, long) in elim no [ ]
sizes_pass (suc n) [] long is = let no : ⊥ = omega (arith, long) in elim no [ ]
sizes_pass (suc n) (w ∷ ws) long is =
    let parts = part_word w ws is in
    and_from _ _ parts.0 (sizes_pass n ws (omega (arith, long)) parts.1)

three_is : IsCount 3
three_is = record { least = omega arith; most = omega arith }

one_is : IsCount 1
one_is = record { least = omega arith; most = omega arith }

pub stage_sound : (count : ℕ) (var : StageVar) → IsSound count (stage_var_type var)
stage_sound count NumWorkGroups = sound_shape count (Uint, 3) three_is
stage_sound count WorkGroupId = sound_shape count (Uint, 3) three_is
stage_sound count LocalInvocationId = sound_shape count (Uint, 3) three_is
stage_sound count GlobalInvocationId = sound_shape count (Uint, 3) three_is
stage_sound count LocalInvocationIndex = sound_shape count (Uint, 1) one_is
stage_sound count VertexIndex = sound_shape count (Int, 1) one_is
stage_sound count InstanceIndex = sound_shape count (Int, 1) one_is

-- ---- literals and variables

module _ (scene : Scene) (place : Place) where
  abbrev count : ℕ
  count = length scene.structs

  abbrev here : Around
  here = around scene

  pub literal_typed : (s : Scalar) (w : ℕ) → IsTrue (is_word_of s w) → Holds (IsPart scene) (literal place (ty.One s) w)
  unfolding literal
  literal_typed s w is = record {
    expr = expr_at here place (ty.One s) (kind.Const (Word w)) (ExprKind-F.Const (Word w)) (outs-Const (Word w)) (value_of_one scene.structs s (Word w) ∙ scalar_word s w ∙ is, inl (s, refl)) tt tt ThroughoutAll.none;
    sound = sound_shape count (s, 1) one_is;
  }

  module _ (fine : IsScene scene) where
    local_typed : (n : ℕ) (fixed : Bool) (o : Option Ty) → slice_get scene.locals n ≡ o → Holds (IsPart scene) (variable place (kind.Local n) fixed o)
    local_typed n fixed None is = tt
    local_typed n fixed (Some t) is = record {
      expr = expr_at here place t (kind.Local n) (ExprKind-F.Local n) (outs-Local n) is tt tt ThroughoutAll.none;
      sound = (at_place (IsVariableType scene.structs) scene.locals n t fine.locals is).known;
    }

    param_typed : (n : ℕ) (fixed : Bool) (o : Option (Direction × Ty)) → slice_get scene.params n ≡ o → Holds (IsPart scene) (variable place (kind.Param n) fixed (param_type o))
    param_typed n fixed None is = tt
    param_typed n fixed (Some p) is = record {
      expr = expr_at here place p.1 (kind.Param n) (ExprKind-F.Param n) (outs-Param n) (p.0, is) tt tt ThroughoutAll.none;
      sound = (at_place (λ (param : Direction × Ty). IsVariableType scene.structs param.1) scene.params n p fine.params is).known;
    }

    global_typed : (n : ℕ) (fixed : Bool) (o : Option GlobalVar) → slice_get scene.globals n ≡ o → Holds (IsPart scene) (variable place (kind.Global n) fixed (global_type o))
    global_typed n fixed None is = tt
    global_typed n fixed (Some g) is = record {
      expr = expr_at here place g.ty (kind.Global n) (ExprKind-F.Global n) (outs-Global n) (g, is, refl) tt tt ThroughoutAll.none;
      sound = (at_place (λ (g : GlobalVar). IsVariableType scene.structs g.ty) scene.globals n g fine.globals is).known;
    }

    pub member_sound : (n : ℕ) (m : BlockMember) (block : ℕ) (o : Option Block) → slice_get scene.blocks block ≡ o → member_in o n ≡ Some m → IsSound count m.ty
    member_sound n m block None at is = let no : ⊥ = cc in elim no [ ]
    member_sound n m block (Some b) at is =
        at_place (λ (m : BlockMember). IsSound count m.ty) b.members n m (at_place (λ (b : Block). AllByRecursion (λ (m : BlockMember). IsSound count m.ty) b.members) scene.blocks block b fine.blocks at) is

    block_typed : (block n : ℕ) (fixed : Bool) (o : Option BlockMember) → block_member here block n ≡ o → Holds (IsPart scene) (variable place (kind.BlockMember block n) fixed (member_type o))
    block_typed block n fixed None is = tt
    block_typed block n fixed (Some m) is = record {
      expr = expr_at here place m.ty (kind.BlockMember block n) (ExprKind-F.BlockMember block n) (outs-BlockMember block n) (m, is, refl) tt tt ThroughoutAll.none;
      sound = member_sound n m block (slice_get scene.blocks block) refl is;
    }

    interface_typed : (n : ℕ) (fixed : Bool) (o : Option Interface) → slice_get scene.interfaces n ≡ o → Holds (IsPart scene) (variable place (kind.Interface n) fixed (interface_type o))
    interface_typed n fixed None is = tt
    interface_typed n fixed (Some i) is = record {
      expr = expr_at here place i.ty (kind.Interface n) (ExprKind-F.Interface n) (outs-Interface n) (i, is, refl) tt tt ThroughoutAll.none;
      sound = at_place (λ (i : Interface). IsSound count i.ty) scene.interfaces n i fine.interfaces is;
    }

    size_typed : (sizes : List LocalSize) → scene.sizes ≡ sizes → scene.stage ≡ Compute → AllByRecursion (λ (size : LocalSize). (length size.parts ≡ 3) × IsTrue (is_size size.parts)) sizes → Holds (IsPart scene) (size_value place sizes)
    size_typed [] are compute all = tt
    size_typed (size ∷ sizes) are compute all =
        let v = Many (map Word size.parts) in
        let parts : parts_in v ≡ map Word size.parts = ap parts_layer (outs-Many (map Word size.parts)) in
        let fits : IsTrue (is_value_of scene.structs uvec3 v) =
        value_of_vector scene.structs Uint 3 v ∙ ap (has_parts_layer (replicate 3 (is_scalar Uint))) (outs-Many (map Word size.parts)) ∙ sizes_pass 3 size.parts all.0.0 all.0.1 in
        let stated : slice_get (map (λ (s : LocalSize). s.parts) scene.sizes) 0 ≡ Some (map word_in (parts_in v)) =
        ap (λ l. slice_get (map (λ (s : LocalSize). s.parts) l) 0) are ∙ ap Some (sym (ap (λ l. map word_in l) parts ∙ words_back size.parts)) in
        record {
          expr = expr_at here place uvec3 (kind.Const v) (ExprKind-F.Const v) (outs-Const v) (fits, inr (refl, compute, (0, stated))) tt tt ThroughoutAll.none;
          sound = sound_shape count (Uint, 3) three_is;
        }

    entry_typed : (o : Option Entry) → IsThereOr scene o → Holds (IsPart scene) (named_by scene place o)
    entry_typed None there = tt
    entry_typed (Some (entry.Local n fixed)) there = local_typed n fixed (slice_get scene.locals n) refl
    entry_typed (Some (entry.Param n fixed)) there = param_typed n fixed (slice_get scene.params n) refl
    entry_typed (Some (entry.Global n)) there = global_typed n false (slice_get scene.globals n) refl
    entry_typed (Some (entry.Member b n)) there = block_typed b n false (block_member here b n) refl
    entry_typed (Some (entry.Interface n)) there = interface_typed n false (slice_get scene.interfaces n) refl
    entry_typed (Some (entry.Stage var)) there = record {
      expr = expr_at here place (stage_var_type var) (kind.Stage var) (ExprKind-F.Stage var) (outs-Stage var) (there, refl) tt tt ThroughoutAll.none;
      sound = stage_sound count var;
    }
    entry_typed (Some entry.Size) there = size_typed scene.sizes refl there fine.sizes
    entry_typed (Some (entry.Instance n)) there = tt
    entry_typed (Some (entry.Block n)) there = tt
    entry_typed (Some (entry.Struct n)) there = tt
    entry_typed (Some (entry.Function n)) there = tt
    entry_typed (Some (entry.Builtin which)) there = tt

-- ---- names and callees where they stand

module _ (env : Env) (fine : IsEnv env) (place : Place) where
  abbrev scene : Scene
  scene = env.scene

  pub named_typed : (name : List ℕ) → Holds (IsPart scene) (named env place name)
  unfolding named
  named_typed name = entry_typed scene place fine.scene (find env.names name) (find_there scene env.names name fine.names)

  module _ (args : List Part) (taken : AllByRecursion (IsTaken scene) args) (dims : Dimensions) (good : GoodDimensions dims) where
    constructor_typed : (t : Ty) → IsSound (length scene.structs) t → Holds (IsPart scene) (constructor env place dims t args)
    constructor_typed t known =
        build_typed scene fine.scene place (with_dimensions (count_of args) dims t) args (with_sound (length scene.structs) (count_of args) dims t good known) taken

    bare_typed : (node : Checked Part) → Holds (IsPart scene) node → Holds (IsPart scene) (bare place dims node)
    bare_typed node is = by_test (is_plain_name dims)
      where
        by_test : (b : Bool) → Holds (IsPart scene) (if b then node else fault place E0402)
        by_test true = is
        by_test false = tt

    functions_typed : (name : List ℕ) → Holds (IsPart scene) (functions env place name args)
    functions_typed name = call_typed scene fine.scene place args taken (functions_in (all_of env.names name)) (functions_there scene (all_of env.names name) (all_there scene env.names name fine.names))

    entry_called : (name : List ℕ) (o : Option Entry) → IsThereOr scene o → Holds (IsPart scene) (called_entry env place name dims args o)
    entry_called name None there = tt
    entry_called name (Some (entry.Struct n)) there = constructor_typed (ty.Struct n) (sound_struct (length scene.structs) n ∙ lt-ltb n (length scene.structs) there)
    entry_called name (Some (entry.Function n)) there = bare_typed (functions env place name args) (functions_typed name)
    entry_called name (Some (entry.Builtin which)) there = bare_typed (built scene place which args) (built_typed scene place args taken which)
    entry_called name (Some (entry.Local n fixed)) there = tt
    entry_called name (Some (entry.Param n fixed)) there = tt
    entry_called name (Some (entry.Global n)) there = tt
    entry_called name (Some (entry.Member b n)) there = tt
    entry_called name (Some (entry.Instance n)) there = tt
    entry_called name (Some (entry.Block n)) there = tt
    entry_called name (Some (entry.Interface n)) there = tt
    entry_called name (Some (entry.Stage var)) there = tt
    entry_called name (Some entry.Size) there = tt

    base_called : (base : Base) → Holds (IsPart scene) (called_base env place base dims args)
    base_called (Keyword b) = constructor_typed (basic_type b) (basic_sound (length scene.structs) b)
    base_called (Name name) = entry_called name (find env.names name) (find_there scene env.names name fine.names)

    pub called_typed : (base : Base) → Holds (IsPart scene) (called env place base dims args)
    unfolding called
    called_typed base = base_called base
