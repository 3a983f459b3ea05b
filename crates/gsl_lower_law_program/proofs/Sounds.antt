-- What is so of all expressions in a program: their types are types of its structs, and what is assigned to has a type with values.
use Rattle.std.proofs.Common.{◌≡◌, refl, sym, subst, ℕ, zero, suc, true, List, [], ◌∷◌, length, slice_get, Some}
use Rattle.std.specs.Prelude.{IsTrue}
use Rattle.std.specs.List.{AllByRecursion}
use Rattle.gsl_base.specs.declared.stage.Stage.{Stage}
use Rattle.gsl_base.specs.declared.stage.Stage.TheVariants.{Vertex, Fragment, Compute}
use Rattle.gsl_types.specs.Known.{IsSound}
use Rattle.gsl_types.specs.declared.ty.Direction.{Direction}
use Rattle.gsl_types.specs.declared.ty.StructType.{StructType}
use Rattle.gsl_types.specs.declared.ty.Ty.{Ty}
use Rattle.gsl_values.specs.declared.value.Value.{Value}
use Rattle.gsl_tree.specs.Around.{consts_of}
use Rattle.gsl_tree.specs.Expressions.{HasType, IsNode, is_size, is_value_type}
use Rattle.gsl_tree.specs.Statements.{IsBody, IsStep}
use Rattle.gsl_tree.specs.Trees.{Along, AlongAll, Exits, Placed, Throughout, ThroughoutAll, exprs_of, form_of, inner_of, outside, parts_of, type_of, with_exits}
use Rattle.gsl_tree.specs.Values.{is_value_of}
use Rattle.gsl_tree.specs.WellTyped.{AreBlockMembers, IsLocalSize, IsProgram, IsVariableType, around_body, program_lists}
use Rattle.gsl_tree.specs.declared.expr.Expr.{Expr}
use Rattle.gsl_tree.specs.declared.expr.ExprKind.{ExprKind}
use Rattle.gsl_tree.specs.declared.expr.ExprKind.TheOpen.{ExprKind-F}
use Rattle.gsl_tree.specs.declared.program.Program.{Program}
use Rattle.gsl_tree.specs.declared.stmt.Stmt.{Stmt, out-Stmt}
use Rattle.gsl_tree.specs.declared.unit.BlockKind.{BlockKind}
use Rattle.gsl_tree.specs.declared.unit.BlockMember.{BlockMember}
use Rattle.gsl_typing.specs.Scene.{around}
use Rattle.gsl_typing.specs.declared.scene.Scene.{Scene}
use Rattle.gsl_check_law.specs.Scenes.{IsScene}
use Rattle.gsl_check_law.proofs.Sounds.{type_sound, types_sound}
use Rattle.gsl_typed_places.proofs.Places.{place_valued}

-- ---- rows

each : {A : Type 0} {P Q : A → Type 0} → ((x : A) → P x → Q x) → (xs : List A) → AllByRecursion P xs → AllByRecursion Q xs
each step [] all = tt
each step (x ∷ xs) all = (step x all.0, each step xs all.1)

in_places : {A : Type 0} {P : A → Type 0} → (xs : List A) → ((number : ℕ) (x : A) → slice_get xs number ≡ Some x → P x) → AllByRecursion P xs
in_places [] all = tt
in_places (x ∷ xs) all = (all zero x refl, in_places xs (λ number y at. all (suc number) y at))

-- ---- a program as what an expression is checked in

size_is : (stage : Stage) (size : List ℕ) → IsLocalSize stage size → (length size ≡ 3) × IsTrue (is_size size)
size_is Compute size is = is
size_is Vertex size is = subst (λ s. (length s ≡ 3) × IsTrue (is_size s)) (sym is) (refl, refl)
size_is Fragment size is = subst (λ s. (length s ≡ 3) × IsTrue (is_size s)) (sym is) (refl, refl)

members_known : (structs : List StructType) (kind : BlockKind) (members : List BlockMember) → AreBlockMembers structs kind members → AllByRecursion (λ (member : BlockMember). IsSound (length structs) member.ty) members
members_known structs kind [] all = tt
members_known structs kind (member ∷ []) all = (all.known, tt)
members_known structs kind (member ∷ next ∷ members) all = (all.0.known, members_known structs kind (next ∷ members) all.1)

-- what is assigned to has a type with values
abbrev pub IsAssigned : Program → ExprKind-F ExprKind Expr → Type 0
IsAssigned p (ExprKind-F.Assign a b) = (v : Value) × (is_value_of p.structs (type_of a) v ≡ true)
IsAssigned p form = Unit {0}

-- The type of an expression is one of the program's, and what is assigned to has one with values.
pub record IsKnown (p : Program) (e : Expr) : Type 0 where
  pub sound : IsSound (length p.structs) (type_of e)
  pub assigned : IsAssigned p (form_of e)

abbrev pub AreKnown : Program → Exits → Stmt → Type 0
AreKnown p exits s = AllByRecursion (Throughout (IsKnown p)) (exprs_of (out-Stmt s))

module _ (p : Program) where
  mutual
    pub sound_in : (e : Expr) → Throughout (IsKnown p) e → Throughout (λ (part : Expr). IsSound (length p.structs) (type_of part)) e
    sound_in _ (Throughout.whole e known parts) = Throughout.whole e known.sound (all_sound (parts_of (form_of e)) parts)

    all_sound : (es : List Expr) → ThroughoutAll (IsKnown p) es → ThroughoutAll (λ (part : Expr). IsSound (length p.structs) (type_of part)) es
    all_sound _ ThroughoutAll.none = ThroughoutAll.none
    all_sound _ (ThroughoutAll.more e es known rest) = ThroughoutAll.more e es (sound_in e known) (all_sound es rest)

module _ (p : Program) (program : IsProgram p) (params : List (Direction × Ty)) (locals : List Ty) (of_params : AllByRecursion (λ (param : Direction × Ty). IsVariableType p.structs param.1) params) (of_locals : AllByRecursion (IsVariableType p.structs) locals) where
  abbrev scene : Scene
  scene = record {
    stage = p.stage;
    structs = p.structs;
    globals = p.globals;
    blocks = p.blocks;
    interfaces = p.interfaces;
    prototypes = p.prototypes;
    sizes = record { parts = p.local_size; place = record { unit = 0; line = 0 } } ∷ [];
    params = params;
    locals = locals;
    consts = consts_of p.globals;
  }

  fine : IsScene scene
  fine = record {
    structs = each (λ struct is. is.types) p.structs program.typed.declared;
    globals = in_places p.globals (λ number g at. (program.typed.globals number g at).type);
    blocks = each (λ block is. members_known p.structs block.kind block.members is.members) p.blocks program.typed.blocks;
    interfaces = each (λ i is. is.known) p.interfaces program.typed.interfaces;
    prototypes = each (λ head is. (is.result, is.params)) p.prototypes program.typed.prototypes;
    sizes = (size_is p.stage p.local_size program.size, tt);
    params = of_params;
    locals = of_locals;
    known = refl;
  }

  assigned_by : (form : ExprKind-F ExprKind Expr) (t : Ty) → HasType (around scene) form t → AllByRecursion (λ (part : Expr). IsSound (length p.structs) (type_of part)) (parts_of form) → ThroughoutAll (IsNode (around scene)) (parts_of form) → IsAssigned p form
  assigned_by (ExprKind-F.Assign a b) t is sound (ThroughoutAll.more _ _ path rest) =
      place_valued (program_lists p) params locals program.typed of_params of_locals a path is.3 sound.0 (subst (λ u. IsTrue (is_value_type u)) (sym is.0) is.2)
  assigned_by form t is sound parts = tt

  mutual
    pub known_in : (e : Expr) → Throughout (IsNode (around scene)) e → Throughout (IsKnown p) e
    known_in _ (Throughout.whole e node parts) =
        Throughout.whole e (record {
          sound = type_sound scene fine e (Throughout.whole e node parts);
          assigned = assigned_by (form_of e) (type_of e) node.type (types_sound scene fine (parts_of (form_of e)) parts) parts;
        }) (all_known (parts_of (form_of e)) parts)

    all_known : (es : List Expr) → ThroughoutAll (IsNode (around scene)) es → ThroughoutAll (IsKnown p) es
    all_known _ ThroughoutAll.none = ThroughoutAll.none
    all_known _ (ThroughoutAll.more e es is rest) = ThroughoutAll.more e es (known_in e is) (all_known es rest)

  each_known : (es : List Expr) → AllByRecursion (Throughout (IsNode (around scene))) es → AllByRecursion (Throughout (IsKnown p)) es
  each_known [] all = tt
  each_known (e ∷ es) all = (known_in e all.0, each_known es all.1)

  module _ (result : Ty) where
    mutual
      known_along : (exits : Exits) (s : Stmt) → Along (IsStep (around scene) result) exits s → Along (AreKnown p) exits s
      known_along _ _ (Along.whole exits s is inner) = Along.whole exits s (each_known (exprs_of (out-Stmt s)) is.typed) (all_along (inner_of exits (out-Stmt s)) inner)

      all_along : (placed : List Placed) → AlongAll (IsStep (around scene) result) placed → AlongAll (AreKnown p) placed
      all_along _ AlongAll.none = AlongAll.none
      all_along _ (AlongAll.more one rest first later) = AlongAll.more one rest (known_along one.0 one.1 first) (all_along rest later)

  -- of a function's body
  pub body_known : (result : Ty) (body : List Stmt) → IsBody (around_body (program_lists p) params locals) result body → AlongAll (AreKnown p) (with_exits outside body)
  body_known result body is = all_along result (with_exits outside body) is
