-- What a unit has so far is as it should be, and stays so where its lists grow.
use Rattle.std.proofs.Common.{◌≡◌, refl, sym, ap, ◌∙◌, subst, ℕ, zero, suc, ◌≤◌, Bool, List, [], ◌∷◌, take, length, slice_get, Option, Some, None, unwrap_or, arith}
use Rattle.std.specs.List.{AllByRecursion}
use Rattle.std.proofs.lemmas.Option.{none-some}
use Rattle.gsl_base.specs.declared.stage.Stage.{Stage}
use Rattle.gsl_types.specs.Known.{IsSound}
use Rattle.gsl_types.specs.Structs.{numbered, members_meaning}
use Rattle.gsl_types.proofs.Layers.{sound_stays}
use Rattle.gsl_types.proofs.Structs.{members_agree}
use Rattle.gsl_types.specs.declared.ty.Direction.{Direction}
use Rattle.gsl_types.specs.declared.ty.Member.{Member}
use Rattle.gsl_types.specs.declared.ty.Ty.{Ty}
use Rattle.gsl_values.specs.declared.value.Value.{Value}
use Rattle.gsl_layout.specs.Measures.{measuring, grouped}
use Rattle.gsl_layout.specs.Placings.{first_misplaced, placed}
use Rattle.gsl_layout.specs.Extents.{extent, most_bytes}
use Rattle.gsl_layout.specs.Layout.{need}
use Rattle.gsl_tree.specs.declared.expr.Expr.{Expr}
use Rattle.gsl_tree.specs.declared.folded.Folded.TheVariants.{Known}
use Rattle.gsl_tree.specs.declared.unit.Block.{Block}
use Rattle.gsl_tree.specs.declared.unit.BlockKind.{BlockKind}
use Rattle.gsl_tree.specs.declared.unit.BlockMember.{BlockMember}
use Rattle.gsl_tree.specs.declared.unit.Function.{Function}
use Rattle.gsl_tree.specs.declared.unit.GlobalVar.{GlobalVar}
use Rattle.gsl_tree.specs.declared.unit.Interface.{Interface}
use Rattle.gsl_tree.specs.declared.unit.Prototype.{Prototype}
use Rattle.gsl_tree.specs.Around.{consts_of}
use Rattle.gsl_tree.specs.Constants.{constant_of}
use Rattle.gsl_tree.specs.Expressions.{IsExpr, MayBeRead}
use Rattle.gsl_tree.specs.Laying.{rule_of, members_of, placings_of}
use Rattle.gsl_tree.specs.Trees.{type_of, outside, with_exits, AlongAll}
use Rattle.gsl_tree.specs.Weights.{most_high}
use Rattle.gsl_tree.specs.WellTyped.{IsName, IsVariableType, IsBlock, IsBlockMember, AreBlockMembers, IsInterface, IsPrototype}
use Rattle.gsl_typing.specs.declared.scene.Scene.{Scene}
use Rattle.gsl_typing.specs.Scene.{around}
use Rattle.gsl_check_law.specs.Scenes.{IsScene}
use Rattle.gsl_check_law.proofs.Found.{all_map}
use Rattle.gsl_check_law.proofs.Growing.{expr_grows, read_grows}
use Rattle.gsl_check_law.proofs.Longer.{Front, Grows}
use Rattle.gsl_check_law.proofs.Standing.{stmts_grow, variable_grows, result_grows}
use Rattle.gsl_tree.specs.Statements.{IsStep}

-- ---- what is there

-- an initialiser that is well typed, with its value by the constants before it
abbrev pub Begun : Scene → ℕ → GlobalVar → Option Expr → Type 0
Begun s number g None = (g.value ≡ None) × (g.constant ≡ Bool.false)
Begun s number g (Some e) =
    (v : Value) × IsExpr (around s) e × MayBeRead (around s) e × (type_of e ≡ g.ty) × (constant_of (consts_of (take number s.globals)) e ≡ Known v) × (g.value ≡ Some v)

pub record GlobalFits (s : Scene) (number : ℕ) (g : GlobalVar) : Type 0 where
  pub name : IsName g.name
  pub type : IsVariableType s.structs g.ty
  pub begins : Begun s number g g.init

-- the scene of the body of a function
abbrev pub body_scene : Scene → List (Direction × Ty) → List Ty → Scene
body_scene s params locals = record s { params = params; locals = locals; consts = record s.consts { locals = [] } }

-- a function whose body is well typed
pub record FunctionFits (s : Scene) (f : Function) : Type 0 where
  pub prototype : Prototype
  pub declared : slice_get s.prototypes f.prototype ≡ Some prototype
  pub params : AllByRecursion (λ (param : Direction × Ty). IsVariableType s.structs param.1) prototype.params
  pub locals : AllByRecursion (IsVariableType s.structs) f.locals
  pub body : AlongAll (IsStep (around (body_scene s prototype.params f.locals)) prototype.result) (with_exits outside f.body)

-- ---- lists that begin alike

taken_alike : {A : Type 0} (n : ℕ) (xs ys : List A) → Front xs ys → n ≤ length xs → take n xs ≡ take n ys
taken_alike zero xs ys front le = refl
taken_alike (suc n) [] ys front le = let no : ⊥ = omega (arith, le) in elim no [ ]
taken_alike (suc n) (x ∷ xs) [] front le = elim (none-some x (front 0 x refl)) [ ]
taken_alike (suc n) (x ∷ xs) (y ∷ ys) front le =
    ap (λ (o : Option _). unwrap_or o x ∷ take n xs) (sym (front 0 x refl)) ∙ ap (λ l. y ∷ l) (taken_alike n xs ys (λ k z is. front (suc k) z is) (omega (arith, le)))

-- ---- where lists grow

module _ (s t : Scene) (fine : IsScene s) (grows : Grows s t) where
  variables_grow : (types : List Ty) → AllByRecursion (IsVariableType s.structs) types → AllByRecursion (IsVariableType t.structs) types
  variables_grow types all = all_map (IsVariableType s.structs) (IsVariableType t.structs) types (variable_grows s t grows) all

  pub params_grow : (params : List (Direction × Ty)) → AllByRecursion (λ (p : Direction × Ty). IsVariableType s.structs p.1) params → AllByRecursion (λ (p : Direction × Ty). IsVariableType t.structs p.1) params
  params_grow params all = all_map (λ (p : Direction × Ty). IsVariableType s.structs p.1) (λ (p : Direction × Ty). IsVariableType t.structs p.1) params (λ p is. variable_grows s t grows p.1 is) all

  pub sound_grows : (u : Ty) → IsSound (length s.structs) u → IsSound (length t.structs) u
  sound_grows u is = sound_stays (length s.structs) (length t.structs) grows.count u is

  -- blocks, whose layout stays

  member_grows : (kind : BlockKind) (last : Bool) (m : BlockMember) → IsBlockMember s.structs kind last m → IsBlockMember t.structs kind last m
  member_grows kind last m is = record {
    name = is.name;
    known = sound_grows m.ty is.known;
    low = subst (λ h. h ≤ most_high) (grows.heights m.ty is.known) is.low;
    type = is.type;
    qualifiers = is.qualifiers;
  }

  members_grow : (kind : BlockKind) (members : List BlockMember) → AreBlockMembers s.structs kind members → AreBlockMembers t.structs kind members
  members_grow kind [] all = tt
  members_grow kind (m ∷ []) all = member_grows kind Bool.true m all
  members_grow kind (m ∷ n ∷ members) all = (member_grows kind Bool.false m all.0, members_grow kind (n ∷ members) all.1)

  members_sound : (kind : BlockKind) (members : List BlockMember) → AreBlockMembers s.structs kind members → AllByRecursion (λ (m : Member). IsSound (length s.structs) m.ty) (members_of members)
  members_sound kind [] all = tt
  members_sound kind (m ∷ []) all = (all.known, tt)
  members_sound kind (m ∷ n ∷ members) all = (all.0.known, members_sound kind (n ∷ members) all.1)

  laid_alike : (rule : ℕ → ℕ) (members : List Member) → AllByRecursion (λ (m : Member). IsSound (length s.structs) m.ty) members → members_meaning (measuring rule) s.structs members ≡ members_meaning (measuring rule) t.structs members
  laid_alike rule members all = members_agree (measuring rule) (length s.structs) (numbered (measuring rule) s.structs) (numbered (measuring rule) t.structs) (grows.measures rule) members all

  pub block_grows : (b : Block) → IsBlock s.structs b → IsBlock t.structs b
  block_grows b is =
      let rule = rule_of b.std140 in
      let placings = placings_of b.members in
      let alike = laid_alike rule (members_of b.members) (members_sound b.kind b.members is.members) in
      record {
        name = is.name;
        instance = is.instance;
        set = is.set;
        binding = is.binding;
        some = is.some;
        count = is.count;
        members = members_grow b.kind b.members is.members;
        layout = is.layout;
        laid = record {
          placed = subst (λ (ms : List _). first_misplaced [] 0 (placed placings ms) ≡ None) alike is.laid.placed;
          small = subst (λ (ms : List _). extent (grouped rule (placed placings ms)) ≤ most_bytes) alike is.laid.small;
          need = subst (λ (ms : List _). b.need ≡ need (grouped rule (placed placings ms)).laid) alike is.laid.need;
        };
      }

  pub interface_grows : (stage : Stage) (i : Interface) → IsInterface stage s.structs i → IsInterface stage t.structs i
  interface_grows stage i is = record { name = is.name; known = sound_grows i.ty is.known; type = is.type; location = is.location; flat = is.flat }

  pub prototype_grows : (p : Prototype) → IsPrototype s.structs p → IsPrototype t.structs p
  prototype_grows p is = record { name = is.name; result = result_grows s t grows p.result is.result; params = params_grow p.params is.params; count = is.count }

  begun_grows : (number : ℕ) (g : GlobalVar) (init : Option Expr) → number ≤ length s.globals → Begun s number g init → Begun t number g init
  begun_grows number g None le is = is
  begun_grows number g (Some e) le is = (
    is.0,
    expr_grows s t fine grows e is.1,
    read_grows s t fine grows e is.1 is.2,
    is.3,
    ap (λ (gs : List GlobalVar). constant_of (consts_of gs) e) (sym (taken_alike number s.globals t.globals grows.globals le)) ∙ is.4,
    is.5,
  )

  pub global_grows : (number : ℕ) (g : GlobalVar) → number ≤ length s.globals → GlobalFits s number g → GlobalFits t number g
  global_grows number g le is = record { name = is.name; type = variable_grows s t grows g.ty is.type; begins = begun_grows number g g.init le is.begins }

  -- bodies of functions

  body_is_scene : (params : List (Direction × Ty)) (locals : List Ty) → AllByRecursion (λ (p : Direction × Ty). IsVariableType s.structs p.1) params → AllByRecursion (IsVariableType s.structs) locals → IsScene (body_scene s params locals)
  body_is_scene params locals all types = record {
    structs = fine.structs;
    globals = fine.globals;
    blocks = fine.blocks;
    interfaces = fine.interfaces;
    prototypes = fine.prototypes;
    sizes = fine.sizes;
    params = all;
    locals = types;
    known = fine.known;
  }

  body_grows : (params : List (Direction × Ty)) (locals : List Ty) → Grows (body_scene s params locals) (body_scene t params locals)
  body_grows params locals = record {
    stage = grows.stage;
    structs = grows.structs;
    count = grows.count;
    leaves = grows.leaves;
    heights = grows.heights;
    values = grows.values;
    measures = grows.measures;
    declared = grows.declared;
    globals = grows.globals;
    blocks = grows.blocks;
    interfaces = grows.interfaces;
    prototypes = grows.prototypes;
    sizes = grows.sizes;
    params = refl;
    locals = λ k x is. is;
  }

  pub function_grows : (f : Function) → FunctionFits s f → FunctionFits t f
  function_grows f is = record {
    prototype = is.prototype;
    declared = grows.prototypes f.prototype is.prototype is.declared;
    params = params_grow is.prototype.params is.params;
    locals = variables_grow f.locals is.locals;
    body = stmts_grow (body_scene s is.prototype.params f.locals) (body_scene t is.prototype.params f.locals) (body_is_scene is.prototype.params f.locals is.params is.locals)
        (body_grows is.prototype.params f.locals) is.prototype.result (with_exits outside f.body) is.body;
  }
