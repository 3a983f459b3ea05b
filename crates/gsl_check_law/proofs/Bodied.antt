-- Bodies of functions are well typed, and what they leave is sound.
use Rattle.std.proofs.Common.{arith, ◌≡◌, refl, sym, ◌∙◌, subst, ℕ, ◌+◌, ◌≤◌, ◌<◌, List, [], ◌∷◌, length, Option, Some, None, Bool, Ok}
use Rattle.std.specs.List.{AllByRecursion}
use Rattle.gsl_syntax.specs.declared.declaration.Name.{Name}
use Rattle.gsl_syntax.specs.declared.statement.Stmt.{Stmt as Statement}
use Rattle.gsl_types.specs.declared.ty.Direction.{Direction}
use Rattle.gsl_types.specs.declared.ty.StructType.{StructType}
use Rattle.gsl_types.specs.declared.ty.Ty.{Ty}
use Rattle.gsl_names.specs.declared.entry.Entry.{Entry}
use Rattle.gsl_names.specs.declared.entry.Entry.TheVariants as entry
use Rattle.gsl_names.specs.Scopes.{Declared, Scopes}
use Rattle.gsl_tree.specs.declared.unit.Function.{Function}
use Rattle.gsl_tree.specs.Trees.{AlongAll, outside, with_exits}
use Rattle.gsl_tree.specs.WellTyped.{IsVariableType, IsResult}
use Rattle.gsl_typing.specs.declared.scene.Scene.{Scene}
use Rattle.gsl_typing.specs.Scene.{around}
use Rattle.gsl_check_expr.specs.declared.env.Env.{Env}
use Rattle.gsl_check_decl.proofs.Gathering.{Holds, holds_after}
use Rattle.gsl_check_stmt.specs.Statements.{statements}
use Rattle.gsl_check_heads.specs.declared.parameter.Parameter.{Parameter}
use Rattle.gsl_check_heads.specs.Heads.{Headed, typed_params, named_if, params_named, entered, left}
use Rattle.gsl_check.specs.Functions.{nowhere, bodied}
use Rattle.gsl_formed.specs.Formed.{IsFormedStmt}
use Rattle.gsl_check_law.specs.Scenes.{IsScene, IsThere, AreThere, IsEnv}
use Rattle.gsl_check_law.proofs.Found.{all_map}
use Rattle.gsl_check_law.proofs.Longer.{Grows}
use Rattle.gsl_check_law.proofs.Standing.{with_name}
use Rattle.gsl_check_law.proofs.Declarators.{DidAll}
use Rattle.gsl_check_law.proofs.Walked.{statements_are}
use Rattle.gsl_check_law.specs.Small.{IsCounted}
use Rattle.gsl_tree.specs.Statements.{IsStep}

-- what names stand for hangs on the structs, the heads and the stage
module _ (s t : Scene) (structs : length s.structs ≤ length t.structs) (prototypes : s.prototypes ≡ t.prototypes) (stage : s.stage ≡ t.stage) where
  still_there : (e : Entry) → IsThere s e → IsThere t e
  still_there (entry.Struct n) is = omega (arith, is, structs)
  still_there (entry.Function n) is = subst (λ (l : List _). n < length l) prototypes is
  still_there (entry.Stage var) is = is ∙ stage
  still_there entry.Size is = sym stage ∙ is
  still_there (entry.Local n fixed) is = tt
  still_there (entry.Param n fixed) is = tt
  still_there (entry.Global n) is = tt
  still_there (entry.Member b n) is = tt
  still_there (entry.Instance n) is = tt
  still_there (entry.Block n) is = tt
  still_there (entry.Interface n) is = tt
  still_there (entry.Builtin which) is = tt

  all_still : (names : Scopes) → AllByRecursion (AreThere s) names → AllByRecursion (AreThere t) names
  all_still names all = all_map (AreThere s) (AreThere t) names (λ scope are. all_map (λ (d : Declared). IsThere s d.1) (λ (d : Declared). IsThere t d.1) scope (λ d is. still_there d.1 is) are) all

name_there : (s : Scene) (name : Option (List ℕ)) (n : ℕ) (fixed : Bool) (names : Scopes) → AllByRecursion (AreThere s) names → AllByRecursion (AreThere s) (named_if name n fixed names)
name_there s None n fixed names all = all
name_there s (Some name) n fixed names all = with_name s name (entry.Param n fixed) names tt all

params_there : (s : Scene) (n : ℕ) (params : List Parameter) (names : Scopes) → AllByRecursion (AreThere s) names → AllByRecursion (AreThere s) (params_named n params names)
params_there s n [] names all = all
params_there s n (p ∷ params) names all = params_there s (n + 1) params (named_if p.name n p.fixed names) (name_there s p.name n p.fixed names all)

pub types_of_params : (structs : List StructType) (params : List Parameter) → AllByRecursion (λ (p : Parameter). IsVariableType structs p.ty) params → AllByRecursion (λ (p : Direction × Ty). IsVariableType structs p.1) (typed_params params)
types_of_params structs [] all = tt
types_of_params structs (p ∷ params) all = (all.0, types_of_params structs params all.1)

counts_of_params : (params : List Parameter) → AllByRecursion (λ (p : Parameter). IsCounted p.ty) params → AllByRecursion (λ (p : Direction × Ty). IsCounted p.1) (typed_params params)
counts_of_params [] all = tt
counts_of_params (p ∷ params) all = (all.0, counts_of_params params all.1)

-- what is known of a head behind which a body is checked
pub record IsHeaded (h : Headed) : Type 0 where
  pub env : IsEnv h.env
  pub params : AllByRecursion (λ (p : Parameter). IsVariableType h.env.scene.structs p.ty) h.params
  pub result : IsResult h.env.scene.structs h.result
  pub counted : AllByRecursion (λ (p : Parameter). IsCounted p.ty) h.params

-- in the scope of the parameters all is sound
pub entered_is : (h : Headed) → IsHeaded h → IsEnv (entered h)
unfolding entered
entered_is h is =
    let before = h.env.scene in
    let after : Scene = record before { params = typed_params h.params; locals = []; consts = record before.consts { locals = [] } } in
    record {
      names = params_there after 0 h.params ([] ∷ h.env.names) (tt, all_still before after (omega arith) refl refl h.env.names is.env.names);
      scene = record {
        structs = is.env.scene.structs;
        globals = is.env.scene.globals;
        blocks = is.env.scene.blocks;
        interfaces = is.env.scene.interfaces;
        prototypes = is.env.scene.prototypes;
        sizes = is.env.scene.sizes;
        params = types_of_params before.structs h.params is.params;
        locals = tt;
        known = is.env.scene.known;
      };
      counted = record {
        structs = is.env.counted.structs;
        globals = is.env.counted.globals;
        blocks = is.env.counted.blocks;
        interfaces = is.env.counted.interfaces;
        prototypes = is.env.counted.prototypes;
        params = counts_of_params h.params is.counted;
        locals = tt;
        known_globals = is.env.counted.known_globals;
        known_locals = tt;
      };
    }

pub entered_result : (h : Headed) → IsHeaded h → IsResult (entered h).scene.structs h.result
unfolding entered
entered_result h is = is.result

pub entered_params : (h : Headed) → (entered h).scene.params ≡ typed_params h.params
unfolding entered
entered_params h = refl

-- a body that is well typed in the scene at its end
pub record IsBodied (h : Headed) (f : Function) : Type 0 where
  pub scene : Scene
  pub fine : IsScene scene
  pub params : scene.params ≡ typed_params h.params
  pub locals : scene.locals ≡ f.locals
  pub number : f.prototype ≡ h.number
  pub grows : Grows (entered h).scene scene
  pub body : AlongAll (IsStep (around scene) h.result) (with_exits outside f.body)

pub body_is : (h : Headed) (name : Name) (body : List Statement) → IsHeaded h → AllByRecursion IsFormedStmt body → Holds (λ (done : Function × Env). IsBodied h done.0) (bodied h name body)
body_is h name body is formed =
    holds_after (DidAll h.result outside (entered h)) (λ (done : Function × Env). IsBodied h done.0) (statements h.result body nowhere (entered h))
    (λ done. Ok (record { prototype = h.number; locals = done.1.scene.locals; body = done.0; place = name.place }, left h.env done.1))
    (statements_are h.result body nowhere formed (entered h) (entered_is h is) (entered_result h is))
    (λ done did. record {
      scene = done.1.scene;
      fine = did.env.scene;
      params = sym did.grows.params ∙ entered_params h;
      locals = refl;
      number = refl;
      grows = did.grows;
      body = did.stmts;
    })
