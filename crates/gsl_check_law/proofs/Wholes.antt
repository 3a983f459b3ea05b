-- Whole units are well typed.
use Rattle.std.proofs.Common.{◌≡◌, refl, sym, ap, ◌∙◌, subst, ℕ, ◌≤◌, List, [], ◌∷◌, slice_get, Option, Some, None, IsTrue, Ok, arith}
use Rattle.std.specs.List.{AllByRecursion, list_all}
use Rattle.std.proofs.lemmas.Bool.{and_parts}
use Rattle.std.proofs.lemmas.Option.{none-some}
use Rattle.gsl_base.specs.Checked.{◌>>=◌}
use Rattle.gsl_base.specs.declared.stage.Stage.{Stage}
use Rattle.gsl_base.specs.declared.stage.Stage.TheVariants.{Vertex, Fragment, Compute}
use Rattle.gsl_syntax.specs.declared.declaration.Decl.{Decl}
use Rattle.gsl_syntax.specs.declared.declaration.Decl.TheVariants as decl
use Rattle.gsl_syntax.specs.declared.statement.Global.{Global}
use Rattle.gsl_syntax.specs.declared.statement.Global.TheVariants as global
use Rattle.gsl_tree.specs.declared.expr.Expr.{Expr}
use Rattle.gsl_tree.specs.declared.unit.Function.{Function}
use Rattle.gsl_tree.specs.declared.unit.GlobalVar.{GlobalVar}
use Rattle.gsl_tree.specs.declared.unit.TypedUnit.{TypedUnit}
use Rattle.gsl_tree.specs.Statements.{depth_in, most_deep}
use Rattle.gsl_tree.specs.WellTyped.{IsUnit, IsGlobal, IsInit, IsFunction, unit_lists, Lists, AreSizes, around_init, IsInterface, AreWellTyped}
use Rattle.gsl_typing.specs.declared.scene.Scene.{Scene}
use Rattle.gsl_typing.specs.Scene.{around}
use Rattle.gsl_names.specs.Scopes.{Declared}
use Rattle.gsl_check_expr.specs.declared.env.Env.{Env}
use Rattle.gsl_check_decl.proofs.Gathering.{Holds, holds_after}
use Rattle.gsl_check_heads.specs.Builtins.{begun_in, functions, variables}
use Rattle.gsl_check.specs.Functions.{function}
use Rattle.gsl_check.specs.Units.{declared_by, declaration, Progress, with_functions, next, all, begun, unit_of, finished, checked}
use Rattle.gsl_formed.specs.Formed.{decl_formed, global_formed, IsFormedUnit, IsParsed}
use Rattle.gsl_check_law.specs.Scenes.{IsThere, IsEnv}
use Rattle.gsl_check_law.proofs.Found.{all_append, at_place}
use Rattle.gsl_check_law.proofs.Longer.{AreDeclared}
use Rattle.gsl_check_law.proofs.Lasting.{Begun, FunctionFits}
use Rattle.gsl_check_law.proofs.Tops.{IsTop, TopDone}
use Rattle.gsl_check_law.proofs.Outer.{variables_top, struct_top, two_hold}
use Rattle.gsl_check_law.proofs.Blocking.{declared_block}
use Rattle.gsl_check_law.proofs.Functioned.{FunctionsDone, functions_grow, function_top}
use Rattle.gsl_check_law.proofs.Alone.{alone_top}
use Rattle.gsl_check_law.proofs.Bounds.{GlobalShallow, FunctionShallow, AllShallow, unit_shallow}
use Rattle.gsl_tree.specs.Around.{Around}
use Rattle.gsl_tree.specs.Expressions.{IsExpr, MayBeRead}
use Rattle.gsl_types.specs.declared.ty.Direction.{Direction}
use Rattle.gsl_types.specs.declared.ty.Ty.{Ty}
use Rattle.gsl_check_law.proofs.Rows.{given}

-- ---- so far

pub record IsSoFar (stage : Stage) (so_far : Progress) : Type 0 where
  pub env : IsEnv so_far.env
  pub top : IsTop stage so_far.env.scene
  pub functions : AllByRecursion (FunctionFits so_far.env.scene) so_far.functions

module _ (stage : Stage) (env : Env) (fine : IsEnv env) (top : IsTop stage env.scene) where
  declared_top : (d : Decl) → IsTrue (decl_formed d) → Holds (TopDone stage env) (declared_by d env)
  declared_top (decl.Variables quals t declarators) formed = variables_top stage env fine top _ quals t declarators formed
  declared_top (decl.Struct quals s declarators) formed = struct_top stage env fine top _ quals s declarators formed
  declared_top (decl.Block quals name lines instance) formed = declared_block stage env fine top quals name lines instance formed
  declared_top (decl.Quals quals) formed = alone_top stage env fine top quals

  declaration_top : (d : Decl) → IsTrue (decl_formed d) → Holds (TopDone stage env) (declaration d env)
  unfolding declaration
  declaration_top d formed = declared_top d formed

module _ (stage : Stage) where
  next_is : (one : Global) (so_far : Progress) → IsTrue (global_formed one) → IsSoFar stage so_far → Holds (IsSoFar stage) (next one so_far)
  next_is (global.Empty place) so_far formed is = is
  next_is (global.Decl d) so_far formed is =
      holds_after (TopDone stage so_far.env) (IsSoFar stage) (declaration d so_far.env) (λ env. Ok (record so_far { env = env })) (declaration_top stage so_far.env is.env is.top d formed)
      (λ env done. record { env = done.env; top = done.top; functions = functions_grow so_far.env.scene env.scene is.env.scene done.grows so_far.functions is.functions })
  next_is (global.Function f) so_far formed is =
      holds_after (FunctionsDone stage so_far.env) (IsSoFar stage) (function f so_far.functions so_far.env) (λ done. Ok (with_functions done)) (function_top stage so_far.env is.env is.top so_far.functions is.functions f formed)
      (λ done made. record { env = made.top.env; top = made.top.top; functions = made.functions })

  all_are : (unit : List Global) (so_far : Progress) → IsFormedUnit unit → IsSoFar stage so_far → Holds (IsSoFar stage) (all unit so_far)
  all_are [] so_far formed is = is
  all_are (one ∷ more) so_far formed is =
      let parts = and_parts (global_formed one) (list_all global_formed more) formed in
      holds_after (IsSoFar stage) (IsSoFar stage) (next one so_far) (all more) (next_is one so_far parts.0 is) (λ later so. all_are more later parts.1 so)

-- ---- at first

abbrev first_scene : Stage → Scene
first_scene stage = (begun_in stage).scene

functions_there : (stage : Stage) → AllByRecursion (λ (d : Declared). IsThere (first_scene stage) d.1) functions
functions_there stage = (tt, (tt, (tt, (tt, (tt, (tt, (tt, (tt, (tt, (tt, (tt, (tt, (tt, (tt, (tt, (tt, (tt, (tt, (tt, (tt, (tt, tt)))))))))))))))))))))

variables_there : (stage : Stage) → AllByRecursion (λ (d : Declared). IsThere (first_scene stage) d.1) (variables stage)
variables_there Vertex = (refl, (refl, tt))
variables_there Fragment = tt
variables_there Compute = (refl, (refl, (refl, (refl, (refl, (refl, tt))))))

no_structs : AreDeclared []
no_structs = (λ number struct at. elim (none-some struct at) [ ], tt)

no_sizes : (stage : Stage) → AreSizes stage []
no_sizes Vertex = refl
no_sizes Fragment = refl
no_sizes Compute = tt

begun_is : (stage : Stage) → IsSoFar stage (begun stage)
begun_is stage = record {
  env = record {
    names = (tt, (all_append (λ (d : Declared). IsThere (first_scene stage) d.1) functions (variables stage) (functions_there stage) (variables_there stage), tt));
    scene = record { structs = tt; globals = tt; blocks = tt; interfaces = tt; prototypes = tt; sizes = tt; params = tt; locals = tt; known = refl };
    counted = record { structs = tt; globals = tt; blocks = tt; interfaces = tt; prototypes = tt; params = tt; locals = tt; known_globals = tt; known_locals = tt };
  };
  top = record {
    of_stage = refl;
    params = refl;
    locals = refl;
    constants = refl;
    structs = no_structs;
    globals = λ number g at. elim (none-some g at) [ ];
    blocks = tt;
    push = omega arith;
    interfaces = tt;
    prototypes = tt;
    sizes = no_sizes stage;
  };
  functions = tt;
}

-- what was declared in a unit is as it must be
pub unit_is : (stage : Stage) (unit : List Global) → IsFormedUnit unit → Holds (IsSoFar stage) (all unit (begun stage))
unit_is stage unit formed = all_are stage unit (begun stage) formed (begun_is stage)

-- ---- in the end

module _ (stage : Stage) (done : Progress) (is : IsSoFar stage done) (low_globals : AllByRecursion GlobalShallow done.env.scene.globals) (low : AllByRecursion FunctionShallow done.functions) where
  abbrev s : Scene
  s = done.env.scene

  abbrev lists : Lists
  lists = unit_lists s.stage (unit_of done)

  same_around : around s ≡ around_init lists
  same_around = ap (λ (params : List (Direction × Ty)). around (record s { params = params })) is.top.params ∙ ap (λ (locals : List Ty). around (record s { params = []; locals = locals })) is.top.locals

  init_whole : (number : ℕ) (g : GlobalVar) (init : Option Expr) → Begun s number g init → depth_in init ≤ most_deep → IsInit lists number g init
  init_whole number g None begins shallow = begins
  init_whole number g (Some e) begins shallow = (
    begins.0,
    subst (λ (a : Around). IsExpr a e) same_around begins.1,
    subst (λ (a : Around). MayBeRead a e) same_around begins.2,
    begins.3,
    shallow,
    begins.4,
    begins.5,
  )

  global_whole : (number : ℕ) (g : GlobalVar) → slice_get s.globals number ≡ Some g → IsGlobal lists number g
  global_whole number g at =
      let fits = is.top.globals number g at in
      record { name = fits.name; type = fits.type; init = init_whole number g g.init fits.begins (at_place GlobalShallow s.globals number g low_globals at) }

  functions_fit : (all : List Function) → AllByRecursion (FunctionFits s) all → AllByRecursion FunctionShallow all → AllByRecursion (IsFunction lists) all
  functions_fit [] fits shallow = tt
  functions_fit (f ∷ all) fits shallow =
      (record { prototype = fits.0.prototype; declared = fits.0.declared; locals = fits.0.locals; body = fits.0.body; depth = shallow.0 }, functions_fit all fits.1 shallow.1)

  well_typed : AreWellTyped lists
  well_typed = record {
    structs = is.top.structs.0;
    declared = is.top.structs.1;
    globals = global_whole;
    blocks = is.top.blocks;
    push = is.top.push;
    interfaces = subst (λ (of : Stage). AllByRecursion (IsInterface of s.structs) s.interfaces) (sym is.top.of_stage) is.top.interfaces;
    prototypes = is.top.prototypes;
    functions = functions_fit done.functions is.functions low;
  }

  -- a unit that was declared is well typed
  pub fits_whole : IsUnit stage (unit_of done)
  fits_whole = record { typed = subst (λ (of : Stage). AreWellTyped (unit_lists of (unit_of done))) is.top.of_stage well_typed; sizes = is.top.sizes }

-- what the checker answers is well typed
pub checked_is : (stage : Stage) (unit : List Global) (typed : TypedUnit) → IsParsed unit → checked stage unit ≡ Ok typed → IsUnit stage typed
unfolding checked finished
checked_is stage unit typed parsed is =
    given (IsUnit stage) (all unit (begun stage) >>= (λ done. Ok (unit_of done))) typed
    (holds_after (λ (done : Progress). IsSoFar stage done × AllShallow done) (IsUnit stage) (all unit (begun stage)) (λ done. Ok (unit_of done))
    (two_hold (IsSoFar stage) AllShallow (all unit (begun stage)) (unit_is stage unit parsed.formed) (unit_shallow stage unit parsed.shallow))
    (λ done both. fits_whole stage done both.0 both.1.0 both.1.1)) is
