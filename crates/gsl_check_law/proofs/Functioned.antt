-- Functions of a unit, with their bodies, are as they must be but for the bounds of their labels and of their depth.
use Rattle.std.proofs.Common.{◌≡◌, refl, sym, ap, ◌∙◌, subst, ℕ, ◌+◌, ◌<◌, List, [], ◌∷◌, ◌++◌, length, slice_get, Option, Some, None, Bool, IsTrue, ◌&&◌, Ok, arith}
use Rattle.std.specs.List.{AllByRecursion, list_all}
use Rattle.std.proofs.lemmas.Bool.{and_parts}
use Rattle.gsl_base.specs.declared.stage.Stage.{Stage}
use Rattle.gsl_syntax.specs.declared.declaration.Name.{Name}
use Rattle.gsl_syntax.specs.declared.statement.Stmt.{Stmt as Statement}
use Rattle.gsl_syntax.specs.declared.statement.Body.{Body}
use Rattle.gsl_syntax.specs.declared.statement.Body.TheVariants as body_of
use Rattle.gsl_syntax.specs.declared.statement.Function.{Function as FunctionTree}
use Rattle.gsl_types.specs.declared.ty.Direction.{Direction}
use Rattle.gsl_types.specs.declared.ty.StructType.{StructType}
use Rattle.gsl_types.specs.declared.ty.Ty.{Ty}
use Rattle.gsl_names.specs.declared.entry.Entry.TheVariants as entry
use Rattle.gsl_names.specs.Scopes.{Scopes}
use Rattle.gsl_tree.specs.declared.stmt.Stmt.{Stmt}
use Rattle.gsl_tree.specs.declared.unit.Block.{Block}
use Rattle.gsl_tree.specs.declared.unit.BlockMember.{BlockMember}
use Rattle.gsl_tree.specs.declared.unit.Function.{Function}
use Rattle.gsl_tree.specs.declared.unit.GlobalVar.{GlobalVar}
use Rattle.gsl_tree.specs.declared.unit.Interface.{Interface}
use Rattle.gsl_tree.specs.declared.unit.Prototype.{Prototype}
use Rattle.gsl_tree.specs.Trees.{outside, with_exits, AlongAll}
use Rattle.gsl_tree.specs.WellTyped.{IsVariableType}
use Rattle.gsl_typing.specs.declared.scene.Scene.{Scene}
use Rattle.gsl_typing.specs.Scene.{around}
use Rattle.gsl_check_expr.specs.declared.env.Env.{Env}
use Rattle.gsl_check_decl.proofs.Gathering.{Holds, holds_after}
use Rattle.gsl_check_stmt.specs.Statements.{statements}
use Rattle.gsl_check_heads.proofs.Leaving.{Around as Kept, around as kept_of}
use Rattle.gsl_check_heads.specs.declared.parameter.Parameter.{Parameter}
use Rattle.gsl_check_heads.specs.Heads.{Headed, named_if, params_named, typed_params, entered, left, header}
use Rattle.gsl_check.specs.Functions.{nowhere, bodied, with_body, function}
use Rattle.gsl_check.proofs.Keeping.{Keeps, declared_count}
use Rattle.gsl_check.proofs.Bodies.{statements_keep}
use Rattle.gsl_formed.specs.Formed.{stmt_formed, body_formed, IsFormedStmt, head_formed}
use Rattle.gsl_check_law.specs.Scenes.{IsScene, IsEnv, IsHead, HasVariables}
use Rattle.gsl_check_law.proofs.Found.{all_map, all_append}
use Rattle.gsl_check_law.proofs.Longer.{Grows}
use Rattle.gsl_check_law.proofs.Standing.{stmts_grow, names_grow, variable_grows, result_grows}
use Rattle.gsl_check_law.proofs.Declarators.{DidAll}
use Rattle.gsl_check_law.proofs.Walked.{statements_are}
use Rattle.gsl_check_law.proofs.Bodied.{IsHeaded, entered_is, entered_result, entered_params, types_of_params}
use Rattle.gsl_check_law.proofs.Lasting.{FunctionFits, body_scene, function_grows, params_grow, sound_grows}
use Rattle.gsl_check_law.proofs.Tops.{IsTop, TopDone, structs_top}
use Rattle.gsl_check_law.proofs.Outer.{two_hold, top_then}
use Rattle.gsl_check_law.proofs.Heading.{HeadIs, HeadDone, header_done}
use Rattle.gsl_types.specs.Known.{IsSound}
use Rattle.gsl_tree.specs.declared.unit.LocalSize.{LocalSize}
use Rattle.gsl_tree.specs.Statements.{IsStep}

-- ---- scopes

one_count : (name : Option (List ℕ)) (n : ℕ) (fixed : Bool) (names : Scopes) → length (named_if name n fixed names) ≡ length names
one_count None n fixed names = refl
one_count (Some name) n fixed names = declared_count name (entry.Param n fixed) names

params_count : (n : ℕ) (params : List Parameter) (names : Scopes) → length (params_named n params names) ≡ length names
params_count n [] names = refl
params_count n (p ∷ params) names = params_count (n + 1) params (named_if p.name n p.fixed names) ∙ one_count p.name n p.fixed names

entered_open : (h : Headed) → 0 < length (entered h).names
unfolding entered
entered_open h = let count = params_count 0 h.params ([] ∷ h.env.names) in omega (arith, count)

-- ---- scenes that differ in their structs alone

-- the scene whose structs are these
abbrev with_structs : Scene → List StructType → Scene
with_structs s more = record s { structs = more }

module _ (s : Scene) (fine : IsScene s) (more : List StructType) (grows : Grows s (record s { structs = more })) where
  abbrev t : Scene
  t = record s { structs = more }

  head_grows : (p : Prototype) → IsHead s.structs p → IsHead more p
  head_grows p is = (result_grows s t grows p.result is.0, params_grow s t fine grows p.params is.1)

  abbrev Sounds : List StructType → Block → Type 0
  Sounds structs b = AllByRecursion (λ (m : BlockMember). IsSound (length structs) m.ty) b.members

  -- is sound where its structs are
  pub structs_scene : AllByRecursion (HasVariables more) more → IsScene (record s { structs = more })
  structs_scene known = record {
    structs = known;
    globals = all_map (λ (g : GlobalVar). IsVariableType s.structs g.ty) (λ (g : GlobalVar). IsVariableType more g.ty) s.globals (λ g is. variable_grows s t grows g.ty is) fine.globals;
    blocks = all_map (Sounds s.structs) (Sounds more) s.blocks
        (λ b all. all_map (λ (m : BlockMember). IsSound (length s.structs) m.ty) (λ (m : BlockMember). IsSound (length more) m.ty) b.members (λ m is. sound_grows s t fine grows m.ty is) all) fine.blocks;
    interfaces = all_map (λ (i : Interface). IsSound (length s.structs) i.ty) (λ (i : Interface). IsSound (length more) i.ty) s.interfaces (λ i is. sound_grows s t fine grows i.ty is) fine.interfaces;
    prototypes = all_map (IsHead s.structs) (IsHead more) s.prototypes head_grows fine.prototypes;
    sizes = fine.sizes;
    params = params_grow s t fine grows s.params fine.params;
    locals = all_map (IsVariableType s.structs) (IsVariableType more) s.locals (variable_grows s t grows) fine.locals;
    known = fine.known;
  }

-- a scene that grows by its structs grows so whatever else it has
only_structs : (s t u : Scene) → s.structs ≡ u.structs → Grows s t → Grows u (record u { structs = t.structs })
only_structs s t u same grows = subst Wanted same of_structs
  where
    Wanted : List StructType → Type 0
    Wanted structs = Grows (record u { structs = structs }) (record u { structs = t.structs })

    of_structs : Wanted s.structs
    of_structs = record {
      stage = refl;
      structs = grows.structs;
      count = grows.count;
      leaves = grows.leaves;
      heights = grows.heights;
      values = grows.values;
      measures = grows.measures;
      declared = grows.declared;
      globals = λ k x is. is;
      blocks = λ k x is. is;
      interfaces = λ k x is. is;
      prototypes = λ k x is. is;
      sizes = λ k x is. is;
      params = refl;
      locals = λ k x is. is;
    }

-- ---- behind a body

module _ (stage : Stage) (h : Headed) (is : IsHeaded h) (top : IsTop stage h.env.scene) (head : HeadIs h) where
  abbrev inside : Env
  inside = entered h

  same_structs : (entered h).scene.structs ≡ h.env.scene.structs
  unfolding entered
  same_structs = refl

  same_kept : kept_of (entered h).scene ≡ kept_of h.env.scene
  unfolding entered
  same_kept = refl

  module _ (name : Name) (done : List Stmt × Env) (did : DidAll h.result outside (entered h) done) (keeps : Keeps (entered h) done.1) where
    abbrev last : Scene
    last = done.1.scene

    abbrev more : List StructType
    more = last.structs

    abbrev outer : Scene
    outer = h.env.scene

    abbrev behind : Scene
    behind = record outer { structs = more }

    outer_grows : Grows outer behind
    outer_grows = only_structs (entered h).scene last outer same_structs did.grows

    behind_is : IsScene behind
    behind_is = structs_scene outer is.env.scene more outer_grows did.env.scene.structs

    behind_top : IsTop stage behind
    behind_top = structs_top stage outer more is.env.scene outer_grows top

    -- the body is well typed in what is left behind it
    abbrev body : Scene
    body = body_scene behind (typed_params h.params) last.locals

    same : kept_of last ≡ kept_of outer
    same = keeps.2 ∙ same_kept

    params_same : last.params ≡ typed_params h.params
    params_same = sym did.grows.params ∙ entered_params h

    body_grows : Grows last body
    body_grows = record {
      stage = ap (λ (k : Kept). k.0) same;
      structs = λ k x at. at;
      count = omega arith;
      leaves = λ u known. refl;
      heights = λ u known. refl;
      values = λ u v known. refl;
      measures = λ raise k below. refl;
      declared = λ are. are;
      globals = λ k x at. subst (λ (l : List GlobalVar). slice_get l k ≡ Some x) (ap (λ (k : Kept). k.1) same) at;
      blocks = λ k x at. subst (λ (l : List Block). slice_get l k ≡ Some x) (ap (λ (k : Kept). k.2) same) at;
      interfaces = λ k x at. subst (λ (l : List Interface). slice_get l k ≡ Some x) (ap (λ (k : Kept). k.3) same) at;
      prototypes = λ k x at. subst (λ (l : List Prototype). slice_get l k ≡ Some x) (ap (λ (k : Kept). k.4) same) at;
      sizes = λ k x at. subst (λ (l : List LocalSize). slice_get l k ≡ Some x) (ap (λ (k : Kept). k.5) same) at;
      params = params_same;
      locals = λ k x at. at;
    }

    typed_body : AlongAll (IsStep (around body) h.result) (with_exits outside done.0)
    typed_body = stmts_grow last body did.env.scene body_grows h.result (with_exits outside done.0) did.stmts

    abbrev made : Function
    made = record { prototype = h.number; locals = last.locals; body = done.0; place = name.place }

    types_behind : AllByRecursion (λ (p : Direction × Ty). IsVariableType more p.1) (typed_params h.params)
    types_behind = params_grow outer behind is.env.scene outer_grows (typed_params h.params) (types_of_params outer.structs h.params is.params)

    function_fits : FunctionFits behind made
    function_fits = record {
      prototype = head.prototype;
      declared = head.there;
      params = subst (AllByRecursion (λ (p : Direction × Ty). IsVariableType more p.1)) (sym head.params) types_behind;
      locals = did.env.scene.locals;
      body = subst (λ (ps : List (Direction × Ty)). AlongAll (IsStep (around (body_scene behind ps last.locals)) head.prototype.result) (with_exits outside done.0)) (sym head.params)
          (subst (λ (r : Ty). AlongAll (IsStep (around body) r) (with_exits outside done.0)) (sym head.result) typed_body);
    }

    left_is : IsEnv (left h.env done.1)
    unfolding left
    left_is = record {
      names = names_grow outer behind outer_grows h.env.names is.env.names;
      scene = behind_is;
      counted = record {
        structs = did.env.counted.structs;
        globals = is.env.counted.globals;
        blocks = is.env.counted.blocks;
        interfaces = is.env.counted.interfaces;
        prototypes = is.env.counted.prototypes;
        params = is.env.counted.params;
        locals = is.env.counted.locals;
        known_globals = is.env.counted.known_globals;
        known_locals = is.env.counted.known_locals;
      };
    }

    pub left_top : TopDone stage h.env (left h.env done.1)
    unfolding left
    left_top = record { env = left_is; grows = outer_grows; top = behind_top }

    pub left_fits : FunctionFits (left h.env done.1).scene made
    unfolding left
    left_fits = function_fits

  -- what is left behind a body, and its function
  abbrev Bodied : Function × Env → Type 0
  Bodied done = TopDone stage h.env done.1 × FunctionFits done.1.scene done.0

  pub bodied_top : (name : Name) (body : List Statement) → AllByRecursion IsFormedStmt body → Holds Bodied (bodied h name body)
  bodied_top name body formed =
      holds_after (λ (done : List Stmt × Env). DidAll h.result outside (entered h) done × Keeps (entered h) done.1) Bodied (statements h.result body nowhere (entered h))
      (λ done. Ok (record { prototype = h.number; locals = done.1.scene.locals; body = done.0; place = name.place }, left h.env done.1))
      (two_hold (DidAll h.result outside (entered h)) (λ (done : List Stmt × Env). Keeps (entered h) done.1) (statements h.result body nowhere (entered h))
      (statements_are h.result body nowhere formed (entered h) (entered_is h is) (entered_result h is)) (statements_keep h.result body nowhere (entered h) (entered_open h)))
      (λ done both. (left_top name done both.0 both.1, left_fits name done both.0 both.1))

-- ---- functions

-- what is declared so far, with the functions that have a body
pub record FunctionsDone (stage : Stage) (before : Env) (done : List Function × Env) : Type 0 where
  pub top : TopDone stage before done.1
  pub functions : AllByRecursion (FunctionFits done.1.scene) done.0

pub functions_grow : (s t : Scene) → IsScene s → Grows s t → (functions : List Function) → AllByRecursion (FunctionFits s) functions → AllByRecursion (FunctionFits t) functions
functions_grow s t fine grows functions all = all_map (FunctionFits s) (FunctionFits t) functions (function_grows s t fine grows) all

all_formed_stmts : (all : List Statement) → IsTrue (list_all stmt_formed all) → AllByRecursion IsFormedStmt all
all_formed_stmts [] is = tt
all_formed_stmts (s ∷ all) is = let parts = and_parts (stmt_formed s) (list_all stmt_formed all) is in (parts.0, all_formed_stmts all parts.1)

module _ (stage : Stage) (env : Env) (fine : IsEnv env) (top : IsTop stage env.scene) (functions : List Function) (all : AllByRecursion (FunctionFits env.scene) functions) where
  with_body_top : (h : Headed) → HeadDone stage env h → (name : Name) (body : Body) → IsTrue (body_formed body) → Holds (FunctionsDone stage env) (with_body h functions name body)
  with_body_top h done name (body_of.Prototype place) formed = record { top = done.done; functions = functions_grow env.scene h.env.scene fine.scene done.done.grows functions all }
  with_body_top h done name (body_of.Block place body) formed =
      holds_after (Bodied stage h done.headed done.done.top done.head) (FunctionsDone stage env) (bodied h name body) (λ made. Ok (functions ++ made.0 ∷ [], made.1))
      (bodied_top stage h done.headed done.done.top done.head name body (all_formed_stmts body formed))
      (λ made is.
      let whole = top_then stage env h.env made.1 done.done is.0 in
      record { top = whole; functions = all_append (FunctionFits made.1.scene) functions (made.0 ∷ []) (functions_grow env.scene made.1.scene fine.scene whole.grows functions all) (is.1, tt) })

  pub function_top : (f : FunctionTree) → IsTrue (head_formed f && body_formed f.body) → Holds (FunctionsDone stage env) (function f functions env)
  unfolding function
  function_top f formed =
      let parts = and_parts (head_formed f) (body_formed f.body) formed in
      holds_after (HeadDone stage env) (FunctionsDone stage env) (header env functions f) (λ h. with_body h functions f.name f.body) (header_done stage env fine top functions f parts.0)
      (λ h done. with_body_top h done f.name f.body parts.1)
