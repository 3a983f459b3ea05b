-- Declarations among statements are well typed statements, and what is declared behind them is sound.
use Rattle.std.proofs.Common.{◌≡◌, refl, sym, ◌∙◌, subst, ℕ, ◌≤◌, List, [], ◌∷◌, ◌++◌, map, length, slice_get, Option, Some, None, is_none, Bool, false, not, ◌&&◌, IsTrue, Ok, arith}
use Rattle.std.specs.List.{AllByRecursion}
use Rattle.std.proofs.lemmas.Bool.{and_parts, lt-ltb}
use Rattle.std.proofs.lemmas.Option.{none-some, cond_some}
use Rattle.gsl_base.specs.Checked.{◌>>=◌}
use Rattle.gsl_base.specs.declared.fault.Code.TheVariants.{E0403, E0404, E0504, E0507, E0510, E0604, E0701, E0908}
use Rattle.gsl_syntax.specs.declared.expr.TypeSpec.{TypeSpec}
use Rattle.gsl_syntax.specs.declared.declaration.Name.{Name}
use Rattle.gsl_syntax.specs.declared.declaration.Qual.{Qual}
use Rattle.gsl_syntax.specs.declared.declaration.Struct.{Struct}
use Rattle.gsl_syntax.specs.declared.declaration.Decl.{Decl}
use Rattle.gsl_syntax.specs.declared.declaration.Decl.TheVariants as decl
use Rattle.gsl_syntax.specs.declared.declaration.Declarator.{Declarator}
use Rattle.gsl_syntax.specs.declared.declaration.Declarator.TheVariants as declarator_of
use Rattle.gsl_types.specs.Known.{IsSound}
use Rattle.gsl_types.proofs.Layers.{sound_struct}
use Rattle.gsl_types.specs.declared.ty.Ty.{Ty}
use Rattle.gsl_types.specs.declared.ty.Ty.TheVariants as ty
use Rattle.gsl_tree.specs.declared.expr.Expr.{Expr}
use Rattle.gsl_tree.specs.declared.folded.Folded.{Folded}
use Rattle.gsl_tree.specs.declared.folded.Folded.TheVariants.{NotConstant}
use Rattle.gsl_tree.specs.declared.stmt.Stmt.{Stmt, out-Stmt}
use Rattle.gsl_tree.specs.declared.stmt.Stmt.TheOpen.{Stmt-F}
use Rattle.gsl_tree.specs.declared.stmt.Stmt.TheVariants as stmt
use Rattle.gsl_tree.specs.declared.stmt.Stmt.TheVariants.{outs-Empty, outs-Declare, outs-Group}
use Rattle.gsl_tree.specs.declared.stmt.Arm.{Arm}
use Rattle.gsl_tree.specs.Around.{Around}
use Rattle.gsl_tree.specs.Trees.{Exits, exprs_of, inner_of, with_exits, Along, AlongAll}
use Rattle.gsl_tree.specs.Expressions.{IsExpr, MayBeRead}
use Rattle.gsl_tree.specs.WellTyped.{IsVariableType}
use Rattle.gsl_typing.specs.declared.scene.Scene.{Scene}
use Rattle.gsl_typing.specs.declared.scene.Part.{Part}
use Rattle.gsl_typing.specs.Rows.{fault}
use Rattle.gsl_typing.specs.Scene.{around, type_in}
use Rattle.gsl_typing.specs.Conversions.{serves_as, as_type}
use Rattle.gsl_typing.specs.Uses.{is_unread}
use Rattle.gsl_check_expr.specs.declared.env.Env.{Env}
use Rattle.gsl_check_expr.specs.declared.writing.Written.{Written}
use Rattle.gsl_check_expr.specs.declared.writing.Written.TheVariants.{Whole}
use Rattle.gsl_check_expr.specs.Expressions.{bracket}
use Rattle.gsl_check_expr.specs.Written.{written_type, declared, whole_type}
use Rattle.gsl_check_expr.specs.Initialisers.{initial, begun_type, served, sized_as}
use Rattle.gsl_check_decl.specs.Steps.{Step, in_turn, as_one}
use Rattle.gsl_check_decl.specs.Declaring.{is_declared, is_reserved, may_be_had, is_high}
use Rattle.gsl_check_decl.specs.Locals.{qualified, with_local, may_be_plain, plain_variable, known_as, set_variable, begun_as, may_begin, begun_variable, declarator}
use Rattle.gsl_check_decl.specs.Structs.{structured}
use Rattle.gsl_check_decl.specs.Declarations.{variables, struct_and_variables, declared_by, declaration}
use Rattle.gsl_check_decl.proofs.Gathering.{Holds, holds_after, holds_then}
use Rattle.gsl_formed.specs.Formed.{init_formed, is_name, struct_formed, declarator_formed, declarators_formed, decl_formed, dims_formed, spec_formed}
use Rattle.gsl_check_law.specs.Parts.{IsTaken}
use Rattle.gsl_check_law.specs.Scenes.{IsEnv}
use Rattle.gsl_check_law.proofs.Rows.{row, there, so}
use Rattle.gsl_check_law.proofs.Parts.{IsRead}
use Rattle.gsl_check_law.proofs.Building.{plain_settled}
use Rattle.gsl_check_law.proofs.Operators.{operand_of}
use Rattle.gsl_check_law.proofs.Lists.{GoodAt, initial_typed}
use Rattle.gsl_check_law.proofs.Longer.{Grows, grows_itself, grows_then}
use Rattle.gsl_check_law.proofs.Growing.{expr_grows, read_grows}
use Rattle.gsl_check_law.proofs.Standing.{stmt_grows}
use Rattle.gsl_check_law.proofs.Declaring.{at_more, written_good, declared_good, variable_is, local_grown, structured_is, StructDone, struct_counted, begun_counted, IsGood, whole_good}
use Rattle.gsl_check_law.specs.Small.{IsCounted, IsSmallFolded}
use Rattle.gsl_tree.specs.Constants.{constant_of}
use Rattle.gsl_check_law.proofs.Counted.{constant_small, type_counted}
use Rattle.gsl_tree.specs.Statements.{IsStep, IsStmt, MayStand}

-- ---- statements from their forms

pub stmt_at : (around : Around) (result : Ty) (exits : Exits) (s : Stmt) (form : Stmt-F Stmt Arm) → out-Stmt s ≡ form → MayStand around result exits form → AllByRecursion (IsExpr around) (exprs_of form)
    → AllByRecursion (MayBeRead around) (exprs_of form) → AlongAll (IsStep around result) (inner_of exits form) → IsStmt around result exits s
stmt_at around result exits s form is stands typed reads inner =
    Along.whole exits s (record {
      stands = subst (MayStand around result exits) (sym is) stands;
      typed = subst (λ (f : Stmt-F Stmt Arm). AllByRecursion (IsExpr around) (exprs_of f)) (sym is) typed;
      reads = subst (λ (f : Stmt-F Stmt Arm). AllByRecursion (MayBeRead around) (exprs_of f)) (sym is) reads;
    }) (subst (λ (f : Stmt-F Stmt Arm). AlongAll (IsStep around result) (inner_of exits f)) (sym is) inner)

pub found_last : {X : Type 0} (xs : List X) (y : X) → slice_get (xs ++ y ∷ []) (length xs) ≡ Some y
found_last [] y = refl
found_last (x ∷ xs) y = found_last xs y

-- what was declared behind a statement is sound and begins as before, and the statement is well typed in it
pub record Did (result : Ty) (exits : Exits) (before : Env) (done : Stmt × Env) : Type 0 where
  pub env : IsEnv done.1
  pub grows : Grows before.scene done.1.scene
  pub stmt : IsStmt (around done.1.scene) result exits done.0

pub record DidAll (result : Ty) (exits : Exits) (before : Env) (done : List Stmt × Env) : Type 0 where
  pub env : IsEnv done.1
  pub grows : Grows before.scene done.1.scene
  pub stmts : AlongAll (IsStep (around done.1.scene) result) (with_exits exits done.0)

module _ (result : Ty) (exits : Exits) where
  behind : (env : Env) (first : Stmt × Env) (rest : List Stmt × Env) → Did result exits env first → DidAll result exits first.1 rest → DidAll result exits env (first.0 ∷ rest.0, rest.1)
  behind env first rest did all = record {
    env = all.env;
    grows = grows_then env.scene first.1.scene rest.1.scene did.grows all.grows;
    stmts = AlongAll.more (exits, first.0) (with_exits exits rest.0) (stmt_grows first.1.scene rest.1.scene did.env.scene all.grows result exits first.0 did.stmt) all.stmts;
  }

  -- steps one after the other, where something that is asked of what is declared lasts
  module _ (Q : Env → Type 0) (keeps : (a b : Env) → Grows a.scene b.scene → Q a → Q b) where
    abbrev pub Does : Step → Type 0
    Does step = (env : Env) → IsEnv env → Q env → Holds (Did result exits env) (step env)

    pub turns : (steps : List Step) → AllByRecursion Does steps → (env : Env) → IsEnv env → Q env → Holds (DidAll result exits env) (in_turn steps env)
    turns [] all env fine asked = record { env = fine; grows = grows_itself env.scene; stmts = AlongAll.none }
    turns (step ∷ steps) all env fine asked =
        holds_after (Did result exits env) (DidAll result exits env) (step env) (λ first. in_turn steps first.1 >>= (λ rest. Ok (first.0 ∷ rest.0, rest.1))) (all.0 env fine asked)
        (λ first did. holds_after (DidAll result exits first.1) (DidAll result exits env) (in_turn steps first.1) (λ rest. Ok (first.0 ∷ rest.0, rest.1)) (turns steps all.1 first.1 did.env (keeps env first.1 did.grows asked))
        (λ rest more. behind env first rest did more))

  abbrev Many : ℕ → Env → Type 0
  Many few env = few ≤ length env.scene.structs

  more_of : (few : ℕ) (a b : Env) → Grows a.scene b.scene → Many few a → Many few b
  more_of few a b grows le = let count = grows.count in omega (arith, le, count)

  abbrev DoesAt : ℕ → Step → Type 0
  DoesAt few step = Does (Many few) (more_of few) step

  -- ---- variables

  module _ (env : Env) (fine : IsEnv env) where
    abbrev scene : Scene
    scene = env.scene

    plain_declared : (t : Ty) (env2 : Env) → IsEnv env2 → Grows scene env2.scene → slice_get env2.scene.locals (length scene.locals) ≡ Some t → Did result exits env (stmt.Declare (length scene.locals) None, env2)
    plain_declared t after sound grows at = record {
      env = sound;
      grows = grows;
      stmt = stmt_at (around after.scene) result exits (stmt.Declare (length scene.locals) None) (Stmt-F.Declare (length scene.locals) None) (outs-Declare (length scene.locals) None) (t, at, tt) tt tt AlongAll.none;
    }

    last_local : (fixed : Bool) (name : List ℕ) (t : Ty) (folded : Folded) → slice_get (with_local fixed name t folded env).scene.locals (length scene.locals) ≡ Some t
    unfolding with_local
    last_local fixed name t folded = found_last scene.locals t

    plain_typed : (fixed : Bool) (name : Name) (t : Ty) → IsCounted t → Holds (Did result exits env) (plain_variable fixed name t env)
    unfolding plain_variable may_be_plain
    plain_typed fixed name t count_is =
        holds_after (λ _. IsVariableType scene.structs t) (Did result exits env) (may_be_plain fixed name t env) (λ _. Ok (stmt.Declare (length scene.locals) None, with_local false name.text t NotConstant env))
        (row (λ _. IsVariableType scene.structs t) name.place E0403 (is_declared env name.text) ((E0404, is_reserved name.text) ∷ (E0510, not (may_be_had scene t)) ∷ (E0604, fixed) ∷ (E0908, is_high scene t) ∷ []) (Ok tt)
        (λ _. row (λ _. IsVariableType scene.structs t) name.place E0404 (is_reserved name.text) ((E0510, not (may_be_had scene t)) ∷ (E0604, fixed) ∷ (E0908, is_high scene t) ∷ []) (Ok tt)
        (λ _. row (λ _. IsVariableType scene.structs t) name.place E0510 (not (may_be_had scene t)) ((E0604, fixed) ∷ (E0908, is_high scene t) ∷ []) (Ok tt)
        (λ had. row (λ _. IsVariableType scene.structs t) name.place E0604 fixed ((E0908, is_high scene t) ∷ []) (Ok tt)
        (λ _. row (λ _. IsVariableType scene.structs t) name.place E0908 (is_high scene t) [] (Ok tt)
        (λ low. variable_is env fine t had low))))))
        (λ _ is.
        let grown = local_grown env fine false name.text t NotConstant is count_is tt in
        plain_declared t (with_local false name.text t NotConstant env) grown.0 grown.1 (last_local false name.text t NotConstant))

    -- the type that a variable has by its initialiser
    served_is : (x : Part) (o : Option Ty) (t : Ty) → served x o ≡ Some t → IsTrue (serves_as (type_in x) t)
    served_is x None t is = elim (none-some t is) [ ]
    served_is x (Some u) t is =
        let parts = cond_some (serves_as (type_in x) u) u t is in
        subst (λ (v : Ty). IsTrue (serves_as (type_in x) v)) parts.1 parts.0

    begun_serves : (w : Written) (x : Part) (t : Ty) → begun_type w x ≡ Some t → IsTrue (serves_as (type_in x) t)
    unfolding begun_type
    begun_serves w x t is = served_is x (sized_as w (type_in x)) t is

    abbrev Begins : Written → Part → Ty → Type 0
    Begins w x t = IsVariableType scene.structs t × IsTrue (serves_as (type_in x) t) × (is_unread scene x ≡ false) × (begun_type w x ≡ Some t)

    begins : (name : Name) (w : Written) (x : Part) → Holds (Begins w x) (may_begin name w x env)
    unfolding may_begin
    begins name w x =
        row (Begins w x) name.place E0403 (is_declared env name.text) ((E0404, is_reserved name.text) ∷ (E0504, is_none (begun_type w x)) ∷ (E0507, is_unread scene x) ∷ (E0510, not (may_be_had scene (begun_as w x))) ∷ (E0908, is_high scene (begun_as w x)) ∷ []) (Ok (begun_as w x))
        (λ _. row (Begins w x) name.place E0404 (is_reserved name.text) ((E0504, is_none (begun_type w x)) ∷ (E0507, is_unread scene x) ∷ (E0510, not (may_be_had scene (begun_as w x))) ∷ (E0908, is_high scene (begun_as w x)) ∷ []) (Ok (begun_as w x))
        (λ _. row (Begins w x) name.place E0504 (is_none (begun_type w x)) ((E0507, is_unread scene x) ∷ (E0510, not (may_be_had scene (begun_as w x))) ∷ (E0908, is_high scene (begun_as w x)) ∷ []) (Ok (begun_as w x))
        (λ serves. row (Begins w x) name.place E0507 (is_unread scene x) ((E0510, not (may_be_had scene (begun_as w x))) ∷ (E0908, is_high scene (begun_as w x)) ∷ []) (Ok (begun_as w x))
        (λ read. row (Begins w x) name.place E0510 (not (may_be_had scene (begun_as w x))) ((E0908, is_high scene (begun_as w x)) ∷ []) (Ok (begun_as w x))
        (λ had. row (Begins w x) name.place E0908 (is_high scene (begun_as w x)) [] (Ok (begun_as w x))
        (λ low. (variable_is env fine (begun_as w x) had low, begun_serves w x (begun_as w x) (there (begun_type w x) ty.Void serves), read, there (begun_type w x) ty.Void serves)))))))

    known_small : (fixed : Bool) (e : Expr) → IsSmallFolded (constant_of scene.consts e) → IsSmallFolded (known_as scene fixed e)
    known_small Bool.true e is = is
    known_small false e is = tt

    set_typed : (fixed : Bool) (name : Name) (t : Ty) (e : Expr) → IsCounted t → IsVariableType scene.structs t → IsRead (around scene) t e → Holds (Did result exits env) (set_variable fixed name t e env)
    unfolding set_variable
    set_typed fixed name t e count_is is read =
        let folded = known_as scene fixed e in
        let grown = local_grown env fine fixed name.text t folded is count_is (known_small fixed e (constant_small scene fine.scene fine.counted e read.expr)) in
        let after = with_local fixed name.text t folded env in
        record {
          env = grown.0;
          grows = grown.1;
          stmt = stmt_at (around after.scene) result exits (stmt.Declare (length scene.locals) (Some e)) (Stmt-F.Declare (length scene.locals) (Some e)) (outs-Declare (length scene.locals) (Some e))
              (t, last_local fixed name.text t folded, read.type) (expr_grows scene after.scene fine.scene grown.1 e read.expr, tt) (read_grows scene after.scene fine.scene grown.1 e read.expr read.reads, tt) AlongAll.none;
        }

    begun_typed : (fixed : Bool) (name : Name) (w : Written) (x : Part) → GoodAt (length scene.structs) w → IsTaken scene x → Holds (Did result exits env) (begun_variable fixed name w x env)
    unfolding begun_variable
    begun_typed fixed name w x good taken =
        holds_after (Begins w x) (Did result exits env) (may_begin name w x env) (λ t. set_variable fixed name t (as_type t x.expr) env) (begins name w x)
        (λ t is. set_typed fixed name t (as_type t x.expr) (begun_counted (length scene.structs) w x t good (type_counted scene fine.scene fine.counted x.expr taken.part.expr) is.3) is.0 (operand_of scene t x taken is.2 is.1 (plain_settled t is.0.plain)))

  declarator_typed : (few : ℕ) (fixed : Bool) (base : Written) (d : Declarator) → GoodAt few base → IsTrue (declarator_formed d) → DoesAt few (declarator fixed base d)
  unfolding declarator
  declarator_typed few fixed base (declarator_of.Plain name dims) good formed env fine le =
      let parts = and_parts (is_name name.text) (dims_formed dims) formed in
      holds_after (GoodAt (length env.scene.structs)) (Did result exits env) (declared (map (bracket env) dims) base) (λ t. whole_type t >>= (λ whole. plain_variable fixed name whole env))
      (declared_good env fine dims base parts.1 (at_more few (length env.scene.structs) base le good))
      (λ t is. holds_after (IsGood (length env.scene.structs)) (Did result exits env) (whole_type t) (λ whole. plain_variable fixed name whole env) (whole_good (length env.scene.structs) t is) (λ whole fits. plain_typed env fine fixed name whole fits.1))
  declarator_typed few fixed base (declarator_of.Initialised name dims init) good formed env fine le =
      let first = and_parts (is_name name.text) (dims_formed dims && init_formed init) formed in
      let begins = and_parts (dims_formed dims) (init_formed init) first.1 in
      holds_after (GoodAt (length env.scene.structs)) (Did result exits env) (declared (map (bracket env) dims) base) (λ t. initial env t init >>= (λ x. begun_variable fixed name t x env))
      (declared_good env fine dims base begins.0 (at_more few (length env.scene.structs) base le good))
      (λ t is. holds_after (IsTaken env.scene) (Did result exits env) (initial env t init) (λ x. begun_variable fixed name t x env) (initial_typed env fine t init is begins.1) (λ x taken. begun_typed env fine fixed name t x is taken))

  all_declarators : (few : ℕ) (fixed : Bool) (base : Written) (all : List Declarator) → GoodAt few base → IsTrue (declarators_formed all) → AllByRecursion (DoesAt few) (map (declarator fixed base) all)
  all_declarators few fixed base [] good formed = tt
  all_declarators few fixed base (d ∷ all) good formed =
      let parts = and_parts (declarator_formed d) (declarators_formed all) formed in
      (declarator_typed few fixed base d good parts.0, all_declarators few fixed base all good parts.1)

  only_one : (around : Around) (one : Stmt) → AlongAll (IsStep around result) (with_exits exits (one ∷ [])) → IsStmt around result exits one
  only_one around one (AlongAll.more _ _ is rest) = is

  -- ---- declarations

  module _ (env : Env) (fine : IsEnv env) where
    abbrev here : ℕ
    here = length env.scene.structs

    variables_typed : (quals : List Qual) (t : TypeSpec) (all : List Declarator) → IsTrue (spec_formed t && declarators_formed all) → Holds (DidAll result exits env) (variables quals t all env)
    unfolding variables
    variables_typed quals t all formed =
        let parts = and_parts (spec_formed t) (declarators_formed all) formed in
        holds_then (DidAll result exits env) (qualified env quals) (λ fixed. written_type env t >>= (λ base. in_turn (map (declarator fixed base) all) env))
        (λ fixed. holds_after (GoodAt here) (DidAll result exits env) (written_type env t) (λ base. in_turn (map (declarator fixed base) all) env) (written_good env fine t parts.0)
        (λ base good. turns (Many here) (more_of here) (map (declarator fixed base) all) (all_declarators here fixed base all good parts.1) env fine (omega arith)))

    struct_typed : (quals : List Qual) (s : Struct) (all : List Declarator) → IsTrue (struct_formed s && declarators_formed all) → Holds (DidAll result exits env) (struct_and_variables quals s all env)
    unfolding struct_and_variables
    struct_typed quals s all formed =
        let parts = and_parts (struct_formed s) (declarators_formed all) formed in
        holds_then (DidAll result exits env) (qualified env quals) (λ fixed. structured s env >>= (λ done. in_turn (map (declarator fixed (Whole (ty.Struct done.0))) all) done.1))
        (λ fixed. holds_after (StructDone env fine) (DidAll result exits env) (structured s env) (λ done. in_turn (map (declarator fixed (Whole (ty.Struct done.0))) all) done.1) (structured_is env fine s parts.0)
        (λ done is.
        let few = length done.1.scene.structs in
        let known : IsSound few (ty.Struct done.0) = sound_struct few done.0 ∙ lt-ltb done.0 few is.1 in
        so (DidAll result exits done.1) (DidAll result exits env) (in_turn (map (declarator fixed (Whole (ty.Struct done.0))) all) done.1)
        (turns (Many few) (more_of few) (map (declarator fixed (Whole (ty.Struct done.0))) all) (all_declarators few fixed (Whole (ty.Struct done.0)) all (known, struct_counted done.0) parts.1) done.1 is.0.0 (omega arith))
        (λ last more. record { env = more.env; grows = grows_then env.scene done.1.scene last.1.scene is.0.1 more.grows; stmts = more.stmts })))

    all_typed : (d : Decl) → IsTrue (decl_formed d) → Holds (DidAll result exits env) (declared_by d env)
    unfolding declared_by
    all_typed (decl.Variables quals t all) formed = variables_typed quals t all formed
    all_typed (decl.Struct quals s all) formed = struct_typed quals s all formed
    all_typed (decl.Block quals name members instance) formed = holds_then (DidAll result exits env) (qualified env quals) (λ fixed. fault name.place E0701) (λ fixed. tt)
    all_typed (decl.Quals quals) formed = holds_then (DidAll result exits env) (qualified env quals) (λ fixed. Ok ([], env)) (λ fixed. record { env = fine; grows = grows_itself env.scene; stmts = AlongAll.none })

    one_of : (stmts : List Stmt) (after : Env) → DidAll result exits env (stmts, after) → Did result exits env (as_one stmts, after)
    one_of [] after did = record { env = did.env; grows = did.grows; stmt = stmt_at (around after.scene) result exits stmt.Empty Stmt-F.Empty outs-Empty tt tt tt AlongAll.none }
    one_of (one ∷ []) after did = record { env = did.env; grows = did.grows; stmt = only_one (around after.scene) one did.stmts }
    one_of (one ∷ two ∷ more) after did = record { env = did.env; grows = did.grows; stmt = stmt_at (around after.scene) result exits (stmt.Group (one ∷ two ∷ more)) (Stmt-F.Group (one ∷ two ∷ more)) (outs-Group (one ∷ two ∷ more)) tt tt tt did.stmts }

    pub declaration_typed : (d : Decl) → IsTrue (decl_formed d) → Holds (Did result exits env) (declaration d env)
    unfolding declaration
    declaration_typed d formed =
        holds_after (DidAll result exits env) (Did result exits env) (declared_by d env) (λ done. Ok (as_one done.0, done.1)) (all_typed d formed) (λ done did. one_of done.0 done.1 did)
