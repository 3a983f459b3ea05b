-- What a unit declares is no deeper than it may be, where its syntax tree is not.
use Rattle.std.proofs.Common.{ℕ, ◌≤◌, List, [], ◌∷◌, ◌++◌, map, length, Option, Some, None, is_none, Bool, true, false, not, Ok, arith, unwrap_or}
use Rattle.std.specs.List.{AllByRecursion}
use Rattle.gsl_base.specs.Checked.{◌>>=◌}
use Rattle.gsl_base.specs.declared.fault.Code.TheVariants.{E0403, E0404, E0504, E0507, E0510, E0701, E0702, E0703}
use Rattle.gsl_base.specs.declared.fault.Place.{Place}
use Rattle.gsl_syntax.specs.declared.expr.TypeSpec.{TypeSpec}
use Rattle.gsl_syntax.specs.declared.declaration.Decl.{Decl}
use Rattle.gsl_syntax.specs.declared.declaration.Decl.TheVariants as decl
use Rattle.gsl_syntax.specs.declared.declaration.Declarator.{Declarator}
use Rattle.gsl_syntax.specs.declared.declaration.Declarator.TheVariants as declarator_of
use Rattle.gsl_syntax.specs.declared.declaration.Member.{Member as Line}
use Rattle.gsl_syntax.specs.declared.declaration.Name.{Name}
use Rattle.gsl_syntax.specs.declared.declaration.Qual.{Qual}
use Rattle.gsl_syntax.specs.declared.declaration.Struct.{Struct}
use Rattle.gsl_syntax.specs.declared.statement.Body.{Body}
use Rattle.gsl_syntax.specs.declared.statement.Body.TheVariants as body_of
use Rattle.gsl_syntax.specs.declared.statement.Function.{Function as FunctionTree}
use Rattle.gsl_syntax.specs.declared.statement.Global.{Global}
use Rattle.gsl_syntax.specs.declared.statement.Global.TheVariants as global
use Rattle.gsl_types.specs.declared.ty.Member.{Member}
use Rattle.gsl_types.specs.declared.ty.Ty.{Ty}
use Rattle.gsl_types.specs.declared.ty.Ty.TheVariants as ty
use Rattle.gsl_tree.specs.declared.folded.Folded.{Folded}
use Rattle.gsl_tree.specs.declared.folded.Folded.TheVariants.{NotConstant}
use Rattle.gsl_tree.specs.declared.unit.Block.{Block}
use Rattle.gsl_tree.specs.declared.unit.Function.{Function}
use Rattle.gsl_tree.specs.declared.unit.GlobalVar.{GlobalVar}
use Rattle.gsl_tree.specs.declared.unit.Interface.{Interface}
use Rattle.gsl_tree.specs.declared.unit.Prototype.{Prototype}
use Rattle.gsl_tree.specs.Statements.{deepest, expr_depth, depth_in, stmt_depth, most_deep}
use Rattle.gsl_typing.specs.declared.scene.Part.{Part}
use Rattle.gsl_typing.specs.Conversions.{as_type}
use Rattle.gsl_typing.specs.Uses.{is_unread}
use Rattle.gsl_check_expr.specs.declared.env.Env.{Env}
use Rattle.gsl_check_expr.specs.declared.writing.Written.{Written}
use Rattle.gsl_check_expr.specs.declared.writing.Written.TheVariants.{Whole}
use Rattle.gsl_check_expr.specs.Expressions.{bracket}
use Rattle.gsl_check_expr.specs.Initialisers.{initial, begun_type}
use Rattle.gsl_check_expr.specs.Written.{declared, whole_type, written_type}
use Rattle.gsl_check_decl.specs.Declaring.{is_declared, is_reserved, may_be_had}
use Rattle.gsl_check_decl.specs.Globals.{with_global, with_interface, with_head, with_block}
use Rattle.gsl_check_decl.specs.Locals.{may_be_plain, begun_as}
use Rattle.gsl_check_decl.specs.Structs.{with_lines, with_struct, may_be_struct, structured}
use Rattle.gsl_check_decl.proofs.Gathering.{Holds, holds_after, holds_then}
use Rattle.gsl_check_stmt.specs.Statements.{statements}
use Rattle.gsl_qualifiers.specs.declared.qualified.Role.{Role}
use Rattle.gsl_qualifiers.specs.declared.qualified.Role.TheVariants.{Variable, Input, Output, Uniform, Buffer, Push, Member as MemberRole, Size, Nothing}
use Rattle.gsl_qualifiers.specs.declared.qualified.Qualified.{Qualified}
use Rattle.gsl_qualifiers.specs.Qualifiers.{role_alone, qualified}
use Rattle.gsl_check_globals.specs.Variables.{Declares, all_declared, declarator, plain_by, begun_by, plain_global, plain_variable, may_begin, set_variable, begun_variable, interface, begun_interface, may_be_interface, is_no_interface}
use Rattle.gsl_check_globals.specs.Globals.{variables, struct_and_variables, states_none, with_size, sized_at, alone}
use Rattle.gsl_check_blocks.specs.Blocks as blocks
use Rattle.gsl_check_heads.specs.Heads.{Headed, headed_by, headed, head_number, declared_head, header, params_in, typed_params, may_be_head, is_block, with_number, entered, left}
use Rattle.gsl_check.specs.Functions.{nowhere, bodied, with_body, function}
use Rattle.gsl_check.specs.Units.{declaration, Progress, with_functions, next, all, begun}
use Rattle.gsl_formed.specs.Nested.{init_arms, declarator_arms, decl_arms, stmt_arms, body_arms, global_arms, IsShallow}
use Rattle.gsl_check_law.proofs.Rows.{so}
use Rattle.gsl_check_law.proofs.Found.{all_append}
use Rattle.gsl_check_law.proofs.Deep.{At, as_type_depth, skip}
use Rattle.gsl_check_law.proofs.Outer.{never_given}
use Rattle.gsl_check_law.proofs.Shallows.{LowAll, initial_deep}
use Rattle.gsl_check_law.proofs.Lower.{statements_low}
use Rattle.gsl_base.specs.declared.stage.Stage.{Stage}

abbrev pub GlobalShallow : GlobalVar → Type 0
GlobalShallow g = depth_in g.init ≤ most_deep

abbrev pub FunctionShallow : Function → Type 0
FunctionShallow f = deepest (map stmt_depth f.body) ≤ most_deep

-- the globals of what is declared are no deeper than they may be
abbrev pub Shallow : Env → Type 0
Shallow env = AllByRecursion GlobalShallow env.scene.globals

-- ---- what leaves the globals as they are

module _ (env : Env) (is : Shallow env) where
  behind_global : (g : GlobalVar) (folded : Folded) → GlobalShallow g → Shallow (with_global g folded env)
  unfolding with_global
  behind_global g folded low = all_append GlobalShallow env.scene.globals (g ∷ []) is (low, tt)

  behind_interface : (i : Interface) → Shallow (with_interface i env)
  unfolding with_interface
  behind_interface i = is

  behind_head : (p : Prototype) → Shallow (with_head p env)
  unfolding with_head
  behind_head p = is

  behind_block : (b : Block) → Shallow (with_block b env)
  unfolding with_block
  behind_block b = is

  behind_struct : (name : List ℕ) (members : List Member) → Shallow (with_struct name members env)
  unfolding with_struct
  behind_struct name members = is

  behind_size : (q : Qualified) (place : Place) → Shallow (with_size q place env)
  behind_size q place = is

  behind_body : (after : Env) → Shallow (left env after)
  unfolding left
  behind_body after = is

  -- ---- variables

  interface_shallow : (output : Bool) (q : Qualified) (name : Name) (t : Ty) → Holds Shallow (interface output q name t env)
  unfolding interface
  interface_shallow output q name t =
      holds_then Shallow (may_be_interface output q name t env) (λ _. Ok (with_interface (record { name = name.text; ty = t; output = output; flat = q.flat; location = unwrap_or q.location 0; place = name.place }) env)) (λ _. behind_interface _)

  begun_refused : (output : Bool) (q : Qualified) (name : Name) (w : Written) (x : Part) → Holds Shallow (begun_interface output q name w x env)
  unfolding begun_interface
  begun_refused output q name w x = never_given Shallow name.place (
      (E0403, is_declared env name.text) ∷ (E0404, is_reserved name.text) ∷ (E0504, is_none (begun_type w x)) ∷ (E0507, is_unread env.scene x) ∷ (E0510, not (may_be_had env.scene (begun_as w x)))
      ∷ (E0702, is_no_interface env.scene.stage output q (begun_as w x)) ∷ []) E0703

  plain_shallow : (fixed : Bool) (name : Name) (t : Ty) → Holds Shallow (plain_variable fixed name t env)
  unfolding plain_variable
  plain_shallow fixed name t = holds_then Shallow (may_be_plain fixed name t env) (λ _. Ok (with_global (plain_global name t) NotConstant env)) (λ _. behind_global (plain_global name t) NotConstant (omega arith))

  begun_shallow : (fixed : Bool) (name : Name) (w : Written) (x : Part) → expr_depth x.expr ≤ most_deep → Holds Shallow (begun_variable fixed name w x env)
  unfolding begun_variable set_variable
  begun_shallow fixed name w x low =
      holds_then Shallow (may_begin name w x env) (λ t. set_variable fixed name t (as_type t x.expr) env)
      (λ t. behind_global _ _ (let same = as_type_depth t x.expr in omega (arith, same, low)))

  plain_by_shallow : (role : Role) (q : Qualified) (name : Name) (t : Ty) → Holds Shallow (plain_by role q name t env)
  plain_by_shallow Variable q name t = plain_shallow q.fixed name t
  plain_by_shallow Input q name t = interface_shallow false q name t
  plain_by_shallow Output q name t = interface_shallow true q name t
  plain_by_shallow Uniform q name t = plain_shallow q.fixed name t
  plain_by_shallow Buffer q name t = plain_shallow q.fixed name t
  plain_by_shallow Push q name t = plain_shallow q.fixed name t
  plain_by_shallow (MemberRole in_buffer) q name t = plain_shallow q.fixed name t
  plain_by_shallow Size q name t = plain_shallow q.fixed name t
  plain_by_shallow Nothing q name t = plain_shallow q.fixed name t

  begun_by_shallow : (role : Role) (q : Qualified) (name : Name) (w : Written) (x : Part) → expr_depth x.expr ≤ most_deep → Holds Shallow (begun_by role q name w x env)
  begun_by_shallow Variable q name w x low = begun_shallow q.fixed name w x low
  begun_by_shallow Input q name w x low = begun_refused false q name w x
  begun_by_shallow Output q name w x low = begun_refused true q name w x
  begun_by_shallow Uniform q name w x low = begun_shallow q.fixed name w x low
  begun_by_shallow Buffer q name w x low = begun_shallow q.fixed name w x low
  begun_by_shallow Push q name w x low = begun_shallow q.fixed name w x low
  begun_by_shallow (MemberRole in_buffer) q name w x low = begun_shallow q.fixed name w x low
  begun_by_shallow Size q name w x low = begun_shallow q.fixed name w x low
  begun_by_shallow Nothing q name w x low = begun_shallow q.fixed name w x low

-- ---- one after the other

abbrev Does : Declares → Type 0
Does step = (env : Env) → Shallow env → Holds Shallow (step env)

steps_shallow : (steps : List Declares) → AllByRecursion Does steps → (env : Env) → Shallow env → Holds Shallow (all_declared steps env)
steps_shallow [] all env is = is
steps_shallow (step ∷ steps) all env is = holds_after Shallow Shallow (step env) (all_declared steps) (all.0 env is) (λ next so. steps_shallow steps all.1 next so)

declarator_shallow : (role : Role) (q : Qualified) (base : Written) (d : Declarator) → declarator_arms d ≤ most_deep → Does (declarator role q base d)
unfolding declarator
declarator_shallow role q base (declarator_of.Plain name dims) le env is =
    holds_then Shallow (declared (map (bracket env) dims) base) (λ t. whole_type t >>= (λ whole. plain_by role q name whole env))
    (λ t. holds_then Shallow (whole_type t) (λ whole. plain_by role q name whole env) (λ whole. plain_by_shallow env is role q name whole))
declarator_shallow role q base (declarator_of.Initialised name dims init) le env is =
    holds_then Shallow (declared (map (bracket env) dims) base) (λ t. initial env t init >>= (λ x. begun_by role q name t x env))
    (λ t. holds_after (At (init_arms init)) Shallow (initial env t init) (λ x. begun_by role q name t x env) (initial_deep env t init) (λ x at. begun_by_shallow env is role q name t x (omega (arith, at, le))))

declarators_shallow : (role : Role) (q : Qualified) (base : Written) (all : List Declarator) → deepest (map declarator_arms all) ≤ most_deep → AllByRecursion Does (map (declarator role q base) all)
declarators_shallow role q base [] le = tt
declarators_shallow role q base (d ∷ all) le = (declarator_shallow role q base d (omega (arith, le)), declarators_shallow role q base all (omega (arith, le)))

-- ---- declarations

module _ (env : Env) (is : Shallow env) where
  variables_shallow : (role : Role) (quals : List Qual) (t : TypeSpec) (all : List Declarator) → deepest (map declarator_arms all) ≤ most_deep → Holds Shallow (variables role quals t all env)
  unfolding variables
  variables_shallow role quals t all le =
      holds_then Shallow (qualified env role quals) (λ q. written_type env t >>= (λ base. all_declared (map (declarator role q base) all) env))
      (λ q. holds_then Shallow (written_type env t) (λ base. all_declared (map (declarator role q base) all) env) (λ base. steps_shallow (map (declarator role q base) all) (declarators_shallow role q base all le) env is))

  structured_shallow : (s : Struct) → Holds (λ (done : ℕ × Env). Shallow done.1) (structured s env)
  unfolding structured
  structured_shallow s =
      let P = λ (done : ℕ × Env). Shallow done.1 in
      holds_then P (with_lines env s.members []) (λ members. may_be_struct s.name members env >>= (λ _. Ok (length env.scene.structs, with_struct s.name.text members env)))
      (λ members. holds_then P (may_be_struct s.name members env) (λ _. Ok (length env.scene.structs, with_struct s.name.text members env)) (λ _. behind_struct env is s.name.text members))

  struct_shallow : (role : Role) (quals : List Qual) (s : Struct) (all : List Declarator) → deepest (map declarator_arms all) ≤ most_deep → Holds Shallow (struct_and_variables role quals s all env)
  unfolding struct_and_variables
  struct_shallow role quals s all le =
      holds_then Shallow (qualified env role quals) (λ q. structured s env >>= (λ done. all_declared (map (declarator role q (Whole (ty.Struct done.0))) all) done.1))
      (λ q. holds_after (λ (done : ℕ × Env). Shallow done.1) Shallow (structured s env) (λ done. all_declared (map (declarator role q (Whole (ty.Struct done.0))) all) done.1) (structured_shallow s)
      (λ done so. steps_shallow (map (declarator role q (Whole (ty.Struct done.0))) all) (declarators_shallow role q (Whole (ty.Struct done.0)) all le) done.1 so))

  block_shallow : (role : Role) (quals : List Qual) (name : Name) (lines : List Line) (instance : Option Name) → Holds Shallow (blocks.block role quals name lines instance env)
  unfolding blocks.block blocks.block_with
  block_shallow role quals name lines instance =
      holds_then Shallow (qualified env role quals) (λ q. blocks.with_lines (blocks.frame_of (blocks.kind_of role) instance q) env lines [] >>= (λ members. blocks.block_with (blocks.kind_of role) q name instance members env))
      (λ q. holds_then Shallow (blocks.with_lines (blocks.frame_of (blocks.kind_of role) instance q) env lines []) (λ members. blocks.block_with (blocks.kind_of role) q name instance members env)
      (λ members. let b = blocks.block_of (blocks.kind_of role) q name instance members env.scene.structs in
      holds_then Shallow (blocks.may_be_instance env instance) (λ _. blocks.may_be_block env q name instance b >>= (λ _. Ok (with_block b env)))
      (λ _. holds_then Shallow (blocks.may_be_block env q name instance b) (λ _. Ok (with_block b env)) (λ _. behind_block env is b))))

  sized_shallow : (q : Qualified) (o : Option Place) → Holds Shallow (sized_at q env o)
  sized_shallow q None = is
  sized_shallow q (Some place) = skip Shallow place ((E0701, states_none q) ∷ []) (Ok (with_size q place env)) (behind_size env is q place)

  alone_shallow : (quals : List Qual) → Holds Shallow (alone quals env)
  unfolding alone
  alone_shallow quals = holds_then Shallow (qualified env (role_alone env.scene.stage quals) quals) (λ q. sized_at q env q.within) (λ q. sized_shallow q q.within)

  declaration_shallow : (d : Decl) → decl_arms d ≤ most_deep → Holds Shallow (declaration d env)
  unfolding declaration
  declaration_shallow (decl.Variables quals t all) le = variables_shallow _ quals t all le
  declaration_shallow (decl.Struct quals s all) le = struct_shallow _ quals s all le
  declaration_shallow (decl.Block quals name lines instance) le = block_shallow _ quals name lines instance
  declaration_shallow (decl.Quals quals) le = alone_shallow quals

  -- ---- functions

  headed_shallow : (p : Prototype) (o : Option ℕ) → Shallow (headed_by p env o).1
  headed_shallow p None = behind_head env is p
  headed_shallow p (Some n) = is

  abbrev HeadShallow : Headed → Type 0
  HeadShallow h = Shallow h.env

  header_shallow : (functions : List Function) (f : FunctionTree) → Holds HeadShallow (header env functions f)
  unfolding header headed
  header_shallow functions f =
      holds_then HeadShallow (qualified env Nothing f.quals) (λ q. written_type env f.ty >>= (λ base. whole_type base >>= (λ result. params_in env f.params >>= (λ params. declared_head env functions (is_block f.body) f.name result params))))
      (λ q. holds_then HeadShallow (written_type env f.ty) (λ base. whole_type base >>= (λ result. params_in env f.params >>= (λ params. declared_head env functions (is_block f.body) f.name result params)))
      (λ base. holds_then HeadShallow (whole_type base) (λ result. params_in env f.params >>= (λ params. declared_head env functions (is_block f.body) f.name result params))
      (λ result. holds_then HeadShallow (params_in env f.params) (λ params. declared_head env functions (is_block f.body) f.name result params)
      (λ params. let p : Prototype = record { name = f.name.text; result = result; params = typed_params params; place = f.name.place } in
      holds_then HeadShallow (may_be_head env functions (is_block f.body) f.name result (typed_params params)) (λ _. Ok (with_number result params (headed p env)))
      (λ _. headed_shallow p (head_number f.name.text (typed_params params) env.scene.prototypes))))))

  abbrev FunctionsShallow : List Function × Env → Type 0
  FunctionsShallow done = Shallow done.1 × AllByRecursion FunctionShallow done.0

  body_shallow : (h : Headed) → HeadShallow h → (functions : List Function) → AllByRecursion FunctionShallow functions → (name : Name) (body : Body) → body_arms body ≤ most_deep → Holds FunctionsShallow (with_body h functions name body)
  body_shallow h so functions low name (body_of.Prototype place) le = (so, low)
  body_shallow h so functions low name (body_of.Block place stmts) le =
      let P = λ (done : Function × Env). Shallow done.1 × FunctionShallow done.0 in
      let n = deepest (map stmt_arms stmts) in
      holds_after P FunctionsShallow (bodied h name stmts) (λ done. Ok (functions ++ done.0 ∷ [], done.1))
      (holds_after (LowAll n) P (statements h.result stmts nowhere (entered h)) (λ done. Ok (record { prototype = h.number; locals = done.1.scene.locals; body = done.0; place = name.place }, left h.env done.1))
      (statements_low h.result stmts nowhere (entered h)) (λ done under. (behind_body h.env so done.1, omega (arith, under, le))))
      (λ done both. (both.0, all_append FunctionShallow functions (done.0 ∷ []) low (both.1, tt)))

  function_shallow : (functions : List Function) → AllByRecursion FunctionShallow functions → (f : FunctionTree) → body_arms f.body ≤ most_deep → Holds FunctionsShallow (function f functions env)
  unfolding function
  function_shallow functions low f le =
      holds_after HeadShallow FunctionsShallow (header env functions f) (λ h. with_body h functions f.name f.body) (header_shallow functions f) (λ h so. body_shallow h so functions low f.name f.body le)

-- ---- units

abbrev pub AllShallow : Progress → Type 0
AllShallow so_far = Shallow so_far.env × AllByRecursion FunctionShallow so_far.functions

next_shallow : (one : Global) (so_far : Progress) → global_arms one ≤ most_deep → AllShallow so_far → Holds AllShallow (next one so_far)
next_shallow (global.Empty place) so_far le is = is
next_shallow (global.Decl d) so_far le is =
    holds_after Shallow AllShallow (declaration d so_far.env) (λ env. Ok (record so_far { env = env })) (declaration_shallow so_far.env is.0 d le) (λ env so. (so, is.1))
next_shallow (global.Function f) so_far le is =
    holds_after (FunctionsShallow so_far.env is.0) AllShallow (function f so_far.functions so_far.env) (λ done. Ok (with_functions done)) (function_shallow so_far.env is.0 so_far.functions is.1 f le) (λ done so. so)

all_shallow : (unit : List Global) (so_far : Progress) → IsShallow unit → AllShallow so_far → Holds AllShallow (all unit so_far)
all_shallow [] so_far le is = is
all_shallow (one ∷ more) so_far le is = holds_after AllShallow AllShallow (next one so_far) (all more) (next_shallow one so_far le.0 is) (λ later so. all_shallow more later le.1 so)

pub unit_shallow : (stage : Stage) (unit : List Global) → IsShallow unit → Holds AllShallow (all unit (begun stage))
unit_shallow stage unit le = all_shallow unit (begun stage) le (tt, tt)
