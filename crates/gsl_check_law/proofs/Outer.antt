-- Variables, inputs and outputs, structs and sizes that are declared at the top of a unit are as the unit's must be.
use Rattle.std.proofs.Common.{◌≡◌, refl, sym, ap, ◌∙◌, subst, ℕ, ◌≤◌, List, [], ◌∷◌, map, length, Option, Some, None, is_none, unwrap_or, Bool, true, false, not, ◌&&◌, ◌||◌, IsTrue, Ok, arith, Err}
use Rattle.std.specs.List.{AllByRecursion}
use Rattle.std.proofs.lemmas.Bool.{and_parts, lt-ltb}
use Rattle.gsl_base.specs.Checked.{Checked, ◌>>=◌}
use Rattle.gsl_base.specs.declared.fault.Code.{Code}
use Rattle.gsl_base.specs.declared.fault.Code.TheVariants.{E0403, E0404, E0504, E0507, E0510, E0702, E0703, E0706}
use Rattle.gsl_base.specs.declared.fault.Place.{Place}
use Rattle.gsl_base.specs.declared.stage.Stage.{Stage}
use Rattle.gsl_base.specs.declared.stage.Stage.TheVariants.{Vertex, Fragment, Compute}
use Rattle.gsl_syntax.specs.declared.expr.TypeSpec.{TypeSpec}
use Rattle.gsl_syntax.specs.declared.declaration.Name.{Name}
use Rattle.gsl_syntax.specs.declared.declaration.Qual.{Qual}
use Rattle.gsl_syntax.specs.declared.declaration.Struct.{Struct}
use Rattle.gsl_syntax.specs.declared.declaration.Declarator.{Declarator}
use Rattle.gsl_syntax.specs.declared.declaration.Declarator.TheVariants as declarator_of
use Rattle.gsl_types.specs.Known.{IsSound}
use Rattle.gsl_types.specs.declared.ty.Member.{Member}
use Rattle.gsl_types.specs.declared.ty.Ty.{Ty}
use Rattle.gsl_types.specs.declared.ty.Ty.TheVariants as ty
use Rattle.gsl_types.proofs.Layers.{sound_struct}
use Rattle.gsl_tree.specs.Shapes.{Shape, shape_of, is_integer}
use Rattle.gsl_tree.specs.declared.unit.Interface.{Interface}
use Rattle.gsl_tree.specs.WellTyped.{IsInterface, is_flat_right}
use Rattle.gsl_typing.specs.declared.scene.Part.{Part}
use Rattle.gsl_typing.specs.Rows.{Row, fault, unless}
use Rattle.gsl_typing.specs.Uses.{is_unread, integral_by}
use Rattle.gsl_overload.proofs.Same.{no_more}
use Rattle.gsl_check_expr.specs.declared.env.Env.{Env}
use Rattle.gsl_check_expr.specs.declared.writing.Written.{Written}
use Rattle.gsl_check_expr.specs.declared.writing.Written.TheVariants.{Whole}
use Rattle.gsl_check_expr.specs.Expressions.{bracket}
use Rattle.gsl_check_expr.specs.Written.{declared, whole_type, written_type}
use Rattle.gsl_check_expr.specs.Initialisers.{initial, begun_type}
use Rattle.gsl_check_decl.specs.Declaring.{is_declared, is_reserved, may_be_had}
use Rattle.gsl_check_decl.specs.Locals.{begun_as}
use Rattle.gsl_check_decl.specs.Structs.{with_lines, with_struct, may_be_struct, structured}
use Rattle.gsl_check_decl.specs.Globals.{with_interface}
use Rattle.gsl_check_decl.proofs.Gathering.{Holds, holds_after, holds_then, had_sound}
use Rattle.gsl_qualifiers.specs.declared.qualified.Role.{Role}
use Rattle.gsl_qualifiers.specs.declared.qualified.Role.TheVariants.{Variable, Input, Output, Uniform, Buffer, Push, Member as MemberRole, Size, Nothing}
use Rattle.gsl_qualifiers.specs.declared.qualified.Qualified.{Qualified}
use Rattle.gsl_qualifiers.specs.Qualifiers.{may_be_flat, qualified}
use Rattle.gsl_check_globals.specs.Variables.{Declares, all_declared, declarator, plain_by, begun_by, plain_variable, begun_variable, interface, begun_interface, may_be_interface, is_no_interface, is_integer_type, lacks_flat, is_compute}
use Rattle.gsl_check_globals.specs.Globals.{variables, struct_and_variables}
use Rattle.gsl_formed.specs.Formed.{is_name, init_formed, struct_formed, declarator_formed, declarators_formed, dims_formed, spec_formed}
use Rattle.gsl_check_law.specs.Parts.{IsTaken}
use Rattle.gsl_check_law.specs.Scenes.{IsEnv}
use Rattle.gsl_check_law.proofs.Rows.{row, so, not_false, neither}
use Rattle.gsl_check_law.proofs.Names.{name_is}
use Rattle.gsl_check_law.proofs.Lists.{GoodAt, initial_typed}
use Rattle.gsl_check_law.proofs.Longer.{Grows, grows_itself, grows_then}
use Rattle.gsl_check_law.proofs.Declaring.{at_more, written_good, declared_good, structured_is, StructDone, struct_counted, IsGood, whole_good}
use Rattle.gsl_check_law.proofs.Topmost.{interface_grown}
use Rattle.gsl_check_law.proofs.Globally.{GlobalDone, plain_done, begun_done}
use Rattle.gsl_check_law.proofs.Qualified.{Allowed, IsWithin, IsSaid, qualified_said}
use Rattle.gsl_check_law.proofs.Tops.{IsTop, TopDone, global_top, interface_top, structs_top}
use Rattle.gsl_check_law.specs.Small.{IsCounted}

-- what is refused in the end gives nothing
pub never_given : {A : Type 0} (P : A → Type 0) (place : Place) (rows : List Row) (code : Code) → Holds P (unless place rows (fault place code))
never_given P place [] code = tt
never_given P place ((c, true) ∷ rows) code = tt
never_given P place ((c, false) ∷ rows) code = never_given P place rows code

pub two_hold : {A : Type 0} (P Q : A → Type 0) (x : Checked A) → Holds P x → Holds Q x → Holds (λ a. P a × Q a) x
two_hold P Q (Ok a) p q = (p, q)
two_hold P Q (Err e) p q = tt

pub within_or : (least most : ℕ) (o : Option ℕ) → IsWithin least most o → unwrap_or o 0 ≤ most
within_or least most None is = omega arith
within_or least most (Some n) is = is.1

-- ---- inputs and outputs

integer_is : (o : Option Shape) → IsTrue (integral_by o) → (shape : Shape) × (o ≡ Some shape) × IsTrue (is_integer shape.0)
integer_is None is = no_more is
integer_is (Some shape) is = (shape, refl, is)

abbrev role_for : Bool → Role
role_for true = Output
role_for false = Input

flat_right : (stage : Stage) (output flat : Bool) → is_compute stage ≡ false → lacks_flat stage output flat ≡ false → Allowed flat (may_be_flat stage (role_for output)) → IsTrue (is_flat_right stage output flat)
flat_right Vertex true flat graphics has may = refl
flat_right Vertex false true graphics has may = may
flat_right Vertex false false graphics has may = refl
flat_right Fragment true true graphics has may = may
flat_right Fragment true false graphics has may = refl
flat_right Fragment false flat graphics has may = not_false flat has
flat_right Compute output flat graphics has may = no_more (sym graphics)

module _ (stage : Stage) (env : Env) (fine : IsEnv env) (top : IsTop stage env.scene) where
  abbrev made : Bool → Qualified → Name → Ty → Interface
  made output q name t = record { name = name.text; ty = t; output = output; flat = q.flat; location = unwrap_or q.location 0; place = name.place }

  fits : (output : Bool) (q : Qualified) (name : Name) (t : Ty) → IsSaid stage (role_for output) q → IsTrue (is_name name.text) → not (may_be_had env.scene t) ≡ false → is_no_interface env.scene.stage output q t ≡ false
      → IsInterface stage env.scene.structs (made output q name t)
  unfolding is_no_interface
  fits output q name t said formed had right =
      let here : is_no_interface stage output q t ≡ false = ap (λ (s : Stage). is_no_interface s output q t) (sym top.of_stage) ∙ right in
      let parts = neither (is_compute stage || not (is_integer_type t)) (lacks_flat stage output q.flat) here in
      let more = neither (is_compute stage) (not (is_integer_type t)) parts.0 in
      let least = within_or 0 1023 q.location said.2 in
      record {
        name = name_is name.text formed;
        known = had_sound env.scene t had;
        type = integer_is (shape_of t) (not_false (is_integer_type t) more.1);
        location = omega (arith, least);
        flat = flat_right stage output q.flat more.0 parts.1 said.0;
      }

  interface_done : (output : Bool) (q : Qualified) (name : Name) (t : Ty) → IsSaid stage (role_for output) q → IsTrue (is_name name.text) → IsCounted t → Holds (TopDone stage env) (interface output q name t env)
  unfolding interface may_be_interface
  interface_done output q name t said formed count_is =
      let P = λ (_ : Unit {0}). IsInterface stage env.scene.structs (made output q name t) in
      let node : Checked (Unit {0}) = Ok tt in
      let last = (E0706, is_none q.location) ∷ [] in
      let wrong = (E0702, is_no_interface env.scene.stage output q t) ∷ last in
      let types = (E0510, not (may_be_had env.scene t)) ∷ wrong in
      let names = (E0404, is_reserved name.text) ∷ types in
      holds_after P (TopDone stage env) (may_be_interface output q name t env) (λ _. Ok (with_interface (made output q name t) env))
      (row P name.place E0403 (is_declared env name.text) names node
      (λ _. row P name.place E0404 (is_reserved name.text) types node
      (λ _. row P name.place E0510 (not (may_be_had env.scene t)) wrong node
      (λ had. row P name.place E0702 (is_no_interface env.scene.stage output q t) last node
      (λ right. row P name.place E0706 (is_none q.location) [] node
      (λ _. fits output q name t said formed had right))))))
      (λ _ is.
      let grown = interface_grown env fine (made output q name t) is.known count_is in
      record { env = grown.0; grows = grown.1; top = interface_top stage env fine top (made output q name t) grown.1 is })

  begun_refused : (output : Bool) (q : Qualified) (name : Name) (w : Written) (x : Part) → Holds (TopDone stage env) (begun_interface output q name w x env)
  unfolding begun_interface
  begun_refused output q name w x = never_given (TopDone stage env) name.place (
      (E0403, is_declared env name.text) ∷ (E0404, is_reserved name.text) ∷ (E0504, is_none (begun_type w x)) ∷ (E0507, is_unread env.scene x) ∷ (E0510, not (may_be_had env.scene (begun_as w x)))
      ∷ (E0702, is_no_interface env.scene.stage output q (begun_as w x)) ∷ []) E0703

  -- ---- global variables

  global_done : (after : Env) → GlobalDone env after → TopDone stage env after
  global_done after is = record {
    env = is.env;
    grows = is.grows;
    top = subst (λ (e : Env). IsTop stage e.scene) (sym is.is) (global_top stage env fine top is.g is.folded (subst (λ (e : Env). Grows env.scene e.scene) is.is is.grows) is.name is.type is.begins);
  }

  plain_top : (fixed : Bool) (name : Name) (t : Ty) → IsTrue (is_name name.text) → IsCounted t → Holds (TopDone stage env) (plain_variable fixed name t env)
  plain_top fixed name t formed count_is = so (GlobalDone env) (TopDone stage env) (plain_variable fixed name t env) (plain_done env fine fixed name t formed count_is) global_done

  begun_top : (fixed : Bool) (name : Name) (w : Written) (x : Part) → IsTrue (is_name name.text) → GoodAt (length env.scene.structs) w → IsTaken env.scene x → Holds (TopDone stage env) (begun_variable fixed name w x env)
  begun_top fixed name w x formed good taken = so (GlobalDone env) (TopDone stage env) (begun_variable fixed name w x env) (begun_done env fine fixed name w x formed good taken) global_done

  plain_by_top : (role : Role) (q : Qualified) (name : Name) (t : Ty) → IsSaid stage role q → IsTrue (is_name name.text) → IsCounted t → Holds (TopDone stage env) (plain_by role q name t env)
  plain_by_top Variable q name t said formed count_is = plain_top q.fixed name t formed count_is
  plain_by_top Input q name t said formed count_is = interface_done false q name t said formed count_is
  plain_by_top Output q name t said formed count_is = interface_done true q name t said formed count_is
  plain_by_top Uniform q name t said formed count_is = plain_top q.fixed name t formed count_is
  plain_by_top Buffer q name t said formed count_is = plain_top q.fixed name t formed count_is
  plain_by_top Push q name t said formed count_is = plain_top q.fixed name t formed count_is
  plain_by_top (MemberRole in_buffer) q name t said formed count_is = plain_top q.fixed name t formed count_is
  plain_by_top Size q name t said formed count_is = plain_top q.fixed name t formed count_is
  plain_by_top Nothing q name t said formed count_is = plain_top q.fixed name t formed count_is

  begun_by_top : (role : Role) (q : Qualified) (name : Name) (w : Written) (x : Part) → IsTrue (is_name name.text) → GoodAt (length env.scene.structs) w → IsTaken env.scene x → Holds (TopDone stage env) (begun_by role q name w x env)
  begun_by_top Variable q name w x formed good taken = begun_top q.fixed name w x formed good taken
  begun_by_top Input q name w x formed good taken = begun_refused false q name w x
  begun_by_top Output q name w x formed good taken = begun_refused true q name w x
  begun_by_top Uniform q name w x formed good taken = begun_top q.fixed name w x formed good taken
  begun_by_top Buffer q name w x formed good taken = begun_top q.fixed name w x formed good taken
  begun_by_top Push q name w x formed good taken = begun_top q.fixed name w x formed good taken
  begun_by_top (MemberRole in_buffer) q name w x formed good taken = begun_top q.fixed name w x formed good taken
  begun_by_top Size q name w x formed good taken = begun_top q.fixed name w x formed good taken
  begun_by_top Nothing q name w x formed good taken = begun_top q.fixed name w x formed good taken

-- ---- one after the other

pub top_then : (stage : Stage) (a b c : Env) → TopDone stage a b → TopDone stage b c → TopDone stage a c
top_then stage a b c first next = record { env = next.env; grows = grows_then a.scene b.scene c.scene first.grows next.grows; top = next.top }

pub top_itself : (stage : Stage) (env : Env) → IsEnv env → IsTop stage env.scene → TopDone stage env env
top_itself stage env fine top = record { env = fine; grows = grows_itself env.scene; top = top }

module _ (stage : Stage) (few : ℕ) where
  abbrev Does : Declares → Type 0
  Does step = (env : Env) → IsEnv env → IsTop stage env.scene → few ≤ length env.scene.structs → Holds (TopDone stage env) (step env)

  steps_top : (steps : List Declares) → AllByRecursion Does steps → (env : Env) → IsEnv env → IsTop stage env.scene → few ≤ length env.scene.structs → Holds (TopDone stage env) (all_declared steps env)
  steps_top [] all env fine top le = top_itself stage env fine top
  steps_top (step ∷ steps) all env fine top le =
      holds_after (TopDone stage env) (TopDone stage env) (step env) (all_declared steps) (all.0 env fine top le)
      (λ next done.
      let count = done.grows.count in
      so (TopDone stage next) (TopDone stage env) (all_declared steps next) (steps_top steps all.1 next done.env done.top (omega (arith, le, count))) (λ last more. top_then stage env next last done more))

  module _ (role : Role) (q : Qualified) (said : IsSaid stage role q) (base : Written) (good : GoodAt few base) where
    declarator_top : (d : Declarator) → IsTrue (declarator_formed d) → Does (declarator role q base d)
    unfolding declarator
    declarator_top (declarator_of.Plain name dims) formed env fine top le =
        let parts = and_parts (is_name name.text) (dims_formed dims) formed in
        let count = length env.scene.structs in
        holds_after (GoodAt count) (TopDone stage env) (declared (map (bracket env) dims) base) (λ t. whole_type t >>= (λ whole. plain_by role q name whole env)) (declared_good env fine dims base parts.1 (at_more few count base le good))
        (λ t is. holds_after (IsGood count) (TopDone stage env) (whole_type t) (λ whole. plain_by role q name whole env) (whole_good count t is) (λ whole fits. plain_by_top stage env fine top role q name whole said parts.0 fits.1))
    declarator_top (declarator_of.Initialised name dims init) formed env fine top le =
        let first = and_parts (is_name name.text) (dims_formed dims && init_formed init) formed in
        let parts = and_parts (dims_formed dims) (init_formed init) first.1 in
        holds_after (GoodAt (length env.scene.structs)) (TopDone stage env) (declared (map (bracket env) dims) base) (λ t. initial env t init >>= (λ x. begun_by role q name t x env))
        (declared_good env fine dims base parts.0 (at_more few (length env.scene.structs) base le good))
        (λ t is. holds_after (IsTaken env.scene) (TopDone stage env) (initial env t init) (λ x. begun_by role q name t x env) (initial_typed env fine t init is parts.1)
        (λ x taken. begun_by_top stage env fine top role q name t x first.0 is taken))

    declarators_top : (all : List Declarator) → IsTrue (declarators_formed all) → AllByRecursion Does (map (declarator role q base) all)
    declarators_top [] formed = tt
    declarators_top (d ∷ all) formed = let parts = and_parts (declarator_formed d) (declarators_formed all) formed in (declarator_top d parts.0, declarators_top all parts.1)

-- ---- declarations

module _ (stage : Stage) (env : Env) (fine : IsEnv env) (top : IsTop stage env.scene) where
  abbrev here : ℕ
  here = length env.scene.structs

  pub said_here : (role : Role) (quals : List Qual) → Holds (IsSaid stage role) (qualified env role quals)
  said_here role quals = subst (λ (s : Stage). Holds (IsSaid s role) (qualified env role quals)) top.of_stage (qualified_said env role quals)

  pub variables_top : (role : Role) (quals : List Qual) (t : TypeSpec) (all : List Declarator) → IsTrue (spec_formed t && declarators_formed all) → Holds (TopDone stage env) (variables role quals t all env)
  unfolding variables
  variables_top role quals t all formed =
      let parts = and_parts (spec_formed t) (declarators_formed all) formed in
      holds_after (IsSaid stage role) (TopDone stage env) (qualified env role quals) (λ q. written_type env t >>= (λ base. all_declared (map (declarator role q base) all) env)) (said_here role quals)
      (λ q said. holds_after (GoodAt here) (TopDone stage env) (written_type env t) (λ base. all_declared (map (declarator role q base) all) env) (written_good env fine t parts.0)
      (λ base good. steps_top stage here (map (declarator role q base) all) (declarators_top stage here role q said base good all parts.1) env fine top (omega arith)))

  abbrev OnlyStructs : ℕ × Env → Type 0
  OnlyStructs done = done.1.scene ≡ record env.scene { structs = done.1.scene.structs }

  only_with : (name : List ℕ) (members : List Member) (n : ℕ) → OnlyStructs (n, with_struct name members env)
  unfolding with_struct
  only_with name members n = refl

  only_structs : (s : Struct) → Holds OnlyStructs (structured s env)
  unfolding structured
  only_structs s =
      holds_then OnlyStructs (with_lines env s.members []) (λ members. may_be_struct s.name members env >>= (λ _. Ok (here, with_struct s.name.text members env)))
      (λ members. holds_then OnlyStructs (may_be_struct s.name members env) (λ _. Ok (here, with_struct s.name.text members env)) (λ _. only_with s.name.text members here))

  struct_done : (done : ℕ × Env) → StructDone env fine done → OnlyStructs done → TopDone stage env done.1
  struct_done done is only = record {
    env = is.0.0;
    grows = is.0.1;
    top = subst (IsTop stage) (sym only) (structs_top stage env.scene done.1.scene.structs fine.scene (subst (Grows env.scene) only is.0.1) top);
  }

  pub struct_top : (role : Role) (quals : List Qual) (s : Struct) (all : List Declarator) → IsTrue (struct_formed s && declarators_formed all) → Holds (TopDone stage env) (struct_and_variables role quals s all env)
  unfolding struct_and_variables
  struct_top role quals s all formed =
      let parts = and_parts (struct_formed s) (declarators_formed all) formed in
      holds_after (IsSaid stage role) (TopDone stage env) (qualified env role quals) (λ q. structured s env >>= (λ done. all_declared (map (declarator role q (Whole (ty.Struct done.0))) all) done.1)) (said_here role quals)
      (λ q said. holds_after (λ (done : ℕ × Env). StructDone env fine done × OnlyStructs done) (TopDone stage env) (structured s env) (λ done. all_declared (map (declarator role q (Whole (ty.Struct done.0))) all) done.1)
      (two_hold (StructDone env fine) OnlyStructs (structured s env) (structured_is env fine s parts.0) (only_structs s))
      (λ done is.
      let few = length done.1.scene.structs in
      let behind = struct_done done is.0 is.1 in
      let known : IsSound few (ty.Struct done.0) = sound_struct few done.0 ∙ lt-ltb done.0 few is.0.1 in
      so (TopDone stage done.1) (TopDone stage env) (all_declared (map (declarator role q (Whole (ty.Struct done.0))) all) done.1)
      (steps_top stage few (map (declarator role q (Whole (ty.Struct done.0))) all) (declarators_top stage few role q said (Whole (ty.Struct done.0)) (known, struct_counted done.0) all parts.1) done.1 behind.env behind.top (omega arith))
      (λ last more. top_then stage env done.1 last behind more)))
