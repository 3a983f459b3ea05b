-- Heads of functions: each function has one, whose types name structs of the outermost scope.
use Rattle.std.proofs.Common.{◌≡◌, refl, subst, ℕ, ◌+◌, inl, inr, Bool, true, false, List, [], ◌∷◌, ◌++◌, map, Option, Some, None, Ok, if◌then◌else◌}
use Rattle.std.specs.List.{AllByRecursion}
use Rattle.gsl_base.specs.Checked.{◌>>=◌}
use Rattle.gsl_base.specs.declared.stage.Stage.{Stage}
use Rattle.gsl_syntax.specs.declared.declaration.Name.{Name}
use Rattle.gsl_syntax.specs.declared.statement.Body.{Body}
use Rattle.gsl_syntax.specs.declared.statement.Body.TheVariants as body_of
use Rattle.gsl_syntax.specs.declared.statement.Function.{Function as FunctionTree}
use Rattle.gsl_syntax.specs.declared.statement.Param.{Param}
use Rattle.gsl_syntax.specs.declared.statement.Param.TheVariants as param_of
use Rattle.gsl_syntax.specs.declared.statement.Params.{Params}
use Rattle.gsl_syntax.specs.declared.statement.Params.TheVariants as params_of
use Rattle.gsl_types.specs.declared.ty.Direction.{Direction}
use Rattle.gsl_types.specs.declared.ty.StructType.{StructType}
use Rattle.gsl_types.specs.declared.ty.Ty.{Ty}
use Rattle.gsl_names.specs.Scopes.{Scope, find}
use Rattle.gsl_tree.specs.declared.unit.Function.{Function}
use Rattle.gsl_tree.specs.declared.unit.Prototype.{Prototype}
use Rattle.gsl_check_expr.specs.declared.env.Env.{Env}
use Rattle.gsl_check_expr.specs.Expressions.{bracket, callee}
use Rattle.gsl_check_expr.specs.Written.{declared, whole_type, written_type}
use Rattle.gsl_check_decl.proofs.Gathering.{Holds, holds_after, holds_then}
use Rattle.gsl_check_stmt.specs.Statements.{statements}
use Rattle.gsl_qualifiers.specs.declared.qualified.Role.TheVariants.{Nothing}
use Rattle.gsl_qualifiers.specs.Qualifiers.{qualified}
use Rattle.gsl_check_heads.specs.declared.parameter.Parameter.{Parameter}
use Rattle.gsl_check_heads.specs.Heads.{Headed, declared_head, entered, head_number, headed, headed_by, header, is_block, is_of, left, may_be_head, may_be_param, may_be_unnamed, named_as, number_from, param, param_with, params_from, params_in, said, typed_params, with_number}
use Rattle.gsl_check.specs.Functions.{bodied, function, nowhere, with_body}
use Rattle.gsl_check_law.proofs.Found.{all_append}
use Rattle.gsl_link_law.proofs.Members.{In}
use Rattle.gsl_link_checked.proofs.Standing.{stands}
use Rattle.gsl_link_checked.proofs.Over.{IsOver}
use Rattle.gsl_link_checked.proofs.Named.{AreParams, IsNamed, named_head}
use Rattle.gsl_link_checked.proofs.Writing.{IsWritten, PassesOr, declared_over, found_stands, whole_over, written_over}

-- ---- parameters

module _ (test : ℕ → Bool) (env : Env) (found : (name : List ℕ) → PassesOr test (find env.names name)) where
  abbrev IsParam : Parameter → Type 0
  IsParam p = IsOver test p.ty

  abbrev pub AreOver : List Parameter → Type 0
  AreOver params = AllByRecursion (λ (p : Parameter). IsOver test p.ty) params

  param_over : (params : List Parameter) (one : Param) → Holds IsParam (param env params one)
  unfolding param
  param_over params (param_of.Unnamed quals t) =
      holds_then IsParam (said env quals) (λ q. written_type env t >>= (λ base. whole_type base >>= (λ whole. may_be_unnamed env (callee env t).place whole >>= (λ _. Ok (param_with None q whole)))))
      (λ q. holds_after (IsWritten test) IsParam (written_type env t) (λ base. whole_type base >>= (λ whole. may_be_unnamed env (callee env t).place whole >>= (λ _. Ok (param_with None q whole)))) (written_over test env found t)
      (λ base is. holds_after (IsOver test) IsParam (whole_type base) (λ whole. may_be_unnamed env (callee env t).place whole >>= (λ _. Ok (param_with None q whole))) (whole_over test base is)
      (λ whole fits. holds_then IsParam (may_be_unnamed env (callee env t).place whole) (λ _. Ok (param_with None q whole)) (λ _. fits))))
  param_over params (param_of.Named quals t name dims) =
      holds_then IsParam (said env quals) (λ q. written_type env t >>= (λ base. declared (map (bracket env) dims) base >>= (λ w. whole_type w >>= (λ whole. named_as env params name q whole))))
      (λ q. holds_after (IsWritten test) IsParam (written_type env t) (λ base. declared (map (bracket env) dims) base >>= (λ w. whole_type w >>= (λ whole. named_as env params name q whole))) (written_over test env found t)
      (λ base is. holds_after (IsWritten test) IsParam (declared (map (bracket env) dims) base) (λ w. whole_type w >>= (λ whole. named_as env params name q whole)) (declared_over test (map (bracket env) dims) base is)
      (λ w also. holds_after (IsOver test) IsParam (whole_type w) (λ whole. named_as env params name q whole) (whole_over test w also)
      (λ whole fits. holds_then IsParam (may_be_param env params name whole) (λ _. Ok (param_with (Some name.text) q whole)) (λ _. fits)))))

  params_from_over : (items : List Param) (params : List Parameter) → AreOver params → Holds AreOver (params_from env items params)
  params_from_over [] params all = all
  params_from_over (one ∷ more) params all =
      holds_after IsParam AreOver (param env params one) (λ next. params_from env more (params ++ next ∷ [])) (param_over params one)
      (λ next is. params_from_over more (params ++ next ∷ []) (all_append IsParam params (next ∷ []) all (is, tt)))

  pub params_in_over : (params : Params) → Holds AreOver (params_in env params)
  params_in_over (params_of.Items items) = params_from_over items [] tt
  params_in_over (params_of.Void place) = tt

types_over : (scope : Scope) (params : List Parameter) → AllByRecursion (λ (p : Parameter). IsOver (stands scope) p.ty) params → AreParams scope (typed_params params)
types_over scope [] all = tt
types_over scope (p ∷ params) all = (all.0, types_over scope params all.1)

-- ---- heads

-- where no head of a function is found, none is of it
none_found : (name : List ℕ) (params : List (Direction × Ty)) (from : ℕ) (heads : List Prototype) → number_from from name params heads ≡ None → (y : Prototype) → In y heads → is_of name params y ≡ false
none_found name params from [] none y at = elim at [ ]
none_found name params from (p ∷ heads) none y at = by_test (none_found name params (from + 1) heads) (is_of name params p) refl none at
  where
    by_test : (number_from (from + 1) name params heads ≡ None → (y : Prototype) → In y heads → is_of name params y ≡ false) → (b : Bool) → is_of name params p ≡ b
        → (if b then Some from else number_from (from + 1) name params heads) ≡ None → In y (p ∷ heads) → is_of name params y ≡ false
    by_test behind true is e there = cc
    by_test behind false is e (inl same) = subst (λ (z : Prototype). is_of name params z ≡ false) same is
    by_test behind false is e (inr there) = behind e y there

module _ (stage : Stage) (structs : List StructType) (env : Env) (is : IsNamed stage structs env) where
  abbrev Named : Env → Type 0
  Named after = IsNamed stage structs after

  found : (name : List ℕ) → PassesOr (stands is.0) (find env.names name)
  found = found_stands stage is.0 env.names is.1

  by_number : (p : Prototype) → AreParams is.0 p.params → (o : Option ℕ) → head_number p.name p.params env.scene.prototypes ≡ o → Named (headed_by p env o).1
  unfolding head_number
  by_number p types None at = named_head stage structs env is p types (none_found p.name p.params 0 env.scene.prototypes at)
  by_number p types (Some n) at = is

  headed_named : (p : Prototype) → AreParams is.0 p.params → Named (headed p env).1
  unfolding headed
  headed_named p types = by_number p types (head_number p.name p.params env.scene.prototypes) refl

  abbrev HeadNamed : Headed → Type 0
  HeadNamed h = Named h.env

  head_named : (functions : List Function) (defined : Bool) (name : Name) (result : Ty) (params : List Parameter) → AllByRecursion (λ (p : Parameter). IsOver (stands is.0) p.ty) params
      → Holds HeadNamed (declared_head env functions defined name result params)
  head_named functions defined name result params all =
      let p : Prototype = record { name = name.text; result = result; params = typed_params params; place = name.place } in
      holds_then HeadNamed (may_be_head env functions defined name result (typed_params params)) (λ _. Ok (with_number result params (headed p env))) (λ _. headed_named p (types_over is.0 params all))

  header_named : (functions : List Function) (f : FunctionTree) → Holds HeadNamed (header env functions f)
  unfolding header
  header_named functions f =
      holds_then HeadNamed (qualified env Nothing f.quals) (λ q. written_type env f.ty >>= (λ base. whole_type base >>= (λ result. params_in env f.params >>= (λ params. declared_head env functions (is_block f.body) f.name result params))))
      (λ q. holds_then HeadNamed (written_type env f.ty) (λ base. whole_type base >>= (λ result. params_in env f.params >>= (λ params. declared_head env functions (is_block f.body) f.name result params)))
      (λ base. holds_then HeadNamed (whole_type base) (λ result. params_in env f.params >>= (λ params. declared_head env functions (is_block f.body) f.name result params))
      (λ result. holds_after (AllByRecursion (λ (p : Parameter). IsOver (stands is.0) p.ty)) HeadNamed (params_in env f.params) (λ params. declared_head env functions (is_block f.body) f.name result params)
      (params_in_over (stands is.0) env found f.params) (λ params all. head_named functions (is_block f.body) f.name result params all))))

  -- ---- functions

  left_named : (before after : Env) → Named before → Named (left before after)
  unfolding left
  left_named before after named = named

  abbrev FunctionNamed : List Function × Env → Type 0
  FunctionNamed done = Named done.1

  body_named : (h : Headed) → HeadNamed h → (functions : List Function) (name : Name) (body : Body) → Holds FunctionNamed (with_body h functions name body)
  body_named h named functions name (body_of.Prototype place) = named
  body_named h named functions name (body_of.Block place body) =
      holds_after (λ (done : Function × Env). Named done.1) FunctionNamed (bodied h name body) (λ done. Ok (functions ++ done.0 ∷ [], done.1))
      (holds_then (λ (done : Function × Env). Named done.1) (statements h.result body nowhere (entered h))
      (λ done. Ok (record { prototype = h.number; locals = done.1.scene.locals; body = done.0; place = name.place }, left h.env done.1)) (λ done. left_named h.env done.1 named))
      (λ done kept. kept)

  -- names stay names of their own behind a function, but for the structs of its body
  pub function_named : (functions : List Function) (f : FunctionTree) → Holds FunctionNamed (function f functions env)
  unfolding function
  function_named functions f =
      holds_after HeadNamed FunctionNamed (header env functions f) (λ h. with_body h functions f.name f.body) (header_named functions f) (λ h named. body_named h named functions f.name f.body)
