-- Heads of functions that are declared are as a unit's must be, and are those of their functions.
use Rattle.std.proofs.Common.{◌≡◌, refl, sym, ap, ◌∙◌, subst, ℕ, ◌+◌, ◌≤◌, inl, inr, List, [], ◌∷◌, ◌++◌, map, length, slice_get, Option, Some, None, unwrap_or, Bool, true, false, not, ◌&&◌, ◌||◌, IsTrue, nat_le, Ok, arith, if◌then◌else◌, zero-add, suc}
use Rattle.std.specs.List.{AllByRecursion, list_all}
use Rattle.std.specs.Str.{bytes_eq}
use Rattle.std.proofs.lemmas.Bool.{and_parts, leb-true}
use Rattle.std.proofs.lemmas.Option.{none-some}
use Rattle.gsl_base.specs.Checked.{Checked, ◌>>=◌}
use Rattle.gsl_base.specs.declared.fault.Code.TheVariants.{E0403, E0404, E0405, E0510, E0908}
use Rattle.gsl_base.specs.declared.fault.Place.{Place}
use Rattle.gsl_base.specs.declared.stage.Stage.{Stage}
use Rattle.gsl_syntax.specs.declared.declaration.Name.{Name}
use Rattle.gsl_syntax.specs.declared.statement.Param.{Param}
use Rattle.gsl_syntax.specs.declared.statement.Param.TheVariants as param_of
use Rattle.gsl_syntax.specs.declared.statement.Params.{Params}
use Rattle.gsl_syntax.specs.declared.statement.Params.TheVariants as params_of
use Rattle.gsl_syntax.specs.declared.statement.Function.{Function as FunctionTree}
use Rattle.gsl_types.specs.declared.ty.Direction.{Direction}
use Rattle.gsl_types.specs.declared.ty.Direction.TheVariants.{In, Out, InOut}
use Rattle.gsl_types.specs.declared.ty.Ty.{Ty}
use Rattle.gsl_types.specs.declared.ty.Ty.TheVariants as ty
use Rattle.gsl_overload.specs.Identity.{identical}
use Rattle.gsl_overload.proofs.Same.{same_is, no_more}
use Rattle.gsl_names.specs.Scopes.{find_here}
use Rattle.gsl_tree.specs.declared.unit.Function.{Function}
use Rattle.gsl_tree.specs.declared.unit.Prototype.{Prototype}
use Rattle.gsl_tree.specs.WellTyped.{IsVariableType, IsResult, IsPrototype}
use Rattle.gsl_check_expr.specs.declared.env.Env.{Env}
use Rattle.gsl_check_expr.specs.Expressions.{bracket, callee}
use Rattle.gsl_check_expr.specs.Written.{written_type, declared, whole_type}
use Rattle.gsl_check_decl.specs.Declaring.{is_reserved, is_void, may_be_had, is_high}
use Rattle.gsl_check_decl.specs.Globals.{with_head}
use Rattle.gsl_check_decl.proofs.Gathering.{Holds, holds_after, holds_then}
use Rattle.gsl_qualifiers.specs.declared.qualified.Role.TheVariants.{Nothing}
use Rattle.gsl_qualifiers.specs.Qualifiers.{qualified}
use Rattle.gsl_check_heads.specs.declared.parameter.Parameter.{Parameter}
use Rattle.gsl_check_heads.specs.Builtins.{names_function}
use Rattle.gsl_check_heads.specs.Heads.{said, has_param, may_be_unnamed, may_be_param, param_with, named_as, param, params_from, params_in, typed_params, same_types, same_direction, same_directions, is_of, number_from, head_number, disagrees_by, head_at, disagrees, has_body_of, is_block, is_other_main, is_other, is_no_result, most_params, may_be_head, headed_by, headed, Headed, with_number, declared_head, header}
use Rattle.gsl_formed.specs.Formed.{is_name, params_formed, param_formed, head_formed, spec_formed, dims_formed}
use Rattle.gsl_check_law.specs.Scenes.{IsEnv}
use Rattle.gsl_check_law.proofs.Rows.{row, not_false, neither, both}
use Rattle.gsl_check_law.proofs.Names.{name_is}
use Rattle.gsl_check_law.proofs.Found.{all_append}
use Rattle.gsl_check_law.proofs.Declarators.{found_last}
use Rattle.gsl_check_law.proofs.Declaring.{variable_is, written_good, IsGood, whole_good, declared_good}
use Rattle.gsl_check_law.proofs.Topmost.{head_grown}
use Rattle.gsl_check_law.proofs.Bodied.{IsHeaded, types_of_params}
use Rattle.gsl_check_law.proofs.Tops.{IsTop, TopDone, head_top}
use Rattle.gsl_check_law.proofs.Outer.{top_itself}
use Rattle.gsl_check_law.specs.Small.{IsCounted}
use Rattle.gsl_check_law.proofs.Lists.{GoodAt}

-- ---- one head twice

direction_is : (a b : Direction) → IsTrue (same_direction a b) → a ≡ b
direction_is In In is = refl
direction_is In Out is = no_more is
direction_is In InOut is = no_more is
direction_is Out In is = no_more is
direction_is Out Out is = refl
direction_is Out InOut is = no_more is
direction_is InOut In is = no_more is
direction_is InOut Out is = no_more is
direction_is InOut InOut is = refl

params_are : (a b : List (Direction × Ty)) → IsTrue (same_types a b) → IsTrue (same_directions a b) → a ≡ b
params_are [] [] types ways = refl
params_are [] (y ∷ b) types ways = no_more types
params_are (x ∷ a) [] types ways = no_more types
params_are (x ∷ a) (y ∷ b) types ways =
    let first = and_parts (identical x.1 y.1) (same_types a b) types in
    let second = and_parts (same_direction x.0 y.0) (same_directions a b) ways in
    ap (λ (d : Direction). (d, x.1) ∷ a) (direction_is x.0 y.0 second.0) ∙ ap (λ (t : Ty). (y.0, t) ∷ a) (same_is x.1 y.1 first.0) ∙ ap (λ l. y ∷ l) (params_are a b first.1 second.1)

abbrev IsOf : List ℕ → List (Direction × Ty) → List Prototype → ℕ → ℕ → Type 0
IsOf name params prototypes from n = (k : ℕ) × (p : Prototype) × (n ≡ from + k) × (slice_get prototypes k ≡ Some p) × IsTrue (is_of name params p)

number_is : (from n : ℕ) (name : List ℕ) (params : List (Direction × Ty)) (prototypes : List Prototype) → number_from from name params prototypes ≡ Some n → IsOf name params prototypes from n
number_is from n name params [] at = elim (none-some n at) [ ]
number_is from n name params (p ∷ prototypes) at = by_test (number_is (from + 1) n name params prototypes) (is_of name params p) refl at
  where
    by_test : (number_from (from + 1) name params prototypes ≡ Some n → IsOf name params prototypes (from + 1) n) → (b : Bool) → is_of name params p ≡ b → (if b then Some from else number_from (from + 1) name params prototypes) ≡ Some n → IsOf name params (p ∷ prototypes) from n
    by_test behind true is found = let same : from ≡ n = ap (λ o. unwrap_or o n) found in (0, p, sym same ∙ (let e : from ≡ from + 0 = omega arith in e), refl, is)
    by_test behind false is found =
        let later = behind found in
        let k = later.0 in
        (suc later.0, later.1, later.2 ∙ (let e : (from + 1) + k ≡ from + suc k = omega arith in e), later.3, later.4)

-- ---- parameters

module _ (env : Env) (fine : IsEnv env) where
  abbrev Variables : List Parameter → Type 0
  Variables params = AllByRecursion (λ (p : Parameter). IsVariableType env.scene.structs p.ty × IsCounted p.ty) params

  abbrev IsParam : Parameter → Type 0
  IsParam p = IsVariableType env.scene.structs p.ty × IsCounted p.ty

  abbrev count : ℕ
  count = length env.scene.structs

  unnamed_may : (place : Place) (t : Ty) → Holds (λ _. IsVariableType env.scene.structs t) (may_be_unnamed env place t)
  unfolding may_be_unnamed
  unnamed_may place t =
      let P = λ (_ : Unit {0}). IsVariableType env.scene.structs t in
      row P place E0510 (not (may_be_had env.scene t)) ((E0908, is_high env.scene t) ∷ []) (Ok tt)
      (λ had. row P place E0908 (is_high env.scene t) [] (Ok tt) (λ low. variable_is env fine t had low))

  param_may : (params : List Parameter) (name : Name) (t : Ty) → Holds (λ _. IsVariableType env.scene.structs t) (may_be_param env params name t)
  unfolding may_be_param
  param_may params name t =
      let P = λ (_ : Unit {0}). IsVariableType env.scene.structs t in
      let high = (E0908, is_high env.scene t) ∷ [] in
      let types = (E0510, not (may_be_had env.scene t)) ∷ high in
      row P name.place E0403 (has_param params name.text) ((E0404, is_reserved name.text) ∷ types) (Ok tt)
      (λ _. row P name.place E0404 (is_reserved name.text) types (Ok tt)
      (λ _. row P name.place E0510 (not (may_be_had env.scene t)) high (Ok tt)
      (λ had. row P name.place E0908 (is_high env.scene t) [] (Ok tt) (λ low. variable_is env fine t had low))))

  param_is : (params : List Parameter) (one : Param) → IsTrue (param_formed one) → Holds IsParam (param env params one)
  unfolding param
  param_is params (param_of.Unnamed quals t) formed =
      holds_then IsParam (said env quals) (λ q. written_type env t >>= (λ base. whole_type base >>= (λ whole. may_be_unnamed env (callee env t).place whole >>= (λ _. Ok (param_with None q whole)))))
      (λ q. holds_after (GoodAt count) IsParam (written_type env t) (λ base. whole_type base >>= (λ whole. may_be_unnamed env (callee env t).place whole >>= (λ _. Ok (param_with None q whole)))) (written_good env fine t formed)
      (λ base good. holds_after (IsGood count) IsParam (whole_type base) (λ whole. may_be_unnamed env (callee env t).place whole >>= (λ _. Ok (param_with None q whole))) (whole_good count base good)
      (λ whole fits. holds_after (λ _. IsVariableType env.scene.structs whole) IsParam (may_be_unnamed env (callee env t).place whole) (λ _. Ok (param_with None q whole)) (unnamed_may (callee env t).place whole) (λ _ is. (is, fits.1)))))
  param_is params (param_of.Named quals t name dims) formed =
      let parts = and_parts (spec_formed t) (dims_formed dims) formed in
      holds_then IsParam (said env quals) (λ q. written_type env t >>= (λ base. declared (map (bracket env) dims) base >>= (λ w. whole_type w >>= (λ whole. named_as env params name q whole))))
      (λ q. holds_after (GoodAt count) IsParam (written_type env t) (λ base. declared (map (bracket env) dims) base >>= (λ w. whole_type w >>= (λ whole. named_as env params name q whole))) (written_good env fine t parts.0)
      (λ base good. holds_after (GoodAt count) IsParam (declared (map (bracket env) dims) base) (λ w. whole_type w >>= (λ whole. named_as env params name q whole)) (declared_good env fine dims base parts.1 good)
      (λ w is. holds_after (IsGood count) IsParam (whole_type w) (λ whole. named_as env params name q whole) (whole_good count w is)
      (λ whole fits. holds_after (λ _. IsVariableType env.scene.structs whole) IsParam (may_be_param env params name whole) (λ _. Ok (param_with (Some name.text) q whole)) (param_may params name whole) (λ _ has. (has, fits.1))))))

  params_from_are : (items : List Param) (params : List Parameter) → IsTrue (list_all param_formed items) → Variables params → Holds Variables (params_from env items params)
  params_from_are [] params formed all = all
  params_from_are (one ∷ more) params formed all =
      let parts = and_parts (param_formed one) (list_all param_formed more) formed in
      holds_after IsParam Variables (param env params one) (λ next. params_from env more (params ++ next ∷ [])) (param_is params one parts.0)
      (λ next is. params_from_are more (params ++ next ∷ []) parts.1 (all_append IsParam params (next ∷ []) all (is, tt)))

  params_in_are : (params : Params) → IsTrue (params_formed params) → Holds Variables (params_in env params)
  params_in_are (params_of.Items items) formed = params_from_are items [] formed tt
  params_in_are (params_of.Void place) formed = tt

-- ---- heads

-- the head of a number is that of this function
pub record HeadIs (h : Headed) : Type 0 where
  pub prototype : Prototype
  pub there : slice_get h.env.scene.prototypes h.number ≡ Some prototype
  pub params : prototype.params ≡ typed_params h.params
  pub result : prototype.result ≡ h.result

pub record HeadDone (stage : Stage) (before : Env) (h : Headed) : Type 0 where
  pub done : TopDone stage before h.env
  pub headed : IsHeaded h
  pub head : HeadIs h

module _ (stage : Stage) (env : Env) (fine : IsEnv env) (top : IsTop stage env.scene) (name : Name) (named : IsTrue (is_name name.text)) (result : Ty) (count_is : IsCounted result) (params : List Parameter)
    (all : AllByRecursion (λ (p : Parameter). IsVariableType env.scene.structs p.ty) params) (counts : AllByRecursion (λ (p : Parameter). IsCounted p.ty) params) where
  abbrev types : List (Direction × Ty)
  types = typed_params params

  abbrev MayBe : Type 0
  MayBe = (disagrees env.scene.prototypes name.text result types ≡ false) × IsResult env.scene.structs result × (length types ≤ most_params)

  result_is : is_no_result env.scene result ≡ false → is_high env.scene result ≡ false → IsResult env.scene.structs result
  unfolding is_no_result
  result_is some low = by_test (is_void result) refl
    where
      by_test : (b : Bool) → is_void result ≡ b → IsResult env.scene.structs result
      by_test true is = inl (same_is result ty.Void is)
      by_test false is = inr (variable_is env fine result (ap (λ (b : Bool). not (b || may_be_had env.scene result)) (sym is) ∙ some) low)

  head_may : (functions : List Function) (defined : Bool) → Holds (λ _. MayBe) (may_be_head env functions defined name result types)
  unfolding may_be_head
  head_may functions defined =
      let P = λ (_ : Unit {0}). MayBe in
      let node : Checked (Unit {0}) = Ok tt in
      let differs = disagrees env.scene.prototypes name.text result types in
      let twice = defined && has_body_of functions (head_number name.text types env.scene.prototypes) in
      let main = is_other_main name.text result types in
      let high = (E0908, not (nat_le (length types) most_params) || is_high env.scene result) ∷ [] in
      let results = (E0510, is_no_result env.scene result) ∷ high in
      let heads = (E0405, differs || twice || main) ∷ results in
      let names = (E0404, is_reserved name.text || names_function name.text) ∷ heads in
      row P name.place E0403 (is_other (find_here env.names name.text)) names node
      (λ _. row P name.place E0404 (is_reserved name.text || names_function name.text) heads node
      (λ _. row P name.place E0405 (differs || twice || main) results node
      (λ agree. row P name.place E0510 (is_no_result env.scene result) high node
      (λ some. row P name.place E0908 (not (nat_le (length types) most_params) || is_high env.scene result) [] node
      (λ low.
      let sizes = neither (not (nat_le (length types) most_params)) (is_high env.scene result) low in
      let same = neither (differs || twice) main agree in
      ((neither differs twice same.0).0, result_is some sizes.1, leb-true (length types) most_params (not_false _ sizes.0)))))))

  abbrev made : Prototype
  made = record { name = name.text; result = result; params = types; place = name.place }

  abbrev given : ℕ × Env → Headed
  given done = with_number result params done

  new_head : (p : Prototype) → slice_get (with_head p env).scene.prototypes (length env.scene.prototypes) ≡ Some p
  unfolding with_head
  new_head p = found_last env.scene.prototypes p

  kept_params : AllByRecursion (λ (p : Parameter). IsVariableType env.scene.structs p.ty) params → AllByRecursion (λ (p : Parameter). IsVariableType (with_head made env).scene.structs p.ty) params
  unfolding with_head
  kept_params is = is

  kept_result : IsResult env.scene.structs result → IsResult (with_head made env).scene.structs result
  unfolding with_head
  kept_result is = is

  agreed : (o : Option Prototype) (p : Prototype) → o ≡ Some p → disagrees_by result types o ≡ false → IsTrue (identical p.result result) × IsTrue (same_directions p.params types)
  agreed None p at is = elim (none-some p at) [ ]
  agreed (Some x) p at is =
      let same : x ≡ p = ap (λ o. unwrap_or o x) at in
      subst (λ (y : Prototype). IsTrue (identical y.result result) × IsTrue (same_directions y.params types)) same (both (identical x.result result) (same_directions x.params types) is)

  by_number : (o : Option ℕ) → head_number name.text types env.scene.prototypes ≡ o → MayBe → HeadDone stage env (given (headed_by made env o))
  unfolding head_number disagrees
  by_number None at may =
      let fits : IsPrototype env.scene.structs made = record { name = name_is name.text named; result = may.1; params = types_of_params env.scene.structs params all; count = may.2 } in
      let grown = head_grown env fine made (fits.result, fits.params) count_is in
      let after = with_head made env in
      record {
        done = record { env = grown.0; grows = grown.1; top = head_top stage env fine top made grown.1 fits };
        headed = record { env = grown.0; params = kept_params all; result = kept_result may.1; counted = counts };
        head = record { prototype = made; there = new_head made; params = refl; result = refl };
      }
  by_number (Some n) at may =
      let found = number_is 0 n name.text types env.scene.prototypes at in
      let p = found.1 in
      let here : slice_get env.scene.prototypes n ≡ Some p = ap (slice_get env.scene.prototypes) (found.2 ∙ zero-add found.0) ∙ found.3 in
      let named_so = and_parts (bytes_eq p.name name.text) (same_types p.params types) found.4 in
      let agree = agreed (slice_get env.scene.prototypes n) p here (ap (λ (o : Option ℕ). disagrees_by result types (head_at env.scene.prototypes o)) (sym at) ∙ may.0) in
      record {
        done = top_itself stage env fine top;
        headed = record { env = fine; params = all; result = may.1; counted = counts };
        head = record { prototype = p; there = here; params = params_are p.params types named_so.1 agree.1; result = same_is p.result result agree.0 };
      }

  head_done : (functions : List Function) (defined : Bool) → Holds (HeadDone stage env) (declared_head env functions defined name result params)
  unfolding headed
  head_done functions defined =
      holds_after (λ _. MayBe) (HeadDone stage env) (may_be_head env functions defined name result types) (λ _. Ok (given (headed made env))) (head_may functions defined)
      (λ _ may. by_number (head_number name.text types env.scene.prototypes) refl may)

both_of : (env : Env) (params : List Parameter) → AllByRecursion (λ (p : Parameter). IsVariableType env.scene.structs p.ty × IsCounted p.ty) params
    → AllByRecursion (λ (p : Parameter). IsVariableType env.scene.structs p.ty) params × AllByRecursion (λ (p : Parameter). IsCounted p.ty) params
both_of env [] all = (tt, tt)
both_of env (p ∷ params) all = let rest = both_of env params all.1 in ((all.0.0, rest.0), (all.0.1, rest.1))

-- a head that is declared is as it must be
pub header_done : (stage : Stage) (env : Env) → IsEnv env → IsTop stage env.scene → (functions : List Function) (f : FunctionTree) → IsTrue (head_formed f) → Holds (HeadDone stage env) (header env functions f)
unfolding header
header_done stage env fine top functions f formed =
    let count = length env.scene.structs in
    let first = and_parts (is_name f.name.text) (spec_formed f.ty && params_formed f.params) formed in
    let types = and_parts (spec_formed f.ty) (params_formed f.params) first.1 in
    holds_then (HeadDone stage env) (qualified env Nothing f.quals) (λ q. written_type env f.ty >>= (λ base. whole_type base >>= (λ result. params_in env f.params >>= (λ params. declared_head env functions (is_block f.body) f.name result params))))
    (λ q. holds_after (GoodAt count) (HeadDone stage env) (written_type env f.ty) (λ base. whole_type base >>= (λ result. params_in env f.params >>= (λ params. declared_head env functions (is_block f.body) f.name result params))) (written_good env fine f.ty types.0)
    (λ base good. holds_after (IsGood count) (HeadDone stage env) (whole_type base) (λ result. params_in env f.params >>= (λ params. declared_head env functions (is_block f.body) f.name result params)) (whole_good count base good)
    (λ result fits. holds_after (Variables env fine) (HeadDone stage env) (params_in env f.params) (λ params. declared_head env functions (is_block f.body) f.name result params) (params_in_are env fine f.params types.1)
    (λ params all. let both = both_of env params all in head_done stage env fine top f.name first.0 result fits.1 params both.0 both.1 functions (is_block f.body)))))
