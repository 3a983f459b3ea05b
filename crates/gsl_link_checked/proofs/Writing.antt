-- Structs in types as they are written at the top of a unit stand in its outermost scope.
use Rattle.std.proofs.Common.{◌≡◌, refl, sym, ◌∙◌, subst, ℕ, Bool, true, false, List, [], ◌∷◌, Option, Some, None, Ok, if◌then◌else◌}
use Rattle.std.specs.List.{AllByRecursion}
use Rattle.std.specs.Str.{bytes_eq}
use Rattle.std.proofs.lemmas.Bool.{eq-eqb, true≢false}
use Rattle.gsl_base.specs.Checked.{◌>>=◌}
use Rattle.gsl_base.specs.declared.fault.Place.{Place}
use Rattle.gsl_base.specs.declared.stage.Stage.{Stage}
use Rattle.gsl_base.specs.declared.stage.Stage.TheVariants.{Vertex, Fragment, Compute}
use Rattle.gsl_syntax.specs.declared.expr.Basic.{Basic}
use Rattle.gsl_syntax.specs.declared.expr.Basic.TheVariants as basic
use Rattle.gsl_syntax.specs.declared.expr.TypeSpec.{TypeSpec}
use Rattle.gsl_types.specs.declared.ty.Scalar.TheVariants.{Bool as Boolean, Int, Uint}
use Rattle.gsl_types.specs.declared.ty.Ty.{Ty}
use Rattle.gsl_names.specs.declared.entry.Entry.{Entry}
use Rattle.gsl_names.specs.declared.entry.Entry.TheVariants as entry
use Rattle.gsl_names.specs.Scopes.{Declared, Scope, Scopes, all_in, all_of, find, first_of}
use Rattle.gsl_check_expr.specs.declared.brackets.Dimensions.{Dimensions}
use Rattle.gsl_check_expr.specs.declared.brackets.Dimensions.TheVariants.{Plain, Sized}
use Rattle.gsl_check_expr.specs.declared.env.Env.{Env}
use Rattle.gsl_check_expr.specs.declared.writing.Written.{Written}
use Rattle.gsl_check_expr.specs.declared.writing.Written.TheVariants.{Whole, Open}
use Rattle.gsl_check_expr.specs.Callees.{Base, Keyword, Name, basic_type}
use Rattle.gsl_check_expr.specs.Expressions.{callee}
use Rattle.gsl_check_expr.specs.Sizes.{Bracket, arrayed, dimensions}
use Rattle.gsl_check_expr.specs.Written.{base_type, bracketed, declared, named_by, struct_named, whole_type, written_by, written_type}
use Rattle.gsl_check_decl.proofs.Gathering.{Holds, holds_after, holds_then}
use Rattle.gsl_check_heads.specs.Builtins.{built_in, functions, variables}
use Rattle.gsl_check_law.proofs.Found.{all_append}
use Rattle.gsl_link_law.proofs.Members.{all_from, any_in}
use Rattle.gsl_link_checked.proofs.Standing.{IsPlain, is_struct, stands}
use Rattle.gsl_link_checked.proofs.Over.{IsOver, over_array, over_one, over_struct, over_vector, over_void}

-- ---- names of structs

-- a struct that passes, or none
abbrev pub Passes : (ℕ → Bool) → Entry → Type 0
Passes test e = (n : ℕ) → is_struct n e ≡ true → test n ≡ true

abbrev pub PassesOr : (ℕ → Bool) → Option Entry → Type 0
PassesOr test None = Unit {0}
PassesOr test (Some e) = Passes test e

module _ (test : ℕ → Bool) where
  in_scope : (scope : Scope) (name : List ℕ) → AllByRecursion (λ (row : Declared). Passes test row.1) scope → AllByRecursion (Passes test) (all_in scope name)
  in_scope [] name all = tt
  in_scope (row ∷ scope) name all = by_name (bytes_eq row.0 name) (in_scope scope name all.1)
    where
      by_name : (b : Bool) → AllByRecursion (Passes test) (all_in scope name) → AllByRecursion (Passes test) (if b then row.1 ∷ all_in scope name else all_in scope name)
      by_name true rest = (all.0, rest)
      by_name false rest = rest

  in_scopes : (scopes : Scopes) (name : List ℕ) → AllByRecursion (λ (scope : Scope). AllByRecursion (λ (row : Declared). Passes test row.1) scope) scopes → AllByRecursion (Passes test) (all_of scopes name)
  in_scopes [] name all = tt
  in_scopes (scope ∷ scopes) name all = all_append (Passes test) (all_in scope name) (all_of scopes name) (in_scope scope name all.0) (in_scopes scopes name all.1)

  first_passes : (entries : List Entry) → AllByRecursion (Passes test) entries → PassesOr test (first_of entries)
  first_passes [] all = tt
  first_passes (e ∷ entries) all = all.0

  finds : (scopes : Scopes) (name : List ℕ) → AllByRecursion (λ (scope : Scope). AllByRecursion (λ (row : Declared). Passes test row.1) scope) scopes → PassesOr test (find scopes name)
  finds scopes name all = first_passes (all_of scopes name) (in_scopes scopes name all)

  plain_passes : (e : Entry) → IsPlain e → Passes test e
  plain_passes e plain n is = let never : ⊥ = true≢false (sym is ∙ plain n) in elim never [ ]

  plain_all : (scope : Scope) → AllByRecursion (λ (row : Declared). IsPlain row.1) scope → AllByRecursion (λ (row : Declared). Passes test row.1) scope
  plain_all [] all = tt
  plain_all (row ∷ scope) all = (plain_passes row.1 all.0, plain_all scope all.1)

-- ---- built-in names are those of no struct

builtin_plain : AllByRecursion (λ (row : Declared). IsPlain row.1) functions
builtin_plain = (λ n. refl, (λ n. refl, (λ n. refl, (λ n. refl, (λ n. refl, (λ n. refl, (λ n. refl, (λ n. refl, (λ n. refl, (λ n. refl, (λ n. refl, (λ n. refl, (λ n. refl, (λ n. refl, (λ n. refl, (λ n. refl, (λ n. refl, (λ n. refl, (λ n. refl, (λ n. refl, (λ n. refl, tt)))))))))))))))))))))

staged_plain : (stage : Stage) → AllByRecursion (λ (row : Declared). IsPlain row.1) (variables stage)
staged_plain Vertex = (λ n. refl, (λ n. refl, tt))
staged_plain Fragment = tt
staged_plain Compute = (λ n. refl, (λ n. refl, (λ n. refl, (λ n. refl, (λ n. refl, (λ n. refl, tt))))))

built_in_plain : (stage : Stage) → AllByRecursion (λ (row : Declared). IsPlain row.1) (built_in stage)
built_in_plain stage = all_append (λ (row : Declared). IsPlain row.1) functions (variables stage) builtin_plain (staged_plain stage)

-- a struct that is found stands in the outermost scope
pub found_stands : (stage : Stage) (scope : Scope) (names : Scopes) → names ≡ scope ∷ built_in stage ∷ [] → (name : List ℕ) → PassesOr (stands scope) (find names name)
found_stands stage scope names is name =
    subst (λ (scopes : Scopes). PassesOr (stands scope) (find scopes name)) (sym is)
    (finds (stands scope) (scope ∷ built_in stage ∷ []) name
    (all_from (λ (row : Declared). Passes (stands scope) row.1) scope (λ row at n passes. any_in (λ (other : Declared). is_struct n other.1) scope row at passes), (plain_all (stands scope) (built_in stage) (built_in_plain stage), tt)))

-- ---- types as they are written

abbrev pub IsWritten : (ℕ → Bool) → Written → Type 0
IsWritten test (Whole t) = IsOver test t
IsWritten test (Open place element) = IsOver test element

basic_over : (test : ℕ → Bool) (b : Basic) → IsOver test (basic_type b)
basic_over test basic.Void = over_void test
basic_over test basic.Bool = over_one test Boolean
basic_over test basic.Int = over_one test Int
basic_over test basic.Uint = over_one test Uint
basic_over test basic.Bvec2 = over_vector test Boolean 2
basic_over test basic.Bvec3 = over_vector test Boolean 3
basic_over test basic.Bvec4 = over_vector test Boolean 4
basic_over test basic.Ivec2 = over_vector test Int 2
basic_over test basic.Ivec3 = over_vector test Int 3
basic_over test basic.Ivec4 = over_vector test Int 4
basic_over test basic.Uvec2 = over_vector test Uint 2
basic_over test basic.Uvec3 = over_vector test Uint 3
basic_over test basic.Uvec4 = over_vector test Uint 4

module _ (test : ℕ → Bool) where
  struct_over : (place : Place) (o : Option Entry) → PassesOr test o → Holds (IsOver test) (struct_named place o)
  struct_over place None passes = tt
  struct_over place (Some (entry.Struct n)) passes = over_struct test n (passes n (eq-eqb n n refl))
  struct_over place (Some (entry.Local n fixed)) passes = tt
  struct_over place (Some (entry.Param n fixed)) passes = tt
  struct_over place (Some (entry.Global n)) passes = tt
  struct_over place (Some (entry.Member b n)) passes = tt
  struct_over place (Some (entry.Instance n)) passes = tt
  struct_over place (Some (entry.Block n)) passes = tt
  struct_over place (Some (entry.Interface n)) passes = tt
  struct_over place (Some (entry.Function n)) passes = tt
  struct_over place (Some (entry.Builtin which)) passes = tt
  struct_over place (Some (entry.Stage var)) passes = tt
  struct_over place (Some entry.Size) passes = tt

  arrayed_over : (sizes : List ℕ) (t : Ty) → IsOver test t → IsOver test (arrayed sizes t)
  arrayed_over [] t is = is
  arrayed_over (size ∷ sizes) t is = over_array test (arrayed sizes t) size (arrayed_over sizes t is)

  bracketed_over : (dims : Dimensions) (t : Ty) → IsOver test t → IsWritten test (bracketed dims t)
  bracketed_over Plain t is = is
  bracketed_over (Sized place (Some n) rest) t is = over_array test (arrayed rest t) n (arrayed_over rest t is)
  bracketed_over (Sized place None rest) t is = arrayed_over rest t is

  named_over : (dims : Dimensions) (base : Written) → IsWritten test base → Holds (IsWritten test) (named_by dims base)
  named_over Plain base is = is
  named_over (Sized place size rest) (Whole t) is = bracketed_over (Sized place size rest) t is
  named_over (Sized place size rest) (Open missing e) is = tt

  pub declared_over : (brackets : List Bracket) (base : Written) → IsWritten test base → Holds (IsWritten test) (declared brackets base)
  unfolding declared
  declared_over brackets base is = holds_then (IsWritten test) (dimensions brackets) (λ dims. named_by dims base) (λ dims. named_over dims base is)

  pub whole_over : (w : Written) → IsWritten test w → Holds (IsOver test) (whole_type w)
  unfolding whole_type
  whole_over (Whole t) is = is
  whole_over (Open place e) is = tt

  module _ (env : Env) (found : (name : List ℕ) → PassesOr test (find env.names name)) where
    base_over : (place : Place) (b : Base) → Holds (IsOver test) (base_type env place b)
    unfolding base_type
    base_over place (Keyword b) = basic_over test b
    base_over place (Name name) = struct_over place (find env.names name) (found name)

    pub written_over : (t : TypeSpec) → Holds (IsWritten test) (written_type env t)
    unfolding written_by
    written_over t =
        let c = callee env t in
        holds_then (IsWritten test) (dimensions c.brackets) (λ dims. base_type env c.place c.base >>= (λ t. Ok (bracketed dims t)))
        (λ dims. holds_after (IsOver test) (IsWritten test) (base_type env c.place c.base) (λ t. Ok (bracketed dims t)) (base_over c.place c.base) (λ t is. bracketed_over dims t is))
