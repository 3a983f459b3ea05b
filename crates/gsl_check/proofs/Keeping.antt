-- What statements leave as it was: the scopes around theirs, and the lists of the unit but for the structs.
use Rattle.std.proofs.Common.{◌≡◌, refl, ap, ◌∙◌, ℕ, ◌+◌, ◌<◌, Bool, false, List, [], ◌∷◌, length, map, None, Ok, Err, arith}
use Rattle.std.specs.List.{AllByRecursion}
use Rattle.std.proofs.lemmas.Bool.{cond-true, lt-ltb}
use Rattle.gsl_base.specs.Checked.{Checked, ◌>>=◌}
use Rattle.gsl_base.specs.declared.fault.Code.TheVariants.{E0701}
use Rattle.gsl_syntax.specs.declared.expr.TypeSpec.{TypeSpec}
use Rattle.gsl_syntax.specs.declared.declaration.Name.{Name}
use Rattle.gsl_syntax.specs.declared.declaration.Qual.{Qual}
use Rattle.gsl_syntax.specs.declared.declaration.Struct.{Struct}
use Rattle.gsl_syntax.specs.declared.declaration.Decl.{Decl}
use Rattle.gsl_syntax.specs.declared.declaration.Decl.TheVariants as decl
use Rattle.gsl_syntax.specs.declared.declaration.Declarator.{Declarator}
use Rattle.gsl_syntax.specs.declared.declaration.Declarator.TheVariants as declarator_of
use Rattle.gsl_types.specs.declared.ty.Ty.{Ty}
use Rattle.gsl_types.specs.declared.ty.Ty.TheVariants as ty
use Rattle.gsl_types.specs.declared.ty.Member.{Member}
use Rattle.gsl_tree.specs.declared.expr.Expr.{Expr}
use Rattle.gsl_tree.specs.declared.stmt.Stmt.{Stmt}
use Rattle.gsl_tree.specs.declared.stmt.Stmt.TheVariants as stmt
use Rattle.gsl_tree.specs.declared.folded.Folded.{Folded}
use Rattle.gsl_tree.specs.declared.folded.Folded.TheVariants.{NotConstant}
use Rattle.gsl_typing.specs.declared.scene.Part.{Part}
use Rattle.gsl_typing.specs.Rows.{fault}
use Rattle.gsl_names.specs.declared.entry.Entry.{Entry}
use Rattle.gsl_names.specs.Scopes.{Scopes, declare, outer}
use Rattle.gsl_check_expr.specs.declared.env.Env.{Env}
use Rattle.gsl_check_expr.specs.declared.writing.Written.{Written}
use Rattle.gsl_check_expr.specs.declared.writing.Written.TheVariants.{Whole}
use Rattle.gsl_check_expr.specs.Expressions.{bracket}
use Rattle.gsl_check_expr.specs.Written.{declared, whole_type, written_type}
use Rattle.gsl_check_expr.specs.Initialisers.{initial}
use Rattle.gsl_check_decl.specs.Steps.{Step, in_turn, as_one, opened, ended, closed, scoped}
use Rattle.gsl_check_decl.specs.Locals.{with_local, may_be_plain, plain_variable, set_variable, may_begin, begun_variable, declarator, qualified}
use Rattle.gsl_check_decl.specs.Structs.{with_struct, with_lines, may_be_struct, structured}
use Rattle.gsl_check_decl.specs.Declarations.{variables, struct_and_variables, declared_by, declaration}
use Rattle.gsl_check_decl.proofs.Gathering.{Holds, holds_then, holds_after}
use Rattle.gsl_check_heads.proofs.Leaving.{around}
use Rattle.gsl_typing.specs.Conversions.{as_type}

-- the scopes around the innermost one, how many there are, and what the unit has
abbrev pub Keeps : Env → Env → Type 0
Keeps before after = (outer after.names ≡ outer before.names) × (length after.names ≡ length before.names) × (around after.scene ≡ around before.scene)

pub same : (env : Env) → Keeps env env
same env = (refl, refl, refl)

pub then_keeps : (a b c : Env) → Keeps a b → Keeps b c → Keeps a c
then_keeps a b c first next = (next.0 ∙ first.0, next.1 ∙ first.1, next.2 ∙ first.2)

-- what is left where a scope is open
abbrev pub Stays : {A : Type 0} → (A → Env) → Env → Checked A → Type 0
Stays {A} view env answer = Holds (λ (x : A). Keeps env (view x)) answer

abbrev pub after_one : Stmt × Env → Env
after_one done = done.1

abbrev pub after_all : List Stmt × Env → Env
after_all done = done.1

abbrev pub Steady : Step → Type 0
Steady step = (env : Env) → 0 < length env.names → Stays after_one env (step env)

-- of what is given, where this follows
pub so_holds : {A : Type 0} (P Q : A → Type 0) (x : Checked A) → Holds P x → ((a : A) → P a → Q a) → Holds Q x
so_holds P Q (Ok a) is so = so a is
so_holds P Q (Err e) is so = tt

pub still_open : (a b : Env) → Keeps a b → 0 < length a.names → 0 < length b.names
still_open a b kept is = omega (arith, kept.1, is)

-- ---- scopes

pub declared_outer : (name : List ℕ) (e : Entry) (names : Scopes) → outer (declare name e names) ≡ outer names
declared_outer name e [] = refl
declared_outer name e (scope ∷ names) = refl

pub declared_count : (name : List ℕ) (e : Entry) (names : Scopes) → length (declare name e names) ≡ length names
declared_count name e [] = refl
declared_count name e (scope ∷ names) = refl

-- behind the end of a scope that was opened, the names are those before it
pub ended_is : (names before : Scopes) → outer names ≡ before → length names ≡ 1 + length before → 0 < length before → ended names ≡ before
ended_is names before is count some = cond-true _ (outer names) names (lt-ltb 1 (length names) (omega (arith, count, some))) ∙ is

pub closes : (env inner : Env) → 0 < length env.names → Keeps (opened env) inner → Keeps env (closed inner)
closes env inner some kept =
    let names : ended inner.names ≡ env.names = ended_is inner.names env.names kept.0 (omega (arith, kept.1)) some in
    (ap outer names, ap (λ (n : Scopes). length n) names, kept.2)

-- ---- one after the other

pub turns : (steps : List Step) → AllByRecursion Steady steps → (env : Env) → 0 < length env.names → Stays after_all env (in_turn steps env)
turns [] all env some = same env
turns (step ∷ steps) all env some =
    holds_after (λ (first : Stmt × Env). Keeps env first.1) (λ (done : List Stmt × Env). Keeps env done.1) (step env)
    (λ first. in_turn steps first.1 >>= (λ rest. Ok (first.0 ∷ rest.0, rest.1))) (all.0 env some)
    (λ first kept. holds_after (λ (rest : List Stmt × Env). Keeps first.1 rest.1) (λ (done : List Stmt × Env). Keeps env done.1) (in_turn steps first.1)
    (λ rest. Ok (first.0 ∷ rest.0, rest.1)) (turns steps all.1 first.1 (still_open env first.1 kept some)) (λ rest more. then_keeps env first.1 rest.1 kept more))

pub scoped_steady : (step : Step) → Steady step → Steady (scoped step)
scoped_steady step is env some =
    holds_after (λ (done : Stmt × Env). Keeps (opened env) done.1) (λ (done : Stmt × Env). Keeps env done.1) (step (opened env)) (λ done. Ok (done.0, closed done.1))
    (is (opened env) (omega (arith, some))) (λ done kept. closes env done.1 some kept)

-- ---- declarations

local_kept : (fixed : Bool) (name : List ℕ) (t : Ty) (folded : Folded) (env : Env) → Keeps env (with_local fixed name t folded env)
unfolding with_local
local_kept fixed name t folded env = (declared_outer name _ env.names, declared_count name _ env.names, refl)

struct_kept : (name : List ℕ) (members : List Member) (env : Env) → Keeps env (with_struct name members env)
unfolding with_struct
struct_kept name members env = (declared_outer name _ env.names, declared_count name _ env.names, refl)

module _ (fixed : Bool) (name : Name) (env : Env) where
  abbrev Kept : Stmt × Env → Type 0
  Kept done = Keeps env done.1

  plain_stays : (t : Ty) → Stays after_one env (plain_variable fixed name t env)
  unfolding plain_variable
  plain_stays t = holds_then Kept (may_be_plain fixed name t env) (λ _. Ok (stmt.Declare (length env.scene.locals) None, with_local false name.text t NotConstant env))
      (λ _. local_kept false name.text t NotConstant env)

  set_stays : (t : Ty) (e : Expr) → Stays after_one env (set_variable fixed name t e env)
  unfolding set_variable
  set_stays t e = local_kept fixed name.text t _ env

  begun_stays : (written : Written) (x : Part) → Stays after_one env (begun_variable fixed name written x env)
  unfolding begun_variable
  begun_stays written x = holds_then Kept (may_begin name written x env) (λ t. set_variable fixed name t (as_type t x.expr) env) (λ t. set_stays t (as_type t x.expr))

declarator_steady : (fixed : Bool) (base : Written) (d : Declarator) → Steady (declarator fixed base d)
unfolding declarator
declarator_steady fixed base (declarator_of.Plain name dims) env some =
    holds_then (Kept fixed name env) (declared (map (bracket env) dims) base) (λ t. whole_type t >>= (λ whole. plain_variable fixed name whole env))
    (λ t. holds_then (Kept fixed name env) (whole_type t) (λ whole. plain_variable fixed name whole env) (plain_stays fixed name env))
declarator_steady fixed base (declarator_of.Initialised name dims init) env some =
    holds_then (Kept fixed name env) (declared (map (bracket env) dims) base) (λ t. initial env t init >>= (λ x. begun_variable fixed name t x env))
    (λ t. holds_then (Kept fixed name env) (initial env t init) (λ x. begun_variable fixed name t x env) (begun_stays fixed name env t))

all_steady : {A : Type 0} (f : A → Step) (xs : List A) → ((x : A) → Steady (f x)) → AllByRecursion Steady (map f xs)
all_steady f [] each = tt
all_steady f (x ∷ xs) each = (each x, all_steady f xs each)

declarators_stay : (fixed : Bool) (base : Written) (all : List Declarator) (env : Env) → 0 < length env.names → Stays after_all env (in_turn (map (declarator fixed base) all) env)
declarators_stay fixed base all = turns (map (declarator fixed base) all) (all_steady (declarator fixed base) all (declarator_steady fixed base))

module _ (env : Env) (some : 0 < length env.names) where
  abbrev AllKept : List Stmt × Env → Type 0
  AllKept done = Keeps env done.1

  variables_stay : (quals : List Qual) (t : TypeSpec) (all : List Declarator) → Stays after_all env (variables quals t all env)
  unfolding variables
  variables_stay quals t all =
      holds_then AllKept (qualified env quals) (λ fixed. written_type env t >>= (λ base. in_turn (map (declarator fixed base) all) env))
      (λ fixed. holds_then AllKept (written_type env t) (λ base. in_turn (map (declarator fixed base) all) env) (λ base. declarators_stay fixed base all env some))

  structured_stays : (s : Struct) → Holds (λ (done : ℕ × Env). Keeps env done.1) (structured s env)
  unfolding structured
  structured_stays s =
      holds_then (λ (done : ℕ × Env). Keeps env done.1) (with_lines env s.members [])
      (λ members. may_be_struct s.name members env >>= (λ _. Ok (length env.scene.structs, with_struct s.name.text members env)))
      (λ members. holds_then (λ (done : ℕ × Env). Keeps env done.1) (may_be_struct s.name members env) (λ _. Ok (length env.scene.structs, with_struct s.name.text members env))
      (λ _. struct_kept s.name.text members env))

  struct_stays : (quals : List Qual) (s : Struct) (all : List Declarator) → Stays after_all env (struct_and_variables quals s all env)
  unfolding struct_and_variables
  struct_stays quals s all =
      holds_then AllKept (qualified env quals) (λ fixed. structured s env >>= (λ done. in_turn (map (declarator fixed (Whole (ty.Struct done.0))) all) done.1))
      (λ fixed. holds_after (λ (done : ℕ × Env). Keeps env done.1) AllKept (structured s env) (λ done. in_turn (map (declarator fixed (Whole (ty.Struct done.0))) all) done.1) (structured_stays s)
      (λ done kept. so_holds (λ (last : List Stmt × Env). Keeps done.1 last.1) AllKept (in_turn (map (declarator fixed (Whole (ty.Struct done.0))) all) done.1)
      (declarators_stay fixed (Whole (ty.Struct done.0)) all done.1 (still_open env done.1 kept some)) (λ last more. then_keeps env done.1 last.1 kept more)))

  declared_stays : (d : Decl) → Stays after_all env (declared_by d env)
  unfolding declared_by
  declared_stays (decl.Variables quals t all) = variables_stay quals t all
  declared_stays (decl.Struct quals s all) = struct_stays quals s all
  declared_stays (decl.Block quals name members instance) = holds_then AllKept (qualified env quals) (λ fixed. fault name.place E0701) (λ fixed. tt)
  declared_stays (decl.Quals quals) = holds_then AllKept (qualified env quals) (λ fixed. Ok ([], env)) (λ fixed. same env)

pub declaration_steady : (d : Decl) → Steady (declaration d)
unfolding declaration
declaration_steady d env some =
    holds_after (λ (done : List Stmt × Env). Keeps env done.1) (λ (done : Stmt × Env). Keeps env done.1) (declared_by d env) (λ done. Ok (as_one done.0, done.1)) (declared_stays env some d)
    (λ done kept. kept)
