-- What is left behind the body of a function is what the definition says.
use Rattle.std.proofs.Common.{◌≡◌, refl, sym, ap, subst, ◌∙◌, ℕ, ◌+◌, ◌<◌, Bool, List, [], ◌∷◌, length, Option, Some, None, Ok, arith}
use Rattle.gsl_base.specs.Checked.{Checked, ◌>>=◌}
use Rattle.gsl_syntax.specs.declared.declaration.Name.{Name}
use Rattle.gsl_syntax.specs.declared.statement.Stmt.{Stmt as Syntax}
use Rattle.gsl_types.specs.declared.ty.Ty.{Ty}
use Rattle.gsl_tree.specs.declared.stmt.Stmt.{Stmt}
use Rattle.gsl_tree.specs.declared.unit.Function.{Function}
use Rattle.gsl_names.specs.declared.entry.Entry.TheVariants as entry
use Rattle.gsl_names.specs.Scopes.{Scopes, outer}
use Rattle.gsl_check_expr.specs.declared.env.Env.{Env}
use Rattle.gsl_check_decl.specs.declared.sound.Outside.{Outside}
use Rattle.gsl_check_decl.proofs.Gathering.{Holds}
use Rattle.gsl_check_stmt.specs.Statements.{statements}
use Rattle.gsl_check_heads.specs.declared.parameter.Parameter.{Parameter}
use Rattle.gsl_check_heads.specs.Heads.{Headed, named_if, params_named, entered, left, left_by}
use Rattle.gsl_check_heads.proofs.Leaving.{outside_of, left_is}
use Rattle.gsl_check.specs.Functions.{nowhere, bodied}
use Rattle.gsl_check.proofs.Keeping.{Keeps, declared_outer, declared_count, ended_is, so_holds}
use Rattle.gsl_check.proofs.Bodies.{statements_keep}

one_outer : (name : Option (List ℕ)) (number : ℕ) (fixed : Bool) (names : Scopes) → outer (named_if name number fixed names) ≡ outer names
one_outer None number fixed names = refl
one_outer (Some name) number fixed names = declared_outer name (entry.Param number fixed) names

one_count : (name : Option (List ℕ)) (number : ℕ) (fixed : Bool) (names : Scopes) → length (named_if name number fixed names) ≡ length names
one_count None number fixed names = refl
one_count (Some name) number fixed names = declared_count name (entry.Param number fixed) names

-- parameters are declared in the innermost scope
params_outer : (number : ℕ) (params : List Parameter) (names : Scopes) → outer (params_named number params names) ≡ outer names
params_outer number [] names = refl
params_outer number (p ∷ params) names = params_outer (number + 1) params (named_if p.name number p.fixed names) ∙ one_outer p.name number p.fixed names

params_count : (number : ℕ) (params : List Parameter) (names : Scopes) → length (params_named number params names) ≡ length names
params_count number [] names = refl
params_count number (p ∷ params) names = params_count (number + 1) params (named_if p.name number p.fixed names) ∙ one_count p.name number p.fixed names

module _ (h : Headed) (some : 0 < length h.env.names) where
  abbrev inside : Scopes
  inside = params_named 0 h.params ([] ∷ h.env.names)

  behind : (after : Env) → Keeps (entered h) after → left_by (outside_of h.env) after ≡ left h.env after
  unfolding entered
  behind after kept =
      let around_is : outer after.names ≡ h.env.names = kept.0 ∙ params_outer 0 h.params ([] ∷ h.env.names) in
      let count : length after.names ≡ 1 + length h.env.names = omega (arith, kept.1, params_count 0 h.params ([] ∷ h.env.names)) in
      left_is h.env after (ended_is after.names h.env.names around_is count some) kept.2

  is_open : 0 < length (entered h).names
  unfolding entered
  is_open = omega (arith, params_count 0 h.params ([] ∷ h.env.names))

  -- where a scope is open around a function, what stood around its body gives what is left behind it
  pub left_behind : (body : List Syntax) → Holds (λ (done : List Stmt × Env). left_by (outside_of h.env) done.1 ≡ left h.env done.1) (statements h.result body nowhere (entered h))
  left_behind body =
      so_holds (λ (done : List Stmt × Env). Keeps (entered h) done.1) (λ (done : List Stmt × Env). left_by (outside_of h.env) done.1 ≡ left h.env done.1)
      (statements h.result body nowhere (entered h)) (statements_keep h.result body nowhere (entered h) is_open) (λ done kept. behind done.1 kept)

  abbrev made : Name → List Stmt → List Ty → Function
  made name all locals = record { prototype = h.number; locals = locals; body = all; place = name.place }

  abbrev given : Function → Env → Checked (Function × Env)
  given f last = Ok (f, last)

  -- the function of a body, where what stood around it is put back behind it
  pub bodied_is : (name : Name) (body : List Syntax) (outside : Outside) (all : List Stmt) (after last : Env) (f : Function) → outside ≡ outside_of h.env
      → statements h.result body nowhere (entered h) ≡ Ok (all, after) → last ≡ left_by outside after → f ≡ made name all after.scene.locals → bodied h name body ≡ given f last
  bodied_is name body outside all after last f around is ends made_is =
      let left_at : left_by (outside_of h.env) after ≡ left h.env after =
      subst (λ (r : Checked (List Stmt × Env)). Holds (λ (done : List Stmt × Env). left_by (outside_of h.env) done.1 ≡ left h.env done.1) r) is (left_behind body) in
      ap (λ (r : Checked (List Stmt × Env)). r >>= (λ done. given (made name done.0 done.1.scene.locals) (left h.env done.1))) is
      ∙ ap (λ (e : Env). given (made name all after.scene.locals) e) (sym (ends ∙ ap (λ (o : Outside). left_by o after) around ∙ left_at))
      ∙ ap (λ (g : Function). given g last) (sym made_is)
