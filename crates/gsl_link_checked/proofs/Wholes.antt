-- What is declared in a unit that the checker answers has names of its own.
use Rattle.std.proofs.Common.{◌≡◌, refl, ap, ◌∙◌, true, List, [], ◌∷◌, ◌++◌, IsTrue, Ok, Err}
use Rattle.std.specs.List.{list_all}
use Rattle.std.proofs.lemmas.Bool.{and_from, and_parts}
use Rattle.gsl_base.specs.Checked.{Checked, ◌>>=◌}
use Rattle.gsl_base.specs.declared.stage.Stage.{Stage}
use Rattle.gsl_syntax.specs.declared.declaration.Decl.{Decl}
use Rattle.gsl_syntax.specs.declared.declaration.Decl.TheVariants as decl
use Rattle.gsl_syntax.specs.declared.statement.Global.{Global}
use Rattle.gsl_syntax.specs.declared.statement.Global.TheVariants as global
use Rattle.gsl_tree.specs.declared.unit.Function.{Function}
use Rattle.gsl_tree.specs.declared.unit.TypedUnit.{TypedUnit}
use Rattle.gsl_names.specs.Scopes.{Scope}
use Rattle.gsl_check_expr.specs.declared.env.Env.{Env}
use Rattle.gsl_check_decl.proofs.Gathering.{Holds, holds_after}
use Rattle.gsl_qualifiers.specs.Qualifiers.{role_of_block, role_of_variables}
use Rattle.gsl_check.specs.Functions.{function}
use Rattle.gsl_check.specs.Units.{Progress, all, begun, checked, declaration, declared_by, finished, next, unit_of, with_functions}
use Rattle.gsl_formed.specs.Formed.{IsFormedUnit, IsParsed, global_formed}
use Rattle.gsl_check_law.proofs.Functioned.{FunctionsDone, function_top}
use Rattle.gsl_check_law.proofs.Outer.{two_hold}
use Rattle.gsl_check_law.proofs.Rows.{given, holds_where}
use Rattle.gsl_check_law.proofs.Wholes.{IsSoFar, unit_is}
use Rattle.gsl_link_checked.proofs.Named.{IsNamed, Names, names_grow}
use Rattle.gsl_link_checked.proofs.Standing.{no_rows}
use Rattle.gsl_link_checked.proofs.Heading.{function_named}
use Rattle.gsl_link_checked.proofs.Topmost.{Named, alone_named, block_named, struct_variables_named, variables_named}

-- ---- one more declaration

all_more : (front : List Global) (one : Global) (start done later : Progress) → all front start ≡ Ok done → next one done ≡ Ok later → all (front ++ one ∷ []) start ≡ Ok later
all_more [] one start done later at came =
    let same : start ≡ done = (let e = at in cc) in
    ap (λ (x : Progress). next one x >>= all []) same ∙ ap (λ (x : Checked Progress). x >>= all []) came
all_more (first ∷ front) one start done later at came = by_first (λ mid there. all_more front one mid done later there came) (next first start) at
  where
    by_first : ((mid : Progress) → all front mid ≡ Ok done → all (front ++ one ∷ []) mid ≡ Ok later) → (x : Checked Progress) → (x >>= all front) ≡ Ok done → (x >>= all (front ++ one ∷ [])) ≡ Ok later
    by_first behind (Ok mid) there = behind mid there
    by_first behind (Err fault) there = cc

formed_more : (front : List Global) (one : Global) → IsFormedUnit front → IsTrue (global_formed one) → IsFormedUnit (front ++ one ∷ [])
formed_more [] one formed is = and_from (global_formed one) true is refl
formed_more (first ∷ front) one formed is =
    let parts = and_parts (global_formed first) (list_all global_formed front) formed in
    and_from (global_formed first) (list_all global_formed (front ++ one ∷ [])) parts.0 (formed_more front one parts.1 is)

module _ (stage : Stage) where
  decl_named : (env : Env) → Named stage env → (d : Decl) → Holds (Named stage) (declared_by d env)
  decl_named env is (decl.Variables quals t all) = variables_named stage env is (role_of_variables quals) quals t all
  decl_named env is (decl.Struct quals s all) = struct_variables_named stage env is (role_of_variables quals) quals s all
  decl_named env is (decl.Block quals name lines instance) = block_named stage env is (role_of_block quals) quals name lines instance
  decl_named env is (decl.Quals quals) = alone_named stage env is quals

  declaration_named : (env : Env) → Named stage env → (d : Decl) → Holds (Named stage) (declaration d env)
  unfolding declaration
  declaration_named env is d = decl_named env is d

  -- structs of bodies come behind those that were there
  grown : (before : Env) (done : List Function × Env) → FunctionsDone stage before done → IsNamed stage before.scene.structs done.1 → Named stage done.1
  grown before done made is =
      let s = done.1.scene in
      (is.0, is.1, names_grow before.scene.structs is.0 s.globals s.blocks s.interfaces s.prototypes is.2 s.structs made.top.grows.structs)

  abbrev NamedSoFar : Progress → Type 0
  NamedSoFar so_far = Named stage so_far.env

  next_named : (one : Global) (so_far : Progress) → IsTrue (global_formed one) → IsSoFar stage so_far → NamedSoFar so_far → Holds NamedSoFar (next one so_far)
  next_named (global.Empty place) so_far formed fine is = is
  next_named (global.Decl d) so_far formed fine is =
      holds_after (Named stage) NamedSoFar (declaration d so_far.env) (λ env. Ok (record so_far { env = env })) (declaration_named so_far.env is d) (λ env named. named)
  next_named (global.Function f) so_far formed fine is =
      holds_after (λ (done : List Function × Env). FunctionsDone stage so_far.env done × IsNamed stage so_far.env.scene.structs done.1) NamedSoFar (function f so_far.functions so_far.env) (λ done. Ok (with_functions done))
      (two_hold (FunctionsDone stage so_far.env) (λ (done : List Function × Env). IsNamed stage so_far.env.scene.structs done.1) (function f so_far.functions so_far.env)
      (function_top stage so_far.env fine.env fine.top so_far.functions fine.functions f formed) (function_named stage so_far.env.scene.structs so_far.env is so_far.functions f))
      (λ done both. grown so_far.env done both.0 both.1)

  -- what the first declarations of a unit leave is sound
  front_is : (front : List Global) (so_far : Progress) → IsFormedUnit front → all front (begun stage) ≡ Ok so_far → IsSoFar stage so_far
  front_is front so_far formed at = given (IsSoFar stage) (all front (begun stage)) so_far (unit_is stage front formed) at

  all_named : (rest front : List Global) (so_far : Progress) → IsFormedUnit front → IsFormedUnit rest → all front (begun stage) ≡ Ok so_far → NamedSoFar so_far → Holds NamedSoFar (all rest so_far)
  all_named [] front so_far before formed at is = is
  all_named (one ∷ rest) front so_far before formed at is =
      let parts = and_parts (global_formed one) (list_all global_formed rest) formed in
      holds_where NamedSoFar (next one so_far) (all rest)
      (λ later came.
      all_named rest (front ++ one ∷ []) later (formed_more front one before parts.0) parts.1 (all_more front one (begun stage) so_far later at came)
      (given NamedSoFar (next one so_far) later (next_named one so_far parts.0 (front_is front so_far before at) is) came))

  begun_named : NamedSoFar (begun stage)
  begun_named = (
    [],
    refl,
    record {
      rows = no_rows;
      globals_there = tt;
      blocks_there = tt;
      interfaces_there = tt;
      heads_there = tt;
      globals_apart = tt;
      blocks_apart = tt;
      interfaces_apart = tt;
      heads_apart = tt;
    },
  )

-- names of a unit
abbrev pub UnitNamed : TypedUnit → Type 0
UnitNamed unit = (scope : Scope) × Names unit.structs scope unit.globals unit.blocks unit.interfaces unit.prototypes

-- what the checker answers has names of its own
pub checked_named : (stage : Stage) (tree : List Global) (unit : TypedUnit) → IsParsed tree → checked stage tree ≡ Ok unit → UnitNamed unit
unfolding checked finished
checked_named stage tree unit parsed is =
    given UnitNamed (all tree (begun stage) >>= (λ done. Ok (unit_of done))) unit
    (holds_after (NamedSoFar stage) UnitNamed (all tree (begun stage)) (λ done. Ok (unit_of done)) (all_named stage tree [] (begun stage) refl parsed.formed refl (begun_named stage))
    (λ done named. (named.0, named.2))) is
