-- How many constants and ids a program's module has.
use Rattle.std.proofs.Common.{◌≡◌, ℕ, ◌+◌, ◌*◌, ◌≤◌, List, [], ◌∷◌, ◌++◌, length, length-append, ap, ◌∙◌, arith}
use Rattle.std.specs.Prelude.{fold}
use Rattle.std.specs.List.{range_with_len, flat_map, AllByRecursion}
use Rattle.std.proofs.lemmas.Bool.{cond_both}
use Rattle.std.proofs.lemmas.List.FromFn.{length-range_with_len}
use Rattle.gsl_form.specs.declared.program.Term.{Term}
use Rattle.gsl_form.specs.declared.program.Term.TheVariants.{Member, Literal}
use Rattle.gsl_form.specs.declared.program.Statement.{Statement}
use Rattle.gsl_form.specs.declared.program.Program.{Program}
use Rattle.gsl_form.specs.Form.{IsStatement, IsProgram}
use Rattle.gsl_cmd.specs.Lowering.{with_value, literals_of, values_used, constants_of, more_ids, sum_ids, statements_ids}
use Rattle.gsl_cmd.specs.Weight.{statements_weight}
use Rattle.gsl_cmd.proofs.Known.{among}
use Rattle.gsl_cmd.proofs.ValidIds.{bound_of}

with_value_few : (values : List ℕ) (v : ℕ) → length (with_value values v) ≤ length values + 1
with_value_few values v =
    cond_both (among values v) values (values ++ v ∷ []) (λ xs. length xs ≤ length values + 1) (λ e. omega arith) (λ e. omega (arith, length-append values (v ∷ [])))

fold_few : (start values : List ℕ) → length (fold with_value start values) ≤ length start + length values
fold_few start [] = omega arith
fold_few start (v ∷ values) = omega (arith, fold_few (with_value start v) values, with_value_few start v)

module _ (constants : List ℕ) where
  more_few : (terms : List Term) → length (literals_of terms) + more_ids constants terms ≤ 3 * length terms
  more_few [] = omega arith
  more_few (Member k ∷ terms) = omega (arith, more_few terms)
  more_few (Literal n ∷ terms) = omega (arith, more_few terms)

  sum_few : (terms : List Term) → length (literals_of terms) + sum_ids constants terms ≤ 3 * length terms
  sum_few [] = omega arith
  sum_few (Member k ∷ terms) = omega (arith, more_few terms)
  sum_few (Literal n ∷ terms) = omega (arith, more_few terms)

  -- the literals and the ids of statements
  statements_few : (statements : List Statement) → length (flat_map (λ s. literals_of s.terms) statements) + statements_ids constants statements ≤ 2 * statements_weight statements
  statements_few [] = omega arith
  statements_few (s ∷ statements) =
      omega (arith, statements_few statements, sum_few s.terms, length-append (literals_of s.terms) (flat_map (λ t. literals_of t.terms) statements))

-- The bound is small for the weight.
pub bound_few : (p : Program) → bound_of p ≤ 10 + length p.members + 2 * statements_weight p.statements
bound_few p =
    let literals = flat_map (λ s. literals_of s.terms) p.statements in
    let used : length (values_used p) ≡ length p.members + length literals =
    length-append (range_with_len 0 (length p.members)) literals ∙ ap (λ n. n + length literals) (length-range_with_len 0 (length p.members)) in
    let few : length (constants_of p) ≤ 0 + length (values_used p) = fold_few [] (values_used p) in
    omega (arith, statements_few (constants_of p) p.statements)

pub statements_light : (members : ℕ) (statements : List Statement) → AllByRecursion (IsStatement members) statements → statements_weight statements ≤ 130 * length statements
statements_light members [] all = omega arith
statements_light members (s ∷ statements) all = let most = all.0.most in omega (arith, statements_light members statements all.1)

pub bound_below : (p : Program) → IsProgram p → bound_of p ≤ 70000
bound_below p fits = omega (arith, bound_few p, statements_light (length p.members) p.statements fits.statements)
