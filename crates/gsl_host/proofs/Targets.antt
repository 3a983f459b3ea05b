-- Faults by target: what a push and a pop do to them.
use Rattle.std.proofs.Common.{◌≡◌, ℕ, ◌<◌, ◌≤◌, Bool, true, cond, List, [], ◌∷◌, ◌++◌, Option, Some, None, refl, ap, sym, ◌∙◌, arith, MatchOption}
use Rattle.std.proofs.lemmas.List.Sums.{sum_by-append}
use Rattle.std.proofs.lemmas.Cmp.{nat_list_eq_equiv}
use Rattle.gsl_host.specs.declared.target.Stream.{Stream}
use Rattle.gsl_host.specs.declared.target.Stream.TheVariants.{Out, Err}
use Rattle.gsl_host.specs.declared.target.Target.{Target}
use Rattle.gsl_host.specs.declared.target.Target.TheVariants.{Reading, Writing, Printing}
use Rattle.gsl_host.specs.Faults.{same_stream, same_target, faults_of, front}

pub front-push : (failed : List Target) (last : Target) → front (failed ++ last ∷ []) ≡ failed
front-push [] last = refl
front-push (first ∷ []) last = refl
front-push (first ∷ next ∷ more) last = ap (λ rest. first ∷ rest) (front-push (next ∷ more) last)

pub front_of_pop : (last : Option Target) (old new : List Target) → MatchOption last ((old ≡ []) × (new ≡ [])) (λ t. old ≡ new ++ t ∷ []) → new ≡ front old
front_of_pop None old new both = both.1 ∙ ap front (sym both.0)
front_of_pop (Some t) old new same = sym (ap front same ∙ front-push new t)

same_stream-refl : (stream : Stream) → same_stream stream stream ≡ true
same_stream-refl Out = refl
same_stream-refl Err = refl

same_target-refl : (target : Target) → same_target target target ≡ true
same_target-refl (Reading name) = nat_list_eq_equiv.refl name
same_target-refl (Writing name) = nat_list_eq_equiv.refl name
same_target-refl (Printing stream) = same_stream-refl stream

-- a further fault lowers no count
pub faults_of-push : (failed : List Target) (t target : Target) → faults_of failed target ≤ faults_of (failed ++ t ∷ []) target
unfolding faults_of
faults_of-push failed t target = omega (arith, sum_by-append (λ u. cond (same_target target u) 1 0) failed (t ∷ []))

-- and raises that of its own target
pub faults_of-same : (failed : List Target) (target : Target) → faults_of failed target < faults_of (failed ++ target ∷ []) target
unfolding faults_of
faults_of-same failed target =
    let counts : Bool → ℕ = λ same. cond same 1 0 in
    omega (arith, ap counts (same_target-refl target), sum_by-append (λ u. cond (same_target target u) 1 0) failed (target ∷ []))

pub ruleset fault_counts = (front-push, faults_of-push, faults_of-same)
