-- Where a scope is open, one is open behind a declaration and behind the end of a scope.
use Rattle.std.proofs.Common.{◌≡◌, sym, subst, ℕ, ◌<◌, List, [], ◌∷◌, length, arith}
use Rattle.std.proofs.lemmas.Bool.{cond-true, lt-ltb}
use Rattle.gsl_names.specs.declared.entry.Entry.{Entry}
use Rattle.gsl_names.specs.Scopes.{Scopes, declare}
use Rattle.gsl_check_decl.specs.Steps.{ended}

pub declared_is_open : (name : List ℕ) (e : Entry) (names : Scopes) → 0 < length names → 0 < length (declare name e names)
declared_is_open name e [] is = is
declared_is_open name e (scope ∷ names) is = omega arith

pub ended_is_open : (names : Scopes) → 0 < length names → 0 < length (ended names)
ended_is_open [] is = is
ended_is_open (one ∷ []) is = is
ended_is_open (one ∷ two ∷ names) is =
    let ends : ended (one ∷ two ∷ names) ≡ two ∷ names = cond-true _ (two ∷ names) (one ∷ two ∷ names) (lt-ltb 1 (length (one ∷ two ∷ names)) (omega arith)) in
    subst (λ (n : Scopes). 0 < length n) (sym ends) (omega arith)
