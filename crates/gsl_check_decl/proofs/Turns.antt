-- One after the other, with some behind.
use Rattle.std.proofs.Common.{◌≡◌, refl, sym, ap, ◌∙◌, List, [], ◌∷◌, ◌++◌, map, Ok, Err, append_assoc}
use Rattle.gsl_base.specs.Checked.{Checked, ◌>>=◌}
use Rattle.gsl_tree.specs.declared.stmt.Stmt.{Stmt}
use Rattle.gsl_check_expr.specs.declared.env.Env.{Env}
use Rattle.gsl_check_decl.specs.Steps.{Step, in_turn}

-- those that were found, and then what the rest gives
abbrev pub behind_all : List Stmt → List Stmt × Env → Checked (List Stmt × Env)
behind_all found rest = Ok (found ++ rest.0, rest.1)

abbrev behind_one : Stmt → List Stmt × Env → Checked (List Stmt × Env)
behind_one one rest = Ok (one ∷ rest.0, rest.1)

regrouped : (found : List Stmt) (one : Stmt) (rest : Checked (List Stmt × Env)) → ((rest >>= behind_one one) >>= behind_all found) ≡ (rest >>= behind_all (found ++ one ∷ []))
regrouped found one (Ok r) = ap (λ l. Ok (l, r.1)) (sym (append_assoc found (one ∷ []) r.0))
regrouped found one (Err e) = refl

module _ {A : Type 0} (f : A → Step) where
  -- what items give behind those that were found
  abbrev pub from_here : List Stmt → List A → Env → Checked (List Stmt × Env)
  from_here found all env = in_turn (map f all) env >>= behind_all found

  abbrev and_then : List A → Stmt × Env → Checked (List Stmt × Env)
  and_then all first = in_turn (map f all) first.1 >>= behind_one first.0

  pub turn_on : (found : List Stmt) (x : A) (all : List A) (env behind : Env) (one : Stmt) → f x env ≡ Ok (one, behind)
      → from_here found (x ∷ all) env ≡ from_here (found ++ one ∷ []) all behind
  turn_on found x all env behind one is =
      ap (λ (r : Checked (Stmt × Env)). (r >>= and_then all) >>= behind_all found) is ∙ regrouped found one (in_turn (map f all) behind)
