-- What indexes lead to, as the shader means them (GLSL 4.50, 5.5 to 5.7).
use Rattle.std.specs.Prelude.{◌≡◌, ℕ, false, Some, length}
use Rattle.gsl_types.specs.Known.{IsSound}
use Rattle.gsl_types.specs.declared.ty.Ty.{Ty}
use Rattle.gsl_values.specs.declared.value.Value.{Value}
use Rattle.gsl_tree.specs.Expressions.{element_of}
use Rattle.gsl_tree.specs.Values.{word_in}
use Rattle.gsl_tree.specs.declared.program.Program.{Program}
use Rattle.gsl_meaning.specs.Accesses.{Access}
use Rattle.gsl_meaning.specs.Running.{Got, Run, indexing, ◌>>=◌}
use Rattle.gsl_meaning.specs.State.{State}
use Rattle.gsl_lower_expr.specs.Parts.{Lower}

-- the part at an index
abbrev pub indexed_means : Run Access → Run Value → Run Access
indexed_means run index = run >>= (λ x. index >>= (λ v. indexing x (word_in v)))

-- An index into what is of a type gives what is of another.
pub record Indexes (p : Program) (base t : Ty) : Type 0 where
  pub sound : IsSound (length p.structs) base
  pub sound_part : IsSound (length p.structs) t
  pub element : element_of base ≡ Some t

-- An index is a literal of a number, which does nothing but give it.
pub record IsLiteral (i : Lower) (number : ℕ) (run : Run Value) : Type 0 where
  pub literal : i.traits.literal ≡ Some number
  pub alone : i.traits.splits ≡ false
  pub quiet : i.traits.calls ≡ false
  pub gives : (s : State) (units : ℕ) → (v : Value) × (run s units ≡ Got v s units) × (word_in v ≡ number)
