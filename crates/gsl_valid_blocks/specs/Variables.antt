-- Tables of the variables of a module.
use Rattle.std.specs.Prelude.{◌≡◌, ℕ, Bool, ◌==◌, ◌&&◌, nat_eq, if◌then◌else◌, Option, Some, None}
use Rattle.indexmap.specs.IndexMap.{IndexMap, get}
use Rattle.gsl_words.specs.declared.module.Module.{Module}
use Rattle.gsl_instr.specs.declared.enumerant.decoration.TheConstants as decoration
use Rattle.gsl_decorations.specs.Firsts.{first_from}
use Rattle.gsl_valid.specs.Instruction.{read}
use Rattle.gsl_valid.specs.Kinds.{Variable}
use Rattle.gsl_valid.specs.Placed.{Code}
use Rattle.gsl_valid.specs.Types.{variable_of}
use Rattle.gsl_valid.specs.Decorations.{number_on}
use Rattle.gsl_valid.specs.DecorationRules.{is_bound_class, is_bound_to}

-- both of two numbers, if there are both
abbrev pub both : Option ℕ → Option ℕ → Option (ℕ × ℕ)
both None b = None
both (Some a) None = None
both (Some a) (Some b) = Some (a, b)

-- the set and the binding of a variable of a class that has them
abbrev pub binding_of : Module → ℕ → ℕ → Option (ℕ × ℕ)
binding_of m class id =
    if is_bound_class class then both (number_on m decoration.DESCRIPTOR_SET id) (number_on m decoration.BINDING id) else None

abbrev pub binding_in : Module → Option Variable → Option (ℕ × ℕ)
binding_in m None = None
binding_in m (Some v) = binding_of m v.class v.id

-- whether two bindings are one
abbrev pub same_binding : ℕ × ℕ → ℕ × ℕ → Bool
same_binding a b = a.0 == b.0 && a.1 == b.1

-- The rows give of each class the number of the first of its variables in some code.
abbrev pub TellsClasses : {S : Type 0} → IndexMap ℕ ℕ S → Code → Type 0
TellsClasses rows code = (class : ℕ) → get nat_eq rows class ≡ first_from (λ i. variable_of class (read i)) 0 code

-- The rows give of each binding the number of the first variable of a module that has it.
abbrev pub TellsBindings : {S : Type 0} → IndexMap (ℕ × ℕ) ℕ S → Module → Type 0
TellsBindings rows m = (binding : ℕ × ℕ) → get same_binding rows binding ≡ first_from (λ i. is_bound_to m (Some binding.0) (Some binding.1) (read i)) 0 m.instrs
