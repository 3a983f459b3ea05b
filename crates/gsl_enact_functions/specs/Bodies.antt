-- The instructions of functions, as the code goes through them: up to the first end of a function.
use Rattle.std.specs.Prelude.{ℕ, Bool, true, false, ◌==◌, ◌&&◌, if◌then◌else◌, List, [], ◌∷◌, Option, Some, None}
use Rattle.std.specs.List.{cons_option}
use Rattle.gsl_instr.specs.declared.op.TheConstants as op
use Rattle.gsl_machine.specs.Functions.{back_in, up_to_end}
use Rattle.gsl_machine.specs.State.{State, Waiting}
use Rattle.gsl_valid.specs.Ids.{defines}
use Rattle.gsl_valid.specs.Instruction.{read}
use Rattle.gsl_valid.specs.Kinds.{Variable, variable_is}
use Rattle.gsl_valid.specs.Placed.{Placed}

abbrev pub is_end : Placed → Bool
is_end p = p.instr.op == op.FUNCTION_END

abbrev pub is_label : Placed → Bool
is_label p = p.instr.op == op.LABEL

-- those behind the first of the function of an id
unfoldable pub function_from : List Placed → ℕ → Option (List Placed)
function_from [] id = None
function_from (p ∷ code) id = if p.instr.op == op.FUNCTION && defines p.instr id then Some code else function_from code id

-- those from the label of an id on
unfoldable pub label_from : List Placed → ℕ → Option (List Placed)
label_from [] id = None
label_from (p ∷ code) id = if is_end p then None else if is_label p && defines p.instr id then Some (p ∷ code) else label_from code id

-- those from the first label on
unfoldable pub labels_from : List Placed → List Placed
labels_from [] = []
labels_from (p ∷ code) = if is_end p then [] else if is_label p then p ∷ code else labels_from code

-- what some of them are
unfoldable pub gathered : {A : Type 0} → (Placed → Option A) → List Placed → List A
gathered f [] = []
gathered f (p ∷ code) = cons_option (f p) (if is_end p then [] else gathered f code)

abbrev pub variable_at : Placed → Option Variable
variable_at p = variable_is (read p.instr)

abbrev pub one : {A : Type 0} → Option A → List A
one None = []
one (Some a) = a ∷ []

abbrev pub goes_on : {A : Type 0} → Bool → List A → List A
goes_on true later = later
goes_on false later = []

abbrev pub cut : Option (List Placed) → Option (List Placed)
cut None = None
cut (Some code) = Some (up_to_end code)

-- what the call that waits last comes back to, and the id of its result
abbrev pub returned : List Waiting → State → Option (ℕ × State)
returned [] state = None
returned (call ∷ calls) state = Some (call.result, back_in call calls state)
