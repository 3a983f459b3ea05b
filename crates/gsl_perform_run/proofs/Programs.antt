-- What a well typed program has, and what its shader comes to.
use Rattle.std.proofs.Common.{◌≡◌, sym, ap, subst, ◌∙◌, ℕ, List, [], ◌∷◌, slice_get, IsTrue, Result}
use Rattle.std.specs.Prelude.{IfOk}
use Rattle.std.specs.List.{AllByRecursion}
use Rattle.gsl_base.specs.declared.input.Input.{Input}
use Rattle.gsl_types.specs.Known.{AreStructs}
use Rattle.gsl_types.specs.declared.ty.Member.{Member}
use Rattle.gsl_types.specs.declared.ty.StructType.{StructType}
use Rattle.gsl_layout.specs.Extents.{ArePlain, plain}
use Rattle.gsl_tree.specs.declared.program.Program.{Program}
use Rattle.gsl_tree.specs.WellTyped.{IsBlock, IsProgram, IsStructDeclared, IsVariableType}
use Rattle.gsl_meaning.specs.State.{State}
use Rattle.gsl_meaning.specs.Running.{Ran}
use Rattle.gsl_meaning.specs.Expressions.{Called}
use Rattle.gsl_meaning.specs.Shader.{Outcome, begins, main_of, outcome_of, shader}
use Rattle.gsl_perform.specs.Framed.{Framed}
use Rattle.gsl_base.specs.declared.memory.Memory.{Memory}
use Rattle.gsl_perform_run.specs.declared.outcome.Performed.{Performed}
use Rattle.gsl_perform_run.specs.Performing.{outcome}
use Rattle.gsl_block_words.proofs.Formed.{same_plain}
use Rattle.gsl_block_words.proofs.Buffered.{holds_at}

pub known : (p : Program) → IsProgram p → AreStructs p.structs
known p is = is.typed.structs

all_plain : (structs : List StructType) (members : List Member) → AllByRecursion (λ (m : Member). IsVariableType structs m.ty) members → AllByRecursion (λ (m : Member). IsTrue (plain m.ty)) members
all_plain structs [] all = tt
all_plain structs (m ∷ members) all = (sym (same_plain m.ty) ∙ all.0.plain, all_plain structs members all.1)

pub plain_structs : (p : Program) → IsProgram p → ArePlain p.structs
plain_structs p is number struct found = all_plain p.structs struct.members (holds_at (IsStructDeclared p.structs) p.structs number struct is.typed.declared found).types

pub blocks_typed : (p : Program) → IsProgram p → AllByRecursion (IsBlock p.structs) p.blocks
blocks_typed p is = is.typed.blocks

-- what `main` comes to is what the shader comes to
pub comes : (p : Program) (input : Input) (f : Framed) (store : State) (units : ℕ) (ran : Ran Called) → f ≡ record { program = p; input = input } → store ≡ begins p input
    → main_of f.program f.input (slice_get f.program.functions f.program.main) store units ≡ ran → outcome_of p input ran ≡ shader p units input
unfolding shader
comes p input f store units ran same begun is =
    sym (ap (outcome_of p input) (ap (λ s. main_of p input (slice_get p.functions p.main) s units) (sym begun)
    ∙ ap (λ (g : Framed). main_of g.program g.input (slice_get g.program.functions g.program.main) store units) (sym same) ∙ is))

pub comes_to : (x y : Outcome) (r : Result Performed Memory) → x ≡ y → IfOk r (λ o. outcome o ≡ x) → IfOk r (λ o. outcome o ≡ y)
comes_to x y r same is = subst (λ z. IfOk r (λ o. outcome o ≡ z)) same is
