-- Records of what a shader begins with and leaves, field by field.
use Rattle.std.proofs.Common.{◌≡◌, ap, ◌∙◌, ℕ, List, [], map, length}
use Rattle.std.specs.Prelude.{Bool, if◌then◌else◌}
use Rattle.gsl_base.specs.declared.input.Buffer.{Buffer}
use Rattle.gsl_base.specs.declared.input.Input.{Input}
use Rattle.gsl_base.specs.declared.input.Located.{Located}
use Rattle.gsl_base.specs.declared.input.Output.{Output}
use Rattle.gsl_types.specs.declared.ty.StructType.{StructType}
use Rattle.gsl_values.specs.declared.value.Value.{Value}
use Rattle.gsl_tree.specs.declared.program.Program.{Program}
use Rattle.gsl_meaning.specs.State.{State}
use Rattle.gsl_meaning.specs.Blocks.{begun, put_blocks}
use Rattle.gsl_meaning.specs.Stages.{interface_begins, outs_of}
use Rattle.gsl_meaning.specs.Shader.{begins, output_of}
use Rattle.gsl_perform_state.specs.Beginning.{global_begun}

abbrev state : List Value → List Value → List Value → List Value → List Value → List ℕ → State
state g b i p l c = record { globals = g; blocks = b; interfaces = i; params = p; locals = l; choices = c }

pub begun_is : (p : Program) (input : Input) (structs : List StructType) (g b i ps ls : List Value) (c : List ℕ) → structs ≡ p.structs → g ≡ map (global_begun structs) p.globals → b ≡ map (begun p.structs input) p.blocks
    → i ≡ map (interface_begins structs input) p.interfaces → ps ≡ [] → ls ≡ [] → c ≡ input.choices → state g b i ps ls c ≡ begins p input
begun_is p input structs g b i ps ls c same g_is b_is i_is p_is l_is c_is =
    ap (λ x. state x b i ps ls c) (g_is ∙ ap (λ (s : List StructType). map (global_begun s) p.globals) same) ∙ ap (λ x. state (map (global_begun p.structs) p.globals) x i ps ls c) b_is
    ∙ ap (λ x. state (map (global_begun p.structs) p.globals) (map (begun p.structs input) p.blocks) x ps ls c) (i_is ∙ ap (λ (s : List StructType). map (interface_begins s input) p.interfaces) same)
    ∙ ap (λ x. state (map (global_begun p.structs) p.globals) (map (begun p.structs input) p.blocks) (map (interface_begins p.structs input) p.interfaces) x ls c) p_is
    ∙ ap (λ x. state (map (global_begun p.structs) p.globals) (map (begun p.structs input) p.blocks) (map (interface_begins p.structs input) p.interfaces) [] x c) l_is
    ∙ ap (λ x. state (map (global_begun p.structs) p.globals) (map (begun p.structs input) p.blocks) (map (interface_begins p.structs input) p.interfaces) [] [] x) c_is

abbrev output : List Buffer → List Located → Bool → ℕ → Output
output b o k r = record { buffers = b; outs = o; killed = k; rest = r }

pub left_is : (p : Program) (input : Input) (killed : Bool) (store : State) (b : List Buffer) (o : List Located) (r : ℕ) → b ≡ put_blocks p.structs p.blocks store.blocks input.buffers
    → o ≡ (if killed then [] else outs_of p.interfaces store.interfaces) → r ≡ length store.choices → output b o killed r ≡ output_of p input killed store
left_is p input killed store b o r b_is o_is r_is =
    ap (λ x. output x o killed r) b_is ∙ ap (λ x. output (put_blocks p.structs p.blocks store.blocks input.buffers) x killed r) o_is
    ∙ ap (λ x. output (put_blocks p.structs p.blocks store.blocks input.buffers) (if killed then [] else outs_of p.interfaces store.interfaces) killed x) r_is
