-- A function that was called and its caller, which waits, and where control is when the call is over (GLSL 4.50, 6.1; SPIR-V 1.0, 3.32.17).
use Rattle.std.specs.Prelude.{◌≡◌, ◌≢◌, ℕ, ◌≤◌, ◌⊎◌, Bool, true, false, List, ◌∷◌, ◌++◌, length, slice_get, Some}
use Rattle.gsl_base.specs.declared.input.Input.{Input}
use Rattle.gsl_words.specs.declared.module.Module.{Module}
use Rattle.gsl_values.specs.declared.value.Value.{Value}
use Rattle.gsl_tree.specs.Around.{Around}
use Rattle.gsl_tree.specs.declared.program.Program.{Program}
use Rattle.gsl_meaning.specs.Accesses.{nothing}
use Rattle.gsl_meaning.specs.State as shader
use Rattle.gsl_valid.specs.Placed.{Placed}
use Rattle.gsl_machine.specs.Functions.{call_from}
use Rattle.gsl_machine.specs.State.{State, Waiting}
use Rattle.gsl_spv.specs.Sections.{Sections}
use Rattle.gsl_lower_law.specs.Values.{Keeps, Stands}
use Rattle.gsl_lower_holders.specs.Flow.{Flow}
use Rattle.gsl_lower_law_stmt.specs.OfFollows.{Frame, Global, Good, Holder, Interface, Kept, Local, Name, Param, Stage}

-- whether a name is that of a variable of the module, which all functions know
abbrev pub is_shared : Name → Bool
is_shared (Global number) = true
is_shared (Interface number) = true
is_shared (Stage number) = true
is_shared (Param number) = false
is_shared (Local number) = false
is_shared (Holder number) = false

-- whether it is that of a variable that each call of a function has anew
abbrev pub is_own : Name → Bool
is_own (Global number) = false
is_own (Interface number) = false
is_own (Stage number) = false
is_own (Param number) = false
is_own (Local number) = true
is_own (Holder number) = true

-- Functions of one program have its global variables, inputs and outputs.
pub record AreAlike (around inner : Around) : Type 0 where
  pub globals : inner.globals ≡ around.globals
  pub interfaces : inner.interfaces ≡ around.interfaces

-- the state of the shader behind a call: its caller has its own parameters and local variables again
abbrev pub back_with : shader.State → shader.State → shader.State
back_with caller after = record after { params = caller.params; locals = caller.locals }

-- the call that waits, with the id of its result, where it was made in a state and these instructions stand behind it
abbrev pub call_of : ℕ → State → List Placed → Waiting
call_of id state rest = call_from id (record state { rest = rest })

module _ (m : Module) (input : Input) (whole : Sections) where
  -- A function runs that was called by another, in a state in which control was before the call, with so many holders in use before those of
  -- its arguments. Both have the variables of the module; each parameter is the variable of a holder of the caller, which was in use for none but the call;
  -- and the function's own variables stand behind those that were there, which were then as in that state.
  pub record IsCalled (f g : Frame m input whole) (first id : ℕ) (state : State) (rest : List Placed) : Type 0 where
    pub waiting : g.waiting ≡ call_of id state rest ∷ f.waiting
    pub blocks : g.place.blocks ≡ f.place.blocks
    pub stages : g.stages ≡ f.stages
    pub shared : (name : Name) → is_shared name ≡ true → g.seat name ≡ f.seat name
    pub params : (number seat : ℕ) → g.seat (Param number) ≡ Some seat → (holder : ℕ) × (first ≤ holder) × (f.seat (Holder holder) ≡ Some seat)
    pub own : (name : Name) (seat : ℕ) → is_own name ≡ true → g.seat name ≡ Some seat → length state.variables ≤ seat
    pub begins : List Value
    pub begun : g.begun ≡ state.variables ++ begins

  -- The call is over that was made in a state, and control is behind it in the caller's code: its id stands for the value that was returned, if there is one,
  -- the ids of the block, the first holders and those that were not passed are as they were, and the variables that were passed have the values of the parameters at the end.
  pub record IsBack (f g : Frame m input whole) (p : Program) (around : Around) (first id : ℕ) (state : State) (later : Flow) (caller : shader.State) (v : Value) (after : shader.State) (last : State) : Type 0 where
    pub good : Good m input whole f p around later (back_with caller after) last
    pub ids : Keeps state.ids last.ids
    pub given : (v ≡ nothing) ⊎ Stands last.ids id v
    pub held : Kept m input whole f first state last
    pub others : (holder number : ℕ) → f.seat (Holder holder) ≡ Some number → ((parameter : ℕ) → g.seat (Param parameter) ≢ Some number) → slice_get last.variables number ≡ slice_get state.variables number
    pub params : (number : ℕ) (w : Value) → slice_get after.params number ≡ Some w → (seat : ℕ) × (g.seat (Param number) ≡ Some seat) × (slice_get last.variables seat ≡ Some w)
