-- What is done with the values of operands in a row.
use Rattle.std.proofs.Common.{◌≡◌, ℕ, Bool, true, false, ◌||◌, List}
use Rattle.gsl_base.specs.declared.input.Input.{Input}
use Rattle.gsl_types.specs.declared.ty.Ty.{Ty}
use Rattle.gsl_words.specs.declared.module.Module.{Module}
use Rattle.gsl_values.specs.declared.value.Value.{Value}
use Rattle.gsl_tree.specs.Around.{Around}
use Rattle.gsl_tree.specs.declared.program.Program.{Program}
use Rattle.gsl_meaning.specs.Expressions.{Meant, in_order}
use Rattle.gsl_meaning.specs.Running.{Run}
use Rattle.gsl_meaning.specs.Running as shader_run
use Rattle.gsl_meaning.specs.State as shader
use Rattle.gsl_machine.specs.State.{State}
use Rattle.gsl_spv.specs.Sections.{Sections}
use Rattle.gsl_lower_law.specs.Values.{StandEach}
use Rattle.gsl_lower_holders.specs.Flow.{Emit, Flow, ◌>>=◌}
use Rattle.gsl_lower_expr.specs.Parts.{Lower, any_splits, operands}
use Rattle.gsl_lower_follows.specs.Frames.{Frame, Good}
use Rattle.gsl_lower_follows.specs.Giving.{Adds, Does, GivesValue, Grown, HasGiven, none_waits}
use Rattle.gsl_lower_follows.proofs.Doing.{does_then}
use Rattle.gsl_lower_follows.proofs.Growing.{adds_then}
use Rattle.gsl_lower_follows.proofs.Holding.{does_so}
use Rattle.gsl_lower_law_expr.specs.Known.{AllGive, AllTyped}
use Rattle.gsl_lower_law_expr.specs.Rows.{HasAll}
use Rattle.gsl_lower_law_expr.proofs.Lists.{adds_operands, operands_do}
use Rattle.gsl_lower_law_expr.proofs.Operands.{given_behind}

pub none_more : (c : Bool) → c ≡ false → (c || false) ≡ false
none_more true e = absurd cc
none_more false e = e

module _ (m : Module) (input : Input) (whole : Sections) (f : Frame m input whole) (p : Program) (around : Around) (args : List Lower) (xs : List Meant) (ty : Ty) (go : List ℕ → Emit ℕ) (apply : List Value → Run Value) where
  -- What is done with the values behind a flow, where they are there.
  abbrev pub EndsAll : Flow → Type 0
  EndsAll b0 = (ids : List ℕ) (vs : List Value) (b : Flow) (s : shader.State) (units : ℕ) (state : State) → Grown b0 b → Good m input whole f p around b s state → AllTyped p args vs → StandEach state.ids ids vs
      → Does m input whole f p 0 units state (HasGiven m input whole f p around false ty b state) none_waits (apply vs s units) (go ids b)

  pub adds_all : AllGive (GivesValue m input whole f p around) args xs → ((ids : List ℕ) → Adds (go ids)) → Adds (operands args >>= go)
  adds_all all adds_go = adds_then (operands args) go (adds_operands m input whole f p around args xs all) adds_go

  -- from one flow on
  pub all_do : AllGive (GivesValue m input whole f p around) args xs → ((ids : List ℕ) → Adds (go ids)) → (b0 : Flow) (s : shader.State) (units : ℕ) (state : State) → EndsAll b0 → Good m input whole f p around b0 s state
      → Does m input whole f p 0 units state (HasGiven m input whole f p around (any_splits args) ty b0 state) none_waits (shader_run.◌>>=◌ (in_order xs) apply s units) ((operands args >>= go) b0)
  all_do all adds_go b0 s units state ends good =
      does_then m input whole f p 0 units b0 state (HasAll m input whole f p around args b0 state) none_waits (HasGiven m input whole f p around (any_splits args) ty b0 state) none_waits (in_order xs s units) apply (operands args b0) go good.inside
      (adds_operands m input whole f p around args xs all b0) adds_go (operands_do m input whole f p around args xs all b0 s units state good)
      (λ ids b1 vs t left mid inside grown has less.
      does_so m input whole f p around 0 left mid (HasGiven m input whole f p around false ty b1 mid) (HasGiven m input whole f p around (any_splits args) ty b0 state) (apply vs t left) (go ids b1)
      (λ id later z u last g. given_behind m input whole f p around (any_splits args) false (any_splits args) ty b0 b1 later state mid last t u id z (none_more (any_splits args)) grown has.after g)
      (ends ids vs b1 t left mid grown has.after.good has.typed has.stand))
      (λ ids b1 t left mid inside grown none less. absurd none)

  -- wherever they stand
  pub all_give : AllGive (GivesValue m input whole f p around) args xs → ((ids : List ℕ) → Adds (go ids)) → ((b0 : Flow) → EndsAll b0) → GivesValue m input whole f p around (any_splits args) ty (operands args >>= go) (shader_run.◌>>=◌ (in_order xs) apply)
  all_give all adds_go ends = record { adds = adds_all all adds_go; does = λ b s units state good. all_do all adds_go b s units state (ends b) good }
