-- Expressions whose values are not used, and the ways out of a statement.
use Rattle.std.proofs.Common.{◌≡◌, ◌≢◌, refl, ap, ◌∙◌, subst, ℕ, suc, ◌⊎◌, inl, inr, Bool, true, false, List, [], ◌∷◌, ◌++◌, length, Option, Some, None, arith}
use Rattle.gsl_base.specs.declared.input.Input.{Input}
use Rattle.gsl_instr.specs.Forms.{form_of}
use Rattle.gsl_instr.specs.declared.op.TheConstants as op
use Rattle.gsl_types.specs.declared.ty.Ty.{Ty}
use Rattle.gsl_types.specs.declared.ty.Ty.TheVariants.{Void}
use Rattle.gsl_words.specs.declared.module.Module.{Module}
use Rattle.gsl_values.specs.declared.value.Value.{Value}
use Rattle.gsl_tree.specs.Around.{Around}
use Rattle.gsl_tree.specs.Values.{is_value_of}
use Rattle.gsl_tree.specs.declared.program.Program.{Program}
use Rattle.gsl_meaning.specs.Accesses.{nothing}
use Rattle.gsl_meaning.specs.Running.{Got, Run, given as shader_given}
use Rattle.gsl_meaning.specs.Running as shader_run
use Rattle.gsl_meaning.specs.State as shader
use Rattle.gsl_meaning.specs.Statements.{Normal, Broke, Continued, Returned}
use Rattle.gsl_valid.specs.Placed.{placed_from}
use Rattle.gsl_machine.specs.Functions.{from_label}
use Rattle.gsl_machine.specs.Machine.{behind as going_on, run, step}
use Rattle.gsl_machine.specs.State.{Going, State, on}
use Rattle.gsl_machine.specs.Steps.{in_new_block}
use Rattle.gsl_spv.specs.Calls.{put}
use Rattle.gsl_spv.specs.Declarations.{instr}
use Rattle.gsl_spv.specs.Sections.{Sections}
use Rattle.gsl_lower_law.specs.Values.{Stands}
use Rattle.gsl_lower_law.proofs.Adding.{extends_put}
use Rattle.gsl_lower_holders.specs.Flow.{Emit, Flow, Gives, Lacks, Lowered, behind, flow_of, given, putting_here, ◌>>=◌}
use Rattle.gsl_lower_stmt.specs.Parts.{leave_by, returned}
use Rattle.gsl_lower_stmt.specs.declared.exits.Exits.{Exits}
use Rattle.gsl_lower_follows.specs.Following.{Reaches}
use Rattle.gsl_lower_follows.specs.Frames.{Frame, Good, Inside, coming}
use Rattle.gsl_lower_follows.specs.Giving.{Adds, Does, GivesValue, GrownTo, HasGiven, none_waits}
use Rattle.gsl_lower_follows.proofs.Behind.{follows_then, reaches_here}
use Rattle.gsl_lower_follows.proofs.Growing.{adds_given, adds_then}
use Rattle.gsl_lower_follows.proofs.Placing.{coming_before, inside_between}
use Rattle.gsl_lower_follows.proofs.Reached.{reached_then}
use Rattle.gsl_lower_follows.proofs.Stretches.{stretch_of}
use Rattle.gsl_lower_law_stmt.specs.Doing.{AtLabel, AtReturn, DoesHere, DoesStatement, IsDone, IsResult, StandsBehind, Within}

-- an instruction is put
pub adds_putting : (code : ℕ) (operands : List ℕ) → Adds (putting_here code operands)
adds_putting code operands b = record { extends = extends_put code operands b.sections; used = omega arith; place = refl }

module _ (m : Module) (input : Input) (sections : Sections) (f : Frame m input sections) (p : Program) (around : Around) where
  pub within_good : (b : Flow) (s : shader.State) (state : State) → Good m input sections f p around b s state → Within m input sections f p around s state
  within_good b s state good = record { within = good.within; own = good.own; waiting = good.waiting; holds = good.holds; typed = good.typed; reached = good.reached }

  -- ---- an expression whose value is not used

  module _ (splits : Bool) (ty : Ty) (emit : Emit ℕ) (x : Run Value) (gives : GivesValue m input sections f p around splits ty emit x) where
    eval_here : (exits : Exits) (b : Flow) (s : shader.State) (units : ℕ) (state : State) → Good m input sections f p around b s state
        → DoesHere m input sections f p around units state false exits (shader_run.◌>>=◌ x (λ v. shader_given Normal) s units) ((emit >>= (λ v. given {A = Unit {0}} tt)) b)
    eval_here exits b s units state good = by (emit b) (gives.does b s units state good)
      where
        by : (low : Lowered ℕ) → Does m input sections f p 0 units state (HasGiven m input sections f p around splits ty b state) none_waits (x s units) low
            → DoesHere m input sections f p around units state false exits (shader_run.◌>>=◌ x (λ v. shader_given Normal) s units) (behind low (λ v. given {A = Unit {0}} tt))
        by Lacks does = tt
        by (Gives id later) does = λ inside lead.
            follows_then m input p 0 units state (HasGiven m input sections f p around splits ty b state id later) (none_waits id later) (IsDone m input sections f p around false exits tt later) (none_waits {A = Unit {0}} tt later) (x s units) (λ v. shader_given Normal) (does inside)
            (λ v t left mid g less. reaches_here m input left mid (IsDone m input sections f p around false exits tt later Normal t) (refl, g.after.good))
            (λ t left mid none less. absurd none)

    pub eval_does : DoesStatement m input sections f p around false (λ exits. emit >>= (λ v. given {A = Unit {0}} tt)) (shader_run.◌>>=◌ x (λ v. shader_given Normal))
    eval_does = record { adds = λ exits. adds_then emit (λ v. given {A = Unit {0}} tt) gives.adds (λ v. adds_given {A = Unit {0}} tt); does = eval_here }

    -- ---- `return` with a value

    return_here : ty ≢ Void → ty ≡ f.result → (exits : Exits) (b : Flow) (s : shader.State) (units : ℕ) (state : State) → Good m input sections f p around b s state
        → DoesHere m input sections f p around units state true exits (shader_run.◌>>=◌ x (λ v. shader_given (Returned v)) s units) ((emit >>= (λ id. putting_here op.RETURN_VALUE (id ∷ []))) b)
    return_here real same exits b s units state good = by (emit b) (gives.adds b) (gives.does b s units state good)
      where
        by : (low : Lowered ℕ) → GrownTo b low → Does m input sections f p 0 units state (HasGiven m input sections f p around splits ty b state) none_waits (x s units) low
            → DoesHere m input sections f p around units state true exits (shader_run.◌>>=◌ x (λ v. shader_given (Returned v)) s units) (behind low (λ id. putting_here op.RETURN_VALUE (id ∷ [])))
        by Lacks grown does = tt
        by (Gives id between) grown does = λ inside lead.
            let there = inside_between m input sections f b.sections between.sections (put op.RETURN_VALUE (id ∷ []) between.sections) good.inside inside grown.extends (extends_put op.RETURN_VALUE (id ∷ []) between.sections) in
            follows_then m input p 0 units state (HasGiven m input sections f p around splits ty b state id between) (none_waits id between) (IsDone m input sections f p around true exits tt (later_of id between)) (none_waits {A = Unit {0}} tt (later_of id between)) (x s units) (λ v. shader_given (Returned v)) (does there)
            (λ v t left mid g less. reaches_here m input left mid (IsDone m input sections f p around true exits tt (later_of id between) (Returned v) t) (at_return id between inside v t mid there g))
            (λ t left mid none less. absurd none)
          where
            later_of : ℕ → Flow → Flow
            later_of id between = flow_of (put op.RETURN_VALUE (id ∷ []) between.sections) between.place

            at_return : (id : ℕ) (between : Flow) → Inside m input sections f (put op.RETURN_VALUE (id ∷ []) between.sections) → (v : Value) (t : shader.State) (mid : State) → Inside m input sections f between.sections
                → HasGiven m input sections f p around splits ty b state id between v t mid → AtReturn m input sections f p around v t mid
            at_return id between inside v t mid there g =
                let at = coming_before m input sections f between.sections (put op.RETURN_VALUE (id ∷ []) between.sections) (instr op.RETURN_VALUE (id ∷ []) ∷ []) there inside refl in
                record {
                  place = at.0;
                  i = instr op.RETURN_VALUE (id ∷ []);
                  rest = coming m input sections f (put op.RETURN_VALUE (id ∷ []) between.sections);
                  is = g.after.good.rest ∙ at.1;
                  gives = inr (id, refl, stands g.given);
                  typed = typed g.given;
                  state_is = within_good between t mid g.after.good;
                }
              where
                stands : (ty ≡ Void) ⊎ ((is_value_of p.structs ty v ≡ true) × Stands mid.ids id v) → Stands mid.ids id v
                stands (inl void) = absurd (real void)
                stands (inr is) = is.1

                typed : (ty ≡ Void) ⊎ ((is_value_of p.structs ty v ≡ true) × Stands mid.ids id v) → IsResult p.structs f.result v
                typed (inl void) = absurd (real void)
                typed (inr is) = inr (subst (λ t. is_value_of p.structs t v ≡ true) same is.0)

    pub return_does : ty ≢ Void → ty ≡ f.result → DoesStatement m input sections f p around true (λ exits. returned (Some emit)) (shader_run.◌>>=◌ x (λ v. shader_given (Returned v)))
    return_does real same = record { adds = λ exits. adds_then emit (λ id. putting_here op.RETURN_VALUE (id ∷ [])) gives.adds (λ id. adds_putting op.RETURN_VALUE (id ∷ [])); does = return_here real same }

  -- `return` without one
  pub return_nothing_does : f.result ≡ Void → DoesStatement m input sections f p around true (λ exits. returned None) (shader_given (Returned nothing))
  return_nothing_does none = record {
    adds = λ exits. adds_putting op.RETURN [];
    does = λ exits b s units state good inside lead.
        let at = coming_before m input sections f b.sections (put op.RETURN [] b.sections) (instr op.RETURN [] ∷ []) good.inside inside refl in
        reaches_here m input units state (IsDone m input sections f p around true exits tt (flow_of (put op.RETURN [] b.sections) b.place) (Returned nothing) s)
        (record { place = at.0; i = instr op.RETURN []; rest = coming m input sections f (put op.RETURN [] b.sections); is = good.rest ∙ at.1; gives = inl (refl, refl); typed = inl none; state_is = within_good b s state good });
  }

  -- ---- `break` and `continue`

  -- A branch to a label that stands behind it leads there.
  leads : (label : ℕ) (b : Flow) (s : shader.State) (units : ℕ) (state : State) → Good m input sections f p around b s state → Inside m input sections f (put op.BRANCH (label ∷ []) b.sections)
      → StandsBehind m input sections f (put op.BRANCH (label ∷ []) b.sections) label → Reaches m input 0 units state (AtLabel m input sections f p around label s) units
  unfolding form_of
  leads label b s units state good inside stands = record {
    later = last;
    is = record { place = stands.place; found = stands.found; ids = refl; state_is = record { within = good.within; own = good.own; waiting = good.waiting; holds = (let h = good.holds in record { values = h.values; blocks = h.blocks; buffers = h.buffers; choices = h.choices; count = h.count; outside = h.outside }); typed = good.typed; reached = reached_then m input 2 state last good.reached runs } };
    less = omega arith;
    stretch = stretch_of m input 2 units state (Going last) (let ahead = stands.ahead in omega (arith, long, ahead)) runs;
  }
    where
      at : (at : ℕ) × (coming m input sections f b.sections ≡ placed_from at (instr op.BRANCH (label ∷ []) ∷ []) ++ coming m input sections f (put op.BRANCH (label ∷ []) b.sections))
      at = coming_before m input sections f b.sections (put op.BRANCH (label ∷ []) b.sections) (instr op.BRANCH (label ∷ []) ∷ []) good.inside inside refl

      last : State
      last = record state { rest = stands.rest; ids = f.own }

      rest_is : state.rest ≡ record { at = at.0; instr = instr op.BRANCH (label ∷ []) } ∷ coming m input sections f (put op.BRANCH (label ∷ []) b.sections)
      rest_is = good.rest ∙ at.1

      long : length state.rest ≡ suc (length (coming m input sections f (put op.BRANCH (label ∷ []) b.sections)))
      long = ap length rest_is

      one : step m input state ≡ Going (in_new_block (record state { rest = record { at = stands.place; instr = instr op.LABEL (label ∷ []) } ∷ stands.rest }))
      one = ap (λ l. step m input (record state { rest = l })) rest_is ∙ ap (λ body. on (from_label body label) (λ code. Going (in_new_block (record state { rest = code })))) good.within ∙ ap (λ o. on o (λ code. Going (in_new_block (record state { rest = code })))) stands.found

      runs : run m input 2 state ≡ Going last
      runs = ap (λ o. going_on o (run m input 1)) one ∙ ap (λ ids. Going (record state { rest = stands.rest; ids = ids })) good.own

  adds_leave : (exit : Option ℕ) → Adds (leave_by exit)
  unfolding leave_by
  adds_leave None b = tt
  adds_leave (Some label) b = adds_putting op.BRANCH (label ∷ []) b

  pub break_does : DoesStatement m input sections f p around true (λ exits. leave_by exits.break_to) (shader_given Broke)
  unfolding leave_by
  break_does = record { adds = λ exits. adds_leave exits.break_to; does = λ exits b s units state good. by exits.break_to exits.continue_to b s units state good }
    where
      by : (exit other : Option ℕ) (b : Flow) (s : shader.State) (units : ℕ) (state : State) → Good m input sections f p around b s state
          → DoesHere m input sections f p around units state true (record { break_to = exit; continue_to = other }) (Got Broke s units) (leave_by exit b)
      by None other b s units state good = tt
      by (Some label) other b s units state good = λ inside lead. leads label b s units state good inside lead.broke

  pub continue_does : DoesStatement m input sections f p around true (λ exits. leave_by exits.continue_to) (shader_given Continued)
  unfolding leave_by
  continue_does = record { adds = λ exits. adds_leave exits.continue_to; does = λ exits b s units state good. by exits.continue_to exits.break_to b s units state good }
    where
      by : (exit other : Option ℕ) (b : Flow) (s : shader.State) (units : ℕ) (state : State) → Good m input sections f p around b s state
          → DoesHere m input sections f p around units state true (record { break_to = other; continue_to = exit }) (Got Continued s units) (leave_by exit b)
      by None other b s units state good = tt
      by (Some label) other b s units state good = λ inside lead. leads label b s units state good inside lead.continued
