-- Statements without statements in them.
use Rattle.std.proofs.Common.{◌≡◌, ℕ, Bool, true, false, List, [], ◌∷◌, Option, Some, None, refl, sym, ap, subst, append-nil}
use Rattle.std.specs.Prelude.{slice_get}
use Rattle.std.proofs.lemmas.Bool.{and_from, eq-eqb, or_left, or_right}
use Rattle.gsl_blocks.specs.declared.around.Around.{Around}
use Rattle.gsl_blocks.specs.declared.around.Due.{Due}
use Rattle.gsl_blocks.specs.Around.{is_exit, is_id}
use Rattle.gsl_instr.specs.Forms.{form_of}
use Rattle.gsl_instr.specs.declared.enumerant.execution_model.TheConstants as execution_model
use Rattle.gsl_instr.specs.declared.instruction.Instruction.TheVariants as instruction
use Rattle.gsl_instr.specs.declared.op.TheConstants as op
use Rattle.gsl_words.specs.declared.module.Module.{Module}
use Rattle.gsl_valid.specs.EntryRules.{model_of}
use Rattle.gsl_valid.specs.Ids.{result}
use Rattle.gsl_valid.specs.Instruction.{read}
use Rattle.gsl_valid.specs.Placed.{Code}
use Rattle.gsl_valid.specs.ReturnRules.{gives_void}
use Rattle.gsl_spv.specs.Declarations.{instr}
use Rattle.gsl_spv.specs.Sections.{Sections}
use Rattle.gsl_lower_values.specs.Building.{putting}
use Rattle.gsl_lower_holders.specs.Flow.{Emit, Flow, Lowered, behind, given as give, id_at, putting_here}
use Rattle.gsl_lower_holders.specs.declared.place.FlowPlace.{FlowPlace}
use Rattle.gsl_lower_stmt.specs.Parts.{begins_with, leave_by, returned}
use Rattle.gsl_lower_stmt.specs.declared.exits.Exits.{Exits}
use Rattle.gsl_fitting.specs.Fits.{Behind, Fits, Frame, In, is_mark}
use Rattle.gsl_fitting_steps.specs.Keeping.{DefinesOwed}
use Rattle.gsl_fitting_steps.proofs.Adding.{putting_fine}
use Rattle.gsl_fitting_types.specs.Making.{AreSorted, made}
use Rattle.gsl_fitting_types.proofs.Sorting.{putting_sorts}
use Rattle.gsl_fitting_types.proofs.Stepping.{sits_read}
use Rattle.gsl_fitting_flow.specs.Flowing.{EmitStays, GivesNone, GivesOf, IsHolder, IsLater, IsOf}
use Rattle.gsl_fitting_flow.proofs.Branching.{branch_sits}
use Rattle.gsl_fitting_flow.proofs.Following.{emit_then, flow_same, later_then, lift_stays, none_taken}
use Rattle.gsl_fitting_flow.proofs.Holding.{store_flows, store_stays}
use Rattle.gsl_fitting_expr.specs.Evaluating.{Evaluates}
use Rattle.gsl_fitting_stmt.specs.Doing.{AreExits, AreLabels, MayReturn, Runs, StmtFlows}
use Rattle.gsl_fitting_stmt.proofs.Doing.{nothing_flows, part_then}

-- ---- what stays

put_stays : (op : ℕ) (args : List ℕ) (u : Flow) → result (read (instr op args)) ≡ None → EmitStays u (putting_here op args u)
put_stays op args u none = lift_stays u (putting op args u.sections) (putting_sorts op args u.sections none)

begins_stay : (number v : ℕ) (u : Flow) → EmitStays u (begins_with number v u)
unfolding begins_with
begins_stay number v u = by (slice_get u.place.locals number)
  where
    by : (o : Option ℕ) → EmitStays u (behind (id_at o u) (λ id. putting_here op.STORE (id ∷ v ∷ [])))
    by (Some id) = store_stays id v u
    by None = tt

leave_stays : (o : Option ℕ) (u : Flow) → EmitStays u (leave_by o u)
unfolding leave_by form_of
leave_stays None u = tt
leave_stays (Some label) u = put_stays op.BRANCH (label ∷ []) u refl

module _ (whole : Sections) (main : ℕ) (local_size : List ℕ) (rank : ℕ → ℕ) (f : Frame) (sorted : AreSorted whole) where
  abbrev m : Module
  m = made whole main local_size rank f

  abbrev S : List ℕ → ℕ → Bool → Exits → List ℕ → Flow → Lowered (Unit {0}) → Type 0
  S asks deep leaves exits given before lowered = StmtFlows whole main local_size rank f asks deep leaves exits given before lowered

  abbrev R : Flow → List ℕ → ℕ → Bool → Exits → Emit (Unit {0}) → Type 0
  R s asks deep leaves exits run = Runs whole main local_size rank f s asks deep leaves exits run

  -- ---- values

  -- a statement behind a value takes no holder
  value_then : (s : Flow) (asks : List ℕ) (deep : ℕ) (splits leaves : Bool) (exits : Exits) (type : ℕ) (value : Emit ℕ) (next : ℕ → Emit (Unit {0})) → Evaluates whole main local_size rank f s asks deep splits type value → ((v : ℕ) (u : Flow) → EmitStays u (next v u))
      → ((v : ℕ) (u : Flow) (now : List ℕ) → IsLater s u → IsOf whole main local_size rank f now type v → S [] deep leaves exits now u (next v u)) → R s asks deep leaves exits (λ u. behind (value u) next)
  value_then s asks deep splits leaves exits type value next e sorts flows = record {
    stays = λ u. emit_then u (value u) next (e.stays u) sorts;
    flows = λ given u here.
        subst (λ l. S l deep leaves exits given u (behind (value u) next)) (append-nil asks)
        (part_then whole main local_size rank f sorted asks [] deep splits leaves exits given (GivesOf whole main local_size rank f type) u (value u) next (e.stays u) (e.flows given u here) sorts (λ v w now is later. flows v w now (later_then s u w here later) is));
  }

  pub value_runs : (s : Flow) (asks : List ℕ) (deep : ℕ) (splits : Bool) (exits : Exits) (type : ℕ) (value : Emit ℕ) → Evaluates whole main local_size rank f s asks deep splits type value → R s asks deep false exits (λ u. behind (value u) (λ v. give tt))
  value_runs s asks deep splits exits type value e = value_then s asks deep splits false exits type value (λ v. give tt) e (λ v u. flow_same u) (λ v u now here is. nothing_flows whole main local_size rank f sorted deep exits now u)

  -- ---- local variables

  begins_flow : (s : Flow) (deep : ℕ) (exits : Exits) (given : List ℕ) (number type v : ℕ) (u : Flow) → IsLater s u → ((id : ℕ) → slice_get s.place.locals number ≡ Some id → IsHolder whole main local_size rank f type id) → IsOf whole main local_size rank f given type v → S [] deep false exits given u (begins_with number v u)
  unfolding begins_with
  begins_flow s deep exits given number type v u here holds value = by (slice_get u.place.locals number) (sym (ap (λ (p : FlowPlace). slice_get p.locals number) here.place))
    where
      by : (o : Option ℕ) → slice_get s.place.locals number ≡ o → S [] deep false exits given u (behind (id_at o u) (λ id. putting_here op.STORE (id ∷ v ∷ [])))
      by (Some id) e =
          part_then whole main local_size rank f sorted [] [] deep false false exits given (GivesNone whole main local_size rank f) u (putting_here op.STORE (id ∷ v ∷ []) u) (λ done. give tt) (store_stays id v u) (store_flows whole main local_size rank f sorted deep given type id v u (holds id e) value) (λ done w. flow_same w)
          (λ done w now nothing later. nothing_flows whole main local_size rank f sorted deep exits now w)
      by None e = tt

  pub declare_runs : (s : Flow) (asks : List ℕ) (deep : ℕ) (splits : Bool) (exits : Exits) (number type : ℕ) (value : Emit ℕ) → ((id : ℕ) → slice_get s.place.locals number ≡ Some id → IsHolder whole main local_size rank f type id) → Evaluates whole main local_size rank f s asks deep splits type value
      → R s asks deep false exits (λ u. behind (value u) (begins_with number))
  declare_runs s asks deep splits exits number type value holds e = value_then s asks deep splits false exits type value (begins_with number) e (λ v u. begins_stay number v u) (λ v u now here is. begins_flow s deep exits now number type v u here holds is)

  -- ---- ends of blocks

  abbrev EndsBlock : Exits → List ℕ → ℕ → ℕ → List ℕ → Type 0
  EndsBlock exits given label code args = (follows : Code) (c : Around) (due : List Due) → AreExits c exits → c.leaves ≡ true → Fits m rank f follows (Behind due) → Fits m rank f (instr code args ∷ follows) (In label c given due)

  end_flows : (deep : ℕ) (exits : Exits) (given : List ℕ) (code : ℕ) (args : List ℕ) (u : Flow) → result (read (instr code args)) ≡ None → (AreLabels m exits → EndsBlock exits given u.place.label code args) → S [] deep true exits given u (putting_here code args u)
  end_flows deep exits given code args u none ends = λ inside labels hold. record {
    now = given;
    passes = record {
      fine = putting_fine m code args u.sections (subst (DefinesOwed u.sections) (sym none) tt);
      code = instr code args ∷ [];
      puts = refl;
      fits = λ follows c due fresh leads may low h. ends labels follows c due leads may h;
    };
    taken = none_taken whole main local_size rank f u.place.used;
  }

  -- ---- jumps

  leave_flows : (deep : ℕ) (exits : Exits) (o : Option ℕ) (given : List ℕ) (u : Flow) → ((label : ℕ) → o ≡ Some label → AreLabels m exits → is_mark m label ≡ true) → ((c : Around) (label : ℕ) → o ≡ Some label → AreExits c exits → is_exit c label ≡ true) → S [] deep true exits given u (leave_by o u)
  unfolding leave_by form_of
  leave_flows deep exits None given u marks leads = tt
  leave_flows deep exits (Some label) given u marks leads =
      end_flows deep exits given op.BRANCH (label ∷ []) u refl
      (λ labels follows c due exiting may h. Fits.ends label refl (or_right (is_id c.follow label) _ (leads c label refl exiting)) (branch_sits whole main local_size rank f sorted given label (marks label refl labels)) h)

  pub break_runs : (s : Flow) (deep : ℕ) (exits : Exits) → R s [] deep true exits (leave_by exits.break_to)
  break_runs s deep exits = record { stays = λ u. leave_stays exits.break_to u; flows = λ given u here. leave_flows deep exits exits.break_to given u (λ label e labels. labels.breaks label e) (λ c label e leads. leads.breaks label e) }

  pub continue_runs : (s : Flow) (deep : ℕ) (exits : Exits) → R s [] deep true exits (leave_by exits.continue_to)
  continue_runs s deep exits = record { stays = λ u. leave_stays exits.continue_to u; flows = λ given u here. leave_flows deep exits exits.continue_to given u (λ label e labels. labels.continues label e) (λ c label e leads. or_left _ _ (or_right (is_id c.loop_merge label) _ (leads.continues label e))) }

  -- ---- out of the function

  pub return_runs : (s : Flow) (deep : ℕ) (exits : Exits) → gives_void m (Some f.function) ≡ true → R s [] deep true exits (returned None)
  unfolding form_of
  return_runs s deep exits void = record {
    stays = λ u. put_stays op.RETURN [] u refl;
    flows = λ given u here. end_flows deep exits given op.RETURN [] u refl
        (λ labels follows c due leads may h. Fits.leaves refl may (sits_read whole main local_size rank f given (instr op.RETURN []) instruction.Return refl refl refl refl refl refl refl void refl tt) h);
  }

  pub return_value_runs : (s : Flow) (asks : List ℕ) (deep : ℕ) (splits : Bool) (exits : Exits) (type : ℕ) (value : Emit ℕ) → MayReturn whole main local_size rank f type → Evaluates whole main local_size rank f s asks deep splits type value → R s asks deep true exits (returned (Some value))
  unfolding form_of
  return_value_runs s asks deep splits exits type value may_return e =
      value_then s asks deep splits true exits type value (λ x. putting_here op.RETURN_VALUE (x ∷ [])) e (λ v u. put_stays op.RETURN_VALUE (v ∷ []) u refl)
      (λ v u now here is. end_flows deep exits now op.RETURN_VALUE (v ∷ []) u refl
      (λ labels follows c due leads may h. Fits.leaves refl may
      (sits_read whole main local_size rank f now (instr op.RETURN_VALUE (v ∷ [])) (instruction.ReturnValue v) refl refl (and_from _ _ is.known refl) refl refl refl refl (may_return v is.typed) refl tt) h))

  pub discard_runs : (s : Flow) (deep : ℕ) (exits : Exits) → model_of m.instrs ≡ execution_model.FRAGMENT → R s [] deep true exits (putting_here op.KILL [])
  unfolding form_of
  discard_runs s deep exits fragment = record {
    stays = λ u. put_stays op.KILL [] u refl;
    flows = λ given u here. end_flows deep exits given op.KILL [] u refl
        (λ labels follows c due leads may h. Fits.leaves refl may
        (sits_read whole main local_size rank f given (instr op.KILL []) instruction.Kill refl refl refl refl refl refl refl (eq-eqb (model_of m.instrs) execution_model.FRAGMENT fragment) refl tt) h);
  }
