-- Bodies of functions up to the return.
use Rattle.std.proofs.Common.{◌≡◌, ◌≢◌, refl, sym, ap, ◌∙◌, subst, ℕ, inl, inr, ◌⊎◌, Bool, true, false, [], ◌∷◌}
use Rattle.gsl_base.specs.declared.input.Input.{Input}
use Rattle.gsl_instr.specs.declared.op.TheConstants as op
use Rattle.gsl_types.specs.Structs.{numbered}
use Rattle.gsl_types.specs.declared.ty.Ty.{Ty}
use Rattle.gsl_types.specs.declared.ty.Ty.TheFolds.{ind-Ty, map-Ty}
use Rattle.gsl_types.specs.declared.ty.Ty.TheOpen.{Ty-F}
use Rattle.gsl_types.specs.declared.ty.Ty.TheVariants.{Void, outs-Void, rolls-Void}
use Rattle.gsl_types.specs.declared.ty.Ty.TheViews.{out-Ty, out-roll-Ty, roll-Ty}
use Rattle.gsl_types.proofs.Layers.{over_void}
use Rattle.gsl_words.specs.declared.module.Module.{Module}
use Rattle.gsl_values.specs.declared.value.Value.{Value}
use Rattle.gsl_tree.specs.Around.{Around}
use Rattle.gsl_tree.specs.Values.{is_value_of, zero_meaning, zero_value}
use Rattle.gsl_tree.specs.declared.program.Program.{Program}
use Rattle.gsl_meaning.specs.Accesses.{nothing}
use Rattle.gsl_meaning.specs.Running.{Ends, Goes, Got, Ran, Run, Strays}
use Rattle.gsl_meaning.specs.State as shader
use Rattle.gsl_meaning.specs.Statements as statement
use Rattle.gsl_meaning.specs.Statements.{Broke, Continued, Normal, Returned}
use Rattle.gsl_machine.specs.State.{State}
use Rattle.gsl_spv.specs.Calls as call
use Rattle.gsl_spv.specs.Calls.{put}
use Rattle.gsl_spv.specs.Declarations as d
use Rattle.gsl_spv.specs.Declarations.{instr}
use Rattle.gsl_spv.specs.Sections.{Sections}
use Rattle.gsl_spv.specs.declared.plain.PlainConst.TheVariants as of
use Rattle.gsl_spv.specs.declared.refusal.TheConstants.{MOST_IDS}
use Rattle.std.specs.Prelude.{nat_le, if◌then◌else◌}
use Rattle.gsl_lower_values.specs.Building.{Full, Made, id_by}
use Rattle.gsl_lower_law.specs.Computing.{Grows}
use Rattle.gsl_lower_law.specs.Values.{Stands}
use Rattle.gsl_lower_law.proofs.Adding.{extends_intern, extends_put}
use Rattle.gsl_lower_holders.specs.Flow.{Emit, Flow, Gives, Lacks, Lowered, behind, given, lift, putting_here, type_id, ◌>>=◌}
use Rattle.gsl_lower_expr.specs.Calls.{zeros}
use Rattle.gsl_lower_stmt.specs.declared.exits.Exits.{Exits}
use Rattle.gsl_lower_follows.specs.Following.{Follows, Reaches}
use Rattle.gsl_lower_follows.specs.Frames.{Frame, Good, coming}
use Rattle.gsl_lower_follows.specs.Giving.{Adds, Does, Grown, GrownTo, HasGiven, none_waits}
use Rattle.gsl_lower_follows.proofs.Behind.{reaches_behind}
use Rattle.gsl_lower_follows.proofs.Fetching.{adds_type_id}
use Rattle.gsl_lower_follows.proofs.Growing.{adds_given, adds_lift, adds_then, grown_behind}
use Rattle.gsl_lower_follows.proofs.Placing.{coming_before, inside_between}
use Rattle.gsl_lower_law_entered.specs.OfLawStmt.{AtReturn, DoesStatement, IsDone, IsResult, LeadBehind, UnderExits}
use Rattle.gsl_lower_law_entered.proofs.OfLawStmt.{adds_putting, return_nothing_does}
use Rattle.gsl_lower_law_functions.specs.Bodies.{AtResult, DoesBody, GivesZeros, bodied, ending, no_exits, zeros_returned}

-- ---- types

abbrev OnlyVoid : Ty → Type 0
OnlyVoid t = out-Ty t ≡ Ty-F.Void → t ≡ Void

only_layer : (y : Ty-F ((t : Ty) × OnlyVoid t)) → OnlyVoid (roll-Ty (map-Ty _ _ (λ e. e.0) y))
only_layer Ty-F.Void e = rolls-Void
only_layer (Ty-F.One s) e = absurd (let z : Ty-F.One s ≡ Ty-F.Void = sym (out-roll-Ty (Ty-F.One s)) ∙ e in cc)
only_layer (Ty-F.Vector s n) e = absurd (let z : Ty-F.Vector s n ≡ Ty-F.Void = sym (out-roll-Ty (Ty-F.Vector s n)) ∙ e in cc)
only_layer (Ty-F.Array a n) e = absurd (let z : Ty-F.Array a.0 n ≡ Ty-F.Void = sym (out-roll-Ty (Ty-F.Array a.0 n)) ∙ e in cc)
only_layer (Ty-F.Runtime a) e = absurd (let z : Ty-F.Runtime a.0 ≡ Ty-F.Void = sym (out-roll-Ty (Ty-F.Runtime a.0)) ∙ e in cc)
only_layer (Ty-F.Struct k) e = absurd (let z : Ty-F.Struct k ≡ Ty-F.Void = sym (out-roll-Ty (Ty-F.Struct k)) ∙ e in cc)

only_void : (t : Ty) → OnlyVoid t
only_void = ind-Ty OnlyVoid (λ x y is. subst (λ z. OnlyVoid (roll-Ty z)) is (only_layer y))

-- zeros, and their return
abbrev with_zeros : Ty → Emit (Unit {0})
with_zeros t = zeros t >>= (λ zero. putting_here op.RETURN_VALUE (zero ∷ []))

returned_is : (t : Ty) → t ≢ Void → zeros_returned t (out-Ty t) ≡ with_zeros t
returned_is t real = by (out-Ty t) refl
  where
    by : (layer : Ty-F Ty) → out-Ty t ≡ layer → zeros_returned t layer ≡ with_zeros t
    by Ty-F.Void e = absurd (real (only_void t e))
    by (Ty-F.One s) e = refl
    by (Ty-F.Vector s n) e = refl
    by (Ty-F.Array a n) e = refl
    by (Ty-F.Runtime a) e = refl
    by (Ty-F.Struct k) e = refl

-- ---- what only adds

pub adds_zeros : (m : Module) (input : Input) (whole : Sections) (t : Ty) → Adds (zeros t)
unfolding zeros
adds_zeros m input whole t = adds_then (type_id t) (λ type. lift (id_by (call.constant (of.Null type)))) (adds_type_id m input whole t) (λ type. adds_lift (id_by (call.constant (of.Null type))) (λ b. by type b (nat_le (call.constant (of.Null type) b.sections).sections.last MOST_IDS)))
  where
    by : (type : ℕ) (b : Flow) (test : Bool) → Grows b.sections (if test then Made (call.constant (of.Null type) b.sections).id (call.constant (of.Null type) b.sections).sections else Full)
    by type b true = extends_intern (d.null type) b.sections
    by type b false = tt

module _ (m : Module) (input : Input) (whole : Sections) (f : Frame m input whole) (p : Program) (around : Around) where
  no_lead : (b : Sections) → LeadBehind m input whole f b no_exits
  no_lead b = record { broke = tt; continued = tt }

  -- control is before the return of a value, whatever was put
  abbrev Before : Value → Unit {0} → Flow → Unit {0} → shader.State → State → Type 0
  Before v done later r t last = AtReturn m input whole f p around v t last

  returns_nothing : f.result ≡ Void → (b : Flow) (s : shader.State) (units : ℕ) (state : State) → Good m input whole f p around b s state → Does m input whole f p 0 units state (Before nothing) none_waits (Got tt s units) (putting_here op.RETURN [] b)
  returns_nothing none b s units state good inside =
      let q = (return_nothing_does m input whole f p around none).does no_exits b s units state good inside (no_lead (put op.RETURN [] b.sections)) in
      record { later = q.later; is = q.is; less = q.less; stretch = q.stretch }

  returns_zeros : (t : Ty) (v : Value) → t ≢ Void → t ≡ f.result → (b : Flow) (s : shader.State) (units : ℕ) (state : State) → Good m input whole f p around b s state
      → Does m input whole f p 0 units state (HasGiven m input whole f p around false t b state) none_waits (Got v s units) (zeros t b) → Does m input whole f p 0 units state (Before v) none_waits (Got tt s units) (with_zeros t b)
  returns_zeros t v real same b s units state good = by (zeros t b) (adds_zeros m input whole t b)
    where
      by : (low : Lowered ℕ) → GrownTo b low → Does m input whole f p 0 units state (HasGiven m input whole f p around false t b state) none_waits (Got v s units) low → Does m input whole f p 0 units state (Before v) none_waits (Got tt s units) (behind low (λ id. putting_here op.RETURN_VALUE (id ∷ [])))
      by Lacks grown does = tt
      by (Gives id between) grown does = λ inside.
          let there = inside_between m input whole f b.sections between.sections (put op.RETURN_VALUE (id ∷ []) between.sections) good.inside inside grown.extends (extends_put op.RETURN_VALUE (id ∷ []) between.sections) in
          let q = does there in
          let at = coming_before m input whole f between.sections (put op.RETURN_VALUE (id ∷ []) between.sections) (instr op.RETURN_VALUE (id ∷ []) ∷ []) there inside refl in
          let after = q.is.after.good in
          record {
            later = q.later;
            is = record {
              place = at.0;
              i = instr op.RETURN_VALUE (id ∷ []);
              rest = coming m input whole f (put op.RETURN_VALUE (id ∷ []) between.sections);
              is = after.rest ∙ at.1;
              gives = inr (id, refl, stands q.later id q.is.given);
              typed = typed q.later id q.is.given;
              state_is = record { within = after.within; own = after.own; waiting = after.waiting; holds = after.holds; typed = after.typed; reached = after.reached };
            };
            less = q.less;
            stretch = q.stretch;
          }
        where
          stands : (last : State) (id : ℕ) → (t ≡ Void) ⊎ ((is_value_of p.structs t v ≡ true) × Stands last.ids id v) → Stands last.ids id v
          stands last id (inl void) = absurd (real void)
          stands last id (inr is) = is.1

          typed : (last : State) (id : ℕ) → (t ≡ Void) ⊎ ((is_value_of p.structs t v ≡ true) × Stands last.ids id v) → IsResult p.structs f.result v
          typed last id (inl void) = absurd (real void)
          typed last id (inr is) = inr (subst (λ u. is_value_of p.structs u v ≡ true) same is.0)

  -- ---- a body

  module _ (leaves : Bool) (row : Exits → Emit (Unit {0})) (run : Run statement.Flow) (b : Flow) (does_row : DoesStatement m input whole f p around leaves row run) (end : Emit (Unit {0})) (adds_end : Adds end)
      (ends : (later : Flow) → Grown b later → (s : shader.State) (units : ℕ) (state : State) → Good m input whole f p around later s state → Does m input whole f p 0 units state (Before (zero_value p.structs f.result)) none_waits (Got tt s units) (end later)) where
    abbrev Is : Unit {0} → Flow → statement.Flow → shader.State → State → Type 0
    Is done later flow t last = AtResult m input whole f p around flow t last

    -- where the statements leave, nothing stands behind them
    leaving : leaves ≡ true → (s : shader.State) (units : ℕ) (state : State) → Good m input whole f p around b s state → Does m input whole f p 0 units state Is none_waits (run s units) ((row no_exits >>= (λ done. given {A = Unit {0}} tt)) b)
    leaving left s units state good = by (row no_exits b) (does_row.does no_exits b s units state good)
      where
        so : (later : Flow) (ran : Ran statement.Flow) → Follows m input p 0 units state (IsDone m input whole f p around leaves no_exits tt later) (none_waits {A = Unit {0}} tt later) ran → Follows m input p 0 units state (Is tt later) (none_waits {A = Unit {0}} tt later) ran
        so later (Got Normal t rest) q = absurd (let z : true ≡ false = sym left ∙ q.is.0 in cc)
        so later (Got Broke t rest) q = absurd q.is
        so later (Got Continued t rest) q = absurd q.is
        so later (Got (Returned v) t rest) q = q
        so later (Ends t) q = q
        so later Strays q = q
        so later Goes q = q

        by : (low : Lowered (Unit {0})) → UnderExits m input whole f p around units state no_exits (IsDone m input whole f p around leaves no_exits) (run s units) low
            → Does m input whole f p 0 units state Is none_waits (run s units) (behind low (λ done. given {A = Unit {0}} tt))
        by Lacks does = tt
        by (Gives done later) does = λ inside. so later (run s units) (does inside (no_lead later.sections))

    -- where their end may be reached, what is put there returns
    going_on : (s : shader.State) (units : ℕ) (state : State) → Good m input whole f p around b s state → Does m input whole f p 0 units state Is none_waits (run s units) ((row no_exits >>= (λ done. end)) b)
    going_on s units state good = by (row no_exits b) (does_row.adds no_exits b) (does_row.does no_exits b s units state good)
      where
        by : (low : Lowered (Unit {0})) → GrownTo b low → UnderExits m input whole f p around units state no_exits (IsDone m input whole f p around leaves no_exits) (run s units) low
            → Does m input whole f p 0 units state Is none_waits (run s units) (behind low (λ done. end))
        by Lacks grown does = tt
        by (Gives done between) grown does = later_by (end between) (adds_end between) (λ t rest mid good. ends between grown t rest mid good)
          where
            later_by : (low : Lowered (Unit {0})) → GrownTo between low → ((t : shader.State) (rest : ℕ) (mid : State) → Good m input whole f p around between t mid → Does m input whole f p 0 rest mid (Before (zero_value p.structs f.result)) none_waits (Got tt t rest) low)
                → Does m input whole f p 0 units state Is none_waits (run s units) low
            later_by Lacks more go = tt
            later_by (Gives gone later) more go = λ inside.
                let there = inside_between m input whole f b.sections between.sections later.sections good.inside inside grown.extends more.extends in
                so (run s units) (λ t rest mid now. go t rest mid now inside) (does there (no_lead between.sections))
              where
                so : (ran : Ran statement.Flow)
                    → ((t : shader.State) (rest : ℕ) (mid : State) → Good m input whole f p around between t mid → Reaches m input 0 rest mid (λ last. AtReturn m input whole f p around (zero_value p.structs f.result) t last) rest)
                    → Follows m input p 0 units state (IsDone m input whole f p around leaves no_exits tt between) (none_waits {A = Unit {0}} tt between) ran → Follows m input p 0 units state (Is tt later) (none_waits {A = Unit {0}} tt later) ran
                so (Got Normal t rest) go q =
                    reaches_behind m input 0 0 units rest rest state q.later (Is tt later Normal t) q.stretch q.less
                    (let r = go t rest q.later q.is.1 in record { later = r.later; is = r.is; less = r.less; stretch = r.stretch })
                so (Got Broke t rest) go q = absurd q.is
                so (Got Continued t rest) go q = absurd q.is
                so (Got (Returned v) t rest) go q = q
                so (Ends t) go q = q
                so Strays go q = q
                so Goes go q = q

  -- a body with what its end is
  ended : (leaves : Bool) (row : Exits → Emit (Unit {0})) (run : Run statement.Flow) (b : Flow) → DoesStatement m input whole f p around leaves row run
      → Adds (zeros_returned f.result (out-Ty f.result)) → ((later : Flow) → Grown b later → (s : shader.State) (units : ℕ) (state : State) → Good m input whole f p around later s state → Does m input whole f p 0 units state (Before (zero_value p.structs f.result)) none_waits (Got tt s units) (zeros_returned f.result (out-Ty f.result) later))
      → DoesBody m input whole f p around b (bodied row leaves f.result) run
  unfolding ending
  ended true row run b does_row adds ends = record {
    adds = grown_behind b (row no_exits b) (λ done. given {A = Unit {0}} tt) (does_row.adds no_exits b) (λ done. adds_given {A = Unit {0}} tt);
    does = leaving true row run b does_row (zeros_returned f.result (out-Ty f.result)) adds ends refl;
  }
  ended false row run b does_row adds ends = record {
    adds = grown_behind b (row no_exits b) (λ done. zeros_returned f.result (out-Ty f.result)) (does_row.adds no_exits b) (λ done. adds);
    does = going_on false row run b does_row (zeros_returned f.result (out-Ty f.result)) adds ends;
  }

pub body_does : (m : Module) (input : Input) (whole : Sections) (f : Frame m input whole) (p : Program) (around : Around) (leaves : Bool) (row : Exits → Emit (Unit {0})) (run : Run statement.Flow) (b : Flow) → DoesStatement m input whole f p around leaves row run → f.result ≢ Void
    → GivesZeros m input whole f p around f.result b → DoesBody m input whole f p around b (bodied row leaves f.result) run
body_does m input whole f p around leaves row run b does_row real gives =
    ended m input whole f p around leaves row run b does_row (subst Adds (sym (returned_is f.result real)) (adds_then (zeros f.result) (λ id. putting_here op.RETURN_VALUE (id ∷ [])) (adds_zeros m input whole f.result) (λ id. adds_putting op.RETURN_VALUE (id ∷ []))))
    (λ later grown s units state good. subst (λ (e : Emit (Unit {0})). Does m input whole f p 0 units state (Before m input whole f p around (zero_value p.structs f.result)) none_waits (Got tt s units) (e later)) (sym (returned_is f.result real))
    (returns_zeros m input whole f p around f.result (zero_value p.structs f.result) real refl later s units state good (gives later grown s units state good)))

pub void_body_does : (m : Module) (input : Input) (whole : Sections) (f : Frame m input whole) (p : Program) (around : Around) (leaves : Bool) (row : Exits → Emit (Unit {0})) (run : Run statement.Flow) (b : Flow) → DoesStatement m input whole f p around leaves row run → f.result ≡ Void
    → DoesBody m input whole f p around b (bodied row leaves f.result) run
void_body_does m input whole f p around leaves row run b does_row none =
    ended m input whole f p around leaves row run b does_row (subst (λ (l : Ty-F Ty). Adds (zeros_returned f.result l)) (sym bare) (adds_putting op.RETURN []))
    (λ later grown s units state good. subst (λ (l : Ty-F Ty). Does m input whole f p 0 units state (Before m input whole f p around (zero_value p.structs f.result)) none_waits (Got tt s units) (zeros_returned f.result l later)) (sym bare)
    (subst (λ (v : Value). Does m input whole f p 0 units state (Before m input whole f p around v) none_waits (Got tt s units) (putting_here op.RETURN [] later)) (sym (ap (zero_value p.structs) none ∙ over_void zero_meaning (numbered zero_meaning p.structs)))
    (returns_nothing m input whole f p around none later s units state good)))
  where
    bare : out-Ty f.result ≡ Ty-F.Void
    bare = ap out-Ty none ∙ outs-Void
