-- Local variables that begin with a value.
use Rattle.std.proofs.Common.{◌≡◌, ◌≢◌, refl, sym, subst, inl, inr, ◌⊎◌, ℕ, ◌<◌, Bool, true, false, List, [], ◌∷◌, length, Option, Some, None}
use Rattle.std.specs.Prelude.{set, slice_get}
use Rattle.gsl_base.specs.declared.input.Input.{Input}
use Rattle.gsl_instr.specs.declared.op.TheConstants as op
use Rattle.gsl_types.specs.declared.ty.Ty.{Ty}
use Rattle.gsl_words.specs.declared.module.Module.{Module}
use Rattle.gsl_values.specs.declared.value.Value.{Value}
use Rattle.gsl_tree.specs.Around.{Around}
use Rattle.gsl_tree.specs.Values.{is_value_of}
use Rattle.gsl_tree.specs.declared.program.Program.{Program}
use Rattle.gsl_meaning.specs.Accesses as access
use Rattle.gsl_meaning.specs.Running.{Got, Run}
use Rattle.gsl_meaning.specs.State as shader
use Rattle.gsl_meaning.specs.Statements as statement
use Rattle.gsl_meaning.specs.Statements.{Normal}
use Rattle.gsl_machine.specs.State.{InVariable, Points, State}
use Rattle.gsl_spv.specs.Sections.{Sections}
use Rattle.gsl_lower_values.specs.Building.{putting}
use Rattle.gsl_lower_law.specs.Values.{Stands}
use Rattle.gsl_lower_follows.proofs.OfLawPlaces.{store_acts, stored_left}
use Rattle.gsl_lower_holders.specs.Flow.{Emit, Flow, Gives, Lacks, Lowered, behind, id_at, putting_here, ◌>>=◌}
use Rattle.gsl_lower_stmt.specs.Parts.{begins_with}
use Rattle.gsl_lower_stmt.specs.declared.exits.Exits.{Exits}
use Rattle.gsl_lower_follows.specs.Frames.{Frame, Good, HasType, Holder, Local, Name, value_of}
use Rattle.gsl_lower_follows.specs.Frames as name
use Rattle.gsl_lower_follows.specs.Giving.{Adds, Does, GivesValue, GrownTo, HasGiven, none_waits}
use Rattle.gsl_lower_follows.proofs.Behind.{follows_then}
use Rattle.gsl_lower_follows.proofs.Doing.{does_lift}
use Rattle.gsl_lower_follows.proofs.Growing.{adds_then}
use Rattle.gsl_lower_follows.proofs.Holding.{seat_known, stores_whole}
use Rattle.gsl_lower_follows.proofs.Placing.{inside_between}
use Rattle.gsl_lower_law_names.proofs.OfLawExpr.{given_value}
use Rattle.gsl_lower_law_names.specs.Named.{IsNamed}
use Rattle.gsl_lower_law_names.proofs.Storing.{IsSet, Other, each_name, holds_set, typed_set}
use Rattle.gsl_lower_law_stmt.specs.Doing.{DoesHere, DoesStatement, IsDone, declared_means}
use Rattle.gsl_lower_law_stmt.proofs.Exits.{adds_putting}

abbrev number_of : Name → ℕ
number_of (name.Global number) = number
number_of (name.Interface number) = number
number_of (name.Stage number) = number
number_of (name.Param number) = number
number_of (Local number) = number
number_of (Holder number) = number

set_local : (stages : List (Option Value)) (number : ℕ) (v : Value) (s : shader.State) → IsSet stages Local number v s (access.stored (access.whole (access.Local number)) v s)
set_local stages number v s = record { values = s.locals; sorts = sorts; was = λ k. refl; is = λ k. refl; blocks = refl; choices = refl }
  where
    sorts : (which : Name) → ((k : ℕ) × (which ≡ Local k)) ⊎ ((which ≢ Local number) × (value_of stages (access.stored (access.whole (access.Local number)) v s) which ≡ value_of stages s which))
    sorts (name.Global k) = inr (λ e. absurd cc, refl)
    sorts (name.Interface k) = inr (λ e. absurd cc, refl)
    sorts (name.Stage k) = inr (λ e. absurd cc, refl)
    sorts (name.Param k) = inr (λ e. absurd cc, refl)
    sorts (Local k) = inl (k, refl)
    sorts (Holder k) = inr (λ e. absurd cc, refl)

adds_begins : (number v : ℕ) → Adds (begins_with number v)
unfolding begins_with
adds_begins number v b = by (slice_get b.place.locals number)
  where
    by : (o : Option ℕ) → GrownTo b (behind (id_at o b) (λ id. putting_here op.STORE (id ∷ v ∷ [])))
    by None = tt
    by (Some id) = adds_putting op.STORE (id ∷ v ∷ []) b

module _ (m : Module) (input : Input) (sections : Sections) (f : Frame m input sections) (p : Program) (around : Around) (number : ℕ) (t : Ty) (known : IsNamed p around (Local number) t) where
  -- the state of the shader where the variable has a value
  abbrev now : Value → shader.State → shader.State
  now v s = access.stored (access.whole (access.Local number)) v s

  -- the value is stored
  does_store : (id word : ℕ) (v : Value) (units : ℕ) (exits : Exits) (b : Flow) (s : shader.State) (state : State) → Good m input sections f p around b s state → slice_get b.place.locals number ≡ Some id → is_value_of p.structs t v ≡ true → Stands state.ids word v
      → Does m input sections f p 0 units state (λ (done : Unit {0}) later (flow : statement.Flow) u last. IsDone m input sections f p around false exits done later flow u last) none_waits (Got Normal (now v s) units) (putting_here op.STORE (id ∷ word ∷ []) b)
  does_store id word v units exits b s state good is typed stands =
      does_lift m input sections f p around units b s state (λ done ids. Unit {0}) (stored_left m input sections state (set state.variables seated.0 v) state.buffers) (λ (done : Unit {0}) later (flow : statement.Flow) u last. IsDone m input sections f p around false exits done later flow u last) none_waits Normal (now v s) (putting op.STORE (id ∷ word ∷ [])) good
      (store_acts m input sections id word (InVariable seated.0 []) v (set state.variables seated.0 v) state.buffers state b.sections (good.ready.lasting.same id _ seated.2) stands (stores_whole m input sections f p around seated.0 v state among))
      (λ done later l inside extends. (
        refl,
        record {
          inside = inside;
          rest = refl;
          within = good.within;
          own = good.own;
          waiting = good.waiting;
          ready = l.ready;
          seated = good.seated;
          holds = (let h = holds_set m input sections f p around Local number seated.0 v s (now v s) state others refl refl seated.1 good.holds in record { values = h.values; blocks = h.blocks; buffers = h.buffers; choices = h.choices; count = h.count; outside = h.outside });
          typed = typed_set m input sections f p around Local number t v s (now v s) refl refl others known.typed typed good.typed;
          reached = l.reached;
        },
      ))
    where
      seated : (n : ℕ) × (f.seat (Local number) ≡ Some n) × (f.own id ≡ Some (Points (InVariable n [])))
      seated = seat_known m input sections f b.place good.seated (Local number) id is

      had : (o : Option Value) → value_of f.stages s (Local number) ≡ o → HasType m input sections f p around (Some t) o → (w : Value) × (value_of f.stages s (Local number) ≡ Some w)
      had None e has = absurd has
      had (Some w) e has = (w, e)

      old : (w : Value) × (value_of f.stages s (Local number) ≡ Some w)
      old = had (value_of f.stages s (Local number)) refl (subst (λ o. HasType m input sections f p around o (value_of f.stages s (Local number))) known.typed (good.typed.each (Local number)))

      others : (which : Name) → Other f.stages Local number v s (now v s) which
      others = each_name f.stages Local number_of (λ k. refl) number v old.0 s (now v s) (set_local f.stages number v s) old.1

      among : seated.0 < length state.variables
      among = subst (λ n. seated.0 < n) (sym good.holds.count) (f.among (Local number) seated.0 seated.1)

  does_begins : (word : ℕ) (v : Value) (units : ℕ) (exits : Exits) (b : Flow) (s : shader.State) (state : State) → Good m input sections f p around b s state → is_value_of p.structs t v ≡ true → Stands state.ids word v
      → Does m input sections f p 0 units state (λ (done : Unit {0}) later (flow : statement.Flow) u last. IsDone m input sections f p around false exits done later flow u last) none_waits (Got Normal (now v s) units) (begins_with number word b)
  unfolding begins_with
  does_begins word v units exits b s state good typed stands = by (slice_get b.place.locals number) refl
    where
      by : (o : Option ℕ) → slice_get b.place.locals number ≡ o
          → Does m input sections f p 0 units state (λ (done : Unit {0}) later (flow : statement.Flow) u last. IsDone m input sections f p around false exits done later flow u last) none_waits (Got Normal (now v s) units) (behind (id_at o b) (λ id. putting_here op.STORE (id ∷ word ∷ [])))
      by None is = tt
      by (Some id) is = does_store id word v units exits b s state good is typed stands

  module _ (splits : Bool) (emit : Emit ℕ) (y : Run Value) (gives : GivesValue m input sections f p around splits t emit y) where
    declared_here : (exits : Exits) (b : Flow) (s : shader.State) (units : ℕ) (state : State) → Good m input sections f p around b s state
        → DoesHere m input sections f p around units state false exits (declared_means number y s units) ((emit >>= begins_with number) b)
    declared_here exits b s units state good = by (emit b) (gives.adds b) (gives.does b s units state good)
      where
        by : (low : Lowered ℕ) → GrownTo b low → Does m input sections f p 0 units state (HasGiven m input sections f p around splits t b state) none_waits (y s units) low → DoesHere m input sections f p around units state false exits (declared_means number y s units) (behind low (begins_with number))
        by Lacks grown does = tt
        by (Gives word b1) grown does = later_by (begins_with number word b1) (adds_begins number word b1) (λ v u left mid good typed stands. does_begins word v left exits b1 u mid good typed stands)
          where
            later_by : (low : Lowered (Unit {0})) → GrownTo b1 low
                → ((v : Value) (u : shader.State) (left : ℕ) (mid : State) → Good m input sections f p around b1 u mid → is_value_of p.structs t v ≡ true → Stands mid.ids word v
                → Does m input sections f p 0 left mid (λ (done : Unit {0}) later (flow : statement.Flow) u last. IsDone m input sections f p around false exits done later flow u last) none_waits (Got Normal (now v u) left) low)
                → DoesHere m input sections f p around units state false exits (declared_means number y s units) low
            later_by Lacks more go = tt
            later_by (Gives done later) more go = λ inside lead.
                let inside1 = inside_between m input sections f b.sections b1.sections later.sections good.inside inside grown.extends more.extends in
                follows_then m input p 0 units state (HasGiven m input sections f p around splits t b state word b1) (none_waits word b1) (IsDone m input sections f p around false exits done later) (none_waits done later) (y s units) (λ v u left. Got Normal (now v u) left) (does inside1)
                (λ v u left mid g less. let got = given_value m input sections f p around mid.ids word t v known.real g.given in go v u left mid g.after.good got.0 got.1 inside)
                (λ u left mid none less. absurd none)

    pub declared_does : DoesStatement m input sections f p around false (λ exits. emit >>= begins_with number) (declared_means number y)
    declared_does = record { adds = λ exits. adds_then emit (begins_with number) gives.adds (adds_begins number); does = declared_here }
