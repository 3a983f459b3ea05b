-- Two ways that meet again, with a value in a holder.
use Rattle.std.proofs.Common.{◌≡◌, ◌≢◌, refl, sym, ap, ◌∙◌, ℕ, ◌<◌, ◌≤◌, [], ◌∷◌, Some, arith}
use Rattle.gsl_base.specs.declared.input.Input.{Input}
use Rattle.gsl_instr.specs.Forms.{form_of}
use Rattle.gsl_instr.specs.declared.op.TheConstants as op
use Rattle.gsl_types.specs.declared.ty.Ty.{Ty}
use Rattle.gsl_words.specs.declared.module.Module.{Module}
use Rattle.gsl_values.specs.declared.value.Value.{Value}
use Rattle.gsl_tree.specs.Around.{Around}
use Rattle.gsl_tree.specs.declared.program.Program.{Program}
use Rattle.gsl_meaning.specs.Running.{Got}
use Rattle.gsl_meaning.specs.State as shader
use Rattle.gsl_machine.specs.State.{State}
use Rattle.gsl_spv.specs.Calls.{put}
use Rattle.gsl_spv.specs.Declarations.{instr}
use Rattle.gsl_spv.specs.Sections.{Sections}
use Rattle.gsl_spv.proofs.Extending.{extends_then}
use Rattle.gsl_lower_law.specs.Values.{Stands}
use Rattle.gsl_lower_law.proofs.Adding.{extends_put}
use Rattle.gsl_lower_holders.specs.Flow.{Emit, Flow, Gives, Lacks, Lowered, opening, putting_here, type_id, ◌>>=◌}
use Rattle.gsl_lower_holders.specs.Waiting.{take_back}
use Rattle.gsl_lower_holders.specs.Ways.{join, leaving as leave}
use Rattle.gsl_lower_holders.specs.declared.blocks.Fork.{Fork}
use Rattle.gsl_lower_holders.specs.declared.place.FlowPlace.{FlowPlace}
use Rattle.gsl_lower_follows.specs.Frames.{Frame, Good, Holder, Inside, Kept, Waits}
use Rattle.gsl_lower_follows.specs.Giving.{Adds, Does, Grown, GrownTo, Met, none_waits}
use Rattle.gsl_lower_follows.proofs.Beginning.{does_behind, good_begun}
use Rattle.gsl_lower_follows.proofs.Doing.{does_then}
use Rattle.gsl_lower_follows.proofs.Fetching.{Again, adds_opening, adds_put, adds_take_back, adds_type_id, does_waited}
use Rattle.gsl_lower_follows.proofs.Growing.{adds_then, grown_then}
use Rattle.gsl_lower_follows.proofs.Holding.{IsStored, does_so, does_store, holder_number}
use Rattle.gsl_lower_follows.proofs.Jumping.{begun_at, jumps}
use Rattle.gsl_lower_follows.proofs.Placing.{inside_between}

-- control goes to where both ways meet, and another block begins
abbrev pub branched : ℕ → ℕ → Flow → Flow
branched end next b = record { sections = put op.LABEL (next ∷ []) (put op.BRANCH (end ∷ []) b.sections); place = record b.place { label = next } }

pub grown_branched : (end next : ℕ) (b : Flow) → Grown b (branched end next b)
grown_branched end next b = record { extends = extends_then (extends_put op.BRANCH (end ∷ []) b.sections) (extends_put op.LABEL (next ∷ []) (put op.BRANCH (end ∷ []) b.sections)); used = omega arith; place = refl }

-- the value of a holder where both ways meet
abbrev pub met_at : Ty → ℕ → ℕ → Unit {0} → Emit ℕ
met_at t h end done b = (type_id t >>= take_back h) (branched end end b)

pub grown_through : {A : Type 0} (b mid : Flow) (low : Lowered A) → Grown b mid → GrownTo mid low → GrownTo b low
grown_through b mid Lacks first more = tt
grown_through b mid (Gives a later) first more = grown_then first more

module _ (m : Module) (input : Input) (whole : Sections) where
  pub adds_leave : (ways : Fork) (v next : ℕ) → Adds (leave ways v next)
  adds_leave ways v next =
      adds_then (putting_here op.STORE (ways.holder ∷ v ∷ [])) (λ done. putting_here op.BRANCH (ways.end ∷ []) >>= (λ done. opening next)) (adds_put op.STORE (ways.holder ∷ v ∷ []))
      (λ done. adds_then (putting_here op.BRANCH (ways.end ∷ [])) (λ done. opening next) (adds_put op.BRANCH (ways.end ∷ [])) (λ done. adds_opening next))

  pub adds_join : (t : Ty) (ways : Fork) (v : ℕ) → Adds (join t ways v)
  unfolding join
  adds_join t ways v = adds_then (leave ways v ways.end) (λ done. type_id t >>= take_back ways.holder) (adds_leave ways v ways.end)
      (λ done. adds_then (type_id t) (take_back ways.holder) (adds_type_id m input whole t) (λ type. adds_take_back m input whole ways.holder type))

  module _ (f : Frame m input whole) (p : Program) (around : Around) where
    -- where two ways meet, the value is that of the holder
    pub does_met : (count : ℕ) (t : Ty) (h : ℕ) (v : Value) (units : ℕ) (b : Flow) (s : shader.State) (start state : State) → count ≤ b.place.used → Good m input whole f p around b s state → Kept m input whole f count start state → Waits m input whole f b.place.used h v state
        → Does m input whole f p 0 units state (Met m input whole f p around count v start) none_waits (Got tt s units) ((type_id t >>= take_back h) b)
    does_met count t h v units b s start state few good kept waits =
        does_so m input whole f p around 0 units state (Again m input whole f p around v b state) (Met m input whole f p around count v start) (Got tt s units) ((type_id t >>= take_back h) b)
        (λ id later r u last is. record {
          good = is.0.good;
          held = record { same = λ holder number less seat. is.0.held.same holder number (omega (arith, less, few)) seat ∙ kept.same holder number less seat };
          stands = is.1;
        })
        (does_waited m input whole f p around h t v units b s state good waits)

    adds_met : (t : Ty) (ways : Fork) → Adds (met_at t ways.holder ways.end tt)
    adds_met t ways b = grown_through b (branched ways.end ways.end b) (met_at t ways.holder ways.end tt b) (grown_branched ways.end ways.end b) (adds_then (type_id t) (take_back ways.holder) (adds_type_id m input whole t) (λ type. adds_take_back m input whole ways.holder type) (branched ways.end ways.end b))

    -- The value of one way is left in the holder, and both meet.
    pub does_join : (count : ℕ) (t : Ty) (ways : Fork) (value : ℕ) (v old : Value) (units : ℕ) (b : Flow) (s : shader.State) (start state : State) → Good m input whole f p around b s state → Kept m input whole f count start state
        → (waits : Waits m input whole f b.place.used ways.holder old state) → count ≤ waits.holder → Stands state.ids value v
        → Does m input whole f p 0 units state (Met m input whole f p around count v start) none_waits (Got tt s units) (join t ways value b)
    unfolding form_of join opening
    does_join count t ways value v old units b s start state good kept waits few stands =
        does_then m input whole f p 0 units b state (λ done later (r : Unit {0}) u last. IsStored m input whole f p around waits.number v b state later u last) none_waits (Met m input whole f p around count v start) none_waits (Got tt s units) (λ r u left. Got tt u left)
        (putting_here op.STORE (ways.holder ∷ value ∷ []) b) (met_at t ways.holder ways.end) good.inside (adds_put op.STORE (ways.holder ∷ value ∷ []) b)
        (λ done. adds_met t ways)
        (does_store m input whole f p around waits.holder waits.number ways.holder value v units b s state good waits.seat waits.points stands)
        (λ done between r u left mid inside grown is less. at_end between u left mid inside grown is)
        (λ done between u left mid inside grown none less. absurd none)
      where
        at_end : (between : Flow) (u : shader.State) (left : ℕ) (mid : State) → Inside m input whole f between.sections → Grown b between → IsStored m input whole f p around waits.number v b state between u mid
            → Does m input whole f p 0 left mid (Met m input whole f p around count v start) none_waits (Got tt u left) (met_at t ways.holder ways.end tt between)
        at_end between u left mid inside grown is =
            let used : between.place.used ≡ b.place.used = ap (λ (place : FlowPlace). place.used) is.place in
            does_behind m input whole f p left between (branched ways.end ways.end between) mid (begun_at m input whole f mid (branched ways.end ways.end between).sections) (Met m input whole f p around count v start) (Got tt u left) (met_at t ways.holder ways.end tt between) inside
            (grown_branched ways.end ways.end between) (adds_then (type_id t) (take_back ways.holder) (adds_type_id m input whole t) (λ type. adds_take_back m input whole ways.holder type) (branched ways.end ways.end between))
            (λ there. jumps m input whole f (instr op.BRANCH (ways.end ∷ [])) ways.end between.sections (put op.BRANCH (ways.end ∷ []) between.sections) mid left inside
            (inside_between m input whole f between.sections (put op.BRANCH (ways.end ∷ []) between.sections) (branched ways.end ways.end between).sections inside there (extends_put op.BRANCH (ways.end ∷ []) between.sections) (extends_put op.LABEL (ways.end ∷ []) (put op.BRANCH (ways.end ∷ []) between.sections)))
            there is.good.rest is.good.within is.good.own [] refl (λ at more. refl))
            (λ there led. does_met count t ways.holder v left (branched ways.end ways.end between) u start (begun_at m input whole f mid (branched ways.end ways.end between).sections) (omega (arith, few, used, waits.among))
            (good_begun m input whole f p around between (branched ways.end ways.end between) u mid is.good (grown_branched ways.end ways.end between) there led)
            (record { same = λ holder number less seat. is.others number (λ same. apart holder number less seat same) ∙ kept.same holder number less seat })
            (record { holder = waits.holder; number = waits.number; among = omega (arith, used, waits.among); seat = waits.seat; points = waits.points; value = is.there }))
          where
            apart : (holder number : ℕ) → holder < count → f.seat (Holder holder) ≡ Some number → number ≢ waits.number
            apart holder number less seat same = absurd (let one : holder ≡ waits.holder = ap holder_number (f.apart (Holder holder) (Holder waits.holder) number seat (waits.seat ∙ ap Some (sym same))) in omega (arith, less, few, one))
