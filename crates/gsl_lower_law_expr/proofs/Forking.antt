-- `?:` with a block for each of its values.
use Rattle.std.proofs.Common.{◌≡◌, ◌≢◌, refl, sym, ap, ◌∙◌, subst, ℕ, ◌+◌, ◌<◌, Bool, true, false, ◌==◌, [], ◌∷◌, append_assoc, Option, Some, None, arith, if◌then◌else◌}
use Rattle.std.specs.Prelude.{slice_get}
use Rattle.gsl_base.specs.declared.input.Input.{Input}
use Rattle.gsl_instr.specs.Forms.{form_of}
use Rattle.gsl_instr.specs.declared.op.TheConstants as op
use Rattle.gsl_types.specs.declared.ty.Ty.{Ty}
use Rattle.gsl_types.specs.declared.ty.Ty.TheVariants.{Void}
use Rattle.gsl_words.specs.declared.module.Module.{Module}
use Rattle.gsl_values.specs.declared.value.Value.{Value}
use Rattle.gsl_tree.specs.Around.{Around}
use Rattle.gsl_tree.specs.Expressions.{boolean}
use Rattle.gsl_tree.specs.Values.{is_value_of, word_in}
use Rattle.gsl_tree.specs.declared.program.Program.{Program}
use Rattle.gsl_meaning.specs.Running.{Got, Ran, Run, given as shader_given}
use Rattle.gsl_meaning.specs.Running as shader_run
use Rattle.gsl_meaning.specs.State as shader
use Rattle.gsl_machine.specs.State.{State}
use Rattle.gsl_spv.specs.Calls.{put}
use Rattle.gsl_spv.specs.Declarations.{instr}
use Rattle.gsl_spv.specs.Sections.{Sections}
use Rattle.gsl_spv.proofs.Extending.{extends_same, extends_then}
use Rattle.gsl_lower_law.specs.Values.{Stands}
use Rattle.gsl_lower_law.proofs.Adding.{extends_put}
use Rattle.gsl_lower_holders.specs.Flow.{Emit, Flow, Gives, Lacks, Lowered, behind, fresh, given, opening, putting_here, type_id, ◌>>=◌}
use Rattle.gsl_lower_holders.specs.Waiting.{holder, holder_at, take_back}
use Rattle.gsl_lower_holders.specs.Ways.{begin_choice, choosing, fork, join, other_way}
use Rattle.gsl_lower_holders.specs.declared.blocks.Fork.{Fork}
use Rattle.gsl_lower_holders.specs.declared.place.FlowPlace.{FlowPlace}
use Rattle.gsl_lower_expr.specs.Parts.{Lower, forked}
use Rattle.gsl_lower_follows.specs.Frames.{Frame, Holder, Inside, Waits}
use Rattle.gsl_lower_follows.specs.Giving.{Adds, Does, GivesValue, Grown, GrownTo, HasGiven, Met, none_waits}
use Rattle.gsl_lower_follows.proofs.Beginning.{chooses, does_behind, does_fresh, good_begun}
use Rattle.gsl_lower_follows.proofs.Doing.{does_then}
use Rattle.gsl_lower_follows.proofs.Fetching.{adds_fresh, adds_holder, adds_opening, adds_put, adds_take_back, adds_type_id}
use Rattle.gsl_lower_follows.proofs.Growing.{adds_given, adds_then, grown_then}
use Rattle.gsl_lower_follows.proofs.Holding.{IsStored, Unchanged, does_store, found_among, good_using, holder_number, seat_known, using, waits_after}
use Rattle.gsl_lower_follows.proofs.Jumping.{begun_at, jumps}
use Rattle.gsl_lower_follows.proofs.Meeting.{adds_join, adds_leave, branched, does_join, does_met, grown_branched, grown_through}
use Rattle.gsl_lower_follows.proofs.Placing.{inside_between}
use Rattle.gsl_lower_law_expr.specs.Known.{choice_means, choice_value}
use Rattle.gsl_lower_law_expr.proofs.Logic.{real_boolean}
use Rattle.gsl_lower_law_expr.proofs.Operands.{given_value}
use Rattle.gsl_lower_law_expr.proofs.Short.{Before, before_later, behind_assoc, chosen_at, does_change, grown_chosen, grown_stored_end, met_given, stored_end}

pub behind_given : (r : Ran Value) → shader_run.behind r shader_given ≡ r
behind_given (Got v s left) = refl
behind_given (shader_run.Ends s) = refl
behind_given shader_run.Strays = refl
behind_given shader_run.Goes = refl

-- ---- what begins a choice, from its last step on

abbrev choose_way : ℕ → ℕ → ℕ → ℕ → ℕ → Emit Fork
choose_way x h yes_ no_ end = choosing end (x ∷ yes_ ∷ no_ ∷ []) yes_ >>= (λ done. given (fork h no_ end))

abbrev take_end : ℕ → ℕ → ℕ → ℕ → Emit Fork
take_end x h yes_ no_ = fresh >>= choose_way x h yes_ no_

abbrev take_no : ℕ → ℕ → ℕ → Emit Fork
take_no x h yes_ = fresh >>= take_end x h yes_

abbrev take_yes : ℕ → ℕ → Emit Fork
take_yes x h = fresh >>= take_no x h

adds_choose : (x h yes_ no_ end : ℕ) → Adds (choose_way x h yes_ no_ end)
adds_choose x h yes_ no_ end =
    adds_then (choosing end (x ∷ yes_ ∷ no_ ∷ []) yes_) (λ done. given (fork h no_ end))
    (adds_then (putting_here op.SELECTION_MERGE (end ∷ 0 ∷ [])) (λ done. putting_here op.BRANCH_CONDITIONAL (x ∷ yes_ ∷ no_ ∷ []) >>= (λ done. opening yes_)) (adds_put op.SELECTION_MERGE (end ∷ 0 ∷ []))
    (λ done. adds_then (putting_here op.BRANCH_CONDITIONAL (x ∷ yes_ ∷ no_ ∷ [])) (λ done. opening yes_) (adds_put op.BRANCH_CONDITIONAL (x ∷ yes_ ∷ no_ ∷ [])) (λ done. adds_opening yes_)))
    (λ done. adds_given (fork h no_ end))

-- the flow where the first value is
abbrev first_at : ℕ → ℕ → ℕ → ℕ → Flow → Flow
first_at x yes_ no_ end b = chosen_at end (x ∷ yes_ ∷ no_ ∷ []) yes_ b

-- the flow with a value stored
abbrev stored_at : ℕ → ℕ → Flow → Flow
stored_at h id b = record b { sections = put op.STORE (h ∷ id ∷ []) b.sections }

module _ (m : Module) (input : Input) (whole : Sections) (f : Frame m input whole) (p : Program) (around : Around) where
  module _ (t : Ty) (real_t : t ≢ Void) (sa sb : Bool) (first second : Emit ℕ) (x y : Run Value) (does_first : GivesValue m input whole f p around sa t first x) (does_second : GivesValue m input whole f p around sb t second y) where
    abbrev meet : Fork → Emit ℕ
    meet ways = second >>= join t ways

    abbrev other : Fork → Unit {0} → Emit ℕ
    other ways done = meet ways

    abbrev both_ways : Fork → Emit ℕ
    both_ways ways = first >>= other_way ways >>= other ways

    adds_meet : (ways : Fork) → Adds (meet ways)
    adds_meet ways = adds_then second (join t ways) does_second.adds (λ id. adds_join m input whole t ways id)

    adds_other : (ways : Fork) (id : ℕ) → Adds (other_way ways id)
    unfolding other_way
    adds_other ways id = adds_leave m input whole ways id ways.other

    adds_both : (ways : Fork) → Adds (both_ways ways)
    adds_both ways = adds_then (first >>= other_way ways) (other ways) (adds_then first (other_way ways) does_first.adds (adds_other ways)) (λ done. adds_meet ways)

    -- the first value is stored, and the second is not evaluated
    skip_second : (b0 b5 : Flow) (state0 mid5 : State) (s : shader.State) (units h no_ end : ℕ) (v old : Value) → Before m input whole f p around b0 state0 h old b5 s mid5 → is_value_of p.structs t v ≡ true
        → Waits m input whole f b5.place.used h v mid5
        → Does m input whole f p 0 units mid5 (HasGiven m input whole f p around true t b0 state0) none_waits (Got v s units) (meet (fork h no_ end) (branched end no_ b5))
    unfolding form_of join opening
    skip_second b0 b5 state0 mid5 s units h no_ end v old before typed waits = by (second (branched end no_ b5)) (does_second.adds (branched end no_ b5))
      where
        by : (l : Lowered ℕ) → GrownTo (branched end no_ b5) l → Does m input whole f p 0 units mid5 (HasGiven m input whole f p around true t b0 state0) none_waits (Got v s units) (behind l (join t (fork h no_ end)))
        by Lacks grown = tt
        by (Gives id b7) grown =
            let grown58 = grown_then (grown_branched end no_ b5) (grown_then grown (grown_stored_end h id end b7)) in
            let jumped = extends_then (extends_put op.LABEL (no_ ∷ []) (put op.BRANCH (end ∷ []) b5.sections)) (extends_then grown.extends (extends_then (extends_put op.STORE (h ∷ id ∷ []) b7.sections) (extends_put op.BRANCH (end ∷ []) (put op.STORE (h ∷ id ∷ []) b7.sections)))) in
            let label_on = extends_put op.LABEL (end ∷ []) (put op.BRANCH (end ∷ []) (put op.STORE (h ∷ id ∷ []) b7.sections)) in
            does_behind m input whole f p units b5 (stored_end h id end b7) mid5 (begun_at m input whole f mid5 (stored_end h id end b7).sections) (HasGiven m input whole f p around true t b0 state0) (Got v s units) ((type_id t >>= take_back h) (stored_end h id end b7))
            before.good.inside grown58 (adds_then (type_id t) (take_back h) (adds_type_id m input whole t) (λ type. adds_take_back m input whole h type) (stored_end h id end b7))
            (λ inside8. jumps m input whole f (instr op.BRANCH (end ∷ [])) end b5.sections (put op.BRANCH (end ∷ []) (put op.STORE (h ∷ id ∷ []) b7.sections)) mid5 units before.good.inside
            (inside_between m input whole f b5.sections (put op.BRANCH (end ∷ []) (put op.STORE (h ∷ id ∷ []) b7.sections)) (stored_end h id end b7).sections before.good.inside inside8 (extends_then (extends_put op.BRANCH (end ∷ []) b5.sections) jumped) label_on)
            inside8 before.good.rest before.good.within before.good.own jumped.functions.more (jumped.functions.is ∙ append_assoc b5.sections.functions (instr op.BRANCH (end ∷ []) ∷ []) jumped.functions.more) (λ at more. refl))
            (λ inside8 led. does_change m input whole f p around units units (begun_at m input whole f mid5 (stored_end h id end b7).sections) (Met m input whole f p around b0.place.used v state0) (HasGiven m input whole f p around true t b0 state0) tt v s ((type_id t >>= take_back h) (stored_end h id end b7))
            (λ got later last met. met_given m input whole f p around b0 state0 got later v s last t typed met)
            (does_met m input whole f p around b0.place.used t h v units (stored_end h id end b7) s state0 (begun_at m input whole f mid5 (stored_end h id end b7).sections) (omega (arith, before.grown.used, grown58.used))
            (good_begun m input whole f p around b5 (stored_end h id end b7) s mid5 before.good grown58 inside8 led)
            (record { same = λ holder number less seat. before.held.same holder number less seat })
            (record { holder = waits.holder; number = waits.number; among = omega (arith, waits.among, grown58.used); seat = waits.seat; points = waits.points; value = waits.value })))

    -- the first value is there
    store_first : (b0 b5 : Flow) (state0 mid5 : State) (s : shader.State) (units h no_ end id : ℕ) (v old : Value) → Before m input whole f p around b0 state0 h old b5 s mid5 → is_value_of p.structs t v ≡ true → Stands mid5.ids id v
        → Does m input whole f p 0 units mid5 (HasGiven m input whole f p around true t b0 state0) none_waits (Got v s units) ((other_way (fork h no_ end) id >>= other (fork h no_ end)) b5)
    unfolding other_way opening
    store_first b0 b5 state0 mid5 s units h no_ end id v old before typed stands =
        does_then m input whole f p 0 units b5 mid5 (λ done later (r : Unit {0}) u last. IsStored m input whole f p around before.waits.number v b5 mid5 later u last) none_waits (HasGiven m input whole f p around true t b0 state0) none_waits (Got tt s units) (λ r u left. Got v u left)
        (putting_here op.STORE (h ∷ id ∷ []) b5) (λ done b. meet (fork h no_ end) (branched end no_ b)) before.good.inside (adds_put op.STORE (h ∷ id ∷ []) b5)
        (λ done b. grown_through b (branched end no_ b) (meet (fork h no_ end) (branched end no_ b)) (grown_branched end no_ b) (adds_meet (fork h no_ end) (branched end no_ b)))
        (does_store m input whole f p around before.waits.holder before.waits.number h id v units b5 s mid5 before.good before.waits.seat before.waits.points stands)
        (λ done b r u left mid inside grown is less. stored b u left mid inside grown is)
        (λ done b u left mid inside grown none less. absurd none)
      where
        stored : (b : Flow) (u : shader.State) (left : ℕ) (mid : State) → Inside m input whole f b.sections → Grown b5 b → IsStored m input whole f p around before.waits.number v b5 mid5 b u mid
            → Does m input whole f p 0 left mid (HasGiven m input whole f p around true t b0 state0) none_waits (Got v u left) (meet (fork h no_ end) (branched end no_ b))
        stored b u left mid inside grown is =
            let used : b.place.used ≡ b5.place.used = ap (λ (place : FlowPlace). place.used) is.place in
            let now : Waits m input whole f b.place.used h v mid = record { holder = before.waits.holder; number = before.waits.number; among = omega (arith, before.waits.among, used); seat = before.waits.seat; points = before.waits.points; value = is.there } in
            skip_second b0 b state0 mid u left h no_ end v v (record {
              good = is.good;
              grown = grown_then before.grown grown;
              held = record { same = λ holder number few seat. is.others number (λ same. apart holder number few seat same) ∙ before.held.same holder number few seat };
              waits = now;
              first = before.first;
            }) typed now
          where
            apart : (holder number : ℕ) → holder < b0.place.used → f.seat (Holder holder) ≡ Some number → number ≢ before.waits.number
            apart holder number few seat same = absurd (let one : holder ≡ before.waits.holder = ap holder_number (f.apart (Holder holder) (Holder before.waits.holder) number seat (before.waits.seat ∙ ap Some (sym same))) in let low = before.first in omega (arith, few, low, one))

    -- the first way is gone
    goes_first : (b0 b3 : Flow) (state0 mid3 : State) (s : shader.State) (units i h yes_ no_ end : ℕ) (w old : Value) → Before m input whole f p around b0 state0 h old b3 s mid3 → Stands mid3.ids i w → (word_in w == 0) ≡ false
        → Does m input whole f p 0 units mid3 (HasGiven m input whole f p around true t b0 state0) none_waits (x s units) (both_ways (fork h no_ end) (first_at i yes_ no_ end b3))
    goes_first b0 b3 state0 mid3 s units i h yes_ no_ end w old before stands so =
        does_behind m input whole f p units b3 (first_at i yes_ no_ end b3) mid3 (begun_at m input whole f mid3 (first_at i yes_ no_ end b3).sections) (HasGiven m input whole f p around true t b0 state0) (x s units) (both_ways (fork h no_ end) (first_at i yes_ no_ end b3))
        before.good.inside (grown_chosen end (i ∷ yes_ ∷ no_ ∷ []) yes_ b3) (adds_both (fork h no_ end) (first_at i yes_ no_ end b3))
        (λ inside4. chooses m input whole f b3.sections end i yes_ no_ w yes_ (put op.BRANCH_CONDITIONAL (i ∷ yes_ ∷ no_ ∷ []) (put op.SELECTION_MERGE (end ∷ 0 ∷ []) b3.sections)) mid3 units (ap (λ b. if b then no_ else yes_) so) stands before.good.inside inside4 (extends_same _) before.good.rest before.good.within before.good.own)
        (λ inside4 led.
        subst (λ ran. Does m input whole f p 0 units (begun_at m input whole f mid3 (first_at i yes_ no_ end b3).sections) (HasGiven m input whole f p around true t b0 state0) none_waits ran (both_ways (fork h no_ end) (first_at i yes_ no_ end b3))) (behind_given (x s units))
        (subst (Does m input whole f p 0 units (begun_at m input whole f mid3 (first_at i yes_ no_ end b3).sections) (HasGiven m input whole f p around true t b0 state0) none_waits (shader_run.behind (x s units) shader_given)) (sym (behind_assoc (first (first_at i yes_ no_ end b3)) (other_way (fork h no_ end)) (other (fork h no_ end))))
        (does_then m input whole f p 0 units (first_at i yes_ no_ end b3) (begun_at m input whole f mid3 (first_at i yes_ no_ end b3).sections) (HasGiven m input whole f p around sa t (first_at i yes_ no_ end b3) (begun_at m input whole f mid3 (first_at i yes_ no_ end b3).sections)) none_waits (HasGiven m input whole f p around true t b0 state0) none_waits
        (x s units) shader_given (first (first_at i yes_ no_ end b3)) (λ id. other_way (fork h no_ end) id >>= other (fork h no_ end)) inside4 (does_first.adds (first_at i yes_ no_ end b3)) (λ id. adds_then (other_way (fork h no_ end) id) (other (fork h no_ end)) (adds_other (fork h no_ end) id) (λ done. adds_meet (fork h no_ end)))
        (does_first.does (first_at i yes_ no_ end b3) s units (begun_at m input whole f mid3 (first_at i yes_ no_ end b3).sections) (good_begun m input whole f p around b3 (first_at i yes_ no_ end b3) s mid3 before.good (grown_chosen end (i ∷ yes_ ∷ no_ ∷ []) yes_ b3) inside4 led))
        (λ id b5 v u left mid5 inside5 grown45 g less.
        let real = given_value m input whole f p around mid5.ids id t v real_t g.given in
        store_first b0 b5 state0 mid5 u left h no_ end id v old (record {
          good = g.after.good;
          grown = grown_then before.grown (grown_then (grown_chosen end (i ∷ yes_ ∷ no_ ∷ []) yes_ b3) grown45);
          held = record { same = λ holder number few seat. (let wide = before.grown.used in g.after.held.same holder number (omega (arith, few, wide)) seat) ∙ before.held.same holder number few seat };
          waits = waits_after m input whole f p around sa (first_at i yes_ no_ end b3) b5 (begun_at m input whole f mid3 (first_at i yes_ no_ end b3).sections) mid5 u h old grown45 g.after
              (record { holder = before.waits.holder; number = before.waits.number; among = before.waits.among; seat = before.waits.seat; points = before.waits.points; value = before.waits.value });
          first = before.first;
        }) real.0 real.1)
        (λ id b5 u left mid5 inside5 grown45 none less. absurd none))))

    -- the second way is gone
    goes_second : (b0 b3 : Flow) (state0 mid3 : State) (s : shader.State) (units i h yes_ no_ end : ℕ) (w old : Value) → Before m input whole f p around b0 state0 h old b3 s mid3 → Stands mid3.ids i w → (word_in w == 0) ≡ true
        → Does m input whole f p 0 units mid3 (HasGiven m input whole f p around true t b0 state0) none_waits (y s units) (both_ways (fork h no_ end) (first_at i yes_ no_ end b3))
    unfolding other_way opening
    goes_second b0 b3 state0 mid3 s units i h yes_ no_ end w old before stands so = by (first (first_at i yes_ no_ end b3)) (does_first.adds (first_at i yes_ no_ end b3))
      where
        by : (l : Lowered ℕ) → GrownTo (first_at i yes_ no_ end b3) l → Does m input whole f p 0 units mid3 (HasGiven m input whole f p around true t b0 state0) none_waits (y s units) (behind (behind l (other_way (fork h no_ end))) (other (fork h no_ end)))
        by Lacks grown = tt
        by (Gives id b5) grown =
            let b6 = branched end no_ (stored_at h id b5) in
            let grown56 = grown_then (adds_put op.STORE (h ∷ id ∷ []) b5) (grown_branched end no_ (stored_at h id b5)) in
            let grown36 = grown_then (grown_chosen end (i ∷ yes_ ∷ no_ ∷ []) yes_ b3) (grown_then grown grown56) in
            does_behind m input whole f p units b3 b6 mid3 (begun_at m input whole f mid3 b6.sections) (HasGiven m input whole f p around true t b0 state0) (y s units) (meet (fork h no_ end) b6) before.good.inside grown36 (adds_meet (fork h no_ end) b6)
            (λ inside6. chooses m input whole f b3.sections end i yes_ no_ w no_ (put op.BRANCH (end ∷ []) (put op.STORE (h ∷ id ∷ []) b5.sections)) mid3 units (ap (λ b. if b then no_ else yes_) so) stands before.good.inside inside6
            (extends_then (extends_put op.LABEL (yes_ ∷ []) (put op.BRANCH_CONDITIONAL (i ∷ yes_ ∷ no_ ∷ []) (put op.SELECTION_MERGE (end ∷ 0 ∷ []) b3.sections)))
            (extends_then grown.extends (extends_then (extends_put op.STORE (h ∷ id ∷ []) b5.sections) (extends_put op.BRANCH (end ∷ []) (put op.STORE (h ∷ id ∷ []) b5.sections)))))
            before.good.rest before.good.within before.good.own)
            (λ inside6 led.
            subst (λ ran. Does m input whole f p 0 units (begun_at m input whole f mid3 b6.sections) (HasGiven m input whole f p around true t b0 state0) none_waits ran (meet (fork h no_ end) b6)) (behind_given (y s units))
            (does_then m input whole f p 0 units b6 (begun_at m input whole f mid3 b6.sections) (HasGiven m input whole f p around sb t b6 (begun_at m input whole f mid3 b6.sections)) none_waits (HasGiven m input whole f p around true t b0 state0) none_waits (y s units) shader_given (second b6) (join t (fork h no_ end)) inside6
            (does_second.adds b6) (λ id. adds_join m input whole t (fork h no_ end) id)
            (does_second.does b6 s units (begun_at m input whole f mid3 b6.sections) (good_begun m input whole f p around b3 b6 s mid3 before.good grown36 inside6 led))
            (λ j b7 v u left mid7 inside7 grown67 g less.
            let real = given_value m input whole f p around mid7.ids j t v real_t g.given in
            let wide = before.grown.used in
            let wider = grown36.used in
            let there : Waits m input whole f b6.place.used h old (begun_at m input whole f mid3 b6.sections) = record { holder = before.waits.holder; number = before.waits.number; among = (let among = before.waits.among in omega (arith, among, wider)); seat = before.waits.seat; points = before.waits.points; value = before.waits.value } in
            does_change m input whole f p around left left mid7 (Met m input whole f p around b0.place.used v state0) (HasGiven m input whole f p around true t b0 state0) tt v u (join t (fork h no_ end) j b7)
            (λ got later last met. met_given m input whole f p around b0 state0 got later v u last t real.0 met)
            (does_join m input whole f p around b0.place.used t (fork h no_ end) j v old left b7 u state0 mid7 g.after.good
            (record { same = λ holder number few seat. g.after.held.same holder number (omega (arith, few, wide, wider)) seat ∙ before.held.same holder number few seat })
            (waits_after m input whole f p around sb b6 b7 (begun_at m input whole f mid3 b6.sections) mid7 u h old grown67 g.after there) before.first real.1))
            (λ j b7 u left mid7 inside7 grown67 none less. absurd none)))

    -- ---- from the condition on

    -- a choice has ended the block
    at_choice : (b0 b3 : Flow) (state0 mid3 : State) (s : shader.State) (units i h yes_ no_ end : ℕ) (w old : Value) → Before m input whole f p around b0 state0 h old b3 s mid3 → Stands mid3.ids i w
        → Does m input whole f p 0 units mid3 (HasGiven m input whole f p around true t b0 state0) none_waits (choice_value x y w s units) ((choose_way i h yes_ no_ end >>= both_ways) b3)
    unfolding opening
    at_choice b0 b3 state0 mid3 s units i h yes_ no_ end w old before stands = by (word_in w == 0) refl
      where
        by : (d : Bool) → (word_in w == 0) ≡ d → Does m input whole f p 0 units mid3 (HasGiven m input whole f p around true t b0 state0) none_waits ((if d then y else x) s units) (both_ways (fork h no_ end) (first_at i yes_ no_ end b3))
        by true e = goes_second b0 b3 state0 mid3 s units i h yes_ no_ end w old before stands e
        by false e = goes_first b0 b3 state0 mid3 s units i h yes_ no_ end w old before stands e

    adds_choice : (i h yes_ no_ end : ℕ) → Adds (choose_way i h yes_ no_ end >>= both_ways)
    adds_choice i h yes_ no_ end = adds_then (choose_way i h yes_ no_ end) both_ways (adds_choose i h yes_ no_ end) adds_both

    adds_end : (i h yes_ no_ : ℕ) → Adds (take_end i h yes_ no_ >>= both_ways)
    adds_end i h yes_ no_ = adds_then (take_end i h yes_ no_) both_ways (adds_then fresh (choose_way i h yes_ no_) adds_fresh (λ end. adds_choose i h yes_ no_ end)) adds_both

    adds_no : (i h yes_ : ℕ) → Adds (take_no i h yes_ >>= both_ways)
    adds_no i h yes_ = adds_then (take_no i h yes_) both_ways (adds_then fresh (take_end i h yes_) adds_fresh (λ no_. adds_then fresh (choose_way i h yes_ no_) adds_fresh (λ end. adds_choose i h yes_ no_ end))) adds_both

    adds_yes : (i h : ℕ) → Adds (take_yes i h >>= both_ways)
    adds_yes i h = adds_then (take_yes i h) both_ways (adds_then fresh (take_no i h) adds_fresh (λ yes_. adds_then fresh (take_end i h yes_) adds_fresh (λ no_. adds_then fresh (choose_way i h yes_ no_) adds_fresh (λ end. adds_choose i h yes_ no_ end)))) adds_both

    -- what goes on behind an id that is taken
    behind_fresh : (b0 b : Flow) (state0 mid : State) (s : shader.State) (units i h : ℕ) (w old : Value) (next : ℕ → Emit Fork) → ((id : ℕ) → Adds (next id >>= both_ways)) → Before m input whole f p around b0 state0 h old b s mid → Stands mid.ids i w
        → ((id : ℕ) (later : Flow) (u : shader.State) (left : ℕ) (last : State) → Before m input whole f p around b0 state0 h old later u last → Stands last.ids i w → Does m input whole f p 0 left last (HasGiven m input whole f p around true t b0 state0) none_waits (choice_value x y w u left) ((next id >>= both_ways) later))
        → Does m input whole f p 0 units mid (HasGiven m input whole f p around true t b0 state0) none_waits (choice_value x y w s units) (((fresh >>= next) >>= both_ways) b)
    behind_fresh b0 b state0 mid s units i h w old next adds before stands more =
        subst (Does m input whole f p 0 units mid (HasGiven m input whole f p around true t b0 state0) none_waits (choice_value x y w s units)) (sym (behind_assoc (fresh b) next both_ways))
        (does_then m input whole f p 0 units b mid (Unchanged m input whole f p around b mid) none_waits (HasGiven m input whole f p around true t b0 state0) none_waits (Got tt s units) (λ r u left. choice_value x y w u left) (fresh b) (λ id. next id >>= both_ways) before.good.inside (adds_fresh b) adds
        (does_fresh m input whole f p around units b s mid before.good)
        (λ id later r u left last inside grown after less. more id later u left last (before_later m input whole f p around b0 b later state0 mid last s u h old before grown after) ((after.ids refl).same i _ stands))
        (λ id later u left last inside grown none less. absurd none))

    at_yes : (b0 b : Flow) (state0 mid : State) (s : shader.State) (units i h : ℕ) (w old : Value) → Before m input whole f p around b0 state0 h old b s mid → Stands mid.ids i w
        → Does m input whole f p 0 units mid (HasGiven m input whole f p around true t b0 state0) none_waits (choice_value x y w s units) ((take_yes i h >>= both_ways) b)
    at_yes b0 b state0 mid s units i h w old before stands =
        behind_fresh b0 b state0 mid s units i h w old (take_no i h) (adds_no i h) before stands
        (λ yes_ b1 u1 left1 mid1 before1 stands1. behind_fresh b0 b1 state0 mid1 u1 left1 i h w old (take_end i h yes_) (adds_end i h yes_) before1 stands1
        (λ no_ b2 u2 left2 mid2 before2 stands2. behind_fresh b0 b2 state0 mid2 u2 left2 i h w old (choose_way i h yes_ no_) (adds_choice i h yes_ no_) before2 stands2
        (λ end b3 u3 left3 mid3 before3 stands3. at_choice b0 b3 state0 mid3 u3 left3 i h yes_ no_ end w old before3 stands3)))

    at_test : (st : Bool) (b0 b : Flow) (state0 mid : State) (s : shader.State) (units i : ℕ) (w : Value) → Grown b0 b → HasGiven m input whole f p around st boolean b0 state0 i b w s mid
        → Does m input whole f p 0 units mid (HasGiven m input whole f p around true t b0 state0) none_waits (choice_value x y w s units) ((begin_choice i >>= both_ways) b)
    unfolding begin_choice holder
    at_test st b0 b state0 mid s units i w grown g = by (slice_get b.place.holders b.place.used) refl
      where
        by : (o : Option ℕ) → slice_get b.place.holders b.place.used ≡ o → Does m input whole f p 0 units mid (HasGiven m input whole f p around true t b0 state0) none_waits (choice_value x y w s units) (behind (behind (holder_at o b) (take_yes i)) both_ways)
        by None e = tt
        by (Some h) e =
            let real = given_value m input whole f p around mid.ids i boolean w real_boolean g.given in
            let known = seat_known m input whole f b.place g.after.good.seated (Holder b.place.used) h e in
            let old = found_among mid.variables known.0 (subst (λ n. known.0 < n) (sym g.after.good.holds.count) (f.among (Holder b.place.used) known.0 known.1)) in
            at_yes b0 (using m input whole f p around b) state0 mid s units i h w old.0 (record {
              good = good_using m input whole f p around b s mid g.after.good;
              grown = record { extends = grown.extends; used = omega (arith, grown.used); place = ap (λ (place : FlowPlace). record place { used = b.place.used + 1 }) grown.place };
              held = record { same = λ holder number few seat. g.after.held.same holder number few seat };
              waits = record { holder = b.place.used; number = known.0; among = omega arith; seat = known.1; points = known.2; value = old.1 };
              first = grown.used;
            }) real.1

    adds_test : (i : ℕ) → Adds (begin_choice i >>= both_ways)
    unfolding begin_choice
    adds_test i = adds_then (holder >>= take_yes i) both_ways (adds_then holder (take_yes i) adds_holder (λ h. adds_then fresh (take_no i h) adds_fresh (λ yes_. adds_then fresh (take_end i h yes_) adds_fresh (λ no_. adds_then fresh (choose_way i h yes_ no_) adds_fresh (λ end. adds_choose i h yes_ no_ end))))) adds_both

    forked_of : (st : Bool) (test : Emit ℕ) (c : Run Value) → GivesValue m input whole f p around st boolean test c → GivesValue m input whole f p around true t (test >>= begin_choice >>= both_ways) (choice_means c x y)
    forked_of st test c does_test = record {
      adds = λ b0. subst (GrownTo b0) (sym (behind_assoc (test b0) begin_choice both_ways)) (adds_then test (λ i. begin_choice i >>= both_ways) does_test.adds adds_test b0);
      does = λ b0 s units state good.
          subst (Does m input whole f p 0 units state (HasGiven m input whole f p around true t b0 state) none_waits (choice_means c x y s units)) (sym (behind_assoc (test b0) begin_choice both_ways))
          (does_then m input whole f p 0 units b0 state (HasGiven m input whole f p around st boolean b0 state) none_waits (HasGiven m input whole f p around true t b0 state) none_waits (c s units) (choice_value x y) (test b0) (λ i. begin_choice i >>= both_ways) good.inside
          (does_test.adds b0) adds_test
          (does_test.does b0 s units state good)
          (λ i b w u left mid inside grown g less. at_test st b0 b state mid u left i w grown g)
          (λ i b u left mid inside grown none less. absurd none));
    }

  -- `?:`, where each value has a block of its own.
  pub forked_gives : (t : Ty) (test a b : Lower) (c x y : Run Value) → t ≢ Void → test.ty ≡ boolean → a.ty ≡ t → b.ty ≡ t → GivesValue m input whole f p around test.traits.splits test.ty test.value c → GivesValue m input whole f p around a.traits.splits a.ty a.value x → GivesValue m input whole f p around b.traits.splits b.ty b.value y
      → GivesValue m input whole f p around true t (forked t test a b) (choice_means c x y)
  forked_gives t test a b c x y real of_test of_a of_b does_test first second =
      forked_of t real a.traits.splits b.traits.splits a.value b.value x y (subst (λ t. GivesValue m input whole f p around a.traits.splits t a.value x) of_a first) (subst (λ t. GivesValue m input whole f p around b.traits.splits t b.value y) of_b second)
      test.traits.splits test.value c (subst (λ t. GivesValue m input whole f p around test.traits.splits t test.value c) of_test does_test)
