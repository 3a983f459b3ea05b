-- `&&` and `||` with blocks: the second operand is entered where the first does not decide.
use Rattle.std.proofs.Common.{◌≡◌, refl, sym, ap, ◌∙◌, subst, inr, ℕ, ◌≤◌, Bool, true, false, not, ◌==◌, List, [], ◌∷◌, arith, if◌then◌else◌}
use Rattle.gsl_base.specs.declared.input.Input.{Input}
use Rattle.gsl_instr.specs.declared.op.TheConstants as op
use Rattle.gsl_types.specs.declared.ty.Scalar.TheVariants.{Bool as Boolean}
use Rattle.gsl_types.specs.declared.ty.Ty.{Ty}
use Rattle.gsl_types.specs.declared.ty.Ty.TheVariants.{One}
use Rattle.gsl_words.specs.declared.module.Module.{Module}
use Rattle.gsl_values.specs.declared.value.Value.{Value}
use Rattle.gsl_values.specs.declared.value.Value.TheVariants.{Word}
use Rattle.gsl_tree.specs.Around.{Around}
use Rattle.gsl_tree.specs.Expressions.{boolean}
use Rattle.gsl_tree.specs.Operations.{decides, logic_word}
use Rattle.gsl_tree.specs.Values.{is_value_of, word_in}
use Rattle.gsl_tree.specs.declared.expr.LogicOp.{LogicOp}
use Rattle.gsl_tree.specs.declared.expr.LogicOp.TheVariants as logic
use Rattle.gsl_tree.specs.declared.program.Program.{Program}
use Rattle.gsl_meaning.specs.Running.{Got, Run, given as shader_given}
use Rattle.gsl_meaning.specs.Running as shader_run
use Rattle.gsl_meaning.specs.State as shader
use Rattle.gsl_machine.specs.State.{State}
use Rattle.gsl_spv.specs.Calls.{put}
use Rattle.gsl_spv.specs.Sections.{Sections}
use Rattle.gsl_spv.proofs.Extending.{extends_same, extends_then}
use Rattle.gsl_lower_law.specs.Values.{Stands}
use Rattle.gsl_lower_law.proofs.Adding.{extends_put}
use Rattle.gsl_lower_holders.specs.Flow.{Emit, Flow, Gives, Lacks, Lowered, behind, fresh, given, opening, putting_here, type_id, ◌>>=◌}
use Rattle.gsl_lower_holders.specs.Waiting.{keep, take_back}
use Rattle.gsl_lower_holders.specs.Ways.{begin_short, choosing, fork, join, targets}
use Rattle.gsl_lower_holders.specs.declared.blocks.Fork.{Fork}
use Rattle.gsl_lower_expr.specs.Parts.{Lower, short}
use Rattle.gsl_lower_follows.specs.Frames.{Frame, Good, Inside, Kept, Waits}
use Rattle.gsl_lower_follows.specs.Giving.{Adds, After, Does, GivesValue, Grown, GrownTo, HasGiven, Met, none_waits}
use Rattle.gsl_lower_follows.proofs.Beginning.{chooses, does_behind, does_fresh, good_begun}
use Rattle.gsl_lower_follows.proofs.Doing.{does_then}
use Rattle.gsl_lower_follows.proofs.Fetching.{adds_fresh, adds_keep, adds_opening, adds_put, adds_take_back, adds_type_id}
use Rattle.gsl_lower_follows.proofs.Growing.{adds_given, adds_then, grown_then}
use Rattle.gsl_lower_follows.proofs.Holding.{NowWaits, Unchanged, does_keep, waits_after}
use Rattle.gsl_lower_follows.proofs.Jumping.{begun_at}
use Rattle.gsl_lower_follows.proofs.Meeting.{adds_join, branched, does_join, does_met, grown_branched}
use Rattle.gsl_lower_law_expr.specs.Known.{IsShort, logic_means, logic_value}
use Rattle.gsl_lower_law_expr.proofs.Logic.{real_boolean, truth_of}
use Rattle.gsl_lower_law_expr.proofs.Operands.{given_value}

-- the flow behind a choice between two blocks, the first of which begins
abbrev pub chosen_at : ℕ → List ℕ → ℕ → Flow → Flow
chosen_at end operands first b = record {
  sections = put op.LABEL (first ∷ []) (put op.BRANCH_CONDITIONAL operands (put op.SELECTION_MERGE (end ∷ 0 ∷ []) b.sections));
  place = record b.place { label = first };
}

pub grown_chosen : (end : ℕ) (operands : List ℕ) (first : ℕ) (b : Flow) → Grown b (chosen_at end operands first b)
grown_chosen end operands first b = record {
  extends = extends_then (extends_put op.SELECTION_MERGE (end ∷ 0 ∷ []) b.sections) (extends_then (extends_put op.BRANCH_CONDITIONAL operands (put op.SELECTION_MERGE (end ∷ 0 ∷ []) b.sections)) (extends_put op.LABEL (first ∷ []) (put op.BRANCH_CONDITIONAL operands (put op.SELECTION_MERGE (end ∷ 0 ∷ []) b.sections))));
  used = omega arith;
  place = refl;
}

pub behind_assoc : {A B C : Type 0} (l : Lowered A) (first : A → Emit B) (next : B → Emit C) → behind (behind l first) next ≡ behind l (λ a. first a >>= next)
behind_assoc Lacks first next = refl
behind_assoc (Gives a later) first next = refl

abbrev on_true : LogicOp → ℕ → ℕ → ℕ
on_true logic.Or right end = end
on_true logic.And right end = right
on_true logic.Xor right end = right

abbrev on_false : LogicOp → ℕ → ℕ → ℕ
on_false logic.Or right end = right
on_false logic.And right end = end
on_false logic.Xor right end = end

targets_are : (which : LogicOp) (x right end : ℕ) → targets which x right end ≡ x ∷ on_true which right end ∷ on_false which right end ∷ []
targets_are logic.And x right end = refl
targets_are logic.Or x right end = refl
targets_are logic.Xor x right end = refl

-- where the first operand decides, control goes to the end
goes_to : (which : LogicOp) → IsShort which → (word right end : ℕ) (d : Bool) → decides which word ≡ d → (if word == 0 then on_false which right end else on_true which right end) ≡ (if d then end else right)
goes_to logic.And is word right end d e = ap (λ b. if b then end else right) e
goes_to logic.Or is word right end d e = by (word == 0) d e
  where
    by : (zero_word d : Bool) → not zero_word ≡ d → (if zero_word then right else end) ≡ (if d then end else right)
    by true true e = absurd cc
    by true false e = refl
    by false true e = refl
    by false false e = absurd cc
goes_to logic.Xor is word right end d e = absurd is

second_counts : (which : LogicOp) → IsShort which → (a b : ℕ) → logic_word which a b ≡ b
second_counts logic.And is a b = refl
second_counts logic.Or is a b = refl
second_counts logic.Xor is a b = absurd is

-- what begins two ways, from its last step on
abbrev choose_end : LogicOp → ℕ → ℕ → ℕ → ℕ → Emit Fork
choose_end which x h right end = choosing end (targets which x right end) right >>= (λ done. given (fork h right end))

abbrev take_end : LogicOp → ℕ → ℕ → ℕ → Emit Fork
take_end which x h right = fresh >>= choose_end which x h right

abbrev take_right : LogicOp → ℕ → ℕ → Emit Fork
take_right which x h = fresh >>= take_end which x h

adds_choose : (which : LogicOp) (x h right end : ℕ) → Adds (choose_end which x h right end)
adds_choose which x h right end =
    adds_then (choosing end (targets which x right end) right) (λ done. given (fork h right end))
    (adds_then (putting_here op.SELECTION_MERGE (end ∷ 0 ∷ [])) (λ done. putting_here op.BRANCH_CONDITIONAL (targets which x right end) >>= (λ done. opening right)) (adds_put op.SELECTION_MERGE (end ∷ 0 ∷ []))
    (λ done. adds_then (putting_here op.BRANCH_CONDITIONAL (targets which x right end)) (λ done. opening right) (adds_put op.BRANCH_CONDITIONAL (targets which x right end)) (λ done. adds_opening right)))
    (λ done. adds_given (fork h right end))

-- the flow in the block of the second operand
abbrev entered_at : LogicOp → ℕ → ℕ → ℕ → Flow → Flow
entered_at which x right end b = chosen_at end (x ∷ on_true which right end ∷ on_false which right end ∷ []) right b

grown_entered : (which : LogicOp) (x right end : ℕ) (b : Flow) → Grown b (entered_at which x right end b)
grown_entered which x right end b = grown_chosen end (x ∷ on_true which right end ∷ on_false which right end ∷ []) right b

-- the flow where both ways meet
abbrev pub stored_end : ℕ → ℕ → ℕ → Flow → Flow
stored_end h id end b = branched end end (record b { sections = put op.STORE (h ∷ id ∷ []) b.sections })

pub grown_stored_end : (h id end : ℕ) (b : Flow) → Grown b (stored_end h id end b)
grown_stored_end h id end b = grown_then (adds_put op.STORE (h ∷ id ∷ []) b) (grown_branched end end (record b { sections = put op.STORE (h ∷ id ∷ []) b.sections }))

module _ (m : Module) (input : Input) (whole : Sections) (f : Frame m input whole) (p : Program) (around : Around) where
  -- the same with something else given
  pub does_change : {A R T : Type 0} (units left : ℕ) (state : State) (First : A → Flow → R → shader.State → State → Type 0) (Is : A → Flow → T → shader.State → State → Type 0) (r : R) (t : T) (s : shader.State) (low : Lowered A)
      → ((a : A) (later : Flow) (last : State) → First a later r s last → Is a later t s last) → Does m input whole f p 0 units state First none_waits (Got r s left) low → Does m input whole f p 0 units state Is none_waits (Got t s left) low
  does_change units left state First Is r t s Lacks so does = tt
  does_change units left state First Is r t s (Gives a later) so does = λ inside. let q = does inside in record { later = q.later; is = so a later q.later q.is; less = q.less; stretch = q.stretch }

  pub met_given : (b0 : Flow) (state0 : State) (id : ℕ) (later : Flow) (v : Value) (s : shader.State) (last : State) (t : Ty) → is_value_of p.structs t v ≡ true → Met m input whole f p around b0.place.used v state0 id later tt s last → HasGiven m input whole f p around true t b0 state0 id later v s last
  met_given b0 state0 id later v s last t typed met = record { given = inr (typed, met.stands); after = record { good = met.good; held = met.held; ids = λ e. absurd (let z : true ≡ false = e in cc) } }

  -- What is known where two ways begin: from the start of the whole on, holders are as they were, and a value waits in one that came later.
  pub record Before (b0 : Flow) (state0 : State) (h : ℕ) (v : Value) (b : Flow) (s : shader.State) (state : State) : Type 0 where
    pub good : Good m input whole f p around b s state
    pub grown : Grown b0 b
    pub held : Kept m input whole f b0.place.used state0 state
    pub waits : Waits m input whole f b.place.used h v state
    pub first : b0.place.used ≤ waits.holder

  -- an id was taken
  pub before_later : (b0 b later : Flow) (state0 mid last : State) (s t : shader.State) (h : ℕ) (v : Value) → Before b0 state0 h v b s mid → Grown b later → After m input whole f p around false b mid later t last → Before b0 state0 h v later t last
  before_later b0 b later state0 mid last s t h v before grown after = record {
    good = after.good;
    grown = grown_then before.grown grown;
    held = record { same = λ holder number less seat. after.held.same holder number (omega (arith, less, before.grown.used)) seat ∙ before.held.same holder number less seat };
    waits = waits_after m input whole f p around false b later mid last t h v grown after before.waits;
    first = before.first;
  }

  module _ (which : LogicOp) (is : IsShort which) (sb : Bool) (second : Emit ℕ) (y : Run Value) (does_second : GivesValue m input whole f p around sb boolean second y) where
    abbrev meet : Fork → Emit ℕ
    meet ways = second >>= join (One Boolean) ways

    adds_meet : (ways : Fork) → Adds (meet ways)
    adds_meet ways = adds_then second (join (One Boolean) ways) does_second.adds (λ id. adds_join m input whole (One Boolean) ways id)

    -- behind the second operand, whose value is left in the holder
    met_second : (b0 b4 b5 : Flow) (state0 state4 mid5 : State) (h right end id : ℕ) (v w : Value) (x : ℕ) (t : shader.State) (left : ℕ) → Inside m input whole f b5.sections → Grown b0 b4 → Grown b4 b5 → Kept m input whole f b0.place.used state0 state4
        → (waits : Waits m input whole f b4.place.used h v state4) → b0.place.used ≤ waits.holder → HasGiven m input whole f p around sb boolean b4 state4 id b5 w t mid5
        → Does m input whole f p 0 left mid5 (HasGiven m input whole f p around true boolean b0 state0) none_waits (shader_given (Word (logic_word which x (word_in w))) t left) (join (One Boolean) (fork h right end) id b5)
    met_second b0 b4 b5 state0 state4 mid5 h right end id v w x t left inside5 grown04 grown45 held04 waits few g =
        let real = given_value m input whole f p around mid5.ids id boolean w real_boolean g.given in
        let truth = truth_of p.structs w real.0 in
        let same : Word (logic_word which x (word_in w)) ≡ w = ap Word (second_counts which is x (word_in w)) ∙ sym truth.is in
        subst (λ value. Does m input whole f p 0 left mid5 (HasGiven m input whole f p around true boolean b0 state0) none_waits (Got value t left) (join (One Boolean) (fork h right end) id b5)) (sym same)
        (does_change left left mid5 (Met m input whole f p around b0.place.used w state0) (HasGiven m input whole f p around true boolean b0 state0) tt w t (join (One Boolean) (fork h right end) id b5)
        (λ got later last met. met_given b0 state0 got later w t last boolean real.0 met)
        (does_join m input whole f p around b0.place.used (One Boolean) (fork h right end) id w v left b5 t state0 mid5 g.after.good
        (record { same = λ holder number less seat. g.after.held.same holder number (omega (arith, less, grown04.used)) seat ∙ held04.same holder number less seat })
        (waits_after m input whole f p around sb b4 b5 state4 mid5 t h v grown45 g.after waits) few real.1))

    -- the second operand is entered
    enters : (b0 b3 : Flow) (state0 mid3 : State) (s : shader.State) (units x h right end : ℕ) (v : Value) → Before b0 state0 h v b3 s mid3 → Stands mid3.ids x v → decides which (word_in v) ≡ false
        → Does m input whole f p 0 units mid3 (HasGiven m input whole f p around true boolean b0 state0) none_waits (shader_run.◌>>=◌ y (λ w. shader_given (Word (logic_word which (word_in v) (word_in w)))) s units) (meet (fork h right end) (entered_at which x right end b3))
    enters b0 b3 state0 mid3 s units x h right end v before stands no_ =
        does_behind m input whole f p units b3 (entered_at which x right end b3) mid3 (begun_at m input whole f mid3 (entered_at which x right end b3).sections) (HasGiven m input whole f p around true boolean b0 state0)
        (shader_run.◌>>=◌ y (λ w. shader_given (Word (logic_word which (word_in v) (word_in w)))) s units) (meet (fork h right end) (entered_at which x right end b3))
        before.good.inside (grown_entered which x right end b3) (adds_meet (fork h right end) (entered_at which x right end b3))
        (λ inside4. chooses m input whole f b3.sections end x (on_true which right end) (on_false which right end) v right (put op.BRANCH_CONDITIONAL (x ∷ on_true which right end ∷ on_false which right end ∷ []) (put op.SELECTION_MERGE (end ∷ 0 ∷ []) b3.sections)) mid3 units
        (goes_to which is (word_in v) right end false no_) stands before.good.inside inside4 (extends_same _) before.good.rest before.good.within before.good.own)
        (λ inside4 led.
        does_then m input whole f p 0 units (entered_at which x right end b3) (begun_at m input whole f mid3 (entered_at which x right end b3).sections) (HasGiven m input whole f p around sb boolean (entered_at which x right end b3) (begun_at m input whole f mid3 (entered_at which x right end b3).sections)) none_waits
        (HasGiven m input whole f p around true boolean b0 state0) none_waits (y s units) (λ w. shader_given (Word (logic_word which (word_in v) (word_in w)))) (second (entered_at which x right end b3)) (join (One Boolean) (fork h right end)) inside4
        (does_second.adds (entered_at which x right end b3)) (λ id. adds_join m input whole (One Boolean) (fork h right end) id)
        (does_second.does (entered_at which x right end b3) s units (begun_at m input whole f mid3 (entered_at which x right end b3).sections)
        (good_begun m input whole f p around b3 (entered_at which x right end b3) s mid3 before.good (grown_entered which x right end b3) inside4 led))
        (λ id b5 w t left mid5 inside5 grown45 g less. met_second b0 (entered_at which x right end b3) b5 state0 (begun_at m input whole f mid3 (entered_at which x right end b3).sections) mid5 h right end id v w (word_in v) t left inside5
        (grown_then before.grown (grown_entered which x right end b3)) grown45
        (record { same = λ holder number less seat. before.held.same holder number less seat })
        (record { holder = before.waits.holder; number = before.waits.number; among = before.waits.among; seat = before.waits.seat; points = before.waits.points; value = before.waits.value })
        before.first g)
        (λ id b5 t left mid5 inside5 grown45 none less. absurd none))

    -- the second operand is not entered, and the value is that of the first
    skips : (b0 b3 : Flow) (state0 mid3 : State) (s : shader.State) (units x h right end : ℕ) (v : Value) → Before b0 state0 h v b3 s mid3 → Stands mid3.ids x v → is_value_of p.structs boolean v ≡ true → decides which (word_in v) ≡ true
        → Does m input whole f p 0 units mid3 (HasGiven m input whole f p around true boolean b0 state0) none_waits (Got v s units) (meet (fork h right end) (entered_at which x right end b3))
    unfolding join opening
    skips b0 b3 state0 mid3 s units x h right end v before stands typed yes_ = by (second (entered_at which x right end b3)) (does_second.adds (entered_at which x right end b3))
      where
        by : (l : Lowered ℕ) → GrownTo (entered_at which x right end b3) l → Does m input whole f p 0 units mid3 (HasGiven m input whole f p around true boolean b0 state0) none_waits (Got v s units) (behind l (join (One Boolean) (fork h right end)))
        by Lacks grown = tt
        by (Gives id b5) grown =
            let grown36 = grown_then (grown_entered which x right end b3) (grown_then grown (grown_stored_end h id end b5)) in
            does_behind m input whole f p units b3 (stored_end h id end b5) mid3 (begun_at m input whole f mid3 (stored_end h id end b5).sections) (HasGiven m input whole f p around true boolean b0 state0) (Got v s units) ((type_id (One Boolean) >>= take_back h) (stored_end h id end b5))
            before.good.inside grown36 (adds_then (type_id (One Boolean)) (take_back h) (adds_type_id m input whole (One Boolean)) (λ type. adds_take_back m input whole h type) (stored_end h id end b5))
            (λ inside6. chooses m input whole f b3.sections end x (on_true which right end) (on_false which right end) v end (put op.BRANCH (end ∷ []) (put op.STORE (h ∷ id ∷ []) b5.sections)) mid3 units
            (goes_to which is (word_in v) right end true yes_) stands before.good.inside inside6
            (extends_then (extends_put op.LABEL (right ∷ []) (put op.BRANCH_CONDITIONAL (x ∷ on_true which right end ∷ on_false which right end ∷ []) (put op.SELECTION_MERGE (end ∷ 0 ∷ []) b3.sections)))
            (extends_then grown.extends (extends_then (extends_put op.STORE (h ∷ id ∷ []) b5.sections) (extends_put op.BRANCH (end ∷ []) (put op.STORE (h ∷ id ∷ []) b5.sections)))))
            before.good.rest before.good.within before.good.own)
            (λ inside6 led. does_change units units (begun_at m input whole f mid3 (stored_end h id end b5).sections) (Met m input whole f p around b0.place.used v state0) (HasGiven m input whole f p around true boolean b0 state0) tt v s ((type_id (One Boolean) >>= take_back h) (stored_end h id end b5))
            (λ got later last met. met_given b0 state0 got later v s last boolean typed met)
            (does_met m input whole f p around b0.place.used (One Boolean) h v units (stored_end h id end b5) s state0 (begun_at m input whole f mid3 (stored_end h id end b5).sections) (omega (arith, before.grown.used, grown36.used))
            (good_begun m input whole f p around b3 (stored_end h id end b5) s mid3 before.good grown36 inside6 led)
            (record { same = λ holder number less seat. before.held.same holder number less seat })
            (record { holder = before.waits.holder; number = before.waits.number; among = omega (arith, before.waits.among, grown36.used); seat = before.waits.seat; points = before.waits.points; value = before.waits.value })))

    -- ---- from the first operand on

    -- a choice has ended the block, and both ways are gone
    at_choice : (b0 b3 : Flow) (state0 mid3 : State) (s : shader.State) (units x h right end : ℕ) (v : Value) → Before b0 state0 h v b3 s mid3 → Stands mid3.ids x v → is_value_of p.structs boolean v ≡ true
        → Does m input whole f p 0 units mid3 (HasGiven m input whole f p around true boolean b0 state0) none_waits (logic_value which y v s units) ((choose_end which x h right end >>= meet) b3)
    unfolding opening
    at_choice b0 b3 state0 mid3 s units x h right end v before stands typed =
        subst (λ operands. Does m input whole f p 0 units mid3 (HasGiven m input whole f p around true boolean b0 state0) none_waits (logic_value which y v s units) (meet (fork h right end) (chosen_at end operands right b3))) (sym (targets_are which x right end))
        (by (decides which (word_in v)) refl)
      where
        by : (d : Bool) → decides which (word_in v) ≡ d
            → Does m input whole f p 0 units mid3 (HasGiven m input whole f p around true boolean b0 state0) none_waits ((if d then shader_given v else shader_run.◌>>=◌ y (λ w. shader_given (Word (logic_word which (word_in v) (word_in w))))) s units) (meet (fork h right end) (entered_at which x right end b3))
        by true e = skips b0 b3 state0 mid3 s units x h right end v before stands typed e
        by false e = enters b0 b3 state0 mid3 s units x h right end v before stands e

    adds_choice : (x h right end : ℕ) → Adds (choose_end which x h right end >>= meet)
    adds_choice x h right end = adds_then (choose_end which x h right end) meet (adds_choose which x h right end) adds_meet

    adds_end : (x h right : ℕ) → Adds (take_end which x h right >>= meet)
    adds_end x h right = adds_then (take_end which x h right) meet (adds_then fresh (choose_end which x h right) adds_fresh (λ end. adds_choose which x h right end)) adds_meet

    adds_right : (x h : ℕ) → Adds (take_right which x h >>= meet)
    adds_right x h = adds_then (take_right which x h) meet (adds_then fresh (take_end which x h) adds_fresh (λ right. adds_then fresh (choose_end which x h right) adds_fresh (λ end. adds_choose which x h right end))) adds_meet

    at_end : (b0 b2 : Flow) (state0 mid2 : State) (s : shader.State) (units x h right : ℕ) (v : Value) → Before b0 state0 h v b2 s mid2 → Stands mid2.ids x v → is_value_of p.structs boolean v ≡ true
        → Does m input whole f p 0 units mid2 (HasGiven m input whole f p around true boolean b0 state0) none_waits (logic_value which y v s units) ((take_end which x h right >>= meet) b2)
    at_end b0 b2 state0 mid2 s units x h right v before stands typed =
        subst (Does m input whole f p 0 units mid2 (HasGiven m input whole f p around true boolean b0 state0) none_waits (logic_value which y v s units)) (sym (behind_assoc (fresh b2) (choose_end which x h right) meet))
        (does_then m input whole f p 0 units b2 mid2 (Unchanged m input whole f p around b2 mid2) none_waits (HasGiven m input whole f p around true boolean b0 state0) none_waits (Got tt s units) (λ r t left. logic_value which y v t left) (fresh b2) (λ end. choose_end which x h right end >>= meet) before.good.inside
        (adds_fresh b2) (adds_choice x h right)
        (does_fresh m input whole f p around units b2 s mid2 before.good)
        (λ end b3 r t left mid3 inside3 grown3 after less. at_choice b0 b3 state0 mid3 t left x h right end v (before_later b0 b2 b3 state0 mid2 mid3 s t h v before grown3 after) ((after.ids refl).same x _ stands) typed)
        (λ end b3 t left mid3 inside3 grown3 none less. absurd none))

    at_right : (b0 b1 : Flow) (state0 mid1 : State) (s : shader.State) (units x h : ℕ) (v : Value) → Before b0 state0 h v b1 s mid1 → Stands mid1.ids x v → is_value_of p.structs boolean v ≡ true
        → Does m input whole f p 0 units mid1 (HasGiven m input whole f p around true boolean b0 state0) none_waits (logic_value which y v s units) ((take_right which x h >>= meet) b1)
    at_right b0 b1 state0 mid1 s units x h v before stands typed =
        subst (Does m input whole f p 0 units mid1 (HasGiven m input whole f p around true boolean b0 state0) none_waits (logic_value which y v s units)) (sym (behind_assoc (fresh b1) (take_end which x h) meet))
        (does_then m input whole f p 0 units b1 mid1 (Unchanged m input whole f p around b1 mid1) none_waits (HasGiven m input whole f p around true boolean b0 state0) none_waits (Got tt s units) (λ r t left. logic_value which y v t left) (fresh b1) (λ right. take_end which x h right >>= meet) before.good.inside
        (adds_fresh b1) (adds_end x h)
        (does_fresh m input whole f p around units b1 s mid1 before.good)
        (λ right b2 r t left mid2 inside2 grown2 after less. at_end b0 b2 state0 mid2 t left x h right v (before_later b0 b1 b2 state0 mid1 mid2 s t h v before grown2 after) ((after.ids refl).same x _ stands) typed)
        (λ right b2 t left mid2 inside2 grown2 none less. absurd none))

    at_first : (sa : Bool) (b0 b : Flow) (state0 mid : State) (s : shader.State) (units x : ℕ) (v : Value) → Grown b0 b → HasGiven m input whole f p around sa boolean b0 state0 x b v s mid
        → Does m input whole f p 0 units mid (HasGiven m input whole f p around true boolean b0 state0) none_waits (logic_value which y v s units) ((begin_short which x >>= meet) b)
    unfolding begin_short
    at_first sa b0 b state0 mid s units x v grown g =
        let real = given_value m input whole f p around mid.ids x boolean v real_boolean g.given in
        subst (Does m input whole f p 0 units mid (HasGiven m input whole f p around true boolean b0 state0) none_waits (logic_value which y v s units)) (sym (behind_assoc (keep x b) (take_right which x) meet))
        (does_then m input whole f p 0 units b mid (NowWaits m input whole f p around v b mid) none_waits (HasGiven m input whole f p around true boolean b0 state0) none_waits (Got tt s units) (λ r t left. logic_value which y v t left) (keep x b) (λ h. take_right which x h >>= meet) g.after.good.inside
        (adds_keep x b) (adds_right x)
        (does_keep m input whole f p around x v units b s mid g.after.good real.1)
        (λ h b1 r t left mid1 inside1 grown1 now less. at_right b0 b1 state0 mid1 t left x h v (record {
          good = now.0.good;
          grown = grown_then grown grown1;
          held = record { same = λ holder number few seat. now.0.held.same holder number (omega (arith, few, grown.used)) seat ∙ g.after.held.same holder number few seat };
          waits = now.1.0;
          first = omega (arith, now.1.1, grown.used);
        }) ((now.0.ids refl).same x _ real.1) real.0)
        (λ h b1 t left mid1 inside1 grown1 none less. absurd none))

    adds_short : (x : ℕ) → Adds (begin_short which x >>= meet)
    unfolding begin_short
    adds_short x = adds_then (keep x >>= take_right which x) meet (adds_then (keep x) (take_right which x) (adds_keep x) (λ h. adds_then fresh (take_end which x h) adds_fresh (λ right. adds_then fresh (choose_end which x h right) adds_fresh (λ end. adds_choose which x h right end)))) adds_meet

    short_of : (sa : Bool) (first : Emit ℕ) (a : Run Value) → GivesValue m input whole f p around sa boolean first a → GivesValue m input whole f p around true boolean (first >>= begin_short which >>= meet) (logic_means which a y)
    short_of sa first a does_first = record {
      adds = λ b0. subst (GrownTo b0) (sym (behind_assoc (first b0) (begin_short which) meet)) (adds_then first (λ x. begin_short which x >>= meet) does_first.adds adds_short b0);
      does = λ b0 s units state good.
          subst (Does m input whole f p 0 units state (HasGiven m input whole f p around true boolean b0 state) none_waits (logic_means which a y s units)) (sym (behind_assoc (first b0) (begin_short which) meet))
          (does_then m input whole f p 0 units b0 state (HasGiven m input whole f p around sa boolean b0 state) none_waits (HasGiven m input whole f p around true boolean b0 state) none_waits (a s units) (logic_value which y) (first b0) (λ x. begin_short which x >>= meet) good.inside
          (does_first.adds b0) adds_short
          (does_first.does b0 s units state good)
          (λ x b v t left mid inside grown g less. at_first sa b0 b state mid t left x v grown g)
          (λ x b t left mid inside grown none less. absurd none));
    }

  -- `&&` and `||`, where the second operand has a block of its own.
  pub short_gives : (which : LogicOp) (a b : Lower) (x y : Run Value) → IsShort which → a.ty ≡ boolean → b.ty ≡ boolean → GivesValue m input whole f p around a.traits.splits a.ty a.value x → GivesValue m input whole f p around b.traits.splits b.ty b.value y
      → GivesValue m input whole f p around true boolean (short which a b) (logic_means which x y)
  short_gives which a b x y is of_a of_b first second =
      short_of which is b.traits.splits b.value y (subst (λ t. GivesValue m input whole f p around b.traits.splits t b.value y) of_b second) a.traits.splits a.value x (subst (λ t. GivesValue m input whole f p around a.traits.splits t a.value x) of_a first)
