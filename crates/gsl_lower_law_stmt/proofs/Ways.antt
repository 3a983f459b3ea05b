-- `if`: two ways that meet.
use Rattle.std.proofs.Common.{◌≡◌, ◌≢◌, refl, sym, ap, ◌∙◌, subst, ℕ, ◌⊎◌, inl, inr, Bool, true, false, if◌then◌else◌, ◌==◌, [], ◌∷◌, append_assoc, arith}
use Rattle.std.specs.Prelude.{nat_le}
use Rattle.gsl_base.specs.declared.input.Input.{Input}
use Rattle.gsl_instr.specs.Forms.{form_of}
use Rattle.gsl_instr.specs.declared.op.TheConstants as op
use Rattle.gsl_types.specs.declared.ty.Ty.{Ty}
use Rattle.gsl_types.specs.declared.ty.Ty.TheVariants.{Void}
use Rattle.gsl_words.specs.declared.module.Module.{Module}
use Rattle.gsl_values.specs.declared.value.Value.{Value}
use Rattle.gsl_tree.specs.Around.{Around}
use Rattle.gsl_tree.specs.Values.{is_value_of, word_in}
use Rattle.gsl_tree.specs.declared.program.Program.{Program}
use Rattle.gsl_meaning.specs.Running.{Got, Ran, Run, given as shader_given}
use Rattle.gsl_meaning.specs.Running as shader_run
use Rattle.gsl_meaning.specs.State as shader
use Rattle.gsl_meaning.specs.Statements as statement
use Rattle.gsl_meaning.specs.Statements.{Normal, Broke, Continued, Returned}
use Rattle.gsl_machine.specs.State.{State}
use Rattle.gsl_spv.specs.Calls.{put, take}
use Rattle.gsl_spv.specs.Declarations.{instr}
use Rattle.gsl_spv.specs.Growing.{Extends}
use Rattle.gsl_spv.specs.Sections.{Sections}
use Rattle.gsl_spv.proofs.Extending.{extends_same, extends_take, extends_then}
use Rattle.gsl_spv.specs.declared.refusal.TheConstants.{MOST_IDS}
use Rattle.gsl_lower_values.specs.Building.{Full, Made}
use Rattle.gsl_lower_law.specs.Values.{Stands}
use Rattle.gsl_lower_law.proofs.Adding.{extends_put}
use Rattle.gsl_lower_holders.specs.Flow.{Emit, Flow, Gives, Lacks, Lowered, behind, built_in, flow_of, fresh, opening, ◌>>=◌}
use Rattle.gsl_lower_stmt.specs.Parts.{begin_else, begin_if, end_if, seal}
use Rattle.gsl_lower_stmt.specs.declared.exits.Exits.{Exits}
use Rattle.gsl_lower_follows.specs.Following.{Follows, Reaches}
use Rattle.gsl_lower_follows.specs.Frames.{Frame, Good, Inside, coming}
use Rattle.gsl_lower_follows.specs.Giving.{Adds, Does, GivesValue, Grown, GrownTo, HasGiven, none_waits}
use Rattle.gsl_lower_follows.proofs.Beginning.{chooses, good_begun}
use Rattle.gsl_lower_follows.proofs.Behind.{follows_behind, follows_then, reaches_here}
use Rattle.gsl_lower_follows.proofs.Growing.{adds_then, grown_then}
use Rattle.gsl_lower_follows.proofs.Jumping.{begun_at, jumps}
use Rattle.gsl_lower_follows.proofs.Placing.{inside_between}
use Rattle.gsl_lower_law_stmt.specs.Doing.{DoesHere, DoesStatement, IsDone, LeadBehind, UnderExits}
use Rattle.gsl_lower_law_stmt.proofs.Rows.{lead_before}

-- ---- blocks

-- a block is left for another, unless it was left
abbrev pub sealed : Bool → ℕ → Sections → Sections
sealed true label b = b
sealed false label b = put op.BRANCH (label ∷ []) b

-- and the next one begins
abbrev pub block_at : ℕ → Sections → Flow → Flow
block_at next sections b = record { sections = put op.LABEL (next ∷ []) sections; place = record b.place { label = next } }

pub extends_sealed : (left : Bool) (label : ℕ) (b : Sections) → Extends b (sealed left label b)
extends_sealed true label b = extends_same b
extends_sealed false label b = extends_put op.BRANCH (label ∷ []) b

pub grown_block : (next : ℕ) (sections : Sections) (b : Flow) → Extends b.sections sections → Grown b (block_at next sections b)
grown_block next sections b extends = record { extends = extends_then extends (extends_put op.LABEL (next ∷ []) sections); used = omega arith; place = refl }

else_is : (n e : ℕ) (left : Bool) (b : Flow) → begin_else (record { other = n; end = e }) left b ≡ Gives tt (block_at n (sealed left e b.sections) b)
unfolding begin_else seal opening
else_is n e true b = refl
else_is n e false b = refl

end_is : (n e : ℕ) (left : Bool) (b : Flow) → end_if (record { other = n; end = e }) left b ≡ Gives tt (block_at e (sealed left e b.sections) b)
unfolding end_if seal opening
end_is n e true b = refl
end_is n e false b = refl

-- two blocks of a choice, the first of which begins
abbrev chosen_at : ℕ → ℕ → ℕ → ℕ → Sections → Sections
chosen_at x first other end b = put op.BRANCH_CONDITIONAL (x ∷ first ∷ other ∷ []) (put op.SELECTION_MERGE (end ∷ 0 ∷ []) b)

abbrev pub taken : Flow → Flow
taken b = flow_of (take b.sections).sections b.place

-- an id is taken, or there is none
pub fresh_then : {A : Type 0} (Is : Lowered A → Type 0) (b : Flow) (next : ℕ → Emit A) → Is Lacks → Is (next (take b.sections).id (taken b)) → Is (behind (fresh b) next)
fresh_then {A} Is b next lacks made = by (nat_le (take b.sections).sections.last MOST_IDS) refl
  where
    by : (fits : Bool) → nat_le (take b.sections).sections.last MOST_IDS ≡ fits → Is (behind (fresh b) next)
    by true e = subst (λ t. Is (behind (built_in b.place (if t then Made (take b.sections).id (take b.sections).sections else Full)) next)) (sym e) made
    by false e = subst (λ t. Is (behind (built_in b.place (if t then Made (take b.sections).id (take b.sections).sections else Full)) next)) (sym e) lacks

pub ran_same : (r : Ran statement.Flow) → shader_run.behind r shader_given ≡ r
ran_same (Got v s left) = refl
ran_same (shader_run.Ends s) = refl
ran_same shader_run.Strays = refl
ran_same shader_run.Goes = refl

module _ (m : Module) (input : Input) (sections : Sections) (f : Frame m input sections) (p : Program) (around : Around) where
  -- From behind a way to where both meet.
  to_end : (end : ℕ) (before : Sections) (b from : Flow) (s : shader.State) (units : ℕ) (state : State) → Good m input sections f p around b s state → Grown b (block_at end before from) → Extends (put op.BRANCH (end ∷ []) b.sections) before
      → Inside m input sections f before → Inside m input sections f (put op.LABEL (end ∷ []) before) → Reaches m input 0 units state (Good m input sections f p around (block_at end before from) s) units
  unfolding form_of
  to_end end before b from s units state good grown extends inside_before inside =
      let led = jumps m input sections f (instr op.BRANCH (end ∷ [])) end b.sections before state units good.inside inside_before inside good.rest good.within good.own extends.functions.more
      (extends.functions.is ∙ append_assoc b.sections.functions (instr op.BRANCH (end ∷ []) ∷ []) extends.functions.more) (λ at more. refl) in
      record {
        later = begun_at m input sections f state (put op.LABEL (end ∷ []) before);
        is = good_begun m input sections f p around b (block_at end before from) s state good grown inside led;
        less = omega arith;
        stretch = led;
      }

  -- A way is done, and where it comes to its end, to where both meet.
  way_done : (left : Bool) (exits : Exits) (end : ℕ) (before : Sections) (b from : Flow) (units : ℕ) (state : State) (ran : Ran statement.Flow) → Grown b (block_at end before from) → Extends (sealed left end b.sections) before
      → Inside m input sections f before → Inside m input sections f (put op.LABEL (end ∷ []) before)
      → Follows m input p 0 units state (IsDone m input sections f p around left exits tt b) (none_waits {A = Unit {0}} tt b) ran
      → Follows m input p 0 units state (IsDone m input sections f p around false exits tt (block_at end before from)) (none_waits {A = Unit {0}} tt (block_at end before from)) ran
  way_done left exits end before b from units state ran grown extends inside_before inside does =
      subst (Follows m input p 0 units state (IsDone m input sections f p around false exits tt (block_at end before from)) (none_waits {A = Unit {0}} tt (block_at end before from))) (ran_same ran)
      (follows_then m input p 0 units state (IsDone m input sections f p around left exits tt b) (none_waits {A = Unit {0}} tt b) (IsDone m input sections f p around false exits tt (block_at end before from)) (none_waits {A = Unit {0}} tt (block_at end before from)) ran shader_given does
      (λ flow t units mid is less. goes flow t units mid is)
      (λ t units mid none less. absurd none))
    where
      extends_open : left ≡ false → Extends (put op.BRANCH (end ∷ []) b.sections) before
      extends_open e = subst (λ l. Extends (sealed l end b.sections) before) e extends

      goes : (flow : statement.Flow) (t : shader.State) (units : ℕ) (mid : State) → IsDone m input sections f p around left exits tt b flow t mid
          → Follows m input p 0 units mid (IsDone m input sections f p around false exits tt (block_at end before from)) (none_waits {A = Unit {0}} tt (block_at end before from)) (Got flow t units)
      goes Normal t units mid is =
          let r = to_end end before b from t units mid is.1 grown (extends_open is.0) inside_before inside in
          record { later = r.later; is = (refl, r.is); less = r.less; stretch = r.stretch }
      goes Broke t units mid is = reaches_here m input units mid (IsDone m input sections f p around false exits tt (block_at end before from) Broke t) is
      goes Continued t units mid is = reaches_here m input units mid (IsDone m input sections f p around false exits tt (block_at end before from) Continued t) is
      goes (Returned v) t units mid is = reaches_here m input units mid (IsDone m input sections f p around false exits tt (block_at end before from) (Returned v) t) is

  module _ (first_leaves other_leaves : Bool) (first other : Exits → Emit (Unit {0})) (x y : Run statement.Flow) (does_first : DoesStatement m input sections f p around first_leaves first x) (does_other : DoesStatement m input sections f p around other_leaves other y) where
    abbrev ways : Emit (Unit {0}) → Emit (Unit {0}) → Exits → Emit (Unit {0})
    ways between end exits = first exits >>= (λ a. between >>= (λ b. other exits >>= (λ c. end)))

    abbrev chosen_run : Bool → Run statement.Flow
    chosen_run is_zero = if is_zero then y else x

    -- one way is gone, from behind the value that chooses it
    module _ (exits : Exits) (i t n e : ℕ) (b1 b3 : Flow) (s : shader.State) (units : ℕ) (state : State) (v : Value) (good : Good m input sections f p around b1 s state) (grown3 : Grown b1 b3) (same : b3.sections.functions ≡ b1.sections.functions) (stands : Stands state.ids i v) where
      abbrev b4 : Flow
      b4 = block_at t (chosen_at i t n e b3.sections) b3

      abbrev b6_of : Flow → Flow
      b6_of b5 = block_at n (sealed first_leaves e b5.sections) b5

      abbrev b8_of : Flow → Flow
      b8_of b7 = block_at e (sealed other_leaves e b7.sections) b7

      rest_is : state.rest ≡ coming m input sections f b3.sections
      rest_is = good.rest ∙ sym (ap (λ code. coming m input sections f (record b1.sections { functions = code })) same)

      extends34 : Extends b3.sections (chosen_at i t n e b3.sections)
      extends34 = extends_then (extends_put op.SELECTION_MERGE (e ∷ 0 ∷ []) b3.sections) (extends_put op.BRANCH_CONDITIONAL (i ∷ t ∷ n ∷ []) (put op.SELECTION_MERGE (e ∷ 0 ∷ []) b3.sections))

      grown34 : Grown b3 b4
      grown34 = grown_block t (chosen_at i t n e b3.sections) b3 extends34

      abbrev Result : Bool → Lowered (Unit {0}) → Type 0
      Result is_zero = UnderExits m input sections f p around units state exits (IsDone m input sections f p around false exits) (chosen_run is_zero s units)

      all_done : (is_zero : Bool) → (word_in v == 0) ≡ is_zero → (b5 : Flow) → Grown b4 b5 → (b7 : Flow) → Grown (b6_of b5) b7
          → (Good m input sections f p around b4 s (begun_at m input sections f state b4.sections) → Inside m input sections f b5.sections → LeadBehind m input sections f b5.sections exits → Follows m input p 0 units (begun_at m input sections f state b4.sections) (IsDone m input sections f p around first_leaves exits tt b5) (none_waits {A = Unit {0}} tt b5) (x s units))
          → (Good m input sections f p around (b6_of b5) s (begun_at m input sections f state (b6_of b5).sections) → Inside m input sections f b7.sections → LeadBehind m input sections f b7.sections exits → Follows m input p 0 units (begun_at m input sections f state (b6_of b5).sections) (IsDone m input sections f p around other_leaves exits tt b7) (none_waits {A = Unit {0}} tt b7) (y s units))
          → Inside m input sections f (b8_of b7).sections → LeadBehind m input sections f (b8_of b7).sections exits
          → Follows m input p 0 units state (IsDone m input sections f p around false exits tt (b8_of b7)) (none_waits {A = Unit {0}} tt (b8_of b7)) (chosen_run is_zero s units)
      all_done is_zero which b5 grown45 b7 grown67 do_first do_other inside8 lead8 = by is_zero which
        where
          extends78 : Extends b7.sections (b8_of b7).sections
          extends78 = extends_then (extends_sealed other_leaves e b7.sections) (extends_put op.LABEL (e ∷ []) (sealed other_leaves e b7.sections))

          extends56 : Extends b5.sections (b6_of b5).sections
          extends56 = extends_then (extends_sealed first_leaves e b5.sections) (extends_put op.LABEL (n ∷ []) (sealed first_leaves e b5.sections))

          extends58 : Extends b5.sections (b8_of b7).sections
          extends58 = extends_then extends56 (extends_then grown67.extends extends78)

          extends48 : Extends b4.sections (b8_of b7).sections
          extends48 = extends_then grown45.extends extends58

          extends38 : Extends b3.sections (b8_of b7).sections
          extends38 = extends_then grown34.extends extends48

          between : (b : Sections) → Extends b1.sections b → Extends b (b8_of b7).sections → Inside m input sections f b
          between b one two = inside_between m input sections f b1.sections b (b8_of b7).sections good.inside inside8 one two

          inside3 : Inside m input sections f b3.sections
          inside3 = between b3.sections grown3.extends extends38

          inside4 : Inside m input sections f b4.sections
          inside4 = between b4.sections (extends_then grown3.extends grown34.extends) extends48

          inside5 : Inside m input sections f b5.sections
          inside5 = between b5.sections (extends_then grown3.extends (extends_then grown34.extends grown45.extends)) extends58

          grown16 : Grown b1 (b6_of b5)
          grown16 = grown_then grown3 (grown_then grown34 (grown_then grown45 (grown_block n (sealed first_leaves e b5.sections) b5 (extends_sealed first_leaves e b5.sections))))

          inside6 : Inside m input sections f (b6_of b5).sections
          inside6 = between (b6_of b5).sections grown16.extends (extends_then grown67.extends extends78)

          inside7 : Inside m input sections f b7.sections
          inside7 = between b7.sections (extends_then grown16.extends grown67.extends) extends78

          inside_before : Inside m input sections f (sealed other_leaves e b7.sections)
          inside_before = between (sealed other_leaves e b7.sections) (extends_then grown16.extends (extends_then grown67.extends (extends_sealed other_leaves e b7.sections))) (extends_put op.LABEL (e ∷ []) (sealed other_leaves e b7.sections))

          grown78 : Grown b7 (b8_of b7)
          grown78 = grown_block e (sealed other_leaves e b7.sections) b7 (extends_sealed other_leaves e b7.sections)

          grown58 : Grown b5 (b8_of b7)
          grown58 = grown_then (grown_block n (sealed first_leaves e b5.sections) b5 (extends_sealed first_leaves e b5.sections)) (grown_then grown67 grown78)

          by : (is_zero : Bool) → (word_in v == 0) ≡ is_zero → Follows m input p 0 units state (IsDone m input sections f p around false exits tt (b8_of b7)) (none_waits {A = Unit {0}} tt (b8_of b7)) (chosen_run is_zero s units)
          by false which =
              let led = chooses m input sections f b3.sections e i t n v t (chosen_at i t n e b3.sections) state units (ap (λ w. if w then n else t) which) stands inside3 inside4 (extends_same _) rest_is good.within good.own in
              follows_behind m input p 0 0 units units state (begun_at m input sections f state b4.sections) (IsDone m input sections f p around false exits tt (b8_of b7)) (none_waits {A = Unit {0}} tt (b8_of b7)) (x s units)
              led (omega arith)
              (way_done first_leaves exits e (sealed other_leaves e b7.sections) b5 b7 units (begun_at m input sections f state b4.sections) (x s units) grown58
              (extends_then (extends_put op.LABEL (n ∷ []) (sealed first_leaves e b5.sections)) (extends_then grown67.extends (extends_sealed other_leaves e b7.sections))) inside_before inside8
              (do_first (good_begun m input sections f p around b1 b4 s state good (grown_then grown3 grown34) inside4 led) inside5 (lead_before m input sections f b5.sections (b8_of b7).sections exits inside5 inside8 extends58 lead8)))
          by true which =
              let led = chooses m input sections f b3.sections e i t n v n (sealed first_leaves e b5.sections) state units (ap (λ w. if w then n else t) which) stands inside3 inside6
              (extends_then (extends_put op.LABEL (t ∷ []) (chosen_at i t n e b3.sections)) (extends_then grown45.extends (extends_sealed first_leaves e b5.sections))) rest_is good.within good.own in
              follows_behind m input p 0 0 units units state (begun_at m input sections f state (b6_of b5).sections) (IsDone m input sections f p around false exits tt (b8_of b7)) (none_waits {A = Unit {0}} tt (b8_of b7)) (y s units)
              led (omega arith)
              (way_done other_leaves exits e (sealed other_leaves e b7.sections) b7 b7 units (begun_at m input sections f state (b6_of b5).sections) (y s units) grown78 (extends_same _) inside_before inside8
              (do_other (good_begun m input sections f p around b1 (b6_of b5) s state good grown16 inside6 led) inside7 (lead_before m input sections f b7.sections (b8_of b7).sections exits inside7 inside8 extends78 lead8)))

      both_ways : (is_zero : Bool) → (word_in v == 0) ≡ is_zero → Result is_zero (ways (begin_else (record { other = n; end = e }) first_leaves) (end_if (record { other = n; end = e }) other_leaves) exits b4)
      both_ways is_zero which = by (first exits b4) (does_first.adds exits b4) (λ good4. does_first.does exits b4 s units (begun_at m input sections f state b4.sections) good4)
        where
          by : (low : Lowered (Unit {0})) → GrownTo b4 low
              → (Good m input sections f p around b4 s (begun_at m input sections f state b4.sections) → DoesHere m input sections f p around units (begun_at m input sections f state b4.sections) first_leaves exits (x s units) low)
              → Result is_zero (behind low (λ a. begin_else (record { other = n; end = e }) first_leaves >>= (λ b. other exits >>= (λ c. end_if (record { other = n; end = e }) other_leaves))))
          by Lacks grown do_first = tt
          by (Gives a b5) grown do_first = subst (λ low. Result is_zero (behind low (λ b. other exits >>= (λ c. end_if (record { other = n; end = e }) other_leaves)))) (sym (else_is n e first_leaves b5))
              (by_other (other exits (b6_of b5)) (does_other.adds exits (b6_of b5)) (λ good6. does_other.does exits (b6_of b5) s units (begun_at m input sections f state (b6_of b5).sections) good6))
            where
              by_other : (low : Lowered (Unit {0})) → GrownTo (b6_of b5) low
                  → (Good m input sections f p around (b6_of b5) s (begun_at m input sections f state (b6_of b5).sections) → DoesHere m input sections f p around units (begun_at m input sections f state (b6_of b5).sections) other_leaves exits (y s units) low)
                  → Result is_zero (behind low (λ c. end_if (record { other = n; end = e }) other_leaves))
              by_other Lacks more do_other = tt
              by_other (Gives c b7) more do_other = subst (Result is_zero) (sym (end_is n e other_leaves b7))
                  (λ inside8 lead8. all_done is_zero which b5 grown b7 more do_first do_other inside8 lead8)

    -- behind the value that chooses
    from_choice : (exits : Exits) (i : ℕ) (b : Flow) (s : shader.State) (units : ℕ) (state : State) (v : Value) → Good m input sections f p around b s state → Stands state.ids i v
        → UnderExits m input sections f p around units state exits (IsDone m input sections f p around false exits) (chosen_run (word_in v == 0) s units) ((begin_if i >>= (λ fork. ways (begin_else fork first_leaves) (end_if fork other_leaves) exits)) b)
    unfolding begin_if opening
    from_choice exits i b s units state v good stands =
        fresh_then (λ low. UnderExits m input sections f p around units state exits (IsDone m input sections f p around false exits) (chosen_run (word_in v == 0) s units) (behind low (λ fork. ways (begin_else fork first_leaves) (end_if fork other_leaves) exits))) b _ tt (fresh_then (λ low. UnderExits m input sections f p around units state exits (IsDone m input sections f p around false exits) (chosen_run (word_in v == 0) s units) (behind low (λ fork. ways (begin_else fork first_leaves) (end_if fork other_leaves) exits))) (taken b) _ tt (fresh_then (λ low. UnderExits m input sections f p around units state exits (IsDone m input sections f p around false exits) (chosen_run (word_in v == 0) s units) (behind low (λ fork. ways (begin_else fork first_leaves) (end_if fork other_leaves) exits))) (taken (taken b)) _ tt
        (both_ways exits i (take b.sections).id (take (taken b).sections).id (take (taken (taken b)).sections).id b (taken (taken (taken b))) s units state v good
        (record { extends = extends_then (extends_take b.sections) (extends_then (extends_take (taken b).sections) (extends_take (taken (taken b)).sections)); used = omega arith; place = refl }) refl stands (word_in v == 0) refl)))

    adds_ways : (n e : ℕ) (exits : Exits) → Adds (ways (begin_else (record { other = n; end = e }) first_leaves) (end_if (record { other = n; end = e }) other_leaves) exits)
    adds_ways n e exits =
        adds_then (first exits) (λ a. begin_else (record { other = n; end = e }) first_leaves >>= (λ b. other exits >>= (λ c. end_if (record { other = n; end = e }) other_leaves))) (does_first.adds exits)
        (λ a. adds_then (begin_else (record { other = n; end = e }) first_leaves) (λ b. other exits >>= (λ c. end_if (record { other = n; end = e }) other_leaves))
        (λ b. subst (GrownTo b) (sym (else_is n e first_leaves b)) (grown_block n (sealed first_leaves e b.sections) b (extends_sealed first_leaves e b.sections)))
        (λ b. adds_then (other exits) (λ c. end_if (record { other = n; end = e }) other_leaves) (does_other.adds exits)
        (λ c b. subst (GrownTo b) (sym (end_is n e other_leaves b)) (grown_block e (sealed other_leaves e b.sections) b (extends_sealed other_leaves e b.sections)))))

    taken_grown : (b : Flow) → Grown b (taken b)
    taken_grown b = record { extends = extends_take b.sections; used = omega arith; place = refl }

    -- all that is lowered behind the value only adds
    adds_next : (i : ℕ) (exits : Exits) → Adds (begin_if i >>= (λ fork. ways (begin_else fork first_leaves) (end_if fork other_leaves) exits))
    unfolding begin_if opening
    adds_next i exits b =
        fresh_then (λ low. GrownTo b (behind low (λ fork. ways (begin_else fork first_leaves) (end_if fork other_leaves) exits))) b _ tt
        (fresh_then (λ low. GrownTo b (behind low (λ fork. ways (begin_else fork first_leaves) (end_if fork other_leaves) exits))) (taken b) _ tt
        (fresh_then (λ low. GrownTo b (behind low (λ fork. ways (begin_else fork first_leaves) (end_if fork other_leaves) exits))) (taken (taken b)) _ tt
        (through b (blocks i b) (grown_blocks i b) (ways (begin_else (record { other = (take (taken b).sections).id; end = (take (taken (taken b)).sections).id }) first_leaves) (end_if (record { other = (take (taken b).sections).id; end = (take (taken (taken b)).sections).id }) other_leaves) exits (blocks i b)) (adds_ways (take (taken b).sections).id (take (taken (taken b)).sections).id exits (blocks i b)))))
      where
        blocks : ℕ → Flow → Flow
        blocks i b = block_at (take b.sections).id (chosen_at i (take b.sections).id (take (taken b).sections).id (take (taken (taken b)).sections).id (taken (taken (taken b))).sections) (taken (taken (taken b)))

        grown_blocks : (i : ℕ) (b : Flow) → Grown b (blocks i b)
        grown_blocks i b = grown_then (taken_grown b) (grown_then (taken_grown (taken b)) (grown_then (taken_grown (taken (taken b)))
            (grown_block (take b.sections).id (chosen_at i (take b.sections).id (take (taken b).sections).id (take (taken (taken b)).sections).id (taken (taken (taken b))).sections) (taken (taken (taken b)))
            (extends_then (extends_put op.SELECTION_MERGE ((take (taken (taken b)).sections).id ∷ 0 ∷ []) (taken (taken (taken b))).sections)
            (extends_put op.BRANCH_CONDITIONAL (i ∷ (take b.sections).id ∷ (take (taken b).sections).id ∷ []) (put op.SELECTION_MERGE ((take (taken (taken b)).sections).id ∷ 0 ∷ []) (taken (taken (taken b))).sections))))))

        through : (b mid : Flow) → Grown b mid → (low : Lowered (Unit {0})) → GrownTo mid low → GrownTo b low
        through b mid grown Lacks more = tt
        through b mid grown (Gives done later) more = grown_then grown more

    -- `if`: its value, and the way that it chooses
    module _ (splits : Bool) (ty : Ty) (test : Emit ℕ) (z : Run Value) (real : ty ≢ Void) (gives : GivesValue m input sections f p around splits ty test z) where
      abbrev next_run : Value → Run statement.Flow
      next_run v = if word_in v == 0 then y else x

      abbrev next : ℕ → Exits → Emit (Unit {0})
      next i exits = begin_if i >>= (λ fork. ways (begin_else fork first_leaves) (end_if fork other_leaves) exits)

      if_here : (exits : Exits) (b : Flow) (s : shader.State) (units : ℕ) (state : State) → Good m input sections f p around b s state
          → DoesHere m input sections f p around units state false exits (shader_run.◌>>=◌ z next_run s units) (behind (behind (test b) begin_if) (λ fork. ways (begin_else fork first_leaves) (end_if fork other_leaves) exits))
      if_here exits b s units state good = by (test b) (gives.adds b) (gives.does b s units state good)
        where
          by : (low : Lowered ℕ) → GrownTo b low → Does m input sections f p 0 units state (HasGiven m input sections f p around splits ty b state) none_waits (z s units) low
              → DoesHere m input sections f p around units state false exits (shader_run.◌>>=◌ z next_run s units) (behind (behind low begin_if) (λ fork. ways (begin_else fork first_leaves) (end_if fork other_leaves) exits))
          by Lacks grown does = tt
          by (Gives i b1) grown does = later_by (next i exits b1) (adds_next i exits b1) (λ t left mid v good stands. from_choice exits i b1 t left mid v good stands)
            where
              later_by : (low : Lowered (Unit {0})) → GrownTo b1 low
                  → ((t : shader.State) (left : ℕ) (mid : State) (v : Value) → Good m input sections f p around b1 t mid → Stands mid.ids i v → UnderExits m input sections f p around left mid exits (IsDone m input sections f p around false exits) (next_run v t left) low)
                  → DoesHere m input sections f p around units state false exits (shader_run.◌>>=◌ z next_run s units) low
              later_by Lacks more go = tt
              later_by (Gives done later) more go = λ inside lead.
                  let inside1 = inside_between m input sections f b.sections b1.sections later.sections good.inside inside grown.extends more.extends in
                  follows_then m input p 0 units state (HasGiven m input sections f p around splits ty b state i b1) (none_waits i b1) (IsDone m input sections f p around false exits done later) (none_waits done later) (z s units) next_run (does inside1)
                  (λ v t left mid g less. go t left mid v g.after.good (stands v mid g.given) inside lead)
                  (λ t left mid none less. absurd none)
                where
                  stands : (v : Value) (mid : State) → (ty ≡ Void) ⊎ ((is_value_of p.structs ty v ≡ true) × Stands mid.ids i v) → Stands mid.ids i v
                  stands v mid (inl void) = absurd (real void)
                  stands v mid (inr is) = is.1

      adds_if : (exits : Exits) → Adds (test >>= begin_if >>= (λ fork. ways (begin_else fork first_leaves) (end_if fork other_leaves) exits))
      adds_if exits b = by (test b) (gives.adds b)
        where
          by : (low : Lowered ℕ) → GrownTo b low → GrownTo b (behind (behind low begin_if) (λ fork. ways (begin_else fork first_leaves) (end_if fork other_leaves) exits))
          by Lacks grown = tt
          by (Gives i b1) grown = all_on (next i exits b1) (adds_next i exits b1)
            where
              all_on : (low : Lowered (Unit {0})) → GrownTo b1 low → GrownTo b low
              all_on Lacks more = tt
              all_on (Gives done later) more = grown_then grown more

      pub if_does : DoesStatement m input sections f p around false (λ exits. test >>= begin_if >>= (λ fork. ways (begin_else fork first_leaves) (end_if fork other_leaves) exits)) (shader_run.◌>>=◌ z next_run)
      if_does = record { adds = λ exits. adds_if exits; does = if_here }
