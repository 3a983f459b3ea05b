-- Units that jumps take, jumps back, and blocks at labels.
use Rattle.std.proofs.Common.{◌≡◌, refl, sym, ap, ◌∙◌, subst, ℕ, zero, suc, ◌+◌, ◌≤◌, List, [], ◌∷◌, length, Option, Some, None, arith}
use Rattle.std.proofs.lemmas.List.{length-append}
use Rattle.gsl_base.specs.declared.input.Input.{Input}
use Rattle.gsl_instr.specs.Forms.{form_of}
use Rattle.gsl_instr.specs.declared.op.TheConstants as op
use Rattle.gsl_words.specs.declared.module.Instr.{Instr}
use Rattle.gsl_words.specs.declared.module.Module.{Module}
use Rattle.gsl_tree.specs.Around.{Around}
use Rattle.gsl_tree.specs.declared.program.Program.{Program}
use Rattle.gsl_meaning.specs.State as shader
use Rattle.gsl_valid.specs.Instruction.{read}
use Rattle.gsl_valid.specs.Placed.{Placed, placed_from, words_from}
use Rattle.gsl_machine.specs.Functions.{from_label}
use Rattle.gsl_machine.specs.Machine.{behind as going_on, run, step}
use Rattle.gsl_machine.specs.State.{Going, State, on}
use Rattle.gsl_machine.specs.Steps.{act, branching, in_new_block}
use Rattle.gsl_spv.specs.Calls.{put}
use Rattle.gsl_spv.specs.Declarations.{instr}
use Rattle.gsl_spv.specs.Growing.{Extends}
use Rattle.gsl_spv.specs.Sections.{Sections}
use Rattle.gsl_lower_law.specs.Values.{Ready}
use Rattle.gsl_lower_law.proofs.Joining.{keeps_same}
use Rattle.gsl_lower_holders.specs.Flow.{Flow}
use Rattle.gsl_lower_follows.specs.Frames.{Frame, Good, Inside, Seated, body, coming}
use Rattle.gsl_lower_follows.specs.Stretching.{Stretch, room, room_of, worth}
use Rattle.gsl_lower_follows.proofs.Jumping.{begun_at, label_found}
use Rattle.gsl_lower_follows.proofs.Placing.{coming_before, coming_is, placed_length}
use Rattle.gsl_lower_follows.proofs.Reached.{reached_by}
use Rattle.gsl_lower_law_stmt.specs.Doing.{AtLabel, StandsBehind, Within}
use Rattle.gsl_lower_law_stmt.proofs.Ways.{block_at}

-- what stands behind a label that was found
abbrev behind_label : Option (List Placed) → List Placed
behind_label None = []
behind_label (Some []) = []
behind_label (Some (p ∷ rest)) = rest

module _ (m : Module) (input : Input) where
  -- a stretch to where less is to come, which takes a unit and lends what that is worth
  pub unit_taken : (units : ℕ) (state last : State) → suc (room last) ≤ room state → Stretch m input 0 0 units state units (Going last) → Stretch m input 0 (worth m) (suc units) state units (Going last)
  unit_taken units state last shorter p = by p.count refl
    where
      by : (n : ℕ) → p.count ≡ n → Stretch m input 0 (worth m) (suc units) state units (Going last)
      by zero none = absurd (let same : room state ≡ room last = ap room_of (ap (λ n. run m input n state) (sym none) ∙ p.runs) in omega (arith, same, shorter))
      by (suc n) some = record { count = suc n; slow = omega arith; fast = (let q = p.fast in omega (arith, q, some)); runs = ap (λ n. run m input n state) (sym some) ∙ p.runs }

  module _ (sections : Sections) (f : Frame m input sections) where
    -- behind what a builder holds no more stands than the function has
    coming_few : (b : Sections) → Inside m input sections f b → length (coming m input sections f b) ≤ length f.code
    coming_few b here =
        let long : length (coming m input sections f b) ≡ length here.more = ap length (coming_is m input sections f b here) ∙ placed_length (words_from f.first here.done) here.more in
        let all : length f.code ≡ length here.done + length here.more = ap length here.all ∙ length-append here.done here.more in
        omega (arith, long, all)

    coming_label : (before : Sections) (label : ℕ) → Inside m input sections f before → Inside m input sections f (put op.LABEL (label ∷ []) before)
        → length (coming m input sections f before) ≡ suc (length (coming m input sections f (put op.LABEL (label ∷ []) before)))
    coming_label before label there behind = ap length (coming_before m input sections f before (put op.LABEL (label ∷ []) before) (instr op.LABEL (label ∷ []) ∷ []) there behind refl).1

    -- behind a label that comes later, less stands
    pub coming_less : (b before : Sections) (label : ℕ) → Inside m input sections f b → Inside m input sections f before → Inside m input sections f (put op.LABEL (label ∷ []) before) → Extends b before
        → suc (length (coming m input sections f (put op.LABEL (label ∷ []) before))) ≤ length (coming m input sections f b)
    coming_less b before label here there behind grown =
        let at = coming_before m input sections f b before grown.functions.more here there grown.functions.is in
        let long : length (coming m input sections f b) ≡ length (placed_from at.0 grown.functions.more) + length (coming m input sections f before) = ap length at.1 ∙ length-append (placed_from at.0 grown.functions.more) (coming m input sections f before) in
        let one = coming_label before label there behind in
        omega (arith, long, one)

    -- a label stands behind all that comes before it
    pub stands_at : (b before : Sections) (label : ℕ) → Inside m input sections f b → Inside m input sections f before → Inside m input sections f (put op.LABEL (label ∷ []) before) → Extends b before → StandsBehind m input sections f b label
    stands_at b before label here there behind grown =
        let at = label_found m input sections f before label there behind in
        record { place = at.0; rest = coming m input sections f (put op.LABEL (label ∷ []) before); found = at.1; ahead = coming_less b before label here there behind grown }

    -- From an instruction that branches to a label, to behind that label, wherever it stands: this uses the loan.
    pub jumps_back : (i : Instr) (label : ℕ) (before : Sections) (state : State) (units at : ℕ) (more : List Placed) → Inside m input sections f before → Inside m input sections f (put op.LABEL (label ∷ []) before)
        → state.rest ≡ record { at = at; instr = i } ∷ more → state.body ≡ body m input sections f → state.own ≡ f.own
        → on (read i) (act m input at (record state { rest = more })) ≡ branching (record state { rest = more }) label
        → Stretch m input (worth m) 0 units state units (Going (begun_at m input sections f state (put op.LABEL (label ∷ []) before)))
    unfolding form_of
    jumps_back i label before state units at more there behind rest_is within own acts = record {
      count = 2;
      slow = omega arith;
      fast = (let few = coming_few before there in let one = coming_label before label there behind in let long : length state.rest ≡ suc (length more) = ap length rest_is in let short = f.short in omega (arith, few, one, long, short));
      runs = ap (λ o. going_on o (run m input 1)) one_step ∙ ap (λ ids. Going (record state { rest = coming m input sections f (put op.LABEL (label ∷ []) before); ids = ids })) own;
    }
      where
        found : (at : ℕ) × (from_label (body m input sections f) label ≡ Some (record { at = at; instr = instr op.LABEL (label ∷ []) } ∷ coming m input sections f (put op.LABEL (label ∷ []) before)))
        found = label_found m input sections f before label there behind

        one_step : step m input state ≡ Going (in_new_block (record state { rest = record { at = found.0; instr = instr op.LABEL (label ∷ []) } ∷ coming m input sections f (put op.LABEL (label ∷ []) before) }))
        one_step = ap (λ l. step m input (record state { rest = l })) rest_is ∙ acts ∙ ap (λ body. on (from_label body label) (λ code. Going (in_new_block (record state { rest = code })))) within ∙ ap (λ o. on o (λ code. Going (in_new_block (record state { rest = code })))) found.1

    module _ (p : Program) (around : Around) where
      -- At the beginning of a block the state is that of the shader, as wherever control is in the function.
      pub good_on : {lent back units left : ℕ} (later : Flow) (s : shader.State) (state : State) → Seated m input sections f later.place → Inside m input sections f later.sections → Within m input sections f p around s state
          → Stretch m input lent back units state left (Going (begun_at m input sections f state later.sections)) → Good m input sections f p around later s (begun_at m input sections f state later.sections)
      good_on later s state seated inside within led = record {
        inside = inside;
        rest = refl;
        within = within.within;
        own = within.own;
        waiting = within.waiting;
        ready = record { lasting = keeps_same f.own; later = λ id less. refl };
        seated = seated;
        holds = (let h = within.holds in record { values = h.values; blocks = h.blocks; buffers = h.buffers; choices = h.choices; count = h.count; outside = h.outside });
        typed = within.typed;
        reached = reached_by m input within.reached led;
      }

      -- Control that is behind a label is where the code stands that was lowered there.
      pub good_at : (before : Sections) (label : ℕ) (from : Flow) (s : shader.State) (state : State) → Seated m input sections f (block_at label before from).place → Inside m input sections f before → Inside m input sections f (put op.LABEL (label ∷ []) before)
          → AtLabel m input sections f p around label s state → Good m input sections f p around (block_at label before from) s state
      good_at before label from s state seated there behind at = record {
        inside = behind;
        rest = ap behind_label (sym at.found ∙ (label_found m input sections f before label there behind).1);
        within = at.state_is.within;
        own = at.state_is.own;
        waiting = at.state_is.waiting;
        ready = subst (λ ids. Ready before.last f.own ids) (sym at.ids) (record { lasting = keeps_same f.own; later = λ id less. refl });
        seated = seated;
        holds = at.state_is.holds;
        typed = at.state_is.typed;
        reached = at.state_is.reached;
      }
