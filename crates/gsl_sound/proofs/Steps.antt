-- An instruction of a valid module leads from a good state to a good one, ends the run or strays.
use Rattle.std.proofs.Common.{◌≡◌, refl, sym, ap, ◌∙◌, subst, ℕ, zero, suc, true, List, [], ◌∷◌, length, Option, Some, None, inl, inr}
use Rattle.std.proofs.lemmas.Bool.{and_parts, cond-true, false≢true}
use Rattle.gsl_base.specs.declared.input.Input.{Input}
use Rattle.gsl_instr.specs.declared.instruction.Instruction.{Instruction}
use Rattle.gsl_instr.specs.declared.instruction.Instruction.TheVariants as instruction
use Rattle.gsl_words.specs.declared.module.Module.{Module}
use Rattle.gsl_valid.specs.FunctionRules.{in_block}
use Rattle.gsl_valid.specs.Instruction.{is_such, read}
use Rattle.gsl_valid.specs.Kinds.{kind}
use Rattle.gsl_valid.specs.Placed.{Code, Placed}
use Rattle.gsl_valid.specs.Sections.{has_numbers, may_come}
use Rattle.gsl_valid.specs.Where.{Standing, Outside, Begun, AtHead, InBlock, AtMerge, Behind, block_begun, bounds, bounds_block, bounds_one, section_of, stands_after, where_at}
use Rattle.gsl_machine.specs.Machine.{behind, run, step, step_on}
use Rattle.gsl_machine.specs.State.{Ended, Going, Outcome, State, Strayed, Stuck, on}
use Rattle.gsl_machine.specs.Steps.{act, in_new_block}
use Rattle.gsl_sound_ids.specs.Held.{Agrees}
use Rattle.gsl_sound.specs.Sound.{Fine, Good, Now}
use Rattle.gsl_sound_code.specs.Spots.{Spot, bare}
use Rattle.gsl_sound.proofs.Leaving.{branch, branch_if, calls, returns, returns_value, switch}
use Rattle.gsl_sound_code.proofs.Looks.{Kept}
use Rattle.gsl_sound.proofs.Memories.{chains, declares, lengths, loads, stores_value}
use Rattle.gsl_sound.proofs.Ready.{Ready, going, stands}
use Rattle.gsl_sound.proofs.Valued.{arithmetics, comparisons, constructs, extends, extracts, inserts, logicals, picks, puts_part, selects, shifts, shuffles, takes_part, unaries}
use Rattle.gsl_sound_code.proofs.Walks.{Step, not_over, step_of}

begun_in_block : (s : Standing) → in_block (block_begun s) ≡ true
begun_in_block Outside = refl
begun_in_block (Begun types) = refl
begun_in_block AtHead = refl
begun_in_block InBlock = refl
begun_in_block AtMerge = refl
begun_in_block Behind = refl

module _ (m : Module) (kept : Kept m) (input : Input) (before : Code) (p : Placed) (state : State) where
  performs : (d : Instruction) → Ready m input before p d state → Fine m input (act m input p.at state d)
  performs (instruction.ExtInst type result set number operands) r = extends m kept input before p state type result set number operands r
  performs (instruction.CompositeConstruct type result parts) r = constructs m kept input before p state type result parts r
  performs (instruction.FunctionCall type result function arguments) r = calls m kept input before p state type result function arguments r
  performs (instruction.Variable type result class initialiser) r = declares m kept input before p state type result class initialiser r
  performs (instruction.Load type result pointer) r = loads m kept input before p state type result pointer r
  performs (instruction.Store pointer value) r = stores_value m kept input before p state pointer value r
  performs (instruction.AccessChain type result base indexes) r = chains m kept input before p state type result base indexes r
  performs (instruction.ArrayLength type result pointer member) r = lengths m kept input before p state type result pointer member r
  performs (instruction.VectorExtractDynamic type result vector index) r = picks m kept input before p state type result vector index r
  performs (instruction.VectorShuffle type result first second components) r = shuffles m kept input before p state type result first second components r
  performs (instruction.CompositeExtract type result composite indexes) r = takes_part m kept input before p state type result composite indexes r
  performs (instruction.CompositeInsert type result part composite indexes) r = puts_part m kept input before p state type result part composite indexes r
  performs (instruction.Unary op type result a) r = unaries m kept input before p state op type result a r
  performs (instruction.Arithmetic op type result a b) r = arithmetics m kept input before p state op type result a b r
  performs (instruction.Shift op type result base amount) r = shifts m kept input before p state op type result base amount r
  performs (instruction.Logical op type result a b) r = logicals m kept input before p state op type result a b r
  performs (instruction.Comparison op type result a b) r = comparisons m kept input before p state op type result a b r
  performs (instruction.Select type result condition a b) r = selects m kept input before p state type result condition a b r
  performs (instruction.BitFieldInsert type result base insert offset count) r = inserts m kept input before p state type result base insert offset count r
  performs (instruction.BitFieldExtract op type result base offset count) r = extracts m kept input before p state op type result base offset count r
  performs (instruction.LoopMerge merge continue_target control) r = going m kept input before p (instruction.LoopMerge merge continue_target control) state r refl refl refl refl
  performs (instruction.SelectionMerge merge control) r = going m kept input before p (instruction.SelectionMerge merge control) state r refl refl refl refl
  performs (instruction.Branch target) r = branch m kept input before p state target r
  performs (instruction.BranchConditional condition on_true on_false) r = branch_if m kept input before p state condition on_true on_false r
  performs (instruction.Switch selector default targets) r = switch m kept input before p state selector default targets r
  performs instruction.Kill r = tt
  performs instruction.Return r = returns m kept input before p state r
  performs (instruction.ReturnValue value) r = returns_value m kept input before p state value r
  performs d r = absurd (false≢true (stands m kept input before p d state r))

module _ (m : Module) (kept : Kept m) (input : Input) where
  -- a block begins
  opens : (state : State) (p : Placed) (more : List Placed) (label : ℕ) → (good : Good m input state) → Spot m state.body good.returned good.runs.before (p ∷ more) → read p.instr ≡ Some (instruction.Label label) → Good m input (in_new_block (record state { rest = more }))
  opens state p more label good spot reads =
      let k = ap kind reads in
      let s = step_of m kept state.body good.returned good.runs.before p more spot in
      let before = good.runs.before in
      record {
        bytes = good.bytes;
        returned = good.returned;
        waiting = good.waiting;
        enough = good.enough;
        runs = record {
          start = good.runs.start;
          first = good.runs.first;
          lasting = good.runs.lasting;
          before = p.instr ∷ before;
          spot = s.goes (ap bounds_one k);
          now = inl (
            ap (λ x. in_block (stands_after m (where_at m before).standing x)) k ∙ begun_in_block (where_at m before).standing,
            subst (λ l. Agrees m (length state.variables) (bare state.body) l state.own) (sym (cond-true (bounds_block (read p.instr)) [] (p.instr ∷ (where_at m before).block) (ap bounds k))) good.runs.lasting,
          );
        };
      }

  fine_on : (state : State) (good : Good m input state) (rest : List Placed) → state.rest ≡ rest → Fine m input (step_on m input state rest)
  fine_on state good [] e = absurd (not_over m kept state.body good.returned good.runs.before (subst (Spot m state.body good.returned good.runs.before) e good.runs.spot))
  fine_on state good (p ∷ more) e = by_read (read p.instr) refl
    where
      spot : Spot m state.body good.returned good.runs.before (p ∷ more)
      spot = subst (Spot m state.body good.returned good.runs.before) e good.runs.spot

      s : Step m state.body good.returned good.runs.before p more
      s = step_of m kept state.body good.returned good.runs.before p more spot

      by_label : (d : Instruction) (label : ℕ) → read p.instr ≡ Some d → read p.instr ≡ Some (instruction.Label label) → Fine m input (act m input p.at (record state { rest = more }) d)
      by_label d label is reads =
          let both : Some d ≡ Some (instruction.Label label) = sym is ∙ reads in
          let same : d ≡ instruction.Label label = cc in
          subst (λ x. Fine m input (act m input p.at (record state { rest = more }) x)) (sym same) (opens state p more label good spot reads)

      by_now : (d : Instruction) → read p.instr ≡ Some d → Now m (length state.variables) state.body good.runs.before state.rest state.ids → Fine m input (act m input p.at (record state { rest = more }) d)
      by_now d is (inl inside) = performs m kept input good.runs.before p (record state { rest = more }) d (record {
        bytes = good.bytes;
        returned = good.returned;
        start = good.runs.start;
        first = good.runs.first;
        lasting = good.runs.lasting;
        spot = spot;
        step = s;
        reads = is;
        standing = inside.0;
        agrees = inside.1;
        waiting = good.waiting;
        enough = good.enough;
      })
      by_now d is (inr label) =
          let both : p ∷ more ≡ label.first ∷ label.more = sym e ∙ label.is in
          let same : label.first ≡ p = cc in
          by_label d label.label is (ap (λ q. read q.instr) (sym same) ∙ label.reads)

      by_read : (o : Option Instruction) → read p.instr ≡ o → Fine m input (on o (act m input p.at (record state { rest = more })))
      by_read None is =
          absurd (false≢true (ap (is_such (has_numbers m)) (sym is) ∙ (and_parts (may_come (where_at m good.runs.before).section (section_of (where_at m good.runs.before).inside (read p.instr))) (is_such (has_numbers m) (read p.instr)) s.keeps.section).1))
      by_read (Some d) is = by_now d is good.runs.now

  -- one instruction
  pub fine_step : (state : State) → Good m input state → Fine m input (step m input state)
  fine_step state good = fine_on state good state.rest refl

  fine_behind : (o : Outcome) (go : State → Outcome) → Fine m input o → ((state : State) → Good m input state → Fine m input (go state)) → Fine m input (behind o go)
  fine_behind (Going state) go good fine = fine state good
  fine_behind (Ended output) go good fine = tt
  fine_behind (Strayed place) go good fine = tt
  fine_behind Stuck go good fine = absurd good

  -- any count of them
  pub fine_run : (count : ℕ) (state : State) → Good m input state → Fine m input (run m input count state)
  fine_run zero state good = good
  fine_run (suc count) state good = fine_behind (step m input state) (run m input count) (fine_step state good) (fine_run count)
