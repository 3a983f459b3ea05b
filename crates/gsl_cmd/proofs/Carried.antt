-- The module of a program carries the program.
use Rattle.std.proofs.Common.{◌≡◌, ℕ, ◌≤◌, List, [], ◌∷◌, length, Option, Some, None, Bool, true, false, cond, ltb, refl, ap, sym, ◌∙◌, arith}
use Rattle.std.specs.Prelude.{Ok, Err}
use Rattle.std.specs.Option.{unwrap_or}
use Rattle.std.proofs.lemmas.Bool.{ltb-false}
use Rattle.gsl_base.specs.declared.input.Input.{Input}
use Rattle.gsl_base.specs.declared.input.Output.{Output}
use Rattle.gsl_base.specs.declared.input.InputRefusal.TheVariants.{TooShort}
use Rattle.gsl_words.specs.declared.module.Module.{Module}
use Rattle.gsl_instr.specs.declared.op.TheConstants as op
use Rattle.gsl_form.specs.declared.program.Program.{Program}
use Rattle.gsl_cmd.specs.declared.lowering.id.TheConstants as id
use Rattle.gsl_form.specs.Form.{IsProgram}
use Rattle.gsl_cmd.specs.Fits.{fits}
use Rattle.gsl_cmd.specs.Lowering.{Code, instr, constants_of, statements_code, first_id, module_of}
use Rattle.gsl_cmd.specs.Buffers.{bytes_at, with_bytes, word_offset, seen}
use Rattle.gsl_cmd.specs.Needs.{Block, Met, and_met, given, meets}
use Rattle.gsl_cmd.specs.Shader.{Ran, Got, Ends, Strays, Goes, Flow, SET, BINDING, block_bytes, begin, output_of, outcome_of, run_statements}
use Rattle.gsl_cmd.specs.Shader as shader
use Rattle.gsl_cmd.specs.Machine.{Ids, State, Outcome, globals, start, entry, run, words_of}
use Rattle.gsl_cmd.specs.Machine as machine
use Rattle.gsl_cmd.specs.Carries.{IsFitting, limit, Runs, Carries, EndAlike}
use Rattle.gsl_cmd.proofs.Blocks.{Holds, holds_seen, with_bytes-same, bytes_of_buffer}
use Rattle.gsl_cmd.proofs.Stretches.{Stretch, one_end, one_step, stretch_on, whole}
use Rattle.gsl_cmd.proofs.Follows.{state, Follows, follows_on}
use Rattle.gsl_cmd.proofs.Simulation.{statements_follow}
use Rattle.gsl_cmd.proofs.Among.{program_ready}
use Rattle.gsl_cmd.proofs.ValidModule.{module_valid}
use Rattle.gsl_cmd.proofs.Placement.{module_placed}
use Rattle.gsl_cmd.proofs.Lookups.{module_knows, entry_is, entry_words, needs_are}

abbrev taken : Met
taken = Ok tt

met_first : (a b : Met) → and_met a b ≡ Ok tt → a ≡ Ok tt
met_first (Ok tt) b e = refl
met_first (Err refusal) b e = absurd (cc)

-- the buffer of a block whose demand is met
pub record IsGiven (block : Block) (o : Option (List ℕ)) : Type 0 where
  pub bytes : List ℕ
  pub is : o ≡ Some bytes
  pub enough : block.need ≤ length bytes

given_bytes : (block : Block) (o : Option (List ℕ)) → given block o ≡ Ok tt → IsGiven block o
given_bytes block None e = absurd (cc)
given_bytes block (Some bytes) e = by_test (ltb (length bytes) block.need) refl e
  where
    by_test : (b : Bool) → ltb (length bytes) block.need ≡ b → cond b (Err (TooShort block.set block.binding)) taken ≡ taken → IsGiven block (Some bytes)
    by_test true h e = absurd (cc)
    by_test false h e = record { bytes = bytes; is = refl; enough = ltb-false _ _ h }

pub block_is_given : (p : Program) (input : Input) → fits p input ≡ Ok tt →
    IsGiven (record { set = SET; binding = BINDING; need = word_offset (length p.members) }) (bytes_at input.buffers SET BINDING)
block_is_given p input e = given_bytes _ _ (met_first _ _ (met_first _ _ e))

module _ (p : Program) (form : IsProgram p) (input : Input) (fitting : IsFitting p input) where
  abbrev m : Module
  m = module_of p

  abbrev members : ℕ
  members = length p.members

  abbrev began : List ℕ
  began = block_bytes input

  block_given : IsGiven (record { set = SET; binding = BINDING; need = word_offset members }) (bytes_at input.buffers SET BINDING)
  block_given = block_is_given p input fitting.fits

  began_is : bytes_at input.buffers SET BINDING ≡ Some began
  began_is = block_given.is ∙ ap (λ o. Some (unwrap_or o [])) (sym block_given.is)

  holds : Holds members began (seen members began) began
  holds =
      holds_seen members began (bytes_of_buffer SET BINDING input.buffers began fitting.types.buffers began_is)
      (omega (arith, block_given.enough, ap (λ o. length (unwrap_or o [])) block_given.is))

  abbrev the_end : Code
  the_end = instr op.RETURN [] ∷ instr op.FUNCTION_END [] ∷ []

  abbrev body : Code
  body = statements_code (constants_of p) (first_id (constants_of p)) p.statements the_end

  abbrev in_main : Code → Ids → List ℕ → List ℕ → State
  in_main rest ids bytes choices = state m input members began rest ids bytes choices

  abbrev first : State
  first = in_main (instr op.LABEL (id.ENTRY ∷ []) ∷ body) (globals m.instrs) began input.choices

  start_is : start m input ≡ first
  start_is =
      ap (λ code. let s : State = record { rest = code; ids = globals m.instrs; buffers = input.buffers; choices = input.choices; waiting = [] } in s) (entry_is p form)
      ∙ ap (λ buffers. let s : State = record { rest = instr op.LABEL (id.ENTRY ∷ []) ∷ body; ids = globals m.instrs; buffers = buffers; choices = input.choices; waiting = [] } in s)
      (sym (with_bytes-same SET BINDING input.buffers began began_is))

  small : words_of first.rest ≤ whole m
  small = omega (arith, ap words_of (entry_is p form), entry_words m.instrs)

  -- `main` from its label to its return
  follows : (u : ℕ) → Follows m input members began u first the_end (λ (flow : Flow) (ids : Ids). Unit {0}) (run_statements p.statements (begin p input) u)
  follows u =
      follows_on m input members began the_end _ (run_statements p.statements (begin p input) u)
      (one_step m first (machine.Going (in_main body (globals m.instrs) began input.choices)) (omega arith) refl) (omega arith)
      (statements_follow m input members (constants_of p) began (module_knows p form) began_is (first_id (constants_of p)) p.statements the_end (globals m.instrs) began (begin p input) u
      (record { low = omega arith; same = λ i h. refl }) holds (program_ready p form))

  within : (u u' : ℕ) (o : Outcome) (stretch : Stretch m u first u' o) → stretch.count ≤ limit m u
  within u u' o stretch = omega (arith, stretch.fast, small)

  ends_alike : (u : ℕ) (r : Ran Flow) (output : Output) → Follows m input members began u first the_end (λ (flow : Flow) (ids : Ids). Unit {0}) r → outcome_of input r ≡ shader.Ended output →
      (k : ℕ) × (k ≤ limit m u) × (machine.after m k input ≡ machine.Ended output)
  ends_alike u (Got flow store u') output f e =
      let same : output_of input false store ≡ output = cc in
      let returned = λ (bytes : List ℕ). let o : Output = record { buffers = with_bytes input.buffers SET BINDING bytes; outs = []; killed = false; rest = length store.choices } in machine.Ended o in
      let last = stretch_on m f.stretch (one_step m (in_main the_end f.ids f.bytes store.choices) (returned f.bytes) (omega arith) refl) in
      (last.count, within u u' _ last, ap (run m last.count) start_is ∙ last.runs ∙ ap returned f.holds.put ∙ ap machine.Ended same)
  ends_alike u (Ends store) output f e =
      let same : output_of input true store ≡ output = cc in
      (f.stretch.count, within u f.left _ f.stretch, ap (run m f.stretch.count) start_is ∙ f.stretch.runs ∙ ap machine.Ended same)
  ends_alike u Strays output f e = absurd (cc)
  ends_alike u Goes output f e = absurd (cc)

  goes_alike : (u : ℕ) (r : Ran Flow) → Follows m input members began u first the_end (λ (flow : Flow) (ids : Ids). Unit {0}) r → outcome_of input r ≡ shader.Going →
      (s : State) × (machine.after m u input ≡ machine.Going s)
  goes_alike u (Got flow store u') f e = absurd (cc)
  goes_alike u (Ends store) f e = absurd (cc)
  goes_alike u Strays f e = absurd (cc)
  goes_alike u Goes f e = (f.state, ap (run m u) start_is ∙ f.runs)

  strays_alike : (u : ℕ) (r : Ran Flow) → Follows m input members began u first the_end (λ (flow : Flow) (ids : Ids). Unit {0}) r → outcome_of input r ≡ shader.Strayed →
      (k : ℕ) × (place : ℕ) × (k ≤ limit m u) × (machine.after m k input ≡ machine.Strayed place)
  strays_alike u (Got flow store u') f e = absurd (cc)
  strays_alike u (Ends store) f e = absurd (cc)
  strays_alike u Strays f e = (f.stretch.count, f.place, within u f.left _ f.stretch, ap (run m f.stretch.count) start_is ∙ f.stretch.runs)
  strays_alike u Goes f e = absurd (cc)

-- The module of each program carries it.
pub program_runs : (p : Program) → IsProgram p → Runs (module_of p) p
program_runs p form = record {
  fits = λ input proper. ap (λ needs. meets needs input) (needs_are p form);
  ends = λ input fitting u output e. ends_alike p form input fitting u _ output (follows p form input fitting u) e;
  goes = λ input fitting u e. goes_alike p form input fitting u _ (follows p form input fitting u) e;
  strays = λ input fitting u e. strays_alike p form input fitting u _ (follows p form input fitting u) e;
}

pub program_carries : (p : Program) → IsProgram p → Carries (module_of p) p
program_carries p form = record { valid = module_valid p form; placed = module_placed p form; runs = program_runs p form }

-- Where a module does what a program does, both end alike.
pub end_alike : (m : Module) (p : Program) → Runs m p → EndAlike m p
end_alike m p runs input fitting in_bounds output = (backwards, λ (units, e). let found = runs.ends input fitting units output e in (found.0, found.2))
  where
    by_outcome : (k : ℕ) → machine.after m k input ≡ machine.Ended output → (o : shader.Outcome) → shader.shader p k input ≡ o → (units : ℕ) × (shader.shader p units input ≡ shader.Ended output)
    by_outcome k e (shader.Ended other) h =
        let found = runs.ends input fitting k other h in
        let same : machine.Ended output ≡ machine.Ended other = one_end m k found.0 (start m input) _ _ tt tt e found.2 in
        let one : other ≡ output = cc in
        (k, h ∙ ap shader.Ended one)
    by_outcome k e shader.Strayed h = absurd (in_bounds k h)
    by_outcome k e shader.Going h = let found = runs.goes input fitting k h in let clash : machine.Ended output ≡ machine.Going found.0 = sym e ∙ found.1 in absurd (cc)

    backwards : ((k : ℕ) × (machine.after m k input ≡ machine.Ended output)) → (units : ℕ) × (shader.shader p units input ≡ shader.Ended output)
    backwards (k, e) = by_outcome k e (shader.shader p k input) refl
