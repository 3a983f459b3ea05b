-- An instruction of a valid module leads from a typed state to a typed one, ends the run or strays.
use Rattle.std.proofs.Common.{◌≡◌, refl, sym, ap, ◌∙◌, subst, ℕ, zero, suc, Bool, true, false, not, is_some, if◌then◌else◌, List, [], ◌∷◌, ◌++◌, length, take, Option, Some, None}
use Rattle.std.specs.Prelude.{◌==◌}
use Rattle.std.proofs.lemmas.Bool.{and_parts, eqb-true, false≢true, true≢false}
use Rattle.gsl_base.specs.declared.input.Input.{Input}
use Rattle.gsl_instr.specs.declared.instruction.Instruction.{Instruction}
use Rattle.gsl_instr.specs.declared.instruction.Instruction.TheVariants as instruction
use Rattle.gsl_words.specs.declared.module.Module.{Module}
use Rattle.gsl_values.specs.declared.value.Value.{Value}
use Rattle.gsl_tree.specs.Values.{word_in}
use Rattle.gsl_valid.specs.CallRules.{call_of, fits_function, may_call}
use Rattle.gsl_valid.specs.ConstantRules.{have_each}
use Rattle.gsl_valid.specs.FunctionRules.{outside}
use Rattle.gsl_valid.specs.Ids.{result}
use Rattle.gsl_valid.specs.Instruction.{passes_if, read}
use Rattle.gsl_valid.specs.Kinds.{Kind, Begins, constant_in, kind, type_in, type_of}
use Rattle.gsl_valid.specs.LocalityRules.{gives_value, of_block}
use Rattle.gsl_valid.specs.Placed.{Code, Placed}
use Rattle.gsl_valid.specs.ReturnRules as return
use Rattle.gsl_valid.specs.Types.{defined_as, has_type, is_void, parameters_of}
use Rattle.gsl_valid.specs.Where.{where_at}
use Rattle.gsl_machine.specs.Functions.{back_in, call_from, from_label, function_at, variables_of}
use Rattle.gsl_machine.specs.Machine.{behind, run, step, step_on}
use Rattle.gsl_machine.specs.State.{Ended, Going, Held, Outcome, State, Strayed, Stuck, Waiting, Whole, on, on_whole}
use Rattle.gsl_machine.specs.Steps.{act, branching, calling, in_new_block, label_for, on_each, returning, with_value, without_value}
use Rattle.gsl_sound.specs.Sound.{Fine, Good, WaitEach}
use Rattle.gsl_sound.proofs.Steps.{fine_step}
use Rattle.gsl_sound_code.specs.Rules.{Keeps}
use Rattle.gsl_sound_code.specs.Spots.{Spot}
use Rattle.gsl_sound_code.proofs.Functions.{body_of}
use Rattle.gsl_sound_code.proofs.Looks.{Kept}
use Rattle.gsl_sound_code.proofs.Walks.{Step, step_of}
use Rattle.gsl_sound_ids.proofs.Plain.{has_type_is}
use Rattle.gsl_sound_values.specs.Shaped.{is_shaped}
use Rattle.gsl_memory_law.specs.Typed.{HaveTypes}
use Rattle.gsl_sound_types.specs.Typed.{FrameEach, IsOfType, Typed, types_below, types_in, types_of}
use Rattle.gsl_memory_law.proofs.Typed.{front_typed}
use Rattle.gsl_sound_types.proofs.Holding.{front_is, hold_give, length_same, value_of_type}
use Rattle.gsl_sound_types.proofs.Entering.{AreOfTypes, typed_entered}
use Rattle.gsl_sound_types.proofs.Memories.{chains, declares, lengths, loads, stores_value}
use Rattle.gsl_sound_types.proofs.Moving.{TypedOut, any_value}
use Rattle.gsl_sound_types.proofs.Valued.{arithmetics, comparisons, constructs, extends, extracts, inserts, logicals, picks, puts_part, selects, shifts, shuffles, takes_part, unaries, with_type}

-- a state with other code to come is typed as before
pub elsewhere : (m : Module) (state : State) (rest : List Placed) → Typed m state → Typed m (record state { rest = rest })
elsewhere m state rest typed = record { variables = typed.variables; frame = typed.frame; waiting = typed.waiting }

-- a block begins with what lasts
pub block_begins : (m : Module) (state : State) → Typed m state → Typed m (in_new_block state)
block_begins m state typed = record {
  variables = typed.variables;
  frame = record { held = typed.frame.lasting; lasting = typed.frame.lasting; lasts = record { arguments = typed.frame.lasts.arguments; own_is = typed.frame.lasts.own_is; same = λ id lasting. refl } };
  waiting = typed.waiting;
}

module _ (m : Module) (kept : Kept m) (input : Input) (before : Code) (p : Placed) (code : Code) (keeps : Keeps m before p.instr code) (state : State) (typed : Typed m state) where
  -- ---- branches

  branches : (label : ℕ) → TypedOut m (branching state label)
  branches label = by_code (from_label state.body label)
    where
      by_code : (o : Option (List Placed)) → TypedOut m (on o (λ code. Going (in_new_block (record state { rest = code }))))
      by_code None = tt
      by_code (Some code) = block_begins m (record state { rest = code }) (elsewhere m state code typed)

  branch_if : (condition on_true on_false : ℕ) → TypedOut m (on_whole (state.ids condition) (λ c. if word_in c == 0 then branching state on_false else branching state on_true))
  branch_if condition on_true on_false = any_value m kept (types_in m state) state.ids typed.frame.held condition (λ c. if word_in c == 0 then branching state on_false else branching state on_true) (λ c. by_test (word_in c == 0))
    where
      by_test : (b : Bool) → TypedOut m (if b then branching state on_false else branching state on_true)
      by_test true = branches on_false
      by_test false = branches on_true

  switch : (selector default : ℕ) (targets : List ℕ) → TypedOut m (on_whole (state.ids selector) (λ v. branching state (label_for (word_in v) default targets)))
  switch selector default targets = any_value m kept (types_in m state) state.ids typed.frame.held selector (λ v. branching state (label_for (word_in v) default targets)) (λ v. branches (label_for (word_in v) default targets))

  -- ---- calls

  arguments_typed : (types ids : List ℕ) (go : List Held → Outcome) → have_each (has_type m) types ids ≡ true → ((held : List Held) → AreOfTypes m (types_in m state) types held → TypedOut m (go held)) → TypedOut m (on_each state ids go)
  arguments_typed [] [] go all fine = fine [] tt
  arguments_typed [] (id ∷ ids) go all fine = absurd (false≢true all)
  arguments_typed (type ∷ types) [] go all fine = absurd (false≢true all)
  arguments_typed (type ∷ types) (id ∷ ids) go all fine =
      let here = and_parts (has_type m type id) (have_each (has_type m) types ids) all in
      by_held (state.ids id) refl (has_type_is m type id here.0) (λ held first. arguments_typed types ids (λ more. go (held ∷ more)) here.1 (λ more are. fine (held ∷ more) (first, are)))
    where
      by_held : (o : Option Held) → state.ids id ≡ o → type_of (defined_as m id) ≡ Some type → ((held : Held) → IsOfType m (types_in m state) type held → TypedOut m (on_each state ids (λ more. go (held ∷ more))))
          → TypedOut m (on o (λ held. on_each state ids (λ more. go (held ∷ more))))
      by_held None is typed_id later = tt
      by_held (Some held) is typed_id later = later held (typed.frame.held.each id type held is typed_id)

  calls : (type id function : ℕ) (arguments : List ℕ) → read p.instr ≡ Some (instruction.FunctionCall type id function arguments) → TypedOut m (on_each state arguments (λ held. on (function_at m function) (calling m state id held)))
  calls type id function arguments reads =
      let may : may_call m (where_at m before) type function arguments ≡ true = ap (λ x. call_of m before (kind x)) (sym reads) ∙ keeps.call in
      let third = and_parts _ _ may in
      let second = and_parts _ _ third.0 in
      let first = and_parts (fits_function m type arguments (kind (defined_as m function))) _ second.0 in
      by_function (kind (defined_as m function)) refl first.0
    where
      by_function : (k : Kind) → kind (defined_as m function) ≡ k → fits_function m type arguments k ≡ true → TypedOut m (on_each state arguments (λ held. on (function_at m function) (calling m state id held)))
      by_function (Begins given own function_type) e is =
          let both = and_parts (given == type) (have_each (has_type m) (parameters_of (defined_as m function_type)) arguments) is in
          let same = eqb-true given type both.0 in
          let b = body_of m kept function type own function_type (e ∙ ap (λ t. Begins t own function_type) same) in
          arguments_typed (parameters_of (defined_as m function_type)) arguments (λ held. on (function_at m function) (calling m state id held)) both.1
          (λ held are. subst (λ o. TypedOut m (on o (calling m state id held))) (sym b.found)
          (typed_entered m kept function type function_type b held (call_from id state ∷ state.waiting) state typed.variables (sym (length_same m (types_in m state) state.variables typed.variables), typed.frame, typed.waiting) are))
      by_function _ e is = absurd (false≢true is)

  -- ---- returns

  back : (call : Waiting) (calls : List Waiting) → FrameEach m (call ∷ calls) → types_below m (call ∷ calls) ≡ types_below m state.waiting → Typed m (back_in call calls state)
  back call calls frames same = record {
    variables = subst (λ types. HaveTypes m types (take call.count state.variables))
        (ap (λ n. take n (types_below m (call ∷ calls) ++ types_of m (variables_of state.body))) frames.0 ∙ front_is (types_below m (call ∷ calls)) (types_of m (variables_of state.body)))
        (front_typed m (types_below m (call ∷ calls) ++ types_of m (variables_of state.body)) state.variables call.count (subst (λ below. HaveTypes m (below ++ types_of m (variables_of state.body)) state.variables) (sym same) typed.variables));
    frame = frames.1;
    waiting = frames.2;
  }

  returns_nothing : (waiting : List Waiting) → state.waiting ≡ waiting → TypedOut m (returning m state waiting without_value)
  returns_nothing [] e = tt
  returns_nothing (call ∷ calls) e = back call calls (subst (FrameEach m) e typed.waiting) (ap (types_below m) (sym e))

  returns_one : (returned count : ℕ) (waiting : List Waiting) (v : Value) → state.waiting ≡ waiting → WaitEach m count returned waiting → is_shaped m returned v ≡ true → TypedOut m (returning m state waiting (with_value v))
  returns_one returned count [] v e waits shaped = tt
  returns_one returned count (call ∷ calls) v e waits shaped =
      let w = waits.1 in
      let b = back call calls (subst (FrameEach m) e typed.waiting) (ap (types_below m) (sym e)) in
      let kind_is = ap kind w.own ∙ w.is in
      record {
        variables = b.variables;
        frame = record {
          held = hold_give m kept (types_below m (call ∷ calls)) call.ids call.result (Whole v) b.frame.held
              (λ type known. let both : Some returned ≡ Some type = ap type_in (sym kind_is) ∙ known in let same : returned ≡ type = cc in value_of_type m kept (types_below m (call ∷ calls)) type v (ap (λ t. is_shaped m t v) (sym same) ∙ shaped))
              (ap (λ k. is_some (constant_in k)) kind_is);
          lasting = b.frame.lasting;
          lasts = record { arguments = b.frame.lasts.arguments; own_is = b.frame.lasts.own_is; same = λ other lasting. by_same other (other == call.result) refl lasting (ap gives_value kind_is) (b.frame.lasts.same other lasting) };
        };
        waiting = b.waiting;
      }
    where
      by_same : (other : ℕ) (b : Bool) → (other == call.result) ≡ b → of_block (defined_as m other) ≡ false → gives_value (kind (defined_as m call.result)) ≡ true → call.ids other ≡ call.own other → (if b then Some (Whole v) else call.ids other) ≡ call.own other
      by_same other true same lasting gives old = absurd (true≢false (sym gives ∙ ap (λ n. of_block (defined_as m n)) (sym (eqb-true other call.result same)) ∙ lasting))
      by_same other false differ lasting gives old = old

  returns_value : (returned own function_type value : ℕ) → read p.instr ≡ Some (instruction.ReturnValue value) → kind (where_at m before).function ≡ Begins returned own function_type → WaitEach m (length state.variables) returned state.waiting
      → TypedOut m (on_whole (state.ids value) (λ v. returning m state state.waiting (with_value v)))
  returns_value returned own function_type value reads function waits =
      let both = and_parts (not (is_void m returned)) (has_type m returned value) (ap (return.begins_value m value) (sym function) ∙ ap (passes_if (return.may_return m before)) (sym reads) ∙ keeps.returns) in
      with_type m kept before p code keeps state typed returned value (λ v. returning m state state.waiting (with_value v)) both.1
      (λ v shaped. returns_one returned (length state.variables) state.waiting v refl waits shaped)

  -- ---- all of them

  performs : (returned id function_type : ℕ) → outside (where_at m before).standing ≡ false → kind (where_at m before).function ≡ Begins returned id function_type → WaitEach m (length state.variables) returned state.waiting → (d : Instruction) → read p.instr ≡ Some d
      → TypedOut m (act m input p.at state d)
  performs returned own function_type started function waits (instruction.ExtInst type result set number operands) reads = extends m kept before p code keeps state typed type result set number operands reads
  performs returned own function_type started function waits (instruction.CompositeConstruct type result parts) reads = constructs m kept before p code keeps state typed type result parts reads
  performs returned own function_type started function waits (instruction.FunctionCall type result function_id arguments) reads = calls type result function_id arguments reads
  performs returned own function_type started function waits (instruction.Variable type result class initialiser) reads = declares m kept input before p code keeps state typed type result class initialiser started reads
  performs returned own function_type started function waits (instruction.Load type result pointer) reads = loads m kept input before p code keeps state typed type result pointer reads
  performs returned own function_type started function waits (instruction.Store pointer value) reads = stores_value m kept input before p code keeps state typed pointer value reads
  performs returned own function_type started function waits (instruction.AccessChain type result base indexes) reads = chains m kept input before p code keeps state typed type result base indexes reads
  performs returned own function_type started function waits (instruction.ArrayLength type result pointer member) reads = lengths m kept input before p code keeps state typed type result pointer member reads
  performs returned own function_type started function waits (instruction.VectorExtractDynamic type result vector index) reads = picks m kept before p code keeps state typed type result vector index reads
  performs returned own function_type started function waits (instruction.VectorShuffle type result first second components) reads = shuffles m kept before p code keeps state typed type result first second components reads
  performs returned own function_type started function waits (instruction.CompositeExtract type result composite indexes) reads = takes_part m kept before p code keeps state typed type result composite indexes reads
  performs returned own function_type started function waits (instruction.CompositeInsert type result part composite indexes) reads = puts_part m kept before p code keeps state typed type result part composite indexes reads
  performs returned own function_type started function waits (instruction.Unary op type result a) reads = unaries m kept before p code keeps state typed op type result a reads
  performs returned own function_type started function waits (instruction.Arithmetic op type result a b) reads = arithmetics m kept before p code keeps state typed op type result a b reads
  performs returned own function_type started function waits (instruction.Shift op type result base amount) reads = shifts m kept before p code keeps state typed op type result base amount reads
  performs returned own function_type started function waits (instruction.Logical op type result a b) reads = logicals m kept before p code keeps state typed op type result a b reads
  performs returned own function_type started function waits (instruction.Comparison op type result a b) reads = comparisons m kept before p code keeps state typed op type result a b reads
  performs returned own function_type started function waits (instruction.Select type result condition a b) reads = selects m kept before p code keeps state typed type result condition a b reads
  performs returned own function_type started function waits (instruction.BitFieldInsert type result base insert offset count) reads = inserts m kept before p code keeps state typed type result base insert offset count reads
  performs returned own function_type started function waits (instruction.BitFieldExtract op type result base offset count) reads = extracts m kept before p code keeps state typed op type result base offset count reads
  performs returned own function_type started function waits (instruction.LoopMerge merge continue_target control) reads = typed
  performs returned own function_type started function waits (instruction.SelectionMerge merge control) reads = typed
  performs returned own function_type started function waits (instruction.Label label) reads = block_begins m state typed
  performs returned own function_type started function waits (instruction.Branch target) reads = branches target
  performs returned own function_type started function waits (instruction.BranchConditional condition on_true on_false) reads = branch_if condition on_true on_false
  performs returned own function_type started function waits (instruction.Switch selector default targets) reads = switch selector default targets
  performs returned own function_type started function waits instruction.Kill reads = tt
  performs returned own function_type started function waits instruction.Return reads = returns_nothing state.waiting refl
  performs returned own function_type started function waits (instruction.ReturnValue value) reads =
      returns_value returned own function_type value reads function waits
  performs returned own function_type started function waits d reads = tt

module _ (m : Module) (kept : Kept m) (input : Input) where
  typed_on : (state : State) (good : Good m input state) → Typed m state → (rest : List Placed) → state.rest ≡ rest → TypedOut m (step_on m input state rest)
  typed_on state good typed [] e = tt
  typed_on state good typed (p ∷ more) e = by_read (read p.instr) refl
    where
      spot : Spot m state.body good.returned good.runs.before (p ∷ more)
      spot = subst (Spot m state.body good.returned good.runs.before) e good.runs.spot

      s : Step m state.body good.returned good.runs.before p more
      s = step_of m kept state.body good.returned good.runs.before p more spot

      by_read : (o : Option Instruction) → read p.instr ≡ o → TypedOut m (on o (act m input p.at (record state { rest = more })))
      by_read None is = tt
      by_read (Some d) is = performs m kept input good.runs.before p s.code s.keeps (record state { rest = more }) (elsewhere m state more typed) good.returned spot.id spot.function_type spot.started spot.function good.waiting d is

  -- one instruction
  pub typed_step : (state : State) → Good m input state → Typed m state → TypedOut m (step m input state)
  typed_step state good typed = typed_on state good typed state.rest refl

  typed_behind : (o : Outcome) (go : State → Outcome) → Fine m input o → TypedOut m o → ((state : State) → Good m input state → Typed m state → TypedOut m (go state)) → TypedOut m (behind o go)
  typed_behind (Going next) go fine here later = later next fine here
  typed_behind (Ended output) go fine here later = tt
  typed_behind (Strayed place) go fine here later = tt
  typed_behind Stuck go fine here later = tt

  -- any count of them
  pub typed_run : (count : ℕ) (state : State) → Good m input state → Typed m state → TypedOut m (run m input count state)
  typed_run zero state good typed = typed
  typed_run (suc count) state good typed = typed_behind (step m input state) (run m input count) (fine_step m kept input state good) (typed_step state good typed) (typed_run count)
