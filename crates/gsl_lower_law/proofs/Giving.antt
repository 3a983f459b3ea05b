-- One instruction that gives a value.
use Rattle.std.proofs.Common.{◌≡◌, refl, sym, ap, ◌∙◌, subst, ℕ, ◌+◌, ◌<◌, Bool, true, false, List, [], ◌∷◌, ◌++◌, Some, None, arith, if◌then◌else◌, ◌==◌}
use Rattle.std.proofs.lemmas.Bool.{eqb-true}
use Rattle.std.proofs.lemmas.List.Elements.{Contains-append_left, Contains-append_right}
use Rattle.std.specs.Prelude.{nat_le}
use Rattle.std.specs.List.{Contains}
use Rattle.gsl_base.specs.declared.input.Input.{Input}
use Rattle.gsl_words.specs.declared.module.Instr.{Instr}
use Rattle.gsl_words.specs.declared.module.Module.{Module}
use Rattle.gsl_values.specs.declared.value.Value.{Value}
use Rattle.gsl_valid.specs.Ids.{result}
use Rattle.gsl_valid.specs.Instruction.{read}
use Rattle.gsl_valid.specs.Kinds.{Gives, kind}
use Rattle.gsl_valid.specs.Placed.{Placed}
use Rattle.gsl_machine.specs.Machine.{behind as going_on, run}
use Rattle.gsl_machine.specs.State.{Held, Whole, Ids, State, give, giving as yielding, on}
use Rattle.gsl_machine.specs.Steps.{act}
use Rattle.gsl_spv.specs.Calls as call
use Rattle.gsl_spv.specs.Declarations.{instr}
use Rattle.gsl_spv.specs.Sections.{Sections}
use Rattle.gsl_spv.specs.declared.refusal.TheConstants.{MOST_IDS}
use Rattle.gsl_spv.proofs.Extending.{extends_then, extends_take}
use Rattle.gsl_spv.proofs.Contained.{first_in}
use Rattle.gsl_lower_values.specs.Building.{Made, Full, behind, giving, put_giving}
use Rattle.gsl_lower_law.specs.Values.{Keeps, Ready, Stands, Text}
use Rattle.gsl_lower_law.specs.Computing.{Grows, Comes, Does, drawing}
use Rattle.gsl_lower_law.proofs.Adding.{extends_put}
use Rattle.gsl_lower_law.proofs.Joining.{keeps_then}

-- an instruction with a new id behind its type
abbrev pub with_id : ℕ → List ℕ → ℕ → ℕ → Instr
with_id op operands type id = instr op (type ∷ id ∷ operands)

-- Its id stands for this then, and it leaves these choices.
pub record Yields (m : Module) (input : Input) (op : ℕ) (operands : List ℕ) (type : ℕ) (state : State) (held : Held) (choices : List ℕ) : Type 0 where
  pub gives : (id : ℕ) → kind (read (with_id op operands type id)) ≡ Gives type
  pub named : (id : ℕ) → result (read (with_id op operands type id)) ≡ Some id
  pub done : (id at : ℕ) (rest : List Placed) → on (read (with_id op operands type id)) (act m input at (record state { rest = rest })) ≡ yielding (record state { rest = rest; choices = choices }) id held

-- It gives this value.
abbrev pub Performs : Module → Input → ℕ → List ℕ → ℕ → State → Value → List ℕ → Type 0
Performs m input op operands type state v choices = Yields m input op operands type state (Whole v) choices

-- ---- ids

pub give_same : (ids : Ids) (id : ℕ) (held : Held) → give ids id held id ≡ Some held
give_same ids id held = by (id == id) (eq_self id)
  where
    eq_self : (n : ℕ) → (n == n) ≡ true
    eq_self n = grind arith

    by : (b : Bool) → b ≡ true → (if b then Some held else ids id) ≡ Some held
    by true e = refl
    by false e = absurd cc

give_keeps : (ids : Ids) (id : ℕ) (held : Held) → ids id ≡ None → Keeps ids (give ids id held)
give_keeps ids id held none = record { same = λ other was e. by other was e (other == id) refl }
  where
    by : (other : ℕ) (was : Held) → ids other ≡ Some was → (b : Bool) → (other == id) ≡ b → (if b then Some held else ids other) ≡ Some was
    by other was e true is = absurd (let f : Some was ≡ None = sym e ∙ ap ids (eqb-true other id is) ∙ none in cc)
    by other was e false is = e

give_later : (ids own : Ids) (last : ℕ) (held : Held) → ((id : ℕ) → last < id → ids id ≡ own id) → (id : ℕ) → last + 1 < id → give ids (last + 1) held id ≡ own id
give_later ids own last held later id less = by (id == last + 1) refl
  where
    by : (b : Bool) → (id == last + 1) ≡ b → (if b then Some held else ids id) ≡ own id
    by true is = absurd (let e : id ≡ last + 1 = eqb-true id (last + 1) is in omega (arith, e, less))
    by false is = later id (omega (arith, less))

-- a new id that does not last
pub give_ready : (ids own : Ids) (last : ℕ) (held : Held) → own (last + 1) ≡ None → Ready last own ids → Keeps ids (give ids (last + 1) held) × Ready (last + 1) own (give ids (last + 1) held)
give_ready ids own last held none r =
    let keeps = give_keeps ids (last + 1) held (r.later (last + 1) (omega arith) ∙ none) in
    (keeps, record { lasting = keeps_then r.lasting keeps; later = give_later ids own last held r.later })

-- ---- the step

module _ (m : Module) (input : Input) (whole : Sections) where
  put_does : (op : ℕ) (operands : List ℕ) (type : ℕ) (state : State) (held : Held) (choices : List ℕ) (before : Sections) → Yields m input op operands type state held choices
      → Text m whole state.own → Ready before.last state.own state.ids → Comes m input whole (λ id ids. ids id ≡ Some held) (drawing state choices) state before (behind (Made (before.last + 1) (call.take before).sections) (put_giving op type operands))
  put_does op operands type state held choices before p text ready inside =
      let id = before.last + 1 in
      let i = with_id op operands type id in
      let none : state.own id ≡ None = text.apart i type id
      (subst (λ l. Contains l i) (sym inside.functions.is) (Contains-append_left (before.functions ++ i ∷ []) inside.functions.more i (Contains-append_right before.functions (i ∷ []) i (first_in i []))))
      (p.gives id) (p.named id) in
      let both = give_ready state.ids state.own before.last held none ready in
      record {
        code = i ∷ [];
        puts = refl;
        ids = give state.ids id held;
        leads = λ at rest. ap (λ o. going_on o (run m input 0)) (p.done id at rest);
        is = give_same state.ids id held;
        keeps = both.0;
        ready = both.1;
      }

  pub giving_grows : (op : ℕ) (operands : List ℕ) (type : ℕ) (before : Sections) → Grows before (giving op operands type before)
  unfolding giving
  giving_grows op operands type before = by (nat_le (before.last + 1) MOST_IDS)
    where
      by : (b : Bool) → Grows before (behind (if b then Made (before.last + 1) (call.take before).sections else Full) (put_giving op type operands))
      by true = extends_then (extends_take before) (extends_put op (type ∷ (before.last + 1) ∷ operands) (call.take before).sections)
      by false = tt

  pub yielding_does : (op : ℕ) (operands : List ℕ) (type : ℕ) (state : State) (held : Held) (choices : List ℕ) (before : Sections) → (Text m whole state.own → Yields m input op operands type state held choices)
      → Does m input whole (λ id ids. ids id ≡ Some held) choices state before (giving op operands type)
  unfolding giving
  yielding_does op operands type state held choices before p = record {
    grows = giving_grows op operands type before;
    comes = λ text ready. by text ready (nat_le (before.last + 1) MOST_IDS);
  }
    where
      by : Text m whole state.own → Ready before.last state.own state.ids → (b : Bool)
          → Comes m input whole (λ id ids. ids id ≡ Some held) (drawing state choices) state before (behind (if b then Made (before.last + 1) (call.take before).sections else Full) (put_giving op type operands))
      by text ready true = put_does op operands type state held choices before (p text) text ready
      by text ready false = tt

  pub giving_does : (op : ℕ) (operands : List ℕ) (type : ℕ) (state : State) (v : Value) (choices : List ℕ) (before : Sections) → (Text m whole state.own → Performs m input op operands type state v choices)
      → Does m input whole (λ id ids. Stands ids id v) choices state before (giving op operands type)
  giving_does op operands type state v choices before p = yielding_does op operands type state (Whole v) choices before p
