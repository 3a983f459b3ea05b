-- The return of a function that was called.
use Rattle.std.proofs.Common.{◌≡◌, refl, sym, ap, ◌∙◌, ℕ, suc, ◌+◌, ◌≤◌, subst, inl, inr, ◌⊎◌, Bool, true, false, List, [], ◌∷◌, length, take, None, arith, if◌then◌else◌}
use Rattle.std.specs.Prelude.{nat_le}
use Rattle.gsl_base.specs.declared.input.Input.{Input}
use Rattle.gsl_instr.specs.Forms.{form_of}
use Rattle.gsl_instr.specs.declared.op.TheConstants as op
use Rattle.gsl_words.specs.declared.module.Module.{Module}
use Rattle.gsl_values.specs.declared.value.Value.{Value}
use Rattle.gsl_tree.specs.Around.{Around}
use Rattle.gsl_tree.specs.declared.program.Program.{Program}
use Rattle.gsl_meaning.specs.Accesses.{nothing}
use Rattle.gsl_meaning.specs.State as shader
use Rattle.gsl_valid.specs.Placed.{Placed}
use Rattle.gsl_machine.specs.Machine.{step}
use Rattle.gsl_machine.specs.State.{Going, Ids, State, Waiting, Whole, give, on_whole}
use Rattle.gsl_machine.specs.Steps.{returning, with_value, without_value}
use Rattle.gsl_spv.specs.Calls.{put, take as take_id}
use Rattle.gsl_spv.specs.Declarations.{instr}
use Rattle.gsl_spv.specs.Sections.{Sections}
use Rattle.gsl_spv.specs.declared.refusal.TheConstants.{MOST_IDS}
use Rattle.gsl_lower_values.specs.Building.{Full, Made, behind, giving, put_giving}
use Rattle.gsl_lower_law.specs.Values.{Keeps, Ready, Stands}
use Rattle.gsl_lower_law.proofs.Giving.{give_ready, give_same}
use Rattle.gsl_lower_law.proofs.Joining.{keeps_same}
use Rattle.gsl_lower_holders.specs.Flow.{Flow, Gives, built_in, flow_of, giving_here}
use Rattle.gsl_lower_law_stmt.specs.OfFollows.{Reaches}
use Rattle.gsl_lower_law_stmt.specs.OfFollows.{Frame, Good, Inside, coming}
use Rattle.gsl_lower_law_stmt.specs.OfFollows.{room, room_behind}
use Rattle.gsl_lower_law_stmt.proofs.OfFollows.{reached_by}
use Rattle.gsl_lower_law_stmt.proofs.OfFollows.{stretch_one}
use Rattle.gsl_lower_law_stmt.specs.Doing.{AtReturn}
use Rattle.gsl_lower_law_returns.specs.Calling.{AreAlike, IsBack, IsCalled, call_of}
use Rattle.gsl_lower_law_returns.proofs.Untouched.{holders_stay, others_stay, holds_back, params_are, typed_back}

-- what a builder holds behind an instruction with a new id
abbrev pub given_by : ℕ → List ℕ → ℕ → Flow → Flow
given_by code operands type b = flow_of (put code (type ∷ (b.sections.last + 1) ∷ operands) (take_id b.sections).sections) b.place

-- An instruction that is put has the next id.
pub put_here : (code : ℕ) (operands : List ℕ) (type : ℕ) (b : Flow) (id : ℕ) (later : Flow) → giving_here code operands type b ≡ Gives id later → (id ≡ b.sections.last + 1) × (later ≡ given_by code operands type b)
unfolding giving
put_here code operands type b id later = by (nat_le (b.sections.last + 1) MOST_IDS)
  where
    by : (t : Bool) → built_in b.place (behind (if t then Made (b.sections.last + 1) (take_id b.sections).sections else Full) (put_giving code type operands)) ≡ Gives id later
        → (id ≡ b.sections.last + 1) × (later ≡ given_by code operands type b)
    by true e = (cc, cc)
    by false e = absurd cc

module _ (m : Module) (input : Input) (whole : Sections) (f g : Frame m input whole) (p : Program) (around inner : Around) (first : ℕ) (b : Flow) (operands : List ℕ) (type : ℕ) (s t : shader.State) (state last : State) (v : Value)
    (alike : AreAlike around inner) (good : Good m input whole f p around b s state) (inside : Inside m input whole f (given_by op.FUNCTION_CALL operands type b).sections) (none : f.own (b.sections.last + 1) ≡ None)
    (called : IsCalled m input whole f g first (b.sections.last + 1) state (coming m input whole f (given_by op.FUNCTION_CALL operands type b).sections)) (at : AtReturn m input whole g p inner v t last) where
  abbrev id : ℕ
  id = b.sections.last + 1

  abbrev later : Flow
  later = given_by op.FUNCTION_CALL operands type b

  abbrev rest : List Placed
  rest = coming m input whole f later.sections

  abbrev call : Waiting
  call = call_of id state rest

  -- the caller's state where its ids are these
  abbrev end : Ids → State
  end ids = record last { rest = rest; body = state.body; ids = ids; own = state.own; variables = take (length state.variables) last.variables; waiting = f.waiting }

  waits : last.waiting ≡ call ∷ f.waiting
  waits = at.state_is.waiting ∙ called.waiting

  shorter : (ids : Ids) → suc (room (end ids)) ≤ room last
  shorter ids =
      let here : length last.rest ≡ suc (length at.rest) = ap length at.is in
      let waiting : room_behind last.waiting ≡ length rest + room_behind f.waiting = ap room_behind waits in
      omega (arith, here, waiting)

  back : (ids : Ids) → Keeps state.ids ids → Ready id f.own ids → (v ≡ nothing) ⊎ Stands ids id v → step m input last ≡ Going (end ids) → IsBack m input whole f g p around first id state later s v t (end ids)
  back ids keeps ready given one = record {
    good = record {
      inside = inside;
      rest = refl;
      within = good.within;
      own = good.own;
      waiting = refl;
      ready = ready;
      seated = good.seated;
      holds = holds_back m input whole f g p around inner first id b rest s t state last alike good called at.state_is.holds at.state_is.typed rest state.body ids state.own f.waiting;
      typed = typed_back m input whole f g p around inner first id b rest s t state last alike good called at.state_is.holds at.state_is.typed;
      reached = reached_by m input at.state_is.reached (stretch_one m input 0 last (Going (end ids)) (shorter ids) one);
    };
    ids = keeps;
    given = given;
    held = record { same = holders_stay m input whole f g p around inner first id b rest s t state last alike good called at.state_is.holds at.state_is.typed };
    others = others_stay m input whole f g p around inner first id b rest s t state last alike good called at.state_is.holds at.state_is.typed;
    params = params_are m input whole f g p around inner first id b rest s t state last alike good called at.state_is.holds at.state_is.typed;
  }

  reached : (ids : Ids) (units : ℕ) → step m input last ≡ Going (end ids) → IsBack m input whole f g p around first id state later s v t (end ids) → Reaches m input 0 units last (IsBack m input whole f g p around first id state later s v t) units
  reached ids units is back = record { later = end ids; is = back; less = omega arith; stretch = stretch_one m input units last (Going (end ids)) (shorter ids) is }

  pub returned : (units : ℕ) → Reaches m input 0 units last (IsBack m input whole f g p around first id state later s v t) units
  unfolding form_of
  returned units = by at.gives
    where
      here : State
      here = record last { rest = at.rest }

      by : ((at.i ≡ instr op.RETURN []) × (v ≡ nothing)) ⊎ ((x : ℕ) × (at.i ≡ instr op.RETURN_VALUE (x ∷ [])) × Stands last.ids x v) → Reaches m input 0 units last (IsBack m input whole f g p around first id state later s v t) units
      by (inl e) =
          let one : step m input last ≡ Going (end state.ids) =
          ap (λ l. step m input (record last { rest = l })) (at.is ∙ ap (λ i. record { at = at.place; instr = i } ∷ at.rest) e.0) ∙ ap (λ w. returning m here w without_value) waits in
          reached state.ids units one (back state.ids (keeps_same state.ids) (record { lasting = good.ready.lasting; later = λ other less. good.ready.later other (omega (arith, less)) }) (inl e.1) one)
      by (inr e) =
          let both = give_ready state.ids f.own b.sections.last (Whole v) none good.ready in
          let one : step m input last ≡ Going (end (give state.ids id (Whole v))) =
          ap (λ l. step m input (record last { rest = l })) (at.is ∙ ap (λ i. record { at = at.place; instr = i } ∷ at.rest) e.1) ∙ ap (λ o. on_whole o (λ u. returning m here last.waiting (with_value u))) e.2 ∙ ap (λ w. returning m here w (with_value v)) waits in
          reached (give state.ids id (Whole v)) units one (back (give state.ids id (Whole v)) both.0 both.1 (inr (give_same state.ids id (Whole v))) one)

pub returned_back : (m : Module) (input : Input) (whole : Sections) (f g : Frame m input whole) (p : Program) (around inner : Around) (b later : Flow) (operands : List ℕ) (type id first : ℕ) (s t : shader.State) (state last : State) (v : Value) (units : ℕ) → AreAlike around inner → Good m input whole f p around b s state
    → giving_here op.FUNCTION_CALL operands type b ≡ Gives id later → Inside m input whole f later.sections → f.own id ≡ None → IsCalled m input whole f g first id state (coming m input whole f later.sections) → AtReturn m input whole g p inner v t last
    → Reaches m input 0 units last (IsBack m input whole f g p around first id state later s v t) units
returned_back m input whole f g p around inner b later operands type id first s t state last v units alike good put inside none called at = go id later made.0 made.1 inside none called
  where
    made : (id ≡ b.sections.last + 1) × (later ≡ given_by op.FUNCTION_CALL operands type b)
    made = put_here op.FUNCTION_CALL operands type b id later put

    go : (id : ℕ) (later : Flow) → id ≡ b.sections.last + 1 → later ≡ given_by op.FUNCTION_CALL operands type b → Inside m input whole f later.sections → f.own id ≡ None → IsCalled m input whole f g first id state (coming m input whole f later.sections)
        → Reaches m input 0 units last (IsBack m input whole f g p around first id state later s v t) units
    go id later e q = subst (λ (n : ℕ). Inside m input whole f later.sections → f.own n ≡ None → IsCalled m input whole f g first n state (coming m input whole f later.sections) → Reaches m input 0 units last (IsBack m input whole f g p around first n state later s v t) units) (sym e)
        (subst (λ (l : Flow). Inside m input whole f l.sections → f.own (b.sections.last + 1) ≡ None → IsCalled m input whole f g first (b.sections.last + 1) state (coming m input whole f l.sections) → Reaches m input 0 units last (IsBack m input whole f g p around first (b.sections.last + 1) state l s v t) units) (sym q)
        (λ there none called. returned m input whole f g p around inner first b operands type s t state last v alike good there none called at units))
