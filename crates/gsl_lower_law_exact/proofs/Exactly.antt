-- What a module comes to on an input, from what it comes to with so many units.
use Rattle.std.proofs.Common.{◌≡◌, refl, sym, ap, ◌∙◌, subst, inl, inr, ◌⊎◌, ℕ, ◌+◌, ◌≤◌, List, [], ◌∷◌, length, Option, Some, None, if◌then◌else◌, arith}
use Rattle.std.specs.Prelude.{◌==◌, ◌&&◌, Bool, true, false}
use Rattle.gsl_base.specs.Proper.{IsProper}
use Rattle.gsl_base.specs.declared.input.Input.{Input}
use Rattle.gsl_base.specs.declared.input.Output.{Output}
use Rattle.gsl_instr.specs.declared.op.TheConstants as op
use Rattle.gsl_words.specs.declared.module.Module.{Module}
use Rattle.gsl_tree.specs.declared.program.Program.{Program}
use Rattle.gsl_valid.specs.Ids.{defines}
use Rattle.gsl_valid.specs.Placed.{Placed, header_size, placed}
use Rattle.gsl_meaning.specs.Fits as meaning_fits
use Rattle.gsl_meaning.specs.Shader as shader
use Rattle.gsl_machine.specs.Fits as machine_fits
use Rattle.gsl_machine.specs.Functions.{from_first_label, function_in, up_to_end}
use Rattle.gsl_machine.specs.Laws.{IsOver}
use Rattle.gsl_machine.specs.Machine.{after, entering, entry_body, entry_of, run, start}
use Rattle.gsl_machine.specs.State as outcome
use Rattle.gsl_machine.proofs.Over.{stays_over}
use Rattle.gsl_owed.specs.Runs.{IsFitting, Runs, limit}
use Rattle.gsl_lower_follows.specs.Following.{Faults, Lasts}
use Rattle.gsl_lower_follows.specs.Stretching.{Stretch, room, worth}
use Rattle.gsl_lower_follows.proofs.Placing.{placed_length}
use Rattle.gsl_lower_frames.proofs.Codes.{words_many}
use Rattle.gsl_lower_law_program.specs.Shaders.{EndsAs, EndsWith}
use Rattle.gsl_lower_law_exact.specs.Exactly.{Does, EndsExactly}

-- ---- how much code is to come at the start

label_short : (code : List Placed) → length (from_first_label code) ≤ length code
label_short [] = omega arith
label_short (x ∷ code) = by (x.instr.op == op.LABEL) (label_short code)
  where
    by : (b : Bool) → length (from_first_label code) ≤ length code → length (if b then x ∷ code else from_first_label code) ≤ length (x ∷ code)
    by true shorter = omega arith
    by false shorter = omega (arith, shorter)

end_short : (code : List Placed) → length (up_to_end code) ≤ length code
end_short [] = omega arith
end_short (x ∷ code) = by (x.instr.op == op.FUNCTION_END) (end_short code)
  where
    by : (b : Bool) → length (up_to_end code) ≤ length code → length (if b then x ∷ [] else x ∷ up_to_end code) ≤ length (x ∷ code)
    by true shorter = omega arith
    by false shorter = omega (arith, shorter)

function_short : (code : List Placed) (id : ℕ) (body : List Placed) → function_in code id ≡ Some body → length body ≤ length code
function_short [] id body is = absurd cc
function_short (x ∷ code) id body is = by (x.instr.op == op.FUNCTION && defines x.instr id) (λ e. function_short code id body e) is
  where
    by : (b : Bool) → (function_in code id ≡ Some body → length body ≤ length code) → (if b then Some (up_to_end code) else function_in code id) ≡ Some body → length body ≤ length (x ∷ code)
    by true later e = let same : up_to_end code ≡ body = cc in let shorter = end_short code in omega (arith, shorter, ap length same)
    by false later e = let shorter = later e in omega (arith, shorter)

module _ (m : Module) (input : Input) where
  entered_short : (entry : Option ℕ) → room (entering m input (entry_body m entry)) ≤ worth m
  entered_short None = omega arith
  entered_short (Some id) = by (function_in (placed m) id) refl
    where
      by : (o : Option (List Placed)) → function_in (placed m) id ≡ o → room (entering m input o) ≤ worth m
      by None is = omega arith
      by (Some body) is =
          let inner = label_short body in
          let whole = function_short (placed m) id body is in
          let many = placed_length header_size m.instrs in
          let words = words_many 0 m.instrs in
          omega (arith, inner, whole, many, words)

  start_short : room (start m input) ≤ worth m
  unfolding start
  start_short = entered_short (entry_of m.instrs)

  runs_after : (count : ℕ) (o : outcome.Outcome) → run m input count (start m input) ≡ o → after m count input ≡ o
  unfolding after
  runs_after count o is = is

  within : (units left : ℕ) (o : outcome.Outcome) (s : Stretch m input 0 0 units (start m input) left o) → s.count ≤ limit m units
  within units left o s = let short = start_short in omega (arith, s.fast, short)

  -- a run comes to one end
  one_end : (first second : ℕ) (a b : outcome.Outcome) → IsOver a → IsOver b → after m first input ≡ a → after m second input ≡ b → a ≡ b
  one_end first second a b over too is also =
      sym is ∙ sym (stays_over m input first second (subst IsOver (sym is) over)) ∙ ap (λ n. after m n input) (let e : first + second ≡ second + first = omega arith in e)
      ∙ stays_over m input second first (subst IsOver (sym also) too) ∙ also

-- ---- from so many units

module _ (m : Module) (p : Program) (input : Input) where
  abbrev EndsEach : Type 0
  EndsEach = (units : ℕ) → EndsAs m input units (start m input) (shader.shader p units input)

  pub does_of : EndsEach → Does m p input
  does_of each = record {
    ends = λ units output is. ends units output (subst (EndsAs m input units (start m input)) is (each units));
    goes = λ units is. goes units (subst (EndsAs m input units (start m input)) is (each units));
    strays = λ units is. strays units (subst (EndsAs m input units (start m input)) is (each units));
  }
    where
      ends : (units : ℕ) (output : Output) → EndsWith m input units (start m input) output → (count : ℕ) × (count ≤ limit m units) × (after m count input ≡ outcome.Ended output)
      ends units output e = (e.stretch.count, within m input units e.left (outcome.Ended output) e.stretch, runs_after m input e.stretch.count (outcome.Ended output) e.stretch.runs)

      goes : (units : ℕ) → Lasts m input units (start m input) → (state : outcome.State) × (after m units input ≡ outcome.Going state)
      goes units e = (e.later, runs_after m input units (outcome.Going e.later) e.runs)

      strays : (units : ℕ) → Faults m input 0 units (start m input) → (count : ℕ) × (place : ℕ) × (count ≤ limit m units) × (after m count input ≡ outcome.Strayed place)
      strays units e = (e.stretch.count, e.place, within m input units e.left (outcome.Strayed e.place) e.stretch, runs_after m input e.stretch.count (outcome.Strayed e.place) e.stretch.runs)

  -- ---- the other direction

  module _ (does : Does m p input) where
    -- How a run ended: as the shader does with some units.
    abbrev IsEnd : outcome.Outcome → Type 0
    IsEnd r = ((units : ℕ) × (output : Output) × (shader.shader p units input ≡ shader.Ended output) × (r ≡ outcome.Ended output)) ⊎ ((units : ℕ) × (place : ℕ) × (shader.shader p units input ≡ shader.Strayed) × (r ≡ outcome.Strayed place))

    is_end : (count : ℕ) (r : outcome.Outcome) → IsOver r → after m count input ≡ r → IsEnd r
    is_end count r over is = by (shader.shader p count input) refl
      where
        by : (o : shader.Outcome) → shader.shader p count input ≡ o → IsEnd r
        by (shader.Ended output) e = let x = does.ends count output e in inl (count, output, e, one_end m input count x.0 r (outcome.Ended output) over tt is x.2)
        by shader.Strayed e = let x = does.strays count e in inr (count, x.1, e, one_end m input count x.0 r (outcome.Strayed x.1) over tt is x.3)
        by shader.Going e = let x = does.goes count e in absurd (subst IsOver (sym is ∙ x.1) over)

    ended_by : (output : Output) → IsEnd (outcome.Ended output) → (units : ℕ) × (shader.shader p units input ≡ shader.Ended output)
    ended_by output (inl (units, other, is, same)) = let one : other ≡ output = cc in (units, is ∙ ap shader.Ended one)
    ended_by output (inr (units, place, is, same)) = absurd cc

    strayed_by : (place : ℕ) → IsEnd (outcome.Strayed place) → (units : ℕ) × (shader.shader p units input ≡ shader.Strayed)
    strayed_by place (inl (units, other, is, same)) = absurd cc
    strayed_by place (inr (units, other, is, same)) = (units, is)

    stuck_by : IsEnd outcome.Stuck → ⊥
    stuck_by (inl (units, other, is, same)) = cc
    stuck_by (inr (units, place, is, same)) = cc

    pub exactly : EndsExactly m p input
    exactly = record {
      ended = λ output. (λ (count, is). ended_by output (is_end count (outcome.Ended output) tt is), λ (units, is). let x = does.ends units output is in (x.0, x.2));
      strayed = (λ (count, place, is). strayed_by place (is_end count (outcome.Strayed place) tt is), λ (units, is). let x = does.strays units is in (x.0, x.1, x.3));
      never_stuck = λ count is. stuck_by (is_end count outcome.Stuck tt is);
    }

pub does_as_shader : (m : Module) (p : Program) (input : Input) → ((units : ℕ) → EndsAs m input units (start m input) (shader.shader p units input)) → Does m p input
does_as_shader m p input each = does_of m p input each

pub ends_exactly : (m : Module) (p : Program) (input : Input) → Does m p input → EndsExactly m p input
ends_exactly m p input does = exactly m p input does

-- what is so on each input that fits
pub runs_of : (m : Module) (p : Program) → ((input : Input) → IsProper input → machine_fits.fits m input ≡ meaning_fits.fits p input) → ((input : Input) → IsFitting p input → Does m p input) → Runs m p
runs_of m p fits does = record {
  fits = fits;
  ends = λ input fitting. (does input fitting).ends;
  goes = λ input fitting. (does input fitting).goes;
  strays = λ input fitting. (does input fitting).strays;
}
