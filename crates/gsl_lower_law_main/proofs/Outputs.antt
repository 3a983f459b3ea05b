-- What is given out at the end of main.
use Rattle.std.proofs.Common.{◌≡◌, refl, sym, ap, ◌∙◌, subst, ℕ, ◌+◌, ◌≤◌, ◌<◌, zero, suc, Bool, true, false, cond, List, [], ◌∷◌, length, slice_get, Option, Some, None, arith}
use Rattle.std.specs.Prelude.{◌==◌, drop}
use Rattle.std.specs.List.{cons_option}
use Rattle.gsl_base.specs.declared.input.Input.{Input}
use Rattle.gsl_base.specs.declared.input.Located.{Located}
use Rattle.gsl_base.specs.declared.input.Output.{Output}
use Rattle.gsl_instr.specs.declared.enumerant.decoration.TheConstants as decoration
use Rattle.gsl_instr.specs.declared.enumerant.storage_class.TheConstants as storage_class
use Rattle.gsl_words.specs.declared.module.Module.{Module}
use Rattle.gsl_values.specs.declared.value.Value.{Value}
use Rattle.gsl_tree.specs.Around.{Around}
use Rattle.gsl_tree.specs.Values.{components_in}
use Rattle.gsl_tree.specs.declared.program.Program.{Program}
use Rattle.gsl_tree.specs.declared.unit.Interface.{Interface as Passed}
use Rattle.gsl_meaning.specs.Blocks.{put_blocks}
use Rattle.gsl_meaning.specs.Shader.{output_of}
use Rattle.gsl_meaning.specs.Stages as stages
use Rattle.gsl_meaning.specs.State as shader
use Rattle.gsl_valid.specs.Decorations.{number_on}
use Rattle.gsl_valid.specs.Kinds.{Variable}
use Rattle.gsl_views.specs.Buffers.{ascending}
use Rattle.gsl_machine.specs.Interfaces as interfaces
use Rattle.gsl_machine.specs.Interfaces.{out_if, value_variables}
use Rattle.gsl_machine.specs.State.{State}
use Rattle.gsl_spv.specs.Sections.{Sections}
use Rattle.gsl_lower_follows.specs.Frames.{AreTyped, Frame, HasType, Holds, Interface, type_of_interface}
use Rattle.gsl_lower_law_main.specs.Ending.{AreOuts, HasOutputs, out_at, outs_from}

-- ---- the outputs of a module by their positions

-- a value at a location, if there is one
abbrev located : Option Value → ℕ → Option Located
located None location = None
located (Some v) location = Some (record { location = location; words = components_in v })

-- what stands at a position
abbrev word_at : List Value → ℕ × ℕ → Option Located
word_at values out = located (slice_get values out.0) out.1

-- what stands at positions
abbrev told : List Value → List (ℕ × ℕ) → List Located
told values [] = []
told values (out ∷ outs) = cons_option (word_at values out) (told values outs)

-- ---- lists

drop_cons : {A : Type 0} (all : List A) (k : ℕ) (x : A) (xs : List A) → drop k all ≡ x ∷ xs → (slice_get all k ≡ Some x) × (drop (suc k) all ≡ xs)
drop_cons [] zero x xs e = absurd cc
drop_cons [] (suc k) x xs e = absurd cc
drop_cons (y ∷ ys) zero x xs e = (cc, cc)
drop_cons (y ∷ ys) (suc k) x xs e = drop_cons ys k x xs e

get_drop : {A : Type 0} (all : List A) (k : ℕ) (x : A) → slice_get all k ≡ Some x → drop k all ≡ x ∷ drop (suc k) all
get_drop [] zero x e = absurd cc
get_drop [] (suc k) x e = absurd cc
get_drop (y ∷ ys) zero x e = cc
get_drop (y ∷ ys) (suc k) x e = get_drop ys k x e

there : {A : Type 0} (all : List A) (k : ℕ) → k < length all → (x : A) × (slice_get all k ≡ Some x)
there [] k less = absurd (omega (arith, less))
there (y ∷ ys) zero less = (y, refl)
there (y ∷ ys) (suc k) less = there ys k (omega (arith, less))

-- ---- the outputs of the module

module _ (m : Module) (all : List Value) where
  outs_told : (position : ℕ) (variables : List Variable) → position + length variables ≤ length all → interfaces.outs_among m variables (drop position all) ≡ told all (outs_from m position variables)
  outs_told position [] enough = none (drop position all)
    where
      none : (values : List Value) → interfaces.outs_among m [] values ≡ []
      none [] = refl
      none (value ∷ values) = refl
  outs_told position (v ∷ variables) enough = by (there all position (omega (arith, enough))) (outs_told (suc position) variables (omega (arith, enough)))
    where
      by : (x : Value) × (slice_get all position ≡ Some x) → interfaces.outs_among m variables (drop (suc position) all) ≡ told all (outs_from m (suc position) variables) → interfaces.outs_among m (v ∷ variables) (drop position all) ≡ told all (outs_from m position (v ∷ variables))
      by here more = ap (interfaces.outs_among m (v ∷ variables)) (get_drop all position here.0 here.1) ∙ one (number_on m decoration.LOCATION v.id)
        where
          one : (o : Option ℕ) → cons_option (out_if v here.0 o) (interfaces.outs_among m variables (drop (suc position) all)) ≡ told all (cons_option (out_at position v.class o) (outs_from m (suc position) variables))
          one None = more
          one (Some location) = two (v.class == storage_class.OUTPUT)
            where
              two : (b : Bool) → cons_option (cond b (Some (record { location = location; words = components_in here.0 })) None) (interfaces.outs_among m variables (drop (suc position) all)) ≡ told all (cons_option (cond b (Some (position, location)) None) (outs_from m (suc position) variables))
              two true = rw (here.1) (ap (λ l. record { location = location; words = components_in here.0 } ∷ l) more)
              two false = more

-- ---- the outputs of the shader

module _ (m : Module) (input : Input) (whole : Sections) (f : Frame m input whole) (p : Program) (around : Around) (same : around.interfaces ≡ p.interfaces) (s : shader.State) (state : State) (holds : Holds m input whole f p around s state) (typed : AreTyped m input whole f p around s) where
  has_value : (number : ℕ) (i : Passed) → slice_get p.interfaces number ≡ Some i → (v : Value) × (slice_get s.interfaces number ≡ Some v)
  has_value number i is = by (slice_get s.interfaces number) refl (subst (λ o. HasType m input whole f p around (type_of_interface o) (slice_get s.interfaces number)) (ap (λ l. slice_get l number) same ∙ is) (typed.each (Interface number)))
    where
      by : (o : Option Value) → slice_get s.interfaces number ≡ o → HasType m input whole f p around (Some i.ty) o → (v : Value) × (slice_get s.interfaces number ≡ Some v)
      by None e h = absurd h
      by (Some v) e h = (v, e)

  at_position : (number position : ℕ) (v : Value) → f.seat (Interface number) ≡ Some position → slice_get s.interfaces number ≡ Some v → slice_get state.variables position ≡ Some v
  at_position number position v seat is =
      let h = holds.values (Interface number) v is in
      subst (λ k. slice_get state.variables k ≡ Some v) (one h.0 (sym h.1 ∙ seat)) h.2
    where
      one : (k : ℕ) → Some k ≡ Some position → k ≡ position
      one k e = cc

  outs_same : (number : ℕ) (interfaces : List Passed) (outs : List (ℕ × ℕ)) → AreOuts f.seat number interfaces outs → drop number p.interfaces ≡ interfaces → told state.variables outs ≡ stages.outs_among interfaces (drop number s.interfaces)
  outs_same number _ _ AreOuts.none e = sym (none (drop number s.interfaces))
    where
      none : (values : List Value) → stages.outs_among [] values ≡ []
      none [] = refl
      none (value ∷ values) = refl
  outs_same number _ _ (AreOuts.input {i = i} {interfaces = interfaces} {outs = outs} is more) e =
      let d = drop_cons p.interfaces number i interfaces e in
      let v = has_value number i d.0 in
      outs_same (suc number) interfaces outs more d.1
      ∙ sym (ap (stages.outs_among (i ∷ interfaces)) (get_drop s.interfaces number v.0 v.1)
      ∙ ap (λ b. cond b (record { location = i.location; words = components_in v.0 } ∷ stages.outs_among interfaces (drop (suc number) s.interfaces)) (stages.outs_among interfaces (drop (suc number) s.interfaces))) is)
  outs_same number _ _ (AreOuts.output {i = i} {interfaces = interfaces} {outs = outs} position is seat more) e =
      let d = drop_cons p.interfaces number i interfaces e in
      let v = has_value number i d.0 in
      let later = outs_same (suc number) interfaces outs more d.1 in
      ap (λ o. cons_option (located o i.location) (told state.variables outs)) (at_position number position v.0 seat v.1)
      ∙ ap (λ l. record { location = i.location; words = components_in v.0 } ∷ l) later
      ∙ sym (ap (stages.outs_among (i ∷ interfaces)) (get_drop s.interfaces number v.0 v.1)
      ∙ ap (λ b. cond b (record { location = i.location; words = components_in v.0 } ∷ stages.outs_among interfaces (drop (suc number) s.interfaces)) (stages.outs_among interfaces (drop (suc number) s.interfaces))) is)

  abbrev given_out : List Located → Output
  given_out outs = record { buffers = state.buffers; outs = ascending outs; killed = false; rest = length state.choices }

  pub output_told : HasOutputs m input whole f p → interfaces.output_of m false state ≡ output_of p input false s
  output_told has =
      let count = holds.count in
      let enough = has.enough in
      let outs = outs_told m state.variables 0 (value_variables m) (omega (arith, count, enough)) ∙ outs_same 0 p.interfaces (outs_from m 0 (value_variables m)) has.outs refl in
      ap given_out outs ∙ ap (λ b. record { buffers = b; outs = ascending (stages.outs_among p.interfaces s.interfaces); killed = false; rest = length state.choices }) holds.buffers
      ∙ ap (λ c. record { buffers = put_blocks p.structs p.blocks s.blocks input.buffers; outs = ascending (stages.outs_among p.interfaces s.interfaces); killed = false; rest = length c }) holds.choices
