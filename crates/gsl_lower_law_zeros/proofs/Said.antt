-- The zeros of a valid module.
use Rattle.std.proofs.Common.{◌≡◌, refl, sym, ap, ◌∙◌, ℕ, true, false, [], ◌∷◌, Some, replicate}
use Rattle.std.specs.List.{Contains, list_all}
use Rattle.std.proofs.lemmas.Bool.{and_parts, cond-false, cond-true, or_left, or_right}
use Rattle.gsl_instr.specs.Forms.{form_of}
use Rattle.gsl_types.specs.declared.ty.Scalar.{Scalar}
use Rattle.gsl_types.specs.declared.ty.Scalar.TheVariants.{Bool as Boolean, Int, Uint}
use Rattle.gsl_words.specs.declared.module.Instr.{Instr}
use Rattle.gsl_words.specs.declared.module.Module.{Module}
use Rattle.gsl_values.specs.declared.value.Value.TheVariants.{Word, Many}
use Rattle.gsl_valid.specs.Ids.{defined, defines, needs, result}
use Rattle.gsl_valid.specs.Instruction.{read}
use Rattle.gsl_valid.specs.Kinds.{Zeros, constant_is, shape_of}
use Rattle.gsl_valid.specs.Placed.{Code}
use Rattle.gsl_valid.specs.Search.{passed}
use Rattle.gsl_valid.specs.Valid.{Valid}
use Rattle.gsl_machine.specs.Constants.{constant, zeros, zeros_as, zeros_in}
use Rattle.gsl_machine.specs.Interfaces.{globals}
use Rattle.gsl_machine.specs.State.{Ids, Whole}
use Rattle.gsl_sound_code.specs.Rules.{KeepAll}
use Rattle.gsl_sound_code.proofs.Looks.{kept}
use Rattle.gsl_sound_values.proofs.Unfolded.{later_not, passed_whole, result_defines}
use Rattle.gsl_spv.specs.Declarations as d
use Rattle.gsl_spv.specs.Declarations.{defining}
use Rattle.gsl_spv.specs.Sections.{Sections}
use Rattle.gsl_spv.specs.declared.plain.PlainType.TheVariants as plain
use Rattle.gsl_lower_values.specs.Types.{plain_scalar}
use Rattle.gsl_lower_law.specs.Values.{Keeps, Stands}
use Rattle.gsl_lower_text.specs.Written.{Lasts, Written}
use Rattle.gsl_lower_text.proofs.Constants.{At, at, constant_stands, constant_unfolds}
use Rattle.gsl_lower_law_zeros.specs.Nulls.{Nulls}

zeros_stay : (m : Module) (before code : Code) (id : ℕ) → KeepAll m before code → defined before id ≡ true → zeros_in m (passed before code) id ≡ zeros_in m before id
zeros_stay m before [] id keep is = refl
zeros_stay m before (i ∷ code) id keep is =
    zeros_stay m (i ∷ before) code id keep.1 (or_right (defines i id) _ is) ∙ cond-false (defines i id) _ _ (later_not m before i code id keep.0 is)

zeros_by : (m : Module) (before code : Code) (id : ℕ) → KeepAll m before code → defined before id ≡ true → zeros m id ≡ zeros_in m before id
zeros_by m before code id keep is = ap (λ c. zeros_in m c id) (sym (passed_whole m before code keep)) ∙ zeros_stay m before code id keep is

-- zeros are what the instruction of their type says of those before it
pub zeros_unfold : (m : Module) (i : Instr) (a : At m i) (id : ℕ) → result (read i) ≡ Some id → zeros m id ≡ zeros_as m (zeros_in m a.before) (shape_of (read i))
zeros_unfold m i a id gives =
    let here = result_defines i id gives in
    zeros_by m (i ∷ a.before) a.code id a.later (or_left _ _ here) ∙ cond-true (defines i id) _ _ here

-- and what they were before the type was used
pub zeros_before : (m : Module) (i : Instr) (a : At m i) (id : ℕ) → defined a.before id ≡ true → zeros m id ≡ zeros_in m a.before id
zeros_before m i a id is = zeros_by m (i ∷ a.before) a.code id a.later (or_right (defines i id) _ is) ∙ cond-false (defines i id) _ _ (later_not m a.before i a.code id a.keeps is)

module _ (m : Module) where
  pub scalar_zero : (s : Scalar) (id : ℕ) → At m (defining (d.plain_type (plain_scalar s)) id) → zeros m id ≡ Word 0
  unfolding form_of
  scalar_zero Boolean id a = zeros_unfold m (defining (d.plain_type plain.Bool) id) a id refl
  scalar_zero Int id a = zeros_unfold m (defining (d.plain_type (plain.Int true)) id) a id refl
  scalar_zero Uint id a = zeros_unfold m (defining (d.plain_type (plain.Int false)) id) a id refl

  pub vector_zero : (component count id : ℕ) → At m (defining (d.plain_type (plain.Vector component count)) id) → zeros m id ≡ Many (replicate count (zeros m component))
  unfolding form_of
  vector_zero component count id a =
      let i = defining (d.plain_type (plain.Vector component count)) id in
      zeros_unfold m i a id refl
      ∙ ap (λ v. Many (replicate count v)) (sym (zeros_before m i a component (and_parts (defined a.before component) true (and_parts (list_all (defined a.before) (needs (read i))) _ a.keeps.uses).0).0))

  pub null_begins : (type id : ℕ) → At m (defining (d.null type) id) → constant m id ≡ zeros m type
  unfolding form_of
  null_begins type id a = constant_unfolds m (defining (d.null type) id) a id refl

  module _ (own : Ids) (valid : Valid m) (keeps : Keeps (globals m) own) where
    null_stands : (type id : ℕ) → At m (defining (d.null type) id) → Stands own id (zeros m type)
    unfolding form_of
    null_stands type id a =
        let i = defining (d.null type) id in
        keeps.same id _ (constant_stands m (kept m valid) id (type, Zeros) (ap constant_is (a.keeps.own id refl)))
        ∙ ap (λ w. Some (Whole w)) (constant_unfolds m i a id refl)

-- all that is asked of the ids of a function is that what lasts for all functions lasts for it
pub nulls_kept : (m : Module) (s : Sections) (own : Ids) → Valid m → Written m s → Keeps (globals m) own → Nulls m s own
nulls_kept m s own valid written keeps =
    let global : (i : Instr) → Contains s.globals i → At m i = λ i there. at m (kept m valid) i (written.globals i there) in
    record {
      null = λ type id there. null_stands m own valid keeps type id (global _ there);
      begins = λ type id there. null_begins m type id (global _ there);
      scalar = λ scalar id there. scalar_zero m scalar id (global _ there);
      vector = λ component count id there. vector_zero m component count id (global _ there);
    }

pub nulls_said : (m : Module) (s : Sections) (own : Ids) → Valid m → Written m s → Lasts m own → Nulls m s own
nulls_said m s own valid written lasts = nulls_kept m s own valid written lasts.keeps
