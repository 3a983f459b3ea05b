-- What a valid module says of arrays and structs.
use Rattle.std.proofs.Common.{◌≡◌, refl, sym, ap, ◌∙◌, ℕ, true, false, List, [], ◌∷◌, map, replicate, unwrap_or}
use Rattle.std.specs.List.{list_all}
use Rattle.std.proofs.lemmas.Bool.{and_parts}
use Rattle.gsl_instr.specs.Forms.{form_of}
use Rattle.gsl_words.specs.declared.module.Instr.{Instr}
use Rattle.gsl_words.specs.declared.module.Module.{Module}
use Rattle.gsl_values.specs.declared.value.Value.TheVariants.{Many}
use Rattle.gsl_valid.specs.Ids.{defined, needs}
use Rattle.gsl_valid.specs.Instruction.{read}
use Rattle.gsl_valid.specs.Kinds.{shape_of, value_of}
use Rattle.gsl_valid.specs.OperandRules.{is_vector}
use Rattle.gsl_valid.specs.Types.{defined_as}
use Rattle.gsl_machine.specs.Constants.{length_by, zeros, zeros_in}
use Rattle.gsl_spv.specs.Declarations as d
use Rattle.gsl_spv.specs.Declarations.{defining}
use Rattle.gsl_lower_text.proofs.Constants.{At}
use Rattle.gsl_lower_law_opening.proofs.OfLawZeros.{zeros_before, zeros_unfold}

module _ (m : Module) where
  -- an array's zeros are as many of its element's as the constant of its length says
  pub array_zero : (element length id count : ℕ) → At m (defining (d.array_type element length) id) → length_by m length ≡ count → zeros m id ≡ Many (replicate count (zeros m element))
  unfolding form_of
  array_zero element length id count a long =
      let i = defining (d.array_type element length) id in
      zeros_unfold m i a id refl
      ∙ ap (λ v. Many (replicate (length_by m length) v)) (sym (zeros_before m i a element (and_parts (defined a.before element) _ (and_parts (list_all (defined a.before) (needs (read i))) _ a.keeps.uses).0).0))
      ∙ ap (λ n. Many (replicate n (zeros m element))) long

  members_before : (i : Instr) (a : At m i) (ids : List ℕ) → list_all (defined a.before) ids ≡ true → map (zeros_in m a.before) ids ≡ map (zeros m) ids
  members_before i a [] all = refl
  members_before i a (id ∷ ids) all =
      let p = and_parts (defined a.before id) (list_all (defined a.before) ids) all in
      ap (λ v. v ∷ map (zeros_in m a.before) ids) (sym (zeros_before m i a id p.0)) ∙ ap (λ l. zeros m id ∷ l) (members_before i a ids p.1)

  -- a struct's those of its members
  pub struct_zero : (members : List ℕ) (id : ℕ) → At m (defining (d.struct_type members) id) → zeros m id ≡ Many (map (zeros m) members)
  unfolding form_of
  struct_zero members id a =
      let i = defining (d.struct_type members) id in
      zeros_unfold m i a id refl ∙ ap Many (members_before i a members (and_parts (list_all (defined a.before) (needs (read i))) _ a.keeps.uses).0)

  -- neither is a vector
  pub array_plain : (element length id : ℕ) → At m (defining (d.array_type element length) id) → is_vector (shape_of (defined_as m id)) ≡ false
  unfolding form_of
  array_plain element length id a = ap (λ o. is_vector (shape_of o)) (a.keeps.own id refl)

  pub struct_plain : (members : List ℕ) (id : ℕ) → At m (defining (d.struct_type members) id) → is_vector (shape_of (defined_as m id)) ≡ false
  unfolding form_of
  struct_plain members id a = ap (λ o. is_vector (shape_of o)) (a.keeps.own id refl)

  -- the length that a constant gives is its word
  pub length_said : (type bits id : ℕ) → At m (defining (d.word type bits) id) → length_by m id ≡ bits
  unfolding form_of
  length_said type bits id a = ap (λ o. unwrap_or (value_of o) 0) (a.keeps.own id refl)
