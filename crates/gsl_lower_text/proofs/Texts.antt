-- What a valid module says of the sections that it is made of.
use Rattle.std.proofs.Common.{◌≡◌, refl, sym, ap, ap₂, ◌∙◌, ℕ, Bool, true, false, List, [], ◌∷◌, length, map, Option, Some, None}
use Rattle.std.specs.List.{Contains, list_all}
use Rattle.std.specs.Prelude.{◌==◌}
use Rattle.std.proofs.lemmas.Bool.{and_parts, false≢true}
use Rattle.gsl_instr.specs.Forms.{form_of}
use Rattle.gsl_words.specs.declared.module.Instr.{Instr}
use Rattle.gsl_words.specs.declared.module.Module.{Module}
use Rattle.gsl_values.specs.declared.value.Value.{Value}
use Rattle.gsl_values.specs.declared.value.Value.TheVariants.{Word, Many}
use Rattle.gsl_values.specs.Word.{word_of_bool}
use Rattle.gsl_valid.specs.ConstantRules.{are_parts, have_all, have_each, is_constant, is_constant_of}
use Rattle.gsl_valid.specs.Ids.{defined, needs, result}
use Rattle.gsl_valid.specs.Instruction.{read}
use Rattle.gsl_valid.specs.Kinds.{Shape, OfVector, OfArray, OfStruct, Value as Fixed, Parts, constant_is, constant_type, kind, shape_of, value_of}
use Rattle.gsl_valid.specs.OperandRules.{is_vector}
use Rattle.gsl_valid.specs.Types.{defined_as, is_type}
use Rattle.gsl_valid.specs.Valid.{Valid}
use Rattle.gsl_machine.specs.Constants.{constant, constant_in, fixed_if}
use Rattle.gsl_machine.specs.State.{Ids, Whole}
use Rattle.gsl_sound_code.proofs.Looks.{Kept, constant_at, kept}
use Rattle.gsl_spv.specs.Declarations as d
use Rattle.gsl_spv.specs.Declarations.{defining}
use Rattle.gsl_spv.specs.Sections.{Sections}
use Rattle.gsl_spv.specs.declared.plain.PlainType.TheVariants as plain
use Rattle.gsl_lower_law.specs.Values.{Stands, StandEach, Text}
use Rattle.gsl_lower_text.specs.Written.{Lasts, Written}
use Rattle.gsl_lower_text.proofs.Constants.{At, at, constant_stands, constant_unfolds, part_by}

module _ (m : Module) (has : Kept m) (own : Ids) (lasts : Lasts m own) where
  -- a constant's id stands for its value
  stands : (i : Instr) (id : ℕ) (c : ℕ × Fixed) (v : Value) (a : At m i) → result (read i) ≡ Some id → constant_is (read i) ≡ Some c → fixed_if m (constant_in m a.before) i (Some c) ≡ v → Stands own id v
  stands i id c v a gives fixed is =
      lasts.keeps.same id _ (constant_stands m has id c (ap constant_is (a.keeps.own id gives) ∙ fixed))
      ∙ ap (λ w. Some (Whole w)) (constant_unfolds m i a id gives ∙ ap (fixed_if m (constant_in m a.before) i) fixed ∙ is)

  -- ---- constants of several parts

  typed : (type : ℕ) (o : Option (ℕ × Fixed)) → is_type type (constant_type o) ≡ true → (c : ℕ × Fixed) × (o ≡ Some c)
  typed type None is = absurd (false≢true is)
  typed type (Some c) is = (c, refl)

  -- each of the ids is that of a constant
  abbrev AreConstants : List ℕ → Type 0
  AreConstants [] = Unit {0}
  AreConstants (id ∷ ids) = ((c : ℕ × Fixed) × (constant_is (defined_as m id) ≡ Some c)) × AreConstants ids

  all_constants : (type : ℕ) (ids : List ℕ) → list_all (is_constant_of m type) ids ≡ true → AreConstants ids
  all_constants type [] is = tt
  all_constants type (id ∷ ids) is = let p = and_parts (is_constant_of m type id) (list_all (is_constant_of m type) ids) is in (typed type (constant_is (defined_as m id)) p.0, all_constants type ids p.1)

  each_constant : (types ids : List ℕ) → have_each (is_constant_of m) types ids ≡ true → AreConstants ids
  each_constant [] [] is = tt
  each_constant [] (id ∷ ids) is = absurd (false≢true is)
  each_constant (type ∷ types) [] is = absurd (false≢true is)
  each_constant (type ∷ types) (id ∷ ids) is = let p = and_parts (is_constant_of m type id) (have_each (is_constant_of m) types ids) is in (typed type (constant_is (defined_as m id)) p.0, each_constant types ids p.1)

  counted_constants : (type : ℕ) (count : Option ℕ) (ids : List ℕ) → have_all (is_constant_of m) type count ids ≡ true → AreConstants ids
  counted_constants type None ids is = absurd (false≢true is)
  counted_constants type (Some count) ids is = all_constants type ids (and_parts (length ids == count) (list_all (is_constant_of m type) ids) is).1

  parts_constant : (s : Shape) (ids : List ℕ) → are_parts m (is_constant_of m) ids s ≡ true → AreConstants ids
  parts_constant (OfVector component count) ids is = counted_constants component (Some count) ids is
  parts_constant (OfArray element size) ids is = counted_constants element (value_of (defined_as m size)) ids is
  parts_constant (OfStruct id members) ids is = each_constant members ids is
  parts_constant _ ids is = absurd (false≢true is)

  -- what parts stand for are their values
  parts_are : (i : Instr) (a : At m i) (ids : List ℕ) (vs : List Value) → list_all (defined a.before) ids ≡ true → AreConstants ids → StandEach own ids vs → map (constant_in m a.before) ids ≡ vs
  parts_are i a [] [] there constants each = refl
  parts_are i a [] (v ∷ vs) there constants each = absurd each
  parts_are i a (id ∷ ids) [] there constants each = absurd each
  parts_are i a (id ∷ ids) (v ∷ vs) there constants each =
      let p = and_parts (defined a.before id) (list_all (defined a.before) ids) there in
      ap₂ (λ w ws. w ∷ ws) (sym (part_by m i a id p.0) ∙ same (lasts.keeps.same id _ (constant_stands m has id constants.0.0 constants.0.1)) each.0) (parts_are i a ids vs p.1 constants.1 each.1)
    where
      same : own id ≡ Some (Whole (constant m id)) → own id ≡ Some (Whole v) → constant m id ≡ v
      same first second = let both : Some (Whole (constant m id)) ≡ Some (Whole v) = sym first ∙ second in cc

  composite_stands : (type : ℕ) (parts : List ℕ) (id : ℕ) (vs : List Value) → At m (defining (d.composite type parts) id) → StandEach own parts vs → Stands own id (Many vs)
  unfolding form_of
  composite_stands type parts id vs a each =
      let i = defining (d.composite type parts) id in
      stands i id (type, Parts parts) (Many vs) a refl refl (ap Many (parts_are i a parts vs
      (and_parts (defined a.before type) (list_all (defined a.before) parts) (and_parts (list_all (defined a.before) (needs (read i))) _ a.keeps.uses).0).1
      (parts_constant (shape_of (defined_as m type)) parts (ap (λ x. is_constant m (constant_is x)) (sym (a.keeps.own id refl)) ∙ constant_at m has id))
      each))

  -- ---- the others

  vector_is : (component count id : ℕ) → At m (defining (d.plain_type (plain.Vector component count)) id) → is_vector (shape_of (defined_as m id)) ≡ true
  unfolding form_of
  vector_is component count id a = ap (λ x. is_vector (shape_of x)) (a.keeps.own id refl)

  truth_stands : (value : Bool) (type id : ℕ) → At m (defining (d.truth value type) id) → Stands own id (Word (word_of_bool value))
  unfolding form_of
  truth_stands true type id a = stands (defining (d.truth true type) id) id _ (Word 1) a refl refl refl
  truth_stands false type id a = stands (defining (d.truth false type) id) id _ (Word 0) a refl refl refl

  word_stands : (type bits id : ℕ) → At m (defining (d.word type bits) id) → Stands own id (Word bits)
  unfolding form_of
  word_stands type bits id a = stands (defining (d.word type bits) id) id _ (Word bits) a refl refl refl

pub text_said : (m : Module) (s : Sections) (own : Ids) → Valid m → Written m s → Lasts m own → Text m s own
text_said m s own valid written lasts =
    let has = kept m valid in
    let global : (i : Instr) → Contains s.globals i → At m i = λ i there. at m has i (written.globals i there) in
    record {
      vector = λ component count id there. vector_is m has own lasts component count id (global _ there);
      truth = λ value type id there. truth_stands m has own lasts value type id (global _ there);
      word = λ type bits id there. word_stands m has own lasts type bits id (global _ there);
      composite = λ type parts id vs there each. composite_stands m has own lasts type parts id vs (global _ there) each;
      apart = λ i type id there gives is. lasts.apart id type (ap kind ((at m has i (written.functions i there)).keeps.own id is) ∙ gives);
    }
