-- The decorations of a valid module.
use Rattle.std.proofs.Common.{◌≡◌, refl, sym, ap, ◌∙◌, inl, inr, ℕ, true, false, ◌&&◌, ◌||◌, not, List, [], ◌∷◌, Option, Some, None}
use Rattle.std.specs.Prelude.{◌==◌, is_some}
use Rattle.std.specs.List.{Contains}
use Rattle.std.specs.Option.{option_map_or}
use Rattle.std.proofs.lemmas.Bool.{and_from, and_parts, cond-false, cond-true, eq-eqb, false≢true, not-true, or_parts}
use Rattle.gsl_instr.specs.Forms.{form_of}
use Rattle.gsl_instr.specs.declared.enumerant.decoration.TheConstants as decoration
use Rattle.gsl_instr.specs.declared.enumerant.storage_class.TheConstants as storage_class
use Rattle.gsl_words.specs.declared.module.Instr.{Instr}
use Rattle.gsl_words.specs.declared.module.Module.{Module}
use Rattle.gsl_valid.specs.DecorationRules.{decorates, decoration_kept, differ, has_literals, is_decorated, may_stand, variable_decorated}
use Rattle.gsl_valid.specs.Decorations.{has, literals_if, literals_on, number_in, number_on, number_on_member, same_place, stands_on}
use Rattle.gsl_valid.specs.Instruction.{read}
use Rattle.gsl_valid.specs.Kinds.{Decoration, On, OnMember, Place, Variable, decoration_of, variable_is}
use Rattle.gsl_valid.specs.Placed.{Code}
use Rattle.gsl_valid.specs.Types.{defined_as}
use Rattle.gsl_valid.specs.Where.{where_at}
use Rattle.gsl_valid.proofs.Lookups.{Has}
use Rattle.gsl_sound_code.specs.Rules.{KeepAll}
use Rattle.gsl_sound_code.proofs.Looks.{Kept}
use Rattle.gsl_sound_ids.proofs.Variables.{outer}
use Rattle.gsl_spv.specs.Calls.{decorating}
use Rattle.gsl_lower_text.proofs.Constants.{has_at}

-- ---- each stands once

same_itself : (p : Place) → same_place p p ≡ true
same_itself (On t) = eq-eqb t t refl
same_itself (OnMember t k) = and_from _ _ (eq-eqb t t refl) (eq-eqb k k refl)

stands_itself : (d : Decoration) → stands_on d.place d.kind d ≡ true
stands_itself d = and_from _ _ (eq-eqb d.kind d.kind refl) (same_itself d.place)

module _ (m : Module) where
  -- before a decoration none of its kind stands on its place
  none_before : (before code : Code) (i : Instr) (d : Decoration) → KeepAll m before code → Has code i → decoration_of (read i) ≡ Some d → decorates before d.place d.kind ≡ false
  none_before before [] i d keep there is = absurd there
  none_before before (j ∷ code) i d keep (inl same) is =
      let e : decoration_of (read j) ≡ Some d = ap (λ k. decoration_of (read k)) same ∙ is in
      let all : option_map_or (decoration_kept m before) (decoration_of (read j)) true ≡ true = (and_parts (option_map_or (decoration_kept m before) (decoration_of (read j)) true) (variable_decorated m before (variable_is (read j))) keep.0.decoration).0 in
      let own : decoration_kept m before d ≡ true = ap (λ o. option_map_or (decoration_kept m before) o true) (sym e) ∙ all in
      not-true (decorates before d.place d.kind) (and_parts (may_stand m d.kind d.place && has_literals d.kind d.literals) (not (decorates before d.place d.kind)) own).1
  none_before before (j ∷ code) i d keep (inr later) is =
      (or_parts (option_map_or (stands_on d.place d.kind) (decoration_of (read j)) false) (decorates before d.place d.kind) (none_before (j ∷ before) code i d keep.1 later is)).1

  -- so it is the one that is found
  literals_found : (before code : Code) (i : Instr) (d : Decoration) → KeepAll m before code → Has code i → decoration_of (read i) ≡ Some d → literals_on code d.place d.kind ≡ Some d.literals
  literals_found before [] i d keep there is = absurd there
  literals_found before (j ∷ code) i d keep (inl same) is =
      let e : decoration_of (read j) ≡ Some d = ap (λ k. decoration_of (read k)) same ∙ is in
      ap (λ o. literals_if (option_map_or (stands_on d.place d.kind) o false) o (literals_on code d.place d.kind)) e ∙ cond-true (stands_on d.place d.kind d) (Some d.literals) (literals_on code d.place d.kind) (stands_itself d)
  literals_found before (j ∷ code) i d keep (inr later) is =
      skip (decoration_of (read j)) (literals_on code d.place d.kind) (or_parts (option_map_or (stands_on d.place d.kind) (decoration_of (read j)) false) (decorates before d.place d.kind) (none_before (j ∷ before) code i d keep.1 later is)).0
      ∙ literals_found (j ∷ before) code i d keep.1 later is
    where
      skip : (o : Option Decoration) (rest : Option (List ℕ)) → option_map_or (stands_on d.place d.kind) o false ≡ false → literals_if (option_map_or (stands_on d.place d.kind) o false) o rest ≡ rest
      skip None rest off = refl
      skip (Some x) rest off = cond-false (stands_on d.place d.kind x) (Some x.literals) rest off

  module _ (kept : Kept m) where
    marked : (target what n : ℕ) → Contains m.instrs (decorating target None what (Some n)) → literals_on m.instrs (On target) what ≡ Some (n ∷ [])
    unfolding form_of
    marked target what n there =
        literals_found [] m.instrs (decorating target None what (Some n)) (record { place = On target; kind = what; literals = n ∷ [] }) kept.all (has_at m.instrs (decorating target None what (Some n)) there) refl

    -- the number of a decoration is found
    pub number_found : (target what n : ℕ) → Contains m.instrs (decorating target None what (Some n)) → number_on m what target ≡ Some n
    number_found target what n there = ap number_in (marked target what n there)

    -- and so is that of a member's
    pub member_number_found : (target member what n : ℕ) → Contains m.instrs (decorating target (Some member) what (Some n)) → number_on_member m what target member ≡ Some n
    unfolding form_of
    member_number_found target member what n there =
        ap number_in (literals_found [] m.instrs (decorating target (Some member) what (Some n)) (record { place = OnMember target member; kind = what; literals = n ∷ [] }) kept.all (has_at m.instrs (decorating target (Some member) what (Some n)) there) refl)

    -- ---- a location or a built-in variable

    other_none : (a b : Option (List ℕ)) (l : List ℕ) → a ≡ Some l → differ (is_some a) (is_some b) ≡ true → b ≡ None
    other_none None b l is differs = absurd (cc)
    other_none (Some x) None l is differs = refl
    other_none (Some x) (Some y) l is differs = absurd (false≢true differs)

    first_none : (a b : Option (List ℕ)) (l : List ℕ) → b ≡ Some l → differ (is_some a) (is_some b) ≡ true → a ≡ None
    first_none None b l is differs = refl
    first_none (Some x) None l is differs = absurd (cc)
    first_none (Some x) (Some y) l is differs = absurd (false≢true differs)

    -- of an input one of the two is there
    differs : (v : Variable) → variable_is (defined_as m v.id) ≡ Some v → v.class ≡ storage_class.INPUT → differ (has m decoration.LOCATION v.id) (has m decoration.BUILT_IN v.id) ≡ true
    differs v is class =
        let o = outer m kept v.id v is (ap (λ c. c == storage_class.FUNCTION) class) in
        let all : variable_decorated m o.before (variable_is (read o.instr)) ≡ true = (and_parts (option_map_or (decoration_kept m o.before) (decoration_of (read o.instr)) true) (variable_decorated m o.before (variable_is (read o.instr))) o.keeps.decoration).1 in
        let own : ((where_at m o.before).inside || is_decorated m o.before v.type v.id v.class) ≡ true = ap (variable_decorated m o.before) (sym o.is) ∙ all in
        let here : is_decorated m o.before v.type v.id v.class ≡ true = ap (λ b. b || is_decorated m o.before v.type v.id v.class) (sym o.inside) ∙ own in
        ap (is_decorated m o.before v.type v.id) (sym class) ∙ here

    -- an input with a location is no built-in variable
    pub no_built_in : (v : Variable) (n : ℕ) → variable_is (defined_as m v.id) ≡ Some v → v.class ≡ storage_class.INPUT → Contains m.instrs (decorating v.id None decoration.LOCATION (Some n)) → number_on m decoration.BUILT_IN v.id ≡ None
    no_built_in v n is class there =
        ap number_in (other_none (literals_on m.instrs (On v.id) decoration.LOCATION) (literals_on m.instrs (On v.id) decoration.BUILT_IN) (n ∷ []) (marked v.id decoration.LOCATION n there) (differs v is class))

    -- and a built-in variable has no location
    pub no_location : (v : Variable) (n : ℕ) → variable_is (defined_as m v.id) ≡ Some v → v.class ≡ storage_class.INPUT → Contains m.instrs (decorating v.id None decoration.BUILT_IN (Some n)) → number_on m decoration.LOCATION v.id ≡ None
    no_location v n is class there =
        ap number_in (first_none (literals_on m.instrs (On v.id) decoration.LOCATION) (literals_on m.instrs (On v.id) decoration.BUILT_IN) (n ∷ []) (marked v.id decoration.BUILT_IN n there) (differs v is class))
