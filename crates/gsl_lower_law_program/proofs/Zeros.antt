-- What the variables of a function begin as.
use Rattle.std.proofs.Common.{◌≡◌, refl, sym, ap, ◌∙◌, subst, ℕ, suc, zero, Bool, true, false, IsTrue, List, [], ◌∷◌, length, replicate, slice_get, Option, Some, None, if◌then◌else◌}
use Rattle.std.specs.Prelude.{◌==◌}
use Rattle.std.specs.List.{Contains}
use Rattle.gsl_types.specs.Known.{IsSound, is_plain}
use Rattle.gsl_types.specs.declared.ty.StructType.{StructType}
use Rattle.gsl_types.specs.declared.ty.Ty.{Ty}
use Rattle.gsl_words.specs.declared.module.Module.{Module}
use Rattle.gsl_values.specs.declared.value.Value.TheVariants.{Many, Word}
use Rattle.gsl_tree.specs.Shapes.{Shape, shape_of}
use Rattle.gsl_tree.specs.Values.{zero_value}
use Rattle.gsl_machine.specs.Constants.{constant, zeros}
use Rattle.gsl_sound_code.proofs.Looks.{Kept}
use Rattle.gsl_spv.specs.Declarations as d
use Rattle.gsl_spv.specs.Growing.{Extends}
use Rattle.gsl_spv.specs.Sections.{Sections}
use Rattle.gsl_spv.specs.declared.plain.PlainType.TheVariants as plain
use Rattle.gsl_spv.proofs.Answering.{plain_once}
use Rattle.gsl_spv.proofs.Extending.{extends_then}
use Rattle.gsl_lower_values.specs.Building.{Built, Full, Made, behind as step_behind, given}
use Rattle.gsl_lower_values.specs.Types.{plain_scalar, scalar_type, type_of, vector_type}
use Rattle.gsl_lower_text.specs.Written.{Written}
use Rattle.gsl_lower_holders.specs.Flow.{Flow, Gives, built_in, find_type, id_at, type_by, type_id}
use Rattle.gsl_lower_types.proofs.Finding.{came}
use Rattle.gsl_lower_law_entered.specs.Modules.{Declared}
use Rattle.gsl_lower_law_zeros.proofs.Given.{zero_is, zero_of}
use Rattle.gsl_lower_law_zeros.proofs.Said.{null_begins, scalar_zero, vector_zero}
use Rattle.gsl_lower_law_outside.specs.OfLawOpening.{AllHaveZeros, HasZeros}
use Rattle.gsl_lower_law_outside.proofs.OfLawOpening.{same_flow, same_given, step_opens}
use Rattle.gsl_lower_law_outside.specs.Known.{AreTold}
use Rattle.gsl_lower_law_outside.proofs.Keeping.{interned, interns_add, same_after, same_made, there}

module _ (m : Module) (whole : Sections) (structs : List StructType) (kept : Kept m) (written : Written m whole) where
  -- the type of a scalar or vector
  shape_zero : (shape : Shape) (s : Sections) (id : ℕ) (after : Sections) → type_of shape s ≡ Made id after → Extends after whole → zeros m id ≡ zero_of shape
  unfolding type_of scalar_type
  shape_zero shape s id after made into =
      let c = came (scalar_type shape.0 s) (λ component. if shape.1 == 1 then given component else vector_type shape.1 component) id after made in
      by c.first c.between (interned (d.plain_type (plain_scalar shape.0)) s c.first c.between (plain_once (plain_scalar shape.0)) c.made) (shape.1 == 1) c.then_
    where
      by : (component : ℕ) (between : Sections) → Contains between.globals (d.defining (d.plain_type (plain_scalar shape.0)) component) → (b : Bool) → (if b then given component else vector_type shape.1 component) between ≡ Made id after
          → zeros m id ≡ (if b then Word 0 else Many (replicate shape.1 (Word 0)))
      by component between stands true made =
          ap (zeros m) (sym (same_made component id between after made))
          ∙ scalar_zero m shape.0 component (there m whole structs kept written between _ (subst (λ (t : Sections). Extends t whole) (sym (same_after component id between after made)) into) stands)
      by component between stands false made =
          let grows = interns_add (d.plain_type (plain.Vector component shape.1)) between id after made in
          vector_zero m component shape.1 id (there m whole structs kept written after _ into (interned (d.plain_type (plain.Vector component shape.1)) between id after (plain_once (plain.Vector component shape.1)) made))
          ∙ ap (λ v. Many (replicate shape.1 v)) (scalar_zero m shape.0 component (there m whole structs kept written between _ (extends_then grows into) stands))

  -- any type
  type_zero : (t : Ty) (b : Flow) (id : ℕ) (later : Flow) → AreTold m structs b.place.composites → IsSound (length structs) t → IsTrue (is_plain t) → type_id t b ≡ Gives id later → Extends later.sections whole → zeros m id ≡ zero_value structs t
  unfolding type_id
  type_zero t b id later told sound plains gives into = by (shape_of t) refl gives
    where
      found : (o : Option ℕ) → find_type t b.place.composites ≡ o → id_at o b ≡ Gives id later → zeros m id ≡ zero_value structs t
      found None is e = absurd (cc)
      found (Some known) is e = told.zeros t id (is ∙ ap Some (same_given known id b later e)) sound plains

      by : (o : Option Shape) → shape_of t ≡ o → type_by t o b ≡ Gives id later → zeros m id ≡ zero_value structs t
      by None is e = found (find_type t b.place.composites) refl e
      by (Some shape) is e =
          let o = step_opens (type_of shape b.sections) (λ n. given n) b.place id later (behind_given (type_of shape b.sections) ∙ e) in
          let same = same_given o.0 id (record { sections = o.1; place = b.place }) later o.3 in
          ap (zeros m) (sym same)
          ∙ shape_zero shape b.sections o.0 o.1 o.2 (subst (λ (f : Flow). Extends f.sections whole) (sym (same_flow o.0 id (record { sections = o.1; place = b.place }) later o.3)) into) ∙ sym (zero_is structs t shape sound is)
        where
          behind_given : (r : Built ℕ) → built_in b.place (step_behind r (λ n. given n)) ≡ built_in b.place r
          behind_given Full = refl
          behind_given (Made n s) = refl

  -- a variable whose initialiser is the constant of null of its type
  pub begins_zero : (t : Ty) (b later : Flow) (v : Declared) → AreTold m structs b.place.composites → IsSound (length structs) t → IsTrue (is_plain t) → HasZeros b later t v → Extends later.sections whole → constant m v.zero ≡ zero_value structs t
  begins_zero t b later v told sound plains z into =
      null_begins m z.type v.zero (there m whole structs kept written later.sections _ into z.null)
      ∙ type_zero t z.at z.type z.then (subst (AreTold m structs) (sym z.known) told) sound plains z.typed (extends_then z.extends into)

-- the variable of a local variable
pub record Zeroed (b later : Flow) (number : ℕ) (t : Ty) (vs : List Declared) : Type 0 where
  pub v : Declared
  pub there : slice_get vs number ≡ Some v
  pub zeros : HasZeros b later t v

pub all_zeroed : (b later : Flow) (locals : List Ty) (vs : List Declared) → AllHaveZeros b later locals vs → (number : ℕ) (t : Ty) → slice_get locals number ≡ Some t → Zeroed b later number t vs
all_zeroed b later [] vs all zero t is = absurd (cc)
all_zeroed b later [] vs all (suc number) t is = absurd (cc)
all_zeroed b later (u ∷ locals) [] all number t is = absurd all
all_zeroed b later (u ∷ locals) (v ∷ vs) all zero t is = let same : u ≡ t = cc in record { v = v; there = refl; zeros = subst (λ x. HasZeros b later x v) same all.0 }
all_zeroed b later (u ∷ locals) (v ∷ vs) all (suc number) t is = let z = all_zeroed b later locals vs all.1 number t is in record { v = z.v; there = z.there; zeros = z.zeros }
