-- Built-in functions: instructions of the set of GLSL, and others.
use Rattle.std.proofs.Common.{◌≡◌, ℕ, ◌+◌, Bool, true, false, cond, List, [], ◌∷◌, ◌++◌, length, Option, Some, None, refl, sym, ap, ◌∙◌, subst, ◌⊎◌, inl, inr}
use Rattle.std.specs.Prelude.{◌==◌, nat_le, find}
use Rattle.std.specs.List.{AllByRecursion, list_all}
use Rattle.std.proofs.lemmas.Bool.{and_from, eq-eqb}
use Rattle.gsl_instr.specs.Forms.{form_of}
use Rattle.gsl_instr.specs.declared.op.TheConstants as op
use Rattle.gsl_instr.specs.declared.form.Form.TheVariants as form
use Rattle.gsl_instr.specs.declared.instruction.Instruction.TheVariants as instruction
use Rattle.gsl_tree.specs.Shapes.{Shape, is_integer}
use Rattle.gsl_words.specs.declared.module.Instr.{Instr}
use Rattle.gsl_words.specs.declared.module.Module.{Module}
use Rattle.gsl_valid.specs.ExtendedRules as ext
use Rattle.gsl_valid.specs.Kinds.{kind}
use Rattle.gsl_valid.specs.OperandRules as rules
use Rattle.gsl_valid.specs.Types.{has_type}
use Rattle.gsl_spv.specs.Calls.{glsl_set, imported, importing, imports_of, with_import}
use Rattle.gsl_spv.specs.Growing.{Extends}
use Rattle.gsl_spv.specs.Sections.{Sections}
use Rattle.gsl_spv.specs.declared.refusal.TheConstants.{MOST_IDS}
use Rattle.gsl_spv.proofs.Extending.{extends_glsl_set, extends_then}
use Rattle.gsl_lower_values.specs.Building.{Made, Full, behind, giving, id_by}
use Rattle.gsl_lower_values.specs.Builtins as builtins
use Rattle.gsl_lower_values.specs.Types as types
use Rattle.gsl_fitting.specs.Fits.{Frame, is_known}
use Rattle.gsl_fitting_steps.proofs.Adding.{importing_fine}
use Rattle.gsl_fitting_steps.proofs.Joining.{nothing_put}
use Rattle.gsl_fitting_types.specs.Making.{AreSorted, Comes, IsSized, IsTypeOf, Sorts, Stands, made}
use Rattle.gsl_fitting_operators.proofs.Forms.{ints, known_type, same_type, stands_as}
use Rattle.gsl_fitting_types.proofs.Knowing.{import_is, import_outside, outside_known, some_is}
use Rattle.gsl_fitting_operators.proofs.Operators.{Fits, Gives, Value, typed_comes, typed_sorts, value_later}
use Rattle.gsl_fitting_types.proofs.Sorting.{import_sorts, sorts_then}
use Rattle.gsl_fitting_types.proofs.Stepping.{Wider, comes_then}

-- ---- it sorts

pub extend_sorts : (number : ℕ) (operands : List ℕ) (shape : Shape) (s : Sections) → Sorts s (builtins.extend number operands shape s)
unfolding builtins.extend form_of
extend_sorts number operands shape s =
    sorts_then s (id_by glsl_set s) (λ set t. behind (types.type_of shape t) (giving op.EXT_INST (set ∷ number ∷ operands))) (import_sorts s)
    (λ set t. typed_sorts shape op.EXT_INST (set ∷ number ∷ operands) t (λ type id. refl))

-- the set is imported once
import_functions : (s : Sections) → (glsl_set s).sections.functions ≡ s.functions
import_functions s = by (imported s.imports)
  where
    by : (o : Option ℕ) → (with_import o s).sections.functions ≡ s.functions
    by (Some id) = refl
    by None = refl

-- sections with this import, or such that the whole has it
one_import : (w : ℕ) (i : Instr) (more : List Instr) → i ∷ more ≡ importing w ∷ [] → (i ≡ importing w) × (more ≡ [])
one_import w i more e = (cc, cc)

module _ (whole : Sections) (main : ℕ) (local_size : List ℕ) (rank : ℕ → ℕ) (f : Frame) (sorted : AreSorted whole) where
  abbrev m : Module
  m = made whole main local_size rank f

  abbrev V : List ℕ → Shape → ℕ → Type 0
  V given shape id = Value whole main local_size rank f sorted given shape id

  -- the sections have the import under this id
  abbrev IsSet : ℕ → Sections → Type 0
  IsSet id at = at.imports ≡ imports_of (Some id)

  -- what is in front of one import is it or nothing
  front_import : (w : ℕ) (imports more : List Instr) → imports ++ more ≡ importing w ∷ [] → (imports ≡ []) ⊎ (imports ≡ importing w ∷ [])
  front_import w [] more e = inl refl
  front_import w (i ∷ []) more e = inr (ap (λ k. k ∷ []) (one_import w i more e).0)
  front_import w (i ∷ j ∷ rest) more e = absurd (none (one_import w i (j ∷ rest ++ more) e).1)
    where
      none : j ∷ (rest ++ more) ≡ [] → ⊥
      none p = cc

  no_front : (imports more : List Instr) → imports ++ more ≡ [] → imports ≡ []
  no_front [] more e = refl
  no_front (i ∷ imports) more e = absurd (none e)
    where
      none : i ∷ (imports ++ more) ≡ [] → ⊥
      none p = cc

  set_is : (s : Sections) → Extends (glsl_set s).sections whole → IsSet (glsl_set s).id (glsl_set s).sections
  set_is s inside = by sorted.set sorted.imports
    where
      start : Extends s whole
      start = extends_then (extends_glsl_set s) inside

      alone : s.imports ≡ [] → IsSet (glsl_set s).id (glsl_set s).sections
      alone none = subst (λ o. IsSet (with_import o s).id (with_import o s).sections) (sym (ap imported none)) (ap (λ l. l ++ importing (s.last + 1) ∷ []) none)

      by : (set : Option ℕ) → whole.imports ≡ imports_of set → IsSet (glsl_set s).id (glsl_set s).sections
      by None e = alone (no_front s.imports start.imports.more (sym start.imports.is ∙ e))
      by (Some w) e = of (front_import w s.imports start.imports.more (sym start.imports.is ∙ e))
        where
          of : (s.imports ≡ []) ⊎ (s.imports ≡ importing w ∷ []) → IsSet (glsl_set s).id (glsl_set s).sections
          of (inl none) = alone none
          of (inr one) = subst (λ o. IsSet (with_import o s).id (with_import o s).sections) (sym (ap imported one)) one

  import_comes : (given : List ℕ) (s : Sections) → Comes whole main local_size rank f given (λ id now after. IsSet id after) s (id_by glsl_set s)
  import_comes given s = by (nat_le (glsl_set s).sections.last MOST_IDS)
    where
      by : (b : Bool) → Comes whole main local_size rank f given (λ id now after. IsSet id after) s (cond b (Made (glsl_set s).id (glsl_set s).sections) Full)
      by true = λ inside. record {
        now = given;
        goes = record { fine = importing_fine m s; puts = nothing_put m rank f given s (glsl_set s).sections (import_functions s) };
        is = set_is s inside;
      }
      by false = tt

  later_set : (id : ℕ) (at : Sections) → Extends at whole → IsSet id at → whole.imports ≡ imports_of (Some id)
  later_set id at inside is = by sorted.set sorted.imports
    where
      by : (set : Option ℕ) → whole.imports ≡ imports_of set → whole.imports ≡ imports_of (Some id)
      by None e = absurd (none (sym is ∙ no_front at.imports inside.imports.more (sym inside.imports.is ∙ e)))
        where
          none : importing id ∷ [] ≡ [] → ⊥
          none p = cc
      by (Some w) e = e ∙ ap (λ n. imports_of (Some n)) (same (front_import w at.imports inside.imports.more (sym inside.imports.is ∙ e)))
        where
          same : (at.imports ≡ []) ⊎ (at.imports ≡ importing w ∷ []) → w ≡ id
          same (inl none) = let p : importing id ∷ [] ≡ [] = sym is ∙ none in cc
          same (inr one) = some_is w id (ap imported (sym one ∙ is))

  -- an extended instruction has operands of one type, and gives that type or one of ints of its size
  abbrev pub row : ℕ → ℕ → rules.Sign → Bool → ext.Extended
  row number count sign finds = record { number = number; count = count; sign = sign; finds = finds }

  all_typed : (given : List ℕ) (shape : Shape) (type : ℕ) (ids : List ℕ) → IsTypeOf whole shape type → AllByRecursion (V given shape) ids → list_all (has_type m type) ids ≡ true
  all_typed given shape type [] of all = refl
  all_typed given shape type (id ∷ ids) of all = and_from _ _ (same_type whole main local_size rank f sorted given shape type id of all.0) (all_typed given shape type ids of all.1)

  knowns : (given : List ℕ) (shape : Shape) (ids : List ℕ) → AllByRecursion (V given shape) ids → AllByRecursion (λ id. is_known m f given id ≡ true) ids
  knowns given shape [] all = tt
  knowns given shape (id ∷ ids) all = (all.0.known, knowns given shape ids all.1)

  values_later : (given now : List ℕ) (shape : Shape) (ids : List ℕ) → Wider given now → AllByRecursion (V given shape) ids → AllByRecursion (V now shape) ids
  values_later given now shape [] wider all = tt
  values_later given now shape (id ∷ ids) wider all = (value_later whole main local_size rank f sorted given now shape id wider all.0, values_later given now shape ids wider all.1)

  -- what an extended instruction gives of operands of a shape
  abbrev pub AreFit : ext.Extended → Shape → Shape → Type 0
  AreFit e shape from = (((type : ℕ) → IsTypeOf whole from type → rules.is_signed m e.sign type ≡ true) × (is_integer from.0 ≡ true)) × ((type other : ℕ) → IsTypeOf whole shape type → IsTypeOf whole from other → ext.is_result m e.finds type other ≡ true)

  extend_stands : (given : List ℕ) (set number type first : ℕ) (ids : List ℕ) (shape from : Shape) (e : ext.Extended) → form_of op.EXT_INST ≡ Some form.ExtInst → find (λ e. e.number == number) ext.rows ≡ Some e → length (first ∷ ids) ≡ e.count → AreFit e shape from
      → whole.imports ≡ imports_of (Some set) → IsTypeOf whole shape type → AllByRecursion (V given from) (first ∷ ids) → Stands whole main local_size rank f given op.EXT_INST (set ∷ number ∷ first ∷ ids) type
  unfolding form_of
  extend_stands given set number type first ids shape from e is found count fit import of all =
      let v = all.0 in
      stands_as whole main local_size rank f sorted given op.EXT_INST (set ∷ number ∷ first ∷ ids) (set ∷ first ∷ ids) type form.ExtInst (λ id. instruction.ExtInst type id set number (first ∷ ids)) is (λ id. refl) (λ id. refl) (λ id. refl) (λ id. refl) (λ id. refl) (λ id. refl)
      (known_type whole main local_size rank f sorted given shape type of, (outside_known whole main local_size sorted f given set (import_outside whole main local_size sorted set import), knowns given from (first ∷ ids) all))
      (λ id. refl) (λ id. refl)
      (λ id. and_from _ _ (ap (λ o. ext.imports (kind o)) (import_is whole main local_size sorted set import))
      (ap (ext.fits_row m type (first ∷ ids)) found
      ∙ and_from _ _ (eq-eqb (length (first ∷ ids)) e.count count) (ap (ext.fit_with m e type (first ∷ ids)) v.typed
      ∙ and_from _ _ (and_from _ _ (and_from _ _ (ints whole main local_size rank f sorted from v.type fit.0.1 v.of) (fit.0.0 v.type v.of)) (all_typed given from v.type (first ∷ ids) v.of all)) (fit.1 type v.type of v.of))))
      (λ id. refl) (λ id. refl)

  pub extend_fits : (given : List ℕ) (number first : ℕ) (ids : List ℕ) (shape from : Shape) (e : ext.Extended) (before : Sections) → IsSized shape → find (λ e. e.number == number) ext.rows ≡ Some e → length (first ∷ ids) ≡ e.count → AreFit e shape from → AllByRecursion (V given from) (first ∷ ids)
      → Fits whole main local_size rank f sorted given (Gives whole main local_size rank f sorted shape) before (builtins.extend number (first ∷ ids) shape before)
  unfolding builtins.extend form_of
  extend_fits given number first ids shape from e before sized found count fit all =
      comes_then whole main local_size rank f given (λ id now after. IsSet id after) (Gives whole main local_size rank f sorted shape) before (id_by glsl_set before) (λ set t. behind (types.type_of shape t) (giving op.EXT_INST (set ∷ number ∷ first ∷ ids))) (import_sorts before)
      (import_comes given before) (λ set t. typed_sorts shape op.EXT_INST (set ∷ number ∷ first ∷ ids) t (λ type id. refl))
      (λ set t now is wider extends inside. typed_comes whole main local_size rank f sorted now shape op.EXT_INST (set ∷ number ∷ first ∷ ids) t sized (λ type id. refl)
      (λ type last wide of. extend_stands last set number type first ids shape from e refl found count fit (later_set set t inside is) of (values_later given last from (first ∷ ids) (λ i h. wide i (wider i h)) all)))
