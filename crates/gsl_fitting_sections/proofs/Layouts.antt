-- The types of blocks are laid as they may be (V8).
use Rattle.std.proofs.Common.{◌≡◌, ℕ, ◌+◌, ◌-◌, ◌*◌, Bool, true, false, cond, not, max, ◌&&◌, ◌||◌, List, [], ◌∷◌, ◌++◌, Option, Some, None, refl, sym, ap, ◌∙◌}
use Rattle.std.specs.Prelude.{nat_lt}
use Rattle.std.specs.List.{list_all}
use Rattle.std.proofs.lemmas.Bool.{and_parts, true≢false}
use Rattle.gsl_words.specs.declared.module.Instr.{Instr}
use Rattle.gsl_words.specs.declared.module.Module.{Module}
use Rattle.gsl_instr.specs.declared.enumerant.decoration.TheConstants as decoration
use Rattle.gsl_valid.specs.Decorations.{number_on, number_on_member}
use Rattle.gsl_valid.specs.Ids.{defined, defines, result}
use Rattle.gsl_valid.specs.Instruction.{read}
use Rattle.gsl_valid.specs.Kinds as kinds
use Rattle.gsl_valid.specs.Kinds.{Shape, kind, shape_in, shape_of, value_of}
use Rattle.gsl_valid.specs.LayoutRules.{array_of, end_after, end_limit, end_of_last, extent, extent_as, greatest_end, is_at, is_end, is_in_block, is_laid, is_part_of_blocks, is_stride, laid, laid_if, may_be_in, may_grow, need, need_as, type_laid}
use Rattle.gsl_valid.specs.Placed.{Code}
use Rattle.gsl_valid.specs.Types.{defined_as, parts_in}
use Rattle.gsl_fitting_sections.proofs.Firsts.{precedes_shape}
use Rattle.gsl_fitting_sections.proofs.Heights.{parts_used}
use Rattle.gsl_fitting_sections.proofs.Outside.{Closed, Lies}
use Rattle.gsl_fitting_sections.proofs.Outside.Lies.{headed, named, marked, declared}
use Rattle.gsl_fitting_sections.proofs.Plain.{heads_precedes}

module _ (m : Module) where
  -- measures that agree on the parts of a type agree on it
  module _ (p : ℕ → Bool) (f g : ℕ → ℕ) (same : (id : ℕ) → p id ≡ true → f id ≡ g id) where
    last_same : (struct member end : ℕ) (types : List ℕ) → list_all p types ≡ true → end_of_last m f struct member end types ≡ end_of_last m g struct member end types
    last_same struct member end [] all = refl
    last_same struct member end (type ∷ types) all =
        let parts = and_parts (p type) (list_all p types) all in
        ap (λ n. end_of_last m f struct (member + 1) (end_after (number_on_member m decoration.OFFSET struct member) n) types) (same type parts.0) ∙ last_same struct (member + 1) _ types parts.1

    greatest_same : (struct member end : ℕ) (types : List ℕ) → list_all p types ≡ true → greatest_end m f struct member end types ≡ greatest_end m g struct member end types
    greatest_same struct member end [] all = refl
    greatest_same struct member end (type ∷ types) all =
        let parts = and_parts (p type) (list_all p types) all in
        ap (λ n. greatest_end m f struct (member + 1) (max end (end_after (number_on_member m decoration.OFFSET struct member) n)) types) (same type parts.0) ∙ greatest_same struct (member + 1) _ types parts.1

    need_shape : (id : ℕ) (shape : Shape) → list_all p (parts_in shape) ≡ true → need_as m f id shape ≡ need_as m g id shape
    need_shape id (kinds.OfArray element length) all =
        ap (λ n. array_of (number_on m decoration.ARRAY_STRIDE id) (value_of (defined_as m length)) (λ stride count. stride * (count - 1) + n)) (same element (and_parts (p element) true all).0)
    need_shape id (kinds.OfStruct struct members) all = last_same struct 0 0 members all
    need_shape id _ all = refl

    extent_shape : (id : ℕ) (shape : Shape) → list_all p (parts_in shape) ≡ true → extent_as m f id shape ≡ extent_as m g id shape
    extent_shape id (kinds.OfStruct struct members) all = greatest_same struct 0 0 members all
    extent_shape id _ all = refl

  by_case : (b : Bool) {x y u v : ℕ} {c : Bool} → x ≡ y → (c ≡ true → u ≡ v) → (b || c) ≡ true → cond b x u ≡ cond b y v
  by_case true here later h = here
  by_case false here later h = later h

  need_same : (earlier base : Code) → Closed earlier → (id : ℕ) → defined earlier id ≡ true → need m (earlier ++ base) id ≡ need m earlier id
  need_same [] base closed id h = absurd (true≢false (sym h))
  need_same (i ∷ earlier) base closed id h =
      by_case (defines i id) (need_shape (defined earlier) (need m (earlier ++ base)) (need m earlier) (need_same earlier base closed.1) id (shape_of (read i)) (parts_used (defined earlier) (read i) closed.0)) (need_same earlier base closed.1 id) h

  extent_same : (earlier base : Code) → Closed earlier → (id : ℕ) → defined earlier id ≡ true → extent m (earlier ++ base) id ≡ extent m earlier id
  extent_same [] base closed id h = absurd (true≢false (sym h))
  extent_same (i ∷ earlier) base closed id h =
      by_case (defines i id) (extent_shape (defined earlier) (extent m (earlier ++ base)) (extent m earlier) (extent_same earlier base closed.1) id (shape_of (read i)) (parts_used (defined earlier) (read i) closed.0)) (extent_same earlier base closed.1 id) h

  laid_same : (earlier base : Code) → Closed earlier → (struct member end : ℕ) (types : List ℕ) → list_all (defined earlier) types ≡ true → is_laid m (earlier ++ base) struct member end types ≡ is_laid m earlier struct member end types
  laid_same earlier base closed struct member end [] all = refl
  laid_same earlier base closed struct member end (type ∷ types) all =
      let parts = and_parts (defined earlier type) (list_all (defined earlier) types) all in
      let offset = number_on_member m decoration.OFFSET struct member in
      let whole = earlier ++ base in
      let fits = may_be_in m (is_end types && may_grow m struct) (shape_of (defined_as m type)) in
      ap (λ n. fits && is_at offset end n && is_laid m whole struct (member + 1) (end_after offset (need m whole type)) types) (extent_same earlier base closed type parts.0)
      ∙ ap (λ n. fits && is_at offset end (extent m earlier type) && is_laid m whole struct (member + 1) (end_after offset n) types) (need_same earlier base closed type parts.0)
      ∙ ap (λ b. fits && is_at offset end (extent m earlier type) && b) (laid_same earlier base closed struct (member + 1) _ types parts.1)

  shape_laid : (earlier base : Code) → Closed earlier → (id : ℕ) (shape : Shape) → list_all (defined earlier) (parts_in shape) ≡ true → type_laid m (earlier ++ base) id shape ≡ type_laid m earlier id shape
  shape_laid earlier base closed id (kinds.OfArray element length) all =
      ap (λ n. is_part_of_blocks m (shape_of (defined_as m element)) && is_stride (number_on m decoration.ARRAY_STRIDE id) n
      && nat_lt (array_of (number_on m decoration.ARRAY_STRIDE id) (value_of (defined_as m length)) (λ stride count. stride * count)) end_limit) (need_same earlier base closed element (and_parts (defined earlier element) true all).0)
  shape_laid earlier base closed id (kinds.OfRuntimeArray element) all =
      ap (λ n. is_part_of_blocks m (shape_of (defined_as m element)) && is_stride (number_on m decoration.ARRAY_STRIDE id) n) (need_same earlier base closed element (and_parts (defined earlier element) true all).0)
  shape_laid earlier base closed id (kinds.OfStruct struct members) all = laid_same earlier base closed struct 0 0 members all
  shape_laid earlier base closed id _ all = refl

  laid_behind : (earlier base : Code) → Closed earlier → (o : Option ℕ) (shape : Shape) → list_all (defined earlier) (parts_in shape) ≡ true → laid_if m (earlier ++ base) o shape ≡ laid_if m earlier o shape
  laid_behind earlier base closed None shape all = refl
  laid_behind earlier base closed (Some id) shape all = ap (λ b. b || not (is_in_block m id)) (shape_laid earlier base closed id shape all)

  no_shape : (before : Code) (i : Instr) → shape_of (read i) ≡ kinds.NoType → laid m before i ≡ true
  no_shape before i none = ap (laid_if m before (result (read i))) none ∙ by_result (result (read i))
    where
      by_result : (o : Option ℕ) → laid_if m before o kinds.NoType ≡ true
      by_result None = refl
      by_result (Some id) = refl

  pub layouts_pass : (before : Code) (i : Instr) → Lies m before i → laid m before i ≡ true
  layouts_pass before i (headed p) = no_shape before i (precedes_shape (kind (read i)) (heads_precedes (kind (read i)) p.is))
  layouts_pass before i (named p) = no_shape before i (ap shape_in p.name.is)
  layouts_pass before i (marked p) = no_shape before i (ap shape_in p.mark.is)
  layouts_pass before i (declared p) =
      ap (λ c. laid m c i) p.is ∙ laid_behind p.earlier p.base p.closed (result (read i)) (shape_of (read i)) (parts_used (defined p.earlier) (read i) p.declaration.uses) ∙ p.declaration.laid
