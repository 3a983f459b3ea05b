-- The first size of a work group among those of units.
use Rattle.std.proofs.Common.{◌≡◌, refl, sym, ap, subst, ◌∙◌, ℕ, ◌+◌, ◌<◌, List, [], ◌∷◌, ◌++◌, length, drop, get_or}
use Rattle.std.specs.Prelude.{slice_get, Option, MatchOption}
use Rattle.std.proofs.lemmas.List.{drop_more}
use Rattle.gsl_tree.specs.declared.unit.LocalSize.{LocalSize}
use Rattle.gsl_link_units.specs.Declarations.{Side}
use Rattle.gsl_link_whole.specs.Whole.{first_size}
use Rattle.gsl_link_numbers.specs.Numbering.{sizes_in, parts_of}

abbrev Begins : List LocalSize → Option (List ℕ) → Type 0
Begins sizes found = MatchOption found (sizes ≡ []) (λ parts. (rest : List LocalSize) → parts ≡ first_size (sizes ++ rest))

pub first_part : (sizes : List LocalSize) (found : Option (List ℕ)) → found ≡ parts_of (slice_get sizes 0) → Begins sizes found
first_part [] found is = subst (Begins []) (sym is) refl
first_part (size ∷ sizes) found is = subst (Begins (size ∷ sizes)) (sym is) (λ rest. refl)

pub here_first : (sides : List Side) (k : ℕ) (side : Side) (parts : List ℕ) → k < length sides → side ≡ get_or sides k side
    → ((rest : List LocalSize) → parts ≡ first_size (side.unit.local_sizes ++ rest)) → first_size (sizes_in (drop k sides)) ≡ first_size (sizes_in sides) → parts ≡ first_size (sizes_in sides)
here_first sides k side parts below at first so_far =
    first (sizes_in (drop (k + 1) sides))
    ∙ sym (ap (λ l. first_size (sizes_in l)) (drop_more sides k side below ∙ ap (λ s. s ∷ drop (k + 1) sides) (sym at))) ∙ so_far
