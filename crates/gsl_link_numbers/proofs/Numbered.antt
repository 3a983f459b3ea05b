-- The numbers of global variables.
use Rattle.std.proofs.Common.{◌≡◌, sym, ap, ◌∙◌, ℕ, ◌+◌, ◌<◌, List, [], ◌∷◌, ◌++◌, length, drop, get_or}
use Rattle.std.specs.List.{position_or_len}
use Rattle.std.proofs.lemmas.List.{drop_more}
use Rattle.gsl_tree.specs.declared.unit.GlobalVar.{GlobalVar}
use Rattle.gsl_link_numbers.specs.declared.site.Site.{Site}
use Rattle.gsl_link_numbers.specs.Standing.{Spots, site_eq, site_of, places_behind}

-- one more number
pub one_more : (spots : Spots) (sites : List Site) (unit k index : ℕ) (globals : List GlobalVar) (g : GlobalVar) (before next all : List ℕ)
    → k < length globals → g ≡ get_or globals k g → index ≡ k → next ≡ before ++ position_or_len (site_eq (site_of spots unit index g)) sites ∷ []
    → places_behind before spots sites unit k (drop k globals) ≡ all → places_behind next spots sites unit (k + 1) (drop (k + 1) globals) ≡ all
one_more spots sites unit k index globals g before next all below at same is so_far =
    ap (λ l. places_behind l spots sites unit (k + 1) (drop (k + 1) globals)) (is ∙ ap (λ i. before ++ position_or_len (site_eq (site_of spots unit i g)) sites ∷ []) same)
    ∙ sym (ap (places_behind before spots sites unit k) (drop_more globals k g below ∙ ap (λ x. x ∷ drop (k + 1) globals) (sym at))) ∙ so_far
