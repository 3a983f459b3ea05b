-- The group that was opened first stands last.
use Rattle.std.proofs.Common.{◌≡◌, ◌≤◌, List, [], ◌∷◌, ◌++◌, length, reverse, get_or, Some, refl, ap, sym, ◌∙◌, arith}
use Rattle.std.proofs.lemmas.List.{reverse-append}
use Rattle.gsl_pp.specs.declared.group.Group.{Group}
use Rattle.gsl_pp.specs.Directives.{outermost}

pub outermost_last : (groups : List Group) (g : Group) → outermost (groups ++ g ∷ []) ≡ Some g
outermost_last [] g = refl
outermost_last (h ∷ []) g = refl
outermost_last (h ∷ k ∷ groups) g = outermost_last (k ∷ groups) g

pub outermost_first : (items : List Group) (d : Group) → 1 ≤ length items → Some (get_or items 0 d) ≡ outermost (reverse items)
outermost_first [] d h = absurd (omega arith)
outermost_first (g ∷ items) d h = sym (ap outermost (reverse-append (g ∷ []) items) ∙ outermost_last (reverse items) g)
