-- Blocks in the order of a program are met as sets and bindings in order are, and the push constants last.
use Rattle.std.proofs.Common.{◌≡◌, refl, sym, ap, ◌∙◌, Bool, true, false, not, ◌&&◌, ◌||◌, nat_eq, nat_lt, List, [], ◌∷◌, Some, None, Ok, Err, if◌then◌else◌, filter_map}
use Rattle.std.specs.List.{cons_option, list_all}
use Rattle.std.proofs.lemmas.Bool.{and_parts, cond-true, false≢true}
use Rattle.gsl_base.specs.declared.input.Input.{Input}
use Rattle.gsl_base.specs.declared.input.InputRefusal.TheVariants.{NoBuffer, TooShort, NoPush, PushShort}
use Rattle.gsl_tree.specs.WellTyped.{are_sorted, comes_before, is_push}
use Rattle.gsl_tree.specs.declared.unit.Block.{Block}
use Rattle.gsl_views.specs.Buffers.{bytes_at}
use Rattle.gsl_inputs.specs.Demands.{Met, all_met, and_met, bytes_met}
use Rattle.gsl_meaning.specs.Fits.{blocks_met}
use Rattle.gsl_machine.specs.Fits.{Bound, bound_met, push_met, put_bound, sorted_bounds, stands_before}
use Rattle.gsl_fits_law.specs.Asking.{bound_in, push_in}

pub met_assoc : (a b c : Met) → and_met (and_met a b) c ≡ and_met a (and_met b c)
met_assoc (Ok x) b c = refl
met_assoc (Err refusal) b c = refl

abbrev bound : Block → Bound
bound b = record { set = b.set; binding = b.binding; need = b.need }

-- ---- in order

-- what comes before a block stands before it
stands : (b c : Block) → is_push c.kind ≡ false → comes_before b c ≡ true → stands_before (bound b) (bound c) ≡ true
stands b c none is = by (is_push c.kind) none (and_parts (not (is_push b.kind)) (is_push c.kind || nat_lt b.set c.set || (nat_eq b.set c.set && nat_lt b.binding c.binding)) is).1
  where
    by : (flag : Bool) → flag ≡ false → (flag || nat_lt b.set c.set || (nat_eq b.set c.set && nat_lt b.binding c.binding)) ≡ true → stands_before (bound b) (bound c) ≡ true
    by true e is = absurd (false≢true (sym e))
    by false e is = is

front : (b : Block) (blocks : List Block) → list_all (comes_before b) blocks ≡ true → put_bound (bound b) (filter_map bound_in blocks) ≡ bound b ∷ filter_map bound_in blocks
front b [] all = refl
front b (c ∷ blocks) all =
    let both = and_parts (comes_before b c) (list_all (comes_before b) blocks) all in by (is_push c.kind) refl both.0 (front b blocks both.1)
  where
    by : (flag : Bool) → is_push c.kind ≡ flag → comes_before b c ≡ true → put_bound (bound b) (filter_map bound_in blocks) ≡ bound b ∷ filter_map bound_in blocks
        → put_bound (bound b) (cons_option (if flag then None else Some (bound c)) (filter_map bound_in blocks)) ≡ bound b ∷ cons_option (if flag then None else Some (bound c)) (filter_map bound_in blocks)
    by true e is later = later
    by false e is later = cond-true (stands_before (bound b) (bound c)) (bound b ∷ bound c ∷ filter_map bound_in blocks) (bound c ∷ put_bound (bound b) (filter_map bound_in blocks)) (stands b c e is)

pub bounds_sorted : (blocks : List Block) → are_sorted blocks ≡ true → sorted_bounds (filter_map bound_in blocks) ≡ filter_map bound_in blocks
bounds_sorted [] sorted = refl
bounds_sorted (b ∷ blocks) sorted =
    let both = and_parts (list_all (comes_before b) blocks) (are_sorted blocks) sorted in by (is_push b.kind) both.0 (bounds_sorted blocks both.1)
  where
    by : (flag : Bool) → list_all (comes_before b) blocks ≡ true → sorted_bounds (filter_map bound_in blocks) ≡ filter_map bound_in blocks
        → sorted_bounds (cons_option (if flag then None else Some (bound b)) (filter_map bound_in blocks)) ≡ cons_option (if flag then None else Some (bound b)) (filter_map bound_in blocks)
    by true all later = later
    by false all later = ap (put_bound (bound b)) later ∙ front b blocks all

-- ---- as they are met

module _ (input : Input) where
  abbrev given : Bool → Block → Met
  given flag b = bytes_met (if flag then NoPush else NoBuffer b.set b.binding) (if flag then PushShort else TooShort b.set b.binding) b.need (if flag then input.push else bytes_at input.buffers b.set b.binding)

  -- nothing comes behind the push constants
  last : (b : Block) (blocks : List Block) → is_push b.kind ≡ true → list_all (comes_before b) blocks ≡ true → blocks ≡ []
  last b [] push all = refl
  last b (c ∷ blocks) push all =
      let first = (and_parts (not (is_push b.kind)) (is_push c.kind || nat_lt b.set c.set || (nat_eq b.set c.set && nat_lt b.binding c.binding)) (and_parts (comes_before b c) (list_all (comes_before b) blocks) all).0).0 in
      absurd (false≢true (sym (ap not push) ∙ first))

  pub blocks_alike : (blocks : List Block) → are_sorted blocks ≡ true → blocks_met blocks input ≡ and_met (all_met (bound_met input) (filter_map bound_in blocks)) (all_met (push_met input) (filter_map push_in blocks))
  blocks_alike [] sorted = refl
  blocks_alike (b ∷ blocks) sorted =
      let both = and_parts (list_all (comes_before b) blocks) (are_sorted blocks) sorted in by (is_push b.kind) refl both.0 (blocks_alike blocks both.1)
    where
      alone : (rest : List Block) → rest ≡ [] → and_met (given true b) (blocks_met rest input) ≡ and_met (all_met (bound_met input) (filter_map bound_in rest)) (and_met (push_met input b.need) (all_met (push_met input) (filter_map push_in rest)))
      alone [] e = refl
      alone (c ∷ rest) e = absurd cc

      by : (flag : Bool) → is_push b.kind ≡ flag → list_all (comes_before b) blocks ≡ true
          → blocks_met blocks input ≡ and_met (all_met (bound_met input) (filter_map bound_in blocks)) (all_met (push_met input) (filter_map push_in blocks))
          → and_met (given flag b) (blocks_met blocks input)
          ≡ and_met (all_met (bound_met input) (cons_option (if flag then None else Some (bound b)) (filter_map bound_in blocks))) (all_met (push_met input) (cons_option (if flag then Some b.need else None) (filter_map push_in blocks)))
      by true e all later = alone blocks (last b blocks e all)
      by false e all later =
          ap (and_met (bound_met input (bound b))) later
          ∙ sym (met_assoc (bound_met input (bound b)) (all_met (bound_met input) (filter_map bound_in blocks)) (all_met (push_met input) (filter_map push_in blocks)))
