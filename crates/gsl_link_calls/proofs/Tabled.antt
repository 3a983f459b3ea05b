-- What the table says of the calls of a head.
use Rattle.std.proofs.Common.{◌≡◌, sym, ap, ◌∙◌, refl, subst, ℕ, zero, suc, ◌+◌, ◌<◌, ◌≤◌, ◌≢◌, ◌⊎◌, inl, inr, Bool, true, false, List, [], ◌∷◌, ◌++◌, length, map, max, replicate, set, get_or, drop, ⊎_elim, append_assoc, length-append, arith}
use Rattle.std.specs.Prelude.{nat_eq, slice_index, slice_set, if◌then◌else◌, slice_get, Some, None}
use Rattle.std.proofs.Math.Numerals.{add-one}
use Rattle.std.proofs.lemmas.Bool.{eqb-true, cases_eq, eq-eqb, ne_eqb}
use Rattle.std.proofs.lemmas.List.{get_or-set_same, get_or-set_other, length-set}
use Rattle.gsl_tree.specs.declared.unit.Function.{Function}
use Rattle.gsl_tree.specs.Weights.{calls_of}
use Rattle.gsl_link_calls.specs.Calls.{called_by}
use Rattle.gsl_link_calls.specs.Table.{heads_of, firsts_from, lists_of, IsTable}

zeros : (n head : ℕ) → ◌≡◌ {A = ℕ} (get_or (replicate n 0) head 0) 0
zeros zero head = refl
zeros (suc n) zero = refl
zeros (suc n) (suc head) = zeros n head

as_many : (n : ℕ) → length {A = ℕ} (replicate n 0) ≡ n
as_many zero = refl
as_many (suc n) = ap suc (as_many n)

firsts_length : (size at : ℕ) (functions : List Function) → length (firsts_from size at functions) ≡ size
firsts_length size at [] = as_many size
firsts_length size at (f ∷ functions) = length-set (firsts_from size (at + 1) functions) f.prototype (at + 1) ∙ firsts_length size (at + 1) functions

pub heads_are : (functions : List Function) (firsts : List ℕ) (lists : List (List ℕ)) → IsTable functions firsts lists → length firsts ≡ heads_of functions
heads_are functions firsts lists t = ap length t.firsts_are ∙ firsts_length (heads_of functions) 0 functions

list_here : (before : List Function) (f : Function) (functions : List Function) → get_or (lists_of (before ++ f ∷ functions)) (length before + 1) [] ≡ calls_of f
list_here before f functions = ap (λ k. get_or (lists_of (before ++ f ∷ functions)) k []) (add-one (length before)) ∙ within before
  where
    within : (before : List Function) → get_or (map calls_of (before ++ f ∷ functions)) (length before) [] ≡ calls_of f
    within [] = refl
    within (g ∷ before) = within before

tells : (size : ℕ) (before functions : List Function) → heads_of functions ≤ size → (head : ℕ)
    → get_or (lists_of (before ++ functions)) (get_or (firsts_from size (length before) functions) head 0) [] ≡ called_by functions head
tells size before [] room head = ap (λ k. get_or (lists_of (before ++ [])) k []) (zeros size head)
tells size before (f ∷ functions) room head = by_cases (tells size (before ++ f ∷ []) functions (omega (arith, room)) head) (cases_eq f.prototype head)
  where
    by_cases : get_or (lists_of ((before ++ f ∷ []) ++ functions)) (get_or (firsts_from size (length (before ++ f ∷ [])) functions) head 0) [] ≡ called_by functions head → (f.prototype ≡ head) ⊎ (f.prototype ≢ head)
        → get_or (lists_of (before ++ f ∷ functions)) (get_or (slice_set (firsts_from size (length before + 1) functions) f.prototype (length before + 1)) head 0) [] ≡ (if nat_eq f.prototype head then calls_of f else called_by functions head)
    by_cases later (inl same) =
        ap (λ k. get_or (lists_of (before ++ f ∷ functions)) k [])
        (ap (λ h. get_or (slice_set (firsts_from size (length before + 1) functions) f.prototype (length before + 1)) h 0) (sym same)
        ∙ get_or-set_same (firsts_from size (length before + 1) functions) f.prototype (length before + 1) 0 (omega (arith, room, firsts_length size (length before + 1) functions)))
        ∙ list_here before f functions ∙ ap (λ b. if b then calls_of f else called_by functions head) (sym (eq-eqb f.prototype head same))
    by_cases later (inr other) =
        let count : length (before ++ f ∷ []) ≡ length before + 1 = length-append before (f ∷ []) in
        ap (λ k. get_or (lists_of (before ++ f ∷ functions)) k [])
        (get_or-set_other (firsts_from size (length before + 1) functions) f.prototype head (length before + 1) 0 (λ e. other (sym e)))
        ∙ ap (λ k. get_or (lists_of (before ++ f ∷ functions)) (get_or (firsts_from size k functions) head 0) []) (sym count)
        ∙ ap (λ l. get_or (lists_of l) (get_or (firsts_from size (length (before ++ f ∷ [])) functions) head 0) []) (sym (append_assoc before (f ∷ []) functions))
        ∙ later
        ∙ ap (λ b. if b then calls_of f else called_by functions head) (sym (ne_eqb f.prototype head other))

pub callees_are : (functions : List Function) (firsts : List ℕ) (lists : List (List ℕ)) → IsTable functions firsts lists → (head : ℕ)
    → get_or lists (slice_index firsts head) [] ≡ called_by functions head
callees_are functions firsts lists t head =
    ap (λ l. get_or l (slice_index firsts head) []) t.lists_are ∙ ap (λ l. get_or (lists_of functions) (slice_index l head) []) t.firsts_are
    ∙ tells (heads_of functions) [] functions (omega arith) head

-- no function has a head beyond them
pub none_beyond : (functions : List Function) (head : ℕ) → heads_of functions ≤ head → called_by functions head ≡ []
none_beyond [] head high = refl
none_beyond (f ∷ functions) head high =
    ap (λ b. if b then calls_of f else called_by functions head) (ne_eqb f.prototype head (λ same. absurd (omega (arith, high, same))))
    ∙ none_beyond functions head (omega (arith, high))
