-- The instructions of a function are those up to its end.
use Rattle.std.proofs.Common.{◌≡◌, refl, sym, ap, ◌∙◌, ℕ, Bool, true, false, ◌==◌, ◌&&◌, if◌then◌else◌, List, [], ◌∷◌, ◌++◌, Option, Some, None, append_assoc, append-nil}
use Rattle.std.proofs.lemmas.Bool.{cond-false, eqb-true}
use Rattle.std.specs.List.{cons_option, filter_map}
use Rattle.gsl_instr.specs.declared.op.TheConstants as op
use Rattle.gsl_words.specs.declared.module.Module.{Module}
use Rattle.gsl_valid.specs.Ids.{defines}
use Rattle.gsl_valid.specs.Kinds.{Variable}
use Rattle.gsl_valid.specs.Placed.{Placed, placed}
use Rattle.gsl_machine.specs.Functions.{from_first_label, from_label, function_at, function_in, give_each, point_each, up_to_end}
use Rattle.gsl_machine.specs.Interfaces.{globals}
use Rattle.gsl_machine.specs.State.{Held, Ids}
use Rattle.gsl_enact_state.specs.declared.state.Given.{Given}
use Rattle.gsl_enact_state.specs.Seen.{given, own_seen}
use Rattle.gsl_enact_functions.specs.Bodies.{cut, function_from, gathered, is_end, is_label, label_from, labels_from, one}

pub joined : {A : Type 0} (xs : List A) (a : Option A) (later : List A) → xs ++ cons_option a later ≡ (xs ++ one a) ++ later
joined xs None later = ap (λ l. l ++ later) (sym (append-nil xs))
joined xs (Some a) later = sym (append_assoc xs (a ∷ []) later)

function_in_gives : (code : List Placed) (id : ℕ) → cut (function_from code id) ≡ function_in code id
unfolding function_from
function_in_gives [] id = refl
function_in_gives (p ∷ code) id = by_test (p.instr.op == op.FUNCTION && defines p.instr id) (function_in_gives code id)
  where
    by_test : (b : Bool) → cut (function_from code id) ≡ function_in code id → cut (if b then Some code else function_from code id) ≡ (if b then Some (up_to_end code) else function_in code id)
    by_test true later = refl
    by_test false later = later

pub function_in_is : (m : Module) (id : ℕ) → cut (function_from (placed m) id) ≡ function_at m id
function_in_is m id = function_in_gives (placed m) id

-- the end of a function is no label
end_is_no_label : (p : Placed) → is_end p ≡ true → is_label p ≡ false
end_is_no_label p ends = ap (λ n. n == op.LABEL) (eqb-true p.instr.op op.FUNCTION_END ends)

pub gathered_is : {A : Type 0} (f : Placed → Option A) (code : List Placed) → gathered f code ≡ filter_map f (up_to_end code)
unfolding gathered
gathered_is f [] = refl
gathered_is f (p ∷ code) = by_test (is_end p) (gathered_is f code)
  where
    by_test : (b : Bool) → gathered f code ≡ filter_map f (up_to_end code) → cons_option (f p) (if b then [] else gathered f code) ≡ filter_map f (if b then p ∷ [] else p ∷ up_to_end code)
    by_test true later = refl
    by_test false later = ap (cons_option (f p)) later

pub from_label_is : (code : List Placed) (id : ℕ) → cut (label_from code id) ≡ from_label (up_to_end code) id
unfolding label_from
from_label_is [] id = refl
from_label_is (p ∷ code) id = by_end (is_end p) refl (from_label_is code id)
  where
    by_label : (b : Bool) → is_end p ≡ false → cut (label_from code id) ≡ from_label (up_to_end code) id
        → cut (if b then Some (p ∷ code) else label_from code id) ≡ (if b then Some (p ∷ up_to_end code) else from_label (up_to_end code) id)
    by_label true goes later = ap Some (cond-false (is_end p) (p ∷ []) (p ∷ up_to_end code) goes)
    by_label false goes later = later

    by_end : (b : Bool) → is_end p ≡ b → cut (label_from code id) ≡ from_label (up_to_end code) id
        → cut (if b then None else if is_label p && defines p.instr id then Some (p ∷ code) else label_from code id) ≡ from_label (if b then p ∷ [] else p ∷ up_to_end code) id
    by_end true ends later = sym (ap (λ t. if t && defines p.instr id then Some (p ∷ []) else None) (end_is_no_label p ends))
    by_end false goes later = by_label (is_label p && defines p.instr id) goes later

pub from_first_label_is : (code : List Placed) → up_to_end (labels_from code) ≡ from_first_label (up_to_end code)
unfolding labels_from
from_first_label_is [] = refl
from_first_label_is (p ∷ code) = by_end (is_end p) refl (from_first_label_is code)
  where
    by_label : (b : Bool) → is_end p ≡ false → up_to_end (labels_from code) ≡ from_first_label (up_to_end code)
        → up_to_end (if b then p ∷ code else labels_from code) ≡ (if b then p ∷ up_to_end code else from_first_label (up_to_end code))
    by_label true goes later = cond-false (is_end p) (p ∷ []) (p ∷ up_to_end code) goes
    by_label false goes later = later

    by_end : (b : Bool) → is_end p ≡ b → up_to_end (labels_from code) ≡ from_first_label (up_to_end code)
        → up_to_end (if b then [] else if is_label p then p ∷ code else labels_from code) ≡ from_first_label (if b then p ∷ [] else p ∷ up_to_end code)
    by_end true ends later = sym (ap (λ t. if t then p ∷ [] else []) (end_is_no_label p ends))
    by_end false goes later = by_label (is_label p) goes later

-- ---- the rows of a function

pub own_is : (m : Module) (none some all : List Given) (ids : List ℕ) (arguments : List Held) (count : ℕ) (variables : List Variable) → none ≡ []
    → ((base : Ids) → given base some ≡ give_each (given base none) ids arguments) → ((base : Ids) → given base all ≡ point_each (given base some) count variables)
    → own_seen m all ≡ point_each (give_each (globals m) ids arguments) count variables
unfolding given own_seen
own_is m none some all ids arguments count variables empty gives points =
    points (globals m) ∙ ap (λ base. point_each base count variables) (gives (globals m) ∙ ap (λ l. give_each (given (globals m) l) ids arguments) empty)
