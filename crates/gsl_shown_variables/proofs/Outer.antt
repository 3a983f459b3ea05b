-- Where the module's variables stand.
use Rattle.std.proofs.Common.{◌≡◌, refl, sym, ap, ◌∙◌, ℕ, zero, suc, ◌+◌, Bool, true, false, if◌then◌else◌, List, [], ◌∷◌, ◌++◌, take, Option, Some, None, arith}
use Rattle.std.specs.List.{cons_option, filter_map, sum_by}
use Rattle.std.specs.Prelude.{slice_get}
use Rattle.std.proofs.lemmas.Bool.{cond-false, cond-true, or_left, or_right, true≢false}
use Rattle.std.proofs.lemmas.List.Sums.{sum_by-cons}
use Rattle.std.proofs.lemmas.Option.{none-some}
use Rattle.gsl_words.specs.declared.module.Instr.{Instr}
use Rattle.gsl_words.specs.declared.module.Module.{Module}
use Rattle.gsl_valid.specs.DecorationRules.{pointee}
use Rattle.gsl_valid.specs.Ids.{defined, defines, result}
use Rattle.gsl_valid.specs.Instruction.{read}
use Rattle.gsl_valid.specs.Kinds.{Begins, Holds, Kind, Variable, kind, variable_in, variable_is}
use Rattle.gsl_valid.specs.Placed.{Code}
use Rattle.gsl_valid.specs.Search.{passed}
use Rattle.gsl_valid.specs.Types.{before_functions, begins, function_begins, is_block_class}
use Rattle.gsl_machine.specs.Interfaces.{holds_value, value_variables}
use Rattle.gsl_leaves.specs.Leaves.{leaves, offset}
use Rattle.gsl_memory_law.specs.Typed.{place_by}
use Rattle.gsl_sound_code.specs.Rules.{KeepAll}
use Rattle.gsl_sound_code.proofs.Looks.{Kept}
use Rattle.gsl_sound_ids.proofs.Variables.{variable_result}
use Rattle.gsl_sound_types.specs.Typed.{types_of}
use Rattle.gsl_sound_types.proofs.Memories.{variable_kind}
use Rattle.gsl_sound_values.proofs.Unfolded.{later_not, passed_whole, result_defines}
use Rattle.gsl_frames.specs.declared.taken.Taken.{Taken}
use Rattle.gsl_frames.specs.Frames.{place, place_in, taken_in, variable_words}
use Rattle.gsl_frames.specs.Taken.{in_front}
use Rattle.gsl_shown.proofs.Bounds.{after}
use Rattle.gsl_shown_variables.specs.Standing.{words_ahead}

place_stays : (m : Module) (before code : Code) (id : ℕ) → KeepAll m before code → defined before id ≡ true → place_in m (passed before code) id ≡ place_in m before id
place_stays m before [] id keep is = refl
place_stays m before (i ∷ code) id keep is = place_stays m (i ∷ before) code id keep.1 (or_right (defines i id) _ is) ∙ cond-false (defines i id) _ _ (later_not m before i code id keep.0 is)

place_here : (m : Module) (before : Code) (i : Instr) (code : Code) (id : ℕ) → KeepAll m before (i ∷ code) → result (read i) ≡ Some id → place m id ≡ in_front (kind (read i)) (taken_in m before)
place_here m before i code id keep gives =
    let defines_it = result_defines i id gives in
    ap (λ c. place_in m c id) (sym (passed_whole m (i ∷ before) code keep.1)) ∙ place_stays m (i ∷ before) code id keep.1 (or_left _ _ defines_it) ∙ cond-true (defines i id) _ _ defines_it

-- those of the module's variables that hold values, from some code on
abbrev Outer : Code → List Variable
Outer code = filter_map holds_value (filter_map (λ i. variable_is (read i)) (before_functions code))

abbrev pub no_variables : List Variable
no_variables = []

pub nothing : (v : Variable) (n : ℕ) → slice_get no_variables n ≡ Some v → ⊥
nothing v zero is = none-some v is
nothing v (suc n) is = none-some v is

abbrev no_types : List ℕ
no_types = []

none_there : (n x : ℕ) → slice_get no_types n ≡ Some x → ⊥
none_there zero x is = none-some x is
none_there (suc n) x is = none-some x is

module _ (m : Module) where
  pub no_more : (k : Kind) (t : Taken) → begins k ≡ false → variable_in k ≡ None → (after m k t).variables ≡ t.variables
  no_more (Holds v) t begun none = absurd (cc)
  no_more (Begins type id function_type) t begun none = absurd (true≢false begun)
  no_more _ t begun none = refl

  -- what is shown of some code, behind other code
  abbrev Shown : Code → Code → Type 0
  Shown before code = (number : ℕ) (v : Variable) → slice_get (Outer code) number ≡ Some v → place m v.id ≡ (taken_in m before).variables + words_ahead m number (Outer code)

  one_further : (before : Code) (i : Instr) (code : Code) → KeepAll m before (i ∷ code) → Shown (i ∷ before) code → Shown before (i ∷ code)
  one_further before i code keep later number v is = by_begin (function_begins (read i)) refl is
    where
      by_number : (w : Variable) → variable_is (read i) ≡ Some w → is_block_class w.class ≡ false → (n : ℕ) → slice_get (w ∷ Outer code) n ≡ Some v → place m v.id ≡ (taken_in m before).variables + words_ahead m n (w ∷ Outer code)
      by_number w e class zero is =
          let same : w ≡ v = cc in
          let kind_is = variable_kind (kind (read i)) w e in
          ap (λ (x : Variable). place m x.id) (sym same) ∙ place_here m before i code w.id keep (variable_result (read i) w e) ∙ ap (λ k. in_front k (taken_in m before)) kind_is ∙ omega arith
      by_number w e class (suc n) is =
          let it = later n v is in
          let words : variable_words m w ≡ leaves m (pointee m w.type) = ap (λ b. if b then 0 else leaves m (pointee m w.type)) class in
          let taken : (taken_in m (i ∷ before)).variables ≡ (taken_in m before).variables + variable_words m w = ap (λ k. (after m k (taken_in m before)).variables) (variable_kind (kind (read i)) w e) in
          omega (arith, it, words, taken, sum_by-cons (leaves m) (pointee m w.type) (take n (types_of m (Outer code))))

      by_class : (w : Variable) → variable_is (read i) ≡ Some w → (b : Bool) → is_block_class w.class ≡ b → slice_get (cons_option (if b then None else Some w) (Outer code)) number ≡ Some v
          → place m v.id ≡ (taken_in m before).variables + words_ahead m number (cons_option (if b then None else Some w) (Outer code))
      by_class w e true class is =
          let it = later number v is in
          let words : variable_words m w ≡ 0 = ap (λ b. if b then 0 else leaves m (pointee m w.type)) class in
          let taken : (taken_in m (i ∷ before)).variables ≡ (taken_in m before).variables + variable_words m w = ap (λ k. (after m k (taken_in m before)).variables) (variable_kind (kind (read i)) w e) in
          omega (arith, it, words, taken)
      by_class w e false class is = by_number w e class number is

      by_variable : function_begins (read i) ≡ false → (o : Option Variable) → variable_is (read i) ≡ o → slice_get (filter_map holds_value (cons_option o (filter_map (λ i. variable_is (read i)) (before_functions code)))) number ≡ Some v
          → place m v.id ≡ (taken_in m before).variables + words_ahead m number (filter_map holds_value (cons_option o (filter_map (λ i. variable_is (read i)) (before_functions code))))
      by_variable begun None e is = let it = later number v is in let same = no_more (kind (read i)) (taken_in m before) begun e in omega (arith, it, same)
      by_variable begun (Some w) e is = by_class w e (is_block_class w.class) refl is

      by_begin : (b : Bool) → function_begins (read i) ≡ b → slice_get (filter_map holds_value (filter_map (λ i. variable_is (read i)) (if b then [] else i ∷ before_functions code))) number ≡ Some v
          → place m v.id ≡ (taken_in m before).variables + words_ahead m number (filter_map holds_value (filter_map (λ i. variable_is (read i)) (if b then [] else i ∷ before_functions code)))
      by_begin true begun is = absurd (nothing v number is)
      by_begin false begun is = by_variable begun (variable_is (read i)) refl is

  outer_from : (before code : Code) → KeepAll m before code → Shown before code
  outer_from before [] keep = λ number v is. absurd (nothing v number is)
  outer_from before (i ∷ code) keep = one_further before i code keep (outer_from (i ∷ before) code keep.1)

  pub no_offset : (o : Option ℕ) → offset m o [] ≡ 0
  unfolding offset
  no_offset None = refl
  no_offset (Some type) = refl

  front_same : (n : ℕ) (xs ys : List ℕ) (x : ℕ) → slice_get xs n ≡ Some x → take n (xs ++ ys) ≡ take n xs
  front_same n [] ys x is = absurd (none_there n x is)
  front_same zero (y ∷ xs) ys x is = refl
  front_same (suc n) (y ∷ xs) ys x is = ap (λ l. y ∷ l) (front_same n xs ys x is)

  type_there : (vs : List Variable) (n : ℕ) (v : Variable) → slice_get vs n ≡ Some v → slice_get (types_of m vs) n ≡ Some (pointee m v.type)
  type_there [] n v is = absurd (nothing v n is)
  type_there (w ∷ vs) zero v is = let same : w ≡ v = cc in ap (λ (x : Variable). Some (pointee m x.type)) same
  type_there (w ∷ vs) (suc n) v is = type_there vs n v is

  pub outer_stand : (kept : Kept m) (more : List ℕ) (number : ℕ) (v : Variable) → slice_get (value_variables m) number ≡ Some v → place_by m (types_of m (value_variables m) ++ more) number [] ≡ place m v.id
  outer_stand kept more number v is =
      let it = outer_from [] m.instrs kept.all number v is in
      let none = no_offset (slice_get (types_of m (value_variables m) ++ more) number) in
      let same = ap (sum_by (leaves m)) (front_same number (types_of m (value_variables m)) more (pointee m v.type) (type_there (value_variables m) number v is)) in
      omega (arith, it, none, same)
