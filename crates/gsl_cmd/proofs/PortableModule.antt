-- The module of a program is one that other consumers take.
use Rattle.std.proofs.Common.{◌≡◌, ℕ, zero, suc, ◌+◌, ◌*◌, ◌%◌, ◌<◌, Bool, true, false, cond, not, ◌&&◌, [], ◌∷◌, length, Option, Some, None, refl, ap, ◌∙◌, arith}
use Rattle.std.specs.Prelude.{replicate, is_some}
use Rattle.std.specs.List.{list_any, list_all}
use Rattle.std.proofs.Math.ListN.{length-replicate}
use Rattle.std.proofs.lemmas.Bool.{and_from, or_from, or_right, le-leb, lt-ltb, eq-eqb}
use Rattle.gsl_instr.specs.declared.enumerant.decoration.TheConstants as decoration
use Rattle.gsl_instr.specs.declared.enumerant.storage_class.TheConstants as storage_class
use Rattle.gsl_instr.specs.Forms.{form_of}
use Rattle.gsl_words.specs.declared.module.Module.{Module}
use Rattle.gsl_valid.specs.Instruction.{read}
use Rattle.gsl_valid.specs.Kinds.{Shape, OfVoid, OfInt, OfStruct, OfPointer, OfFunction, NoType, Variable, On, shape_of, variable_is}
use Rattle.gsl_valid.specs.Ids.{result}
use Rattle.gsl_valid.specs.Search.{Test, Passes}
use Rattle.gsl_valid.specs.Types.{outside_of, runtime_type}
use Rattle.gsl_valid.specs.Decorations.{has, number_in, number_on_member}
use Rattle.gsl_valid.specs.Portable.{Portable, switches_well, merge_before, is_block, has_block, block_alone, has_length, grows_last, may_have, has_parts, member_in, marked_by, marked_variable, members_aligned, is_aligned, end_behind, is_padded, rounded, laid_by, laid_for, laid_for_all}
use Rattle.gsl_blocks.specs.Blocks.{role_or}
use Rattle.gsl_valid.specs.Kinds.{decoration_of}
use Rattle.std.specs.Option.{option_map_or}
use Rattle.gsl_valid.proofs.Searching.{none_broken}
use Rattle.gsl_form.specs.declared.program.Program.{Program}
use Rattle.gsl_form.specs.Form.{IsProgram}
use Rattle.gsl_cmd.specs.declared.lowering.id.TheConstants as id
use Rattle.gsl_cmd.specs.Lowering.{Code, code_of, constants_of, module_of}
use Rattle.gsl_cmd.proofs.Parts.{member_name, before_names, before_decorations, before_types, before_constants, before_variable, before_function, passes_parts}
use Rattle.gsl_cmd.proofs.Facts.{Facts, facts}
use Rattle.gsl_cmd.proofs.Quiet.{block_name, void_made, main_made, int_made, block_made, block_pointer_made, range_passes, names_pass, decorations_pass, constants_pass, function_pass}
use Rattle.gsl_cmd.proofs.Decorated.{not_on, block_is_no_block, member_is_at}

-- none of the same
none_same : (test : ℕ → Bool) (x count : ℕ) → test x ≡ false → list_any test (replicate count x) ≡ false
none_same test x zero none = refl
none_same test x (suc count) none = or_from (test x) _ none (none_same test x count none)

none_inside : (a b : Bool) → b ≡ false → (a && b) ≡ false
none_inside true b none = none
none_inside false b none = refl

-- a type that every rule of layout takes is laid as every variable asks
laid_always : (m : Module) (before : Code) (type : ℕ) (shape : Shape) → ((std140 : Bool) → laid_by std140 m before type shape ≡ true) → (v : Option Variable) →
    laid_for m before type shape v ≡ true
laid_always m before type shape each None = refl
laid_always m before type shape each (Some v) = or_right _ _ (each _)

laid_in : (m : Module) (before : Code) (type : ℕ) (shape : Shape) → ((std140 : Bool) → laid_by std140 m before type shape ≡ true) → (code : Code) →
    list_all (λ i. laid_for m before type shape (variable_is (read i))) code ≡ true
laid_in m before type shape each [] = refl
laid_in m before type shape each (i ∷ code) = and_from _ _ (laid_always m before type shape each (variable_is (read i))) (laid_in m before type shape each code)

module _ (p : Program) (fits : IsProgram p) where
  abbrev known : Facts p
  known = facts p fits

  no_switch : Passes (λ before i. switches_well (module_of p) (merge_before before) (role_or (read i))) [] (code_of p)
  unfolding form_of
  no_switch =
      let test : Test = λ before i. switches_well (module_of p) (merge_before before) (role_or (read i)) in
      passes_parts p test (refl, (refl, (refl, (refl, tt)))) (names_pass test p.members before_names (λ b. refl) (λ k b. refl))
      (decorations_pass test (length p.members) (before_decorations p) (λ b. refl) (λ k within b. refl) (λ b. refl) (λ b. refl))
      (refl, (refl, (refl, (refl, (refl, (refl, tt))))))
      (constants_pass test (constants_of p) (before_constants p) (λ k within b. refl)) (refl, tt)
      (function_pass test p fits (before_function p) (λ b. refl) (λ b. refl) (λ n k b. refl) (λ n q b. refl) (λ n a c b. refl) (λ q v b. refl) (λ b. refl) (λ b. refl))

  -- Blocks ------------------------------------------------------------------------------------------------------------

  int_is_no_block : is_block (module_of p) id.INT ≡ false
  unfolding form_of
  int_is_no_block =
      or_from _ _ (ap is_some (not_on p (On id.INT) decoration.BLOCK fits refl (λ k. refl) refl refl))
      (ap is_some (not_on p (On id.INT) decoration.BUFFER_BLOCK fits refl (λ k. refl) refl refl))

  one_block : (before : Code) → has_block (module_of p) before id.INT ≡ false → block_alone (module_of p) before (OfStruct id.BLOCK (replicate (length p.members) id.INT)) ≡ true
  unfolding form_of
  one_block before none =
      let m = module_of p in
      and_from _ _ (ap (λ o. not (is_some o && has m decoration.BUFFER_BLOCK id.BLOCK)) (block_is_no_block p fits))
      (ap not (none_inside (is_block m id.BLOCK) (list_any (has_block m before) (replicate (length p.members) id.INT)) (none_same (has_block m before) id.INT (length p.members) none)))

  no_block_inside : Passes (λ before i. block_alone (module_of p) before (shape_of (read i))) [] (code_of p)
  unfolding form_of
  no_block_inside =
      let test : Test = λ before i. block_alone (module_of p) before (shape_of (read i)) in
      let before = int_made ∷ main_made ∷ void_made ∷ before_types p in
      passes_parts p test (refl, (refl, (refl, (refl, tt)))) (names_pass test p.members before_names (λ b. refl) (λ k b. refl))
      (decorations_pass test (length p.members) (before_decorations p) (λ b. refl) (λ k within b. refl) (λ b. refl) (λ b. refl))
      (refl, (refl, (refl, (one_block before (or_from _ _ int_is_no_block refl), (refl, (refl, tt))))))
      (constants_pass test (constants_of p) (before_constants p) (λ k within b. refl)) (refl, tt)
      (function_pass test p fits (before_function p) (λ b. refl) (λ b. refl) (λ n k b. refl) (λ n q b. refl) (λ n a c b. refl) (λ q v b. refl) (λ b. refl) (λ b. refl))

  -- Arrays ------------------------------------------------------------------------------------------------------------

  no_array : Passes (λ before i. has_length (module_of p) (shape_of (read i))) [] (code_of p)
  unfolding form_of
  no_array =
      let test : Test = λ before i. has_length (module_of p) (shape_of (read i)) in
      passes_parts p test (refl, (refl, (refl, (refl, tt)))) (names_pass test p.members before_names (λ b. refl) (λ k b. refl))
      (decorations_pass test (length p.members) (before_decorations p) (λ b. refl) (λ k within b. refl) (λ b. refl) (λ b. refl))
      (refl, (refl, (refl, (refl, (refl, (refl, tt))))))
      (constants_pass test (constants_of p) (before_constants p) (λ k within b. refl)) (refl, tt)
      (function_pass test p fits (before_function p) (λ b. refl) (λ b. refl) (λ n k b. refl) (λ n q b. refl) (λ n a c b. refl) (λ q v b. refl) (λ b. refl) (λ b. refl))

  members_end : (count : ℕ) → grows_last (module_of p) (replicate count id.INT) ≡ true
  unfolding form_of
  members_end zero = refl
  members_end (suc zero) = refl
  members_end (suc (suc count)) = and_from _ _ (ap (λ d. not (runtime_type d)) known.int) (members_end (suc count))

  nothing_grows : Passes (λ before i. may_have (module_of p) (shape_of (read i))) [] (code_of p)
  unfolding form_of
  nothing_grows =
      let test : Test = λ before i. may_have (module_of p) (shape_of (read i)) in
      passes_parts p test (refl, (refl, (refl, (refl, tt)))) (names_pass test p.members before_names (λ b. refl) (λ k b. refl))
      (decorations_pass test (length p.members) (before_decorations p) (λ b. refl) (λ k within b. refl) (λ b. refl) (λ b. refl))
      (refl, (refl, (refl, (members_end (length p.members), (ap (λ d. not (runtime_type d)) known.block, (ap (λ d. not (runtime_type d)) known.int, tt))))))
      (constants_pass test (constants_of p) (before_constants p) (λ k within b. refl)) (refl, tt)
      (function_pass test p fits (before_function p) (λ b. refl) (λ b. refl) (λ n k b. refl) (λ n q b. refl) (λ n a c b. refl) (λ q v b. refl) (λ b. refl) (λ b. refl))

  -- Names and decorations -----------------------------------------------------------------------------------------------

  names_of_members : Passes (λ before i. option_map_or (has_parts (module_of p)) (read i) true) [] (code_of p)
  unfolding form_of
  names_of_members =
      let test : Test = λ before i. option_map_or (has_parts (module_of p)) (read i) true in
      passes_parts p test (refl, (refl, (refl, (refl, tt)))) (
        refl,
        range_passes test (member_name p.members) (length p.members) (block_name ∷ before_names)
            (λ k within b.
            let low : k < length (replicate (length p.members) id.INT) = simp length-replicate (omega arith) in
            ap (λ d. member_in k (shape_of d)) known.block ∙ lt-ltb k _ low),
      )
      (decorations_pass test (length p.members) (before_decorations p) (λ b. refl) (λ k within b. refl) (λ b. refl) (λ b. refl))
      (refl, (refl, (refl, (refl, (refl, (refl, tt))))))
      (constants_pass test (constants_of p) (before_constants p) (λ k within b. refl)) (refl, tt)
      (function_pass test p fits (before_function p) (λ b. refl) (λ b. refl) (λ n k b. refl) (λ n q b. refl) (λ n a c b. refl) (λ q v b. refl) (λ b. refl) (λ b. refl))

  decorations_mean : Passes (λ before i. option_map_or (marked_by (module_of p)) (decoration_of (read i)) true) [] (code_of p)
  unfolding form_of
  decorations_mean =
      let m = module_of p in
      let test : Test = λ before i. option_map_or (marked_by m) (decoration_of (read i)) true in
      passes_parts p test (refl, (refl, (refl, (refl, tt)))) (names_pass test p.members before_names (λ b. refl) (λ k b. refl))
      (decorations_pass test (length p.members) (before_decorations p) (λ b. ap (λ d. marked_variable m decoration.BUFFER_BLOCK (variable_is d)) known.block) (λ k within b. refl)
      (λ b. ap (λ d. marked_variable m decoration.DESCRIPTOR_SET (variable_is d)) known.buffer) (λ b. ap (λ d. marked_variable m decoration.BINDING (variable_is d)) known.buffer))
      (refl, (refl, (refl, (refl, (refl, (refl, tt))))))
      (constants_pass test (constants_of p) (before_constants p) (λ k within b. refl)) (refl, tt)
      (function_pass test p fits (before_function p) (λ b. refl) (λ b. refl) (λ n k b. refl) (λ n q b. refl) (λ n a c b. refl) (λ q v b. refl) (λ b. refl) (λ b. refl))

  -- Layout ------------------------------------------------------------------------------------------------------------

  -- what stands before the struct
  abbrev front : Code
  front = int_made ∷ main_made ∷ void_made ∷ before_types p

  member_next : (std140 : Bool) (k : ℕ) → k < length p.members →
      end_behind std140 (module_of p) front (number_on_member (module_of p) decoration.OFFSET id.BLOCK k) id.INT ≡ 4 * (k + 1)
  unfolding form_of
  member_next std140 k within =
      let m = module_of p in
      let next : 4 * k + 4 ≡ 4 * (k + 1) = omega arith in
      ap (λ o. end_behind std140 m front (number_in o) id.INT) (member_is_at p k within)
      ∙ ap (λ d. cond (is_padded (shape_of d)) (rounded (4 * k + 4) 4) (4 * k + 4)) known.int ∙ next

  aligned_from : (std140 : Bool) (k count : ℕ) → k + count ≡ length p.members → members_aligned std140 (module_of p) front id.BLOCK k (4 * k) (replicate count id.INT) ≡ true
  unfolding form_of
  aligned_from std140 k zero whole = refl
  aligned_from std140 k (suc count) whole =
      let m = module_of p in
      let at : is_aligned (Some (4 * k)) (4 * k) 4 ≡ true = and_from _ _ (le-leb (4 * k) (4 * k) (omega arith)) (eq-eqb ((4 * k) % 4) 0 (omega arith)) in
      and_from _ _ (ap (λ o. is_aligned (number_in o) (4 * k) 4) (member_is_at p k (omega arith)) ∙ at)
      (ap (λ end. members_aligned std140 m front id.BLOCK (k + 1) end (replicate count id.INT)) (member_next std140 k (omega arith)) ∙ aligned_from std140 (k + 1) count (omega arith))

  quiet : (before : Code) (type : ℕ) (shape : Shape) → ((std140 : Bool) → laid_by std140 (module_of p) before type shape ≡ true) →
      laid_for_all (module_of p) before (Some type) shape ≡ true
  quiet before type shape each = laid_in (module_of p) before type shape each (outside_of (module_of p))

  all_laid : Passes (λ before i. laid_for_all (module_of p) before (result (read i)) (shape_of (read i))) [] (code_of p)
  unfolding form_of
  all_laid =
      let m = module_of p in
      let test : Test = λ before i. laid_for_all m before (result (read i)) (shape_of (read i)) in
      passes_parts p test (refl, (refl, (refl, (refl, tt)))) (names_pass test p.members before_names (λ b. refl) (λ k b. refl))
      (decorations_pass test (length p.members) (before_decorations p) (λ b. refl) (λ k within b. refl) (λ b. refl) (λ b. refl)) (
        quiet (before_types p) id.VOID OfVoid (λ s. refl),
        (
          quiet (void_made ∷ before_types p) id.MAIN_TYPE (OfFunction id.VOID []) (λ s. refl),
          (
            quiet (main_made ∷ void_made ∷ before_types p) id.INT (OfInt 1) (λ s. refl),
            (
              quiet front id.BLOCK (OfStruct id.BLOCK (replicate (length p.members) id.INT)) (λ s. aligned_from s 0 (length p.members) (omega arith)),
              (
                quiet (block_made (length p.members) ∷ front) id.BLOCK_POINTER (OfPointer storage_class.UNIFORM id.BLOCK) (λ s. refl),
                (quiet (block_pointer_made ∷ block_made (length p.members) ∷ front) id.MEMBER_POINTER (OfPointer storage_class.UNIFORM id.INT) (λ s. refl), tt),
              ),
            ),
          ),
        ),
      )
      (constants_pass test (constants_of p) (before_constants p) (λ k within b. quiet b _ NoType (λ s. refl))) (quiet (before_variable p) id.BUFFER NoType (λ s. refl), tt)
      (function_pass test p fits (before_function p) (λ b. quiet b _ NoType (λ s. refl)) (λ b. quiet b _ NoType (λ s. refl)) (λ n k b. quiet b _ NoType (λ s. refl))
      (λ n q b. quiet b _ NoType (λ s. refl)) (λ n a c b. quiet b _ NoType (λ s. refl)) (λ q v b. refl) (λ b. refl) (λ b. refl))

  pub module_portable : Portable (module_of p)
  module_portable =
      let m = module_of p in
      record {
        switched = none_broken _ m no_switch;
        apart = none_broken _ m no_block_inside;
        natural = none_broken _ m no_array;
        growing = none_broken _ m nothing_grows;
        parted = none_broken _ m names_of_members;
        marked = none_broken _ m decorations_mean;
        laid = none_broken _ m all_laid;
      }
