-- The sections of a program's module stand in order, and its numbers are those that they may be.
use Rattle.std.proofs.Common.{◌≡◌, ℕ, Bool, false, ◌≤◌, true, ◌&&◌, List, [], ◌∷◌, length, map, Option, None, refl, ap, ◌∙◌, arith}
use Rattle.std.specs.Prelude.{nat_le, if◌then◌else◌}
use Rattle.std.specs.List.{list_any, range_with_len}
use Rattle.std.proofs.lemmas.Bool.{and_from, or_parts, le-leb}
use Rattle.gsl_words.specs.declared.module.Instr.{Instr}
use Rattle.gsl_words.specs.declared.module.Module.{Module}
use Rattle.gsl_instr.specs.declared.instruction.Instruction.{Instruction}
use Rattle.gsl_instr.specs.Forms.{form_of}
use Rattle.gsl_valid.specs.Instruction.{read}
use Rattle.gsl_valid.specs.Kinds.{Kind, Begins, Ended, kind}
use Rattle.gsl_valid.specs.Types.{begins, function_begins}
use Rattle.gsl_valid.specs.Where.{where_at, inside_after, in_function_after, functions, globals, decorations, names, entry_points}
use Rattle.gsl_valid.specs.Placed.{count_of_words, bound_place}
use Rattle.gsl_valid.specs.Search.{passed, unless, Passes, ◌otherwise◌, first_broken}
use Rattle.gsl_valid.specs.Sections.{sections, in_section, may_come, is_complete, most_bound}
use Rattle.gsl_valid.proofs.Searching.{passes_append, passes_range, passed_append, none_broken}
use Rattle.gsl_form.specs.declared.program.Program.{Program}
use Rattle.gsl_form.specs.Form.{IsProgram}
use Rattle.gsl_cmd.specs.Lowering.{Code, code_of, constants_of, constant_code, first_id, module_of}
use Rattle.gsl_cmd.proofs.Known.{program_known}
use Rattle.gsl_cmd.proofs.Walks.{Walk, statements_pass}
use Rattle.gsl_cmd.proofs.Parts.{member_name, member_offset, constant_at, before_names, before_decorations, before_types, before_constants, before_variable, before_function, before_code, ending, passes_parts, none_before_types, none_before_variable, none_in_decorations}
use Rattle.gsl_cmd.proofs.ValidIds.{bound_of}
use Rattle.gsl_cmd.proofs.Counts.{bound_below}
use Rattle.gsl_cmd.proofs.Quiet.{behind_all, block_name, block_decoration, set_decoration, binding_decoration}

-- the section that is reached
abbrev reached : Module → Code → ℕ
reached m before = (where_at m before).section

-- What is reached and what may come there.
comes : (at next : ℕ) (section : ℕ) → at ≡ next → may_come next section ≡ true → (may_come at section && true) ≡ true
unfolding form_of
comes at next section e may = and_from _ _ (ap (λ r. may_come r section) e ∙ may) refl

still : (k : Kind) (inside : Bool) → begins k ≡ false → inside ≡ false → inside_after inside k ≡ false
still (Begins type id function_type) inside begins outside = absurd (cc)
still Ended inside begins outside = refl
still k inside begins outside = outside

outside_still : (d : Option Instruction) (inside : Bool) → function_begins d ≡ false → inside ≡ false → in_function_after inside d ≡ false
outside_still d inside begins outside = still (kind d) inside begins outside

-- where no function begins, code stands in none
not_in_function : (m : Module) (code : Code) → list_any (λ i. function_begins (read i)) code ≡ false → (where_at m code).inside ≡ false
unfolding form_of
not_in_function m [] none = refl
not_in_function m (i ∷ code) none =
    let parts = or_parts (function_begins (read i)) _ none in outside_still (read i) ((where_at m code).inside) parts.0 (not_in_function m code parts.1)

module _ (m : Module) (constants : List ℕ) (members bound : ℕ) where
  abbrev sections_walk : Walk constants members bound (λ i. Unit {0}) (in_section m)
  unfolding form_of
  sections_walk = record {
    ready = λ n before. reached m before ≡ functions;
    value = λ v before. Unit {0};
    points = λ v before. Unit {0};
    chain = λ n k before within room here now. (comes (reached m before) functions functions now refl, refl, tt);
    chain_keeps = λ n k v before held. tt;
    load_passes = λ n q before room here now at. (comes (reached m before) functions functions now refl, refl, tt);
    load_keeps = λ n q v before held. tt;
    add_passes = λ n a b before room here now x y. (comes (reached m before) functions functions now refl, refl, tt);
    store_passes = λ n q v before here now at held. (comes (reached m before) functions functions now refl, refl);
    literal = λ n v before known now. tt;
  }

module _ (p : Program) where
  abbrev m : Module
  m = module_of p

  abbrev Reached : ℕ → ℕ → Code → Type 0
  Reached section k before = reached m before ≡ section

  names_stand : Passes (in_section m) (block_name ∷ before_names) (map (member_name p.members) (range_with_len 0 (length p.members))) × (reached m (before_decorations p) ≡ names)
  unfolding form_of
  names_stand =
      passes_range (in_section m) (Reached names) (member_name p.members) 0 (length p.members)
      (λ k before low high now. (comes (reached m before) names names now refl, refl)) (block_name ∷ before_names) refl

  offsets_stand : Passes (in_section m) (block_decoration ∷ before_decorations p) (map member_offset (range_with_len 0 (length p.members)))
      × (reached m (passed (block_decoration ∷ before_decorations p) (map member_offset (range_with_len 0 (length p.members)))) ≡ decorations)
  unfolding form_of
  offsets_stand =
      passes_range (in_section m) (Reached decorations) member_offset 0 (length p.members)
      (λ k before low high now. (comes (reached m before) decorations decorations now refl, refl)) (block_decoration ∷ before_decorations p) refl

  constants_stand : Passes (in_section m) (before_constants p) (constant_code (constants_of p)) × (reached m (before_variable p) ≡ globals)
  unfolding form_of
  constants_stand =
      passes_range (in_section m) (Reached globals) (constant_at (constants_of p)) 0 (length (constants_of p))
      (λ k before low high now. (comes (reached m before) globals globals now refl, refl)) (before_constants p) refl

  types_stand : reached m (before_types p) ≡ decorations
  unfolding form_of
  types_stand =
      ap (reached m) (passed_append (block_decoration ∷ before_decorations p) (map member_offset (range_with_len 0 (length p.members))) (set_decoration ∷ binding_decoration ∷ []))

  -- the variable stands in no function
  outside_functions : (where_at m (before_variable p)).inside ≡ false
  unfolding form_of
  outside_functions =
      let f : Instr → Bool = λ i. function_begins (read i) in
      not_in_function m (before_variable p)
      (none_before_variable p f (none_before_types p f refl refl (λ k. refl) (none_in_decorations p f refl (λ k. refl) refl refl)) (λ k. refl))

  pub sections_stand : IsProgram p → Passes (in_section m) [] (code_of p)
  unfolding form_of
  sections_stand fits =
      passes_parts p (in_section m) (refl, (refl, (refl, (refl, tt)))) (refl, names_stand.0) (
        comes (reached m (before_decorations p)) names decorations names_stand.1 refl,
        passes_append (in_section m) (block_decoration ∷ before_decorations p) (map member_offset (range_with_len 0 (length p.members)))
            (set_decoration ∷ binding_decoration ∷ []) offsets_stand.0
            (comes _ decorations decorations offsets_stand.1 refl, (refl, tt)),
      )
      (comes (reached m (before_types p)) decorations globals types_stand refl, (refl, (refl, (refl, (refl, (refl, tt))))))
      constants_stand.0 (
        ap (λ inside. may_come (reached m (before_variable p)) (if inside then functions else globals) && true) outside_functions
            ∙ comes (reached m (before_variable p)) globals globals constants_stand.1 refl,
        tt,
      ) (
        comes (reached m (before_function p)) globals functions (ap (λ inside. if inside then functions else globals) outside_functions) refl,
        (
          refl,
          statements_pass (constants_of p) (length p.members) (bound_of p) (λ i. Unit {0}) (in_section m)
              (sections_walk m (constants_of p) (length p.members) (bound_of p)) (first_id (constants_of p)) p.statements ending (before_code p)
              (program_known p fits) (omega arith) (λ i has. tt) refl (λ end behind e now. (comes (reached m behind) functions functions now refl, (refl, tt))),
        ),
      )

  few_ids : IsProgram p → bound_of p ≤ most_bound
  unfolding form_of
  few_ids fits = omega (arith, bound_below p fits)

  pub sections_none : IsProgram p → sections (module_of p) ≡ None
  unfolding form_of
  sections_none fits =
      let bound = and_from _ _ (le-leb 1 (bound_of p) (omega arith)) (le-leb (bound_of p) most_bound (few_ids fits)) in
      let complete : is_complete m ≡ true = behind_all p (λ code. nat_le entry_points (reached m code) ≡ true) (λ before. refl) in
      let order = none_broken (in_section m) m (sections_stand fits) in
      ap (λ b. unless b bound_place otherwise first_broken (in_section m) m otherwise unless (is_complete m) (count_of_words m)) bound
      ∙ ap (λ o. o otherwise unless (is_complete m) (count_of_words m)) order ∙ ap (λ b. unless b (count_of_words m)) complete
