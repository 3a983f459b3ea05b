-- Rules that look at an instruction outside functions and at nothing before it, or at what is defined before it.
use Rattle.std.proofs.Common.{◌≡◌, ℕ, true, false, not, [], drop, Option, Some, None, refl, sym, ap, ◌∙◌}
use Rattle.std.specs.List.{list_all}
use Rattle.std.proofs.lemmas.Bool.{and_from, and_parts, cond-false, not_from_false, not-true, or_left, or_right, true≢false}
use Rattle.gsl_words.specs.declared.module.Instr.{Instr}
use Rattle.gsl_words.specs.declared.module.Module.{Module}
use Rattle.gsl_instr.specs.declared.instruction.Instruction.{Instruction}
use Rattle.gsl_instr.specs.declared.instruction.Instruction.TheVariants as instruction
use Rattle.gsl_valid.specs.CallRules.{call_kept, call_of}
use Rattle.gsl_valid.specs.ConstantRules.{constant_typed, is_constant}
use Rattle.gsl_valid.specs.DefinedBeforeUse.{uses_defined}
use Rattle.gsl_valid.specs.ExtendedRules.{extended_kept, extended_of}
use Rattle.gsl_valid.specs.FunctionRules.{in_shape, may_stand_here}
use Rattle.gsl_valid.specs.GlobalRules.{global_kept, is_global}
use Rattle.gsl_valid.specs.Ids.{defined, mentions, needs}
use Rattle.gsl_valid.specs.Instruction.{passes_if, read}
use Rattle.gsl_valid.specs.Kinds as kinds
use Rattle.gsl_valid.specs.Kinds.{Kind, constant_in, kind, variable_in}
use Rattle.gsl_valid.specs.LocalityRules.{is_near, of_block, of_function, uses_near}
use Rattle.gsl_valid.specs.MemoryRules.{memory_kept, memory_of}
use Rattle.gsl_valid.specs.OperandRules.{operands_typed, typed}
use Rattle.gsl_valid.specs.Placed.{Code}
use Rattle.gsl_valid.specs.ReturnRules.{may_return, returns_kept}
use Rattle.gsl_valid.specs.Search.{from_here}
use Rattle.gsl_valid.specs.Sections.{in_section, may_come}
use Rattle.gsl_valid.specs.StructureRules.{begins_structured}
use Rattle.gsl_valid.specs.Types.{defined_as}
use Rattle.gsl_valid.specs.Where.{Outside, section_in, where_at}
use Rattle.gsl_fitting_code.specs.Kept.{is_outer}
use Rattle.gsl_fitting_code.proofs.Fronts.{defined_left, outer_no_function}
use Rattle.gsl_fitting_code.proofs.Near.{all_as}
use Rattle.gsl_fitting_sections.specs.Sections.{declares, is_lasting}
use Rattle.gsl_fitting_sections.proofs.Outside.{Lies, declares_outer, declares_section, heads, past_comes, precedes}
use Rattle.gsl_fitting_sections.proofs.Outside.Lies.{headed, named, marked, declared}

heads_outer : (k : Kind) → heads k ≡ true → is_outer k ≡ true
heads_outer kinds.Asks h = refl
heads_outer kinds.Imports h = refl
heads_outer kinds.Sets h = refl
heads_outer (kinds.Enters model function name interface) h = refl
heads_outer (kinds.Modes function mode parts) h = refl
heads_outer _ h = absurd (true≢false (sym h))

-- what a name, a decoration and a declaration use and mention
debugs_use : (d : Option Instruction) → kind d ≡ kinds.Debugs → needs d ≡ []
debugs_use None h = refl
debugs_use (Some instruction.Kill) h = refl
debugs_use (Some _) h = cc

decorates_use : (d : Option Instruction) (x : kinds.Decoration) → kind d ≡ kinds.Decorates x → needs d ≡ []
decorates_use None x h = refl
decorates_use (Some instruction.Kill) x h = refl
decorates_use (Some _) x h = cc

declares_name : (d : Option Instruction) → declares (kind d) ≡ true → mentions d ≡ []
declares_name None h = refl
declares_name (Some instruction.Kill) h = refl
declares_name (Some _) h = cc

-- Rules that say nothing of what stands outside functions
outer_calls : (m : Module) (before : Code) (k : Kind) → is_outer k ≡ true → call_of m before k ≡ true
outer_calls m before (kinds.Begins type id function_type) h = absurd (true≢false (sym h))
outer_calls m before (kinds.Calls type function arguments) h = absurd (true≢false (sym h))
outer_calls m before _ h = refl

outer_stands : (m : Module) (later : Code) (k : Kind) → is_outer k ≡ true → may_stand_here m later Outside k ≡ true
outer_stands m later kinds.Asks h = refl
outer_stands m later kinds.Imports h = refl
outer_stands m later kinds.Sets h = refl
outer_stands m later (kinds.Enters model function name interface) h = refl
outer_stands m later (kinds.Modes function mode parts) h = refl
outer_stands m later kinds.Debugs h = refl
outer_stands m later (kinds.Decorates d) h = refl
outer_stands m later (kinds.Declares shape) h = refl
outer_stands m later (kinds.Fixes type value) h = refl
outer_stands m later (kinds.Holds v) h = refl
outer_stands m later _ h = absurd (true≢false (sym h))

outer_operands : (m : Module) (d : Option Instruction) → is_outer (kind d) ≡ true → passes_if (operands_typed m) d ≡ true
outer_operands m None h = refl
outer_operands m (Some instruction.Kill) h = refl
outer_operands m (Some _) h = cc

outer_memory : (m : Module) (d : Option Instruction) → is_outer (kind d) ≡ true → passes_if (memory_of m) d ≡ true
outer_memory m None h = refl
outer_memory m (Some instruction.Kill) h = refl
outer_memory m (Some _) h = cc

outer_extended : (m : Module) (d : Option Instruction) → is_outer (kind d) ≡ true → passes_if (extended_of m) d ≡ true
outer_extended m None h = refl
outer_extended m (Some instruction.Kill) h = refl
outer_extended m (Some _) h = cc

outer_returns : (m : Module) (before : Code) (d : Option Instruction) → is_outer (kind d) ≡ true → passes_if (may_return m before) d ≡ true
outer_returns m before None h = refl
outer_returns m before (Some instruction.Kill) h = absurd (true≢false (sym h))
outer_returns m before (Some _) h = cc

heads_constant : (k : Kind) → precedes k ≡ true → (constant_in k ≡ None) × (variable_in k ≡ None)
heads_constant (kinds.Fixes type value) h = absurd (true≢false (sym h))
heads_constant (kinds.Holds v) h = absurd (true≢false (sym h))
heads_constant _ h = (refl, refl)

pub heads_precedes : (k : Kind) → heads k ≡ true → precedes k ≡ true
heads_precedes kinds.Asks h = refl
heads_precedes kinds.Imports h = refl
heads_precedes kinds.Sets h = refl
heads_precedes (kinds.Enters model function name interface) h = refl
heads_precedes (kinds.Modes function mode parts) h = refl
heads_precedes _ h = absurd (true≢false (sym h))

module _ (m : Module) where
  pub lies_outer : (before : Code) (i : Instr) → Lies m before i → is_outer (kind (read i)) ≡ true
  lies_outer before i (headed p) = heads_outer (kind (read i)) p.is
  lies_outer before i (named p) = ap is_outer p.name.is
  lies_outer before i (marked p) = ap is_outer p.mark.is
  lies_outer before i (declared p) = declares_outer (kind (read i)) p.declaration.is

  lies_outside : (before : Code) (i : Instr) → Lies m before i → ((where_at m before).inside ≡ false) × ((where_at m before).standing ≡ Outside)
  lies_outside before i (headed p) = (p.inside, p.standing)
  lies_outside before i (named p) = (p.past.inside, p.past.standing)
  lies_outside before i (marked p) = (p.past.inside, p.past.standing)
  lies_outside before i (declared p) = (p.past.inside, p.past.standing)

  comes : (before : Code) (i : Instr) (n : ℕ) → (where_at m before).inside ≡ false → section_in false (kind (read i)) ≡ n → may_come (where_at m before).section n ≡ true → may_come (where_at m before).section (section_in (where_at m before).inside (kind (read i))) ≡ true
  comes before i n inside section may = ap (λ b. may_come (where_at m before).section (section_in b (kind (read i)))) inside ∙ ap (may_come (where_at m before).section) section ∙ may

  pub section_passes : (before : Code) (i : Instr) → Lies m before i → in_section m before i ≡ true
  section_passes before i (headed p) = and_from _ _ (comes before i (section_in false (kind (read i))) p.inside refl p.comes) p.numbers
  section_passes before i (named p) = and_from _ _ (comes before i 6 p.past.inside (ap (section_in false) p.name.is) (past_comes m 6 before refl p.past)) p.name.numbers
  section_passes before i (marked p) = and_from _ _ (comes before i 7 p.past.inside (ap (section_in false) p.mark.is) (past_comes m 7 before refl p.past)) p.mark.numbers
  section_passes before i (declared p) = and_from _ _ (comes before i 8 p.past.inside (declares_section (kind (read i)) p.declaration.is) (past_comes m 8 before refl p.past)) p.declaration.numbers

  lasting_defined : (id : ℕ) → is_lasting m id ≡ true → defined m.instrs id ≡ true
  lasting_defined id h = (and_parts (defined m.instrs id) _ h).0

  pub uses_pass : (before : Code) (i : Instr) → Lies m before i → uses_defined m before i ≡ true
  uses_pass before i (headed p) = and_from _ _ (ap (list_all (defined before)) p.uses) (all_as _ _ (mentions (read i)) lasting_defined p.names)
  uses_pass before i (named p) = and_from _ _ (ap (list_all (defined before)) (debugs_use (read i) p.name.is)) (all_as _ _ (mentions (read i)) lasting_defined p.name.names)
  uses_pass before i (marked p) = and_from _ _ (ap (list_all (defined before)) (decorates_use (read i) p.mark.decoration p.mark.is)) (all_as _ _ (mentions (read i)) lasting_defined p.mark.names)
  uses_pass before i (declared p) =
      and_from _ _ (all_as (defined p.earlier) (defined before) (needs (read i)) (λ id h. ap (λ c. defined c id) p.is ∙ defined_left p.earlier p.base id h) p.declaration.uses)
      (ap (list_all (defined m.instrs)) (declares_name (read i) p.declaration.is))

  near_outside : (before : Code) (id : ℕ) → (where_at m before).inside ≡ false → of_block (defined_as m id) ≡ false → is_near m before id ≡ true
  near_outside before id inside no_block = cond-false _ _ _ no_block ∙ or_left _ _ (or_right (not (of_function (defined_as m id))) _ (not_from_false _ inside))

  near_lasting : (before : Code) → (where_at m before).inside ≡ false → (id : ℕ) → is_lasting m id ≡ true → is_near m before id ≡ true
  near_lasting before inside id h = near_outside before id inside (not-true _ (and_parts (defined m.instrs id) (not (of_block (defined_as m id))) h).1)

  pub near_passes : (before : Code) (i : Instr) → Lies m before i → uses_near m before i ≡ true
  near_passes before i (headed p) = and_from _ _ (ap (list_all (is_near m before)) p.uses) (all_as _ _ (mentions (read i)) (near_lasting before p.inside) p.names)
  near_passes before i (named p) = and_from _ _ (ap (list_all (is_near m before)) (debugs_use (read i) p.name.is)) (all_as _ _ (mentions (read i)) (near_lasting before p.past.inside) p.name.names)
  near_passes before i (marked p) = and_from _ _ (ap (list_all (is_near m before)) (decorates_use (read i) p.mark.decoration p.mark.is)) (all_as _ _ (mentions (read i)) (near_lasting before p.past.inside) p.mark.names)
  near_passes before i (declared p) =
      and_from _ _ (all_as (defined p.earlier) (is_near m before) (needs (read i)) (λ id h. near_outside before id p.past.inside (p.lasts id h)) p.declaration.uses)
      (ap (list_all (is_near m before)) (declares_name (read i) p.declaration.is))

  pub constants_pass : (before : Code) (i : Instr) → Lies m before i → constant_typed m before i ≡ true
  constants_pass before i (headed p) = ap (is_constant m) (heads_constant (kind (read i)) (heads_precedes (kind (read i)) p.is)).0
  constants_pass before i (named p) = ap (λ k. is_constant m (constant_in k)) p.name.is
  constants_pass before i (marked p) = ap (λ k. is_constant m (constant_in k)) p.mark.is
  constants_pass before i (declared p) = p.declaration.fixed

  pub globals_pass : (before : Code) (i : Instr) → Lies m before i → global_kept m before i ≡ true
  globals_pass before i (headed p) = or_right (where_at m before).inside _ (ap (is_global m) (heads_constant (kind (read i)) (heads_precedes (kind (read i)) p.is)).1)
  globals_pass before i (named p) = or_right (where_at m before).inside _ (ap (λ k. is_global m (variable_in k)) p.name.is)
  globals_pass before i (marked p) = or_right (where_at m before).inside _ (ap (λ k. is_global m (variable_in k)) p.mark.is)
  globals_pass before i (declared p) = or_right (where_at m before).inside _ p.declaration.holds

  pub shape_passes : (before : Code) (i : Instr) → Lies m before i → in_shape m before i ≡ true
  shape_passes before i p = ap (λ s. may_stand_here m (drop 1 (from_here m before)) s (kind (read i))) (lies_outside before i p).1 ∙ outer_stands m (drop 1 (from_here m before)) (kind (read i)) (lies_outer before i p)

  pub calls_pass : (before : Code) (i : Instr) → Lies m before i → call_kept m before i ≡ true
  calls_pass before i p = outer_calls m before (kind (read i)) (lies_outer before i p)

  pub structured_passes : (before : Code) (i : Instr) → Lies m before i → begins_structured m before i ≡ true
  structured_passes before i p = or_left _ _ (not_from_false _ (outer_no_function (kind (read i)) (lies_outer before i p)))

  pub typed_passes : (before : Code) (i : Instr) → Lies m before i → typed m before i ≡ true
  typed_passes before i p = outer_operands m (read i) (lies_outer before i p)

  pub memory_passes : (before : Code) (i : Instr) → Lies m before i → memory_kept m before i ≡ true
  memory_passes before i p = outer_memory m (read i) (lies_outer before i p)

  pub extended_passes : (before : Code) (i : Instr) → Lies m before i → extended_kept m before i ≡ true
  extended_passes before i p = outer_extended m (read i) (lies_outer before i p)

  pub returns_pass : (before : Code) (i : Instr) → Lies m before i → returns_kept m before i ≡ true
  returns_pass before i p = outer_returns m before (read i) (lies_outer before i p)
