-- What functions use is defined before it, and near enough (V3, V13).
use Rattle.std.proofs.Common.{◌≡◌, ℕ, Bool, true, false, not, ◌&&◌, ◌||◌, List, [], ◌∷◌, Option, refl, sym, ap, ◌∙◌, subst, inl, inr}
use Rattle.std.specs.List.{list_all}
use Rattle.std.proofs.lemmas.Bool.{and_from, and_parts, cond-false, cond_both, or_right, or_cases, true≢false}
use Rattle.gsl_words.specs.declared.module.Instr.{Instr}
use Rattle.gsl_words.specs.declared.module.Module.{Module}
use Rattle.gsl_instr.specs.declared.instruction.Instruction.{Instruction}
use Rattle.gsl_valid.specs.DefinedBeforeUse.{uses_defined}
use Rattle.gsl_valid.specs.EntryRules.{is_among}
use Rattle.gsl_valid.specs.Ids.{defined, defines, mentions, needs}
use Rattle.gsl_valid.specs.Instruction.{read}
use Rattle.gsl_valid.specs.Kinds as kinds
use Rattle.gsl_valid.specs.Kinds.{Kind, kind}
use Rattle.gsl_valid.specs.LocalityRules as locality
use Rattle.gsl_valid.specs.LocalityRules.{is_near, near_as, of_block, of_function, uses_near}
use Rattle.gsl_valid.specs.Placed.{Code}
use Rattle.gsl_valid.specs.Types.{defined_as, outside_of}
use Rattle.gsl_valid.specs.Where.{bounds, bounds_block, bounds_function, bounds_one, where_at}
use Rattle.gsl_fitting.specs.Fits.{is_known, is_mark}
use Rattle.gsl_fitting_code.specs.Kept.{Stands}
use Rattle.gsl_fitting_code.proofs.Fronts.{mark_defined, mark_not_of_block, mark_not_of_function, outer_not_of_block, outer_not_of_function}
use Rattle.gsl_fitting_code.proofs.Places.{Plays, Sat}
use Rattle.gsl_fitting_code.proofs.Places.Plays.{starting, parameter, opening, variable, inside, ending}

pub all_as : (p q : ℕ → Bool) (xs : List ℕ) → ((x : ℕ) → p x ≡ true → q x ≡ true) → list_all p xs ≡ true → list_all q xs ≡ true
all_as p q [] each h = refl
all_as p q (x ∷ xs) each h = let parts = and_parts (p x) (list_all p xs) h in and_from _ _ (each x parts.0) (all_as p q xs each parts.1)

-- Blocks and bodies are parts of the code before ----------------------------------------------------------------------

either_as : (a b c : Bool) → (b ≡ true → c ≡ true) → (a || b) ≡ true → (a || c) ≡ true
either_as true b c more h = refl
either_as false b c more h = more h

one_bounds : (k : Kind) → bounds k ≡ false → bounds_one k ≡ false
one_bounds (kinds.Begins type id function_type) h = absurd (true≢false h)
one_bounds kinds.Ended h = absurd (true≢false h)
one_bounds _ h = refl

module _ (m : Module) where
  block_before : (before : Code) (id : ℕ) → defined (where_at m before).block id ≡ true → defined before id ≡ true
  block_before [] id h = h
  block_before (i ∷ before) id h =
      cond_both (bounds_block (read i)) [] (i ∷ (where_at m before).block) (λ c. defined c id ≡ true → defined (i ∷ before) id ≡ true)
      (λ e h. absurd (true≢false (sym h))) (λ e h. either_as (defines i id) _ _ (block_before before id) h) h

  body_before : (before : Code) (id : ℕ) → defined (where_at m before).body id ≡ true → defined before id ≡ true
  body_before [] id h = h
  body_before (i ∷ before) id h =
      cond_both (bounds_function (read i)) [] (i ∷ (where_at m before).body) (λ c. defined c id ≡ true → defined (i ∷ before) id ≡ true)
      (λ e h. absurd (true≢false (sym h))) (λ e h. either_as (defines i id) _ _ (body_before before id) h) h

  block_body : (before : Code) (id : ℕ) → defined (where_at m before).block id ≡ true → defined (where_at m before).body id ≡ true
  block_body [] id h = h
  block_body (i ∷ before) id h =
      cond_both (bounds_block (read i)) [] (i ∷ (where_at m before).block) (λ c. defined c id ≡ true → defined (where_at m (i ∷ before)).body id ≡ true)
      (λ e h. absurd (true≢false (sym h)))
      (λ e h. subst (λ c. defined c id ≡ true) (sym (cond-false _ _ _ (one_bounds (kind (read i)) e))) (either_as (defines i id) _ _ (block_body before id) h)) h

-- Ids that are known ----------------------------------------------------------------------------------------------------

local_no_value : (k : Kind) → locality.is_local k ≡ true → locality.gives_value k ≡ false
local_no_value (kinds.Calls type function arguments) h = absurd (true≢false (sym h))
local_no_value (kinds.Gives type) h = absurd (true≢false (sym h))
local_no_value _ h = refl

near_outside : (m : Module) (before : Code) (id : ℕ) → of_block (defined_as m id) ≡ false → of_function (defined_as m id) ≡ false → is_near m before id ≡ true
near_outside m before id no_block no_function =
    cond-false _ _ _ no_block ∙ ap (λ b. not b || not (where_at m before).inside || defined (where_at m before).body id) no_function

near_own : (m : Module) (before : Code) (id : ℕ) → of_block (defined_as m id) ≡ false → defined (where_at m before).body id ≡ true → is_near m before id ≡ true
near_own m before id no_block held = cond-false _ _ _ no_block ∙ or_right (not (of_function (defined_as m id)) || not (where_at m before).inside) _ held

near_given : (m : Module) (before : Code) (id : ℕ) → defined (where_at m before).block id ≡ true → is_near m before id ≡ true
near_given m before id gave =
    cond_both (of_block (defined_as m id)) _ _ (λ b. b ≡ true) (λ e. gave) (λ e. or_right (not (of_function (defined_as m id)) || not (where_at m before).inside) _ (block_body m before id gave))

module _ {m : Module} {rank : ℕ → ℕ} {front functions : Code} (s : Stands m rank front functions) where
  outer_near : (before : Code) (id : ℕ) → defined (outside_of m) id ≡ true → is_near m before id ≡ true
  outer_near before id h = near_outside m before id (outer_not_of_block s id h) (outer_not_of_function s id h)

  mark_near : (before : Code) (id : ℕ) → is_mark m id ≡ true → is_near m before id ≡ true
  mark_near before id h = near_outside m before id (mark_not_of_block m id h) (mark_not_of_function m id h)

  -- by where an id is known from
  module _ (before : Code) (i : Instr) (p : Sat m rank before i) where
    known_before : (id : ℕ) → is_known m p.frame p.given id ≡ true → defined before id ≡ true
    known_before id h = elim (or_cases (is_among p.given id || is_among p.frame.own id) _ h) [
      | inl here ↦ elim (or_cases (is_among p.given id) _ here) [ inl given ↦ block_before m before id (p.block.gave id given) | inr own ↦ body_before m before id (p.owns.holds id own) ]
      | inr outer ↦ p.block.within.outer id outer
    ]

    known_near : (id : ℕ) → is_known m p.frame p.given id ≡ true → is_near m before id ≡ true
    known_near id h = elim (or_cases (is_among p.given id || is_among p.frame.own id) _ h) [
      | inl here ↦ elim (or_cases (is_among p.given id) _ here) [
        | inl given ↦ near_given m before id (p.block.gave id given)
        | inr own ↦ near_own m before id (local_no_value (kind (defined_as m id)) (p.own id own)) (p.owns.holds id own)
      ]
      | inr outer ↦ outer_near before id outer
    ]

  abbrev Two : (ℕ → Bool) → (ℕ → Bool) → Option Instruction → Bool
  Two p q d = list_all p (needs d) && list_all q (mentions d)

  pub uses_pass : (before : Code) (i : Instr) → Plays m rank before i → uses_defined m before i ≡ true
  uses_pass before i (starting p) = ap (Two (defined before) (defined m.instrs)) p.reads ∙ and_from _ _ (and_from _ _ (p.outer p.type p.type_known) (and_from _ _ (p.outer p.function_type p.function_known) refl)) refl
  uses_pass before i (parameter p) = ap (Two (defined before) (defined m.instrs)) p.reads ∙ and_from _ _ (and_from _ _ (p.within.outer p.type p.known) refl) refl
  uses_pass before i (opening p) = ap (Two (defined before) (defined m.instrs)) p.reads
  uses_pass before i (variable p) = ap (Two (defined before) (defined m.instrs)) p.holds.reads ∙ and_from _ _ (all_as (defined (outside_of m)) (defined before) (p.holds.type ∷ p.holds.initialiser) p.within.outer p.holds.uses) refl
  uses_pass before i (inside p) = and_from _ _ (all_as _ _ (needs (read i)) (known_before before i p) p.sits.uses) (all_as _ _ (mentions (read i)) (mark_defined m) p.sits.names)
  uses_pass before i (ending p) = ap (Two (defined before) (defined m.instrs)) p.reads

  pub near_passes : (before : Code) (i : Instr) → Plays m rank before i → uses_near m before i ≡ true
  near_passes before i (starting p) = ap (Two (is_near m before) (is_near m before)) p.reads ∙ and_from _ _ (and_from _ _ (outer_near before p.type p.type_known) (and_from _ _ (outer_near before p.function_type p.function_known) refl)) refl
  near_passes before i (parameter p) = ap (Two (is_near m before) (is_near m before)) p.reads ∙ and_from _ _ (and_from _ _ (outer_near before p.type p.known) refl) refl
  near_passes before i (opening p) = ap (Two (is_near m before) (is_near m before)) p.reads
  near_passes before i (variable p) = ap (Two (is_near m before) (is_near m before)) p.holds.reads ∙ and_from _ _ (all_as (defined (outside_of m)) (is_near m before) (p.holds.type ∷ p.holds.initialiser) (outer_near before) p.holds.uses) refl
  near_passes before i (inside p) = and_from _ _ (all_as _ _ (needs (read i)) (known_near before i p) p.sits.uses) (all_as _ _ (mentions (read i)) (mark_near before) p.sits.names)
  near_passes before i (ending p) = ap (Two (is_near m before) (is_near m before)) p.reads
