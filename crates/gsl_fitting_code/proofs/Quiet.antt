-- Rules of what stands outside functions say nothing of what stands in them (V4 to V9).
use Rattle.std.proofs.Common.{◌≡◌, ℕ, true, Option, Some, None, refl, sym, ap, ◌∙◌, subst, ◌⊎◌, inl, inr}
use Rattle.std.specs.Option.{option_map_or}
use Rattle.std.proofs.lemmas.Bool.{and_from, or_left, or_right, true≢false}
use Rattle.gsl_words.specs.declared.module.Instr.{Instr}
use Rattle.gsl_words.specs.declared.module.Module.{Module}
use Rattle.gsl_instr.specs.declared.instruction.Instruction.{Instruction}
use Rattle.gsl_valid.specs.ConstantRules.{constant_typed, is_constant}
use Rattle.gsl_valid.specs.DecorationRules.{decorated, decoration_kept, variable_decorated}
use Rattle.gsl_valid.specs.EntryRules.{entry_kept, entry_of}
use Rattle.gsl_valid.specs.GlobalRules.{global_kept, is_global}
use Rattle.gsl_valid.specs.Ids.{result}
use Rattle.gsl_valid.specs.Instruction.{read}
use Rattle.gsl_valid.specs.Kinds as kinds
use Rattle.gsl_valid.specs.Kinds.{Kind, Variable, constant_in, decoration_in, kind, shape_in, variable_in}
use Rattle.gsl_valid.specs.LayoutRules.{laid, laid_if}
use Rattle.gsl_valid.specs.Placed.{Code}
use Rattle.gsl_valid.specs.TypeRules.{is_first, is_made, type_made}
use Rattle.gsl_valid.specs.Where.{where_at}
use Rattle.gsl_fitting.specs.Fits.{works}
use Rattle.gsl_fitting_code.proofs.Places.{Plays, Sat}
use Rattle.gsl_fitting_code.proofs.Places.Plays.{starting, parameter, opening, variable, inside, ending}

-- Such an instruction stands in a function alone.
record Inner (k : Kind) : Type 0 where
  shape : shape_in k ≡ kinds.NoType
  constant : constant_in k ≡ None
  decoration : decoration_in k ≡ None
  entry : (m : Module) (before : Code) → entry_of m before k ≡ true

inner_works : (k : Kind) → works k ≡ true → Inner k × (variable_in k ≡ None)
inner_works (kinds.Calls type function arguments) h = (record { shape = refl; constant = refl; decoration = refl; entry = λ m before. refl }, refl)
inner_works (kinds.Gives type) h = (record { shape = refl; constant = refl; decoration = refl; entry = λ m before. refl }, refl)
inner_works kinds.Does h = (record { shape = refl; constant = refl; decoration = refl; entry = λ m before. refl }, refl)
inner_works _ h = absurd (true≢false (sym h))

-- the kinds that a function has beside them
inner_kind : (k : Kind) (d : Option Instruction) → kind d ≡ k → Inner k → Inner (kind d)
inner_kind k d is inner = subst Inner (sym is) inner

module _ (m : Module) (rank : ℕ → ℕ) where
  sat_inner : (before : Code) (i : Instr) → Sat m rank before i → Inner (kind (read i)) × (variable_in (kind (read i)) ≡ None)
  sat_inner before i p = elim p.is [
    | inl work ↦ inner_works (kind (read i)) work
    | inr more ↦ elim more [
      | inl leaves ↦ (inner_kind kinds.Leaves (read i) leaves (record { shape = refl; constant = refl; decoration = refl; entry = λ m before. refl }), ap variable_in leaves)
      | inr merges ↦ (inner_kind kinds.Merges (read i) merges.0 (record { shape = refl; constant = refl; decoration = refl; entry = λ m before. refl }), ap variable_in merges.0)
    ]
  ]

  inner : (before : Code) (i : Instr) → Plays m rank before i → Inner (kind (read i))
  inner before i (starting p) = inner_kind _ (read i) (ap kind p.reads) (record { shape = refl; constant = refl; decoration = refl; entry = λ m before. refl })
  inner before i (parameter p) = inner_kind _ (read i) (ap kind p.reads) (record { shape = refl; constant = refl; decoration = refl; entry = λ m before. refl })
  inner before i (opening p) = inner_kind _ (read i) (ap kind p.reads) (record { shape = refl; constant = refl; decoration = refl; entry = λ m before. refl })
  inner before i (variable p) = inner_kind _ (read i) (ap kind p.holds.reads) (record { shape = refl; constant = refl; decoration = refl; entry = λ m before. refl })
  inner before i (inside p) = (sat_inner before i p).0
  inner before i (ending p) = inner_kind _ (read i) (ap kind p.reads) (record { shape = refl; constant = refl; decoration = refl; entry = λ m before. refl })

  -- in a function, or no variable
  local : (before : Code) (i : Instr) → Plays m rank before i → ((where_at m before).inside ≡ true) ⊎ (variable_in (kind (read i)) ≡ None)
  local before i (starting p) = inr (ap (λ d. variable_in (kind d)) p.reads)
  local before i (parameter p) = inl p.within.inside
  local before i (opening p) = inl p.within.inside
  local before i (variable p) = inl p.within.inside
  local before i (inside p) = inl p.block.within.inside
  local before i (ending p) = inl p.within.inside

  pub types_pass : (before : Code) (i : Instr) → Plays m rank before i → type_made m before i ≡ true
  types_pass before i p = ap (is_made m (is_first before i)) (inner before i p).shape

  pub constants_pass : (before : Code) (i : Instr) → Plays m rank before i → constant_typed m before i ≡ true
  constants_pass before i p = ap (is_constant m) (inner before i p).constant

  pub globals_pass : (before : Code) (i : Instr) → Plays m rank before i → global_kept m before i ≡ true
  globals_pass before i p = elim (local before i p) [ inl here ↦ or_left _ _ here | inr none ↦ or_right (where_at m before).inside _ (ap (is_global m) none) ]

  pub decorations_pass : (before : Code) (i : Instr) → Plays m rank before i → decorated m before i ≡ true
  decorations_pass before i p = and_from _ _ (ap (λ d. option_map_or (decoration_kept m before) d true) (inner before i p).decoration) (by_variable (variable_in (kind (read i))) (local before i p))
    where
      by_variable : (v : Option Variable) → ((where_at m before).inside ≡ true) ⊎ (v ≡ None) → variable_decorated m before v ≡ true
      by_variable None h = refl
      by_variable (Some v) h = elim h [ inl here ↦ or_left _ _ here | inr none ↦ absurd cc ]

  pub layouts_pass : (before : Code) (i : Instr) → Plays m rank before i → laid m before i ≡ true
  layouts_pass before i p = ap (laid_if m before (result (read i))) (inner before i p).shape ∙ by_result (result (read i))
    where
      by_result : (o : Option ℕ) → laid_if m before o kinds.NoType ≡ true
      by_result None = refl
      by_result (Some id) = refl

  pub entries_pass : (before : Code) (i : Instr) → Plays m rank before i → entry_kept m before i ≡ true
  entries_pass before i p = (inner before i p).entry m before
