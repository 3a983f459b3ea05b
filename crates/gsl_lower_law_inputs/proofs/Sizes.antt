-- The size of a work group in the module of a program.
use Rattle.std.proofs.Common.{◌≡◌, refl, sym, ap, ◌∙◌, subst, inl, inr, ◌⊎◌, ℕ, true, false, List, [], ◌∷◌, ◌++◌, length, Option, Some, None, if◌then◌else◌, arith}
use Rattle.std.specs.Prelude.{◌==◌, filter_map}
use Rattle.std.specs.List.{Contains, cons_option}
use Rattle.std.proofs.lemmas.Bool.{and_parts, eqb-true, false≢true}
use Rattle.std.proofs.lemmas.List.Elements.{Contains-append_left, Contains-append_right, Contains-push}
use Rattle.gsl_base.specs.declared.stage.Stage.{Stage}
use Rattle.gsl_base.specs.declared.stage.Stage.TheVariants.{Vertex, Fragment, Compute}
use Rattle.gsl_instr.specs.Forms.{form_of}
use Rattle.gsl_instr.specs.declared.enumerant.execution_mode.TheConstants as execution_mode
use Rattle.gsl_instr.specs.declared.enumerant.execution_model.TheConstants as execution_model
use Rattle.gsl_instr.specs.declared.op.TheConstants as op
use Rattle.gsl_words.specs.declared.module.Instr.{Instr}
use Rattle.gsl_words.specs.declared.module.Module.{Module}
use Rattle.gsl_tree.specs.WellTyped.{IsLocalSize}
use Rattle.gsl_valid.specs.EntryRules.{Mode, are_modes, mode_of, modes_of}
use Rattle.gsl_valid.specs.Instruction.{read}
use Rattle.gsl_valid.specs.Placed.{Code}
use Rattle.gsl_valid.specs.Valid.{Valid}
use Rattle.gsl_valid.proofs.Lookups.{Has}
use Rattle.gsl_machine.specs.Interfaces.{local_size, size_in}
use Rattle.gsl_sound_code.proofs.Looks.{kept}
use Rattle.gsl_spv.specs.Declarations.{instr}
use Rattle.gsl_spv.specs.Finished.{capabilities, entry_point, memory_models, model_of, modes, module_of}
use Rattle.gsl_spv.specs.Once.{interface_of}
use Rattle.gsl_spv.specs.Sections.{Sections}
use Rattle.gsl_lower_text.proofs.Constants.{at, has_at}

-- ---- modes that are given

-- a mode is among some
abbrev AmongModes : Mode → List Mode → Type 0
AmongModes x [] = ⊥
AmongModes x (mode ∷ modes) = (mode ≡ x) ⊎ AmongModes x modes

among_modes : (code : Code) (i : Instr) (x : Mode) → Has code i → mode_of (read i) ≡ Some x → AmongModes x (filter_map (λ j. mode_of (read j)) code)
among_modes [] i x there is = absurd there
among_modes (j ∷ code) i x (inl same) is = subst (λ o. AmongModes x (cons_option o (filter_map (λ k. mode_of (read k)) code))) (sym (ap (λ k. mode_of (read k)) same ∙ is)) (inl refl)
among_modes (j ∷ code) i x (inr later) is = skip (mode_of (read j)) (among_modes code i x later is)
  where
    skip : (o : Option Mode) → AmongModes x (filter_map (λ k. mode_of (read k)) code) → AmongModes x (cons_option o (filter_map (λ k. mode_of (read k)) code))
    skip None among = among
    skip (Some y) among = inr among

-- ---- by stages

vertex_size : (function : ℕ) (l : List Mode) → are_modes execution_model.VERTEX function l ≡ true → size_in l ≡ 1 ∷ 1 ∷ 1 ∷ []
vertex_size function [] is = refl
vertex_size function (mode ∷ []) is = absurd (false≢true (and_parts (mode.function == function) false is).1)
vertex_size function (mode ∷ other ∷ l) is = absurd (false≢true is)

fragment_size : (function : ℕ) (l : List Mode) → are_modes execution_model.FRAGMENT function l ≡ true → size_in l ≡ 1 ∷ 1 ∷ 1 ∷ []
fragment_size function [] is = absurd (false≢true is)
fragment_size function (mode ∷ []) is =
    let origin = eqb-true mode.mode execution_mode.ORIGIN_UPPER_LEFT (and_parts (mode.function == function) (mode.mode == execution_mode.ORIGIN_UPPER_LEFT) is).1 in
    ap (λ n. if n == execution_mode.LOCAL_SIZE then mode.parts else 1 ∷ 1 ∷ 1 ∷ []) origin
fragment_size function (mode ∷ other ∷ l) is = absurd (false≢true is)

compute_size : (function : ℕ) (x : Mode) (l : List Mode) → x.mode ≡ execution_mode.LOCAL_SIZE → are_modes execution_model.GL_COMPUTE function l ≡ true → AmongModes x l → size_in l ≡ x.parts
compute_size function x [] local is among = absurd among
compute_size function x (mode ∷ []) local is (inl same) = ap (λ (y : Mode). size_in (y ∷ [])) same ∙ ap (λ n. if n == execution_mode.LOCAL_SIZE then x.parts else 1 ∷ 1 ∷ 1 ∷ []) local
compute_size function x (mode ∷ []) local is (inr none) = absurd none
compute_size function x (mode ∷ other ∷ l) local is among = absurd (false≢true is)

-- ---- the module of sections

module _ (s : Sections) (main : ℕ) (size : List ℕ) (valid : Valid (module_of s main size)) where
  abbrev m : Module
  m = module_of s main size

  abbrev entry : Instr
  entry = entry_point s.stage main (interface_of s.globals)

  in_decorations : (front : Code) (i : Instr) → Contains front i → Contains (front ++ s.names ++ s.decorations ++ s.globals ++ s.functions) i
  in_decorations front i there =
      Contains-append_left (front ++ s.names ++ s.decorations ++ s.globals) s.functions i (Contains-append_left (front ++ s.names ++ s.decorations) s.globals i
      (Contains-append_left (front ++ s.names) s.decorations i (Contains-append_left front s.names i there)))

  entry_there : Contains m.instrs entry
  entry_there =
      in_decorations (capabilities ++ s.imports ++ memory_models ++ entry ∷ [] ++ modes s.stage main size) entry
      (Contains-append_left (capabilities ++ s.imports ++ memory_models ++ entry ∷ []) (modes s.stage main size) entry (Contains-push (capabilities ++ s.imports ++ memory_models) entry))

  -- its modes are those of its stage
  modes_right : are_modes (model_of s.stage) main (modes_of m) ≡ true
  unfolding form_of
  modes_right = (and_parts _ (are_modes (model_of s.stage) main (modes_of m)) (at m (kept m valid) entry entry_there).keeps.entry).1

  mode_there : (i : Instr) → Contains (modes s.stage main size) i → Has m.instrs i
  mode_there i there = has_at m.instrs i (in_decorations (capabilities ++ s.imports ++ memory_models ++ entry ∷ [] ++ modes s.stage main size) i (Contains-append_right (capabilities ++ s.imports ++ memory_models ++ entry ∷ []) (modes s.stage main size) i there))

  compute : (l : List ℕ) → s.stage ≡ Compute → size ≡ l → length l ≡ 3 → local_size m ≡ size
  unfolding form_of
  compute [] stage is three = absurd (omega (arith, three))
  compute (a ∷ []) stage is three = absurd (omega (arith, three))
  compute (a ∷ b ∷ []) stage is three = absurd (omega (arith, three))
  compute (a ∷ b ∷ c ∷ []) stage is three =
      let x : Mode = record { function = main; mode = execution_mode.LOCAL_SIZE; parts = a ∷ b ∷ c ∷ [] } in
      let i : Instr = instr op.EXECUTION_MODE (main ∷ execution_mode.LOCAL_SIZE ∷ a ∷ b ∷ c ∷ []) in
      let among = among_modes m.instrs i x (mode_there i (subst (λ g. Contains (modes g main size) i) (sym stage) (subst (λ l. Contains (modes Compute main l) i) (sym is) (Contains-push [] i)))) refl in
      compute_size main x (modes_of m) refl (ap (λ g. are_modes (model_of g) main (modes_of m)) (sym stage) ∙ modes_right) among ∙ sym is
  compute (a ∷ b ∷ c ∷ e ∷ l) stage is three = absurd (omega (arith, three))

  -- the size of the module is the one that was given
  pub size_same : IsLocalSize s.stage size → local_size m ≡ size
  size_same = by s.stage refl
    where
      by : (stage : Stage) → s.stage ≡ stage → IsLocalSize stage size → local_size m ≡ size
      by Vertex is right = vertex_size main (modes_of m) (ap (λ g. are_modes (model_of g) main (modes_of m)) (sym is) ∙ modes_right) ∙ sym right
      by Fragment is right = fragment_size main (modes_of m) (ap (λ g. are_modes (model_of g) main (modes_of m)) (sym is) ∙ modes_right) ∙ sym right
      by Compute is right = compute size is refl right.0
