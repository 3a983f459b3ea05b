-- What lasts as a function begins.
use Rattle.std.proofs.Common.{◌≡◌, refl, sym, ap, ◌∙◌, subst, ℕ, Bool, true, false, ◌&&◌, ◌||◌, if◌then◌else◌, List, [], ◌∷◌, Option, Some, None, inl, inr}
use Rattle.std.specs.Prelude.{◌==◌}
use Rattle.std.proofs.lemmas.Bool.{and_parts, cases_Bool, eqb-true, false≢true, true≢false}
use Rattle.gsl_instr.specs.declared.enumerant.storage_class.TheConstants as storage_class
use Rattle.gsl_words.specs.declared.module.Instr.{Instr}
use Rattle.gsl_words.specs.declared.module.Module.{Module}
use Rattle.gsl_valid.specs.CallRules.{takes}
use Rattle.gsl_valid.specs.GlobalRules.{holds, is_global_of}
use Rattle.gsl_valid.specs.Instruction.{read}
use Rattle.gsl_valid.specs.Kinds.{Kind, Begins, Holds, Takes, Variable, constant_in, constant_is, kind, variable_in, variable_is}
use Rattle.gsl_valid.specs.Placed.{Code, Placed}
use Rattle.gsl_valid.specs.Types.{Target, before_functions, defined_as, function_begins, is_block_class, outside_of, target_of}
use Rattle.gsl_valid.specs.Where.{in_function_after, where_at}
use Rattle.gsl_valid.proofs.Lookups.{Has}
use Rattle.gsl_machine.specs.Constants.{constant}
use Rattle.gsl_machine.specs.Functions.{function_at, own_ids, parameters_of, point_each}
use Rattle.gsl_machine.specs.Interfaces.{all_variables, block_variables, constant_held, globals, holds_value, if_there, value_variables}
use Rattle.gsl_machine.specs.State.{Held, Whole}
use Rattle.gsl_sound_code.specs.Rules.{KeepAll}
use Rattle.gsl_sound_code.specs.Spots.{Spot}
use Rattle.gsl_sound_code.proofs.Looks.{Kept}
use Rattle.gsl_sound_code.proofs.Functions.{body_of}
use Rattle.gsl_sound_code.proofs.Walks.{AreTaken, enter}
use Rattle.gsl_sound_ids.proofs.Globals.{Among, block_is_outer, gathered, among_blocks, among_values, constant_passes, same_variable, unblocked, unpointed, value_held}
use Rattle.gsl_sound_ids.proofs.Locals.{lasts}
use Rattle.gsl_sound_ids.proofs.Variables.{stays_out}
use Rattle.gsl_lower_text.specs.Written.{Lasts}

-- ---- variables outside functions are no local ones

no_local : (m : Module) (v : Variable) (t : Option Target) → is_global_of m v.class v.initialiser t ≡ true → (v.class == storage_class.FUNCTION) ≡ false
no_local m v None is = absurd (false≢true is)
no_local m v (Some t) is = elim (cases_Bool (v.class == storage_class.FUNCTION)) [
  | inl same ↦ absurd (false≢true (ap (λ class. holds m class t.pointee) (sym (eqb-true v.class storage_class.FUNCTION same)) ∙ (and_parts (t.class == v.class) (holds m v.class t.pointee) (and_parts (t.class == v.class && holds m v.class t.pointee) _ is).0).1))
  | inr differ ↦ differ
]

outer_class : (m : Module) (before code : Code) (i : Instr) (v : Variable) → KeepAll m before code → (where_at m before).inside ≡ false → Has (before_functions code) i → variable_is (read i) ≡ Some v → (v.class == storage_class.FUNCTION) ≡ false
outer_class m before [] i v keep out has is = absurd has
outer_class m before (j ∷ code) i v keep out has is = by_test (function_begins (read j)) refl (λ here. outer_class m (j ∷ before) code i v keep.1 (ap (λ b. in_function_after b (read j)) out ∙ stays_out (kind (read j)) here)) has
  where
    by_test : (b : Bool) → function_begins (read j) ≡ b → (function_begins (read j) ≡ false → Has (before_functions code) i → variable_is (read i) ≡ Some v → (v.class == storage_class.FUNCTION) ≡ false) → Has (if b then [] else j ∷ before_functions code) i → (v.class == storage_class.FUNCTION) ≡ false
    by_test true here later has = absurd has
    by_test false here later (inl same) =
        let variable : variable_is (read j) ≡ Some v = ap (λ k. variable_is (read k)) same ∙ is in
        no_local m v (target_of (defined_as m v.type)) (ap (λ b. b || is_global_of m v.class v.initialiser (target_of (defined_as m v.type))) (sym out) ∙ ap (λ o. (where_at m before).inside || is_global_by o) (sym variable) ∙ keep.0.global)
      where
        is_global_by : Option Variable → Bool
        is_global_by None = true
        is_global_by (Some w) = is_global_of m w.class w.initialiser (target_of (defined_as m w.type))
    by_test false here later (inr has) = later here has is

module _ (m : Module) (kept : Kept m) where
  -- what is no constant stands for nothing but what variables point to
  unfixed : (id : ℕ) → constant_is (defined_as m id) ≡ None → constant_held m id ≡ None
  unfixed id none = ap (λ o. if_there o (Whole (constant m id))) none

  -- a function's variable stands for nothing outside it
  local_hidden : (id : ℕ) (v : Variable) → variable_is (defined_as m id) ≡ Some v → (v.class == storage_class.FUNCTION) ≡ true → globals m id ≡ None
  local_hidden id v is class =
      unblocked m (point_each (constant_held m) 0 (value_variables m)) (block_variables m) id (λ w among same.
      let b = among_blocks m kept w among in
      let e = same_variable m kept id v w is b.0 same in
      absurd (true≢false (sym class ∙ block_is_outer v.class (ap (λ x. is_block_class x.class) (sym e) ∙ b.1))))
      ∙ unpointed (constant_held m) 0 (value_variables m) id (λ w among same.
      let e = same_variable m kept id v w is (among_values m kept w among).0 same in
      absurd (true≢false (sym class ∙ subst (λ x. (x.class == storage_class.FUNCTION) ≡ false) e (value_outer w among))))
      ∙ unfixed id (by_kind (kind (defined_as m id)) is)
    where
      by_kind : (k : Kind) → variable_in k ≡ Some v → constant_in k ≡ None
      by_kind (Holds w) is = refl
      by_kind _ is = absurd (cc)

      value_outer : (w : Variable) → Among w (value_variables m) → (w.class == storage_class.FUNCTION) ≡ false
      value_outer w among =
          gathered holds_value w (all_variables m) ((w.class == storage_class.FUNCTION) ≡ false) Among (λ x vs. inl refl) (λ x y vs later. inr later) among
          (λ x all held. gathered (λ i. variable_is (read i)) x (outside_of m) ((w.class == storage_class.FUNCTION) ≡ false) (λ i code. Has code i) (λ i code. inl refl) (λ i j code later. inr later) all
          (λ i has gives. subst (λ y. (y.class == storage_class.FUNCTION) ≡ false) (value_held m kept x w held).0 (outer_class m [] m.instrs i x kept.all refl has gives)))

  -- a parameter too
  taken_hidden : (id : ℕ) → takes (kind (defined_as m id)) ≡ true → globals m id ≡ None
  taken_hidden id is = constant_passes m kept id (no_variable (kind (defined_as m id)) is) ∙ unfixed id (no_fixed (kind (defined_as m id)) is)
    where
      no_variable : (k : Kind) → takes k ≡ true → variable_in k ≡ None
      no_variable (Takes type) is = refl
      no_variable _ is = absurd (false≢true is)

      no_fixed : (k : Kind) → takes k ≡ true → constant_in k ≡ None
      no_fixed (Takes type) is = refl
      no_fixed _ is = absurd (false≢true is)

  own_last : (returned : ℕ) (body : List Placed) (start : Code) (spot : Spot m body returned start body) (types : List ℕ) → AreTaken m types (parameters_of body) → (held : List Held) (count : ℕ) → Lasts m (own_ids (globals m) body held count)
  own_last returned body start spot types taken held count = record {
    keeps = record { same = λ id it is. lasts m kept returned body start spot types taken held count id (outside id it is) (untaken id it is (takes (kind (defined_as m id))) refl) ∙ is };
    apart = λ id type is.
        lasts m kept returned body start spot types taken held count id (λ v variable. let over : None ≡ Some v = ap variable_in (sym is) ∙ variable in absurd (cc)) (ap takes is)
        ∙ constant_passes m kept id (ap variable_in is) ∙ unfixed id (ap constant_in is);
  }
    where
      outside : (id : ℕ) (it : Held) → globals m id ≡ Some it → (v : Variable) → variable_is (defined_as m id) ≡ Some v → (v.class == storage_class.FUNCTION) ≡ false
      outside id it is v variable = elim (cases_Bool (v.class == storage_class.FUNCTION)) [
        | inl local ↦ (let over : None ≡ Some it = sym (local_hidden id v variable local) ∙ is in absurd (cc))
        | inr differ ↦ differ
      ]

      untaken : (id : ℕ) (it : Held) → globals m id ≡ Some it → (b : Bool) → takes (kind (defined_as m id)) ≡ b → takes (kind (defined_as m id)) ≡ false
      untaken id it is true e = (let over : None ≡ Some it = sym (taken_hidden id e) ∙ is in absurd (cc))
      untaken id it is false e = e

  pub function_lasts : (id returned own function_type : ℕ) (body : List Placed) (held : List Held) (count : ℕ) → kind (defined_as m id) ≡ Begins returned own function_type → function_at m id ≡ Some body → Lasts m (own_ids (globals m) body held count)
  function_lasts id returned own function_type body held count is found =
      let b = body_of m kept id returned own function_type is in
      let same : Some b.body ≡ Some body = sym b.found ∙ found in
      let e : b.body ≡ body = cc in
      let entry = enter m kept b.body returned b.before b.body _ b.spot b.begun in
      subst (λ l. Lasts m (own_ids (globals m) l held count)) e (own_last returned b.body b.before b.spot _ entry.taken held count)
