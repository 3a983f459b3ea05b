-- What ids stand for, from instruction to instruction of a block.
use Rattle.std.proofs.Common.{◌≡◌, refl, sym, ap, ◌∙◌, subst, ℕ, Bool, true, false, ◌||◌, not, if◌then◌else◌, ◌∷◌, Option, Some, None}
use Rattle.std.specs.Prelude.{◌==◌}
use Rattle.std.proofs.lemmas.Bool.{cond-true, cond-false, eq-eqb, eqb-true, true≢false, false≢true}
use Rattle.gsl_instr.specs.declared.instruction.Instruction.{Instruction}
use Rattle.gsl_words.specs.declared.module.Instr.{Instr}
use Rattle.gsl_words.specs.declared.module.Module.{Module}
use Rattle.gsl_valid.specs.Ids.{defined, defines, result}
use Rattle.gsl_valid.specs.Instruction.{read}
use Rattle.gsl_valid.specs.Kinds.{Kind, Holds, Variable, kind, type_of, variable_in, variable_is}
use Rattle.gsl_valid.specs.LocalityRules.{gives_value, near_as, of_block, of_function}
use Rattle.gsl_valid.specs.Placed.{Code}
use Rattle.gsl_valid.specs.Types.{defined_as, is_void, target_of}
use Rattle.gsl_valid.specs.Where.{Where}
use Rattle.gsl_machine.specs.State.{Held, Ids, Pointer, Points, give}
use Rattle.gsl_sound_ids.specs.Held.{Agrees, IsGiven, IsOf, usable_as}
use Rattle.gsl_sound_code.proofs.Looks.{defines_result}

-- ---- ids that may be used

-- an id that is near may be used, where all that its function has so far is in its body
pub near_usable : (w : Where) (body : Code) (id : ℕ) (d : Option Instruction) → w.inside ≡ true → (defined w.body id ≡ true → defined body id ≡ true) → near_as w id d ≡ true → usable_as body w.block id d ≡ true
near_usable w body id d inside so_far near = by_block (of_block d) near
  where
    by_function : (f : Bool) → (not f || not w.inside || defined w.body id) ≡ true → (not f || defined body id) ≡ true
    by_function true near = so_far (ap (λ b. not b || defined w.body id) (sym inside) ∙ near)
    by_function false near = refl

    by_block : (b : Bool) → (if b then defined w.block id else (not (of_function d) || not w.inside || defined w.body id)) ≡ true → (if b then defined w.block id else (not (of_function d) || defined body id)) ≡ true
    by_block true near = near
    by_block false near = by_function (of_function d) near

-- ---- one id more

block_variable : (k : Kind) → gives_value k ≡ true → variable_in k ≡ None
block_variable (Holds v) is = absurd (false≢true is)
block_variable _ is = refl

-- what some code defines
cons_defined : (i : Instr) (block : Code) (id : ℕ) (P : Type 0) → (defines i id ≡ true → P) → (defined block id ≡ true → P) → defined (i ∷ block) id ≡ true → P
cons_defined i block id P here later is = by_test (defines i id) refl is
  where
    by_test : (b : Bool) → defines i id ≡ b → (b || defined block id) ≡ true → P
    by_test true d is = here d
    by_test false d is = later is

module _ (m : Module) (count : ℕ) (body block : Code) (ids : Ids) (i : Instr) where
  -- an instruction that gives no id of its block
  pub agree_same : Agrees m count body block ids → ((id type : ℕ) → defines i id ≡ true → of_block (defined_as m id) ≡ true → type_of (defined_as m id) ≡ Some type → is_void m type ≡ false → ⊥) → Agrees m count body (i ∷ block) ids
  agree_same agrees none = record {
    given = λ id type typed full usable. by_block id type typed full (of_block (defined_as m id)) refl usable (agrees.given id type typed full);
    blocks = agrees.blocks;
  }
    where
      by_block : (id type : ℕ) → type_of (defined_as m id) ≡ Some type → is_void m type ≡ false → (b : Bool) → of_block (defined_as m id) ≡ b
          → (if b then defined (i ∷ block) id else (not (of_function (defined_as m id)) || defined body id)) ≡ true
          → (usable_as body block id (defined_as m id) ≡ true → IsGiven m count type (ids id)) → IsGiven m count type (ids id)
      by_block id type typed full true is usable old =
          cons_defined i block id (IsGiven m count type (ids id)) (λ here. absurd (none id type here is typed full)) (λ later. old (cond-true _ _ _ is ∙ later)) usable
      by_block id type typed full false is usable old = old (cond-false _ _ _ is ∙ usable)

  -- an instruction that gives one
  pub agree_give : (id type : ℕ) (held : Held) → Agrees m count body block ids → result (read i) ≡ Some id → defined_as m id ≡ read i → of_block (read i) ≡ true → type_of (read i) ≡ Some type
      → IsOf m count (target_of (defined_as m type)) held → Agrees m count body (i ∷ block) (give ids id held)
  agree_give id type held agrees gives own inside typed of = record {
    given = λ other t known full usable. by_same other t known full usable (other == id) refl (agrees.given other t known full);
    blocks = λ other v is class. by_block other v is (other == id) refl (agrees.blocks other v is class);
  }
    where
      same_type : (other t : ℕ) → other ≡ id → type_of (defined_as m other) ≡ Some t → type ≡ t
      same_type other t same known = let both : Some type ≡ Some t = sym typed ∙ ap type_of (sym own) ∙ ap (λ n. type_of (defined_as m n)) (sym same) ∙ known in cc

      old_usable : (other : ℕ) → (other == id) ≡ false → (b : Bool) → of_block (defined_as m other) ≡ b
          → (if b then defined (i ∷ block) other else (not (of_function (defined_as m other)) || defined body other)) ≡ true → usable_as body block other (defined_as m other) ≡ true
      old_usable other differ true is usable =
          cons_defined i block other (usable_as body block other (defined_as m other) ≡ true)
          (λ here. let both : Some id ≡ Some other = sym gives ∙ defines_result i other here in let same : id ≡ other = cc in absurd (true≢false (sym (eq-eqb other id (sym same)) ∙ differ)))
          (λ later. cond-true _ _ _ is ∙ later) usable
      old_usable other differ false is usable = cond-false _ _ _ is ∙ usable

      by_same : (other t : ℕ) → type_of (defined_as m other) ≡ Some t → is_void m t ≡ false → usable_as body (i ∷ block) other (defined_as m other) ≡ true → (b : Bool) → (other == id) ≡ b
          → (usable_as body block other (defined_as m other) ≡ true → IsGiven m count t (ids other)) → IsGiven m count t (if b then Some held else ids other)
      by_same other t known full usable true same old =
          record { it = held; is = refl; of = subst (λ n. IsOf m count (target_of (defined_as m n)) held) (same_type other t (eqb-true other id same) known) of }
      by_same other t known full usable false differ old = old (old_usable other differ (of_block (defined_as m other)) refl usable)

      by_block : (other : ℕ) (v : Variable) → variable_is (defined_as m other) ≡ Some v → (b : Bool) → (other == id) ≡ b → {p : Pointer} → ids other ≡ Some (Points p) → (if b then Some held else ids other) ≡ Some (Points p)
      by_block other v is true same old =
          let none : variable_is (defined_as m other) ≡ None = ap (λ n. variable_is (defined_as m n)) (eqb-true other id same) ∙ ap variable_is own ∙ block_variable (kind (read i)) inside in
          let over : None ≡ Some v = sym none ∙ is in absurd (cc)
      by_block other v is false differ old = old
