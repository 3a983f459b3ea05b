-- Arguments that were passed, and where their values go back to.
use Rattle.std.proofs.Common.{◌≡◌, refl, ap, ℕ, suc, ◌+◌, ◌<◌, Bool, true, false, List, [], ◌∷◌, length, map, Option, Some, None, arith}
use Rattle.gsl_base.specs.declared.input.Input.{Input}
use Rattle.gsl_types.specs.declared.ty.Direction.{Direction}
use Rattle.gsl_types.specs.declared.ty.Ty.{Ty}
use Rattle.gsl_words.specs.declared.module.Module.{Module}
use Rattle.gsl_tree.specs.Around.{Around}
use Rattle.gsl_tree.specs.Values.{is_value_of}
use Rattle.gsl_tree.specs.declared.program.Program.{Program}
use Rattle.gsl_meaning.specs.Accesses.{Access}
use Rattle.gsl_meaning.specs.Expressions as shader_expr
use Rattle.gsl_meaning.specs.Expressions.{Meant, Passed as ShaderPassed}
use Rattle.gsl_meaning.specs.State as shader
use Rattle.gsl_machine.specs.State.{State}
use Rattle.gsl_spv.specs.Sections.{Sections}
use Rattle.gsl_lower_places.specs.declared.reached.Reached.{Reached}
use Rattle.gsl_lower_holders.specs.Flow.{Flow}
use Rattle.gsl_lower_expr.specs.Calls.{passed, pointers}
use Rattle.gsl_lower_expr.specs.Parts.{Lower, any_splits}
use Rattle.gsl_lower_follows.specs.Frames.{Frame}
use Rattle.gsl_lower_follows.specs.Giving.{After, Grown}
use Rattle.gsl_lower_law_entered.specs.Entering.{Argument, IsHeld, ids_of, values_of}
use Rattle.gsl_lower_law_functions.proofs.Passing.{Passed}
use Rattle.gsl_lower_law_passed.specs.Arguments.{ComesBack}
use Rattle.gsl_lower_law_stored.specs.Buffers.{KnowsBuffers}
use Rattle.gsl_lower_reaching.specs.Reaching.{IsTrail, Start}
use Rattle.gsl_lower_reaching.specs.Reaching.Start.{OfBlock}
use Rattle.gsl_lower_reaching.specs.Trails.{IsInside, Trail}
use Rattle.gsl_lower_reaching.proofs.Moving.{trail_after}
use Rattle.gsl_lower_law_passed.proofs.Fresh.{AreIds, FreshBy}

-- An argument, and where its value goes back to: as it is lowered, and for the shader.
pub record Item : Type 0 where
  pub argument : Argument
  pub back : Option Reached
  pub access : Option Access

abbrev pub way_by : Bool → ℕ → Option Reached → Passed
way_by waits id None = passed id false None
way_by waits id (Some kept) = passed id waits (Some kept)

-- what stands for it, where later arguments have blocks or have none
abbrev pub way_of : Bool → Item → Passed
way_of waits i = way_by waits i.argument.id i.back

abbrev pub meant_of : Item → ShaderPassed
meant_of i = record { value = i.argument.value; back = i.access }

abbrev pub ways_of : List Lower → List Item → List Passed
ways_of (e ∷ es) (i ∷ is) = way_of (any_splits es) i ∷ ways_of es is
ways_of _ _ = []

abbrev pub arguments_of : List Item → List Argument
arguments_of items = map (λ (i : Item). i.argument) items

pub pointers_are : (es : List Lower) (items : List Item) → length items ≡ length es → pointers (ways_of es items) ≡ ids_of (arguments_of items)
pointers_are [] [] many = refl
pointers_are [] (i ∷ items) many = absurd (let z : suc (length items) ≡ 0 = many in omega (arith, z))
pointers_are (e ∷ es) [] many = absurd (let z : 0 ≡ suc (length es) = many in omega (arith, z))
pointers_are (e ∷ es) (i ∷ items) many = by i.back (pointers_are es items (let z : suc (length items) ≡ suc (length es) = many in omega (arith, z)))
  where
    by : (o : Option Reached) → pointers (ways_of es items) ≡ ids_of (arguments_of items) → pointers (way_by (any_splits es) i.argument.id o ∷ ways_of es items) ≡ i.argument.id ∷ ids_of (arguments_of items)
    by None more = ap (λ l. i.argument.id ∷ l) more
    by (Some kept) more = ap (λ l. i.argument.id ∷ l) more

pub values_are : (items : List Item) → shader_expr.values_of (map meant_of items) ≡ values_of (arguments_of items)
values_are [] = refl
values_are (i ∷ items) = ap (λ l. i.argument.value ∷ l) (values_are items)

module _ (m : Module) (input : Input) (whole : Sections) (f : Frame m input whole) (p : Program) (around : Around) where
  -- What an argument leads to is known, or waits in holders from one number on to another.
  pub record IsBack (waits : Bool) (e : Lower) (low high : ℕ) (b : Flow) (state : State) (kept : Reached) (a : Access) : Type 0 where
    pub trail : Trail
    pub start : Start
    pub knows : start ≡ OfBlock → KnowsBuffers m input whole f p
    pub is : IsTrail m input whole f p around waits start b state kept trail
    pub inside : IsInside p.structs p.blocks true e.ty a trail
    pub fresh : AreIds (FreshBy waits f.place.holders low high) kept

  abbrev pub IsBackIf : Bool → Lower → ℕ → ℕ → Flow → State → Option Reached → Option Access → Type 0
  IsBackIf waits e low high b state None None = Unit {0}
  IsBackIf waits e low high b state None (Some a) = ⊥
  IsBackIf waits e low high b state (Some kept) None = ⊥
  IsBackIf waits e low high b state (Some kept) (Some a) = IsBack waits e low high b state kept a

  -- it is so behind what has no blocks where there are none to come, or whatever was done where it waits
  pub back_after : (waits : Bool) (e : Lower) (low high : ℕ) (b later : Flow) (state last : State) (s : shader.State) (back : Option Reached) (access : Option Access) → Grown b later → After m input whole f p around waits b state later s last → IsBackIf waits e low high b state back access → IsBackIf waits e low high later last back access
  back_after waits e low high b later state last s None None grown after is = tt
  back_after waits e low high b later state last s None (Some a) grown after is = is
  back_after waits e low high b later state last s (Some kept) None grown after is = is
  back_after waits e low high b later state last s (Some kept) (Some a) grown after is =
      record { trail = is.trail; start = is.start; knows = is.knows; is = trail_after m input whole f p around waits is.start b later state last s kept is.trail grown after is.is; inside = is.inside; fresh = is.fresh }

  -- one argument, behind so many holders that were in use
  pub record IsItem (first : ℕ) (waits : Bool) (t : Ty) (e : Lower) (x : Meant) (b : Flow) (state : State) (i : Item) : Type 0 where
    pub comes : (kept : Reached) → i.back ≡ Some kept → ComesBack m input whole f p around t e x
    pub typed : is_value_of p.structs t i.argument.value ≡ true
    pub held : IsHeld m input whole f first state i.argument
    pub below : i.argument.holder < b.place.used
    pub back : IsBackIf waits e first i.argument.holder b state i.back i.access

  -- all arguments, each behind those before it
  abbrev pub AreItems : ℕ → List (Direction × Ty) → List Lower → List Meant → Flow → State → List Item → Type 0
  AreItems first [] [] [] b state [] = Unit {0}
  AreItems first (param ∷ params) (e ∷ es) (x ∷ xs) b state (i ∷ items) = IsItem first (any_splits es) param.1 e x b state i × AreItems (i.argument.holder + 1) params es xs b state items
  AreItems first _ _ _ b state _ = ⊥
