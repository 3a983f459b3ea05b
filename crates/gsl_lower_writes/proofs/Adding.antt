-- What stores only adds, wherever that leads.
use Rattle.std.proofs.Common.{ℕ, Bool, true, false, ◌==◌, List, [], ◌∷◌, ◌++◌, length, Option, Some, None, if◌then◌else◌}
use Rattle.gsl_base.specs.declared.input.Input.{Input}
use Rattle.gsl_instr.specs.declared.op.TheConstants as op
use Rattle.gsl_types.specs.declared.ty.StructType.{StructType}
use Rattle.gsl_types.specs.declared.ty.Ty.{Ty}
use Rattle.gsl_words.specs.declared.module.Module.{Module}
use Rattle.gsl_tree.specs.Shapes.{Shape, shape_of}
use Rattle.gsl_spv.specs.Sections.{Sections}
use Rattle.gsl_lower_values.specs.Building.{given, putting, ◌>>=◌}
use Rattle.gsl_lower_values.specs.Constructors.{operand}
use Rattle.gsl_lower_values.specs.Types.{type_of}
use Rattle.gsl_lower_places.specs.Pointed.{picks_several, pointed, to_renew}
use Rattle.gsl_lower_places.specs.Reached.{is_block_class}
use Rattle.gsl_lower_places.specs.Reading.{extracted, pointer}
use Rattle.gsl_lower_places.specs.Writing.{put_at, put_by, put_in, put_picked, put_variable, stored}
use Rattle.gsl_lower_places.specs.declared.reached.Base.{Base}
use Rattle.gsl_lower_places.specs.declared.reached.Base.TheVariants.{Variable, Value as Loose}
use Rattle.gsl_lower_places.specs.declared.reached.Part.{Part}
use Rattle.gsl_lower_places.specs.declared.reached.Picked.{Picked}
use Rattle.gsl_lower_places.specs.declared.reached.Reached.{Reached}
use Rattle.gsl_lower_law.proofs.Adding.{extends_put}
use Rattle.gsl_lower_law_places.proofs.Each.{each_grows}
use Rattle.gsl_lower_leaves.specs.Copies.{copied_in, store_whole}
use Rattle.gsl_lower_leaves.specs.Leaves.{leaves_of}
use Rattle.gsl_lower_leaves.specs.declared.leaf.Leaf.{Leaf}
use Rattle.gsl_lower_holders.specs.Flow as flow
use Rattle.gsl_lower_holders.specs.Flow.{lift, putting_here, type_id}
use Rattle.gsl_lower_expr.specs.Parts.{store_block, store_by, store_composite, store_own, stores}
use Rattle.gsl_lower_follows.specs.Giving.{Adds}
use Rattle.gsl_lower_follows.proofs.Fetching.{adds_put, adds_type_id, no_state}
use Rattle.gsl_lower_follows.proofs.Growing.{adds_given, adds_lift, adds_then}
use Rattle.gsl_lower_law_expr.proofs.Steps.{Always, always_given, always_then, always_type}
use Rattle.gsl_lower_reads.proofs.Adding.{always_each, always_extracted, always_pointed, always_pointer, always_put}

module _ (m : Module) (input : Input) (whole : Sections) where
  always_putting : (code : ℕ) (operands : List ℕ) → Always (putting code operands)
  always_putting code operands before = extends_put code operands before

  always_by : (id class : ℕ) (shape : Shape) (part : Option Part) (positions : List ℕ) (parts : List Part) (v : ℕ) → Always (put_by id class shape part positions parts v)
  always_by id class shape None positions parts v = λ before. each_grows m input whole id class parts (operand (shape.0, length positions) v) 0 positions no_state before
  always_by id class shape (Some part) positions parts v = always_put m input whole id class (shape.0, 1) (parts ++ part ∷ []) v

  always_picked : (id class : ℕ) (parts : List Part) (v : ℕ) (p : Picked) → Always (put_picked id class parts v p)
  unfolding put_picked
  always_picked id class parts v p = by (p.shape.1 == 1)
    where
      by : (one : Bool) → Always (if one then put_at id class p.shape parts v else put_by id class p.shape p.by p.positions parts v)
      by true = always_put m input whole id class p.shape parts v
      by false = always_by id class p.shape p.by p.positions parts v

  always_variable : (id class : ℕ) (parts : List Part) (shape : Shape) (v : ℕ) (o : Option Picked) → Always (put_variable id class parts shape v o)
  always_variable id class parts shape v None = always_put m input whole id class shape parts v
  always_variable id class parts shape v (Some p) = always_picked id class parts v p

  pub always_stored : (shape : Shape) (r : Reached) (v : ℕ) → Always (stored shape r v)
  unfolding stored
  always_stored shape r v = by r.base
    where
      by : (base : Base) → Always (put_in base r.path shape v r.picked)
      by (Variable id class) = always_variable id class r.path shape v r.picked
      by (Loose id type) = always_given m input whole {A = Unit {0}} tt

  -- ---- whole values

  always_in : (block class : ℕ) (parts : List Part) (value : ℕ) (one : Leaf) → Always (copied_in block class parts value one)
  unfolding copied_in
  always_in block class parts value one =
      always_then m input whole (type_of one.shape) (λ type. extracted value type one.path >>= (λ v. put_at block class one.shape (parts ++ one.path) v)) (always_type m input whole one.shape)
      (λ type. always_then m input whole (extracted value type one.path) (λ v. put_at block class one.shape (parts ++ one.path) v) (always_extracted m input whole value type one.path) (λ v. always_put m input whole block class one.shape (parts ++ one.path) v))

  always_whole : (block class : ℕ) (parts : List Part) (value : ℕ) (leaves : List Leaf) → Always (store_whole block class parts value leaves)
  unfolding store_whole
  always_whole block class parts value leaves = always_each m input whole (copied_in block class parts value) leaves (λ one. always_in block class parts value one)

  adds_own : (t : Ty) (id class : ℕ) (parts : List Part) (v : ℕ) → Adds (store_own t id class parts v)
  adds_own t id class parts v =
      adds_then (type_id t) (λ type. flow.◌>>=◌ (lift (pointer id class type parts)) (λ to. putting_here op.STORE (to ∷ v ∷ []))) (adds_type_id m input whole t)
      (λ type. adds_then (lift (pointer id class type parts)) (λ to. putting_here op.STORE (to ∷ v ∷ [])) (adds_lift (pointer id class type parts) (λ b. always_pointer m input whole id class type parts b.sections)) (λ to. adds_put op.STORE (to ∷ v ∷ [])))

  pub adds_stores : (structs : List StructType) (t : Ty) (r : Reached) (v : ℕ) → Adds (stores structs t r v)
  unfolding stores
  adds_stores structs t r v = by (shape_of t)
    where
      by_class : (id class : ℕ) (block : Bool) → Adds (if block then lift (store_block structs t id class r.path v) else store_own t id class r.path v)
      by_class id class true = adds_lift (store_block structs t id class r.path v) (λ b. always_whole id class r.path v (leaves_of structs t) b.sections)
      by_class id class false = adds_own t id class r.path v

      by_base : (base : Base) → Adds (store_composite structs t base r.path v)
      by_base (Variable id class) = by_class id class (is_block_class class)
      by_base (Loose id type) = adds_given {A = Unit {0}} tt

      by : (o : Option Shape) → Adds (store_by structs t r v o)
      by (Some shape) = adds_lift (stored shape r v) (λ b. always_stored shape r v b.sections)
      by None = by_base r.base

  pub always_renewed : (shape : Shape) (r : Reached) → Always (to_renew shape r)
  unfolding to_renew
  always_renewed shape r = by (picks_several r.picked)
    where
      by : (several : Bool) → Always (if several then given r else pointed shape r)
      by true = always_given m input whole r
      by false = always_pointed m input whole shape r
