-- What reads, and a pointer to it, only add, wherever that leads.
use Rattle.std.proofs.Common.{ℕ, Bool, true, false, ◌==◌, List, [], ◌∷◌, ◌++◌, length, replicate, Option, Some, None, if◌then◌else◌}
use Rattle.gsl_base.specs.declared.input.Input.{Input}
use Rattle.gsl_instr.specs.declared.op.TheConstants as op
use Rattle.gsl_instr.specs.declared.enumerant.storage_class.TheConstants as storage_class
use Rattle.gsl_types.specs.declared.ty.Scalar.{Scalar}
use Rattle.gsl_types.specs.declared.ty.StructType.{StructType}
use Rattle.gsl_types.specs.declared.ty.Ty.{Ty}
use Rattle.gsl_words.specs.declared.module.Module.{Module}
use Rattle.gsl_tree.specs.Shapes.{Shape, shape_of}
use Rattle.gsl_spv.specs.Sections.{Sections}
use Rattle.gsl_lower_values.specs.Building.{Step, given, giving, putting, ◌>>=◌}
use Rattle.gsl_lower_values.specs.Constructors.{component, components, operand, picked}
use Rattle.gsl_lower_values.specs.Operators.{converted}
use Rattle.gsl_lower_values.specs.Types.{type_of}
use Rattle.gsl_lower_values.specs.declared.operand.Operand.{Operand}
use Rattle.gsl_lower_places.specs.Pointed.{pointed, pointed_at, pointed_by, pointed_from, pointed_if, pointed_picked, pointed_to}
use Rattle.gsl_lower_places.specs.Reached.{is_block_class, stored_shape}
use Rattle.gsl_lower_places.specs.Reading.{component_by, extracted, extracted_shape, index, loaded, loaded_by, loaded_picked, loaded_scalar, loaded_vector, picked_by, pointer, read, read_from, read_value, read_variable}
use Rattle.gsl_lower_places.specs.Writing.{in_class, put_at}
use Rattle.gsl_lower_places.specs.declared.reached.Base.{Base}
use Rattle.gsl_lower_places.specs.declared.reached.Base.TheVariants.{Variable, Value as Loose}
use Rattle.gsl_lower_places.specs.declared.reached.Part.{Part}
use Rattle.gsl_lower_places.specs.declared.reached.Part.TheVariants.{Fixed}
use Rattle.gsl_lower_places.specs.declared.reached.Picked.{Picked}
use Rattle.gsl_lower_places.specs.declared.reached.Reached.{Reached}
use Rattle.gsl_lower_law.proofs.Adding.{extends_put}
use Rattle.gsl_lower_law_places.proofs.Chains.{index_grows, pointer_grows}
use Rattle.gsl_lower_law_places.proofs.Loads.{extracted_grows}
use Rattle.gsl_lower_leaves.specs.Copies.{copied_out, each, read_whole}
use Rattle.gsl_lower_leaves.specs.Leaves.{leaves_of}
use Rattle.gsl_lower_leaves.specs.declared.leaf.Leaf.{Leaf}
use Rattle.gsl_lower_holders.specs.Flow as flow
use Rattle.gsl_lower_holders.specs.Flow.{giving_here, lift, type_id}
use Rattle.gsl_lower_holders.specs.Waiting.{holder}
use Rattle.gsl_lower_expr.specs.Parts.{read_block, read_by, read_composite, read_loose, read_own, reads}
use Rattle.gsl_lower_follows.specs.Giving.{Adds}
use Rattle.gsl_lower_follows.proofs.Fetching.{adds_giving, adds_holder, adds_type_id, no_state}
use Rattle.gsl_lower_follows.proofs.Growing.{adds_lift, adds_then}
use Rattle.gsl_lower_elements.proofs.OfLawExpr.{Always, always_converted, always_given, always_giving, always_then, always_type}

module _ (m : Module) (input : Input) (whole : Sections) where
  always_component : (a : Operand) (position : ℕ) → Always (component a position)
  always_component a position = always_then m input whole (type_of (a.shape.0, 1)) (giving op.COMPOSITE_EXTRACT (a.id ∷ position ∷ [])) (always_type m input whole (a.shape.0, 1)) (λ type. always_giving m input whole op.COMPOSITE_EXTRACT (a.id ∷ position ∷ []) type)

  always_components : (a : Operand) (positions : List ℕ) → Always (components a positions)
  always_components a positions = by (a.shape.1 == 1)
    where
      by : (one : Bool) → Always (type_of (a.shape.0, length positions) >>= (if one then giving op.COMPOSITE_CONSTRUCT (replicate (length positions) a.id) else giving op.VECTOR_SHUFFLE (a.id ∷ a.id ∷ positions)))
      by true = always_then m input whole (type_of (a.shape.0, length positions)) (giving op.COMPOSITE_CONSTRUCT (replicate (length positions) a.id)) (always_type m input whole (a.shape.0, length positions)) (λ type. always_giving m input whole op.COMPOSITE_CONSTRUCT (replicate (length positions) a.id) type)
      by false = always_then m input whole (type_of (a.shape.0, length positions)) (giving op.VECTOR_SHUFFLE (a.id ∷ a.id ∷ positions)) (always_type m input whole (a.shape.0, length positions)) (λ type. always_giving m input whole op.VECTOR_SHUFFLE (a.id ∷ a.id ∷ positions) type)

  pub always_picked : (a : Operand) (positions : List ℕ) → Always (picked a positions)
  unfolding picked
  always_picked a [] = always_components a []
  always_picked a (position ∷ []) = by (a.shape.1 == 1)
    where
      by : (one : Bool) → Always (if one then given a.id else component a position)
      by true = always_given m input whole a.id
      by false = always_component a position
  always_picked a (position ∷ next ∷ positions) = always_components a (position ∷ next ∷ positions)

  pub always_pointer : (id class type : ℕ) (parts : List Part) → Always (pointer id class type parts)
  always_pointer id class type parts before = pointer_grows m input whole id class type parts no_state before

  pub always_loaded : (id class : ℕ) (shape : Shape) (parts : List Part) → Always (loaded id class shape parts)
  unfolding loaded
  always_loaded id class shape parts =
      always_then m input whole (type_of (stored_shape class shape)) (λ type. pointer id class type parts >>= (λ from. giving op.LOAD (from ∷ []) type >>= (λ v. converted shape.0 (operand (stored_shape class shape) v)))) (always_type m input whole (stored_shape class shape))
      (λ type. always_then m input whole (pointer id class type parts) (λ from. giving op.LOAD (from ∷ []) type >>= (λ v. converted shape.0 (operand (stored_shape class shape) v))) (always_pointer id class type parts)
      (λ from. always_then m input whole (giving op.LOAD (from ∷ []) type) (λ v. converted shape.0 (operand (stored_shape class shape) v)) (always_giving m input whole op.LOAD (from ∷ []) type) (λ v. always_converted m input whole shape.0 (operand (stored_shape class shape) v))))

  always_then_picked : (step : Step ℕ) (shape : Shape) (positions : List ℕ) → Always step → Always (step >>= (λ v. picked (operand shape v) positions))
  always_then_picked step shape positions p = always_then m input whole step (λ v. picked (operand shape v) positions) p (λ v. always_picked (operand shape v) positions)

  always_vector : (id class : ℕ) (shape : Shape) (positions : List ℕ) (parts : List Part) → Always (loaded_vector id class shape positions parts)
  always_vector id class shape [] parts = always_then_picked (loaded id class shape parts) shape [] (always_loaded id class shape parts)
  always_vector id class shape (position ∷ []) parts = always_loaded id class (shape.0, 1) (parts ++ Fixed position ∷ [])
  always_vector id class shape (position ∷ next ∷ positions) parts = always_then_picked (loaded id class shape parts) shape (position ∷ next ∷ positions) (always_loaded id class shape parts)

  always_scalar : (id class : ℕ) (s : Scalar) (positions : List ℕ) (parts : List Part) → Always (loaded_scalar id class s positions parts)
  always_scalar id class s positions parts = always_then_picked (loaded id class (s, 1) parts) (s, 1) positions (always_loaded id class (s, 1) parts)

  always_loaded_picked : (id class : ℕ) (parts : List Part) (p : Picked) → Always (loaded_picked id class parts p)
  unfolding loaded_picked
  always_loaded_picked id class parts p = by (p.shape.1 == 1)
    where
      by_part : (part : Option Part) → Always (loaded_by id class p.shape part p.positions parts)
      by_part None = always_vector id class p.shape p.positions parts
      by_part (Some part) = always_scalar id class p.shape.0 p.positions (parts ++ part ∷ [])

      by : (one : Bool) → Always (if one then loaded_scalar id class p.shape.0 p.positions parts else loaded_by id class p.shape p.by p.positions parts)
      by true = always_scalar id class p.shape.0 p.positions parts
      by false = by_part p.by

  pub always_extracted : (id type : ℕ) (parts : List Part) → Always (extracted id type parts)
  always_extracted id type parts before = extracted_grows m input whole id type parts no_state before

  always_extracted_shape : (id : ℕ) (shape : Shape) (parts : List Part) → Always (extracted_shape id shape parts)
  always_extracted_shape id shape parts = always_then m input whole (type_of shape) (λ type. extracted id type parts) (always_type m input whole shape) (λ type. always_extracted id type parts)

  always_component_by : (shape : Shape) (id : ℕ) (part : Part) (positions : List ℕ) → Always (component_by shape id part positions)
  always_component_by shape id part positions =
      always_then m input whole (index part) (λ at_id. type_of (shape.0, 1) >>= (λ type. giving op.VECTOR_EXTRACT_DYNAMIC (id ∷ at_id ∷ []) type >>= (λ v. picked (operand (shape.0, 1) v) positions))) (λ before. index_grows m input whole part no_state before)
      (λ at_id. always_then m input whole (type_of (shape.0, 1)) (λ type. giving op.VECTOR_EXTRACT_DYNAMIC (id ∷ at_id ∷ []) type >>= (λ v. picked (operand (shape.0, 1) v) positions)) (always_type m input whole (shape.0, 1))
      (λ type. always_then_picked (giving op.VECTOR_EXTRACT_DYNAMIC (id ∷ at_id ∷ []) type) (shape.0, 1) positions (always_giving m input whole op.VECTOR_EXTRACT_DYNAMIC (id ∷ at_id ∷ []) type)))

  always_picked_by : (shape : Shape) (id : ℕ) (part : Option Part) (positions : List ℕ) → Always (picked_by shape id part positions)
  always_picked_by shape id None positions = always_picked (operand shape id) positions
  always_picked_by shape id (Some part) positions = always_component_by shape id part positions

  always_value : (id : ℕ) (parts : List Part) (shape : Shape) (o : Option Picked) → Always (read_value id parts shape o)
  always_value id parts shape None = always_extracted_shape id shape parts
  always_value id parts shape (Some p) = always_then m input whole (extracted_shape id p.shape parts) (λ v. if p.shape.1 == 1 then picked (operand p.shape v) p.positions else picked_by p.shape v p.by p.positions) (always_extracted_shape id p.shape parts) (λ v. by v (p.shape.1 == 1))
    where
      by : (v : ℕ) (one : Bool) → Always (if one then picked (operand p.shape v) p.positions else picked_by p.shape v p.by p.positions)
      by v true = always_picked (operand p.shape v) p.positions
      by v false = always_picked_by p.shape v p.by p.positions

  always_variable : (id class : ℕ) (parts : List Part) (shape : Shape) (o : Option Picked) → Always (read_variable id class parts shape o)
  always_variable id class parts shape None = always_loaded id class shape parts
  always_variable id class parts shape (Some p) = always_loaded_picked id class parts p

  pub always_read : (shape : Shape) (r : Reached) → Always (read shape r)
  unfolding read
  always_read shape r = by r.base
    where
      by : (base : Base) → Always (read_from base r.path shape r.picked)
      by (Variable id class) = always_variable id class r.path shape r.picked
      by (Loose id type) = always_value id r.path shape r.picked

  -- ---- whole values

  pub always_put : (id class : ℕ) (shape : Shape) (parts : List Part) (v : ℕ) → Always (put_at id class shape parts v)
  unfolding put_at in_class
  always_put id class shape parts v =
      always_then m input whole (in_class class shape v) (λ word. type_of (stored_shape class shape) >>= (λ type. pointer id class type parts >>= (λ to. putting op.STORE (to ∷ word ∷ [])))) (always_converted m input whole (stored_shape class shape).0 (operand shape v))
      (λ word. always_then m input whole (type_of (stored_shape class shape)) (λ type. pointer id class type parts >>= (λ to. putting op.STORE (to ∷ word ∷ []))) (always_type m input whole (stored_shape class shape))
      (λ type. always_then m input whole (pointer id class type parts) (λ to. putting op.STORE (to ∷ word ∷ [])) (always_pointer id class type parts) (λ to before. extends_put op.STORE (to ∷ word ∷ []) before)))

  pub always_each : (step : Leaf → Step (Unit {0})) (leaves : List Leaf) → ((one : Leaf) → Always (step one)) → Always (each step leaves)
  unfolding each
  always_each step [] p = always_given m input whole {A = Unit {0}} tt
  always_each step (one ∷ more) p = always_then m input whole (step one) (λ done. each step more) (p one) (λ done. always_each step more p)

  always_out : (block class : ℕ) (parts : List Part) (variable : ℕ) (one : Leaf) → Always (copied_out block class parts variable one)
  unfolding copied_out
  always_out block class parts variable one =
      always_then m input whole (loaded block class one.shape (parts ++ one.path)) (λ v. put_at variable storage_class.FUNCTION one.shape one.path v) (always_loaded block class one.shape (parts ++ one.path)) (λ v. always_put variable storage_class.FUNCTION one.shape one.path v)

  always_whole : (block class : ℕ) (parts : List Part) (variable type : ℕ) (leaves : List Leaf) → Always (read_whole block class parts variable type leaves)
  unfolding read_whole
  always_whole block class parts variable type leaves =
      always_then m input whole (each (copied_out block class parts variable) leaves) (λ done. giving op.LOAD (variable ∷ []) type) (always_each (copied_out block class parts variable) leaves (λ one. always_out block class parts variable one))
      (λ done. always_giving m input whole op.LOAD (variable ∷ []) type)

  -- ---- what is read

  pub adds_own : (t : Ty) (id class : ℕ) (parts : List Part) → Adds (read_own t id class parts)
  adds_own t id class parts =
      adds_then (type_id t) (λ type. flow.◌>>=◌ (lift (pointer id class type parts)) (λ from. giving_here op.LOAD (from ∷ []) type)) (adds_type_id m input whole t)
      (λ type. adds_then (lift (pointer id class type parts)) (λ from. giving_here op.LOAD (from ∷ []) type) (adds_lift (pointer id class type parts) (λ b. always_pointer id class type parts b.sections)) (λ from. adds_giving m input whole op.LOAD (from ∷ []) type))

  adds_block : (structs : List StructType) (t : Ty) (id class : ℕ) (parts : List Part) → Adds (read_block structs t id class parts)
  adds_block structs t id class parts =
      adds_then holder (λ h. flow.◌>>=◌ (type_id t) (λ type. lift (read_whole id class parts h type (leaves_of structs t)))) adds_holder
      (λ h. adds_then (type_id t) (λ type. lift (read_whole id class parts h type (leaves_of structs t))) (adds_type_id m input whole t)
      (λ type. adds_lift (read_whole id class parts h type (leaves_of structs t)) (λ b. always_whole id class parts h type (leaves_of structs t) b.sections)))

  pub adds_loose : (t : Ty) (id : ℕ) (parts : List Part) → Adds (read_loose t id parts)
  adds_loose t id parts = adds_then (type_id t) (λ type. lift (extracted id type parts)) (adds_type_id m input whole t) (λ type. adds_lift (extracted id type parts) (λ b. always_extracted id type parts b.sections))

  pub adds_reads : (structs : List StructType) (t : Ty) (r : Reached) → Adds (reads structs t r)
  unfolding reads
  adds_reads structs t r = by (shape_of t)
    where
      by_class : (id class : ℕ) (block : Bool) → Adds (if block then read_block structs t id class r.path else read_own t id class r.path)
      by_class id class true = adds_block structs t id class r.path
      by_class id class false = adds_own t id class r.path

      by_base : (base : Base) → Adds (read_composite structs t base r.path)
      by_base (Variable id class) = by_class id class (is_block_class class)
      by_base (Loose id type) = adds_loose t id r.path

      by : (o : Option Shape) → Adds (read_by structs t r o)
      by (Some shape) = adds_lift (read shape r) (λ b. always_read shape r b.sections)
      by None = by_base r.base

  -- ---- pointers

  always_to : (id class : ℕ) (shape : Shape) (parts : List Part) (picked : Option Picked) → Always (pointed_to id class shape parts picked)
  always_to id class shape parts picked =
      always_then m input whole (type_of (stored_shape class shape)) (λ type. pointer id class type parts >>= made) (always_type m input whole (stored_shape class shape))
      (λ type. always_then m input whole (pointer id class type parts) made (always_pointer id class type parts) (λ to. always_given m input whole (of_pointer to)))
    where
      of_pointer : ℕ → Reached
      of_pointer to = record { base = Variable to class; path = []; picked = picked }

      made : ℕ → Step Reached
      made to = given (of_pointer to)

  always_at : (id class : ℕ) (parts : List Part) (p : Picked) (positions : List ℕ) → Always (pointed_at id class parts p positions)
  always_at id class parts p [] = always_to id class p.shape parts (Some p)
  always_at id class parts p (position ∷ []) = always_to id class (p.shape.0, 1) (parts ++ Fixed position ∷ []) None
  always_at id class parts p (position ∷ next ∷ positions) = always_to id class p.shape parts (Some p)

  always_pointed_by : (id class : ℕ) (parts : List Part) (p : Picked) (part : Option Part) → Always (pointed_by id class parts p part)
  always_pointed_by id class parts p None = always_at id class parts p p.positions
  always_pointed_by id class parts p (Some part) = always_to id class (p.shape.0, 1) (parts ++ part ∷ []) None

  always_pointed_picked : (id class : ℕ) (parts : List Part) (p : Picked) → Always (pointed_picked id class parts p)
  always_pointed_picked id class parts p = by (p.shape.1 == 1)
    where
      by : (one : Bool) → Always (if one then pointed_to id class p.shape parts None else pointed_by id class parts p p.by)
      by true = always_to id class p.shape parts None
      by false = always_pointed_by id class parts p p.by

  pub always_pointed : (shape : Shape) (r : Reached) → Always (pointed shape r)
  unfolding pointed
  always_pointed shape r = by r.base
    where
      by_picked : (id class : ℕ) (o : Option Picked) → Always (pointed_if id class r.path shape o)
      by_picked id class None = always_to id class shape r.path None
      by_picked id class (Some p) = always_pointed_picked id class r.path p

      by : (base : Base) → Always (pointed_from r shape base)
      by (Variable id class) = by_picked id class r.picked
      by (Loose id type) = always_given m input whole r
