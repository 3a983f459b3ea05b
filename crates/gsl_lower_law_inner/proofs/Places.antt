-- What is read and stored where an expression leads, and pointers to it.
use Rattle.std.proofs.Common.{refl, ℕ, ◌+◌, List, [], ◌∷◌, Option, Some, None}
use Rattle.gsl_types.specs.declared.ty.Scalar.{Scalar}
use Rattle.gsl_types.specs.declared.ty.Scalar.TheVariants.{Int}
use Rattle.gsl_tree.specs.Shapes.{Shape}
use Rattle.gsl_lower_values.specs.declared.operand.Operand.{Operand}
use Rattle.gsl_lower_places.specs.Pointed.{pointed, pointed_at, pointed_by, pointed_from, pointed_if, pointed_to, to_renew}
use Rattle.gsl_lower_places.specs.Reached.{component_at, component_if, component_in, position_by}
use Rattle.gsl_lower_places.specs.Reading.{chained, extracted, extracted_shape, index, loaded, loaded_by, loaded_picked, loaded_scalar, loaded_vector, picked_by, pointer, read, read_from, read_value, read_variable}
use Rattle.gsl_lower_places.specs.Writing.{each_from, in_class, one_at, put_at, put_by, put_in, put_picked, put_variable, stored}
use Rattle.gsl_lower_places.specs.declared.reached.Base.{Base}
use Rattle.gsl_lower_places.specs.declared.reached.Base.TheVariants.{Variable, Value}
use Rattle.gsl_lower_places.specs.declared.reached.Part.{Part}
use Rattle.gsl_lower_places.specs.declared.reached.Part.TheVariants.{Fixed, By}
use Rattle.gsl_lower_places.specs.declared.reached.Picked.{Picked}
use Rattle.gsl_lower_places.specs.declared.reached.Reached.{Reached}
use Rattle.gsl_lower_law_inner.specs.Inner.{AllBuild}
use Rattle.gsl_lower_law_inner.proofs.Steps.{builds_given, builds_giving, builds_if, builds_order, builds_plain, builds_putting, builds_then}
use Rattle.gsl_spv.specs.declared.plain.PlainType.TheVariants as plain
use Rattle.gsl_lower_law_inner.proofs.Values.{builds_converted, builds_scalar, builds_type, builds_typed, builds_vector}
use Rattle.gsl_lower_law_inner.proofs.Built.{builds_picked}

-- ---- components

builds_position : (positions : List ℕ) (id : ℕ) → AllBuild (position_by positions id)
builds_position positions id = builds_then (builds_vector _ positions) (λ table. builds_typed _ _ _ refl)

builds_in : (before : Picked) (part : Part) → AllBuild (component_in before part)
builds_in before (Fixed number) = builds_given
builds_in before (By s id) = builds_then (builds_position before.positions id) (λ position. builds_given)

builds_component_if : (shape : Shape) (part : Part) (before : Option Picked) → AllBuild (component_if shape part before)
builds_component_if shape part None = builds_given
builds_component_if shape part (Some before) = builds_in before part

pub builds_component_at : (shape : Shape) (part : Part) (r : Reached) → AllBuild (component_at shape part r)
unfolding component_at
builds_component_at shape part r = builds_then (builds_component_if shape part r.picked) (λ picked. builds_given)

-- ---- pointers

builds_index : (part : Part) → AllBuild (index part)
unfolding index
builds_index (Fixed number) = builds_scalar Int number
builds_index (By s id) = builds_given

builds_chained : (id class pointee : ℕ) (parts : List Part) → AllBuild (chained id class pointee parts)
builds_chained id class pointee [] = builds_given
builds_chained id class pointee (part ∷ parts) = builds_then (builds_order index (part ∷ parts) builds_index) (λ ids. builds_then (builds_plain (plain.Pointer class pointee)) (λ type. builds_giving _ _ type refl))

pub builds_pointer : (id class pointee : ℕ) (parts : List Part) → AllBuild (pointer id class pointee parts)
unfolding pointer
builds_pointer id class pointee parts = builds_chained id class pointee parts

builds_pointed_to : (id class : ℕ) (shape : Shape) (parts : List Part) (picked : Option Picked) → AllBuild (pointed_to id class shape parts picked)
builds_pointed_to id class shape parts picked = builds_then (builds_type _) (λ type. builds_then (builds_pointer id class type parts) (λ to. builds_given))

builds_pointed_at : (id class : ℕ) (parts : List Part) (p : Picked) (positions : List ℕ) → AllBuild (pointed_at id class parts p positions)
builds_pointed_at id class parts p [] = builds_pointed_to id class p.shape parts (Some p)
builds_pointed_at id class parts p (position ∷ []) = builds_pointed_to id class _ _ None
builds_pointed_at id class parts p (position ∷ other ∷ positions) = builds_pointed_to id class p.shape parts (Some p)

builds_pointed_by : (id class : ℕ) (parts : List Part) (p : Picked) (by : Option Part) → AllBuild (pointed_by id class parts p by)
builds_pointed_by id class parts p None = builds_pointed_at id class parts p p.positions
builds_pointed_by id class parts p (Some by) = builds_pointed_to id class _ _ None

builds_pointed_if : (id class : ℕ) (parts : List Part) (shape : Shape) (picked : Option Picked) → AllBuild (pointed_if id class parts shape picked)
builds_pointed_if id class parts shape None = builds_pointed_to id class shape parts None
builds_pointed_if id class parts shape (Some p) = builds_if _ (builds_pointed_to id class p.shape parts None) (builds_pointed_by id class parts p p.by)

builds_pointed_from : (r : Reached) (shape : Shape) (base : Base) → AllBuild (pointed_from r shape base)
builds_pointed_from r shape (Variable id class) = builds_pointed_if id class r.path shape r.picked
builds_pointed_from r shape (Value id type) = builds_given

pub builds_pointed : (shape : Shape) (r : Reached) → AllBuild (pointed shape r)
unfolding pointed
builds_pointed shape r = builds_pointed_from r shape r.base

pub builds_renewed : (shape : Shape) (r : Reached) → AllBuild (to_renew shape r)
unfolding to_renew
builds_renewed shape r = builds_if _ builds_given (builds_pointed shape r)

-- ---- loads

pub builds_loaded : (id class : ℕ) (shape : Shape) (parts : List Part) → AllBuild (loaded id class shape parts)
unfolding loaded
builds_loaded id class shape parts =
    builds_then (builds_type _) (λ type. builds_then (builds_pointer id class type parts) (λ from. builds_then (builds_giving _ _ type refl) (λ v. builds_converted shape.0 _)))

builds_loaded_vector : (id class : ℕ) (shape : Shape) (positions : List ℕ) (parts : List Part) → AllBuild (loaded_vector id class shape positions parts)
builds_loaded_vector id class shape [] parts = builds_then (builds_loaded id class shape parts) (λ v. builds_picked _ [])
builds_loaded_vector id class shape (position ∷ []) parts = builds_loaded id class _ _
builds_loaded_vector id class shape (position ∷ other ∷ positions) parts = builds_then (builds_loaded id class shape parts) (λ v. builds_picked _ (position ∷ other ∷ positions))

builds_loaded_scalar : (id class : ℕ) (s : Scalar) (positions : List ℕ) (parts : List Part) → AllBuild (loaded_scalar id class s positions parts)
builds_loaded_scalar id class s positions parts = builds_then (builds_loaded id class _ parts) (λ v. builds_picked _ positions)

builds_loaded_by : (id class : ℕ) (shape : Shape) (by : Option Part) (positions : List ℕ) (parts : List Part) → AllBuild (loaded_by id class shape by positions parts)
builds_loaded_by id class shape None positions parts = builds_loaded_vector id class shape positions parts
builds_loaded_by id class shape (Some by) positions parts = builds_loaded_scalar id class shape.0 positions _

builds_loaded_picked : (id class : ℕ) (parts : List Part) (p : Picked) → AllBuild (loaded_picked id class parts p)
unfolding loaded_picked
builds_loaded_picked id class parts p = builds_if _ (builds_loaded_scalar id class p.shape.0 p.positions parts) (builds_loaded_by id class p.shape p.by p.positions parts)

builds_variable : (id class : ℕ) (parts : List Part) (shape : Shape) (picked : Option Picked) → AllBuild (read_variable id class parts shape picked)
builds_variable id class parts shape None = builds_loaded id class shape parts
builds_variable id class parts shape (Some p) = builds_loaded_picked id class parts p

-- ---- parts of values

pub builds_extracted : (id type : ℕ) (parts : List Part) → AllBuild (extracted id type parts)
unfolding extracted
builds_extracted id type [] = builds_given
builds_extracted id type (part ∷ parts) = builds_giving _ _ type refl

builds_extracted_shape : (id : ℕ) (shape : Shape) (parts : List Part) → AllBuild (extracted_shape id shape parts)
builds_extracted_shape id shape parts = builds_then (builds_type shape) (λ type. builds_extracted id type parts)

builds_picked_by : (shape : Shape) (id : ℕ) (by : Option Part) (positions : List ℕ) → AllBuild (picked_by shape id by positions)
builds_picked_by shape id None positions = builds_picked _ positions
builds_picked_by shape id (Some by) positions =
    builds_then (builds_index by) (λ at. builds_then (builds_type _) (λ type. builds_then (builds_giving _ _ type refl) (λ v. builds_picked _ positions)))

builds_value : (id : ℕ) (parts : List Part) (shape : Shape) (picked : Option Picked) → AllBuild (read_value id parts shape picked)
builds_value id parts shape None = builds_extracted_shape id shape parts
builds_value id parts shape (Some p) = builds_then (builds_extracted_shape id p.shape parts) (λ v. builds_if _ (builds_picked _ p.positions) (builds_picked_by p.shape v p.by p.positions))

builds_from : (base : Base) (parts : List Part) (shape : Shape) (picked : Option Picked) → AllBuild (read_from base parts shape picked)
builds_from (Variable id class) parts shape p = builds_variable id class parts shape p
builds_from (Value id type) parts shape p = builds_value id parts shape p

pub builds_read : (shape : Shape) (r : Reached) → AllBuild (read shape r)
unfolding read
builds_read shape r = builds_from r.base r.path shape r.picked

-- ---- stores

builds_class : (class : ℕ) (shape : Shape) (v : ℕ) → AllBuild (in_class class shape v)
unfolding in_class
builds_class class shape v = builds_converted _ _

pub builds_put_at : (id class : ℕ) (shape : Shape) (parts : List Part) (v : ℕ) → AllBuild (put_at id class shape parts v)
unfolding put_at
builds_put_at id class shape parts v =
    builds_then (builds_class class shape v) (λ word. builds_then (builds_type _) (λ type. builds_then (builds_pointer id class type parts) (λ to. builds_putting _ _ refl)))

builds_one_at : (id class : ℕ) (parts : List Part) (v : Operand) (number position : ℕ) → AllBuild (one_at id class parts v number position)
unfolding one_at
builds_one_at id class parts v number position = builds_then (builds_picked v _) (λ one. builds_put_at id class _ _ one)

builds_each_from : (id class : ℕ) (parts : List Part) (v : Operand) (number : ℕ) (positions : List ℕ) → AllBuild (each_from id class parts v number positions)
unfolding each_from
builds_each_from id class parts v number [] = builds_given
builds_each_from id class parts v number (position ∷ positions) = builds_then (builds_one_at id class parts v number position) (λ done. builds_each_from id class parts v (number + 1) positions)

builds_put_by : (id class : ℕ) (shape : Shape) (by : Option Part) (positions : List ℕ) (parts : List Part) (v : ℕ) → AllBuild (put_by id class shape by positions parts v)
builds_put_by id class shape None positions parts v = builds_each_from id class parts _ 0 positions
builds_put_by id class shape (Some by) positions parts v = builds_put_at id class _ _ v

builds_put_picked : (id class : ℕ) (parts : List Part) (v : ℕ) (p : Picked) → AllBuild (put_picked id class parts v p)
unfolding put_picked
builds_put_picked id class parts v p = builds_if _ (builds_put_at id class p.shape parts v) (builds_put_by id class p.shape p.by p.positions parts v)

builds_put_variable : (id class : ℕ) (parts : List Part) (shape : Shape) (v : ℕ) (picked : Option Picked) → AllBuild (put_variable id class parts shape v picked)
builds_put_variable id class parts shape v None = builds_put_at id class shape parts v
builds_put_variable id class parts shape v (Some p) = builds_put_picked id class parts v p

builds_put_in : (base : Base) (parts : List Part) (shape : Shape) (v : ℕ) (picked : Option Picked) → AllBuild (put_in base parts shape v picked)
builds_put_in (Variable id class) parts shape v p = builds_put_variable id class parts shape v p
builds_put_in (Value id type) parts shape v p = builds_given

pub builds_stored : (shape : Shape) (r : Reached) (v : ℕ) → AllBuild (stored shape r v)
unfolding stored
builds_stored shape r v = builds_put_in r.base r.path shape v r.picked
