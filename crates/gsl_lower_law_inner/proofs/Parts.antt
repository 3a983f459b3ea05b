-- Expressions of each kind, over their parts.
use Rattle.std.proofs.Common.{refl, ℕ, Bool, true, false, List, [], ◌∷◌, not, Option, Some, None}
use Rattle.std.specs.List.{AllByRecursion}
use Rattle.gsl_types.specs.declared.ty.Scalar.TheVariants.{Int}
use Rattle.gsl_types.specs.declared.ty.StructType.{StructType}
use Rattle.gsl_types.specs.declared.ty.Ty.{Ty}
use Rattle.gsl_values.specs.declared.function.Builtin.{Builtin}
use Rattle.gsl_values.specs.declared.lane.Lanes.{Lanes}
use Rattle.gsl_values.specs.declared.op.BinaryOp.{BinaryOp}
use Rattle.gsl_values.specs.declared.value.Value.{Value}
use Rattle.gsl_tree.specs.Shapes.{Shape, shape_of}
use Rattle.gsl_tree.specs.declared.expr.LogicOp.{LogicOp}
use Rattle.gsl_tree.specs.declared.expr.StageVar.{StageVar}
use Rattle.gsl_tree.specs.declared.expr.StepOp.{StepOp}
use Rattle.gsl_lower_values.specs.declared.operand.Operand.{Operand}
use Rattle.gsl_lower_places.specs.declared.reached.Base.{Base}
use Rattle.gsl_lower_places.specs.declared.reached.Base.TheVariants.{Variable, Value as Loose}
use Rattle.gsl_lower_places.specs.declared.reached.Part.{Part}
use Rattle.gsl_lower_places.specs.declared.reached.Reached.{Reached}
use Rattle.gsl_lower_leaves.specs.declared.leaf.Leaf.{Leaf}
use Rattle.gsl_lower_leaves.specs.Leaves.{leaves_of}
use Rattle.gsl_lower_traits.specs.Traits.{Known}
use Rattle.gsl_lower_traits.specs.declared.traits.Traits.{Traits}
use Rattle.gsl_lower_holders.specs.Flow.{Emit}
use Rattle.gsl_lower_holders.specs.declared.place.FlowPlace.{FlowPlace}
use Rattle.gsl_lower_expr.specs.Parts.{Lower, accessed, after_assign, after_index, after_update, assigned, before_assign, before_index, before_update, binary, binary_by, block_length, both, built_from, called_of, chosen, constant_by, constructed, counted, counted_in, fetches, first_leaf, forked, in_block, index_by, indexed, keeps, known_of, logical, loose_value, member, named, of_two, operands, picked_one, pointed_if, probe, probe_by, read_block, read_by, read_composite, read_loose, read_own, reads, sequence, short, spilled, stage_number, stage_value, step_into, stepped, stepped_at, store_by, store_composite, store_own, stores, swizzled_by, tested, updated}
use Rattle.gsl_lower_law_inner.specs.Inner.{AllBuild, AllPut, LowersInner}
use Rattle.gsl_lower_law_inner.proofs.Steps.{builds_given, builds_giving, builds_if, builds_then}
use Rattle.gsl_lower_law_inner.proofs.Values.{builds_binary, builds_converted, builds_logical, builds_scalar, builds_selected, builds_stepped, builds_type, builds_vector}
use Rattle.gsl_lower_law_inner.proofs.Built.{builds_built, builds_called}
use Rattle.gsl_lower_law_inner.proofs.Places.{builds_component_at, builds_extracted, builds_pointed, builds_pointer, builds_read, builds_renewed, builds_stored}
use Rattle.gsl_lower_law_inner.proofs.Leaves.{builds_compared_whole, builds_read_whole, builds_store_whole}
use Rattle.gsl_lower_law_inner.proofs.Flows.{given_by, puts_begin_choice, puts_begin_short, puts_fetch, puts_fetch_reached, puts_given, puts_giving, puts_here, puts_hold, puts_hold_reached, puts_holder, puts_if, puts_join, puts_keep, puts_lift, puts_next, puts_other_way, puts_then, puts_told, puts_type}

-- ---- what is read and stored whole

puts_read_block : (structs : List StructType) (t : Ty) (id class : ℕ) (parts : List Part) → AllPut (read_block structs t id class parts)
puts_read_block structs t id class parts = puts_then puts_holder (λ h. puts_then (puts_type t) (λ type. puts_lift (builds_read_whole id class parts h type (leaves_of structs t))))

puts_read_own : (t : Ty) (id class : ℕ) (parts : List Part) → AllPut (read_own t id class parts)
puts_read_own t id class parts = puts_then (puts_type t) (λ type. puts_then (puts_lift (builds_pointer id class type parts)) (λ from. puts_giving _ _ type refl))

puts_read_loose : (t : Ty) (id : ℕ) (parts : List Part) → AllPut (read_loose t id parts)
puts_read_loose t id parts = puts_then (puts_type t) (λ type. puts_lift (builds_extracted id type parts))

puts_read_composite : (structs : List StructType) (t : Ty) (base : Base) (parts : List Part) → AllPut (read_composite structs t base parts)
puts_read_composite structs t (Variable id class) parts = puts_if _ (puts_read_block structs t id class parts) (puts_read_own t id class parts)
puts_read_composite structs t (Loose id of_whole) parts = puts_read_loose t id parts

puts_read_by : (structs : List StructType) (t : Ty) (r : Reached) (shape : Option Shape) → AllPut (read_by structs t r shape)
puts_read_by structs t r None = puts_read_composite structs t r.base r.path
puts_read_by structs t r (Some shape) = puts_lift (builds_read shape r)

pub puts_reads : (structs : List StructType) (t : Ty) (r : Reached) → AllPut (reads structs t r)
unfolding reads
puts_reads structs t r = puts_read_by structs t r (shape_of t)

puts_store_own : (t : Ty) (id class : ℕ) (parts : List Part) (v : ℕ) → AllPut (store_own t id class parts v)
puts_store_own t id class parts v = puts_then (puts_type t) (λ type. puts_then (puts_lift (builds_pointer id class type parts)) (λ to. puts_here _ _ refl))

puts_store_composite : (structs : List StructType) (t : Ty) (base : Base) (parts : List Part) (v : ℕ) → AllPut (store_composite structs t base parts v)
puts_store_composite structs t (Variable id class) parts v = puts_if _ (puts_lift (builds_store_whole id class parts v (leaves_of structs t))) (puts_store_own t id class parts v)
puts_store_composite structs t (Loose id of_whole) parts v = puts_given

puts_store_by : (structs : List StructType) (t : Ty) (r : Reached) (v : ℕ) (shape : Option Shape) → AllPut (store_by structs t r v shape)
puts_store_by structs t r v None = puts_store_composite structs t r.base r.path v
puts_store_by structs t r v (Some shape) = puts_lift (builds_stored shape r v)

pub puts_stores : (structs : List StructType) (t : Ty) (r : Reached) (v : ℕ) → AllPut (stores structs t r v)
unfolding stores
puts_stores structs t r v = puts_store_by structs t r v (shape_of t)

-- ---- tests of indexes

builds_tested : (base : Base) (shape : Shape) (r : Reached) → AllBuild (tested base shape r)
builds_tested (Variable id class) shape r = builds_then (builds_pointed shape r) (λ to. builds_given {A = Unit {0}} {a = tt})
builds_tested (Loose id of_whole) shape r = builds_then (builds_read shape r) (λ v. builds_given {A = Unit {0}} {a = tt})

builds_first : (r : Reached) (leaves : List Leaf) → AllBuild (first_leaf r leaves)
builds_first r [] = builds_given
builds_first r (one ∷ more) = builds_tested r.base one.shape _

builds_probe_by : (structs : List StructType) (t : Ty) (r : Reached) (shape : Option Shape) → AllBuild (probe_by structs t r shape)
builds_probe_by structs t r None = builds_first r (leaves_of structs t)
builds_probe_by structs t r (Some shape) = builds_tested r.base shape r

pub builds_probe : (structs : List StructType) (calls : Bool) (t : Ty) (r : Reached) → AllBuild (probe structs calls t r)
unfolding probe
builds_probe structs false t r = builds_given
builds_probe structs true t r = builds_probe_by structs t r (shape_of t)

-- ---- names, and parts of what is named

pub puts_loose : (t : Ty) (id : ℕ) → AllPut (loose_value t id)
puts_loose t id = puts_then (puts_type t) (λ type. puts_given)

pub puts_accessed : (structs : List StructType) (t : Ty) (reach : Emit Reached) → AllPut reach → AllPut (accessed structs t reach)
puts_accessed structs t reach p = puts_then p (λ r. puts_reads structs t r)

pub puts_named : (list : FlowPlace → List ℕ) (class number : ℕ) → AllPut (named list class number)
puts_named list class number = puts_then (puts_told list number) (λ id. puts_given)

pub puts_block : (block number : ℕ) → AllPut (in_block block number)
puts_block block number = puts_then (puts_told _ block) (λ id. puts_then (puts_told _ block) (λ class. puts_given))

builds_counted : (id number : ℕ) → AllBuild (counted_in id number)
builds_counted id number = builds_then (builds_then (builds_type _) (λ type. builds_giving _ _ type refl)) (λ count. builds_converted Int _)

pub puts_length : (block number : ℕ) → AllPut (block_length block number)
puts_length block number = puts_then (puts_told _ block) (λ id. puts_lift (builds_counted id number))

pub puts_stage : (var : StageVar) (t : Ty) → AllPut (stage_value var t)
puts_stage var t = puts_then (puts_told (λ place. place.stage_vars) (stage_number var)) (λ id. puts_lift (builds_read _ _))

pub builds_constant_by : (shape : Shape) (v : Value) → AllBuild (constant_by shape v)
builds_constant_by shape v = builds_if _ (builds_scalar shape.0 _) (builds_vector shape _)

-- ---- indexes

puts_spilled : (structs : List StructType) (spills : Bool) (t : Ty) (r : Reached) → AllPut (spilled structs spills t r)
puts_spilled structs false t r = puts_given
puts_spilled structs true t r = puts_then (puts_then (puts_reads structs t r) (λ v. puts_keep v)) (λ h. puts_given)

puts_index_by : (i : Lower) (literal : Option ℕ) → LowersInner i → AllPut (index_by i literal)
puts_index_by i None p = puts_then p.value (λ id. puts_given)
puts_index_by i (Some number) p = puts_given

builds_step_into : (shape : Option Shape) (part : Part) (r : Reached) → AllBuild (step_into shape part r)
builds_step_into None part r = builds_given
builds_step_into (Some shape) part r = builds_component_at shape part r

puts_before_index : (structs : List StructType) (a : Known) (i : Traits) (r : Reached) → AllPut (before_index structs a i r)
puts_before_index structs a i r = puts_then (puts_spilled structs _ a.ty r) (λ x. puts_next (puts_lift (builds_probe structs i.calls a.ty x)) (puts_hold_reached i.splits x))

puts_after_index : (t : Ty) (i : Traits) (kept : Reached) (part : Part) → AllPut (after_index t i kept part)
puts_after_index t i kept part = puts_then (puts_fetch_reached i.splits kept) (λ to. puts_lift (builds_step_into (shape_of t) part to))

pub puts_indexed : (structs : List StructType) (a i : Lower) → LowersInner a → LowersInner i → AllPut (indexed structs a i)
puts_indexed structs a i p q =
    puts_then (puts_then p.reach (λ r. puts_before_index structs (known_of a) i.traits r)) (λ kept. puts_then (puts_index_by i i.traits.literal q) (λ part. puts_after_index a.ty i.traits kept part))

pub puts_swizzled : (a : Lower) (lanes : Lanes) → LowersInner a → AllPut (swizzled_by a lanes)
puts_swizzled a lanes p = puts_then p.reach (λ r. puts_given)

pub puts_member : (a : Lower) (number : ℕ) → LowersInner a → AllPut (member a number)
puts_member a number p = puts_then p.reach (λ r. puts_given)

-- ---- operands

puts_keeps : (es : List Lower) → AllByRecursion LowersInner es → AllPut (keeps es)
unfolding keeps
puts_keeps [] all = puts_given
puts_keeps (e ∷ es) all = puts_then all.0.value (λ x. puts_then (puts_hold _ x) (λ kept. puts_then (puts_keeps es all.1) (λ others. puts_given)))

puts_fetches : (es : List Lower) (kept : List ℕ) → AllPut (fetches es kept)
unfolding fetches
puts_fetches [] kept = puts_given
puts_fetches (e ∷ es) [] = puts_given
puts_fetches (e ∷ es) (kept ∷ others) = puts_then (puts_fetch _ e.ty kept) (λ x. puts_then (puts_fetches es others) (λ more. puts_given))

puts_operands : (es : List Lower) → AllByRecursion LowersInner es → AllPut (operands es)
puts_operands es all = puts_then (puts_keeps es all) (λ kept. puts_fetches es kept)

puts_of_two : (a b : Lower) (go : ℕ → ℕ → Emit ℕ) → LowersInner a → LowersInner b → ((x y : ℕ) → AllPut (go x y)) → AllPut (of_two a b go)
puts_of_two a b go p q g = puts_then p.value (λ x. puts_then (puts_hold _ x) (λ kept. puts_then q.value (λ y. puts_then (puts_fetch _ _ kept) (λ again. g again y))))

builds_binary_by : (structs : List StructType) (which : BinaryOp) (left right : Ty) (x y : ℕ) (shape : Option Shape) → AllBuild (binary_by structs which left right x y shape)
builds_binary_by structs which left right x y None = builds_compared_whole which x y (leaves_of structs left)
builds_binary_by structs which left right x y (Some shape) = builds_binary which _ _

pub puts_binary : (structs : List StructType) (which : BinaryOp) (a b : Lower) → LowersInner a → LowersInner b → AllPut (binary structs which a b)
puts_binary structs which a b p q = puts_of_two a b _ p q (λ x y. puts_lift (builds_binary_by structs which a.ty b.ty x y (shape_of a.ty)))

-- ---- `&&`, `||` and `?:`

puts_short : (which : LogicOp) (a b : Lower) → LowersInner a → LowersInner b → AllPut (short which a b)
puts_short which a b p q = puts_then (puts_then p.value (λ x. puts_begin_short which x)) (λ f. puts_then q.value (λ y. puts_join _ f y))

puts_both : (which : LogicOp) (a b : Lower) → LowersInner a → LowersInner b → AllPut (both which a b)
puts_both which a b p q = puts_of_two a b _ p q (λ x y. puts_lift (builds_logical which x y))

pub puts_logical : (which : LogicOp) (a b : Lower) → LowersInner a → LowersInner b → AllPut (logical which a b)
puts_logical which a b p q = puts_if _ (puts_short which a b p q) (puts_both which a b p q)

puts_forked : (t : Ty) (test a b : Lower) → LowersInner test → LowersInner a → LowersInner b → AllPut (forked t test a b)
puts_forked t test a b p q r =
    puts_then (puts_then p.value (λ x. puts_begin_choice x)) (λ f. puts_next (puts_then q.value (λ v. puts_other_way f v)) (puts_then r.value (λ v. puts_join t f v)))

puts_picked_one : (t : Ty) (test a b : Lower) → LowersInner test → LowersInner a → LowersInner b → AllPut (picked_one t test a b)
puts_picked_one t test a b p q r = puts_then p.value (λ x. puts_then q.value (λ y. puts_then r.value (λ z. puts_lift (builds_selected _ x y z))))

pub puts_chosen : (t : Ty) (test a b : Lower) → LowersInner test → LowersInner a → LowersInner b → AllPut (chosen t test a b)
puts_chosen t test a b p q r = puts_if _ (puts_picked_one t test a b p q r) (puts_forked t test a b p q r)

-- ---- assignments

puts_before_assign : (structs : List StructType) (t : Ty) (b : Traits) (r : Reached) → AllPut (before_assign structs t b r)
puts_before_assign structs t b r = puts_next (puts_lift (builds_probe structs b.calls t r)) (puts_hold_reached b.splits r)

puts_after_assign : (structs : List StructType) (t : Ty) (b : Traits) (kept : Reached) (y : ℕ) → AllPut (after_assign structs t b kept y)
puts_after_assign structs t b kept y = puts_then (puts_fetch_reached b.splits kept) (λ to. puts_next (puts_stores structs t to y) puts_given)

pub puts_assigned : (structs : List StructType) (a b : Lower) → LowersInner a → LowersInner b → AllPut (assigned structs a b)
puts_assigned structs a b p q =
    puts_then (puts_then p.reach (λ r. puts_before_assign structs a.ty b.traits r)) (λ kept. puts_then q.value (λ y. puts_after_assign structs a.ty b.traits kept y))

builds_pointed_if : (serves : Bool) (shape : Shape) (r : Reached) → AllBuild (pointed_if serves shape r)
builds_pointed_if false shape r = builds_given
builds_pointed_if true shape r = builds_renewed shape r

puts_before_update : (structs : List StructType) (t : Ty) (b : Traits) (r : Reached) → AllPut (before_update structs t b r)
unfolding before_update
puts_before_update structs t b r =
    puts_then (puts_lift (builds_pointed_if (not b.splits) _ r)) (λ to. puts_then (puts_reads structs t to) (λ old. puts_then (puts_hold b.splits old) (λ before. puts_then (puts_hold_reached b.splits to) (λ kept. puts_given))))

puts_after_update : (structs : List StructType) (which : BinaryOp) (t right : Ty) (b : Traits) (kept : given_by (before_update structs t b)) (y : ℕ) → AllPut (after_update structs which t right b kept y)
unfolding after_update
puts_after_update structs which t right b kept y =
    puts_then (puts_fetch b.splits t kept.old) (λ x. puts_then (puts_fetch_reached b.splits kept.to) (λ to. puts_then (puts_lift (builds_binary which _ _)) (λ new. puts_next (puts_stores structs t to new) puts_given)))

pub puts_updated : (structs : List StructType) (which : BinaryOp) (a b : Lower) → LowersInner a → LowersInner b → AllPut (updated structs which a b)
puts_updated structs which a b p q =
    puts_then (puts_then p.reach (λ r. puts_before_update structs a.ty b.traits r)) (λ kept. puts_then q.value (λ y. puts_after_update structs which a.ty b.ty b.traits kept y))

puts_stepped_at : (structs : List StructType) (which : StepOp) (t : Ty) (r : Reached) → AllPut (stepped_at structs which t r)
unfolding stepped_at
puts_stepped_at structs which t r =
    puts_then (puts_lift (builds_pointed_if true _ r)) (λ to. puts_then (puts_reads structs t to) (λ old. puts_then (puts_lift (builds_stepped which _)) (λ new. puts_next (puts_stores structs t to new) puts_given)))

pub puts_stepped : (structs : List StructType) (which : StepOp) (a : Lower) → LowersInner a → AllPut (stepped structs which a)
puts_stepped structs which a p = puts_then p.reach (λ r. puts_stepped_at structs which a.ty r)

-- ---- the rest

pub puts_counted : (a : Lower) → LowersInner a → AllPut (counted a)
puts_counted a p = puts_if _ (puts_lift (builds_scalar Int _)) p.length

puts_built_from : (t : Ty) (shape : Option Shape) (ids : List ℕ) (args : List Operand) → AllPut (built_from t shape ids args)
puts_built_from t None ids args = puts_then (puts_type t) (λ type. puts_giving _ ids type refl)
puts_built_from t (Some shape) ids args = puts_lift (builds_built shape args)

pub puts_constructed : (t : Ty) (args : List Lower) → AllByRecursion LowersInner args → AllPut (constructed t args)
puts_constructed t args all = puts_then (puts_operands args all) (λ ids. puts_built_from t (shape_of t) ids _)

pub puts_called_of : (which : Builtin) (args : List Lower) → AllByRecursion LowersInner args → AllPut (called_of which args)
puts_called_of which args all = puts_then (puts_operands args all) (λ ids. puts_lift (builds_called which _))

pub puts_sequence : (last : ℕ) (es : List Lower) → AllByRecursion LowersInner es → AllPut (sequence last es)
unfolding sequence
puts_sequence last [] all = puts_given
puts_sequence last (e ∷ es) all = puts_then all.0.value (λ id. puts_sequence id es all.1)
