-- Calls of functions of the program, over their arguments.
use Rattle.std.proofs.Common.{refl, ℕ, Bool, true, List, [], ◌∷◌, Option, Some, None, slice_get}
use Rattle.std.specs.List.{AllByRecursion}
use Rattle.gsl_types.specs.declared.ty.Direction.{Direction}
use Rattle.gsl_types.specs.declared.ty.Direction.TheVariants.{In, Out, InOut}
use Rattle.gsl_types.specs.declared.ty.StructType.{StructType}
use Rattle.gsl_types.specs.declared.ty.Ty.{Ty}
use Rattle.gsl_types.specs.declared.ty.Ty.TheOpen.{Ty-F}
use Rattle.gsl_types.specs.declared.ty.Ty.TheViews.{out-Ty}
use Rattle.gsl_tree.specs.Shapes.{Shape, shape_of}
use Rattle.gsl_tree.specs.Weights.{params_of}
use Rattle.gsl_tree.specs.declared.unit.Interface.{Interface}
use Rattle.gsl_tree.specs.declared.unit.Prototype.{Prototype}
use Rattle.gsl_spv.specs.declared.plain.PlainConst.TheVariants as of
use Rattle.gsl_spv.specs.declared.plain.PlainType.TheVariants as plain
use Rattle.gsl_lower_places.specs.declared.reached.Reached.{Reached}
use Rattle.gsl_lower_expr.specs.Calls.{all_back, as_argument, back, back_if, back_to, called_by, called_with, calling, coming_back, going_in, passed_both, passed_out, passing, passing_all, result_by, result_type, tys, zeros}
use Rattle.gsl_lower_expr.specs.Coming.{setting_of}
use Rattle.gsl_lower_expr.specs.Parts.{Lower, any_splits}
use Rattle.gsl_lower_law_inner.specs.Inner.{AllPut, CallsInner, LowersInner}
use Rattle.gsl_lower_law_inner.proofs.Steps.{builds_constant, builds_plain}
use Rattle.gsl_lower_law_inner.proofs.Values.{builds_converted}
use Rattle.gsl_lower_law_inner.proofs.Flows.{given_by, puts_back as puts_taken_back, puts_fetch_reached, puts_given, puts_giving, puts_hold_reached, puts_keep, puts_lift, puts_next, puts_then, puts_told, puts_type}
use Rattle.gsl_lower_law_inner.proofs.Parts.{builds_probe, puts_reads, puts_stores}

pub puts_zeros : (t : Ty) → AllPut (zeros t)
unfolding zeros
puts_zeros t = puts_then (puts_type t) (λ type. puts_lift (builds_constant (of.Null type)))

-- ---- arguments

-- an argument that was passed
abbrev Passed : Type 0
Passed = given_by going_in

puts_going_in : (v : ℕ) → AllPut (going_in v)
unfolding going_in
puts_going_in v = puts_then (puts_keep v) (λ h. puts_given)

puts_coming_back : (waits : Bool) (r : Reached) (v : ℕ) → AllPut (coming_back waits r v)
unfolding coming_back
puts_coming_back waits r v = puts_then (puts_hold_reached waits r) (λ kept. puts_then (puts_keep v) (λ h. puts_given))

puts_passed_out : (structs : List StructType) (waits : Bool) (t arg : Ty) (r : Reached) → AllPut (passed_out structs waits t arg r)
unfolding passed_out
puts_passed_out structs waits t arg r = puts_next (puts_lift (builds_probe structs true arg r)) (puts_then (puts_zeros t) (λ v. puts_coming_back waits r v))

puts_passed_both : (structs : List StructType) (waits : Bool) (arg : Ty) (r : Reached) → AllPut (passed_both structs waits arg r)
unfolding passed_both
puts_passed_both structs waits arg r = puts_then (puts_reads structs arg r) (λ v. puts_coming_back waits r v)

puts_passing : (structs : List StructType) (waits : Bool) (way : Direction) (t : Ty) (arg : Lower) → LowersInner arg → AllPut (passing structs waits way t arg)
puts_passing structs waits In t arg p = puts_then p.value (λ v. puts_going_in v)
puts_passing structs waits Out t arg p = puts_then p.reach (λ r. puts_passed_out structs waits t arg.ty r)
puts_passing structs waits InOut t arg p = puts_then p.reach (λ r. puts_passed_both structs waits arg.ty r)

puts_passing_all : (structs : List StructType) (args : List Lower) (params : List (Direction × Ty)) → AllByRecursion LowersInner args → AllPut (passing_all structs args params)
unfolding passing_all
puts_passing_all structs [] params all = puts_given
puts_passing_all structs (arg ∷ args) [] all = puts_given
puts_passing_all structs (arg ∷ args) (param ∷ params) all =
    puts_then (puts_passing structs (any_splits args) param.0 param.1 arg all.0) (λ p. puts_then (puts_passing_all structs args params all.1) (λ ps. puts_given))

-- ---- what comes back

puts_as_argument : (arg : Ty) (shape : Option Shape) (v : ℕ) → AllPut (as_argument arg shape v)
puts_as_argument arg None v = puts_given
puts_as_argument arg (Some shape) v = puts_lift (builds_converted _ _)

puts_back_to : (structs : List StructType) (t arg : Ty) (h : ℕ) (waits : Bool) (kept : Reached) → AllPut (back_to structs t arg h waits kept)
puts_back_to structs t arg h waits kept =
    puts_then (puts_type t) (λ type. puts_then (puts_taken_back h type) (λ v. puts_then (puts_as_argument arg (shape_of t) v) (λ word. puts_then (puts_fetch_reached waits kept) (λ r. puts_stores structs arg r word))))

puts_back_if : (structs : List StructType) (t arg : Ty) (h : ℕ) (waits : Bool) (kept : Option Reached) → AllPut (back_if structs t arg h waits kept)
puts_back_if structs t arg h waits None = puts_given
puts_back_if structs t arg h waits (Some kept) = puts_back_to structs t arg h waits kept

puts_back : (structs : List StructType) (t arg : Ty) (p : Passed) → AllPut (back structs t arg p)
unfolding back
puts_back structs t arg p = puts_back_if structs t arg p.pointer p.waits p.back

puts_all_back : (structs : List StructType) (ps : List Passed) (params : List (Direction × Ty)) (args : List Ty) → AllPut (all_back structs ps params args)
unfolding all_back
puts_all_back structs [] params args = puts_given
puts_all_back structs (p ∷ ps) [] args = puts_given
puts_all_back structs (p ∷ ps) (param ∷ params) [] = puts_given
puts_all_back structs (p ∷ ps) (param ∷ params) (arg ∷ args) = puts_next (puts_back structs param.1 arg p) (puts_all_back structs ps params args)

-- ---- calls

puts_result_by : (t : Ty) (layer : Ty-F Ty) → AllPut (result_by t layer)
puts_result_by t Ty-F.Void = puts_lift (builds_plain plain.Void)
puts_result_by t _ = puts_type t

pub puts_result : (t : Ty) → AllPut (result_type t)
unfolding result_type
puts_result t = puts_result_by t (out-Ty t)

puts_called_by : (number : ℕ) (t : Ty) (ps : List Passed) → AllPut (called_by number t ps)
puts_called_by number t ps = puts_then (puts_told _ number) (λ f. puts_then (puts_result t) (λ type. puts_giving _ _ type refl))

puts_called_with : (structs : List StructType) (number : ℕ) (params : List (Direction × Ty)) (args : List Ty) (t : Ty) (ps : List Passed) → AllPut (called_with structs number params args t ps)
unfolding called_with
puts_called_with structs number params args t ps = puts_then (puts_called_by number t ps) (λ id. puts_next (puts_all_back structs ps params args) puts_given)

puts_calling : (structs : List StructType) (prototypes : List Prototype) (number : ℕ) (args : List Lower) (t : Ty) → AllByRecursion LowersInner args → AllPut (calling structs prototypes number args t)
puts_calling structs prototypes number args t all =
    puts_then (puts_passing_all structs args (params_of (slice_get prototypes number)) all) (λ ps. puts_called_with structs number (params_of (slice_get prototypes number)) (tys args) t ps)

pub calls_inner : (structs : List StructType) (interfaces : List Interface) (prototypes : List Prototype) → CallsInner (setting_of structs interfaces prototypes)
calls_inner structs interfaces prototypes number args t all = puts_calling structs prototypes number args t all
