-- The leaves of what stands for a type.
use Rattle.std.proofs.Common.{◌≡◌, ℕ, ◌+◌, ◌<◌, ◌≤◌, false, ◌||◌, List, [], ◌∷◌, ◌++◌, map, Option, Some, None, refl, sym, ap, ◌∙◌, subst, zero, suc, arith}
use Rattle.std.specs.List.{AllByRecursion, flat_map, range_with_len}
use Rattle.gsl_instr.specs.declared.enumerant.decoration.TheConstants as decoration
use Rattle.gsl_types.specs.Known.{AreStructs}
use Rattle.gsl_types.specs.Structs.{layer, members_meaning, numbered}
use Rattle.gsl_types.specs.declared.ty.Member.{Member}
use Rattle.gsl_types.specs.declared.ty.StructType.{StructType}
use Rattle.gsl_types.specs.declared.ty.Ty.{Ty}
use Rattle.gsl_types.specs.declared.ty.Ty.TheFolds.{fold-roll-Ty, map-Ty}
use Rattle.gsl_types.specs.declared.ty.Ty.TheOpen.{Ty-F}
use Rattle.gsl_types.specs.declared.ty.Ty.TheViews.{out-Ty, roll-out-Ty}
use Rattle.gsl_types.proofs.Structs.{numbered_is}
use Rattle.gsl_tree.specs.Shapes.{Shape, shape_kind, shape_of}
use Rattle.gsl_valid.specs.Kinds as kinds
use Rattle.gsl_valid.specs.MemoryRules.{marks}
use Rattle.gsl_valid.specs.OperandRules.{part_within}
use Rattle.gsl_valid.specs.Types.{defined_as}
use Rattle.gsl_words.specs.declared.module.Module.{Module}
use Rattle.gsl_spv.specs.Sections.{Sections}
use Rattle.gsl_lower_leaves.specs.Leaves.{element_leaves, leaf, leaves_meaning, leaves_of, member_leaves, within}
use Rattle.gsl_lower_leaves.specs.declared.leaf.Leaf.{Leaf}
use Rattle.gsl_lower_places.specs.Reading.{number_in}
use Rattle.gsl_lower_places.specs.declared.reached.Part.{Part}
use Rattle.gsl_lower_places.specs.declared.reached.Part.TheVariants.{Fixed}
use Rattle.gsl_lower_holders.specs.declared.place.FlowPlace.{FlowPlace}
use Rattle.gsl_fitting.specs.Fits.{Frame}
use Rattle.gsl_fitting_types.specs.Making.{made}
use Rattle.gsl_fitting_places.specs.Leading.{led, led_by, marked_by}
use Rattle.gsl_fitting_reaching.specs.Reached.{May, Parts, Stands}
use Rattle.gsl_fitting_reads.specs.Moving.{GivesLeaf, HasLeaf}
use Rattle.gsl_fitting_known.specs.Lying.{LieAll, Lies}
use Rattle.gsl_fitting_known.proofs.Types.{some_is}

-- ---- lists

all_append : {A : Type 0} (Q : A → Type 0) (a b : List A) → AllByRecursion Q a → AllByRecursion Q b → AllByRecursion Q (a ++ b)
all_append Q [] b first second = second
all_append Q (x ∷ a) b first second = (first.0, all_append Q a b first.1 second)

all_flat : {A B : Type 0} (Q : B → Type 0) (g : A → List B) (items : List A) → AllByRecursion (λ x. AllByRecursion Q (g x)) items → AllByRecursion Q (flat_map g items)
all_flat Q g [] all = tt
all_flat Q g (x ∷ items) all = all_append Q (g x) (flat_map g items) all.0 (all_flat Q g items all.1)

all_mapped : {A B : Type 0} (Q : A → Type 0) (R : B → Type 0) (g : A → B) (items : List A) → ((a : A) → Q a → R (g a)) → AllByRecursion Q items → AllByRecursion R (map g items)
all_mapped Q R g [] so all = tt
all_mapped Q R g (a ∷ items) so all = (so a all.0, all_mapped Q R g items so all.1)

all_ranged : (Q : ℕ → Type 0) (bound from count : ℕ) → from + count ≤ bound → ((k : ℕ) → k < bound → Q k) → AllByRecursion Q (range_with_len from count)
all_ranged Q bound from zero room each = tt
all_ranged Q bound from (suc count) room each = (each from (omega (arith, room)), all_ranged Q bound (from + 1) count (omega (arith, room)) each)

-- ---- leaves by layers

leaves_layer : (structs : List StructType) (t : Ty) (of : Ty-F Ty) → out-Ty t ≡ of → leaves_of structs t ≡ layer leaves_meaning (numbered leaves_meaning structs) (map-Ty Ty (List Leaf) (leaves_of structs) of)
leaves_layer structs t of is =
    ap (leaves_of structs) (sym (roll-out-Ty t)) ∙ fold-roll-Ty (List Leaf) (layer leaves_meaning (numbered leaves_meaning structs)) (out-Ty t)
    ∙ ap (λ x. layer leaves_meaning (numbered leaves_meaning structs) (map-Ty Ty (List Leaf) (leaves_of structs) x)) is

plain_leaves : (structs : List StructType) (t : Ty) (shape : Shape) → shape_of t ≡ Some shape → leaves_of structs t ≡ leaf shape
plain_leaves structs t shape is = by (out-Ty t) refl is
  where
    by : (of : Ty-F Ty) → out-Ty t ≡ of → shape_kind of ≡ Some shape → leaves_of structs t ≡ leaf shape
    by (Ty-F.One s) e is = leaves_layer structs t (Ty-F.One s) e ∙ ap leaf (some_is (s, 1) shape is)
    by (Ty-F.Vector s n) e is = leaves_layer structs t (Ty-F.Vector s n) e ∙ ap leaf (some_is (s, n) shape is)
    by Ty-F.Void e is = absurd cc
    by (Ty-F.Array a n) e is = absurd cc
    by (Ty-F.Runtime a) e is = absurd cc
    by (Ty-F.Struct k) e is = absurd cc

module _ (whole : Sections) (main : ℕ) (local_size : List ℕ) (rank : ℕ → ℕ) (f : Frame) (place : FlowPlace) (structs : List StructType) (are : AreStructs structs) (home : Option ℕ) (may : May) where
  abbrev L : ℕ → Ty → ℕ → Type 0
  L room t type = Lies whole main local_size rank f place structs home may room t type

  abbrev All : ℕ → ℕ → List Member → ℕ → Type 0
  All room k members type = LieAll whole main local_size rank f place structs home may room k members type

  -- what is so of leaves, from each part to the whole
  module _ (Q : ℕ → ℕ → Leaf → Type 0) (ends : (room type : ℕ) (shape : Shape) → Stands whole main local_size rank f home (Some shape) type → Q type room (record { path = []; shape = shape }))
      (goes : (room type other number : ℕ) (one : Leaf) → Parts whole main local_size rank f home may type (Fixed number) other → Q other room one → Q type (suc room) (within number one)) where
    part_all : (room type other number : ℕ) (leaves : List Leaf) → Parts whole main local_size rank f home may type (Fixed number) other → AllByRecursion (Q other room) leaves → AllByRecursion (Q type (suc room)) (map (within number) leaves)
    part_all room type other number leaves part all = all_mapped (Q other room) (Q type (suc room)) (within number) leaves (λ one is. goes room type other number one part is) all

    mutual
      each_leaf : (room : ℕ) (t : Ty) (type : ℕ) → L room t type → AllByRecursion (Q type room) (leaves_of structs t)
      each_leaf _ _ _ (Lies.plain {room = room} {type = type} {t = t} {shape = shape} is stands) = subst (AllByRecursion (Q type room)) (sym (plain_leaves structs t shape is)) (ends room type shape stands, tt)
      each_leaf _ _ _ (Lies.array {room = room} {type = type} {other = other} {n = n} {t = t} {element = element} is own parts words lies) =
          subst (AllByRecursion (Q type (suc room))) (sym (leaves_layer structs t (Ty-F.Array element n) is))
          (all_flat (Q type (suc room)) (element_leaves (leaves_of structs element)) (range_with_len 0 n)
          (all_ranged (λ number. AllByRecursion (Q type (suc room)) (element_leaves (leaves_of structs element) number)) n 0 n (omega arith)
          (λ number below. part_all room type other number (leaves_of structs element) (parts number below) (each_leaf room element other lies))))
      each_leaf _ _ _ (Lies.runtime {room = room} {type = type} {t = t} {element = element} is parts lies) = subst (AllByRecursion (Q type (suc room))) (sym (leaves_layer structs t (Ty-F.Runtime element) is)) tt
      each_leaf _ _ _ (Lies.struct {room = room} {type = type} {k = k} {t = t} {of = of} is found own lie) =
          subst (AllByRecursion (Q type (suc room))) (sym (leaves_layer structs t (Ty-F.Struct k) is ∙ numbered_is leaves_meaning structs k of found (are k of found).earlier)) (each_member room 0 of.members type lie)

      each_member : (room k : ℕ) (members : List Member) (type : ℕ) → All room k members type → AllByRecursion (Q type (suc room)) (member_leaves k (members_meaning leaves_meaning structs members))
      each_member _ _ _ _ (LieAll.none {room = room} {type = type} {k = k}) = tt
      each_member _ _ _ _ (LieAll.more {room = room} {type = type} {other = other} {k = k} {member = member} {members = members} part lies rest) =
          all_append (Q type (suc room)) (map (within k) (leaves_of structs member.ty)) (member_leaves (k + 1) (members_meaning leaves_meaning structs members)) (part_all room type other k (leaves_of structs member.ty) part (each_leaf room member.ty other lies))
          (each_member room (k + 1) members type rest)

module _ (whole : Sections) (main : ℕ) (local_size : List ℕ) (rank : ℕ → ℕ) (f : Frame) (place : FlowPlace) (structs : List StructType) (are : AreStructs structs) where
  abbrev m : Module
  m = made whole main local_size rank f

  -- ---- in a variable

  no_mark : (kind type number other : ℕ) (path : List Part) → led_by m type (Fixed number) ≡ Some other → marks m kind (Some number) (kinds.shape_of (defined_as m type)) ≡ false → marked_by m kind (Some other) path ≡ false
      → marked_by m kind (Some type) (Fixed number ∷ path) ≡ false
  no_mark kind type number other path leads here rest = ap (λ o. marks m kind (Some number) (kinds.shape_of (defined_as m type)) || marked_by m kind o path) leads ∙ ap (λ b. b || marked_by m kind (Some other) path) here ∙ rest

  leaf_ends : (class : ℕ) (may : May) (room type : ℕ) (shape : Shape) → Stands whole main local_size rank f (Some class) (Some shape) type → HasLeaf whole main local_size rank f class may type room (record { path = []; shape = shape })
  leaf_ends class may room type shape stands = record { part = type; leads = refl; of = stands.1; sized = stands.0; fixed = tt; few = omega arith; readable = λ e. refl; writable = λ e. refl }

  leaf_goes : (class : ℕ) (may : May) (room type other number : ℕ) (one : Leaf) → Parts whole main local_size rank f (Some class) may type (Fixed number) other → HasLeaf whole main local_size rank f class may other room one
      → HasLeaf whole main local_size rank f class may type (suc room) (within number one)
  leaf_goes class may room type other number one part is = record {
    part = is.part;
    leads = ap (λ o. led m o one.path) part.0 ∙ is.leads;
    of = is.of;
    sized = is.sized;
    fixed = (tt, is.fixed);
    few = let few = is.few in omega (arith, few);
    readable = λ e. no_mark decoration.NON_READABLE type number other one.path part.0 (part.1 e) (is.readable e);
    writable = λ e. no_mark decoration.NON_WRITABLE type number other one.path part.0 (part.2 e) (is.writable e);
  }

  pub leaves_there : (class : ℕ) (may : May) (room : ℕ) (t : Ty) (type : ℕ) → Lies whole main local_size rank f place structs (Some class) may room t type → AllByRecursion (HasLeaf whole main local_size rank f class may type room) (leaves_of structs t)
  leaves_there class may room t type lies =
      each_leaf whole main local_size rank f place structs are (Some class) may (λ type room one. HasLeaf whole main local_size rank f class may type room one) (leaf_ends class may) (leaf_goes class may) room t type lies

  -- ---- in a value

  given_ends : (room type : ℕ) (shape : Shape) → Stands whole main local_size rank f None (Some shape) type → GivesLeaf whole main local_size rank f type room (record { path = []; shape = shape })
  given_ends room type shape stands = record { part = type; within = refl; of = stands.1; sized = stands.0; few = omega arith }

  given_goes : (may : May) (room type other number : ℕ) (one : Leaf) → Parts whole main local_size rank f None may type (Fixed number) other → GivesLeaf whole main local_size rank f other room one → GivesLeaf whole main local_size rank f type (suc room) (within number one)
  given_goes may room type other number one part is = record {
    part = is.part;
    within = ap (λ o. part_within m o (map number_in one.path)) part ∙ is.within;
    of = is.of;
    sized = is.sized;
    few = let few = is.few in omega (arith, few);
  }

  pub leaves_given : (may : May) (room : ℕ) (t : Ty) (type : ℕ) → Lies whole main local_size rank f place structs None may room t type → AllByRecursion (GivesLeaf whole main local_size rank f type room) (leaves_of structs t)
  leaves_given may room t type lies =
      each_leaf whole main local_size rank f place structs are None may (λ type room one. GivesLeaf whole main local_size rank f type room one) given_ends (given_goes may) room t type lies

  -- ---- by the room that another place has

  pub leaves_fewer : (class other_class : ℕ) (may other : May) (room less type other_type : ℕ) (leaves : List Leaf) → AllByRecursion (HasLeaf whole main local_size rank f class may type room) leaves → AllByRecursion (HasLeaf whole main local_size rank f other_class other other_type less) leaves
      → AllByRecursion (HasLeaf whole main local_size rank f class may type less) leaves
  leaves_fewer class other_class may other room less type other_type [] all others = tt
  leaves_fewer class other_class may other room less type other_type (one ∷ leaves) all others = (
    record { part = all.0.part; leads = all.0.leads; of = all.0.of; sized = all.0.sized; fixed = all.0.fixed; few = others.0.few; readable = all.0.readable; writable = all.0.writable },
    leaves_fewer class other_class may other room less type other_type leaves all.1 others.1,
  )

  pub given_fewer : (other_class : ℕ) (other : May) (room less type other_type : ℕ) (leaves : List Leaf) → AllByRecursion (GivesLeaf whole main local_size rank f type room) leaves → AllByRecursion (HasLeaf whole main local_size rank f other_class other other_type less) leaves
      → AllByRecursion (GivesLeaf whole main local_size rank f type less) leaves
  given_fewer other_class other room less type other_type [] all others = tt
  given_fewer other_class other room less type other_type (one ∷ leaves) all others =
      (record { part = all.0.part; within = all.0.within; of = all.0.of; sized = all.0.sized; few = others.0.few }, given_fewer other_class other room less type other_type leaves all.1 others.1)
