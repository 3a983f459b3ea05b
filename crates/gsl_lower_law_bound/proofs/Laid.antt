-- Types that are put for layouts lie by them.
use Rattle.std.proofs.Common.{◌≡◌, refl, sym, ap, ◌∙◌, subst, ℕ, zero, suc, ◌+◌, Bool, true, false, List, [], ◌∷◌, get_or, slice_get, Option, Some, None}
use Rattle.std.specs.Prelude.{drop}
use Rattle.std.specs.List.{Contains}
use Rattle.std.proofs.lemmas.Bool.{false≢true}
use Rattle.gsl_layout.specs.Layout.{Array, Group, Layout, Leaf, Parts, End, Part, Runtime, members_of as parts_of, part_at}
use Rattle.gsl_layout.specs.Measures.{measure, measuring, stride_of}
use Rattle.gsl_types.specs.Known.{AreStructs}
use Rattle.gsl_types.specs.Structs.{Meaning, layer, numbered}
use Rattle.gsl_types.specs.declared.ty.Member.{Member}
use Rattle.gsl_types.specs.declared.ty.Scalar.{Scalar}
use Rattle.gsl_types.proofs.Structs.{numbered_is}
use Rattle.gsl_views.specs.Viewed.{elements}
use Rattle.gsl_types.specs.declared.ty.StructType.{StructType}
use Rattle.gsl_types.specs.declared.ty.Ty.{Ty}
use Rattle.gsl_types.specs.declared.ty.Ty.TheFolds.{fold-roll-Ty}
use Rattle.gsl_types.specs.declared.ty.Ty.TheOpen.{Ty-F}
use Rattle.gsl_types.specs.declared.ty.Ty.TheVariants.{rolls-Struct}
use Rattle.gsl_types.specs.declared.ty.Ty.TheViews.{out-Ty, roll-Ty, roll-out-Ty}
use Rattle.gsl_words.specs.declared.module.Instr.{Instr}
use Rattle.gsl_words.specs.declared.module.Module.{Module}
use Rattle.gsl_owed.specs.Types.{lies}
use Rattle.gsl_sound_code.proofs.Looks.{Kept}
use Rattle.gsl_spv.specs.Calls as call
use Rattle.gsl_spv.specs.Sections.{Sections}
use Rattle.gsl_tree.specs.Laying.{rule_of}
use Rattle.gsl_tree.specs.Shapes.{Shape, shape_of}
use Rattle.gsl_views.specs.Paths.{Leads, here, member, element, open_element}
use Rattle.gsl_lower_values.specs.Building.{◌>>=◌, given, id_by}
use Rattle.gsl_lower_values.specs.Types.{type_of}
use Rattle.gsl_lower_text.specs.Written.{Written}
use Rattle.gsl_lower_places.specs.Reached.{stored_scalar}
use Rattle.gsl_lower_types.specs.Known.{Put, aside}
use Rattle.gsl_lower_types.specs.Laid.{array_by, grouped, member_types, parts_layer, stored_as, strided, struct_by, type_laid, types_in, types_laid}
use Rattle.gsl_lower_types.proofs.Finding.{never}
use Rattle.gsl_lower_law_inputs.proofs.OfLawEntered.{mapped}
use Rattle.gsl_lower_law_members.specs.Parts.{laid_as}
use Rattle.gsl_lower_law_members.proofs.Laid.{shape_laid, struct_member_laid}
use Rattle.gsl_lower_law_bound.proofs.Laying.{PutLays, lays_aside, lays_given, lays_once, lays_so, lays_then}
use Rattle.gsl_lower_law_bound.proofs.Puts.{LieEach, array_lie, array_tells, leaf_tells, runtime_lie, runtime_tells, struct_lie, struct_tells}

-- what is measured of a type
abbrev carrier : {A : Type 0} → Meaning A → Type 0
carrier {A} meaning = A

abbrev Measure : Type 0
Measure = carrier (measuring (λ align. align))

-- ---- layouts

abbrev is_array : Layout → Bool
is_array (Leaf components) = false
is_array (Array stride count inner) = true
is_array (Runtime stride inner) = false
is_array (Group members all) = false

abbrev is_runtime : Layout → Bool
is_runtime (Leaf components) = false
is_runtime (Array stride count inner) = false
is_runtime (Runtime stride inner) = true
is_runtime (Group members all) = false

abbrev is_group : Layout → Bool
is_group (Leaf components) = false
is_group (Array stride count inner) = false
is_group (Runtime stride inner) = false
is_group (Group members all) = true

abbrev components_of : Layout → ℕ
components_of (Leaf components) = components
components_of l = 0

abbrev count_of : Layout → ℕ
count_of (Array stride count inner) = count
count_of l = 0

abbrev inner_of : Layout → Layout
inner_of (Array stride count inner) = inner
inner_of (Runtime stride inner) = inner
inner_of l = l

-- ---- by what stands at the top of a type

module _ (structs : List StructType) (std140 : Bool) where
  abbrev measures : Meaning Measure
  measures = measuring (rule_of std140)

  pub array_is : (e : Ty) (n : ℕ) → laid_as std140 structs (roll-Ty (Ty-F.Array e n)) ≡ Array (stride_of (rule_of std140) (measure (rule_of std140) structs e)) n (laid_as std140 structs e)
  array_is e n = ap (λ (x : Measure). x.laid) (fold-roll-Ty Measure (layer measures (numbered measures structs)) (Ty-F.Array e n))

  pub runtime_is : (e : Ty) → laid_as std140 structs (roll-Ty (Ty-F.Runtime e)) ≡ Runtime (stride_of (rule_of std140) (measure (rule_of std140) structs e)) (laid_as std140 structs e)
  runtime_is e = ap (λ (x : Measure). x.laid) (fold-roll-Ty Measure (layer measures (numbered measures structs)) (Ty-F.Runtime e))

  -- what is no array has no elements
  module _ (offset size : ℕ) where
    pub void_none : elements (laid_as std140 structs (roll-Ty Ty-F.Void)) offset size ≡ 0
    void_none = ap (λ (x : Measure). elements x.laid offset size) (fold-roll-Ty Measure (layer measures (numbered measures structs)) Ty-F.Void)

    pub one_none : (s : Scalar) → elements (laid_as std140 structs (roll-Ty (Ty-F.One s))) offset size ≡ 0
    one_none s = ap (λ (x : Measure). elements x.laid offset size) (fold-roll-Ty Measure (layer measures (numbered measures structs)) (Ty-F.One s))

    pub vector_none : (s : Scalar) (n : ℕ) → elements (laid_as std140 structs (roll-Ty (Ty-F.Vector s n))) offset size ≡ 0
    vector_none s n = ap (λ (x : Measure). elements x.laid offset size) (fold-roll-Ty Measure (layer measures (numbered measures structs)) (Ty-F.Vector s n))

    pub struct_none : (k : ℕ) (struct : StructType) → AreStructs structs → slice_get structs k ≡ Some struct → elements (laid_as std140 structs (roll-Ty (Ty-F.Struct k))) offset size ≡ 0
    struct_none k struct are found =
        ap (λ (x : Measure). elements x.laid offset size) (fold-roll-Ty Measure (layer measures (numbered measures structs)) (Ty-F.Struct k)) ∙ ap (λ (x : Measure). elements x.laid offset size) (numbered_is measures structs k struct found (are k struct found).earlier)

-- ---- a path of one number leads to that member

ends : (size : ℕ) (l part : Layout) (at q : ℕ) (path : List ℕ) → path ≡ [] → Leads size l at path part q → l ≡ part
ends size l part at q path none here = refl
ends size l part at q path none (member {i = i} {path = rest} is_part is_offset leads) = absurd (cc)
ends size l part at q path none (element {i = i} {path = rest} below leads) = absurd (cc)
ends size l part at q path none (open_element {i = i} {path = rest} below leads) = absurd (cc)

is_member : (size : ℕ) (l part : Layout) (at q number : ℕ) (path : List ℕ) (parts : Parts) (all : ℕ) → l ≡ Group parts all → path ≡ number ∷ [] → Leads size l at path part q → part_at parts number ≡ Some part
is_member size l part at q number path parts all is one here = absurd (cc)
is_member size l part at q number path parts all is one (member {members = members} {i = i} {o = o} {m = first} {path = rest} is_part is_offset leads) =
    ap (λ k. part_at parts k) (sym (ap (λ l. get_or l 0 0) one)) ∙ ap (λ ms. part_at ms i) (sym (ap parts_of is)) ∙ is_part ∙ ap Some (ends size first part (at + o) q rest (ap (drop 1) one) leads)
is_member size l part at q number path parts all is one (element below leads) = absurd (false≢true (ap is_group is))
is_member size l part at q number path parts all is one (open_element below leads) = absurd (false≢true (ap is_group is))

module _ (whole : Sections) (m : Module) (held : Kept m) (written : Written m whole) (marks : (i : Instr) → Contains whole.decorations i → Contains m.instrs i) (structs : List StructType) (are : AreStructs structs) (std140 : Bool) where
  abbrev pub Laying : {A : Type 0} → Put A → (A → Type 0) → Type 0
  Laying put P = PutLays m whole structs std140 put P

  abbrev pub Each : Parts → List ℕ → Type 0
  Each parts types = LieEach whole m held written marks parts types

  -- Types are those of the members of a layout.
  abbrev pub AreLaid : Parts → List Ty → Type 0
  AreLaid parts types = (number : ℕ) (t : Ty) → slice_get types number ≡ Some t → part_at parts number ≡ Some (laid_as std140 structs t)

  none_at : (number : ℕ) (t : Ty) → slice_get [] number ≡ Some t → ⊥
  none_at zero t is = cc
  none_at (suc number) t is = cc

  -- ---- runs

  leaf_lays : (n : ℕ) (t : Ty) → laid_as std140 structs t ≡ Leaf n → Laying (type_laid structs (Leaf n) t) (λ id. lies m (Leaf n) id ≡ true)
  leaf_lays n t is = by (shape_of t) refl
    where
      by : (o : Option Shape) → shape_of t ≡ o → Laying (stored_as o) (λ id. lies m (Leaf n) id ≡ true)
      by None of = record { lay = λ known s r after made. never r after made }
      by (Some shape) of =
          let same : shape.1 ≡ n = ap components_of (sym (shape_laid structs 0 std140 t shape of) ∙ is) in
          lays_so m whole structs std140 (lays_aside m whole structs std140 (type_of (stored_scalar shape.0, shape.1)) (leaf_tells whole m held written marks (stored_scalar shape.0) shape.1)) (λ id lie. subst (λ k. lies m (Leaf k) id ≡ true) same lie)

  -- ---- arrays

  array_lays : (stride count : ℕ) (l : Layout) (put : Ty → Put ℕ) → ((e : Ty) → laid_as std140 structs e ≡ l → Laying (put e) (λ id. lies m l id ≡ true)) → (t : Ty) → laid_as std140 structs t ≡ Array stride count l
      → Laying (strided stride put (out-Ty t)) (λ id. lies m (Array stride count l) id ≡ true)
  array_lays stride count l put lays t is = by (out-Ty t) (roll-out-Ty t)
    where
      by : (layer : Ty-F Ty) → roll-Ty layer ≡ t → Laying (strided stride put layer) (λ id. lies m (Array stride count l) id ≡ true)
      by Ty-F.Void e = record { lay = λ known s r after made. never r after made }
      by (Ty-F.One x) e = record { lay = λ known s r after made. never r after made }
      by (Ty-F.Vector x n) e = record { lay = λ known s r after made. never r after made }
      by (Ty-F.Struct k) e = record { lay = λ known s r after made. never r after made }
      by (Ty-F.Array u n) e =
          let same = sym (array_is structs std140 u n) ∙ ap (laid_as std140 structs) e ∙ is in
          let many : n ≡ count = ap count_of same in
          lays_then m whole structs std140 (put u) (λ x. aside (array_by stride x.0 n) x.1) (lays u (ap inner_of same)) (λ id.
          lays_so m whole structs std140 (lays_aside m whole structs std140 (array_by stride id n) (array_tells whole stride id n)) (λ array has lie.
          subst (λ k. lies m (Array stride k l) array ≡ true) many (array_lie whole m held written marks stride id n array l has lie)))
      by (Ty-F.Runtime u) e = absurd (false≢true (ap is_array (sym (runtime_is structs std140 u) ∙ ap (laid_as std140 structs) e ∙ is)))

  runtime_lays : (stride : ℕ) (l : Layout) (put : Ty → Put ℕ) → ((e : Ty) → laid_as std140 structs e ≡ l → Laying (put e) (λ id. lies m l id ≡ true)) → (t : Ty) → laid_as std140 structs t ≡ Runtime stride l
      → Laying (strided stride put (out-Ty t)) (λ id. lies m (Runtime stride l) id ≡ true)
  runtime_lays stride l put lays t is = by (out-Ty t) (roll-out-Ty t)
    where
      by : (layer : Ty-F Ty) → roll-Ty layer ≡ t → Laying (strided stride put layer) (λ id. lies m (Runtime stride l) id ≡ true)
      by Ty-F.Void e = record { lay = λ known s r after made. never r after made }
      by (Ty-F.One x) e = record { lay = λ known s r after made. never r after made }
      by (Ty-F.Vector x n) e = record { lay = λ known s r after made. never r after made }
      by (Ty-F.Struct k) e = record { lay = λ known s r after made. never r after made }
      by (Ty-F.Array u n) e = absurd (false≢true (ap is_runtime (sym (array_is structs std140 u n) ∙ ap (laid_as std140 structs) e ∙ is)))
      by (Ty-F.Runtime u) e =
          let same = sym (runtime_is structs std140 u) ∙ ap (laid_as std140 structs) e ∙ is in
          lays_then m whole structs std140 (put u) (λ x. aside (id_by (call.runtime_type x.0 stride)) x.1) (lays u (ap inner_of same)) (λ id.
          lays_so m whole structs std140 (lays_aside m whole structs std140 (id_by (call.runtime_type id stride)) (runtime_tells whole stride id)) (λ array has lie. runtime_lie whole m held written marks stride id array l has lie))

  -- ---- structs

  pub group_lays : (parts : Parts) (all : ℕ) (put : Put (List ℕ)) → Laying put (Each parts) → Laying (grouped parts put) (λ id. lies m (Group parts all) id ≡ true)
  group_lays parts all put lays =
      lays_then m whole structs std140 put (λ x. aside (struct_by parts x.0) x.1) lays (λ ids.
      lays_so m whole structs std140 (lays_aside m whole structs std140 (struct_by parts ids) (struct_tells whole parts ids)) (λ id has lie. struct_lie whole m held written marks parts all ids id has lie))

  members_laid : (parts : Parts) (all : ℕ) (t : Ty) → laid_as std140 structs t ≡ Group parts all → AreLaid parts (member_types structs t)
  members_laid parts all t is = by (out-Ty t) (roll-out-Ty t)
    where
      in_struct : (k : ℕ) (o : Option StructType) → slice_get structs k ≡ o → roll-Ty (Ty-F.Struct k) ≡ t → AreLaid parts (types_in o)
      in_struct k None found e number u there = absurd (none_at number u there)
      in_struct k (Some struct) found e number u there =
          let x = mapped (λ (one : Member). one.ty) struct.members number u there in
          let leads = struct_member_laid structs 0 std140 0 number t u are (k, struct, x.0, sym e ∙ rolls-Struct k, found, x.1, x.2) in
          is_member 0 (laid_as std140 structs t) (laid_as std140 structs u) 0 leads.0 number (number ∷ []) parts all is refl leads.1

      by : (layer : Ty-F Ty) → roll-Ty layer ≡ t → AreLaid parts (parts_layer structs layer)
      by Ty-F.Void e number u there = absurd (none_at number u there)
      by (Ty-F.One x) e number u there = absurd (none_at number u there)
      by (Ty-F.Vector x n) e number u there = absurd (none_at number u there)
      by (Ty-F.Array v n) e number u there = absurd (none_at number u there)
      by (Ty-F.Runtime v) e number u there = absurd (none_at number u there)
      by (Ty-F.Struct k) e number u there = in_struct k (slice_get structs k) refl e number u there

  -- ---- every type

  mutual
    pub laid_lays : (l : Layout) (t : Ty) → laid_as std140 structs t ≡ l → Laying (type_laid structs l t) (λ id. lies m l id ≡ true)
    laid_lays (Leaf n) t is = leaf_lays n t is
    laid_lays (Array stride count inner) t is =
        lays_once m whole structs std140 t (strided stride (type_laid structs inner) (out-Ty t)) (Array stride count inner) is (array_lays stride count inner (type_laid structs inner) (λ e same. laid_lays inner e same) t is)
    laid_lays (Runtime stride inner) t is =
        lays_once m whole structs std140 t (strided stride (type_laid structs inner) (out-Ty t)) (Runtime stride inner) is (runtime_lays stride inner (type_laid structs inner) (λ e same. laid_lays inner e same) t is)
    laid_lays (Group parts all) t is =
        lays_once m whole structs std140 t (grouped parts (types_laid structs parts (member_types structs t))) (Group parts all) is
        (group_lays parts all (types_laid structs parts (member_types structs t)) (row_lays parts (member_types structs t) (members_laid parts all t is)))

    pub row_lays : (parts : Parts) (types : List Ty) → AreLaid parts types → Laying (types_laid structs parts types) (Each parts)
    row_lays End types are_laid = lays_so m whole structs std140 (lays_given m whole structs std140 []) (λ ids same. subst (Each End) same tt)
    row_lays (Part offset layout rest) [] are_laid = record { lay = λ known s r after made. never r after made }
    row_lays (Part offset layout rest) (t ∷ types) are_laid =
        lays_then m whole structs std140 (type_laid structs layout t) (λ r. types_laid structs rest types r.1 >>= (λ rs. given (r.0 ∷ rs.0, rs.1))) (laid_lays layout t (first_laid layout (laid_as std140 structs t) (are_laid 0 t refl))) (λ id.
        lays_then m whole structs std140 {Q = λ ids. lies m layout id ≡ true → Each (Part offset layout rest) ids} (types_laid structs rest types) (λ rs. given (id ∷ rs.0, rs.1)) (row_lays rest types (λ number u there. are_laid (suc number) u there)) (λ ids.
        lays_so m whole structs std140 (lays_given m whole structs std140 (id ∷ ids)) (λ new same each lie. subst (Each (Part offset layout rest)) same (lie, each))))
      where
        first_laid : (a b : Layout) → Some a ≡ Some b → b ≡ a
        first_laid a b e = cc
