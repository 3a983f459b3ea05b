-- Where what lies in a block stands, by its decorations.
use Rattle.std.proofs.Common.{◌≡◌, refl, sym, ap, subst, ◌∙◌, ℕ, zero, suc, ◌+◌, List, [], ◌∷◌, ◌++◌, Some, None, Bool, true, false, arith, append_assoc, append-nil}
use Rattle.std.specs.Prelude.{if◌then◌else◌, nat_le}
use Rattle.std.specs.List.{Contains}
use Rattle.std.proofs.lemmas.Bool.{true≢false}
use Rattle.std.proofs.lemmas.List.Elements.{Contains-append_right}
use Rattle.std.proofs.lemmas.Option.{none-some}
use Rattle.gsl_instr.specs.declared.enumerant.decoration.TheConstants as decoration
use Rattle.gsl_layout.specs.Layout.{Leaf, Parts, End, Part, offset_at}
use Rattle.gsl_layout.proofs.Order.{number_or}
use Rattle.gsl_words.specs.declared.module.Instr.{Instr}
use Rattle.gsl_spv.specs.Calls as call
use Rattle.gsl_spv.specs.Calls.{Out, decorating}
use Rattle.gsl_spv.specs.Declarations as d
use Rattle.gsl_spv.specs.Sections.{Sections}
use Rattle.gsl_spv.specs.declared.refusal.TheConstants.{MOST_IDS}
use Rattle.gsl_types.specs.declared.ty.Scalar.TheVariants.{Bool as Boolean, Uint}
use Rattle.gsl_types.specs.declared.ty.StructType.{StructType}
use Rattle.gsl_types.specs.declared.ty.Ty.TheVariants as ty
use Rattle.gsl_types.specs.declared.ty.Ty.TheVariants.{outs-One}
use Rattle.gsl_tree.specs.Around.{stage_var_type}
use Rattle.gsl_tree.specs.Shapes.{of_shape, shape_kind}
use Rattle.gsl_tree.specs.declared.expr.StageVar.{StageVar}
use Rattle.gsl_tree.specs.declared.expr.StageVar.TheVariants.{NumWorkGroups, WorkGroupId, LocalInvocationId, GlobalInvocationId, LocalInvocationIndex, VertexIndex, InstanceIndex}
use Rattle.gsl_lower_values.specs.Building.{Built, Made, Full, Step, behind, given, ◌>>=◌, id_by}
use Rattle.gsl_lower_values.specs.Types.{scalar_constant}
use Rattle.gsl_lower_types.specs.Interfaces.{stage_shape}
use Rattle.gsl_lower_types.specs.Known.{Known}
use Rattle.gsl_lower_types.specs.Laid.{array_by, offsets, stored_as, struct_by, type_laid}

-- ---- what is made

abbrev is_made : Built ℕ → Bool
is_made (Made a s) = true
is_made Full = false

abbrev id_in : Built ℕ → ℕ
id_in (Made a s) = a
id_in Full = 0

abbrev after_in : Sections → Built ℕ → Sections
after_in s (Made a t) = t
after_in s Full = s

never_made : {A : Type 0} (id : ℕ) (after : Sections) → Full ≡ Made id after → A
never_made id after is = let never : ⊥ = true≢false (sym (ap is_made is)) in elim never [ ]

made_by : (b : Bool) (o : Out) (next : ℕ → Step ℕ) (id : ℕ) (after : Sections) → behind (if b then Made o.id o.sections else Full) next ≡ Made id after → next o.id o.sections ≡ Made id after
made_by true o next id after is = is
made_by false o next id after is = never_made id after is

only_made : (b : Bool) (o : Out) (id : ℕ) (after : Sections) → (if b then Made o.id o.sections else Full) ≡ Made id after → Made o.id o.sections ≡ Made id after
only_made true o id after is = is
only_made false o id after is = never_made id after is

first_in : (x : Instr) (xs : List Instr) → Contains (x ∷ xs) x
first_in x xs = (0, omega arith, refl)

-- ---- offsets

abbrev rows : ℕ → ℕ → Parts → List Instr
rows id number End = []
rows id number (Part offset layout rest) = decorating id (Some number) decoration.OFFSET (Some offset) ∷ rows id (number + 1) rest

abbrev with_rows : List Instr → Sections → Sections
with_rows more s = record s { decorations = s.decorations ++ more }

offsets_are : (parts : Parts) (id number : ℕ) (s : Sections) → offsets id number parts s ≡ Made tt (with_rows (rows id number parts) s)
unfolding offsets
offsets_are End id number s = ap (λ l. Made tt (record s { decorations = l })) (sym (append-nil s.decorations))
offsets_are (Part offset layout rest) id number s =
    offsets_are rest id (number + 1) (call.decorate id (Some number) decoration.OFFSET (Some offset) s)
    ∙ ap (λ l. Made tt (record s { decorations = l })) (append_assoc s.decorations (decorating id (Some number) decoration.OFFSET (Some offset) ∷ []) (rows id (number + 1) rest))

row_at : (parts : Parts) (id number i o : ℕ) → offset_at parts i ≡ Some o → Contains (rows id number parts) (decorating id (Some (number + i)) decoration.OFFSET (Some o))
row_at End id number i o is = let never : ⊥ = none-some _ is in elim never [ ]
row_at (Part offset layout rest) id number zero o is =
    subst (λ n. Contains (rows id number (Part offset layout rest)) (decorating id (Some n) decoration.OFFSET (Some o))) (let e : number ≡ number + 0 = omega arith in e)
    (subst (λ x. Contains (rows id number (Part offset layout rest)) (decorating id (Some number) decoration.OFFSET (Some x))) (ap (number_or o) is)
    (first_in (decorating id (Some number) decoration.OFFSET (Some offset)) (rows id (number + 1) rest)))
row_at (Part offset layout rest) id number (suc i) o is =
    subst (λ n. Contains (rows id number (Part offset layout rest)) (decorating id (Some n) decoration.OFFSET (Some o))) (let e : number + 1 + i ≡ number + suc i = omega arith in e)
    (Contains-append_right (decorating id (Some number) decoration.OFFSET (Some offset) ∷ []) (rows id (number + 1) rest) _ (row_at rest id (number + 1) i o is))

abbrev then_id : Parts → ℕ → Step ℕ
then_id parts id = offsets id 0 parts >>= (λ done. given id)

pub members_stand : (parts : Parts) (members : List ℕ) (i o id : ℕ) (before after : Sections) → offset_at parts i ≡ Some o → struct_by parts members before ≡ Made id after
    → Contains after.decorations (decorating id (Some i) decoration.OFFSET (Some o))
members_stand parts members i o id before after at_i is =
    let new = call.struct_type members before in
    let told : then_id parts new.id new.sections ≡ Made id after = made_by (nat_le new.sections.last MOST_IDS) new (then_id parts) id after is in
    let made : Made new.id (with_rows (rows new.id 0 parts) new.sections) ≡ Made id after = sym (ap (λ r. behind r (λ done. given new.id)) (offsets_are parts new.id 0 new.sections)) ∙ told in
    subst (λ n. Contains after.decorations (decorating n (Some i) decoration.OFFSET (Some o))) (ap id_in made)
    (subst (λ (s : Sections). Contains s.decorations (decorating new.id (Some i) decoration.OFFSET (Some o))) (ap (after_in before) made)
    (Contains-append_right new.sections.decorations (rows new.id 0 parts) (decorating new.id (Some i) decoration.OFFSET (Some o))
    (subst (λ n. Contains (rows new.id 0 parts) (decorating new.id (Some n) decoration.OFFSET (Some o))) (let e : 0 + i ≡ i = omega arith in e) (row_at parts new.id 0 i o at_i))))

-- ---- strides

strided_out : (stride : ℕ) (declared : Out) (id : ℕ) (before after : Sections) → Made declared.id (call.decorate declared.id None decoration.ARRAY_STRIDE (Some stride) declared.sections) ≡ Made id after
    → Contains after.decorations (decorating id None decoration.ARRAY_STRIDE (Some stride))
strided_out stride declared id before after made =
    subst (λ n. Contains after.decorations (decorating n None decoration.ARRAY_STRIDE (Some stride))) (ap id_in made)
    (subst (λ (s : Sections). Contains s.decorations (decorating declared.id None decoration.ARRAY_STRIDE (Some stride))) (ap (after_in before) made)
    (Contains-append_right declared.sections.decorations _ _ (first_in (decorating declared.id None decoration.ARRAY_STRIDE (Some stride)) [])))

array_has : (stride element id : ℕ) (after : Sections) (r : Built ℕ) → behind r (λ length. id_by (call.array_type element length (Some stride))) ≡ Made id after
    → Contains after.decorations (decorating id None decoration.ARRAY_STRIDE (Some stride))
array_has stride element id after Full is = never_made id after is
array_has stride element id after (Made length s) is =
    let new = call.array_type element length (Some stride) s in
    strided_out stride (call.array_type element length None s) id s after (only_made (nat_le new.sections.last MOST_IDS) new id after is)

pub arrays_stride : (stride element count id : ℕ) (before after : Sections) → array_by stride element count before ≡ Made id after → Contains after.decorations (decorating id None decoration.ARRAY_STRIDE (Some stride))
arrays_stride stride element count id before after is = array_has stride element id after (scalar_constant Uint count before) is

pub runtimes_stride : (stride element id : ℕ) (before after : Sections) → id_by (call.runtime_type element stride) before ≡ Made id after → Contains after.decorations (decorating id None decoration.ARRAY_STRIDE (Some stride))
runtimes_stride stride element id before after is =
    let new = call.runtime_type element stride before in
    strided_out stride (call.declare (d.runtime_type element) before) id before after (only_made (nat_le new.sections.last MOST_IDS) new id after is)

-- ---- types

pub truths_lie : (structs : List StructType) (components : ℕ) (known : Known) (s : Sections) → type_laid structs (Leaf components) (ty.One Boolean) known s ≡ type_laid structs (Leaf components) (ty.One Uint) known s
truths_lie structs components known s = ap (λ o. stored_as o known s) (ap shape_kind (outs-One Boolean)) ∙ sym (ap (λ o. stored_as o known s) (ap shape_kind (outs-One Uint)))

pub stage_types : (var : StageVar) → of_shape (stage_shape var) ≡ stage_var_type var
stage_types NumWorkGroups = refl
stage_types WorkGroupId = refl
stage_types LocalInvocationId = refl
stage_types GlobalInvocationId = refl
stage_types LocalInvocationIndex = refl
stage_types VertexIndex = refl
stage_types InstanceIndex = refl
