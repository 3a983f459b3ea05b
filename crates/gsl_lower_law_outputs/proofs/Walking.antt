-- What relates what a builder holds before the types, blocks and global variables of a program to what it holds behind them, where each of its calls does.
use Rattle.std.proofs.Common.{◌≡◌, refl, sym, ap, subst, ◌∙◌, ℕ, ◌+◌, Bool, true, false, List, [], ◌∷◌, map, Option, Some, None}
use Rattle.std.specs.Prelude.{if◌then◌else◌, nat_le, ◌==◌}
use Rattle.gsl_instr.specs.declared.enumerant.decoration.TheConstants as decoration
use Rattle.gsl_instr.specs.declared.enumerant.storage_class.TheConstants as storage_class
use Rattle.gsl_layout.specs.Layout.{Layout, Leaf, Array, Runtime, Group, Parts, End, Part, members_of}
use Rattle.gsl_types.specs.declared.ty.Scalar.{Scalar}
use Rattle.gsl_types.specs.declared.ty.Scalar.TheVariants.{Bool as Boolean, Int, Uint}
use Rattle.gsl_types.specs.declared.ty.StructType.{StructType}
use Rattle.gsl_types.specs.declared.ty.Ty.{Ty}
use Rattle.gsl_types.specs.declared.ty.Member.{Member}
use Rattle.gsl_types.specs.declared.ty.Ty.TheFolds.{ind-Ty, map-Ty}
use Rattle.gsl_types.specs.declared.ty.Ty.TheOpen.{Ty-F}
use Rattle.gsl_types.specs.declared.ty.Ty.TheViews.{out-Ty, roll-Ty}
use Rattle.gsl_types.specs.declared.ty.Ty.TheVariants as ty
use Rattle.gsl_types.specs.declared.ty.Ty.TheVariants.{rolls-Array, rolls-Runtime, rolls-Struct, rolls-Vector, rolls-One, rolls-Void}
use Rattle.gsl_tree.specs.Shapes.{Shape, shape_of}
use Rattle.gsl_words.specs.declared.target.Target.{Target}
use Rattle.gsl_lower_law_inner.specs.Inner.{is_inner}
use Rattle.gsl_tree.specs.Laying.{layout_of}
use Rattle.gsl_tree.specs.declared.unit.Block.{Block}
use Rattle.gsl_tree.specs.declared.unit.BlockKind.{BlockKind}
use Rattle.gsl_tree.specs.declared.unit.BlockKind.TheVariants.{Uniform, Buffer, Push}
use Rattle.gsl_tree.specs.declared.unit.BlockMember.{BlockMember}
use Rattle.gsl_tree.specs.declared.program.Program.{Program}
use Rattle.gsl_spv.specs.Calls as call
use Rattle.gsl_spv.specs.Calls.{Out, declare, intern}
use Rattle.gsl_spv.specs.Declarations as d
use Rattle.gsl_spv.specs.Declarations.{Declaration}
use Rattle.gsl_spv.specs.Sections.{Sections}
use Rattle.gsl_spv.specs.declared.refusal.TheConstants.{MOST_IDS}
use Rattle.gsl_lower_values.specs.Building.{Built, Made, Full, Step, ◌>>=◌, given, id_by}
use Rattle.gsl_spv.specs.declared.plain.PlainType.TheVariants as plain
use Rattle.gsl_spv.specs.declared.plain.PlainConst.TheVariants as of
use Rattle.gsl_lower_values.specs.Types.{composed, plain_scalar, truth_of, scalar_constant, scalar_type, type_of, vector_type}
use Rattle.gsl_lower_places.specs.Reached.{stored_scalar}
use Rattle.gsl_lower_places.specs.Reading.{pointer_type}
use Rattle.gsl_lower_holders.specs.Flow.{find_type}
use Rattle.gsl_lower_types.specs.Blocks.{block_by, block_in, block_laid, block_marked, block_put, blocks_put, bound_by, by_rule, class_of, mark_of, marked, member_marked, member_types_of, members_marked, with_std140, with_std430}
use Rattle.gsl_lower_types.specs.Declaring.{decorated, named, variable_in}
use Rattle.gsl_lower_types.specs.Known.{Known, Put, all, aside, each, id_or_lacking, id_or_put, known_type, lacking, once, only, with_type}
use Rattle.gsl_lower_types.specs.Laid.{array_by, grouped, member_types, offsets, stored_as, strided, struct_by, type_laid, types_laid}
use Rattle.gsl_values.specs.declared.value.Value.{Value}
use Rattle.gsl_values.specs.declared.value.Value.TheFolds.{fold-roll-Value, ind-Value, map-Value}
use Rattle.gsl_values.specs.declared.value.Value.TheOpen.{Value-F}
use Rattle.gsl_values.specs.declared.value.Value.TheViews.{roll-Value}
use Rattle.gsl_tree.specs.declared.unit.GlobalVar.{GlobalVar}
use Rattle.gsl_spv.specs.declared.plain.PlainConst.{PlainConst}
use Rattle.gsl_spv.specs.declared.plain.PlainType.{PlainType}
use Rattle.gsl_lower_types.specs.Globals.{beginning, composed_as, constant_layer, constant_of, global_put, globals_put, of_type, part_type, parts_put, word_of}
use Rattle.gsl_lower_types.specs.Values.{array_of, arrayed, block_member_type, block_types, function_types, global_type, local_type, member_type, parameter_type, program_types, prototype_types, struct_of, struct_type, struct_types, value_type}
use Rattle.gsl_lower_types.specs.declared.blocks.LaidTypes.{LaidTypes}
use Rattle.gsl_lower_types.proofs.Steps.{value-Array, value-One, value-Runtime, value-Struct, value-Vector, value-Void}
use Rattle.gsl_lower_types.proofs.Finding.{came, never}

-- Each call of a builder relates the sections before it to those behind it, but for one that declares a variable whose class passes the test.
pub record Walks (test : ℕ → Bool) (R : Sections → Sections → Type 0) : Type 0 where
  pub same : (s : Sections) → R s s
  pub then_ : {r s t : Sections} → R r s → R s t → R r t
  pub takes : (s : Sections) → R s (call.take s).sections
  pub interns : (decl : Declaration) → is_inner decl.op ≡ true → (s : Sections) → R s (intern decl s).sections
  pub declares : (decl : Declaration) → is_inner decl.op ≡ true → (s : Sections) → R s (declare decl s).sections
  pub variable : (pointer class : ℕ) (init : Option ℕ) → test class ≡ false → (s : Sections) → R s (declare (d.variable pointer class init) s).sections
  pub decorates : (id : ℕ) (member : Option ℕ) (what : ℕ) (literal : Option ℕ) (s : Sections) → R s (call.decorate id member what literal s)
  pub names : (id : ℕ) (member : Option ℕ) (text : List ℕ) (s : Sections) → R s (call.name id member text s)

module _ (test : ℕ → Bool) (R : Sections → Sections → Type 0) (walks : Walks test R) where
  abbrev pub Along : {A : Type 0} → Step A → Type 0
  Along {A} step = (s : Sections) (a : A) (after : Sections) → step s ≡ Made a after → R s after

  abbrev after_of : {A : Type 0} → Sections → Built A → Sections
  after_of s (Made a t) = t
  after_of s Full = s

  pub then_ : {A B : Type 0} (f : Step A) (g : A → Step B) → Along f → ((a : A) → Along (g a)) → Along (f >>= g)
  then_ f g p q s b after made = let x = came (f s) g b after made in walks.then_ (p s x.first x.between x.made) (q x.first x.between b after x.then_)

  moved : {A : Type 0} (a b : A) (s t after : Sections) → R s t → Made a t ≡ Made b after → R s after
  moved a b s t after related made = subst (R s) (ap (after_of t) made) related

  pub gives : {A : Type 0} (a : A) → Along (given a)
  gives a s b after made = moved a b s s after (walks.same s) made

  fails : {A : Type 0} → Along {A = A} lacking
  fails s a after made = never a after made

  -- ---- calls

  pub plain_type : (ty : PlainType) (s : Sections) → R s (intern (d.plain_type ty) s).sections
  plain_type plain.Void s = walks.interns (d.plain_type plain.Void) refl s
  plain_type plain.Bool s = walks.interns (d.plain_type plain.Bool) refl s
  plain_type (plain.Int signed) s = walks.interns (d.plain_type (plain.Int signed)) refl s
  plain_type (plain.Vector component count) s = walks.interns (d.plain_type (plain.Vector component count)) refl s
  plain_type (plain.Pointer class pointee) s = walks.interns (d.plain_type (plain.Pointer class pointee)) refl s

  by_test : (b : Bool) (o : Out) (s : Sections) (id : ℕ) (after : Sections) → R s o.sections → (if b then Made o.id o.sections else Full) ≡ Made id after → R s after
  by_test true o s id after related made = moved o.id id s o.sections after related made
  by_test false o s id after related made = never id after made

  pub asks : (ask : Sections → Out) → ((s : Sections) → R s (ask s).sections) → Along (id_by ask)
  asks ask related s id after made = by_test (nat_le (ask s).sections.last MOST_IDS) (ask s) s id after (related s) made

  either : {A : Type 0} (b : Bool) (f g : Step A) → Along f → Along g → Along (if b then f else g)
  either true f g p q = p
  either false f g p q = q

  scalar_adds : (x : Scalar) → Along (scalar_type x)
  unfolding scalar_type
  scalar_adds x = asks (call.plain_type (plain_scalar x)) (λ s. plain_type (plain_scalar x) s)

  pub type_adds : (shape : Shape) → Along (type_of shape)
  unfolding type_of
  type_adds shape = then_ (scalar_type shape.0) _ (scalar_adds shape.0) (λ component. either (shape.1 == 1) (given component) (vector_type shape.1 component) (gives component) (asks (call.plain_type (plain.Vector component shape.1)) (λ s. plain_type (plain.Vector component shape.1) s)))

  length_adds : (n : ℕ) → Along (scalar_constant Uint n)
  unfolding scalar_constant
  length_adds n = then_ (scalar_type Uint) _ (scalar_adds Uint) (λ type. asks (call.constant (of.Word type n)) (λ s. walks.interns (d.word type n) refl s))

  pub decorated_adds : (id : ℕ) (member : Option ℕ) (what : ℕ) (literal : Option ℕ) → Along (decorated id member what literal)
  decorated_adds id member what literal s a after made = moved tt a s _ after (walks.decorates id member what literal s) made

  named_adds : (id : ℕ) (member : Option ℕ) (text : List ℕ) → Along (named id member text)
  named_adds id member text s a after made = moved tt a s _ after (walks.names id member text s) made

  pub variable_adds : (class type : ℕ) (init : Option ℕ) → test class ≡ false → Along (variable_in class type init)
  variable_adds class type init other = then_ (pointer_type class type) _ (asks (call.plain_type (plain.Pointer class type)) (λ s. plain_type (plain.Pointer class type) s)) (λ pointer. asks (call.global pointer class init) (λ s. walks.variable pointer class init other s))

  -- ---- types of blocks

  aside_adds : {A : Type 0} (step : Step A) (known : Known) → Along step → Along (aside step known)
  aside_adds step known p = then_ step _ p (λ a. gives (a, known))

  strided_grows : (stride : ℕ) (decl : Declaration) (s : Sections) → is_inner decl.op ≡ true → R s (call.decorate (declare decl s).id None decoration.ARRAY_STRIDE (Some stride) (declare decl s).sections)
  strided_grows stride decl s other = walks.then_ (walks.declares decl other s) (walks.decorates (declare decl s).id None decoration.ARRAY_STRIDE (Some stride) (declare decl s).sections)

  array_adds : (stride element count : ℕ) → Along (array_by stride element count)
  array_adds stride element count =
      then_ (scalar_constant Uint count) _ (length_adds count) (λ length. asks (call.array_type element length (Some stride)) (λ s. strided_grows stride (d.array_type element length) s refl))

  runtime_adds : (stride element : ℕ) → Along (id_by (call.runtime_type element stride))
  runtime_adds stride element = asks (call.runtime_type element stride) (λ s. strided_grows stride (d.runtime_type element) s refl)

  offsets_add : (parts : Parts) (id n : ℕ) → Along (offsets id n parts)
  unfolding offsets
  offsets_add End id n = gives tt
  offsets_add (Part offset layout rest) id n = then_ (decorated id (Some n) decoration.OFFSET (Some offset)) _ (decorated_adds id (Some n) decoration.OFFSET (Some offset)) (λ done. offsets_add rest id (n + 1))

  struct_adds : (parts : Parts) (members : List ℕ) → Along (struct_by parts members)
  struct_adds parts members = then_ (id_by (call.struct_type members)) _ (asks (call.struct_type members) (λ s. walks.declares (d.struct_type members) refl s)) (λ id. then_ (offsets id 0 parts) _ (offsets_add parts id 0) (λ done. gives id))

  stored_adds : (o : Option Shape) (known : Known) → Along (stored_as o known)
  stored_adds None known = fails
  stored_adds (Some shape) known = aside_adds (type_of (stored_scalar shape.0, shape.1)) known (type_adds (stored_scalar shape.0, shape.1))

  abbrev PutAlong : {A : Type 0} → Put A → Type 0
  PutAlong {A} put = (known : Known) → Along (put known)

  or_put : (o : Option ℕ) (t : Ty) (put : Put ℕ) → PutAlong put → PutAlong (id_or_put o t put)
  or_put None t put p known = then_ (put known) _ (p known) (λ r. gives (r.0, with_type t r.0 r.1))
  or_put (Some id) t put p known = gives (id, known)

  strided_adds : (stride : ℕ) (put : Ty → Put ℕ) → ((t : Ty) → PutAlong (put t)) → (y : Ty-F Ty) → PutAlong (strided stride put y)
  strided_adds stride put p Ty-F.Void known = fails
  strided_adds stride put p (Ty-F.One x) known = fails
  strided_adds stride put p (Ty-F.Vector x n) known = fails
  strided_adds stride put p (Ty-F.Array t n) known = then_ (put t known) _ (p t known) (λ e. aside_adds (array_by stride e.0 n) e.1 (array_adds stride e.0 n))
  strided_adds stride put p (Ty-F.Runtime t) known = then_ (put t known) _ (p t known) (λ e. aside_adds (id_by (call.runtime_type e.0 stride)) e.1 (runtime_adds stride e.0))
  strided_adds stride put p (Ty-F.Struct k) known = fails

  grouped_adds : (parts : Parts) (put : Put (List ℕ)) → PutAlong put → PutAlong (grouped parts put)
  grouped_adds parts put p known = then_ (put known) _ (p known) (λ r. aside_adds (struct_by parts r.0) r.1 (struct_adds parts r.0))

  mutual
    pub laid_adds : (structs : List StructType) (l : Layout) (t : Ty) → PutAlong (type_laid structs l t)
    laid_adds structs (Leaf n) t known = stored_adds (shape_of t) known
    laid_adds structs (Array stride count element) t known =
        or_put (find_type t known) t (strided stride (type_laid structs element) (out-Ty t)) (strided_adds stride (type_laid structs element) (laid_adds structs element) (out-Ty t)) known
    laid_adds structs (Runtime stride element) t known =
        or_put (find_type t known) t (strided stride (type_laid structs element) (out-Ty t)) (strided_adds stride (type_laid structs element) (laid_adds structs element) (out-Ty t)) known
    laid_adds structs (Group members all) t known =
        or_put (find_type t known) t (grouped members (types_laid structs members (member_types structs t))) (grouped_adds members (types_laid structs members (member_types structs t)) (row_adds structs members (member_types structs t))) known

    pub row_adds : (structs : List StructType) (parts : Parts) (types : List Ty) → PutAlong (types_laid structs parts types)
    row_adds structs End types known = gives ([], known)
    row_adds structs (Part offset layout rest) [] known = fails
    row_adds structs (Part offset layout rest) (t ∷ types) known =
        then_ (type_laid structs layout t known) _ (laid_adds structs layout t known) (λ r. then_ (types_laid structs rest types r.1) _ (row_adds structs rest types r.1) (λ rs. gives (r.0 ∷ rs.0, rs.1)))

  -- ---- blocks

  marked_adds : (id n what : ℕ) (word : Bool) → Along (marked id n what word)
  marked_adds id n what word = either word (decorated id (Some n) what None) (given tt) (decorated_adds id (Some n) what None) (gives tt)

  member_adds : (id n : ℕ) (m : BlockMember) → Along (member_marked id n m)
  unfolding member_marked
  member_adds id n m =
      then_ (marked id n decoration.NON_WRITABLE m.readonly) _ (marked_adds id n decoration.NON_WRITABLE m.readonly) (λ a. then_ (marked id n decoration.NON_READABLE m.writeonly) _ (marked_adds id n decoration.NON_READABLE m.writeonly) (λ b.
      then_ (marked id n decoration.COHERENT m.coherent) _ (marked_adds id n decoration.COHERENT m.coherent) (λ c. then_ (marked id n decoration.VOLATILE m.volatile) _ (marked_adds id n decoration.VOLATILE m.volatile) (λ e.
      named_adds id (Some n) m.name))))

  members_add : (members : List BlockMember) (id n : ℕ) → Along (members_marked id n members)
  unfolding members_marked
  members_add [] id n = gives tt
  members_add (m ∷ members) id n = then_ (member_marked id n m) _ (member_adds id n m) (λ done. members_add members id (n + 1))

  pub bound_adds : (kind : BlockKind) (set binding id : ℕ) → Along (bound_by kind set binding id)
  bound_adds Push set binding id = gives tt
  bound_adds Uniform set binding id = then_ (decorated id None decoration.DESCRIPTOR_SET (Some set)) _ (decorated_adds id None decoration.DESCRIPTOR_SET (Some set)) (λ done. decorated_adds id None decoration.BINDING (Some binding))
  bound_adds Buffer set binding id = then_ (decorated id None decoration.DESCRIPTOR_SET (Some set)) _ (decorated_adds id None decoration.DESCRIPTOR_SET (Some set)) (λ done. decorated_adds id None decoration.BINDING (Some binding))

  pub marks_add : (target : Target) (block : Block) (struct : ℕ) → Along (block_marked target block struct)
  marks_add target block struct =
      then_ (decorated struct None (mark_of target block.kind) None) _ (decorated_adds struct None (mark_of target block.kind) None) (λ a. then_ (named struct None block.name) _ (named_adds struct None block.name) (λ b. members_add block.members struct 0))

  block_by_adds : (target : Target) (block : Block) (struct : ℕ) → test (class_of target block.kind) ≡ false → Along (block_by target block struct)
  block_by_adds target block struct other =
      then_ (block_marked target block struct) _ (marks_add target block struct)
      (λ done. then_ (variable_in (class_of target block.kind) struct None) _ (variable_adds (class_of target block.kind) struct None other) (λ id. then_ (bound_by block.kind block.set block.binding id) _ (bound_adds block.kind block.set block.binding id) (λ e. gives id)))

  pub struct_laid_adds : (structs : List StructType) (block : Block) → PutAlong (block_laid structs (layout_of structs block) block)
  struct_laid_adds structs block = grouped_adds (members_of (layout_of structs block)) (types_laid structs (members_of (layout_of structs block)) (member_types_of block.members)) (row_adds structs (members_of (layout_of structs block)) (member_types_of block.members))

  block_adds : (target : Target) (structs : List StructType) (block : Block) → test (class_of target block.kind) ≡ false → PutAlong (block_put target structs block)
  unfolding block_put
  block_adds target structs block other known =
      then_ (block_laid structs (layout_of structs block) block known) _ (struct_laid_adds structs block known)
      (λ r. aside_adds (block_by target block r.0) r.1 (block_by_adds target block r.0 other))

  rule_adds : (b : Bool) (put : Known → Step (ℕ × Known)) → PutAlong put → (laid : LaidTypes) → Along (by_rule b put laid)
  rule_adds true put p laid = then_ (put laid.std140) (with_std140 laid) (p laid.std140) (λ r. gives (r.0, record laid { std140 = r.1 }))
  rule_adds false put p laid = then_ (put laid.std430) (with_std430 laid) (p laid.std430) (λ r. gives (r.0, record laid { std430 = r.1 }))

  pub blocks_add : (target : Target) (structs : List StructType) (blocks : List Block) → ((kind : BlockKind) → test (class_of target kind) ≡ false) → (laid : LaidTypes) → Along (blocks_put target structs blocks laid)
  unfolding blocks_put block_in
  blocks_add target structs [] other laid = gives ([], laid)
  blocks_add target structs (block ∷ blocks) other laid =
      then_ (by_rule block.std140 (block_put target structs block) laid) _ (rule_adds block.std140 (block_put target structs block) (block_adds target structs block (other block.kind)) laid)
      (λ r. then_ (blocks_put target structs blocks r.1) _ (blocks_add target structs blocks other r.1) (λ rs. gives (r.0 ∷ rs.0, rs.1)))

  -- ---- types of values

  by_equation : {A : Type 0} (f g : Step A) → ((s : Sections) → f s ≡ g s) → Along g → Along f
  by_equation f g is p s a after made = p s a after (sym (is s) ∙ made)

  array_of_adds : (element count : ℕ) → Along (array_of element count)
  array_of_adds element count = then_ (scalar_constant Uint count) _ (length_adds count) (λ length. asks (call.array_type element length None) (λ s. walks.declares (d.array_type element length) refl s))

  arrayed_adds : (put : Put ℕ) → PutAlong put → (n : ℕ) → PutAlong (arrayed put n)
  arrayed_adds put p n known = then_ (put known) _ (p known) (λ e. aside_adds (array_of e.0 n) e.1 (array_of_adds e.0 n))

  or_lacking : (o : Option ℕ) → PutAlong (id_or_lacking o)
  or_lacking None known = fails
  or_lacking (Some id) known = gives (id, known)

  abbrev Is : Ty → Type 0
  Is t = PutAlong (value_type t)

  of_layer : (y : Ty-F ((t : Ty) × Is t)) → Is (roll-Ty (map-Ty _ _ (λ e. e.0) y))
  of_layer Ty-F.Void =
      subst Is (sym rolls-Void) (λ known. by_equation (value_type ty.Void known) (aside (id_by (call.plain_type plain.Void)) known) (λ s. value-Void known s) (aside_adds (id_by (call.plain_type plain.Void)) known (asks (call.plain_type plain.Void) (λ s. plain_type plain.Void s))))
  of_layer (Ty-F.One x) = subst Is (sym (rolls-One x)) (λ known. by_equation (value_type (ty.One x) known) (aside (scalar_type x) known) (λ s. value-One known s x) (aside_adds (scalar_type x) known (scalar_adds x)))
  of_layer (Ty-F.Vector x n) = subst Is (sym (rolls-Vector x n)) (λ known. by_equation (value_type (ty.Vector x n) known) (aside (type_of (x, n)) known) (λ s. value-Vector known s x n) (aside_adds (type_of (x, n)) known (type_adds (x, n))))
  of_layer (Ty-F.Array e n) =
      subst Is (sym (rolls-Array e.0 n)) (λ known. by_equation (value_type (ty.Array e.0 n) known) (once (ty.Array e.0 n) (arrayed (value_type e.0) n) known) (λ s. value-Array known s e.0 n)
      (or_put (find_type (ty.Array e.0 n) known) (ty.Array e.0 n) (arrayed (value_type e.0) n) (arrayed_adds (value_type e.0) e.1 n) known))
  of_layer (Ty-F.Runtime e) = subst Is (sym (rolls-Runtime e.0)) (λ known. by_equation (value_type (ty.Runtime e.0) known) (value_type e.0 known) (λ s. value-Runtime known s e.0) (e.1 known))
  of_layer (Ty-F.Struct k) = subst Is (sym (rolls-Struct k)) (λ known. by_equation (value_type (ty.Struct k) known) (known_type (ty.Struct k) known) (λ s. value-Struct known s k) (or_lacking (find_type (ty.Struct k) known) known))

  pub value_adds : (t : Ty) → PutAlong (value_type t)
  value_adds = ind-Ty Is (λ x y is. subst (λ z. Is (roll-Ty z)) is (of_layer y))

  each_adds : {A : Type 0} (put : A → Put ℕ) → ((a : A) → PutAlong (put a)) → (items : List A) → PutAlong (each put items)
  unfolding each
  each_adds put p [] known = gives ([], known)
  each_adds put p (a ∷ items) known = then_ (put a known) _ (p a known) (λ r. then_ (each put items r.1) _ (each_adds put p items r.1) (λ rs. gives (r.0 ∷ rs.0, rs.1)))

  pub all_add : {A : Type 0} (put : A → Put (Unit {0})) → ((a : A) → PutAlong (put a)) → (items : List A) → PutAlong (all put items)
  unfolding all
  all_add put p [] known = gives (tt, known)
  all_add put p (a ∷ items) known = then_ (put a known) _ (p a known) (λ r. all_add put p items r.1)

  pub only_adds : (t : Ty) → PutAlong (only (value_type t))
  only_adds t known = then_ (value_type t known) _ (value_adds t known) (λ r. gives (tt, r.1))

  member_type_adds : (m : Member) → PutAlong (member_type m)
  unfolding member_type
  member_type_adds m known = value_adds m.ty known

  struct_of_adds : (n : ℕ) (members : List ℕ) → PutAlong (struct_of n members)
  struct_of_adds n members known = then_ (id_by (call.struct_type members)) _ (asks (call.struct_type members) (λ s. walks.declares (d.struct_type members) refl s)) (λ id. gives (tt, with_type (ty.Struct n) id known))

  struct_type_adds : (n : ℕ) (struct : StructType) → PutAlong (struct_type n struct)
  unfolding struct_type
  struct_type_adds n struct known = then_ (each member_type struct.members known) _ (each_adds member_type member_type_adds struct.members known) (λ r. struct_of_adds n r.0 r.1)

  structs_add : (structs : List StructType) (n : ℕ) → PutAlong (struct_types n structs)
  unfolding struct_types
  structs_add [] n known = gives (tt, known)
  structs_add (struct ∷ structs) n known = then_ (struct_type n struct known) _ (struct_type_adds n struct known) (λ r. structs_add structs (n + 1) r.1)

  pub program_adds : (p : Program) → PutAlong (program_types p)
  unfolding program_types global_type block_types block_member_type prototype_types parameter_type function_types local_type
  program_adds p known =
      then_ (struct_types 0 p.structs known) _ (structs_add p.structs 0 known) (λ a. then_ (all global_type p.globals a.1) _ (all_add global_type (λ g. only_adds g.ty) p.globals a.1) (λ b.
      then_ (all block_types p.blocks b.1) _ (all_add block_types (λ block. all_add block_member_type (λ m. only_adds m.ty) block.members) p.blocks b.1) (λ c.
      then_ (all prototype_types p.prototypes c.1) _
      (all_add prototype_types (λ q known. then_ (value_type q.result known) _ (value_adds q.result known) (λ r. all_add parameter_type (λ x. only_adds x.1) q.params r.1)) p.prototypes c.1)
      (λ e. all_add function_types (λ f. all_add local_type (λ t. only_adds t) f.locals) p.functions e.1))))

  -- ---- constants, and global variables

  pub constant_grows : (c : PlainConst) (s : Sections) → R s (call.constant c s).sections
  constant_grows of.True s = let ty_ = call.plain_type plain.Bool s in walks.then_ (plain_type plain.Bool s) (walks.interns (d.truth true ty_.id) refl ty_.sections)
  constant_grows of.False s = let ty_ = call.plain_type plain.Bool s in walks.then_ (plain_type plain.Bool s) (walks.interns (d.truth false ty_.id) refl ty_.sections)
  constant_grows (of.Word type bits) s = walks.interns (d.word type bits) refl s
  constant_grows (of.Null type) s = walks.interns (d.null type) refl s

  constant_adds : (x : Scalar) (word : ℕ) → Along (scalar_constant x word)
  unfolding scalar_constant
  constant_adds Boolean word = asks (call.constant (truth_of word)) (constant_grows (truth_of word))
  constant_adds Int word = then_ (scalar_type Int) _ (scalar_adds Int) (λ type. asks (call.constant (of.Word type word)) (constant_grows (of.Word type word)))
  constant_adds Uint word = then_ (scalar_type Uint) _ (scalar_adds Uint) (λ type. asks (call.constant (of.Word type word)) (constant_grows (of.Word type word)))

  word_adds : (y : Ty-F Ty) (word : ℕ) → PutAlong (word_of y word)
  word_adds Ty-F.Void word known = fails
  word_adds (Ty-F.One x) word known = aside_adds (scalar_constant x word) known (constant_adds x word)
  word_adds (Ty-F.Vector x n) word known = fails
  word_adds (Ty-F.Array e n) word known = fails
  word_adds (Ty-F.Runtime e) word known = fails
  word_adds (Ty-F.Struct k) word known = fails

  of_type_adds : (o : Option Ty) (put : Ty → Put ℕ) → ((t : Ty) → PutAlong (put t)) → PutAlong (of_type o put)
  of_type_adds None put p known = fails
  of_type_adds (Some t) put p known = p t known

  composed_adds : (t : Ty) (parts : List ℕ) → PutAlong (composed_as t parts)
  composed_adds t parts known = then_ (value_type t known) _ (value_adds t known) (λ r. aside_adds (composed parts r.0) r.1 (asks (call.composite r.0 parts) (λ s. walks.interns (d.composite r.0 parts) refl s)))

  module _ (structs : List StructType) where
    abbrev Whole : Value → Type 0
    Whole v = (t : Ty) → PutAlong (constant_of structs v t)

    abbrev Part_ : Type 0
    Part_ = (v : Value) × Whole v

    parts_add : (ps : List Part_) (t : Ty) (n : ℕ) → PutAlong (parts_put structs t n (map (λ (p : Part_). constant_of structs p.0) ps))
    unfolding parts_put
    parts_add [] t n known = gives ([], known)
    parts_add (p ∷ ps) t n known =
        then_ (of_type (part_type structs t n) (constant_of structs p.0) known) _ (of_type_adds (part_type structs t n) (constant_of structs p.0) p.1 known)
        (λ r. then_ (parts_put structs t (n + 1) (map (λ (q : Part_). constant_of structs q.0) ps) r.1) _ (parts_add ps t (n + 1) r.1) (λ rs. gives (r.0 ∷ rs.0, rs.1)))

    both_maps : (ps : List Part_) → map (constant_of structs) (map (λ (p : Part_). p.0) ps) ≡ map (λ (p : Part_). constant_of structs p.0) ps
    both_maps [] = refl
    both_maps (p ∷ ps) = ap (λ l. constant_of structs p.0 ∷ l) (both_maps ps)

    of_value : (y : Value-F Part_) → Whole (roll-Value (map-Value _ _ (λ e. e.0) y))
    of_value (Value-F.Word word) t known =
        by_equation (constant_of structs (roll-Value (Value-F.Word word)) t known) (word_of (out-Ty t) word known)
        (λ s. ap (λ (f : Ty → Put ℕ). f t known s) (fold-roll-Value (Ty → Put ℕ) (constant_layer structs) (Value-F.Word word))) (word_adds (out-Ty t) word known)
    of_value (Value-F.Many ps) t known =
        by_equation (constant_of structs (roll-Value (Value-F.Many (map (λ (p : Part_). p.0) ps))) t known)
        (constant_layer structs (Value-F.Many (map (λ (p : Part_). constant_of structs p.0) ps)) t known)
        (λ s. ap (λ (f : Ty → Put ℕ). f t known s) (fold-roll-Value (Ty → Put ℕ) (constant_layer structs) (Value-F.Many (map (λ (p : Part_). p.0) ps)))
        ∙ ap (λ l. constant_layer structs (Value-F.Many l) t known s) (both_maps ps))
        (then_ (parts_put structs t 0 (map (λ (p : Part_). constant_of structs p.0) ps) known) _ (parts_add ps t 0 known) (λ r. composed_adds t r.0 r.1))

    value_constant_adds : (v : Value) → Whole v
    value_constant_adds = ind-Value Whole (λ x y is. subst (λ z. Whole (roll-Value z)) is (of_value y))

    begins_adds : (t : Ty) (type : ℕ) (o : Option Value) → PutAlong (beginning structs t type o)
    begins_adds t type None known = aside_adds (id_by (call.constant (of.Null type))) known (asks (call.constant (of.Null type)) (constant_grows (of.Null type)))
    begins_adds t type (Some v) known = value_constant_adds v t known

    global_adds : test storage_class.PRIVATE ≡ false → (g : GlobalVar) → PutAlong (global_put structs g)
    unfolding global_put
    global_adds other g known =
        then_ (value_type g.ty known) _ (value_adds g.ty known) (λ r. then_ (beginning structs g.ty r.0 g.value r.1) _ (begins_adds g.ty r.0 g.value r.1) (λ c.
        aside_adds (variable_in storage_class.PRIVATE r.0 (Some c.0)) c.1 (variable_adds storage_class.PRIVATE r.0 (Some c.0) other)))

    pub globals_add : test storage_class.PRIVATE ≡ false → (globals : List GlobalVar) → PutAlong (globals_put structs globals)
    globals_add other globals = each_adds (global_put structs) (global_adds other) globals
