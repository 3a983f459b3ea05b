-- What is put for the types that lie in blocks, and what a valid module then says of them.
use Rattle.std.proofs.Common.{◌≡◌, refl, sym, ap, ◌∙◌, subst, ℕ, ◌+◌, Bool, true, false, List, [], ◌∷◌, Some, None, if◌then◌else◌}
use Rattle.std.specs.Prelude.{◌==◌}
use Rattle.std.specs.List.{Contains}
use Rattle.std.proofs.lemmas.Bool.{and_from, eq-eqb, eqb-true}
use Rattle.std.proofs.lemmas.List.Elements.{Contains-append_left, Contains-push}
use Rattle.gsl_instr.specs.declared.enumerant.decoration.TheConstants as decoration
use Rattle.gsl_layout.specs.Layout.{Array, Group, Layout, Leaf, Parts, End, Part, Runtime}
use Rattle.gsl_types.specs.declared.ty.Scalar.{Scalar}
use Rattle.gsl_types.specs.declared.ty.Scalar.TheVariants.{Uint}
use Rattle.gsl_words.specs.declared.module.Instr.{Instr}
use Rattle.gsl_words.specs.declared.module.Module.{Module}
use Rattle.gsl_owed.specs.Types.{array_lies, has_size, is_number, lies, members_lie, runtime_lies, struct_lies}
use Rattle.gsl_valid.specs.Decorations.{number_on}
use Rattle.gsl_valid.specs.Types.{lanes_of}
use Rattle.gsl_sound_code.proofs.Looks.{Kept}
use Rattle.gsl_spv.specs.Calls as call
use Rattle.gsl_spv.specs.Calls.{declare, decorating}
use Rattle.gsl_spv.specs.Declarations as d
use Rattle.gsl_spv.specs.Declarations.{Declaration, defining}
use Rattle.gsl_spv.specs.Growing.{Extends}
use Rattle.gsl_spv.specs.Sections.{Sections}
use Rattle.gsl_spv.specs.declared.plain.PlainConst.TheVariants as of
use Rattle.gsl_spv.specs.declared.plain.PlainType.TheVariants as plain
use Rattle.gsl_spv.proofs.Answering.{constant_once, plain_once}
use Rattle.gsl_spv.proofs.Extending.{extends_then}
use Rattle.gsl_lower_values.specs.Building.{◌>>=◌, given, id_by}
use Rattle.gsl_lower_values.specs.Types.{plain_scalar, scalar_constant, scalar_type, type_of, vector_type, word_of_type}
use Rattle.gsl_lower_text.specs.Written.{Written}
use Rattle.gsl_lower_text.proofs.Constants.{at}
use Rattle.gsl_lower_types.specs.Declaring.{decorated}
use Rattle.gsl_lower_types.specs.Laid.{array_by, offsets, struct_by}
use Rattle.gsl_lower_law_inputs.proofs.OfLawOutside.{asks_add, extends_declare, made_by, same_after}
use Rattle.gsl_lower_law_inputs.proofs.OfLawOutside.{decorated_adds}
use Rattle.gsl_lower_law_inputs.proofs.Decorated.{member_number_found, number_found}
use Rattle.gsl_lower_law_inputs.proofs.Tells.{AllTell, HasDecoration, HasGlobal, declared_tells, given_tells, interned_tells, tells_so, tells_then}
use Rattle.gsl_lower_law_bound.proofs.Said.{array_shape, runtime_shape, scalar_size, scalar_with, struct_shape, vector_size, word_said}

module _ (whole : Sections) where
  -- ---- decorations

  pub marked_on : (s : Sections) (i : Instr) → Extends s whole → Contains s.decorations i → Contains whole.decorations i
  marked_on s i into there = subst (λ l. Contains l i) (sym into.decorations.is) (Contains-append_left s.decorations into.decorations.more i there)

  global_on : (s : Sections) (i : Instr) → Extends s whole → Contains s.globals i → HasGlobal whole i
  global_on s i into there = subst (λ l. Contains l i) (sym into.globals.is) (Contains-append_left s.globals into.globals.more i there)

  abbrev pub HasOffset : ℕ → ℕ → ℕ → Type 0
  HasOffset id number offset = Contains whole.decorations (decorating id (Some number) decoration.OFFSET (Some offset))

  -- each member of a struct has the offset of the layout, numbered from one on
  abbrev pub HaveOffsets : ℕ → ℕ → Parts → Type 0
  HaveOffsets id number End = Unit {0}
  HaveOffsets id number (Part offset layout rest) = HasOffset id number offset × HaveOffsets id (number + 1) rest

  offset_tells : (id number offset : ℕ) → AllTell whole (decorated id (Some number) decoration.OFFSET (Some offset)) (λ done. HasOffset id number offset)
  offset_tells id number offset = record {
    all = λ s done after made. record {
      extends = decorated_adds id (Some number) decoration.OFFSET (Some offset) s done after made;
      told = λ into. marked_on after i into (subst (λ (t : Sections). Contains t.decorations i) (same_after tt done _ after made) (Contains-push s.decorations i));
    };
  }
    where
      i : Instr
      i = decorating id (Some number) decoration.OFFSET (Some offset)

  offsets_tell : (parts : Parts) (id number : ℕ) → AllTell whole (offsets id number parts) (λ done. HaveOffsets id number parts)
  unfolding offsets
  offsets_tell End id number = tells_so whole (given_tells whole tt) (λ done same. tt)
  offsets_tell (Part offset layout rest) id number =
      tells_so whole (tells_then whole (decorated id (Some number) decoration.OFFSET (Some offset)) (λ done. offsets id (number + 1) rest) (offset_tells id number offset) (λ done. offsets_tell rest id (number + 1)))
      (λ done b. (b.one, b.other))

  -- ---- structs

  -- The whole has a struct type of these members, at the offsets of a layout.
  pub record HasStruct (parts : Parts) (members : List ℕ) (id : ℕ) : Type 0 where
    pub stands : HasGlobal whole (defining (d.struct_type members) id)
    pub offsets : HaveOffsets id 0 parts

  pub struct_tells : (parts : Parts) (members : List ℕ) → AllTell whole (struct_by parts members) (HasStruct parts members)
  struct_tells parts members =
      tells_so whole (tells_then whole (id_by (call.struct_type members)) (λ id. offsets id 0 parts >>= (λ done. given id)) (declared_tells whole (d.struct_type members)) (λ id. tells_then whole (offsets id 0 parts) (λ done. given id) (offsets_tell parts id 0) (λ done. given_tells whole id)))
      (λ id b. subst (HasStruct parts members) b.other.other (record { stands = b.one; offsets = b.other.one }))

  -- ---- arrays

  -- The whole has what is declared, with a stride.
  pub record HasStride (decl : Declaration) (stride id : ℕ) : Type 0 where
    pub stands : HasGlobal whole (defining decl id)
    pub marked : HasDecoration whole id decoration.ARRAY_STRIDE stride

  strided_tells : (decl : Declaration) (stride : ℕ) → AllTell whole (id_by (λ s. call.strided (Some stride) (declare decl s))) (HasStride decl stride)
  strided_tells decl stride = record {
    all = λ s id after made.
        let e = made_by (λ s. call.strided (Some stride) (declare decl s)) s id after made in
        record {
          extends = asks_add (λ s. call.strided (Some stride) (declare decl s)) grows s id after made;
          told = λ into. record {
            stands = global_on after (defining decl id) into (subst (λ n. Contains after.globals (defining decl n)) e.0 (subst (λ (t : Sections). Contains t.globals (defining decl (s.last + 1))) e.1 (Contains-push s.globals (defining decl (s.last + 1)))));
            marked = marked_on after (mark id) into (subst (λ n. Contains after.decorations (mark n)) e.0 (subst (λ (t : Sections). Contains t.decorations (mark (s.last + 1))) e.1 (Contains-push s.decorations (mark (s.last + 1)))));
          };
        };
  }
    where
      mark : ℕ → Instr
      mark id = decorating id None decoration.ARRAY_STRIDE (Some stride)

      grows : (s : Sections) → Extends s (call.strided (Some stride) (declare decl s)).sections
      grows s = extends_then (extends_declare decl s) (decorated_adds (s.last + 1) None decoration.ARRAY_STRIDE (Some stride) (declare decl s).sections tt (call.decorate (s.last + 1) None decoration.ARRAY_STRIDE (Some stride) (declare decl s).sections) refl)

  -- The whole has the constant of a word.
  pub record HasWord (n id : ℕ) : Type 0 where
    pub type : ℕ
    pub stands : HasGlobal whole (defining (d.word type n) id)

  length_tells : (n : ℕ) → AllTell whole (scalar_constant Uint n) (HasWord n)
  unfolding scalar_constant scalar_type
  length_tells n =
      tells_so whole (tells_then whole (scalar_type Uint) (word_of_type n) (interned_tells whole (d.plain_type (plain_scalar Uint)) (plain_once (plain_scalar Uint))) (λ type. interned_tells whole (d.word type n) (constant_once (of.Word type n) 0)))
      (λ id b. record { type = b.first; stands = b.other })

  -- The whole has an array type of so many elements, with a stride.
  pub record HasArray (stride element count id : ℕ) : Type 0 where
    pub length : ℕ
    pub word : HasWord count length
    pub array : HasStride (d.array_type element length) stride id

  pub array_tells : (stride element count : ℕ) → AllTell whole (array_by stride element count) (HasArray stride element count)
  array_tells stride element count =
      tells_so whole (tells_then whole (scalar_constant Uint count) (λ length. id_by (call.array_type element length (Some stride))) (length_tells count) (λ length. strided_tells (d.array_type element length) stride))
      (λ id b. record { length = b.first; word = b.one; array = b.other })

  pub runtime_tells : (stride element : ℕ) → AllTell whole (id_by (call.runtime_type element stride)) (HasStride (d.runtime_type element) stride)
  runtime_tells stride element = strided_tells (d.runtime_type element) stride

  -- ---- what the module says of them

  module _ (m : Module) (held : Kept m) (written : Written m whole) (marks : (i : Instr) → Contains whole.decorations i → Contains m.instrs i) where
    stride_is : (decl : Declaration) (stride id : ℕ) → HasStride decl stride id → is_number stride (number_on m decoration.ARRAY_STRIDE id) ≡ true
    stride_is decl stride id has = ap (is_number stride) (number_found m held id decoration.ARRAY_STRIDE stride (marks _ has.marked)) ∙ eq-eqb stride stride refl

    pub array_lie : (stride element count id : ℕ) (l : Layout) → HasArray stride element count id → lies m l element ≡ true → lies m (Array stride count l) id ≡ true
    array_lie stride element count id l has lie =
        ap (array_lies m (λ type. lies m l type) id stride count) (array_shape m element has.length id (at m held _ (written.globals _ has.array.stands)))
        ∙ and_from _ _ (and_from _ _ (stride_is (d.array_type element has.length) stride id has.array) (ap (is_number count) (word_said m has.word.type count has.length (at m held _ (written.globals _ has.word.stands))) ∙ eq-eqb count count refl)) lie

    pub runtime_lie : (stride element id : ℕ) (l : Layout) → HasStride (d.runtime_type element) stride id → lies m l element ≡ true → lies m (Runtime stride l) id ≡ true
    runtime_lie stride element id l has lie =
        ap (runtime_lies m (λ type. lies m l type) id stride) (runtime_shape m element id (at m held _ (written.globals _ has.stands))) ∙ and_from _ _ (stride_is (d.runtime_type element) stride id has) lie

    -- Types lie as parts of a layout do.
    abbrev pub LieEach : Parts → List ℕ → Type 0
    LieEach End [] = Unit {0}
    LieEach End (type ∷ types) = ⊥
    LieEach (Part offset layout rest) [] = ⊥
    LieEach (Part offset layout rest) (type ∷ types) = (lies m layout type ≡ true) × LieEach rest types

    members_are : (parts : Parts) (id number : ℕ) (types : List ℕ) → HaveOffsets id number parts → LieEach parts types → members_lie m parts id number types ≡ true
    members_are End id number [] have lie = refl
    members_are End id number (type ∷ types) have lie = absurd lie
    members_are (Part offset layout rest) id number [] have lie = absurd lie
    members_are (Part offset layout rest) id number (type ∷ types) have lie =
        and_from _ _ (and_from _ _ (ap (is_number offset) (member_number_found m held id number decoration.OFFSET offset (marks _ have.0)) ∙ eq-eqb offset offset refl) lie.0) (members_are rest id (number + 1) types have.1 lie.1)

    pub struct_lie : (parts : Parts) (all : ℕ) (types : List ℕ) (id : ℕ) → HasStruct parts types id → LieEach parts types → lies m (Group parts all) id ≡ true
    struct_lie parts all types id has lie =
        ap (struct_lies m (λ types. members_lie m parts id 0 types)) (struct_shape m types id (at m held _ (written.globals _ has.stands))) ∙ members_are parts id 0 types has.offsets lie

    -- ---- scalars and vectors

    scalar_tells : (x : Scalar) → AllTell whole (scalar_type x) (λ id. HasGlobal whole (defining (d.plain_type (plain_scalar x)) id))
    unfolding scalar_type
    scalar_tells x = interned_tells whole (d.plain_type (plain_scalar x)) (plain_once (plain_scalar x))

    pub leaf_tells : (x : Scalar) (n : ℕ) → AllTell whole (type_of (x, n)) (λ id. lies m (Leaf n) id ≡ true)
    unfolding type_of
    leaf_tells x n =
        tells_so whole (tells_then whole {Q = λ component id. HasGlobal whole (defining (d.plain_type (plain_scalar x)) component) → has_size m n (lanes_of m id) ≡ true} (scalar_type x) (λ component. if n == 1 then given component else vector_type n component) (scalar_tells x) (λ component. by component (n == 1) refl))
        (λ id b. b.other b.one)
      where
        by : (component : ℕ) (one : Bool) → (n == 1) ≡ one → AllTell whole (if one then given component else vector_type n component) (λ id. HasGlobal whole (defining (d.plain_type (plain_scalar x)) component) → has_size m n (lanes_of m id) ≡ true)
        by component true is =
            tells_so whole (given_tells whole component) (λ id same there.
            ap (λ k. has_size m k (lanes_of m id)) (eqb-true n 1 is) ∙ ap (λ k. has_size m 1 (lanes_of m k)) (sym same) ∙ scalar_size m x component (at m held _ (written.globals _ there)))
        by component false is =
            tells_so whole (interned_tells whole (d.plain_type (plain.Vector component n)) (plain_once (plain.Vector component n))) (λ id vector there.
            vector_size m component n id (at m held _ (written.globals _ vector)) ∙ scalar_with m x component (at m held _ (written.globals _ there)) n)
