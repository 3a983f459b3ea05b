-- What functions know of the members of blocks in the module of a program.
use Rattle.std.proofs.Common.{◌≡◌, refl, sym, ap, ◌∙◌, subst, ℕ, zero, suc, ◌-◌, ◌/◌, ◌<◌, ◌^◌, Bool, true, false, List, [], ◌∷◌, length, slice_get, Option, Some, None, if◌then◌else◌, arith, div-le_self}
use Rattle.std.specs.Prelude.{◌&&◌, nat_le, nat_lt, unwrap_or}
use Rattle.std.specs.Option.{ForSome}
use Rattle.std.proofs.lemmas.Bool.{and_parts, ltb-true}
use Rattle.gsl_base.specs.declared.input.Input.{Input}
use Rattle.gsl_instr.specs.declared.enumerant.decoration.TheConstants as decoration
use Rattle.gsl_layout.specs.Measures.{measure, stride_of}
use Rattle.gsl_types.specs.Known.{AreStructs, IsSound, sound, sound_kind}
use Rattle.gsl_types.specs.declared.ty.StructType.{StructType}
use Rattle.gsl_types.specs.declared.ty.Ty.{Ty}
use Rattle.gsl_types.specs.declared.ty.Ty.TheFolds.{fold-roll-Ty, map-Ty}
use Rattle.gsl_types.specs.declared.ty.Ty.TheOpen.{Ty-F}
use Rattle.gsl_types.specs.declared.ty.Ty.TheViews.{out-Ty, roll-Ty, roll-out-Ty}
use Rattle.gsl_words.specs.declared.module.Module.{Module}
use Rattle.gsl_words.specs.declared.target.Target.{Target}
use Rattle.gsl_values.specs.declared.value.Value.{Value}
use Rattle.gsl_tree.specs.Around.{Around}
use Rattle.gsl_tree.specs.Expressions.{is_runtime_layer}
use Rattle.gsl_tree.specs.Laying.{rule_of}
use Rattle.gsl_tree.specs.WellTyped.{AreBlockMembers, IsBlock, IsProgram}
use Rattle.gsl_tree.specs.declared.program.Program.{Program}
use Rattle.gsl_tree.specs.declared.unit.Block.{Block}
use Rattle.gsl_tree.specs.declared.unit.BlockKind.{BlockKind}
use Rattle.gsl_tree.specs.declared.unit.BlockMember.{BlockMember}
use Rattle.gsl_valid.specs.DecorationRules.{pointee}
use Rattle.gsl_valid.specs.Decorations.{number_on}
use Rattle.gsl_valid.specs.Types.{is_block_class}
use Rattle.gsl_valid.specs.Valid.{Valid}
use Rattle.gsl_machine.specs.Interfaces.{value_variables}
use Rattle.gsl_machine.specs.Memory.{bytes_if, is_push}
use Rattle.gsl_machine.specs.State.{InBlock, Points}
use Rattle.gsl_sound_ids.proofs.Globals.{globals_agree}
use Rattle.gsl_spv.specs.Finished.{module_of}
use Rattle.gsl_views.specs.Buffers.{bytes_at}
use Rattle.gsl_views.specs.Viewed.{elements}
use Rattle.gsl_lower_holders.specs.Flow.{Flow}
use Rattle.gsl_lower_types.specs.Blocks.{class_of}
use Rattle.gsl_lower_follows.specs.Frames.{Frame}
use Rattle.gsl_lower_law_inputs.specs.OfLawEntered.{IsFrame}
use Rattle.gsl_lower_law_inputs.proofs.OfLawEntered.{mapped}
use Rattle.gsl_lower_law_members.proofs.Sized.{few_at}
use Rattle.gsl_lower_law_members.specs.Parts.{laid_as}
use Rattle.gsl_lower_law_members.specs.Sizes.{size_of}
use Rattle.gsl_lower_law_inputs.specs.OfLawOutside.{HaveOutside}
use Rattle.gsl_lower_law_inputs.proofs.Passed.{at_number}
use Rattle.gsl_lower_reaching.specs.Reaching.{KnowsBlock, KnowsMember}
use Rattle.gsl_lower_law_bound.specs.Bound.{IsBound, IsShort}
use Rattle.gsl_lower_law_bound.proofs.Laid.{array_is, one_none, runtime_is, struct_none, vector_none, void_none}
use Rattle.gsl_lower_law_bound.proofs.Standing.{blocks_bound, classes_are, class_is, keeps}

-- ---- how many bytes are given

module _ (input : Input) (few : IsShort input) where
  pub given_at : (set binding : ℕ) → length (unwrap_or (bytes_at input.buffers set binding) []) < 2 ^ 32
  given_at set binding = few_at input.buffers set binding few.buffers

  given_if : (set binding : Option ℕ) → length (unwrap_or (bytes_if input.buffers set binding) []) < 2 ^ 32
  given_if None binding = omega arith
  given_if (Some set) None = omega arith
  given_if (Some set) (Some binding) = given_at set binding

  pub pushed : (o : Option (List ℕ)) → ForSome o (λ bytes. length bytes < 2 ^ 32) → length (unwrap_or o []) < 2 ^ 32
  pushed None all = omega arith
  pushed (Some bytes) all = all bytes refl

  few_bytes : (m : Module) (variable : ℕ) → size_of m input variable < 2 ^ 32
  few_bytes m variable = by (is_push m variable)
    where
      by : (b : Bool) → length (unwrap_or (if b then input.push else bytes_if input.buffers (number_on m decoration.DESCRIPTOR_SET variable) (number_on m decoration.BINDING variable)) []) < 2 ^ 32
      by true = pushed input.push few.push
      by false = given_if (number_on m decoration.DESCRIPTOR_SET variable) (number_on m decoration.BINDING variable)

-- ---- how many elements there are

less_shared : (size offset stride : ℕ) → size < 2 ^ 32 → (size - offset) / stride < 2 ^ 32
less_shared size offset stride few = let less = div-le_self (size - offset) stride in omega (arith, few, less)

there_below : {A : Type 0} (xs : List A) (k : ℕ) → k < length xs → (x : A) × (slice_get xs k ≡ Some x)
there_below [] k less = absurd (let z : k < 0 = less in omega (arith, z))
there_below (x ∷ xs) zero less = (x, refl)
there_below (x ∷ xs) (suc k) less = there_below xs k (let z : suc k < suc (length xs) = less in omega (arith, z))

module _ (structs : List StructType) (are : AreStructs structs) (std140 : Bool) (offset size : ℕ) where
  abbrev AreFew : Ty → Type 0
  AreFew t = elements (laid_as std140 structs t) offset size < 2 ^ 32

  as_many : (t : Ty) (n : ℕ) → elements (laid_as std140 structs t) offset size ≡ n → n < 2 ^ 32 → AreFew t
  as_many t n is less = omega (arith, is, less)

  -- how many a runtime array has hangs on how many bytes there are
  pub few_elements : (t : Ty) → IsSound (length structs) t → (is_runtime_layer (out-Ty t) ≡ true → size < 2 ^ 32) → AreFew t
  few_elements t known few = by (out-Ty t) (roll-out-Ty t) few
    where
      rolled : (y : Ty-F Ty) → roll-Ty y ≡ t → sound_kind (length structs) (map-Ty _ _ (sound (length structs)) y) ≡ true
      rolled y e = sym (fold-roll-Ty Bool (sound_kind (length structs)) y) ∙ ap (sound (length structs)) e ∙ known

      by : (y : Ty-F Ty) → roll-Ty y ≡ t → (is_runtime_layer y ≡ true → size < 2 ^ 32) → AreFew t
      by Ty-F.Void e few = subst AreFew e (as_many (roll-Ty Ty-F.Void) 0 (void_none structs std140 offset size) (omega arith))
      by (Ty-F.One s) e few = subst AreFew e (as_many (roll-Ty (Ty-F.One s)) 0 (one_none structs std140 offset size s) (omega arith))
      by (Ty-F.Vector s n) e few = subst AreFew e (as_many (roll-Ty (Ty-F.Vector s n)) 0 (vector_none structs std140 offset size s n) (omega arith))
      by (Ty-F.Array u n) e few =
          subst AreFew e (as_many (roll-Ty (Ty-F.Array u n)) n (ap (λ l. elements l offset size) (array_is structs std140 u n))
          (ltb-true n (2 ^ 32) (and_parts (nat_le 1 n) (nat_lt n (2 ^ 32)) (and_parts (nat_le 1 n && nat_lt n (2 ^ 32)) (sound (length structs) u) (rolled (Ty-F.Array u n) e)).0).1))
      by (Ty-F.Runtime u) e few =
          subst AreFew e (subst (λ l. elements l offset size < 2 ^ 32) (sym (runtime_is structs std140 u)) (less_shared size offset (stride_of (rule_of std140) (measure (rule_of std140) structs u)) (few refl)))
      by (Ty-F.Struct k) e few =
          let x = there_below structs k (ltb-true k (length structs) (rolled (Ty-F.Struct k) e)) in
          subst AreFew e (as_many (roll-Ty (Ty-F.Struct k)) 0 (struct_none structs std140 offset size k x.0 are x.1) (omega arith))

-- ---- members

member_sound : (structs : List StructType) (kind : BlockKind) (members : List BlockMember) (number : ℕ) (one : BlockMember) → AreBlockMembers structs kind members → slice_get members number ≡ Some one → IsSound (length structs) one.ty
member_sound structs kind [] zero one all there = absurd (cc)
member_sound structs kind [] (suc number) one all there = absurd (cc)
member_sound structs kind (first ∷ []) zero one all there = let same : first ≡ one = cc in subst (λ (x : BlockMember). IsSound (length structs) x.ty) same all.known
member_sound structs kind (first ∷ []) (suc number) one all there = member_sound structs kind [] number one tt there
member_sound structs kind (first ∷ next ∷ members) zero one all there = let same : first ≡ one = cc in subst (λ (x : BlockMember). IsSound (length structs) x.ty) same all.0.known
member_sound structs kind (first ∷ next ∷ members) (suc number) one all there = member_sound structs kind (next ∷ members) number one all.1 there

module _ (target : Target) (p : Program) (main : ℕ) (flow : Flow) (program : IsProgram p) (valid : Valid (module_of flow.sections main p.local_size)) (h : HaveOutside target p main flow) (input : Input) (stages : List (Option Value))
    (f : Frame (module_of flow.sections main p.local_size) input flow.sections) (frame : IsFrame (module_of flow.sections main p.local_size) input flow.sections h.place stages f) where
  abbrev m : Module
  m = module_of flow.sections main p.local_size

  block_known : (around : Around) (number id : ℕ) (block : Block) → slice_get p.blocks number ≡ Some block → slice_get f.place.blocks number ≡ Some id → KnowsBlock m input flow.sections f p around number id block
  block_known around number id block there seat =
      let x = blocks_bound target p main flow program valid h number block there in
      let same : x.0 ≡ id = the_same x.0 id (sym x.1 ∙ ap (λ l. slice_get l number) (sym frame.knows.blocks) ∙ seat) in
      let b : IsBound m p.structs block id = subst (IsBound m p.structs block) same x.2 in
      record {
        known = there;
        seat = seat;
        type = pointee m b.variable.type;
        points = frame.lasting.same id (Points (InBlock id 0 (pointee m b.variable.type))) ((globals_agree m (keeps target p main flow program valid h) (length (value_variables m)) (omega arith)).blocks id b.variable b.is b.class);
        lie = b.lie;
      }
    where
      the_same : (a b : ℕ) → Some a ≡ Some b → a ≡ b
      the_same a b e = cc

  pub member_known : (around : Around) (number member : ℕ) (block : Block) (one : BlockMember) → slice_get p.blocks number ≡ Some block → slice_get block.members member ≡ Some one → (is_runtime_layer (out-Ty one.ty) ≡ true → IsShort input)
      → KnowsMember m input flow.sections f p around number member one.ty
  member_known around number member block one there found few =
      let right = at_number (IsBlock p.structs) p.blocks number block program.typed.blocks there in
      let known = member_sound p.structs block.kind block.members member one right.members found in
      record {
        block = block;
        one = one;
        found = found;
        same = refl;
        sound = known;
        knows = λ id seat. block_known around number id block there seat;
        class = λ class is.
            let x = mapped (λ (b : Block). class_of target b.kind) p.blocks number class (ap (λ l. slice_get l number) (sym (frame.knows.classes ∙ classes_are target p main flow program valid h)) ∙ is) in
            ap is_block_class (sym x.2) ∙ class_is target x.0.kind;
        short = λ id offset. few_elements p.structs program.typed.structs block.std140 offset (size_of m input id) one.ty known (λ runtime. few_bytes input (few runtime) m id);
      }
