-- What stands in blocks has its offsets and strides.
use Rattle.std.proofs.Common.{◌≡◌, refl, sym, ap, ◌∙◌, ℕ, zero, suc, ◌+◌, ◌*◌, Bool, true, false, ◌&&◌, ◌||◌, not, if◌then◌else◌, nat_lt, List, [], ◌∷◌, length, slice_index, Option, Some, None, inl, inr, arith}
use Rattle.std.specs.List.{list_all, list_any}
use Rattle.std.specs.Prelude.{◌==◌}
use Rattle.std.proofs.lemmas.Bool.{and_from, and_parts, eq-eqb, eqb-true, false≢true, lt-ltb, ltb-true, not_from_true, or_left, or_right, or_cases}
use Rattle.gsl_instr.specs.declared.enumerant.decoration.TheConstants as decoration
use Rattle.gsl_instr.specs.declared.instruction.Instruction.{Instruction}
use Rattle.gsl_instr.specs.declared.instruction.Instruction.TheVariants as instruction
use Rattle.gsl_words.specs.declared.module.Module.{Module}
use Rattle.gsl_valid.specs.DecorationRules.{pointee}
use Rattle.gsl_valid.specs.Decorations.{number_on, number_on_member}
use Rattle.gsl_valid.specs.Ids.{defined, defines, needs, result}
use Rattle.gsl_valid.specs.Instruction.{read}
use Rattle.gsl_valid.specs.Kinds.{Shape, OfVector, OfArray, OfRuntimeArray, OfStruct, Variable, shape_of, variable_is}
use Rattle.gsl_valid.specs.LayoutRules.{elements_laid, end_after, extent, is_at, is_end, is_in_block, is_laid, is_part_of_blocks, is_stride, laid_if, may_be_in, may_grow, need, reaches, reaches_it, type_laid}
use Rattle.gsl_valid.specs.Placed.{Code}
use Rattle.gsl_valid.specs.Search.{passed, whole}
use Rattle.gsl_valid.specs.TypeRules.{is_component, is_made}
use Rattle.gsl_valid.specs.Types.{defined_as, has_in, is_bool_shape, is_int_shape, outside_of, parts_in, parts_of}
use Rattle.gsl_machine.specs.Memory.{at_offset, at_stride, part_as, parts_as}
use Rattle.gsl_machine.specs.State.{InBlock, Pointer}
use Rattle.gsl_sound_ids.specs.Held.{StandsInBlocks}
use Rattle.gsl_sound_code.specs.Rules.{KeepAll, Keeps}
use Rattle.gsl_sound_code.proofs.Looks.{Kept, defines_result, found, made_at}

-- ---- one among some

any_follow : {A : Type 0} (f g : A → Bool) → ((x : A) → f x ≡ true → g x ≡ true) → (xs : List A) → list_any f xs ≡ true → list_any g xs ≡ true
any_follow f g follow [] is = is
any_follow f g follow (x ∷ xs) is = elim (or_cases (f x) (list_any f xs) is) [ inl here ↦ or_left _ _ (follow x here) | inr later ↦ or_right (g x) _ (any_follow f g follow xs later) ]

-- a number among some passes what all of them pass, and one that passes is among them
any_at : (f : ℕ → Bool) (p : ℕ) (xs : List ℕ) → f p ≡ true → list_any (λ x. x == p) xs ≡ true → list_any f xs ≡ true
any_at f p xs passes is = any_follow (λ x. x == p) f (λ x same. ap f (eqb-true x p same) ∙ passes) xs is

all_at : (f : ℕ → Bool) (p : ℕ) (xs : List ℕ) → list_all f xs ≡ true → list_any (λ x. x == p) xs ≡ true → f p ≡ true
all_at f p [] all is = absurd (false≢true is)
all_at f p (x ∷ xs) all is =
    let parts = and_parts (f x) (list_all f xs) all in
    elim (or_cases (x == p) (list_any (λ x. x == p) xs) is) [ inl same ↦ ap f (sym (eqb-true x p same)) ∙ parts.0 | inr later ↦ all_at f p xs parts.1 later ]

index_any : (xs : List ℕ) (k : ℕ) → nat_lt k (length xs) ≡ true → list_any (λ x. x == slice_index xs k) xs ≡ true
index_any [] k below = let low = ltb-true k 0 below in absurd (omega (arith, low))
index_any (x ∷ xs) zero below = or_left _ _ (eq-eqb x x refl)
index_any (x ∷ xs) (suc k) below = let low = ltb-true (suc k) (suc (length xs)) below in or_right (x == slice_index xs k) _ (index_any xs k (lt-ltb k (length xs) (omega (arith, low))))

-- ---- what is in a type

-- Each of these instructions, the last first, keeps the rules.
abbrev pub KeepBack : Module → Code → Type 0
KeepBack m [] = Unit {0}
KeepBack m (i ∷ before) = ((code : Code) × Keeps m before i code) × KeepBack m before

pub keep_back : (m : Module) (before code : Code) → KeepAll m before code → KeepBack m before → KeepBack m (passed before code)
keep_back m before [] all back = back
keep_back m before (i ∷ code) all back = keep_back m (i ∷ before) code all.1 ((code, all.0), back)

-- a type that is defined has itself in it
pub has_self : (before : Code) (type : ℕ) → defined before type ≡ true → has_in (λ id. id == type) before type ≡ true
has_self [] type is = absurd (false≢true is)
has_self (i ∷ before) type is = by_test (defines i type) (has_self before type) is
  where
    by_test : (b : Bool) → (defined before type ≡ true → has_in (λ id. id == type) before type ≡ true) → (b || defined before type) ≡ true
        → (if b then type == type || list_any (has_in (λ id. id == type) before) (parts_of (read i)) else has_in (λ id. id == type) before type) ≡ true
    by_test true later is = or_left _ _ (eq-eqb type type refl)
    by_test false later is = later is

-- the parts of a type stand before it
parts_needed : (test : ℕ → Bool) (d : Option Instruction) → list_all test (needs d) ≡ true → list_all test (parts_of d) ≡ true
parts_needed test None all = refl
parts_needed test (Some (instruction.TypeArray result element length)) all = and_from (test element) true (and_parts (test element) _ all).0 refl
parts_needed test (Some (instruction.TypeRuntimeArray result element)) all = all
parts_needed test (Some (instruction.TypeStruct result members)) all = all
parts_needed test (Some d) all = refl

-- what has a type in it has its parts in it
has_part : (m : Module) (type part : ℕ) → list_any (λ x. x == part) (parts_of (defined_as m type)) ≡ true → (before : Code) → KeepBack m before → (root : ℕ)
    → has_in (λ id. id == type) before root ≡ true → has_in (λ id. id == part) before root ≡ true
has_part m type part among [] back root is = absurd (false≢true is)
has_part m type part among (i ∷ before) back root is = by_test (defines i root) refl (has_part m type part among before back.1) is
  where
    keeps : Keeps m before i back.0.0
    keeps = back.0.1

    here : defines i root ≡ true → (root == type) ≡ true → list_any (has_in (λ id. id == part) before) (parts_of (read i)) ≡ true
    here d same =
        let read_is : defined_as m type ≡ read i = ap (defined_as m) (sym (eqb-true root type same)) ∙ keeps.own root (defines_result i root d) in
        let among_here : list_any (λ x. x == part) (parts_of (read i)) ≡ true = ap (λ x. list_any (λ y. y == part) (parts_of x)) (sym read_is) ∙ among in
        let there : defined before part ≡ true = all_at (defined before) part (parts_of (read i)) (parts_needed (defined before) (read i) (and_parts (list_all (defined before) (needs (read i))) _ keeps.uses).0) among_here in
        any_at (has_in (λ id. id == part) before) part (parts_of (read i)) (has_self before part there) among_here

    by_test : (b : Bool) → defines i root ≡ b → ((root : ℕ) → has_in (λ id. id == type) before root ≡ true → has_in (λ id. id == part) before root ≡ true)
        → (if b then root == type || list_any (has_in (λ id. id == type) before) (parts_of (read i)) else has_in (λ id. id == type) before root) ≡ true
        → (if b then root == part || list_any (has_in (λ id. id == part) before) (parts_of (read i)) else has_in (λ id. id == part) before root) ≡ true
    by_test true d later is = or_right (root == part) _ (elim (or_cases (root == type) _ is) [
      | inl same ↦ here d same
      | inr deeper ↦ any_follow (has_in (λ id. id == type) before) (has_in (λ id. id == part) before) later (parts_of (read i)) deeper
    ])
    by_test false d later is = later root is

module _ (m : Module) (kept : Kept m) where
  -- what a block reaches has parts that it reaches
  part_in_block : (type part : ℕ) → list_any (λ x. x == part) (parts_of (defined_as m type)) ≡ true → is_in_block m type ≡ true → is_in_block m part ≡ true
  part_in_block type part among is = any_follow (λ i. reaches_it m type (variable_is (read i))) (λ i. reaches_it m part (variable_is (read i))) (λ i. by_variable (variable_is (read i))) (outside_of m) is
    where
      by_variable : (v : Option Variable) → reaches_it m type v ≡ true → reaches_it m part v ≡ true
      by_variable None is = is
      by_variable (Some v) is =
          let parts = and_parts _ (reaches m (pointee m v.type) type) is in
          and_from _ _ parts.0 (has_part m type part among (whole m) (keep_back m [] m.instrs kept.all tt) (pointee m v.type) parts.1)

  -- a type that a block reaches is laid
  laid_at : (type : ℕ) → is_in_block m type ≡ true → (before : Code) × (type_laid m before type (shape_of (defined_as m type)) ≡ true)
  laid_at type inside = by_definition (defined_as m type) refl
    where
      by_laid : (b c : Bool) → c ≡ true → (b || not c) ≡ true → b ≡ true
      by_laid true c is laid = refl
      by_laid false c is laid = absurd (false≢true (sym (not_from_true c is) ∙ laid))

      by_definition : (d : Option Instruction) → defined_as m type ≡ d → (before : Code) × (type_laid m before type (shape_of d) ≡ true)
      by_definition None is = ([], refl)
      by_definition (Some d) is =
          let f = found m [] m.instrs type d kept.all is in
          (f.before, by_laid (type_laid m f.before type (shape_of (Some d))) (is_in_block m type) inside (ap (λ o. laid_if m f.before o (shape_of (Some d))) (sym f.gives) ∙ ap (λ x. laid_if m f.before (result (read f.instr)) (shape_of x)) (sym f.reads) ∙ f.keeps.layout))

  stride_is : (stride : Option ℕ) (n : ℕ) → is_stride stride n ≡ true → (k : ℕ) × (stride ≡ Some k)
  stride_is None n is = absurd (false≢true is)
  stride_is (Some k) n is = (k, refl)

  offset_is : (offset : Option ℕ) (end extent : ℕ) → is_at offset end extent ≡ true → (k : ℕ) × (offset ≡ Some k)
  offset_is None end extent is = absurd (false≢true is)
  offset_is (Some k) end extent is = (k, refl)

  member_is : (before : Code) (struct member end : ℕ) (types : List ℕ) (k : ℕ) → is_laid m before struct member end types ≡ true → nat_lt k (length types) ≡ true
      → (offset : ℕ) × (number_on_member m decoration.OFFSET struct (member + k) ≡ Some offset)
  member_is before struct member end [] k is below = let low = ltb-true k 0 below in absurd (omega (arith, low))
  member_is before struct member end (type ∷ types) zero is below =
      let both = and_parts (may_be_in m (is_end types && may_grow m struct) (shape_of (defined_as m type)) && is_at (number_on_member m decoration.OFFSET struct member) end (extent m before type)) _ is in
      let at = offset_is (number_on_member m decoration.OFFSET struct member) end (extent m before type) (and_parts (may_be_in m (is_end types && may_grow m struct) (shape_of (defined_as m type))) _ both.0).1 in
      (at.0, ap (number_on_member m decoration.OFFSET struct) (let e : member + 0 ≡ member = omega arith in e) ∙ at.1)
  member_is before struct member end (type ∷ types) (suc k) is below =
      let both = and_parts (may_be_in m (is_end types && may_grow m struct) (shape_of (defined_as m type)) && is_at (number_on_member m decoration.OFFSET struct member) end (extent m before type)) _ is in
      let low = ltb-true (suc k) (suc (length types)) below in
      let at = member_is before struct (member + 1) (end_after (number_on_member m decoration.OFFSET struct member) (need m before type)) types k both.1 (lt-ltb k (length types) (omega (arith, low))) in
      (at.0, ap (number_on_member m decoration.OFFSET struct) (let e : member + suc k ≡ (member + 1) + k = omega arith in e) ∙ at.1)

  -- the id of a struct's type
  struct_is : (d : Instruction) (type id : ℕ) (members : List ℕ) → result (Some d) ≡ Some type → shape_of (Some d) ≡ OfStruct id members → id ≡ type
  struct_is (instruction.TypeStruct r ts) type id members gives is = let both : Some r ≡ Some type = gives in let same : OfStruct r ts ≡ OfStruct id members = is in cc
  struct_is _ type id members gives is = absurd (cc)

  struct_own : (type id : ℕ) (members : List ℕ) → shape_of (defined_as m type) ≡ OfStruct id members → id ≡ type
  struct_own type id members is = by_definition (defined_as m type) refl is
    where
      by_definition : (d : Option Instruction) → defined_as m type ≡ d → shape_of d ≡ OfStruct id members → id ≡ type
      by_definition None here is = absurd (cc)
      by_definition (Some d) here is = let f = found m [] m.instrs type d kept.all here in struct_is d type id members (ap result (sym f.reads) ∙ f.gives) is

  none_below : (index : ℕ) → nat_lt index 0 ≡ true → ⊥
  none_below index below = let low = ltb-true index 0 below in omega (arith, low)

  -- a type with parts other than components is in a block
  in_block : (type : ℕ) (s : Shape) → shape_of (defined_as m type) ≡ s → (is_int_shape s || is_bool_shape s) ≡ false → StandsInBlocks m type → is_in_block m type ≡ true
  in_block type s is whole (inl inside) = inside
  in_block type s is whole (inr component) = absurd (false≢true (sym whole ∙ ap (λ x. is_int_shape x || is_bool_shape x) (sym is) ∙ component))

  -- The part of a type at an index stands in the block.
  pub record PartAt (variable : ℕ) (o : Option Pointer) : Type 0 where
    pub offset : ℕ
    pub pointee : ℕ
    pub is : o ≡ Some (InBlock variable offset pointee)
    pub stands : StandsInBlocks m pointee

  strided : (variable offset type index element : ℕ) (before : Code) → elements_laid m before type element ≡ true → is_in_block m element ≡ true → PartAt variable (at_stride variable offset (number_on m decoration.ARRAY_STRIDE type) index element)
  strided variable offset type index element before laid inside =
      let stride = stride_is (number_on m decoration.ARRAY_STRIDE type) (need m before element) (and_parts (is_part_of_blocks m (shape_of (defined_as m element))) _ laid).1 in
      record { offset = offset + stride.0 * index; pointee = element; is = ap (λ s. at_stride variable offset s index element) stride.1; stands = inl inside }

  element_inside : (type element : ℕ) (s : Shape) → shape_of (defined_as m type) ≡ s → parts_in s ≡ element ∷ [] → is_in_block m type ≡ true → is_in_block m element ≡ true
  element_inside type element s is parts inside =
      part_in_block type element (ap (λ x. list_any (λ y. y == element) (parts_in x)) is ∙ ap (list_any (λ y. y == element)) parts ∙ or_left (element == element) _ (eq-eqb element element refl)) inside

  pub part_stands : (variable offset type index size : ℕ) → StandsInBlocks m type → nat_lt index (parts_as m size offset type (shape_of (defined_as m type))) ≡ true
      → PartAt variable (part_as m variable offset type index (shape_of (defined_as m type)))
  part_stands variable offset type index size stands below = by_shape (shape_of (defined_as m type)) refl below
    where
      by_shape : (s : Shape) → shape_of (defined_as m type) ≡ s → nat_lt index (parts_as m size offset type s) ≡ true → PartAt variable (part_as m variable offset type index s)
      by_shape (OfVector component count) is below =
          let made = made_at m kept type in
          let here : is_made m made.0 (OfVector component count) ≡ true = ap (is_made m made.0) (sym is) ∙ made.1 in
          let parts = and_parts (is_component m component) _ (and_parts (is_component m component && _) _ (and_parts (is_component m component && _ && _) made.0 here).0).0 in
          record { offset = offset + 4 * index; pointee = component; is = refl; stands = inr parts.0 }
      by_shape (OfArray element length) is below =
          let inside = in_block type (OfArray element length) is refl stands in
          let laid = laid_at type inside in
          let here : type_laid m laid.0 type (OfArray element length) ≡ true = ap (type_laid m laid.0 type) (sym is) ∙ laid.1 in
          strided variable offset type index element laid.0 (and_parts (elements_laid m laid.0 type element) _ here).0 (element_inside type element (OfArray element length) is refl inside)
      by_shape (OfRuntimeArray element) is below =
          let inside = in_block type (OfRuntimeArray element) is refl stands in
          let laid = laid_at type inside in
          let here : type_laid m laid.0 type (OfRuntimeArray element) ≡ true = ap (type_laid m laid.0 type) (sym is) ∙ laid.1 in
          strided variable offset type index element laid.0 here (element_inside type element (OfRuntimeArray element) is refl inside)
      by_shape (OfStruct id members) is below =
          let inside = in_block type (OfStruct id members) is refl stands in
          let laid = laid_at type inside in
          let here : is_laid m laid.0 id 0 0 members ≡ true = ap (type_laid m laid.0 type) (sym is) ∙ laid.1 in
          let at = member_is laid.0 id 0 0 members index here below in
          let same = struct_own type id members is in
          let number : number_on_member m decoration.OFFSET type index ≡ Some at.0 =
          ap (λ t. number_on_member m decoration.OFFSET t index) (sym same) ∙ ap (number_on_member m decoration.OFFSET id) (let e : index ≡ 0 + index = omega arith in e) ∙ at.1 in
          record {
            offset = offset + at.0;
            pointee = slice_index members index;
            is = ap (λ o. at_offset variable offset o (slice_index members index)) number;
            stands = inl (part_in_block type (slice_index members index) (ap (λ x. list_any (λ y. y == slice_index members index) (parts_in x)) is ∙ index_any members index below) inside);
          }
      by_shape _ is below = absurd (none_below index below)
