-- How many bytes what lies by a layout needs in a module.
use Rattle.std.proofs.Common.{◌≡◌, ◌≢◌, refl, sym, ap, ap₂, ◌∙◌, ℕ, ◌+◌, ◌-◌, ◌*◌, ◌≤◌, Bool, true, ◌&&◌, List, [], ◌∷◌, Option, Some, None, max, arith}
use Rattle.std.specs.List.{list_all}
use Rattle.std.proofs.lemmas.Bool.{and_parts, cond-false, cond-true, eqb-true, false≢true, or_left, or_right}
use Rattle.gsl_instr.specs.declared.enumerant.decoration.TheConstants as decoration
use Rattle.gsl_instr.specs.declared.instruction.Instruction.{Instruction}
use Rattle.gsl_instr.specs.declared.instruction.Instruction.TheVariants as instruction
use Rattle.gsl_layout.specs.Layout as layout
use Rattle.gsl_layout.specs.Layout.{AreParts, IsLayout, Layout, Leaf, Array, Runtime, Group, Parts, End, Part}
use Rattle.gsl_words.specs.declared.module.Module.{Module}
use Rattle.gsl_valid.specs.Decorations.{number_on, number_on_member}
use Rattle.gsl_valid.specs.Ids.{defined, defines, needs, result}
use Rattle.gsl_valid.specs.Instruction.{read}
use Rattle.gsl_valid.specs.Kinds.{Shape, OfVoid, OfBool, OfInt, OfVector, OfArray, OfRuntimeArray, OfStruct, OfPointer, OfFunction, NoType, shape_of, value_of}
use Rattle.gsl_valid.specs.LayoutRules.{array_of, end_after, end_of_last, need, need_as}
use Rattle.gsl_valid.specs.Placed.{Code}
use Rattle.gsl_valid.specs.Search.{passed, whole}
use Rattle.gsl_valid.specs.Types.{Scalar, defined_as, lanes_in, lanes_of, lanes_with, scalar_in}
use Rattle.gsl_owed.specs.Types.{array_lies, has_size, is_number, lies, members_lie, runtime_lies, shape_at, strides_by, struct_lies}
use Rattle.gsl_sound_code.specs.Rules.{KeepAll}
use Rattle.gsl_sound_code.proofs.Looks.{Kept, found}
use Rattle.gsl_sound_values.proofs.Unfolded.{Made, later_not, made_of, passed_whole, result_defines}

module _ (m : Module) where
  -- ---- by the needs of parts

  module _ (test : ℕ → Bool) (f g : ℕ → ℕ) (same : (id : ℕ) → test id ≡ true → f id ≡ g id) where
    last_same : (struct member end : ℕ) (types : List ℕ) → list_all test types ≡ true → end_of_last m f struct member end types ≡ end_of_last m g struct member end types
    last_same struct member end [] all = refl
    last_same struct member end (type ∷ types) all =
        let parts = and_parts (test type) (list_all test types) all in
        ap (λ n. end_of_last m f struct (member + 1) (end_after (number_on_member m decoration.OFFSET struct member) n) types) (same type parts.0) ∙ last_same struct (member + 1) _ types parts.1

    need_same : (id : ℕ) (s : Shape) → Made test s → need_as m f id s ≡ need_as m g id s
    need_same id (OfArray element length) made = ap (λ n. array_of (number_on m decoration.ARRAY_STRIDE id) (value_of (defined_as m length)) (λ stride count. stride * (count - 1) + n)) (same element made)
    need_same id (OfStruct struct members) made = last_same struct 0 0 members made
    need_same id _ made = refl

  need_stays : (before code : Code) (type : ℕ) → KeepAll m before code → defined before type ≡ true → need m (passed before code) type ≡ need m before type
  need_stays before [] type keep is = refl
  need_stays before (i ∷ code) type keep is =
      need_stays (i ∷ before) code type keep.1 (or_right (defines i type) _ is) ∙ cond-false (defines i type) _ _ (later_not m before i code type keep.0 is)

  need_is : (before code : Code) (type : ℕ) → KeepAll m before code → defined before type ≡ true → need m (whole m) type ≡ need m before type
  need_is before code type keep is = ap (λ c. need m c type) (sym (passed_whole m before code keep)) ∙ need_stays before code type keep is

  -- what a type needs
  abbrev pub need_in : ℕ → ℕ
  need_in type = need m (whole m) type

  module _ (kept : Kept m) where
    need_unfolds : (type : ℕ) (d : Instruction) → defined_as m type ≡ Some d → need_in type ≡ need_as m need_in type (shape_of (defined_as m type))
    need_unfolds type d is =
        let f = found m [] m.instrs type d kept.all is in
        let here = result_defines f.instr type f.gives in
        need_is (f.instr ∷ f.before) f.code type f.later (or_left _ _ here)
        ∙ cond-true (defines f.instr type) _ _ here
        ∙ sym (need_same (defined f.before) need_in (need m f.before) (λ part there. need_is (f.instr ∷ f.before) f.code part f.later (or_right (defines f.instr part) _ there)
        ∙ cond-false (defines f.instr part) _ _ (later_not m f.before f.instr f.code part f.keeps there)) type (shape_of (read f.instr))
        (made_of (defined f.before) (read f.instr) (and_parts (list_all (defined f.before) (needs (read f.instr))) _ f.keeps.uses).0))
        ∙ ap (λ x. need_as m need_in type (shape_of x)) (f.reads ∙ sym is)

    -- what a type needs that has a shape
    shaped_need : (type : ℕ) (s : Shape) → shape_at m type ≡ s → s ≢ NoType → need_in type ≡ need_as m need_in type s
    shaped_need type s is some = by (defined_as m type) refl
      where
        by : (d : Option Instruction) → defined_as m type ≡ d → need_in type ≡ need_as m need_in type s
        by None none = absurd (some (sym is ∙ ap shape_of none))
        by (Some d) has = need_unfolds type d has ∙ ap (need_as m need_in type) is

    -- the id of a struct's type
    own_struct : (type id : ℕ) (members : List ℕ) → shape_at m type ≡ OfStruct id members → id ≡ type
    own_struct type id members is = by (defined_as m type) refl is
      where
        of_read : (d : Instruction) → result (Some d) ≡ Some type → shape_of (Some d) ≡ OfStruct id members → id ≡ type
        of_read (instruction.TypeStruct r ts) gives e = let both : Some r ≡ Some type = gives in let same : OfStruct r ts ≡ OfStruct id members = e in cc
        of_read _ gives e = absurd (cc)

        by : (d : Option Instruction) → defined_as m type ≡ d → shape_of d ≡ OfStruct id members → id ≡ type
        by None here e = absurd (cc)
        by (Some d) here e = let f = found m [] m.instrs type d kept.all here in of_read d (ap result (sym f.reads) ∙ f.gives) e

    -- ---- by a layout

    told : (n : ℕ) (o : Option ℕ) → is_number n o ≡ true → o ≡ Some n
    told n None is = absurd (false≢true is)
    told n (Some number) is = ap Some (eqb-true number n is)

    leaf_need : (components type : ℕ) (s : Shape) → shape_at m type ≡ s → has_size m components (lanes_of m type) ≡ true → need_in type ≡ 4 * components
    leaf_need components type s is size = by s is (ap (λ x. has_size m components (lanes_in m x)) (sym is) ∙ size)
      where
        by : (x : Shape) → shape_at m type ≡ x → has_size m components (lanes_in m x) ≡ true → need_in type ≡ 4 * components
        by OfBool here e = shaped_need type OfBool here (λ never. absurd cc) ∙ ap (λ n. 4 * n) (eqb-true 1 components e)
        by (OfInt signedness) here e = shaped_need type (OfInt signedness) here (λ never. absurd cc) ∙ ap (λ n. 4 * n) (eqb-true 1 components e)
        by (OfVector component count) here e = shaped_need type (OfVector component count) here (λ never. absurd cc) ∙ ap (λ n. 4 * n) (counted (scalar_in (shape_of (defined_as m component))) e)
          where
            counted : (o : Option Scalar) → has_size m components (lanes_with count o) ≡ true → count ≡ components
            counted None never = absurd (false≢true never)
            counted (Some s) same = eqb-true count components same
        by OfVoid here e = absurd (false≢true e)
        by (OfArray element length) here e = absurd (false≢true e)
        by (OfRuntimeArray element) here e = absurd (false≢true e)
        by (OfStruct id members) here e = absurd (false≢true e)
        by (OfPointer class pointee) here e = absurd (false≢true e)
        by (OfFunction returned parameters) here e = absurd (false≢true e)
        by NoType here e = absurd (false≢true e)

    -- members end where the last one does
    at_least : (from end : ℕ) (ps : Parts) → AreParts from ps end → from ≤ layout.need_of ps
    at_least from end End are = absurd are
    at_least from end (Part offset l End) are = omega (arith, are.0)
    at_least from end (Part offset l (Part next inner rest)) are = omega (arith, are.0)

    array_need : (stride count : ℕ) (element : Layout) (type : ℕ) → ((t : ℕ) → lies m element t ≡ true → need_in t ≡ layout.need element) → (s : Shape) → shape_at m type ≡ s → array_lies m (λ t. lies m element t) type stride count s ≡ true → need_in type ≡ stride * (count - 1) + layout.need element
    array_need stride count element type its (OfArray part length) here lie =
        let first = and_parts (strides_by m type stride && is_number count (value_of (defined_as m length))) (lies m element part) lie in
        let second = and_parts (strides_by m type stride) (is_number count (value_of (defined_as m length))) first.0 in
        shaped_need type (OfArray part length) here (λ never. absurd cc)
        ∙ ap₂ (λ s c. array_of s c (λ stride count. stride * (count - 1) + need_in part)) (told stride (number_on m decoration.ARRAY_STRIDE type) second.0) (told count (value_of (defined_as m length)) second.1)
        ∙ ap (λ n. stride * (count - 1) + n) (its part first.1)
    array_need stride count element type its OfVoid here lie = absurd (false≢true lie)
    array_need stride count element type its OfBool here lie = absurd (false≢true lie)
    array_need stride count element type its (OfInt signedness) here lie = absurd (false≢true lie)
    array_need stride count element type its (OfVector component n) here lie = absurd (false≢true lie)
    array_need stride count element type its (OfRuntimeArray part) here lie = absurd (false≢true lie)
    array_need stride count element type its (OfStruct id members) here lie = absurd (false≢true lie)
    array_need stride count element type its (OfPointer class pointee) here lie = absurd (false≢true lie)
    array_need stride count element type its (OfFunction returned parameters) here lie = absurd (false≢true lie)
    array_need stride count element type its NoType here lie = absurd (false≢true lie)

    runtime_need : (element : ℕ → Bool) (type stride : ℕ) (s : Shape) → shape_at m type ≡ s → runtime_lies m element type stride s ≡ true → need_in type ≡ 0
    runtime_need element type stride (OfRuntimeArray part) here lie = shaped_need type (OfRuntimeArray part) here (λ never. absurd cc)
    runtime_need element type stride OfVoid here lie = absurd (false≢true lie)
    runtime_need element type stride OfBool here lie = absurd (false≢true lie)
    runtime_need element type stride (OfInt signedness) here lie = absurd (false≢true lie)
    runtime_need element type stride (OfVector component n) here lie = absurd (false≢true lie)
    runtime_need element type stride (OfArray part length) here lie = absurd (false≢true lie)
    runtime_need element type stride (OfStruct id members) here lie = absurd (false≢true lie)
    runtime_need element type stride (OfPointer class pointee) here lie = absurd (false≢true lie)
    runtime_need element type stride (OfFunction returned parameters) here lie = absurd (false≢true lie)
    runtime_need element type stride NoType here lie = absurd (false≢true lie)

    group_need : (members : Parts) (type : ℕ) → ((types : List ℕ) → members_lie m members type 0 types ≡ true → end_of_last m need_in type 0 0 types ≡ layout.need_of members) → (s : Shape) → shape_at m type ≡ s → struct_lies m (λ types. members_lie m members type 0 types) s ≡ true → need_in type ≡ layout.need_of members
    group_need members type its (OfStruct id types) here lie = shaped_need type (OfStruct id types) here (λ never. absurd cc) ∙ ap (λ n. end_of_last m need_in n 0 0 types) (own_struct type id types here) ∙ its types lie
    group_need members type its OfVoid here lie = absurd (false≢true lie)
    group_need members type its OfBool here lie = absurd (false≢true lie)
    group_need members type its (OfInt signedness) here lie = absurd (false≢true lie)
    group_need members type its (OfVector component n) here lie = absurd (false≢true lie)
    group_need members type its (OfArray part length) here lie = absurd (false≢true lie)
    group_need members type its (OfRuntimeArray part) here lie = absurd (false≢true lie)
    group_need members type its (OfPointer class pointee) here lie = absurd (false≢true lie)
    group_need members type its (OfFunction returned parameters) here lie = absurd (false≢true lie)
    group_need members type its NoType here lie = absurd (false≢true lie)

    no_more : (type number : ℕ) (ts : List ℕ) → members_lie m End type number ts ≡ true → ts ≡ []
    no_more type number [] is = refl
    no_more type number (x ∷ ts) is = absurd (false≢true is)

    greater : (a b : ℕ) → a ≤ b → b ≡ max a b
    greater a b less = omega (arith, less)

    mutual
      pub need_laid : (l : Layout) (type : ℕ) → IsLayout l → lies m l type ≡ true → need_in type ≡ layout.need l
      need_laid (Leaf components) type is lie = leaf_need components type (shape_at m type) refl lie
      need_laid (Array stride count element) type is lie = array_need stride count element type (λ t lies_so. need_laid element t is.0 lies_so) (shape_at m type) refl lie
      need_laid (Runtime stride element) type is lie = runtime_need (λ t. lies m element t) type stride (shape_at m type) refl lie
      need_laid (Group members all) type is lie = group_need members type (λ types lie_so. members_need members 0 all type 0 0 types is.0 lie_so) (shape_at m type) refl lie

      members_need : (ps : Parts) (from all type number end : ℕ) (types : List ℕ) → AreParts from ps all → members_lie m ps type number types ≡ true → end_of_last m need_in type number end types ≡ layout.need_of ps
      members_need End from all type number end types are lie = absurd are
      members_need (Part offset l rest) from all type number end [] are lie = absurd (false≢true lie)
      members_need (Part offset l End) from all type number end (t ∷ types) are lie =
          let first = and_parts (is_number offset (number_on_member m decoration.OFFSET type number) && lies m l t) (members_lie m End type (number + 1) types) lie in
          let second = and_parts (is_number offset (number_on_member m decoration.OFFSET type number)) (lies m l t) first.0 in
          ap (end_of_last m need_in type (number + 1) (end_after (number_on_member m decoration.OFFSET type number) (need_in t))) (no_more type (number + 1) types first.1)
          ∙ ap (λ o. end_after o (need_in t)) (told offset (number_on_member m decoration.OFFSET type number) second.0) ∙ ap (λ n. offset + n) (need_laid l t are.2 second.1) ∙ omega arith
      members_need (Part offset l (Part next inner rest)) from all type number end (t ∷ types) are lie =
          let first = and_parts (is_number offset (number_on_member m decoration.OFFSET type number) && lies m l t) (members_lie m (Part next inner rest) type (number + 1) types) lie in
          members_need (Part next inner rest) (offset + layout.need l) all type (number + 1) (end_after (number_on_member m decoration.OFFSET type number) (need_in t)) types are.5 first.1
          ∙ greater (offset + layout.need l) (layout.need_of (Part next inner rest)) (at_least (offset + layout.need l) all (Part next inner rest) are.5)
