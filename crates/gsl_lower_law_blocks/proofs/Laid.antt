-- Chains into blocks, by the layouts by which types lie.
use Rattle.std.proofs.Common.{◌≡◌, refl, sym, ap, ap₂, ◌∙◌, subst, ℕ, zero, suc, ◌+◌, ◌-◌, ◌*◌, ◌/◌, ◌<◌, ◌≤◌, true, ◌&&◌, if◌then◌else◌, List, [], ◌∷◌, ◌++◌, length, map, Option, Some, None, arith}
use Rattle.std.specs.Prelude.{nat_lt, slice_index, unwrap_or}
use Rattle.std.specs.List.{range_with_len}
use Rattle.std.proofs.lemmas.Bool.{and_parts, cond-true, eqb-true, false≢true, lt-ltb}
use Rattle.gsl_base.specs.declared.input.Input.{Input}
use Rattle.gsl_instr.specs.declared.enumerant.decoration.TheConstants as decoration
use Rattle.gsl_layout.specs.Layout.{Layout, Leaf, Array, Runtime, Group, Parts, End, Part, part_at, offset_at}
use Rattle.gsl_words.specs.Words.{word_at}
use Rattle.gsl_words.specs.declared.module.Module.{Module}
use Rattle.gsl_tree.specs.Values.{of_components}
use Rattle.gsl_views.specs.Paths.{Leads, here, member, element, open_element}
use Rattle.gsl_views.specs.Seen.{seen}
use Rattle.gsl_views.specs.Viewed.{IsArray, elements}
use Rattle.gsl_meaning.specs.Blocks.{value_of}
use Rattle.gsl_valid.specs.Decorations.{number_on, number_on_member}
use Rattle.gsl_valid.specs.Kinds.{Shape, OfVoid, OfBool, OfInt, OfVector, OfArray, OfRuntimeArray, OfStruct, OfPointer, OfFunction, NoType, shape_of, value_of as number_of}
use Rattle.gsl_valid.specs.Types.{Lanes, defined_as, lanes_of}
use Rattle.gsl_machine.specs.Constants.{length_by}
use Rattle.gsl_machine.specs.Memory.{at_offset, at_stride, bytes_of, counting, into_block, part_as, parts_as, size_of, strides_in}
use Rattle.gsl_machine.specs.State.{InBlock, InVariable, Outcome, Pointer, State, Strayed, Stuck, on}
use Rattle.gsl_owed.specs.Types.{array_lies, has_size, is_number, lies, members_lie, runtime_lies, shape_at, strides_by, struct_lies}
use Rattle.gsl_lower_law_places.specs.Leading.{HoldsValue, StraysFrom}
use Rattle.gsl_lower_law_places.proofs.Blocks.{held_value}
use Rattle.gsl_lower_law_places.proofs.Reading.{leads_on}
use Rattle.gsl_lower_law_copies.proofs.OfLawPicks.{block_strays, stray_behind, stray_on}
use Rattle.gsl_lower_law_copies.specs.Copying.{LeadsIn}

-- ---- what decorations say

number_is : (n : ℕ) (o : Option ℕ) → is_number n o ≡ true → o ≡ Some n
number_is n None e = absurd (false≢true e)
number_is n (Some number) e = ap Some (eqb-true number n e)

module _ (m : Module) where
  record LiesAsArray (e : Layout) (type stride count : ℕ) : Type 0 where
    part : ℕ
    long : ℕ
    is : shape_at m type ≡ OfArray part long
    strides : number_on m decoration.ARRAY_STRIDE type ≡ Some stride
    counts : number_of (defined_as m long) ≡ Some count
    lie : lies m e part ≡ true

  array_is : (e : Layout) (type stride count : ℕ) → lies m (Array stride count e) type ≡ true → LiesAsArray e type stride count
  array_is e type stride count = by (shape_at m type) refl
    where
      by : (s : Shape) → shape_at m type ≡ s → array_lies m (λ type. lies m e type) type stride count s ≡ true → LiesAsArray e type stride count
      by (OfArray part long) is pass =
          let both = and_parts (strides_by m type stride && is_number count (number_of (defined_as m long))) (lies m e part) pass in
          let first = and_parts (strides_by m type stride) (is_number count (number_of (defined_as m long))) both.0 in
          record { part = part; long = long; is = is; strides = number_is stride (number_on m decoration.ARRAY_STRIDE type) first.0; counts = number_is count (number_of (defined_as m long)) first.1; lie = both.1 }
      by OfVoid is pass = absurd (false≢true pass)
      by OfBool is pass = absurd (false≢true pass)
      by (OfInt signedness) is pass = absurd (false≢true pass)
      by (OfVector component count) is pass = absurd (false≢true pass)
      by (OfRuntimeArray inner) is pass = absurd (false≢true pass)
      by (OfStruct id members) is pass = absurd (false≢true pass)
      by (OfPointer class pointee) is pass = absurd (false≢true pass)
      by (OfFunction returned parameters) is pass = absurd (false≢true pass)
      by NoType is pass = absurd (false≢true pass)

  record LiesAsRuntime (e : Layout) (type stride : ℕ) : Type 0 where
    part : ℕ
    is : shape_at m type ≡ OfRuntimeArray part
    strides : number_on m decoration.ARRAY_STRIDE type ≡ Some stride
    lie : lies m e part ≡ true

  runtime_is : (e : Layout) (type stride : ℕ) → lies m (Runtime stride e) type ≡ true → LiesAsRuntime e type stride
  runtime_is e type stride = by (shape_at m type) refl
    where
      by : (s : Shape) → shape_at m type ≡ s → runtime_lies m (λ type. lies m e type) type stride s ≡ true → LiesAsRuntime e type stride
      by (OfRuntimeArray part) is pass =
          let both = and_parts (strides_by m type stride) (lies m e part) pass in
          record { part = part; is = is; strides = number_is stride (number_on m decoration.ARRAY_STRIDE type) both.0; lie = both.1 }
      by OfVoid is pass = absurd (false≢true pass)
      by OfBool is pass = absurd (false≢true pass)
      by (OfInt signedness) is pass = absurd (false≢true pass)
      by (OfVector component count) is pass = absurd (false≢true pass)
      by (OfArray inner long) is pass = absurd (false≢true pass)
      by (OfStruct id members) is pass = absurd (false≢true pass)
      by (OfPointer class pointee) is pass = absurd (false≢true pass)
      by (OfFunction returned parameters) is pass = absurd (false≢true pass)
      by NoType is pass = absurd (false≢true pass)

  record LiesAsStruct (members : Parts) (type : ℕ) : Type 0 where
    id : ℕ
    types : List ℕ
    is : shape_at m type ≡ OfStruct id types
    lie : members_lie m members type 0 types ≡ true

  struct_is : (members : Parts) (all type : ℕ) → lies m (Group members all) type ≡ true → LiesAsStruct members type
  struct_is members all type = by (shape_at m type) refl
    where
      by : (s : Shape) → shape_at m type ≡ s → struct_lies m (λ types. members_lie m members type 0 types) s ≡ true → LiesAsStruct members type
      by (OfStruct id types) is pass = record { id = id; types = types; is = is; lie = pass }
      by OfVoid is pass = absurd (false≢true pass)
      by OfBool is pass = absurd (false≢true pass)
      by (OfInt signedness) is pass = absurd (false≢true pass)
      by (OfVector component count) is pass = absurd (false≢true pass)
      by (OfArray inner long) is pass = absurd (false≢true pass)
      by (OfRuntimeArray inner) is pass = absurd (false≢true pass)
      by (OfPointer class pointee) is pass = absurd (false≢true pass)
      by (OfFunction returned parameters) is pass = absurd (false≢true pass)
      by NoType is pass = absurd (false≢true pass)

  -- a member among others, counted from a number on
  record HasMember (types : List ℕ) (type number k offset : ℕ) (l : Layout) : Type 0 where
    below : k < length types
    offsets : number_on_member m decoration.OFFSET type (number + k) ≡ Some offset
    lie : lies m l (slice_index types k) ≡ true

  some_layout : (a b : Layout) → Some a ≡ Some b → a ≡ b
  some_layout a b e = cc

  some_number : (a b : ℕ) → Some a ≡ Some b → a ≡ b
  some_number a b e = cc

  member_is : (members : Parts) (type number : ℕ) (types : List ℕ) (k offset : ℕ) (l : Layout) → members_lie m members type number types ≡ true → part_at members k ≡ Some l → offset_at members k ≡ Some offset → HasMember types type number k offset l
  member_is End type number types k offset l lie part at = absurd (let z : ◌≡◌ {A = Option Layout} None (Some l) = part in cc)
  member_is (Part o first rest) type number [] k offset l lie part at = absurd (false≢true lie)
  member_is (Part o first rest) type number (t ∷ types) zero offset l lie part at =
      let both = and_parts (is_number o (number_on_member m decoration.OFFSET type number) && lies m first t) (members_lie m rest type (number + 1) types) lie in
      let here = and_parts (is_number o (number_on_member m decoration.OFFSET type number)) (lies m first t) both.0 in
      record {
        below = omega arith;
        offsets = ap (number_on_member m decoration.OFFSET type) (let z : number + 0 ≡ number = omega arith in z) ∙ number_is o (number_on_member m decoration.OFFSET type number) here.0 ∙ at;
        lie = subst (λ l. lies m l t ≡ true) (some_layout first l part) here.1;
      }
  member_is (Part o first rest) type number (t ∷ types) (suc k) offset l lie part at =
      let both = and_parts (is_number o (number_on_member m decoration.OFFSET type number) && lies m first t) (members_lie m rest type (number + 1) types) lie in
      let later = member_is rest type (number + 1) types k offset l both.1 part at in
      record {
        below = let less = later.below in omega (arith, less);
        offsets = ap (number_on_member m decoration.OFFSET type) (let z : number + suc k ≡ number + 1 + k = omega arith in z) ∙ later.offsets;
        lie = later.lie;
      }

  counted_by : (length count : ℕ) → number_of (defined_as m length) ≡ Some count → length_by m length ≡ count
  counted_by length count e = ap (λ o. unwrap_or o 0) e

  -- ---- one step

  module _ (input : Input) (variable : ℕ) where
    steps : (at type k size : ℕ) (s : Shape) (p : Pointer) → shape_at m type ≡ s → k < parts_as m size at type s → part_as m variable at type k s ≡ Some p → LeadsIn m input variable size (InBlock variable at type) (k ∷ []) p
    steps at type k size s p is less part state bytes there long place go =
        ap (λ o. on o (into_block m input place variable at type k go)) there
        ∙ ap₂ (λ s n. if nat_lt k (parts_as m n at type s) then on (part_as m variable at type k s) go else Strayed place) is long
        ∙ cond-true (nat_lt k (parts_as m size at type s)) (on (part_as m variable at type k s) go) (Strayed place) (lt-ltb k (parts_as m size at type s) less)
        ∙ ap (λ o. on o go) part

    pub joins : (size : ℕ) (from to one : Pointer) (words ws : List ℕ) → LeadsIn m input variable size from words to → LeadsIn m input variable size to ws one → LeadsIn m input variable size from (words ++ ws) one
    joins size from to one words ws first second state bytes there long = leads_on m input state from to one words ws (first state bytes there long) (second state bytes there long)

    element_steps : (e : Layout) (at type stride count k size : ℕ) (lie : LiesAsArray e type stride count) → k < count → LeadsIn m input variable size (InBlock variable at type) (k ∷ []) (InBlock variable (at + stride * k) lie.part)
    element_steps e at type stride count k size lie less =
        steps at type k size (OfArray lie.part lie.long) (InBlock variable (at + stride * k) lie.part) lie.is (subst (λ n. k < n) (sym (counted_by lie.long count lie.counts)) less)
        (ap (λ o. at_stride variable at o k lie.part) lie.strides)

    open_steps : (e : Layout) (at type stride k size : ℕ) (lie : LiesAsRuntime e type stride) → k < (size - at) / stride → LeadsIn m input variable size (InBlock variable at type) (k ∷ []) (InBlock variable (at + stride * k) lie.part)
    open_steps e at type stride k size lie less =
        steps at type k size (OfRuntimeArray lie.part) (InBlock variable (at + stride * k) lie.part) lie.is (subst (λ n. k < n) (sym (ap (strides_in size at) lie.strides)) less)
        (ap (λ o. at_stride variable at o k lie.part) lie.strides)

    member_part : (members : Parts) (at type k offset : ℕ) (l : Layout) (lie : LiesAsStruct members type) → HasMember lie.types type 0 k offset l → part_as m variable at type k (OfStruct lie.id lie.types) ≡ Some (InBlock variable (at + offset) (slice_index lie.types k))
    member_part members at type k offset l lie has = ap (λ o. at_offset variable at o (slice_index lie.types k)) (ap (number_on_member m decoration.OFFSET type) (let z : k ≡ 0 + k = omega arith in z) ∙ has.offsets)

    member_steps : (members : Parts) (at type k offset size : ℕ) (l : Layout) (lie : LiesAsStruct members type) (has : HasMember lie.types type 0 k offset l) → LeadsIn m input variable size (InBlock variable at type) (k ∷ []) (InBlock variable (at + offset) (slice_index lie.types k))
    member_steps members at type k offset size l lie has = steps at type k size (OfStruct lie.id lie.types) (InBlock variable (at + offset) (slice_index lie.types k)) lie.is has.below (member_part members at type k offset l lie has)

    -- ---- whole paths

    -- where a path leads in a module
    abbrev pub LeadsSo : ℕ → ℕ → ℕ → List ℕ → Layout → ℕ → Type 0
    LeadsSo size at type path part offset = (pointee : ℕ) × (lies m part pointee ≡ true) × LeadsIn m input variable size (InBlock variable at type) path (InBlock variable offset pointee)

    behind_step : (size at type k to part_type offset : ℕ) (path : List ℕ) (part : Layout) → LeadsIn m input variable size (InBlock variable at type) (k ∷ []) (InBlock variable to part_type) → LeadsSo size to part_type path part offset → LeadsSo size at type (k ∷ path) part offset
    behind_step size at type k to part_type offset path part first later = (later.0, later.1, joins size (InBlock variable at type) (InBlock variable to part_type) (InBlock variable offset later.0) (k ∷ []) path first later.2)

    pub paths_lead : (size : ℕ) (l part : Layout) (at type offset : ℕ) (path : List ℕ) → lies m l type ≡ true → Leads size l at path part offset → LeadsSo size at type path part offset
    paths_lead size l part at type offset path lie here = (type, lie, λ state bytes there long place go. refl)
    paths_lead size l part at type offset path lie (member {members = members} {all = all} {i = i} {o = o} {m = inner} {path = rest} is_part is_offset leads) =
        let struct = struct_is members all type lie in
        let has = member_is members type 0 struct.types i o inner struct.lie is_part is_offset in
        behind_step size at type i (at + o) (slice_index struct.types i) offset rest part (member_steps members at type i o size inner struct has) (paths_lead size inner part (at + o) (slice_index struct.types i) offset rest has.lie leads)
    paths_lead size l part at type offset path lie (element {stride = stride} {count = count} {i = i} {e = e} {path = rest} below leads) =
        let array = array_is e type stride count lie in
        behind_step size at type i (at + stride * i) array.part offset rest part (element_steps e at type stride count i size array below) (paths_lead size e part (at + stride * i) array.part offset rest array.lie leads)
    paths_lead size l part at type offset path lie (open_element {stride = stride} {i = i} {e = e} {path = rest} below leads) =
        let array = runtime_is e type stride lie in
        behind_step size at type i (at + stride * i) array.part offset rest part (open_steps e at type stride i size array below) (paths_lead size e part (at + stride * i) array.part offset rest array.lie leads)

  -- ---- counts

  pub arrays_counted : (size offset type : ℕ) (l : Layout) → lies m l type ≡ true → IsArray l → parts_as m size offset type (shape_at m type) ≡ elements l offset size
  arrays_counted size offset type (Leaf components) lie array = absurd array
  arrays_counted size offset type (Array stride count e) lie array =
      let is = array_is e type stride count lie in
      ap (parts_as m size offset type) is.is ∙ counted_by is.long count is.counts
  arrays_counted size offset type (Runtime stride e) lie array =
      let is = runtime_is e type stride lie in
      ap (parts_as m size offset type) is.is ∙ ap (strides_in size offset) is.strides
  arrays_counted size offset type (Group members all) lie array = absurd array

  pub lengths_counted : (input : Input) (state : State) (variable at type k all offset : ℕ) (members : Parts) (l : Layout) (bytes : List ℕ) (go : ℕ → Outcome) → lies m (Group members all) type ≡ true → bytes_of m input state variable ≡ Some bytes → part_at members k ≡ Some l → offset_at members k ≡ Some offset → IsArray l
      → counting m input state (InBlock variable at type) k go ≡ go (elements l (at + offset) (length bytes))
  lengths_counted input state variable at type k all offset members l bytes go lie there part is_offset array =
      let struct = struct_is members all type lie in
      let has = member_is members type 0 struct.types k offset l struct.lie part is_offset in
      ap (λ o. on o (λ bytes. on (part_as m variable at type k (shape_at m type)) (count_at bytes))) there
      ∙ ap (λ s. on (part_as m variable at type k s) (count_at bytes)) struct.is
      ∙ ap (λ o. on o (count_at bytes)) (member_part input variable members at type k offset l struct has)
      ∙ ap go (arrays_counted (length bytes) (at + offset) (slice_index struct.types k) l has.lie array)
    where
      count_at : List ℕ → Pointer → Outcome
      count_at bytes (InBlock variable offset pointee) = go (parts_as m (length bytes) offset pointee (shape_of (defined_as m pointee)))
      count_at bytes (InVariable number path) = Stuck

  -- ---- leaves

  pub sized : (n : ℕ) (o : Option Lanes) → has_size m n o ≡ true → size_of o ≡ n
  sized n None e = absurd (false≢true e)
  sized n (Some lanes) e = eqb-true lanes.size n e

  pub leaf_held : (input : Input) (state : State) (variable offset pointee components : ℕ) (bytes : List ℕ) → lies m (Leaf components) pointee ≡ true → bytes_of m input state variable ≡ Some bytes → HoldsValue m input state (InBlock variable offset pointee) (value_of (seen (Leaf components) offset bytes))
  leaf_held input state variable offset pointee components bytes lie there =
      subst (λ n. HoldsValue m input state (InBlock variable offset pointee) (of_components (map (λ k. word_at bytes (offset + 4 * k)) (range_with_len 0 n)))) (sized components (lanes_of m pointee) lie) (held_value m input state variable offset pointee bytes there)

  -- ---- indexes out of bounds

  pub elements_stray : (input : Input) (state : State) (variable at type : ℕ) (l part : Layout) (bytes path more : List ℕ) (offset index : ℕ) → lies m l type ≡ true → bytes_of m input state variable ≡ Some bytes → Leads (length bytes) l at path part offset → IsArray part → elements part offset (length bytes) ≤ index
      → StraysFrom m input state (InBlock variable at type) (path ++ index ∷ more)
  elements_stray input state variable at type l part bytes path more offset index lie there leads array most =
      let so = paths_lead input variable (length bytes) l part at type offset path lie leads in
      stray_behind m input state (InBlock variable at type) (InBlock variable offset so.0) path (index ∷ more) (so.2 state bytes there refl)
      (stray_on m input state (InBlock variable offset so.0) (index ∷ []) more
      (block_strays m input state variable offset so.0 index bytes there (subst (λ n. n ≤ index) (sym (arrays_counted (length bytes) offset so.0 part so.1 array)) most)))
