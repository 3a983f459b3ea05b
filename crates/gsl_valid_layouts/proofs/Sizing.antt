-- The tables of sizes as they grow by an instruction, and what is asked of them.
use Rattle.std.proofs.Common.{◌≡◌, ℕ, zero, suc, ◌+◌, ◌-◌, ◌*◌, ◌^◌, ◌%◌, ◌<◌, ◌≤◌, Bool, true, false, cond, ◌&&◌, min, max, List, [], ◌∷◌, length, set, get_or, Option, Some, None, refl, ap, sym, ◌∙◌, ◌⊎◌, inl, inr, ◌≢◌, arith}
use Rattle.std.specs.Prelude.{nat_eq, nat_le, nat_lt, slice_index}
use Rattle.std.proofs.lemmas.Bool.{cases_eq, cases_lt, cond-true, cond-false, eq-eqb, ne_eqb, lt-ltb, le-ltb, le-leb, lt-leb}
use Rattle.std.proofs.lemmas.List.{get_or-set_same, get_or-set_other}
use Rattle.gsl_words.specs.declared.module.Instr.{Instr}
use Rattle.gsl_words.specs.declared.module.Module.{Module}
use Rattle.gsl_instr.specs.declared.enumerant.decoration.TheConstants as decoration
use Rattle.gsl_valid.specs.Instruction.{read}
use Rattle.gsl_valid.specs.Ids.{result, is_id, defines}
use Rattle.gsl_valid.specs.Kinds.{Shape, OfVoid, OfBool, OfInt, OfVector, OfArray, OfRuntimeArray, OfStruct, OfPointer, OfFunction, NoType, shape_of, value_of}
use Rattle.gsl_valid.specs.Placed.{Code}
use Rattle.gsl_valid.specs.Types.{defined_as}
use Rattle.gsl_valid.specs.Decorations.{number_on, number_on_member}
use Rattle.gsl_valid.specs.LayoutRules.{need, need_as, extent, extent_as, array_of, end_after, end_of_last, greatest_end, is_at, is_laid, is_end, may_be_in, may_grow}
use Rattle.gsl_valid_layouts.specs.Sizes.{told, told_of, TellSizes, is_laid_by}

told_again : (x : ℕ) → told (told x) ≡ told x
told_again x = omega arith

told_sum : (a x : ℕ) → told (a + told x) ≡ told (a + x)
told_sum a x = omega arith

told_end : (offset : Option ℕ) (x y : ℕ) → x ≡ told y → told (end_after offset x) ≡ told (end_after offset y)
told_end None x y e = refl
told_end (Some offset) x y e = ap (λ z. told (offset + z)) e ∙ told_sum offset y

told_max : (a b x y : ℕ) → told a ≡ told b → told x ≡ told y → told (max a x) ≡ told (max b y)
told_max a b x y e f = omega (arith, e, f)

module _ (m : Module) (f g : ℕ → ℕ) (same : (id : ℕ) → f id ≡ told (g id)) where
  told_last : (struct member a b : ℕ) (types : List ℕ) → told a ≡ told b → told (end_of_last m f struct member a types) ≡ told (end_of_last m g struct member b types)
  told_last struct member a b [] e = e
  told_last struct member a b (type ∷ types) e = told_last struct (member + 1) _ _ types (told_end (number_on_member m decoration.OFFSET struct member) (f type) (g type) (same type))

  told_greatest : (struct member a b : ℕ) (types : List ℕ) → told a ≡ told b → told (greatest_end m f struct member a types) ≡ told (greatest_end m g struct member b types)
  told_greatest struct member a b [] e = e
  told_greatest struct member a b (type ∷ types) e =
      told_greatest struct (member + 1) _ _ types
      (told_max a b _ _ e (told_end (number_on_member m decoration.OFFSET struct member) (f type) (g type) (same type)))

  told_array : (stride count : Option ℕ) (element : ℕ) →
      told (array_of stride count (λ stride count. stride * (count - 1) + f element)) ≡ told (array_of stride count (λ stride count. stride * (count - 1) + g element))
  told_array None count element = refl
  told_array (Some stride) None element = refl
  told_array (Some stride) (Some count) element = ap (λ z. told (stride * (count - 1) + z)) (same element) ∙ told_sum (stride * (count - 1)) (g element)

  told_need : (id : ℕ) (s : Shape) → told (need_as m f id s) ≡ told (need_as m g id s)
  told_need id OfVoid = refl
  told_need id OfBool = refl
  told_need id (OfInt signedness) = refl
  told_need id (OfVector component count) = refl
  told_need id (OfArray element length) = told_array (number_on m decoration.ARRAY_STRIDE id) (value_of (defined_as m length)) element
  told_need id (OfRuntimeArray element) = refl
  told_need id (OfStruct struct members) = told_last struct 0 0 0 members refl
  told_need id (OfPointer class pointee) = refl
  told_need id (OfFunction returned parameters) = refl
  told_need id NoType = refl

  told_extent : (id : ℕ) (s : Shape) → told (extent_as m f id s) ≡ told (extent_as m g id s)
  told_extent id OfVoid = refl
  told_extent id OfBool = refl
  told_extent id (OfInt signedness) = refl
  told_extent id (OfVector component count) = refl
  told_extent id (OfArray element length) = refl
  told_extent id (OfRuntimeArray element) = refl
  told_extent id (OfStruct struct members) = told_greatest struct 0 0 0 members refl
  told_extent id (OfPointer class pointee) = refl
  told_extent id (OfFunction returned parameters) = refl
  told_extent id NoType = refl

told_cond : (b : Bool) (x y : ℕ) → cond b (told x) (told y) ≡ told (cond b x y)
told_cond true x y = refl
told_cond false x y = refl

-- what a table tells is what it is told of
pub tells_it : (rows : List ℕ) (size_of : ℕ → ℕ) → TellSizes rows size_of → (id : ℕ) → told_of rows id ≡ told (size_of id)
tells_it rows size_of tells id = ap told (tells id) ∙ told_again (size_of id)

module _ (rows : List ℕ) (i : Instr) (old made : ℕ → ℕ) (tells : (id : ℕ) → get_or rows id 0 ≡ old id) where
  none_put : result (read i) ≡ None → (id : ℕ) → get_or rows id 0 ≡ cond (defines i id) (made id) (old id)
  none_put e id = tells id ∙ sym (cond-false _ _ _ (ap (is_id id) e))

  one_put : (r v : ℕ) → v ≡ made r → r < length rows → result (read i) ≡ Some r → (id : ℕ) → get_or (set rows r v) id 0 ≡ cond (defines i id) (made id) (old id)
  one_put r v is room e id = by_cases (cases_eq r id)
    where
      by_cases : (r ≡ id) ⊎ (r ≢ id) → get_or (set rows r v) id 0 ≡ cond (defines i id) (made id) (old id)
      by_cases (inl same) =
          ap (λ k. get_or (set rows r v) k 0) (sym same) ∙ get_or-set_same rows r v 0 room ∙ is ∙ ap made same
          ∙ sym (cond-true _ _ _ (ap (is_id id) e ∙ eq-eqb r id same))
      by_cases (inr other) =
          get_or-set_other rows r id v 0 (λ same. other (sym same)) ∙ tells id ∙ sym (cond-false _ _ _ (ap (is_id id) e ∙ ne_eqb r id other))

module _ (m : Module) (before : Code) (i : Instr) (rows : List ℕ) where
  pub needs_stay : result (read i) ≡ None → TellSizes rows (need m before) → TellSizes rows (need m (i ∷ before))
  needs_stay e tells id =
      none_put rows i (λ k. told (need m before k)) (λ k. told (need_as m (need m before) k (shape_of (read i)))) tells e id ∙ told_cond (defines i id) _ _

  pub needs_grow : (r v : ℕ) → r < length rows → result (read i) ≡ Some r → v ≡ told (need_as m (told_of rows) r (shape_of (read i))) →
      TellSizes rows (need m before) → TellSizes (set rows r v) (need m (i ∷ before))
  needs_grow r v room e is tells id =
      one_put rows i (λ k. told (need m before k)) (λ k. told (need_as m (need m before) k (shape_of (read i)))) tells r v
      (is ∙ told_need m (told_of rows) (need m before) (tells_it rows (need m before) tells) r (shape_of (read i))) room e id
      ∙ told_cond (defines i id) _ _

  pub extents_stay : result (read i) ≡ None → TellSizes rows (extent m before) → TellSizes rows (extent m (i ∷ before))
  extents_stay e tells id =
      none_put rows i (λ k. told (extent m before k)) (λ k. told (extent_as m (extent m before) k (shape_of (read i)))) tells e id ∙ told_cond (defines i id) _ _

  pub extents_grow : (r v : ℕ) → r < length rows → result (read i) ≡ Some r → v ≡ told (extent_as m (told_of rows) r (shape_of (read i))) →
      TellSizes rows (extent m before) → TellSizes (set rows r v) (extent m (i ∷ before))
  extents_grow r v room e is tells id =
      one_put rows i (λ k. told (extent m before k)) (λ k. told (extent_as m (extent m before) k (shape_of (read i)))) tells r v
      (is ∙ told_extent m (told_of rows) (extent m before) (tells_it rows (extent m before) tells) r (shape_of (read i))) room e id
      ∙ told_cond (defines i id) _ _

and_false : (b : Bool) → (b && false) ≡ false
and_false true = refl
and_false false = refl

at_same : (offset : Option ℕ) (a b x y : ℕ) → told a ≡ told b → x ≡ told y → is_at offset a x ≡ is_at offset b y
at_same None a b x y e f = refl
at_same (Some o) a b x y e f = by_cases (cases_lt (o + y) 2147483648)
  where
    by_cases : ((o + y) < 2147483648) ⊎ (2147483648 ≤ o + y) → is_at (Some o) a x ≡ is_at (Some o) b y
    by_cases (inl low) =
        ap (λ c. nat_eq (o % 4) 0 && c && nat_lt (o + x) 2147483648) (ends (cases_lt o a))
        ∙ ap (λ c. nat_eq (o % 4) 0 && nat_le b o && c) (lt-ltb (o + x) 2147483648 (omega (arith, low, f)) ∙ sym (lt-ltb (o + y) 2147483648 low))
      where
        ends : (o < a) ⊎ (a ≤ o) → nat_le a o ≡ nat_le b o
        ends (inl less) = lt-leb a o less ∙ sym (lt-leb b o (omega (arith, less, low, e)))
        ends (inr more) = le-leb a o more ∙ sym (le-leb b o (omega (arith, more, low, e)))
    by_cases (inr high) =
        ap (λ c. nat_eq (o % 4) 0 && nat_le a o && c) (le-ltb (o + x) 2147483648 (omega (arith, high, f))) ∙ and_false _
        ∙ sym (ap (λ c. nat_eq (o % 4) 0 && nat_le b o && c) (le-ltb (o + y) 2147483648 high) ∙ and_false _)

module _ (m : Module) (before : Code) (needs extents : List ℕ) (tell_needs : TellSizes needs (need m before)) (tell_extents : TellSizes extents (extent m before)) where
  laid_from : (struct member a b : ℕ) (types : List ℕ) → told a ≡ told b → is_laid_by m needs extents struct member a types ≡ is_laid m before struct member b types
  laid_from struct member a b [] e = refl
  laid_from struct member a b (type ∷ types) e =
      let offset = number_on_member m decoration.OFFSET struct member in
      let may = may_be_in m (is_end types && may_grow m struct) (shape_of (defined_as m type)) in
      ap (λ c. may && c && is_laid_by m needs extents struct (member + 1) (end_after offset (told_of needs type)) types)
      (at_same offset a b (told_of extents type) (extent m before type) e (tells_it extents (extent m before) tell_extents type))
      ∙ ap (λ c. may && is_at offset b (extent m before type) && c)
      (laid_from struct (member + 1) _ _ types (told_end offset (told_of needs type) (need m before type) (tells_it needs (need m before) tell_needs type)))

  pub laid_same : (struct : ℕ) (types : List ℕ) → is_laid_by m needs extents struct 0 0 types ≡ is_laid m before struct 0 0 types
  laid_same struct types = laid_from struct 0 0 0 types refl
