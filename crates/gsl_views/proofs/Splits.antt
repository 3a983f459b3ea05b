-- Two parts of a layout, in bytes that are cut where the second begins.
use Rattle.std.proofs.Common.{◌≡◌, refl, sym, ap, subst, ◌∙◌, ℕ, zero, suc, ◌+◌, ◌-◌, ◌*◌, ◌/◌, ◌<◌, ◌≤◌, List, ◌++◌, length, Some, IsSome, IsTrue, arith}
use Rattle.std.proofs.Math.Nat.{mul-le-mul_left}
use Rattle.std.proofs.lemmas.Bool.{lt-ltb}
use Rattle.std.proofs.lemmas.Option.{none-some}
use Rattle.gsl_layout.specs.Layout.{Layout, Leaf, Array, Runtime, Group, Parts, End, Part, IsLayout, closed, element_of, members_of, need, part_at, offset_at, stride_of}
use Rattle.gsl_views.specs.Seen.{child, seen}
use Rattle.gsl_views.specs.Viewed.{HasMember, elements}
use Rattle.gsl_views.proofs.Changes.{kept_guard, next_le}
use Rattle.gsl_views.proofs.Cuts.{seen_first, seen_second}
use Rattle.gsl_layout.proofs.Order.{earlier_apart, layout_or, number_or}
use Rattle.gsl_views.proofs.Parts.{child_member, element_need, member_need, need_members}

-- an element is closed and no wider than the stride
element_facts : (l : Layout) → IsLayout l → (s : ℕ) → stride_of l ≡ Some s → (e : Layout) → element_of l ≡ Some e → IsTrue (closed e) × (need e ≤ s)
element_facts (Leaf components) is s stride e element = elim (none-some _ stride) [ ]
element_facts (Array t count el) is s stride e element =
    let same = ap (layout_or e) element in
    (subst (λ l. IsTrue (closed l)) same is.1, omega (arith, is.4, ap need same, ap (number_or s) stride))
element_facts (Runtime t el) is s stride e element =
    let same = ap (layout_or e) element in
    (subst (λ l. IsTrue (closed l)) same is.1, omega (arith, is.4, ap need same, ap (number_or s) stride))
element_facts (Group members all) is s stride e element = elim (none-some _ stride) [ ]

-- what is seen of an element
pub child_element : (l : Layout) (at : ℕ) (bytes : List ℕ) (i : ℕ) → i < elements l at (length bytes) → (s : ℕ) → stride_of l ≡ Some s → (e : Layout) → element_of l ≡ Some e
    → seen e (at + s * i) bytes ≡ child (seen l at bytes) i
child_element (Leaf components) at bytes i below s stride e element = elim (none-some _ stride) [ ]
child_element (Array t count el) at bytes i below s stride e element =
    ap (λ n. seen e (at + n * i) bytes) (sym (ap (number_or s) stride)) ∙ ap (λ l. seen l (at + t * i) bytes) (sym (ap (layout_or e) element))
    ∙ sym (kept_guard _ (seen el (at + t * i) bytes) (lt-ltb i count below))
child_element (Runtime t el) at bytes i below s stride e element =
    ap (λ n. seen e (at + n * i) bytes) (sym (ap (number_or s) stride)) ∙ ap (λ l. seen l (at + t * i) bytes) (sym (ap (layout_or e) element))
    ∙ sym (kept_guard _ (seen el (at + t * i) bytes) (lt-ltb i ((length bytes - at) / t) below))
child_element (Group members all) at bytes i below s stride e element = elim (none-some _ stride) [ ]

module _ (l : Layout) (is : IsLayout l) (start : ℕ) (bytes : List ℕ) (fits : start + need l ≤ length bytes) (i j : ℕ) (order : i < j) where
  module _ (s : ℕ) (stride : stride_of l ≡ Some s) (below : j < elements l start (length bytes)) where
    pub first_element_fits : (e : Layout) → element_of l ≡ Some e → start + s * i + need e ≤ start + s * j
    first_element_fits e element =
        let facts = element_facts l is s stride e element in
        let step = mul-le-mul_left s (next_le i j order) in
        let split : s * (i + 1) ≡ s * i + s = omega arith in
        omega (arith, facts.1, step, split)

    pub second_element_fits : (e : Layout) → element_of l ≡ Some e → start + s * j + need e ≤ length bytes
    second_element_fits e element = element_need l is start (length bytes) fits j below s stride e element

    module _ (a b : List ℕ) (cut : bytes ≡ a ++ b) (at : length a ≡ start + s * j) where
      pub first_element_shown : (e : Layout) → element_of l ≡ Some e → seen e (start + s * i) a ≡ child (seen l start bytes) i
      first_element_shown e element =
          sym (seen_first a b e (start + s * i) (element_facts l is s stride e element).0 (omega (arith, first_element_fits e element, at)))
          ∙ ap (seen e (start + s * i)) (sym cut) ∙ child_element l start bytes i (omega (arith, order, below)) s stride e element

      pub second_element_shown : (e : Layout) → element_of l ≡ Some e → seen e 0 b ≡ child (seen l start bytes) j
      second_element_shown e element =
          sym (seen_second a b e 0 (start + s * j) (omega (arith, at))) ∙ ap (seen e (start + s * j)) (sym cut) ∙ child_element l start bytes j below s stride e element

  module _ (o p : ℕ) (first : offset_at (members_of l) i ≡ Some o) (second : offset_at (members_of l) j ≡ Some p) where
    apart : (m : Layout) → part_at (members_of l) i ≡ Some m → IsTrue (closed m) × (o + need m ≤ p)
    apart m part = by_kind l is first second part
      where
        by_kind : (k : Layout) → IsLayout k → offset_at (members_of k) i ≡ Some o → offset_at (members_of k) j ≡ Some p → part_at (members_of k) i ≡ Some m → IsTrue (closed m) × (o + need m ≤ p)
        by_kind (Leaf components) k_is f s h = elim (none-some _ f) [ ]
        by_kind (Array stride count element) k_is f s h = elim (none-some _ f) [ ]
        by_kind (Runtime stride element) k_is f s h = elim (none-some _ f) [ ]
        by_kind (Group members all) k_is f s h = earlier_apart members 0 all i j o p m k_is.0 order h f s

    pub first_member_fits : (m : Layout) → part_at (members_of l) i ≡ Some m → start + o + need m ≤ start + p
    first_member_fits m part = omega (arith, (apart m part).1)

    pub second_member_fits : (m : Layout) → part_at (members_of l) j ≡ Some m → start + p + need m ≤ length bytes
    second_member_fits m part = omega (arith, member_need (members_of l) j p m second part, need_members l, fits)

    module _ (a b : List ℕ) (cut : bytes ≡ a ++ b) (at : length a ≡ start + p) where
      pub first_member_shown : (m : Layout) → part_at (members_of l) i ≡ Some m → seen m (start + o) a ≡ child (seen l start bytes) i
      first_member_shown m part =
          sym (seen_first a b m (start + o) (apart m part).0 (omega (arith, first_member_fits m part, at))) ∙ ap (seen m (start + o)) (sym cut) ∙ child_member l i o m start bytes first part

      pub second_member_shown : (m : Layout) → part_at (members_of l) j ≡ Some m → seen m 0 b ≡ child (seen l start bytes) j
      second_member_shown m part =
          sym (seen_second a b m 0 (start + p) (omega (arith, at))) ∙ ap (seen m (start + p)) (sym cut) ∙ child_member l j p m start bytes second part

-- a group that has a member has each before it
part_earlier : (parts : Parts) (i j : ℕ) → i < j → IsSome (part_at parts j) → IsSome (part_at parts i)
part_earlier End i j order some = some
part_earlier (Part offset layout rest) zero j order some = refl
part_earlier (Part offset layout rest) (suc i) zero order some = let never : ⊥ = omega (arith, order) in elim never [ ]
part_earlier (Part offset layout rest) (suc i) (suc j) order some = part_earlier rest i j (omega (arith, order)) some

pub member_earlier : (l : Layout) (i j : ℕ) → i < j → HasMember l j → HasMember l i
member_earlier l i j order some = part_earlier (members_of l) i j order some
