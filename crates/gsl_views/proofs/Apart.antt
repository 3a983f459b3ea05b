-- Two parts of what is viewed, and the views of two halves of its bytes, cut where the second part begins.
use Rattle.std.proofs.Common.{◌≡◌, refl, sym, ap, ◌∙◌, ℕ, ◌+◌, ◌<◌, ◌≤◌, ◌++◌, length, Option, Some, None, IsSome, arith}
use Rattle.std.proofs.lemmas.Bool.{true≢false}
use Rattle.gsl_layout.specs.Layout.{Layout, Leaf, Array, Runtime, Group, IsLayout, members_of, need, offset_at, stride_of}
use Rattle.gsl_views.specs.Seen.{child, seen}
use Rattle.gsl_views.specs.Viewed.{Viewed, HasElement, HasMember, IsElement, IsMember, behind, elements, shown, standing}
use Rattle.gsl_views.proofs.Parts.{has_offset}
use Rattle.gsl_views.proofs.Splits.{first_element_fits, first_element_shown, first_member_fits, first_member_shown, member_earlier, second_element_fits, second_element_shown, second_member_fits, second_member_shown}

some_number : (o : Option ℕ) → IsSome o → (n : ℕ) × (o ≡ Some n)
some_number (Some n) some = (n, refl)
some_number None some = let never : ⊥ = true≢false (sym some) in elim never [ ]

some_stride : (l : Layout) (start bytes i : ℕ) → i < elements l start bytes → (s : ℕ) × (stride_of l ≡ Some s)
some_stride (Leaf components) start bytes i below = let never : ⊥ = omega (arith, below) in elim never [ ]
some_stride (Array stride count element) start bytes i below = (stride, refl)
some_stride (Runtime stride element) start bytes i below = (stride, refl)
some_stride (Group members all) start bytes i below = let never : ⊥ = omega (arith, below) in elim never [ ]

module _ (v : Viewed) (is : IsLayout v.layout) (fits : v.start + need v.layout ≤ length v.bytes) (i j : ℕ) (order : i < j) (first second : Layout) (start at : ℕ) where
  module _ (has : HasMember v.layout j) (m : IsMember v i (standing v.bytes start first)) (n : IsMember v j (standing v.bytes at second)) where
    o : (offset : ℕ) × (offset_at (members_of v.layout) i ≡ Some offset)
    o = some_number _ (has_offset (members_of v.layout) i (member_earlier v.layout i j order has))

    p : (offset : ℕ) × (offset_at (members_of v.layout) j ≡ Some offset)
    p = some_number _ (has_offset (members_of v.layout) j has)

    pub members_first_fits : start + need first ≤ at
    members_first_fits = omega (arith, first_member_fits v.layout is v.start v.bytes fits i j order o.0 p.0 o.1 p.1 first m.layout, m.place o.0 o.1, n.place p.0 p.1)

    pub members_second_fits : at + need second ≤ length v.bytes
    members_second_fits = omega (arith, second_member_fits v.layout is v.start v.bytes fits i j order o.0 p.0 o.1 p.1 second n.layout, n.place p.0 p.1)

    module _ (a b : Viewed) (bytes : v.bytes ≡ a.bytes ++ b.bytes) (cut : length a.bytes ≡ at) (starts : (a.start ≡ start) × (b.start ≡ 0)) (layouts : (a.layout ≡ first) × (b.layout ≡ second)) where
      pub is_first_member : IsMember v i a
      is_first_member = record { layout = m.layout ∙ ap Some (sym layouts.0); place = λ offset has_it. starts.0 ∙ m.place offset has_it }

      pub is_second_member : IsMember v j (behind a.bytes b)
      is_second_member = record { layout = n.layout ∙ ap Some (sym layouts.1); place = λ offset has_it. omega (arith, cut, starts.1, n.place offset has_it) }

      pub shows_first_member : shown a ≡ child (shown v) i
      shows_first_member =
          ap (λ l. seen l a.start a.bytes) layouts.0 ∙ ap (λ k. seen first k a.bytes) (starts.0 ∙ m.place o.0 o.1)
          ∙ first_member_shown v.layout is v.start v.bytes fits i j order o.0 p.0 o.1 p.1 a.bytes b.bytes bytes (cut ∙ n.place p.0 p.1) first m.layout

      pub shows_second_member : shown b ≡ child (shown v) j
      shows_second_member =
          ap (λ l. seen l b.start b.bytes) layouts.1 ∙ ap (λ k. seen second k b.bytes) starts.1
          ∙ second_member_shown v.layout is v.start v.bytes fits i j order o.0 p.0 o.1 p.1 a.bytes b.bytes bytes (cut ∙ n.place p.0 p.1) second n.layout

  module _ (has : HasElement v j) (m : IsElement v i (standing v.bytes start first)) (n : IsElement v j (standing v.bytes at second)) where
    s : (stride : ℕ) × (stride_of v.layout ≡ Some stride)
    s = some_stride v.layout v.start (length v.bytes) j has

    pub elements_first_fits : start + need first ≤ at
    elements_first_fits = omega (arith, first_element_fits v.layout is v.start v.bytes fits i j order s.0 s.1 has first m.layout, m.place s.0 s.1, n.place s.0 s.1)

    pub elements_second_fits : at + need second ≤ length v.bytes
    elements_second_fits = omega (arith, second_element_fits v.layout is v.start v.bytes fits i j order s.0 s.1 has second n.layout, n.place s.0 s.1)

    module _ (a b : Viewed) (bytes : v.bytes ≡ a.bytes ++ b.bytes) (cut : length a.bytes ≡ at) (starts : (a.start ≡ start) × (b.start ≡ 0)) (layouts : (a.layout ≡ first) × (b.layout ≡ second)) where
      pub is_first_element : IsElement v i a
      is_first_element = record { layout = m.layout ∙ ap Some (sym layouts.0); place = λ stride has_it. starts.0 ∙ m.place stride has_it }

      pub is_second_element : IsElement v j (behind a.bytes b)
      is_second_element = record { layout = n.layout ∙ ap Some (sym layouts.1); place = λ stride has_it. omega (arith, cut, starts.1, n.place stride has_it) }

      pub shows_first_element : shown a ≡ child (shown v) i
      shows_first_element =
          ap (λ l. seen l a.start a.bytes) layouts.0 ∙ ap (λ k. seen first k a.bytes) (starts.0 ∙ m.place s.0 s.1)
          ∙ first_element_shown v.layout is v.start v.bytes fits i j order s.0 s.1 has a.bytes b.bytes bytes (cut ∙ n.place s.0 s.1) first m.layout

      pub shows_second_element : shown b ≡ child (shown v) j
      shows_second_element =
          ap (λ l. seen l b.start b.bytes) layouts.1 ∙ ap (λ k. seen second k b.bytes) starts.1
          ∙ second_element_shown v.layout is v.start v.bytes fits i j order s.0 s.1 has a.bytes b.bytes bytes (cut ∙ n.place s.0 s.1) second n.layout
