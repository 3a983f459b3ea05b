-- A buffer in its place.
use Rattle.std.proofs.Common.{◌≡◌, ℕ, ◌+◌, true, false, cond, not, List, [], ◌∷◌, refl, ap, ◌∙◌, one-add}
use Rattle.std.specs.List.{insert, prefix_len}
use Rattle.gsl_base.specs.declared.input.Buffer.{Buffer}
use Rattle.gsl_given.specs.Given.{is_before, placed}

place_at : (x : Buffer) (ys : List Buffer) → insert ys (prefix_len (λ y. not (is_before x y)) ys) x ≡ placed x ys
place_at x [] = refl
place_at x (y ∷ ys) =
    elim (is_before x y) as (λ t. insert (y ∷ ys) (cond (not t) (1 + prefix_len (λ z. not (is_before x z)) ys) 0) x ≡ cond t (x ∷ y ∷ ys) (y ∷ placed x ys)) [
      | true ↦ refl
      | false ↦ ap (λ k. insert (y ∷ ys) k x) (one-add (prefix_len (λ z. not (is_before x z)) ys)) ∙ ap (λ zs. y ∷ zs) (place_at x ys)
    ]

-- a buffer that was put where those that stand before it end
pub put_there : (x : Buffer) (xs ys items zs out : List Buffer) (n : ℕ) → ys ≡ xs → n ≡ prefix_len (λ y. not (is_before x y)) ys → items ≡ xs → zs ≡ insert items n x → out ≡ zs
    → out ≡ placed x xs
put_there x xs ys items zs out n same is all put made =
    made ∙ put ∙ ap (λ l. insert l n x) all ∙ ap (λ k. insert xs k x) (is ∙ ap (prefix_len (λ y. not (is_before x y))) same) ∙ place_at x xs
