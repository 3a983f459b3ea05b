-- What ids of parameters and of variables stand for as a function begins, and items of lists.
use Rattle.std.proofs.Common.{◌≡◌, ◌≢◌, refl, sym, ap, ◌∙◌, subst, ℕ, zero, suc, ◌+◌, List, [], ◌∷◌, map, Option, Some, None, inl, inr, arith}
use Rattle.std.specs.Prelude.{◌==◌, slice_get}
use Rattle.std.proofs.lemmas.Bool.{cond-false, ne_eqb}
use Rattle.gsl_valid.specs.Kinds.{Variable}
use Rattle.gsl_machine.specs.Functions.{give_each, point_each}
use Rattle.gsl_machine.specs.State.{Held, Ids, InVariable, Points, give}
use Rattle.gsl_sound_ids.proofs.Globals.{Among, unpointed}
use Rattle.gsl_lower_law.proofs.Giving.{give_same}

-- ---- lists

pub none_at : {A : Type 0} (k : ℕ) (x : A) → slice_get {X = A} [] k ≡ Some x → ⊥
none_at zero x is = cc
none_at (suc k) x is = cc

-- what a mapped list has comes from what the list has
pub mapped : {A B : Type 0} (g : A → B) (l : List A) (k : ℕ) (y : B) → slice_get (map g l) k ≡ Some y → (x : A) × (slice_get l k ≡ Some x) × (g x ≡ y)
mapped g [] k y is = absurd (none_at k y is)
mapped g (x ∷ l) zero y is = (x, refl, cc)
mapped g (x ∷ l) (suc k) y is = mapped g l k y is

pub map_there : {A B : Type 0} (g : A → B) (l : List A) (k : ℕ) (x : A) → slice_get l k ≡ Some x → slice_get (map g l) k ≡ Some (g x)
map_there g [] k x is = absurd (none_at k x is)
map_there g (y ∷ l) zero x is = let same : y ≡ x = cc in ap (λ z. Some (g z)) same
map_there g (y ∷ l) (suc k) x is = map_there g l k x is

pub index_of_among : (v : Variable) (vs : List Variable) → Among v vs → (k : ℕ) × (slice_get vs k ≡ Some v)
index_of_among v [] among = absurd among
index_of_among v (u ∷ vs) (inl same) = (0, ap Some same)
index_of_among v (u ∷ vs) (inr later) = let k = index_of_among v vs later in (suc k.0, k.1)

pub among_at : (vs : List Variable) (k : ℕ) (v : Variable) → slice_get vs k ≡ Some v → Among v vs
among_at [] k v is = absurd (none_at k v is)
among_at (u ∷ vs) zero v is = let same : u ≡ v = cc in inl same
among_at (u ∷ vs) (suc k) v is = inr (among_at vs k v is)

pub same_option : (a b : Option ℕ) → ((n : ℕ) → a ≡ Some n → b ≡ Some n) → ((n : ℕ) → b ≡ Some n → a ≡ Some n) → a ≡ b
same_option None None there back = refl
same_option None (Some n) there back = absurd (let e = back n refl in cc)
same_option (Some n) b there back = sym (there n refl)

-- ---- variables

less_one : (j k : ℕ) → suc j ≡ suc k → j ≡ k
less_one j k e = omega (arith, e)

pub points_at : (ids : Ids) (number : ℕ) (vs : List Variable) (k : ℕ) (v : Variable) → slice_get vs k ≡ Some v → ((j : ℕ) (w : Variable) → slice_get vs j ≡ Some w → w.id ≡ v.id → j ≡ k)
    → point_each ids number vs v.id ≡ Some (Points (InVariable (number + k) []))
points_at ids number [] k v is alone = absurd (none_at k v is)
points_at ids number (u ∷ vs) zero v is alone =
    let same : u ≡ v = cc in
    let here : number ≡ number + 0 = omega arith in
    subst (λ (x : Variable). point_each (give ids x.id (Points (InVariable number []))) (number + 1) vs v.id ≡ Some (Points (InVariable (number + 0) []))) (sym same)
    (unpointed (give ids v.id (Points (InVariable number []))) (number + 1) vs v.id (λ w among e. let j = index_of_among w vs among in let z : suc j.0 ≡ 0 = alone (suc j.0) w j.1 e in omega (arith, z))
    ∙ give_same ids v.id (Points (InVariable number [])) ∙ ap (λ n. Some (Points (InVariable n []))) here)
points_at ids number (u ∷ vs) (suc k) v is alone =
    let on : number + 1 + k ≡ number + suc k = omega arith in
    points_at (give ids u.id (Points (InVariable number []))) (number + 1) vs k v is (λ j w there e. less_one j k (alone (suc j) w there e)) ∙ ap (λ n. Some (Points (InVariable n []))) on

-- ---- parameters

give_other : (ids : Ids) (q p : ℕ) (h : Held) → p ≢ q → give ids q h p ≡ ids p
give_other ids q p h other = cond-false (p == q) _ _ (ne_eqb p q other)

ungiven : (ids : Ids) (ps : List ℕ) (held : List Held) (p : ℕ) → ((j : ℕ) → slice_get ps j ≡ Some p → ⊥) → give_each ids ps held p ≡ ids p
ungiven ids [] held p none = refl
ungiven ids (q ∷ ps) [] p none = refl
ungiven ids (q ∷ ps) (h ∷ held) p none = ungiven (give ids q h) ps held p (λ j. none (suc j)) ∙ give_other ids q p h (λ e. none 0 (ap Some (sym e)))

pub given_there : (ids : Ids) (ps : List ℕ) (held : List Held) (k p : ℕ) (it : Held) → slice_get ps k ≡ Some p → slice_get held k ≡ Some it → ((j : ℕ) → slice_get ps j ≡ Some p → j ≡ k) → give_each ids ps held p ≡ Some it
given_there ids [] held k p it is there alone = absurd (none_at k p is)
given_there ids (q ∷ ps) [] k p it is there alone = absurd (none_at k it there)
given_there ids (q ∷ ps) (h ∷ held) zero p it is there alone =
    let same : q ≡ p = cc in
    let what : h ≡ it = cc in
    ungiven (give ids q h) ps held p (λ j e. let z : suc j ≡ 0 = alone (suc j) e in omega (arith, z))
    ∙ ap (λ n. give ids n h p) same ∙ give_same ids p h ∙ ap Some what
given_there ids (q ∷ ps) (h ∷ held) (suc k) p it is there alone = given_there (give ids q h) ps held k p it is there (λ j e. less_one j k (alone (suc j) e))
