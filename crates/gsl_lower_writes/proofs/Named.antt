-- The shader's state with another value in the variable of a name.
use Rattle.std.proofs.Common.{◌≡◌, ◌≢◌, refl, sym, ap, ◌∙◌, subst, inl, inr, ℕ, ◌⊎◌, Bool, true, false, ◌==◌, List, Option, Some, None}
use Rattle.std.specs.Prelude.{set, slice_get}
use Rattle.std.proofs.lemmas.Bool.{eqb-true, eq-eqb, true≢false}
use Rattle.std.proofs.lemmas.Option.{slice_get_within}
use Rattle.gsl_values.specs.declared.value.Value.{Value}
use Rattle.gsl_meaning.specs.Accesses as access
use Rattle.gsl_meaning.specs.Accesses.{Root, with_root}
use Rattle.gsl_meaning.specs.State as shader
use Rattle.gsl_lower_follows.specs.Frames.{Global, Holder, Interface as Passed, Local, Name, Param, Stage, value_of}
use Rattle.gsl_lower_follows.proofs.Holding.{set_elsewhere, set_there}
use Rattle.gsl_lower_reads.proofs.OfLawNames.{Other}
use Rattle.gsl_lower_reads.specs.OfReaching.{root_of}

-- what a list has with another item at a number
data Set (l : List Value) (number : ℕ) (v : Value) (k : ℕ) : Type 0 where
  here : k ≡ number → slice_get (set l number v) k ≡ Some v → Set l number v k
  elsewhere : k ≢ number → slice_get (set l number v) k ≡ slice_get l k → Set l number v k

sets : (l : List Value) (number : ℕ) (v old : Value) → slice_get l number ≡ Some old → (k : ℕ) → Set l number v k
sets l number v old there k = by (k == number) refl
  where
    by : (same : Bool) → (k == number) ≡ same → Set l number v k
    by true e = let n : k ≡ number = eqb-true k number e in here n (ap (slice_get (set l number v)) n ∙ set_there l number v (slice_get_within l number old there))
    by false e = let other : k ≢ number = (λ n. true≢false (sym (eq-eqb k number n) ∙ e)) in elsewhere other (set_elsewhere l number k v other)

root_same : {a b : Root} → Some a ≡ Some b → a ≡ b
root_same e = cc

module _ (stages : List (Option Value)) (v old : Value) (s : shader.State) where
  abbrev Names : Name → Root → Name → Type 0
  Names name root other = Other stages (λ k. name) 0 v s (with_root root v s) other

  globals : (number : ℕ) → value_of stages s (Global number) ≡ Some old → (other : Name) → Names (Global number) (access.Global number) other
  globals number there (Global k) = record { side = by (sets s.globals number v old there k) }
    where
      by : Set s.globals number v k → ((Global k ≡ Global number) × (slice_get (set s.globals number v) k ≡ Some v)) ⊎ ((Global k ≢ Global number) × (slice_get (set s.globals number v) k ≡ slice_get s.globals k))
      by (here n is) = inl (ap Global n, is)
      by (elsewhere other is) = inr (λ e. other (let n : k ≡ number = cc in n), is)
  globals number there (Passed k) = record { side = inr (λ e. absurd cc, refl) }
  globals number there (Stage k) = record { side = inr (λ e. absurd cc, refl) }
  globals number there (Param k) = record { side = inr (λ e. absurd cc, refl) }
  globals number there (Local k) = record { side = inr (λ e. absurd cc, refl) }
  globals number there (Holder k) = record { side = inr (λ e. absurd cc, refl) }

  interfaces : (number : ℕ) → value_of stages s (Passed number) ≡ Some old → (other : Name) → Names (Passed number) (access.Interface number) other
  interfaces number there (Passed k) = record { side = by (sets s.interfaces number v old there k) }
    where
      by : Set s.interfaces number v k → ((Passed k ≡ Passed number) × (slice_get (set s.interfaces number v) k ≡ Some v)) ⊎ ((Passed k ≢ Passed number) × (slice_get (set s.interfaces number v) k ≡ slice_get s.interfaces k))
      by (here n is) = inl (ap Passed n, is)
      by (elsewhere other is) = inr (λ e. other (let n : k ≡ number = cc in n), is)
  interfaces number there (Global k) = record { side = inr (λ e. absurd cc, refl) }
  interfaces number there (Stage k) = record { side = inr (λ e. absurd cc, refl) }
  interfaces number there (Param k) = record { side = inr (λ e. absurd cc, refl) }
  interfaces number there (Local k) = record { side = inr (λ e. absurd cc, refl) }
  interfaces number there (Holder k) = record { side = inr (λ e. absurd cc, refl) }

  params : (number : ℕ) → value_of stages s (Param number) ≡ Some old → (other : Name) → Names (Param number) (access.Param number) other
  params number there (Param k) = record { side = by (sets s.params number v old there k) }
    where
      by : Set s.params number v k → ((Param k ≡ Param number) × (slice_get (set s.params number v) k ≡ Some v)) ⊎ ((Param k ≢ Param number) × (slice_get (set s.params number v) k ≡ slice_get s.params k))
      by (here n is) = inl (ap Param n, is)
      by (elsewhere other is) = inr (λ e. other (let n : k ≡ number = cc in n), is)
  params number there (Global k) = record { side = inr (λ e. absurd cc, refl) }
  params number there (Passed k) = record { side = inr (λ e. absurd cc, refl) }
  params number there (Stage k) = record { side = inr (λ e. absurd cc, refl) }
  params number there (Local k) = record { side = inr (λ e. absurd cc, refl) }
  params number there (Holder k) = record { side = inr (λ e. absurd cc, refl) }

  locals : (number : ℕ) → value_of stages s (Local number) ≡ Some old → (other : Name) → Names (Local number) (access.Local number) other
  locals number there (Local k) = record { side = by (sets s.locals number v old there k) }
    where
      by : Set s.locals number v k → ((Local k ≡ Local number) × (slice_get (set s.locals number v) k ≡ Some v)) ⊎ ((Local k ≢ Local number) × (slice_get (set s.locals number v) k ≡ slice_get s.locals k))
      by (here n is) = inl (ap Local n, is)
      by (elsewhere other is) = inr (λ e. other (let n : k ≡ number = cc in n), is)
  locals number there (Global k) = record { side = inr (λ e. absurd cc, refl) }
  locals number there (Passed k) = record { side = inr (λ e. absurd cc, refl) }
  locals number there (Stage k) = record { side = inr (λ e. absurd cc, refl) }
  locals number there (Param k) = record { side = inr (λ e. absurd cc, refl) }
  locals number there (Holder k) = record { side = inr (λ e. absurd cc, refl) }

  -- the variable of the name has the value then, and all others what they had
  pub named_anew : (name : Name) (root : Root) → root_of name ≡ Some root → value_of stages s name ≡ Some old → (other : Name) → Names name root other
  named_anew (Global number) root e there other = subst (λ root. Names (Global number) root other) (root_same e) (globals number there other)
  named_anew (Passed number) root e there other = subst (λ root. Names (Passed number) root other) (root_same e) (interfaces number there other)
  named_anew (Stage number) root e there other = absurd (let z : None ≡ Some root = e in cc)
  named_anew (Param number) root e there other = subst (λ root. Names (Param number) root other) (root_same e) (params number there other)
  named_anew (Local number) root e there other = subst (λ root. Names (Local number) root other) (root_same e) (locals number there other)
  named_anew (Holder number) root e there other = absurd (let z : None ≡ Some root = e in cc)

-- it is in no block, and no choice is drawn
pub others_stay : (name : Name) (root : Root) (v : Value) (s : shader.State) → root_of name ≡ Some root → ((with_root root v s).blocks ≡ s.blocks) × ((with_root root v s).choices ≡ s.choices)
others_stay (Global number) root v s e = subst (λ root. ((with_root root v s).blocks ≡ s.blocks) × ((with_root root v s).choices ≡ s.choices)) (root_same e) (refl, refl)
others_stay (Passed number) root v s e = subst (λ root. ((with_root root v s).blocks ≡ s.blocks) × ((with_root root v s).choices ≡ s.choices)) (root_same e) (refl, refl)
others_stay (Stage number) root v s e = absurd (let z : None ≡ Some root = e in cc)
others_stay (Param number) root v s e = subst (λ root. ((with_root root v s).blocks ≡ s.blocks) × ((with_root root v s).choices ≡ s.choices)) (root_same e) (refl, refl)
others_stay (Local number) root v s e = subst (λ root. ((with_root root v s).blocks ≡ s.blocks) × ((with_root root v s).choices ≡ s.choices)) (root_same e) (refl, refl)
others_stay (Holder number) root v s e = absurd (let z : None ≡ Some root = e in cc)

-- a holder is none of them
pub no_holder : (name : Name) (root : Root) → root_of name ≡ Some root → (k : ℕ) → name ≢ Holder k
no_holder name root e k same = absurd (let z : None ≡ Some root = sym (ap root_of same) ∙ e in cc)
