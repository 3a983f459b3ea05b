-- What shapes and signs built-in functions ask for, and what they give on words.
use Rattle.std.proofs.Common.{◌≡◌, refl, ℕ, Bool, true, false, List, [], ◌∷◌, Some}
use Rattle.gsl_types.specs.declared.ty.Scalar.{Scalar}
use Rattle.gsl_types.specs.declared.ty.Scalar.TheVariants.{Bool as Boolean, Int, Uint}
use Rattle.gsl_values.specs.declared.function.Builtin.TheVariants as f
use Rattle.gsl_values.specs.declared.op.BinaryOp.TheVariants as o
use Rattle.gsl_values.specs.declared.op.UnaryOp.TheVariants as u
use Rattle.gsl_values.specs.Functions.{builtin_answer}
use Rattle.gsl_values.specs.Operators.{binary_answer, unary_word}
use Rattle.gsl_tree.specs.Operations.{is_signed_scalar}
use Rattle.gsl_tree.specs.Shapes.{Shape, is_int, when}
use Rattle.gsl_lower_law_calls.proofs.Calls.{Steady, Unsigned}

pub when_is : (b : Bool) (shape other : Shape) → when b shape ≡ Some other → b ≡ true
when_is true shape other e = refl
when_is false shape other e = absurd cc

pub int_signed : (s : Scalar) → is_int s ≡ true → is_signed_scalar s ≡ true
int_signed Boolean e = absurd cc
int_signed Int e = refl
int_signed Uint e = absurd cc

-- ---- functions that draw nothing

pub steady_abs : Steady f.Abs
unfolding builtin_answer
steady_abs signed args choices = refl

pub steady_sign : Steady f.Sign
unfolding builtin_answer
steady_sign signed args choices = refl

pub steady_min : Steady f.Min
unfolding builtin_answer
steady_min signed args choices = refl

pub steady_max : Steady f.Max
unfolding builtin_answer
steady_max signed args choices = refl

pub steady_clamp : Steady f.Clamp
unfolding builtin_answer
steady_clamp signed args choices = refl

pub steady_mix : Steady f.Mix
unfolding builtin_answer
steady_mix signed args choices = refl

pub steady_count : Steady f.BitCount
unfolding builtin_answer
steady_count signed args choices = refl

pub steady_lsb : Steady f.FindLsb
unfolding builtin_answer
steady_lsb signed args choices = refl

pub steady_msb : Steady f.FindMsb
unfolding builtin_answer
steady_msb signed args choices = refl

pub steady_reverse : Steady f.BitfieldReverse
unfolding builtin_answer
steady_reverse signed args choices = refl

-- ---- functions that take no account of signs

pub unsigned_mix : Unsigned f.Mix
unfolding builtin_answer
unsigned_mix args choices = refl

pub unsigned_count : Unsigned f.BitCount
unfolding builtin_answer
unsigned_count args choices = refl

pub unsigned_lsb : Unsigned f.FindLsb
unfolding builtin_answer
unsigned_lsb args choices = refl

pub unsigned_reverse : Unsigned f.BitfieldReverse
unfolding builtin_answer
unsigned_reverse args choices = refl

pub unsigned_insert : Unsigned f.BitfieldInsert
unfolding builtin_answer
unsigned_insert args choices = refl

-- ---- functions that are operators

pub not_is : (signed : Bool) (w : ℕ) (choices : List ℕ) → builtin_answer f.Not signed (w ∷ []) choices ≡ (unary_word u.Not w, choices)
unfolding builtin_answer unary_word
not_is signed w choices = refl

pub less_is : (signed : Bool) (x y : ℕ) (choices : List ℕ) → builtin_answer f.LessThan signed (x ∷ y ∷ []) choices ≡ binary_answer o.Less signed x y choices
unfolding builtin_answer binary_answer
less_is signed x y choices = refl

pub less_equal_is : (signed : Bool) (x y : ℕ) (choices : List ℕ) → builtin_answer f.LessThanEqual signed (x ∷ y ∷ []) choices ≡ binary_answer o.LessEq signed x y choices
unfolding builtin_answer binary_answer
less_equal_is signed x y choices = refl

pub greater_is : (signed : Bool) (x y : ℕ) (choices : List ℕ) → builtin_answer f.GreaterThan signed (x ∷ y ∷ []) choices ≡ binary_answer o.Greater signed x y choices
unfolding builtin_answer binary_answer
greater_is signed x y choices = refl

pub greater_equal_is : (signed : Bool) (x y : ℕ) (choices : List ℕ) → builtin_answer f.GreaterThanEqual signed (x ∷ y ∷ []) choices ≡ binary_answer o.GreaterEq signed x y choices
unfolding builtin_answer binary_answer
greater_equal_is signed x y choices = refl

pub equal_is : (signed : Bool) (x y : ℕ) (choices : List ℕ) → builtin_answer f.Equal signed (x ∷ y ∷ []) choices ≡ binary_answer o.Equal signed x y choices
unfolding builtin_answer binary_answer
equal_is signed x y choices = refl

pub unequal_is : (signed : Bool) (x y : ℕ) (choices : List ℕ) → builtin_answer f.NotEqual signed (x ∷ y ∷ []) choices ≡ binary_answer o.Unequal signed x y choices
unfolding builtin_answer binary_answer
unequal_is signed x y choices = refl
