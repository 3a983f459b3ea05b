-- The values with which global variables are initialised are values of their types.
use Rattle.std.proofs.Common.{◌≡◌, sym, ap, ◌∙◌, subst, ℕ, zero, suc, ◌<◌, Bool, true, false, List, [], ◌∷◌, map, take, slice_get, Option, Some, None, arith}
use Rattle.gsl_values.specs.declared.value.Value.{Value}
use Rattle.gsl_tree.specs.Around.{consts_of, known_value}
use Rattle.gsl_tree.specs.Constants.{known_at}
use Rattle.gsl_tree.specs.Values.{is_value_of}
use Rattle.gsl_tree.specs.WellTyped.{AreWellTyped, IsInit, Lists, around_init}
use Rattle.gsl_tree.specs.declared.expr.Expr.{Expr}
use Rattle.gsl_tree.specs.declared.folded.Folded.{Folded}
use Rattle.gsl_tree.specs.declared.folded.Folded.TheVariants.{Known}
use Rattle.gsl_tree.specs.declared.unit.GlobalVar.{GlobalVar}
use Rattle.gsl_typed_constants.specs.Known.{AreKnown, AreSound}
use Rattle.gsl_typed_constants.proofs.Drawn.{constant_typed}

abbrev known_of : GlobalVar → Folded
known_of g = known_value g.constant g.value

-- a value that is known of a variable is that of its initialiser
value_known : (constant : Bool) (value : Option Value) (v : Value) → known_value constant value ≡ Known v → value ≡ Some v
value_known true (Some w) v is = let same : w ≡ v = cc in ap Some same
value_known true None v is = absurd cc
value_known false (Some w) v is = absurd cc
value_known false None v is = absurd cc

-- what is known of a variable among the first ones
among_first : (gs : List GlobalVar) (n k : ℕ) (g : GlobalVar) (v : Value) → slice_get gs k ≡ Some g → known_at (map known_of (take n gs)) k ≡ Known v → (k < n) × (g.value ≡ Some v)
among_first [] n k g v found is = absurd cc
among_first (x ∷ gs) zero k g v found is = absurd cc
among_first (x ∷ gs) (suc n) zero g v found is = (omega arith, value_known g.constant g.value v (let same : x ≡ g = cc in ap known_of (sym same) ∙ is))
among_first (x ∷ gs) (suc n) (suc k) g v found is = let rest = among_first gs n k g v found is in (omega (arith, rest.0), rest.1)

module _ (lists : Lists) (typed : AreWellTyped lists) (sounds : AreSound (around_init lists)) where
  -- the variable of a number is initialised with a value of its type
  abbrev Init : ℕ → Type 0
  Init k = (g : GlobalVar) (v : Value) → slice_get lists.globals k ≡ Some g → g.value ≡ Some v → is_value_of lists.structs g.ty v ≡ true

  knows : (n : ℕ) → ((k : ℕ) → k < n → Init k) → AreKnown (around_init lists) (consts_of (take n lists.globals))
  knows n below = record {
    locals = λ k t v found is. absurd (let no_local : None ≡ Some t = found in cc);
    globals = λ k g v found is. let x = among_first lists.globals n k g v found is in below k x.0 g v found x.1;
  }

  by_init : (n : ℕ) (g : GlobalVar) (v : Value) (init : Option Expr) → ((k : ℕ) → k < n → Init k) → IsInit lists n g init → g.value ≡ Some v → is_value_of lists.structs g.ty v ≡ true
  by_init n g v None below is value = absurd (let clash : None ≡ Some v = sym is.0 ∙ value in cc)
  by_init n g v (Some e) below is value =
      let same : is.0 ≡ v = let both : Some is.0 ≡ Some v = sym is.6 ∙ value in cc in
      subst (λ u. is_value_of lists.structs u v ≡ true) is.3
      (constant_typed (around_init lists) (consts_of (take n lists.globals)) typed.structs sounds (knows n below) e v is.1 (is.5 ∙ ap Known same))

  all_below : (n k : ℕ) → k < n → Init k
  all_below zero k low g v found value = absurd (omega (arith, low))
  all_below (suc n) k low g v found value = by_init k g v g.init (λ j less. all_below n j (omega (arith, low, less))) (typed.globals k g found).init value

  pub initialised : (number : ℕ) (g : GlobalVar) (v : Value) → slice_get lists.globals number ≡ Some g → g.value ≡ Some v → is_value_of lists.structs g.ty v ≡ true
  initialised number g v found value = all_below (suc number) number (omega arith) g v found value
