-- `,`: parts in a row, the last of which has the value.
use Rattle.std.proofs.Common.{◌≡◌, refl, sym, subst, ℕ, Bool, true, false, ◌||◌, List, [], ◌∷◌, Some}
use Rattle.gsl_base.specs.declared.input.Input.{Input}
use Rattle.gsl_types.specs.declared.ty.Ty.{Ty}
use Rattle.gsl_words.specs.declared.module.Module.{Module}
use Rattle.gsl_values.specs.declared.value.Value.{Value}
use Rattle.gsl_tree.specs.Around.{Around}
use Rattle.gsl_tree.specs.declared.program.Program.{Program}
use Rattle.gsl_meaning.specs.Expressions.{Meant, in_order, last_of}
use Rattle.gsl_meaning.specs.Running.{Got, Ran, Run, given as shader_given}
use Rattle.gsl_meaning.specs.Running as shader_run
use Rattle.gsl_spv.specs.Sections.{Sections}
use Rattle.gsl_lower_holders.specs.Flow.{Emit, given, ◌>>=◌}
use Rattle.gsl_lower_expr.specs.Parts.{Lower, any_splits, sequence}
use Rattle.gsl_lower_follows.specs.Frames.{Frame}
use Rattle.gsl_lower_follows.specs.Giving.{GivesValue, HasGiven, none_waits}
use Rattle.gsl_lower_follows.proofs.Doing.{does_then}
use Rattle.gsl_lower_follows.proofs.Growing.{adds_given, adds_then}
use Rattle.gsl_lower_follows.proofs.Holding.{does_map, does_so}
use Rattle.gsl_lower_law_expr.proofs.Operands.{after_less, given_behind}
use Rattle.gsl_lower_law_expr.proofs.Single.{gives_same}
use Rattle.gsl_lower_law_built.specs.Arguments.{EachGives, last_type}

-- ---- what parts in a row give

abbrev last_given : List Value → Run Value
last_given vs = shader_given (last_of vs)

abbrev put_first : Value → List Value → Run (List Value)
put_first v vs = shader_given (v ∷ vs)

-- the value before the last is none
before_last : (v w : Value) (r : Ran (List Value)) → shader_run.behind (shader_run.behind (shader_run.behind r (put_first w)) (put_first v)) last_given ≡ shader_run.behind (shader_run.behind r (put_first w)) last_given
before_last v w (Got vs s left) = refl
before_last v w (shader_run.Ends s) = refl
before_last v w shader_run.Strays = refl
before_last v w shader_run.Goes = refl

more_last : (v : Value) (xs : List Meant) (r : Ran Value)
    → shader_run.behind (shader_run.behind (shader_run.behind r (λ w. shader_run.◌>>=◌ (in_order xs) (put_first w))) (put_first v)) last_given ≡ shader_run.behind (shader_run.behind r (λ w. shader_run.◌>>=◌ (in_order xs) (put_first w))) last_given
more_last v xs (Got w s left) = before_last v w (in_order xs s left)
more_last v xs (shader_run.Ends s) = refl
more_last v xs shader_run.Strays = refl
more_last v xs shader_run.Goes = refl

-- the first of several is done, and the others have the value
first_done : (y : Meant) (xs : List Meant) (r : Ran Value)
    → shader_run.behind r (λ v. shader_run.◌>>=◌ (in_order (y ∷ xs)) last_given) ≡ shader_run.behind (shader_run.behind r (λ v. shader_run.◌>>=◌ (in_order (y ∷ xs)) (put_first v))) last_given
first_done y xs (Got v s left) = sym (more_last v xs (y.value s left))
first_done y xs (shader_run.Ends s) = refl
first_done y xs shader_run.Strays = refl
first_done y xs shader_run.Goes = refl

only_one : (r : Ran Value) → r ≡ shader_run.behind (shader_run.behind r (λ v. shader_run.◌>>=◌ (in_order []) (put_first v))) last_given
only_one (Got v s left) = refl
only_one (shader_run.Ends s) = refl
only_one shader_run.Strays = refl
only_one shader_run.Goes = refl

some_same : {A : Type 0} {a b : A} → Some a ≡ Some b → a ≡ b
some_same e = cc

module _ (m : Module) (input : Input) (whole : Sections) (f : Frame m input whole) (p : Program) (around : Around) where
  -- A part whose value is not used, and what gives the value behind it.
  part_then : (sa sb : Bool) (ta ty : Ty) (a : Emit ℕ) (next : ℕ → Emit ℕ) (x y : Run Value) → GivesValue m input whole f p around sa ta a x → ((i : ℕ) → GivesValue m input whole f p around sb ty (next i) y)
      → GivesValue m input whole f p around (sa || sb) ty (a >>= next) (shader_run.◌>>=◌ x (λ v. y))
  part_then sa sb ta ty a next x y first second = record {
    adds = adds_then a next first.adds (λ i. (second i).adds);
    does = λ b0 s units state good.
        does_then m input whole f p 0 units b0 state (HasGiven m input whole f p around sa ta b0 state) none_waits (HasGiven m input whole f p around (sa || sb) ty b0 state) none_waits (x s units) (λ v. y) (a b0) next good.inside (first.adds b0) (λ i. (second i).adds)
        (first.does b0 s units state good)
        (λ i b1 v t left mid inside grown g less.
        does_so m input whole f p around 0 left mid (HasGiven m input whole f p around sb ty b1 mid) (HasGiven m input whole f p around (sa || sb) ty b0 state) (y t left) (next i b1)
        (λ id later z u last h. given_behind m input whole f p around sa sb (sa || sb) ty b0 b1 later state mid last t u id z (λ none. none) grown g.after h)
        ((second i).does b1 t left mid g.after.good))
        (λ i b1 t left mid inside grown none less. absurd none);
  }

  -- the last part, alone
  one_part : (sa : Bool) (ty : Ty) (a : Emit ℕ) (x : Run Value) → GivesValue m input whole f p around sa ty a x → GivesValue m input whole f p around (sa || false) ty (a >>= given) x
  one_part sa ty a x first = record {
    adds = adds_then a given first.adds (λ i. adds_given i);
    does = λ b s units state good.
        does_map m input whole f p around 0 units state (HasGiven m input whole f p around sa ty b state) (HasGiven m input whole f p around (sa || false) ty b state) (x s units) (a b) (λ i. i)
        (λ i later v t last g. record { given = g.given; after = after_less m input whole f p around sa (sa || false) b later state last t (less sa) g.after })
        (first.does b s units state good);
  }
    where
      less : (c : Bool) → (c || false) ≡ false → c ≡ false
      less true e = absurd cc
      less false e = refl

  pub parts_give : (last : ℕ) (ty : Ty) (items : List Lower) (xs : List Meant) → EachGives (GivesValue m input whole f p around) items xs → last_type items ≡ Some ty → GivesValue m input whole f p around (any_splits items) ty (sequence last items) (shader_run.◌>>=◌ (in_order xs) last_given)
  unfolding sequence
  parts_give last ty [] xs each is = absurd cc
  parts_give last ty (e ∷ es) [] each is = absurd each
  parts_give last ty (e ∷ []) (x ∷ []) each is =
      gives_same m input whole f p around (e.traits.splits || false) ty (e.value >>= given) x.value (shader_run.◌>>=◌ (in_order (x ∷ [])) last_given) (λ s units. only_one (x.value s units))
      (one_part e.traits.splits ty e.value x.value (subst (λ t. GivesValue m input whole f p around e.traits.splits t e.value x.value) (some_same is) each.0))
  parts_give last ty (e ∷ []) (x ∷ y ∷ xs) each is = absurd each.1
  parts_give last ty (e ∷ next ∷ es) (x ∷ []) each is = absurd each.1
  parts_give last ty (e ∷ next ∷ es) (x ∷ y ∷ xs) each is =
      gives_same m input whole f p around (e.traits.splits || any_splits (next ∷ es)) ty (e.value >>= (λ id. sequence id (next ∷ es))) (shader_run.◌>>=◌ x.value (λ v. shader_run.◌>>=◌ (in_order (y ∷ xs)) last_given)) (shader_run.◌>>=◌ (in_order (x ∷ y ∷ xs)) last_given)
      (λ s units. first_done y xs (x.value s units))
      (part_then e.traits.splits (any_splits (next ∷ es)) e.ty ty e.value (λ id. sequence id (next ∷ es)) x.value (shader_run.◌>>=◌ (in_order (y ∷ xs)) last_given) each.0 (λ id. parts_give id ty (next ∷ es) (y ∷ xs) each.1 is))

  -- `,`: each part is done in its turn, and the last has the value.
  pub sequence_gives : (ty : Ty) (items : List Lower) (xs : List Meant) → EachGives (GivesValue m input whole f p around) items xs → last_type items ≡ Some ty → GivesValue m input whole f p around (any_splits items) ty (sequence 0 items) (shader_run.◌>>=◌ (in_order xs) (λ vs. shader_given (last_of vs)))
  sequence_gives = parts_give 0
