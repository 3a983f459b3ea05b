-- Arguments from left to right, each kept in a holder of its own.
use Rattle.std.proofs.Common.{◌≡◌, refl, ap, ◌∙◌, subst, ℕ, zero, suc, ◌<◌, Bool, true, false, ◌||◌, List, [], ◌∷◌, length, map, Option, Some, None, arith}
use Rattle.std.specs.Prelude.{slice_get}
use Rattle.gsl_base.specs.declared.input.Input.{Input}
use Rattle.gsl_types.specs.declared.ty.Direction.{Direction}
use Rattle.gsl_types.specs.declared.ty.StructType.{StructType}
use Rattle.gsl_types.specs.declared.ty.Ty.{Ty}
use Rattle.gsl_types.specs.declared.ty.Ty.TheVariants.{Void}
use Rattle.gsl_words.specs.declared.module.Module.{Module}
use Rattle.gsl_values.specs.declared.value.Value.{Value}
use Rattle.gsl_tree.specs.Around.{Around}
use Rattle.gsl_tree.specs.Values.{is_value_of}
use Rattle.gsl_tree.specs.declared.program.Program.{Program}
use Rattle.gsl_meaning.specs.Expressions as shader_expr
use Rattle.gsl_meaning.specs.Expressions.{Meant, Passed as ShaderPassed}
use Rattle.gsl_meaning.specs.Running.{Got, Run}
use Rattle.gsl_meaning.specs.Running as shader_run
use Rattle.gsl_meaning.specs.State as shader
use Rattle.gsl_machine.specs.State.{State}
use Rattle.gsl_spv.specs.Sections.{Sections}
use Rattle.gsl_lower_places.specs.declared.reached.Reached.{Reached}
use Rattle.gsl_lower_holders.specs.Flow.{Emit, Flow, Gives, Lacks, Lowered, behind, given, ◌>>=◌}
use Rattle.gsl_lower_holders.specs.Waiting.{keep}
use Rattle.gsl_lower_expr.specs.Calls.{all_back, back, going_in, passed, passing_all, pointers}
use Rattle.gsl_lower_expr.specs.Parts.{Lower, any_splits}
use Rattle.gsl_lower_follows.specs.Frames.{Frame, Good, HasType, Kept, type_of_param}
use Rattle.gsl_lower_follows.specs.Giving.{Adds, After, Does, GivesValue, Grown, HasGiven, none_waits}
use Rattle.gsl_lower_follows.proofs.Behind.{reaches_here}
use Rattle.gsl_lower_follows.proofs.Doing.{does_then}
use Rattle.gsl_lower_follows.proofs.Fetching.{adds_keep}
use Rattle.gsl_lower_follows.proofs.Growing.{adds_given, adds_then}
use Rattle.gsl_lower_follows.proofs.Holding.{NowWaits, after_same, after_then, does_keep}
use Rattle.gsl_lower_law_expr.specs.Known.{AllGive}
use Rattle.gsl_lower_law_expr.proofs.Operands.{given_value}
use Rattle.gsl_lower_law_entered.specs.Entering.{Argument, AreHeld, IsHeld, ids_of, values_of}
use Rattle.gsl_lower_law_functions.specs.Passing.{AreOf, ins}

-- ---- how arguments go

-- what stands for an argument that was passed
abbrev carrier : {A : Type 0} → (ℕ → Bool → Option Reached → A) → Type 0
carrier {A} make = A

abbrev pub Passed : Type 0
Passed = carrier passed

abbrev pub going : Argument → Passed
going a = passed a.id false None

abbrev pub meant : Argument → ShaderPassed
meant a = record { value = a.value; back = None }

pub pointers_are : (args : List Argument) → pointers (map going args) ≡ ids_of args
pointers_are [] = refl
pointers_are (a ∷ args) = ap (λ l. a.id ∷ l) (pointers_are args)

pub values_are : (args : List Argument) → shader_expr.values_of (map meant args) ≡ values_of args
values_are [] = refl
values_are (a ∷ args) = ap (λ l. a.value ∷ l) (values_are args)

-- nothing comes back
pub none_back : (args : List Argument) (vs : List Value) (s : shader.State) → shader_expr.all_back (map meant args) vs s ≡ s
none_back [] vs s = refl
none_back (a ∷ args) [] s = refl
none_back (a ∷ args) (v ∷ vs) s = none_back args vs s

-- An argument goes in alone.
abbrev pub GoesIn : Passed → Type 0
GoesIn way = (h : ℕ) × (way ≡ passed h false None)

abbrev pub AllGo : List Passed → Type 0
AllGo [] = Unit {0}
AllGo (way ∷ ways) = GoesIn way × AllGo ways

abbrev pub GoTo : Lowered (List Passed) → Type 0
GoTo (Gives ways later) = AllGo ways
GoTo Lacks = Unit {0}

abbrev OneGoesTo : Lowered Passed → Type 0
OneGoesTo (Gives way later) = GoesIn way
OneGoesTo Lacks = Unit {0}

pub nothing_back : (structs : List StructType) (ways : List Passed) (params : List (Direction × Ty)) (tys : List Ty) (b : Flow) → AllGo ways → all_back structs ways params tys b ≡ Gives tt b
unfolding all_back back
nothing_back structs [] params tys b all = refl
nothing_back structs (way ∷ ways) [] tys b all = refl
nothing_back structs (way ∷ ways) (param ∷ params) [] b all = refl
nothing_back structs (way ∷ ways) (param ∷ params) (t ∷ tys) b all =
    ap (λ (x : Passed). behind (back structs param.1 t x b) (λ done. all_back structs ways params tys)) all.0.1 ∙ nothing_back structs ways params tys b all.1

one_goes : (emit : Emit ℕ) (b : Flow) → OneGoesTo ((emit >>= going_in) b)
unfolding going_in
one_goes emit b = by (emit b)
  where
    kept : (low : Lowered ℕ) → OneGoesTo (behind low (λ h. given (passed h false None)))
    kept (Gives h later) = (h, refl)
    kept Lacks = tt

    by : (low : Lowered ℕ) → OneGoesTo (behind low (λ v. keep v >>= (λ h. given (passed h false None))))
    by (Gives v later) = kept (keep v later)
    by Lacks = tt

pub all_go : (structs : List StructType) (args : List Lower) (tys : List Ty) (b : Flow) → GoTo (passing_all structs args (ins tys) b)
unfolding passing_all
all_go structs [] tys b = tt
all_go structs (e ∷ es) [] b = tt
all_go structs (e ∷ es) (t ∷ tys) b = by ((e.value >>= going_in) b) (one_goes e.value b) (λ between. all_go structs es tys between)
  where
    rest : (way : Passed) → GoesIn way → (low : Lowered (List Passed)) → GoTo low → GoTo (behind low (λ ways. given (way ∷ ways)))
    rest way goes (Gives ways later) all = (goes, all)
    rest way goes Lacks all = tt

    by : (low : Lowered Passed) → OneGoesTo low → ((between : Flow) → GoTo (passing_all structs es (ins tys) between)) → GoTo (behind low (λ way. passing_all structs es (ins tys) >>= (λ ways. given (way ∷ ways))))
    by (Gives way between) goes more = rest way goes (passing_all structs es (ins tys) between) (more between)
    by Lacks goes more = tt

pub going_all : (args : List Argument) → AllGo (map going args)
going_all [] = tt
going_all (a ∷ args) = ((a.id, refl), going_all args)

module _ (m : Module) (input : Input) (whole : Sections) (f : Frame m input whole) (p : Program) (around : Around) where
  -- An argument was evaluated and is kept behind the holders that were in use.
  record IsOne (splits : Bool) (t : Ty) (b : Flow) (state : State) (way : Passed) (later : Flow) (q : ShaderPassed) (s : shader.State) (last : State) : Type 0 where
    argument : Argument
    is : way ≡ going argument
    means : q ≡ meant argument
    typed : is_value_of p.structs t argument.value ≡ true
    held : IsHeld m input whole f b.place.used last argument
    below : argument.holder < later.place.used
    after : After m input whole f p around splits b state later s last

  -- Arguments were evaluated and are kept.
  pub record ArePassed (splits : Bool) (tys : List Ty) (b : Flow) (state : State) (ways : List Passed) (later : Flow) (qs : List ShaderPassed) (s : shader.State) (last : State) : Type 0 where
    pub args : List Argument
    pub are : ways ≡ map going args
    pub mean : qs ≡ map meant args
    pub many : length args ≡ length tys
    pub typed : (number : ℕ) → HasType m input whole f p around (type_of_param (slice_get (ins tys) number)) (slice_get (values_of args) number)
    pub held : AreHeld m input whole f b.place.used last args
    pub below : (number : ℕ) (a : Argument) → slice_get args number ≡ Some a → a.holder < later.place.used
    pub after : After m input whole f p around splits b state later s last

  -- ---- one argument

  module _ (splits : Bool) (t : Ty) (emit : Emit ℕ) (x : Run Value) (real : t ≡ Void → ⊥) (gives : GivesValue m input whole f p around splits t emit x) where
    pub adds_one : Adds (emit >>= going_in)
    unfolding going_in
    adds_one = adds_then emit going_in gives.adds (λ v. adds_then (keep v) (λ h. given (passed h false None)) (adds_keep v) (λ h. adds_given (passed h false None)))

    does_one : (b : Flow) (s : shader.State) (units : ℕ) (state : State) → Good m input whole f p around b s state
        → Does m input whole f p 0 units state (IsOne splits t b state) none_waits (shader_run.◌>>=◌ x (λ v. shader_run.given {A = ShaderPassed} (record { value = v; back = None })) s units) ((emit >>= going_in) b)
    unfolding going_in
    does_one b s units state good =
        does_then m input whole f p 0 units b state (HasGiven m input whole f p around splits t b state) none_waits (IsOne splits t b state) none_waits (x s units) (λ v. shader_run.given {A = ShaderPassed} (record { value = v; back = None })) (emit b) going_in good.inside
        (gives.adds b) (λ v. adds_then (keep v) (λ h. given (passed h false None)) (adds_keep v) (λ h. adds_given (passed h false None))) (gives.does b s units state good)
        (λ id between v u left mid inside grown has less.
        let got = given_value m input whole f p around mid.ids id t v real has.given in
        does_then m input whole f p 0 left between mid (NowWaits m input whole f p around v between mid) none_waits (IsOne splits t b state) none_waits (Got tt u left) (λ (r : Unit {0}). shader_run.given {A = ShaderPassed} (record { value = v; back = None })) (keep id between) (λ h. given (passed h false None)) inside
        (adds_keep id between) (λ h. adds_given (passed h false None)) (does_keep m input whole f p around id v left between u mid has.after.good got.1)
        (λ h later r w rest last here more waits fewer there. reaches_here m input rest last (IsOne splits t b state (passed h false None) later (record { value = v; back = None }) w) (one b between later state mid last s u w h v grown more has.after got.0 waits))
        (λ h later w rest last here more none fewer. absurd none))
        (λ id between u left mid inside grown none less. absurd none)
      where
        one : (b between later : Flow) (state mid last : State) (s u w : shader.State) (h : ℕ) (v : Value) → Grown b between → Grown between later → After m input whole f p around splits b state between u mid → is_value_of p.structs t v ≡ true → NowWaits m input whole f p around v between mid h later tt w last
            → IsOne splits t b state (passed h false None) later (record { value = v; back = None }) w last
        one b between later state mid last s u w h v grown more first typed waits = record {
          argument = record { id = h; holder = waits.1.0.holder; seat = waits.1.0.number; value = v };
          is = refl;
          means = refl;
          typed = typed;
          held = record { behind = (let used = grown.used in let next = waits.1.1 in omega (arith, used, next)); seat = waits.1.0.seat; points = waits.1.0.points; value = waits.1.0.value };
          below = waits.1.0.among;
          after = any (after_then m input whole f p around splits false b between later state mid last u w grown first waits.0);
        }
          where
            or_none : (c : Bool) → c ≡ false → (c || false) ≡ false
            or_none true e = absurd cc
            or_none false e = refl

            any : After m input whole f p around (splits || false) b state later w last → After m input whole f p around splits b state later w last
            any after = record { good = after.good; held = after.held; ids = λ e. after.ids (or_none splits e) }

  -- what is held is held where its holder is as it was
  pub still_held : (first count : ℕ) (state last : State) (a : Argument) → a.holder < count → Kept m input whole f count state last → IsHeld m input whole f first state a → IsHeld m input whole f first last a
  still_held first count state last a less kept h = record { behind = h.behind; seat = h.seat; points = h.points; value = kept.same a.holder a.seat less h.seat ∙ h.value }

  -- ---- all of them

  module _ (structs shader_structs : List StructType) where
    pub adds_passing : (args : List Lower) (xs : List Meant) (tys : List Ty) → AreOf args tys → AllGive (GivesValue m input whole f p around) args xs → Adds (passing_all structs args (ins tys))
    unfolding passing_all
    adds_passing [] xs tys of all = adds_given {A = List Passed} []
    adds_passing (e ∷ es) xs [] of all = adds_given {A = List Passed} []
    adds_passing (e ∷ es) [] (t ∷ tys) of all = absurd all
    adds_passing (e ∷ es) (x ∷ xs) (t ∷ tys) of all =
        adds_then (e.value >>= going_in) (λ way. passing_all structs es (ins tys) >>= (λ ways. given (way ∷ ways))) (adds_one e.traits.splits e.ty e.value x.value all.0.0 all.0.1)
        (λ way. adds_then (passing_all structs es (ins tys)) (λ ways. given (way ∷ ways)) (adds_passing es xs tys of.1 all.1) (λ ways. adds_given (way ∷ ways)))

    both_passed : (e : Lower) (es : List Lower) (t : Ty) (tys : List Ty) (b between later : Flow) (state mid last : State) (u w : shader.State) (way : Passed) (ways : List Passed) (q : ShaderPassed) (qs : List ShaderPassed) → Grown b between → Grown between later
        → IsOne e.traits.splits t b state way between q u mid → ArePassed (any_splits es) tys between mid ways later qs w last → ArePassed (any_splits (e ∷ es)) (t ∷ tys) b state (way ∷ ways) later (q ∷ qs) w last
    both_passed e es t tys b between later state mid last u w way ways q qs grown more one r = record {
      args = one.argument ∷ r.args;
      are = ap (λ x. x ∷ ways) one.is ∙ ap (λ l. going one.argument ∷ l) r.are;
      mean = ap (λ x. x ∷ qs) one.means ∙ ap (λ l. meant one.argument ∷ l) r.mean;
      many = ap suc r.many;
      typed = typed;
      held = record { each = each; apart = apart };
      below = below;
      after = after_then m input whole f p around e.traits.splits (any_splits es) b between later state mid last u w grown one.after r.after;
    }
      where
        typed : (number : ℕ) → HasType m input whole f p around (type_of_param (slice_get (ins (t ∷ tys)) number)) (slice_get (values_of (one.argument ∷ r.args)) number)
        typed zero = one.typed
        typed (suc number) = r.typed number

        each : (number : ℕ) (a : Argument) → slice_get (one.argument ∷ r.args) number ≡ Some a → IsHeld m input whole f b.place.used last a
        each zero a is = let same : one.argument ≡ a = cc in subst (IsHeld m input whole f b.place.used last) same (still_held b.place.used between.place.used mid last one.argument one.below r.after.held one.held)
        each (suc number) a is = let h = r.held.each number a is in let first = h.behind in let used = grown.used in record { behind = omega (arith, first, used); seat = h.seat; points = h.points; value = h.value }

        apart : (j k : ℕ) (a c : Argument) → slice_get (one.argument ∷ r.args) j ≡ Some a → slice_get (one.argument ∷ r.args) k ≡ Some c → a.holder ≡ c.holder → j ≡ k
        apart zero zero a c is other same = refl
        apart zero (suc k) a c is other same =
            let here : one.argument ≡ a = cc in
            let n : one.argument.holder ≡ a.holder = ap (λ (x : Argument). x.holder) here in
            let low = one.below in let high = (r.held.each k c other).behind in absurd (omega (arith, n, same, low, high))
        apart (suc j) zero a c is other same =
            let here : one.argument ≡ c = cc in
            let n : one.argument.holder ≡ c.holder = ap (λ (x : Argument). x.holder) here in
            let low = one.below in let high = (r.held.each j a is).behind in absurd (omega (arith, n, same, low, high))
        apart (suc j) (suc k) a c is other same = ap suc (r.held.apart j k a c is other same)

        below : (number : ℕ) (a : Argument) → slice_get (one.argument ∷ r.args) number ≡ Some a → a.holder < later.place.used
        below zero a is = let same : one.argument ≡ a = cc in let n : one.argument.holder ≡ a.holder = ap (λ (x : Argument). x.holder) same in let low = one.below in let used = more.used in omega (arith, n, low, used)
        below (suc number) a is = r.below number a is

    pub passing_does : (args : List Lower) (xs : List Meant) (tys : List Ty) → AreOf args tys → AllGive (GivesValue m input whole f p around) args xs → (b : Flow) (s : shader.State) (units : ℕ) (state : State) → Good m input whole f p around b s state
        → Does m input whole f p 0 units state (ArePassed (any_splits args) tys b state) none_waits (shader_expr.passing_all shader_structs (ins tys) xs s units) (passing_all structs args (ins tys) b)
    unfolding passing_all
    passing_does [] [] [] of all b s units state good = λ inside. reaches_here m input units state (ArePassed false [] b state [] b [] s) (record {
      args = [];
      are = refl;
      mean = refl;
      many = refl;
      typed = λ number. none number;
      held = record { each = λ number a is. absurd (none_there number a is); apart = λ j k a c is other same. absurd (none_there j a is) };
      below = λ number a is. absurd (none_there number a is);
      after = after_same m input whole f p around b s state good;
    })
      where
        none_there : (number : ℕ) (a : Argument) → slice_get {X = Argument} [] number ≡ Some a → ⊥
        none_there zero a is = cc
        none_there (suc number) a is = cc

        none : (number : ℕ) → HasType m input whole f p around (type_of_param (slice_get (ins []) number)) (slice_get (values_of []) number)
        none zero = tt
        none (suc number) = tt
    passing_does [] (x ∷ xs) tys of all b s units state good = absurd all
    passing_does [] [] (t ∷ tys) of all b s units state good = absurd of
    passing_does (e ∷ es) [] tys of all b s units state good = absurd all
    passing_does (e ∷ es) (x ∷ xs) [] of all b s units state good = absurd of
    passing_does (e ∷ es) (x ∷ xs) (t ∷ tys) of all b s units state good =
        let real : t ≡ Void → ⊥ = λ v. all.0.0 (of.0 ∙ v) in
        let gives = subst (λ ty. GivesValue m input whole f p around e.traits.splits ty e.value x.value) of.0 all.0.1 in
        does_then m input whole f p 0 units b state (IsOne e.traits.splits t b state) none_waits (ArePassed (any_splits (e ∷ es)) (t ∷ tys) b state) none_waits (shader_run.◌>>=◌ x.value (λ v. shader_run.given {A = ShaderPassed} (record { value = v; back = None })) s units)
        (λ q. shader_run.◌>>=◌ (shader_expr.passing_all shader_structs (ins tys) xs) (λ qs. shader_run.given (q ∷ qs))) ((e.value >>= going_in) b) (λ way. passing_all structs es (ins tys) >>= (λ ways. given (way ∷ ways))) good.inside
        (adds_one e.traits.splits t e.value x.value real gives b) (λ way. adds_then (passing_all structs es (ins tys)) (λ ways. given (way ∷ ways)) (adds_passing es xs tys of.1 all.1) (λ ways. adds_given (way ∷ ways)))
        (does_one e.traits.splits t e.value x.value real gives b s units state good)
        (λ way between q u left mid inside grown one less.
        does_then m input whole f p 0 left between mid (ArePassed (any_splits es) tys between mid) none_waits (ArePassed (any_splits (e ∷ es)) (t ∷ tys) b state) none_waits (shader_expr.passing_all shader_structs (ins tys) xs u left) (λ qs. shader_run.given (q ∷ qs))
        (passing_all structs es (ins tys) between) (λ ways. given (way ∷ ways)) inside (adds_passing es xs tys of.1 all.1 between) (λ ways. adds_given (way ∷ ways)) (passing_does es xs tys of.1 all.1 between u left mid one.after.good)
        (λ ways later qs w rest last here more are fewer there. reaches_here m input rest last (ArePassed (any_splits (e ∷ es)) (t ∷ tys) b state (way ∷ ways) later (q ∷ qs) w) (both_passed e es t tys b between later state mid last u w way ways q qs grown more one are))
        (λ ways later w rest last here more none fewer. absurd none))
        (λ way between u left mid inside grown none less. absurd none)
