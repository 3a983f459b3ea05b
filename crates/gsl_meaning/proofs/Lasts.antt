-- What lasts with more units, piece by piece.
use Rattle.std.proofs.Common.{◌≡◌, refl, sym, ap, subst, ℕ, zero, suc, ◌+◌, ◌≤◌, List, arith}
use Rattle.std.specs.Prelude.{Bool, true, false, nat_lt, if◌then◌else◌}
use Rattle.gsl_values.specs.declared.value.Value.{Value}
use Rattle.gsl_meaning.specs.State.{State}
use Rattle.gsl_meaning.specs.Accesses.{Access, index_of, parts_at}
use Rattle.gsl_meaning.specs.Running.{Ran, Run, Got, Ends, Strays, Goes, behind, ◌>>=◌, given, told_by, drawing, storing, indexing, spending, ending, going}
use Rattle.gsl_meaning.specs.Lasting.{Keeps, Lasts}

pub behind_keeps : {A B : Type 0} (r later : Ran A) (next other : A → Run B) (more most : ℕ) → Keeps r later more most
    → ((a : A) (state : State) (units : ℕ) → units ≤ most → Keeps (next a state units) (other a state (units + more)) more most) → Keeps (behind r next) (behind later other) more most
behind_keeps (Got a state units) later next other more most (is, below) goes_on = subst (λ l. Keeps (next a state units) (behind l other) more most) (sym is) (goes_on a state units below)
behind_keeps (Ends state) later next other more most is goes_on = ap (λ l. behind l other) is
behind_keeps Strays later next other more most is goes_on = ap (λ l. behind l other) is
behind_keeps Goes later next other more most is goes_on = tt

pub weaker : {A : Type 0} (r later : Ran A) (more few most : ℕ) → few ≤ most → Keeps r later more few → Keeps r later more most
weaker (Got a state units) later more few most le (is, below) = (is, omega (arith, le, below))
weaker (Ends state) later more few most le is = is
weaker Strays later more few most le is = is
weaker Goes later more few most le is = tt

pub lasts_bind : {A B : Type 0} (run : Run A) (next : A → Run B) → Lasts run → ((a : A) → Lasts (next a)) → Lasts (run >>= next)
lasts_bind run next first rest = record {
  keeps = λ state units more.
      behind_keeps (run state units) (run state (units + more)) next next more units (first.keeps state units more)
      (λ a after left le. weaker (next a after left) (next a after (left + more)) more left units le ((rest a).keeps after left more));
}

pub lasts_given : {A : Type 0} (a : A) → Lasts (given a)
lasts_given a = record { keeps = λ state units more. (refl, omega arith) }

pub lasts_told : {A : Type 0} (tell : State → A) → Lasts (told_by tell)
lasts_told tell = record { keeps = λ state units more. (refl, omega arith) }

pub lasts_drawing : {A : Type 0} (draw : List ℕ → A × List ℕ) → Lasts (drawing draw)
lasts_drawing draw = record { keeps = λ state units more. (refl, omega arith) }

pub lasts_storing : (access : Access) (v : Value) → Lasts (storing access v)
lasts_storing access v = record { keeps = λ state units more. (refl, omega arith) }

pub lasts_ending : {A : Type 0} → Lasts {A = A} ending
lasts_ending = record { keeps = λ state units more. refl }

pub lasts_going : {A : Type 0} → Lasts {A = A} going
lasts_going = record { keeps = λ state units more. tt }

index_keeps : (b : Bool) (access : Access) (state : State) (units more : ℕ) → Keeps (if b then Got access state units else Strays) (if b then Got access state (units + more) else Strays) more units
index_keeps true access state units more = (refl, omega arith)
index_keeps false access state units more = refl

pub lasts_indexing : (access : Access) (index : ℕ) → Lasts (indexing access index)
lasts_indexing access index = record { keeps = λ state units more. index_keeps (nat_lt index (parts_at access state)) (index_of access index) state units more }

pub lasts_if : {A : Type 0} (b : Bool) (run other : Run A) → Lasts run → Lasts other → Lasts (if b then run else other)
lasts_if true run other is also = is
lasts_if false run other is also = also

spending_keeps : {A : Type 0} (run : Run A) → Lasts run → (state : State) (units more : ℕ) → Keeps (spending run state units) (spending run state (units + more)) more units
spending_keeps run is state zero more = tt
spending_keeps run is state (suc units) more =
    subst (λ n. Keeps (run state units) (spending run state n) more (suc units)) (let e : suc (units + more) ≡ suc units + more = omega arith in e)
    (weaker (run state units) (run state (units + more)) more units (suc units) (omega arith) (is.keeps state units more))

pub lasts_spending : {A : Type 0} (run : Run A) → Lasts run → Lasts (spending run)
lasts_spending run is = record { keeps = spending_keeps run is }
