-- What is lowered only adds.
use Rattle.std.proofs.Common.{refl, ap, ◌∙◌, arith}
use Rattle.gsl_spv.proofs.Extending.{extends_same, extends_then}
use Rattle.gsl_lower_values.specs.Building.{Built, Made, Full, Step}
use Rattle.gsl_lower_law.specs.Computing.{Grows}
use Rattle.gsl_lower_holders.specs.Flow.{Emit, Flow, Gives, Lacks, Lowered, behind, built_in, given, lift, ◌>>=◌}
use Rattle.gsl_lower_holders.specs.declared.place.FlowPlace.{FlowPlace}
use Rattle.gsl_lower_follows.specs.Giving.{Adds, Grown, GrownTo}

pub grown_same : (b : Flow) → Grown b b
grown_same b = record { extends = extends_same b.sections; used = omega arith; place = refl }

pub grown_then : {a b c : Flow} → Grown a b → Grown b c → Grown a c
grown_then {a} {b} {c} p q = record {
  extends = extends_then p.extends q.extends;
  used = omega (arith, p.used, q.used);
  place = q.place ∙ ap (λ (place : FlowPlace). record place { label = c.place.label; used = c.place.used }) p.place;
}

pub grown_behind : {A B : Type 0} (b : Flow) (first : Lowered A) (next : A → Emit B) → GrownTo b first → ((a : A) → Adds (next a)) → GrownTo b (behind first next)
grown_behind b Lacks next p q = tt
grown_behind {A} {B} b (Gives a between) next p q = by (next a between) (q a between)
  where
    by : (second : Lowered B) → GrownTo between second → GrownTo b second
    by Lacks g = tt
    by (Gives c later) g = grown_then p g

pub adds_then : {A B : Type 0} (first : Emit A) (next : A → Emit B) → Adds first → ((a : A) → Adds (next a)) → Adds (first >>= next)
adds_then first next p q b = grown_behind b (first b) next (p b) q

pub adds_given : {A : Type 0} (a : A) → Adds (given a)
adds_given a b = grown_same b

-- a step of the builder
pub adds_lift : {A : Type 0} (step : Step A) → ((b : Flow) → Grows b.sections (step b.sections)) → Adds (lift step)
adds_lift {A} step p b = by (step b.sections) (p b)
  where
    by : (built : Built A) → Grows b.sections built → GrownTo b (built_in b.place built)
    by Full g = tt
    by (Made a sections) g = record { extends = g; used = omega arith; place = refl }
