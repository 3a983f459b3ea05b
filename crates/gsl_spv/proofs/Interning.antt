-- What an interned declaration gives.
use Rattle.std.proofs.Common.{◌≡◌, ℕ, ◌≤◌, Bool, Option, Some, None, Err, ap, arith}
use Rattle.gsl_spv.specs.declared.refusal.BuildRefusal.{BuildRefusal}
use Rattle.gsl_spv.specs.declared.refusal.BuildRefusal.TheVariants.{TooManyIds, Memory}
use Rattle.gsl_spv.specs.declared.plain.PlainType.TheVariants as plain
use Rattle.gsl_spv.specs.Declarations.{Declaration, truth as truth_by}
use Rattle.gsl_spv.specs.Once.{id_of}
use Rattle.gsl_spv.specs.Sections.{Sections}
use Rattle.gsl_spv.specs.Calls.{Out, out, known, declare, intern, plain_type, truth, Answers}

pub interned_found : (d : Declaration) (s : Sections) (id : ℕ) → id_of d s.globals ≡ Some id → intern d s ≡ out id s
unfolding intern
interned_found d s id is = ap (λ o. known o d s) is

pub interned_absent : (d : Declaration) (s : Sections) → id_of d s.globals ≡ None → intern d s ≡ declare d s
unfolding intern
interned_absent d s is = ap (λ o. known o d s) is

-- what is interned may take an id
pub intern_last : (d : Declaration) (s : Sections) → s.last ≤ (intern d s).sections.last
unfolding intern
intern_last d s = by (id_of d s.globals)
  where
    by : (found : Option ℕ) → s.last ≤ (known found d s).sections.last
    by None = omega arith
    by (Some id) = omega arith

-- a refusal is one for what takes more ids, too
pub refused_later : (before after : Sections) (r : BuildRefusal) (said other : Out) → said.sections.last ≤ other.sections.last
    → Answers before (Err r) after said → Answers before (Err r) after other
refused_later before after TooManyIds said other more answer = (answer.0, answer.1, omega (arith, answer.2, more))
refused_later before after Memory said other more answer = answer

-- a truth value's type is refused, and so is the value
pub truth_refused : (value : Bool) (before after : Sections) (r : BuildRefusal) → Answers before (Err r) after (plain_type plain.Bool before)
    → Answers before (Err r) after (truth value before)
truth_refused value before after r answer =
    let ty = plain_type plain.Bool before in
    refused_later before after r ty (truth value before) (intern_last (truth_by value ty.id) ty.sections) answer
