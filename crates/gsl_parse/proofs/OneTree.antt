-- What is read of a unit is what its tokens stand for, and they stand for no more than one.
use Rattle.std.proofs.Common.{◌≡◌, sym, ap, subst, ◌∙◌, ℕ, List, [], length, Result, Ok, arith}
use Rattle.std.proofs.lemmas.List.{append-nil}
use Rattle.gsl_base.specs.declared.fault.Refusal.{Refusal}
use Rattle.gsl_syntax.specs.declared.statement.Global.{Global}
use Rattle.gsl_syntax.specs.Declarations.{Row}
use Rattle.gsl_syntax.specs.Sentences.{IsGlobal, IsUnit}
use Rattle.gsl_expr.specs.Reading.{Tokens, Outcome}
use Rattle.gsl_expr.proofs.Taken.{Good, ok_is}
use Rattle.gsl_parse.specs.Units.{globals}
use Rattle.gsl_parse.specs.Judged.{unit_of, Judges, Parsed}
use Rattle.gsl_parse.proofs.SoundUnits.{globals_sound}
use Rattle.gsl_parse.proofs.CompleteUnits.{globals_complete}
use Rattle.gsl_parse.proofs.Placed.{first_left}
use Rattle.gsl_parse.proofs.Settled.{settled}

all_taken : (ts : Tokens) (us : List Global) → Good (Row IsGlobal) ts (Ok (us, [])) → IsUnit us ts
all_taken ts us g = subst (λ (xs : Tokens). IsUnit us xs) (sym (g.splits ∙ append-nil g.xs)) g.stands

pub unit_is : (d : ℕ) (ts : Tokens) (us : List Global) → globals d ts ≡ Ok (us, []) → IsUnit us ts
unit_is d ts us e = all_taken ts us (subst (λ (o : Outcome (List Global)). Good (Row IsGlobal) ts o) e (globals_sound d ts))

pub unit_reads : (ts : Tokens) (us : List Global) → IsUnit us ts → globals (length ts) ts ≡ Ok (us, [])
unit_reads ts us x = globals_complete x (length ts) (omega arith)

pub one_unit : (ts : Tokens) (a b : List Global) → IsUnit a ts → IsUnit b ts → a ≡ b
one_unit ts a b x y = ap (λ (z : List Global × Tokens). z.0) (ok_is (a, []) (b, []) (sym (unit_reads ts a x) ∙ unit_reads ts b y))

pub parsed : (ts : Tokens) (r : Result (List Global) Refusal) → Judges r (unit_of ts) → Parsed IsUnit ts r
parsed ts r j = settled IsUnit ts (globals (length ts) ts) r (unit_is (length ts) ts) (unit_reads ts) (first_left ts) j
