use Rattle.std.proofs.Common.{◌≡◌, ◌∙◌, ap, subst, Bool, List, ℕ}
use Rattle.std.specs.Prelude.{codes}
use Rattle.std.specs.Str.{bytes_eq}
use Rattle.gsl_base.specs.Checked.{Gives}
use Rattle.gsl_qualifiers.specs.Qualifiers as spec
use Rattle.gsl_qualifiers.proofs.laying.flag.Goals as goal

pub returns : goal.returns
unfolding spec.flag
returns c =
    let by : (literal : List ℕ) → bytes_eq c.as_str-text.result.now literal ≡ bytes_eq c.args.name.now.text literal = λ literal. ap (λ t. bytes_eq t literal) c.as_str-text.ensures in
    let first : c.eq.result ≡ bytes_eq c.args.name.now.text (codes "std140") = c.eq.ensures ∙ by (codes "std140") in
    let second : c.eq-2.result ≡ bytes_eq c.args.name.now.text (codes "std430") = c.eq-2.ensures ∙ by (codes "std430") in
    let third : c.eq-3.result ≡ bytes_eq c.args.name.now.text (codes "push_constant") = c.eq-3.ensures ∙ by (codes "push_constant") in
    subst (λ (p : Bool). Gives c.flag_by.result (spec.flag_by (bytes_eq c.args.name.now.text (codes "std140")) (bytes_eq c.args.name.now.text (codes "std430")) p c.args.role c.args.name.now c.args.said)) third
    (subst (λ (b : Bool). Gives c.flag_by.result (spec.flag_by (bytes_eq c.args.name.now.text (codes "std140")) b c.eq-3.result c.args.role c.args.name.now c.args.said)) second
    (subst (λ (a : Bool). Gives c.flag_by.result (spec.flag_by a c.eq-2.result c.eq-3.result c.args.role c.args.name.now c.args.said)) first c.flag_by.ensures))
