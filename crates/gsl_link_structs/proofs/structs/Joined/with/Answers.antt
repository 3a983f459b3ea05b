use Rattle.std.proofs.Common.{◌≡◌, ◌∙◌, ℕ, List, map, ap}
use Rattle.std.specs.Prelude.{not, bytes_eq}
use Rattle.std.specs.List.{list_any, position_or_len}
use Rattle.gsl_link_units.specs.Structs.{struct_number, with_struct}
use Rattle.gsl_link_structs.specs.Keys.{struct_words}
use Rattle.gsl_link_structs.proofs.Listed.{number_told, put_told}
use Rattle.gsl_link_structs.proofs.structs.Joined.with.Goals as goal

pub returns-clause-joined : goal.returns-clause-joined
returns-clause-joined c =
    let s = c.args.s in
    let keys = c.self.inside.keys.keys in
    let new : c.in_ok-number.new ≡ not (list_any (bytes_eq (struct_words s)) (map struct_words c.self.inside.structs)) =
    c.in_ok-number.ensures.added ∙ ap (λ (k : List ℕ). not (list_any (bytes_eq k) keys)) c.in_ok-key.ensures ∙ ap (λ (ks : List (List ℕ)). not (list_any (bytes_eq (struct_words s)) ks)) c.self.invariant in
    c.in_ok-structs.ensures ∙ put_told s c.self.inside.structs c.in_ok-number.new new ∙ ap (λ joined. with_struct joined s) c.self.view_is

pub returns-clause-number : goal.returns-clause-number
returns-clause-number c =
    let s = c.args.s in
    let keys = c.self.inside.keys.keys in
    c.in_ok-number.ensures.index ∙ ap (λ (k : List ℕ). position_or_len (bytes_eq k) keys) c.in_ok-key.ensures
    ∙ ap (λ (ks : List (List ℕ)). position_or_len (bytes_eq (struct_words s)) ks) c.self.invariant ∙ number_told s c.self.inside.structs ∙ ap (λ joined. struct_number joined s) c.self.view_is
