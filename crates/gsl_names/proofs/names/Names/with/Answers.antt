use Rattle.std.proofs.Common.{◌≡◌, ◌∙◌, ap, sym, Some, ◌∷◌, length, if◌then◌else◌, arith, string_bytes}
use Rattle.std.specs.BTreeMap.{get_by_text}
use Rattle.std.specs.Str.{bytes_eq}
use Rattle.std.proofs.lemmas.Map.Text.{btree_map_updates_text}
use Rattle.gsl_names.specs.Scopes.{Declared}
use Rattle.gsl_names.specs.Table.{latest, hides}
use Rattle.gsl_names.proofs.names.Names.with.Goals as goal

pub invariant_of-result : goal.invariant_of-result
invariant_of-result c =
    let all = c.self.inside.all in
    let name = c.args.name in
    let one : Declared = (name, c.args.entry) in
    let longer : c.push-2.new.self ≡ one ∷ all = c.in_ok-push-2.ensures in
    let key : string_bytes c.in_ok-key.key ≡ name = c.in_ok-key.ensures.ok ∙ c.as_str.ensures in
    let old : c.in_ok-insert.field-0 ≡ latest all name = c.in_ok-insert.ensures.old ∙ ap (get_by_text c.self.inside.places) key ∙ c.self.invariant.0 name in (
      λ q.
          btree_map_updates_text (string_bytes c.in_ok-key.key) c.self.inside.places c.insert.new.self (Some c.len.result) c.in_ok-insert.ensures.updates q
          ∙ ap (λ k. if bytes_eq k q then Some c.len.result else get_by_text c.self.inside.places q) key
          ∙ ap (λ n. if bytes_eq name q then Some n else get_by_text c.self.inside.places q) c.len.ensures
          ∙ ap (λ o. if bytes_eq name q then Some (length all) else o) (c.self.invariant.0 q)
          ∙ ap (λ l. latest l q) (sym longer),
      c.in_ok-push.ensures ∙ ap (λ l. c.in_ok-insert.field-0 ∷ l) c.self.invariant.1 ∙ ap (λ o. o ∷ hides all) old ∙ ap hides (sym longer),
      omega (arith, c.self.invariant.2, ap length longer),
    )
