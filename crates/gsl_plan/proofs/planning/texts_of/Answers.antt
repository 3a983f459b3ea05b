use Rattle.std.proofs.Common.{rules, ◌∙◌, ◌≡◌, ap, sym, subst, List, [], ◌∷◌, ◌++◌, ◌+◌, take}
use Rattle.std.proofs.lemmas.List.Elements.{All-push}
use Rattle.std.proofs.lemmas.List.{map-append, take_more}
use Rattle.std.specs.List.{All}
use Rattle.std.specs.Str.{IsUtf8}
use Rattle.clap.specs.Walk.{texts}
use Rattle.gsl_plan.specs.Plan.{Name}
use Rattle.gsl_plan.proofs.planning.texts_of.Goals as goal

pub loop-word-preserved : goal.loop-word-preserved
loop-word-preserved c =
    let more : texts c.push.new.self.items ≡ texts c.loop-word.texts.items ++ c.as_str.result.now ∷ [] = ap texts c.in_ok-push.ensures.items ∙ map-append (λ s. s.now) c.loop-word.texts.items _ in
    (more ∙ ap (λ (xs : List Name). xs ++ c.as_str.result.now ∷ []) c.loop-word.invariant.0 ∙ (let last : take c.loop-word.word-index c.args.words.now ++ c.as_str.result.now ∷ [] ≡ take (c.loop-word.word-index + 1) c.args.words.now = search (rules, take_more) in last), subst (All IsUtf8) (sym more) (All-push IsUtf8 (texts c.loop-word.texts.items) c.as_str.result.now c.loop-word.invariant.1 c.as_str.utf8))
