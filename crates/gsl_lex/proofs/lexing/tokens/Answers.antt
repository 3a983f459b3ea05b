use Rattle.std.proofs.Common.{◌≡◌, ◌∷◌, [], ◌++◌, Err, ap, sym, ◌∙◌, append-nil, subst}
use Rattle.gsl_base.specs.declared.fault.Code.TheVariants.{E0102}
use Rattle.gsl_lex.specs.Raws.{raws_of}
use Rattle.gsl_lex.specs.declared.piece.Lexeme.{Lexeme}
use Rattle.gsl_lex.specs.declared.piece.Lexeme.TheVariants.{LineEnd, Blank, Token}
use Rattle.gsl_lex.proofs.Loops.{Met, loop_begins, loop_goes_on, loop_shrinks, loop_stops, loop_ends}
use Rattle.gsl_lex.proofs.lexing.tokens.Goals as goal
use Rattle.gsl_lex.proofs.lexing.tokens.Goals.{In-Some-2}

pub loop-first-init : goal.loop-first-init
loop-first-init c = loop_begins c.args.unit c.args.bytes.now c.new-cursor.result c.new-raws.result c.new-cursor.ensures c.new-raws.ensures

met : (c : In-Some-2) → Met c.loop-first.cursor c.in-Some.first c.in-Some.after c.in-Some-2.lexeme c.in-Some-2.rest
met c = record { first = c.in-Some.ensures.0; found = sym c.in_ok-lexeme.ensures ∙ c.in-Some-2.is }

met_as : (c : In-Some-2) (what : Lexeme) → c.in-Some-2.lexeme ≡ what → Met c.loop-first.cursor c.in-Some.first c.in-Some.after what c.in-Some-2.rest
met_as c what is = subst (λ w. Met c.loop-first.cursor c.in-Some.first c.in-Some.after w c.in-Some-2.rest) is (met c)

pub loop-first-smaller-in-LineEnd : goal.loop-first-smaller-in-LineEnd
loop-first-smaller-in-LineEnd c = loop_shrinks c.loop-first.cursor c.in-Some.first c.in-Some.after c.in-Some-2.lexeme c.in-Some-2.rest (met (goal.at.loop-first-smaller-in-LineEnd c).In-Some-2)

pub loop-first-smaller-in-Blank : goal.loop-first-smaller-in-Blank
loop-first-smaller-in-Blank c = loop_shrinks c.loop-first.cursor c.in-Some.first c.in-Some.after c.in-Some-2.lexeme c.in-Some-2.rest (met (goal.at.loop-first-smaller-in-Blank c).In-Some-2)

pub loop-first-smaller : goal.loop-first-smaller
loop-first-smaller c = loop_shrinks c.loop-first.cursor c.in-Some.first c.in-Some.after c.in-Some-2.lexeme c.in-Some-2.rest (met (goal.at.loop-first-smaller c).In-Some-2)

pub loop-first-preserved-in-LineEnd : goal.loop-first-preserved-in-LineEnd
loop-first-preserved-in-LineEnd c =
    let is = c.in-LineEnd.is in
    let next = loop_goes_on c.loop-first.raws c.loop-first.raws c.args.unit c.loop-first.starts_line c.loop-first.spaced c.loop-first.cursor c.in-Some.first c.in-Some.after LineEnd c.in-Some-2.rest
    (raws_of c.args.unit c.args.bytes.now) (met_as (goal.at.loop-first-preserved-in-LineEnd c).In-Some-2 LineEnd is) (sym (append-nil c.loop-first.raws)) c.loop-first.invariant in
    next

pub loop-first-preserved-in-Blank : goal.loop-first-preserved-in-Blank
loop-first-preserved-in-Blank c =
    let is = c.in-Blank.is in
    let next = loop_goes_on c.loop-first.raws c.loop-first.raws c.args.unit c.loop-first.starts_line c.loop-first.spaced c.loop-first.cursor c.in-Some.first c.in-Some.after Blank c.in-Some-2.rest
    (raws_of c.args.unit c.args.bytes.now) (met_as (goal.at.loop-first-preserved-in-Blank c).In-Some-2 Blank is) (sym (append-nil c.loop-first.raws)) c.loop-first.invariant in
    next

pub loop-first-preserved : goal.loop-first-preserved
loop-first-preserved c =
    loop_goes_on c.loop-first.raws c.push.new.self c.args.unit c.loop-first.starts_line c.loop-first.spaced c.loop-first.cursor c.in-Some.first c.in-Some.after (Token c.in-Token.kind) c.in-Some-2.rest
    (raws_of c.args.unit c.args.bytes.now) (met_as (goal.at.loop-first-preserved c).In-Some-2 (Token c.in-Token.kind) c.in-Token.is)
    (c.in_ok-push-in-Token.ensures.ok ∙ ap (λ p. c.loop-first.raws ++ record { place = p; kind = c.in-Token.kind; starts_line = c.loop-first.starts_line; spaced = c.loop-first.spaced } ∷ []) c.place_of-place.ensures) c.loop-first.invariant

pub returns : goal.returns
returns c = loop_ends c.loop-first.raws c.args.unit c.loop-first.starts_line c.loop-first.spaced c.loop-first.cursor (raws_of c.args.unit c.args.bytes.now) c.in_default.ensures c.loop-first.invariant

pub returns-in_default-2 : goal.returns-in_default-2
returns-in_default-2 c =
    let stop = loop_stops c.loop-first.raws c.args.unit c.loop-first.starts_line c.loop-first.spaced c.loop-first.cursor c.in-Some.first c.in-Some.after (raws_of c.args.unit c.args.bytes.now) c.in-Some.ensures.0
    (sym c.in_ok-lexeme.ensures ∙ c.in_default-2.is) c.loop-first.invariant in
    rw c.unclosed.ensures (stop ∙ ap (λ p. Err (record { place = p; code = E0102 })) (sym c.place_of-place.ensures))
