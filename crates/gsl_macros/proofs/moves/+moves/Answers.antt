use Rattle.std.proofs.Common.{◌≡◌, ℕ, ◌+◌, ◌<◌, ◌∷◌, length, Ok, Some, ap, sym, ◌∙◌, arith}
use Rattle.std.proofs.lemmas.Result.{err_from_is_err_and}
use Rattle.gsl_macros.specs.declared.stream.Hid.{Hid}
use Rattle.gsl_macros.specs.declared.table.Macros.{Macros}
use Rattle.gsl_macros.specs.Expanding.{Seen, Numbered, taken, traced, use_of, replaced, expander}
use Rattle.gsl_macros.proofs.Fuel.{traced_none, traced_gives, traced_puts, counts, takes}
use Rattle.gsl_macros.proofs.Drawn.{draws_uncounted, draws_fault}
use Rattle.gsl_macros.proofs.moves.+moves.Goals as goal

pub next-returns-in_err-count-clause-drawn : goal.next-returns-in_err-count-clause-drawn
next-returns-in_err-count-clause-drawn t c =
    let p = err_from_is_err_and c.from_residual.result c.from_residual.ensures.1 in
    rw (p.1, p.2)
    (draws_uncounted c.args.macros.now c.args.depth c.in-Some.token c.take.new.self c.loop-token.left _ _ _ _
    (sym c.loop-token.invariant.0 ∙ ap (λ s. traced c.args.macros.now c.args.depth s c.loop-token.left) c.in-Some.ensures)
    c.in_err-count.ensures)

pub next-returns-in_default-used-clause-drawn : goal.next-returns-in_default-used-clause-drawn
next-returns-in_default-used-clause-drawn t c =
    sym c.loop-token.invariant.0 ∙ ap (λ s. traced c.args.macros.now c.args.depth s c.loop-token.left) c.in-Some.ensures
    ∙ traced_gives c.args.macros.now c.args.depth c.in-Some.token c.take.new.self c.loop-token.left c.count.new.left c.in_ok-count.ensures (sym c.in_default-used.ensures)

pub next-returns-in_err-replace-clause-drawn : goal.next-returns-in_err-replace-clause-drawn
next-returns-in_err-replace-clause-drawn t c =
    let p = err_from_is_err_and c.from_residual-in_err-replace.result c.from_residual-in_err-replace.ensures.1 in
    rw (p.1, p.2)
    (draws_fault c.args.macros.now c.args.depth c.in-Some.token (c.in-Some-used.number, c.in-Some-used.found.now) c.take.new.self c.loop-token.left c.count.new.left _ _ _ _
    (sym c.loop-token.invariant.0 ∙ ap (λ s. traced c.args.macros.now c.args.depth s c.loop-token.left) c.in-Some.ensures)
    c.in_ok-count.ensures (sym c.in-Some-used.ensures) c.in_err-replace.ensures)

-- a turn of the loop takes less
less_of : (macros : Macros) (depth : ℕ) (t : Hid) (m : Numbered) (stream rest tokens : Seen) (left now later : ℕ) → stream ≡ t ∷ rest → taken t left ≡ Ok now → replaced (expander macros depth) macros t m rest now ≡ Ok (tokens, later) →
    later + length tokens < left + length stream
less_of macros depth t m stream rest tokens left now later e k r =
    let less = takes macros depth t m rest tokens now later r in omega (arith, less.0, counts t left now k, ap length e)

same_of : (macros : Macros) (depth : ℕ) (t : Hid) (m : Numbered) (stream rest tokens : Seen) (left now later : ℕ) → stream ≡ t ∷ rest → taken t left ≡ Ok now → Some m ≡ use_of macros.table t rest →
    replaced (expander macros depth) macros t m rest now ≡ Ok (tokens, later) → traced macros depth tokens later ≡ traced macros depth stream left
same_of macros depth t m stream rest tokens left now later e k u r =
    sym (ap (λ s. traced macros depth s left) e ∙ traced_puts macros depth t m rest tokens left now later k (sym u) r)

pub next-loop-token-smaller-in_ok-replace : goal.next-loop-token-smaller-in_ok-replace
next-loop-token-smaller-in_ok-replace t c =
    less_of c.args.macros.now c.args.depth c.in-Some.token (c.in-Some-used.number, c.in-Some-used.found.now) c.loop-token.stream c.take.new.self c.replace.new.stream c.loop-token.left c.count.new.left c.replace.new.left c.in-Some.ensures c.in_ok-count.ensures c.in_ok-replace.ensures

pub next-loop-token-smaller : goal.next-loop-token-smaller
next-loop-token-smaller t c =
    less_of c.args.macros.now c.args.depth c.in-Some.token (c.in-Some-used.number, c.in-Some-used.found.now) c.loop-token.stream c.take.new.self c.replace.new.stream c.loop-token.left c.count.new.left c.replace.new.left c.in-Some.ensures c.in_ok-count.ensures c.in_ok-replace.ensures

pub next-loop-token-preserved-in_ok-replace : goal.next-loop-token-preserved-in_ok-replace
next-loop-token-preserved-in_ok-replace t c =
    let less = less_of c.args.macros.now c.args.depth c.in-Some.token (c.in-Some-used.number, c.in-Some-used.found.now) c.loop-token.stream c.take.new.self c.replace.new.stream c.loop-token.left c.count.new.left c.replace.new.left c.in-Some.ensures c.in_ok-count.ensures c.in_ok-replace.ensures in (
      same_of c.args.macros.now c.args.depth c.in-Some.token (c.in-Some-used.number, c.in-Some-used.found.now) c.loop-token.stream c.take.new.self c.replace.new.stream c.loop-token.left c.count.new.left c.replace.new.left c.in-Some.ensures c.in_ok-count.ensures c.in-Some-used.ensures c.in_ok-replace.ensures
          ∙ c.loop-token.invariant.0,
      omega (arith, less, c.loop-token.invariant.1),
    )

pub next-loop-token-preserved : goal.next-loop-token-preserved
next-loop-token-preserved t c =
    let less = less_of c.args.macros.now c.args.depth c.in-Some.token (c.in-Some-used.number, c.in-Some-used.found.now) c.loop-token.stream c.take.new.self c.replace.new.stream c.loop-token.left c.count.new.left c.replace.new.left c.in-Some.ensures c.in_ok-count.ensures c.in_ok-replace.ensures in (
      same_of c.args.macros.now c.args.depth c.in-Some.token (c.in-Some-used.number, c.in-Some-used.found.now) c.loop-token.stream c.take.new.self c.replace.new.stream c.loop-token.left c.count.new.left c.replace.new.left c.in-Some.ensures c.in_ok-count.ensures c.in-Some-used.ensures c.in_ok-replace.ensures
          ∙ c.loop-token.invariant.0,
      omega (arith, less, c.loop-token.invariant.1),
    )

pub next-returns-clause-drawn : goal.next-returns-clause-drawn
next-returns-clause-drawn t c = (
  sym c.loop-token.invariant.0 ∙ ap (λ s. traced c.args.macros.now c.args.depth s c.loop-token.left) c.in_default.ensures.0 ∙ traced_none c.args.macros.now c.args.depth c.loop-token.left,
  ap (λ s. traced c.args.macros.now c.args.depth s c.loop-token.left) (c.in_default.ensures.1 ∙ sym c.in_default.ensures.0) ∙ c.loop-token.invariant.0,
)
