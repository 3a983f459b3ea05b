use Rattle.std.proofs.Common.{ℕ, ◌<◌, ◌≢◌, IsTrue}
use Rattle.gsl_overload.specs.Best.{FitsAt, beats, at_place}
use Rattle.gsl_overload.proofs.choice.is_best.Given as goal

abbrev pub invariant-loop-k : goal.invariant-loop-k
invariant-loop-k l = (j : ℕ) → j < l.k → FitsAt l.candidates l.args j → j ≢ l.place → IsTrue (beats l.args (at_place l.candidates l.place) (at_place l.candidates j))
