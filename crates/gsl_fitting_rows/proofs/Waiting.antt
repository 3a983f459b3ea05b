-- Operands that wait, and are there again behind the last of them.
use Rattle.std.proofs.Common.{◌≡◌, ℕ, ◌+◌, Bool, true, false, List, [], ◌∷◌, ◌++◌, length, refl, sym, arith}
use Rattle.gsl_spv.specs.Sections.{Sections}
use Rattle.gsl_lower_holders.specs.Flow.{Emit, Flow, Lowered, behind, given as give}
use Rattle.gsl_lower_holders.specs.Waiting.{fetch, hold}
use Rattle.gsl_lower_expr.specs.Parts.{Lower, any_splits, fetches, keeps}
use Rattle.gsl_fitting.specs.Fits.{Frame}
use Rattle.gsl_fitting_types.specs.Making.{AreSorted}
use Rattle.gsl_fitting_flow.specs.Flowing.{EmitStays, Flows, IsLater, IsOf, Waits, Widens, asked_if}
use Rattle.gsl_fitting_flow.proofs.Following.{emit_then, flow_same, flows_so, flows_then, given_flows, later_of, later_then}
use Rattle.gsl_fitting_flow.proofs.Holding.{fetch_flows, fetch_stays, hold_flows, hold_stays, of_later, type_on, waits_later}
use Rattle.gsl_fitting_expr.specs.Evaluating.{Yields}
use Rattle.gsl_fitting_expr.proofs.Yielding.{flows_map, stays_map, yields_last}
use Rattle.gsl_fitting_rows.specs.Rows.{AreOf, EvaluateEach, HaveTypes, Row, asked_in}

-- ---- parts

abbrev kept_of : List Lower → ℕ → Emit (List ℕ)
kept_of es kept w = behind (keeps es w) (λ others. give (kept ∷ others))

abbrev held_of : List Lower → ℕ → Emit (List ℕ)
held_of es x v = behind (hold (any_splits es) x v) (kept_of es)

abbrev more_of : List Lower → List ℕ → ℕ → Emit (List ℕ)
more_of es others x w = behind (fetches es others w) (λ more. give (x ∷ more))

pub fetches_stay : (es : List Lower) (kept : List ℕ) (u : Flow) → EmitStays u (fetches es kept u)
unfolding fetches
fetches_stay [] kept u = flow_same u
fetches_stay (e ∷ es) [] u = flow_same u
fetches_stay (e ∷ es) (k ∷ kept) u =
    emit_then u (fetch (any_splits es) e.ty k u) (more_of es kept) (fetch_stays (any_splits es) e.ty k u) (λ x w. stays_map w (fetches es kept w) (λ more. x ∷ more) (fetches_stay es kept w))

module _ (whole : Sections) (main : ℕ) (local_size : List ℕ) (rank : ℕ → ℕ) (f : Frame) (sorted : AreSorted whole) where
  abbrev Each : Flow → ℕ → List Lower → Row → Type 0
  Each s deep es row = EvaluateEach whole main local_size rank f s deep es row

  -- what stands for operands while they wait
  abbrev WaitEach : List ℕ → List Lower → Row → List ℕ → Type 0
  WaitEach given [] [] [] = Unit {0}
  WaitEach given (e ∷ es) (one ∷ row) (kept ∷ others) = Waits whole main local_size rank f (any_splits es) given one.0 kept × WaitEach given es row others
  WaitEach given _ _ _ = ⊥

  wait_later : (given now : List ℕ) (es : List Lower) (row : Row) (kept : List ℕ) → Widens given now → WaitEach given es row kept → WaitEach now es row kept
  wait_later given now [] [] [] wider w = tt
  wait_later given now [] [] (k ∷ kept) wider w = elim w [ ]
  wait_later given now [] (one ∷ row) kept wider w = elim w [ ]
  wait_later given now (e ∷ es) [] kept wider w = elim w [ ]
  wait_later given now (e ∷ es) (one ∷ row) [] wider w = elim w [ ]
  wait_later given now (e ∷ es) (one ∷ row) (k ∷ kept) wider w = (waits_later whole main local_size rank f sorted (any_splits es) given now one.0 k (λ no_labels. wider) w.0, wait_later given now es row kept wider w.1)

  -- ---- in holders

  keeps_stay : (s : Flow) (deep : ℕ) (es : List Lower) (row : Row) → Each s deep es row → (u : Flow) → EmitStays u (keeps es u)
  unfolding keeps
  keeps_stay s deep [] [] each u = flow_same u
  keeps_stay s deep [] (one ∷ row) each u = elim each [ ]
  keeps_stay s deep (e ∷ es) [] each u = elim each [ ]
  keeps_stay s deep (e ∷ es) (one ∷ row) each u =
      emit_then u (e.value u) (held_of es) (each.0.stays u)
      (λ x v. emit_then v (hold (any_splits es) x v) (kept_of es) (hold_stays (any_splits es) x v) (λ kept w. stays_map w (keeps es w) (λ others. kept ∷ others) (keeps_stay s deep es row each.1 w)))

  keeps_flow : (s : Flow) (deep : ℕ) (es : List Lower) (row : Row) → Each s deep es row → (given : List ℕ) (u : Flow) → IsLater s u
      → Flows whole main local_size rank f (asked_in es row) deep (any_splits es) given (λ kept now after. WaitEach now es row kept) u (keeps es u)
  unfolding keeps
  keeps_flow s deep [] (one ∷ row) each given u here = elim each [ ]
  keeps_flow s deep (e ∷ es) [] each given u here = elim each [ ]
  keeps_flow s deep [] [] each given u here = given_flows whole main local_size rank f deep given (λ kept now after. WaitEach now [] [] kept) [] u (λ inside. tt)
  keeps_flow s deep (e ∷ es) (one ∷ row) each given u here =
      flows_then whole main local_size rank f one.1 (asked_if (any_splits es) one.0 ++ asked_in es row) deep e.traits.splits (any_splits es) given
      (λ x now after. IsOf whole main local_size rank f now one.0 x) (λ kept now after. WaitEach now (e ∷ es) (one ∷ row) kept) u (e.value u) (held_of es) (each.0.stays u) (each.0.flows given u here)
      (λ x v. emit_then v (hold (any_splits es) x v) (kept_of es) (hold_stays (any_splits es) x v)
      (λ kept w. stays_map w (keeps es w) (λ others. kept ∷ others) (keeps_stay s deep es row each.1 w)))
      (λ x v now is wider on inside. held (keeps_flow s deep es row each.1) now x v (later_then s u v here (later_of on)) is)
    where
      held : ((given : List ℕ) (u : Flow) → IsLater s u → Flows whole main local_size rank f (asked_in es row) deep (any_splits es) given (λ kept now after. WaitEach now es row kept) u (keeps es u)) → (now : List ℕ) (x : ℕ) (v : Flow) → IsLater s v → IsOf whole main local_size rank f now one.0 x
          → Flows whole main local_size rank f (asked_if (any_splits es) one.0 ++ asked_in es row) deep (any_splits es) now (λ kept now after. WaitEach now (e ∷ es) (one ∷ row) kept) v (held_of es x v)
      held rest now x v there is =
          flows_then whole main local_size rank f (asked_if (any_splits es) one.0) (asked_in es row) deep false (any_splits es) now (λ kept now after. Waits whole main local_size rank f (any_splits es) now one.0 kept)
          (λ kept now after. WaitEach now (e ∷ es) (one ∷ row) kept) v (hold (any_splits es) x v) (kept_of es)
          (hold_stays (any_splits es) x v) (hold_flows whole main local_size rank f sorted (any_splits es) deep now one.0 x v is)
          (λ kept w. stays_map w (keeps es w) (λ others. kept ∷ others) (keeps_stay s deep es row each.1 w))
          (λ kept w later waits wider on inside. flows_map whole main local_size rank f (asked_in es row) deep (any_splits es) later (λ others now after. WaitEach now es row others) (λ kept now after. WaitEach now (e ∷ es) (one ∷ row) kept) w (keeps es w) (λ others. kept ∷ others)
          (λ others then end inside wider all. (waits_later whole main local_size rank f sorted (any_splits es) later then one.0 kept wider waits, all)) (rest later w (later_then s v w there (later_of on))))

  -- ---- and again

  fetches_flow : (s : Flow) (deep : ℕ) (es : List Lower) (row : Row) (kept : List ℕ) → HaveTypes whole main local_size rank f s es row → (given : List ℕ) (u : Flow) → IsLater s u → WaitEach given es row kept
      → Flows whole main local_size rank f [] deep false given (λ ids now after. AreOf whole main local_size rank f now row ids) u (fetches es kept u)
  unfolding fetches
  fetches_flow s deep [] [] (k ∷ kept) types given u here waits = elim waits [ ]
  fetches_flow s deep [] (one ∷ row) kept types given u here waits = elim waits [ ]
  fetches_flow s deep (e ∷ es) [] kept types given u here waits = elim waits [ ]
  fetches_flow s deep (e ∷ es) (one ∷ row) [] types given u here waits = elim waits [ ]
  fetches_flow s deep [] [] [] types given u here waits = given_flows whole main local_size rank f deep given (λ ids now after. AreOf whole main local_size rank f now [] ids) [] u (λ inside. tt)
  fetches_flow s deep (e ∷ es) (one ∷ row) (k ∷ kept) types given u here waits =
      flows_then whole main local_size rank f [] [] deep false false given (λ x now after. IsOf whole main local_size rank f now one.0 x × Widens given now) (λ ids now after. AreOf whole main local_size rank f now (one ∷ row) ids) u (fetch (any_splits es) e.ty k u) (more_of es kept)
      (fetch_stays (any_splits es) e.ty k u)
      (flows_so whole main local_size rank f [] deep false given (λ x now after. IsOf whole main local_size rank f now one.0 x) (λ x now after. IsOf whole main local_size rank f now one.0 x × Widens given now) u (fetch (any_splits es) e.ty k u) (λ x now after inside wider is. (is, wider refl))
      (fetch_flows whole main local_size rank f sorted (any_splits es) deep given e.ty one.0 k u (type_on whole main local_size rank f sorted s u e.ty one.0 here types.0) waits.0)) (λ x w. stays_map w (fetches es kept w) (λ more. x ∷ more) (fetches_stay es kept w))
      (λ x w now is wider on inside. flows_map whole main local_size rank f [] deep false now (λ ids now after. AreOf whole main local_size rank f now row ids) (λ ids now after. AreOf whole main local_size rank f now (one ∷ row) ids) w (fetches es kept w) (λ more. x ∷ more)
      (λ ids then end inside wider all. (of_later whole main local_size rank f sorted now then one.0 x (wider refl) is.0, all)) (fetches_flow s deep es row kept types.1 now w (later_then s u w here (later_of on)) (wait_later given now es row kept is.1 waits.1)))

  pub operands_yield : (s : Flow) (deep : ℕ) (es : List Lower) (row : Row) → Each s deep es row → HaveTypes whole main local_size rank f s es row
      → Yields whole main local_size rank f s (asked_in es row) deep (any_splits es) (λ ids now after. AreOf whole main local_size rank f now row ids) (λ u. behind (keeps es u) (fetches es))
  operands_yield s deep es row each types =
      yields_last whole main local_size rank f s (asked_in es row) deep (any_splits es) (λ kept now after. WaitEach now es row kept) (λ ids now after. AreOf whole main local_size rank f now row ids) (keeps es) (fetches es)
      (record { stays = λ u. keeps_stay s deep es row each u; flows = λ given u here. keeps_flow s deep es row each given u here }) (λ kept u. fetches_stay es kept u) (λ kept u now waits here inside. fetches_flow s deep es row kept types now u here waits)
