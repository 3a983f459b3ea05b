-- `halved` meets its contract: its two calls one after the other. The lender follows the references of the halves, and the views keep these.
use Rattle.std.proofs.Common.{◌≡◌, ℕ, ◌+◌, ◌^◌, ◌<◌, ◌≤◌, List, [], ◌∷◌, ◌++◌, length, length-append, refl, sym, ap, ◌∙◌, arith, w64}
use Rattle.std.proofs.raw_atomic.Walks.{proved}
use base.Fml.{GName, ftrue, flft}
use base.Logic.{emp, id⊢}
use mir.Syntax.{named}
use mir.Val.{Val}
use contract.Monad.{fact, fact_i}
use contract.Running.{tables}
use types.Kit.{‵, raw, ◌⊛◌, some, later, ◌$◌, ◌∵◌, !, qed, move, keep, drop, use0, use1, use2, split, join, pick, await, rewrite, suffices, done}
use types.Part.{whole, sub, agg}
use types.Run.{enter, of_opd, addr, from, stop, fld, hop, no_more, and_then, returns}
use types.ByLocal.{alloc_all, pass_all, free_all, look_at, look_in_at, get, get_in, sets, lands_as}
use denote.Builtin.{u8, usize}
use denote.Exit.{yes, no}
use denote.Laws.{Is, shows}
use denote.Plain.{uint_vals, uint_Makes}
use denote.Signature.{plain, mut_slice_of, named_lft}
use denote.Slice.{mut_slice_vals, mut_slice_Tells}
use denote.Steps.{nothing, heard, only, owned, peeks}
use denote.Triple.Call.{calls_at}
use denote.Triple.Clauses.{Lasts, lasts}
use denote.Triple.Spec.{triple_of}
use denote.Triple.Table.{framed}
use denote.Triple.Walked.{Stays, stay_dropped, Goes-dropped, ends_at}
use Rattle.gsl_layout.specs.Layout.{need}
use Rattle.gsl_views.specs.contracts.halves.Cut.{the_row as Cut}
use Rattle.gsl_views.proofs.halves.Cut.TheLaws.{lowered, lowers}
use Rattle.gsl_views.proofs.Rows.{Follows, Half, Halves, Views, halves_told, lived, views_laws}
use Rattle.gsl_views.specs.contracts.halves.halved as f
use Rattle.gsl_views.proofs.halves.halved.Statement.{statement}
use Rattle.gsl_views.proofs.halves.halved.Code as code
use Rattle.gsl_views.specs.contracts.halves.cut_in_two as g
use Rattle.gsl_views.proofs.halves.cut_in_two.Met as cuts
use Rattle.gsl_views.specs.contracts.halves.paired as h
use Rattle.gsl_views.proofs.halves.paired.Met as pairs

abbrev stayed : Stays f.ended.signature.params f.ended.kept
stayed = (stay_dropped _ no, (stay_dropped _ yes, tt))

pub halved_spec : {M : Type 1} → statement M
halved_spec 𝓤 𝓛 𝓜 𝓡 wired =
    let c = f.clauses 𝓛 𝓜.mem 𝓡.returns in
    proved 𝓛 f.ended stayed c 𝓜 𝓡 (Goes-dropped 𝓛 1 (mut_slice_of (0 ∷ []) tt (plain (λ _. u8))) no (λ κs x w. refl), (Goes-dropped 𝓛 1 (plain (λ κs. Cut (named_lft 1 0 tt κs))) yes (λ κs x w. refl), tt))
    f.Key.name code.function (code.unfolded 𝓤 𝓛.H 𝓜 𝓡 wired)
    (λ κs. (mut_slice_vals, (λ x. lowered x ∷ [], tt))) (λ κs. (mut_slice_Tells (named 0) κs.0 u8, ((lowers (lived κs.0)).val_is, tt)))
    (λ κs qs bounds a _ are.
    let κ = κs.0 in let q = qs.0 in let bytes = a.0 in let cut = a.1.0 in
    let Bytes = ‵ ((Half κ).own_val bytes (mut_slice_vals bytes)) in
    let Places = ‵ ((Cut (lived κ)).own_val cut (lowered cut ∷ [])) in
    qed 𝓛 (((‵ (flft κ q) ⊛ ‵ ftrue) ⊛ (Bytes ⊛ Places ⊛ ‵ ftrue))
    ∷ (raw (fact 𝓤 (cut.start + need cut.first.now ≤ cut.at)) ⊛ raw (fact 𝓤 (cut.at + need cut.second.now ≤ length bytes.now)) ⊛ raw (fact 𝓤 (length bytes.now < 2 ^ 32))) ∷ []) ∵
    move ! (1 ∷ []) $ split ! $ heard ! _ (λ first_fits. split ! $ heard ! _ (λ second_fits. heard ! _ (λ small.
    split ! $ split ! $ move ! (2 ∷ []) $ split ! $ move ! (1 ∷ []) $ split ! $ keep ! (3 ∷ 2 ∷ 0 ∷ []) $
    -- [the token of κ; the bytes; the cut]
    let long : length bytes.now < 2 ^ 64 = are.0.0.1.0 in
    let at : cut.at < 2 ^ 64 = omega (arith, second_fits, long) in
    let start : cut.start < 2 ^ 64 = omega (arith, first_fits, second_fits, long) in
    enter ! _ _ _ _ _ $
    alloc_all ! (λ l. pass_all ! refl ((tt, (tt, (record { fits = long }, tt))), ((tt, (record { fits = at }, (record { fits = start }, (tt, (tt, tt))))), tt)) $
    sets ! (addr ! (from ! (fld ! refl (hop ! (look_in_at ! 1 (sub ! 0 refl (whole !))) (stop !))))) refl (tt, tt) $
    sets ! (agg ! (and_then ! (get ! refl) (and_then ! (get_in ! (fld ! refl (stop !)) (sub ! 1 refl (whole !))) (no_more !)))) refl (tt, (tt, (record { fits = long }, tt))) $
    sets ! (of_opd ! (get_in ! (fld ! refl (stop !)) (sub ! 0 refl (whole !)))) refl (tt, record { fits = at }) $
    owned ! usize _ (uint_Makes 𝓛 w64) cut.at _ (refl, at) $
    nothing ! $ move ! (1 ∷ 0 ∷ []) $ join ! $ move ! (2 ∷ 0 ∷ []) $ join ! $ nothing ! $ move ! (2 ∷ 0 ∷ []) $ join ! $ join ! $
    use0 𝓛 (raw (fact 𝓤 (cut.at ≤ length bytes.now))) (fact_i 𝓤 _ (emp 𝓤) (omega (arith, second_fits))) $ move ! (1 ∷ 0 ∷ []) $
    let C = triple_of 𝓛 g.signature (g.spec 𝓛 𝓜.mem 𝓡.returns) in
    let y : C.Ghost = ((κs, qs, tt, (bytes, (cut.at, tt)), (mut_slice_vals bytes, (uint_vals w64 cut.at, tt))), tt) in
    use2 𝓛 (raw (C.pre y)) (id⊢ 𝓤 _) $
    calls_at ! (framed 𝓤 𝓛.H 𝓜 (tables 𝓤 𝓛.H 𝓜 𝓡 𝓡.env)) C (cuts.met 𝓤 𝓛 𝓜 𝓡 (code.calls-gsl_views::halves::cut_in_two 𝓡.env wired)) y
    (and_then ! (get ! refl) (and_then ! (get ! refl) (no_more !))) (λ v.
    use1 𝓛 (later (some (λ (r : (Halves κ).Denot). ((‵ (flft κ q) ⊛ ‵ ftrue) ⊛ ‵ ((Halves κ).own_val r (v ∷ [])))
    ⊛ some (λ (ws : Lasts g.ended κs y.0.3). ‵ (lasts g.ended κs y.0.3 ws) ⊛ ‵ (Follows bytes.ghost_name (r.0.ghost_name, r.1.ghost_name)) ⊛ raw (fact 𝓤 (bytes.now ≡ r.0.now ++ r.1.now)) ⊛ raw (fact 𝓤 (length r.0.now ≡ cut.at)))))) (id⊢ 𝓤 _) $
    await ! tt $ pick ! (λ r. split ! $ move ! (1 ∷ []) $ pick ! (λ ws. split ! $ drop ! $ split ! $ move ! (1 ∷ []) $ split ! $ heard ! _ (λ joined. heard ! _ (λ front.
    -- [what the bytes follow; the token and the halves; the cut]
    let sizes : length r.0.now + length r.1.now ≡ length bytes.now = sym (length-append r.0.now r.1.now) ∙ sym (ap length joined) in
    move ! (1 ∷ []) $ split ! $ move ! (1 ∷ []) $ peeks ! (Halves κ) (Is (Halves κ)) (shows 𝓛 (Halves κ)) r (v ∷ []) (λ is.
    let value = (halves_told κ).tells r (v ∷ []) is in
    rewrite ! 0 (λ (us : List Val). ‵ ((Halves κ).own_val r us)) value refl $
    lands_as ! (ap only value) refl (tt, ((tt, (record { fits = omega (arith, sizes, long) }, tt)), ((tt, (record { fits = omega (arith, sizes, long) }, tt)), tt))) $
    sets ! (of_opd ! (get ! refl)) refl (tt, ((tt, (record { fits = omega (arith, sizes, long) }, tt)), ((tt, (record { fits = omega (arith, sizes, long) }, tt)), tt))) $
    sets ! (of_opd ! (get ! refl)) refl (tt, (record { fits = at }, (record { fits = start }, (tt, (tt, tt))))) $
    -- [the halves; the token; what the bytes follow; the cut]
    nothing ! $ move ! (4 ∷ 0 ∷ []) $ join ! $ move ! (1 ∷ 0 ∷ []) $ join ! $ move ! (1 ∷ 0 ∷ []) $ join ! $
    use0 𝓛 (raw (fact 𝓤 (length r.1.now < 2 ^ 32))) (fact_i 𝓤 _ (emp 𝓤) (omega (arith, sizes, small))) $
    use0 𝓛 (raw (fact 𝓤 (length r.0.now < 2 ^ 32))) (fact_i 𝓤 _ (emp 𝓤) (omega (arith, sizes, small))) $ join ! $
    use0 𝓛 (raw (fact 𝓤 (need cut.second.now ≤ length r.1.now))) (fact_i 𝓤 _ (emp 𝓤) (omega (arith, sizes, front, second_fits))) $ join ! $
    use0 𝓛 (raw (fact 𝓤 (cut.start + need cut.first.now ≤ length r.0.now))) (fact_i 𝓤 _ (emp 𝓤) (omega (arith, front, first_fits))) $ join ! $ move ! (1 ∷ 0 ∷ []) $
    let P = triple_of 𝓛 h.signature (h.spec 𝓛 𝓜.mem 𝓡.returns) in
    let z : P.Ghost = ((κs, qs, tt, (r, (cut, tt)), ((halves_told κ).val r ∷ [], (lowered cut ∷ [], tt))), tt) in
    use2 𝓛 (raw (P.pre z)) (id⊢ 𝓤 _) $
    calls_at ! (framed 𝓤 𝓛.H 𝓜 (tables 𝓤 𝓛.H 𝓜 𝓡 𝓡.env)) P (pairs.met 𝓤 𝓛 𝓜 𝓡 (code.calls-gsl_views::halves::paired 𝓡.env wired)) z
    (and_then ! (get ! refl) (and_then ! (get ! refl) (no_more !))) (λ w.
    use1 𝓛 (later (some (λ (s : (Views κ).Denot). ((‵ (flft κ q) ⊛ ‵ ftrue) ⊛ ‵ ((Views κ).own_val s (w ∷ [])))
    ⊛ some (λ (ws : Lasts h.ended κs z.0.3). ‵ (lasts h.ended κs z.0.3 ws)
    ⊛ raw (fact 𝓤 ((s.0.bytes.ghost_name ≡ r.0.ghost_name) × (s.1.bytes.ghost_name ≡ r.1.ghost_name)))
    ⊛ raw (fact 𝓤 ((s.0.bytes.now ≡ r.0.now) × (s.1.bytes.now ≡ r.1.now)))
    ⊛ raw (fact 𝓤 ((s.0.start ≡ cut.start) × (s.1.start ≡ 0)))
    ⊛ raw (fact 𝓤 ((s.0.laid.now ≡ cut.first.now) × (s.1.laid.now ≡ cut.second.now))))))) (id⊢ 𝓤 _) $
    await ! tt $ pick ! (λ s. split ! $ move ! (1 ∷ []) $ pick ! (λ ws₂. split ! $ drop ! $ split ! $ heard ! _ (λ names. split ! $ heard ! _ (λ kept. split ! $ heard ! _ (λ starts. heard ! _ (λ layouts.
    split ! $ move ! (1 ∷ []) $ peeks ! (Views κ) (Is (Views κ)) (shows 𝓛 (Views κ)) s (w ∷ []) (λ is₂.
    lands_as ! refl refl (((views_laws κ).lawful 𝓛).typed s (w ∷ []) is₂).0 $
    returns ! (look_at ! 0 refl) $ free_all ! refl $
    -- [the views; the token; what the bytes follow]
    move ! (2 ∷ []) $ rewrite ! 0 (λ (n : GName × GName). ‵ (Follows bytes.ghost_name n)) (λ i. (sym names.0 i, sym names.1 i)) refl $
    suffices ! _ (ends_at 𝓛 f.ended stayed c ((κs, qs, bounds, a, (mut_slice_vals bytes, (lowered cut ∷ [], tt))), tt) w s (tt, (tt, tt)) (tt, (tt, tt))) $
    use0 𝓛 (raw (fact 𝓤 ((s.0.laid.now ≡ cut.first.now) × (s.1.laid.now ≡ cut.second.now)))) (fact_i 𝓤 _ (emp 𝓤) layouts) $
    use0 𝓛 (raw (fact 𝓤 ((s.0.start ≡ cut.start) × (s.1.start ≡ 0)))) (fact_i 𝓤 _ (emp 𝓤) starts) $ join ! $
    use0 𝓛 (raw (fact 𝓤 (length s.0.bytes.now ≡ cut.at))) (fact_i 𝓤 _ (emp 𝓤) (ap length kept.0 ∙ front)) $ join ! $
    use0 𝓛 (raw (fact 𝓤 (bytes.now ≡ s.0.bytes.now ++ s.1.bytes.now))) (fact_i 𝓤 _ (emp 𝓤) (joined ∙ ap (λ (n : List ℕ × List ℕ). n.0 ++ n.1) (λ i. (sym kept.0 i, sym kept.1 i)))) $ join ! $
    move ! (1 ∷ 0 ∷ []) $ join ! $
    nothing ! $ nothing ! $ join ! $ nothing ! $ join ! $
    -- [the parameters; the clauses; the views; the token]
    move ! (0 ∷ 2 ∷ []) $ join ! $ move ! (2 ∷ 0 ∷ []) $ join ! $ done !))))))))))))))))))
    )
