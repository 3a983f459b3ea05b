-- `split_members` meets its contract: it cuts in front of the second member, and hands on what `halved` gives.
use Rattle.std.proofs.Common.{◌≡◌, ◌+◌, ◌^◌, ◌<◌, ◌≤◌, List, [], ◌∷◌, ◌++◌, length, refl, sym, ap, arith, w32, w64}
use Rattle.std.proofs.raw_atomic.Walks.{proved}
use base.Fml.{ftrue, flft}
use base.Logic.{emp, id⊢}
use mir.Syntax.{named}
use mir.Val.{Val}
use contract.Monad.{fact, fact_i}
use contract.Running.{tables}
use types.Kit.{‵, raw, ◌⊛◌, some, later, ◌$◌, ◌∵◌, !, qed, move, keep, drop, use0, use1, use2, split, join, fsplit, fpick, feq_l, pick, await, rewrite, suffices, done}
use types.Part.{whole, sub, agg}
use types.Run.{enter, of_opd, addr, from, stop, fld, hop, no_more, and_then, returns}
use types.ByLocal.{alloc_all, pass_all, free_all, look_at, look_in_at, get, get_in, sets, lands_as}
use denote.Builtin.{u8, u32, usize}
use denote.Exit.{yes, no}
use denote.Laws.{Is, shows}
use denote.Plain.{uint_vals, uint_Makes, uint_Tells}
use denote.Ref.{ShrRef, shr_vals, shr_Tells}
use denote.Signature.{plain, named_lft}
use denote.Slice.{mut_slice_vals, mut_slice_Tells}
use denote.Steps.{nothing, heard, only, owned, peeks}
use denote.Triple.Call.{calls_at}
use denote.Triple.Clauses.{Lasts, lasts}
use denote.Triple.Spec.{triple_of}
use denote.Triple.Table.{framed}
use denote.Triple.Walked.{Stays, stay_dropped, Goes-dropped, ends_at}
use Rattle.std.proofs.alloc.Calls.{Goes-blank}
use Rattle.gsl_layout.specs.Layout.{IsLayout, need}
use Rattle.gsl_layout.specs.contracts.laid.Laid.{the_row as Laid}
use Rattle.gsl_views.specs.Lending.{LendsParts}
use Rattle.gsl_views.specs.Mutable.{held}
use Rattle.gsl_views.specs.Seen.{child}
use Rattle.gsl_views.specs.Viewed.{HasMember, IsMember, behind, shown, standing}
use Rattle.gsl_views.specs.contracts.halves.Cut.{the_row as Cut}
use Rattle.gsl_views.proofs.halves.Cut.TheLaws.{lowered as cut_lowered, lowers as cut_lowers}
use Rattle.gsl_views.specs.contracts.view_mut.ViewMut.{the_row as ViewMut}
use Rattle.gsl_views.proofs.view_mut.ViewMut.TheLaws.{lowered, lowers}
use Rattle.gsl_views.proofs.Apart.{members_first_fits, members_second_fits, is_first_member, is_second_member, shows_first_member, shows_second_member}
use Rattle.gsl_views.proofs.Rows.{Half, Views, lived, views_laws}
use Rattle.gsl_views.specs.contracts.view_mut.ViewMut.split_members as f
use Rattle.gsl_views.proofs.view_mut.ViewMut.split_members.Statement.{statement}
use Rattle.gsl_views.proofs.view_mut.ViewMut.split_members.Code as code
use Rattle.gsl_views.specs.contracts.splitting.member_cut as g
use Rattle.gsl_views.proofs.splitting.member_cut.Met as cuts
use Rattle.gsl_views.specs.contracts.halves.halved as h
use Rattle.gsl_views.proofs.halves.halved.Met as halves

abbrev stayed : Stays f.ended.signature.params f.ended.kept
stayed = (stay_dropped _ no, (stay_dropped _ yes, (stay_dropped _ yes, tt)))

pub split_members_spec : {M : Type 1} → statement M
split_members_spec 𝓤 𝓛 𝓜 𝓡 wired =
    let c = f.clauses 𝓛 𝓜.mem 𝓡.returns in
    let number = Goes-dropped 𝓛 1 (plain (λ _. u32)) yes (λ κs x w. refl) in
    proved 𝓛 f.ended stayed c 𝓜 𝓡 (Goes-blank 𝓛 1 (plain (λ κs. ViewMut (named_lft 1 0 tt κs))) no (λ κs x w. tt), (number, (number, tt)))
    f.Key.name code.function (code.unfolded 𝓤 𝓛.H 𝓜 𝓡 wired)
    (λ κs. (λ x. lowered x ∷ [], (uint_vals w32, (uint_vals w32, tt)))) (λ κs. ((lowers (lived κs.0)).val_is, (uint_Tells w32, (uint_Tells w32, tt))))
    (λ κs qs bounds a _ are.
    let κ = κs.0 in let q = qs.0 in let self = a.0 in let i = a.1.0 in let j = a.1.1.0 in let v = held self in
    let I = ‵ (u32.own_val i (uint_vals w32 i)) in
    let J = ‵ (u32.own_val j (uint_vals w32 j)) in
    qed 𝓛 (((‵ (flft κ q) ⊛ ‵ ftrue) ⊛ (‵ ((ViewMut (lived κ)).own_val self (lowered self ∷ [])) ⊛ I ⊛ J ⊛ ‵ ftrue))
    ∷ (raw (fact 𝓤 (i < j)) ⊛ raw (fact 𝓤 (HasMember v.layout j))) ∷ []) ∵
    move ! (1 ∷ []) $ split ! $ heard ! _ (λ order. heard ! _ (λ has.
    split ! $ split ! $ move ! (2 ∷ []) $ split ! $ move ! (1 ∷ []) $ split ! $ move ! (1 ∷ []) $ split ! $ keep ! (3 ∷ 0 ∷ 2 ∷ 4 ∷ []) $
    -- [the view; the two numbers; the token of κ]
    fpick ! (λ vss. fsplit ! $ feq_l ! (λ _. fsplit ! $ peeks ! (Half κ) (Is (Half κ)) (shows 𝓛 (Half κ)) self.bytes vss.0 (λ bytes_is.
    rewrite ! 0 (λ (us : List Val). ‵ ((Half κ).own_val self.bytes us)) (mut_slice_Tells (named 0) κ u8 self.bytes vss.0 bytes_is) refl $
    move ! (1 ∷ []) $ fsplit ! $ move ! (1 ∷ []) $ fsplit ! $ peeks ! (ShrRef (named 0) κ Laid) (Is (ShrRef (named 0) κ Laid)) (shows 𝓛 (ShrRef (named 0) κ Laid)) self.laid vss.1.1.0 (λ laid_is.
    rewrite ! 0 (λ (us : List Val). ‵ ((ShrRef (named 0) κ Laid).own_val self.laid us)) (shr_Tells (named 0) κ Laid self.laid vss.1.1.0 laid_is) refl $
    keep ! (0 ∷ 3 ∷ 5 ∷ 4 ∷ 6 ∷ []) $
    -- [the layout; the bytes; the two numbers; the token]
    let long : length self.bytes.now < 2 ^ 64 = omega (arith, self.small) in
    let start : self.start < 2 ^ 64 = omega (arith, self.fits, self.small) in
    enter ! _ _ _ _ _ $
    alloc_all ! (λ l. pass_all ! refl ((tt, ((tt, (record { fits = long }, tt)), (record { fits = start }, (tt, tt)))), ((tt, record { fits = are.1.0.1 }), ((tt, record { fits = are.1.1.0.1 }), tt))) $
    sets ! (of_opd ! (get_in ! (fld ! refl (stop !)) (sub ! 0 refl (whole !)))) refl (tt, (tt, (record { fits = long }, tt))) $
    sets ! (of_opd ! (get_in ! (fld ! refl (stop !)) (sub ! 1 refl (whole !)))) refl (tt, record { fits = start }) $
    sets ! (of_opd ! (get_in ! (fld ! refl (stop !)) (sub ! 2 refl (whole !)))) refl (tt, tt) $
    owned ! usize _ (uint_Makes 𝓛 w64) self.start _ (refl, start) $
    nothing ! $ move ! (5 ∷ 0 ∷ []) $ join ! $ move ! (4 ∷ 0 ∷ []) $ join ! $ move ! (1 ∷ 0 ∷ []) $ join ! $ move ! (1 ∷ 0 ∷ []) $ join ! $ nothing ! $ move ! (3 ∷ 0 ∷ []) $ join ! $ join ! $
    use0 𝓛 (raw (fact 𝓤 (length self.bytes.now < 2 ^ 32))) (fact_i 𝓤 _ (emp 𝓤) self.small) $
    use0 𝓛 (raw (fact 𝓤 (self.start + need self.laid.now ≤ length self.bytes.now))) (fact_i 𝓤 _ (emp 𝓤) self.fits) $ join ! $
    use0 𝓛 (raw (fact 𝓤 (HasMember v.layout j))) (fact_i 𝓤 _ (emp 𝓤) has) $ join ! $
    use0 𝓛 (raw (fact 𝓤 (i < j))) (fact_i 𝓤 _ (emp 𝓤) order) $ join ! $ move ! (1 ∷ 0 ∷ []) $
    let C = triple_of 𝓛 g.signature (g.spec 𝓛 𝓜.mem 𝓡.returns) in
    let y : C.Ghost = ((κs, qs, tt, (self.laid, (self.start, (i, (j, tt)))), (shr_vals self.laid, (uint_vals w64 self.start, (uint_vals w32 i, (uint_vals w32 j, tt))))), self.bytes.now) in
    use2 𝓛 (raw (C.pre y)) (id⊢ 𝓤 _) $
    calls_at ! (framed 𝓤 𝓛.H 𝓜 (tables 𝓤 𝓛.H 𝓜 𝓡 𝓡.env)) C (cuts.met 𝓤 𝓛 𝓜 𝓡 (code.calls-gsl_views::splitting::member_cut 𝓡.env wired)) y
    (and_then ! (get ! refl) (and_then ! (get ! refl) (and_then ! (get ! refl) (and_then ! (get ! refl) (no_more !))))) (λ u.
    use1 𝓛 (later (some (λ (r : (Cut (lived κ)).Denot). ((‵ (flft κ q) ⊛ ‵ ftrue) ⊛ ‵ ((Cut (lived κ)).own_val r (u ∷ [])))
    ⊛ some (λ (ws : Lasts g.ended κs y.0.3). ‵ (lasts g.ended κs y.0.3 ws) ⊛ raw (fact 𝓤 (IsLayout self.laid.now))
    ⊛ raw (fact 𝓤 (IsMember v i (standing self.bytes.now r.start r.first.now))) ⊛ raw (fact 𝓤 (IsMember v j (standing self.bytes.now r.at r.second.now))))))) (id⊢ 𝓤 _) $
    await ! tt $ pick ! (λ r. split ! $ move ! (1 ∷ []) $ pick ! (λ ws. split ! $ drop ! $ split ! $ heard ! _ (λ is. split ! $ heard ! _ (λ m. heard ! _ (λ n.
    -- [the token and the cut; the bytes]
    let first_fits = members_first_fits v is self.fits i j order r.first.now r.second.now r.start r.at has m n in
    let second_fits = members_second_fits v is self.fits i j order r.first.now r.second.now r.start r.at has m n in
    let at : r.at < 2 ^ 64 = omega (arith, second_fits, long) in
    let early : r.start < 2 ^ 64 = omega (arith, first_fits, at) in
    split ! $ move ! (1 ∷ []) $ peeks ! (Cut (lived κ)) (Is (Cut (lived κ))) (shows 𝓛 (Cut (lived κ))) r (u ∷ []) (λ cut_is.
    let value = (cut_lowers (lived κ)).val_is r (u ∷ []) cut_is in
    rewrite ! 0 (λ (us : List Val). ‵ ((Cut (lived κ)).own_val r us)) value refl $
    lands_as ! (ap only value) refl (tt, (record { fits = at }, (record { fits = early }, (tt, (tt, tt))))) $
    sets ! (addr ! (from ! (fld ! refl (hop ! (look_in_at ! 4 (sub ! 0 refl (whole !))) (stop !))))) refl (tt, tt) $
    sets ! (agg ! (and_then ! (get ! refl) (and_then ! (get_in ! (fld ! refl (stop !)) (sub ! 1 refl (whole !))) (no_more !)))) refl (tt, (tt, (record { fits = long }, tt))) $
    sets ! (of_opd ! (get ! refl)) refl (tt, (record { fits = at }, (record { fits = early }, (tt, (tt, tt))))) $
    -- [the cut; the token; the bytes]
    nothing ! $ move ! (1 ∷ 0 ∷ []) $ join ! $ move ! (2 ∷ 0 ∷ []) $ join ! $ move ! (1 ∷ 0 ∷ []) $ join ! $
    use0 𝓛 (raw (fact 𝓤 (length self.bytes.now < 2 ^ 32))) (fact_i 𝓤 _ (emp 𝓤) self.small) $
    use0 𝓛 (raw (fact 𝓤 (r.at + need r.second.now ≤ length self.bytes.now))) (fact_i 𝓤 _ (emp 𝓤) second_fits) $ join ! $
    use0 𝓛 (raw (fact 𝓤 (r.start + need r.first.now ≤ r.at))) (fact_i 𝓤 _ (emp 𝓤) first_fits) $ join ! $ move ! (1 ∷ 0 ∷ []) $
    let D = triple_of 𝓛 h.signature (h.spec 𝓛 𝓜.mem 𝓡.returns) in
    let z : D.Ghost = ((κs, qs, tt, (self.bytes, (r, tt)), (mut_slice_vals self.bytes, (cut_lowered r ∷ [], tt))), tt) in
    use2 𝓛 (raw (D.pre z)) (id⊢ 𝓤 _) $
    calls_at ! (framed 𝓤 𝓛.H 𝓜 (tables 𝓤 𝓛.H 𝓜 𝓡 𝓡.env)) D (halves.met 𝓤 𝓛 𝓜 𝓡 (code.calls-gsl_views::halves::halved 𝓡.env wired)) z
    (and_then ! (get ! refl) (and_then ! (get ! refl) (no_more !))) (λ w.
    use1 𝓛 (later (some (λ (s : (Views κ).Denot). ((‵ (flft κ q) ⊛ ‵ ftrue) ⊛ ‵ ((Views κ).own_val s (w ∷ [])))
    ⊛ some (λ (ws : Lasts h.ended κs z.0.3). ‵ (lasts h.ended κs z.0.3 ws) ⊛ ‵ (LendsParts self.bytes s.0.bytes s.1.bytes)
    ⊛ raw (fact 𝓤 (self.bytes.now ≡ s.0.bytes.now ++ s.1.bytes.now)) ⊛ raw (fact 𝓤 (length s.0.bytes.now ≡ r.at))
    ⊛ raw (fact 𝓤 ((s.0.start ≡ r.start) × (s.1.start ≡ 0))) ⊛ raw (fact 𝓤 ((s.0.laid.now ≡ r.first.now) × (s.1.laid.now ≡ r.second.now))))))) (id⊢ 𝓤 _) $
    await ! tt $ pick ! (λ s. split ! $ move ! (1 ∷ []) $ pick ! (λ ws₂. split ! $ drop ! $ split ! $ move ! (1 ∷ []) $
    split ! $ heard ! _ (λ joined. split ! $ heard ! _ (λ front. split ! $ heard ! _ (λ starts. heard ! _ (λ layouts.
    -- [what the bytes follow; the token and the views]
    move ! (1 ∷ []) $ split ! $ move ! (1 ∷ []) $ peeks ! (Views κ) (Is (Views κ)) (shows 𝓛 (Views κ)) s (w ∷ []) (λ views_are.
    lands_as ! refl refl (((views_laws κ).lawful 𝓛).typed s (w ∷ []) views_are).0 $
    returns ! (look_at ! 0 refl) $ free_all ! refl $
    -- [the views; the token; what the bytes follow]
    let a₁ = held s.0 in
    let a₂ = held s.1 in
    suffices ! _ (ends_at 𝓛 f.ended stayed c ((κs, qs, bounds, a, (lowered self ∷ [], (uint_vals w32 i, (uint_vals w32 j, tt)))), tt) w s ((tt, tt), (tt, (tt, tt))) (tt, (tt, (tt, tt)))) $
    use0 𝓛 (raw (fact 𝓤 (shown a₂ ≡ child (shown v) j))) (fact_i 𝓤 _ (emp 𝓤) (shows_second_member v is self.fits i j order r.first.now r.second.now r.start r.at has m n a₁ a₂ joined front starts layouts)) $
    use0 𝓛 (raw (fact 𝓤 (shown a₁ ≡ child (shown v) i))) (fact_i 𝓤 _ (emp 𝓤) (shows_first_member v is self.fits i j order r.first.now r.second.now r.start r.at has m n a₁ a₂ joined front starts layouts)) $ join ! $
    use0 𝓛 (raw (fact 𝓤 (IsMember v j (behind a₁.bytes a₂)))) (fact_i 𝓤 _ (emp 𝓤) (is_second_member v is self.fits i j order r.first.now r.second.now r.start r.at has m n a₁ a₂ joined front starts layouts)) $ join ! $
    use0 𝓛 (raw (fact 𝓤 (IsMember v i a₁))) (fact_i 𝓤 _ (emp 𝓤) (is_first_member v is self.fits i j order r.first.now r.second.now r.start r.at has m n a₁ a₂ joined front starts layouts)) $ join ! $
    use0 𝓛 (raw (fact 𝓤 (a₁.bytes ++ a₂.bytes ≡ v.bytes))) (fact_i 𝓤 _ (emp 𝓤) (sym joined)) $ join ! $
    move ! (3 ∷ 0 ∷ []) $ join ! $
    nothing ! $ nothing ! $ join ! $ nothing ! $ join ! $ nothing ! $ join ! $
    -- [the parameters; the clauses; the views; the token]
    move ! (0 ∷ 2 ∷ []) $ join ! $ move ! (2 ∷ 0 ∷ []) $ join ! $ done !))))))))))))))))))))))
    )
