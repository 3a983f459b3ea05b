-- `both_given` meets its contract: it splits, and gives both views up.
use Rattle.std.proofs.Common.{◌≡◌, ◌^◌, ◌<◌, List, [], ◌∷◌, ◌++◌, length, refl, ap, arith, w32}
use Rattle.std.proofs.raw_atomic.Walks.{proved}
use base.Fml.{ftrue, flft}
use base.Logic.{emp, id⊢}
use mir.Syntax.{named}
use mir.Val.{Val, vptr}
use contract.Monad.{fact, fact_i}
use contract.Running.{tables}
use types.Kit.{‵, raw, ◌⊛◌, some, later, ◌$◌, ◌∵◌, !, qed, move, keep, drop, use0, use1, use2, split, join, fsplit, fpick, feq_l, pick, await, rewrite, suffices, done}
use types.Part.{whole, sub}
use types.Run.{enter, of_opd, stop, fld, no_more, and_then, returns}
use types.ByLocal.{alloc_all, pass_all, free_all, look_at, get, get_in, sets, lands_as}
use denote.Builtin.{u32}
use denote.Exit.{yes, no}
use denote.Laws.{Is, shows}
use denote.Plain.{uint_vals, uint_Tells}
use denote.Ref.{ShrRef, shr_Tells}
use denote.Signature.{plain, named_lft}
use denote.Steps.{nothing, heard, only, peeks}
use denote.Triple.Call.{calls_at}
use denote.Triple.Clauses.{Lasts, lasts}
use denote.Triple.Spec.{triple_of}
use denote.Triple.Table.{framed}
use denote.Triple.Walked.{Stays, stay_dropped, Goes-dropped, ends_at}
use Rattle.std.proofs.alloc.Calls.{Goes-blank}
use Rattle.gsl_layout.specs.contracts.laid.Laid.{the_row as Laid}
use Rattle.gsl_views.specs.Lending.{EndsAt, LendsParts}
use Rattle.gsl_views.specs.Mutable.{held}
use Rattle.gsl_views.specs.Seen.{child}
use Rattle.gsl_views.specs.Viewed.{HasMember, IsMember, behind, shown}
use Rattle.gsl_views.specs.contracts.view_mut.ViewMut.{the_row as ViewMut}
use Rattle.gsl_views.proofs.view_mut.ViewMut.TheLaws.{lowered, lowers}
use Rattle.gsl_views.proofs.Rows.{Ends, Views, ends_at_them, given_up, gives_up, lived, views_told}
use Rattle.gsl_views.specs.contracts.tests.both_given as f
use Rattle.gsl_views.proofs.tests.both_given.Statement.{statement}
use Rattle.gsl_views.proofs.tests.both_given.Code as code
use Rattle.gsl_views.specs.contracts.view_mut.ViewMut.split_members as g
use Rattle.gsl_views.proofs.view_mut.ViewMut.split_members.Met as splits

abbrev stayed : Stays f.ended.signature.params f.ended.kept
stayed = (stay_dropped _ no, (stay_dropped _ yes, (stay_dropped _ yes, tt)))

pub both_given_spec : {M : Type 1} → statement M
both_given_spec 𝓤 𝓛 𝓜 𝓡 wired =
    let c = f.clauses 𝓛 𝓜.mem 𝓡.returns in
    let number = Goes-dropped 𝓛 1 (plain (λ _. u32)) yes (λ κs x w. refl) in
    proved 𝓛 f.ended stayed c 𝓜 𝓡 (Goes-blank 𝓛 1 (plain (λ κs. ViewMut (named_lft 1 0 tt κs))) no (λ κs x w. tt), (number, (number, tt)))
    f.Key.name code.function (code.unfolded 𝓤 𝓛.H 𝓜 𝓡 wired)
    (λ κs. (λ x. lowered x ∷ [], (uint_vals w32, (uint_vals w32, tt)))) (λ κs. ((lowers (lived κs.0)).val_is, (uint_Tells w32, (uint_Tells w32, tt))))
    (λ κs qs bounds a _ are.
    let κ = κs.0 in let q = qs.0 in let self = a.0 in let i = a.1.0 in let j = a.1.1.0 in let v = held self in
    let I = ‵ (u32.own_val i (uint_vals w32 i)) in
    let J = ‵ (u32.own_val j (uint_vals w32 j)) in
    qed 𝓛 (((‵ (flft κ q) ⊛ ‵ ftrue) ⊛ (‵ ((ViewMut (lived κ)).own_val self (lowered self ∷ [])) ⊛ I ⊛ J ⊛ ‵ ftrue))
    ∷ (raw (fact 𝓤 (i < j)) ⊛ raw (fact 𝓤 (HasMember v.layout j))) ∷ []) ∵
    let long : length self.bytes.now < 2 ^ 64 = omega (arith, self.small) in
    let start : self.start < 2 ^ 64 = omega (arith, self.fits, self.small) in
    move ! (1 ∷ []) $ split ! $ heard ! _ (λ order. heard ! _ (λ has.
    enter ! _ _ _ _ _ $
    alloc_all ! (λ l. pass_all ! refl ((tt, ((tt, (record { fits = long }, tt)), (record { fits = start }, (tt, tt)))), ((tt, record { fits = are.1.0.1 }), ((tt, record { fits = are.1.1.0.1 }), tt))) $
    sets ! (of_opd ! (get ! refl)) refl (tt, ((tt, (record { fits = long }, tt)), (record { fits = start }, (tt, tt)))) $
    use0 𝓛 (raw (fact 𝓤 (HasMember v.layout j))) (fact_i 𝓤 _ (emp 𝓤) has) $
    use0 𝓛 (raw (fact 𝓤 (i < j))) (fact_i 𝓤 _ (emp 𝓤) order) $ join ! $ move ! (1 ∷ 0 ∷ []) $
    let C = triple_of 𝓛 g.signature (g.spec 𝓛 𝓜.mem 𝓡.returns) in
    let y : C.Ghost = ((κs, qs, tt, (self, (i, (j, tt))), (lowered self ∷ [], (uint_vals w32 i, (uint_vals w32 j, tt)))), tt) in
    use2 𝓛 (raw (C.pre y)) (id⊢ 𝓤 _) $
    calls_at ! (framed 𝓤 𝓛.H 𝓜 (tables 𝓤 𝓛.H 𝓜 𝓡 𝓡.env)) C (splits.met 𝓤 𝓛 𝓜 𝓡 (code.calls-gsl_views::view_mut::ViewMut::split_members 𝓡.env wired)) y
    (and_then ! (get ! refl) (and_then ! (get ! refl) (and_then ! (get ! refl) (no_more !)))) (λ w.
    use1 𝓛 (later (some (λ (s : (Views κ).Denot). ((‵ (flft κ q) ⊛ ‵ ftrue) ⊛ ‵ ((Views κ).own_val s (w ∷ [])))
    ⊛ some (λ (ws : Lasts g.ended κs y.0.3). ‵ (lasts g.ended κs y.0.3 ws) ⊛ ‵ (LendsParts self.bytes s.0.bytes s.1.bytes)
    ⊛ raw (fact 𝓤 (s.0.bytes.now ++ s.1.bytes.now ≡ self.bytes.now)) ⊛ raw (fact 𝓤 (IsMember v i (held s.0))) ⊛ raw (fact 𝓤 (IsMember v j (behind s.0.bytes.now (held s.1))))
    ⊛ raw (fact 𝓤 (shown (held s.0) ≡ child (shown v) i)) ⊛ raw (fact 𝓤 (shown (held s.1) ≡ child (shown v) j)))))) (id⊢ 𝓤 _) $
    await ! tt $ pick ! (λ s. split ! $ move ! (1 ∷ []) $ pick ! (λ ws. split ! $ drop ! $ split ! $ move ! (1 ∷ []) $
    split ! $ heard ! _ (λ joined. drop ! $
    -- [what the bytes follow; the token and the views]
    move ! (1 ∷ []) $ split ! $ move ! (1 ∷ []) $ peeks ! (Views κ) (Is (Views κ)) (shows 𝓛 (Views κ)) s (w ∷ []) (λ views_are.
    let value = (views_told κ).tells s (w ∷ []) views_are in
    let l₀ : length s.0.bytes.now < 2 ^ 64 = omega (arith, s.0.small) in
    let l₁ : length s.1.bytes.now < 2 ^ 64 = omega (arith, s.1.small) in
    let s₀ : s.0.start < 2 ^ 64 = omega (arith, s.0.fits, s.0.small) in
    let s₁ : s.1.start < 2 ^ 64 = omega (arith, s.1.fits, s.1.small) in
    lands_as ! (ap only value) refl (tt, (((tt, (record { fits = l₀ }, tt)), (record { fits = s₀ }, (tt, tt))), (((tt, (record { fits = l₁ }, tt)), (record { fits = s₁ }, (tt, tt))), tt))) $
    sets ! (of_opd ! (get_in ! (fld ! refl (stop !)) (sub ! 0 refl (whole !)))) refl (tt, ((tt, (record { fits = l₀ }, tt)), (record { fits = s₀ }, (tt, tt)))) $
    sets ! (of_opd ! (get_in ! (fld ! refl (stop !)) (sub ! 1 refl (whole !)))) refl (tt, ((tt, (record { fits = l₁ }, tt)), (record { fits = s₁ }, (tt, tt)))) $
    sets ! (of_opd ! (get_in ! (fld ! refl (stop !)) (sub ! 2 refl (whole !)))) refl (tt, tt) $
    -- [the views; the token; what the bytes follow]
    fpick ! (λ vss. fsplit ! $ feq_l ! (λ _. fsplit ! $ fpick ! (λ us. fsplit ! $ feq_l ! (λ _. fsplit ! $
    use1 𝓛 (later (raw (Ends 𝓛 s.0.bytes s.0.bytes.now))) (gives_up 𝓛 κ us.0 s.0.bytes) $ await ! tt $
    -- [the first's last bytes; what else it has; the second; the token; what the bytes follow]
    move ! (2 ∷ []) $ fsplit ! $ fpick ! (λ us₂. fsplit ! $ feq_l ! (λ _. fsplit ! $
    use1 𝓛 (later (raw (Ends 𝓛 s.1.bytes s.1.bytes.now))) (gives_up 𝓛 κ us₂.0 s.1.bytes) $ await ! tt $
    move ! (3 ∷ 0 ∷ []) $ join ! $ move ! (5 ∷ 0 ∷ []) $
    use2 𝓛 (raw (Ends 𝓛 self.bytes (s.0.bytes.now ++ s.1.bytes.now))) (given_up 𝓛 self.bytes s.0.bytes s.1.bytes s.0.bytes.now s.1.bytes.now) $
    use1 𝓛 (‵ (EndsAt self.bytes self.bytes.now)) (ends_at_them 𝓛 self.bytes (s.0.bytes.now ++ s.1.bytes.now) self.bytes.now joined) $
    -- [what the bytes end as; what else the second has; nothing; what else the first has; the token]
    move ! (3 ∷ []) $ fsplit ! $ move ! (1 ∷ []) $ fsplit ! $ peeks ! (ShrRef (named 0) κ Laid) (Is (ShrRef (named 0) κ Laid)) (shows 𝓛 (ShrRef (named 0) κ Laid)) s.0.laid us.1.1.0 (λ laid_is.
    rewrite ! 0 (λ (vs : List Val). ‵ ((ShrRef (named 0) κ Laid).own_val s.0.laid vs)) (shr_Tells (named 0) κ Laid s.0.laid us.1.1.0 laid_is) refl $
    returns ! (look_at ! 0 refl) $ free_all ! refl $ keep ! (0 ∷ 3 ∷ 6 ∷ []) $
    suffices ! _ (ends_at 𝓛 f.ended stayed c ((κs, qs, bounds, a, (lowered self ∷ [], (uint_vals w32 i, (uint_vals w32 j, tt)))), tt) (vptr s.0.laid.ref_ptr.0 s.0.laid.ref_ptr.1) s.0.laid ((tt, tt), (tt, (tt, tt))) (tt, (tt, (tt, tt)))) $
    nothing ! $ nothing ! $ join ! $ nothing ! $ join ! $ nothing ! $ join ! $ join ! $ move ! (2 ∷ 0 ∷ []) $ join ! $ done !)))))))))))))))
    )
