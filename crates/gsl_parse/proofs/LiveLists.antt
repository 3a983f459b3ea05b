-- What a reader of lists took before a fault begins a list, where it does of each item.
use Rattle.std.proofs.Common.{ℕ, zero, suc, Bool, List, [], ◌∷◌, ◌++◌, length, refl, sym, subst}
use Rattle.gsl_base.specs.declared.token.Punct.TheVariants as punct
use Rattle.gsl_syntax.specs.Phrases.{sign}
use Rattle.gsl_syntax.specs.Declarations.{Commas, Row, Some_of}
use Rattle.gsl_syntax.specs.Declarations.Row.{done}
use Rattle.gsl_syntax.specs.Declarations.Some_of.{these}
use Rattle.gsl_expr.specs.Reading.{Tokens, Parser}
use Rattle.gsl_expr.proofs.Taken.{Good}
use Rattle.gsl_parse.specs.Lists.{row, row_of, some_of, further, further_of, commas_of}
use Rattle.gsl_parse.proofs.SoundLists.{Grew, Added, commas_by, no_more, one_more, none_grew, one_grew}
use Rattle.gsl_expr.proofs.Live.{Front, after, Live, Leads, live_pure, live_then, live_sees, live_either}

module _ {A : Type 0} (Item : A → Tokens → Type 0) (item : Parser A) (each : (ts : Tokens) → Good Item ts (item ts)) (live : (F : Front) → Leads Item F → Live F item) where
  row_live : (begins : Tokens → Bool) (n : ℕ) (found : List A) (F : Front) → ((bs : List A) (zs : Tokens) → Grew Item found bs zs → F.holds zs) → Live F (row begins item n found)
  unfolding row
  row_live begins zero found F lead = live_pure found (lead found [] (none_grew Item found))
  row_live begins (suc n) found F lead =
      live_either begins
      (live_then Item each (live F) (λ a xs w. row_live begins n (found ++ a ∷ []) (after xs F) (λ bs zs r. lead bs (xs ++ zs) (one_grew Item found a xs bs zs w r))))
      (live_pure found (lead found [] (none_grew Item found)))

  pub row_of_live : (begins : Tokens → Bool) (F : Front) → Leads (Row Item) F → Live F (row_of begins item)
  row_of_live begins F lead = record {
    starts = lead [] [] done;
    opened = λ ts. (row_live begins (length ts) [] F (λ bs zs r. lead bs zs (subst (λ (cs : List A). Row Item cs zs) (sym r.all_is) r.row))).opened ts;
  }

  pub some_of_live : (begins : Tokens → Bool) (F : Front) → Leads (Some_of Item) F → Live F (some_of begins item)
  some_of_live begins F lead =
      live_then Item each (live F)
      (λ a xs w. record {
        starts = lead (a ∷ []) (xs ++ []) (these w done);
        opened = λ ts. (row_live begins (length ts) (a ∷ []) (after xs F) (λ bs zs r. lead bs (xs ++ zs) (subst (λ (cs : List A). Some_of Item cs (xs ++ zs)) (sym r.all_is) (these w r.row)))).opened ts;
      })

  further_live : (n : ℕ) (found : List A) (F : Front) → ((bs : List A) (zs : Tokens) → Added Item found bs zs → F.holds zs) → Live F (further item n found)
  unfolding further
  further_live zero found F lead = live_pure found (lead found [] (no_more Item found))
  further_live (suc n) found F lead =
      live_sees punct.Comma
      (λ p. live_then Item each (live (after (sign p punct.Comma ∷ []) F))
      (λ a xs w. further_live n (found ++ a ∷ []) (after xs (after (sign p punct.Comma ∷ []) F)) (λ bs zs r. lead bs (sign p punct.Comma ∷ (xs ++ zs)) (one_more Item found p a xs bs zs w r))))
      (live_pure found (lead found [] (no_more Item found)))

  pub further_of_live : (a : A) (xs : Tokens) (F : Front) → Item a xs → ((bs : List A) (zs : Tokens) → Commas Item bs (xs ++ zs) → F.holds zs) → Live F (further_of item a)
  further_of_live a xs F w lead = record {
    starts = lead (a ∷ []) [] (commas_by Item a xs [] [] w refl);
    opened = λ ts. (further_live (length ts) (a ∷ []) F (λ bs zs r. lead bs zs (subst (λ (cs : List A). Commas Item cs (xs ++ zs)) (sym r.all_is) (commas_by Item a xs r.others zs w r.tailed)))).opened ts;
  }

  pub commas_of_live : (F : Front) → Leads (Commas Item) F → Live F (commas_of item)
  commas_of_live F lead = live_then Item each (live F) (λ a xs w. further_of_live a xs (after xs F) w (λ bs zs c. lead bs (xs ++ zs) c))
