-- The job of `dis` and of `asm`: what is made of a file, and that there is one.
use Rattle.std.proofs.Common.{◌≡◌, ℕ, List, [], ◌∷◌, Option, Some, Result, Ok, Err, refl, ap, sym, ◌∙◌}
use Rattle.std.specs.FinMap.{get, insert}
use Rattle.gsl_host.specs.Outside.{Files}
use Rattle.gsl_text.specs.Lines.{lines_of}
use Rattle.gsl_words.specs.declared.module.Module.{Module}
use Rattle.gsl_words.specs.Bytes.{bytes_of}
use Rattle.gsl_asm.specs.Shown.{shown}
use Rattle.gsl_asm.specs.Reading.{module_from}
use Rattle.gsl_asm.proofs.Lined.{module_is, wrong, one_module, one_place}
use Rattle.gsl_plan.specs.Plan.{Plan, Name}
use Rattle.gsl_cmd.specs.declared.converting.Conversion.{Conversion}
use Rattle.gsl_cmd.specs.declared.converting.Conversion.TheVariants.{Disassemble, Assemble}
use Rattle.gsl_exec.specs.declared.reading.TheConstants.{MAX_MODULE_BYTES}
use Rattle.gsl_exec.specs.Owed.{Read, Missing, Longer, Whole}
use Rattle.gsl_exec.proofs.Done.{whole_is}
use Rattle.gsl_exec.proofs.Verdicts.{judged_file, of_file, one_file}
use Rattle.gsl_cmd.specs.Converting.{Made, JudgesText, Makes, shown_of, assembled_of, too_long}
use Rattle.gsl_cmd.specs.Job.{Job, IsJob, IsConversionJob, failed, rejected, made_of, found_in}
use Rattle.gsl_cmd.specs.Performs.{effect_on}
use Rattle.gsl_cmd.specs.Written.{Written}
use Rattle.gsl_host.specs.declared.target.Target.TheVariants.{Reading}

-- ---- there is a verdict, and one

judged_text_as : (l : List ℕ) (found : Result Module ℕ) → module_from 1 (lines_of l) ≡ found → (verdict : Result Module ℕ) × JudgesText l verdict
judged_text_as l (Ok m) e = (Ok m, module_is 1 (lines_of l) m e)
judged_text_as l (Err n) e = (Err n, wrong (lines_of l) n e)

judged_text : (l : List ℕ) → (verdict : Result Module ℕ) × JudgesText l verdict
judged_text l = judged_text_as l (module_from 1 (lines_of l)) refl

one_text : (l : List ℕ) (v w : Result Module ℕ) → JudgesText l v → JudgesText l w → v ≡ w
one_text l (Ok m) (Ok k) jm jk = ap Ok (one_module (lines_of l) m k jm jk)
one_text l (Ok m) (Err n) jm jn = absurd (jn.0 m jm)
one_text l (Err n) (Ok m) jn jm = absurd (jn.0 m jm)
one_text l (Err n) (Err k) jn jk = ap Err (one_place (lines_of l) n k jn jk)

some_made : (conversion : Conversion) (name : Name) (l : List ℕ) → (made : Made) × Makes conversion name l made
some_made Disassemble name l = let v = judged_file l in (shown_of v.0, (v.0, v.1, refl))
some_made Assemble name l = let v = judged_text l in (assembled_of name v.0, (v.0, v.1, refl))

one_made : (conversion : Conversion) (name : Name) (l : List ℕ) (a b : Made) → Makes conversion name l a → Makes conversion name l b → a ≡ b
one_made Disassemble name l a b (v, jv, av) (w, jw, bw) = av ∙ ap shown_of (one_file l v w jv jw) ∙ sym bw
one_made Assemble name l a b (v, jv, av) (w, jw, bw) = av ∙ ap (assembled_of name) (one_text l v w jv jw) ∙ sym bw

pub conversion_job : (conversion : Conversion) (file out : Name) (found : Read) → (job : Job) × IsConversionJob conversion file out job found
conversion_job conversion file out Missing = (failed (Reading file ∷ []), refl)
conversion_job conversion file out Longer = (rejected (too_long conversion file) file, refl)
conversion_job conversion file out (Whole l) = let m = some_made conversion file l in (made_of file out m.0, (m.0, m.1, refl))

pub one_conversion : (conversion : Conversion) (file out : Name) (found : Read) (j k : Job) → IsConversionJob conversion file out j found → IsConversionJob conversion file out k found → j ≡ k
one_conversion conversion file out Missing j k js ks = js ∙ sym ks
one_conversion conversion file out Longer j k js ks = js ∙ sym ks
one_conversion conversion file out (Whole l) j k (a, ma, js) (b, mb, ks) = js ∙ ap (made_of file out) (one_made conversion file l a b ma mb) ∙ sym ks

-- ---- what is written where the status is 0

module _ (file out : Name) (before : Files) (after : Option Files) (job : Job) (zero : job.status ≡ 0) (files : after ≡ Some (effect_on job.effect before)) where
  status : {k : ℕ} (j : Job) → job ≡ j → j.status ≡ k → k ≡ 0
  status j is e = sym e ∙ sym (ap (λ (x : Job). x.status) is) ∙ zero

  effect : (j : Job) → job ≡ j → after ≡ Some (effect_on j.effect before)
  effect j is = files ∙ ap (λ (x : Job). Some (effect_on x.effect before)) is

  shown_in : (found : Read) → found_in (get before file) ≡ found → IsConversionJob Disassemble file out job found → Written (Plan.Disassemble file out) before after
  shown_in Missing e is = absurd (let no : 3 ≡ 0 = status _ is refl in cc)
  shown_in Longer e is = absurd (let no : 8 ≡ 0 = status _ is refl in cc)
  shown_in (Whole l) e (Err text, made, is) = absurd (let no : 8 ≡ 0 = status _ is refl in cc)
  shown_in (Whole l) e (Ok text, (Err fault, judged, made), is) = absurd (cc)
  shown_in (Whole l) e (Ok text, (Ok m, judged, made), is) =
      let j = of_file l m judged in
      let same : text ≡ shown m = cc in
      (l, m, whole_is MAX_MODULE_BYTES (get before file) l e, j.0, j.2, effect _ is ∙ ap (λ t. Some (insert before out t)) same)

  pub shown_written : IsJob (Plan.Disassemble file out) before job → Written (Plan.Disassemble file out) before after
  shown_written is = shown_in (found_in (get before file)) refl is

  assembled_in : (found : Read) → found_in (get before file) ≡ found → IsConversionJob Assemble file out job found → Written (Plan.Assemble file out) before after
  assembled_in Missing e is = absurd (let no : 3 ≡ 0 = status _ is refl in cc)
  assembled_in Longer e is = absurd (let no : 8 ≡ 0 = status _ is refl in cc)
  assembled_in (Whole l) e (Err text, made, is) = absurd (let no : 8 ≡ 0 = status _ is refl in cc)
  assembled_in (Whole l) e (Ok file_bytes, (Err line, judged, made), is) = absurd (cc)
  assembled_in (Whole l) e (Ok file_bytes, (Ok m, judged, made), is) =
      let same : file_bytes ≡ bytes_of m = cc in
      (l, m, whole_is MAX_MODULE_BYTES (get before file) l e, judged, effect _ is ∙ ap (λ t. Some (insert before out t)) same)

  pub assembled_written : IsJob (Plan.Assemble file out) before job → Written (Plan.Assemble file out) before after
  assembled_written is = assembled_in (found_in (get before file)) refl is
