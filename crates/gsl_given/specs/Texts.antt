-- The lines that tell what is wrong with a manifest, with a file that it names, or with an input.
use Rattle.std.specs.Prelude.{ℕ, List, ◌++◌, codes}
use Rattle.std.specs.Fmt.{decimal}
use Rattle.gsl_base.specs.declared.input.InputRefusal.{InputRefusal}
use Rattle.gsl_base.specs.declared.input.InputRefusal.TheVariants.{NoBuffer, TooShort, NoPush, PushShort, NoValue, BadIds}

-- the manifest is too long
abbrev pub long_text : List ℕ
long_text = codes "INPUT: too long\n"

-- the line is none of a manifest, or the file that it names is too long
abbrev pub line_text : ℕ → List ℕ
line_text line = codes "INPUT: line " ++ decimal line ++ codes "\n"

-- of the buffer at a set and binding
abbrev pub buffer_text : ℕ → ℕ → List ℕ → List ℕ
buffer_text set binding end = codes "INPUT: buffer " ++ decimal set ++ codes " " ++ decimal binding ++ end

-- the input does not fit
abbrev pub misfit_text : InputRefusal → List ℕ
misfit_text (NoBuffer set binding) = buffer_text set binding (codes "\n")
misfit_text (TooShort set binding) = buffer_text set binding (codes " short\n")
misfit_text NoPush = codes "INPUT: push\n"
misfit_text PushShort = codes "INPUT: push short\n"
misfit_text (NoValue location) = codes "INPUT: location " ++ decimal location ++ codes "\n"
misfit_text BadIds = codes "INPUT: ids\n"
