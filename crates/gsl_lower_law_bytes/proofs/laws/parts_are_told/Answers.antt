use Rattle.gsl_lower_law_bytes.proofs.Parts.{parts_told}
use Rattle.gsl_lower_law_bytes.proofs.laws.parts_are_told.Goals as goal

pub returns : goal.returns
returns c = λ l components offset path given bytes positions words is fits long small told leads some less below.
    let parts = parts_told l components offset path given is some positions words bytes (record { fits = fits; long = long; small = small; told = told; leads = leads }) less below in
    (parts.is_seen, parts.later.told)
