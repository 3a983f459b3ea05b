use Rattle.gsl_lower_indexes.proofs.Computing.{index_place}
use Rattle.gsl_lower_indexes.proofs.laws.indexes_that_call_lead.Goals as goal

pub returns : goal.returns
returns c m input sections f p around splits writes start t a i run index are start_is is real_base real known test gives leads = index_place m input sections f p around are splits writes start t a i run index start_is is real_base real known test gives leads
