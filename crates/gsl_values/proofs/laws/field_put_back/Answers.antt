use Rattle.gsl_values.proofs.PutBack.{within_word, put_back, low_bits, signed_bits}
use Rattle.gsl_values.proofs.laws.field_put_back.Goals as goal

pub returns : goal.returns
returns c = record {
  again = λ signed base insert offset bits h l e. put_back signed base insert offset bits (within_word offset bits h l e);
  uint = low_bits;
  int = signed_bits;
}
