use Rattle.gsl_lower_law_members.proofs.Laid.{block_member_laid, element_laid, not_beyond, row_laid, shape_laid, struct_member_laid}
use Rattle.gsl_lower_law_members.proofs.laws.parts_are_laid.Goals as goal

pub returns-clause-block : goal.returns-clause-block
returns-clause-block c = λ structs block size number one e. block_member_laid structs size block number one e

pub returns-clause-member : goal.returns-clause-member
returns-clause-member c = λ std140 structs size at number base t are part. struct_member_laid structs size std140 at number base t are part

pub returns-clause-row : goal.returns-clause-row
returns-clause-row c = λ std140 structs base t has none. row_laid structs 0 std140 base t has none

pub returns-clause-element : goal.returns-clause-element
returns-clause-element c = λ std140 structs size at number base t l row less. element_laid structs size std140 at number base t l row less

pub returns-clause-shape : goal.returns-clause-shape
returns-clause-shape c = λ std140 structs t shape of. shape_laid structs 0 std140 t shape of

pub returns-clause-last : goal.returns-clause-last
returns-clause-last c = λ std140 structs size offset number base t are part array most. not_beyond structs size std140 base t offset number are part array most
