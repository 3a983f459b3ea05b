use Rattle.gsl_sound_code.proofs.Looks.{kept}
use Rattle.gsl_sound_values.proofs.Composed.{constructed_shaped}
use Rattle.gsl_sound_values.proofs.Counted.{lanes_there}
use Rattle.gsl_sound_values.proofs.Operated.{binary_shaped, extend_shaped, extracted_shaped, inserted_shaped, select_shaped, shuffled_shaped, unary_shaped}
use Rattle.gsl_sound_values.proofs.laws.operations_give_their_shapes.Goals as goal

pub returns-clause-one : goal.returns-clause-one
returns-clause-one c m code type other v valid rule is = unary_shaped m (kept m valid) code type other v rule is

pub returns-clause-two : goal.returns-clause-two
returns-clause-two c m type a b operator x y choices valid first second third left right = binary_shaped m (kept m valid) type a b operator x y choices first second third left right

pub returns-clause-selects : goal.returns-clause-selects
returns-clause-selects c m type condition test a b valid same is = select_shaped m (kept m valid) type condition test a b same is

pub returns-clause-inserts : goal.returns-clause-inserts
returns-clause-inserts c m type base insert offset count choices valid ints is = inserted_shaped m (kept m valid) type base insert offset count choices ints is

pub returns-clause-extracts : goal.returns-clause-extracts
returns-clause-extracts c m type code base offset count choices valid ints is = extracted_shaped m (kept m valid) type code base offset count choices ints is

pub returns-clause-extends : goal.returns-clause-extends
returns-clause-extends c m e type other number operands v vs valid fit is = extend_shaped m (kept m valid) e type other number operands v vs fit is

pub returns-clause-shuffles : goal.returns-clause-shuffles
returns-clause-shuffles c m test type a b places valid lanes is = shuffled_shaped m (kept m valid) type a b places (lanes_there m test type lanes) is

pub returns-clause-constructs : goal.returns-clause-constructs
returns-clause-constructs c m type ids vs valid have built = constructed_shaped m (kept m valid) type ids vs have built
