-- Each kind of type that is taken has a row, and no other has.
use Rattle.sz_check_rules.proofs.FirstTypes.{left_has_row, index_has_row, map_has_row, text_has_row}
use Rattle.sz_check_rules.proofs.laws.first_types_are_those_of_the_rows.Goals as goal

pub returns : goal.returns
returns c = record { operators = left_has_row; indexes = index_has_row; maps = map_has_row; texts = text_has_row }
