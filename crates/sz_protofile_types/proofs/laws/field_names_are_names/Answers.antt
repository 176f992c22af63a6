use Rattle.sz_protofile_types.proofs.NameLaws.{fields_have_names}
use Rattle.sz_protofile_types.proofs.laws.field_names_are_names.Goals as goal

pub returns : goal.returns
returns c = record { value = λ bytes types h t d. fields_have_names bytes types h t d }
