use Rattle.pb_table.proofs.SizeLemmas.{table_between}
use Rattle.pb_table.proofs.laws.size_is_bounded.Goals as goal

pub returns-clause-least : goal.returns-clause-least
returns-clause-least c = λ bytes layer spells. (table_between bytes layer spells).least

pub returns-clause-most : goal.returns-clause-most
returns-clause-most c = λ bytes layer spells format. (table_between bytes layer spells).most
