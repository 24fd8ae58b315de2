use Rattle.pb_version.proofs.InTurn.{one_says, none_says, any_order, placed_says}
use Rattle.pb_version.proofs.laws.above.tables_apart_say_alone.Goals as goal

pub returns-clause-decides : goal.returns-clause-decides
returns-clause-decides c = λ layers level tables t key. one_says layers key level tables t

pub returns-clause-silent : goal.returns-clause-silent
returns-clause-silent c = λ layers tables key. none_says layers key tables

pub returns-clause-any_order : goal.returns-clause-any_order
returns-clause-any_order c = λ layers level tables others key. any_order layers key level tables others

pub returns-clause-any_place : goal.returns-clause-any_place
returns-clause-any_place c = λ layers level t tables key. placed_says layers key level t tables
