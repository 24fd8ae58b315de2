use Rattle.pb_script.proofs.SpellingLemmas.{spelling_read, percent_read, only_spellings}
use Rattle.pb_script.proofs.laws.each_spelling_is_read.Goals as goal

pub returns-clause-read : goal.returns-clause-read
returns-clause-read c = spelling_read

pub returns-clause-empty : goal.returns-clause-empty
returns-clause-empty c = percent_read

pub returns-clause-only : goal.returns-clause-only
returns-clause-only c = only_spellings
