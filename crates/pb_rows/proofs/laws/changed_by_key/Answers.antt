use Rattle.std.specs.FinMap.{get-insert, get-remove}
use Rattle.pb_keys.specs.KeyLaws.{key_cmp_total}
use Rattle.pb_keys.proofs.MapFacts.{get-without}
use Rattle.pb_rows.proofs.VerdictLaws.{get-applied}
use Rattle.pb_rows.specs.Viewed.{viewed}
use Rattle.pb_rows.proofs.ChangingLaws.{get-applied_in_turn, get-ingest_excise, get-receive}
use Rattle.pb_rows.proofs.laws.changed_by_key.Goals as goal

pub returns-clause-set : goal.returns-clause-set
returns-clause-set c = λ m at value key. get-insert key_cmp_total m at value key

pub returns-clause-del : goal.returns-clause-del
returns-clause-del c = λ m at key. get-remove key_cmp_total m at key

pub returns-clause-del_range : goal.returns-clause-del_range
returns-clause-del_range c = get-without

pub returns-clause-excise : goal.returns-clause-excise
returns-clause-excise c = get-without

pub returns-clause-ingest : goal.returns-clause-ingest
returns-clause-ingest c = λ m layers key. get-applied_in_turn layers m key

pub returns-clause-ingest_excise : goal.returns-clause-ingest_excise
returns-clause-ingest_excise c = λ m span layers key. get-ingest_excise span layers m key

pub returns-clause-external : goal.returns-clause-external
returns-clause-external c = λ m view layer key. get-applied (viewed view layer) m key

pub returns-clause-receive : goal.returns-clause-receive
returns-clause-receive c = λ m sub span key. get-receive span sub m key
