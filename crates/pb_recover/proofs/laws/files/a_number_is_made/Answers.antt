use Rattle.pb_recover.proofs.Files.{fewer_unmade, number_made}
use Rattle.pb_recover.proofs.laws.files.a_number_is_made.Goals as goal

pub returns-clause-fewer : goal.returns-clause-fewer
returns-clause-fewer g c = λ files unmade among kept. fewer_unmade files unmade (g.D.Disk.contents c.args.old.now) among kept

pub returns-clause-made : goal.returns-clause-made
returns-clause-made g c = λ files unmade kind n ready among was made other unentered others kept.
    number_made files unmade (g.D.Disk.contents c.args.old.now) ready kept among kind n was made other unentered
    (g.D.Disk.contents c.args.new.now) others
