use Rattle.pb_recover.proofs.Steps.{words_stay}
use Rattle.pb_recover.proofs.laws.steps.the_words_stay.Goals as goal

pub returns : goal.returns
returns g c = λ id said words reopens folder image.
    words_stay id said (g.D.Disk.contents c.args.old.now) (g.D.Disk.contents c.args.new.now) words reopens folder image
