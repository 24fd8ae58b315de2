use Rattle.pb_recover.proofs.Making.{cleared_new, cleared_own, cleared_reopens, made_own, made_reopens}
use Rattle.pb_recover.proofs.make_new.make_new.Goals as goal

pub make_files-requires-clause-new : goal.make_files-requires-clause-new
make_files-requires-clause-new g c = λ told.
    cleared_new c.args.id (g.D.Disk.contents c.args.disk.now) (g.D.Disk.contents c.clear.new.disk) (c.in_ok-clear.ensures.removes told)
    (λ name. g.met.D.Disk.seen_may_be_left c.args.disk.now name told) (c.requires.calm told) (c.requires.new told)

pub returns-in_err-clear-clause-others : goal.returns-in_err-clear-clause-others
returns-in_err-clear-clause-others g c = λ told.
    cleared_own c.args.id (g.D.Disk.contents c.args.disk.now) (g.D.Disk.contents c.clear.new.disk) (c.in_err-clear.ensures.removes told)
    (λ name. g.met.D.Disk.seen_may_be_left c.args.disk.now name told) (c.requires.calm told) (c.requires.new told)

pub returns-in_err-clear-clause-reopens : goal.returns-in_err-clear-clause-reopens
returns-in_err-clear-clause-reopens g c = λ told.
    cleared_reopens c.args.id (g.D.Disk.contents c.args.disk.now) (g.D.Disk.contents c.clear.new.disk) (c.in_err-clear.ensures.removes told)
    (λ name. g.met.D.Disk.seen_may_be_left c.args.disk.now name told) (c.requires.calm told) (c.requires.new told)

pub returns-in_err-made-clause-others : goal.returns-in_err-made-clause-others
returns-in_err-made-clause-others g c = λ told.
    made_own c.args.id (g.D.Disk.contents c.args.disk.now) (g.D.Disk.contents c.clear.new.disk) (c.in_ok-clear.ensures.removes told)
    (λ name. g.met.D.Disk.seen_may_be_left c.args.disk.now name told) (c.requires.calm told) (c.requires.new told)
    (g.D.Disk.contents c.make_files.new.disk) (c.in_err-made.ensures.others told)

pub returns-in_err-made-clause-reopens : goal.returns-in_err-made-clause-reopens
returns-in_err-made-clause-reopens g c = λ told.
    made_reopens c.args.id (g.D.Disk.contents c.args.disk.now) (g.D.Disk.contents c.clear.new.disk) (c.in_ok-clear.ensures.removes told)
    (λ name. g.met.D.Disk.seen_may_be_left c.args.disk.now name told) (c.requires.calm told) (c.requires.new told)
    (g.D.Disk.contents c.make_files.new.disk) (c.in_err-made.ensures.others told) (c.in_err-made.ensures.making told)

pub returns-clause-others : goal.returns-clause-others
returns-clause-others g c = λ told.
    made_own c.args.id (g.D.Disk.contents c.args.disk.now) (g.D.Disk.contents c.clear.new.disk) (c.in_ok-clear.ensures.removes told)
    (λ name. g.met.D.Disk.seen_may_be_left c.args.disk.now name told) (c.requires.calm told) (c.requires.new told)
    (g.D.Disk.contents c.make_files.new.disk) (c.in_ok-made.ensures.others told)

pub returns-clause-reopens : goal.returns-clause-reopens
returns-clause-reopens g c = λ told.
    made_reopens c.args.id (g.D.Disk.contents c.args.disk.now) (g.D.Disk.contents c.clear.new.disk) (c.in_ok-clear.ensures.removes told)
    (λ name. g.met.D.Disk.seen_may_be_left c.args.disk.now name told) (c.requires.calm told) (c.requires.new told)
    (g.D.Disk.contents c.make_files.new.disk) (c.in_ok-made.ensures.others told) (c.in_ok-made.ensures.making told)
