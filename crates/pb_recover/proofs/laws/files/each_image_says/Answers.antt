use Rattle.pb_recover.proofs.Files.{image_says, image_shows}
use Rattle.pb_recover.proofs.laws.files.each_image_says.Goals as goal

pub returns-clause-says : goal.returns-clause-says
returns-clause-says g c = λ files kept ready folder image. image_says files (g.D.Disk.contents c.args.disk.now) kept ready folder image

pub returns-clause-shows : goal.returns-clause-shows
returns-clause-shows g c = λ files kept ready folder image. image_shows files (g.D.Disk.contents c.args.disk.now) kept ready folder image
