use Rattle.pb_markers.proofs.Machines.{count_made, deleted_made, marker_made}
use Rattle.pb_markers.proofs.release.Release.next.Goals as goal

pub returns-in-Loose-clause-elsewhere : goal.returns-in-Loose-clause-elsewhere
returns-in-Loose-clause-elsewhere g c told =
    (marker_made c.args.self.now (g.B.Bucket.objects c.args.bucket.now) (g.B.Bucket.objects c.delete_marker.new.bucket)
    c.delete_marker.result c.in-Loose.is (c.delete_marker.ensures.objects told)).elsewhere

pub returns-in-Loose-clause-form : goal.returns-in-Loose-clause-form
returns-in-Loose-clause-form g c told =
    (marker_made c.args.self.now (g.B.Bucket.objects c.args.bucket.now) (g.B.Bucket.objects c.delete_marker.new.bucket)
    c.delete_marker.result c.in-Loose.is (c.delete_marker.ensures.objects told)).form

pub returns-in-Loose-clause-step : goal.returns-in-Loose-clause-step
returns-in-Loose-clause-step g c told =
    (marker_made c.args.self.now (g.B.Bucket.objects c.args.bucket.now) (g.B.Bucket.objects c.delete_marker.new.bucket)
    c.delete_marker.result c.in-Loose.is (c.delete_marker.ensures.objects told)).step

pub returns-in-Bare-clause-elsewhere : goal.returns-in-Bare-clause-elsewhere
returns-in-Bare-clause-elsewhere g c told =
    (count_made c.args.self.now (g.B.Bucket.objects c.args.bucket.now) (g.B.Bucket.objects c.count.new.bucket)
    c.count.result c.in-Bare.is (c.count.ensures.objects told)).elsewhere

pub returns-in-Bare-clause-form : goal.returns-in-Bare-clause-form
returns-in-Bare-clause-form g c told =
    (count_made c.args.self.now (g.B.Bucket.objects c.args.bucket.now) (g.B.Bucket.objects c.count.new.bucket)
    c.count.result c.in-Bare.is (c.count.ensures.objects told)).form

pub returns-in-Bare-clause-step : goal.returns-in-Bare-clause-step
returns-in-Bare-clause-step g c told =
    (count_made c.args.self.now (g.B.Bucket.objects c.args.bucket.now) (g.B.Bucket.objects c.count.new.bucket)
    c.count.result c.in-Bare.is (c.count.ensures.objects told)).step

pub returns-in-Counted-clause-elsewhere : goal.returns-in-Counted-clause-elsewhere
returns-in-Counted-clause-elsewhere g c told =
    (deleted_made c.args.self.now (g.B.Bucket.objects c.args.bucket.now) (g.B.Bucket.objects c.delete_object.new.bucket)
    c.delete_object.result c.in-Counted.is (c.delete_object.ensures.objects told)).elsewhere

pub returns-in-Counted-clause-form : goal.returns-in-Counted-clause-form
returns-in-Counted-clause-form g c told =
    (deleted_made c.args.self.now (g.B.Bucket.objects c.args.bucket.now) (g.B.Bucket.objects c.delete_object.new.bucket)
    c.delete_object.result c.in-Counted.is (c.delete_object.ensures.objects told)).form

pub returns-in-Counted-clause-step : goal.returns-in-Counted-clause-step
returns-in-Counted-clause-step g c told =
    (deleted_made c.args.self.now (g.B.Bucket.objects c.args.bucket.now) (g.B.Bucket.objects c.delete_object.new.bucket)
    c.delete_object.result c.in-Counted.is (c.delete_object.ensures.objects told)).step
