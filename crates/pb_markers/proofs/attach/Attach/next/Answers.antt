use Rattle.pb_markers.proofs.Machines.{check_made, marked_made}
use Rattle.pb_markers.proofs.attach.Attach.next.Goals as goal

pub returns-in-Intended-clause-elsewhere : goal.returns-in-Intended-clause-elsewhere
returns-in-Intended-clause-elsewhere g c told =
    (marked_made c.args.self.now (g.B.Bucket.objects c.args.bucket.now) (g.B.Bucket.objects c.put_marker.new.bucket)
    c.put_marker.result c.in-Intended.is (c.put_marker.ensures.objects told)).elsewhere

pub returns-in-Intended-clause-form : goal.returns-in-Intended-clause-form
returns-in-Intended-clause-form g c told =
    (marked_made c.args.self.now (g.B.Bucket.objects c.args.bucket.now) (g.B.Bucket.objects c.put_marker.new.bucket)
    c.put_marker.result c.in-Intended.is (c.put_marker.ensures.objects told)).form

pub returns-in-Intended-clause-step : goal.returns-in-Intended-clause-step
returns-in-Intended-clause-step g c told =
    (marked_made c.args.self.now (g.B.Bucket.objects c.args.bucket.now) (g.B.Bucket.objects c.put_marker.new.bucket)
    c.put_marker.result c.in-Intended.is (c.put_marker.ensures.objects told)).step

pub returns-in-Marked-clause-elsewhere : goal.returns-in-Marked-clause-elsewhere
returns-in-Marked-clause-elsewhere g c told =
    (check_made c.args.self.now (g.B.Bucket.objects c.args.bucket.now) (g.B.Bucket.objects c.check.new.bucket)
    c.check.result c.in-Marked.is (c.check.ensures.objects told)).elsewhere

pub returns-in-Marked-clause-form : goal.returns-in-Marked-clause-form
returns-in-Marked-clause-form g c told =
    (check_made c.args.self.now (g.B.Bucket.objects c.args.bucket.now) (g.B.Bucket.objects c.check.new.bucket)
    c.check.result c.in-Marked.is (c.check.ensures.objects told)).form

pub returns-in-Marked-clause-step : goal.returns-in-Marked-clause-step
returns-in-Marked-clause-step g c told =
    (check_made c.args.self.now (g.B.Bucket.objects c.args.bucket.now) (g.B.Bucket.objects c.check.new.bucket)
    c.check.result c.in-Marked.is (c.check.ensures.objects told)).step
