use Rattle.pb_markers.proofs.Machines.{held_made, object_made}
use Rattle.pb_markers.proofs.create.Create.next.Goals as goal

pub returns-in-Intended-clause-elsewhere : goal.returns-in-Intended-clause-elsewhere
returns-in-Intended-clause-elsewhere g c told =
    (object_made c.args.self.now c.args.bytes.now (g.B.Bucket.objects c.args.bucket.now) (g.B.Bucket.objects c.put_object.new.bucket)
    c.put_object.result c.in-Intended.is (c.put_object.ensures.objects told)).elsewhere

pub returns-in-Intended-clause-form : goal.returns-in-Intended-clause-form
returns-in-Intended-clause-form g c told =
    (object_made c.args.self.now c.args.bytes.now (g.B.Bucket.objects c.args.bucket.now) (g.B.Bucket.objects c.put_object.new.bucket)
    c.put_object.result c.in-Intended.is (c.put_object.ensures.objects told)).form

pub returns-in-Intended-clause-step : goal.returns-in-Intended-clause-step
returns-in-Intended-clause-step g c told =
    (object_made c.args.self.now c.args.bytes.now (g.B.Bucket.objects c.args.bucket.now) (g.B.Bucket.objects c.put_object.new.bucket)
    c.put_object.result c.in-Intended.is (c.put_object.ensures.objects told)).step

pub returns-in-Put-clause-elsewhere : goal.returns-in-Put-clause-elsewhere
returns-in-Put-clause-elsewhere g c told =
    (held_made c.args.self.now c.args.bytes.now (g.B.Bucket.objects c.args.bucket.now) (g.B.Bucket.objects c.put_marker.new.bucket)
    c.put_marker.result c.in-Put.is (c.put_marker.ensures.objects told)).elsewhere

pub returns-in-Put-clause-form : goal.returns-in-Put-clause-form
returns-in-Put-clause-form g c told =
    (held_made c.args.self.now c.args.bytes.now (g.B.Bucket.objects c.args.bucket.now) (g.B.Bucket.objects c.put_marker.new.bucket)
    c.put_marker.result c.in-Put.is (c.put_marker.ensures.objects told)).form

pub returns-in-Put-clause-step : goal.returns-in-Put-clause-step
returns-in-Put-clause-step g c told =
    (held_made c.args.self.now c.args.bytes.now (g.B.Bucket.objects c.args.bucket.now) (g.B.Bucket.objects c.put_marker.new.bucket)
    c.put_marker.result c.in-Put.is (c.put_marker.ensures.objects told)).step
