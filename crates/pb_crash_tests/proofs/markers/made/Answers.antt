use Rattle.std.proofs.Common.{◌∙◌}
use Rattle.pb_marker_world.specs.declared.stages.Stage.TheVariants.{Intended}
use Rattle.pb_crash_tests.proofs.Marked.{marker_shown, object_shown}
use Rattle.pb_crash_tests.proofs.markers.made.Goals as goal

pub returns-clause-object : goal.returns-clause-object
returns-clause-object g c told =
    object_shown c.new-create.result c.next.new.self c.args.bytes.now
    (g.B.Bucket.objects c.args.bucket.now) (g.B.Bucket.objects c.next.new.bucket) (g.B.Bucket.objects c.next-2.new.bucket)
    c.args.id.now c.args.store c.args.number
    (record {
      begun = c.new-create.ensures ∙ (λ i. record { object = c.object.ensures i; own = c.marker.ensures i; stage = Intended });
      names = c.in_ok-next.ensures.names;
      gone_on = c.in_ok-next.ensures.goes;
    })
    (record { object = c.requires.object; store = c.requires.store; number = c.requires.number })
    (c.in_ok-next.ensures.objects told) (c.in_ok-answer.ensures.objects told)

pub returns-clause-marker : goal.returns-clause-marker
returns-clause-marker g c told =
    marker_shown c.new-create.result c.next.new.self c.args.bytes.now
    (g.B.Bucket.objects c.args.bucket.now) (g.B.Bucket.objects c.next.new.bucket) (g.B.Bucket.objects c.next-2.new.bucket)
    c.args.id.now c.args.store c.args.number
    (record {
      begun = c.new-create.ensures ∙ (λ i. record { object = c.object.ensures i; own = c.marker.ensures i; stage = Intended });
      names = c.in_ok-next.ensures.names;
      gone_on = c.in_ok-next.ensures.goes;
    })
    (record { object = c.requires.object; store = c.requires.store; number = c.requires.number })
    (c.in_ok-next.ensures.objects told) (c.in_ok-answer.ensures.objects told)
