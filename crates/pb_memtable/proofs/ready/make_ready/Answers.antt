use Rattle.std.proofs.Common.{sym, ap, ◌∙◌}
use Rattle.pb_keys.specs.Span.{KeySpan}
use Rattle.pb_memtable.proofs.Joins.{put_among}
use Rattle.pb_rows.specs.Over.{with_span}
use Rattle.pb_memtable.proofs.ready.make_ready.Goals as goal

pub returns-clause-ready : goal.returns-clause-ready
returns-clause-ready c =
    let touched = c.touched_by-from.ensures.touched in
    record {
      rises = touched.rises;
      within = touched.within;
      joined = put_among c.args.span.now c.in_ok-joined.joined c.args.dels.now c.touched_by-from.result.0 c.touched_by-from.result.1 c.touched_by-from.ensures.in_form c.requires.in_form c.requires.apart touched c.in_ok-joined.ensures.ok
          ∙ ap (λ (s : KeySpan). with_span s c.args.dels.now) (sym c.in_ok-own.ensures.ok);
    }
