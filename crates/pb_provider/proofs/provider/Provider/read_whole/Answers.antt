use Rattle.std.proofs.Common.{◌≡◌, ◌++◌, length, take, drop, vec_len, sym, ap, ◌∙◌, subst, arith, length-take}
use Rattle.pb_devices.proofs.Kept.{stays_then}
use Rattle.pb_payloads.specs.Places.{object_of}
use Rattle.pb_provider.specs.Places.{IsThere}
use Rattle.pb_provider.proofs.WholeLemmas.{bytes_still, front_more, no_more, none_then, some_then}
use Rattle.pb_provider.proofs.provider.Provider.read_whole.Goals as goal

pub returns-in_err-read_piece-clause-stays : goal.returns-in_err-read_piece-clause-stays
returns-in_err-read_piece-clause-stays g c told =
    stays_then (g.D.Disk.contents c.args.disk.now) (g.D.Disk.contents c.loop-piece.disk) (g.D.Disk.contents c.read_piece.new.disk)
    (c.loop-piece.invariant.stays told) (c.in_err-read_piece.ensures.stays told)

pub returns-then-len-before-clause-stays : goal.returns-then-len-before-clause-stays
returns-then-len-before-clause-stays g c told =
    stays_then (g.D.Disk.contents c.args.disk.now) (g.D.Disk.contents c.loop-piece.disk) (g.D.Disk.contents c.read_piece.new.disk)
    (c.loop-piece.invariant.stays told) (c.in_ok-read_piece.ensures.stays told)

pub returns-then-len-before-clause-read : goal.returns-then-len-before-clause-read
returns-then-len-before-clause-read g c disk_tells bucket_tells all is =
    let read = c.loop-piece.bytes.items in
    let more = c.read_piece.new.bytes.items in
    let want = length (take c.min-want.result c.loop-piece.piece) in
    let sized : vec_len c.loop-piece.bytes ≡ length read = omega (arith, c.loop-piece.bytes.ok.0) in
    let here = bytes_still (g.D.Disk.contents c.args.disk.now) (g.D.Disk.contents c.loop-piece.disk)
    (g.B.Bucket.objects c.args.bucket.now) (g.B.Bucket.objects c.loop-piece.bucket) c.args.self.now.catalogue.entries c.args.backing all
    (c.loop-piece.invariant.stays disk_tells) (c.loop-piece.invariant.kept bucket_tells) is in
    let piece : more ≡ read ++ take want (drop (length read) all) =
    c.in_ok-read_piece.ensures.read disk_tells bucket_tells all here ∙ ap (λ n. read ++ take want (drop n all)) sized in
    no_more all read more want c.args.size (c.loop-piece.invariant.front disk_tells bucket_tells all is) piece
    (omega (
      arith,
      length-take c.min-want.result c.loop-piece.piece,
      c.min-want.ensures,
      c.len-before.ensures,
      c.len.ensures,
      c.loop-piece-test.true,
      c.loop-piece.auto.piece,
      c.as_mut_slice-piece.ensures.len,
      c.in-Ok.ensures,
      sized,
    ))
    (omega (arith, c.if-len-before.true, c.len-in-loop-piece.ensures, c.len-before.ensures, c.read_piece.new.bytes.ok.0, sized))
    (omega (arith, c.loop-piece.invariant.within, sized))

pub loop-piece-preserved : goal.loop-piece-preserved
loop-piece-preserved g c =
    let read = c.loop-piece.bytes.items in
    let more = c.read_piece.new.bytes.items in
    let want = length (take c.min-want.result c.loop-piece.piece) in
    let sized : vec_len c.loop-piece.bytes ≡ length read = omega (arith, c.loop-piece.bytes.ok.0) in
    let place = object_of c.args.self.now.catalogue.entries c.args.backing in
    record {
      within = omega (
        arith,
        c.in_ok-read_piece.ensures.within,
        length-take c.min-want.result c.loop-piece.piece,
        c.min-want.ensures,
        c.len-before.ensures,
        c.len.ensures,
        c.loop-piece-test.true,
        c.loop-piece.invariant.within,
      );
      front = λ disk_tells bucket_tells all is.
          let here = bytes_still (g.D.Disk.contents c.args.disk.now) (g.D.Disk.contents c.loop-piece.disk)
          (g.B.Bucket.objects c.args.bucket.now) (g.B.Bucket.objects c.loop-piece.bucket) c.args.self.now.catalogue.entries c.args.backing all
          (c.loop-piece.invariant.stays disk_tells) (c.loop-piece.invariant.kept bucket_tells) is in
          let piece : more ≡ read ++ take want (drop (length read) all) =
          c.in_ok-read_piece.ensures.read disk_tells bucket_tells all here ∙ ap (λ n. read ++ take want (drop n all)) sized in
          front_more all read more want (c.loop-piece.invariant.front disk_tells bucket_tells all is) piece;
      local = none_then place c.args.bucket.now c.loop-piece.bucket c.read_piece.new.bucket c.loop-piece.invariant.local c.in_ok-read_piece.ensures.local;
      remote = some_then place c.args.disk.now c.loop-piece.disk c.read_piece.new.disk c.loop-piece.invariant.remote c.in_ok-read_piece.ensures.remote;
      there = λ bucket_tells _. subst (IsThere place) (c.loop-piece.invariant.kept bucket_tells) (c.in_ok-read_piece.ensures.there bucket_tells);
      stays = λ told.
          stays_then (g.D.Disk.contents c.args.disk.now) (g.D.Disk.contents c.loop-piece.disk) (g.D.Disk.contents c.read_piece.new.disk)
          (c.loop-piece.invariant.stays told) (c.in_ok-read_piece.ensures.stays told);
      kept = λ bucket_tells. c.in_ok-read_piece.ensures.kept bucket_tells ∙ c.loop-piece.invariant.kept bucket_tells;
      disk_calm = c.in_ok-read_piece.ensures.disk_cause.calm tt ∙ c.loop-piece.invariant.disk_calm;
      bucket_calm = c.in_ok-read_piece.ensures.bucket_cause.calm tt ∙ c.loop-piece.invariant.bucket_calm;
    }
