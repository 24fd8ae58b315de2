use Rattle.std.proofs.Common.{◌≡◌, sym, ap, ◌∙◌, subst}
use Rattle.pb_keys.specs.Span.{KeySpan}
use Rattle.pb_memtable.specs.Joining.{room_of}
use Rattle.pb_memtable.specs.Search.{IsRow, row_of_change}
use Rattle.pb_memtable.specs.View.{RoomFor, room_for}
use Rattle.pb_memtable.proofs.IndexLaws.{indexed_row, indexed_span}
use Rattle.pb_rows.specs.Over.{with_span}
use Rattle.pb_memtable.proofs.adding.index.Goals as goal

pub returns-in-Set : goal.returns-in-Set
returns-in-Set c =
    let change = c.args.change.now in
    let is_row : IsRow change = subst IsRow (sym c.in-Set.is) tt in
    indexed_row c.args.changes.now c.args.places.now.items c.put_row.new.places.items c.args.dels.now.items change
    c.requires.index is_row c.requires.reserved.short
    (c.put_row.ensures.places change is_row) (c.put_row.ensures.rows change (ap (λ x. (row_of_change x).key) c.in-Set.is))

pub returns-in-Del : goal.returns-in-Del
returns-in-Del c =
    let change = c.args.change.now in
    let is_row : IsRow change = subst IsRow (sym c.in-Del.is) tt in
    indexed_row c.args.changes.now c.args.places.now.items c.put_row-in-Del.new.places.items c.args.dels.now.items change
    c.requires.index is_row c.requires.reserved.short
    (c.put_row-in-Del.ensures.places change is_row) (c.put_row-in-Del.ensures.rows change (ap (λ x. (row_of_change x).key) c.in-Del.is))

one_span_is : (s t : KeySpan) → RoomFor.ForSpan s ≡ RoomFor.ForSpan t → s ≡ t
one_span_is s t e = cc

pub returns-in-Span : goal.returns-in-Span
returns-in-Span c =
    let span = c.in-DelRange.span in
    let ready_is = one_span_is c.in-Span.ready.span span (sym (ap room_of c.in-Span.is) ∙ c.requires.reserved.room
    ∙ ap room_for c.in-DelRange.is) in
    indexed_span c.args.changes.now c.args.places.now.items c.drop_rows.new.places.items c.args.dels.now.items
    c.put_span.new.dels.items c.args.change.now span c.requires.index c.in-DelRange.is
    c.requires.reserved.short c.drop_rows.ensures.span c.drop_rows.ensures.places c.drop_rows.ensures.rows
    (c.put_span.ensures ∙ ap (λ (s : KeySpan). with_span s c.args.dels.now.items) ready_is)
