use Rattle.std.proofs.Common.{◌≡◌, true, map, sym, ap, ◌∙◌, subst}
use Rattle.std.specs.List.{All}
use Rattle.pb_keys.specs.Key.{IsKey}
use Rattle.pb_keys.specs.Span.{KeySpan, IsSpan, holds_key}
use Rattle.pb_keys.specs.View.{KeyView}
use Rattle.pb_rows.specs.Viewed.{cut_to, mapped_key, mapped_row, mapped_span}
use Rattle.pb_rows.specs.Layer.{KeyRow}
use Rattle.std.specs.Prelude.{filter}
use Rattle.pb_folder_reader.specs.Shown.{are_own_keys}
use Rattle.pb_keys.proofs.Options.{some_has}
use Rattle.pb_folder_reader.proofs.Views.{maps_within, own_within, viewed_is}
use Rattle.pb_folder_reader.proofs.shown.shown_of.Goals as goal

pub returns-then-not-have_own_keys-clause-none : goal.returns-then-not-have_own_keys-clause-none
returns-then-not-have_own_keys-clause-none c = λ within.
    let view = c.args.view.now in
    let rows = some_has c.in_ok-rows.field-0 (λ mapped. mapped.items ≡ map (mapped_row view) c.rows.result.now) c.in-Some-2.rows c.in-Some-2.is c.in_ok-rows.ensures.some
    ∙ ap (map (mapped_row view)) c.rows.ensures.value in
    let own = own_within view c.args.layer.now c.in-Some-2.rows.items rows within in
    let test = c.if-not-have_own_keys.ensures in
    let same = c.deref.ensures.value in
    let found = ap are_own_keys same in
    cc

pub returns-clause-some : goal.returns-clause-some
returns-clause-some c =
    let view = c.args.view.now in
    let dels = some_has c.in_ok-dels.field-0 (λ mapped. mapped.items ≡ map (mapped_span view) c.dels.result.now) c.in-Some.dels c.in-Some.is c.in_ok-dels.ensures.some
    ∙ ap (map (mapped_span view)) c.dels.ensures.value in
    let rows = some_has c.in_ok-rows.field-0 (λ mapped. mapped.items ≡ map (mapped_row view) c.rows.result.now) c.in-Some-2.rows c.in-Some-2.is c.in_ok-rows.ensures.some
    ∙ ap (map (mapped_row view)) c.rows.ensures.value in
    viewed_is view c.args.layer.now c.in_ok-shown.shown c.in-Some.dels.items c.in-Some-2.rows.items dels rows
    (c.in_ok-shown.ensures.dels ∙ ap (λ (v : KeyView). cut_to v.bounds c.in-Some.dels.items) c.view.view_is)
    (c.in_ok-shown.ensures.rows ∙ ap (λ (v : KeyView). filter (λ (row : KeyRow). holds_key v.bounds row.key) c.in-Some-2.rows.items) c.view.view_is)

pub returns-clause-within : goal.returns-clause-within
returns-clause-within c =
    let view = c.args.view.now in
    let rows = some_has c.in_ok-rows.field-0 (λ mapped. mapped.items ≡ map (mapped_row view) c.rows.result.now) c.in-Some-2.rows c.in-Some-2.is c.in_ok-rows.ensures.some
    ∙ ap (map (mapped_row view)) c.rows.ensures.value in
    let keys = some_has c.in_ok-rows.field-0 (λ mapped. All (λ (row : KeyRow). IsKey (mapped_key view row.key)) c.rows.result.now) c.in-Some-2.rows c.in-Some-2.is c.in_ok-rows.ensures.in_form in
    let ends = some_has c.in_ok-dels.field-0 (λ mapped. All (λ (span : KeySpan). IsSpan (mapped_span view span)) c.dels.result.now) c.in-Some.dels c.in-Some.is c.in_ok-dels.ensures.in_form in
    let own : are_own_keys c.in-Some-2.rows.items ≡ true = ap are_own_keys (sym c.deref.ensures.value) ∙ sym c.if-not-have_own_keys.ensures in
    maps_within view c.args.layer.now c.in-Some-2.rows.items rows
    (subst (All (λ (row : KeyRow). IsKey (mapped_key view row.key))) c.rows.ensures.value keys)
    (subst (All (λ (span : KeySpan). IsSpan (mapped_span view span))) c.dels.ensures.value ends)
    own
