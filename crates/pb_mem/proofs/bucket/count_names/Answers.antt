use Rattle.std.proofs.Common.{◌≡◌, count_by, string_bytes, rules, ap, sym, ◌∙◌}
use Rattle.std.specs.BTreeMap.{keys}
use Rattle.pb_devices.specs.Objects.{begins_with}
use Rattle.pb_mem.proofs.NamedLemmas.{keys-by_name, count_by-map}
use Rattle.pb_mem.proofs.bucket.count_names.Goals as goal

pub returns : goal.returns
returns c =
    let counted : c.count.result ≡ count_by (λ k. begins_with c.args.prefix.now (string_bytes k)) (keys c.args.objects.now) = search rules in
    counted ∙ sym (count_by-map string_bytes (begins_with c.args.prefix.now) (keys c.args.objects.now))
    ∙ ap (count_by (begins_with c.args.prefix.now)) (sym (keys-by_name (λ v. v.items) c.args.objects.now.entries c.keys.ensures.ordered))
