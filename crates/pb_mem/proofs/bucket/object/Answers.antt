use Rattle.std.proofs.Common.{◌≡◌, ℕ, Option, Some, None, option_map, refl, sym, ap, ◌∙◌}
use Rattle.std.specs.Option.{option_copied}
use Rattle.std.specs.declared.alloc.Global.{Global}
use Rattle.std.specs.Prelude.{Vec}
use denote.Bor.{Bor}
use Rattle.pb_mem.proofs.NamedLemmas.{get-by_name}
use Rattle.pb_mem.proofs.bucket.object.Goals as goal

-- the items behind the reference are those of what it points to
items_behind : (r : Option (Bor (Vec ℕ Global))) → option_map (λ v. v.now.items) r ≡ option_map (λ v. v.items) (option_copied r)
items_behind None = refl
items_behind (Some v) = refl

pub returns : goal.returns
returns c =
    items_behind c.get.result ∙ ap (option_map (λ v. v.items)) c.get.ensures.value
    ∙ sym (get-by_name (λ v. v.items) c.args.objects.now c.args.name.now)
