use Rattle.std.proofs.Common.{ap, ◌∙◌, rules}
use Rattle.std.specs.Prelude.{not}
use Rattle.pb_keys.specs.Map.{without}
use Rattle.pb_keys.specs.Span.{holds_key}
use Rattle.pb_folder_reader.proofs.Maps.{retained}
use Rattle.pb_folder_reader.proofs.pairs.Pairs.del_range.Goals as goal

pub returns : goal.returns
returns c =
    retained _ (λ key. not (holds_key c.args.span.now key)) _ (λ k v b w f' t. search rules) _ _ c.retain.ensures.filtered
    ∙ ap (λ m. without m c.args.span.now) c.self.view_is
