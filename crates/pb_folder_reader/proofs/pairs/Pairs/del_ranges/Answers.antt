use Rattle.std.proofs.Common.{ap, ◌∙◌, rules}
use Rattle.std.specs.Prelude.{not}
use Rattle.pb_rows.specs.Applied.{without_all}
use Rattle.pb_rows.specs.Verdict.{is_covered}
use Rattle.pb_folder_reader.proofs.Maps.{retained}
use Rattle.pb_folder_reader.proofs.pairs.Pairs.del_ranges.Goals as goal

pub returns : goal.returns
returns c =
    retained _ (λ key. not (is_covered c.args.spans.now key)) _ (λ k v b w f' t. search rules) _ _ c.retain.ensures.filtered
    ∙ ap (λ m. without_all m c.args.spans.now) c.self.view_is
