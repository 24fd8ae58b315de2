use Rattle.std.proofs.Common.{◌≡◌, ◌-◌, ◌++◌, ◌∷◌, [], List, take, sym, ap, ◌∙◌, subst}
use Rattle.std.proofs.lemmas.List.{same_from_push}
use Rattle.pb_keys.specs.Span.{KeySpan}
use Rattle.pb_memtable.proofs.Joins.{joined_all, joins_all}
use Rattle.pb_rows.specs.Layer.{AreApart}
use Rattle.pb_rows.proofs.CommandForms.{one_is_apart}
use Rattle.pb_rows.specs.Over.{union_of}
use Rattle.pb_memtable.proofs.ready.join.Goals as goal

pub unreachable-requires : goal.unreachable-requires
unreachable-requires c =
    let span = c.args.span.now in let touched = c.args.touched.now in
    let one : c.as_slice.result.now ≡ span ∷ [] = c.as_slice.ensures.value ∙ c.in_ok-push.ensures.items ∙ (λ i. c.new-one.ensures.items i ++ c.in_ok-own.ensures.ok i ∷ []) in
    let items : c.in_ok-joined.joined.items ≡ joined_all span touched ∷ [] = c.in_ok-joined.ensures.exact (subst AreApart (sym one) (one_is_apart span)) c.requires.apart
    ∙ ap (λ spans. union_of spans touched) one ∙ joins_all span touched c.requires.touched in
    let rest : c.pop.new.self.items ≡ [] = c.in-None.ensures.rest ∙ ap (λ n. take (n - 1) c.in_ok-joined.joined.items) c.in-None.ensures.cases.0 in
    let none : c.in_ok-joined.joined.items ≡ [] = c.in-None.ensures.items ∙ ap (λ (spans : List KeySpan). spans ++ []) rest in
    cc

pub returns : goal.returns
returns c =
    let span = c.args.span.now in let touched = c.args.touched.now in
    let one : c.as_slice.result.now ≡ span ∷ [] = c.as_slice.ensures.value ∙ c.in_ok-push.ensures.items ∙ (λ i. c.new-one.ensures.items i ++ c.in_ok-own.ensures.ok i ∷ []) in
    let all = joins_all span touched c.requires.touched in
    let items : c.in_ok-joined.joined.items ≡ joined_all span touched ∷ [] = c.in_ok-joined.ensures.exact (subst AreApart (sym one) (one_is_apart span)) c.requires.apart
    ∙ ap (λ spans. union_of spans touched) one ∙ all in
    let last = same_from_push [] c.pop.new.self.items (joined_all span touched) c.in-Some.span (sym items ∙ c.in-Some.ensures.items) in
    record { ok = all ∙ (λ i. last.1 i ∷ []) }
