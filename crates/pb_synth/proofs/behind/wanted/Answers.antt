use Rattle.std.proofs.Common.{Some, None, refl, sym, ap, ◌++◌, ◌∙◌}
use Rattle.std.proofs.lemmas.Bool.Decides.{Decides-eqb}
use Rattle.std.proofs.lemmas.Slice.Eq.{strip_prefix_is}
use Rattle.std.specs.Cmp.Lexicographic.{bytes_decides}
use Rattle.pb_synth.proofs.BehindLaws.{stripped, empty, not_empty, some_bytes, prefix_behind, suffix_behind, suffix_given, maps_own, maps_given, mapped_own, mapped_given, none_begins, none_before}
use Rattle.pb_synth.proofs.behind.wanted.Goals as goal

pub returns-in_default-clause-none : goal.returns-in_default-clause-none
returns-in_default-clause-none c =
    let other = strip_prefix_is Decides-eqb c.prefix.result.now c.as_slice.result.now None c.in_default.ensures.cases in
    none_begins c.args.view.now c.args.key.now c.requires (λ rest whole. other rest
    (c.prefix.ensures.value ∙ whole ∙ ap (λ p. p ++ rest) (sym (c.as_slice.ensures ∙ ap (λ v. v.prefix) c.view.view_is))))

pub returns-then-is_empty-clause-none : goal.returns-then-is_empty-clause-none
returns-then-is_empty-clause-none c =
    let rest = strip_prefix_is Decides-eqb c.prefix.result.now c.as_slice.result.now (Some c.in-Some.prefix) c.in-Some.ensures.cases in
    let front = c.as_slice.ensures ∙ ap (λ v. v.prefix) c.view.view_is in
    let has = stripped c.args.view.now c.args.key.now c.in-Some.prefix.now c.as_slice.result.now c.prefix.result.now c.requires c.prefix.ensures.value front rest in
    none_before c.args.view.now c.args.key.now c.in-Some.prefix.now has (empty c.in-Some.prefix.now c.in-Some.prefix.now c.is_empty.result c.is_empty.ensures c.if-is_empty.true refl)

pub returns-then-is_empty-2-clause-found : goal.returns-then-is_empty-2-clause-found
returns-then-is_empty-2-clause-found c =
    let rest = strip_prefix_is Decides-eqb c.prefix.result.now c.as_slice.result.now (Some c.in-Some.prefix) c.in-Some.ensures.cases in
    let front = c.as_slice.ensures ∙ ap (λ v. v.prefix) c.view.view_is in
    let has = stripped c.args.view.now c.args.key.now c.in-Some.prefix.now c.as_slice.result.now c.prefix.result.now c.requires c.prefix.ensures.value front rest in
    let back = c.as_slice-suffix.ensures ∙ ap (λ v. v.suffix) c.view.view_is in
    let none = empty c.as_slice-suffix.result.now c.args.view.now.suffix c.is_empty-2.result c.is_empty-2.ensures c.if-is_empty-2.true back in
    λ k is. (
      λ maps. record {
        prefix = prefix_behind c.args.view.now c.args.key.now c.in-Some.prefix.now k has maps;
        suffix = suffix_behind c.args.view.now c.args.key.now k c.requires none maps ∙ sym c.suffix.ensures;
      },
      λ parts. maps_own c.args.view.now c.args.key.now c.in-Some.prefix.now k has none parts.prefix (parts.suffix ∙ c.suffix.ensures),
    )

pub returns-then-is_empty-2-clause-some : goal.returns-then-is_empty-2-clause-some
returns-then-is_empty-2-clause-some c =
    let rest = strip_prefix_is Decides-eqb c.prefix.result.now c.as_slice.result.now (Some c.in-Some.prefix) c.in-Some.ensures.cases in
    let front = c.as_slice.ensures ∙ ap (λ v. v.prefix) c.view.view_is in
    let has = stripped c.args.view.now c.args.key.now c.in-Some.prefix.now c.as_slice.result.now c.prefix.result.now c.requires c.prefix.ensures.value front rest in
    let back = c.as_slice-suffix.ensures ∙ ap (λ v. v.suffix) c.view.view_is in
    let none = empty c.as_slice-suffix.result.now c.args.view.now.suffix c.is_empty-2.result c.is_empty-2.ensures c.if-is_empty-2.true back in
    mapped_own c.args.view.now c.args.key.now c.in-Some.prefix.now has c.prefix.ensures.in_form (some_bytes c.in-Some.prefix.now c.is_empty.result c.is_empty.ensures c.if-is_empty.false) none

pub returns-then-eq-clause-found : goal.returns-then-eq-clause-found
returns-then-eq-clause-found c =
    let rest = strip_prefix_is Decides-eqb c.prefix.result.now c.as_slice.result.now (Some c.in-Some.prefix) c.in-Some.ensures.cases in
    let front = c.as_slice.ensures ∙ ap (λ v. v.prefix) c.view.view_is in
    let has = stripped c.args.view.now c.args.key.now c.in-Some.prefix.now c.as_slice.result.now c.prefix.result.now c.requires c.prefix.ensures.value front rest in
    let back = c.as_slice-suffix.ensures ∙ ap (λ v. v.suffix) c.view.view_is in
    let some = not_empty c.as_slice-suffix.result.now c.args.view.now.suffix c.is_empty-2.result c.is_empty-2.ensures c.if-is_empty-2.false back in
    let same = sym c.suffix-2.ensures ∙ (bytes_decides c.suffix-2.result.now c.as_slice-suffix.result.now).0 (sym c.eq.ensures ∙ c.if-eq.true) ∙ back in
    λ k is. (
      λ maps. record { prefix = prefix_behind c.args.view.now c.args.key.now c.in-Some.prefix.now k has maps; suffix = tt },
      λ parts. maps_given c.args.view.now c.args.key.now c.in-Some.prefix.now k has some same parts.prefix,
    )

pub returns-then-eq-clause-some : goal.returns-then-eq-clause-some
returns-then-eq-clause-some c =
    let rest = strip_prefix_is Decides-eqb c.prefix.result.now c.as_slice.result.now (Some c.in-Some.prefix) c.in-Some.ensures.cases in
    let front = c.as_slice.ensures ∙ ap (λ v. v.prefix) c.view.view_is in
    let has = stripped c.args.view.now c.args.key.now c.in-Some.prefix.now c.as_slice.result.now c.prefix.result.now c.requires c.prefix.ensures.value front rest in
    let back = c.as_slice-suffix.ensures ∙ ap (λ v. v.suffix) c.view.view_is in
    let some = not_empty c.as_slice-suffix.result.now c.args.view.now.suffix c.is_empty-2.result c.is_empty-2.ensures c.if-is_empty-2.false back in
    let same = sym c.suffix-2.ensures ∙ (bytes_decides c.suffix-2.result.now c.as_slice-suffix.result.now).0 (sym c.eq.ensures ∙ c.if-eq.true) ∙ back in
    mapped_given c.args.view.now c.args.key.now c.in-Some.prefix.now has c.prefix.ensures.in_form (some_bytes c.in-Some.prefix.now c.is_empty.result c.is_empty.ensures c.if-is_empty.false) some same

pub returns-clause-none : goal.returns-clause-none
returns-clause-none c =
    let back = c.as_slice-suffix.ensures ∙ ap (λ v. v.suffix) c.view.view_is in
    let some = not_empty c.as_slice-suffix.result.now c.args.view.now.suffix c.is_empty-2.result c.is_empty-2.ensures c.if-is_empty-2.false back in
    λ mapped.
    let same = c.suffix-2.ensures ∙ suffix_given c.args.view.now c.args.key.now mapped.from c.requires some mapped.is ∙ sym back in
    let test = c.eq.ensures ∙ (bytes_decides c.suffix-2.result.now c.as_slice-suffix.result.now).1 same in
    let other = c.if-eq.false in
    cc
