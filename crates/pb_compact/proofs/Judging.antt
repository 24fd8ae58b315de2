-- What it says that a compaction is judged well: each input is there, and no other table of the next level is in the outputs' way.
use Rattle.std.proofs.Common.{◌≡◌, ℕ, ◌+◌, List, [], ◌∷◌, Bool, true, false, refl, ap, sym, ◌∙◌, subst, inl, inr}
use Rattle.std.specs.Prelude.{not, ◌&&◌, if◌then◌else◌, map, filter, Option, Some, None}
use Rattle.std.specs.Option.{option_or}
use Rattle.pb_keys.specs.Span.{KeySpan, overlap}
use Rattle.pb_version.specs.Version.{TableView, VersionView, tables_of_level}
use Rattle.pb_compact.specs.Chosen.{Chosen}
use Rattle.pb_compact.specs.Compacted.{least, is_input, is_missing, is_in_the_way, judged}
use Rattle.pb_compact.proofs.Members.{In, into_filter, into_map, any_of}

none_least : (ns : List ℕ) → least ns ≡ None → ns ≡ []
none_least [] e = refl
none_least (n ∷ ns) e = cc

pub least_of_none : {X : Type 0} (number : X → ℕ) (p : X → Bool) (xs : List X) → ((x : X) → In xs x → p x ≡ false) →
    least (map number (filter p xs)) ≡ None
least_of_none number p [] none = refl
least_of_none number p (x ∷ xs) none =
    ap (λ b. least (map number (if b then x ∷ filter p xs else filter p xs))) (none x (inl refl))
    ∙ least_of_none number p xs (λ y has. none y (inr has))

none_passes : {X : Type 0} (number : X → ℕ) (p : X → Bool) (xs : List X) → least (map number (filter p xs)) ≡ None → (x : X) → In xs x →
    p x ≡ false
none_passes number p xs e x has =
    elim (p x) as (λ b. p x ≡ b → b ≡ false) [
      | true ↦ λ is. absurd (subst (λ ns. In ns (number x)) (none_least (map number (filter p xs)) e)
          (into_map number (filter p xs) x (into_filter p xs x has is)))
      | false ↦ λ _. refl
    ] refl

no_first : {A : Type 0} (a b : Option A) → option_or a b ≡ None → a ≡ None
no_first None b e = refl
no_first (Some x) b e = cc

no_second : {A : Type 0} (a b : Option A) → option_or a b ≡ None → b ≡ None
no_second None b e = e
no_second (Some x) b e = cc

module _ (v : VersionView) (chosen : Chosen) (hulls : List KeySpan) (well : judged v chosen hulls ≡ None) where
  abbrev missing : Option ℕ
  missing = least (map (λ (input : ℕ × TableView). input.1.number) (filter (is_missing v) chosen.inputs))

  abbrev in_the_way : Option ℕ
  in_the_way = least (map (λ (t : TableView). t.number) (filter (is_in_the_way chosen hulls) (tables_of_level v (chosen.level + 1))))

  pub none_missing : (input : ℕ × TableView) → In chosen.inputs input → is_missing v input ≡ false
  none_missing = none_passes (λ (input : ℕ × TableView). input.1.number) (is_missing v) chosen.inputs (no_first missing in_the_way well)

  -- another table of the next level overlaps none of the hulls
  pub out_of_the_way : (t : TableView) → In (tables_of_level v (chosen.level + 1)) t → is_input chosen (chosen.level + 1) t ≡ false →
      (hull : KeySpan) → In hulls hull → overlap t.view.bounds hull ≡ false
  out_of_the_way t has other hull is =
      let none = none_passes (λ (u : TableView). u.number) (is_in_the_way chosen hulls) (tables_of_level v (chosen.level + 1))
      (no_second missing in_the_way well) t has in
      elim (overlap t.view.bounds hull) as (λ b. overlap t.view.bounds hull ≡ b → b ≡ false) [
        | true ↦ λ e.
            let bad : true ≡ false = (λ i. not (sym other i) && sym (any_of (λ (h : KeySpan). overlap t.view.bounds h) hulls hull is e) i)
            ∙ none in cc
        | false ↦ λ _. refl
      ] refl
