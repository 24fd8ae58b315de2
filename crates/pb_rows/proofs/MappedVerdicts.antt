-- What a layer seen through a view says: at mapped keys, at others, and within bounds.
use Rattle.std.proofs.Common.{◌≡◌, ◌≢◌, ℕ, List, [], ◌∷◌, ◌++◌, Bool, true, false, cond, refl, sym, ap, ◌∙◌, append_assoc}
use Rattle.std.specs.Prelude.{Some, None, map, All, ◌||◌}
use Rattle.std.specs.Option.{option_or}
use Rattle.std.specs.Ordering.{eq_by_cmp, is_eq}
use Rattle.pb_keys.specs.Order.{bytes_cmp}
use Rattle.pb_keys.specs.Key.{at_sign, key_cmp, prefix_of, suffix_of}
use Rattle.pb_keys.specs.KeyLaws.{parts_of_key}
use Rattle.pb_keys.specs.Span.{KeySpan, holds_key}
use Rattle.pb_keys.specs.View.{KeyView, IsMapping, IsSuffix}
use Rattle.pb_rows.specs.Layer.{KeyRow, KeyLayer}
use Rattle.pb_rows.specs.Verdict.{Verdict, row_verdict, prefix_verdict, is_covered, verdict}
use Rattle.pb_rows.specs.Viewed.{with_suffix, mapped_key, mapped_row, mapped_span, with_bounds, mapped, viewed}
use Rattle.pb_keys.proofs.SpanFacts.{held_from, held_to}
use Rattle.pb_keys.proofs.OrderFacts.{bytes_cmp-behind}
use Rattle.pb_rows.proofs.MappedLaws.{prefix_of-behind, suffix_of-behind, key_cmp-behind, key_cmp-one_suffix, prefix_of-mapped_key, given_suffix, plain_prefix, BeginsSuffix, begins_suffix, prefix_before, suffix_behind, holds-mapped, begins_between}
use Rattle.pb_rows.proofs.RowLaws.{same_key}
use Rattle.pb_rows.proofs.ViewLaws.{verdict-bounded}

-- ---- within bounds

pub verdict-viewed : (view : KeyView) (layer : KeyLayer) (key : List ℕ) → verdict (viewed view layer) key ≡ cond (holds_key view.bounds key) (verdict (mapped view layer) key) None
unfolding viewed
verdict-viewed view layer key = verdict-bounded view.bounds (mapped view layer) key

narrowed : (inner outer : Bool) (found : Verdict) → (inner ≡ true → outer ≡ true) → cond inner found None ≡ cond inner (cond outer found None) None
narrowed true outer found h = ap (λ b. cond b found None) (sym (h refl))
narrowed false outer found h = refl

pub verdict-narrower : (bounds : KeySpan) (view : KeyView) (layer : KeyLayer) (key : List ℕ) → ((k : List ℕ) → holds_key bounds k ≡ true → holds_key view.bounds k ≡ true) → verdict (viewed (with_bounds bounds view) layer) key ≡ cond (holds_key bounds key) (verdict (viewed view layer) key) None
verdict-narrower bounds view layer key narrower =
    verdict-viewed (with_bounds bounds view) layer key
    ∙ narrowed (holds_key bounds key) (holds_key view.bounds key) (verdict (mapped view layer) key) (narrower key)
    ∙ ap (λ found. cond (holds_key bounds key) found None) (sym (verdict-viewed view layer key))

-- ---- deletions

is_covered-mapped : (view : KeyView) (spans : List KeySpan) (key at : List ℕ) → prefix_of at ≡ view.prefix ++ prefix_of key → is_covered (map (mapped_span view) spans) at ≡ is_covered spans key
is_covered-mapped view [] key at is = refl
is_covered-mapped view (s ∷ ss) key at is = λ i. holds-mapped view s key at is i || is_covered-mapped view ss key at is i

-- ---- rows, without a suffix of the view

rows-own : (view : KeyView) (rows : List KeyRow) (key : List ℕ) → IsMapping view → view.suffix ≡ [] → row_verdict (map (mapped_row view) rows) (view.prefix ++ key) ≡ row_verdict rows key
rows-own view [] key is none = refl
rows-own view (row ∷ rows) key is none =
    let test : eq_by_cmp key_cmp (view.prefix ++ key) (mapped_key view row.key) ≡ eq_by_cmp key_cmp key row.key =
    ap (λ s. eq_by_cmp key_cmp (view.prefix ++ key) (view.prefix ++ with_suffix s row.key)) none ∙ ap is_eq (key_cmp-behind view.prefix key row.key is.prefix.plain) in
    λ i. cond (test i) (Some row.value) (rows-own view rows key is none i)

pub verdict-own_suffix : (view : KeyView) (layer : KeyLayer) (key : List ℕ) → IsMapping view → view.suffix ≡ [] → verdict (mapped view layer) (view.prefix ++ key) ≡ verdict layer key
unfolding verdict
verdict-own_suffix view layer key is none =
    λ i. option_or (rows-own view layer.rows key is none i) (cond (is_covered-mapped view layer.dels key (view.prefix ++ key) (prefix_of-behind view.prefix key is.prefix.plain) i) (Some None) None)

-- ---- rows, with a suffix

rows-given : (view : KeyView) (rows : List KeyRow) (p at : List ℕ) → IsMapping view → (view.suffix ≡ [] → ⊥) → prefix_of at ≡ view.prefix ++ p → suffix_of at ≡ view.suffix → row_verdict (map (mapped_row view) rows) at ≡ prefix_verdict rows p
rows-given view [] p at is some prefix suffix = refl
rows-given view (row ∷ rows) p at is some prefix suffix =
    let test : eq_by_cmp key_cmp at (mapped_key view row.key) ≡ eq_by_cmp bytes_cmp p (prefix_of row.key) =
    ap is_eq
    (key_cmp-one_suffix at (mapped_key view row.key) (view.prefix ++ p) (view.prefix ++ prefix_of row.key) view.suffix prefix (prefix_of-mapped_key view row.key is) suffix (given_suffix view row.key is some)
    ∙ bytes_cmp-behind view.prefix p (prefix_of row.key)) in
    λ i. cond (test i) (Some row.value) (rows-given view rows p at is some prefix suffix i)

begins : (suffix : List ℕ) → IsSuffix suffix → (suffix ≡ [] → ⊥) → BeginsSuffix suffix
begins [] is some = absurd (some refl)
begins (b ∷ bs) is some = begins_suffix b bs is

pub verdict-given_suffix : (view : KeyView) (layer : KeyLayer) (p : List ℕ) → IsMapping view → (view.suffix ≡ [] → ⊥) → All (λ b. b ≢ at_sign) p → verdict (mapped view layer) (view.prefix ++ p ++ view.suffix) ≡ option_or (prefix_verdict layer.rows p) (cond (is_covered layer.dels p) (Some None) None)
unfolding verdict
verdict-given_suffix view layer p is some plain =
    let at = view.prefix ++ p ++ view.suffix in
    let whole : at ≡ view.prefix ++ (p ++ view.suffix) = append_assoc view.prefix p view.suffix in
    let begun = begins view.suffix is.suffix some in
    let front : prefix_of at ≡ view.prefix ++ p = ap prefix_of whole ∙ prefix_of-behind view.prefix (p ++ view.suffix) is.prefix.plain ∙ ap (λ r. view.prefix ++ r) (prefix_before p view.suffix plain begun) in
    let back : suffix_of at ≡ view.suffix = ap suffix_of whole ∙ suffix_of-behind view.prefix (p ++ view.suffix) is.prefix.plain ∙ suffix_behind p view.suffix plain begun in
    let own : prefix_of p ≡ p = plain_prefix p plain in
    λ i. option_or (rows-given view layer.rows p at is some front back i) (cond (is_covered-mapped view layer.dels p at (front ∙ ap (λ r. view.prefix ++ r) (sym own)) i) (Some None) None)

-- ---- keys that don't begin with the prefix

rows-elsewhere : (view : KeyView) (rows : List KeyRow) (key : List ℕ) → ((rest : List ℕ) → key ≢ view.prefix ++ rest) → row_verdict (map (mapped_row view) rows) key ≡ None
rows-elsewhere view [] key other = refl
rows-elsewhere view (row ∷ rows) key other =
    elim (eq_by_cmp key_cmp key (mapped_key view row.key)) as (λ t. eq_by_cmp key_cmp key (mapped_key view row.key) ≡ t → cond t (Some row.value) (row_verdict (map (mapped_row view) rows) key) ≡ None) [
      | true ↦ λ e. absurd (other (with_suffix view.suffix row.key) (same_key key (mapped_key view row.key) e))
      | false ↦ λ e. rows-elsewhere view rows key other
    ] refl

spans-elsewhere : (view : KeyView) (spans : List KeySpan) (key : List ℕ) → ((rest : List ℕ) → key ≢ view.prefix ++ rest) → is_covered (map (mapped_span view) spans) key ≡ false
spans-elsewhere view [] key other = refl
spans-elsewhere view (s ∷ ss) key other =
    elim (holds_key (mapped_span view s) key) as (λ b. holds_key (mapped_span view s) key ≡ b → (b || is_covered (map (mapped_span view) ss) key) ≡ false) [
      | true ↦ λ e.
          let found = begins_between view.prefix (prefix_of key) s.lo s.hi (held_from (mapped_span view s) key e) (held_to (mapped_span view s) key e) in
          absurd (other (found.rest ++ suffix_of key) (sym (parts_of_key key) ∙ ap (λ p. p ++ suffix_of key) found.whole ∙ append_assoc view.prefix found.rest (suffix_of key)))
      | false ↦ λ e. spans-elsewhere view ss key other
    ] refl

pub verdict-elsewhere : (view : KeyView) (layer : KeyLayer) (key : List ℕ) → ((rest : List ℕ) → key ≢ view.prefix ++ rest) → verdict (mapped view layer) key ≡ None
unfolding verdict
verdict-elsewhere view layer key other =
    λ i. option_or (rows-elsewhere view layer.rows key other i) (cond (spans-elsewhere view layer.dels key other i) (Some None) None)
