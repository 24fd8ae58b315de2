-- Newer rows over older ones rise as these do.
use Rattle.std.proofs.Common.{◌≡◌, ℕ, zero, suc, ◌+◌, List, [], ◌∷◌, get_or, drop, Bool, true, false, cond, refl, sym, ap, ◌∙◌, subst, arith}
use Rattle.std.specs.Prelude.{All, filter, not}
use Rattle.std.proofs.lemmas.List.Elements.{All-cons, All-head, All-tail, All-nil, All-weaker, All-filter}
use Rattle.std.specs.declared.cmp.Ordering.TheVariants.{Less, Equal, Greater}
use Rattle.std.specs.FinMap.Entries.{by_order}
use Rattle.std.specs.Ordering.{ordering_reverse}
use Rattle.pb_keys.specs.Key.{key_cmp}
use Rattle.pb_keys.specs.KeyLaws.{key_cmp_total, key_cmp_exact}
use Rattle.pb_keys.specs.Span.{KeySpan}
use Rattle.pb_rows.specs.Layer.{KeyRow, Rise, IsBelow, IsShortRow}
use Rattle.pb_rows.specs.Over.{with_row, rows_over}
use Rattle.pb_rows.specs.Verdict.{is_covered}
use Rattle.pb_rows.proofs.LookLaws.{rows_rise}

-- each row's key is above this one
abbrev pub Follow : List ℕ → List KeyRow → Type 0
Follow key rows = All (λ row. key_cmp key row.key ≡ Less) rows

-- each later row's key is above each earlier one's
abbrev pub Rising : List KeyRow → Type 0
Rising [] = Unit {0}
Rising (r ∷ rs) = Follow r.key rs × Rising rs

pub rising_from_rise : (rows : List KeyRow) → Rise rows → Rising rows
rising_from_rise [] rise = tt
rising_from_rise (r ∷ rs) rise = (
  λ k d h. rows_rise (r ∷ rs) rise 0 (suc k) d (omega arith) (omega arith),
  rising_from_rise rs (λ k d h.
      let next : suc k + 1 ≡ suc (k + 1) = omega arith in
      subst (λ n. IsBelow (get_or rs k d) (get_or (r ∷ rs) n d)) next (rise (suc k) d (omega arith))),
)

pub rise_from_rising : (rows : List KeyRow) → Rising rows → Rise rows
rise_from_rising [] rising k d h = absurd (omega arith)
rise_from_rising (r ∷ rs) rising zero d h = rising.0 0 d (omega arith)
rise_from_rising (r ∷ rs) rising (suc k) d h =
    let next : suc (k + 1) ≡ suc k + 1 = omega arith in
    subst (λ n. IsBelow (get_or rs k d) (get_or (r ∷ rs) n d)) next (rise_from_rising rs rising.1 k d (omega arith))

pub rising-drop : (n : ℕ) (rows : List KeyRow) → Rising rows → Rising (drop n rows)
rising-drop zero rows rising = rising
rising-drop (suc n) [] rising = tt
rising-drop (suc n) (r ∷ rs) rising = rising-drop n rs rising.1

pub rising-filter : (p : KeyRow → Bool) (rows : List KeyRow) → Rising rows → Rising (filter p rows)
rising-filter p [] rising = tt
rising-filter p (r ∷ rs) rising =
    elim (p r) as (λ b. Rising (cond b (r ∷ filter p rs) (filter p rs))) [
      | true ↦ (All-filter p (λ row. key_cmp r.key row.key ≡ Less) rs rising.0, rising-filter p rs rising.1)
      | false ↦ rising-filter p rs rising.1
    ]

pub chained : (a b : List ℕ) (rows : List KeyRow) → key_cmp a b ≡ Less → Follow b rows → Follow a rows
chained a b rows h follow = All-weaker (λ row. key_cmp b row.key ≡ Less) (λ row. key_cmp a row.key ≡ Less) (λ row k. key_cmp_total.trans a b row.key h k) rows follow

pub all-with_row : (P : KeyRow → Type 0) (row : KeyRow) (rows : List KeyRow) → P row → All P rows → All P (with_row row rows)
all-with_row P row [] h all = All-cons P row [] h all
all-with_row P row (s ∷ ss) h all =
    elim (key_cmp row.key s.key) as (λ o. All P (by_order o (row ∷ s ∷ ss) (row ∷ ss) (s ∷ with_row row ss))) [
      | Less ↦ All-cons P row (s ∷ ss) h all
      | Equal ↦ All-cons P row ss h (All-tail P s ss all)
      | Greater ↦ All-cons P s (with_row row ss) (All-head P s ss all) (all-with_row P row ss h (All-tail P s ss all))
    ]

pub all-rows_over : (P : KeyRow → Type 0) (newer older : List KeyRow) → All P newer → All P older → All P (rows_over newer older)
all-rows_over P [] older new old = old
all-rows_over P (row ∷ newer) older new old =
    all-with_row P row (rows_over newer older) (All-head P row newer new) (all-rows_over P newer older (All-tail P row newer new) old)

pub turned_greater : (a b : List ℕ) → key_cmp a b ≡ Greater → key_cmp b a ≡ Less
turned_greater a b h = key_cmp_total.antisymm b a ∙ ap ordering_reverse h

pub turned_less : (a b : List ℕ) → key_cmp a b ≡ Less → key_cmp b a ≡ Greater
turned_less a b h = key_cmp_total.antisymm b a ∙ ap ordering_reverse h

pub rising-with_row : (row : KeyRow) (rows : List KeyRow) → Rising rows → Rising (with_row row rows)
rising-with_row row [] rising = (All-nil (λ s. key_cmp row.key s.key ≡ Less), tt)
rising-with_row row (s ∷ ss) rising =
    elim (key_cmp row.key s.key) as (λ o. key_cmp row.key s.key ≡ o → Rising (by_order o (row ∷ s ∷ ss) (row ∷ ss) (s ∷ with_row row ss))) [
      | Less ↦ λ e. (All-cons (λ r. key_cmp row.key r.key ≡ Less) s ss e (chained row.key s.key ss e rising.0), rising)
      | Equal ↦ λ e. (subst (λ key. Follow key ss) (sym (key_cmp_exact row.key s.key e)) rising.0, rising.1)
      | Greater ↦ λ e. (all-with_row (λ r. key_cmp s.key r.key ≡ Less) row ss (turned_greater row.key s.key e) rising.0, rising-with_row row ss rising.1)
    ] refl

pub rising-rows_over : (newer older : List KeyRow) → Rising older → Rising (rows_over newer older)
rising-rows_over [] older rising = rising
rising-rows_over (row ∷ newer) older rising = rising-with_row row (rows_over newer older) (rising-rows_over newer older rising)

-- ---- both layers' rows

pub short_rows : (dels : List KeySpan) (newer older : List KeyRow) → All IsShortRow newer → All IsShortRow older → All IsShortRow (rows_over newer (filter (λ row. not (is_covered dels row.key)) older))
short_rows dels newer older new old =
    let bare = λ (row : KeyRow). not (is_covered dels row.key) in
    all-rows_over IsShortRow newer (filter bare older) new (All-filter bare IsShortRow older old)

pub rows_rise_over : (dels : List KeySpan) (newer older : List KeyRow) → Rise older → Rise (rows_over newer (filter (λ row. not (is_covered dels row.key)) older))
rows_rise_over dels newer older rise =
    let bare = λ (row : KeyRow). not (is_covered dels row.key) in
    rise_from_rising (rows_over newer (filter bare older)) (rising-rows_over newer (filter bare older) (rising-filter bare older (rising_from_rise older rise)))
